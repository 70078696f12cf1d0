-- How the bytes of a sheet are checked, line by line: the sheet that they are, or the first refusal. Assumes nothing.
--     checked bs      the sheet, or the refusal with its number and its line
-- A step reads from the bytes that are left, at the number of the line: it gets a value, and the bytes and the line's
-- number after it, or it stops with a refusal's number and the line's. The refusals: 1 the sheet is too long, 2 a line lacks its
-- form or its end or is missing, 3 a count is beyond its limits, 4 low is not below high, 5 a number names nothing,
-- 6 the recorded elements do not rise, 7 bytes follow the third section.
use Rattle.std.specs.Prelude.{ℕ, zero, suc, ◌+◌, ◌-◌, ◌*◌, ◌^◌, Bool, true, false, cond, not, ◌&&◌, List, [], ◌∷◌, length, Some, None, Ok, Err, codes, Option, Result, ◌==◌, nat_le, nat_lt}
use Rattle.std.specs.Str.{all_ascii_digits, bytes_eq}
use Rattle.entry.specs.Entries.{Entry, Known, Range}
use Rattle.fault.specs.Refusals.{Refusal, refused}
use Rattle.form.specs.declared.Kind.{Kind}
use Rattle.form.specs.declared.Kind.TheVariants.{Routes, Lots, Words}
use Rattle.form.specs.declared.Letter.{Letter}
use Rattle.form.specs.declared.Letter.TheVariants.{K, R}
use Rattle.form.specs.Sheets.{Name, Element, Recorded, Body, Sheet, routes, lots, words, is_name, most_bytes, most_lines, most_lamps}

-- what a step comes to
pub data Got (A : Type 0) : Type 0 where
  got : A → List ℕ → ℕ → Got A
  stop : ℕ → ℕ → Got A

-- from the bytes that are left, and the number of their first line
abbrev pub Step : Type 0 → Type 0
Step A = List ℕ → ℕ → Got A

-- what came, handed on
abbrev pub and_then : {A B : Type 0} → Got A → (A → Step B) → Got B
and_then (got a rest m) f = f a rest m
and_then (stop c m) f = stop c m

infixl 20 ◌>>=◌
infixl 20 ◌>>◌
-- one step after another, which sees what the first got
abbrev pub ◌>>=◌ : {A B : Type 0} → Step A → (A → Step B) → Step B
s >>= f = λ bs n. and_then (s bs n) f

-- one step after another
abbrev pub ◌>>◌ : {A B : Type 0} → Step A → Step B → Step B
s >> t = λ bs n. and_then (s bs n) (λ _. t)

-- reads nothing
abbrev pub done : {A : Type 0} → A → Step A
done a bs n = got a bs n

-- stops with the number c, unless b
abbrev pub need : ℕ → Bool → Step (Unit {0})
need c true bs n = got tt bs n
need c false bs n = stop c n

-- on to the next line
abbrev pub one_on : {A : Type 0} → Got A → Got A
one_on (got a rest m) = got a rest (m + 1)
one_on (stop c m) = stop c m

-- what stands on a line, and then the number of the next
abbrev pub line : {A : Type 0} → Step A → Step A
line s bs n = one_on (s bs n)

-- ## Fields

-- with one more byte in front
abbrev pub led : ℕ → Option (List ℕ × List ℕ) → Option (List ℕ × List ℕ)
led b None = None
led b (Some p) = Some (b ∷ p.0, p.1)

-- the bytes before the first byte c, and those after it
abbrev pub cut : ℕ → List ℕ → Option (List ℕ × List ℕ)
cut c [] = None
cut c (b ∷ bs) = cond (b == c) (Some ([], bs)) (led b (cut c bs))

-- what a field holds, or that it lacks its form
abbrev pub formed : {A : Type 0} → Option A → List ℕ → ℕ → Got A
formed (Some a) rest n = got a rest n
formed None rest n = stop 2 n

-- the same of a field that may have no end
abbrev pub taken : {A : Type 0} → (List ℕ → Option A) → Option (List ℕ × List ℕ) → ℕ → Got A
taken read (Some p) n = formed (read p.0) p.1 n
taken read None n = stop 2 n

-- the field that the byte c ends, which `read` takes
abbrev pub field : {A : Type 0} → ℕ → (List ℕ → Option A) → Step A
field c read bs n = taken read (cut c bs) n

-- the byte between fields
abbrev pub space : ℕ
space = 32

-- the byte at a line's end
abbrev pub newline : ℕ
newline = 10

-- ## What a field holds

-- the number that digits write, after the digits that write n
abbrev pub worth : ℕ → List ℕ → ℕ
worth n [] = n
worth n (c ∷ cs) = worth (n * 10 + (c - 48)) cs

-- no leading zero, but 0 itself
abbrev pub plain : List ℕ → Bool
plain [] = false
plain (c ∷ []) = true
plain (c ∷ (d ∷ ds)) = not (c == 48)

-- digits without a leading zero, of a value of at most 4294967295
abbrev pub is_number : List ℕ → Bool
is_number w = all_ascii_digits w && (plain w && nat_lt (worth 0 w) (2 ^ 32))

-- a count, a cap, an allowance, or the number of a place, a lot or an element
abbrev pub number : List ℕ → Option ℕ
number w = cond (is_number w) (Some (worth 0 w)) None

-- a price, or an end of a range
abbrev pub price : List ℕ → Option ℕ
price w = number w

-- a name
abbrev pub name : List ℕ → Option Name
name w = cond (is_name w) (Some w) None

-- with one more bit in front
abbrev pub bit_then : Bool → Option (List Bool) → Option (List Bool)
bit_then b None = None
bit_then b (Some w) = Some (b ∷ w)

-- n letters 0 or 1
abbrev pub word : ℕ → List ℕ → Option (List Bool)
word zero [] = Some []
word zero (b ∷ bs) = None
word (suc n) [] = None
word (suc n) (b ∷ bs) = cond (b == 48) (bit_then false (word n bs)) (cond (b == 49) (bit_then true (word n bs)) None)

-- what the elements are
abbrev pub kind : List ℕ → Option Kind
kind w =
    cond (bytes_eq w (codes "routes")) (Some Routes)
    (cond (bytes_eq w (codes "lots")) (Some Lots) (cond (bytes_eq w (codes "words")) (Some Words) None))

-- the one letter of an entry: k or r
abbrev pub letter : List ℕ → Option Letter
letter [] = None
letter (b ∷ []) = cond (b == 107) (Some K) (cond (b == 114) (Some R) None)
letter (b ∷ (c ∷ cs)) = None

-- ## Lines

-- the first line: the kind and the allowance
abbrev pub heading : Step (Kind × ℕ)
heading = line (field space kind >>= λ k. field newline number >>= λ n. done (k, n))

-- the line with a section's count
abbrev pub count : ℕ → ℕ → Step ℕ
count least most = line (field newline number >>= λ n. need 3 (nat_le least n && nat_le n most) >> done n)

-- a place or a lamp
abbrev pub name_line : Step Name
name_line = line (field newline name)

-- a lot and its cap
abbrev pub lot_line : Step (Name × ℕ)
lot_line = line (field space name >>= λ w. field newline number >>= λ cap. done (w, cap))

-- after the letter: a price, or a low and a high end
abbrev pub prices : Letter → Step Entry
prices K = field space price >>= λ p. done (Known p)
prices R = field space price >>= λ low. field space price >>= λ high. done (Range low high)

-- an entry, whose low may be anywhere yet
abbrev pub entry : Step Entry
entry = field space letter >>= prices

-- the test of a range
abbrev pub low_below_high : Entry → Bool
low_below_high (Known p) = true
low_below_high (Range low high) = nat_lt low high

-- a tail with its test, where the first section has n lines
pub record Tail (T : Type 0) : Type 0 where
  pub fields : ℕ → Step T
  pub names : ℕ → T → Bool

-- two places
abbrev pub route_tail : Tail (ℕ × ℕ)
route_tail = record {
  fields = λ n. field space number >>= λ a. field newline number >>= λ b. done (a, b);
  names = λ n r. nat_lt r.0 n && nat_lt r.1 n;
}

-- one lot
abbrev pub lot_tail : Tail ℕ
lot_tail = record { fields = λ n. field newline number; names = λ n k. nat_lt k n }

-- one bit a lamp: a word of another length lacks its form
abbrev pub word_tail : Tail (List Bool)
word_tail = record { fields = λ n. field newline (word n); names = λ n w. true }

-- what follows the entry e on an element's line: first its form, then the test of e, then what its numbers name
abbrev pub element_rest : {T : Type 0} → Tail T → ℕ → Entry → Step (Element T)
element_rest tail n e = tail.fields n >>= λ t. need 4 (low_below_high e) >> (need 5 (tail.names n t) >> done (e, t))

-- an element
abbrev pub element_line : {T : Type 0} → Tail T → ℕ → Step (Element T)
element_line tail n = line (entry >>= element_rest tail n)

-- the record's element is above that of the record before
abbrev pub rises : Option Recorded → ℕ → Bool
rises None k = true
rises (Some r) k = nat_lt r.0 k

-- a recorded price: first its form, then what its number names, then that the elements rise
abbrev pub recorded_line : ℕ → Option Recorded → Step Recorded
recorded_line n before =
    line (field space number >>= λ k. field newline price >>= λ p. need 5 (nat_lt k n) >> (need 6 (rises before k) >> done (k, p)))

-- ## Sections, and the sheet

-- n lines, each of which may look at the line before
abbrev pub repeated : {A : Type 0} → (Option A → Step A) → Option A → ℕ → Step (List A)
repeated item before zero = done []
repeated item before (suc n) = item before >>= λ a. repeated item (Some a) n >>= λ as'. done (a ∷ as')

-- a section: the line with its count, and its lines
abbrev pub counted : {A : Type 0} → ℕ → ℕ → (Option A → Step A) → Step (List A)
counted least most item = count least most >>= repeated item None

-- the three sections
abbrev pub body : {P T : Type 0} → ℕ → ℕ → (Option P → Step P) → Tail T → ℕ → Step (Body P T)
body least most place tail allowance =
    counted least most place >>= λ ps.
    counted 0 most_lines (λ _. element_line tail (length ps)) >>= λ es.
    counted 0 most_lines (recorded_line (length es)) >>= λ rs.
    done (record { allowance = allowance; places = ps; elements = es; recorded = rs })

-- the three sections of each kind
abbrev pub body_of : Kind → ℕ → Step Sheet
body_of Routes n = body 0 most_lines (λ _. name_line) route_tail n >>= λ b. done (routes b)
body_of Lots n = body 0 most_lines (λ _. lot_line) lot_tail n >>= λ b. done (lots b)
body_of Words n = body 1 most_lamps (λ _. name_line) word_tail n >>= λ b. done (words b)

-- the first line and the three sections
abbrev pub sheet : Step Sheet
sheet = heading >>= λ h. body_of h.0 h.1

-- a sheet with nothing behind it
abbrev pub whole : Got Sheet → Result Sheet Refusal
whole (got s [] n) = Ok s
whole (got s (b ∷ bs) n) = Err (refused 7 n 0)
whole (stop c n) = Err (refused c n 0)

-- the sheet that the bytes are, or why they are none
abbrev pub checked : List ℕ → Result Sheet Refusal
checked bs = cond (nat_le (length bs) most_bytes) (whole (sheet bs 1)) (Err (refused 1 0 0))
