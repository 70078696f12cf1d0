-- The whole sheet: what is accepted is just what is written of a legal sheet. Assumes nothing.
use Rattle.std.proofs.Common.{◌≡◌, ℕ, suc, ◌^◌, ◌<◌, ◌≤◌, Bool, true, false, cond, ltb, leb, List, [], ◌∷◌, ◌++◌, length, Some, None, Ok, Err, codes, decimal, Option, Result, sym, refl, ap, ◌∙◌, subst, arith}
use Rattle.std.specs.List.{AllByRecursion}
use Rattle.std.proofs.lemmas.List.{append_assoc, append-nil}
use Rattle.std.proofs.lemmas.Bool.{and_parts, and_from, leb-true, le-leb, ltb-true, lt-ltb}
use Rattle.fault.specs.Refusals.{Refusal, refused}
use Rattle.entry.specs.Entries.{Entry, Known, Range}
use Rattle.form.specs.Sheets.{Name, Recorded, Body, Sheet, routes, lots, words, spaced, ended, lot_text, route_text, lot_number_text, word_text, element_text, recorded_text, section, written, Number, NameOk, LotOk, EntryOk, RouteOk, LotNumberOk, WordOk, Rising, LegalBody, Within, Legal, most_bytes, most_lines, most_lamps}
use Rattle.form.specs.declared.Kind.{Kind}
use Rattle.form.specs.declared.Kind.TheVariants.{Routes, Lots, Words}
use Rattle.form.specs.Reading.{Got, got, stop, Step, name_line, lot_line, low_below_high, Tail, route_tail, lot_tail, word_tail, rises, body, body_of, sheet, whole, checked}
use Rattle.form.specs.Theorem.{AcceptsTheWritten, ReadsBack, OneSheet, Tells}
use Rattle.form.proofs.Laws.{Law, law_done, law_then, law_like, Chain}
use Rattle.form.proofs.Words.{kind_text}
use Rattle.form.proofs.Lines.{law_heading, law_name, law_lot, EntryForm, RouteForm, law_route, law_lot_number, law_word, ElementForm, law_element, RecordedForm, law_recorded, law_counted}

-- ## A chain of lines that do not look back, and one of records

chain_all : {A : Type 0} (good P : A → Type 0) → ((a : A) → good a → P a) → (o : Option A) (xs : List A) → Chain (λ _. good) o xs → AllByRecursion P xs
chain_all good P to o [] g = tt
chain_all good P to o (x ∷ xs) g = (to x g.0, chain_all good P to (Some x) xs g.1)

all_chain : {A : Type 0} (good P : A → Type 0) → ((a : A) → P a → good a) → (o : Option A) (xs : List A) → AllByRecursion P xs → Chain (λ _. good) o xs
all_chain good P from o [] g = tt
all_chain good P from o (x ∷ xs) g = (from x g.0, all_chain good P from (Some x) xs g.1)

-- the least element that may come after the record before
abbrev least : Option Recorded → ℕ
least None = 0
least (Some r) = suc r.0

rises_to : (o : Option Recorded) (k : ℕ) → rises o k ≡ true → least o ≤ k
rises_to None k e = omega arith
rises_to (Some r) k e = ltb-true r.0 k e

rises_from : (o : Option Recorded) (k : ℕ) → least o ≤ k → rises o k ≡ true
rises_from None k h = refl
rises_from (Some r) k h = lt-ltb r.0 k h

records_to : (n : ℕ) (o : Option Recorded) (rs : List Recorded) → Chain (RecordedForm n) o rs → AllByRecursion (λ r. (r.0 < n) × Number r.1) rs × Rising (least o) rs
records_to n o [] g = (tt, tt)
records_to n o (r ∷ rs) g =
    let h = records_to n (Some r) rs g.1 in
    (((ltb-true r.0 n g.0.1.1.0, g.0.1.0), h.0), (rises_to o r.0 g.0.1.1.1, h.1))

records_from : (n : ℕ) → n ≤ most_lines → (o : Option Recorded) (rs : List Recorded) → AllByRecursion (λ r. (r.0 < n) × Number r.1) rs → Rising (least o) rs → Chain (RecordedForm n) o rs
records_from n small o [] a u = tt
records_from n small o (r ∷ rs) a u =
    let k : r.0 < n = a.0.0 in
    ((omega arith, (a.0.1, (lt-ltb r.0 n k, rises_from o r.0 u.0))), records_from n small (Some r) rs a.1 u.1)

entry_to : (e : Entry) → EntryForm e → low_below_high e ≡ true → EntryOk e
entry_to (Known p) g t = g
entry_to (Range low high) g t = (ltb-true low high t, g.1)

entry_from : (e : Entry) → EntryOk e → EntryForm e × (low_below_high e ≡ true)
entry_from (Known p) g = (g, refl)
entry_from (Range low high) g = let h : low < high = g.0 in let k : high < 2 ^ 32 = g.1 in ((omega arith, g.1), lt-ltb low high g.0)

-- ## A body, over its kind of place and of tail

pub record Shape {P T : Type 0} (PlaceOk : P → Type 0) (TailOk : ℕ → T → Type 0) (placeText : P → List ℕ) (tailText : T → List ℕ) (place : Step P) (tail : Tail T) : Type 1 where
  pub Form : ℕ → T → Type 0
  pub law_place : Law place PlaceOk (λ a rest. placeText a ++ rest)
  pub law_tail : (n : ℕ) → Law (tail.fields n) (Form n) (λ t rest. tailText t ++ rest)
  pub to : (n : ℕ) (t : T) → Form n t → tail.names n t ≡ true → TailOk n t
  pub from : (n : ℕ) → n ≤ most_lines → (t : T) → TailOk n t → Form n t × (tail.names n t ≡ true)

module _ {P T : Type 0} (PlaceOk : P → Type 0) (TailOk : ℕ → T → Type 0) (placeText : P → List ℕ) (tailText : T → List ℕ) (place : Step P) (tail : Tail T) (sh : Shape PlaceOk TailOk placeText tailText place tail) (low high : ℕ) where
  abbrev BodyForm : ℕ → Body P T → Type 0
  BodyForm n b =
      (((low ≤ length b.places) × (length b.places ≤ high)) × Chain (λ _. PlaceOk) None b.places) ×
      ((((0 ≤ length b.elements) × (length b.elements ≤ most_lines)) × Chain (λ _. ElementForm tail sh.Form (length b.places)) None b.elements) ×
      ((((0 ≤ length b.recorded) × (length b.recorded ≤ most_lines)) × Chain (RecordedForm (length b.elements)) None b.recorded) ×
      (b ≡ record { allowance = n; places = b.places; elements = b.elements; recorded = b.recorded })))

  abbrev body_put : Body P T → List ℕ → List ℕ
  body_put b rest = section placeText b.places ++ (section (element_text tailText) b.elements ++ (section recorded_text b.recorded ++ rest))

  law_body : high ≤ most_lines → (n : ℕ) → Law (body low high (λ _. place) tail n) (BodyForm n) body_put
  law_body small n =
      law_then (law_counted low high (omega arith) (λ _. place) (λ _. PlaceOk) placeText (λ _. sh.law_place))
      (λ ps.
      law_then (law_counted 0 most_lines (omega arith) _ (λ _. ElementForm tail sh.Form (length ps)) (element_text tailText) (λ _. law_element tail sh.Form tailText sh.law_tail (length ps)))
      (λ es.
      law_then (law_counted 0 most_lines (omega arith) _ (RecordedForm (length es)) recorded_text (law_recorded (length es)))
      (λ rs. law_done {A = Body P T} (record { allowance = n; places = ps; elements = es; recorded = rs }))
      (λ b. b.recorded) (λ rs b g. ap (λ (b : Body P T). b.recorded) g))
      (λ b. b.elements) (λ es b g. ap (λ (b : Body P T). b.elements) g.1))
      (λ b. b.places) (λ ps b g. ap (λ (b : Body P T). b.places) g.1.1)

  body_to : (n : ℕ) (b : Body P T) → Number n → BodyForm n b → LegalBody PlaceOk low high TailOk b
  body_to n b num g = record {
    allowance = subst (λ (k : ℕ). Number k) (sym (ap (λ (b : Body P T). b.allowance) g.1.1.1)) num;
    at_least = g.0.0.0;
    at_most = g.0.0.1;
    places = chain_all PlaceOk PlaceOk (λ a h. h) None b.places g.0.1;
    elements_most = g.1.0.0.1;
    elements = chain_all (ElementForm tail sh.Form (length b.places)) _ (λ e h. (entry_to e.0 h.0 h.1.1.0, sh.to (length b.places) e.1 h.1.0 h.1.1.1)) None b.elements g.1.0.1;
    recorded_most = g.1.1.0.0.1;
    recorded = (records_to (length b.elements) None b.recorded g.1.1.0.1).0;
    rising = (records_to (length b.elements) None b.recorded g.1.1.0.1).1;
  }

  body_from : high ≤ most_lines → (b : Body P T) → LegalBody PlaceOk low high TailOk b → BodyForm b.allowance b
  body_from small b l = (
    ((l.at_least, l.at_most), all_chain PlaceOk PlaceOk (λ a h. h) None b.places l.places),
    (
      ((omega arith, l.elements_most), all_chain (ElementForm tail sh.Form (length b.places)) _ (λ e h. let i = entry_from e.0 h.0 in let k : length b.places ≤ most_lines = omega (arith, l.at_most) in let j = sh.from (length b.places) k e.1 h.1 in (i.0, (j.0, (i.1, j.1)))) None b.elements l.elements),
      (
        ((omega arith, l.recorded_most), records_from (length b.elements) l.elements_most None b.recorded l.recorded l.rising),
        refl,
      ),
    ),
  )

-- ## The three kinds

shape_routes : Shape NameOk RouteOk ended route_text name_line route_tail
shape_routes = record {
  Form = λ _. RouteForm;
  law_place = law_name;
  law_tail = law_route;
  to = λ n r f t. let h = and_parts (ltb r.0 n) (ltb r.1 n) t in (ltb-true r.0 n h.0, ltb-true r.1 n h.1);
  from = λ n small r h.
      let i : r.0 < n = h.0 in
      let j : r.1 < n = h.1 in
      ((omega arith, omega arith), and_from (ltb r.0 n) (ltb r.1 n) (lt-ltb r.0 n i) (lt-ltb r.1 n j));
}

shape_lots : Shape LotOk LotNumberOk lot_text lot_number_text lot_line lot_tail
shape_lots = record {
  Form = λ _. Number;
  law_place = law_lot;
  law_tail = law_lot_number;
  to = λ n k f t. ltb-true k n t;
  from = λ n small k h. (omega arith, lt-ltb k n h);
}

shape_words : Shape NameOk WordOk ended word_text name_line word_tail
shape_words = record { Form = WordOk; law_place = law_name; law_tail = law_word; to = λ n w f t. f; from = λ n small w h. (h, refl) }

abbrev kind_of : Sheet → Kind
kind_of (routes b) = Routes
kind_of (lots b) = Lots
kind_of (words b) = Words

abbrev allowance_of : Sheet → ℕ
allowance_of (routes b) = b.allowance
allowance_of (lots b) = b.allowance
allowance_of (words b) = b.allowance

abbrev none : {P T : Type 0} → Body P T
none = record { allowance = 0; places = []; elements = []; recorded = [] }

abbrev routes_in : Sheet → Body Name (ℕ × ℕ)
routes_in (routes b) = b
routes_in (lots b) = none
routes_in (words b) = none

abbrev lots_in : Sheet → Body (Name × ℕ) ℕ
lots_in (routes b) = none
lots_in (lots b) = b
lots_in (words b) = none

abbrev words_of : Sheet → Body Name (List Bool)
words_of (routes b) = none
words_of (lots b) = none
words_of (words b) = b

abbrev SheetForm : Kind → ℕ → Sheet → Type 0
SheetForm Routes n s = BodyForm NameOk RouteOk ended route_text name_line route_tail shape_routes 0 most_lines n (routes_in s) × (s ≡ routes (routes_in s))
SheetForm Lots n s = BodyForm LotOk LotNumberOk lot_text lot_number_text lot_line lot_tail shape_lots 0 most_lines n (lots_in s) × (s ≡ lots (lots_in s))
SheetForm Words n s = BodyForm NameOk WordOk ended word_text name_line word_tail shape_words 1 most_lamps n (words_of s) × (s ≡ words (words_of s))

abbrev sheet_put : Kind → Sheet → List ℕ → List ℕ
sheet_put Routes s rest = body_put NameOk RouteOk ended route_text name_line route_tail shape_routes 0 most_lines (routes_in s) rest
sheet_put Lots s rest = body_put LotOk LotNumberOk lot_text lot_number_text lot_line lot_tail shape_lots 0 most_lines (lots_in s) rest
sheet_put Words s rest = body_put NameOk WordOk ended word_text name_line word_tail shape_words 1 most_lamps (words_of s) rest

law_body_of : (k : Kind) (n : ℕ) → Law (body_of k n) (SheetForm k n) (sheet_put k)
law_body_of Routes n =
    law_then (law_body NameOk RouteOk ended route_text name_line route_tail shape_routes 0 most_lines (omega arith) n) (λ b. law_done (routes b)) routes_in (λ b s g. ap routes_in g)
law_body_of Lots n =
    law_then (law_body LotOk LotNumberOk lot_text lot_number_text lot_line lot_tail shape_lots 0 most_lines (omega arith) n) (λ b. law_done (lots b)) lots_in (λ b s g. ap lots_in g)
law_body_of Words n =
    law_then (law_body NameOk WordOk ended word_text name_line word_tail shape_words 1 most_lamps (omega arith) n) (λ b. law_done (words b)) words_of (λ b s g. ap words_of g)

-- the heading of the sheet is that of its body
heads : (k : Kind) (n : ℕ) (s : Sheet) → SheetForm k n s → ◌≡◌ {A = Kind × ℕ} (kind_of s, allowance_of s) (k, n)
heads Routes n s g =
    let p : allowance_of s ≡ n = ap allowance_of g.1 ∙ ap (λ (b : Body Name (ℕ × ℕ)). b.allowance) g.0.1.1.1 in
    let q : kind_of s ≡ Routes = ap kind_of g.1 in
    cc
heads Lots n s g =
    let p : allowance_of s ≡ n = ap allowance_of g.1 ∙ ap (λ (b : Body (Name × ℕ) ℕ). b.allowance) g.0.1.1.1 in
    let q : kind_of s ≡ Lots = ap kind_of g.1 in
    cc
heads Words n s g =
    let p : allowance_of s ≡ n = ap allowance_of g.1 ∙ ap (λ (b : Body Name (List Bool)). b.allowance) g.0.1.1.1 in
    let q : kind_of s ≡ Words = ap kind_of g.1 in
    cc

sheet_to : (s : Sheet) → Number (allowance_of s) → SheetForm (kind_of s) (allowance_of s) s → Within s
sheet_to (routes b) num g = body_to NameOk RouteOk ended route_text name_line route_tail shape_routes 0 most_lines b.allowance b num g.0
sheet_to (lots b) num g = body_to LotOk LotNumberOk lot_text lot_number_text lot_line lot_tail shape_lots 0 most_lines b.allowance b num g.0
sheet_to (words b) num g = body_to NameOk WordOk ended word_text name_line word_tail shape_words 1 most_lamps b.allowance b num g.0

sheet_from : (s : Sheet) → Within s → Number (allowance_of s) × SheetForm (kind_of s) (allowance_of s) s
sheet_from (routes b) l = (l.allowance, (body_from NameOk RouteOk ended route_text name_line route_tail shape_routes 0 most_lines (omega arith) b l, refl))
sheet_from (lots b) l = (l.allowance, (body_from LotOk LotNumberOk lot_text lot_number_text lot_line lot_tail shape_lots 0 most_lines (omega arith) b l, refl))
sheet_from (words b) l = (l.allowance, (body_from NameOk WordOk ended word_text name_line word_tail shape_words 1 most_lamps (omega arith) b l, refl))

regroup : (a b c d e rest : List ℕ) → (a ++ (b ++ (c ++ (d ++ e)))) ++ rest ≡ (a ++ b) ++ (c ++ (d ++ (e ++ rest)))
regroup a b c d e rest = simp append_assoc

sheet_put_lem : (s : Sheet) (rest : List ℕ) → written s ++ rest ≡ (spaced (kind_text (kind_of s)) ++ ended (decimal (allowance_of s))) ++ sheet_put (kind_of s) s rest
sheet_put_lem (routes b) rest = regroup (spaced (codes "routes")) (ended (decimal b.allowance)) (section ended b.places) (section (element_text route_text) b.elements) (section recorded_text b.recorded) rest
sheet_put_lem (lots b) rest = regroup (spaced (codes "lots")) (ended (decimal b.allowance)) (section lot_text b.places) (section (element_text lot_number_text) b.elements) (section recorded_text b.recorded) rest
sheet_put_lem (words b) rest = regroup (spaced (codes "words")) (ended (decimal b.allowance)) (section ended b.places) (section (element_text word_text) b.elements) (section recorded_text b.recorded) rest

pub law_sheet : Law sheet Within (λ s rest. written s ++ rest)
law_sheet =
    law_like Within (λ s rest. written s ++ rest)
    (law_then law_heading (λ h. law_body_of h.0 h.1) (λ s. (kind_of s, allowance_of s)) (λ h s g. heads h.0 h.1 s g))
    (λ s g. sheet_to s g.0 g.1) (λ s g. sheet_from s g) (λ s g rest. sheet_put_lem s rest)

-- ## What is accepted

whole_got : (g : Got Sheet) (s : Sheet) → whole g ≡ Ok s → (m : ℕ) × (g ≡ got s [] m)
whole_got (got t [] n) s e = (n, cc)
whole_got (got t (b ∷ bs) n) s e = let z : ◌≡◌ {A = ℕ} 0 1 = cc in absurd (omega arith)
whole_got (stop c n) s e = let z : ◌≡◌ {A = ℕ} 0 1 = cc in absurd (omega arith)

short_got : (t : Bool) (g : Result Sheet Refusal) (s : Sheet) → cond t g (Err (refused 1 0 0)) ≡ Ok s → (t ≡ true) × (g ≡ Ok s)
short_got true g s e = (refl, e)
short_got false g s e = let z : ◌≡◌ {A = ℕ} 0 1 = cc in absurd (omega arith)

accepted_to : (bs : List ℕ) (s : Sheet) → checked bs ≡ Ok s → Legal s × (written s ≡ bs)
accepted_to bs s e =
    let h = short_got (leb (length bs) most_bytes) (whole (sheet bs 1)) s e in
    let g = whole_got (sheet bs 1) s h.1 in
    let l = law_sheet.sound bs 1 s [] g.0 g.1 in
    let w : written s ≡ bs = sym (append-nil (written s)) ∙ l.1 in
    let n : length bs ≤ most_bytes = leb-true (length bs) most_bytes h.0 in
    ((l.0, subst (λ (v : List ℕ). length v ≤ most_bytes) (sym w) n), w)

pub reads_back : ReadsBack
reads_back s l =
    let c = law_sheet.complete s l.0 [] 1 in
    let r : sheet (written s) 1 ≡ got s [] c.0 = subst (λ (v : List ℕ). sheet v 1 ≡ got s [] c.0) (append-nil (written s)) c.1 in
    ap (λ t. cond t (whole (sheet (written s) 1)) (Err (refused 1 0 0))) (le-leb (length (written s)) most_bytes l.1) ∙ ap whole r

pub accepts_the_written : AcceptsTheWritten
accepts_the_written bs s = (accepted_to bs s, λ h. subst (λ (v : List ℕ). checked v ≡ Ok s) h.1 (reads_back s h.0))

pub one_sheet : OneSheet
one_sheet s t l k e =
    let p = reads_back s l in
    let q = reads_back t k in
    let r : checked (written s) ≡ checked (written t) = ap checked e in
    cc

apart : (s : Sheet) (f : Refusal) → ◌≡◌ {A = Result Sheet Refusal} (Ok s) (Err f) → ⊥
apart s f e = let z : ◌≡◌ {A = ℕ} 0 1 = cc in omega arith

tells_of : (r : Result Sheet Refusal) (bs : List ℕ) → checked bs ≡ r → Tells r bs
tells_of (Ok s) bs h = (accepts_the_written bs s).0 h
tells_of (Err f) bs h = λ s l w. apart s f (sym ((accepts_the_written bs s).1 (l, w)) ∙ h)

-- an answer that is that of `checked` tells what it should
pub tells : (r : Result Sheet Refusal) (bs : List ℕ) → r ≡ checked bs → Tells r bs
tells r bs h = tells_of r bs (sym h)
