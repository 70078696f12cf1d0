-- What a loop over the bytes has found, in the words of the form. Assumes nothing.
use Rattle.std.proofs.Common.{◌≡◌, ℕ, zero, suc, ◌+◌, ◌-◌, ◌*◌, ◌^◌, ◌<◌, ◌≤◌, Bool, true, false, cond, ◌&&◌, ◌||◌, eqb, List, [], ◌∷◌, length, get_or, take, drop, Some, None, Option, sym, refl, ap, ◌∙◌, inl, inr, arith}
use Rattle.std.specs.Bool.{then_some}
use Rattle.std.specs.List.{list_all, position, position_from}
use Rattle.std.proofs.lemmas.List.Quantifiers.{position-Some}
use Rattle.std.proofs.lemmas.Iterator.Adapters.{position_from-zero}
use Rattle.std.specs.Str.{all_ascii_digits}
use Rattle.std.proofs.lemmas.List.{at_drop_more}
use Rattle.std.proofs.lemmas.Bool.{cases_Bool, eqb-true, eqb-false, and_right, le-ltb}
use Rattle.form.specs.Sheets.{each}
use Rattle.form.specs.Reading.{cut, led, worth, plain, is_number, number, word, bit_then}
use Rattle.sheet.specs.Code.{ones, is_bit, is_word, valued}

-- ## A field's end

first_cut : (c : ℕ) (bs : List ℕ) (i : ℕ) → i < length bs → eqb (get_or bs i 0) c ≡ true → ((k : ℕ) → k < i → eqb (get_or bs k 0) c ≡ false) → cut c bs ≡ Some (take i bs, drop (suc i) bs)
first_cut c [] i h e f = absurd (omega arith)
first_cut c (b ∷ bs) zero h e f = ap (λ t. cond t (Some ([], bs)) (led b (cut c bs))) e
first_cut c (b ∷ bs) (suc i) h e f =
    ap (λ t. cond t (Some ([], bs)) (led b (cut c bs))) (f 0 (omega arith)) ∙ ap (led b) (first_cut c bs i (omega arith) e (λ k l. f (suc k) (omega arith)))

pub cut_found : (c : ℕ) (bs : List ℕ) (i : ℕ) → position (λ b. eqb b c) bs ≡ Some i → cut c bs ≡ Some (take i bs, drop (suc i) bs)
cut_found c bs i e =
    let p = position-Some (λ b. eqb b c) bs i 0 e in
    first_cut c bs i p.0 p.1 p.2

none_from : (c i : ℕ) (bs : List ℕ) → position_from (λ b. eqb b c) i bs ≡ None → cut c bs ≡ None
none_from c i [] h = refl
none_from c i (b ∷ bs) h = by (eqb b c) h (none_from c (i + 1) bs)
  where
    by : (t : Bool) → cond t (Some i) (position_from (λ b. eqb b c) (i + 1) bs) ≡ None → (position_from (λ b. eqb b c) (i + 1) bs ≡ None → cut c bs ≡ None) → cond t (Some ([], bs)) (led b (cut c bs)) ≡ None
    by true h f = absurd cc
    by false h f = ap (led b) (f h)

pub cut_none : (c : ℕ) (bs : List ℕ) → position (λ b. eqb b c) bs ≡ None → cut c bs ≡ None
cut_none c bs e = none_from c 0 bs (sym (position_from-zero (λ b. eqb b c) bs) ∙ e)

-- ## A number's digits

worth_ge : (n : ℕ) (w : List ℕ) → n ≤ worth n w
worth_ge n [] = omega arith
worth_ge n (c ∷ cs) = omega (arith, worth_ge (n * 10 + (c - 48)) cs)

number_not : (w : List ℕ) → is_number w ≡ false → None ≡ number w
number_not w e = sym (ap (λ t. cond t (Some (worth 0 w)) None) e)

-- the loop has read i digits, which write v; the first of several is no zero
pub record Read (w : List ℕ) (i v : ℕ) : Type 0 where
  pub digits : all_ascii_digits (drop i w) ≡ all_ascii_digits w
  pub value : worth v (drop i w) ≡ worth 0 w
  pub first : i ≡ 1 → v + 48 ≡ get_or w 0 0
  pub more : 1 < i → (0 < v) × (get_or w 0 0 ≡ 48 → ⊥)

too_big : (w : List ℕ) → 2 ^ 32 ≤ worth 0 w → None ≡ number w
too_big w h = number_not w (and_right (all_ascii_digits w) _ (and_right (plain w) _ (le-ltb (worth 0 w) (2 ^ 32) h)))

pub not_small : (w : List ℕ) (i v : ℕ) → Read w i v → i < length w → 429496730 ≤ v → None ≡ number w
not_small w i v r l h =
    too_big w (omega (arith, worth_ge (v * 10 + (get_or w i 0 - 48)) (drop (i + 1) w), sym (at_drop_more (worth v) w i 0 l) ∙ r.value))

-- ## A test of each byte

pub each_is : (test : ℕ → Bool) (w : List ℕ) → list_all test w ≡ each test w
each_is test [] = refl
each_is test (b ∷ bs) = ap (λ t. test b && t) (each_is test bs)

-- a value that stands where the test passes
pub valued_then : {X A : Type 0} (value : X → A) (b : Bool) (x : X) → valued value (then_some b x) ≡ cond b (Some (value x)) None
valued_then value true x = refl
valued_then value false x = refl

-- ## A word's letters

-- what `word` answers at as many letters as there are lamps
word_by : (w : List ℕ) → word (length w) w ≡ cond (each is_bit w) (Some (ones w)) None
word_by [] = refl
word_by (b ∷ bs) = by_letter (eqb b 48) (eqb b 49) (each is_bit bs) (word (length bs) bs) (ones bs) (word_by bs) (λ p q. absurd (two b p q))
  where
    two : (b : ℕ) → eqb b 48 ≡ true → eqb b 49 ≡ true → ⊥
    two b p q = omega (arith, eqb-true b 48 p, eqb-true b 49 q)

    by_letter : (s t u : Bool) (o : Option (List Bool)) (l : List Bool) → o ≡ cond u (Some l) None → (s ≡ true → t ≡ true → ⊥) → cond s (bit_then false o) (cond t (bit_then true o) None) ≡ cond ((s || t) && u) (Some (t ∷ l)) None
    by_letter true true u o l e h = absurd (h refl refl)
    by_letter true false true o l e h = ap (bit_then false) e
    by_letter true false false o l e h = ap (bit_then false) e
    by_letter false true true o l e h = ap (bit_then true) e
    by_letter false true false o l e h = ap (bit_then true) e
    by_letter false false u o l e h = refl

word_length : (n : ℕ) (w : List ℕ) → (length w ≡ n → ⊥) → word n w ≡ None
word_length zero [] h = absurd (h refl)
word_length zero (b ∷ bs) h = refl
word_length (suc n) [] h = refl
word_length (suc n) (b ∷ bs) h =
    let e = word_length n bs (λ p. h (ap suc p)) in
    none_by (eqb b 48) (eqb b 49) (word n bs) e
  where
    none_by : (s t : Bool) (o : Option (List Bool)) → o ≡ None → cond s (bit_then false o) (cond t (bit_then true o) None) ≡ None
    none_by true t o e = ap (bit_then false) e
    none_by false true o e = ap (bit_then true) e
    none_by false false o e = refl

-- the letters are the word that they write, or none
pub word_is : (n : ℕ) (w : List ℕ) → word n w ≡ cond (is_word n w) (Some (ones w)) None
word_is n w = elim (cases_Bool (eqb (length w) n)) [
  | inl h ↦
      let l : length w ≡ n = eqb-true (length w) n h in
      ap (λ n. word n w) (sym l) ∙ (word_by w ∙ ap (λ t. cond (t && each is_bit w) (Some (ones w)) None) (sym h))
  | inr h ↦ word_length n w (eqb-false (length w) n h) ∙ ap (λ t. cond (t && each is_bit w) (Some (ones w)) None) (sym h)
]
