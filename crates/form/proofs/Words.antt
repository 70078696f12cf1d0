-- What a field holds, and what is written of it: numbers, names, words, the kind and the letter. Assumes nothing.
use Rattle.std.proofs.Common.{◌≡◌, ℕ, zero, suc, ◌^◌, ◌<◌, ◌≤◌, Bool, true, false, cond, not, ◌&&◌, eqb, ltb, leb, ◌⊎◌, List, [], ◌∷◌, map, length, get_or, Some, None, codes, decimal, Option, sym, refl, ap, ◌∙◌, subst, inl, inr, arith, rules}
use Rattle.std.specs.Char.{is_ascii_digit}
use Rattle.std.specs.List.{AllByRecursion}
use Rattle.std.specs.Str.{all_ascii_digits, bytes_eq}
use Rattle.std.proofs.lemmas.Fmt.{decimal-digits_value, decimal_digit, digits_decimal, digits_value-decimal, decimal_nonempty, first_decimal}
use Rattle.std.proofs.lemmas.Slice.Eq.{bytes_eq-Decides}
use Rattle.std.proofs.lemmas.Str.Parse.{IsNumeralModel, numerals_by_fold, tells_all_ascii_digits}
use Rattle.std.proofs.lemmas.Bool.{and_parts, and_from, leb-true, or_cases, ltb-true, lt-ltb, eqb-true, ne_eqb, eq-eqb, eqb-false, not-true, not_from_false, false≢true}
use Rattle.form.specs.Sheets.{Number, NameOk, is_name, name_byte, each, bit_letter, WordOk, price_text}
use Rattle.form.specs.declared.Kind.{Kind}
use Rattle.form.specs.declared.Kind.TheVariants.{Routes, Lots, Words}
use Rattle.form.specs.declared.Letter.{Letter}
use Rattle.form.specs.declared.Letter.TheVariants.{K, R}
use Rattle.form.specs.Reading.{worth, plain, is_number, number, price, name, bit_then, word, kind, letter}
use Rattle.form.proofs.Laws.{Word}

some_if : {A : Type 0} (t : Bool) (x a : A) → cond t (Some x) None ≡ Some a → (t ≡ true) × (x ≡ a)
some_if true x a e = (refl, cc)
some_if false x a e = let z : ◌≡◌ {A = ℕ} 0 1 = cc in absurd (omega arith)

-- ## Numbers

pub own : IsNumeralModel (λ ds. all_ascii_digits ds ≡ true) (worth 0)
own = numerals_by_fold _ tells_all_ascii_digits worth (search rules)

plain_parts : (w : List ℕ) → plain w ≡ true → (0 < length w) × (get_or w 0 0 ≡ 48 → length w ≡ 1)
plain_parts [] e = absurd (false≢true e)
plain_parts (c ∷ []) e = (omega arith, λ _. refl)
plain_parts (c ∷ (d ∷ ds)) e = (omega arith, λ q. absurd (eqb-false c 48 (not-true (eqb c 48) e) q))

pub plain_from : (w : List ℕ) → 0 < length w → (get_or w 0 0 ≡ 48 → length w ≡ 1) → plain w ≡ true
plain_from [] l z = absurd (omega arith)
plain_from (c ∷ []) l z = refl
plain_from (c ∷ (d ∷ ds)) l z = not_from_false (eqb c 48) (ne_eqb c 48 (λ q. let k : suc (suc (length ds)) ≡ 1 = z q in omega arith))

-- a zero that more digits follow
pub plain_not : (w : List ℕ) → get_or w 0 0 ≡ 48 → 1 < length w → plain w ≡ false
plain_not [] z l = absurd (omega arith)
plain_not (c ∷ []) z l = absurd (omega arith)
plain_not (c ∷ (d ∷ ds)) z l = ap not (eq-eqb c 48 z)

high_digits : (w : List ℕ) → all_ascii_digits w ≡ true → AllByRecursion (λ b. 48 ≤ b) w
high_digits [] e = tt
high_digits (c ∷ cs) e =
    let h = and_parts (is_ascii_digit c) (all_ascii_digits cs) e in
    (leb-true 48 c (and_parts (leb 48 c) (leb c 57) h.0).0, high_digits cs h.1)

lead_decimal : (n : ℕ) → n < 2 ^ 64 → (n ≡ 0) ⊎ (0 < n) → get_or (decimal n) 0 0 ≡ 48 → length (decimal n) ≡ 1
lead_decimal n h (inl z) e = ap length (decimal_digit n (omega arith))
lead_decimal n h (inr p) e = absurd (omega (arith, first_decimal n p h))

zero_or : (n : ℕ) → (n ≡ 0) ⊎ (0 < n)
zero_or zero = inl refl
zero_or (suc n) = inr (omega arith)

pub word_number : Word number Number decimal
word_number = record {
  sound = λ w a e.
      let h = some_if (is_number w) (worth 0 w) a e in
      let p = and_parts (all_ascii_digits w) (plain w && ltb (worth 0 w) (2 ^ 32)) h.0 in
      let q = and_parts (plain w) (ltb (worth 0 w) (2 ^ 32)) p.1 in
      let r = plain_parts w q.0 in
      let s : worth 0 w < 2 ^ 32 = ltb-true (worth 0 w) (2 ^ 32) q.1 in
      (subst (λ (k : ℕ). k < 2 ^ 32) h.1 s, ap decimal (sym h.1) ∙ decimal-digits_value own w p.0 r.0 r.1 (omega arith));
  complete = λ n g.
      let b : n < 2 ^ 64 = omega arith in
      let v : worth 0 (decimal n) ≡ n = digits_value-decimal own n b in
      let t : is_number (decimal n) ≡ true =
      and_from (all_ascii_digits (decimal n)) _ (digits_decimal own n b)
      (and_from (plain (decimal n)) _ (plain_from (decimal n) (decimal_nonempty n b) (lead_decimal n b (zero_or n)))
      (lt-ltb (worth 0 (decimal n)) (2 ^ 32) (omega (arith, v)))) in
      ap (λ t. cond t (Some (worth 0 (decimal n))) None) t ∙ ap (λ k. Some k) v;
  high = λ n g. high_digits (decimal n) (digits_decimal own n (omega arith));
}

pub word_price : Word price Number price_text
word_price = word_number

-- ## Names and words

high_byte : (b : ℕ) → name_byte b ≡ true → 48 ≤ b
high_byte b e =
    elim (or_cases (leb 97 b && leb b 122) (leb 48 b && leb b 57) e) [
      | inl h ↦ omega (arith, leb-true 97 b (and_parts (leb 97 b) (leb b 122) h).0)
      | inr h ↦ leb-true 48 b (and_parts (leb 48 b) (leb b 57) h).0
    ]

high_name : (w : List ℕ) → each name_byte w ≡ true → AllByRecursion (λ b. 48 ≤ b) w
high_name [] e = tt
high_name (b ∷ bs) e = let h = and_parts (name_byte b) (each name_byte bs) e in (high_byte b h.0, high_name bs h.1)

pub word_name : Word name NameOk (λ w. w)
word_name = record {
  sound = λ w a e.
      let h = some_if (is_name w) w a e in
      (subst (λ (v : List ℕ). is_name v ≡ true) h.1 h.0, sym h.1);
  complete = λ w g. ap (λ t. cond t (Some w) None) g;
  high = λ w g.
      let h = and_parts (leb 1 (length w)) (leb (length w) 12 && each name_byte w) g in
      high_name w (and_parts (leb (length w) 12) (each name_byte w) h.1).1;
}

then_bit_letter : (b : Bool) (o : Option (List Bool)) (a : List Bool) → bit_then b o ≡ Some a → (w : List Bool) × (o ≡ Some w) × (a ≡ b ∷ w)
then_bit_letter b None a e = let z : ◌≡◌ {A = ℕ} 0 1 = cc in absurd (omega arith)
then_bit_letter b (Some w) a e = (w, refl, cc)

bits_at : (c : ℕ) (bs : List ℕ) (n : ℕ) (s t : Bool) → eqb c 48 ≡ s → eqb c 49 ≡ t → ((a : List Bool) → word n bs ≡ Some a → (length a ≡ n) × (map bit_letter a ≡ bs)) → (a : List Bool) → cond s (bit_then false (word n bs)) (cond t (bit_then true (word n bs)) None) ≡ Some a → (length a ≡ suc n) × (map bit_letter a ≡ c ∷ bs)
bits_at c bs n true t p q ih a e =
    let i = then_bit_letter false (word n bs) a e in
    let h = ih i.0 i.1 in
    let k : c ≡ 48 = eqb-true c 48 p in
    (ap length i.2 ∙ ap suc h.0, ap (map bit_letter) i.2 ∙ (ap (λ r. 48 ∷ r) h.1 ∙ ap (λ x. x ∷ bs) (sym k)))
bits_at c bs n false true p q ih a e =
    let i = then_bit_letter true (word n bs) a e in
    let h = ih i.0 i.1 in
    let k : c ≡ 49 = eqb-true c 49 q in
    (ap length i.2 ∙ ap suc h.0, ap (map bit_letter) i.2 ∙ (ap (λ r. 49 ∷ r) h.1 ∙ ap (λ x. x ∷ bs) (sym k)))
bits_at c bs n false false p q ih a e = let z : ◌≡◌ {A = ℕ} 0 1 = cc in absurd (omega arith)

bits_sound : (n : ℕ) (bs : List ℕ) (a : List Bool) → word n bs ≡ Some a → (length a ≡ n) × (map bit_letter a ≡ bs)
bits_sound zero [] a e = let p : a ≡ [] = cc in (ap length p, ap (map bit_letter) p)
bits_sound zero (b ∷ bs) a e = let z : ◌≡◌ {A = ℕ} 0 1 = cc in absurd (omega arith)
bits_sound (suc n) [] a e = let z : ◌≡◌ {A = ℕ} 0 1 = cc in absurd (omega arith)
bits_sound (suc n) (c ∷ bs) a e = bits_at c bs n (eqb c 48) (eqb c 49) refl refl (bits_sound n bs) a e

bits_complete : (a : List Bool) → word (length a) (map bit_letter a) ≡ Some a
bits_complete [] = refl
bits_complete (true ∷ a) = ap (bit_then true) (bits_complete a)
bits_complete (false ∷ a) = ap (bit_then false) (bits_complete a)

high_bits : (a : List Bool) → AllByRecursion (λ b. 48 ≤ b) (map bit_letter a)
high_bits [] = tt
high_bits (true ∷ a) = (omega arith, high_bits a)
high_bits (false ∷ a) = (omega arith, high_bits a)

pub word_word : (n : ℕ) → Word (word n) (WordOk n) (map bit_letter)
word_word n = record {
  sound = bits_sound n;
  complete = λ a g. subst (λ (k : ℕ). word k (map bit_letter a) ≡ Some a) g (bits_complete a);
  high = λ a g. high_bits a;
}

-- ## The kind and the letter

abbrev pub kind_text : Kind → List ℕ
kind_text Routes = codes "routes"
kind_text Lots = codes "lots"
kind_text Words = codes "words"

kind_by : (w : List ℕ) (r s t : Bool) → bytes_eq w (codes "routes") ≡ r → bytes_eq w (codes "lots") ≡ s → bytes_eq w (codes "words") ≡ t → (a : Kind) → cond r (Some Routes) (cond s (Some Lots) (cond t (Some Words) None)) ≡ Some a → kind_text a ≡ w
kind_by w true s t p q u a e = let k : Routes ≡ a = cc in ap kind_text (sym k) ∙ sym ((bytes_eq-Decides w (codes "routes")).0 p)
kind_by w false true t p q u a e = let k : Lots ≡ a = cc in ap kind_text (sym k) ∙ sym ((bytes_eq-Decides w (codes "lots")).0 q)
kind_by w false false true p q u a e = let k : Words ≡ a = cc in ap kind_text (sym k) ∙ sym ((bytes_eq-Decides w (codes "words")).0 u)
kind_by w false false false p q u a e = let z : ◌≡◌ {A = ℕ} 0 1 = cc in absurd (omega arith)

pub word_kind : Word kind (λ _. Unit {0}) kind_text
word_kind = record {
  sound = λ w a e. (tt, kind_by w (bytes_eq w (codes "routes")) (bytes_eq w (codes "lots")) (bytes_eq w (codes "words")) refl refl refl a e);
  complete = λ a g. read a;
  high = λ a g. tall a;
}
  where
    read : (a : Kind) → kind (kind_text a) ≡ Some a
    read Routes = refl
    read Lots = refl
    read Words = refl

    tall : (a : Kind) → AllByRecursion (λ b. 48 ≤ b) (kind_text a)
    tall Routes = (omega arith, (omega arith, (omega arith, (omega arith, (omega arith, (omega arith, tt))))))
    tall Lots = (omega arith, (omega arith, (omega arith, (omega arith, tt))))
    tall Words = (omega arith, (omega arith, (omega arith, (omega arith, (omega arith, tt)))))

abbrev pub letter_text : Letter → List ℕ
letter_text K = codes "k"
letter_text R = codes "r"

letter_by : (b : ℕ) (r s : Bool) → eqb b 107 ≡ r → eqb b 114 ≡ s → (a : Letter) → cond r (Some K) (cond s (Some R) None) ≡ Some a → letter_text a ≡ b ∷ []
letter_by b true s p q a e = let k : K ≡ a = cc in ap letter_text (sym k) ∙ ap (λ x. x ∷ []) (sym (eqb-true b 107 p))
letter_by b false true p q a e = let k : R ≡ a = cc in ap letter_text (sym k) ∙ ap (λ x. x ∷ []) (sym (eqb-true b 114 q))
letter_by b false false p q a e = let z : ◌≡◌ {A = ℕ} 0 1 = cc in absurd (omega arith)

letter_text_lem : (w : List ℕ) (a : Letter) → letter w ≡ Some a → letter_text a ≡ w
letter_text_lem [] a e = let z : ◌≡◌ {A = ℕ} 0 1 = cc in absurd (omega arith)
letter_text_lem (b ∷ []) a e = letter_by b (eqb b 107) (eqb b 114) refl refl a e
letter_text_lem (b ∷ (c ∷ cs)) a e = let z : ◌≡◌ {A = ℕ} 0 1 = cc in absurd (omega arith)

pub word_letter : Word letter (λ _. Unit {0}) letter_text
word_letter = record {
  sound = λ w a e. (tt, letter_text_lem w a e);
  complete = λ a g. read a;
  high = λ a g. tall a;
}
  where
    read : (a : Letter) → letter (letter_text a) ≡ Some a
    read K = refl
    read R = refl

    tall : (a : Letter) → AllByRecursion (λ b. 48 ≤ b) (letter_text a)
    tall K = (omega arith, tt)
    tall R = (omega arith, tt)
