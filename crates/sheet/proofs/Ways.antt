-- The ways through the sections of a sheet. Assumes nothing.
use Rattle.std.proofs.Common.{◌≡◌, ℕ, zero, suc, ◌-◌, ◌<◌, ◌≤◌, List, [], ◌∷◌, ◌++◌, map, length, get_or, Some, None, Option, sym, refl, ap, ◌∙◌, subst, arith, MatchOption}
use Rattle.std.specs.Borrow.{Bor}
use Rattle.std.specs.List.{HoldsAt, last_or}
use Rattle.std.specs.Slice.{IsGetResult}
use Rattle.std.proofs.lemmas.List.{append_assoc}
use Rattle.form.specs.Sheets.{Element, Recorded, Body, most_lines}
use Rattle.form.specs.Reading.{Tail, counted, element_line, recorded_line, body, Got, got, stop, Step, and_then, done, repeated}
use Rattle.fault.specs.declared.Fault.{Fault}
use Rattle.fault.specs.Refusals.{refusal}
use Rattle.sheet.specs.Readers.{Stops, before_of}

-- ## The lines of a section, one after another

abbrev pub after : {A : Type 0} → List A → Got (List A) → Got (List A)
after xs (got ys r m) = got (xs ++ ys) r m
after xs (stop c m) = stop c m

pub last_push : {A : Type 0} (o : Option A) (xs : List A) (a : A) → last_or o (xs ++ (a ∷ [])) ≡ Some a
last_push o [] a = refl
last_push o (x ∷ xs) a = last_push (Some x) xs a

after_more : {A : Type 0} (xs : List A) (a : A) (g : Got (List A)) → after xs (and_then g (λ ys. done (a ∷ ys))) ≡ after (xs ++ (a ∷ [])) g
after_more xs a (got ys r m) = ap (λ l. got l r m) (sym (append_assoc xs (a ∷ []) ys))
after_more xs a (stop c m) = refl

-- the whole is what was read and what is left to read
pub record Sofar {A : Type 0} (item : Option A → Step A) (g : Got (List A)) (xs : List A) (k : ℕ) (bs : List ℕ) (n : ℕ) : Type 0 where
  pub is : g ≡ after xs (repeated item (last_or None xs) k bs n)

pub sofar_more : {A : Type 0} {item : Option A → Step A} {g : Got (List A)} {xs : List A} {k : ℕ} {bs : List ℕ} {n : ℕ} {a : A} {r : List ℕ} {m : ℕ} → Sofar item g xs (suc k) bs n → item (last_or None xs) bs n ≡ got a r m → Sofar item g (xs ++ (a ∷ [])) k r m
sofar_more {item} {g} {xs} {k} {bs} {n} {a} {r} {m} s e = record {
  is =
      s.is ∙
      (ap (λ x. after xs (and_then x (λ a. λ bs n. and_then (repeated item (Some a) k bs n) (λ ys. done (a ∷ ys))))) e ∙
      (after_more xs a (repeated item (Some a) k r m) ∙ ap (λ o. after (xs ++ (a ∷ [])) (repeated item o k r m)) (sym (last_push None xs a))));
}

-- one more line, as a loop's turn has it
pub sofar_turn : {A : Type 0} {item : Option A → Step A} {g : Got (List A)} {xs ys : List A} {k j : ℕ} {bs : List ℕ} {n : ℕ} {a : A} {r : List ℕ} {m : ℕ} {before : Option A} → Sofar item g xs k bs n → before ≡ last_or None xs → item before bs n ≡ got a r m → k ≡ suc j → ys ≡ xs ++ (a ∷ []) → Sofar item g ys j r m
sofar_turn {A} {item} {g} {xs} {ys} {k} {j} {bs} {n} {a} {r} {m} s b e h p =
    subst (λ (l : List A). Sofar item g l j r m) (sym p)
    (sofar_more (subst (λ (k : ℕ). Sofar item g xs k bs n) h s) (ap (λ o. item o bs n) (sym b) ∙ e))

-- a line that is refused
pub sofar_halt : {A : Type 0} {item : Option A → Step A} {g : Got (List A)} {xs : List A} {k : ℕ} {bs : List ℕ} {n c m : ℕ} {before : Option A} → Sofar item g xs k bs n → before ≡ last_or None xs → item before bs n ≡ stop c m → 0 < k → g ≡ stop c m
sofar_halt {k = zero} s b e h = absurd (omega arith)
sofar_halt {item = item} {xs = xs} {k = suc k} {bs = bs} {n = n} s b e h =
    s.is ∙ ap (λ x. after xs (and_then x (λ a. λ bs n. and_then (repeated item (Some a) k bs n) (λ ys. done (a ∷ ys))))) (ap (λ o. item o bs n) (sym b) ∙ e)

-- what `last` lends is the last
at_last : {X A : Type 0} (value : X → A) (x y : X) (ys : List X) → x ≡ get_or (y ∷ ys) (length ys) x → Some (value x) ≡ last_or None (map value (y ∷ ys))
at_last value x y [] e = ap (λ v. Some (value v)) e
at_last value x y (z ∷ zs) e = at_last value x z zs e

pub last_is : {X A : Type 0} (value : X → A) (xs ys : List X) (r : Option (Bor X)) → ys ≡ xs → IsGetResult ys 0 (length ys - 1) r → before_of value r ≡ last_or None (map value xs)
last_is {X} value xs ys r e i = subst (λ (l : List X). before_of value r ≡ last_or None (map value l)) e (go ys r i.3)
  where
    go : (ys : List X) (r : Option (Bor X)) → MatchOption r (length ys ≤ 0) (λ x. (0 < length ys) × HoldsAt (λ y. x.now ≡ y) ys (length ys - 1)) → before_of value r ≡ last_or None (map value ys)
    go [] None h = refl
    go [] (Some x) h = absurd (omega arith)
    go (y ∷ ys) None h = absurd (omega arith)
    go (y ∷ ys) (Some x) h =
        let k : suc (length ys) - 1 ≡ length ys = omega arith in
        at_last value x.now y ys (h.1 x.now ∙ ap (λ i. get_or (y ∷ ys) i x.now) k)

-- a refusal that is passed on
pub stops_map : {A B : Type 0} (g : Got A) (h : Got B) (f : Fault) → ((c m : ℕ) → g ≡ stop c m → h ≡ stop c m) → Stops g f → Stops h f
stops_map g h f to s = record { with = to (refusal f).number (refusal f).place s.with; flat = s.flat; fed = s.fed }

-- ## The three sections

abbrev after_elements : {P T : Type 0} → ℕ → List P → List (Element T) → Step (Body P T)
after_elements allowance ps es = λ bs n. and_then (counted 0 most_lines (recorded_line (length es)) bs n) (λ rs. done (record { allowance = allowance; places = ps; elements = es; recorded = rs }))

abbrev after_places : {P T : Type 0} → Tail T → ℕ → List P → Step (Body P T)
after_places tail allowance ps = λ bs n. and_then (counted 0 most_lines (λ _. element_line tail (length ps)) bs n) (after_elements allowance ps)

module _ {P T : Type 0} (least most : ℕ) (place : Option P → Step P) (tail : Tail T) (allowance : ℕ) (bs : List ℕ) (n : ℕ) {ps : List P} {r₁ : List ℕ} {m₁ k₁ : ℕ} (e₁ : counted least most place bs n ≡ got ps r₁ m₁) (h₁ : k₁ ≡ length ps) where
  body_first : (o : Got (List (Element T))) → counted 0 most_lines (λ _. element_line tail k₁) r₁ m₁ ≡ o → body least most place tail allowance bs n ≡ and_then o (after_elements allowance ps)
  body_first o e₂ =
      ap (λ x. and_then x (after_places tail allowance)) e₁ ∙
      (ap (λ k. and_then (counted 0 most_lines (λ _. element_line tail k) r₁ m₁) (after_elements allowance ps)) (sym h₁) ∙
      ap (λ x. and_then x (after_elements allowance ps)) e₂)

  pub body_elements : (f : Fault) → Stops (counted 0 most_lines (λ _. element_line tail k₁) r₁ m₁) f → Stops (body least most place tail allowance bs n) f
  body_elements f = stops_map _ _ f (λ c m. body_first (stop c m))

  module _ {es : List (Element T)} {r₂ : List ℕ} {m₂ k₂ : ℕ} (e₂ : counted 0 most_lines (λ _. element_line tail k₁) r₁ m₁ ≡ got es r₂ m₂) (h₂ : k₂ ≡ length es) where
    body_second : (o : Got (List Recorded)) → counted 0 most_lines (recorded_line k₂) r₂ m₂ ≡ o → body least most place tail allowance bs n ≡ and_then o (λ rs. done (record { allowance = allowance; places = ps; elements = es; recorded = rs }))
    body_second o e₃ =
        body_first (got es r₂ m₂) e₂ ∙
        (ap (λ k. and_then (counted 0 most_lines (recorded_line k) r₂ m₂) (λ rs. done (made rs))) (sym h₂) ∙
        ap (λ x. and_then x (λ rs. done (made rs))) e₃)
      where
        made : List Recorded → Body P T
        made rs = record { allowance = allowance; places = ps; elements = es; recorded = rs }

    pub body_records : (f : Fault) → Stops (counted 0 most_lines (recorded_line k₂) r₂ m₂) f → Stops (body least most place tail allowance bs n) f
    body_records f = stops_map _ _ f (λ c m. body_second (stop c m))

    pub body_all : {rs : List Recorded} {r₃ : List ℕ} {m₃ : ℕ} → counted 0 most_lines (recorded_line k₂) r₂ m₂ ≡ got rs r₃ m₃ → body least most place tail allowance bs n ≡ got (record { allowance = allowance; places = ps; elements = es; recorded = rs }) r₃ m₃
    body_all e₃ = body_second _ e₃
