-- The plan of what the code holds is the plan of the sheet that it is. Assumes nothing.
use Rattle.std.proofs.Common.{◌≡◌, ℕ, zero, suc, ◌<◌, ◌≤◌, false, ltb, List, [], ◌∷◌, map, length, get_or, Ok, vec_items, Result, sym, refl, ap, ◌∙◌, ⊎_elim, arith}
use mathlib.Core.Path.{fun_ext}
use lib.ListN.{length-map}
use Rattle.std.proofs.lemmas.List.{get_or_past, map-id}
use Rattle.std.proofs.lemmas.Simd.{map-map}
use Rattle.std.proofs.lemmas.Bool.{cases_lt, cond-true, cond-false, lt-ltb, le-ltb}
use Rattle.std.specs.List.{slice_get}
use Rattle.element.specs.declared.Line.{Line}
use Rattle.fault.specs.Refusals.{Refusal}
use Rattle.form.specs.Sheets.{most_lines}
use Rattle.entry.specs.declared.Entry.TheVariants.{Known as KnownValue}
use Rattle.entry.specs.Entries.{Known}
use Rattle.entry.specs.Held.{held, sheet}
use Rattle.matroid.specs.Matroids.{Meaning}
use Rattle.survey.specs.States.{listed}
use Rattle.sheet.specs.declared.values.Body.{Body as HeldBody}
use Rattle.sheet.specs.declared.values.ElementLine.{ElementLine}
use Rattle.sheet.specs.Code.{body_of, element_of, record_of}
use Rattle.plan.specs.Meanings.{entry_of}
use Rattle.plan.specs.Names.{mapped_or, name_of}
use Rattle.plan.specs.Texts.{plan_of, rationed}
use Rattle.plan.specs.Plans.{entries_in, line_of, names_in, source_in, tails}

held_get_d : {T : Type 0} (es : List (ElementLine T)) (i : ℕ) {A : Type 0} (tail : T → A) → sheet (map (λ e. e.entry) es) i ≡ get_or (map (λ e. e.0) (map (element_of tail) es)) i (Known 0)
held_get_d [] i tail = refl
held_get_d (e ∷ es) zero tail = refl
held_get_d (e ∷ es) (suc i) tail = held_get_d es i tail

module _ {X Y P T : Type 0} (place : X → P) (tail : Y → T) (b : HeldBody X Y) where
  -- the entries
  entries_link : (n : ℕ) → n ≡ length (vec_items b.elements) → listed n (map (λ e. e.entry) (vec_items b.elements)) ≡ entries_in (body_of place tail b)
  entries_link n e = fun_ext (λ i. ⊎_elim
      (λ (l : i < n). cond-true (ltb i n) (sheet (map (λ e. e.entry) (vec_items b.elements)) i) (Known 0) (lt-ltb i n l) ∙ held_get_d (vec_items b.elements) i tail)
      (λ (l : n ≤ i).
      cond-false (ltb i n) (sheet (map (λ e. e.entry) (vec_items b.elements)) i) (Known 0) (le-ltb i n l) ∙
      (ap held (sym (get_or_past (map (λ e. e.entry) (vec_items b.elements)) i (KnownValue 0) (omega (arith, length-map (vec_items b.elements) (λ e. e.entry))))) ∙ held_get_d (vec_items b.elements) i tail))
      (cases_lt i n))

  -- the recorded prices
  source_link : rationed (vec_items b.recorded) b.allowance ≡ source_in (body_of place tail b)
  source_link = ap (λ (ls : List Line). rationed ls b.allowance) (sym (map-map line_of record_of (vec_items b.recorded) ∙ map-id (vec_items b.recorded)))

  -- what is made of the tails
  pub tails_link : {Z : Type 0} (g : T → Z) → map g (tails (body_of place tail b)) ≡ map (λ (e : ElementLine Y). g (tail e.tail)) (vec_items b.elements)
  tails_link g = ap (map g) (map-map (λ x. x.1) (element_of tail) (vec_items b.elements)) ∙ map-map g (λ (x : ElementLine Y). tail x.tail) (vec_items b.elements)

  named_at : (named : Y → List ℕ) (named' : T → List ℕ) → ((y : Y) → named y ≡ named' (tail y)) → (es : List (ElementLine Y)) (i : ℕ)
      → name_of named es i ≡ mapped_or [] (λ e. named' e.1) (slice_get (map (element_of tail) es) i)
  named_at named named' e [] i = refl
  named_at named named' e (x ∷ es) zero = e x.tail
  named_at named named' e (x ∷ es) (suc i) = named_at named named' e es i

  -- the plan, where a matroid m was made that is told to be the one that is meant if the lines are few enough
  pub body_link : (m made meant : Meaning) (named : Y → List ℕ) (named' : T → List ℕ) → length (map (element_of tail) (vec_items b.elements)) ≤ most_lines
      → (length (vec_items b.elements) ≤ most_lines → false ≡ false → ◌≡◌ {A = Result Meaning Refusal} (Ok m) (Ok made)) → made ≡ meant → made.size ≡ length (vec_items b.elements)
      → ((y : Y) → named y ≡ named' (tail y))
      → plan_of m (listed m.size (map entry_of (vec_items b.elements))) (rationed (vec_items b.recorded) b.allowance) (name_of named (vec_items b.elements))
      ≡ plan_of meant (entries_in (body_of place tail b)) (source_in (body_of place tail b)) (names_in named' (body_of place tail b))
  body_link m made meant named named' few told em en e =
      let same : m ≡ made = cc (told (omega (arith, length-map (vec_items b.elements) (element_of tail))) refl) in
      cc (entries_link m.size (ap (λ (x : Meaning). x.size) same ∙ en), source_link, fun_ext (named_at named named' e (vec_items b.elements)))
