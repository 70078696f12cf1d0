-- Marks that are set, and marks that a loop shows one by one.
use Rattle.std.proofs.Common.{◌≡◌, ℕ, zero, suc, ◌+◌, ◌-◌, ◌<◌, ◌≤◌, min, Bool, true, false, cond, ◌&&◌, ◌||◌, ltb, leb, List, [], ◌∷◌, Option, Some, None, length, get_or, set, position, replicate, sym, refl, ap, ap₂, ◌∙◌, inl, inr, arith, length-set, get_or-set_other, get_or-set_same}
use Rattle.std.proofs.lemmas.List.{same_lists, get_or-replicate, get_or_past, length-replicate}
use Rattle.std.proofs.lemmas.Bool.{cases_eq, cases_lt, lt-leb, lt-ltb, le-ltb, le-leb, eq-eqb, and_from, cond-true, cond-false}
use Rattle.std.proofs.lemmas.List.Quantifiers.{position-Some}
use Rattle.std.proofs.lemmas.List.Sums.{fails_before_first}
use Rattle.std.specs.List.{slice_range, position_or_len}
use Rattle.std.proofs.lemmas.Grind.{common_steps}
use Rattle.element.specs.Marks.{all_marks}
use Rattle.matroid.specs.Sets.{Elements, with, without}
use Rattle.matroid.specs.Questions.{marked, shown_from, shown, lowest_mark, next_mark}
use Rattle.matroid.proofs.Members.{with_other, without_here, without_other, lowest_none, lowest_is}

-- marks that are all unset
pub marked_none : (n i : ℕ) → marked (replicate n false) i ≡ false
marked_none n i = elim (cases_lt i n) [ inl l ↦ get_or-replicate n i false false l | inr l ↦ get_or_past (replicate n false) i false (simp length-replicate l) ]

-- one more mark, or one less
pub marked_set : (marks : List Bool) (e : ℕ) → e < length marks → (i : ℕ) → marked (set marks e true) i ≡ with (marked marks) e i
marked_set marks e l i = elim (cases_eq i e) [
  | inl z ↦ ap (marked (set marks e true)) z ∙ get_or-set_same marks e true false l ∙ ap (λ (b : Bool). b || marked marks i) (sym (eq-eqb i e z))
  | inr z ↦ get_or-set_other marks e i true false z ∙ sym (with_other (marked marks) e i z)
]

pub marked_unset : (marks : List Bool) (e : ℕ) → e < length marks → (i : ℕ) → marked (set marks e false) i ≡ without (marked marks) e i
marked_unset marks e l i = elim (cases_eq i e) [
  | inl z ↦ ap (marked (set marks e false)) z ∙ get_or-set_same marks e false false l ∙ sym (ap (without (marked marks) e) z ∙ without_here (marked marks) e)
  | inr z ↦ get_or-set_other marks e i false false z ∙ sym (without_other (marked marks) e i z)
]

pub length_shown : (k : ℕ) (C : Elements) (xs : List Bool) → length (shown_from k C xs) ≡ length xs
length_shown k C [] = refl
length_shown k C (x ∷ xs) = ap suc (length_shown (suc k) C xs)

shown_at : (k : ℕ) (C : Elements) (xs : List Bool) (i : ℕ) (d : Bool) → i < length xs
    → get_or (shown_from k C xs) i d ≡ cond (ltb (k + i) all_marks) (C (k + i)) (get_or xs i d)
shown_at k C [] i d l = absurd (omega arith)
shown_at k C (x ∷ xs) zero d l = let e : k ≡ k + 0 = omega arith in ap (λ (j : ℕ). cond (ltb j all_marks) (C j) x) e
shown_at k C (x ∷ xs) (suc i) d l =
    let e : suc k + i ≡ k + suc i = omega arith in
    shown_at (suc k) C xs i d (omega arith) ∙ ap (λ (j : ℕ). cond (ltb j all_marks) (C j) (get_or xs i d)) e

-- a mark that stands for an element is as in C
pub shown_here : (C : Elements) (xs : List Bool) (i : ℕ) (d : Bool) → i < length xs → i < all_marks → get_or (shown C xs) i d ≡ C i
shown_here C xs i d l h =
    let z : 0 + i ≡ i = omega arith in
    shown_at 0 C xs i d l ∙ ap (λ (x : ℕ). cond (ltb x all_marks) (C x) (get_or xs i d)) z
    ∙ cond-true (ltb i all_marks) (C i) (get_or xs i d) (lt-ltb i all_marks h)

-- and any other as it was
pub shown_beyond : (C : Elements) (xs : List Bool) (i : ℕ) (d : Bool) → i < length xs → all_marks ≤ i → get_or (shown C xs) i d ≡ get_or xs i d
shown_beyond C xs i d l h =
    shown_at 0 C xs i d l ∙ cond-false (ltb (0 + i) all_marks) (C (0 + i)) (get_or xs i d) (le-ltb (0 + i) all_marks (omega arith))

-- the first k marks are shown
pub record Showing (C : Elements) (old new : List Bool) (k : ℕ) : Type 0 where
  pub done : (j : ℕ) (d : Bool) → j < k → get_or new j d ≡ C j
  pub kept : (j : ℕ) (d : Bool) → k ≤ j → get_or new j d ≡ get_or old j d
  pub as_long : length new ≡ length old

pub showing_more : (C : Elements) (old new : List Bool) (k : ℕ) (b : Bool) → k < length old → Showing C old new k → b ≡ C k → Showing C old (set new k b) (k + 1)
showing_more C old new k b l h q = record {
  done = λ j d m. elim (cases_eq j k) [
    | inl z ↦ ap (λ (x : ℕ). get_or (set new k b) x d) z ∙ get_or-set_same new k b d (let e = h.as_long in omega arith) ∙ q ∙ ap C (sym z)
    | inr z ↦ get_or-set_other new k j b d z ∙ h.done j d (omega arith)
  ];
  kept = λ j d m. get_or-set_other new k j b d (λ z. omega arith) ∙ h.kept j d (omega arith);
  as_long = length-set new k b ∙ h.as_long;
}

-- a mark that is already as in C
pub showing_skip : (C : Elements) (old new : List Bool) (k : ℕ) → Showing C old new k → ((d : Bool) → get_or old k d ≡ C k) → Showing C old new (k + 1)
showing_skip C old new k h q = record {
  done = λ j d m. elim (cases_eq j k) [
    | inl z ↦ ap (λ (x : ℕ). get_or new x d) z ∙ h.kept k d (omega arith) ∙ q d ∙ ap C (sym z)
    | inr z ↦ h.done j d (omega arith)
  ];
  kept = λ j d m. h.kept j d (omega arith);
  as_long = h.as_long;
}

pub showing_all : (C : Elements) (old new : List Bool) (k : ℕ) → k ≡ min (length old) all_marks → Showing C old new k → new ≡ shown C old
showing_all C old new k y h =
    let e = h.as_long in
    same_lists new (shown C old) (h.as_long ∙ sym (length_shown 0 C old)) (λ j d l.
    elim (cases_lt j all_marks) [
      | inl a ↦ h.done j d (omega arith) ∙ sym (shown_here C old j d (omega arith) a)
      | inr a ↦ h.kept j d (omega arith) ∙ sym (shown_beyond C old j d (omega arith) a)
    ])

-- the first mark that a search from 0 on comes to is the next, and where it comes to none there is none
module _ (n : ℕ) (marks : List Bool) (i : ℕ) (before : (k : ℕ) → k < i → (leb n k && marked marks k) ≡ false) where
  pub next_here : i < length marks → n ≤ i → marked marks i ≡ true → Some i ≡ next_mark n marks
  next_here l m h =
      let e = lowest_is (length marks) (λ k. leb n k && marked marks k) i l (and_from (leb n i) (marked marks i) (le-leb n i m) h) before in
      ap Some (sym e) ∙ sym (cond-true {A = Option ℕ} (ltb (lowest_mark n marks) (length marks)) (Some (lowest_mark n marks)) None (lt-ltb (lowest_mark n marks) (length marks) (omega arith)))

  pub next_none : length marks ≤ i → None ≡ next_mark n marks
  next_none l =
      let e = lowest_none (length marks) (λ k. leb n k && marked marks k) (λ k m. before k (omega arith)) in
      sym (cond-false {A = Option ℕ} (ltb (lowest_mark n marks) (length marks)) (Some (lowest_mark n marks)) None (le-ltb (lowest_mark n marks) (length marks) (omega arith)))

-- what the search among the marks from n on tells
module _ (n : ℕ) (marks part : List Bool) (is : part ≡ slice_range marks n (length marks)) (long : length part + n ≡ length marks) where
  part_mark : (k : ℕ) → k < length part → marked part k ≡ marked marks (n + k)
  part_mark k l = grind (arith, common_steps)

  before_part : (i : ℕ) → ((k : ℕ) → k < i → marked part k ≡ false) → i ≤ length part → (k : ℕ) → k < n + i → (leb n k && marked marks k) ≡ false
  before_part i none l k m = elim (cases_lt k n) [
    | inl b ↦ ap (λ (t : Bool). t && marked marks k) (lt-leb n k b)
    | inr b ↦
        let q : n + (k - n) ≡ k = omega arith in
        ap₂ (λ (t u : Bool). t && u) (le-leb n k b) (ap (marked marks) (sym q) ∙ sym (part_mark (k - n) (omega arith)) ∙ none (k - n) (omega arith))
  ]

  pub found_next : (i : ℕ) → Some i ≡ position (λ (m : Bool). m) part → Some (n + i) ≡ next_mark n marks
  found_next i e =
      let (l, here, before) = position-Some (λ (m : Bool). m) part i false (sym e) in
      next_here n marks (n + i) (before_part i before (omega arith)) (omega arith) (omega arith) (sym (part_mark i l) ∙ here)

  pub none_next : None ≡ position (λ (m : Bool). m) part → None ≡ next_mark n marks
  none_next e =
      let past : length part ≤ position_or_len (λ (m : Bool). m) part = grind (arith, common_steps) in
      next_none n marks (n + length part) (before_part (length part) (λ k l. fails_before_first (λ (m : Bool). m) part k false (omega arith)) (omega arith)) (omega arith)
