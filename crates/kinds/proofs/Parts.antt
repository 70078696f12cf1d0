-- `any_part` finds a set that passes the test, and misses none.
use Rattle.std.proofs.Common.{◌≡◌, ℕ, zero, suc, ◌<◌, ◌≤◌, Bool, true, false, ◌&&◌, sym, ap, ◌∙◌, inl, inr, arith}
use mathlib.Core.Path.{fun_ext}
use Rattle.std.proofs.lemmas.Bool.{cases_eq, cases_Bool, lt-ltb, le-ltb, or_cases, or_left, or_right}
use Rattle.matroid.specs.Sets.{Elements, nothing, with, without, cut}
use Rattle.kinds.specs.Kinds.{any_part}
use Rattle.matroid.proofs.Members.{with_here, with_other, without_here, without_other}

pub any_found : (n : ℕ) (p : Elements → Bool) → any_part n p ≡ true → (P : Elements) × (p P ≡ true)
any_found zero p h = (nothing, h)
any_found (suc n) p h =
    elim (or_cases (any_part n p) (any_part n (λ S. p (with S n))) h) [
      | inl e ↦ any_found n p e
      | inr e ↦ let (P, f) = any_found n (λ S. p (with S n)) e in (with P n, f)
    ]

-- a set without a member is that set, with it again
with_without : (S : Elements) (e : ℕ) → S e ≡ true → with (without S e) e ≡ S
with_without S e h =
    fun_ext (λ i. elim (cases_eq i e) [
      | inl z ↦ ap (with (without S e) e) z ∙ with_here (without S e) e ∙ sym h ∙ ap S (sym z)
      | inr z ↦ with_other (without S e) e i z ∙ without_other S e i z
    ])

pub any_hit : (n : ℕ) (p : Elements → Bool) (P : Elements) → ((i : ℕ) → n ≤ i → P i ≡ false) → p P ≡ true → any_part n p ≡ true
any_hit zero p P out h = let e : P ≡ nothing = fun_ext (λ i. out i (omega arith)) in ap p (sym e) ∙ h
any_hit (suc n) p P out h =
    elim (cases_Bool (P n)) [
      | inl e ↦
          or_right (any_part n p) _
          (any_hit n (λ S. p (with S n)) (without P n)
          (λ i l. elim (cases_eq i n) [
            | inl z ↦ ap (without P n) z ∙ without_here P n
            | inr z ↦ without_other P n i z ∙ out i (omega arith)
          ])
          (ap p (with_without P n e) ∙ h))
      | inr e ↦
          or_left (any_part n p) _
          (any_hit n p P (λ i l. elim (cases_eq i n) [ inl z ↦ ap P z ∙ e | inr z ↦ out i (omega arith) ]) h)
    ]

pub cut_below : (n : ℕ) (S : Elements) (i : ℕ) → i < n → cut n S i ≡ S i
cut_below n S i l = ap (λ (b : Bool). b && S i) (lt-ltb i n l)

pub cut_above : (n : ℕ) (S : Elements) (i : ℕ) → n ≤ i → cut n S i ≡ false
cut_above n S i l = ap (λ (b : Bool). b && S i) (le-ltb i n l)
