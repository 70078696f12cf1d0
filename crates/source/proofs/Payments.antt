-- Where every price makes its element free, no element is paid for twice.
use Rattle.std.proofs.Common.{◌≡◌, ℕ, true, false, not, ◌&&◌, eqb, List, [], ◌∷◌, sym, refl, ap, ◌∙◌, inl, inr, arith}
use Rattle.std.proofs.lemmas.Bool.{false≢true, cases_Bool, and_parts, and_left, and_right, cond-true, cond-false, eqb-true, eq-eqb, or_right, not_from_true}
use Rattle.source.specs.Supplies.{Supply, Verdict, refused, given, verdict, left_by, after}
use Rattle.source.specs.Calls.{Call, gives, paid, payments_for, kept_calls, PaysOnce}
use Rattle.source.proofs.Lastings.{free_by}

-- what is free is not paid for
free_unpaid : (σ : Supply) (x e : ℕ) → σ.free e ≡ true → (eqb x e && paid σ x) ≡ false
free_unpaid σ x e h =
    elim (cases_Bool (eqb x e)) [
      | inl is ↦ and_right (eqb x e) (paid σ x) (and_left (not (σ.free x)) (gives (verdict σ x)) (not_from_true (σ.free x) (ap σ.free (eqb-true x e is) ∙ h)))
      | inr isn't ↦ and_left (eqb x e) (paid σ x) isn't
    ]

-- and never will be
never_paid : (e : ℕ) (σ : Supply) (cs : List Call) → σ.free e ≡ true → payments_for e σ cs ≡ 0
never_paid e σ [] h = refl
never_paid e σ (c ∷ cs) h =
    let rest : payments_for e (after σ c.kept c.element) cs ≡ 0
    = never_paid e (after σ c.kept c.element) cs (free_by σ c.kept c.element (verdict σ c.element) e h) in
    let none = cond-false {A = ℕ} (eqb c.element e && paid σ c.element) 1 0 (free_unpaid σ c.element e h) in
    omega arith

-- a price that is kept makes its element free
kept_free : (σ : Supply) (e : ℕ) (v : Verdict) → gives v ≡ true → (left_by v σ true e).free e ≡ true
kept_free σ e (refused c) h = absurd (false≢true h)
kept_free σ e (given p) h = or_right (σ.free e) (eqb e e) (eq-eqb e e refl)

pub pays_once : (σ : Supply) → PaysOnce σ
pays_once σ [] e = omega arith
pays_once σ (x ∷ es) e =
    elim (cases_Bool (eqb x e && paid σ x)) [
      | inl h ↦
          let parts = and_parts (eqb x e) (paid σ x) h in
          let gave = (and_parts (not (σ.free x)) (gives (verdict σ x)) parts.1).1 in
          let free : (after σ true x).free e ≡ true = sym (ap (after σ true x).free (eqb-true x e parts.0)) ∙ kept_free σ x (verdict σ x) gave in
          let rest = never_paid e (after σ true x) (kept_calls es) free in
          let here = cond-true {A = ℕ} (eqb x e && paid σ x) 1 0 h in
          omega arith
      | inr h ↦
          let rest = pays_once (after σ true x) es e in
          let here = cond-false {A = ℕ} (eqb x e && paid σ x) 1 0 h in
          omega arith
    ]
