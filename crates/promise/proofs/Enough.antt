-- The prices that a survey knows settle the base that it reports.
use Rattle.std.proofs.Common.{◌≡◌, ℕ, ◌*◌, ◌<◌, true, List, [], ◌∷◌, ◌++◌, Some, sym, ap, ◌∙◌, mul_right_comm}
use native.Mathlib.Nat.{eq_of_mul-eq-mul_right}
use Rattle.matroid.specs.Sets.{Elements}
use Rattle.matroid.specs.Matroids.{Meaning, Laws}
use Rattle.matroid.proofs.Members.{with_here, with_there}
use Rattle.element.specs.declared.Line.{Line}
use Rattle.promise.specs.Weighings.{Weighing, Agrees, Each, Same, Settles}
use Rattle.promise.specs.Surveys.{fresh, report}
use Rattle.promise.specs.Calls.{Call, after, notes, Possible}
use Rattle.promise.specs.Claims.{elements_of}
use Rattle.promise.proofs.Pricing.{each_append, each_parts}
use Rattle.promise.proofs.Reports.{holding, right}
use Rattle.entry.specs.Entries.{Entry, Proper}

-- a weighing with the prices of w for the lines agrees with them
lines_agree : (n : ℕ) (w u : Weighing) (R : Elements) → ((i : ℕ) → i < n → R i ≡ true → Same w u i)
    → (ls : List Line) → ((i : ℕ) → elements_of ls i ≡ true → R i ≡ true) → Each (λ l. l.element < n) ls → Each (Agrees w) ls → Each (Agrees u) ls
lines_agree n w u R same [] h b a = tt
lines_agree n w u R same (l ∷ ls) h b a =
    let e : ℕ = l.element in
    let s = same e b.0 (h e (with_here (elements_of ls) e)) in (
      eq_of_mul-eq-mul_right w.scale w.positive (u.value e) (l.price * u.scale)
          (sym s ∙ ap (λ (x : ℕ). x * u.scale) a.0 ∙ mul_right_comm l.price w.scale u.scale),
      lines_agree n w u R same ls (λ i k. h i (with_there (elements_of ls) e i k)) b.1 a.1,
    )

pub enough : (m : Meaning) (laws : Laws m) (E : ℕ → Entry) → ((i : ℕ) → Proper (E i)) → (cs : List Call) (B : Elements) → report m (after m (fresh E) cs) ≡ Some B
    → (w : Weighing) → Possible m E cs w → Settles m E w (elements_of ((after m (fresh E) cs).ledger ++ notes m (fresh E) cs)) B
enough m laws E proper cs B r w p u f same =
    let L : List Line = (after m (fresh E) cs).ledger in
    let N : List Line = notes m (fresh E) cs in
    let b = (holding m laws E proper cs).tied.below in
    let a = lines_agree m.size w u (elements_of (L ++ N)) same (L ++ N) (λ i k. k)
    (each_append (λ l. l.element < m.size) L N b.0 b.1) (each_append (Agrees w) L N p.ledger p.notes_agree) in
    let c = each_parts (Agrees u) L N a in
    ((right m laws E proper cs).sound B r).1 u (record { fits = f; ledger = c.0; notes_agree = c.1 })
