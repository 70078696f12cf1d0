-- One text after another. Assumes nothing.
use Rattle.std.proofs.Common.{◌≡◌, ℕ, ◌+◌, Bool, true, false, cond, List, ◌++◌, length, Ok, Err, vec_items, vec_len, Result, Vec, sym, refl, ap, ◌∙◌, subst, inl, inr, arith, length-append}
use Rattle.std.specs.declared.alloc.Global.{Global}
use Rattle.std.proofs.lemmas.List.{append_assoc}
use Rattle.std.proofs.lemmas.Bool.{cases_Bool, eq-eqb, false≢true}
use Rattle.fault.specs.declared.Fault.{Fault}
use Rattle.fault.specs.Refusals.{Refusal, refusal, refused, starved, told}
use Rattle.writer.specs.declared.values.Writer.{Writer}
use Rattle.writer.specs.Written.{Blank, Wrote, finished, full}

-- the same text in other words
pub wrote_as : {old new : Writer} {s t : List ℕ} → s ≡ t → Wrote old s new → Wrote old t new
wrote_as {old} {new} e w = subst (λ (t : List ℕ). Wrote old t new) e w

len_after : (old mid : Writer) (s : List ℕ) → vec_items mid.bytes ≡ vec_items old.bytes ++ s → vec_len mid.bytes ≡ vec_len old.bytes + length s
len_after old mid s e =
    omega (arith, old.bytes.ok.0, mid.bytes.ok.0, ap length e, length-append (vec_items old.bytes) s)

-- one text, and then another
pub wrote_both : {old mid new : Writer} {s t : List ℕ} → Wrote old s mid → Wrote mid t new → Wrote old (s ++ t) new
wrote_both {old} {mid} {new} {s} {t} a b = record {
  kept = λ e.
      let k = b.kept e in
      let j = a.kept k.0 in
      (j.0, k.1 ∙ (ap (λ x. x ++ t) j.1 ∙ append_assoc (vec_items old.bytes) s t));
  lacked = λ e f.
      let l = length-append s t in
      elim (cases_Bool (full mid)) [
        | inl h ↦ omega (arith, a.lacked h f, l)
        | inr h ↦ omega (arith, b.lacked e h, len_after old mid s (a.kept h).1, a.room, l)
      ];
  room = omega (arith, a.room, b.room);
}

-- ## The whole text

no_memory : {X A : Type 0} (value : X → A) (r : Result X Fault) → told value r ≡ Err (refused 0 0 0) → starved r ≡ true
no_memory value (Ok x) e = let z : ◌≡◌ {A = ℕ} 0 1 = cc in absurd (omega arith)
no_memory value (Err f) e =
    let n : refusal f ≡ refused 0 0 0 = cc in
    eq-eqb (refusal f).number 0 (ap (λ (x : Refusal). x.number) n)

-- what is finished is what was written
pub written_out : {old new : Writer} {room : ℕ} {t : List ℕ} (r : Result (Vec ℕ Global) Fault) → Blank room old → Wrote old t new → told vec_items r ≡ finished new → starved r ≡ false → told vec_items r ≡ Ok t
written_out {old} {new} {room} {t} r b w e s = by (full new) refl e
  where
    by : (lost : Bool) → full new ≡ lost → told vec_items r ≡ cond lost (Err (refused 0 0 0)) (Ok (vec_items new.bytes)) → told vec_items r ≡ Ok t
    by true h e = absurd (false≢true (sym s ∙ no_memory vec_items r e))
    by false h e = e ∙ ap (λ (x : List ℕ). Ok x) ((w.kept h).1 ∙ ap (λ x. x ++ t) b.bytes)
