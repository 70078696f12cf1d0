-- A price in the tables. Assumes nothing.
use Rattle.std.proofs.Common.{◌≡◌, ℕ, zero, suc, ◌+◌, ◌<◌, ◌≤◌, Bool, true, false, cond, List, [], ◌∷◌, length, set, Some, Ok, Option, sym, refl, subst, arith}
use Rattle.std.proofs.lemmas.Bool.{cond-false, false≢true}
use Rattle.entry.specs.declared.Entry.{Entry as Value}
use Rattle.entry.specs.declared.Entry.TheVariants.{Known as KnownValue}
use Rattle.entry.specs.Entries.{Entry, Known, Range, known, inside}
use Rattle.entry.specs.Held.{held, sheet}
use Rattle.promise.specs.Surveys.{Outcome, Source, State, after_price, line, outside, paid, paid_for, priced, tried}
use Rattle.promise.specs.Replies.{step_reply}
use Rattle.source.specs.Supplies.{Verdict, refused, given}
use Rattle.element.specs.declared.Line.{Line}
use Rattle.survey.specs.Knowns.{knowns}

inside_unknown : (x : Entry) (p : ℕ) → inside x p ≡ true → known x ≡ false
inside_unknown (Known q) p h = absurd (false≢true h)
inside_unknown (Range l u) p h = refl

abbrev tally : Bool → ℕ
tally t = cond t 1 0

tally_small : (t : Bool) → tally t ≤ 1
tally_small true = omega arith
tally_small false = omega arith

pub knowns_most : (es : List Value) → knowns es ≤ length es
knowns_most [] = omega arith
knowns_most (x ∷ xs) = omega (arith, knowns_most xs, tally_small (known (held x)))

pub knowns_less : (es : List Value) (e : ℕ) → e < length es → known (sheet es e) ≡ false → knowns es < length es
knowns_less [] e l h = absurd (omega arith)
knowns_less (x ∷ xs) zero l h =
    let z : tally (known (held x)) ≡ 0 = cond-false {A = ℕ} (known (held x)) 1 0 h in omega (arith, knowns_most xs)
knowns_less (x ∷ xs) (suc e) l h = omega (arith, knowns_less xs e (omega arith) h, tally_small (known (held x)))

pub knowns_set : (es : List Value) (e p : ℕ) → e < length es → known (sheet es e) ≡ false → knowns (set es e (KnownValue p)) ≡ knowns es + 1
knowns_set [] e p l h = absurd (omega arith)
knowns_set (x ∷ xs) zero p l h =
    let z : tally (known (held x)) ≡ 0 = cond-false {A = ℕ} (known (held x)) 1 0 h in omega arith
knowns_set (x ∷ xs) (suc e) p l h = omega (arith, knowns_set xs e p (omega arith) h)

-- there is room for one more line, and each line still stands for a known entry
module _ (es : List Value) (u e p : ℕ) (r : u ≤ knowns es) (l : e < length es) (h : inside (sheet es e) p ≡ true) where
  pub room_left : u < length es
  room_left = omega (arith, knowns_less es e l (inside_unknown (sheet es e) p h))

  pub room_kept : u + 1 ≤ knowns (set es e (KnownValue p))
  room_kept = omega (arith, knowns_set es e p l (inside_unknown (sheet es e) p h))

-- ## A price call that pays

pub record Pays (s t : State) (e p : ℕ) : Type 0 where
  pub inside : inside (s.entries e) p ≡ true
  pub entries : t.entries ≡ priced s.entries e p

module _ (s : State) (σ : Source) (e : ℕ) (q : Option ℕ) (depth : ℕ) (origin : ℕ → ℕ) (l : Line) where
  abbrev by_place : ℕ → Bool → Outcome
  by_place p b = cond b (record { answer = paid e p; survey = paid_for s e p q; source = after_price σ e }) (record { answer = outside e; survey = s; source = after_price σ e })

  place_pays : (p : ℕ) (b : Bool) → inside (s.entries e) p ≡ b → Ok (Some l) ≡ step_reply depth origin (by_place p b).answer → Pays s (by_place p b).survey e l.price
  place_pays p true i h =
      let same : l ≡ line e p = cc in
      subst (λ (k : Line). Pays s (paid_for s e p q) e k.price) (sym same) (record { inside = i; entries = refl })
  place_pays p false i h = let z : ◌≡◌ {A = ℕ} 0 1 = cc in absurd (omega arith)

  pub paid_pays : (v : Verdict) → Ok (Some l) ≡ step_reply depth origin (tried s σ e q v).answer → Pays s (tried s σ e q v).survey e l.price
  paid_pays (refused c) h = let z : ◌≡◌ {A = ℕ} 0 1 = cc in absurd (omega arith)
  paid_pays (given p) h = place_pays p (inside (s.entries e) p) refl h
