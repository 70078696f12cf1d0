use Rattle.std.proofs.Common.{◌≡◌, ℕ, ◌<◌, Bool, true, false, cond, List, length, set, ap, ◌∙◌, arith}
use mathlib.Core.Path.{fun_ext}
use Rattle.entry.specs.Entries.{Entry}
use Rattle.entry.specs.Held.{sheet}
use Rattle.matroid.specs.Sets.{Elements, without}
use Rattle.matroid.specs.Questions.{marked}
use Rattle.matroid.proofs.Marks.{marked_unset}
use Rattle.walk.specs.Stages.{behind, lower, standing}
use Rattle.walk.specs.Walked.{kept_of, taken_of}
use Rattle.walk.proofs.Delays.{stage_goes_back}
use Rattle.walk.proofs.progress.Progress.go_back.Goals as goal

-- b is whether x is behind the marks that are low
stands : (n : ℕ) (E : ℕ → Entry) (x h : ℕ) (T S A : Elements) (lows : List Bool) → marked lows ≡ lower E h T → (b : Bool) → b ≡ behind n E x (marked lows)
    → A ≡ cond b (without (lower E h S) x) (lower E h S) → A ≡ standing n E x h T S
stands n E x h T S A lows is b e q =
    q ∙ ap (λ (c : Bool). cond c (without (lower E h S) x) (lower E h S)) (e ∙ ap (behind n E x) is)

unset : (E : ℕ → Entry) (x h : ℕ) (S : Elements) (marks : List Bool) → x < length marks → marked marks ≡ lower E h S → marked (set marks x false) ≡ without (lower E h S) x
unset E x h S marks l q = fun_ext (marked_unset marks x l) ∙ ap (λ (A : Elements). without A x) q

pub returns-then-is_behind : goal.returns-then-is_behind
returns-then-is_behind c =
    let F = sheet c.args.entries.now in
    let T = taken_of c.args.self.now in
    let K = kept_of c.args.self.now in
    let t = stands c.args.n F c.args.x c.args.high T T _ _ c.keep_lower.ensures true c.if-is_behind.ensures (unset F _ c.args.high T _ (omega arith) c.keep_lower.ensures) in
    let k = stands c.args.n F c.args.x c.args.high T K _ _ c.keep_lower.ensures true c.if-is_behind.ensures (unset F _ c.args.high K _ (omega arith) c.keep_lower-2.ensures) in
    record { taken = t; kept = k; along = λ m E p laws size cost top is r. stage_goes_back m laws E c.args.x p cost F c.args.high top is c.args.n size T K _ _ t k r }

pub returns-else-is_behind : goal.returns-else-is_behind
returns-else-is_behind c =
    let F = sheet c.args.entries.now in
    let T = taken_of c.args.self.now in
    let K = kept_of c.args.self.now in
    let t = stands c.args.n F c.args.x c.args.high T T _ _ c.keep_lower.ensures false c.if-is_behind.ensures c.keep_lower.ensures in
    let k = stands c.args.n F c.args.x c.args.high T K _ _ c.keep_lower.ensures false c.if-is_behind.ensures c.keep_lower-2.ensures in
    record { taken = t; kept = k; along = λ m E p laws size cost top is r. stage_goes_back m laws E c.args.x p cost F c.args.high top is c.args.n size T K _ _ t k r }
