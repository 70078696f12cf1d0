-- What is noted of each place, route by route.
use Rattle.std.proofs.Common.{ℕ, zero, suc, ◌+◌, ◌*◌, ◌^◌, ◌<◌, ◌≤◌, Bool, true, false, cond, eqb, List, replicate, ap, arith}
use lib.ListN.{get_or-replicate}
use Rattle.matroid.specs.Sets.{Elements}
use Rattle.kinds.specs.declared.Route.{Route}
use Rattle.routes.specs.declared.two_core.Incidence.{Incidence}
use Rattle.element.specs.Marks.{all_marks}
use Rattle.kinds.specs.Kinds.{touches, touch}
use Rattle.kinds.specs.Lists.{from, to, all_places}
use Rattle.routes.specs.Cores.{number_sums, degree, numbers, Tallied, Attached, touch_number}

cond_at_most : (t : Bool) (k : ℕ) → cond t k 0 ≤ k
cond_at_most true k = omega arith
cond_at_most false k = omega arith

pub few_touches : (n : ℕ) (a b : ℕ → ℕ) (S : Elements) (c : ℕ) → touches n a b S c ≤ n + n
few_touches zero a b S c = omega arith
few_touches (suc n) a b S c =
    let x = few_touches n a b S c in
    let y = cond_at_most (eqb (a n) c) 1 in
    let z = cond_at_most (eqb (b n) c) 1 in
    let w = cond_at_most (S n) (touch a b c n) in
    omega arith

pub small_number_sums : (n : ℕ) (a b : ℕ → ℕ) (S : Elements) (c : ℕ) → n < all_marks → number_sums n a b S c ≤ (2 * all_marks) * n
small_number_sums zero a b S c l = omega arith
small_number_sums (suc n) a b S c l =
    let x = small_number_sums n a b S c (omega arith) in
    let y = cond_at_most (eqb (a n) c) n in
    let z = cond_at_most (eqb (b n) c) n in
    let w = cond_at_most (S n) (touch_number a b c n) in
    omega arith

-- what is noted is small enough for one more
pub room : (i : ℕ) (rs : List Route) (S : Elements) (places : List Incidence) → i < all_marks → Tallied i rs S places → (c : ℕ) → c < all_places
    → (degree places c < 2 * all_marks) × (numbers places c ≤ (2 * all_marks) * i)
room i rs S places k t c l =
    let x = few_touches i (from rs) (to rs) S c in
    let y = small_number_sums i (from rs) (to rs) S c k in
    let z = t.degrees c l in
    let w = t.numbered c l in
    (omega arith, omega arith)

-- nothing noted yet
abbrev pub untouched : Incidence
untouched = record { degree = 0; numbers = 0 }

pub tallied_none : (rs : List Route) (S : Elements) → Tallied 0 rs S (replicate all_places untouched)
tallied_none rs S = record {
  degrees = λ c l. ap (λ (s : Incidence). s.degree) (get_or-replicate all_places c untouched untouched l);
  numbered = λ c l. ap (λ (s : Incidence). s.numbers) (get_or-replicate all_places c untouched untouched l);
}

pub room_attach : (i : ℕ) (rs : List Route) (S : Elements) (places : List Incidence) → i < all_marks → Tallied i rs S places → (c : ℕ) → c < all_places
    → (degree places c < 2 ^ 31) × (numbers places c < 2 ^ 31)
room_attach i rs S places k t c l = let (a, b) = room i rs S places k t c l in (omega arith, omega arith)

pub room_again : (i x : ℕ) (rs : List Route) (S : Elements) (places mid : List Incidence) → i < all_marks → Tallied i rs S places → Attached x i places mid
    → (c : ℕ) → c < all_places → (degree mid c < 2 ^ 31) × (numbers mid c < 2 ^ 31)
room_again i x rs S places mid k t h c l =
    let (a, b) = room i rs S places k t c l in
    let d = h.degrees c l in
    let e = h.numbered c l in
    let f = cond_at_most (eqb x c) 1 in
    let g = cond_at_most (eqb x c) i in
    (omega arith, omega arith)
