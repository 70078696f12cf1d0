-- Rows of which the first are reduced, and one of these is taken in.
use Rattle.std.proofs.Common.{◌≡◌, ℕ, ◌+◌, ◌<◌, ◌≤◌, Bool, true, false, cond, ◌&&◌, ltb, Option, Some, None, List, ◌++◌, length, take, set, sym, ap, ap₂, ◌∙◌, inl, inr, arith, get_or-set_other, get_or-set_same}
use lib.Bits.{bit_xor}
use Rattle.std.proofs.lemmas.Bool.{cases_eq, cases_lt, and_from, lt-ltb, le-ltb}
use Rattle.std.specs.Option.{is_some, unwrap_or}
use Rattle.matroid.specs.Sets.{Elements, cut}
use Rattle.std.proofs.lemmas.List.{get_or_append_left, get_or-take, length-append, length-take-le}
use Rattle.matroid.specs.Questions.{marked}
use Rattle.kinds.specs.Kinds.{bit}
use Rattle.kinds.specs.Lists.{at}
use Rattle.words.specs.declared.elimination.Row.{Row}
use Rattle.words.specs.declared.elimination.Table.{Table}
use Rattle.words.specs.Reductions.{word_at, pivot_of, pivot_at, Cleared, ReducedBy}
use Rattle.words.proofs.Pivots.{reduced_none, reduced_more}

-- the rows, with row i taken in by the bit c
abbrev pub taken_in : List Row → ℕ → ℕ → List Row
taken_in rows i c = set rows i (record { word = word_at rows i; pivot = Some c })

module _ (front back : List Row) (i c : ℕ) (below : i < length front) where
  within : i < length (front ++ back)
  within = let e = length-append front back in omega arith

  same : (k : ℕ) → k < length front → word_at (front ++ back) k ≡ word_at front k
  same k l = ap (λ (r : Row). r.word) (get_or_append_left front back (record { word = 0; pivot = None }) k l)

  taken_word : (k : ℕ) → k < length front → word_at (taken_in (front ++ back) i c) k ≡ word_at front k
  taken_word k l = elim (cases_eq k i) [
    | inl e ↦
        ap (λ (x : ℕ). word_at (taken_in (front ++ back) i c) x) e
        ∙ ap (λ (r : Row). r.word) (get_or-set_same (front ++ back) i (record { word = word_at (front ++ back) i; pivot = Some c }) (record { word = 0; pivot = None }) within)
        ∙ same i below ∙ ap (word_at front) (sym e)
    | inr e ↦
        ap (λ (r : Row). r.word) (get_or-set_other (front ++ back) i k (record { word = word_at (front ++ back) i; pivot = Some c }) (record { word = 0; pivot = None }) e)
        ∙ same k l
  ]

  taken_here : pivot_of (taken_in (front ++ back) i c) i ≡ Some c
  taken_here = ap (λ (r : Row). r.pivot) (get_or-set_same (front ++ back) i (record { word = word_at (front ++ back) i; pivot = Some c }) (record { word = 0; pivot = None }) within)

  taken_other : (k : ℕ) → k < length front → (k ≡ i → ⊥) → pivot_of (taken_in (front ++ back) i c) k ≡ pivot_of front k
  taken_other k l d =
      ap (λ (r : Row). r.pivot) (get_or-set_other (front ++ back) i k (record { word = word_at (front ++ back) i; pivot = Some c }) (record { word = 0; pivot = None }) d
      ∙ get_or_append_left front back (record { word = 0; pivot = None }) k l)

-- a table of the words themselves
pub untaken : (ws : List ℕ) (members : List Bool) (t : Table) → ((j : ℕ) → j < length ws → word_at t.rows j ≡ at ws j)
    → ((j : ℕ) → j < length ws → pivot_of t.rows j ≡ None) → ((c : ℕ) → c < 64 → marked t.used c ≡ false) → ReducedBy ws members 0 t
untaken ws members t same none free = record {
  reduced = reduced_none (length ws) (at ws) (word_at t.rows) (marked members) (pivot_at t.rows) (marked t.used) same free;
  taken = λ k l. ap is_some (none k l) ∙ ap (λ (b : Bool). b && marked members k) (sym (le-ltb k 0 (omega arith)));
}

-- one more element below the bound of a cut
pub cut_here : (S : Elements) (i : ℕ) → S i ≡ true → cut (i + 1) S i ≡ true
cut_here S i h = and_from (ltb i (i + 1)) (S i) (lt-ltb i (i + 1) (omega arith)) h

pub cut_other : (S : Elements) (i k : ℕ) → (k ≡ i → ⊥) → cut i S k ≡ cut (i + 1) S k
cut_other S i k d = elim (cases_lt k i) [
  | inl l ↦ ap (λ (b : Bool). b && S k) (lt-ltb k i l ∙ sym (lt-ltb k (i + 1) (omega arith)))
  | inr l ↦ ap (λ (b : Bool). b && S k) (le-ltb k i l ∙ sym (le-ltb k (i + 1) (omega arith)))
]

-- the rows of the words lose the ones at the bit c but for that of row i, which is taken in by it; u is c again
pub row_taken : (ws : List ℕ) (members : List Bool) (i : ℕ) (t : Table) (n : ℕ) (front back : List Row) (c u low : ℕ)
    → ReducedBy ws members i t → marked members i ≡ true → i < length ws → c < 64 → marked t.used c ≡ false → bit (word_at t.rows i) c ≡ true
    → Cleared (word_at t.rows i) c low → n ≡ length ws → n ≤ length t.rows → length front ≡ length (take n t.rows)
    → ((j : ℕ) → j < length (take n t.rows)
    → word_at front j ≡ cond (bit (word_at (take n t.rows) j) c) (bit_xor (word_at (take n t.rows) j) low) (word_at (take n t.rows) j))
    → ((j : ℕ) → pivot_of front j ≡ pivot_of (take n t.rows) j) → u ≡ c → c < length t.used
    → ReducedBy ws members (i + 1) (record { rows = taken_in (front ++ back) i c; used = set t.used u true })
row_taken ws members i t n front back c u low r here l lc free one cleared e m long words pivots same within =
    let f = length-take-le n t.rows m in
    let b : i < length front = omega arith in
    let other : (k : ℕ) → k < length ws → (k ≡ i → ⊥) → pivot_of (taken_in (front ++ back) i c) k ≡ pivot_of t.rows k =
    λ k j d. taken_other front back i c b k (omega arith) d ∙ pivots k ∙ ap (λ (x : Row). x.pivot) (get_or-take n t.rows k (record { word = 0; pivot = None }) (omega arith)) in
    record {
      reduced = reduced_more (length ws) (at ws) (word_at t.rows) (word_at (taken_in (front ++ back) i c)) (marked members) i (pivot_at t.rows)
          (pivot_at (taken_in (front ++ back) i c)) (marked t.used) (marked (set t.used u true)) c low r.reduced here l lc free one cleared
          (λ j k.
          taken_word front back i c b j (omega arith) ∙ words j (omega arith)
          ∙ ap (λ (x : Row). cond (bit x.word c) (bit_xor x.word low) x.word) (get_or-take n t.rows j (record { word = 0; pivot = None }) (omega arith)))
          (ap (λ (x : Option ℕ). unwrap_or x 0) (taken_here front back i c b))
          (λ k j. ap (λ (x : Option ℕ). unwrap_or x 0) (other k (omega arith) (λ d. omega arith)))
          (ap (λ (x : ℕ). marked (set t.used x true) c) same ∙ get_or-set_same t.used c true false within)
          (λ k d. ap (λ (x : ℕ). marked (set t.used x true) k) same ∙ get_or-set_other t.used c k true false d);
      taken = λ k j. elim (cases_eq k i) [
        | inl d ↦
            ap (λ (x : ℕ). is_some (pivot_of (taken_in (front ++ back) i c) x)) d ∙ ap is_some (taken_here front back i c b)
            ∙ sym (ap (cut (i + 1) (marked members)) d ∙ cut_here (marked members) i here)
        | inr d ↦ ap is_some (other k j d) ∙ r.taken k j ∙ cut_other (marked members) i k d
      ];
    }

-- of each element, whether it is taken in, and by which bit, as the first n rows have it, where n is the number of the words
module _ (ws : List ℕ) (members : List Bool) (t : Table) (n : ℕ) (r : ReducedBy ws members (length ws) t) (e : n ≡ length ws) (w k : ℕ) (l : k < n) where
  member : is_some (pivot_of (take n t.rows) k) ≡ marked members k
  member =
      ap (λ (x : Row). is_some x.pivot) (get_or-take n t.rows k (record { word = 0; pivot = None }) l) ∙ r.taken k (omega arith)
      ∙ ap (λ (b : Bool). b && marked members k) (lt-ltb k (length ws) (omega arith))

  pub own_bit : (p : ℕ) → pivot_of (take n t.rows) k ≡ Some p → bit w p ≡ (marked members k && bit w (pivot_at t.rows k))
  own_bit p h =
      ap (λ (o : Option ℕ). is_some o && bit w (unwrap_or o 0)) (sym h)
      ∙ ap₂ (λ (b : Bool) (x : Row). b && bit w (unwrap_or x.pivot 0)) member (get_or-take n t.rows k (record { word = 0; pivot = None }) l)

  pub no_bit : pivot_of (take n t.rows) k ≡ None → false ≡ (marked members k && bit w (pivot_at t.rows k))
  no_bit h = ap (λ (o : Option ℕ). is_some o && bit w (pivot_at t.rows k)) (sym h) ∙ ap (λ (b : Bool). b && bit w (pivot_at t.rows k)) member
