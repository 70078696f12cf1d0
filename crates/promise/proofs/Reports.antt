-- A report is right, and the prices paid are few.
use Rattle.std.proofs.Common.{◌≡◌, ℕ, ◌+◌, ◌*◌, ◌<◌, ◌≤◌, false, List, [], Some, None, Option, refl, ap, subst, inl, inr, zero-add, arith}
use Rattle.std.proofs.lemmas.Bool.{both_ways, and_parts, cases_eq}
use Rattle.matroid.specs.Sets.{Elements, nothing}
use Rattle.matroid.specs.Matroids.{Meaning, Laws}
use Rattle.matroid.specs.Bases.{Base, Cheapest, Greedy}
use Rattle.matroid.proofs.Members.{common}
use Rattle.matroid.proofs.Counts.{count_part}
use Rattle.matroid.proofs.Greedy.{greedy_base, greedy_cheapest}
use Rattle.promise.specs.Weighings.{Weighing, Fits, FitsSheet}
use Rattle.promise.specs.Walks.{Ended, settled, open_at, walk, topmost, rival}
use Rattle.promise.specs.Surveys.{fresh}
use Rattle.promise.specs.Calls.{Call, after, notes, firsts, Possible}
use Rattle.promise.specs.Claims.{Right, Few, Halved}
use Rattle.promise.proofs.Walking.{Open, Settled, Walked, walked}
use Rattle.promise.proofs.Fitting.{times_le, fits_between}
use Rattle.promise.proofs.Rivals.{pair_found}
use Rattle.promise.proofs.Needed.{needed}
use Rattle.promise.proofs.Calls.{Holds, holds_start, after_holds}
use Rattle.entry.specs.Entries.{Entry, Known, Range, low, high, Proper}

-- the report by the end of the walk
abbrev pub shown : Ended → Option Elements
shown z = elim z [ settled K ↦ Some K | open_at C ↦ None ]

-- a price for each entry, at the scale 2
abbrev middle : Entry → ℕ
middle (Known p) = p * 2
middle (Range l h) = l * 2 + 1

abbrev middling : (ℕ → Entry) → Weighing
middling E = record { scale = 2; positive = omega arith; value = λ i. middle (E i) }

middle_fits : (E : ℕ → Entry) (i : ℕ) (e : Entry) → E i ≡ e → Proper e → Fits (middling E) i e
middle_fits E i (Known p) q h = ap middle q
middle_fits E i (Range l u) q h = let a = ap middle q in (omega arith, omega arith)

middling_fits : (n : ℕ) (E : ℕ → Entry) → ((i : ℕ) → Proper (E i)) → FitsSheet n E (middling E)
middling_fits n E proper i l = middle_fits E i (E i) refl (proper i)

module _ (m : Meaning) (laws : Laws m) where
  settled_greedy : (E : ℕ → Entry) (K : Elements) (v : ℕ → ℕ) → Settled m E K
      → ((x e : ℕ) → x < m.size → e < m.size → high (E x) ≤ low (E e) → v x ≤ v e) → Greedy m v K
  settled_greedy E K v s h = record {
    independent = s.independent;
    dearest = λ e l k. elim (s.placed e l) [
      | inl p ↦ absurd (both_ways (K e) k p)
      | inr p ↦ record {
        closed = p.closed;
        inside = p.inside;
        dependent = p.dependent;
        most = λ x lx c. elim (cases_eq x e) [ inl q ↦ let a = ap v q in omega arith | inr d ↦ h x e lx l (p.topped x lx c d) ];
      }
    ];
  }

  pub settled_base : (E : ℕ → Entry) (K : Elements) → Settled m E K → Base m K
  settled_base E K s = greedy_base m laws (λ i. 0) K (settled_greedy E K (λ i. 0) s (λ x e lx le h. omega arith))

  settled_cheapest : (E : ℕ → Entry) (K : Elements) → Settled m E K → (w : Weighing) → FitsSheet m.size E w → Cheapest m w.value K
  settled_cheapest E K s w f =
      greedy_cheapest m laws w.value K (settled_greedy E K w.value s (λ x e lx le h.
      let a = (fits_between w x (E x) (f x lx)).1 in
      let b = (fits_between w e (E e) (f e le)).0 in
      let c = times_le (high (E x)) (low (E e)) w.scale h in omega arith))

  shown_settled : (E : ℕ → Entry) (B : Elements) (z : Ended) → Walked m E z → shown z ≡ Some B → Settled m E B
  shown_settled E B (settled K) k h = let q : K ≡ B = cc in subst (λ (D : Elements). Settled m E D) q k
  shown_settled E B (open_at C) k h = let z : ◌≡◌ {A = ℕ} 0 1 = cc in absurd (omega arith)

  -- no base is always cheapest while the walk is open
  open_never : (E : ℕ → Entry) → ((i : ℕ) → Proper (E i)) → (C : Elements) → Open m E C → (B : Elements)
      → ((w : Weighing) → FitsSheet m.size E w → Cheapest m w.value B) → ⊥
  open_never E proper C o B h =
      let f : ℕ = topmost m.size E C in
      let g : ℕ = rival m.size E C f in
      let fits = middling_fits m.size E proper in
      elim (needed m laws E E (λ i k. refl) (middling E) fits fits nothing B (λ u fu same. h u fu) C o f g (pair_found m laws E C o proper)) [
        | inl q ↦ both_ways false refl q
        | inr q ↦ both_ways false refl q.1
      ]

  shown_some : (E : ℕ → Entry) → ((i : ℕ) → Proper (E i)) → (B : Elements) → ((w : Weighing) → FitsSheet m.size E w → Cheapest m w.value B)
      → (z : Ended) → Walked m E z → (A : Elements) × (shown z ≡ Some A)
  shown_some E proper B h (settled K) k = (K, refl)
  shown_some E proper B h (open_at C) k = absurd (open_never E proper C k B h)

  module _ (F : ℕ → Entry) (proper : (i : ℕ) → Proper (F i)) (cs : List Call) where
    pub holding : Holds m F (notes m (fresh F) cs) (firsts m (fresh F) cs) (after m (fresh F) cs)
    holding = subst (λ (k : ℕ). Holds m F (notes m (fresh F) cs) k (after m (fresh F) cs)) (zero-add (firsts m (fresh F) cs))
        (after_holds m laws F cs [] 0 (fresh F) (holds_start m laws F proper))

    -- what fits the entries now is possible, and the other way round
    possible_from : (w : Weighing) → FitsSheet m.size (after m (fresh F) cs).entries w → Possible m F cs w
    possible_from w f = let b = holding.tied.back w f in record { fits = b.0; ledger = b.1; notes_agree = b.2 }

    possible_fits : (w : Weighing) → Possible m F cs w → FitsSheet m.size (after m (fresh F) cs).entries w
    possible_fits w p = holding.tied.forth w p.fits p.ledger p.notes_agree

    pub some_possible : (w : Weighing) × Possible m F cs w
    some_possible =
        let E : ℕ → Entry = (after m (fresh F) cs).entries in
        (middling E, possible_from (middling E) (middling_fits m.size E holding.tied.proper))

    pub right : Right m F cs
    right =
        let E : ℕ → Entry = (after m (fresh F) cs).entries in
        record {
          sound = λ B r.
              let s = shown_settled E B (walk m E) (walked m laws E) r in
              (settled_base E B s, λ w p. settled_cheapest E B s w (possible_fits w p));
          complete = λ B a. shown_some E holding.tied.proper B (λ w f. a.1 w (possible_from w f)) (walk m E) (walked m laws E);
        }

    pub halved : Halved m F cs
    halved = record {
      half = holding.counted.at_most;
      owed = λ w p R B s.
          let c = holding.counted in
          let a = c.owed w (possible_fits w p) R B s in
          let b = count_part m.size (common R c.used) R (λ i l k. (and_parts (R i) (c.used i) k).0) in
          omega arith;
    }

    pub few : Few m F cs
    few w p R B s = let a = halved.half in let b = halved.owed w p R B s in omega arith
