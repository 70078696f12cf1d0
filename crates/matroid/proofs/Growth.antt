-- Independent sets grow, and bases have one size.
use Rattle.std.proofs.Common.{◌≡◌, ℕ, zero, suc, ◌+◌, ◌-◌, ◌≤◌, true, sym, subst, inl, inr, arith}
use Rattle.std.proofs.lemmas.Bool.{both_ways, or_cases, or_left, or_right, cases_lt}
use Rattle.matroid.specs.Sets.{Elements, with, joined, count}
use Rattle.matroid.specs.Matroids.{Meaning, Laws}
use Rattle.matroid.specs.Bases.{Base}
use Rattle.matroid.specs.Theorems.{Augmented}
use Rattle.matroid.proofs.Members.{with_here, with_there, with_cases, with_all}
use Rattle.matroid.proofs.Counts.{count_with, full}

module _ (m : Meaning) (laws : Laws m) where
  grow_by : (d : ℕ) (A B : Elements) → m.independent A ≡ true → m.independent B ≡ true → count m.size A + d ≡ count m.size B → Augmented m A B
  grow_by zero A B a b h = record {
    set = A;
    has = λ i l k. k;
    inside = λ i l k. or_left (A i) (B i) k;
    independent = a;
    as_many = omega arith;
  }
  grow_by (suc d) A B a b h =
      let x = laws.exchange A B a b (omega arith) in
      let c = count_with m.size A x.0 x.1 x.3 in
      let r = grow_by d (with A x.0) B x.4 b (omega arith) in
      record {
        set = r.set;
        has = λ i l k. r.has i l (with_there A x.0 i k);
        inside = λ i l k. back x.0 x.2 i (r.inside i l k);
        independent = r.independent;
        as_many = r.as_many;
      }
    where
      back : (e : ℕ) → B e ≡ true → (i : ℕ) → joined (with A e) B i ≡ true → joined A B i ≡ true
      back e t i k = elim (or_cases (with A e i) (B i) k) [
        | inl p ↦ elim (with_cases A e i p) [
          | inl q ↦ or_right (A i) (B i) (subst (λ (j : ℕ). B j ≡ true) (sym q) t)
          | inr q ↦ or_left (A i) (B i) q
        ]
        | inr p ↦ or_right (A i) (B i) p
      ]

  pub grow : (A B : Elements) → m.independent A ≡ true → m.independent B ≡ true → count m.size A ≤ count m.size B → Augmented m A B
  grow A B a b h = grow_by (count m.size B - count m.size A) A B a b (omega arith)

  -- no independent set has more members than a base
  pub base_top : (B I : Elements) → Base m B → m.independent I ≡ true → count m.size I ≤ count m.size B
  base_top B I b i =
      elim (cases_lt (count m.size B) (count m.size I)) [
        | inl l ↦
            let x = laws.exchange B I b.independent i l in
            absurd (both_ways (B x.0) x.3 (b.largest (with B x.0) (with_all m.size B x.0) x.4 x.0 x.1 (with_here B x.0)))
        | inr l ↦ l
      ]

  -- an independent set of a base's size is a base
  pub base_by_count : (A B : Elements) → Base m B → m.independent A ≡ true → count m.size A ≡ count m.size B → Base m A
  base_by_count A B b a c = record {
    independent = a;
    largest = λ T p t. full m.size A T p (let r = base_top B T b t in omega arith);
  }

  -- two bases have as many members
  pub one_rank : (A B : Elements) → Base m A → Base m B → count m.size A ≡ count m.size B
  one_rank A B a b = let p = base_top A B a b.independent in let q = base_top B A b a.independent in omega arith
