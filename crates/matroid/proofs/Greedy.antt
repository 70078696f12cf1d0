-- A base with the most members under every threshold is cheapest, and a greedy set is such a base.
use Rattle.std.proofs.Common.{◌≡◌, ℕ, true, sym, subst, inl, inr, arith}
use Rattle.std.proofs.lemmas.Bool.{both_ways, cases_lt}
use Rattle.matroid.specs.Sets.{Elements, with, count, under}
use Rattle.matroid.specs.Matroids.{Meaning, Laws}
use Rattle.matroid.specs.Bases.{Base, Cheapest, Greedy}
use Rattle.matroid.specs.Theorems.{MostUnder}
use Rattle.matroid.proofs.Members.{with_here, with_there, with_cases, with_part, under_parts, under_from, none_false, none_true}
use Rattle.matroid.proofs.Layers.{lighter}
use Rattle.matroid.proofs.Growth.{one_rank}

module _ (m : Meaning) (laws : Laws m) (v : ℕ → ℕ) where
  pub most_cheapest : (B : Elements) → Base m B → MostUnder m v B → Cheapest m v B
  most_cheapest B b h = record {
    base = b;
    least = λ A a. lighter m.size v B A (one_rank m laws B A b a) (λ t. h t A a.independent);
  }

module _ (m : Meaning) (laws : Laws m) (v : ℕ → ℕ) (K : Elements) (k : Greedy m v K) where
  -- it has as many members under each threshold as any independent set
  greedy_under : MostUnder m v K
  greedy_under t I i =
      elim (cases_lt (count m.size (under v t K)) (count m.size (under v t I))) [
        | inl l ↦
            let U : Elements = under v t K in
            let ku = laws.part U K (λ j l q. (under_parts v t K j q).0) k.independent in
            let iu = laws.part (under v t I) I (λ j l q. (under_parts v t I j q).0) i in
            let x = laws.exchange U (under v t I) ku iu l in
            let e : ℕ = x.0 in
            let p = under_parts v t I e x.2 in
            let c = k.dearest e x.1 (none_false (K e) (λ q. both_ways (U e) x.3 (under_from v t K e q p.1))) in
            absurd (both_ways (m.independent c.closed) c.dependent (laws.part c.closed (with U e) (λ j lj q.
            elim (with_cases K e j (c.inside j lj q)) [
              | inl s ↦ subst (λ (y : ℕ). with U e y ≡ true) (sym s) (with_here U e)
              | inr r ↦ with_there U e j (under_from v t K j r (let z = c.most j lj q in let y = p.1 in omega arith))
            ]) x.4))
        | inr l ↦ l
      ]

  pub greedy_base : Base m K
  greedy_base = record {
    independent = k.independent;
    largest = λ T p t i l q. none_true (K i) (λ f.
        let c = k.dearest i l f in
        both_ways (m.independent c.closed) c.dependent (laws.part c.closed T (λ j lj r. with_part m.size K T i p q j lj (c.inside j lj r)) t));
  }

  pub greedy_cheapest : Cheapest m v K
  greedy_cheapest = most_cheapest m laws v K greedy_base greedy_under
