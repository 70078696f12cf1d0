-- The stages of a walk, and what stays of one when a price comes up.
use Rattle.std.proofs.Common.{◌≡◌, ℕ, suc, ◌+◌, ◌<◌, ◌≤◌, true, false, not, ◌||◌, eqb, leb, sym, refl, ap, ◌∙◌, subst, inl, inr, arith}
use Rattle.std.proofs.lemmas.Bool.{both_ways, cond-true, cond-false, or_left, eq-eqb, false≢true}
use Rattle.std.proofs.lemmas.Bool.Decides.{nat_tests}
use Rattle.entry.specs.Entries.{Entry, low, high}
use Rattle.matroid.specs.Sets.{Elements, nothing, with, Part, count}
use Rattle.matroid.specs.Matroids.{Meaning, Laws}
use Rattle.matroid.specs.Circuits.{Closes, circuit}
use Rattle.matroid.proofs.Members.{none_false, with_there, with_cases, with_other, every_true, every_from, every_not, lowest_is}
use Rattle.matroid.proofs.Counts.{count_none, count_with}
use Rattle.matroid.proofs.Circuits.{circuit_inside, circuit_dependent, circuit_is, circuit_unique}
use Rattle.promise.specs.Walks.{leads, earliest, topped, onward, walk}
use Rattle.promise.proofs.Orders.{no_later}
use Rattle.walk.specs.Stages.{Next, Reached, begins, keeps, drops}

-- ## The next element

module _ (n : ℕ) (E : ℕ → Entry) (T : Elements) (e : ℕ) where
  pub leads_untaken : leads n E T e ≡ true → T e ≡ false
  leads_untaken h = grind (arith, nat_tests)

  pub leads_before : leads n E T e ≡ true → (j : ℕ) → j < n → T j ≡ false → no_later E e j ≡ true
  leads_before h j l u = grind (arith, nat_tests, every_true n (λ j. T j || no_later E e j))

  pub leads_from : T e ≡ false → ((j : ℕ) → j < n → T j ≡ false → no_later E e j ≡ true) → leads n E T e ≡ true
  leads_from u h = grind (arith, nat_tests, every_from n (λ j. T j || no_later E e j) (λ j l. grind (arith, nat_tests, h j l)))

  pub leads_earliest : e < n → leads n E T e ≡ true → earliest n E T ≡ e
  leads_earliest l h =
      lowest_is n (leads n E T) e l h (λ i k. grind (arith, nat_tests, leads_untaken h, leads_before h i, every_not n (λ j. T j || no_later E i j) e l))

-- what stands no later has a low that is no higher
pub no_later_low : (E : ℕ → Entry) (i j : ℕ) → no_later E i j ≡ true → low (E i) ≤ low (E j)
no_later_low E i j h = grind (arith, nat_tests)

-- ## What holds at every stage

-- a stage by sets that are the same
pub stage_as : (m : Meaning) (E : ℕ → Entry) (S T K L : Elements) → T ≡ S → L ≡ K → Reached m E S K → Reached m E T L
stage_as m E S T K L t k r = subst (λ (A : Elements). Reached m E A L) (sym t) (subst (λ (B : Elements). Reached m E S B) (sym k) r)

module _ (m : Meaning) (E : ℕ → Entry) where
  pub stage_independent : Laws m → (T K : Elements) → Reached m E T K → m.independent K ≡ true
  stage_independent laws T K begins = laws.none
  stage_independent laws T K (keeps S L e r x h) = h
  stage_independent laws T K (drops S L e r x h z) = stage_independent laws S L r

  pub stage_below : (T K : Elements) → Reached m E T K → (i : ℕ) → T i ≡ true → i < m.size
  stage_below T K begins i h = absurd (false≢true h)
  stage_below T K (keeps S L e r x h) i t = grind (arith, nat_tests, x.below, stage_below S L r i)
  stage_below T K (drops S L e r x h z) i t = grind (arith, nat_tests, x.below, stage_below S L r i)

  -- what is kept is taken
  pub stage_part : (T K : Elements) → Reached m E T K → (i : ℕ) → K i ≡ true → T i ≡ true
  stage_part T K begins i h = h
  stage_part T K (keeps S L e r x h) i t = grind (arith, nat_tests, stage_part S L r i)
  stage_part T K (drops S L e r x h z) i t = grind (arith, nat_tests, stage_part S L r i)

  -- what is taken stands no later than what is not
  later : (S : Elements) (e : ℕ) → Next m E S e → ((i j : ℕ) → S i ≡ true → j < m.size → S j ≡ false → low (E i) ≤ low (E j))
      → (i j : ℕ) → with S e i ≡ true → j < m.size → with S e j ≡ false → low (E i) ≤ low (E j)
  later S e x f i j t l u = grind (arith, nat_tests, f i j, leads_before m.size E S e x.leading j l, no_later_low E e j)

  pub stage_order : (T K : Elements) → Reached m E T K → (i j : ℕ) → T i ≡ true → j < m.size → T j ≡ false → low (E i) ≤ low (E j)
  stage_order T K begins i j t l u = absurd (false≢true t)
  stage_order T K (keeps S L e r x h) i j t l u = later S e x (stage_order S L r) i j t l u
  stage_order T K (drops S L e r x h z) i j t l u = later S e x (stage_order S L r) i j t l u

  -- the rest of the walk from a stage with k elements left is what the walk comes to
  pub stage_onward : (T K : Elements) → Reached m E T K → (k : ℕ) → count m.size T + k ≡ m.size → onward k m E T K ≡ walk m E
  stage_onward T K begins k c =
      let a = count_none m.size nothing (λ i l. refl) in
      let b : k ≡ m.size = omega arith in
      ap (λ (x : ℕ). onward x m E nothing nothing) b
  stage_onward T K (keeps S L e r x h) k c =
      let f : ℕ = earliest m.size E S in
      let q : f ≡ e = leads_earliest m.size E S e x.below x.leading in
      let a = count_with m.size S e x.below (leads_untaken m.size E S e x.leading) in
      ap (λ (y : ℕ). onward k m E (with S y) (with L y)) (sym q)
      ∙ sym (cond-true (m.independent (with L f)) _ _ (subst (λ (y : ℕ). m.independent (with L y) ≡ true) (sym q) h))
      ∙ stage_onward S L r (suc k) (omega arith)
  stage_onward T K (drops S L e r x h z) k c =
      let f : ℕ = earliest m.size E S in
      let q : f ≡ e = leads_earliest m.size E S e x.below x.leading in
      let a = count_with m.size S e x.below (leads_untaken m.size E S e x.leading) in
      ap (λ (y : ℕ). onward k m E (with S y) L) (sym q)
      ∙ sym (cond-false (m.independent (with L f)) _ _ (subst (λ (y : ℕ). m.independent (with L y) ≡ false) (sym q) h)
      ∙ cond-true (topped m.size E (circuit m L f) f) _ _ (subst (λ (y : ℕ). topped m.size E (circuit m L y) y ≡ true) (sym q) z))
      ∙ stage_onward S L r (suc k) (omega arith)

-- ## Circuits over a part

-- where the circuit of e over K lies in a part M of K with e, it is the one over M too
module _ (m : Meaning) (laws : Laws m) (K M : Elements) (e : ℕ) (c : Closes m K e) (part : Part m.size M K)
    (inside : Part m.size (circuit m K e) (with M e)) where
  pub part_dependent : m.independent (with M e) ≡ false
  part_dependent = none_false (m.independent (with M e)) (λ t.
      both_ways (m.independent (circuit m K e)) (circuit_dependent m laws K e c) (laws.part (circuit m K e) (with M e) inside t))

  pub part_circuit : (i : ℕ) → i < m.size → circuit m K e i ≡ circuit m M e i
  part_circuit = circuit_unique m laws M e (record { below = c.below; independent = laws.part M K part c.independent; dependent = part_dependent }) (circuit m K e)
      (record { inside = inside; dependent = circuit_dependent m laws K e c; minimal = (circuit_is m laws K e c).minimal })

-- where L has all of the independent K, the circuit of e over K is the one over L too
module _ (m : Meaning) (laws : Laws m) (K L : Elements) (e : ℕ) (c : Closes m K e) (larger : Part m.size K L) (free : m.independent L ≡ true) where
  all_in : Part m.size (with K e) (with L e)
  all_in i li k = grind (arith, nat_tests, larger i li)

  pub more_dependent : m.independent (with L e) ≡ false
  more_dependent = none_false (m.independent (with L e)) (λ t. both_ways (m.independent (with K e)) c.dependent (laws.part (with K e) (with L e) all_in t))

  pub more_circuit : (i : ℕ) → i < m.size → circuit m K e i ≡ circuit m L e i
  more_circuit = circuit_unique m laws L e (record { below = c.below; independent = free; dependent = more_dependent }) (circuit m K e)
      (record { inside = λ i li k. all_in i li (circuit_inside m K e i k); dependent = circuit_dependent m laws K e c; minimal = (circuit_is m laws K e c).minimal })

-- in the circuit C of e, each other high is at most the low of e
abbrev pub Tops : ℕ → (ℕ → Entry) → Elements → ℕ → Type 0
Tops n E C e = (i : ℕ) → i < n → C i ≡ true → (i ≡ e → ⊥) → high (E i) ≤ low (E e)

pub tops_from : (n : ℕ) (E : ℕ → Entry) (C : Elements) (e : ℕ) → topped n E C e ≡ true → Tops n E C e
tops_from n E C e z i li c q = grind (arith, nat_tests, every_true n (λ y. not (C y) || (eqb y e || leb (high (E y)) (low (E e)))) z i li)

pub topped_from : (n : ℕ) (E : ℕ → Entry) (C : Elements) (e : ℕ) → Tops n E C e → topped n E C e ≡ true
topped_from n E C e h = every_from n (λ y. not (C y) || (eqb y e || leb (high (E y)) (low (E e)))) (λ i li. grind (arith, nat_tests, h i li))

-- ## What was dropped

-- d closes a circuit over K, which it tops
pub record Dropped (m : Meaning) (E : ℕ → Entry) (K : Elements) (d : ℕ) : Type 0 where
  pub closes : Closes m K d
  pub tops : Tops m.size E (circuit m K d) d

module _ (m : Meaning) (laws : Laws m) (E : ℕ → Entry) where
  pub stage_dropped : (T K : Elements) → Reached m E T K → (d : ℕ) → T d ≡ true → K d ≡ false → Dropped m E K d
  stage_dropped T K begins d t k = absurd (false≢true t)
  stage_dropped T K (keeps S L e r x h) d t k =
      let no : d ≡ e → ⊥ = λ q. both_ways (with L e d) k (or_left (eqb d e) (L d) (eq-eqb d e q)) in
      let was : S d ≡ true = sym (with_other S e d no) ∙ t in
      let o = stage_dropped S L r d was (sym (with_other L e d no) ∙ k) in
      let more : Part m.size L (with L e) = λ i li q. with_there L e i q in
      record {
        closes = record { below = o.closes.below; independent = h; dependent = more_dependent m laws L (with L e) d o.closes more h };
        tops = λ i li c q. o.tops i li (more_circuit m laws L (with L e) d o.closes more h i li ∙ c) q;
      }
  stage_dropped T K (drops S L e r x h z) d t k = elim (with_cases S e d t) [
    | inl q ↦ subst (λ (j : ℕ). Dropped m E L j) (sym q) (record {
      closes = record { below = x.below; independent = stage_independent m E laws S L r; dependent = h };
      tops = tops_from m.size E (circuit m L e) e z;
    })
    | inr q ↦ stage_dropped S L r d q k
  ]
