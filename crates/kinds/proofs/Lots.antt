-- Lots with caps: the laws.
use Rattle.std.proofs.Common.{◌≡◌, ℕ, zero, suc, ◌+◌, ◌<◌, ◌≤◌, Bool, true, false, cond, ◌&&◌, ◌||◌, eqb, ltb, ◌↔◌, sym, refl, ap, ◌∙◌, inl, inr, arith}
use Rattle.std.proofs.lemmas.Bool.{cases_eq, cases_lt, cases_Bool, and_parts, and_from, and_right, eqb-true, ne_eqb, leb-true, le-leb, le-ltb, lt-ltb}
use Rattle.std.proofs.lemmas.Bool.Decides.{nat_tests}
use Rattle.matroid.specs.Sets.{Elements, nothing, with, count, under}
use Rattle.matroid.specs.Matroids.{Laws}
use Rattle.kinds.specs.Kinds.{within_lot, lots}
use Rattle.kinds.specs.Meanings.{WithinCaps}
use Rattle.matroid.proofs.Members.{every_true, every_from, seek, with_other}
use Rattle.matroid.proofs.Counts.{count_same, count_part, count_none, count_with, extra}
use Rattle.matroid.proofs.Layers.{bound}

pub fits_true : (n : ℕ) (lot cap : ℕ → ℕ) (S : Elements) → (lots n lot cap).independent S ≡ true → WithinCaps n lot cap S
fits_true n lot cap S h j =
    elim (seek n (within_lot lot S j)) [
      | inl (i, l, e) ↦
          let (s, k) = and_parts (S i) (eqb (lot i) j) e in
          let z = eqb-true (lot i) j k in
          let t = leb-true (count n (within_lot lot S (lot i))) (cap (lot i)) (every_true n _ h i l) in
          rw z at t
      | inr f ↦ let z = count_none n (within_lot lot S j) f in omega arith
    ]

pub fits_test : (n : ℕ) (lot cap : ℕ → ℕ) (S : Elements) → WithinCaps n lot cap S → (lots n lot cap).independent S ≡ true
fits_test n lot cap S h = every_from n _ (λ i l. le-leb (count n (within_lot lot S (lot i))) (cap (lot i)) (h (lot i)))

-- members in one lot more make a lot no smaller
pub lot_part : (n : ℕ) (lot : ℕ → ℕ) (S T : Elements) (j : ℕ) → ((i : ℕ) → i < n → S i ≡ true → T i ≡ true)
    → count n (within_lot lot S j) ≤ count n (within_lot lot T j)
lot_part n lot S T j h =
    count_part n (within_lot lot S j) (within_lot lot T j) (λ i l t.
    let (s, k) = and_parts (S i) (eqb (lot i) j) t in and_from (T i) (eqb (lot i) j) (h i l s) k)

-- another lot has the same members with x as without
pub lot_other : (n : ℕ) (lot : ℕ → ℕ) (S : Elements) (x j : ℕ) → (lot x ≡ j → ⊥)
    → count n (within_lot lot (with S x) j) ≡ count n (within_lot lot S j)
lot_other n lot S x j h = count_same n _ _ (λ i l. elim (cases_eq i x) [
  | inl e ↦
      let z = ne_eqb (lot i) j (λ y. h (ap lot (sym e) ∙ y)) in
      and_right (with S x i) (eqb (lot i) j) z ∙ sym (and_right (S i) (eqb (lot i) j) z)
  | inr e ↦ ap (λ (b : Bool). b && eqb (lot i) j) (with_other S x i e)
])

or_and : (a b c : Bool) → ((a || b) && c) ≡ true → (a || (b && c)) ≡ true
or_and true b c h = refl
or_and false b c h = h

and_all : (a b : Bool) → b ≡ true → (a && b) ≡ a
and_all true b h = h
and_all false b h = refl

-- the lot of x has one member more at most
pub lot_here : (n : ℕ) (lot : ℕ → ℕ) (S : Elements) (x j : ℕ) → x < n → count n (within_lot lot (with S x) j) ≤ suc (count n (within_lot lot S j))
lot_here n lot S x j l =
    elim (cases_Bool (within_lot lot S j x)) [
      | inl e ↦
          let k = lot_part n lot (with S x) S j (λ i b w. elim (cases_eq i x) [
            | inl z ↦ ap S z ∙ (and_parts (S x) (eqb (lot x) j) e).0
            | inr z ↦ sym (with_other S x i z) ∙ w
          ]) in
          omega arith
      | inr e ↦
          let k = count_with n (within_lot lot S j) x l e in
          let m = count_part n (within_lot lot (with S x) j) (with (within_lot lot S j) x)
          (λ i b w. or_and (eqb i x) (S i) (eqb (lot i) j) w) in
          omega arith
    ]

parted : (n : ℕ) (lot cap : ℕ → ℕ) (S T : Elements) → ((i : ℕ) → i < n → S i ≡ true → T i ≡ true)
    → (lots n lot cap).independent T ≡ true → (lots n lot cap).independent S ≡ true
parted n lot cap S T h t = fits_test n lot cap S (λ j. let a = fits_true n lot cap T t j in let b = lot_part n lot S T j h in omega arith)

one_split : (s : Bool) (a k : ℕ) → cond {A = ℕ} (s && ltb a (suc k)) 1 0 ≡ cond {A = ℕ} (s && ltb a k) 1 0 + cond {A = ℕ} (s && eqb a k) 1 0
one_split true a k = grind (arith, nat_tests)
one_split false a k = refl

-- the members in the lots up to k are those in the lots below k and those in lot k
under_more : (n : ℕ) (lot : ℕ → ℕ) (S : Elements) (k : ℕ) → count n (under lot (suc k) S) ≡ count n (under lot k S) + count n (within_lot lot S k)
under_more zero lot S k = refl
under_more (suc n) lot S k =
    let a = one_split (S n) (lot n) k in
    let b = under_more n lot S k in
    omega arith

-- a lot in which the larger set has more members
busier : (n : ℕ) (lot : ℕ → ℕ) (S T : Elements) (k : ℕ) → count n (under lot k S) < count n (under lot k T)
    → (j : ℕ) × (count n (within_lot lot S j) < count n (within_lot lot T j))
busier n lot S T zero l =
    let z = count_none n (under lot zero T) (λ i b. and_right (T i) (ltb (lot i) 0) (le-ltb (lot i) 0 (omega arith))) in
    absurd (omega arith)
busier n lot S T (suc k) l =
    let a = under_more n lot S k in
    let b = under_more n lot T k in
    elim (cases_lt (count n (within_lot lot S k)) (count n (within_lot lot T k))) [
      | inl h ↦ (k, h)
      | inr h ↦ busier n lot S T k (omega arith)
    ]

-- a number above every lot
top : (n : ℕ) (lot : ℕ → ℕ) → ℕ
top n lot = suc (bound n lot).0

all_under : (n : ℕ) (lot : ℕ → ℕ) (S : Elements) → count n (under lot (top n lot) S) ≡ count n S
unfolding top
all_under n lot S = count_same n _ S (λ i l. and_all (S i) (ltb (lot i) (top n lot)) (lt-ltb (lot i) (top n lot) (let z = (bound n lot).1 i l in omega arith)))

exchanged : (n : ℕ) (lot cap : ℕ → ℕ) (S T : Elements) → (lots n lot cap).independent S ≡ true → (lots n lot cap).independent T ≡ true
    → count n S < count n T → (x : ℕ) × (x < n) × (T x ≡ true) × (S x ≡ false) × ((lots n lot cap).independent (with S x) ≡ true)
exchanged n lot cap S T h g l =
    let a = all_under n lot S in
    let b = all_under n lot T in
    let (j, m) = busier n lot S T (top n lot) (omega arith) in
    let (x, k, t, s) = extra n (within_lot lot S j) (within_lot lot T j) m in
    let (u, v) = and_parts (T x) (eqb (lot x) j) t in (
      x,
      k,
      u,
      sym (and_all (S x) (eqb (lot x) j) v) ∙ s,
      fits_test n lot cap (with S x) (λ i. elim (cases_eq i j) [
        | inl e ↦
            let p = lot_here n lot S x j k in
            let q = fits_true n lot cap T g j in
            rw e (omega arith)
        | inr e ↦
            let p = lot_other n lot S x i (λ z. e (sym z ∙ eqb-true (lot x) j v)) in
            let q = fits_true n lot cap S h i in
            omega arith
      ]),
    )

pub lots_laws : (n : ℕ) (lot cap : ℕ → ℕ) → Laws (lots n lot cap)
lots_laws n lot cap = record {
  none = fits_test n lot cap nothing (λ j. let z = count_none n (within_lot lot nothing j) (λ i l. refl) in omega arith);
  part = parted n lot cap;
  exchange = exchanged n lot cap;
}

-- independence in words
pub lots_words : (n : ℕ) (lot cap : ℕ → ℕ) (S : Elements) → ((lots n lot cap).independent S ≡ true) ↔ WithinCaps n lot cap S
lots_words n lot cap S = (fits_true n lot cap S, fits_test n lot cap S)
