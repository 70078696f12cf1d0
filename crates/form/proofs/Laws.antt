-- A step and the text that it reads, as laws that go from the parts to the whole. Assumes nothing.
use Rattle.std.proofs.Common.{◌≡◌, ℕ, zero, suc, ◌+◌, ◌<◌, ◌≤◌, Bool, true, false, cond, eqb, List, [], ◌∷◌, ◌++◌, length, Some, None, Option, sym, refl, ap, ◌∙◌, subst, arith}
use Rattle.std.specs.List.{flat_map, AllByRecursion}
use Rattle.std.proofs.lemmas.List.{append_assoc}
use Rattle.std.proofs.lemmas.Bool.{eqb-true, ne_eqb, eq-eqb, false≢true}
use Rattle.form.specs.Reading.{Got, got, stop, Step, and_then, done, need, one_on, line, led, cut, formed, taken, field, repeated}

-- s gets just the values that are good, each from the text that is put before the rest
pub record Law {A : Type 0} (s : Step A) (good : A → Type 0) (put : A → List ℕ → List ℕ) : Type 0 where
  pub sound : (bs : List ℕ) (n : ℕ) (a : A) (rest : List ℕ) (m : ℕ) → s bs n ≡ got a rest m → good a × (put a rest ≡ bs)
  pub complete : (a : A) → good a → (rest : List ℕ) (n : ℕ) → (m : ℕ) × (s (put a rest) n ≡ got a rest m)

-- the same of a field, whose bytes are all above those that end a field
pub record Word {A : Type 0} (read : List ℕ → Option A) (good : A → Type 0) (show : A → List ℕ) : Type 0 where
  pub sound : (w : List ℕ) (a : A) → read w ≡ Some a → good a × (show a ≡ w)
  pub complete : (a : A) → good a → read (show a) ≡ Some a
  pub high : (a : A) → good a → AllByRecursion (λ b. 48 ≤ b) (show a)

-- ## What a step that got something did

pub never : {A : Type 0} {X : Type 0} (c k m : ℕ) (a : A) (rest : List ℕ) → stop c k ≡ got a rest m → X
never c k m a rest e = let z : ◌≡◌ {A = ℕ} 0 1 = cc in absurd (omega arith)

pub and_then_got : {A B : Type 0} (g : Got A) (f : A → Step B) (b : B) (rest : List ℕ) (m : ℕ) → and_then g f ≡ got b rest m → (a : A) × (r : List ℕ) × (k : ℕ) × (g ≡ got a r k) × (f a r k ≡ got b rest m)
and_then_got (got a r k) f b rest m e = (a, r, k, refl, e)
and_then_got (stop c k) f b rest m e = never c k m b rest e

one_on_got : {A : Type 0} (g : Got A) (a : A) (rest : List ℕ) (m : ℕ) → one_on g ≡ got a rest m → (k : ℕ) × (g ≡ got a rest k)
one_on_got (got b r k) a rest m e = (k, cc)
one_on_got (stop c k) a rest m e = never c k m a rest e

formed_got : {A : Type 0} (o : Option A) (r : List ℕ) (n : ℕ) (a : A) (rest : List ℕ) (m : ℕ) → formed o r n ≡ got a rest m → (o ≡ Some a) × (r ≡ rest)
formed_got (Some b) r n a rest m e = (cc, cc)
formed_got None r n a rest m e = never 2 n m a rest e

taken_got : {A : Type 0} (read : List ℕ → Option A) (o : Option (List ℕ × List ℕ)) (n : ℕ) (a : A) (rest : List ℕ) (m : ℕ) → taken read o n ≡ got a rest m → (w : List ℕ) × (o ≡ Some (w, rest)) × (read w ≡ Some a)
taken_got read (Some p) n a rest m e =
    let h = formed_got (read p.0) p.1 n a rest m e in (p.0, ap (λ r. Some (p.0, r)) h.1, h.0)
taken_got read None n a rest m e = never 2 n m a rest e

-- ## Laws of the combinators

pub law_done : {A : Type 0} (x : A) → Law (done x) (λ b. b ≡ x) (λ _ rest. rest)
law_done x = record {
  sound = λ bs n a rest m e. (cc, cc);
  complete = λ a h rest n. (n, ap (λ v. got v rest n) (sym h));
}

pub law_need : (c : ℕ) (b : Bool) → Law (need c b) (λ _. b ≡ true) (λ _ rest. rest)
law_need c true = record { sound = λ bs n a rest m e. (refl, cc); complete = λ a h rest n. (n, refl) }
law_need c false = record {
  sound = λ bs n a rest m e. never c n m a rest e;
  complete = λ a h rest n. absurd (false≢true h);
}

pub law_line : {A : Type 0} {s : Step A} {good : A → Type 0} {put : A → List ℕ → List ℕ} → Law s good put → Law (line s) good put
law_line {A} {s} {good} {put} l = record {
  sound = λ bs n a rest m e. let h = one_on_got (s bs n) a rest m e in l.sound bs n a rest h.0 h.1;
  complete = λ a g rest n. let h = l.complete a g rest n in (h.0 + 1, ap one_on h.1);
}

-- one step after another: `left b` is what the first step got where the two got b
pub law_then : {A B : Type 0} {s : Step A} {f : A → Step B} {goodA : A → Type 0} {put_a : A → List ℕ → List ℕ} {goodF : A → B → Type 0} {put_f : A → B → List ℕ → List ℕ} → Law s goodA put_a → ((a : A) → Law (f a) (goodF a) (put_f a)) → (left : B → A) → ((a : A) (b : B) → goodF a b → left b ≡ a) → Law (λ bs n. and_then (s bs n) f) (λ b. goodA (left b) × goodF (left b) b) (λ b rest. put_a (left b) (put_f (left b) b rest))
law_then {A} {B} {s} {f} {goodA} {put_a} {goodF} {put_f} l k left same = record {
  sound = λ bs n b rest m e.
      let i = and_then_got (s bs n) f b rest m e in
      let h = l.sound bs n i.0 i.1 i.2 i.3 in
      let j = (k i.0).sound i.1 i.2 b rest m i.4 in
      subst (λ (a : A). (goodA a × goodF a b) × (put_a a (put_f a b rest) ≡ bs)) (sym (same i.0 b j.0)) ((h.0, j.0), ap (put_a i.0) j.1 ∙ h.1);
  complete = λ b g rest n.
      let c = l.complete (left b) g.0 (put_f (left b) b rest) n in
      let d = (k (left b)).complete b g.1 rest c.0 in
      (d.0, ap (λ r. and_then r f) c.1 ∙ d.1);
}

-- a test between two steps
pub law_needs : {B : Type 0} {t : Step B} {good : B → Type 0} {put : B → List ℕ → List ℕ} (c : ℕ) (b : Bool) → Law t good put → Law (λ bs n. and_then (need c b bs n) (λ _. t)) (λ x. (b ≡ true) × good x) put
law_needs c b l = law_then (law_need c b) (λ _. l) (λ _. tt) (λ a x g. refl)

-- the same law in other words
pub law_like : {A : Type 0} {s : Step A} {good : A → Type 0} {put : A → List ℕ → List ℕ} (good' : A → Type 0) (put' : A → List ℕ → List ℕ) → Law s good put → ((a : A) → good a → good' a) → ((a : A) → good' a → good a) → ((a : A) → good a → (rest : List ℕ) → put' a rest ≡ put a rest) → Law s good' put'
law_like {A} {s} good' put' l to from same = record {
  sound = λ bs n a rest m e. let h = l.sound bs n a rest m e in (to a h.0, same a h.0 rest ∙ h.1);
  complete = λ a g rest n.
      let h = l.complete a (from a g) rest n in
      (h.0, ap (λ t. s t n) (same a (from a g) rest) ∙ h.1);
}

-- ## Fields

cut_at : (b c : ℕ) (bs : List ℕ) (t : Bool) → eqb b c ≡ t → (o : Option (List ℕ × List ℕ)) → cut c bs ≡ o → ((w rest : List ℕ) → cut c bs ≡ Some (w, rest) → w ++ (c ∷ rest) ≡ bs) → (w rest : List ℕ) → cond t (Some ([], bs)) (led b o) ≡ Some (w, rest) → w ++ (c ∷ rest) ≡ b ∷ bs
cut_at b c bs true q o u ih w rest e =
    let p : ◌≡◌ {A = List ℕ × List ℕ} (w, rest) ([], bs) = cc in
    ap (λ p. p.0 ++ (c ∷ p.1)) p ∙ ap (λ x. x ∷ bs) (sym (eqb-true b c q))
cut_at b c bs false q (Some s) u ih w rest e =
    let p : ◌≡◌ {A = List ℕ × List ℕ} (w, rest) (b ∷ s.0, s.1) = cc in
    ap (λ p. p.0 ++ (c ∷ p.1)) p ∙ ap (λ x. b ∷ x) (ih s.0 s.1 u)
cut_at b c bs false q None u ih w rest e = let z : ◌≡◌ {A = ℕ} 0 1 = cc in absurd (omega arith)

cut_sound : (c : ℕ) (bs w rest : List ℕ) → cut c bs ≡ Some (w, rest) → w ++ (c ∷ rest) ≡ bs
cut_sound c [] w rest e = let z : ◌≡◌ {A = ℕ} 0 1 = cc in absurd (omega arith)
cut_sound c (b ∷ bs) w rest e = cut_at b c bs (eqb b c) refl (cut c bs) refl (cut_sound c bs) w rest e

cut_complete : (c : ℕ) → c < 48 → (w rest : List ℕ) → AllByRecursion (λ b. 48 ≤ b) w → cut c (w ++ (c ∷ rest)) ≡ Some (w, rest)
cut_complete c low [] rest h = ap (λ t. cond t (Some ([], rest)) (led c (cut c rest))) (eq-eqb c c refl)
cut_complete c low (b ∷ w) rest h =
    ap (λ t. cond t (Some ([], w ++ (c ∷ rest))) (led b (cut c (w ++ (c ∷ rest))))) (ne_eqb b c (λ e. omega (arith, h.0))) ∙
    ap (led b) (cut_complete c low w rest h.1)

pub law_field : {A : Type 0} {read : List ℕ → Option A} {good : A → Type 0} {show : A → List ℕ} (c : ℕ) → c < 48 → Word read good show → Law (field c read) good (λ a rest. show a ++ (c ∷ rest))
law_field {A} {read} {good} {show} c low v = record {
  sound = λ bs n a rest m e.
      let h = taken_got read (cut c bs) n a rest m e in
      let j = v.sound h.0 a h.2 in
      (j.0, ap (λ w. w ++ (c ∷ rest)) j.1 ∙ cut_sound c bs h.0 rest h.1);
  complete = λ a g rest n.
      (n, ap (λ o. taken read o n) (cut_complete c low (show a) rest (v.high a g)) ∙ ap (λ o. formed o rest n) (v.complete a g));
}

-- ## Sections

-- each item is good after the one before
abbrev pub Chain : {A : Type 0} → (Option A → A → Type 0) → Option A → List A → Type 0
Chain good before [] = Unit {0}
Chain good before (a ∷ as') = good before a × Chain good (Some a) as'

abbrev pub put_all : {A : Type 0} → (A → List ℕ → List ℕ) → List A → List ℕ → List ℕ
put_all put [] rest = rest
put_all put (a ∷ as') rest = put a (put_all put as' rest)

module _ {A : Type 0} (item : Option A → Step A) (good : Option A → A → Type 0) (put : A → List ℕ → List ℕ) (each : (o : Option A) → Law (item o) (good o) put) where
  repeated_sound : (k : ℕ) (o : Option A) (bs : List ℕ) (n : ℕ) (xs : List A) (rest : List ℕ) (m : ℕ) → repeated item o k bs n ≡ got xs rest m → ((length xs ≡ k) × Chain good o xs) × (put_all put xs rest ≡ bs)
  repeated_sound zero o bs n xs rest m e =
      let p : xs ≡ [] = cc in
      let q : rest ≡ bs = cc in
      subst (λ (l : List A). ((length l ≡ 0) × Chain good o l) × (put_all put l rest ≡ bs)) (sym p) ((refl, tt), q)
  repeated_sound (suc k) o bs n xs rest m e =
      let i = and_then_got (item o bs n) _ xs rest m e in
      let h = (each o).sound bs n i.0 i.1 i.2 i.3 in
      let j = and_then_got (repeated item (Some i.0) k i.1 i.2) _ xs rest m i.4 in
      let r = repeated_sound k (Some i.0) i.1 i.2 j.0 j.1 j.2 j.3 in
      let p : xs ≡ i.0 ∷ j.0 = cc j.4 in
      let q : rest ≡ j.1 = cc j.4 in
      subst (λ (l : List A). ((length l ≡ suc k) × Chain good o l) × (put_all put l rest ≡ bs)) (sym p)
      ((ap suc r.0.0, (h.0, r.0.1)), ap (λ t. put i.0 (put_all put j.0 t)) q ∙ (ap (put i.0) r.1 ∙ h.1))

  repeated_complete : (xs : List A) (o : Option A) → Chain good o xs → (rest : List ℕ) (n : ℕ) → (m : ℕ) × (repeated item o (length xs) (put_all put xs rest) n ≡ got xs rest m)
  repeated_complete [] o g rest n = (n, refl)
  repeated_complete (a ∷ as') o g rest n =
      let c = (each o).complete a g.0 (put_all put as' rest) n in
      let d = repeated_complete as' (Some a) g.1 rest c.0 in
      (d.0, ap (λ r. and_then r (λ a. λ bs n. and_then (repeated item (Some a) (length as') bs n) (λ as'. done (a ∷ as')))) c.1 ∙ ap (λ r. and_then r (λ as'. done (a ∷ as'))) d.1)

  pub law_repeated : (k : ℕ) → Law (repeated item None k) (λ xs. (length xs ≡ k) × Chain good None xs) (put_all put)
  law_repeated k = record {
    sound = repeated_sound k None;
    complete = λ xs g rest n.
        subst (λ (k : ℕ). (m : ℕ) × (repeated item None k (put_all put xs rest) n ≡ got xs rest m)) g.0 (repeated_complete xs None g.1 rest n);
  }

-- what is put is what is joined, before the rest
pub put_all_joined : {A : Type 0} (put : A → List ℕ → List ℕ) (text : A → List ℕ) → ((a : A) (rest : List ℕ) → text a ++ rest ≡ put a rest) → (xs : List A) (rest : List ℕ) → flat_map text xs ++ rest ≡ put_all put xs rest
put_all_joined put text same [] rest = refl
put_all_joined put text same (x ∷ xs) rest =
    append_assoc (text x) (flat_map text xs) rest ∙ (ap (λ t. text x ++ t) (put_all_joined put text same xs rest) ∙ same x (put_all put xs rest))
