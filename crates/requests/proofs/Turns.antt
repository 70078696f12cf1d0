-- A list of requests, one after another. Assumes nothing.
use Rattle.std.proofs.Common.{◌≡◌, ℕ, zero, suc, ◌+◌, ◌<◌, Bool, List, [], ◌∷◌, ◌++◌, map, length, get_or, take, drop, set, Some, Ok, Result, sym, refl, ap, ◌∙◌, arith, length-set}
use Rattle.std.proofs.lemmas.List.{take_more_set, map_more, map_push, get_or-set_same, drop-set-lt}
use Rattle.std.proofs.lemmas.Option.{slice_get-get_or}
use Rattle.std.specs.List.{slice_get}
use Rattle.fault.specs.Refusals.{Refusal}
use Rattle.matroid.specs.Matroids.{Meaning}
use Rattle.source.specs.Supplies.{Supply}
use Rattle.promise.specs.Surveys.{State}
use Rattle.promise.specs.Calls.{Call, did, after}
use Rattle.promise.specs.Replies.{spent_call, spent_calls}
use Rattle.requests.specs.declared.carrying.Request.{Request}
use Rattle.requests.specs.Requests.{call_of, calls_of, reply_to}

-- the first i of the requests qs are carried out: t is the survey then, rs are the requests, and r is the last answer
pub record Carried {X : Type 0} (meaning : X → Supply) (keeps : X → ℕ → Bool) (origin : X → ℕ → ℕ) (m : Meaning) (s : State) (qs : List (Request X)) (i : ℕ) (t : State) (rs : List (Request X)) (r : Result (Unit {0}) Refusal) : Type 0 where
  pub survey : t ≡ after m s (calls_of meaning keeps (take i qs))
  pub same : length rs ≡ length qs
  pub done : calls_of meaning keeps (take i rs) ≡ spent_calls m s (calls_of meaning keeps (take i qs))
  pub left : drop i rs ≡ drop i qs
  pub none : i ≡ 0 → r ≡ Ok tt
  pub last : (k : ℕ) (q q' : Request X) → i ≡ suc k → slice_get qs k ≡ Some q → slice_get rs k ≡ Some q'
      → r ≡ reply_to meaning keeps origin m (after m s (calls_of meaning keeps (take k qs))) q q'

after_push : (m : Meaning) (s : State) (cs : List Call) (c : Call) → after m s (cs ++ (c ∷ [])) ≡ did m (after m s cs) c
after_push m s [] c = refl
after_push m s (x ∷ cs) c = after_push m (did m s x) cs c

spent_push : (m : Meaning) (s : State) (cs : List Call) (c : Call) → spent_calls m s (cs ++ (c ∷ [])) ≡ spent_calls m s cs ++ (spent_call m (after m s cs) c ∷ [])
spent_push m s [] c = refl
spent_push m s (x ∷ cs) c = ap (λ l. spent_call m s x ∷ l) (spent_push m (did m s x) cs c)

nth_drop : {X : Type 0} (xs : List X) (i : ℕ) → slice_get xs i ≡ slice_get (drop i xs) 0
nth_drop [] zero = refl
nth_drop [] (suc i) = refl
nth_drop (x ∷ xs) zero = refl
nth_drop (x ∷ xs) (suc i) = nth_drop xs i

drop_one : {X : Type 0} (xs ys : List X) (i : ℕ) → drop i xs ≡ drop i ys → drop (i + 1) xs ≡ drop (i + 1) ys
drop_one xs ys i e = sym (drop_drop 1 i xs) ∙ (ap (drop 1) e ∙ drop_drop 1 i ys)
  where
    drop_drop : {X : Type 0} (k i : ℕ) (xs : List X) → drop k (drop i xs) ≡ drop (i + k) xs
    drop_drop k zero xs = let z : 0 + k ≡ k = omega arith in ap (λ j. drop j xs) (sym z)
    drop_drop k (suc i) [] = nil k ∙ sym (nil (suc i + k))
      where
        nil : {X : Type 0} (k : ℕ) → drop {A = X} k [] ≡ []
        nil zero = refl
        nil (suc k) = refl
    drop_drop k (suc i) (x ∷ xs) = let z : suc (i + k) ≡ suc i + k = omega arith in drop_drop k i xs ∙ ap (λ j. drop j (x ∷ xs)) z

module _ {X : Type 0} (meaning : X → Supply) (keeps : X → ℕ → Bool) (origin : X → ℕ → ℕ) (m : Meaning) (s : State) (qs : List (Request X)) where
  abbrev call : Request X → Call
  call = call_of meaning keeps

  -- one more request, q, which is q' afterwards
  pub carried_more : (i : ℕ) (t t' : State) (rs : List (Request X)) (r r' : Result (Unit {0}) Refusal) (q q' : Request X)
      → Carried meaning keeps origin m s qs i t rs r → i < length rs → slice_get rs i ≡ Some q
      → t' ≡ did m t (call q) → call q' ≡ spent_call m t (call q) → r' ≡ reply_to meaning keeps origin m t q q'
      → Carried meaning keeps origin m s qs (i + 1) t' (set rs i q') r'
  carried_more i t t' rs r r' q q' c l here moved spent answer =
      let l' : i < length qs = omega (arith, c.same) in
      let at : slice_get qs i ≡ Some q = nth_drop qs i ∙ (ap (λ xs. slice_get xs 0) (sym c.left) ∙ (sym (nth_drop rs i) ∙ here)) in
      let is : get_or qs i q ≡ q = some_same (sym (slice_get-get_or qs i q l') ∙ at) in
      let calls : calls_of meaning keeps (take (i + 1) qs) ≡ calls_of meaning keeps (take i qs) ++ (call q ∷ []) =
      map_more call qs i q l' ∙ ap (λ x. map call (take i qs) ++ (call x ∷ [])) is in
      record {
        survey = moved ∙ (ap (λ u. did m u (call q)) c.survey ∙ (sym (after_push m s (calls_of meaning keeps (take i qs)) (call q)) ∙ ap (after m s) (sym calls)));
        same = length-set rs i q' ∙ c.same;
        done =
            ap (map call) (take_more_set rs i q' l) ∙ (map_push call (take i rs) q' ∙
            (ap (λ x. x ++ (call q' ∷ [])) c.done ∙
            (ap (λ x. spent_calls m s (calls_of meaning keeps (take i qs)) ++ (x ∷ [])) (spent ∙ ap (λ u. spent_call m u (call q)) c.survey) ∙
            (sym (spent_push m s (calls_of meaning keeps (take i qs)) (call q)) ∙ ap (spent_calls m s) (sym calls)))));
        left = drop-set-lt (i + 1) rs i q' (omega arith) ∙ drop_one rs qs i c.left;
        none = λ z. absurd (omega arith);
        last = λ k x x' z a b.
            let k-is : k ≡ i = omega arith in
            let p : x ≡ q = some_same (sym a ∙ (ap (slice_get qs) k-is ∙ at)) in
            let n : slice_get (set rs i q') i ≡ Some q' = slice_get-get_or (set rs i q') i q' (omega (arith, length-set rs i q')) ∙ ap (λ y. Some y) (get_or-set_same rs i q' q' l) in
            let p' : x' ≡ q' = some_same (sym b ∙ (ap (slice_get (set rs i q')) k-is ∙ n)) in
            answer ∙
            (ap (λ u. reply_to meaning keeps origin m u q q') c.survey ∙
            (ap (λ j. reply_to meaning keeps origin m (after m s (calls_of meaning keeps (take j qs))) q q') (sym k-is) ∙
            (ap (λ y. reply_to meaning keeps origin m (after m s (calls_of meaning keeps (take k qs))) y q') (sym p) ∙
            ap (λ y. reply_to meaning keeps origin m (after m s (calls_of meaning keeps (take k qs))) x y) (sym p'))));
      }
    where
      some_same : {A : Type 0} {x y : A} → Some x ≡ Some y → x ≡ y
      some_same h = cc
