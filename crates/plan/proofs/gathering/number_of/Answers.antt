use Rattle.std.proofs.Common.{◌≡◌, ℕ, zero, suc, ◌+◌, ◌*◌, ◌%◌, ◌^◌, ◌<◌, Bool, false, cond, eqb, List, [], ◌∷◌, ◌++◌, length, get_or, sym, refl, ap, ◌∙◌, add-one, arith, rules, length-append}
use borrow.Author.Tests.{tests}
use Rattle.std.proofs.iter.Yields.{fronts, slice_gives}
use Rattle.std.proofs.lemmas.Fn.{fold_over}
use Rattle.std.proofs.lemmas.List.{get_or_append_left, map-append}
use Rattle.std.proofs.Math.Seq.{get_or-append_seam}
use Rattle.sheet.specs.Code.{ones}
use Rattle.plan.specs.Meanings.{numeral, word_number}
use Rattle.plan.proofs.gathering.number_of.Goals as goal

-- a numeral goes by its first n bits
same_numeral : (w v : ℕ → Bool) (n : ℕ) → ((i : ℕ) → i < n → w i ≡ v i) → numeral w n ≡ numeral v n
same_numeral w v zero e = refl
same_numeral w v (suc n) e =
    ap (λ k. (2 * k + cond (w n) 1 0) % 2 ^ 64) (same_numeral w v n (λ i l. e i (omega arith))) ∙ ap (λ b. (2 * numeral v n + cond b 1 0) % 2 ^ 64) (e n (omega arith))

-- a word with one bit more
word_more : (w : List Bool) (b : Bool) → word_number (w ++ (b ∷ [])) ≡ (2 * word_number w + cond b 1 0) % 2 ^ 64
word_more w b =
    let bits : ℕ → Bool = λ i. get_or (w ++ (b ∷ [])) i false in
    ap (numeral bits) (length-append w (b ∷ []) ∙ add-one (length w)) ∙
    (ap (λ k. (2 * k + cond (bits (length w)) 1 0) % 2 ^ 64) (same_numeral bits (λ i. get_or w i false) (length w) (λ i l. get_or_append_left w (b ∷ []) false i l)) ∙
    ap (λ d. (2 * word_number w + cond d 1 0) % 2 ^ 64) (get_or-append_seam w b [] false))

pub returns : goal.returns
returns c =
    fold_over fronts (λ y. y.now) _ (λ ys a. a ≡ word_number (ones ys)) _
    (λ ys a x b f' j k.
    let e : b ≡ (a * 2 % 2 ^ 64 + cond (eqb x.now 49) 1 0) % 2 ^ 64 = search (rules, tests) in
    let m = word_more (ones ys) (eqb x.now 49) in
    (e ∙ ((let s : (a * 2 % 2 ^ 64 + cond (eqb x.now 49) 1 0) % 2 ^ 64 ≡ (2 * word_number (ones ys) + cond (eqb x.now 49) 1 0) % 2 ^ 64 = omega arith in s) ∙ (sym m ∙ ap word_number (sym (map-append (λ y. eqb y 49) ys (x.now ∷ []))))), refl))
    c.iter.result c.iter.result.rest.now 0 c.fold.result (slice_gives c.iter.result) refl c.fold.ensures.ran ∙
    ap (λ l. word_number (ones l)) c.iter.ensures.rest
