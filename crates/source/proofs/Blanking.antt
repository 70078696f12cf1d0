-- Places without a price hold no prices.
use Rattle.std.proofs.Common.{◌≡◌, ℕ, replicate, None, inl, inr}
use mathlib.Core.Path.{fun_ext}
use Rattle.std.proofs.lemmas.List.{get_or-replicate, get_or_past, length-replicate}
use Rattle.std.proofs.lemmas.Bool.{cases_lt}
use Rattle.source.specs.Records.{listed, blank}

pub blanking : (n : ℕ) → listed (replicate n None) ≡ blank
blanking n =
    fun_ext
    (λ e.
    elim (cases_lt e n) [
      | inl h ↦ get_or-replicate n e None None h
      | inr h ↦ get_or_past (replicate n None) e None (simp length-replicate h)
    ])
