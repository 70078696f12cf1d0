-- A quota pays for no more prices than its number.
use Rattle.std.proofs.Common.{ℕ, ◌≤◌, Some, None, Option, arith}
use Rattle.source.specs.Calls.{payments, Covers}
use Rattle.source.specs.Supplies.{Supply}
use Rattle.source.proofs.Lastings.{lasting}
use Rattle.layers.specs.Layers.{capped, limited, Bounded}

within : (n m : ℕ) (a : Option ℕ) → Covers (capped n a) m → m ≤ n
within n m (Some k) h = omega arith
within n m None h = h

pub bounded : (σ : Supply) (n : ℕ) → Bounded σ n
bounded σ n cs = within n (payments (limited σ n) cs) σ.allowance (lasting (limited σ n) cs).covered
