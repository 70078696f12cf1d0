-- The matroid in which every set is independent keeps the laws.
use Rattle.std.proofs.Common.{ℕ, refl}
use Rattle.matroid.specs.Matroids.{Laws, free}
use Rattle.matroid.proofs.Counts.{extra}

pub free_laws : (n : ℕ) → Laws (free n)
free_laws n = record {
  none = refl;
  part = λ S T p t. refl;
  exchange = λ S T s t l. let (x, b, has, new) = extra n S T l in (x, b, has, new, refl);
}
