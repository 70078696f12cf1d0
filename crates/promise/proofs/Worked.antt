-- The worked cases, by computation.
use Rattle.std.proofs.Common.{refl}
use Rattle.promise.specs.Cases.{Worked}

pub worked : Worked
worked = record {
  below = refl;
  above = refl;
  meeting = refl;
  equal = refl;
  amid = refl;
  overlapping = refl;
  twins = refl;
  three = refl;
  known_rival = refl;
  full = refl;
  xor = refl;
  empty = refl;
}
