-- The whole promise.
use Rattle.std.proofs.Common.{ℕ, List}
use Rattle.entry.specs.Entries.{Entry, Proper}
use Rattle.matroid.specs.Matroids.{Meaning, Laws}
use Rattle.promise.specs.Calls.{Call}
use Rattle.promise.specs.Claims.{Promise}
use Rattle.promise.proofs.Reports.{right, few, some_possible, halved}
use Rattle.promise.proofs.Repeats.{repeatable}
use Rattle.promise.proofs.Enough.{enough}
use Rattle.promise.proofs.Uniqueness.{apart_after}

pub promised : (m : Meaning) → Laws m → (E : ℕ → Entry) → ((i : ℕ) → Proper (E i)) → (cs : List Call) → Promise m E cs
promised m laws E proper cs = record {
  right = right m laws E proper cs;
  few = few m laws E proper cs;
  repeatable = λ P ds hc hd nc nd. repeatable m P laws E proper cs ds hc hd nc nd;
  possible = some_possible m laws E proper cs;
  halved = halved m laws E proper cs;
  sufficient = enough m laws E proper cs;
  apart = apart_after m E cs;
}
