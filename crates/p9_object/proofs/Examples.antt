-- Small objects, computed.
use Rattle.std.proofs.Common.{refl}
use Rattle.p9_object.specs.Examples.{SmallObjects}

pub small_objects : SmallObjects
small_objects = record { returns = refl; adds = refl; cut = refl; more = refl; magic = refl; version = refl }
