use Rattle.std.proofs.Common.{◌≡◌, ◌++◌, length}
use Rattle.p9_load.specs.Addresses.{entered_addresses}
use Rattle.p9_load.proofs.addresses.entered_addresses.Given as goal

abbrev pub invariant-loop-rest : goal.invariant-loop-rest
invariant-loop-rest l =
    l.places.items ++ entered_addresses l.moved (length l.lines) l.rest ≡ entered_addresses l.moved (length l.lines) l.olds

abbrev pub decreases-loop-rest : goal.decreases-loop-rest
decreases-loop-rest l = length l.rest
