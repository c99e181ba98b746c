use Rattle.std.proofs.Common.{◌≡◌, ◌≤◌, ◌++◌, length, take, drop}
use Rattle.p9_r3k.specs.Delayed.{least}
use Rattle.p9_load.specs.Addresses.{entered_numbers}
use Rattle.p9_load.proofs.addresses.entered_numbers.Given as goal

abbrev pub invariant-loop-left : goal.invariant-loop-left
invariant-loop-left l = record {
  within : l.left ≤ length l.moved;
  least_is : l.least ≡ least l.count (drop l.left l.moved);
  done : l.numbers.items ≡ take l.left l.moved ++ entered_numbers l.count (drop l.left l.moved);
}

abbrev pub decreases-loop-left : goal.decreases-loop-left
decreases-loop-left l = l.left
