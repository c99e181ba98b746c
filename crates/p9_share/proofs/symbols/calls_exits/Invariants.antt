use Rattle.std.proofs.Common.{◌≡◌, length}
use Rattle.std.specs.List.{list_any}
use Rattle.p9_share.specs.Symbols.{is_exits}
use Rattle.p9_share.proofs.symbols.calls_exits.Given as goal

abbrev pub invariant-loop-rest : goal.invariant-loop-rest
invariant-loop-rest l = list_any is_exits l.rest ≡ list_any is_exits l.fn.statements

abbrev pub decreases-loop-rest : goal.decreases-loop-rest
decreases-loop-rest l = length l.rest
