use Rattle.std.proofs.Common.{◌≡◌, length, flat_map}
use Rattle.p9_first.specs.Form.{is_among}
use Rattle.p9_form.specs.Sharing.{names_in}
use Rattle.p9_share.proofs.symbols.is_used.Given as goal

abbrev pub invariant-loop-rest : goal.invariant-loop-rest
invariant-loop-rest l = is_among (flat_map names_in l.rest) l.name ≡ is_among (flat_map names_in l.fn.statements) l.name

abbrev pub decreases-loop-rest : goal.decreases-loop-rest
decreases-loop-rest l = length l.rest
