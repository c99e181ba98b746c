use Rattle.std.proofs.Common.{take}
use Rattle.p9_names.proofs.Agreed.{Agrees}
use Rattle.p9_names.proofs.agreement.check_agreement.Given as goal

abbrev pub invariant-loop-at : goal.invariant-loop-at
invariant-loop-at l = Agrees l.linked (take l.at l.globals) l.noted.signed.entries l.noted.sized.entries
