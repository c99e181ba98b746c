use Rattle.std.proofs.Common.{refl, arith}
use Rattle.p9_grammar.proofs.laws.small_file.Goals as goal

pub returns : goal.returns
returns c = (((refl, tt, tt, (refl, refl, refl), ((refl, omega arith, tt, tt, tt), tt)), tt), refl)
