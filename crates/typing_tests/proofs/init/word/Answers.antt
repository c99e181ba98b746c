use Rattle.std.proofs.Common.{◌≤◌, ◌+◌, IsTrue, refl, sym, subst, arith}
use Rattle.p9_lang.specs.Conversions.{is_scalar}
use Rattle.p9_lang.specs.Layout.{size_of}
use Rattle.p9_types.proofs.Shapes.{type_of_int}
use Rattle.typing_tests.proofs.init.word.Goals as goal

pub returns : goal.returns
returns c = λ _. record { scalar = subst (λ t. IsTrue (is_scalar t)) (sym type_of_int) refl; within = λ tags. subst (λ t. c.args.offset + size_of tags t ≤ 16) (sym type_of_int) (omega (arith, c.requires)) }
