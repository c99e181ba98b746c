use Rattle.std.proofs.Common.{ℕ, List, [], ap, ◌∙◌}
use Rattle.std.specs.Option.{option_map}
use Rattle.p9_lang.specs.Types.{TypeTree, Int, Nothing}
use Rattle.p9_lang.specs.Parts.{Enumerator}
use Rattle.p9_lang.specs.Typing.{has}
use Rattle.p9_operand.specs.Told.{told_constant}
use Rattle.p9_types.proofs.Shapes.{type_of_int}
use Rattle.p9_scopes.specs.State.{known_of}
use Rattle.p9_parts.specs.Told.{part_of}
use Rattle.p9_kinds.proofs.Answered.{judges_same}
use Rattle.p9_kinds.proofs.heads.enumerator.Goals as goal

pub returns : goal.returns
returns c =
    judges_same part_of c.added.result (known_of c.added.new.known)
    (ap (λ (t : TypeTree). has [] t Nothing (Enumerator c.in_ok-name.name (option_map told_constant c.args.value)) (known_of c.args.known.now)) type_of_int
    ∙ ap (λ (x : List ℕ). has [] Int Nothing (Enumerator x (option_map told_constant c.args.value)) (known_of c.args.known.now)) c.in_ok-name.ensures)
    c.added.ensures
