use Rattle.std.proofs.Common.{[], ap}
use Rattle.p9_lang.specs.Parts.{Declarator}
use Rattle.p9_lang.specs.Typing.{typeless}
use Rattle.p9_scopes.specs.State.{known_of}
use Rattle.p9_parts.specs.Told.{part_of}
use Rattle.p9_kinds.proofs.Answered.{judges_same}
use Rattle.p9_kinds.proofs.steps.stepped.Goals as goal

pub returns : goal.returns
returns c =
    judges_same part_of c.sound.result (known_of c.sound.new.known)
    (ap (λ steps. typeless [] (Declarator steps) (known_of c.args.known.now)) c.in_ok-steps.ensures) c.sound.ensures
