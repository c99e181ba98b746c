-- What a node keeps while its parts are judged, where it has no braces.
use Rattle.std.specs.Prelude.{List, None}
use Rattle.p9_lang.specs.Types.{TypeTree}
use Rattle.p9_lang.specs.Rules.{Rule}
use Rattle.p9_lang.specs.Declarators.{Storage}
use Rattle.p9_lang.specs.Parts.{Context, Frame}

abbrev pub framed : Context → (base : TypeTree) → Storage → List Rule → Frame
framed c base storage rules = record { context = c; base = base; tag = None; braces = 0; storage = storage; rules = rules }
