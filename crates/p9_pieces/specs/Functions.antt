-- Functions as they are held.
use Rattle.p9_pieces.specs.declared.functions.Function.{Function}
use Rattle.p9_pieces.specs.Callees.{callee_of}
use Rattle.p9_pieces.specs.Ways.{Scope}

-- what the lines of its instructions depend on
abbrev pub scope : Function → Scope
scope f = record { setting = f.setting; first = f.first; words = f.words.items; callee = callee_of f.callees.now f.setting.unit }
