use Rattle.std.proofs.Common.{◌≡◌, length}
use Rattle.std.specs.Option.{option_or}
use Rattle.indexmap.specs.IndexMap.{get}
use Rattle.p9_abs.specs.declared.modules.Def.{Def}
use Rattle.p9_text.specs.Entries.{same_key, key_of}
use Rattle.p9_expand.specs.Base.{spot_offset}
use Rattle.p9_symbols.proofs.offsets.note_all.Given as goal

abbrev pub invariant-loop-rest : goal.invariant-loop-rest
invariant-loop-rest l =
    (d : Def) → option_or (get same_key l.map (key_of d)) (spot_offset l.rest d) ≡ option_or (get same_key l.initial.map (key_of d)) (spot_offset l.spots d)

abbrev pub decreases-loop-rest : goal.decreases-loop-rest
decreases-loop-rest l = length l.rest
