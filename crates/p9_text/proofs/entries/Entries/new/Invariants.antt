use Rattle.std.proofs.Common.{◌≡◌, length}
use Rattle.std.specs.Option.{option_or}
use Rattle.indexmap.specs.IndexMap.{get}
use Rattle.p9_abs.specs.declared.modules.Def.{Def}
use Rattle.p9_text.specs.Entries.{entry_number, same_key, key_of}
use Rattle.p9_text.proofs.entries.Entries.new.Given as goal

abbrev pub invariant-loop-rest : goal.invariant-loop-rest
invariant-loop-rest l = (d : Def) → option_or (get same_key l.map (key_of d)) (entry_number l.rest l.number d) ≡ entry_number l.routines 0 d

abbrev pub decreases-loop-rest : goal.decreases-loop-rest
decreases-loop-rest l = length l.rest
