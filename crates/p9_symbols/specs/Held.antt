-- Where definitions lie, as it is held.
use Rattle.std.specs.Prelude.{ℕ, ◌+◌, Option, Some, None, option_and_then, unwrap_or, List, slice_index}
use Rattle.std.specs.Option.{option_or}
use Rattle.indexmap.specs.IndexMap.{get}
use Rattle.p9_abs.specs.declared.modules.Def.{Def}
use Rattle.p9_abs.specs.declared.modules.Symbol.{Symbol}
use Rattle.p9_abs.specs.Names.{symbol_at}
use Rattle.p9_text.specs.Entries.{same_key, key_of, held}
use Rattle.p9_pieces.specs.Callees.{named_by}
use Rattle.p9_symbols.specs.declared.offsets.Offsets.{Offsets}
use Rattle.p9_symbols.specs.declared.layout.Layout.{Layout}

-- the offset of a datum or common object
abbrev pub offset_held : Offsets → Def → Option ℕ
offset_held offsets d = get same_key offsets.map (key_of d)

-- a function lies at its entry's address, data behind their start
abbrev pub placed_by : (places : List ℕ) → (data_start : ℕ) → (offset number : Option ℕ) → ℕ
placed_by places data_start offset None = data_start + unwrap_or offset 0
placed_by places data_start offset (Some n) = slice_index places n

abbrev pub place_held : Layout → Def → ℕ
place_held l d = placed_by l.places.now l.data_start (offset_held l.offsets d) (held l.entries d)

abbrev pub address_by : (Def → ℕ) → Option Def → ℕ
address_by place None = 0
address_by place (Some d) = place d

-- the address of what a symbol stands for; 0 of what stands for nothing
abbrev pub address_held : Layout → Def → ℕ
address_held l d = address_by (place_held l) (option_and_then (named_by l.defs.now.entries d) (symbol_at l.program d))
