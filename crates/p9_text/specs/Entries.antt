-- The numbers of entries and instructions in the order of the text: each function has a number for its entry, and behind
-- it one for each of its instructions.
use Rattle.std.specs.Prelude.{ℕ, ◌+◌, ◌==◌, ◌&&◌, Bool, Option, Some, None, if◌then◌else◌, List, [], ◌∷◌}
use Rattle.indexmap.specs.IndexMap.{get}
use Rattle.p9_abs.specs.declared.modules.Def.{Def}
use Rattle.p9_abs.specs.Runs.{Routine}
use Rattle.p9_abs.specs.Programs.{is_routine}
use Rattle.p9_text.specs.Places.{places_of}
use Rattle.p9_text.specs.declared.entries.Key.{Key}
use Rattle.p9_text.specs.declared.entries.Entries.{Entries}

-- the number of the entry of the function that a definition is, where functions have numbers from n on
abbrev pub entry_number : List Routine → ℕ → Def → Option ℕ
entry_number [] n d = None
entry_number (r ∷ rs) n d = if is_routine d r then Some n else entry_number rs (n + places_of r) d

-- Entries as they are held

abbrev pub same_key : Key → Key → Bool
same_key a b = (a.unit == b.unit) && (a.symbol == b.symbol)

abbrev pub key_of : Def → Key
key_of d = record { unit = d.«module»; symbol = d.symbol }

-- what a key gets where one key is noted
abbrev pub noted : Key → ℕ → Key → Option ℕ
noted key n q = if same_key q key then Some n else None

abbrev pub held : Entries → Def → Option ℕ
held entries d = get same_key entries.map (key_of d)
