-- The symbol entries of an executable: one for each function, then one for each datum and one for each common object, in
-- the order of addresses.
use Rattle.std.specs.Prelude.{ℕ, Bool, true, false, Option, Some, None, List, [], ◌∷◌, ◌++◌, map, flat_map}
use Rattle.p9_abs.specs.declared.modules.AModule.{AModule}
use Rattle.p9_abs.specs.declared.modules.Def.{Def}
use Rattle.p9_abs.specs.declared.modules.Symbol.{Symbol}
use Rattle.p9_abs.specs.BuiltIn.{linked}
use Rattle.p9_abs.specs.Names.{symbol_at}
use Rattle.p9_abs.specs.Runs.{Routine}
use Rattle.p9_abs.specs.Programs.{Placing, Numbered, routines_of, routine_number, placed_at, inits_of, bss_of}
use Rattle.p9_aout.specs.declared.format.AoutSym.{AoutSym}
use Rattle.p9_symbols.specs.declared.entries.Section.{Section}
use Rattle.p9_symbols.specs.declared.entries.Section.TheVariants.{Text, Data, Bss}

-- T, D and B, and t, d and b for local symbols
abbrev pub letter_of : Section → (is_local : Bool) → ℕ
letter_of Text false = 84
letter_of Data false = 68
letter_of Bss false = 66
letter_of Text true = 116
letter_of Data true = 100
letter_of Bss true = 98

-- the address of a definition
abbrev pub place_of : List AModule → Placing → Def → ℕ
place_of modules p d = placed_at modules p d (routine_number (routines_of modules) 0 d)

-- of a definition at an address, whose record this is
abbrev pub entry_of : Section → (at : ℕ) → Option Symbol → List AoutSym
entry_of section at None = []
entry_of section at (Some s) = record { value = at; letter = letter_of section s.local; name = s.name } ∷ []

abbrev pub entries_of : (Def → Option Symbol) → (Def → ℕ) → Section → List Def → List AoutSym
entries_of symbol place section defs = flat_map (λ (d : Def). entry_of section (place d) (symbol d)) defs

abbrev pub routine_def : Routine → Def
routine_def r = record { «module» = r.unit; symbol = r.symbol }

abbrev pub defs_of : List Numbered → List Def
defs_of rs = map (λ (r : Numbered). r.def) rs

abbrev pub symbol_entries : List AModule → Placing → List AoutSym
symbol_entries modules p =
    (let all = linked modules in
    let entries = entries_of (symbol_at all) (place_of modules p) in
    entries Text (map routine_def (routines_of modules)) ++ (entries Data (defs_of (inits_of all)) ++ entries Bss (defs_of (bss_of all))))
