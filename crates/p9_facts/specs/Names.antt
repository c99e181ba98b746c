-- The symbols that a file names, in the order of their first lines.
use Rattle.std.specs.Prelude.{◌≡◌, ℕ, ◌==◌, Bool, ◌&&◌, List, [], ◌∷◌, ◌++◌, Option, Some, None, is_some, option_to_list, if◌then◌else◌}
use mathlib.Core.Bool.{beq}
use Rattle.std.specs.HashMap.{get}
use Rattle.std.specs.List.{position_from, flat_map}
use Rattle.p9_statement.specs.declared.operands.SymbolName.{SymbolName}
use Rattle.p9_statement.specs.declared.statements.Arguments.{Arguments}
use Rattle.p9_statement.specs.declared.statements.Arguments.TheVariants.{Zero, One, Two, Three}
use Rattle.p9_statement.specs.declared.statements.Statement.{Statement}
use Rattle.p9_statement.specs.declared.statements.Statement.TheVariants.{Text, Globl, Data, Signature, Instruction}
use Rattle.p9_statement.specs.declared.statements.Line.{Line}
use Rattle.p9_rows.specs.declared.rows.Row.{Row}
use Rattle.p9_facts.specs.declared.names.Key.{Key}
use Rattle.p9_facts.specs.declared.names.Names.{Names}
use Rattle.p9_facts.specs.Facts.{symbol_in, symbol_at}

-- The symbols of a line, from left to right

abbrev pub names_in : Arguments → List SymbolName
names_in Zero = []
names_in (One a) = option_to_list (symbol_in a)
names_in (Two a b) = option_to_list (symbol_in a) ++ option_to_list (symbol_in b)
names_in (Three a b c) = option_to_list (symbol_in a) ++ option_to_list (symbol_in b) ++ option_to_list (symbol_in c)

abbrev pub names_of_statement : Option Statement → List SymbolName
names_of_statement None = []
names_of_statement (Some (Text s frame)) = s ∷ []
names_of_statement (Some (Globl s size)) = s ∷ []
names_of_statement (Some (Data s o d)) = s ∷ option_to_list (symbol_at d)
names_of_statement (Some (Signature s token)) = s ∷ []
names_of_statement (Some (Instruction op given)) = names_in given

abbrev pub names_of_content : Option Line → List SymbolName
names_of_content None = []
names_of_content (Some line) = names_of_statement line.statement

abbrev pub names_of : Row → List SymbolName
names_of row = names_of_content row.content

-- The symbols of a file, each once

abbrev pub same_symbol : SymbolName → SymbolName → Bool
same_symbol a b = (a.word == b.word) && beq a.local b.local

-- a symbol's place among others
abbrev pub number_in : List SymbolName → SymbolName → Option ℕ
number_in symbols s = position_from (same_symbol s) 0 symbols

abbrev pub with_name : List SymbolName → SymbolName → List SymbolName
with_name known s = if is_some (number_in known s) then known else known ++ s ∷ []

abbrev pub with_names : (known named : List SymbolName) → List SymbolName
with_names known [] = known
with_names known (s ∷ rest) = with_names (with_name known s) rest

abbrev pub symbols_of : List Row → List SymbolName
symbols_of rows = with_names [] (flat_map names_of rows)

-- Names as they are held

abbrev pub same_key : Key → Key → Bool
same_key a b = (a.word == b.word) && beq a.local b.local

abbrev pub key_of : SymbolName → Key
key_of s = record { word = s.word; local = s.local }

abbrev pub number_held : Names → SymbolName → Option ℕ
number_held names s = get same_key names.numbers (key_of s)

-- each symbol's number is its place in the list
abbrev pub IsNumbered : Names → Type 0
IsNumbered names = (q : SymbolName) → number_held names q ≡ number_in names.list.items q
