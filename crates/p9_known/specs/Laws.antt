-- The laws of what is known of a typed file.
use Rattle.std.specs.Prelude.{◌≡◌, ℕ, true, List, Ok}
use Rattle.p9_lang.specs.Trees.{SyntaxRow}
use Rattle.p9_lang.specs.Modules.{TypedRow, typed_row}
use Rattle.p9_lang.specs.Files.{Typing, typed_file}
use Rattle.p9_lower.specs.Names.{Setting}
use Rattle.p9_sound.specs.Constants.{AllNamesAreIntegers}
use Rattle.p9_sound.specs.Made.{RowIsKnown}
use Rattle.p9_firsts.specs.Whole.{row_is_found}
use Rattle.p9_formed.specs.Functions.{FunctionsAreItems}

-- A row that is known has symbols for all its names and texts.
abbrev pub KnownRowsAreFound : Type 0
KnownRowsAreFound = (setting : Setting) (row : TypedRow) → RowIsKnown setting row → row_is_found setting row ≡ true

-- A name of a typed file that stands for an enumeration constant has an integer type.
abbrev pub ItemsNameIntegers : Type 0
ItemsNameIntegers =
    (items : SyntaxRow) (marks : List (List ℕ)) (t : Typing) → typed_file items marks ≡ Ok t → FunctionsAreItems items
    → AllNamesAreIntegers (typed_row t.types t.means 0 items)
