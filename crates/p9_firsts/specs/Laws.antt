-- The laws of first contents.
use Rattle.std.specs.Prelude.{◌≡◌, ℕ, true, false, List, Ok}
use Rattle.p9_lang.specs.declared.module.Module.{Module}
use Rattle.p9_lang.specs.Trees.{SyntaxRow, row_of}
use Rattle.p9_lang.specs.Types.{TypeTree, Meant}
use Rattle.p9_lang.specs.Layout.{size_of, is_complete}
use Rattle.p9_lang.specs.TagRules.{NoneContainsItself}
use Rattle.p9_lang.specs.Initialisers.{first_writes}
use Rattle.p9_lang.specs.Files.{Typing, typed_file, IsTyped}
use Rattle.p9_lang.specs.Modules.{Typed, Source, typed_row, source_of}
use Rattle.p9_lang.specs.Symbols.{symbols}
use Rattle.p9_tree.specs.Means.{data_symbols}
use Rattle.p9_lower.specs.Names.{Setting}
use Rattle.p9_lower.specs.Modules.{setting_of}
use Rattle.p9_lower.specs.Premises.{NameIsKnown, first_is_sound, firsts_are_sound}
use Rattle.p9_firsts.specs.Whole.{BodiesAreFull, texts_have_bytes, row_has_bytes, meaning_is_found, names_are_found, row_is_found, RowTextsAreWhole, RowIsWhole, DeclarationsAgree}

-- What an initialiser writes first into an object of a complete type lies inside it, and is of the kind
-- that its type holds.
abbrev pub WritesAreSound : Type 0
WritesAreSound =
    (setting : Setting) (type : TypeTree) (value : Typed) → NoneContainsItself setting.tags → BodiesAreFull setting.tags
    → is_complete setting.tags type ≡ true → texts_have_bytes value ≡ true → names_are_found setting value ≡ true
    → first_is_sound setting (size_of setting.tags type) (first_writes setting.tags type value) ≡ true

-- The first contents of a module's objects are so, where the objects are whole.
abbrev pub ContentsAreSound : Type 0
ContentsAreSound =
    (m : Source) → NoneContainsItself m.tags → BodiesAreFull m.tags → RowTextsAreWhole m.items → RowIsWhole m.tags false m.items → DeclarationsAgree m
    → row_has_bytes m.items ≡ true → row_is_found (setting_of m) m.items ≡ true
    → firsts_are_sound (setting_of m) (data_symbols (symbols m)) ≡ true

-- A structure of a file that is typed has members where it has a body.
abbrev pub BodiesHaveMembers : Type 0
BodiesHaveMembers =
    (items : SyntaxRow) (marks : List (List ℕ)) (t : Typing) → typed_file items marks ≡ Ok t → BodiesAreFull t.tags

-- A text of a file that is typed has the type of its bytes in the end.
abbrev pub TextsAreTyped : Type 0
TextsAreTyped =
    (items : SyntaxRow) (marks : List (List ℕ)) (t : Typing) → typed_file items marks ≡ Ok t
    → RowTextsAreWhole (typed_row t.types t.means 0 items)

-- In the end, what is declared with an initialiser has a complete type.
abbrev pub ObjectsAreComplete : Type 0
ObjectsAreComplete =
    (items : SyntaxRow) (marks : List (List ℕ)) (t : Typing) → typed_file items marks ≡ Ok t
    → RowIsWhole t.tags false (typed_row t.types t.means 0 items)

-- A name that the law of trees knows has a symbol.
abbrev pub KnownNamesAreFound : Type 0
KnownNamesAreFound =
    (setting : Setting) (type : TypeTree) (means : Meant) → NameIsKnown setting.symbols type means → meaning_is_found setting means ≡ true

-- So the first contents of a typed module are sound, where its objects have the types that their names
-- have first, its texts have bytes and its names have symbols.
abbrev pub FirstsAreSound : Type 0
FirstsAreSound =
    (m : Module) → IsTyped m → DeclarationsAgree (source_of m)
    → row_has_bytes (row_of m.tree.items) ≡ true → row_is_found (setting_of (source_of m)) (source_of m).items ≡ true
    → firsts_are_sound (setting_of (source_of m)) (data_symbols (symbols (source_of m))) ≡ true
