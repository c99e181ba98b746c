-- What the first contents of objects rest on: structures that have members, texts of bytes, names that
-- have symbols, and objects of complete types.
use Rattle.std.specs.Prelude.{◌≡◌, ℕ, Bool, true, ◌&&◌, List, [], ◌∷◌, slice_get, Option, Some, None}
use Rattle.p9_lang.specs.declared.tree.Kind.{Kind}
use Rattle.p9_lang.specs.declared.tree.Kind.TheVariants as kind
use Rattle.p9_lang.specs.Trees.{Labelled, Row, node, none, more}
use Rattle.p9_lang.specs.Types.{TypeTree, TagTree, Tags, Meant, Nothing, Outer, Static, Auto, EnumValue, TypeName}
use Rattle.p9_lang.specs.Layout.{is_complete}
use Rattle.p9_lang.specs.Parts.{is_declarator}
use Rattle.p9_lang.specs.Typing.{text_type}
use Rattle.p9_lang.specs.Scopes.{system_type}
use Rattle.p9_lang.specs.Initialisers.{text_bytes}
use Rattle.p9_lang.specs.Modules.{Label, Typed, TypedRow, Source}
use Rattle.p9_lang.specs.Symbols.{Declaration, Initial, kind_of_node, name_label, initialiser, is_declaration, first_type, declarations, declarations_of}
use Rattle.p9_lower.specs.Names.{Setting, outer_symbol, static_symbol}
use Rattle.p9_lower.specs.Premises.{are_bytes, is_found}

-- a body has members
abbrev pub BodiesAreFull : Tags → Type 0
BodiesAreFull tags = (i : ℕ) (tag : TagTree) → slice_get tags i ≡ Some tag → tag.members ≡ Some [] → ⊥

-- TEXTS have bytes

abbrev pub text_has_bytes : Kind → Bool
text_has_bytes (kind.Text texts) = are_bytes (text_bytes texts)
text_has_bytes k = true

abbrev mutual
  pub texts_have_bytes : {L : Type 0} → Labelled L → Bool
  texts_have_bytes (node k label parts) = text_has_bytes k && row_has_bytes parts

  pub row_has_bytes : {L : Type 0} → Row L → Bool
  row_has_bytes none = true
  row_has_bytes (more first others) = texts_have_bytes first && row_has_bytes others

-- NAMES and texts that stand for objects and functions have symbols

abbrev pub meaning_is_found : Setting → Meant → Bool
meaning_is_found setting Nothing = true
meaning_is_found setting (Outer name) = is_found (outer_symbol setting.symbols name)
meaning_is_found setting (Static number) = is_found (static_symbol setting.symbols number)
meaning_is_found setting (Auto number) = true
meaning_is_found setting (EnumValue value) = true
meaning_is_found setting (TypeName type) = true

abbrev pub node_is_found : Setting → Kind → Meant → Bool
node_is_found setting (kind.Name x) means = meaning_is_found setting means
node_is_found setting (kind.Text texts) means = meaning_is_found setting means
node_is_found setting k means = true

abbrev mutual
  pub names_are_found : Setting → Typed → Bool
  names_are_found setting (node k label parts) = node_is_found setting k label.means && row_is_found setting parts

  pub row_is_found : Setting → TypedRow → Bool
  row_is_found setting none = true
  row_is_found setting (more first others) = names_are_found setting first && row_is_found setting others

-- A TEXT's type is that of its bytes and a zero byte

abbrev pub TextIsWhole : Kind → TypeTree → Type 0
TextIsWhole (kind.Text texts) type = type ≡ text_type texts
TextIsWhole k type = Unit {0}

abbrev mutual
  pub TextsAreWhole : Typed → Type 0
  TextsAreWhole (node k label parts) = TextIsWhole k label.type × RowTextsAreWhole parts

  pub RowTextsAreWhole : TypedRow → Type 0
  RowTextsAreWhole none = Unit {0}
  RowTextsAreWhole (more first others) = TextsAreWhole first × RowTextsAreWhole others

-- OBJECTS: what is declared with an initialiser has a complete type

abbrev pub DeclaredIsWhole : Tags → (value : Option Typed) → Option Label → Type 0
DeclaredIsWhole tags None label = Unit {0}
DeclaredIsWhole tags (Some value) None = Unit {0}
DeclaredIsWhole tags (Some value) (Some label) = is_complete tags label.type ≡ true

abbrev mutual
  pub ObjectsAreWhole : Tags → Typed → Type 0
  ObjectsAreWhole tags (node k label parts) = RowIsWhole tags (is_declaration k) parts

  pub RowIsWhole : Tags → (are_declared : Bool) → TypedRow → Type 0
  RowIsWhole tags are_declared none = Unit {0}
  RowIsWhole tags are_declared (more t ts) =
      ((are_declared && is_declarator (kind_of_node t)) ≡ true → DeclaredIsWhole tags (initialiser ts) (name_label t))
      × (ObjectsAreWhole tags t × RowIsWhole tags are_declared ts)

-- an object has the type that its name has first

abbrev pub FilledAs : (first : TypeTree) → List Declaration → Type 0
FilledAs first [] = Unit {0}
FilledAs first (d ∷ ds) = ((value : Typed) → d.way ≡ Initial value → d.type ≡ first) × FilledAs first ds

abbrev pub DeclarationsAgree : Source → Type 0
DeclarationsAgree m =
    (x : List ℕ)
    → FilledAs (first_type (system_type x) (declarations_of x (declarations m.items))) (declarations_of x (declarations m.items))
