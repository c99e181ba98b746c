-- The automatics of a function's block are numbered behind its parameters.
use Rattle.std.specs.Prelude.{◌≡◌, ℕ, Bool, true, false, List, length, Some, Ok}
use Rattle.p9_lang.specs.declared.tree.Kind.TheVariants as kind
use Rattle.p9_lang.specs.Trees.{node, none, more, Syntax, SyntaxRow}
use Rattle.p9_lang.specs.Parts.{is_declarator, kind_at}
use Rattle.p9_lang.specs.Modules.{Typed, TypedRow, typed_row}
use Rattle.p9_lang.specs.Files.{Typing, typed_file}
use Rattle.p9_cmean.specs.Declarations.{Definition, definition_of}
use Rattle.p9_cmean.specs.Union.{parameter_types}
use Rattle.p9_sound.specs.Automatics.{AreStatements, automatics_within, numbers, AreNumbered}

abbrev pub Either : Bool → (first second : Type 0) → Type 0
Either true first second = first
Either false first second = second

-- the last part of a function is a block
abbrev pub IsBody : Syntax → SyntaxRow → Type 0
IsBody (node kind.Block at parts) none = AreStatements parts
IsBody t others = ⊥

-- it stands directly behind the first declarator
abbrev pub HasBody : SyntaxRow → Type 0
HasBody none = ⊥
HasBody (more t none) = ⊥
HasBody (more t (more next others)) = Either (is_declarator (kind_at t)) (IsBody next others) (HasBody (more next others))

abbrev pub IsOrderly : Syntax → Type 0
IsOrderly (node (kind.Function spec) at parts) = HasBody parts
IsOrderly (node k at parts) = Unit {0}

abbrev pub AreOrderly : SyntaxRow → Type 0
AreOrderly none = Unit {0}
AreOrderly (more item items) = IsOrderly item × AreOrderly items

pub record IsNumbered (item : Typed) : Type 0 where
  pub definition : Definition
  pub is : definition_of item ≡ Some definition
  pub to : ℕ
  pub numbered : AreNumbered (length (parameter_types definition.name.type)) (numbers (automatics_within definition.block)) to

abbrev pub FunctionIsNumbered : Typed → Type 0
FunctionIsNumbered (node (kind.Function spec) label parts) = IsNumbered (node (kind.Function spec) label parts)
FunctionIsNumbered (node k label parts) = Unit {0}

abbrev pub FunctionsAreNumberedIn : TypedRow → Type 0
FunctionsAreNumberedIn none = Unit {0}
FunctionsAreNumberedIn (more item items) = FunctionIsNumbered item × FunctionsAreNumberedIn items

abbrev pub FunctionsAreNumbered : Type 0
FunctionsAreNumbered =
    (items : SyntaxRow) (marks : List (List ℕ)) (t : Typing) → typed_file items marks ≡ Ok t → AreOrderly items
    → FunctionsAreNumberedIn (typed_row t.types t.means 0 items)
