-- The declarations of a block and the parts of a function, as they stand in a module's tree.
use Rattle.std.specs.Prelude.{ℕ, if◌then◌else◌, List, [], ◌∷◌, ◌++◌, Option, Some, None}
use Rattle.p9_lang.specs.declared.tree.Kind.TheVariants as kind
use Rattle.p9_lang.specs.Types.{Meant, Nothing, Outer, Static, Auto, EnumValue, TypeName}
use Rattle.p9_lang.specs.Trees.{node, none, more}
use Rattle.p9_lang.specs.Modules.{Label, Typed, TypedRow}
use Rattle.p9_lang.specs.Parts.{is_declarator}
use Rattle.p9_lang.specs.Symbols.{kind_of_node, name_label, initialiser}
use Rattle.p9_cmean.specs.Automatics.{Declared}

-- A declarator that declares an automatic: its number, the node of its name, and its initialiser if
-- it has one
pub record Automatic : Type 0 where
  pub number : ℕ
  pub name : Label
  pub initialiser : Option Typed

-- block statics and typedefs do nothing where they stand
abbrev pub automatic : Option Label → Option Typed → List Automatic
automatic None initial = []
automatic (Some name) initial = by name.means
  where
    by : Meant → List Automatic
    by (Auto number) = record { number = number; name = name; initialiser = initial } ∷ []
    by Nothing = []
    by (Outer x) = []
    by (Static number) = []
    by (EnumValue value) = []
    by (TypeName type) = []

-- of the parts of a declaration; an initialiser stands directly behind its declarator
abbrev pub automatics_in : TypedRow → List Automatic
automatics_in none = []
automatics_in (more part others) =
    (if is_declarator (kind_of_node part) then automatic (name_label part) (initialiser others) else []) ++ automatics_in others

-- the automatics that a declaration declares; a statement declares none
abbrev pub declared_by : Typed → List Automatic
declared_by (node (kind.Declaration spec inits) label parts) = automatics_in parts
declared_by (node k label parts) = []

-- the automatics of a block, in the order of their declarations
abbrev pub declared_in : TypedRow → List Automatic
declared_in none = []
declared_in (more first others) = declared_by first ++ declared_in others

abbrev pub declaration_of : Automatic → Declared
declaration_of a = record { number = a.number; type = a.name.type }

-- a function's item: its node, the node of its name, and its block, which is the last of its parts
pub record Definition : Type 0 where
  pub label : Label
  pub name : Label
  pub block : Typed

abbrev pub defined_by : Label → Option Label → Typed → Option Definition
defined_by label None block = None
defined_by label (Some name) block = Some (record { label = label; name = name; block = block })

abbrev pub definition_in : Label → TypedRow → Option Definition
definition_in label none = None
definition_in label (more block none) = None
definition_in label (more part (more next others)) =
    if is_declarator (kind_of_node part) then defined_by label (name_label part) next
    else definition_in label (more next others)

abbrev pub definition_of : Typed → Option Definition
definition_of (node (kind.Function spec) label parts) = definition_in label parts
definition_of (node k label parts) = None
