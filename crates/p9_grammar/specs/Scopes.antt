-- The names in scope: for each level that is open its names, the innermost level and the newest name
-- first, each with whether it is a typedef's.
use Rattle.std.specs.Prelude.{ℕ, suc, Bool, true, false, List, [], ◌∷◌, Option, Some, None, if◌then◌else◌}
use Rattle.std.specs.Str.{bytes_eq}
use Rattle.p9_lang.specs.declared.tree.Kind.{Kind}
use Rattle.p9_lang.specs.declared.tree.Kind.TheVariants as kind
use Rattle.p9_grammar.specs.declared.scope.ScopeName.{ScopeName}
use Rattle.p9_grammar.specs.Trees.{Tree, node, Trees, none, more, count}
use Rattle.p9_grammar.specs.Symbols.{Symbol, Write, Part, Enter, Role, Plain, Declares, Begins, right_side}

abbrev pub Level : Type 0
Level = List ScopeName

abbrev pub Scope : Type 0
Scope = List Level

-- the newest declaration counts
abbrev pub is_type_in : Level → (name : List ℕ) → (outside : Bool) → Bool
is_type_in [] x outside = outside
is_type_in (d ∷ ds) x outside = if bytes_eq d.name x then d.is_type else is_type_in ds x outside

abbrev pub is_type : Scope → (name : List ℕ) → Bool
is_type [] x = false
is_type (level ∷ scope) x = is_type_in level x (is_type scope x)

abbrev pub declare : Scope → (name : List ℕ) → (is_type : Bool) → Scope
declare [] x is_type = (record { name = x; is_type = is_type } ∷ []) ∷ []
declare (level ∷ scope) x is_type = (record { name = x; is_type = is_type } ∷ level) ∷ scope

abbrev pub declare_if : Scope → Option (List ℕ) → (is_type : Bool) → Scope
declare_if scope None is_type = scope
declare_if scope (Some x) is_type = declare scope x is_type

abbrev pub innermost : Scope → Level
innermost [] = []
innermost (level ∷ scope) = level

abbrev pub outer : Scope → Scope
outer [] = []
outer (level ∷ scope) = scope

-- What a declarator tells: its name, if it has one, and the names that the parameter list next to it
-- declares.
pub record Told : Type 0 where
  pub name : Option (List ℕ)
  pub level : Level

abbrev pub nothing : Told
nothing = record { name = None; level = [] }

-- whether it is a name, maybe in parentheses
abbrev pub is_name : Tree → Bool
is_name (node (kind.DeclName x) at parts) = true
is_name (node kind.DeclParens at (more n ns)) = is_name n
is_name _ = false

-- the parameter list of a function is the one next to its name
abbrev pub listing : Trees → Told → Level → Told
listing none told level = told
listing (more n ns) told level = record { name = told.name; level = if is_name n then level else told.level }

-- what a node tells, by what its first part tells and the innermost level of names at its end
abbrev pub tells : Kind → Trees → Told → Level → Told
tells (kind.DeclName x) parts told level = record { name = Some x; level = [] }
tells (kind.Star volatiles) none told level = nothing
tells (kind.Star volatiles) (more n ns) told level = told
tells kind.DeclParens parts told level = told
tells (kind.Brackets true sized) parts told level = told
tells (kind.Params true void_word) parts told level = listing parts told level
tells _ parts told level = nothing

-- a block, the parameters and a function end their level, a constant is declared at its end
abbrev pub leave : Kind → Scope → Scope
leave kind.Block scope = outer scope
leave (kind.Params inner void_word) scope = outer scope
leave (kind.Function spec) scope = outer scope
leave (kind.EnumConst x valued) scope = declare scope x false
leave _ scope = scope

-- what a part adds
abbrev pub add : Role → Told → Scope → Scope
add Plain told scope = scope
add (Declares is_type) told scope = declare_if scope told.name is_type
add (Begins is_type) told scope = told.level ∷ declare_if scope told.name is_type

abbrev mutual
  -- the names in scope behind a node
  pub after : Tree → Scope → Scope
  after (node kind at parts) scope = leave kind (through (right_side kind (count parts)) parts scope)

  -- before the node leaves its level
  pub through : List Symbol → Trees → Scope → Scope
  through [] parts scope = scope
  through (Write t ∷ symbols) parts scope = through symbols parts scope
  through (Enter ∷ symbols) parts scope = through symbols parts ([] ∷ scope)
  through (Part slot role ∷ symbols) none scope = through symbols none scope
  through (Part slot role ∷ symbols) (more n ns) scope = through symbols ns (add role (told n scope) (after n scope))

  pub told : Tree → Scope → Told
  told (node kind at parts) scope =
      tells kind parts (told_first parts scope) (innermost (through (right_side kind (count parts)) parts scope))

  pub told_first : Trees → Scope → Told
  told_first none scope = nothing
  told_first (more n ns) scope = told n scope
