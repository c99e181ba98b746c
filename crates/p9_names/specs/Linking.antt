-- What several modules say of global names when they are linked: which records go against each
-- other, who uses a name, and the table of the definitions.
use Rattle.std.specs.Prelude.{◌≡◌, ◌⊎◌, ◌<◌, ◌≤◌, ℕ, Bool, true, false, List, Option, Some, IsSome, slice_get, All, AllPairs, bytes_eq}
use Rattle.std.specs.Map.{lookup}
use Rattle.p9_abs.specs.declared.modules.Body.{Body}
use Rattle.p9_abs.specs.declared.modules.Body.TheVariants.{Declared, Used}
use Rattle.p9_abs.specs.declared.modules.Def.{Def}
use Rattle.p9_abs.specs.declared.modules.Symbol.{Symbol}
use Rattle.p9_abs.specs.declared.modules.AModule.{AModule}
use Rattle.p9_abs.specs.Names.{Occurs, IsBefore, IsNotAfter, Defines, IsUndefined, IsFirstDefinition, IsChosen, module_names}
use Rattle.p9_abs.specs.Programs.{chosen}
use Rattle.p9_names.specs.declared.rules.Rule.{Rule}
use Rattle.p9_names.specs.Rules.{breaks, is_main, main_name}

-- Two records that break a rule

-- the name occurs in an earlier and in a later module, and the two break the rule
pub record Conflicts (rule : Rule) (ms : List AModule) (name : List ℕ) (d e : Def) : Type 0 where
  pub early : Symbol
  pub late : Symbol
  pub early_occurs : Occurs ms name d early
  pub late_occurs : Occurs ms name e late
  pub ordered : d.module < e.module
  pub broken : breaks rule early late ≡ true

abbrev pub IsKept : Rule → List AModule → Type 0
IsKept rule ms = (name : List ℕ) (d e : Def) → Conflicts rule ms name d e → ⊥

-- the name breaks the rule in modules i and j: no other conflict has an earlier second place, nor
-- has this place one with an earlier module
pub record IsFirstConflict (rule : Rule) (ms : List AModule) (name : List ℕ) (i j : ℕ) : Type 0 where
  pub early : Def
  pub late : Def
  pub conflict : Conflicts rule ms name early late
  pub least : (other : List ℕ) (d e : Def) → Conflicts rule ms other d e → IsBefore late e ⊎ ((e ≡ late) × (early.module ≤ d.module))
  pub early_module : early.module ≡ i
  pub late_module : late.module ≡ j

-- main

pub record HasMain (ms : List AModule) : Type 0 where
  pub place : Def
  pub first : IsFirstDefinition ms main_name place
  pub fits : is_main first.defines.symbol ≡ true

pub record HasWrongMain (ms : List AModule) (i : ℕ) : Type 0 where
  pub place : Def
  pub first : IsFirstDefinition ms main_name place
  pub misfits : is_main first.defines.symbol ≡ false
  pub in_module : place.module ≡ i

-- Uses

-- a record of a name that is used, or declared and named in the module, whose symbols these are
abbrev pub is_use : List Symbol → ℕ → Body → Bool
is_use symbols k Used = true
is_use symbols k Declared = module_names symbols k
is_use symbols k _ = false

-- the module at the place uses the global name that stands there
pub record Uses (ms : List AModule) (name : List ℕ) (d : Def) : Type 0 where
  pub user : AModule
  pub symbol : Symbol
  pub number : slice_get ms d.module ≡ Some user
  pub occurs : Occurs ms name d symbol
  pub used : is_use user.symbols d.symbol symbol.body ≡ true

abbrev pub AllResolved : List AModule → Type 0
AllResolved ms = (name : List ℕ) (d : Def) → Uses ms name d → (e : Def) × Defines ms name e

pub record IsUnresolved (ms : List AModule) (name : List ℕ) (d : Def) : Type 0 where
  pub uses : Uses ms name d
  pub undefined : IsUndefined ms name

pub record IsFirstUnresolved (ms : List AModule) (name : List ℕ) (i : ℕ) : Type 0 where
  pub place : Def
  pub unresolved : IsUnresolved ms name place
  pub least : (other : List ℕ) (e : Def) → IsUnresolved ms other e → IsNotAfter place e
  pub in_module : place.module ≡ i

-- The table

-- the one name's first definition stands before the other's
pub record IsDefinedBefore (ms : List AModule) (name other : List ℕ) : Type 0 where
  pub place : Def
  pub later : Def
  pub first : IsFirstDefinition ms name place
  pub other_first : IsFirstDefinition ms other later
  pub ordered : IsBefore place later

-- one entry for each name that is defined, with its chosen place, in the order of the first definitions
pub record IsTable (ms : List AModule) (entries : List (List ℕ × Def)) : Type 0 where
  pub chosen : All (λ entry. IsChosen ms entry.0 entry.1) entries
  pub complete : (name : List ℕ) (d : Def) → Defines ms name d → IsSome (lookup (bytes_eq name) entries)
  pub ordered : AllPairs (λ a b. IsDefinedBefore ms a.0 b.0) entries

-- each entry is the definition that the run of the modules goes by
abbrev pub ChoosesAll : List AModule → List (List ℕ × Def) → Type 0
ChoosesAll ms entries = All (λ entry. chosen ms entry.0 ≡ Some entry.1) entries
