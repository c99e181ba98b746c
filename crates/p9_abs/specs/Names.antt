-- Several modules, numbered from 0, and what they say of global names: which records there are of a
-- name, which of them define it, which definition is chosen, and which symbols a body names.
use Rattle.std.specs.Prelude.{◌≡◌, ◌⊎◌, ◌<◌, ℕ, Bool, true, false, List, Option, Some, None, slice_get, option_and_then, ◌==◌}
use Rattle.std.specs.List.{list_any}
use Rattle.p9_abs.specs.declared.modules.Body.{Body}
use Rattle.p9_abs.specs.declared.modules.Body.TheVariants.{Text, Data}
use Rattle.p9_abs.specs.declared.modules.Def.{Def}
use Rattle.p9_abs.specs.declared.modules.Symbol.{Symbol}
use Rattle.p9_abs.specs.declared.modules.AModule.{AModule}
use Rattle.p9_abs.specs.Modules.{is_definition, is_full, named_by_operand, named_by_piece}

-- Occurrences

-- the symbol record that these numbers name: a module's, and the symbol's among its symbols
abbrev pub symbol_at : List AModule → Def → Option Symbol
symbol_at ms d = option_and_then (λ m. slice_get m.symbols d.symbol) (slice_get ms d.module)

-- the global name has this record there
pub record Occurs (ms : List AModule) (name : List ℕ) (d : Def) (s : Symbol) : Type 0 where
  pub stands : symbol_at ms d ≡ Some s
  pub global : s.local ≡ false
  pub named : s.name ≡ name

-- an earlier module, or an earlier symbol of the same one
abbrev pub IsBefore : Def → Def → Type 0
IsBefore a b = (a.module < b.module) ⊎ ((a.module ≡ b.module) × (a.symbol < b.symbol))

abbrev pub IsNotAfter : Def → Def → Type 0
IsNotAfter a b = (a ≡ b) ⊎ IsBefore a b

-- Definitions

-- the name is defined there: by text, data or common
pub record Defines (ms : List AModule) (name : List ℕ) (d : Def) : Type 0 where
  pub symbol : Symbol
  pub occurs : Occurs ms name d symbol
  pub defining : is_definition symbol.body ≡ true

abbrev pub IsUndefined : List AModule → List ℕ → Type 0
IsUndefined ms name = (d : Def) → Defines ms name d → ⊥

pub record IsFirstDefinition (ms : List AModule) (name : List ℕ) (d : Def) : Type 0 where
  pub defines : Defines ms name d
  pub first : (e : Def) → Defines ms name e → IsNotAfter d e

-- the name's text or data definition, or where there is none its first common one
pub record IsChosen (ms : List AModule) (name : List ℕ) (d : Def) : Type 0 where
  pub defines : Defines ms name d
  pub common : is_full defines.symbol.body ≡ false → (e : Def) → (other : Defines ms name e) → (is_full other.symbol.body ≡ false) × IsNotAfter d e

-- Names in bodies

abbrev pub is_number : ℕ → Option ℕ → Bool
is_number k None = false
is_number k (Some n) = n == k

-- an instruction or a data piece of the body names symbol k
abbrev pub body_names : ℕ → Body → Bool
body_names k (Text def) = list_any (λ a. list_any (λ o. is_number k (named_by_operand o)) a.operands) def.code
body_names k (Data pieces) = list_any (λ p. is_number k (named_by_piece p)) pieces
body_names k _ = false

-- an instruction or a data piece of the module names symbol k
abbrev pub module_names : List Symbol → ℕ → Bool
module_names symbols k = list_any (λ s. body_names k s.body) symbols
