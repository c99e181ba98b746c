-- Objects that translate modules which join: the addresses that a placing gives to what C knows, and
-- that each function has its code.
use Rattle.std.specs.Prelude.{◌≡◌, ◌≢◌, ◌≤◌, ℕ, suc, ◌+◌, ◌&&◌, Bool, Option, Some, None, option_map, unwrap_or, if◌then◌else◌, List, [], ◌∷◌, map, length, slice_get}
use Rattle.p9_abs.specs.declared.modules.Def.{Def}
use Rattle.p9_abs.specs.declared.modules.Symbol.{Symbol}
use Rattle.p9_abs.specs.declared.modules.AModule.{AModule}
use Rattle.p9_abs.specs.BuiltIn.{linked}
use Rattle.p9_abs.specs.Runs.{Routine}
use Rattle.p9_abs.specs.Programs.{Numbered, records, chosen, routines_of, data_objects, offset_in, Placing, IsPlacing, address_of_definition, addresses_of}
use Rattle.p9_object.specs.Laws.{IsObject}
use Rattle.p9_lang.specs.Names.{same_name}
use Rattle.p9_lang.specs.Modules.{Source}
use Rattle.p9_cmean.specs.Cells.{FunctionName, Global, Local}
use Rattle.p9_cmean.specs.Joins.{Join}
use Rattle.p9_cmean.specs.Union.{Entry, makes_object, entries_from, number_from, union_of}
use Rattle.p9_cmean.specs.CRun.{callee, NoCallee, functions_of}
use Rattle.p9_sim.specs.Memory.{Ground}
use Rattle.p9_sim.specs.Translating.{IsTranslation}
use Rattle.p9_compose.specs.Calling.{HasCode}

-- one object a module, which is a translation of it
pub record AreTranslations (modules : List Source) (outs : List AModule) : Type 0 where
  pub count : length outs ≡ length modules
  pub objects : (i : ℕ) (out : AModule) → slice_get outs i ≡ Some out → IsObject out
  pub each : (i : ℕ) (source : Source) (out : AModule) → slice_get modules i ≡ Some source → slice_get outs i ≡ Some out → IsTranslation source out

-- FUNCTIONS: a global name stands for its chosen definition, a local one for its module's symbol

abbrev pub is_local_named : List ℕ → Symbol → Bool
is_local_named name s = s.local && same_name name s.name

abbrev pub symbols_in : Option AModule → List Symbol
symbols_in None = []
symbols_in (Some out) = out.symbols

abbrev pub local_definition : List AModule → (owner : ℕ) → List ℕ → Option Def
local_definition outs owner name =
    option_map (λ k. record { «module» = owner; symbol = k }) (number_from 0 (is_local_named name) (symbols_in (slice_get outs owner)))

abbrev pub function_definition : List AModule → FunctionName → Option Def
function_definition outs (Global name) = chosen (linked outs) name
function_definition outs (Local owner name) = local_definition outs owner name

-- OBJECTS: the static objects of the union are made by entries; records have the same places

-- the places in a list of those that make an object, counted from this number
abbrev pub makers_from : (all before : List Entry) → (place : ℕ) → List Entry → List ℕ
makers_from all before place [] = []
makers_from all before place (entry ∷ next) =
    if makes_object all before entry then place ∷ makers_from all (entry ∷ before) (suc place) next
    else makers_from all (entry ∷ before) (suc place) next

abbrev pub makers_of : List Source → List ℕ
makers_of modules = makers_from (entries_from 0 modules) [] 0 (entries_from 0 modules)

abbrev pub object_address : List AModule → Placing → Option Numbered → ℕ
object_address outs p None = 0
object_address outs p (Some r) = p.data_start + unwrap_or (offset_in 0 (data_objects (linked outs)) r.def) 0

-- what a placing of the objects gives to C
abbrev pub ground_of : List Source → List AModule → Placing → Ground
ground_of modules outs p = record {
  function = λ name. address_of_definition outs p (function_definition outs name);
  statics = map (λ place. object_address outs p (slice_get (records outs) place)) (makers_of modules);
  data_start = p.data_start;
}

-- no function of the program has more instructions than this
abbrev pub HasMost : List AModule → (most : ℕ) → Type 0
HasMost outs most = (f : ℕ) (r : Routine) → slice_get (routines_of outs) f ≡ Some r → length r.def.code ≤ most

-- THE LAW: each function that the union of the modules has, the system calls among them, has its code
-- in the program, which is right
abbrev pub CodesAreRight : Type 0
CodesAreRight =
    (modules : List Source) (outs : List AModule) (p : Placing) (most : ℕ) → Join modules → AreTranslations modules outs → IsPlacing outs p → HasMost outs most
    → (name : FunctionName) → callee (union_of modules) name ≢ NoCallee
    → HasCode (addresses_of outs p) (routines_of outs) (ground_of modules outs p) (functions_of (union_of modules)) most name
