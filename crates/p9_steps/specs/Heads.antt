-- What is read before a symbol's body.
use Rattle.std.specs.Prelude.{ℕ, Bool, not, ◌&&◌, List, Option, option_map, if◌then◌else◌}
use Rattle.std.specs.List.{list_any, list_all}
use Rattle.p9_abs.specs.declared.modules.Symbol.{Symbol}
use Rattle.p9_object.specs.Machine as machine
use Rattle.p9_steps.specs.declared.places.Kind as kinds
use Rattle.p9_steps.specs.Places.{kind}

abbrev pub kind_option : Option kinds.Kind → Option machine.Kind
kind_option found = option_map kind found

-- a name of the length that was told
abbrev pub name_read : List Symbol → (local : Bool) → machine.Kind → (name : List ℕ) → machine.Turn machine.SymbolPlace Symbol
name_read seen local k name =
    machine.stay_if (list_all machine.is_graphic name && not (list_any (machine.is_named local name) seen)) (machine.AtSignatureLength local k name)

-- a signature of the length that was told
abbrev pub signature_read : (local : Bool) → machine.Kind → (name sig : List ℕ) → machine.Turn machine.SymbolPlace Symbol
signature_read local k name sig =
    if list_all machine.is_of_signature sig then machine.with_signature local k name sig else machine.Bad
