-- The run of a program comes to what C comes to.
use Rattle.std.proofs.Common.{◌≡◌, ◌<◌, ℕ, Some, List, length, slice_get, refl, ap, ◌∙◌, arith}
use Rattle.std.specs.Prelude.{option_and_then, codes}
use Rattle.p9_base.specs.Words.{IsWord}
use Rattle.p9_abs.specs.declared.modules.Symbol as abs
use Rattle.p9_abs.specs.declared.modules.AModule.{AModule}
use Rattle.p9_abs.specs.Names.{symbol_at}
use Rattle.p9_abs.specs.BuiltIn.{system_symbol, used_main, linked}
use Rattle.p9_abs.specs.Runs.{Routine, routine_at}
use Rattle.p9_abs.specs.Programs.{Placing, IsPlacing, stands_for, address_of_definition, addresses_of, routines_of, start_state}
use Rattle.p9_lang.specs.Modules.{Source}
use Rattle.p9_cmean.specs.Joins.{Join}
use Rattle.p9_cmean.specs.SystemCalls.{Exits}
use Rattle.p9_cmean.specs.Union.{union_of}
use Rattle.p9_cmean.specs.CRun.{main_name, source_run}
use Rattle.p9_systems.specs.Systems.{system_def}
use Rattle.p9_start.specs.Starting.{start_def, HasStart}
use Rattle.p9_start.proofs.Starting.{start_is_right}
use Rattle.p9_program.specs.Linking.{AreTranslations, ground_of}
use Rattle.p9_program.specs.Whole.{builtin_address, first_map, ProgramsAreRight, BudgetIsEnough}
use Rattle.p9_program.proofs.Joined.{linked-builtin}
use Rattle.p9_program.proofs.Routines.{IsFunctionAt, function-at, own-text}
use Rattle.p9_program.proofs.Codes.{codes_are_right}
use Rattle.p9_program.proofs.Beginning.{programs_begin}

module _ (modules : List Source) (outs : List AModule) (tr : AreTranslations modules outs) (join : Join modules) (p : Placing) (placing : IsPlacing outs p) where
  abbrev exits_symbol : abs.Symbol
  exits_symbol = system_symbol (codes "exits") 8 (codes "(*c;)v")

  exits-at : symbol_at (linked outs) (record { «module» = length outs; symbol = 4 }) ≡ Some exits_symbol
  exits-at = linked-builtin outs 4 exits_symbol refl

  exits-function : IsFunctionAt modules outs tr join p placing (address_of_definition outs p (Some (record { «module» = length outs; symbol = 4 }))) (record { «module» = length outs; symbol = 4 }) (system_def Exits)
  exits-function = function-at modules outs tr join p placing (record { «module» = length outs; symbol = 4 }) exits_symbol (system_def Exits) exits-at refl

  placed-words : (f : ℕ) (r : Routine) → slice_get (routines_of outs) f ≡ Some r → (k : ℕ) → k < length r.def.code → IsWord (p.instruction f k)
  placed-words f r e k l = let c = ((placing.functions f r e).instructions k l).2 in omega (arith, c)

  pub has-start : HasStart (addresses_of outs p) (routines_of outs) (builtin_address outs p 1) (let g = ground_of modules outs p in g.function main_name) (builtin_address outs p 3)
  has-start =
      let k = exits-function in
      record {
        unit = length outs;
        symbol = 0;
        first = refl;
        placed = λ i l. placed-words 0 (record { unit = length outs; symbol = 0; def = start_def }) refl i l;
        names_arguments = refl;
        names_main = ap (λ o. address_of_definition outs p (option_and_then (stands_for (linked outs) (record { «module» = length outs; symbol = 2 })) o)) (linked-builtin outs 2 used_main refl);
        names_text = refl;
        exits_number = k.number;
        exits_unit = length outs;
        exits_symbol = 4;
        exits_found = ap (λ o. routine_at (addresses_of outs p) (routines_of outs) 0 (address_of_definition outs p o)) (own-text modules outs tr join p placing (record { «module» = length outs; symbol = 4 }) exits_symbol (system_def Exits) exits-at refl) ∙ k.found;
        exits_is = k.is;
        exits_placed = λ i l. placed-words k.number (record { unit = length outs; symbol = 4; def = system_def Exits }) k.is i l;
      }

pub programs_are_right : ProgramsAreRight
unfolding source_run
programs_are_right modules outs p most join tr placing has below input is_below bytes turns =
    start_is_right (addresses_of outs p) (routines_of outs) (ground_of modules outs p) (union_of modules) most (builtin_address outs p 1) (builtin_address outs p 3) (first_map modules outs p) input (start_state outs p below input)
    (has-start modules outs tr join p placing) (λ name n. codes_are_right modules outs p most join tr placing has name n) (programs_begin modules outs p join tr placing below input is_below bytes) turns

pub budget_is_enough : BudgetIsEnough
budget_is_enough nodes turns copied n h = omega (arith, h)
