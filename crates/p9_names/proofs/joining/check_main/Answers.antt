use Rattle.std.proofs.Common.{◌≡◌, sym, arith, rules}
use Rattle.std.proofs.lemmas.Grind.{common_steps}
use Rattle.p9_names.specs.Rules.{main_name}
use Rattle.p9_names.proofs.Answering.{main_missing}
use Rattle.p9_names.proofs.joining.check_main.Goals as goal

pub returns-in-None-clause-err : goal.returns-in-None-clause-err
returns-in-None-clause-err c =
    let named : c.in_ok-map_err.field-0.items ≡ main_name = first_of (search rules, grind (arith, common_steps)) in
    main_missing c.args.linked.now c.args.globals.now c.in_ok-map_err.field-0.items c.requires.linkable c.requires.listed named (sym c.in-None.ensures)
