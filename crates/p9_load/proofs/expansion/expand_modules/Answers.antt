use Rattle.std.proofs.Common.{◌≡◌, Result, Err, sym, subst, arith}
use Rattle.p9_load.specs.declared.expansion.Expansion.{Expansion}
use Rattle.p9_load.specs.declared.fault.LoadFault.{LoadFault}
use Rattle.p9_load.specs.Faults.{of_link, of_place, of_expand}
use Rattle.p9_load.proofs.Exactly.{IsOneOf, link-exact, place-exact, expand-exact, none-refused, loadable}
use Rattle.p9_load.proofs.expansion.expand_modules.Goals as goal

pub returns-in_err-table-clause-refused_exactly : goal.returns-in_err-table-clause-refused_exactly
returns-in_err-table-clause-refused_exactly c = λ fault n r.
    (let e : c.from_residual.result ≡ Err (of_link c.in_err-table.field-0.0) = grind arith in
    subst (λ (x : Result Expansion LoadFault). IsOneOf Expansion x fault LoadFault.Memory) (sym e)
    (link-exact c.args.modules.now.items c.in_err-table.field-0.0 c.in_err-table.ensures.refused_exactly c.in_err-table.ensures.joined_exactly fault n r))

pub returns-in_err-places-clause-refused_exactly : goal.returns-in_err-places-clause-refused_exactly
returns-in_err-places-clause-refused_exactly c = λ fault n r.
    (let e : c.from_residual-in_err-places.result ≡ Err (of_place c.in_err-places.field-0.0) = grind arith in
    subst (λ (x : Result Expansion LoadFault). IsOneOf Expansion x fault LoadFault.Memory) (sym e)
    (place-exact c.args.modules.now.items c.in_ok-table.table c.in_err-places.field-0.0 c.in_ok-table.ensures.refused_exactly c.in_err-places.ensures.refused_exactly c.in_err-places.ensures.placed_exactly fault n r))

pub returns-in_err-program-clause-refused_exactly : goal.returns-in_err-program-clause-refused_exactly
returns-in_err-program-clause-refused_exactly c = λ fault n r.
    (let e : c.from_residual-in_err-program.result ≡ Err (of_expand c.in_err-program.field-0.0) = grind arith in
    subst (λ (x : Result Expansion LoadFault). IsOneOf Expansion x fault LoadFault.Memory) (sym e)
    (expand-exact c.args.modules.now.items c.in_ok-table.table c.in_ok-places.places c.in_err-program.field-0.0 c.in_ok-table.ensures.refused_exactly c.in_ok-places.ensures.refused_exactly c.in_err-program.ensures.refused_exactly fault n r))

pub returns-clause-loadable : goal.returns-clause-loadable
returns-clause-loadable c = loadable c.args.modules.now.items c.in_ok-program.program c.in_ok-places.places.data_size c.in_ok-places.places.bss_size
    c.in_ok-table.ensures.joined c.in_ok-places.ensures.data_size c.in_ok-places.ensures.bss_size c.in_ok-places.ensures.fits c.in_ok-program.ensures.refused_exactly

pub returns-clause-refused_exactly : goal.returns-clause-refused_exactly
returns-clause-refused_exactly c = none-refused c.args.modules.now.items c.in_ok-table.table c.in_ok-places.places c.in_ok-program.program _
    c.in_ok-table.ensures.refused_exactly c.in_ok-places.ensures.refused_exactly c.in_ok-program.ensures.refused_exactly
