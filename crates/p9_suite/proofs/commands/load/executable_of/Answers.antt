use Rattle.std.proofs.Common.{List, [], Ok, Err, refl, subst}
use Rattle.p9_abs.specs.declared.modules.AModule.{AModule}
use Rattle.p9_base.specs.Calls.{Call}
use Rattle.p9_suite.proofs.Modules.{executable}
use Rattle.p9_suite.specs.commands.Load.{LoadsModules, loads_modules, not_loaded}
use Rattle.p9_suite.specs.declared.answer.Refusal.TheVariants.{Load}
use Rattle.p9_suite.proofs.commands.load.executable_of.Goals as goal

pub returns-in-Ok : goal.returns-in-Ok
returns-in-Ok c =
    subst (λ (ms : List AModule). LoadsModules {C = Call} ms (Ok c.in-Ok.loaded.bytes) []) c.modules.view_is
    (loads_modules c.in-Ok.loaded.bytes (executable c.modules.inside.list.items c.in-Ok.loaded c.in-Ok.loaded.bytes c.in-Ok.ensures.loadable c.in-Ok.ensures.loads c.in-Ok.ensures.placed c.in-Ok.ensures.runs refl))

pub returns-in-Err : goal.returns-in-Err
returns-in-Err c =
    subst (λ (ms : List AModule). LoadsModules {C = Call} ms (Err (Load c.in-Err.why)) []) c.modules.view_is (not_loaded c.in-Err.why c.in-Err.ensures.refused)
