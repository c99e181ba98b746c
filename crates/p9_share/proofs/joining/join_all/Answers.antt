use Rattle.std.proofs.Common.{sym, subst, List}
use Rattle.p9_abs.specs.declared.modules.AModule.{AModule}
use Rattle.p9_abs.specs.BuiltIn.{linked}
use Rattle.p9_names.specs.Answers.{IsRefusal}
use Rattle.p9_share.proofs.Valid.{all_valid}
use Rattle.p9_share.proofs.Joined.{ok_other, err_other}
use Rattle.p9_share.proofs.Together.{files_join}
use Rattle.p9_share.proofs.joining.join_all.Goals as goal

-- src/joining.rt:44:11
pub resolve-requires-clause-valid : goal.resolve-requires-clause-valid
resolve-requires-clause-valid c = all_valid _ _ c.in_ok-modules.ensures c.requires.form

-- src/joining.rt:42:1
pub returns-in-Ok-clause-joined : goal.returns-in-Ok-clause-joined
returns-in-Ok-clause-joined c = files_join _ _ c.in_ok-modules.ensures c.requires.form c.in-Ok.ensures.joined

-- src/joining.rt:42:1
pub returns-in-Ok-clause-refused_exactly : goal.returns-in-Ok-clause-refused_exactly
returns-in-Ok-clause-refused_exactly c = λ fault n r. ok_other _ tt fault _ (c.in-Ok.ensures.refused_exactly fault n (subst (λ (ms : List AModule). IsRefusal (linked ms) fault) (sym c.in_ok-modules.ensures) r))

-- src/joining.rt:29:1
pub returns-clause-refused : goal.returns-clause-refused
returns-clause-refused c = subst (λ (ms : List AModule). IsRefusal (linked ms) c.in-Err.fault) c.in_ok-modules.ensures c.in-Err.ensures.refused

-- src/joining.rt:29:1
pub returns-clause-refused_exactly : goal.returns-clause-refused_exactly
returns-clause-refused_exactly c = λ fault n r. err_other c.in-Err.fault fault _ (c.in-Err.ensures.refused_exactly fault n (subst (λ (ms : List AModule). IsRefusal (linked ms) fault) (sym c.in_ok-modules.ensures) r))
