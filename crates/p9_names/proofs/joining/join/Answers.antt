use Rattle.std.proofs.Common.{List, [], ◌∷◌, ◌++◌, ap, ◌∙◌}
use Rattle.std.proofs.lemmas.Result.{err_from_is_err_and}
use Rattle.p9_abs.specs.declared.modules.AModule.{AModule}
use Rattle.p9_names.proofs.Answering.{linkable_all, main_refused, use_refused, agree_refused}
use Rattle.p9_names.proofs.joining.join.Goals as goal

pub definitions-requires-clause-linkable : goal.definitions-requires-clause-linkable
definitions-requires-clause-linkable c =
    linkable_all c.new-linked.result c.args.modules.now.items c.in_ok-last.last (c.new-linked.ensures ∙ ap (λ (ms : List AModule). ms ++ c.in_ok-last.last ∷ []) c.deref.ensures.value) c.in_ok-last.ensures.exactly c.requires.valid c.requires.count c.requires.small

pub check_main-requires-clause-linkable : goal.check_main-requires-clause-linkable
check_main-requires-clause-linkable c =
    linkable_all c.new-linked.result c.args.modules.now.items c.in_ok-last.last (c.new-linked.ensures ∙ ap (λ (ms : List AModule). ms ++ c.in_ok-last.last ∷ []) c.deref.ensures.value) c.in_ok-last.ensures.exactly c.requires.valid c.requires.count c.requires.small

pub check_uses-requires-clause-linkable : goal.check_uses-requires-clause-linkable
check_uses-requires-clause-linkable c =
    linkable_all c.new-linked.result c.args.modules.now.items c.in_ok-last.last (c.new-linked.ensures ∙ ap (λ (ms : List AModule). ms ++ c.in_ok-last.last ∷ []) c.deref.ensures.value) c.in_ok-last.ensures.exactly c.requires.valid c.requires.count c.requires.small

pub check_agreement-requires-clause-linkable : goal.check_agreement-requires-clause-linkable
check_agreement-requires-clause-linkable c =
    linkable_all c.new-linked.result c.args.modules.now.items c.in_ok-last.last (c.new-linked.ensures ∙ ap (λ (ms : List AModule). ms ++ c.in_ok-last.last ∷ []) c.deref.ensures.value) c.in_ok-last.ensures.exactly c.requires.valid c.requires.count c.requires.small

pub returns-in_err-check_main-clause-refused : goal.returns-in_err-check_main-clause-refused
returns-in_err-check_main-clause-refused c =
    let p = err_from_is_err_and c.from_residual-in_err-check_main.result c.from_residual-in_err-check_main.ensures.1 in
    rw (p.1, p.2) (main_refused c.new-linked.result c.args.modules.now.items c.in_ok-last.last c.in_err-check_main.field-0.0 (c.new-linked.ensures ∙ ap (λ (ms : List AModule). ms ++ c.in_ok-last.last ∷ []) c.deref.ensures.value) c.in_ok-last.ensures.exactly c.in_ok-defs.ensures.once c.in_err-check_main.ensures.err)

pub returns-in_err-check_uses-clause-refused : goal.returns-in_err-check_uses-clause-refused
returns-in_err-check_uses-clause-refused c =
    let p = err_from_is_err_and c.from_residual-in_err-check_uses.result c.from_residual-in_err-check_uses.ensures.1 in
    rw (p.1, p.2) (use_refused c.new-linked.result c.args.modules.now.items c.in_ok-last.last c.in_err-check_uses.field-0.0 (c.new-linked.ensures ∙ ap (λ (ms : List AModule). ms ++ c.in_ok-last.last ∷ []) c.deref.ensures.value) c.in_ok-last.ensures.exactly c.in_ok-defs.ensures.once c.in_ok-check_main.ensures.ok c.in_err-check_uses.ensures.err)

pub returns-in_err-check_agreement-clause-refused : goal.returns-in_err-check_agreement-clause-refused
returns-in_err-check_agreement-clause-refused c =
    let p = err_from_is_err_and c.from_residual-in_err-check_agreement.result c.from_residual-in_err-check_agreement.ensures.1 in
    rw (p.1, p.2) (agree_refused c.new-linked.result c.args.modules.now.items c.in_ok-last.last c.in_err-check_agreement.field-0.0 (c.new-linked.ensures ∙ ap (λ (ms : List AModule). ms ++ c.in_ok-last.last ∷ []) c.deref.ensures.value) c.in_ok-last.ensures.exactly c.in_ok-defs.ensures.once c.in_ok-check_main.ensures.ok c.in_ok-check_uses.ensures.ok c.in_err-check_agreement.ensures.err)
