use Rattle.std.proofs.Common.{◌≡◌, Bool, true, false, List, ℕ, refl, sym, ap, ◌∙◌, subst}
use Rattle.p9_lex.specs.declared.token.Token.{Token}
use Rattle.p9_cpp.specs.Macros as s
use Rattle.p9_cpp.specs.Reading.{IsUse, flags_of}
use Rattle.p9_cpp.proofs.Using.{marked, hidden_stands, known_used}
use Rattle.p9_cpp.proofs.uses.use_of.Goals as goal

pub returns-then-is_marked-clause-used : goal.returns-then-is_marked-clause-used
returns-then-is_marked-clause-used c = λ names flags.
    let k = c.in-Some-look_up.known in
    let f = c.in-Some-look_up.ensures in (
      hidden_stands c.args.table.now.entries names k c.in-Some.name.now c.args.kind.now c.args.left.now c.in-Some.ensures
          (marked c.args.table.now.entries names k c.in-Some.name.now c.args.hidden.now true f.name f.place flags c.if-is_marked.ensures),
      refl,
    )

pub returns-in-None-params-clause-used : goal.returns-in-None-params-clause-used
returns-in-None-params-clause-used c = λ names flags.
    let k = c.in-Some-look_up.known in
    let f = c.in-Some-look_up.ensures in
    let name = c.in-Some.name.now in
    let free = marked c.args.table.now.entries names k name c.args.hidden.now false f.name f.place flags c.if-is_marked.ensures in (
      known_used c.args.table.now.entries names k name c.args.kind.now c.args.left.now c.in-Some.ensures free f.value
          ∙ ap (λ o. s.use_of_params name k.definition.now o c.args.left.now) c.in-None-params.is ∙ ap (λ x. s.Plain x k.definition.now) (sym f.name),
      refl,
    )

pub returns-in-None-params-clause-found : goal.returns-in-None-params-clause-found
returns-in-None-params-clause-found c = λ names flags.
    let k = c.in-Some-look_up.known in
    let f = c.in-Some-look_up.ensures in
    (f.place, marked c.args.table.now.entries names k k.name.now c.args.hidden.now false refl f.place flags c.if-is_marked.ensures)

pub returns-in-Some-params-clause-used : goal.returns-in-Some-params-clause-used
returns-in-Some-params-clause-used c = λ names flags.
    let k = c.in-Some-look_up.known in
    let f = c.in-Some-look_up.ensures in
    let name = c.in-Some.name.now in
    let free = marked c.args.table.now.entries names k name c.args.hidden.now false f.name f.place flags c.if-is_marked.ensures in
    subst (λ (u : s.Use). IsUse u c.args.left.now c.use_of_call.result c.use_of_call.new.left)
    (sym (known_used c.args.table.now.entries names k name c.args.kind.now c.args.left.now c.in-Some.ensures free f.value
    ∙ ap (λ o. s.use_of_params name k.definition.now o c.args.left.now) c.in-Some-params.is ∙ ap (λ x. s.use_of_call x k.definition.now c.in-Some-params.params c.args.left.now) (sym f.name)))
    c.use_of_call.ensures.used

pub returns-in-Some-params-clause-found : goal.returns-in-Some-params-clause-found
returns-in-Some-params-clause-found c = λ names flags.
    let k = c.in-Some-look_up.known in
    let f = c.in-Some-look_up.ensures in
    c.use_of_call.ensures.found c.args.table.now.entries names f.place (marked c.args.table.now.entries names k k.name.now c.args.hidden.now false refl f.place flags c.if-is_marked.ensures)
