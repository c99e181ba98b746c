use Rattle.std.proofs.Common.{◌≡◌, None, sym, ◌∙◌, arith}
use Rattle.std.proofs.lemmas.Grind.{common_steps}
use Rattle.p9_form.specs.Reading.{read_declaration}
use Rattle.p9_form.specs.Found.{HasNoDeclarations}
use Rattle.p9_form.proofs.ParseDeclared.{new_name, one_more_noted, declarations_refused}
use Rattle.p9_form.proofs.parse.declarations.declarations.Goals as goal

pub returns-in_err-declaration-clause-err : goal.returns-in_err-declaration-clause-err
returns-in_err-declaration-clause-err c =
    let h : read_declaration c.each.names c.each.cursor ≡ None → HasNoDeclarations c.args.names.now c.args.cursor.now =
    declarations_refused c.args.names.now c.args.cursor.now c.each.list.items c.each.cursor c.each.names c.each.invariant (sym c.begins_declaration.ensures ∙ c.each-test.true) in
    grind (arith, common_steps, h)

pub each-preserved : goal.each-preserved
each-preserved c =
    one_more_noted c.args.names.now c.args.cursor.now c.each.list.items c.each.cursor c.each.names c.in_ok-declaration.declaration c.declaration.new.cursor c.in_ok-copied.field-0 c.push.new.self.items c.add.new.self
    c.each.invariant c.in_ok-declaration.ensures.ok c.in_ok-copied.ensures c.in_ok-push.ensures.items c.in_ok-add.ensures

pub add-requires : goal.add-requires
add-requires c =
    new_name c.each.names c.each.cursor c.in_ok-declaration.declaration c.declaration.new.cursor c.in_ok-copied.field-0 c.in_ok-declaration.ensures.ok c.in_ok-copied.ensures
