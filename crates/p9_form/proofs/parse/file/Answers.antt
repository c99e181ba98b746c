use Rattle.std.proofs.Common.{[], ap, subst, sym, ◌∙◌, arith}
use Rattle.std.proofs.lemmas.Grind.{common_steps}
use Rattle.p9_form.specs.Phrases.{declared}
use Rattle.p9_form.specs.Scanning.{seen}
use Rattle.p9_form.specs.Found.{HasNoDeclarations, HasNoMainPart, IsNotWritten}
use Rattle.p9_form.proofs.ParseFiles.{from_start, file_found, no_declarations, no_main_part, no_later_declarations, no_end}
use Rattle.p9_form.proofs.parse.file.Goals as goal

pub returns-in_err-before-clause-err : goal.returns-in_err-before-clause-err
returns-in_err-before-clause-err c =
    let start = c.new-cursor.ensures in
    let none = c.new-names.ensures in
    let h : HasNoDeclarations c.new-names.result c.new-cursor.result → IsNotWritten (seen c.args.tokens.now) =
    λ n. no_declarations (seen c.args.tokens.now) (subst (λ ts. HasNoDeclarations [] ts) start (subst (λ names. HasNoDeclarations names c.new-cursor.result) none n)) in
    grind (arith, common_steps, h)

pub returns-in_err-main-clause-err : goal.returns-in_err-main-clause-err
returns-in_err-main-clause-err c =
    let ds = c.in_ok-before.before in
    let before = from_start c.new-names.result c.new-cursor.result (seen c.args.tokens.now) c.declarations.new.cursor ds c.new-names.ensures c.new-cursor.ensures c.in_ok-before.ensures.ok in
    let named = c.in_ok-before.ensures.names ∙ ap (λ names. declared names ds) c.new-names.ensures in
    let h : HasNoMainPart c.declarations.new.names c.declarations.new.cursor → IsNotWritten (seen c.args.tokens.now) =
    no_main_part c.declarations.new.names (seen c.args.tokens.now) c.declarations.new.cursor ds named before in
    grind (arith, common_steps, h)

pub returns-in_err-after-clause-err : goal.returns-in_err-after-clause-err
returns-in_err-after-clause-err c =
    let ds = c.in_ok-before.before in
    let before = from_start c.new-names.result c.new-cursor.result (seen c.args.tokens.now) c.declarations.new.cursor ds c.new-names.ensures c.new-cursor.ensures c.in_ok-before.ensures.ok in
    let named = c.in_ok-before.ensures.names ∙ ap (λ names. declared names ds) c.new-names.ensures in
    let h : HasNoDeclarations c.declarations.new.names c.main_part.new.cursor → IsNotWritten (seen c.args.tokens.now) =
    no_later_declarations c.declarations.new.names (seen c.args.tokens.now) c.declarations.new.cursor c.main_part.new.cursor ds c.in_ok-main.main named before c.in_ok-main.ensures.ok in
    grind (arith, common_steps, h)

pub returns-then-not-at_end-clause-err : goal.returns-then-not-at_end-clause-err
returns-then-not-at_end-clause-err c =
    let ds = c.in_ok-before.before in
    let before = from_start c.new-names.result c.new-cursor.result (seen c.args.tokens.now) c.declarations.new.cursor ds c.new-names.ensures c.new-cursor.ensures c.in_ok-before.ensures.ok in
    let named = c.in_ok-before.ensures.names ∙ ap (λ names. declared names ds) c.new-names.ensures in
    let left = sym c.at_end.ensures ∙ c.if-not-at_end.true in
    λ e. no_end c.declarations.new.names (seen c.args.tokens.now) c.declarations.new.cursor c.main_part.new.cursor c.declarations-2.new.cursor ds c.in_ok-after.after c.in_ok-main.main named before c.in_ok-main.ensures.ok c.in_ok-after.ensures.ok left

pub returns-clause-ok : goal.returns-clause-ok
returns-clause-ok c =
    let ds = c.in_ok-before.before in
    let before = from_start c.new-names.result c.new-cursor.result (seen c.args.tokens.now) c.declarations.new.cursor ds c.new-names.ensures c.new-cursor.ensures c.in_ok-before.ensures.ok in
    let named = c.in_ok-before.ensures.names ∙ ap (λ names. declared names ds) c.new-names.ensures in
    let ends = sym c.at_end.ensures ∙ c.if-not-at_end.false in
    file_found c.declarations.new.names (seen c.args.tokens.now) c.declarations.new.cursor c.main_part.new.cursor c.declarations-2.new.cursor ds c.in_ok-after.after c.in_ok-main.main named before c.in_ok-main.ensures.ok c.in_ok-after.ensures.ok ends
