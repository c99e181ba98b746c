use Rattle.std.proofs.Common.{◌≡◌, ◌∷◌, ◌++◌, [], ap, ◌∙◌, length, arith}
use Rattle.p9_abs.specs.declared.modules.Def.{Def}
use Rattle.p9_abs.specs.BuiltIn.{linked}
use Rattle.p9_abs.specs.Programs.{routines_of}
use Rattle.p9_lines.specs.FormLines.{start_lines}
use Rattle.p9_text.specs.Entries.{entry_number, held}
use Rattle.p9_pieces.specs.Callees.{callee_in, callee_by}
use Rattle.p9_expand.specs.Base.{argument_list}
use Rattle.p9_expand.specs.Program.{lines_of, starts_of}
use Rattle.p9_expand.proofs.Calling.{callees_same}
use Rattle.p9_expand.proofs.expanding.expanded.Goals as goal

pub returns-clause-lines : goal.returns-clause-lines
returns-clause-lines c =
    let modules = c.args.modules.now.items in
    let table = c.args.table.now.defs.entries in
    let numbers = held c.in_ok-new.field-0 in
    let listed : c.in_ok-routines.routines.items ≡ routines_of modules = c.in_ok-routines.ensures ∙ ap routines_of c.deref.ensures.value in
    let seen : c.new.result ≡ linked modules = c.new.ensures ∙ ap (λ ms. ms ++ c.args.last.now ∷ []) c.deref-3.ensures.value ∙ ap (λ m. modules ++ m ∷ []) c.requires.builtin in
    let each : (d : Def) → numbers d ≡ entry_number (routines_of modules) 0 d = λ d. c.in_ok-new.ensures d ∙ ap (λ rs. entry_number rs 0 d) (c.deref-4.ensures.value ∙ listed) in
    let callee : callee_by c.new.result table numbers ≡ callee_in modules = callees_same modules c.new.result table numbers seen c.requires.table c.requires.chosen each in
    let count : c.len.result ≡ length modules = grind arith in
    c.in_ok-lines_of.ensures.lines
    ∙ ap (λ f. lines_of f c.deref-5.result.now (start_lines c.len.result argument_list c.base_offset-offset.result)) callee
    ∙ ap (λ rs. lines_of (callee_in modules) rs (start_lines c.len.result argument_list c.base_offset-offset.result)) (c.deref-5.ensures.value ∙ listed)
    ∙ ap (λ n. lines_of (callee_in modules) (routines_of modules) (start_lines n argument_list c.base_offset-offset.result)) count
    ∙ ap (λ n. lines_of (callee_in modules) (routines_of modules) (start_lines (length modules) argument_list n)) c.base_offset-offset.ensures

pub returns-clause-starts : goal.returns-clause-starts
returns-clause-starts c =
    let modules = c.args.modules.now.items in
    let table = c.args.table.now.defs.entries in
    let numbers = held c.in_ok-new.field-0 in
    let listed : c.in_ok-routines.routines.items ≡ routines_of modules = c.in_ok-routines.ensures ∙ ap routines_of c.deref.ensures.value in
    let seen : c.new.result ≡ linked modules = c.new.ensures ∙ ap (λ ms. ms ++ c.args.last.now ∷ []) c.deref-3.ensures.value ∙ ap (λ m. modules ++ m ∷ []) c.requires.builtin in
    let each : (d : Def) → numbers d ≡ entry_number (routines_of modules) 0 d = λ d. c.in_ok-new.ensures d ∙ ap (λ rs. entry_number rs 0 d) (c.deref-4.ensures.value ∙ listed) in
    let callee : callee_by c.new.result table numbers ≡ callee_in modules = callees_same modules c.new.result table numbers seen c.requires.table c.requires.chosen each in
    c.in_ok-lines_of.ensures.starts
    ∙ ap (λ f. starts_of f c.deref-5.result.now) callee
    ∙ ap (starts_of (callee_in modules)) (c.deref-5.ensures.value ∙ listed)
