-- What holds of the lines of a program.
use Rattle.std.proofs.Common.{ℕ, ◌+◌, ◌≡◌, ◌≤◌, ◌<◌, ◌||◌, Some, Result, Ok, Err, IfOk, List, ◌++◌, length, length-append, map, refl, sym, ap, ◌∙◌, subst, All, arith}
use Rattle.std.specs.Prelude.{Option}
use Rattle.std.proofs.lemmas.List.{length-map}
use Rattle.p9_abs.specs.declared.modules.AModule.{AModule}
use Rattle.p9_abs.specs.BuiltIn.{linked}
use Rattle.p9_abs.specs.Runs.{Routine}
use Rattle.p9_abs.specs.Programs.{routines_of, definition_of}
use Rattle.p9_abs.specs.Validity.{IsValid}
use Rattle.p9_r3k.specs.declared.lines.Line.{Line}
use Rattle.p9_slot.specs.Aimed.{AreAimed}
use Rattle.p9_slot.specs.Blocks.{is_named}
use Rattle.p9_slot.specs.Schedule.{HaveTargets, TargetsAreLines}
use Rattle.p9_slot.proofs.Schedulable.{aimed_targets, aimed_lines}
use Rattle.p9_text.specs.Weights.{text_weight}
use Rattle.p9_lines.specs.FormLines.{start_lines}
use Rattle.p9_lines.specs.Weights.{words_needed}
use Rattle.p9_pieces.specs.Callees.{callee_in}
use Rattle.p9_pieces.specs.Pieces.{pieces_from, joined}
use Rattle.p9_pieces.proofs.Within.{program_within}
use Rattle.p9_expand.specs.declared.expanding.ProgramLines.{ProgramLines}
use Rattle.p9_expand.specs.Base.{argument_list, base_offset}
use Rattle.p9_expand.specs.Program.{aimed, is_first, starts_of, lines_of, program_lines}
use Rattle.p9_expand.specs.Laws.{IsMarked}
use Rattle.p9_expand.proofs.Valid.{IsSound, all_sound}
use Rattle.p9_expand.proofs.Filling.{pieces_full, starts_below}
use Rattle.p9_expand.proofs.Leading.{aimed-append, numbers_of, pieces_length, callee_below, pieces_aimed}
use Rattle.p9_expand.proofs.Finished.{marked-length, marked-aimed, marked-named, marked-at, marked-words, aimed-aimed, aimed-words}

start-aimed : (n unit symbol offset : ℕ) → AreAimed n (start_lines unit symbol offset)
start-aimed n unit symbol offset = (refl, (refl, tt))

-- of functions behind a start, which goes nowhere and has two lines
lines-aimed : (callee : ℕ → ℕ → Option ℕ) (rs : List Routine) (unit symbol offset : ℕ) → ((u s t : ℕ) → callee u s ≡ Some t → t < numbers_of rs) → All IsSound rs →
    AreAimed (length (lines_of callee rs (start_lines unit symbol offset))) (lines_of callee rs (start_lines unit symbol offset))
lines-aimed callee rs unit symbol offset c h =
    let pieces = pieces_from callee 0 rs in
    let starts = starts_of callee rs in
    let raw : List Line = start_lines unit symbol offset ++ joined pieces in
    let test = (λ (i : ℕ). is_first starts 0 rs i || is_named (map (aimed starts) raw) i) in
    let total : length (lines_of callee rs (start_lines unit symbol offset)) ≡ 2 + length (joined pieces) =
    marked-length test 0 (map (aimed starts) raw) ∙ length-map raw (aimed starts) ∙ length-append (start_lines unit symbol offset) (joined pieces) in
    let numbers : AreAimed (numbers_of rs) raw = aimed-append (numbers_of rs) (start_lines unit symbol offset) (joined pieces) (start-aimed (numbers_of rs) unit symbol offset) (pieces_aimed (numbers_of rs) callee 0 rs c (omega arith) h) in
    let ends : AreAimed (2 + length (joined pieces)) (map (aimed starts) raw) =
    aimed-aimed starts (numbers_of rs) (2 + length (joined pieces)) raw
    (λ t below. starts_below 2 pieces t (pieces_full callee 0 rs h) (subst (λ m. t < m) (sym (pieces_length callee 0 rs)) below)) numbers in
    subst (λ m. AreAimed m (lines_of callee rs (start_lines unit symbol offset))) (sym total)
    (marked-aimed test 0 (2 + length (joined pieces)) (map (aimed starts) raw) ends)

program-aimed : (modules : List AModule) → All IsValid modules → AreAimed (length (program_lines modules)) (program_lines modules)
program-aimed modules h =
    lines-aimed (callee_in modules) (routines_of modules) (length modules) argument_list (base_offset modules)
    (λ u s t e. callee_below (routines_of modules) (definition_of (linked modules) (record { «module» = u; symbol = s })) t e)
    (all_sound modules h)

lines-words : (callee : ℕ → ℕ → Option ℕ) (rs : List Routine) (unit symbol offset : ℕ) → words_needed (lines_of callee rs (start_lines unit symbol offset)) ≤ text_weight rs
lines-words callee rs unit symbol offset =
    let starts = starts_of callee rs in
    let raw : List Line = start_lines unit symbol offset ++ joined (pieces_from callee 0 rs) in
    let test = (λ (i : ℕ). is_first starts 0 rs i || is_named (map (aimed starts) raw) i) in
    omega (arith, marked-words test 0 (map (aimed starts) raw), aimed-words starts raw, program_within callee unit symbol offset rs raw refl)

program-marked : (modules : List AModule) → IsMarked modules (program_lines modules)
program-marked modules i line e =
    let rs = routines_of modules in
    let starts = starts_of (callee_in modules) rs in
    let raw : List Line = map (aimed starts) (start_lines (length modules) argument_list (base_offset modules) ++ joined (pieces_from (callee_in modules) 0 rs)) in
    let test = (λ (i : ℕ). is_first starts 0 rs i || is_named raw i) in
    marked-at test 0 i raw line e ∙ ap test (omega arith) ∙ ap (λ b. is_first starts 0 rs i || b) (sym (marked-named test 0 i raw))

-- Answers

pub targets_had : (modules : List AModule) (lines : List Line) → All IsValid modules → lines ≡ program_lines modules → HaveTargets lines
targets_had modules lines h e = subst HaveTargets (sym e) (aimed_targets (program_lines modules) (program_lines modules) refl (program-aimed modules h))

pub targets_are_lines : (modules : List AModule) (lines : List Line) → All IsValid modules → lines ≡ program_lines modules → TargetsAreLines lines
targets_are_lines modules lines h e = subst TargetsAreLines (sym e) (aimed_lines (program_lines modules) (program_lines modules) refl (program-aimed modules h))

pub marks_right : (modules : List AModule) (lines : List Line) → lines ≡ program_lines modules → IsMarked modules lines
marks_right modules lines e = subst (IsMarked modules) (sym e) (program-marked modules)

pub words_within : (modules : List AModule) (lines : List Line) → lines ≡ program_lines modules → words_needed lines ≤ text_weight (routines_of modules)
words_within modules lines e =
    subst (λ l. words_needed l ≤ text_weight (routines_of modules)) (sym e)
    (lines-words (callee_in modules) (routines_of modules) (length modules) argument_list (base_offset modules))

pub if-lines : {F : Type 0} (P Q : List Line → Type 0) → ((lines : List Line) → P lines → Q lines) → (r : Result ProgramLines F) →
    IfOk r (λ (e : ProgramLines). P e.lines) → IfOk r (λ (e : ProgramLines). Q e.lines)
if-lines P Q to (Ok e) h = to e.lines h
if-lines P Q to (Err f) h = tt
