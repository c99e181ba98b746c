-- The fields of a program's scheduled lines fit their bits.
use Rattle.std.proofs.Common.{ℕ, zero, suc, ◌+◌, ◌≡◌, ◌≤◌, ◌⊎◌, inl, inr, ◌||◌, Bool, true, false, Option, Some, None, List, [], ◌∷◌, ◌++◌, length, get_or, map, refl, sym, subst, All, arith, if◌then◌else◌}
use Rattle.std.specs.Prelude.{slice_get}
use Rattle.std.proofs.lemmas.Option.{slice_get-get_or}
use Rattle.p9_base.specs.Words.{IsWord}
use Rattle.p9_abs.specs.declared.instructions.Abs.{Abs}
use Rattle.p9_abs.specs.declared.modules.AModule.{AModule}
use Rattle.p9_abs.specs.declared.forms.Form.{Form}
use Rattle.p9_abs.specs.Forms.{decoded}
use Rattle.p9_abs.specs.Runs.{Routine, keeps, taken_by}
use Rattle.p9_abs.specs.Programs.{routines_of}
use Rattle.p9_object.specs.Laws.{IsObject}
use Rattle.p9_r3k.specs.declared.lines.Line.{Line}
use Rattle.p9_r3k.specs.Table.{Fits}
use Rattle.p9_r3k.specs.Delayed.{noop}
use Rattle.p9_slot.specs.Blocks.{is_named}
use Rattle.p9_text.specs.Places.{places_of}
use Rattle.p9_lines.specs.FormLines.{entry_lines, start_lines}
use Rattle.p9_pieces.specs.Callees.{callee_in}
use Rattle.p9_pieces.specs.Ways.{Scope, scope_of, way_of}
use Rattle.p9_pieces.specs.Pieces.{form_lines, code_pieces, function_pieces, pieces_from, joined}
use Rattle.p9_pieces.proofs.Stepping.{joined-append}
use Rattle.p9_forms.specs.Laws.{IsFine}
use Rattle.p9_expand.specs.Base.{argument_list, base_offset}
use Rattle.p9_expand.specs.Program.{aimed, is_first, marked, starts_of, program_lines}
use Rattle.p9_expand.proofs.Valid.{IsSound, all_sound}
use Rattle.p9_refine.proofs.Numbers.{all-at}
use Rattle.p9_refine.proofs.Fine.{all-valid, all-fine}
use Rattle.p9_reach.specs.Laws.{ScheduleFits}
use Rattle.p9_reach.proofs.Small.{IsSmall, all-small}
use Rattle.p9_reach.proofs.Forms.{AllFit, fit-append, entry-fits, form-fits, start-fits}
use Rattle.p9_reach.proofs.Added.{IsOld, old-or-noop}

-- what is known of an instruction
abbrev IsGood : Form → Type 0
IsGood form = IsSmall form × IsFine form

abbrev GoodCode : List Abs → Type 0
GoodCode code = (k : ℕ) (a : Abs) (form : Form) → slice_get code k ≡ Some a → decoded a ≡ Some form → IsGood form

piece-fits : (s : Scope) (k : ℕ) (o : Option Form) → IsWord s.setting.taken → ((form : Form) → o ≡ Some form → IsGood form) → AllFit (form_lines s k o)
piece-fits s k None word good = tt
piece-fits s k (Some form) word good =
    let here : IsGood form = good form refl in
    form-fits s.setting (way_of s k form) form word here.0 here.1

code-fits : (s : Scope) (k : ℕ) (code : List Abs) → IsWord s.setting.taken → GoodCode code → AllFit (joined (code_pieces s k code))
code-fits s k [] word good = tt
code-fits s k (a ∷ rest) word good =
    fit-append (form_lines s k (decoded a)) (joined (code_pieces s (k + 1) rest)) (piece-fits s k (decoded a) word (λ form e. good 0 a form refl e))
    (code-fits s (k + 1) rest word (λ j b form e d. good (suc j) b form e d))

pieces-fit : (callee : ℕ → ℕ → Option ℕ) (n : ℕ) (rs : List Routine) →
    ((f : ℕ) (r : Routine) → slice_get rs f ≡ Some r → IsWord (taken_by r.def) × GoodCode r.def.code) → AllFit (joined (pieces_from callee n rs))
pieces-fit callee n [] good = tt
pieces-fit callee n (r ∷ rs) good =
    let s : Scope = scope_of callee n r in
    let here = good 0 r refl in
    subst AllFit (sym (joined-append (function_pieces s r.def.code) (pieces_from callee (n + places_of r) rs)))
    (fit-append (joined (function_pieces s r.def.code)) (joined (pieces_from callee (n + places_of r) rs))
    (fit-append (entry_lines s.setting) (joined (code_pieces s 0 r.def.code)) (entry-fits s.setting here.0) (code-fits s 0 r.def.code here.0 here.1))
    (pieces-fit callee (n + places_of r) rs (λ f q e. good (suc f) q e)))

aimed-fits : (starts : List ℕ) (lines : List Line) → AllFit lines → AllFit (map (aimed starts) lines)
aimed-fits starts [] h = tt
aimed-fits starts (line ∷ rest) h = (h.0, aimed-fits starts rest h.1)

marked-fits : (test : ℕ → Bool) (n : ℕ) (lines : List Line) → AllFit lines → AllFit (marked test n lines)
marked-fits test n [] h = tt
marked-fits test n (line ∷ rest) h = (h.0, marked-fits test (n + 1) rest h.1)

frame-word : (b : Bool) (frame : ℕ) → frame ≤ 16777212 → IsWord (if b then frame + 4 else 0)
frame-word true frame h = omega (arith, h)
frame-word false frame h = omega arith

program-fits : (modules : List AModule) → All IsObject modules → AllFit (program_lines modules)
program-fits modules objects =
    let rs = routines_of modules in
    let callee = callee_in modules in
    let starts = starts_of callee rs in
    let start : List Line = start_lines (length modules) argument_list (base_offset modules) in
    let raw : List Line = start ++ joined (pieces_from callee 0 rs) in
    marked-fits (λ i. is_first starts 0 rs i || is_named (map (aimed starts) raw) i) 0 (map (aimed starts) raw)
    (aimed-fits starts raw
    (fit-append start (joined (pieces_from callee 0 rs)) (start-fits (length modules) argument_list (base_offset modules))
    (pieces-fit callee 0 rs (λ f r e. (
      (let sound : IsSound r = all-at IsSound rs f r (all_sound modules (all-valid modules objects)) e in frame-word (keeps r.def) r.def.frame sound.frame.1),
      (λ k a form there d. (all-small modules f k r a form objects e there d, (all-fine modules f k r a form objects e there d).0)),
    )))))

-- by its number
fit-at : (lines : List Line) (i : ℕ) (line : Line) → AllFit lines → slice_get lines i ≡ Some line → Fits line.inst
fit-at [] i line h e = cc
fit-at (first ∷ rest) zero line h e = (let same : first ≡ line = cc in subst (λ (l : Line). Fits l.inst) same h.0)
fit-at (first ∷ rest) (suc i) line h e = fit-at rest i line h.1 e

noop-fits : Fits noop.inst
noop-fits = (omega arith, omega arith, omega arith)

pub schedule_fits : ScheduleFits
schedule_fits modules new moved objects once added k d within =
    by (old-or-noop (program_lines modules) new moved k (get_or new k d) once added (slice_get-get_or new k d within))
  where
    by : IsOld (program_lines modules) new moved k (get_or new k d) ⊎ (get_or new k d ≡ noop) → Fits (get_or new k d).inst
    by (inl o) =
        subst (λ (l : Line). Fits l.inst) (sym o.same) (fit-at (program_lines modules) o.number o.own (program-fits modules objects) o.there)
    by (inr e) = subst (λ (l : Line). Fits l.inst) (sym e) noop-fits
