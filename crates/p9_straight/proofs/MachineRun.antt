-- The machine that starts with the code of `main` comes to what the values of variables say.
use Rattle.std.proofs.Common.{◌≡◌, ℕ, zero, suc, ◌+◌, ◌*◌, ◌^◌, ◌<◌, ◌≤◌, List, [], ◌∷◌, All, length, slice_set, replicate, refl, arith}
use Rattle.std.specs.Prelude.{Contains, flat_map}
use Rattle.p9_r3k.specs.declared.inst.Inst.{Inst}
use Rattle.p9_r3k.specs.declared.inst.Inst.TheVariants.{Addiu}
use Rattle.p9_r3k.specs.Memory.{text_start, stack_end}
use Rattle.p9_r3k.specs.Machine.{State, run}
use Rattle.p9_r3k.specs.Start.{zeros, page_from, low_bytes, start}
use Rattle.p9_r3k.proofs.Begins.{length-zeros, page_from-near}
use Rattle.p9_form.specs.declared.file.Statement.{Statement}
use Rattle.p9_form.specs.declared.file.File.{File}
use Rattle.p9_form.specs.Sharing.{names_in, initials}
use Rattle.p9_straight.specs.Code.{statements_code, main_code, code_bytes, main_of}
use Rattle.p9_straight.specs.FormRun.{Values, Came, RunsOut, statements_run, initial_of, form_run}
use Rattle.p9_straight.proofs.Placed.{AreVariables, AreTexts}
use Rattle.p9_straight.proofs.MachineSteps.{Fixed, standing, Room, step_addiu}
use Rattle.p9_straight.proofs.MachineCode.{Follows, ran_none, ran_then, registers}
use Rattle.p9_straight.proofs.MachineMemory.{Memory}
use Rattle.p9_straight.proofs.MachineStart.{fixed, start_memory}
use Rattle.p9_straight.proofs.MachineText.{HaveWords, code_size, follows_all, main_words}
use Rattle.p9_straight.proofs.MachineStatements.{statements_go}
pub use Rattle.p9_straight.proofs.MachineTurns.{Runs, AreFit, runs_then, runs_out}

-- the call of `main` takes a turn
abbrev pub main_run : (turns : ℕ) → Values → List Statement → Came
main_run zero values ss = RunsOut []
main_run (suc turns) values ss = statements_run turns values ss []

pub main_run_is : (files : List File) (turns : ℕ) → main_run turns (initial_of (initials files)) (main_of files) ≡ form_run files turns
main_run_is files zero = refl
main_run_is files (suc turns) = refl

-- where data begin behind code
abbrev pub begin_of : List Inst → ℕ
begin_of code = page_from (text_start + length (code_bytes code))

-- the first instruction makes room for arguments
begins : (m : Fixed) (low stack : List ℕ) (rest : List Inst) → Room m low → Follows m.text text_start (Addiu 29 29 65520 ∷ rest) →
    run 1 (standing m (slice_set (replicate 32 0) 29 stack_end) low stack text_start 0 []) ≡ standing m (registers 0 0 0 0) low stack (text_start + 4) 0 []
begins m low stack rest room code =
    let s : State = standing m (slice_set (replicate 32 0) 29 stack_end) low stack text_start 0 [] in
    let t : State = standing m (registers 0 0 0 0) low stack (text_start + 4) 0 [] in
    ran_then (Addiu 29 29 65520) [] s t t
    (step_addiu m (slice_set (replicate 32 0) 29 stack_end) low stack text_start [] 29 29 65520 room code.0)
    (ran_none t)

pub machine_runs :
    (place : List ℕ → ℕ) (names : List (List ℕ)) (init : List ℕ) (bss at end : ℕ) (ss : List Statement) (values : Values) (input : List ℕ) (turns : ℕ) →
    AreVariables place names (begin_of (main_code place at end ss)) init bss values →
    AreTexts place names (begin_of (main_code place at end ss)) init at end ss →
    All (λ x. Contains names x) (flat_map names_in ss) → AreFit ss →
    length (main_code place at end ss) ≤ 2 ^ 22 → length init + bss ≤ 2 ^ 24 →
    ((x : List ℕ) → Contains names x → values x < 2 ^ 32) →
    Runs (main_run turns values ss) (start (code_bytes (main_code place at end ss)) init bss text_start input) turns (length (main_code place at end ss))
machine_runs place names init bss at end ss values input zero variables texts known fit few small words =
    runs_out (start (code_bytes (main_code place at end ss)) init bss text_start input) (length (main_code place at end ss)) [] refl refl
machine_runs place names init bss at end ss values input (suc turns) variables texts known fit few small words =
    let code : List Inst = main_code place at end ss in
    let rest : List Inst = statements_code place at end ss in
    let text : List ℕ = code_bytes code in
    let m : Fixed = fixed text input in
    let low : List ℕ = low_bytes text init bss in
    let stack : List ℕ = zeros (2 ^ 24) in
    let size : length text ≡ 4 * length code = code_size code in
    let short : length text ≤ 2 ^ 24 = omega (arith, size, few) in
    let memory : Memory m place names init values low = start_memory place names text init input bss values short small variables words in
    let near : page_from (text_start + length text) ≤ text_start + length text + 4095 = page_from-near (text_start + length text) in
    let all : HaveWords code =
    main_words place names (page_from (text_start + length text)) init at end ss
    (λ x here. omega (arith, variables.within x here, near, short, small)) (omega (arith, near, short, small)) texts known fit in
    let follows : Follows text text_start code = follows_all code few all in
    runs_then (statements_run turns values ss []) (Addiu 29 29 65520 ∷ []) rest (start text init bss text_start input)
    (standing m (registers 0 0 0 0) low stack (text_start + 4) 0 []) (suc turns) turns
    (begins m low stack rest memory.room follows) refl (omega arith)
    (statements_go m place names init values 0 0 0 0 low stack (text_start + 4) at end [] ss turns memory (length-zeros (2 ^ 24)) texts known fit follows.1)
