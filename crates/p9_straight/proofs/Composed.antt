-- The executable of joined files keeps their meaning, and ends in time.
use Rattle.std.proofs.Common.{◌≡◌, ◌≤◌, ℕ, zero, suc, ◌+◌, ◌-◌, Bool, true, false, if◌then◌else◌, nat_le, List, [], ◌∷◌, ◌++◌, length, take, map, flat_map, Contains, All, Some, IsSomeAnd, Ok, option_map, sym, ap, ◌∙◌, subst, arith}
use Rattle.p9_aout.specs.Image.{ImageParts, image_of}
use Rattle.p9_first.specs.Form.{IsFile}
use Rattle.p9_base.specs.Words.{is_negative}
use Rattle.p9_first.specs.Turns.{Outcome, Ended, Out, Undefined, Deep}
use Rattle.p9_first.specs.CRun.{source_run}
use Rattle.p9_base.specs.declared.halt.Ending.{Ending}
use Rattle.p9_base.specs.declared.halt.Ending.TheVariants.{Running, Exited, Halted}
use Rattle.p9_r3k.specs.Machine.{State, run, exit_text}
use Rattle.p9_r3k.specs.Laws.{HasEnded}
use Rattle.p9_r3k.proofs.Runs.{run-ended, run-sum}
use Rattle.p9_vi.specs.Run.{vrun, started, start_of, IsExited}
use Rattle.p9_headline.specs.declared.TheConstants.{DEFAULT_BUDGET}
use Rattle.p9_headline.specs.Headline.{Seen, IsDefined, HasExited, IsRunning, KeepsMeaning}
use Rattle.p9_headline.specs.Headline as seen
use Rattle.p9_form.specs.declared.file.Statement.{Statement}
use Rattle.p9_form.specs.declared.file.Statement.TheVariants.{Assign, Write, Exits}
use Rattle.p9_form.specs.declared.file.File.{File}
use Rattle.p9_form.specs.Items.{items_of, source_of}
use Rattle.p9_form.specs.Sharing.{names_in, initials, defined_names, AreJoined, IsSmall}
use Rattle.p9_straight.specs.Layout.{init_bytes, bss_size, texts_at, end_at}
use Rattle.p9_straight.specs.Code.{main_code, data_start, place_in, main_of, code_of, parts_for}
use Rattle.p9_straight.specs.Headline.{seen_of, union_run, EndsInTime}
use Rattle.p9_straight.specs.FormRun.{Values, Came, Ends, RunsOut, Fails, operand_value, after_write, statements_run, initial_of, form_run, ComesTo}
use Rattle.p9_straight.proofs.Placed.{AreVariables, AreTexts}
use Rattle.p9_straight.proofs.LaidOut.{variables_laid}
use Rattle.p9_straight.proofs.TextsLaid.{texts_laid}
use Rattle.p9_straight.proofs.MachineRun.{Runs, begin_of, machine_runs, main_run_is}
use Rattle.p9_straight.proofs.Fitting.{files_words, initial_word, main_is, main_fits, main_few, main_size, begins_behind, data_small}

-- What is asked of files

-- the sources come to what the values of variables say
abbrev pub Agree : List File → Type 0
Agree files = (input : List ℕ) (turns : ℕ) → ComesTo (source_run (map source_of files) input turns) (form_run files turns)

-- files that can be compiled
pub record AreReady (files : List File) : Type 0 where
  pub forms : All (λ f. IsFile (items_of f)) files
  pub smalls : All IsSmall files
  pub count : length files ≤ 16
  pub joined : AreJoined files

-- The machine comes to what the values of variables say

code_few : (files : List File) → AreReady files → length (code_of files) ≤ 800000
code_few files ready =
    let few : length (main_of files) ≤ 65536 = main_few files ready.smalls ready.joined in
    let size = main_size (place_in files) (texts_at (data_start files) files) (end_at (data_start files) files) (main_of files) in
    omega (arith, few, size)

names_known : (files : List File) → AreJoined files → All (λ x. Contains (defined_names files) x) (flat_map names_in (main_of files))
names_known files j =
    subst (λ ss. All (λ x. Contains (defined_names files) x) (flat_map names_in ss)) (sym (main_is files j)) j.resolved

machine_comes : (files : List File) (input : List ℕ) (turns : ℕ) → AreReady files → Runs (form_run files turns) (start_of (parts_for files) input) turns (length (code_of files))
machine_comes files input turns ready =
    let place : List ℕ → ℕ = place_in files in
    let names : List (List ℕ) = defined_names files in
    let at : ℕ = texts_at (data_start files) files in
    let end : ℕ = end_at (data_start files) files in
    let values : Values = initial_of (initials files) in
    let words = files_words files ready.forms in
    let begins : data_start files ≡ begin_of (main_code place at end (main_of files)) = sym (begins_behind place at end (main_of files)) in
    let few = code_few files ready in
    subst (λ came. Runs came (start_of (parts_for files) input) turns (length (code_of files))) (main_run_is files turns)
    (machine_runs place names (init_bytes files) (bss_size files) at end (main_of files) values input turns
    (subst (λ begin. AreVariables place names begin (init_bytes files) (bss_size files) values) begins (variables_laid files words))
    (subst (λ begin. AreTexts place names begin (init_bytes files) at end (main_of files)) begins (texts_laid files ready.joined))
    (names_known files ready.joined)
    (main_fits files ready.forms ready.joined)
    (omega (arith, few))
    (data_small files ready.smalls ready.count)
    (λ x here. initial_word (initials files) x words))

-- The run of the executable

vrun_is : (bytes input : List ℕ) (parts : ImageParts) (m : ℕ) → image_of bytes ≡ Ok parts → vrun bytes input m ≡ Some (run m (start_of parts input))
unfolding vrun
vrun_is bytes input parts m e = ap (λ p. option_map (run m) (started p input)) e

exited_is : (bytes input : List ℕ) (parts : ImageParts) (m : ℕ) (output text left : List ℕ) → image_of bytes ≡ Ok parts → IsExited (run m (start_of parts input)).core.ending → exit_text (run m (start_of parts input)).core ≡ text → (run m (start_of parts input)).out ≡ output → (run m (start_of parts input)).left ≡ left → HasExited bytes input m output text left
exited_is bytes input parts m output text left e exits same out rest =
    subst (λ o. IsSomeAnd o (λ s. IsExited s.core.ending × (exit_text s.core ≡ text) × (s.out ≡ output) × (s.left ≡ left))) (sym (vrun_is bytes input parts m e))
    (exits, same, out, rest)

running_is : (bytes input : List ℕ) (parts : ImageParts) (m : ℕ) (output left : List ℕ) → image_of bytes ≡ Ok parts → (run m (start_of parts input)).core.ending ≡ Running → (run m (start_of parts input)).out ≡ output → (run m (start_of parts input)).left ≡ left → IsRunning bytes input m output left
running_is bytes input parts m output left e running out rest =
    subst (λ o. IsSomeAnd o (λ s. (s.core.ending ≡ Running) × (s.out ≡ output) × (s.left ≡ left))) (sym (vrun_is bytes input parts m e))
    (running, out, rest)

-- a run that has exited stays
exited_ended : (e : Ending) → IsExited e → HasEnded e
exited_ended Running h = h
exited_ended (Exited at size) h = tt
exited_ended (Halted cause pc) h = absurd h

run_later : (s : State) (m n : ℕ) → m ≤ n → IsExited (run m s).core.ending → run n s ≡ run m s
run_later s m n less exits =
    let e : n ≡ m + (n - m) = omega (arith, less) in
    ap (λ k. run k s) e ∙ run-sum m (n - m) s ∙ run-ended (n - m) (run m s) (exited_ended (run m s).core.ending exits)

-- The two runs

-- what the machine comes to where this is seen of the sources
abbrev Keeps : (bytes input : List ℕ) (turns : ℕ) → Seen → Type 0
Keeps bytes input turns (seen.Ended output text left) = (m : ℕ) × HasExited bytes input m output text left
Keeps bytes input turns (seen.Out output left) = (m : ℕ) × (turns ≤ m) × IsRunning bytes input m output left
Keeps bytes input turns seen.Other = Unit {0}

same : (bytes input : List ℕ) (parts : ImageParts) (turns limit : ℕ) (outcome : Outcome) (came : Came) → image_of bytes ≡ Ok parts
    → ComesTo outcome came → Runs came (start_of parts input) turns limit → Keeps bytes input turns (seen_of input outcome)
same bytes input parts turns limit (Ended output text) (Ends o t) e comes runs =
    (runs.0, exited_is bytes input parts runs.0 output text input e runs.2 (runs.3 ∙ sym comes.1) (runs.4 ∙ sym comes.0) runs.5)
same bytes input parts turns limit (Out output) (RunsOut o) e comes runs =
    (runs.0, runs.1, running_is bytes input parts runs.0 output input e runs.3 (runs.4 ∙ sym comes) runs.5)
same bytes input parts turns limit (Ended output text) (RunsOut o) e comes runs = absurd comes
same bytes input parts turns limit (Ended output text) Fails e comes runs = absurd comes
same bytes input parts turns limit (Out output) (Ends o t) e comes runs = absurd comes
same bytes input parts turns limit (Out output) Fails e comes runs = absurd comes
same bytes input parts turns limit (Undefined output why place) came e comes runs = tt
same bytes input parts turns limit (Deep output place) came e comes runs = tt

kept : (files : List File) (bytes : List ℕ) → Agree files → AreReady files → image_of bytes ≡ Ok (parts_for files) → (input : List ℕ) (turns : ℕ) → Keeps bytes input turns (union_run (map source_of files) input turns)
kept files bytes agrees ready image input turns =
    same bytes input (parts_for files) turns (length (code_of files)) (source_run (map source_of files) input turns) (form_run files turns) image
    (agrees input turns) (machine_comes files input turns ready)

keeps : (files : List File) (bytes : List ℕ) → Agree files → AreReady files → image_of bytes ≡ Ok (parts_for files) → KeepsMeaning (union_run (map source_of files)) bytes
keeps files bytes agrees ready image = record {
  ended = λ input turns output text left e. subst (Keeps bytes input turns) e (kept files bytes agrees ready image input turns);
  goes_on = λ input turns output left e. subst (Keeps bytes input turns) e (kept files bytes agrees ready image input turns);
}

-- Enough turns

-- a run that isn't out of turns
abbrev pub IsOver : Came → Type 0
IsOver (Ends output text) = Unit {0}
IsOver (RunsOut output) = ⊥
IsOver Fails = Unit {0}

write_over : (output text : List ℕ) (count : ℕ) (next : List ℕ → Came) → ((o : List ℕ) → IsOver (next o)) → IsOver (after_write output text count next)
write_over output text count next h = by (is_negative count) (nat_le count (length text + 1)) (h output) (h (output ++ take count (text ++ 0 ∷ [])))
  where
    by : (b c : Bool) → IsOver (next output) → IsOver (next (output ++ take count (text ++ 0 ∷ [])))
        → IsOver (if b then next output else (if c then next (output ++ take count (text ++ 0 ∷ [])) else Fails))
    by true c none some = none
    by false true none some = some
    by false false none some = tt

-- each statement takes one turn at most
statements_over : (turns : ℕ) (values : Values) (ss : List Statement) (output : List ℕ) → length ss ≤ turns → IsOver (statements_run turns values ss output)
statements_over turns values [] output enough = tt
statements_over turns values (Assign x left right ∷ ss) output enough = statements_over turns _ ss output (omega (arith, enough))
statements_over zero values (Write text count ∷ ss) output enough = absurd (omega (arith, enough))
statements_over (suc turns) values (Write text count ∷ ss) output enough =
    write_over output text (operand_value values count) (statements_run turns values ss) (λ o. statements_over turns values ss o (omega (arith, enough)))
statements_over zero values (Exits text ∷ ss) output enough = absurd (omega (arith, enough))
statements_over (suc turns) values (Exits text ∷ ss) output enough = tt

form_over : (files : List File) → IsOver (form_run files (suc (length (main_of files))))
form_over files = statements_over (length (main_of files)) (initial_of (initials files)) (main_of files) [] (omega arith)

-- a run that is defined and over has exited in time
in_time : (bytes input : List ℕ) (parts : ImageParts) (turns limit : ℕ) (outcome : Outcome) (came : Came) → image_of bytes ≡ Ok parts → limit ≤ DEFAULT_BUDGET
    → IsDefined (seen_of input outcome) → IsOver came → ComesTo outcome came → Runs came (start_of parts input) turns limit
    → (output text : List ℕ) × HasExited bytes input DEFAULT_BUDGET output text input
in_time bytes input parts turns limit (Ended output text) (Ends o t) e within defined over same runs =
    let later : run DEFAULT_BUDGET (start_of parts input) ≡ run runs.0 (start_of parts input) =
    run_later (start_of parts input) runs.0 DEFAULT_BUDGET (omega (arith, within, runs.1)) runs.2 in (
      o,
      t,
      exited_is bytes input parts DEFAULT_BUDGET o t input e
          (subst (λ (s : State). IsExited s.core.ending) (sym later) runs.2)
          (ap (λ (s : State). exit_text s.core) later ∙ runs.3)
          (ap (λ (s : State). s.out) later ∙ runs.4)
          (ap (λ (s : State). s.left) later ∙ runs.5),
    )
in_time bytes input parts turns limit (Ended output text) (RunsOut o) e within defined over same runs = absurd over
in_time bytes input parts turns limit (Ended output text) Fails e within defined over same runs = absurd same
in_time bytes input parts turns limit (Out output) (Ends o t) e within defined over same runs = absurd same
in_time bytes input parts turns limit (Out output) (RunsOut o) e within defined over same runs = absurd over
in_time bytes input parts turns limit (Out output) Fails e within defined over same runs = absurd same
in_time bytes input parts turns limit (Undefined output why place) came e within defined over same runs = absurd defined
in_time bytes input parts turns limit (Deep output place) came e within defined over same runs = absurd defined

ends : (files : List File) (bytes : List ℕ) → Agree files → AreReady files → image_of bytes ≡ Ok (parts_for files) → EndsInTime (map source_of files) bytes
ends files bytes agrees ready image input defined =
    let turns : ℕ = suc (length (main_of files)) in
    let few = code_few files ready in
    in_time bytes input (parts_for files) turns (length (code_of files)) (source_run (map source_of files) input turns) (form_run files turns) image
    (omega (arith, few)) (defined turns) (form_over files) (agrees input turns) (machine_comes files input turns ready)

-- The two clauses

pub keeps_meaning : (files : List File) (bytes : List ℕ) → Agree files → All (λ f. IsFile (items_of f)) files → All IsSmall files → length files ≤ 16 → AreJoined files
    → image_of bytes ≡ Ok (parts_for files) → KeepsMeaning (union_run (map source_of files)) bytes
keeps_meaning files bytes agrees forms smalls count joined image =
    keeps files bytes agrees (record { forms = forms; smalls = smalls; count = count; joined = joined }) image

pub ends_in_time : (files : List File) (bytes : List ℕ) → Agree files → All (λ f. IsFile (items_of f)) files → All IsSmall files → length files ≤ 16 → AreJoined files
    → image_of bytes ≡ Ok (parts_for files) → EndsInTime (map source_of files) bytes
ends_in_time files bytes agrees forms smalls count joined image =
    ends files bytes agrees (record { forms = forms; smalls = smalls; count = count; joined = joined }) image
