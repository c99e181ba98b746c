-- What a simulation tells, and what the store tells of the files that were read.
use Rattle.std.proofs.Common.{◌≡◌, ◌≢◌, ◌⊎◌, ℕ, List, [], ◌∷◌, Option, Some, None, IfSome, Result, Ok, Err, inl, inr, refl, sym, subst}
use Rattle.p9_aout.specs.Image.{ImageParts, image_of}
use Rattle.p9_base.specs.Calls.{StreamCall, StreamsDid}
use Rattle.p9_base.specs.Outside.{Held, FileCall}
use Rattle.p9_form.specs.declared.file.File.{File}
use Rattle.p9_form.specs.Items.{items_of}
use Rattle.p9_form.specs.Spelling.{HasForm}
use Rattle.p9_suite.proofs.Calls.{AllAgree, agree_split}
use Rattle.p9_suite.proofs.EachFile.{split_reads}
use Rattle.p9_suite.proofs.Meaning.{Meaning, told_by}
use Rattle.p9_suite.proofs.Ran as runs
use Rattle.p9_suite.specs.Answers.{refusal_status}
use Rattle.p9_suite.specs.Scene.{Scene, IsAnswer, held}
use Rattle.p9_suite.specs.Simulation.{Simulates, stopped, read_failed, write_failed}
use Rattle.p9_suite.specs.Stages.{Gives, Then, stops, goes_on, ReadsFile, found, absent, read_fault, read_no_memory, name_no_memory}
use Rattle.p9_suite.specs.Suite.{answer_of}
use Rattle.p9_suite.specs.Told.{OfRun}
use Rattle.p9_suite.specs.commands.Run.{TakesForm, taken, formless, take_no_memory, ReadsForm, ReadsForms, AreFiles, IsFirst, IsAbsent, IsFormless}
use Rattle.p9_suite.specs.declared.answer.Answer.{Answer}
use Rattle.p9_suite.specs.declared.answer.Refusal.{Refusal}
use Rattle.p9_suite.specs.declared.answer.Refusal.TheVariants.{Absent, NotBuilt}

-- where the store tells what it holds
pub if_held : {I O F : Type 0} (call : Scene I O F) (P : Held → Type 0) → ((before : Held) → held call ≡ Some before → P before) → IfSome (held call) P
if_held call P f = by (held call) refl
  where
    by : (h : Option Held) → held call ≡ h → IfSome (held call) P
    by None e = subst (λ (o : Option Held). IfSome o P) (sym e) tt
    by (Some before) e = subst (λ (o : Option Held). IfSome o P) (sym e) (f before e)

-- Simulations

pub simulated_image : (file : List ℕ) (budget : ℕ) (r : Result Answer Refusal) (calls : List StreamCall) → Simulates file budget r calls → (parts : ImageParts) × (image_of file ≡ Ok parts)
simulated_image file budget _ _ (stopped answer calls fine b) = (b.parts, b.image)
simulated_image file budget _ _ (read_failed calls ends t) = (t.parts, t.image)
simulated_image file budget _ _ (write_failed calls ends t) = (t.parts, t.image)

-- the objects before the simulation are those before the call
pub simulation_told : {I O F : Type 0} (call : Scene I O F) → Meaning call → (file : List ℕ) (budget : ℕ) (r : Result Answer Refusal) (calls : List StreamCall) (i : I) (o : O) → i ≡ call.old.input → o ≡ call.old.out → StreamsDid call.doing.takes call.doing.puts i o calls call.new.input call.new.out → Simulates file budget r calls → IsAnswer call (answer_of r) → OfRun call file budget
simulation_told call means file budget r calls i o e q d s is =
    let sim = runs.simulated file budget r calls s in
    let did : StreamsDid call.doing.takes call.doing.puts call.old.input call.old.out calls call.new.input call.new.out =
    subst (λ x. StreamsDid call.doing.takes call.doing.puts x call.old.out calls call.new.input call.new.out) e
    (subst (λ x. StreamsDid call.doing.takes call.doing.puts i x calls call.new.input call.new.out) q d) in
    runs.of_run call file budget r calls sim.answer s sim.is (subst (λ (x : Result Answer Refusal). IsAnswer call (answer_of x)) sim.is is) (told_by call calls means did)

-- Files that were read

err_same : {A : Type 0} {x y : Refusal} → ◌≡◌ {A = Result A Refusal} (Err x) (Err y) → x ≡ y
err_same e = cc

err_no_ok : {A : Type 0} {x : Refusal} {y : A} → ◌≡◌ {A = Result A Refusal} (Err x) (Ok y) → ⊥
err_no_ok e = cc

ok_same : {A : Type 0} {x y : A} → ◌≡◌ {A = Result A Refusal} (Ok x) (Ok y) → x ≡ y
ok_same e = cc

form_told : (before : Held) (name : List ℕ) (file : File) (own : List FileCall) → ReadsForm name (Ok file) own → AllAgree before own → (bytes : List ℕ) × (before name ≡ Some bytes) × HasForm bytes (items_of file)
form_told before name file _ (goes_on _ _ front behind (found bytes) t) a = (bytes, a.0, by bytes behind t)
  where
    by : (bytes : List ℕ) (calls : List FileCall) → TakesForm name bytes (Ok file) calls → HasForm bytes (items_of file)
    by bytes _ (taken _ f m) = f

pub files_told : (before : Held) (names : List (List ℕ)) (files : List File) (own : List FileCall) → ReadsForms names (Ok files) own → AllAgree before own → AreFiles before names files
files_told before [] files own g a = subst (AreFiles before []) (sym (ok_same g.0)) tt
files_told before (name ∷ names) files own s a =
    let p = split_reads ReadsForm name names files own s in
    let parts = agree_split before p.front p.behind (subst (AllAgree before) p.made a) in
    let first = form_told before name p.value p.front p.first parts.0 in
    subst (AreFiles before (name ∷ names)) (sym p.are) (first.0, first.1, first.2, files_told before names p.others p.behind p.rest parts.1)

-- the refusal of one file, and of the first of several
abbrev pub Fault : (before : Held) (name : List ℕ) → Refusal → Type 0
Fault before name why = (IsAbsent name (before name) × (why ≡ Absent name)) ⊎ (IsFormless name (before name) × (why ≡ NotBuilt name))

abbrev pub FirstFault : (before : Held) (names : List (List ℕ)) → Refusal → Type 0
FirstFault before names why =
    IsFirst (λ name there. IsAbsent name there × (why ≡ Absent name)) before names
    ⊎ IsFirst (λ name there. IsFormless name there × (why ≡ NotBuilt name)) before names

file_fault : (before : Held) (name : List ℕ) (why : Refusal) (own : List FileCall) → ReadsFile name (Err why) own → AllAgree before own → refusal_status why ≢ 9 → refusal_status why ≢ 10 → Fault before name why
file_fault before name _ _ absent a nine ten = inl (a.0, refl)
file_fault before name _ _ read_fault a nine ten = absurd (nine refl)
file_fault before name _ _ read_no_memory a nine ten = absurd (ten refl)
file_fault before name _ _ name_no_memory a nine ten = absurd (ten refl)

takes_fault : (before : Held) (name bytes : List ℕ) (why : Refusal) (own : List FileCall) → before name ≡ Some bytes → TakesForm name bytes (Err why) own → refusal_status why ≢ 9 → refusal_status why ≢ 10 → Fault before name why
takes_fault before name bytes _ _ e (formless n) nine ten = inr (subst (IsFormless name) (sym e) n, refl)
takes_fault before name bytes _ _ e take_no_memory nine ten = absurd (ten refl)

form_fault : (before : Held) (name : List ℕ) (why : Refusal) (own : List FileCall) → ReadsForm name (Err why) own → AllAgree before own → refusal_status why ≢ 9 → refusal_status why ≢ 10 → Fault before name why
form_fault before name why _ (stops _ calls s) a nine ten = file_fault before name why calls s a nine ten
form_fault before name why _ (goes_on _ _ front behind (found bytes) t) a nine ten = takes_fault before name bytes why behind a.0 t nine ten

-- behind a file that was read
later_fault : (before : Held) (names : List (List ℕ)) (file : File) (why : Refusal) (behind : List FileCall) → ((own : List FileCall) → ReadsForms names (Err why) own → AllAgree before own → FirstFault before names why) → Then (ReadsForms names) (λ files. Gives (file ∷ files)) (Err why) behind → AllAgree before behind → FirstFault before names why
later_fault before names file why _ recurse (stops _ calls u) b = recurse calls u b
later_fault before names file why _ recurse (goes_on files _ f g u given) b = absurd (err_no_ok given.0)

pub forms_fault : (before : Held) (names : List (List ℕ)) (why : Refusal) (own : List FileCall) → ReadsForms names (Err why) own → AllAgree before own → refusal_status why ≢ 9 → refusal_status why ≢ 10 → FirstFault before names why
forms_fault before [] why own g a nine ten = absurd (err_no_ok g.0)
forms_fault before (name ∷ names) why _ (stops _ calls s) a nine ten = elim (form_fault before name why calls s a nine ten) [
  | inl f ↦ inl (inl f)
  | inr f ↦ inr (inl f)
]
forms_fault before (name ∷ names) why _ (goes_on file _ front behind s t) a nine ten =
    let parts = agree_split before front behind a in
    let first = form_told before name file front s parts.0 in
    elim (later_fault before names file why behind (λ own u b. forms_fault before names why own u b nine ten) t parts.1) [
      | inl f ↦ inl (inr (file, first.0, first.1, first.2, f))
      | inr f ↦ inr (inr (file, first.0, first.1, first.2, f))
    ]
