-- The ways on which files are loaded, each with its calls.
use Rattle.std.proofs.Common.{◌≡◌, ◌≢◌, ◌&&◌, ℕ, Bool, true, false, List, [], ◌∷◌, ◌++◌, map, Option, Some, None, Result, Ok, Err, refl, sym, ◌∙◌, ap, subst}
use Rattle.std.proofs.lemmas.List.{map-append}
use Rattle.p9_abs.specs.declared.modules.AModule.{AModule}
use Rattle.p9_base.specs.Calls.{Call, OnFiles, Failing, CallsEnd}
use Rattle.p9_base.specs.Outside.{FileCall, WriteCall}
use Rattle.p9_load.specs.Refusals.{IsLoadRefusal}
use Rattle.p9_load.specs.declared.fault.LoadFault.{LoadFault}
use Rattle.p9_suite.proofs.EachFile.{each_reads}
use Rattle.p9_suite.proofs.Executed.{IsImage, Unwritten, unwritten, unwritten_tidy, Executed, executed, executed_tidy, executed_usual}
use Rattle.p9_suite.proofs.Loading.{is_image}
use Rattle.p9_suite.proofs.Refusals.{no_usage, assembly_fine, object_fine, load_fine}
use Rattle.p9_suite.proofs.Tidy.{OnlyReads, then_reads, file_reads, Tidy, reads_tidy, behind_reads}
use Rattle.p9_suite.specs.Answers.{status}
use Rattle.p9_suite.specs.CommandLine.{is_assembly}
use Rattle.p9_suite.specs.Stages.{stops, goes_on, ReadsFile, written}
use Rattle.p9_suite.specs.Suite.{answer_of}
use Rattle.p9_suite.specs.commands.Load.{Load, IsExecutable, Decodes, decodes, no_object, decode_no_memory, TakesText, TakesBytes, TakesModule, ReadsModule, ReadsModules, loads_modules, DeliversBy, LoadsAndDelivers, LoadStages}
use Rattle.p9_suite.specs.commands.Load as stages
use Rattle.p9_suite.specs.commands.Va.{Assembles, assembles, refuses, assemble_no_memory}
use Rattle.p9_suite.specs.declared.answer.Answer.{Answer}
use Rattle.p9_suite.specs.declared.answer.Answer.TheVariants.{Done}
use Rattle.p9_suite.specs.declared.answer.Refusal.{Refusal}
use Rattle.p9_suite.specs.declared.answer.Refusal.TheVariants.{Load as LoadRefused}

-- Reading

decode_reads : (name bytes : List ℕ) (r : Result AModule Refusal) (calls : List FileCall) → Decodes name bytes r calls → OnlyReads r calls
decode_reads name bytes _ _ (decodes m e o) = record { reads = tt; ends = tt }
decode_reads name bytes _ _ (no_object why e) = record { reads = tt; ends = subst (λ (f : Option Failing). CallsEnd [] f) (sym (object_fine why).fine) tt }
decode_reads name bytes _ _ decode_no_memory = record { reads = tt; ends = tt }

assemble_reads : (name text : List ℕ) (r : Result (List ℕ) Refusal) (calls : List FileCall) → Assembles name text r calls → OnlyReads r calls
assemble_reads name text _ _ (assembles m e o) = record { reads = tt; ends = tt }
assemble_reads name text _ _ (refuses why e) = record { reads = tt; ends = subst (λ (f : Option Failing). CallsEnd [] f) (sym (assembly_fine why).fine) tt }
assemble_reads name text _ _ assemble_no_memory = record { reads = tt; ends = tt }

bytes_read : (is_text : Bool) (name bytes : List ℕ) (r : Result AModule Refusal) (calls : List FileCall) → TakesBytes is_text name bytes r calls → OnlyReads r calls
bytes_read true name bytes = then_reads (Assembles name bytes) (Decodes name) (assemble_reads name bytes) (decode_reads name)
bytes_read false name bytes = decode_reads name bytes

module_reads : (by_name : Bool) (name : List ℕ) (r : Result AModule Refusal) (calls : List FileCall) → ReadsModule by_name name r calls → OnlyReads r calls
module_reads by_name name = then_reads (ReadsFile name) (TakesModule by_name name) (file_reads name) (bytes_read (by_name && is_assembly name) name)

pub modules_read : (by_name : Bool) (names : List (List ℕ)) (r : Result (List AModule) Refusal) (calls : List FileCall) → ReadsModules by_name names r calls → OnlyReads r calls
modules_read by_name = each_reads (ReadsModule by_name) (module_reads by_name)

-- The ways

-- the write, and the run where there is a budget
pub data Delivered (output bytes : List ℕ) : Option ℕ → Result Answer Refusal → List Call → Type 0 where
  not_delivered : (why : Refusal) (own : List FileCall) → Unwritten output bytes why own → Delivered output bytes None (Err why) (map OnFiles own)
  delivered : Delivered output bytes None (Ok Done) (OnFiles (WriteCall output bytes (Ok tt)) ∷ [])
  executed_behind : (budget : ℕ) (r : Result Answer Refusal) (calls : List Call) → Executed output budget bytes r calls → Delivered output bytes (Some budget) r calls

deliver_case : (budget : Option ℕ) (output bytes : List ℕ) → IsImage bytes → (r : Result Answer Refusal) (calls : List Call) → DeliversBy budget output bytes r calls → Delivered output bytes budget r calls
deliver_case None output bytes image r calls (own, e, s) = subst (λ (x : List Call). Delivered output bytes None r x) (sym e) (alone r own s)
  where
    alone : (r : Result Answer Refusal) (own : List FileCall) → stages.Writes output bytes r own → Delivered output bytes None r (map OnFiles own)
    alone _ _ (stops why own s) = not_delivered why own (unwritten output bytes why own s)
    alone r _ (goes_on _ _ _ behind written (is, none)) =
        subst (λ (x : Result Answer Refusal). Delivered output bytes None x (OnFiles (WriteCall output bytes (Ok tt)) ∷ map OnFiles behind)) (sym is)
        (subst (λ (x : List FileCall). Delivered output bytes None (Ok Done) (OnFiles (WriteCall output bytes (Ok tt)) ∷ map OnFiles x)) (sym none) delivered)
deliver_case (Some budget) output bytes image r calls s = executed_behind budget r calls (executed output budget bytes image r calls s)

-- the calls behind the reads
pub data ModulesCase (load : Load) (modules : List AModule) : Result Answer Refusal → List Call → Type 0 where
  not_loaded : (why : LoadFault) → IsLoadRefusal modules why → ModulesCase load modules (Err (LoadRefused why)) []
  loaded : (bytes : List ℕ) → IsExecutable modules bytes → (r : Result Answer Refusal) (calls : List Call) → Delivered load.output bytes load.budget r calls → ModulesCase load modules r calls

modules_case : (load : Load) (modules : List AModule) (r : Result Answer Refusal) (calls : List Call) → LoadsAndDelivers load modules r calls → ModulesCase load modules r calls
modules_case load modules _ _ (stops _ _ (stages.not_loaded why h)) = not_loaded why h
modules_case load modules r _ (goes_on _ _ _ behind (loads_modules bytes is) t) =
    loaded bytes is r behind (deliver_case load.budget load.output bytes (is_image modules bytes is) r behind t)

pub data LoadCase (load : Load) : Result Answer Refusal → List Call → Type 0 where
  unread : (why : Refusal) (own : List FileCall) → ReadsModules load.by_name load.files (Err why) own → LoadCase load (Err why) (map OnFiles own)
  read : (modules : List AModule) (own : List FileCall) → ReadsModules load.by_name load.files (Ok modules) own → (r : Result Answer Refusal) (behind : List Call) → ModulesCase load modules r behind → LoadCase load r (map OnFiles own ++ behind)

pub load_case : (load : Load) (r : Result Answer Refusal) (calls : List Call) → LoadStages load r calls → LoadCase load r calls
load_case load _ _ (stops why calls (own, e, s)) = subst (λ (x : List Call). LoadCase load (Err why) x) (sym e) (unread why own s)
load_case load r _ (goes_on modules _ front behind (own, e, s) t) =
    subst (λ (x : List Call). LoadCase load r (x ++ behind)) (sym e) (read modules own s r behind (modules_case load modules r behind t))

-- What their calls are

deliver_tidy : (output bytes : List ℕ) (budget : Option ℕ) (r : Result Answer Refusal) (calls : List Call) → Delivered output bytes budget r calls → Tidy (output ∷ []) (answer_of r) calls
deliver_tidy output bytes _ _ _ (not_delivered why own u) = unwritten_tidy output bytes why own u
deliver_tidy output bytes _ _ _ delivered = record {
  ends = (refl, tt);
  count = 1;
  writes = refl;
  early = λ e. cc;
  quiet = λ _. (WriteCall output bytes (Ok tt) ∷ [], refl);
}
deliver_tidy output bytes _ r calls (executed_behind budget _ _ e) = executed_tidy output budget bytes r calls e

modules_tidy : (load : Load) (modules : List AModule) (r : Result Answer Refusal) (calls : List Call) → ModulesCase load modules r calls → Tidy (load.output ∷ []) (answer_of r) calls
modules_tidy load modules _ _ (not_loaded why h) = record {
  ends = subst (λ (f : Option Failing). CallsEnd [] f) (sym (load_fine why).fine) tt;
  count = 0;
  writes = refl;
  early = λ _. refl;
  quiet = λ _. ([], refl);
}
modules_tidy load modules r calls (loaded bytes is _ _ d) = deliver_tidy load.output bytes load.budget r calls d

pub load_tidy : (load : Load) (r : Result Answer Refusal) (calls : List Call) → LoadCase load r calls → Tidy (load.output ∷ []) (answer_of r) calls
load_tidy load _ _ (unread why own s) =
    let o = modules_read load.by_name load.files (Err why) own s in reads_tidy (load.output ∷ []) why own (record { reads = o.reads; ends = o.ends })
load_tidy load r _ (read modules own s _ behind m) =
    let o = modules_read load.by_name load.files (Ok modules) own s in behind_reads (load.output ∷ []) (answer_of r) own behind o.reads o.ends (modules_tidy load modules r behind m)

done_usual : status Done ≢ 2
done_usual e = cc

deliver_usual : (output bytes : List ℕ) (budget : Option ℕ) (r : Result Answer Refusal) (calls : List Call) → Delivered output bytes budget r calls → status (answer_of r) ≢ 2
deliver_usual output bytes _ _ _ (not_delivered why own u) = no_usage why
deliver_usual output bytes _ _ _ delivered = done_usual
deliver_usual output bytes _ r calls (executed_behind budget _ _ e) = executed_usual output budget bytes r calls e

modules_usual : (load : Load) (modules : List AModule) (r : Result Answer Refusal) (calls : List Call) → ModulesCase load modules r calls → status (answer_of r) ≢ 2
modules_usual load modules _ _ (not_loaded why h) = (load_fine why).usual
modules_usual load modules r calls (loaded bytes is _ _ d) = deliver_usual load.output bytes load.budget r calls d

pub load_usual : (load : Load) (r : Result Answer Refusal) (calls : List Call) → LoadCase load r calls → status (answer_of r) ≢ 2
load_usual load _ _ (unread why own s) = no_usage why
load_usual load r _ (read modules own s _ behind m) = modules_usual load modules r behind m

-- Without a budget they are on the store alone.

abbrev pub AreOnStore : List Call → Type 0
AreOnStore calls = (own : List FileCall) × (calls ≡ map OnFiles own)

some_none : {A : Type 0} {x : A} → Some x ≡ None → ⊥
some_none e = cc

deliver_alone : (output bytes : List ℕ) (budget : Option ℕ) (r : Result Answer Refusal) (calls : List Call) → budget ≡ None → Delivered output bytes budget r calls → AreOnStore calls
deliver_alone output bytes _ _ _ e (not_delivered why own u) = (own, refl)
deliver_alone output bytes _ _ _ e delivered = (WriteCall output bytes (Ok tt) ∷ [], refl)
deliver_alone output bytes _ _ _ e (executed_behind budget _ _ x) = absurd (some_none e)

modules_alone : (load : Load) (modules : List AModule) (r : Result Answer Refusal) (calls : List Call) → load.budget ≡ None → ModulesCase load modules r calls → AreOnStore calls
modules_alone load modules _ _ e (not_loaded why h) = ([], refl)
modules_alone load modules r calls e (loaded bytes is _ _ d) = deliver_alone load.output bytes load.budget r calls e d

pub load_alone : (load : Load) (r : Result Answer Refusal) (calls : List Call) → load.budget ≡ None → LoadCase load r calls → AreOnStore calls
load_alone load _ _ e (unread why own s) = (own, refl)
load_alone load r _ e (read modules own s _ behind m) =
    let rest = modules_alone load modules r behind e m in
    (own ++ rest.0, ap (λ (x : List Call). map OnFiles own ++ x) rest.1 ∙ sym (map-append OnFiles own rest.0))
