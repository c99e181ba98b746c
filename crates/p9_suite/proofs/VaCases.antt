-- The ways on which `va` comes to its result, each with its calls on the store.
use Rattle.std.proofs.Common.{◌≡◌, ◌≢◌, ℕ, List, [], ◌∷◌, map, Option, Result, Ok, Err, refl, sym, subst}
use Rattle.p9_abs.specs.declared.modules.AModule.{AModule}
use Rattle.p9_asm.specs.Assembled.{assembled}
use Rattle.p9_asm.specs.declared.fault.AsmFault.{AsmFault}
use Rattle.p9_base.specs.Calls.{Call, OnFiles, Failing, CallsEnd}
use Rattle.p9_base.specs.Outside.{FileCall, ReadCall, WriteCall}
use Rattle.p9_base.specs.declared.outside.FileFault.TheVariants as store
use Rattle.p9_base.specs.declared.outside.Got.TheVariants as got
use Rattle.p9_object.specs.Fields.{spelling}
use Rattle.p9_object.specs.Laws.{IsObject}
use Rattle.p9_suite.proofs.Refusals.{no_usage, assembly_fine}
use Rattle.p9_suite.proofs.Tidy.{Tidy, file_reads, reads_tidy}
use Rattle.p9_suite.specs.Answers.{status}
use Rattle.p9_suite.specs.Stages.{stops, goes_on, ReadsFile, found, WritesFile, written, write_fault, write_no_memory, output_no_memory}
use Rattle.p9_suite.specs.Suite.{answer_of}
use Rattle.p9_suite.specs.commands.Va.{Va, assembles, refuses, assemble_no_memory, WritesObject, AssemblesFile}
use Rattle.p9_suite.specs.declared.answer.Answer.{Answer}
use Rattle.p9_suite.specs.declared.answer.Answer.TheVariants.{Done}
use Rattle.p9_suite.specs.declared.answer.Refusal.{Refusal}
use Rattle.p9_suite.specs.declared.answer.Refusal.TheVariants.{Assembly, Memory}

-- the read that gave the text
abbrev pub text_read : Va → (text : List ℕ) → FileCall
text_read va text = ReadCall va.file (got.Found text)

pub data VaCase (va : Va) : Result Answer Refusal → List FileCall → Type 0 where
  unread : (why : Refusal) (own : List FileCall) → ReadsFile va.file (Err why) own → VaCase va (Err why) own
  refused : (text : List ℕ) (why : AsmFault) → assembled text ≡ Err why → VaCase va (Err (Assembly va.file why)) (text_read va text ∷ [])
  not_assembled : (text : List ℕ) → VaCase va (Err Memory) (text_read va text ∷ [])
  unwritten : (text : List ℕ) (m : AModule) (why : Refusal) (own : List FileCall) → WritesFile va.output (spelling m) (Err why) own → VaCase va (Err why) (text_read va text ∷ own)
  done : (text : List ℕ) (m : AModule) → assembled text ≡ Ok m → IsObject m → VaCase va (Ok Done) (text_read va text ∷ WriteCall va.output (spelling m) (Ok tt) ∷ [])

wrote : (va : Va) (text : List ℕ) (m : AModule) → assembled text ≡ Ok m → IsObject m → (r : Result Answer Refusal) (calls : List FileCall) → WritesObject va.output (spelling m) r calls → VaCase va r (text_read va text ∷ calls)
wrote va text m is valid _ _ (stops why calls s) = unwritten text m why calls s
wrote va text m is valid r _ (goes_on _ _ _ behind written (e, n)) =
    subst (λ (x : Result Answer Refusal). VaCase va x (text_read va text ∷ WriteCall va.output (spelling m) (Ok tt) ∷ behind)) (sym e)
    (subst (λ (x : List FileCall). VaCase va (Ok Done) (text_read va text ∷ WriteCall va.output (spelling m) (Ok tt) ∷ x)) (sym n) (done text m is valid))

pub va_case : (va : Va) (r : Result Answer Refusal) (calls : List FileCall) → AssemblesFile va r calls → VaCase va r calls
va_case va _ _ (stops why calls s) = unread why calls s
va_case va _ _ (goes_on _ _ _ _ (found text) (stops _ _ (refuses why e))) = refused text why e
va_case va _ _ (goes_on _ _ _ _ (found text) (stops _ _ assemble_no_memory)) = not_assembled text
va_case va r _ (goes_on _ _ _ _ (found text) (goes_on _ _ _ behind (assembles m is valid) t)) = wrote va text m is valid r behind t

-- What their calls are

unwritten_tidy : (va : Va) (text : List ℕ) (m : AModule) (why : Refusal) (own : List FileCall) → WritesFile va.output (spelling m) (Err why) own → Tidy (va.output ∷ []) (answer_of (Err why)) (map OnFiles (text_read va text ∷ own))
unwritten_tidy va text m _ _ write_fault = record {
  ends = (OnFiles (text_read va text) ∷ [], OnFiles (WriteCall va.output (spelling m) (Err store.Failed)), refl, (refl, tt), refl);
  count = 1;
  writes = refl;
  early = λ e. cc;
  quiet = λ _. (text_read va text ∷ WriteCall va.output (spelling m) (Err store.Failed) ∷ [], refl);
}
unwritten_tidy va text m _ _ write_no_memory = record {
  ends = (refl, (refl, tt));
  count = 1;
  writes = refl;
  early = λ e. cc;
  quiet = λ _. (text_read va text ∷ WriteCall va.output (spelling m) (Err store.NoMemory) ∷ [], refl);
}
unwritten_tidy va text m _ _ output_no_memory = record {
  ends = (refl, tt);
  count = 0;
  writes = refl;
  early = λ _. refl;
  quiet = λ _. (text_read va text ∷ [], refl);
}

va_way_tidy : (va : Va) (r : Result Answer Refusal) (own : List FileCall) → VaCase va r own → Tidy (va.output ∷ []) (answer_of r) (map OnFiles own)
va_way_tidy va _ _ (unread why own s) = let o = file_reads va.file (Err why) own s in reads_tidy (va.output ∷ []) why own (record { reads = o.reads; ends = o.ends })
va_way_tidy va _ _ (refused text why e) = record {
  ends = subst (λ (f : Option Failing). CallsEnd (OnFiles (text_read va text) ∷ []) f) (sym (assembly_fine why).fine) (refl, tt);
  count = 0;
  writes = refl;
  early = λ _. refl;
  quiet = λ _. (text_read va text ∷ [], refl);
}
va_way_tidy va _ _ (not_assembled text) = record {
  ends = (refl, tt);
  count = 0;
  writes = refl;
  early = λ _. refl;
  quiet = λ _. (text_read va text ∷ [], refl);
}
va_way_tidy va _ _ (unwritten text m why own s) = unwritten_tidy va text m why own s
va_way_tidy va _ _ (done text m is valid) = record {
  ends = (refl, (refl, tt));
  count = 1;
  writes = refl;
  early = λ e. cc;
  quiet = λ _. (text_read va text ∷ WriteCall va.output (spelling m) (Ok tt) ∷ [], refl);
}

va_way_usual : (va : Va) (r : Result Answer Refusal) (own : List FileCall) → VaCase va r own → status (answer_of r) ≢ 2
va_way_usual va _ _ (unread why own s) = no_usage why
va_way_usual va _ _ (refused text why e) = (assembly_fine why).usual
va_way_usual va _ _ (not_assembled text) = no_usage Memory
va_way_usual va _ _ (unwritten text m why own s) = no_usage why
va_way_usual va _ _ (done text m is valid) = λ e. cc

pub va_tidy : (va : Va) (r : Result Answer Refusal) (calls : List Call) → (own : List FileCall) × (calls ≡ map OnFiles own) × AssemblesFile va r own → Tidy (va.output ∷ []) (answer_of r) calls
va_tidy va r calls (own, e, s) = subst (λ (x : List Call). Tidy (va.output ∷ []) (answer_of r) x) (sym e) (va_way_tidy va r own (va_case va r own s))

pub va_usual : (va : Va) (r : Result Answer Refusal) (calls : List Call) → (own : List FileCall) × (calls ≡ map OnFiles own) × AssemblesFile va r own → status (answer_of r) ≢ 2
va_usual va r calls (own, e, s) = va_way_usual va r own (va_case va r own s)
