-- The clause of `va`.
use Rattle.std.proofs.Common.{◌≡◌, ◌≢◌, ℕ, List, [], ◌∷◌, Option, Some, Result, Ok, Err, refl, sym, ◌∙◌, subst}
use Rattle.std.specs.Prelude.{IsSomeAnd}
use Rattle.p9_abs.specs.declared.modules.AModule.{AModule}
use Rattle.p9_asm.specs.Assembled.{assembled}
use Rattle.p9_asm.specs.declared.fault.AsmFault.{AsmFault}
use Rattle.p9_base.specs.Calls.{Call, Did}
use Rattle.p9_base.specs.Outside.{Held, FileCall}
use Rattle.p9_base.specs.Streams.{CallsDid}
use Rattle.p9_object.specs.Fields.{spelling}
use Rattle.p9_suite.proofs.Calls.{AllAgree, reads_agree, reads_keep, of_store, stands}
use Rattle.p9_suite.proofs.Meaning.{Meaning}
use Rattle.p9_suite.proofs.Tidy.{file_reads}
use Rattle.p9_suite.proofs.Told.{if_held}
use Rattle.p9_suite.proofs.VaCases.{text_read, VaCase, unread, refused, not_assembled, unwritten, done, va_case}
use Rattle.p9_suite.specs.Scene.{Scene, IsAnswer, held}
use Rattle.p9_suite.specs.Stages.{ReadsFile, absent, read_fault, read_no_memory, name_no_memory, WritesFile, write_fault, write_no_memory, output_no_memory}
use Rattle.p9_suite.specs.Suite.{Answered, Comes, CommandComes, answer_of, command}
use Rattle.p9_suite.specs.commands.{Command, VaCommand}
use Rattle.p9_suite.specs.commands.Va.{Va, VaStages, OfText, OfFile, VaSays}
use Rattle.p9_suite.specs.declared.answer.Answer.{Answer}
use Rattle.p9_suite.specs.declared.answer.Answer.TheVariants.{Refused}
use Rattle.p9_suite.specs.declared.answer.Refusal.{Refusal}

module _ {I O F : Type 0} (call : Scene I O F) (means : Meaning call) (va : Va) (before : Held) (at : held call ≡ Some before) (nine : call.status ≢ 9) (ten : call.status ≢ 10) where
  -- the reads of the store, which agree with what it told, and what they leave
  agree : (own : List FileCall) (new : F) → (r : Result (List ℕ) Refusal) → ReadsFile va.file r own → CallsDid call.doing.stores call.old.files own new → AllAgree before own
  agree own new r s d = reads_agree call.doing.takes call.doing.puts call.telling.held call.counts.store_faults call.doing.stores means.stores before own call.old.files new (file_reads va.file r own s).reads at d

  text_agrees : (text : List ℕ) (new : F) → call.doing.stores call.old.files (text_read va text) new → before va.file ≡ Some text
  text_agrees text new one =
      (reads_agree call.doing.takes call.doing.puts call.telling.held call.counts.store_faults call.doing.stores means.stores before (text_read va text ∷ []) call.old.files new tt at (new, one, refl)).0

  text_keeps : (text : List ℕ) (new : F) → call.doing.stores call.old.files (text_read va text) new → call.telling.held new ≡ Some before
  text_keeps text new one =
      reads_keep call.doing.takes call.doing.puts call.telling.held call.counts.store_faults call.doing.stores means.stores (text_read va text ∷ []) call.old.files new tt (new, one, refl) ∙ at

  not_read : (why : Refusal) (own : List FileCall) → ReadsFile va.file (Err why) own → AllAgree before own → IsAnswer call (Refused why) → OfFile call va (before va.file)
  not_read _ _ absent a is = subst (OfFile call va) (sym a.0) is
  not_read _ _ read_fault a is = absurd (nine is.0)
  not_read _ _ read_no_memory a is = absurd (ten is.0)
  not_read _ _ name_no_memory a is = absurd (ten is.0)

  not_written : (m : AModule) (why : Refusal) (own : List FileCall) → WritesFile va.output (spelling m) (Err why) own → IsAnswer call (Refused why) → OfFile call va (before va.file)
  not_written m _ _ write_fault is = absurd (nine is.0)
  not_written m _ _ write_no_memory is = absurd (ten is.0)
  not_written m _ _ output_no_memory is = absurd (ten is.0)

  of_module : (text : List ℕ) (r : Result AModule AsmFault) → before va.file ≡ Some text → assembled text ≡ r → OfText call va r → OfFile call va (before va.file)
  of_module text r there e o = subst (OfFile call va) (sym there) (subst (OfText call va) (sym e) o)

  by_way : (r : Result Answer Refusal) (own : List FileCall) → VaCase va r own → CallsDid call.doing.stores call.old.files own call.new.files → IsAnswer call (answer_of r) → OfFile call va (before va.file)
  by_way _ _ (unread why own s) d is = not_read why own s (agree own call.new.files (Err why) s d) is
  by_way _ _ (refused text why e) d is = of_module text (Err why) (text_agrees text d.0 d.1) e is
  by_way _ _ (not_assembled text) d is = absurd (ten is.0)
  by_way _ _ (unwritten text m why own s) d is = not_written m why own s is
  by_way _ _ (done text m e valid) d is =
      let there = stands call.doing.takes call.doing.puts call.telling.held call.counts.store_faults call.doing.stores means.stores va.output (spelling m) d.0 d.2.0 before (text_keeps text d.0 d.1) d.2.1 in
      of_module text (Ok m) (text_agrees text d.0 d.1) e
      (is, valid, subst (λ (f : F). IsSomeAnd (call.telling.held f) (λ now. now va.output ≡ Some (spelling m))) (sym d.2.2) there)

pub va_says : {I O F : Type 0} (call : Scene I O F) → Meaning call → Answered call → (va : Va) → command call ≡ Some (VaCommand va) → VaSays call va
va_says call means a va w =
    let comes : Comes (VaStages va) a.answer a.calls = subst (λ (c : Option Command). CommandComes c a.answer a.calls) w a.comes in
    let own : List FileCall = comes.2.0 in
    let o = of_store call.doing.takes call.doing.puts call.doing.stores own call.old call.new (subst (λ (x : List Call). Did call.doing call.old x call.new) comes.2.1 a.did) in
    record {
      file = λ nine ten. if_held call (λ before. OfFile call va (before va.file)) (λ before at.
          by_way call means va before at nine ten comes.0 own (va_case va comes.0 own comes.2.2) o.did (subst (IsAnswer call) comes.1 a.is));
      input = o.input;
      out = o.out;
    }
