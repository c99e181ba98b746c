-- The clause of `vi`.
use Rattle.std.proofs.Common.{◌≡◌, ◌≢◌, ℕ, List, [], ◌∷◌, map, Option, Some, Result, Ok, Err, refl, sym, subst}
use Rattle.p9_aout.specs.Image.{ImageParts, image_of}
use Rattle.p9_aout.specs.declared.format.AoutFault.{AoutFault}
use Rattle.p9_base.specs.Calls.{Call, OnFiles, OnStream, Did}
use Rattle.p9_base.specs.Outside.{Held, FileCall, ReadCall}
use Rattle.p9_base.specs.declared.outside.Got.TheVariants as got
use Rattle.p9_suite.proofs.Calls.{AllAgree, reads_agree, of_store, of_streams}
use Rattle.p9_suite.proofs.Tidy.{file_reads}
use Rattle.p9_suite.proofs.ViCases.{ViCase, unread, refused, no_machine, simulated, vi_case}
use Rattle.p9_suite.proofs.Meaning.{Meaning}
use Rattle.p9_suite.proofs.Told.{if_held, simulated_image, simulation_told}
use Rattle.p9_suite.specs.Scene.{Scene, IsAnswer, held}
use Rattle.p9_suite.specs.Stages.{ReadsFile, absent, read_fault, read_no_memory, name_no_memory}
use Rattle.p9_suite.specs.Suite.{Answered, Comes, CommandComes, answer_of, command}
use Rattle.p9_suite.specs.commands.{Command, ViCommand}
use Rattle.p9_suite.specs.commands.Vi.{Vi, ViStages, OfBytes, OfFile, ViSays}
use Rattle.p9_suite.specs.declared.answer.Answer.{Answer}
use Rattle.p9_suite.specs.declared.answer.Answer.TheVariants.{Refused}
use Rattle.p9_suite.specs.declared.answer.Refusal.{Refusal}

module _ {I O F : Type 0} (call : Scene I O F) (means : Meaning call) (vi : Vi) (before : Held) (at : held call ≡ Some before) (nine : call.status ≢ 9) (ten : call.status ≢ 10) where
  -- a read's answer agrees with what the store told
  one_read : (bytes : List ℕ) (calls : List Call) → Did call.doing call.old (OnFiles (ReadCall vi.file (got.Found bytes)) ∷ calls) call.new → before vi.file ≡ Some bytes
  one_read bytes calls d =
      (reads_agree call.doing.takes call.doing.puts call.telling.held call.counts.store_faults call.doing.stores means.stores before (ReadCall vi.file (got.Found bytes) ∷ [])
      call.old.files d.0.files tt at (d.0.files, d.1.0, refl)).0

  not_read : (why : Refusal) (own : List FileCall) → ReadsFile vi.file (Err why) own → AllAgree before own → IsAnswer call (Refused why) → OfFile call vi (before vi.file)
  not_read _ _ absent a is = subst (OfFile call vi) (sym a.0) is
  not_read _ _ read_fault a is = absurd (nine is.0)
  not_read _ _ read_no_memory a is = absurd (ten is.0)
  not_read _ _ name_no_memory a is = absurd (ten is.0)

  of_image : (bytes : List ℕ) (image : Result ImageParts AoutFault) → before vi.file ≡ Some bytes → image_of bytes ≡ image → OfBytes call vi bytes image → OfFile call vi (before vi.file)
  of_image bytes image there e o = subst (OfFile call vi) (sym there) (subst (OfBytes call vi bytes) (sym e) o)

  by_way : (r : Result Answer Refusal) (calls : List Call) → ViCase vi r calls → Did call.doing call.old calls call.new → IsAnswer call (answer_of r) → OfFile call vi (before vi.file)
  by_way _ _ (unread why own s) d is =
      let o = of_store call.doing.takes call.doing.puts call.doing.stores own call.old call.new d in
      not_read why own s
      (reads_agree call.doing.takes call.doing.puts call.telling.held call.counts.store_faults call.doing.stores means.stores before own call.old.files call.new.files (file_reads vi.file (Err why) own s).reads at o.did) is
  by_way _ _ (refused bytes why e) d is = of_image bytes (Err why) (one_read bytes [] d) e is
  by_way _ _ (no_machine bytes) d is = absurd (ten is.0)
  by_way r _ (simulated bytes _ own s) d is =
      let o = of_streams call.doing.takes call.doing.puts call.doing.stores own d.0 call.new d.2 in
      let image = simulated_image bytes vi.budget r own s in
      of_image bytes (Ok image.0) (one_read bytes (map OnStream own) d) image.1
      (simulation_told call means bytes vi.budget r own d.0.input d.0.out d.1.1 d.1.2 o.did s is)

pub vi_says : {I O F : Type 0} (call : Scene I O F) → Meaning call → Answered call → (vi : Vi) → command call ≡ Some (ViCommand vi) → ViSays call vi
vi_says call means a vi w nine ten = if_held call (λ before. OfFile call vi (before vi.file)) (λ before at.
    let comes : Comes (ViStages vi) a.answer a.calls = subst (λ (c : Option Command). CommandComes c a.answer a.calls) w a.comes in
    by_way call means vi before at nine ten comes.0 a.calls (vi_case vi comes.0 a.calls comes.2) a.did (subst (IsAnswer call) comes.1 a.is))
