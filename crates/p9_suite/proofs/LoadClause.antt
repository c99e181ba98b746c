-- The clause of the commands that load files.
use Rattle.std.proofs.Common.{◌≡◌, ◌≢◌, ◌&&◌, ℕ, Bool, true, false, List, [], ◌∷◌, map, Option, Some, None, if◌then◌else◌, Result, Ok, Err, inl, inr, refl, sym, ◌∙◌, ap, subst}
use Rattle.std.specs.Prelude.{IsSomeAnd}
use Rattle.p9_abs.specs.declared.modules.AModule.{AModule}
use Rattle.p9_asm.specs.Assembled.{assembled}
use Rattle.p9_base.specs.Calls.{Call, OnFiles, Objects, Did}
use Rattle.p9_base.specs.Outside.{Held, FileCall}
use Rattle.p9_load.specs.declared.fault.LoadFault.{LoadFault}
use Rattle.p9_object.proofs.Reading.{reads_what_is_spelled}
use Rattle.p9_object.specs.Fields.{spelling}
use Rattle.p9_object.specs.Laws.{IsObject}
use Rattle.p9_reader.specs.Answers.{answer, answer_of as read_as}
use Rattle.p9_suite.proofs.Calls.{AllAgree, agree_split, reads_agree, reads_keep, of_store, stands, split}
use Rattle.p9_suite.proofs.Executed.{Stands, not_unwritten, executed_says}
use Rattle.p9_suite.proofs.LoadCases.{modules_read, Delivered, not_delivered, delivered, executed_behind, ModulesCase, not_loaded, loaded, LoadCase, unread, read, load_case, load_alone}
use Rattle.p9_suite.proofs.Loading.{is_loadable, loadable_refused, same_refusal}
use Rattle.p9_suite.proofs.Meaning.{Meaning}
use Rattle.p9_suite.proofs.Told.{if_held}
use Rattle.p9_suite.specs.Answers.{refusal_status, load_status}
use Rattle.p9_suite.specs.CommandLine.{is_assembly}
use Rattle.p9_suite.specs.Scene.{Scene, IsAnswer, held}
use Rattle.p9_suite.specs.Stages.{Then, Gives, stops, goes_on, ReadsFile, found, absent, read_fault, read_no_memory, name_no_memory}
use Rattle.p9_suite.specs.Suite.{Answered, Comes, CommandComes, answer_of, command}
use Rattle.p9_suite.specs.commands.{Command, LoadCommand}
use Rattle.p9_suite.specs.commands.Load.{Load, Decodes, decodes, no_object, decode_no_memory, TakesText, TakesBytes, ReadsModule, ReadsModules, LoadStages, of_text, of_object, module_at, in_front, modules_at, OfBudget, IsRefused, OfModules, OfFiles, LoadSays}
use Rattle.p9_suite.specs.commands.Va.{assembles, refuses, assemble_no_memory}
use Rattle.p9_suite.specs.declared.answer.Answer.{Answer}
use Rattle.p9_suite.specs.declared.answer.Answer.TheVariants.{Refused}
use Rattle.p9_suite.specs.declared.answer.Refusal.{Refusal}
use Rattle.p9_suite.specs.declared.answer.Refusal.TheVariants.{Load as LoadRefused}

-- What reads tell of modules

-- no call on the store failed, and memory sufficed
abbrev Sufficed : {A : Type 0} → Result A Refusal → Type 0
Sufficed (Ok value) = Unit {0}
Sufficed (Err why) = (refusal_status why ≢ 9) × (refusal_status why ≢ 10)

ok_same : {A E : Type 0} {x y : A} → ◌≡◌ {A = Result A E} (Ok x) (Ok y) → x ≡ y
ok_same e = cc

ok_err : {A E : Type 0} {x : A} {y : E} → ◌≡◌ {A = Result A E} (Ok x) (Err y) → ⊥
ok_err e = cc

answer_spelled : (m : AModule) → IsObject m → answer (spelling m) ≡ Ok m
answer_spelled m o = ap (λ r. read_as r) (reads_what_is_spelled m o)

decoded_told : (name bytes : List ℕ) (r : Result AModule Refusal) (calls : List FileCall) → Decodes name bytes r calls → Sufficed r → of_object name (answer bytes) ≡ r
decoded_told name bytes _ _ (decodes m e o) s = ap (of_object name) e
decoded_told name bytes _ _ (no_object why e) s = ap (of_object name) e
decoded_told name bytes _ _ decode_no_memory s = absurd (s.1 refl)

-- what an object's bytes are taken as is the module that they spell
spelled_told : (name : List ℕ) (m : AModule) (r : Result AModule Refusal) (calls : List FileCall) → IsObject m → Decodes name (spelling m) r calls → Sufficed r → ◌≡◌ {A = Result AModule Refusal} (Ok m) r
spelled_told name m _ _ o (decodes n e p) s = ap (λ x. Ok x) (ok_same (sym (answer_spelled m o) ∙ e))
spelled_told name m _ _ o (no_object why e) s = absurd (ok_err (sym (answer_spelled m o) ∙ e))
spelled_told name m _ _ o decode_no_memory s = absurd (s.1 refl)

text_told : (name text : List ℕ) (r : Result AModule Refusal) (calls : List FileCall) → TakesText name text r calls → Sufficed r → of_text name (assembled text) ≡ r
text_told name text _ _ (stops _ _ (refuses why e)) s = ap (of_text name) e
text_told name text _ _ (stops _ _ assemble_no_memory) s = absurd (s.1 refl)
text_told name text r _ (goes_on _ _ _ behind (assembles m e o) d) s = ap (of_text name) e ∙ spelled_told name m r behind o d s

bytes_told : (is_text : Bool) (name bytes : List ℕ) (r : Result AModule Refusal) (calls : List FileCall) → TakesBytes is_text name bytes r calls → Sufficed r → (if is_text then of_text name (assembled bytes) else of_object name (answer bytes)) ≡ r
bytes_told true name bytes = text_told name bytes
bytes_told false name bytes = decoded_told name bytes

module _ (by_name : Bool) (before : Held) where
  unread_told : (name : List ℕ) (why : Refusal) (own : List FileCall) → ReadsFile name (Err why) own → AllAgree before own → refusal_status why ≢ 9 → refusal_status why ≢ 10 → module_at by_name name (before name) ≡ Err why
  unread_told name _ _ absent a nine ten = ap (module_at by_name name) a.0
  unread_told name _ _ read_fault a nine ten = absurd (nine refl)
  unread_told name _ _ read_no_memory a nine ten = absurd (ten refl)
  unread_told name _ _ name_no_memory a nine ten = absurd (ten refl)

  module_told : (name : List ℕ) (r : Result AModule Refusal) (own : List FileCall) → ReadsModule by_name name r own → AllAgree before own → Sufficed r → module_at by_name name (before name) ≡ r
  module_told name _ _ (stops why own s) a f = unread_told name why own s a f.0 f.1
  module_told name r _ (goes_on _ _ _ behind (found bytes) t) a f = ap (module_at by_name name) a.0 ∙ bytes_told (by_name && is_assembly name) name bytes r behind t f

  -- behind a module that was read
  others_told : (names : List (List ℕ)) (m : AModule) (r : Result (List AModule) Refusal) (behind : List FileCall) → ((r : Result (List AModule) Refusal) (own : List FileCall) → ReadsModules by_name names r own → AllAgree before own → Sufficed r → modules_at by_name before names ≡ r) → Then (ReadsModules by_name names) (λ ms. Gives (m ∷ ms)) r behind → AllAgree before behind → Sufficed r → in_front (Ok m) (modules_at by_name before names) ≡ r
  others_told names m _ _ rest (stops why own s) a f = ap (in_front (Ok m)) (rest (Err why) own s a f)
  others_told names m r _ rest (goes_on ms _ front behind s given) a f =
      ap (in_front (Ok m)) (rest (Ok ms) front s (agree_split before front behind a).0 tt) ∙ sym given.0

  pub modules_told : (names : List (List ℕ)) (r : Result (List AModule) Refusal) (own : List FileCall) → ReadsModules by_name names r own → AllAgree before own → Sufficed r → modules_at by_name before names ≡ r
  modules_told [] r own g a f = sym g.0
  modules_told (name ∷ names) _ _ (stops why own s) a f = ap (λ x. in_front x (modules_at by_name before names)) (module_told name (Err why) own s a f)
  modules_told (name ∷ names) r _ (goes_on m _ front behind s t) a f =
      let parts = agree_split before front behind a in
      ap (λ x. in_front x (modules_at by_name before names)) (module_told name (Ok m) front s parts.0 tt)
      ∙ others_told names m r behind (modules_told names) t parts.1 f

-- The answer

module _ {I O F : Type 0} (call : Scene I O F) (means : Meaning call) (load : Load) (before : Held) (at : held call ≡ Some before) (nine : call.status ≢ 9) (ten : call.status ≢ 10) where
  delivered_says : (output bytes : List ℕ) (budget : Option ℕ) (r : Result Answer Refusal) (calls : List Call) (middle : Objects I O F) → middle.input ≡ call.old.input → middle.out ≡ call.old.out → call.telling.held middle.files ≡ Some before → Delivered output bytes budget r calls → Did call.doing middle calls call.new → IsAnswer call (answer_of r) → Stands call output bytes × OfBudget call budget bytes
  delivered_says output bytes _ _ _ middle i o h (not_delivered why own u) d is = absurd (not_unwritten call means before nine ten output bytes why own u is)
  delivered_says output bytes _ _ _ middle i o h delivered d is =
      let there = stands call.doing.takes call.doing.puts call.telling.held call.counts.store_faults call.doing.stores means.stores output bytes middle.files d.0.files before h d.1.0 in
      (subst (λ (x : Option Held). IsSomeAnd x (λ now. now output ≡ Some bytes)) (sym (ap (λ (x : Objects I O F). call.telling.held x.files) d.2)) there, is)
  delivered_says output bytes _ r calls middle i o h (executed_behind budget _ _ e) d is = executed_says call means before nine ten output budget bytes r calls middle i o h e d is

  of_modules : (modules : List AModule) (r : Result Answer Refusal) (calls : List Call) (middle : Objects I O F) → middle.input ≡ call.old.input → middle.out ≡ call.old.out → call.telling.held middle.files ≡ Some before → ModulesCase load modules r calls → Did call.doing middle calls call.new → IsAnswer call (answer_of r) → OfModules call load modules
  of_modules modules _ _ middle i o h (not_loaded why cause) d is =
      let refused : IsRefused modules why = ((λ e. ten (is.0 ∙ ap load_status e)), cause) in
      record {
        either = inr (why, refused);
        loaded = λ l. absurd (loadable_refused modules why l refused);
        refused = λ other f. subst (λ (w : LoadFault). IsAnswer call (Refused (LoadRefused w))) (same_refusal modules why other refused f) is;
      }
  of_modules modules r calls middle i o h (loaded bytes is_executable _ _ d) did is =
      let says = delivered_says load.output bytes load.budget r calls middle i o h d did is in
      record {
        either = inl (is_loadable modules bytes is_executable);
        loaded = λ _. record { bytes = bytes; is = is_executable; stands = says.0; answers = says.1 };
        refused = λ why f. absurd (loadable_refused modules why (is_loadable modules bytes is_executable) f);
      }

  by_way : (r : Result Answer Refusal) (calls : List Call) → LoadCase load r calls → Did call.doing call.old calls call.new → IsAnswer call (answer_of r) → OfFiles call load (modules_at load.by_name before load.files)
  by_way _ _ (unread why own s) d is =
      let o = of_store call.doing.takes call.doing.puts call.doing.stores own call.old call.new d in
      let agree = reads_agree call.doing.takes call.doing.puts call.telling.held call.counts.store_faults call.doing.stores means.stores before own call.old.files call.new.files (modules_read load.by_name load.files (Err why) own s).reads at o.did in
      subst (OfFiles call load) (sym (modules_told load.by_name before load.files (Err why) own s agree ((λ e. nine (is.0 ∙ e)), (λ e. ten (is.0 ∙ e))))) is
  by_way r _ (read modules own s _ behind m) d is =
      let b = split call.doing.takes call.doing.puts call.doing.stores (map OnFiles own) behind call.old call.new d in
      let o = of_store call.doing.takes call.doing.puts call.doing.stores own call.old b.middle b.first in
      let reads = (modules_read load.by_name load.files (Ok modules) own s).reads in
      let agree = reads_agree call.doing.takes call.doing.puts call.telling.held call.counts.store_faults call.doing.stores means.stores before own call.old.files b.middle.files reads at o.did in
      let same = reads_keep call.doing.takes call.doing.puts call.telling.held call.counts.store_faults call.doing.stores means.stores own call.old.files b.middle.files reads o.did in
      subst (OfFiles call load) (sym (modules_told load.by_name before load.files (Ok modules) own s agree tt))
      (of_modules modules r behind b.middle o.input o.out (same ∙ at) m b.then is)

pub load_says : {I O F : Type 0} (call : Scene I O F) → Meaning call → Answered call → (load : Load) → command call ≡ Some (LoadCommand load) → LoadSays call load
load_says call means a load w =
    let comes : Comes (LoadStages load) a.answer a.calls = subst (λ (c : Option Command). CommandComes c a.answer a.calls) w a.comes in
    let way = load_case load comes.0 a.calls comes.2 in
    let alone = λ (e : load.budget ≡ None).
    let own = load_alone load comes.0 a.calls e way in
    of_store call.doing.takes call.doing.puts call.doing.stores own.0 call.old call.new (subst (λ (x : List Call). Did call.doing call.old x call.new) own.1 a.did) in
    record {
      files = λ nine ten. if_held call (λ before. OfFiles call load (modules_at load.by_name before load.files)) (λ before at.
          by_way call means load before at nine ten comes.0 a.calls way a.did (subst (IsAnswer call) comes.1 a.is));
      input = λ e. (alone e).input;
      out = λ e. (alone e).out;
    }
