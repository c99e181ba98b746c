-- Modules that are read.
use Rattle.std.proofs.Common.{◌≡◌, ◌≤◌, ◌⊎◌, ◌&&◌, ℕ, Bool, true, false, List, [], ◌++◌, All, length, take, drop, Option, None, Some, Result, Ok, Err, inl, inr, refl, sym, ◌∙◌, ap, subst, append_assoc, append-nil}
use Rattle.std.proofs.lemmas.List.{take-append-drop}
use Rattle.p9_abs.specs.Programs.{IsPlacing}
use Rattle.p9_abs.specs.declared.modules.AModule.{AModule}
use Rattle.p9_base.specs.Outside.{FileCall}
use Rattle.p9_load.specs.Loading.{Loads, RunsAsModules, placing}
use Rattle.p9_load.specs.Refusals.{AreLoadable}
use Rattle.p9_load.specs.declared.loaded.Loaded.{Loaded}
use Rattle.p9_object.proofs.Reading.{reads_only_spellings}
use Rattle.p9_object.specs.Bytes as machine
use Rattle.p9_object.specs.Laws.{IsByte, IsObject}
use Rattle.p9_reader.proofs.Answering.{refused_early}
use Rattle.p9_reader.specs.Answers.{answer, answer_of, refusal}
use Rattle.p9_reader.specs.declared.faults.ObjFault.{ObjFault}
use Rattle.p9_reader.specs.declared.faults.ObjFault.TheVariants as objects
use Rattle.p9_suite.proofs.EachFile.{each_holds}
use Rattle.p9_suite.proofs.EachFile as each
use Rattle.p9_suite.specs.CommandLine.{is_assembly}
use Rattle.p9_suite.specs.declared.answer.Refusal.{Refusal}
use Rattle.p9_suite.specs.declared.answer.Refusal.TheVariants.{Object, Memory}
use Rattle.p9_suite.specs.Stages.{MakesOnStore, goes_on}
use Rattle.p9_suite.specs.commands.Load.{IsExecutable, Decodes, decodes, no_object, decode_no_memory, TakesBytes, ReadsModule, ReadsModules}

-- An object in pieces

-- what a reader was given, and what is left for it
pub record IsFed (bytes given rest : List ℕ) (fault : Option ObjFault) : Type 0 where
  pub all : bytes ≡ given ++ rest
  pub good : fault ≡ None

in_pieces : (given rest : List ℕ) (n : ℕ) → (given ++ take n rest) ++ drop n rest ≡ given ++ rest
in_pieces given rest n = append_assoc given (take n rest) (drop n rest) ∙ ap (λ (x : List ℕ). given ++ x) (take-append-drop n rest)

pub fed : (bytes given now rest piece after : List ℕ) (n : ℕ) (before fault : Option ObjFault) → IsFed bytes given rest before → piece ≡ take n rest → after ≡ drop n rest → now ≡ given ++ piece → fault ≡ None → IsFed bytes now after fault
fed bytes given now rest piece after n before fault f p a e g = record {
  all = f.all ∙ (sym (in_pieces given rest n) ∙ (ap (λ (x : List ℕ). (given ++ x) ++ drop n rest) (sym p) ∙ (ap (λ (x : List ℕ). x ++ drop n rest) (sym e) ∙ ap (λ (x : List ℕ). now ++ x) (sym a))));
  good = g;
}

-- a fault in the middle is that of all bytes
pub broken : (bytes given rest piece : List ℕ) (n : ℕ) (before : Option ObjFault) (fault : ObjFault) → IsFed bytes given rest before → piece ≡ take n rest → (before ≡ None → (fault ≡ objects.Memory) ⊎ (refusal (given ++ piece) ≡ Some fault)) → (◌≡◌ {A = Result AModule ObjFault} (Err fault) (Err objects.Memory)) ⊎ (◌≡◌ {A = Result AModule ObjFault} (Err fault) (answer bytes))
broken bytes given rest piece n before fault f p first = elim (first f.good) [
  | inl m ↦ inl (ap (λ x. Err x) m)
  | inr r ↦ inr (sym (ap (λ x. answer x) (f.all ∙ sym (in_pieces given rest n)) ∙ refused_early (given ++ take n rest) (drop n rest) fault (ap (λ (x : List ℕ). refusal (given ++ x)) (sym p) ∙ r)))
]

pub whole : (bytes given rest : List ℕ) (fault : Option ObjFault) (r : Result AModule ObjFault) → IsFed bytes given rest fault → rest ≡ [] → (fault ≡ None → r ≡ answer given) → (r ≡ Err objects.Memory) ⊎ (r ≡ answer bytes)
whole bytes given rest fault r f e w = inr (w f.good ∙ ap (λ x. answer x) (sym (f.all ∙ (ap (λ (x : List ℕ). given ++ x) e ∙ append-nil given))))

-- One file

as_read : (bytes : List ℕ) (r : Result AModule machine.Fault) (m : AModule) → machine.reading bytes ≡ r → answer_of r ≡ Ok m → machine.reading bytes ≡ Ok m
as_read bytes (Ok n) m e a = e ∙ ap (λ x. Ok x) (ok_is a)
  where
    ok_is : {x y : AModule} → ◌≡◌ {A = Result AModule ObjFault} (Ok x) (Ok y) → x ≡ y
    ok_is e = cc
as_read bytes (Err f) m e a = cc

pub object_decodes : {C : Type 0} (name bytes : List ℕ) (m : AModule) → All IsByte bytes → (◌≡◌ {A = Result AModule ObjFault} (Ok m) (Err objects.Memory)) ⊎ (◌≡◌ {A = Result AModule ObjFault} (Ok m) (answer bytes)) → Decodes {C = C} name bytes (Ok m) []
object_decodes name bytes m k (inl e) = cc
object_decodes name bytes m k (inr e) = decodes m (sym e) (reads_only_spellings bytes m k (as_read bytes (machine.reading bytes) m refl (sym e))).0

pub object_refused : {C : Type 0} (name bytes : List ℕ) (why : ObjFault) (r : Refusal) → (◌≡◌ {A = Result AModule ObjFault} (Err why) (Err objects.Memory)) ⊎ (◌≡◌ {A = Result AModule ObjFault} (Err why) (answer bytes)) → (r ≡ Memory) ⊎ ((why ≡ objects.Memory → ⊥) × (r ≡ Object name why)) → Decodes {C = C} name bytes (Err r) []
object_refused {C} name bytes why r a (inl m) = subst (λ (x : Refusal). Decodes {C = C} name bytes (Err x) []) (sym m) decode_no_memory
object_refused {C} name bytes why r (inl e) (inr n) = absurd (n.0 (err_same e))
  where
    err_same : {x y : ObjFault} → ◌≡◌ {A = Result AModule ObjFault} (Err x) (Err y) → x ≡ y
    err_same e = cc
object_refused {C} name bytes why r (inr e) (inr n) = subst (λ (x : Refusal). Decodes {C = C} name bytes (Err x) []) (sym n.1) (no_object why (sym e))

-- memory that runs out behind a module that was read has run out while it was read

lost_object : (name bytes : List ℕ) (m : AModule) (calls : List FileCall) → Decodes name bytes (Ok m) calls → Decodes name bytes (Err Memory) calls
lost_object name bytes _ _ (decodes m e o) = decode_no_memory

lost_bytes : (is_text : Bool) (name bytes : List ℕ) (m : AModule) (calls : List FileCall) → TakesBytes is_text name bytes (Ok m) calls → TakesBytes is_text name bytes (Err Memory) calls
lost_bytes true name bytes m _ (goes_on object _ front behind a d) = goes_on object (Err Memory) front behind a (lost_object name object m behind d)
lost_bytes false name bytes m calls d = lost_object name bytes m calls d

pub lost : (by_name : Bool) (name : List ℕ) (m : AModule) (calls : List FileCall) → ReadsModule by_name name (Ok m) calls → ReadsModule by_name name (Err Memory) calls
lost by_name name m _ (goes_on bytes _ front behind r t) = goes_on bytes (Err Memory) front behind r (lost_bytes (by_name && is_assembly name) name bytes m behind t)

-- What the reads say of the modules

object_is : (name bytes : List ℕ) (m : AModule) (calls : List FileCall) → Decodes name bytes (Ok m) calls → IsObject m
object_is name bytes _ _ (decodes m e o) = o

bytes_are : (is_text : Bool) (name bytes : List ℕ) (m : AModule) (calls : List FileCall) → TakesBytes is_text name bytes (Ok m) calls → IsObject m
bytes_are true name bytes m _ (goes_on object _ front behind a d) = object_is name object m behind d
bytes_are false name bytes m calls d = object_is name bytes m calls d

module_is : (by_name : Bool) (name : List ℕ) (m : AModule) (calls : List FileCall) → ReadsModule by_name name (Ok m) calls → IsObject m
module_is by_name name m _ (goes_on bytes _ front behind r t) = bytes_are (by_name && is_assembly name) name bytes m behind t

module _ {F : Type 0} (does : F → FileCall → F → Type 0) (f g : F) (by_name : Bool) (names : List (List ℕ)) (modules : List AModule) where
  pub read_objects : MakesOnStore does f g (ReadsModules by_name names) (Ok modules) → All IsObject modules
  read_objects (calls, d, r) = each_holds (ReadsModule by_name) IsObject (module_is by_name) names modules calls r

  pub read_count : MakesOnStore does f g (ReadsModules by_name names) (Ok modules) → length names ≤ 256 → length modules ≤ 256
  read_count (calls, d, r) few = subst (λ n. n ≤ 256) (sym (each.read_count (ReadsModule by_name) names modules calls r)) few

-- What loading gives

pub executable : (modules : List AModule) (loaded : Loaded) (bytes : List ℕ) → AreLoadable modules → Loads modules loaded → IsPlacing modules (placing modules loaded) → RunsAsModules modules loaded → bytes ≡ loaded.bytes → IsExecutable modules bytes
executable modules loaded bytes l is placed runs same = record { loadable = l; loaded = loaded; same = same; loads = is; placed = placed; runs = runs }
