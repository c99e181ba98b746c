-- Files of the form that are read.
use Rattle.std.proofs.Common.{◌≡◌, ℕ, ◌≤◌, List, [], All, length, Option, Some, None, IfSome, Result, Ok, Err, sym, ap, subst}
use Rattle.p9_base.proofs.CallLemmas.{none_some}
use Rattle.p9_base.specs.Outside.{FileCall}
use Rattle.p9_base.specs.declared.bytes.NoMemory.{NoMemory}
use Rattle.p9_first.specs.Form.{IsFile}
use Rattle.p9_form.specs.declared.file.File.{File}
use Rattle.p9_form.specs.Items.{items_of}
use Rattle.p9_form.specs.Sharing.{IsSmall}
use Rattle.p9_form.specs.Spelling.{HasForm, HasNoForm}
use Rattle.p9_suite.proofs.EachFile.{each_holds}
use Rattle.p9_suite.proofs.EachFile as each
use Rattle.p9_suite.specs.declared.answer.Refusal.TheVariants.{NotBuilt, Memory}
use Rattle.p9_suite.specs.Stages.{MakesOnStore, goes_on}
use Rattle.p9_suite.specs.commands.Run.{ReadsForm, ReadsForms, TakesForm, taken, formless, take_no_memory}

-- memory that runs out behind a file that was read has run out while it was read
pub lost : (name : List ℕ) (file : File) (calls : List FileCall) → ReadsForm name (Ok file) calls → ReadsForm name (Err Memory) calls
lost name file _ (goes_on bytes _ front behind r t) = goes_on bytes (Err Memory) front behind r (lost_behind bytes behind t)
  where
    lost_behind : (bytes : List ℕ) (behind : List FileCall) → TakesForm name bytes (Ok file) behind → TakesForm name bytes (Err Memory) behind
    lost_behind bytes _ (taken _ f m) = take_no_memory

-- What the reads say of the files

form_of : (name : List ℕ) (file : File) (calls : List FileCall) → ReadsForm name (Ok file) calls → IsFile (items_of file) × IsSmall file
form_of name file _ (goes_on bytes _ front behind r t) = by bytes behind t
  where
    by : (bytes : List ℕ) (behind : List FileCall) → TakesForm name bytes (Ok file) behind → IsFile (items_of file) × IsSmall file
    by bytes _ (taken _ f m) = (f.file, m)

module _ {F : Type 0} (does : F → FileCall → F → Type 0) (f g : F) (names : List (List ℕ)) (files : List File) where
  pub read_form : MakesOnStore does f g (ReadsForms names) (Ok files) → All (λ f. IsFile (items_of f)) files
  read_form (calls, d, r) = each_holds ReadsForm (λ f. IsFile (items_of f)) (λ name file own s. (form_of name file own s).0) names files calls r

  pub read_small : MakesOnStore does f g (ReadsForms names) (Ok files) → All IsSmall files
  read_small (calls, d, r) = each_holds ReadsForm IsSmall (λ name file own s. (form_of name file own s).1) names files calls r

  pub read_count : MakesOnStore does f g (ReadsForms names) (Ok files) → length names ≤ 16 → length files ≤ 16
  read_count (calls, d, r) few = subst (λ n. n ≤ 16) (sym (each.read_count ReadsForm names files calls r)) few

-- One file

some_is : {A : Type 0} {o : Option A} {x : A} (P : A → Type 0) → o ≡ Some x → IfSome o P → P x
some_is {o = None} P e h = absurd (none_some _ e)
some_is {o = Some y} P e h = subst P (some_same e) h
  where
    some_same : {A : Type 0} {x y : A} → Some x ≡ Some y → x ≡ y
    some_same e = cc

pub takes : (name bytes : List ℕ) (answer : Option File) (file : File) → answer ≡ Some file → IfSome answer (λ file. HasForm bytes (items_of file)) → IfSome answer (λ file. IsSmall file) → TakesForm {C = FileCall} name bytes (Ok file) []
takes name bytes answer file e form small = taken file (some_is (λ file. HasForm bytes (items_of file)) e form) (some_is IsSmall e small)

pub takes_not : (name word bytes : List ℕ) (answer : Option File) → answer ≡ None → word ≡ name → (◌≡◌ {A = Result (Option File) NoMemory} (Ok answer) (Ok None) → HasNoForm bytes) → TakesForm {C = FileCall} name bytes (Err (NotBuilt word)) []
takes_not name word bytes answer e w none = subst (λ (x : List ℕ). TakesForm {C = FileCall} name bytes (Err (NotBuilt x)) []) (sym w) (formless (none (ap Ok e)))
