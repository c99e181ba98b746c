-- The headline of `run`.
use Rattle.std.proofs.Common.{◌≡◌, ◌≢◌, ℕ, List, [], ◌∷◌, map, All, Some, refl, sym, ◌∙◌, ap, subst}
use Rattle.std.proofs.lemmas.List.Elements.{All-cons, All-nil}
use Rattle.p9_agree.proofs.Agreement.{files_join_as_sources}
use Rattle.p9_agree.specs.Modules.{IsModuleOf, AreModulesOf}
use Rattle.p9_base.specs.Outside.{Held}
use Rattle.p9_first.proofs.Sources.{source_of_module}
use Rattle.p9_first.specs.Form.{IsFile}
use Rattle.p9_first.specs.Joins.{Join}
use Rattle.p9_first.specs.Modules.{Source, sources_of, source_from, IsModule}
use Rattle.p9_first.specs.Modules as modules
use Rattle.p9_form.specs.declared.file.File.{File}
use Rattle.p9_form.specs.Items.{items_of, source_of}
use Rattle.p9_headline.specs.Headline.{KeepsMeaning}
use Rattle.p9_first.specs.declared.module.Module.{Module}
use Rattle.p9_abs.specs.BuiltIn.{linked}
use Rattle.p9_names.specs.Answers.{Joins}
use Rattle.p9_share.specs.Symbols.{module_of}
use Rattle.p9_straight.specs.Headline.{union_run}
use Rattle.p9_suite.proofs.Exclusion.{absent_files, formless_files, same_sources, refused_joined}
use Rattle.p9_suite.proofs.Meaning.{Meaning}
use Rattle.p9_suite.proofs.RunClause.{first_map, run_answer}
use Rattle.p9_suite.proofs.Told.{if_held}
use Rattle.p9_suite.specs.Scene.{Scene, IsAnswer}
use Rattle.p9_suite.specs.Suite.{Answered, command}
use Rattle.p9_suite.specs.commands.{RunCommand}
use Rattle.p9_suite.specs.commands.Run.{Run, AreUnits, KeepsUnion, Headline, AreFiles, IsAbsent, IsFormless, RunAnswer, at_absent, at_formless, at_refused, at_run}
use Rattle.p9_suite.specs.declared.answer.Answer.TheVariants.{Refused}
use Rattle.p9_suite.specs.declared.answer.Refusal.TheVariants.{Absent, NotBuilt}

-- Modules of files

module_source : (file : File) (m : Module) → IsModuleOf file m → modules.source_of m ≡ source_of file
module_source file m is = source_of_module m is.0 ∙ ap source_from is.1

pub modules_sources : (files : List File) (ms : List Module) → AreModulesOf files ms → sources_of ms ≡ map source_of files
modules_sources [] [] are = refl
modules_sources [] (m ∷ ms) are = absurd are
modules_sources (file ∷ files) [] are = absurd are
modules_sources (file ∷ files) (m ∷ ms) are =
    let first = module_source file m are.0 in
    let rest = modules_sources files ms are.1 in
    λ i. first i ∷ rest i

-- the files that units are
record FilesOf (before : Held) (names : List (List ℕ)) (units : List Module) : Type 0 where
  files : List File
  are : AreFiles before names files
  modules : AreModulesOf files units
  forms : All (λ f. IsFile (items_of f)) files

files_of : (before : Held) (names : List (List ℕ)) (units : List Module) → AreUnits before names units → FilesOf before names units
files_of before [] [] u = record { files = []; are = tt; modules = tt; forms = All-nil (λ f. IsFile (items_of f)) }
files_of before [] (m ∷ ms) u = absurd u
files_of before (name ∷ names) [] u = absurd u
files_of before (name ∷ names) (m ∷ ms) (bytes, there, (file, form, is), rest) =
    let others = files_of before names ms rest in
    record {
      files = file ∷ others.files;
      are = (bytes, there, form, others.are);
      modules = (is, others.modules);
      forms = All-cons (λ f. IsFile (items_of f)) file others.files form.file others.forms;
    }

-- The clause

kept : {I O F : Type 0} (call : Scene I O F) (run : Run) (units : List Module) (before : Held) → AreUnits before run.files units → Join (sources_of units) → RunAnswer call run before → KeepsUnion call run units
kept call run units before u join (at_absent f) =
    let o = files_of before run.files units u in
    absurd (absent_files before run.files o.files (first_map (λ name there. IsAbsent name there × IsAnswer call (Refused (Absent name))) IsAbsent (λ name there p. p.0) before run.files f) o.are)
kept call run units before u join (at_formless f) =
    let o = files_of before run.files units u in
    absurd (formless_files before run.files o.files (first_map (λ name there. IsFormless name there × IsAnswer call (Refused (NotBuilt name))) IsFormless (λ name there p. p.0) before run.files f) o.are)
kept call run units before u join (at_refused files are why r is) =
    let o = files_of before run.files units u in
    let joins : Joins (linked (map module_of o.files)) = (files_join_as_sources o.files o.forms).1 (subst Join (modules_sources o.files units o.modules) join) in
    absurd (refused_joined before run.files files o.files why are r o.are joins)
kept call run units before u join (at_run files are bytes program there runs) =
    let o = files_of before run.files units u in
    let same : map source_of files ≡ sources_of units = same_sources before run.files files o.files are o.are ∙ sym (modules_sources o.files units o.modules) in
    record {
      bytes = bytes;
      stands = there;
      keeps = subst (λ (x : List Source). KeepsMeaning (union_run x) bytes) same program.keeps;
      runs = runs;
    }

pub headline : {I O F : Type 0} (call : Scene I O F) → Meaning call → Answered call → (run : Run) → command call ≡ Some (RunCommand run) → Headline call run
headline call means a run w units = if_held call (λ before. AreUnits before run.files units → Join (sources_of units) → call.status ≢ 9 → call.status ≢ 10 → KeepsUnion call run units)
    (λ before at u join nine ten. kept call run units before u join (run_answer call means a run before w at nine ten))
