-- The statuses of refusals.
use Rattle.std.proofs.Common.{◌≡◌, ◌≢◌, ℕ, false, None, refl}
use Rattle.p9_aout.specs.declared.format.AoutFault.{AoutFault}
use Rattle.p9_aout.specs.declared.format.AoutFault.TheVariants as executables
use Rattle.p9_asm.specs.declared.fault.AsmFault.{AsmFault}
use Rattle.p9_asm.specs.declared.fault.AsmFault.TheVariants as assembly
use Rattle.p9_lex.specs.declared.token.LexFault.{LexFault}
use Rattle.p9_lex.specs.declared.token.LexFault.TheVariants as lexing
use Rattle.p9_load.specs.declared.fault.LoadFault.{LoadFault}
use Rattle.p9_load.specs.declared.fault.LoadFault.TheVariants as loads
use Rattle.p9_names.specs.declared.table.LinkFault.{LinkFault}
use Rattle.p9_names.specs.declared.table.LinkFault.TheVariants as links
use Rattle.p9_reader.specs.declared.faults.ObjFault.{ObjFault}
use Rattle.p9_reader.specs.declared.faults.ObjFault.TheVariants as objects
use Rattle.p9_suite.specs.Answers.{refusal_status, link_status, load_status, object_status, executable_status, lex_status, assembly_status}
use Rattle.p9_suite.specs.Scene.{failing_at, has_run}
use Rattle.p9_suite.specs.declared.answer.Refusal.{Refusal}
use Rattle.p9_suite.specs.declared.answer.Refusal.TheVariants.{Absent, StoreFault, NotBuilt, Assembly, Object, Link, Load, Executable, Memory}

-- not that of words that are none, nor of a failed call, nor of a run
pub record IsFine (s : ℕ) : Type 0 where
  pub usual : s ≢ 2
  pub fine : failing_at s ≡ None
  pub quiet : has_run s ≡ false

three : IsFine 3
three = record { usual = λ e. cc; fine = refl; quiet = refl }

four : IsFine 4
four = record { usual = λ e. cc; fine = refl; quiet = refl }

five : IsFine 5
five = record { usual = λ e. cc; fine = refl; quiet = refl }

ten : IsFine 10
ten = record { usual = λ e. cc; fine = refl; quiet = refl }

thirteen : IsFine 13
thirteen = record { usual = λ e. cc; fine = refl; quiet = refl }

pub link_fine : (why : LinkFault) → IsFine (link_status why)
link_fine (links.Twice name i j) = five
link_fine links.NoMain = five
link_fine (links.MainType i) = five
link_fine (links.Unresolved name i) = five
link_fine (links.Disagree name i j) = five
link_fine links.Memory = ten

pub load_fine : (why : LoadFault) → IsFine (load_status why)
load_fine (loads.Twice name i j) = five
load_fine loads.NoMain = five
load_fine (loads.MainType i) = five
load_fine (loads.Unresolved name i) = five
load_fine (loads.Disagree name i j) = five
load_fine (loads.DataTooLarge bytes) = five
load_fine (loads.TextTooLarge words) = five
load_fine loads.Memory = ten

pub object_fine : (why : ObjFault) → IsFine (object_status why)
object_fine (objects.BadObject at) = four
object_fine (objects.Version version) = four
object_fine objects.Memory = ten

pub executable_fine : (why : AoutFault) → IsFine (executable_status why)
executable_fine (executables.BadMagic magic) = thirteen
executable_fine (executables.ShortFile need) = thirteen
executable_fine executables.BadSegment = thirteen
executable_fine executables.Memory = ten

lex_fine : (why : LexFault) → IsFine (lex_status why)
lex_fine (lexing.BadByte at line) = three
lex_fine (lexing.OpenComment at line) = three
lex_fine (lexing.OpenText at line) = three
lex_fine (lexing.WideNumber at line) = three
lex_fine lexing.Memory = ten

pub assembly_fine : (why : AsmFault) → IsFine (assembly_status why)
assembly_fine (assembly.Lex why) = lex_fine why
assembly_fine (assembly.AsmSyntax line) = three
assembly_fine (assembly.Reserved line register) = three
assembly_fine (assembly.NoLabel line name) = three
assembly_fine (assembly.LabelTwice line name) = three
assembly_fine assembly.Memory = ten

pub no_usage : (why : Refusal) → refusal_status why ≢ 2
no_usage (Absent name) e = cc
no_usage (StoreFault name) e = cc
no_usage (NotBuilt name) e = cc
no_usage (Assembly name why) e = (assembly_fine why).usual e
no_usage (Object name why) e = (object_fine why).usual e
no_usage (Link why) e = (link_fine why).usual e
no_usage (Load why) e = (load_fine why).usual e
no_usage (Executable name why) e = (executable_fine why).usual e
no_usage Memory e = cc

-- a refusal's status is none of a run
pub no_run : (why : Refusal) → has_run (refusal_status why) ≡ false
no_run (Absent name) = refl
no_run (StoreFault name) = refl
no_run (NotBuilt name) = refl
no_run (Assembly name why) = (assembly_fine why).quiet
no_run (Object name why) = (object_fine why).quiet
no_run (Link why) = (link_fine why).quiet
no_run (Load why) = (load_fine why).quiet
no_run (Executable name why) = (executable_fine why).quiet
no_run Memory = refl
