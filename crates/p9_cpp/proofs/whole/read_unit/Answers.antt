use Rattle.std.proofs.Common.{sym, ap}
use Rattle.p9_base.specs.declared.outside.Got.TheVariants as got
use Rattle.p9_cpp.specs.Units.{stops}
use Rattle.p9_cpp.specs.declared.fault.CppFault.TheVariants as fault
use Rattle.p9_cpp.proofs.Complete.{unread, nothing_read, read_then}
use Rattle.p9_cpp.proofs.whole.read_unit.Goals as goal

pub returns-in_default-clause-unit : goal.returns-in_default-clause-unit
returns-in_default-clause-unit g c = nothing_read g.F.Files.did c.args.files.now c.args.name.now

pub returns-in-Found-clause-unit : goal.returns-in-Found-clause-unit
returns-in-Found-clause-unit g c = read_then g.F.Files.did c.args.files.now c.read.new.self c.unit_of.new.files c.args.name.now c.in-Found.bytes c.unit_of.result c.in-Found.ensures.did c.unit_of.ensures.comes

pub returns-in-Absent-clause-unit : goal.returns-in-Absent-clause-unit
returns-in-Absent-clause-unit g c =
    unread g.F.Files.did c.args.files.now c.read.new.self c.args.name.now got.Absent (fault.Absent c.in-Ok.word) c.in-Absent.ensures.did (ap (λ x. stops (fault.Absent x)) (sym c.in-Ok.ensures))

pub returns-in-Failed-clause-unit : goal.returns-in-Failed-clause-unit
returns-in-Failed-clause-unit g c =
    unread g.F.Files.did c.args.files.now c.read.new.self c.args.name.now got.Failed (fault.Store c.in-Ok.word) c.in-Failed.ensures.did (ap (λ x. stops (fault.Store x)) (sym c.in-Ok.ensures))

pub returns-in-NoMemory-clause-unit : goal.returns-in-NoMemory-clause-unit
returns-in-NoMemory-clause-unit g c =
    unread g.F.Files.did c.args.files.now c.read.new.self c.args.name.now got.NoMemory fault.Memory c.in-NoMemory.ensures.did tt
