use Rattle.std.proofs.Common.{◌<◌, ◌-◌, refl, sym, ap, arith}
use Rattle.p9_base.specs.declared.outside.Got.TheVariants as got
use Rattle.p9_cpp.specs.Units.{stops, source_run, including}
use Rattle.p9_cpp.specs.declared.fault.CppFault.TheVariants as fault
use Rattle.p9_cpp.specs.Calls.{state_of}
use Rattle.p9_cpp.proofs.Walking.{opened_read, opened_header, opened_nothing, counts_memory}
use Rattle.p9_cpp.proofs.walk.open.Goals as goal

pub returns-in-Found-clause-opens : goal.returns-in-Found-clause-opens
returns-in-Found-clause-opens g c =
    let i = c.args.inclusion in
    let some : 0 < c.args.depth = omega (arith, c.if-depth-eq0.false) in
    opened_read g.F.Files.did c.args.files.now c.read.new.self c.begin.result c.args.depth i.angled i.name c.args.source.now.name i.line (state_of c.args.unit.now) (state_of c.begin.new.unit) (got.Found c.in-Found.bytes) some c.in_default-header.ensures c.in-Found.ensures.did (c.begin.ensures.begun (source_run _))

pub returns-in-Absent-clause-opens : goal.returns-in-Absent-clause-opens
returns-in-Absent-clause-opens g c =
    let i = c.args.inclusion in
    let some : 0 < c.args.depth = omega (arith, c.if-depth-eq0.false) in
    opened_read g.F.Files.did c.args.files.now c.read.new.self _ c.args.depth i.angled i.name c.args.source.now.name i.line (state_of c.args.unit.now) (state_of c.args.unit.now) got.Absent some c.in_default-header.ensures c.in-Absent.ensures.did (ap (λ f. stops (fault.NoFile i.name f i.line)) (sym c.in-Ok.ensures))

pub returns-in-Failed-clause-opens : goal.returns-in-Failed-clause-opens
returns-in-Failed-clause-opens g c =
    let i = c.args.inclusion in
    let some : 0 < c.args.depth = omega (arith, c.if-depth-eq0.false) in
    opened_read g.F.Files.did c.args.files.now c.read.new.self _ c.args.depth i.angled i.name c.args.source.now.name i.line (state_of c.args.unit.now) (state_of c.args.unit.now) got.Failed some c.in_default-header.ensures c.in-Failed.ensures.did refl

pub returns-in-NoMemory-clause-opens : goal.returns-in-NoMemory-clause-opens
returns-in-NoMemory-clause-opens g c =
    let i = c.args.inclusion in
    let some : 0 < c.args.depth = omega (arith, c.if-depth-eq0.false) in
    opened_read g.F.Files.did c.args.files.now c.read.new.self _ c.args.depth i.angled i.name c.args.source.now.name i.line (state_of c.args.unit.now) (state_of c.args.unit.now) got.NoMemory some c.in_default-header.ensures c.in-NoMemory.ensures.did tt

pub returns-in-Some-clause-opens : goal.returns-in-Some-clause-opens
returns-in-Some-clause-opens g c =
    let i = c.args.inclusion in
    let some : 0 < c.args.depth = omega (arith, c.if-depth-eq0.false) in
    opened_header g.F.Files.did c.args.files.now c.begin_header.result c.args.depth i.angled i.name c.args.source.now.name i.line (state_of c.args.unit.now) (state_of c.begin_header.new.unit) c.in-Some.text.now some c.in-Some.ensures (c.begin_header.ensures.begun (source_run _))

pub returns-in_default-clause-opens : goal.returns-in_default-clause-opens
returns-in_default-clause-opens g c =
    let i = c.args.inclusion in
    opened_nothing g.F.Files.did c.args.files.now (source_run (c.args.depth - 1)) (including c.args.depth i.angled i.name c.args.source.now.name i.line (state_of c.args.unit.now)) (state_of c.args.unit.now)

pub returns-in-Found-clause-counts : goal.returns-in-Found-clause-counts
returns-in-Found-clause-counts g c = counts_memory c.begin.result (g.F.Files.faults c.args.files.now) (g.F.Files.faults c.read.new.self) c.begin.ensures.memory c.in-Found.ensures.cause

pub returns-in-Some-clause-counts : goal.returns-in-Some-clause-counts
returns-in-Some-clause-counts g c = counts_memory c.begin_header.result (g.F.Files.faults c.args.files.now) (g.F.Files.faults c.args.files.now) c.begin_header.ensures.memory refl
