use Rattle.std.proofs.Common.{[], refl}
use Rattle.p9_suite.proofs.StageLemmas.{on_store}
use Rattle.p9_suite.specs.commands.Va.{AssemblesFile, va_seen}
use Rattle.p9_suite.proofs.commands.perform.Goals as goal

pub returns-in-Run : goal.returns-in-Run
returns-in-Run g c = rw c.in-Run.is c.compile_and_run.ensures

pub returns-in-Vi : goal.returns-in-Vi
returns-in-Vi g c = rw c.in-Vi.is c.read_and_run.ensures

pub returns-in-Va : goal.returns-in-Va
returns-in-Va g c =
    rw c.in-Va.is (on_store g.I.Source.did g.O.Sink.did g.F.Files.did c.args.input.now c.args.out.now c.args.files.now c.assemble_file.new.files (AssemblesFile (va_seen c.in-Va.va)) c.assemble_file.result c.assemble_file.ensures)

pub returns-in-Load : goal.returns-in-Load
returns-in-Load g c = rw c.in-Load.is c.load_files.ensures

pub returns-in-NotBuilt : goal.returns-in-NotBuilt
returns-in-NotBuilt g c = rw c.in-NotBuilt.is ([], refl, c.not_built.ensures)
