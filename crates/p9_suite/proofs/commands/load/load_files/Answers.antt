use Rattle.std.proofs.lemmas.Result.{err_from_is_err_and}
use Rattle.p9_suite.proofs.Modules.{read_objects, read_count}
use Rattle.p9_suite.proofs.StageLemmas.{all_refused, all_went_on}
use Rattle.p9_suite.specs.Scene.{objects}
use Rattle.p9_suite.specs.commands.Load.{ReadsModules, LoadsAndDelivers, load_seen}
use Rattle.p9_suite.proofs.commands.load.load_files.Goals as goal

pub returns-in_err-modules : goal.returns-in_err-modules
returns-in_err-modules g c =
    let p = err_from_is_err_and c.from_residual.result c.from_residual.ensures.1 in
    rw (p.1, p.2) (all_refused g.I.Source.did g.O.Sink.did g.F.Files.did c.args.input.now c.args.out.now c.args.files.now c.read_modules.new.files
    (ReadsModules c.args.request.by_name c.args.request.files.now) (LoadsAndDelivers (load_seen c.args.request)) c.in_err-modules.field-0.0 c.in_err-modules.ensures)

pub load_and_deliver-requires-clause-objects : goal.load_and_deliver-requires-clause-objects
load_and_deliver-requires-clause-objects g c = read_objects g.F.Files.did c.args.files.now c.read_modules.new.files c.args.request.by_name c.args.request.files.now c.in_ok-modules.modules c.in_ok-modules.ensures

pub load_and_deliver-requires-clause-count : goal.load_and_deliver-requires-clause-count
load_and_deliver-requires-clause-count g c = read_count g.F.Files.did c.args.files.now c.read_modules.new.files c.args.request.by_name c.args.request.files.now c.in_ok-modules.modules c.in_ok-modules.ensures c.args.request.few

pub returns : goal.returns
returns g c =
    all_went_on g.I.Source.did g.O.Sink.did g.F.Files.did c.args.input.now c.args.out.now c.args.files.now c.read_modules.new.files (objects c.load_and_deliver.new.input c.load_and_deliver.new.out c.load_and_deliver.new.files)
    (ReadsModules c.args.request.by_name c.args.request.files.now) (LoadsAndDelivers (load_seen c.args.request)) c.in_ok-modules.modules c.load_and_deliver.result c.in_ok-modules.ensures c.load_and_deliver.ensures
