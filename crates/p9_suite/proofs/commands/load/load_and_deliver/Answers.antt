use Rattle.std.proofs.lemmas.Result.{err_from_is_err_and}
use Rattle.p9_suite.proofs.StageLemmas.{here_refused, here_went_on}
use Rattle.p9_suite.specs.Scene.{objects}
use Rattle.p9_suite.specs.commands.Load.{LoadsModules, Delivers, load_seen}
use Rattle.p9_suite.proofs.commands.load.load_and_deliver.Goals as goal

pub returns-in_err-bytes : goal.returns-in_err-bytes
returns-in_err-bytes g c =
    let p = err_from_is_err_and c.from_residual.result c.from_residual.ensures.1 in
    rw (p.1, p.2) (here_refused g.I.Source.did g.O.Sink.did g.F.Files.did (objects c.args.input.now c.args.out.now c.args.files.now)
    (LoadsModules c.args.modules.now) (Delivers (load_seen c.args.request)) c.in_err-bytes.field-0.0 c.in_err-bytes.ensures)

pub returns : goal.returns
returns g c =
    here_went_on g.I.Source.did g.O.Sink.did g.F.Files.did (objects c.args.input.now c.args.out.now c.args.files.now) (objects c.deliver.new.input c.deliver.new.out c.deliver.new.files)
    (LoadsModules c.args.modules.now) (Delivers (load_seen c.args.request)) c.in_ok-bytes.bytes c.deliver.result c.in_ok-bytes.ensures c.deliver.ensures
