use Rattle.std.proofs.lemmas.Result.{err_from_is_err_and}
use Rattle.p9_suite.proofs.EachFile.{rest_read, all_read, stop_read, unkept, split_first, none_left}
use Rattle.p9_suite.proofs.Modules.{lost}
use Rattle.p9_suite.specs.commands.Load.{ReadsModule}
use Rattle.p9_suite.proofs.commands.load.read_modules.Goals as goal

pub returns-in_err-module : goal.returns-in_err-module
returns-in_err-module g c =
    let p = err_from_is_err_and c.from_residual.result c.from_residual.ensures.1 in
    rw (p.1, p.2) (stop_read g.F.Files.did (ReadsModule c.args.by_name) c.args.files.now c.loop-rest.files c.read_module.new.files c.args.names.now c.loop-rest.rest.now _ c.name-item.result c.loop-rest.list.items c.in_err-module.field-0.0
    c.loop-rest.invariant (split_first c.loop-rest.rest.now c.name-item.result c.in-len1-up.len_at_least c.name-item.is) c.in_err-module.ensures)

pub returns-in_default-push : goal.returns-in_default-push
returns-in_default-push g c =
    unkept g.F.Files.did (ReadsModule c.args.by_name) c.args.files.now c.loop-rest.files c.read_module.new.files c.args.names.now c.loop-rest.rest.now _ c.name-item.result c.loop-rest.list.items c.in_ok-module.module (lost c.args.by_name c.name-item.result c.in_ok-module.module)
    c.loop-rest.invariant (split_first c.loop-rest.rest.now c.name-item.result c.in-len1-up.len_at_least c.name-item.is) c.in_ok-module.ensures

pub loop-rest-preserved : goal.loop-rest-preserved
loop-rest-preserved g c =
    rest_read g.F.Files.did (ReadsModule c.args.by_name) c.args.files.now c.loop-rest.files c.read_module.new.files c.args.names.now c.loop-rest.rest.now _ c.name-item.result c.loop-rest.list.items c.push.new.self.items c.in_ok-module.module
    c.loop-rest.invariant (split_first c.loop-rest.rest.now c.name-item.result c.in-len1-up.len_at_least c.name-item.is) c.in_ok-module.ensures c.in-Ok.ensures.items

pub returns : goal.returns
returns g c =
    all_read g.F.Files.did (ReadsModule c.args.by_name) c.args.files.now c.loop-rest.files c.args.names.now c.loop-rest.rest.now c.loop-rest.list.items
    c.loop-rest.invariant (none_left c.loop-rest.rest.now c.in_default.len_below)
