use Rattle.p9_reader.proofs.Taking.{all_bytes}
use Rattle.p9_suite.proofs.Modules.{object_decodes, object_refused}
use Rattle.p9_suite.proofs.commands.load.decoded.Goals as goal

pub returns-in-Ok : goal.returns-in-Ok
returns-in-Ok c = object_decodes c.args.name.now c.args.bytes.now c.in-Ok.module (all_bytes c.args.bytes.now c.type_inv.bytes) c.in-Ok.ensures

pub returns-in-Err : goal.returns-in-Err
returns-in-Err c = object_refused c.args.name.now c.args.bytes.now c.in-Err.why c.refusal.result c.in-Err.ensures c.refusal.ensures
