use Rattle.std.proofs.lemmas.Result.{err_from_is_err_and}
use Rattle.p9_suite.proofs.StageLemmas.{writes_done, writes_fault, writes_no_memory, writes_no_name}
use Rattle.p9_suite.proofs.stages.files.write_file.Goals as goal

pub returns-in_err-word : goal.returns-in_err-word
returns-in_err-word g c =
    let p = err_from_is_err_and c.from_residual.result c.from_residual.ensures.1 in
    rw (p.1, p.2) (writes_no_name g.F.Files.did c.args.files.now c.args.name.now c.args.bytes.now)

pub returns-in-Ok : goal.returns-in-Ok
returns-in-Ok g c = writes_done g.F.Files.did c.args.files.now c.write.new.self c.args.name.now c.in_ok-word.word c.args.bytes.now c.in_ok-word.ensures c.in-Ok.ensures.did

pub returns-in-Err-Failed : goal.returns-in-Err-Failed
returns-in-Err-Failed g c =
    writes_fault g.F.Files.did c.args.files.now c.write.new.self c.args.name.now c.in_ok-word.word c.args.bytes.now c.in_ok-word.ensures
    (rw c.in-Err-Failed.field-0-is at c.in-Err-Failed.ensures.did)

pub returns-in-Err-NoMemory : goal.returns-in-Err-NoMemory
returns-in-Err-NoMemory g c =
    writes_no_memory g.F.Files.did c.args.files.now c.write.new.self c.args.name.now c.in_ok-word.word c.args.bytes.now c.in_ok-word.ensures
    (rw c.in-Err-NoMemory.field-0-is at c.in-Err-NoMemory.ensures.did)
