use Rattle.std.proofs.lemmas.Result.{err_from_is_err_and}
use Rattle.p9_suite.proofs.StageLemmas.{reads_found, reads_absent, reads_fault, reads_no_memory, reads_no_name}
use Rattle.p9_suite.proofs.stages.files.read_file.Goals as goal

pub returns-in_err-word : goal.returns-in_err-word
returns-in_err-word g c =
    let p = err_from_is_err_and c.from_residual.result c.from_residual.ensures.1 in
    rw (p.1, p.2) (reads_no_name g.F.Files.did c.args.files.now c.args.name.now)

pub returns-in-Found : goal.returns-in-Found
returns-in-Found g c = reads_found g.F.Files.did c.args.files.now c.read.new.self c.args.name.now c.in-Found.bytes c.in-Found.ensures.did

pub returns-in-Absent : goal.returns-in-Absent
returns-in-Absent g c = reads_absent g.F.Files.did c.args.files.now c.read.new.self c.args.name.now c.in_ok-word.word c.in_ok-word.ensures c.in-Absent.ensures.did

pub returns-in-Failed : goal.returns-in-Failed
returns-in-Failed g c = reads_fault g.F.Files.did c.args.files.now c.read.new.self c.args.name.now c.in_ok-word.word c.in_ok-word.ensures c.in-Failed.ensures.did

pub returns-in-NoMemory : goal.returns-in-NoMemory
returns-in-NoMemory g c = reads_no_memory g.F.Files.did c.args.files.now c.read.new.self c.args.name.now c.in-NoMemory.ensures.did
