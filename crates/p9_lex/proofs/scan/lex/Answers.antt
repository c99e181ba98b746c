use Rattle.p9_lex.proofs.ScanLemmas.{tokens_of_file, refusal_of_file}
use Rattle.p9_lex.proofs.MadeLemmas.{tokens_made, tokens_have_lines}
use Rattle.p9_lex.proofs.scan.lex.Goals as goal

pub returns-in-Ok-clause-tokens : goal.returns-in-Ok-clause-tokens
returns-in-Ok-clause-tokens c = tokens_of_file c.args.dialect c.args.bytes.now c.in-Ok.list.items c.in-Ok.ensures.ok

pub returns-in-Err-Stop-clause-refused : goal.returns-in-Err-Stop-clause-refused
returns-in-Err-Stop-clause-refused c = refusal_of_file c.args.dialect c.args.bytes.now c.in-Err-Stop.stop c.fault_of.result (rw c.in-Err-Stop.field-0-is at c.in-Err-Stop.ensures.err) (rw c.in-Err-Stop.field-0-is at c.fault_of.ensures)

pub returns-in-Ok-clause-made : goal.returns-in-Ok-clause-made
returns-in-Ok-clause-made c = tokens_made c.args.dialect c.args.bytes.now c.in-Ok.list.items c.in-Ok.ensures.ok

pub returns-in-Ok-clause-lines : goal.returns-in-Ok-clause-lines
returns-in-Ok-clause-lines c = tokens_have_lines c.args.dialect c.args.bytes.now c.in-Ok.list.items c.in-Ok.ensures.ok
