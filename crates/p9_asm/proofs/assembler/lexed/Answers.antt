use Rattle.p9_asm.proofs.Few.{lexed_few}
use Rattle.p9_asm.proofs.Telling.{lex_fault_told}
use Rattle.std.proofs.Common.{subst, sym}
use Rattle.p9_asm.specs.Assembled.{IsRefusal}
use Rattle.p9_asm.proofs.assembler.lexed.Goals as goal

pub returns-in-Ok-clause-few : goal.returns-in-Ok-clause-few
returns-in-Ok-clause-few c = lexed_few c.args.bytes.now c.in-Ok.tokens.list.items c.in-Ok.ensures.tokens

pub returns-in-Err-clause-refused : goal.returns-in-Err-clause-refused
returns-in-Err-clause-refused c = subst (IsRefusal c.args.bytes.now) (sym c.lex_fault.ensures) (lex_fault_told c.args.bytes.now c.in-Err.fault c.in-Err.ensures.refused)
