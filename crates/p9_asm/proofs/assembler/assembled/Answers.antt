use Rattle.p9_asm.specs.Files.{file_in}
use Rattle.std.proofs.Common.{sym}
use Rattle.p9_asm.proofs.Telling.{told_fault, told_module}
use Rattle.p9_asm.proofs.assembler.assembled.Goals as goal

pub returns-in-Some-clause-refused : goal.returns-in-Some-clause-refused
returns-in-Some-clause-refused c =
    let k = c.in_ok-tables.ensures in
    told_fault c.args.tokens.now (file_in c.in_ok-tables.tables) c.in-Some.broken c.in_ok-fault_of-in-Some.field-0 k.file (sym c.in-Some.ensures) c.in_ok-fault_of-in-Some.ensures

pub returns-clause-module : goal.returns-clause-module
returns-clause-module c =
    let k = c.in_ok-tables.ensures in
    told_module c.args.tokens.now (file_in c.in_ok-tables.tables) c.in_ok-tables.tables.names.list.items c.in_ok-module_of-in-None.field-0 k.file (sym c.in-None.ensures) k.names c.in_ok-module_of-in-None.ensures
