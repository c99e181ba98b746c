-- A register that may be written (`IsWrittenRegister`), and an instruction that names no home and is no
-- system call (`IsPlainInstruction`).
use Rattle.std.specs.Prelude.{◌≢◌, All}
use Rattle.p9_abs.specs.declared.instructions.Op.TheVariants.{Syscall}
use Rattle.p9_abs.specs.declared.instructions.Operand.{Operand}
use Rattle.p9_abs.specs.declared.instructions.Operand.TheVariants.{Reg}
use Rattle.p9_abs.specs.declared.instructions.Abs.{Abs}
use Rattle.p9_homed.specs.Plain.{NamesNoHome}

-- an operand, where it is a register, is one that may be written
abbrev pub IsWrittenRegister : Operand → Type 0
IsWrittenRegister (Reg r) = (r ≢ 29) × (r ≢ 30) × (r ≢ 31)
IsWrittenRegister _ = Unit {0}

pub record IsPlainInstruction (a : Abs) : Type 0 where
  pub no_system_call : a.op ≢ Syscall
  pub no_home : All NamesNoHome a.operands
