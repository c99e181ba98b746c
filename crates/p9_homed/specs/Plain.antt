-- Code that may have homes: it names none of R9 to R20, and has no system call.
use Rattle.std.specs.Prelude.{◌⊎◌, ◌<◌, ◌≢◌, List, All}
use Rattle.p9_abs.specs.declared.instructions.Op.TheVariants.{Syscall}
use Rattle.p9_abs.specs.declared.instructions.Operand.{Operand}
use Rattle.p9_abs.specs.declared.instructions.Operand.TheVariants.{Reg, MemReg}
use Rattle.p9_abs.specs.declared.instructions.Abs.{Abs}

abbrev pub NamesNoHome : Operand → Type 0
NamesNoHome (Reg r) = (r < 9) ⊎ (20 < r)
NamesNoHome (MemReg r o) = (r < 9) ⊎ (20 < r)
NamesNoHome _ = Unit {0}

abbrev pub IsPlain : List Abs → Type 0
IsPlain code = All (λ a. (a.op ≢ Syscall) × All NamesNoHome a.operands) code
