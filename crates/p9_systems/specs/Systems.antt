-- The functions of the built-in module that make system calls: their code does what C says of them.
use Rattle.std.specs.Prelude.{ℕ}
use Rattle.p9_abs.specs.declared.instructions.TextDef.{TextDef}
use Rattle.p9_abs.specs.BuiltIn.{system_code}
use Rattle.p9_cmean.specs.Cells.{FunctionName}
use Rattle.p9_cmean.specs.SystemCalls.{SystemCall, Exits, Read, Write, system_body}
use Rattle.p9_sim.specs.Memory.{Ground}
use Rattle.p9_sim.specs.Playing.{Counting}
use Rattle.p9_sim.specs.Functions.{Body, FnOk}

-- the number by which the machine knows a system call
abbrev pub number_of : SystemCall → ℕ
number_of Exits = 8
number_of Read = 15
number_of Write = 20

-- the built-in module's function for it
abbrev pub system_def : SystemCall → TextDef
system_def system = record { frame = 0; code = system_code (number_of system) }

abbrev pub system_function : SystemCall → Body
system_function system turns call s = system_body system call s

-- The code of each is right, under every placing and whatever the function is called: the text of an
-- exit, what is written and read, and what is left of the input are those of C.
abbrev pub SystemsAreRight : Type 0
SystemsAreRight =
    (counting : Counting) (g : Ground) (symbol : ℕ → ℕ) (system : SystemCall) (need : ℕ) (name : FunctionName)
    → FnOk counting g symbol (system_def system) need (system_function system) name
