-- The module that each program is linked with: its start, which calls main, and three functions.
use Rattle.std.specs.Prelude.{ℕ, ◌+◌, true, false, List, [], ◌∷◌, ◌++◌, codes}
use Rattle.p9_abs.specs.declared.instructions.Op.{Op}
use Rattle.p9_abs.specs.declared.instructions.Op.TheVariants.{MovW, Jal, Ret, Syscall}
use Rattle.p9_abs.specs.declared.instructions.Operand.{Operand}
use Rattle.p9_abs.specs.declared.instructions.Operand.TheVariants.{Reg, Const, AddrSB, MemFP, MemReg, Func}
use Rattle.p9_abs.specs.declared.instructions.Abs.{Abs}
use Rattle.p9_abs.specs.declared.modules.DataPiece.TheVariants.{Raw, Address}
use Rattle.p9_abs.specs.declared.modules.Body.{Body}
use Rattle.p9_abs.specs.declared.modules.Body.TheVariants.{Used, Text, Data}
use Rattle.p9_abs.specs.declared.modules.Symbol.{Symbol}
use Rattle.p9_abs.specs.declared.modules.AModule.{AModule}
use Rattle.p9_abs.specs.Modules.{symbols_weight}
use Rattle.p9_abs.specs.Forms.{start_weight}

abbrev pub inst : Op → List Operand → Abs
inst code parts = record { op = code; operands = parts }

-- _main<>: argc is 1 and argv the data _argv; a main that returns exits with the text main
abbrev pub start_code : List Abs
start_code =
    inst MovW (AddrSB 1 0 ∷ Reg 2 ∷ [])
    ∷ inst MovW (Reg 2 ∷ MemReg 29 8 ∷ [])
    ∷ inst MovW (Const 1 ∷ Reg 1 ∷ [])
    ∷ inst Jal (Func 2 ∷ [])
    ∷ inst MovW (AddrSB 3 0 ∷ Reg 1 ∷ [])
    ∷ inst Jal (Func 4 ∷ [])
    ∷ inst Ret []
    ∷ []

-- a function that makes the system call of this number with its arguments as they stand
abbrev pub system_code : ℕ → List Abs
system_code number =
    inst MovW (Reg 1 ∷ MemFP 0 ∷ [])
    ∷ inst MovW (Const number ∷ Reg 1 ∷ [])
    ∷ inst Syscall []
    ∷ inst Ret []
    ∷ []

abbrev pub local_symbol : List ℕ → Body → Symbol
local_symbol word what = record { name = word; local = true; sig = []; body = what }

abbrev pub system_symbol : List ℕ → ℕ → List ℕ → Symbol
system_symbol word number type =
    record { name = word; local = false; sig = type; body = Text (record { frame = 0; code = system_code number }) }

abbrev pub used_main : Symbol
used_main = record { name = codes "main"; local = false; sig = []; body = Used }

-- the symbols, in the order of their first lines: the start, its data and its use of main
abbrev pub first_symbols : List Symbol
first_symbols =
    local_symbol (codes "_main") (Text (record { frame = 8; code = start_code }))
    ∷ local_symbol (codes "_argv") (Data (Address 7 0 ∷ Raw (0 ∷ 0 ∷ 0 ∷ 0 ∷ []) ∷ []))
    ∷ used_main
    ∷ []

-- and those that follow
abbrev pub builtin_symbols : List Symbol
builtin_symbols =
    first_symbols
    ++ local_symbol (codes "_end") (Data (Raw (109 ∷ 97 ∷ 105 ∷ 110 ∷ 0 ∷ []) ∷ []))
    ∷ system_symbol (codes "exits") 8 (codes "(*c;)v")
    ∷ system_symbol (codes "read") 15 (codes "(i;*v;l;)l")
    ∷ system_symbol (codes "write") 20 (codes "(i;*v;l;)l")
    ∷ local_symbol (codes "_vout") (Data (Raw (118 ∷ 46 ∷ 111 ∷ 117 ∷ 116 ∷ 0 ∷ []) ∷ []))
    ∷ []

abbrev pub builtin_module : AModule
builtin_module = record { symbols = builtin_symbols }

-- the words of the start and of a module's functions
abbrev pub weight_with_start : List Symbol → ℕ
weight_with_start symbols = start_weight + symbols_weight symbols

-- the modules that are linked: the built-in one comes last
abbrev pub linked : List AModule → List AModule
linked modules = modules ++ builtin_module ∷ []
