-- Two small objects, and what is read of their bytes, computed.
use Rattle.std.specs.Prelude.{◌≡◌, ℕ, List, [], ◌∷◌, ◌++◌, take, map, Result, Ok, Err, false}
use Rattle.p9_abs.specs.declared.instructions.Op.TheVariants.{Add, Ret}
use Rattle.p9_abs.specs.declared.instructions.Operand.TheVariants.{Const, Reg}
use Rattle.p9_abs.specs.declared.instructions.Abs.{Abs}
use Rattle.p9_abs.specs.declared.modules.Body.TheVariants.{Text}
use Rattle.p9_abs.specs.declared.modules.AModule.{AModule}
use Rattle.p9_object.specs.Fields.{spelling}
use Rattle.p9_object.specs.Bytes.{Fault, BadObject, Version, reading}

-- a module of one function f without a frame
abbrev function_f : List Abs → AModule
function_f code = record {
  symbols = record { name = 102 ∷ []; local = false; sig = []; body = Text (record { frame = 0; code = code }) } ∷ [];
}

abbrev ret : Abs
ret = record { op = Ret; operands = [] }

-- RET alone
abbrev returns : AModule
returns = function_f (ret ∷ [])

abbrev returns_bytes : List ℕ
returns_bytes =
    0x76 ∷ 0x39 ∷ 0x6f ∷ 0x0a ∷ 0 ∷ 0 ∷ 0 ∷ 1 ∷ 0 ∷ 0 ∷ 0 ∷ 1 ∷ 0 ∷ 2 ∷ 0 ∷ 1 ∷ 0x66 ∷ 0 ∷ 0 ∷ 0 ∷ 0
    ∷ 0 ∷ 0 ∷ 0 ∷ 0 ∷ 0 ∷ 0 ∷ 0 ∷ 1 ∷ 0x1f ∷ []

-- ADD $1, R2, R2 and RET
abbrev adds : AModule
adds = function_f (record { op = Add; operands = Const 1 ∷ Reg 2 ∷ Reg 2 ∷ [] } ∷ ret ∷ [])

abbrev adds_bytes : List ℕ
adds_bytes =
    0x76 ∷ 0x39 ∷ 0x6f ∷ 0x0a ∷ 0 ∷ 0 ∷ 0 ∷ 1 ∷ 0 ∷ 0 ∷ 0 ∷ 1 ∷ 0 ∷ 2 ∷ 0 ∷ 1 ∷ 0x66 ∷ 0 ∷ 0 ∷ 0 ∷ 0
    ∷ 0 ∷ 0 ∷ 0 ∷ 0 ∷ 0 ∷ 0 ∷ 0 ∷ 2 ∷ 6 ∷ 2 ∷ 0 ∷ 0 ∷ 0 ∷ 1 ∷ 1 ∷ 2 ∷ 1 ∷ 2 ∷ 0x1f ∷ []

abbrev cut : ℕ → Result AModule Fault
cut k = reading (take k returns_bytes)

abbrev ends_at : ℕ → Result AModule Fault
ends_at k = Err (BadObject k)

abbrev cuts : List ℕ
cuts =
    0 ∷ 1 ∷ 2 ∷ 3 ∷ 4 ∷ 5 ∷ 6 ∷ 7 ∷ 8 ∷ 9 ∷ 10 ∷ 11 ∷ 12 ∷ 13 ∷ 14 ∷ 15 ∷ 16 ∷ 17 ∷ 18 ∷ 19 ∷ 20 ∷ 21
    ∷ 22 ∷ 23 ∷ 24 ∷ 25 ∷ 26 ∷ 27 ∷ 28 ∷ 29 ∷ []

pub record SmallObjects : Type 0 where
  pub returns : spelling returns ≡ returns_bytes
  pub adds : spelling adds ≡ adds_bytes
  -- cut anywhere, and with a byte more
  pub cut : map cut cuts ≡ map ends_at cuts
  pub more : reading (returns_bytes ++ 0 ∷ []) ≡ Err (BadObject 30)
  -- another magic, another version
  pub magic : reading (0x75 ∷ 0x39 ∷ 0x6f ∷ 0x0a ∷ []) ≡ Err (BadObject 0)
  pub version : reading (0x76 ∷ 0x39 ∷ 0x6f ∷ 0x0a ∷ 0 ∷ 0 ∷ 0 ∷ 9 ∷ []) ≡ Err (Version 9)
