-- Parts of the rules of validity that have no name of their own, and all rules on one symbol.
use Rattle.std.specs.Prelude.{◌≢◌, ℕ, ◌-◌, ◌^◌, ◌<◌, ◌≤◌, Bool, true, false, List, [], ◌∷◌, All}
use Rattle.p9_abs.specs.declared.instructions.Abs.{Abs}
use Rattle.p9_abs.specs.declared.instructions.Operand.{Operand}
use Rattle.p9_abs.specs.declared.instructions.Operand.TheVariants.{Reg}
use Rattle.p9_abs.specs.declared.modules.DataPiece.{DataPiece}
use Rattle.p9_abs.specs.declared.modules.DataPiece.TheVariants.{Raw, Address}
use Rattle.p9_abs.specs.declared.modules.Symbol.{Symbol}
use Rattle.p9_abs.specs.Modules.{named_by_operand}
use Rattle.p9_abs.specs.Validity.{IsWithin, IsName, IsSignature, IsBoundWell, NamesWithin, HasWellPieced, HasSizeInRange, HasFunction}

-- a byte that shows and is no blank, no quote and no backslash
abbrev pub IsSignatureByte : ℕ → Type 0
IsSignatureByte b = (33 ≤ b) × (b ≤ 126) × (b ≢ 34) × (b ≢ 92)

-- an offset from R29 at entry, modulo 2^32, is within the frame below it
abbrev pub IsStackOffset : ℕ → ℕ → Type 0
IsStackOffset frame offset = (2 ^ 32 - frame ≤ offset) × (offset < 2 ^ 32)

-- an operand, where it is a register, is one that may be written
abbrev pub IsWrittenRegister : Operand → Type 0
IsWrittenRegister (Reg r) = (r ≢ 29) × (r ≢ 30) × (r ≢ 31)
IsWrittenRegister _ = Unit {0}

-- what an instruction names is among so many symbols
unfoldable pub NamesSymbols : ℕ → Abs → Type 0
NamesSymbols count a = All (λ o. IsWithin count (named_by_operand o)) a.operands

-- a size of data or common
abbrev pub IsSize : ℕ → Type 0
IsSize size = (1 ≤ size) × (size ≤ 16777216)

-- the piece is bytes as they stand
abbrev pub is_raw : DataPiece → Bool
is_raw (Raw _) = true
is_raw (Address _ _) = false

-- the first piece is bytes as they stand
abbrev pub begins_raw : List DataPiece → Bool
begins_raw [] = false
begins_raw (p ∷ _) = is_raw p

-- the rules on one of so many symbols
pub record IsSymbol (count : ℕ) (s : Symbol) : Type 0 where
  pub name : IsName s.name
  pub binding : IsBoundWell s
  pub signature : IsSignature s.sig
  pub numbers : NamesWithin count s.body
  pub size : HasSizeInRange s.body
  pub pieces : HasWellPieced s.body
  pub function : HasFunction s.body
