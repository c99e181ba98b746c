-- When a module is valid: each rule by itself, and all of them.
use Rattle.std.specs.Prelude.{◌≡◌, ◌≢◌, ◌⊎◌, ℕ, ◌+◌, ◌-◌, ◌%◌, ◌^◌, ◌<◌, ◌≤◌, Bool, true, false, List, [], ◌∷◌, Option, IfSome, length, All, AllPairs}
use Rattle.p9_abs.specs.declared.instructions.Op.{Op}
use Rattle.p9_abs.specs.declared.instructions.Op.TheVariants.{MovW, MovH, MovHU, MovB, MovBU, Add, AddU, Sub, SubU, And, Or, Xor, Nor, Sgt, SgtU, Sll, Srl, Sra, Jmp, Ret}
use Rattle.p9_abs.specs.declared.instructions.Operand.{Operand}
use Rattle.p9_abs.specs.declared.instructions.Operand.TheVariants.{Reg, AddrFP, AddrSP, MemFP, MemSP, MemReg, Label, Auto, AutoAddr}
use Rattle.p9_abs.specs.declared.instructions.Abs.{Abs}
use Rattle.p9_abs.specs.declared.instructions.TextDef.{TextDef}
use Rattle.p9_abs.specs.declared.modules.DataPiece.{DataPiece}
use Rattle.p9_abs.specs.declared.modules.DataPiece.TheVariants.{Raw, Address}
use Rattle.p9_abs.specs.declared.modules.Body.{Body}
use Rattle.p9_abs.specs.declared.modules.Body.TheVariants.{Text, Data}
use Rattle.p9_abs.specs.declared.modules.Symbol.{Symbol}
use Rattle.p9_abs.specs.declared.modules.AModule.{AModule}
use Rattle.p9_abs.specs.Forms.{IsForm}
use Rattle.p9_abs.specs.Modules.{size_of, is_definition, named_by_operand, named_by_piece, operands_of, pieces_of}

-- Names and signatures

-- a byte that shows, and is no blank
abbrev pub IsGraphic : ℕ → Type 0
IsGraphic b = (33 ≤ b) × (b ≤ 126)

-- 1 to 255 such bytes
abbrev pub IsName : List ℕ → Type 0
IsName name = (1 ≤ length name) × (length name ≤ 255) × All IsGraphic name

-- at most 65,536 such bytes, none of them a quote or a backslash
abbrev pub IsSignature : List ℕ → Type 0
IsSignature sig = (length sig ≤ 65536) × All (λ b. (33 ≤ b) × (b ≤ 126) × (b ≢ 34) × (b ≢ 92)) sig

-- the two differ in binding or in name
abbrev pub AreApart : Symbol → Symbol → Type 0
AreApart a b = a.local ≡ b.local → a.name ≢ b.name

-- a local symbol is text, data or common and has an empty signature
abbrev pub IsBoundWell : Symbol → Type 0
IsBoundWell s = s.local ≡ true → (is_definition s.body ≡ true) × (s.sig ≡ [])

-- Numbers of symbols

-- a number, where there is one, is that of one of so many symbols
abbrev pub IsWithin : ℕ → Option ℕ → Type 0
IsWithin count number = IfSome number (λ n. n < count)

-- what a body names is among so many symbols
abbrev pub NamesWithin : ℕ → Body → Type 0
NamesWithin count body =
    All (λ o. IsWithin count (named_by_operand o)) (operands_of body)
    × All (λ p. IsWithin count (named_by_piece p)) (pieces_of body)

-- Data

-- a raw piece has at least one byte
abbrev pub IsFilled : DataPiece → Type 0
IsFilled (Raw bytes) = 1 ≤ length bytes
IsFilled (Address _ _) = Unit {0}

-- no two raw pieces are neighbours
abbrev pub NoRawNeighbours : List DataPiece → Type 0
NoRawNeighbours [] = Unit {0}
NoRawNeighbours (Address _ _ ∷ rest) = NoRawNeighbours rest
NoRawNeighbours (Raw _ ∷ []) = Unit {0}
NoRawNeighbours (Raw _ ∷ Raw _ ∷ rest) = ⊥
NoRawNeighbours (Raw _ ∷ Address _ _ ∷ rest) = NoRawNeighbours rest

-- of pieces that begin at this place, each address begins at a multiple of 4
abbrev pub AddressesAligned : ℕ → List DataPiece → Type 0
AddressesAligned place [] = Unit {0}
AddressesAligned place (Raw bytes ∷ rest) = AddressesAligned (place + length bytes) rest
AddressesAligned place (Address _ _ ∷ rest) = (place % 4 ≡ 0) × AddressesAligned (place + 4) rest

-- the pieces are at least one, and spelled and placed as they should
pub record IsWellPieced (pieces : List DataPiece) : Type 0 where
  pub some : 1 ≤ length pieces
  pub filled : All IsFilled pieces
  pub parted : NoRawNeighbours pieces
  pub aligned : AddressesAligned 0 pieces

abbrev pub HasWellPieced : Body → Type 0
HasWellPieced (Data pieces) = IsWellPieced pieces
HasWellPieced _ = Unit {0}

-- a size of data or common, where there is one, is from 1 to 16 MiB
abbrev pub HasSizeInRange : Body → Type 0
HasSizeInRange body = IfSome (size_of body) (λ size. (1 ≤ size) × (size ≤ 16777216))

-- Functions

-- a frame is a multiple of 4 within its limit
abbrev pub IsFrame : ℕ → Type 0
IsFrame frame = (frame % 4 ≡ 0) × (frame ≤ 16777212)

-- there is an instruction, and the last is RET or JMP
abbrev pub EndsWell : List Abs → Type 0
EndsWell [] = ⊥
EndsWell (a ∷ []) = (a.op ≡ Ret) ⊎ (a.op ≡ Jmp)
EndsWell (a ∷ b ∷ rest) = EndsWell (b ∷ rest)

-- one of the 32 registers, and neither the system's R26 and R27 nor the loader's R28
abbrev pub IsRegister : ℕ → Type 0
IsRegister r = (r < 32) × (r ≢ 26) × (r ≢ 27) × (r ≢ 28)

-- an operand's register, offset or label is in range in a function of this frame and so many
-- instructions; automatics have none
abbrev pub IsInRange : ℕ → ℕ → Operand → Type 0
IsInRange frame count (Reg r) = IsRegister r
IsInRange frame count (MemReg r _) = IsRegister r
IsInRange frame count (AddrFP offset) = offset ≤ 65535
IsInRange frame count (MemFP offset) = offset ≤ 65535
IsInRange frame count (AddrSP offset) = (2 ^ 32 - frame ≤ offset) × (offset < 2 ^ 32)
IsInRange frame count (MemSP offset) = (2 ^ 32 - frame ≤ offset) × (offset < 2 ^ 32)
IsInRange frame count (Label target) = target < count
IsInRange frame count (Auto _ _) = ⊥
IsInRange frame count (AutoAddr _ _) = ⊥
IsInRange frame count _ = Unit {0}

-- the moves, the arithmetic and the shifts: their last operand is written
abbrev pub writes_last : Op → Bool
writes_last MovW = true
writes_last MovH = true
writes_last MovHU = true
writes_last MovB = true
writes_last MovBU = true
writes_last Add = true
writes_last AddU = true
writes_last Sub = true
writes_last SubU = true
writes_last And = true
writes_last Or = true
writes_last Xor = true
writes_last Nor = true
writes_last Sgt = true
writes_last SgtU = true
writes_last Sll = true
writes_last Srl = true
writes_last Sra = true
writes_last _ = false

-- the last operand, where it is a register, is none of R29, R30 and R31
abbrev pub IsWritable : List Operand → Type 0
IsWritable [] = Unit {0}
IsWritable (Reg r ∷ []) = (r ≢ 29) × (r ≢ 30) × (r ≢ 31)
IsWritable (_ ∷ []) = Unit {0}
IsWritable (_ ∷ next ∷ rest) = IsWritable (next ∷ rest)

-- an instruction of a function of this frame and so many instructions
pub record IsInstruction (frame count : ℕ) (a : Abs) : Type 0 where
  pub form : IsForm a
  pub operands : All (IsInRange frame count) a.operands
  pub destination : writes_last a.op ≡ true → IsWritable a.operands

pub record IsFunction (def : TextDef) : Type 0 where
  pub frame : IsFrame def.frame
  pub ending : EndsWell def.code
  pub instructions : All (IsInstruction def.frame (length def.code)) def.code

abbrev pub HasFunction : Body → Type 0
HasFunction (Text def) = IsFunction def
HasFunction _ = Unit {0}

-- All rules

pub record IsValid (m : AModule) : Type 0 where
  pub names : All (λ s. IsName s.name) m.symbols
  pub distinct : AllPairs AreApart m.symbols
  pub locals : All IsBoundWell m.symbols
  pub signatures : All (λ s. IsSignature s.sig) m.symbols
  pub numbers : All (λ s. NamesWithin (length m.symbols) s.body) m.symbols
  pub pieces : All (λ s. HasWellPieced s.body) m.symbols
  pub sizes : All (λ s. HasSizeInRange s.body) m.symbols
  pub functions : All (λ s. HasFunction s.body) m.symbols
