-- What the reader's answers mean, in terms of objects alone.
use Rattle.std.specs.Prelude.{◌≡◌, ◌≢◌, ◌⊎◌, ◌^◌, ◌<◌, ℕ, List, [], ◌∷◌, ◌++◌, length, flat_map, All, Ok, Err}
use Rattle.p9_base.specs.Numbers.{word_bytes}
use Rattle.p9_abs.specs.declared.instructions.Operand.{Operand}
use Rattle.p9_abs.specs.declared.instructions.Operand.TheVariants.{Reg, Const, AddrSB, AddrFP, AddrSP, MemSB, MemFP, MemSP, MemReg, Label, Func, Hi, Lo, Auto, AutoAddr}
use Rattle.p9_abs.specs.declared.modules.DataPiece.{DataPiece}
use Rattle.p9_abs.specs.declared.modules.DataPiece.TheVariants.{Raw, Address}
use Rattle.p9_abs.specs.declared.modules.Body.{Body}
use Rattle.p9_abs.specs.declared.modules.Body.TheVariants.{Declared, Used, Text, Data, Common}
use Rattle.p9_abs.specs.declared.modules.AModule.{AModule}
use Rattle.p9_abs.specs.Modules.{operands_of, pieces_of}
use Rattle.p9_abs.specs.Validity.{IsValid}
use Rattle.p9_object.specs.Fields.{Field, Half, fields_of, field_bytes, spelling, magic, version}
use Rattle.p9_object.specs.Bytes.{BadObject, Version, reading}

-- Numbers that validity leaves open are words, and raw bytes are bytes.

abbrev pub IsWord : ℕ → Type 0
IsWord n = n < 2 ^ 32

abbrev pub IsByte : ℕ → Type 0
IsByte n = n < 2 ^ 8

abbrev pub OperandFits : Operand → Type 0
OperandFits (Const c) = IsWord c
OperandFits (AddrSB s o) = IsWord o
OperandFits (MemSB s o) = IsWord o
OperandFits (MemReg r o) = IsWord o
OperandFits (Reg r) = Unit {0}
OperandFits (AddrFP o) = Unit {0}
OperandFits (AddrSP o) = Unit {0}
OperandFits (MemFP o) = Unit {0}
OperandFits (MemSP o) = Unit {0}
OperandFits (Label l) = Unit {0}
OperandFits (Func s) = Unit {0}
OperandFits Hi = Unit {0}
OperandFits Lo = Unit {0}
OperandFits (Auto v o) = Unit {0}
OperandFits (AutoAddr v o) = Unit {0}

abbrev pub PieceFits : DataPiece → Type 0
PieceFits (Raw bytes) = All IsByte bytes
PieceFits (Address s o) = IsWord o

abbrev pub CodeFits : Body → Type 0
CodeFits (Text def) = IsWord (length def.code)
CodeFits Declared = Unit {0}
CodeFits Used = Unit {0}
CodeFits (Data pieces) = Unit {0}
CodeFits (Common size) = Unit {0}

pub record Fits (m : AModule) : Type 0 where
  pub few : IsWord (length m.symbols)
  pub operands : All (λ s. All OperandFits (operands_of s.body)) m.symbols
  pub pieces : All (λ s. All PieceFits (pieces_of s.body)) m.symbols
  pub code : All (λ s. CodeFits s.body) m.symbols

-- Objects

pub record IsObject (m : AModule) : Type 0 where
  pub valid : IsValid m
  pub fits : Fits m

-- some object begins with these fields
pub record Begins (fields : List Field) : Type 0 where
  pub «module» : AModule
  pub rest : List Field
  pub object : IsObject «module»
  pub goes_on : fields_of «module».symbols ≡ fields ++ rest

-- The fields lead to where another is judged: some object begins with them; or the last of them is the
-- length of a name, which is judged with the name, and some object begins with those before it.
pub data Leads (fields : List Field) : Type 0 where
  AsBegun : Begins fields → Leads fields
  AtName : (before : List Field) (n : ℕ) → fields ≡ before ++ Half n ∷ [] → Begins before → Leads fields

abbrev pub bytes_of : List Field → List ℕ
bytes_of fields = flat_map field_bytes fields

abbrev pub size_of : Field → ℕ
size_of field = length (field_bytes field)

-- Why an object's bytes are refused at a byte
pub data Breaks (bytes : List ℕ) (at : ℕ) : Type 0 where
  -- a field with which no object goes on, whose first byte it is; it is as long as any that goes on there
  AtField :
      (before : List Field) (field : Field) (rest : List ℕ) → bytes ≡ bytes_of before ++ (field_bytes field ++ rest)
      → at ≡ length (bytes_of before) → Leads before → (Begins (before ++ field ∷ []) → ⊥)
      → ((other : Field) → Begins (before ++ other ∷ []) → size_of other ≡ size_of field) → Breaks bytes at
  -- the bytes end behind fields with which an object begins, or inside the next field
  AtEnd :
      (before : List Field) (pending : List ℕ) → bytes ≡ bytes_of before ++ pending → at ≡ length bytes → Leads before
      → ((other : Field) → Begins (before ++ other ∷ []) → length pending < size_of other) → Breaks bytes at
  -- bytes follow a whole object
  Behind :
      (m : AModule) (next : ℕ) (rest : List ℕ) → IsObject m → bytes ≡ spelling m ++ next ∷ rest → at ≡ length (spelling m)
      → Breaks bytes at

-- Laws

abbrev pub ReadsWhatIsSpelled : Type 0
ReadsWhatIsSpelled = (m : AModule) → IsObject m → reading (spelling m) ≡ Ok m

abbrev pub ReadsOnlySpellings : Type 0
ReadsOnlySpellings =
    (bytes : List ℕ) (m : AModule) → All IsByte bytes → reading bytes ≡ Ok m → IsObject m × (bytes ≡ spelling m)

abbrev pub BreaksAtFirst : Type 0
BreaksAtFirst = (bytes : List ℕ) (at : ℕ) → All IsByte bytes → reading bytes ≡ Err (BadObject at) → Breaks bytes at

abbrev pub TellsVersions : Type 0
TellsVersions =
    (bytes : List ℕ) (v : ℕ) → All IsByte bytes → reading bytes ≡ Err (Version v)
    → (v ≢ version) × ((rest : List ℕ) × (bytes ≡ magic ++ (word_bytes v ++ rest)))
