-- Types of C, and what a node stands for, as plain data.
use Rattle.std.specs.Prelude.{ℕ, List, [], ◌∷◌}
use Rattle.p9_first.specs.declared.types.CType.{CType, fold-CType}
use Rattle.p9_first.specs.declared.types.CType.TheOpen.{CType-F}
use Rattle.p9_first.specs.declared.module.Bind.{Bind}
use Rattle.p9_first.specs.declared.module.Bind.TheVariants as bind

mutual
  pub data TypeTree : Type 0 where
    Void : TypeTree
    Char : TypeTree
    UChar : TypeTree
    Short : TypeTree
    UShort : TypeTree
    Int : TypeTree
    UInt : TypeTree
    Long : TypeTree
    ULong : TypeTree
    Pointer : (target : TypeTree) → TypeTree
    Array : (element : TypeTree) (count : ℕ) → TypeTree
    Function : (result : TypeTree) (parameters : TypeRow) → TypeTree
    Tagged : (tag : ℕ) → TypeTree

  pub data TypeRow : Type 0 where
    none : TypeRow
    more : (first : TypeTree) (others : TypeRow) → TypeRow

-- The types of the program as such trees

abbrev pub type_row : List TypeTree → TypeRow
type_row [] = none
type_row (first ∷ others) = more first (type_row others)

abbrev pub type_step : CType-F TypeTree → TypeTree
type_step CType-F.Void = Void
type_step CType-F.Char = Char
type_step CType-F.UChar = UChar
type_step CType-F.Short = Short
type_step CType-F.UShort = UShort
type_step CType-F.Int = Int
type_step CType-F.UInt = UInt
type_step CType-F.Long = Long
type_step CType-F.ULong = ULong
type_step (CType-F.Pointer target) = Pointer target
type_step (CType-F.Array element count) = Array element count
type_step (CType-F.Function result parameters) = Function result (type_row parameters)
type_step (CType-F.Tagged tag) = Tagged tag

unfoldable pub type_of : CType → TypeTree
type_of = fold-CType TypeTree type_step

abbrev pub types_of : List CType → List TypeTree
types_of [] = []
types_of (t ∷ ts) = type_of t ∷ types_of ts

-- What a node stands for: nothing, an object or function of file scope by its name, a text or
-- block static by its number in the file, an automatic by its number in the function, the value of
-- an enumeration constant, or a type.
pub data Meant : Type 0 where
  Nothing : Meant
  Outer : (name : List ℕ) → Meant
  Static : (number : ℕ) → Meant
  Auto : (number : ℕ) → Meant
  EnumValue : (value : ℕ) → Meant
  TypeName : (type : TypeTree) → Meant

abbrev pub meant : Bind → Meant
meant bind.Nothing = Nothing
meant (bind.Outer name) = Outer name
meant (bind.Static number) = Static number
meant (bind.Auto number) = Auto number
meant (bind.EnumValue value) = EnumValue value
meant (bind.TypeName type) = TypeName (type_of type)

abbrev pub all_meant : List Bind → List Meant
all_meant [] = []
all_meant (b ∷ bs) = meant b ∷ all_meant bs
