-- Types of C, the structures and unions that they name, and what a node stands for, as plain data.
use Rattle.std.specs.Prelude.{ℕ, Bool, List, [], ◌∷◌, Option, Some, None}
use Rattle.p9_lang.specs.declared.types.CType.{CType, fold-CType}
use Rattle.p9_lang.specs.declared.types.CType.TheOpen.{CType-F}
use Rattle.p9_lang.specs.declared.types.Member.{Member}
use Rattle.p9_lang.specs.declared.types.Tag.{Tag}
use Rattle.p9_lang.specs.declared.module.Bind.{Bind}
use Rattle.p9_lang.specs.declared.module.Bind.TheVariants as bind

mutual
  pub data TypeTree : Type 0 where
    Void : TypeTree
    Char : TypeTree
    UChar : TypeTree
    Short : TypeTree
    UShort : TypeTree
    Int : TypeTree
    UInt : TypeTree
    Long : TypeTree
    ULong : TypeTree
    Pointer : (target : TypeTree) → TypeTree
    Array : (element : TypeTree) (count : ℕ) → TypeTree
    Function : (result : TypeTree) (parameters : TypeRow) → TypeTree
    Tagged : (tag : ℕ) → TypeTree

  pub data TypeRow : Type 0 where
    none : TypeRow
    more : (first : TypeTree) (others : TypeRow) → TypeRow

-- a member; an unnamed substructure has an empty name
pub record MemberTree : Type 0 where
  pub name : List ℕ
  pub type : TypeTree

-- A structure or union: without a tag its name is empty, without a body it has no members. It may
-- be marked as incomplete. Types name it by its number in the list of its module's.
pub record TagTree : Type 0 where
  pub is_union : Bool
  pub name : List ℕ
  pub members : Option (List MemberTree)
  pub is_marked : Bool

abbrev pub Tags : Type 0
Tags = List TagTree

abbrev pub row_types : TypeRow → List TypeTree
row_types none = []
row_types (more first others) = first ∷ row_types others

abbrev pub type_row : List TypeTree → TypeRow
type_row [] = none
type_row (first ∷ others) = more first (type_row others)

-- What a node stands for: nothing, an object or function of file scope by its name, a text or
-- block static by its number in the file, an automatic by its number in the function, the value of
-- an enumeration constant, or a type.
pub data Meant : Type 0 where
  Nothing : Meant
  Outer : (name : List ℕ) → Meant
  Static : (number : ℕ) → Meant
  Auto : (number : ℕ) → Meant
  EnumValue : (value : ℕ) → Meant
  TypeName : (type : TypeTree) → Meant

-- The types of the program as such trees

abbrev pub type_step : CType-F TypeTree → TypeTree
type_step CType-F.Void = Void
type_step CType-F.Char = Char
type_step CType-F.UChar = UChar
type_step CType-F.Short = Short
type_step CType-F.UShort = UShort
type_step CType-F.Int = Int
type_step CType-F.UInt = UInt
type_step CType-F.Long = Long
type_step CType-F.ULong = ULong
type_step (CType-F.Pointer target) = Pointer target
type_step (CType-F.Array element count) = Array element count
type_step (CType-F.Function result parameters) = Function result (type_row parameters)
type_step (CType-F.Tagged tag) = Tagged tag

unfoldable pub type_of : CType → TypeTree
type_of = fold-CType TypeTree type_step

abbrev pub types_of : List CType → List TypeTree
types_of [] = []
types_of (t ∷ ts) = type_of t ∷ types_of ts

abbrev pub member_of : Member → MemberTree
member_of m = record { name = m.name; type = type_of m.ty }

abbrev pub members_of : List Member → List MemberTree
members_of [] = []
members_of (m ∷ ms) = member_of m ∷ members_of ms

abbrev pub body_of : Option (List Member) → Option (List MemberTree)
body_of None = None
body_of (Some ms) = Some (members_of ms)

abbrev pub tag_of : Tag → TagTree
tag_of t = record { is_union = t.is_union; name = t.name; members = body_of t.members; is_marked = t.marked }

abbrev pub tags_of : List Tag → Tags
tags_of [] = []
tags_of (t ∷ ts) = tag_of t ∷ tags_of ts

abbrev pub meant : Bind → Meant
meant bind.Nothing = Nothing
meant (bind.Outer name) = Outer name
meant (bind.Static number) = Static number
meant (bind.Auto number) = Auto number
meant (bind.EnumValue value) = EnumValue value
meant (bind.TypeName type) = TypeName (type_of type)

abbrev pub all_meant : List Bind → List Meant
all_meant [] = []
all_meant (b ∷ bs) = meant b ∷ all_meant bs
