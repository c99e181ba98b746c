-- Kinds of types, what operands become, and when a value of one type may stand where one of another
-- is asked.
use Rattle.std.specs.Prelude.{ℕ, ◌^◌, Bool, true, false, not, ◌&&◌, ◌||◌, ◌==◌, nat_le, if◌then◌else◌}
use Rattle.p9_lang.specs.Types.{TypeTree, Void, Char, UChar, Short, UShort, Int, UInt, Long, ULong, Pointer, Array, Function, Tagged, TypeRow, none, more, Tags}
use Rattle.p9_lang.specs.Members.{Sought, Nowhere, One, Several, find_substructure}

abbrev pub is_integer : TypeTree → Bool
is_integer Char = true
is_integer UChar = true
is_integer Short = true
is_integer UShort = true
is_integer Int = true
is_integer UInt = true
is_integer Long = true
is_integer ULong = true
is_integer type = false

abbrev pub is_pointer : TypeTree → Bool
is_pointer (Pointer target) = true
is_pointer type = false

abbrev pub is_void : TypeTree → Bool
is_void Void = true
is_void type = false

abbrev pub is_function : TypeTree → Bool
is_function (Function result parameters) = true
is_function type = false

abbrev pub is_array : TypeTree → Bool
is_array (Array element n) = true
is_array type = false

-- a structure or a union
abbrev pub is_structure : TypeTree → Bool
is_structure (Tagged i) = true
is_structure type = false

abbrev pub is_character : TypeTree → Bool
is_character Char = true
is_character UChar = true
is_character type = false

abbrev pub is_scalar : TypeTree → Bool
is_scalar type = is_integer type || is_pointer type

-- a pointer, by what it points to
abbrev pub points_to : (TypeTree → Bool) → TypeTree → Bool
points_to test (Pointer target) = test target
points_to test type = false

abbrev pub is_object : TypeTree → Bool
is_object type = not (is_void type) && not (is_function type)

-- Types are equal where they are built alike over the same structures.
abbrev mutual
  pub same_type : TypeTree → TypeTree → Bool
  same_type Void Void = true
  same_type Char Char = true
  same_type UChar UChar = true
  same_type Short Short = true
  same_type UShort UShort = true
  same_type Int Int = true
  same_type UInt UInt = true
  same_type Long Long = true
  same_type ULong ULong = true
  same_type (Pointer t) (Pointer u) = same_type t u
  same_type (Array t m) (Array u n) = (m == n) && same_type t u
  same_type (Function t ts) (Function u us) = same_type t u && same_types ts us
  same_type (Tagged i) (Tagged j) = i == j
  same_type t u = false

  pub same_types : TypeRow → TypeRow → Bool
  same_types none none = true
  same_types none (more u us) = false
  same_types (more t ts) none = false
  same_types (more t ts) (more u us) = same_type t u && same_types ts us

-- an array becomes a pointer to its first element, and a function a pointer to itself
abbrev pub decayed : TypeTree → TypeTree
decayed (Array element n) = Pointer element
decayed (Function result parameters) = Pointer (Function result parameters)
decayed type = type

-- Integers: char and short operands become int. Of two operands the result is unsigned if one is,
-- and long if one is.

abbrev pub is_long : TypeTree → Bool
is_long Long = true
is_long ULong = true
is_long type = false

-- unsigned char and unsigned short become int, which has all their values
abbrev pub is_unsigned : TypeTree → Bool
is_unsigned UInt = true
is_unsigned ULong = true
is_unsigned type = false

abbrev pub integer_of : (unsigned long : Bool) → TypeTree
integer_of false false = Int
integer_of true false = UInt
integer_of false true = Long
integer_of true true = ULong

abbrev pub promoted : TypeTree → TypeTree
promoted type = integer_of (is_unsigned type) (is_long type)

abbrev pub common : TypeTree → TypeTree → TypeTree
common a b = integer_of (is_unsigned a || is_unsigned b) (is_long a || is_long b)

-- the type of a number with its suffixes
abbrev pub number_type : (value : ℕ) (unsigned long : Bool) → TypeTree
number_type value unsigned long = integer_of (unsigned || nat_le (2 ^ 31) value) long

-- How a value of one type becomes one of another: it stays, as between equal types and between
-- void* and a pointer to an object; an integer becomes another; the null constant becomes a
-- pointer; a pointer to a structure becomes one to its unnamed substructure at an offset, of which
-- there may be two; or not at all.
pub data Conversion : Type 0 where
  Same : Conversion
  Integer : Conversion
  Null : Conversion
  Inner : (offset : ℕ) → Conversion
  Ambiguous : Conversion
  No : Conversion

abbrev pub inner_conversion : Sought ℕ → Conversion
inner_conversion Nowhere = No
inner_conversion (One offset) = Inner offset
inner_conversion Several = Ambiguous

abbrev pub structure_conversion : Tags → (from to : TypeTree) → Conversion
structure_conversion tags (Pointer (Tagged i)) (Pointer (Tagged j)) = inner_conversion (find_substructure tags i j)
structure_conversion tags from to = No

abbrev pub stays : (from to : TypeTree) → Bool
stays from to =
    same_type from to
    || ((points_to is_void from && points_to is_object to) || (points_to is_object from && points_to is_void to))

-- the first of these that applies; `from` is the type of a value, neither array nor function
abbrev pub conversion : Tags → (from to : TypeTree) → (is_null : Bool) → Conversion
conversion tags from to is_null =
    if stays from to then Same
    else (if is_integer from && is_integer to then Integer
    else (if is_null && is_pointer to then Null
    else structure_conversion tags from to))
