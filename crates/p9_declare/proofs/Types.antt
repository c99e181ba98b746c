-- Types as plain data, by what is asked of them.
use Rattle.std.proofs.Common.{◌≡◌, ℕ, zero, suc, Bool, true, false, List, [], ◌∷◌, length, refl, ap}
use Rattle.p9_lang.specs.declared.types.CType.{CType}
use Rattle.p9_lang.specs.Types.{TypeTree, Void, Char, UChar, Short, UShort, Int, UInt, Long, ULong, Pointer, Array, Function, Tagged, Tags, types_of, type_row, row_types}
use Rattle.p9_lang.specs.Conversions.{is_array, same_type}
use Rattle.p9_lang.specs.Declarators.{object_rules, sized_rules, same_so_far}
use Rattle.p9_declare.specs.Types.{lacks_length}

pub unsized_object : (tags : Tags) (t : TypeTree) → lacks_length t ≡ true → object_rules tags t ≡ []
unsized_object tags Void e = cc
unsized_object tags Char e = cc
unsized_object tags UChar e = cc
unsized_object tags Short e = cc
unsized_object tags UShort e = cc
unsized_object tags Int e = cc
unsized_object tags UInt e = cc
unsized_object tags Long e = cc
unsized_object tags ULong e = cc
unsized_object tags (Pointer t) e = cc
unsized_object tags (Array t zero) e = refl
unsized_object tags (Array t (suc n)) e = cc
unsized_object tags (Function t ts) e = cc
unsized_object tags (Tagged i) e = cc

pub sized_object : (tags : Tags) (t : TypeTree) → lacks_length t ≡ false → object_rules tags t ≡ sized_rules tags t
sized_object tags Void e = refl
sized_object tags Char e = refl
sized_object tags UChar e = refl
sized_object tags Short e = refl
sized_object tags UShort e = refl
sized_object tags Int e = refl
sized_object tags UInt e = refl
sized_object tags Long e = refl
sized_object tags ULong e = refl
sized_object tags (Pointer t) e = refl
sized_object tags (Array t zero) e = cc
sized_object tags (Array t (suc n)) e = refl
sized_object tags (Function t ts) e = refl
sized_object tags (Tagged i) e = refl

same_array_beside : (m : ℕ) (old new : TypeTree) → lacks_length new ≡ false → same_so_far (Array old m) new ≡ same_type (Array old m) new
same_array_beside m old Void e = refl
same_array_beside m old Char e = refl
same_array_beside m old UChar e = refl
same_array_beside m old Short e = refl
same_array_beside m old UShort e = refl
same_array_beside m old Int e = refl
same_array_beside m old UInt e = refl
same_array_beside m old Long e = refl
same_array_beside m old ULong e = refl
same_array_beside m old (Pointer t) e = refl
same_array_beside m old (Array t zero) e = cc
same_array_beside m old (Array t (suc n)) e = refl
same_array_beside m old (Function t ts) e = refl
same_array_beside m old (Tagged i) e = refl

pub same_beside_no_array : (old new : TypeTree) → is_array old ≡ false → same_so_far old new ≡ same_type old new
same_beside_no_array Void new e = refl
same_beside_no_array Char new e = refl
same_beside_no_array UChar new e = refl
same_beside_no_array Short new e = refl
same_beside_no_array UShort new e = refl
same_beside_no_array Int new e = refl
same_beside_no_array UInt new e = refl
same_beside_no_array Long new e = refl
same_beside_no_array ULong new e = refl
same_beside_no_array (Pointer t) new e = refl
same_beside_no_array (Array t n) new e = cc
same_beside_no_array (Function t ts) new e = refl
same_beside_no_array (Tagged i) new e = refl

pub same_beside_sized : (old new : TypeTree) → lacks_length new ≡ false → same_so_far old new ≡ same_type old new
same_beside_sized Void new e = refl
same_beside_sized Char new e = refl
same_beside_sized UChar new e = refl
same_beside_sized Short new e = refl
same_beside_sized UShort new e = refl
same_beside_sized Int new e = refl
same_beside_sized UInt new e = refl
same_beside_sized Long new e = refl
same_beside_sized ULong new e = refl
same_beside_sized (Pointer t) new e = refl
same_beside_sized (Array t m) new e = same_array_beside m t new e
same_beside_sized (Function t ts) new e = refl
same_beside_sized (Tagged i) new e = refl

pub same_elements : (old new t u : TypeTree) (m : ℕ) → old ≡ Array t m → new ≡ Array u 0 → same_so_far old new ≡ same_type t u
same_elements old new t u m e f = rw (e, f) refl

-- PARAMETERS

pub row_length : (types : List CType) → length (row_types (type_row (types_of types))) ≡ length types
row_length [] = refl
row_length (t ∷ types) = ap suc (row_length types)
