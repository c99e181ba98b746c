-- The types of lists in braces.
use Rattle.std.proofs.Common.{◌≡◌, ◌≢◌, ℕ, zero, suc, false, refl, ap, ◌∙◌}
use Rattle.p9_lang.specs.Types.{TypeTree, Void, Char, UChar, Short, UShort, Int, UInt, Long, ULong, Pointer, Array, Function, Tagged}
use Rattle.p9_lang.specs.Conversions.{is_array}
use Rattle.p9_lang.specs.Parts.{Fills}
use Rattle.p9_lang.specs.Typing.{list_type}

pub sized_by_list : (t e : TypeTree) (n count : ℕ) → t ≡ Array e n → n ≡ 0 → list_type (Fills t) count ≡ Array e count
sized_by_list t e n count f g = ap (λ u. list_type (Fills u) count) (f ∙ ap (Array e) g)

array_sized_already : (e : TypeTree) (n count : ℕ) → n ≢ 0 → list_type (Fills (Array e n)) count ≡ Array e n
array_sized_already e zero count g = absurd (g refl)
array_sized_already e (suc n) count g = refl

pub sized_already : (t e : TypeTree) (n count : ℕ) → t ≡ Array e n → n ≢ 0 → list_type (Fills t) count ≡ t
sized_already t e n count f g = rw f (array_sized_already e n count g)

pub no_array : (t : TypeTree) (count : ℕ) → is_array t ≡ false → list_type (Fills t) count ≡ t
no_array Void count e = refl
no_array Char count e = refl
no_array UChar count e = refl
no_array Short count e = refl
no_array UShort count e = refl
no_array Int count e = refl
no_array UInt count e = refl
no_array Long count e = refl
no_array ULong count e = refl
no_array (Pointer t) count e = refl
no_array (Array t n) count e = cc
no_array (Function t ts) count e = refl
no_array (Tagged i) count e = refl
