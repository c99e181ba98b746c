-- Objects without a length, and the lengths that initialisers give.
use Rattle.std.proofs.Common.{◌≡◌, ℕ, zero, suc, Bool, true, false, List, Option, Some, Ok, refl, ap, sym}
use Rattle.p9_lang.specs.Types.{TypeTree, Void, Char, UChar, Short, UShort, Int, UInt, Long, ULong, Pointer, Array, Function, Tagged}
use Rattle.p9_lang.specs.Conversions.{is_array}
use Rattle.p9_lang.specs.Constants.{Constant}
use Rattle.p9_lang.specs.Scopes.{Known}
use Rattle.p9_lang.specs.Declarators.{Step, name_of}
use Rattle.p9_lang.specs.Parts.{Role, Part, Object, Value, name_in}
use Rattle.p9_lang.specs.Declaring.{given_length, with_given_length, with_length_given}
use Rattle.p9_declare.specs.Types.{lacks_length}

abbrev object : TypeTree → List Step → ℕ → Role → Option Part
object type steps last role = Some (Object type steps last role)

-- an array without a length has the one that is given
pub length_given : (base t : TypeTree) (steps : List Step) (last : ℕ) (role : Role) (part : Part) (s : Known) → lacks_length t ≡ true
    → with_given_length base steps last (given_length part) (name_in (name_of steps)) s ≡ with_length_given base (object t steps last role) part s
length_given base Void steps last role part s e = cc
length_given base Char steps last role part s e = cc
length_given base UChar steps last role part s e = cc
length_given base Short steps last role part s e = cc
length_given base UShort steps last role part s e = cc
length_given base Int steps last role part s e = cc
length_given base UInt steps last role part s e = cc
length_given base Long steps last role part s e = cc
length_given base ULong steps last role part s e = cc
length_given base (Pointer t) steps last role part s e = cc
length_given base (Array t zero) steps last role part s e = refl
length_given base (Array t (suc n)) steps last role part s e = cc
length_given base (Function t ts) steps last role part s e = cc
length_given base (Tagged i) steps last role part s e = cc

-- any other object is as it was
pub length_kept : (base t : TypeTree) (steps : List Step) (last : ℕ) (role : Role) (part : Part) (s : Known) → lacks_length t ≡ false
    → with_length_given base (object t steps last role) part s ≡ Ok s
length_kept base Void steps last role part s e = refl
length_kept base Char steps last role part s e = refl
length_kept base UChar steps last role part s e = refl
length_kept base Short steps last role part s e = refl
length_kept base UShort steps last role part s e = refl
length_kept base Int steps last role part s e = refl
length_kept base UInt steps last role part s e = refl
length_kept base Long steps last role part s e = refl
length_kept base ULong steps last role part s e = refl
length_kept base (Pointer t) steps last role part s e = refl
length_kept base (Array t zero) steps last role part s e = cc
length_kept base (Array t (suc n)) steps last role part s e = refl
length_kept base (Function t ts) steps last role part s e = refl
length_kept base (Tagged i) steps last role part s e = refl

-- what a value gives
abbrev operand : TypeTree → Bool → Constant → Part
operand type is_lvalue constant = Value (record { type = type; is_lvalue = is_lvalue; constant = constant })

pub array_gives : (t element : TypeTree) (n : ℕ) (l : Bool) (c : Constant) → t ≡ Array element n → n ≡ given_length (operand t l c)
array_gives t element n l c e = sym (ap (λ u. given_length (operand u l c)) e)

pub other_gives : (t : TypeTree) (l : Bool) (c : Constant) → is_array t ≡ false → 0 ≡ given_length (operand t l c)
other_gives Void l c e = refl
other_gives Char l c e = refl
other_gives UChar l c e = refl
other_gives Short l c e = refl
other_gives UShort l c e = refl
other_gives Int l c e = refl
other_gives UInt l c e = refl
other_gives Long l c e = refl
other_gives ULong l c e = refl
other_gives (Pointer t) l c e = refl
other_gives (Array t n) l c e = cc
other_gives (Function t ts) l c e = refl
other_gives (Tagged i) l c e = refl
