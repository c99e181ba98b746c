-- Cases of a test and of an option.
use Rattle.std.proofs.Common.{◌≡◌, Bool, true, false, cond, refl, Option, Some, None, IfSome}

pub if_cases : {A : Type 0} (P : A → Type 0) (c : Bool) {x y : A} → (c ≡ true → P x) → (c ≡ false → P y) → P (cond c x y)
if_cases P true on_true on_false = on_true refl
if_cases P false on_true on_false = on_false refl

pub IfSome_map : {A : Type 0} (P Q : A → Type 0) (answer : Option A) → ((x : A) → P x → Q x) → IfSome answer P → IfSome answer Q
IfSome_map P Q None f h = tt
IfSome_map P Q (Some x) f h = f x h

pub IfSome_at : {A : Type 0} (P : A → Type 0) (answer : Option A) (x : A) → answer ≡ Some x → IfSome answer P → P x
IfSome_at P None x e h = absurd (cc)
IfSome_at P (Some y) x e h = let same : y ≡ x = cc in rw (← same) h
