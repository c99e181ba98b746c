-- Cases of a test, and facts of an answer.
use Rattle.std.proofs.Common.{◌≡◌, ℕ, ◌+◌, Bool, true, false, cond, refl, List, ◌++◌, length, Result, Ok, Err, IfOk}

-- what holds of both answers holds of the one that is chosen
pub if_both : {A : Type 0} (P : A → Type 0) (c : Bool) {x y : A} → P x → P y → P (cond c x y)
if_both P true px py = px
if_both P false px py = py

pub if_cases : {A : Type 0} (P : A → Type 0) (c : Bool) {x y : A} → (c ≡ true → P x) → (c ≡ false → P y) → P (cond c x y)
if_cases P true on_true on_false = on_true refl
if_cases P false on_true on_false = on_false refl

pub IfOk_map : {A E : Type 0} (P Q : A → Type 0) (answer : Result A E) → ((x : A) → P x → Q x) → IfOk answer P → IfOk answer Q
IfOk_map P Q (Ok x) f h = f x h
IfOk_map P Q (Err e) f h = tt

-- a list is cut in two, where the first part ends at a place that counts from `from`
pub record Splits (whole : List ℕ) (from end : ℕ) (P : List ℕ → List ℕ → Type 0) : Type 0 where
  pub bytes : List ℕ
  pub after : List ℕ
  pub cut : whole ≡ bytes ++ after
  pub size : from + length bytes ≡ end
  pub holds : P bytes after
