-- What an access that is defined says.
use Rattle.std.proofs.Common.{◌≡◌, ◌+◌, ◌%◌, Bool, true, false, not, if◌then◌else◌, nat_lt, List, length, take, drop, Result, Ok, Err, refl, sym, subst}
use Rattle.std.specs.Prelude.{IsOkAnd, ◌==◌}
use Rattle.std.proofs.lemmas.Bool.{eqb-true, ltb-false}
use Rattle.p9_cmean.specs.declared.Cause.{Cause}
use Rattle.p9_cmean.specs.declared.Cause.TheVariants as cause
use Rattle.p9_cmean.specs.Cells.{Into, ToFunction, Cell, Object}
use Rattle.p9_cmean.specs.Access.{object_at}
use Rattle.p9_cmean.specs.RunLaws.{AccessInverts}

abbrev pub gives : {A : Type 0} → A → Result A Cause
gives x = Ok x

pub ok_is : {A : Type 0} (x y : A) → gives x ≡ Ok y → x ≡ y
ok_is x y h = sym (subst (λ r. IsOkAnd r (λ z. z ≡ x)) h refl)

pub err_is_not_ok : {A : Type 0} (why : Cause) (x : A) → Err why ≡ Ok x → ⊥
err_is_not_ok why x h = subst (λ r. IsOkAnd r (λ z. z ≡ x)) (sym h) refl

pub access_tests : (alive aligned past : Bool) (xs ys : List Cell)
    → (if not alive then Err cause.Dead else (if not aligned then Err cause.Misaligned else (if past then Err cause.Range else Ok xs))) ≡ Ok ys
    → (alive ≡ true) × (aligned ≡ true) × (past ≡ false) × (ys ≡ xs)
access_tests true true true xs ys h = absurd (err_is_not_ok cause.Range ys h)
access_tests true true false xs ys h = (refl, refl, refl, sym (ok_is xs ys h))
access_tests true false past xs ys h = absurd (err_is_not_ok cause.Misaligned ys h)
access_tests false aligned past xs ys h = absurd (err_is_not_ok cause.Dead ys h)

pub access_inverts : AccessInverts
access_inverts objects (Into object offset) size alignment cells h =
    let it : Object = object_at objects object in
    let tests : (it.is_alive ≡ true) × ((offset % alignment == 0) ≡ true) × (nat_lt (length it.cells) (offset + size) ≡ false) × (cells ≡ take size (drop offset it.cells)) =
    access_tests it.is_alive (offset % alignment == 0) (nat_lt (length it.cells) (offset + size)) (take size (drop offset it.cells)) cells h
    in
    record {
      object = object;
      offset = offset;
      is_into = refl;
      lives = tests.0;
      aligned = eqb-true (offset % alignment) 0 tests.1;
      lies = ltb-false (length it.cells) (offset + size) tests.2;
      content = tests.3;
    }
access_inverts objects (ToFunction function) size alignment cells h = absurd (err_is_not_ok cause.Range cells h)
