-- Operations on words, as what is fixed.
use Rattle.std.proofs.Common.{ℕ, ◌≡◌, ◌%◌, ◌==◌, Bool, true, false, if◌then◌else◌, Result, Ok, Err, refl, sym, ap, ◌∙◌}
use Rattle.p9_lang.specs.Constants as constants
use Rattle.p9_lang.specs.Initialisers as specs
use Rattle.p9_operand.specs.declared.operand.Constant.{Constant}
use Rattle.p9_operand.specs.declared.operand.Constant.TheVariants as constant
use Rattle.p9_operand.specs.Told.{told_constant}
use Rattle.p9_fixed.specs.declared.kinds.Fixed.{Fixed}
use Rattle.p9_fixed.specs.declared.kinds.Fixed.TheVariants as fixed
use Rattle.p9_fixed.specs.Told.{told_fixed}

-- what a constant is when it isn't undefined
abbrev pub fixed_constant : Constant → Fixed
fixed_constant (constant.Value word) = fixed.Number word
fixed_constant constant.NotConstant = fixed.NotFixed
fixed_constant constant.Undefined = fixed.NotFixed
fixed_constant constant.Null = fixed.NotFixed

pub operation_told : (c : Constant) (r : Result ℕ constants.WordFault) → told_constant c ≡ constants.value_or_undefined r
    → told_fixed (fixed_constant c) ≡ specs.fixed_result r
operation_told (constant.Value word) (Ok other) e = (let same : word ≡ other = cc in λ i. specs.Number (same i))
operation_told (constant.Value word) (Err fault) e = cc
operation_told constant.NotConstant (Ok other) e = cc
operation_told constant.NotConstant (Err fault) e = refl
operation_told constant.Undefined (Ok other) e = cc
operation_told constant.Undefined (Err fault) e = refl
operation_told constant.Null (Ok other) e = cc
operation_told constant.Null (Err fault) e = refl

-- nothing is divided by 0
pub no_quotient : (bytes size : ℕ) → size ≡ 0 → specs.NotFixed ≡ specs.whole_quotient bytes size
no_quotient bytes size e = by (bytes % 0 == 0) ∙ sym (ap (specs.whole_quotient bytes) e)
  where
    by : (b : Bool) → specs.NotFixed ≡ (if b then specs.quotient_of bytes 0 else specs.NotFixed)
    by true = refl
    by false = refl
