-- The test is computed.
use Rattle.std.proofs.Common.{refl}
use Rattle.p9_cmean.specs.ExamplesOfConstants.{typed_constants, TypedConstants}

pub typed_constants_in : TypedConstants
unfolding typed_constants
typed_constants_in = record {
  in_arguments = refl;
  in_counts = refl;
  in_just_fits = refl;
  in_first_contents = refl;
  in_over_address = refl;
  in_shared_nodes = refl;
  in_call_with_char = refl;
  in_least_remainder = refl;
  in_constants = refl;
  in_bits = refl;
  in_updates = refl;
  in_casts = refl;
  in_compared = refl;
  in_unevaluated = refl;
  in_cases = refl;
  in_printed = refl;
  in_counted = refl;
}
