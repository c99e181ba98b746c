-- Files in whose modules constants are typed, as the law of constant expressions asks.
use Rattle.std.specs.Prelude.{◌≡◌, Bool, true, List, Option, Some}
use Rattle.std.specs.List.{list_all}
use Rattle.p9_lang.specs.Trees.{Syntax}
use Rattle.p9_lang.specs.Layout.{on_some}
use Rattle.p9_lang.specs.Modules.{Source}
use Rattle.p9_cmean.specs.ConstantLaws.{all_constants_are_typed}
use Rattle.p9_cmean.specs.ExampleRuns.{modules_of}
use Rattle.p9_cmean.specs.ExamplesOfCalls.{arguments, counts, just_fits}
use Rattle.p9_cmean.specs.ExamplesOfFiles.{first_contents, over_address, shared_nodes}
use Rattle.p9_cmean.specs.ExamplesOfMisuse.{call_with_char, least_remainder}
use Rattle.p9_cmean.specs.ExamplesOfOperators.{constants, bits, updates, casts, compared, unevaluated}
use Rattle.p9_cmean.specs.ExamplesOfFlow.{cases}
use Rattle.p9_cmean.specs.ExamplesOfWordCounter.{printed, counted}

abbrev pub are_typed : List Source → Bool
are_typed modules = list_all (λ (m : Source). all_constants_are_typed m.tags m.items) modules

-- whether the constants in all modules of files are typed
unfoldable pub typed_constants : List (List Syntax) → Option Bool
typed_constants files = on_some (modules_of files) (λ modules. Some (are_typed modules))

pub record TypedConstants : Type 0 where
  pub in_arguments : typed_constants arguments ≡ Some true
  pub in_counts : typed_constants counts ≡ Some true
  pub in_just_fits : typed_constants just_fits ≡ Some true
  pub in_first_contents : typed_constants first_contents ≡ Some true
  pub in_over_address : typed_constants over_address ≡ Some true
  pub in_shared_nodes : typed_constants shared_nodes ≡ Some true
  pub in_call_with_char : typed_constants call_with_char ≡ Some true
  pub in_least_remainder : typed_constants least_remainder ≡ Some true
  pub in_constants : typed_constants constants ≡ Some true
  pub in_bits : typed_constants bits ≡ Some true
  pub in_updates : typed_constants updates ≡ Some true
  pub in_casts : typed_constants casts ≡ Some true
  pub in_compared : typed_constants compared ≡ Some true
  pub in_unevaluated : typed_constants unevaluated ≡ Some true
  pub in_cases : typed_constants cases ≡ Some true
  pub in_printed : typed_constants printed ≡ Some true
  pub in_counted : typed_constants counted ≡ Some true
