-- The examples are computed.
use Rattle.std.specs.Fmt.{digits}
use Rattle.std.proofs.Common.{refl}
use Rattle.p9_lang.specs.RefusedFiles.{Refusals}
use Rattle.p9_lang.specs.TypedFiles.{TypedFiles}
use Rattle.p9_lang.specs.LayoutExamples.{Layouts, WordOperations, Agreements}

pub refusals : Refusals
refusals = record {
  incomplete_object_told = refl;
  two_members_told = refl;
  unknown_name_told = refl;
  no_body_told = refl;
  other_type_told = refl;
  other_linkage_told = refl;
  two_bodies_told = refl;
  written_number_told = refl;
  negated_pointer_told = refl;
  structure_inside_told = refl;
  number_as_pointer_told = refl;
  called_number_told = refl;
  too_few_told = refl;
  count_and_argument_told = refl;
  unknown_member_told = refl;
  tested_structure_told = refl;
  no_length_told = refl;
  divided_by_zero_told = refl;
  outermost_step_told = refl;
  value_of_void_told = refl;
  lone_continue_told = refl;
  past_the_limit_told = refl;
}

pub typed_files : TypedFiles
unfolding digits
typed_files = record {
  small = refl;
  numbered = refl;
  symbols_listed = refl;
  indexed_writes = refl;
  linked_writes = refl;
  moved_writes = refl;
  narrowed_writes = refl;
  not_constant_told = refl;
  null_moved_told = refl;
  long_text_told = refl;
  past_told = refl;
}

pub layouts : Layouts
layouts = record {
  char_int_short = refl;
  inner = refl;
  union = refl;
  array = refl;
  bodiless_has_none = refl;
  function_has_none = refl;
  own_member = refl;
  promoted_member = refl;
  two_at_a_level = refl;
  not_through_names = refl;
  no_body = refl;
  substructure = refl;
  no_substructure = refl;
}

pub word_operations : WordOperations
word_operations = record {
  least_by_minus_one = refl;
  least_by_most = refl;
  by_zero = refl;
  truncates = refl;
  remainder_has_the_sign = refl;
  far_shift = refl;
  keeps_the_sign = refl;
  negative_is_less = refl;
  most_is_not_less = refl;
  sign_of_a_char = refl;
  unsigned_char = refl;
}

pub agreements : Agreements
agreements = record {
  other_numbers = refl;
  renamed_member = refl;
  marked_and_bodiless = refl;
  marked_and_complete = refl;
  other_count = refl;
}
