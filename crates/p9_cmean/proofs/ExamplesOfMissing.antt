-- The runs are computed.
use Rattle.std.proofs.Common.{◌≡◌, [], Some, refl}
use Rattle.p9_cmean.specs.declared.Cause.TheVariants as cause
use Rattle.p9_cmean.specs.CRun.{source_run}
use Rattle.p9_cmean.specs.ExampleRuns.{Ends, IsUndefined, run}
use Rattle.p9_cmean.specs.ExamplesOfMissing.{unused, as_operand, as_left_operand, as_test, as_argument, as_result, as_part, as_address, as_case, null_substructure, copied_past_the_end, misaligned_first, before_its_object, compared_outside, unsigned_count, negative_index, called_dead, updated_unset, within_parentheses, written_pointer, pointer_as_text, written_null, read_to_null, dead_text, RunsOfMissing}

runs_unused_is : run unused [] 5 ≡ Some (Ends [] [] [])
unfolding run source_run
runs_unused_is = refl

runs_as_operand_is : run as_operand [] 2 ≡ Some (IsUndefined [] cause.NoValue 0 11)
unfolding run source_run
runs_as_operand_is = refl

runs_as_left_operand_is : run as_left_operand [] 5 ≡ Some (IsUndefined [] cause.NoValue 0 15)
unfolding run source_run
runs_as_left_operand_is = refl

runs_as_test_is : run as_test [] 2 ≡ Some (IsUndefined [] cause.NoValue 0 7)
unfolding run source_run
runs_as_test_is = refl

runs_as_argument_is : run as_argument [] 2 ≡ Some (IsUndefined [] cause.NoValue 0 18)
unfolding run source_run
runs_as_argument_is = refl

runs_as_result_is : run as_result [] 3 ≡ Some (IsUndefined [] cause.NoValue 0 7)
unfolding run source_run
runs_as_result_is = refl

runs_as_part_is : run as_part [] 2 ≡ Some (IsUndefined [] cause.NoValue 0 8)
unfolding run source_run
runs_as_part_is = refl

runs_as_address_is : run as_address [] 2 ≡ Some (IsUndefined [] cause.NoValue 0 8)
unfolding run source_run
runs_as_address_is = refl

runs_as_case_is : run as_case [] 2 ≡ Some (IsUndefined [] cause.NoValue 0 7)
unfolding run source_run
runs_as_case_is = refl

runs_null_substructure_is : run null_substructure [] 2 ≡ Some (IsUndefined [] cause.Null 0 22)
unfolding run source_run
runs_null_substructure_is = refl

runs_copied_past_the_end_is : run copied_past_the_end [] 2 ≡ Some (IsUndefined [] cause.Range 0 16)
unfolding run source_run
runs_copied_past_the_end_is = refl

runs_misaligned_first_is : run misaligned_first [] 2 ≡ Some (IsUndefined [] cause.Misaligned 0 15)
unfolding run source_run
runs_misaligned_first_is = refl

runs_before_its_object_is : run before_its_object [] 2 ≡ Some (IsUndefined [] cause.Range 0 13)
unfolding run source_run
runs_before_its_object_is = refl

runs_compared_outside_is : run compared_outside [] 2 ≡ Some (IsUndefined [] cause.Range 0 13)
unfolding run source_run
runs_compared_outside_is = refl

runs_unsigned_count_is : run unsigned_count [] 2 ≡ Some (IsUndefined [] cause.Range 0 30)
unfolding run source_run
runs_unsigned_count_is = refl

runs_negative_index_is : run negative_index [] 2 ≡ Some (IsUndefined [] cause.Range 0 9)
unfolding run source_run
runs_negative_index_is = refl

runs_called_dead_is : run called_dead [] 2 ≡ Some (IsUndefined [] cause.Dead 0 31)
unfolding run source_run
runs_called_dead_is = refl

runs_updated_unset_is : run updated_unset [] 2 ≡ Some (IsUndefined [] cause.Unset 0 10)
unfolding run source_run
runs_updated_unset_is = refl

runs_within_parentheses_is : run within_parentheses [] 2 ≡ Some (IsUndefined [] cause.Unset 0 7)
unfolding run source_run
runs_within_parentheses_is = refl

runs_written_pointer_is : run written_pointer [] 2 ≡ Some (IsUndefined [] cause.Mixed 0 16)
unfolding run source_run
runs_written_pointer_is = refl

runs_pointer_as_text_is : run pointer_as_text [] 2 ≡ Some (IsUndefined [] cause.Mixed 0 17)
unfolding run source_run
runs_pointer_as_text_is = refl

runs_written_null_is : run written_null [] 5 ≡ Some (IsUndefined [] cause.Null 0 31)
unfolding run source_run
runs_written_null_is = refl

runs_read_to_null_is : run read_to_null [] 2 ≡ Some (IsUndefined [] cause.Null 0 6)
unfolding run source_run
runs_read_to_null_is = refl

runs_dead_text_is : run dead_text [] 2 ≡ Some (IsUndefined [] cause.Dead 0 16)
unfolding run source_run
runs_dead_text_is = refl

pub runs_of_missing : RunsOfMissing
runs_of_missing = record {
  runs_unused = runs_unused_is;
  runs_as_operand = runs_as_operand_is;
  runs_as_left_operand = runs_as_left_operand_is;
  runs_as_test = runs_as_test_is;
  runs_as_argument = runs_as_argument_is;
  runs_as_result = runs_as_result_is;
  runs_as_part = runs_as_part_is;
  runs_as_address = runs_as_address_is;
  runs_as_case = runs_as_case_is;
  runs_null_substructure = runs_null_substructure_is;
  runs_copied_past_the_end = runs_copied_past_the_end_is;
  runs_misaligned_first = runs_misaligned_first_is;
  runs_before_its_object = runs_before_its_object_is;
  runs_compared_outside = runs_compared_outside_is;
  runs_unsigned_count = runs_unsigned_count_is;
  runs_negative_index = runs_negative_index_is;
  runs_called_dead = runs_called_dead_is;
  runs_updated_unset = runs_updated_unset_is;
  runs_within_parentheses = runs_within_parentheses_is;
  runs_written_pointer = runs_written_pointer_is;
  runs_pointer_as_text = runs_pointer_as_text_is;
  runs_written_null = runs_written_null_is;
  runs_read_to_null = runs_read_to_null_is;
  runs_dead_text = runs_dead_text_is;
}
