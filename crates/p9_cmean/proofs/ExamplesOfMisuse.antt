-- The runs are computed.
use Rattle.std.proofs.Common.{◌≡◌, [], Some, refl}
use Rattle.p9_cmean.specs.declared.Cause.TheVariants as cause
use Rattle.p9_cmean.specs.CRun.{source_run}
use Rattle.p9_cmean.specs.ExampleRuns.{IsUndefined, run}
use Rattle.p9_cmean.specs.ExamplesOfMisuse.{unset_member, unset_element, unset_written, unset_text, unset_again, mixed_number, range_moved, range_of_text, range_write, range_room, range_member, range_text, dead_moved, null_read, null_element, null_structure, divided_by_zero, least_remainder, call_with_char, call_for_nothing, no_value_at_the_end, no_value_past_an_if, RunsOfMisuse}

unset_member_is : run unset_member [] 12 ≡ Some (IsUndefined [] cause.Unset 0 80)
unfolding run source_run
unset_member_is = refl

unset_element_is : run unset_element [] 12 ≡ Some (IsUndefined [] cause.Unset 0 82)
unfolding run source_run
unset_element_is = refl

unset_written_is : run unset_written [] 12 ≡ Some (IsUndefined [] cause.Unset 0 83)
unfolding run source_run
unset_written_is = refl

unset_text_is : run unset_text [] 12 ≡ Some (IsUndefined [] cause.Unset 0 81)
unfolding run source_run
unset_text_is = refl

unset_again_is : run unset_again [] 12 ≡ Some (IsUndefined [] cause.Unset 0 92)
unfolding run source_run
unset_again_is = refl

mixed_number_is : run mixed_number [] 12 ≡ Some (IsUndefined [] cause.Mixed 0 80)
unfolding run source_run
mixed_number_is = refl

range_moved_is : run range_moved [] 12 ≡ Some (IsUndefined [] cause.Range 0 72)
unfolding run source_run
range_moved_is = refl

range_of_text_is : run range_of_text [] 12 ≡ Some (IsUndefined [] cause.Range 0 72)
unfolding run source_run
range_of_text_is = refl

range_write_is : run range_write [] 12 ≡ Some (IsUndefined [] cause.Range 0 73)
unfolding run source_run
range_write_is = refl

range_room_is : run range_room [] 12 ≡ Some (IsUndefined [] cause.Range 0 73)
unfolding run source_run
range_room_is = refl

range_member_is : run range_member [] 12 ≡ Some (IsUndefined [] cause.Range 0 79)
unfolding run source_run
range_member_is = refl

range_text_is : run range_text [] 12 ≡ Some (IsUndefined [] cause.Range 0 86)
unfolding run source_run
range_text_is = refl

dead_moved_is : run dead_moved [] 12 ≡ Some (IsUndefined [] cause.Dead 0 80)
unfolding run source_run
dead_moved_is = refl

null_read_is : run null_read [] 12 ≡ Some (IsUndefined [] cause.Null 0 71)
unfolding run source_run
null_read_is = refl

null_element_is : run null_element [] 12 ≡ Some (IsUndefined [] cause.Null 0 71)
unfolding run source_run
null_element_is = refl

null_structure_is : run null_structure [] 12 ≡ Some (IsUndefined [] cause.Null 0 71)
unfolding run source_run
null_structure_is = refl

divided_by_zero_is : run divided_by_zero [] 12 ≡ Some (IsUndefined [] cause.Divide 0 72)
unfolding run source_run
divided_by_zero_is = refl

least_remainder_is : run least_remainder [] 12 ≡ Some (IsUndefined [] cause.Divide 0 92)
unfolding run source_run
least_remainder_is = refl

call_with_char_is : run call_with_char [] 12 ≡ Some (IsUndefined [] cause.WrongCall 0 87)
unfolding run source_run
call_with_char_is = refl

call_for_nothing_is : run call_for_nothing [] 12 ≡ Some (IsUndefined [] cause.WrongCall 0 84)
unfolding run source_run
call_for_nothing_is = refl

no_value_at_the_end_is : run no_value_at_the_end [] 12 ≡ Some (IsUndefined [] cause.NoValue 0 71)
unfolding run source_run
no_value_at_the_end_is = refl

no_value_past_an_if_is : run no_value_past_an_if [] 12 ≡ Some (IsUndefined [] cause.NoValue 0 72)
unfolding run source_run
no_value_past_an_if_is = refl

pub runs_of_misuse : RunsOfMisuse
runs_of_misuse = record {
  runs_unset_member = unset_member_is;
  runs_unset_element = unset_element_is;
  runs_unset_written = unset_written_is;
  runs_unset_text = unset_text_is;
  runs_unset_again = unset_again_is;
  runs_mixed_number = mixed_number_is;
  runs_range_moved = range_moved_is;
  runs_range_of_text = range_of_text_is;
  runs_range_write = range_write_is;
  runs_range_room = range_room_is;
  runs_range_member = range_member_is;
  runs_range_text = range_text_is;
  runs_dead_moved = dead_moved_is;
  runs_null_read = null_read_is;
  runs_null_element = null_element_is;
  runs_null_structure = null_structure_is;
  runs_divided_by_zero = divided_by_zero_is;
  runs_least_remainder = least_remainder_is;
  runs_call_with_char = call_with_char_is;
  runs_call_for_nothing = call_for_nothing_is;
  runs_no_value_at_the_end = no_value_at_the_end_is;
  runs_no_value_past_an_if = no_value_past_an_if_is;
}
