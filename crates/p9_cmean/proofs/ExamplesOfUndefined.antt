-- The runs are computed.
use Rattle.std.proofs.Common.{◌≡◌, [], Some, refl}
use Rattle.std.specs.Prelude.{codes}
use Rattle.p9_cmean.specs.declared.Cause.TheVariants as cause
use Rattle.p9_cmean.specs.CRun.{source_run}
use Rattle.p9_cmean.specs.ExampleRuns.{IsUndefined, run}
use Rattle.p9_cmean.specs.ExamplesOfUndefined.{unset, mixed, mixed_pointer, mixed_cells, range, range_access, range_initialised, range_written, range_read, dead, dead_used, null, null_member, null_call, misaligned, divide, divide_least, shift, compare, compare_end, compare_elements, wrong_call, wrong_object, no_value, overlap, unset_before_end, range_before_unset, RunsOfUndefined}

unset_is : run unset [] 12 ≡ Some (IsUndefined (codes "a") cause.Unset 1 17)
unfolding run source_run
unset_is = refl

mixed_is : run mixed [] 12 ≡ Some (IsUndefined (codes "a") cause.Mixed 1 18)
unfolding run source_run
mixed_is = refl

mixed_pointer_is : run mixed_pointer [] 12 ≡ Some (IsUndefined (codes "a") cause.Mixed 1 18)
unfolding run source_run
mixed_pointer_is = refl

mixed_cells_is : run mixed_cells [] 12 ≡ Some (IsUndefined (codes "a") cause.Mixed 1 41)
unfolding run source_run
mixed_cells_is = refl

range_is : run range [] 12 ≡ Some (IsUndefined (codes "a") cause.Range 1 18)
unfolding run source_run
range_is = refl

range_access_is : run range_access [] 12 ≡ Some (IsUndefined (codes "a") cause.Range 1 18)
unfolding run source_run
range_access_is = refl

range_initialised_is : run range_initialised [] 12 ≡ Some (IsUndefined (codes "a") cause.Range 1 22)
unfolding run source_run
range_initialised_is = refl

range_written_is : run range_written [] 12 ≡ Some (IsUndefined (codes "a") cause.Range 1 6)
unfolding run source_run
range_written_is = refl

range_read_is : run range_read [] 12 ≡ Some (IsUndefined (codes "a") cause.Range 1 10)
unfolding run source_run
range_read_is = refl

dead_is : run dead [] 12 ≡ Some (IsUndefined (codes "a") cause.Dead 1 27)
unfolding run source_run
dead_is = refl

dead_used_is : run dead_used [] 12 ≡ Some (IsUndefined (codes "a") cause.Dead 1 16)
unfolding run source_run
dead_used_is = refl

null_is : run null [] 12 ≡ Some (IsUndefined (codes "a") cause.Null 1 8)
unfolding run source_run
null_is = refl

null_member_is : run null_member [] 12 ≡ Some (IsUndefined (codes "a") cause.Null 1 14)
unfolding run source_run
null_member_is = refl

null_call_is : run null_call [] 12 ≡ Some (IsUndefined (codes "a") cause.Null 1 8)
unfolding run source_run
null_call_is = refl

misaligned_is : run misaligned [] 12 ≡ Some (IsUndefined (codes "a") cause.Misaligned 1 15)
unfolding run source_run
misaligned_is = refl

divide_is : run divide [] 12 ≡ Some (IsUndefined (codes "a") cause.Divide 1 7)
unfolding run source_run
divide_is = refl

divide_least_is : run divide_least [] 12 ≡ Some (IsUndefined (codes "a") cause.Divide 1 20)
unfolding run source_run
divide_least_is = refl

shift_is : run shift [] 12 ≡ Some (IsUndefined (codes "a") cause.Shift 1 11)
unfolding run source_run
shift_is = refl

compare_is : run compare [] 12 ≡ Some (IsUndefined (codes "a") cause.Compare 1 14)
unfolding run source_run
compare_is = refl

compare_end_is : run compare_end [] 12 ≡ Some (IsUndefined (codes "a") cause.Compare 1 16)
unfolding run source_run
compare_end_is = refl

compare_elements_is : run compare_elements [] 12 ≡ Some (IsUndefined (codes "a") cause.Compare 1 20)
unfolding run source_run
compare_elements_is = refl

wrong_call_is : run wrong_call [] 12 ≡ Some (IsUndefined (codes "a") cause.WrongCall 1 28)
unfolding run source_run
wrong_call_is = refl

wrong_object_is : run wrong_object [] 12 ≡ Some (IsUndefined (codes "a") cause.WrongCall 1 30)
unfolding run source_run
wrong_object_is = refl

no_value_is : run no_value [] 12 ≡ Some (IsUndefined (codes "a") cause.NoValue 1 27)
unfolding run source_run
no_value_is = refl

overlap_is : run overlap [] 12 ≡ Some (IsUndefined (codes "a") cause.Overlap 1 44)
unfolding run source_run
overlap_is = refl

unset_before_end_is : run unset_before_end [] 12 ≡ Some (IsUndefined (codes "a") cause.Unset 1 14)
unfolding run source_run
unset_before_end_is = refl

range_before_unset_is : run range_before_unset [] 12 ≡ Some (IsUndefined (codes "a") cause.Range 1 10)
unfolding run source_run
range_before_unset_is = refl

pub runs_of_undefined : RunsOfUndefined
runs_of_undefined = record {
  runs_unset = unset_is;
  runs_mixed = mixed_is;
  runs_mixed_pointer = mixed_pointer_is;
  runs_mixed_cells = mixed_cells_is;
  runs_range = range_is;
  runs_range_access = range_access_is;
  runs_range_initialised = range_initialised_is;
  runs_range_written = range_written_is;
  runs_range_read = range_read_is;
  runs_dead = dead_is;
  runs_dead_used = dead_used_is;
  runs_null = null_is;
  runs_null_member = null_member_is;
  runs_null_call = null_call_is;
  runs_misaligned = misaligned_is;
  runs_divide = divide_is;
  runs_divide_least = divide_least_is;
  runs_shift = shift_is;
  runs_compare = compare_is;
  runs_compare_end = compare_end_is;
  runs_compare_elements = compare_elements_is;
  runs_wrong_call = wrong_call_is;
  runs_wrong_object = wrong_object_is;
  runs_no_value = no_value_is;
  runs_overlap = overlap_is;
  runs_unset_before_end = unset_before_end_is;
  runs_range_before_unset = range_before_unset_is;
}
