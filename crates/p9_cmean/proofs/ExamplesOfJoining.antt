-- The test is computed.
use Rattle.std.proofs.Common.{◌≡◌, true, false, Some, refl}
use Rattle.p9_cmean.specs.ExamplesOfCalls.{arguments}
use Rattle.p9_cmean.specs.ExamplesOfFiles.{commons, texts, declared_only, own_names, shared_nodes, renamed_nodes}
use Rattle.p9_cmean.specs.ExamplesOfJoining.{joining, defined_twice, bodies_twice, declared_elsewhere, not_defined, other_type, no_main, main_as_data, main_with_result, own_exits, JoiningFiles}

joins_commons_is : joining commons ≡ Some true
unfolding joining
joins_commons_is = refl

joins_texts_is : joining texts ≡ Some true
unfolding joining
joins_texts_is = refl

joins_declared_only_is : joining declared_only ≡ Some true
unfolding joining
joins_declared_only_is = refl

joins_own_names_is : joining own_names ≡ Some true
unfolding joining
joins_own_names_is = refl

joins_shared_nodes_is : joining shared_nodes ≡ Some true
unfolding joining
joins_shared_nodes_is = refl

joins_renamed_nodes_is : joining renamed_nodes ≡ Some false
unfolding joining
joins_renamed_nodes_is = refl

joins_arguments_is : joining arguments ≡ Some true
unfolding joining
joins_arguments_is = refl

joins_defined_twice_is : joining defined_twice ≡ Some false
unfolding joining
joins_defined_twice_is = refl

joins_bodies_twice_is : joining bodies_twice ≡ Some false
unfolding joining
joins_bodies_twice_is = refl

joins_declared_elsewhere_is : joining declared_elsewhere ≡ Some true
unfolding joining
joins_declared_elsewhere_is = refl

joins_not_defined_is : joining not_defined ≡ Some false
unfolding joining
joins_not_defined_is = refl

joins_other_type_is : joining other_type ≡ Some false
unfolding joining
joins_other_type_is = refl

joins_no_main_is : joining no_main ≡ Some false
unfolding joining
joins_no_main_is = refl

joins_main_as_data_is : joining main_as_data ≡ Some false
unfolding joining
joins_main_as_data_is = refl

joins_main_with_result_is : joining main_with_result ≡ Some false
unfolding joining
joins_main_with_result_is = refl

joins_own_exits_is : joining own_exits ≡ Some false
unfolding joining
joins_own_exits_is = refl

pub joining_files : JoiningFiles
joining_files = record {
  joins_commons = joins_commons_is;
  joins_texts = joins_texts_is;
  joins_declared_only = joins_declared_only_is;
  joins_own_names = joins_own_names_is;
  joins_shared_nodes = joins_shared_nodes_is;
  joins_renamed_nodes = joins_renamed_nodes_is;
  joins_arguments = joins_arguments_is;
  joins_defined_twice = joins_defined_twice_is;
  joins_bodies_twice = joins_bodies_twice_is;
  joins_declared_elsewhere = joins_declared_elsewhere_is;
  joins_not_defined = joins_not_defined_is;
  joins_other_type = joins_other_type_is;
  joins_no_main = joins_no_main_is;
  joins_main_as_data = joins_main_as_data_is;
  joins_main_with_result = joins_main_with_result_is;
  joins_own_exits = joins_own_exits_is;
}
