-- The examples are computed.
use Rattle.std.proofs.Common.{refl}
use Rattle.p9_sig.specs.Examples.{Texts}

pub texts : Texts
texts = record {
  of_node = refl;
  of_node_declared_last = refl;
  with_other_name = refl;
  of_main = refl;
  of_array = refl;
  of_marked_structure = refl;
  of_marked_union = refl;
  without_body = refl;
  without_tag = refl;
  of_union = refl;
}
