-- Names of declarators.
use Rattle.std.specs.Prelude.{Bool, true, false}
use Rattle.p9_lang.specs.declared.tree.Kind.{Kind}
use Rattle.p9_lang.specs.declared.tree.Kind.TheVariants as kind

abbrev pub is_name : Kind → Bool
is_name (kind.DeclName name) = true
is_name k = false
