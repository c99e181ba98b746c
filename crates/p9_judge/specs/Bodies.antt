-- Kinds of nodes by what they say of functions that have bodies.
use Rattle.std.specs.Prelude.{ℕ, Bool, true, false, List, Option, Some, None}
use Rattle.p9_lang.specs.declared.tree.Kind.{Kind}
use Rattle.p9_lang.specs.declared.tree.Kind.TheVariants as kind

-- the name that a declarator's innermost node has
abbrev pub own_name : Kind → Option (List ℕ)
own_name (kind.DeclName x) = Some x
own_name k = None

abbrev pub is_function : Kind → Bool
is_function (kind.Function spec) = true
is_function k = false
