-- What declarators that are whole declare, without the node that they are parts of.
use Rattle.std.specs.Prelude.{ℕ, Bool, false, List, ◌++◌, Option, Some, None, Result, Ok, Err}
use Rattle.p9_lang.specs.Types.{TypeTree, Meant, Nothing, Auto}
use Rattle.p9_lang.specs.Rules.{Rule, Malformed, Redeclared, at_node, breaks_if, and_then}
use Rattle.p9_lang.specs.Scopes.{Known, innermost, in_level, declare, with_type, with_meaning}
use Rattle.p9_lang.specs.Types.{Tags}
use Rattle.p9_lang.specs.Declarators.{LengthBy, ByNothing, ByCaller, Step, NameNode, closed, adjusted, sized_rules}
use Rattle.p9_lang.specs.Parts.{Judged, Object, Plain}
use Rattle.p9_lang.specs.Declaring.{last_node, named_with, parameter_rules}

-- a type's name, or an unnamed parameter
abbrev pub type_closed : (TypeTree → TypeTree) → LengthBy → TypeTree → List Step → Known → Judged
type_closed change by base steps s =
    and_then (closed s.tags by base steps s.types)
    (λ made. Ok (Object (change made.0) steps (last_node s) Plain, record s { types = made.1 }))

-- a member, whose name may be taken
abbrev pub named_member_rules : Tags → (is_taken : Bool) → List ℕ → Option TypeTree → List Rule
named_member_rules tags is_taken x None = breaks_if is_taken (Redeclared x)
named_member_rules tags is_taken x (Some type) = breaks_if is_taken (Redeclared x) ++ sized_rules tags type

abbrev pub member_declared : TypeTree → (is_taken : Bool) → List Step → Option NameNode → Known → Judged
member_declared base is_taken steps None s = Err (at_node (last_node s) Malformed)
member_declared base is_taken steps (Some n) s =
    and_then
    (named_with (last_node s) (named_member_rules s.tags is_taken n.name) (closed s.tags ByNothing base steps s.types))
    (λ made. Ok (Object made.0 steps (last_node s) Plain, record s { types = made.1 }))

-- a parameter, which is an automatic of this number if it has one
abbrev pub automatic : (number : Option ℕ) → Meant
automatic None = Nothing
automatic (Some number) = Auto number

abbrev pub with_parameter : Meant → NameNode → TypeTree → Known → Known
with_parameter means n type s =
    declare
    (record { name = n.name; type = adjusted type; means = means; is_static = false; is_filled = false })
    (with_meaning n.number means (with_type n.number (adjusted type) s))

abbrev pub parameter_declared : TypeTree → Meant → List Step → Option NameNode → Known → Judged
parameter_declared base means steps None s = type_closed adjusted ByCaller base steps s
parameter_declared base means steps (Some n) s =
    and_then
    (named_with (last_node s) (λ type. parameter_rules n.name (in_level n.name (innermost s.names)))
    (closed s.tags ByCaller base steps s.types))
    (λ made. Ok (Object (adjusted made.0) steps (last_node s) Plain, with_parameter means n made.0 (record s { types = made.1 })))
