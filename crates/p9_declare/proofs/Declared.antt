-- What declarators declare, once they are closed.
use Rattle.std.proofs.Common.{◌≡◌, ℕ, Bool, List, [], ◌∷◌, map, Option, Some, None, Result, Ok, Err, refl, sym, ap, ◌∙◌, subst}
use Rattle.p9_lang.specs.Types.{TypeTree, Meant}
use Rattle.p9_lang.specs.Rules.{Broken, Malformed, at_node, and_then}
use Rattle.p9_lang.specs.Scopes.{Known, Declared, innermost, around, in_level}
use Rattle.p9_lang.specs.Declarators.{LengthBy, ByNothing, ByCaller, Step, NameNode, Declaring, closed, naming_rules, adjusted, with_length}
use Rattle.p9_lang.specs.Parts.{Part, Object, Plain}
use Rattle.p9_lang.specs.Declaring.{last_node, named_with, declare_as, declare_object, initialiser_role, parameter_rules, length_rules, declared_before, retyped, with_given_length}
use Rattle.p9_declare.specs.declared.fault.TypingFault.{TypingFault}
use Rattle.p9_declare.specs.Judging.{TellsBroken}
use Rattle.p9_declare.specs.Closing.{with_types, closed_over, closed_with}
use Rattle.p9_declare.specs.Operations.{named_member_rules, member_declared, with_parameter, parameter_declared, type_closed}
use Rattle.p9_declare.proofs.Judging.{same_fault, told_same}

abbrev Made : Type 0
Made = TypeTree × List TypeTree

same_value : {A E : Type 0} (r : Result A E) (x y : A) → r ≡ Ok x → r ≡ Ok y → x ≡ y
same_value r x y e f = cc

-- what goes on from the type of a declarator
going_on : {A : Type 0} (r : Result Made Broken) (s after : Known) (t : TypeTree) (next : TypeTree → Known → A)
    → and_then r (λ made. with_types made s) ≡ Ok (t, after) → and_then r (λ made. Ok (next made.0 (record s { types = made.1 }))) ≡ Ok (next t after)
going_on (Ok made) s after t next e = ap (λ q. Ok (next q.0 q.1)) (same_value {A = TypeTree × Known} {E = Broken} (with_types made s) (made.0, record s { types = made.1 }) (t, after) refl e)
going_on (Err broken) s after t next e = cc

stopping : {A : Type 0} (r : Result Made Broken) (s : Known) (next : Made → Result A Broken) (b : Broken)
    → and_then r (λ made. with_types made s) ≡ Err b → and_then r next ≡ Err b
stopping (Ok made) s next b e = cc
stopping (Err c) s next b e = cc

stopped : {A : Type 0} (f : TypingFault) (r : Result Made Broken) (s : Known) (next : Made → Result A Broken)
    → TellsBroken f (and_then r (λ made. with_types made s)) → TellsBroken f (and_then r next)
stopped f r s next e = same_fault f (and_then r (λ made. with_types made s)) (and_then r next) (stopping r s next) e

-- TYPES

pub closed_type : (change : TypeTree → TypeTree) (by : LengthBy) (base : TypeTree) (steps : List Step) (s after : Known) (t : TypeTree)
    → closed_over by base steps s ≡ Ok (t, after)
    → type_closed change by base steps s ≡ Ok (Object (change t) steps (last_node s) Plain, after)
closed_type change by base steps s after t e =
    going_on (closed s.tags by base steps s.types) s after t (λ u k. (Object (change u) steps (last_node s) Plain, k)) e

pub broken_type : (change : TypeTree → TypeTree) (by : LengthBy) (base : TypeTree) (steps : List Step) (s : Known) (f : TypingFault)
    → TellsBroken f (closed_over by base steps s) → TellsBroken f (type_closed change by base steps s)
broken_type change by base steps s f e =
    stopped f (closed s.tags by base steps s.types) s (λ made. Ok (Object (change made.0) steps (last_node s) Plain, record s { types = made.1 })) e

-- OBJECTS

pub object_nameless : (d : Declaring) (by : LengthBy) (base : TypeTree) (steps : List Step) (name : Option NameNode) (s : Known) → name ≡ None
    → declare_object d by base steps name s ≡ Err (at_node (last_node s) Malformed)
object_nameless d by base steps name s e = ap (λ n. declare_object d by base steps n s) e

pub object_declared : (d : Declaring) (by : LengthBy) (base : TypeTree) (steps : List Step) (name : Option NameNode) (n : NameNode) (s after final : Known) (t : TypeTree)
    → name ≡ Some n
    → closed_with (last_node s) (naming_rules s.tags d n.name (in_level n.name (innermost s.names))) by base steps s ≡ Ok (t, after)
    → final ≡ declare_as d n t after
    → declare_object d by base steps name s ≡ Ok (Object t steps (last_node s) (initialiser_role d t), final)
object_declared d by base steps name n s after final t e f g =
    ap (λ n. declare_object d by base steps n s) e
    ∙ going_on
    (named_with (last_node s) (naming_rules s.tags d n.name (in_level n.name (innermost s.names))) (closed s.tags by base steps s.types))
    s after t (λ u k. (Object u steps (last_node s) (initialiser_role d u), declare_as d n u k)) f
    ∙ ap (λ k. Ok (Object t steps (last_node s) (initialiser_role d t), k)) (sym g)

pub object_broken : (d : Declaring) (by : LengthBy) (base : TypeTree) (steps : List Step) (name : Option NameNode) (n : NameNode) (s : Known) (f : TypingFault)
    → name ≡ Some n
    → TellsBroken f (closed_with (last_node s) (naming_rules s.tags d n.name (in_level n.name (innermost s.names))) by base steps s)
    → TellsBroken f (declare_object d by base steps name s)
object_broken d by base steps name n s f e g =
    told_same f (sym (ap (λ n. declare_object d by base steps n s) e))
    (stopped f
    (named_with (last_node s) (naming_rules s.tags d n.name (in_level n.name (innermost s.names))) (closed s.tags by base steps s.types))
    s (λ made. Ok (Object made.0 steps (last_node s) (initialiser_role d made.0), declare_as d n made.0 (record s { types = made.1 }))) g)

-- MEMBERS

pub member_nameless : (base : TypeTree) (is_taken : Bool) (steps : List Step) (name : Option NameNode) (s : Known) → name ≡ None
    → member_declared base is_taken steps name s ≡ Err (at_node (last_node s) Malformed)
member_nameless base is_taken steps name s e = ap (λ n. member_declared base is_taken steps n s) e

pub member_named : (base : TypeTree) (is_taken : Bool) (steps : List Step) (name : Option NameNode) (n : NameNode) (s after : Known) (t : TypeTree)
    → name ≡ Some n
    → closed_with (last_node s) (named_member_rules s.tags is_taken n.name) ByNothing base steps s ≡ Ok (t, after)
    → member_declared base is_taken steps name s ≡ Ok (Object t steps (last_node s) Plain, after)
member_named base is_taken steps name n s after t e f =
    ap (λ n. member_declared base is_taken steps n s) e
    ∙ going_on
    (named_with (last_node s) (named_member_rules s.tags is_taken n.name) (closed s.tags ByNothing base steps s.types))
    s after t (λ u k. (Object u steps (last_node s) Plain, k)) f

pub member_broken : (base : TypeTree) (is_taken : Bool) (steps : List Step) (name : Option NameNode) (n : NameNode) (s : Known) (f : TypingFault)
    → name ≡ Some n
    → TellsBroken f (closed_with (last_node s) (named_member_rules s.tags is_taken n.name) ByNothing base steps s)
    → TellsBroken f (member_declared base is_taken steps name s)
member_broken base is_taken steps name n s f e g =
    told_same f (sym (ap (λ n. member_declared base is_taken steps n s) e))
    (stopped f
    (named_with (last_node s) (named_member_rules s.tags is_taken n.name) (closed s.tags ByNothing base steps s.types))
    s (λ made. Ok (Object made.0 steps (last_node s) Plain, record s { types = made.1 })) g)

-- PARAMETERS

pub parameter_unnamed : (base : TypeTree) (means : Meant) (steps : List Step) (name : Option NameNode) (s after : Known) (t u : TypeTree)
    → name ≡ None → closed_over ByCaller base steps s ≡ Ok (t, after) → u ≡ adjusted t
    → parameter_declared base means steps name s ≡ Ok (Object u steps (last_node s) Plain, after)
parameter_unnamed base means steps name s after t u e f g =
    ap (λ n. parameter_declared base means steps n s) e ∙ closed_type adjusted ByCaller base steps s after t f
    ∙ ap (λ v. Ok (Object v steps (last_node s) Plain, after)) (sym g)

pub parameter_unnamed_broken : (base : TypeTree) (means : Meant) (steps : List Step) (name : Option NameNode) (s : Known) (f : TypingFault)
    → name ≡ None → TellsBroken f (closed_over ByCaller base steps s) → TellsBroken f (parameter_declared base means steps name s)
parameter_unnamed_broken base means steps name s f e g =
    told_same f (sym (ap (λ n. parameter_declared base means steps n s) e)) (broken_type adjusted ByCaller base steps s f g)

pub parameter_named : (base : TypeTree) (means : Meant) (steps : List Step) (name : Option NameNode) (n : NameNode) (s after final : Known) (t u : TypeTree)
    → name ≡ Some n
    → closed_with (last_node s) (λ type. parameter_rules n.name (in_level n.name (innermost s.names))) ByCaller base steps s ≡ Ok (t, after)
    → u ≡ adjusted t → final ≡ with_parameter means n t after
    → parameter_declared base means steps name s ≡ Ok (Object u steps (last_node s) Plain, final)
parameter_named base means steps name n s after final t u e f g h =
    ap (λ n. parameter_declared base means steps n s) e
    ∙ going_on
    (named_with (last_node s) (λ type. parameter_rules n.name (in_level n.name (innermost s.names))) (closed s.tags ByCaller base steps s.types))
    s after t (λ v k. (Object (adjusted v) steps (last_node s) Plain, with_parameter means n v k)) f
    ∙ ap (λ v. Ok (Object v steps (last_node s) Plain, with_parameter means n t after)) (sym g)
    ∙ ap (λ k. Ok (Object u steps (last_node s) Plain, k)) (sym h)

pub parameter_broken : (base : TypeTree) (means : Meant) (steps : List Step) (name : Option NameNode) (n : NameNode) (s : Known) (f : TypingFault)
    → name ≡ Some n
    → TellsBroken f (closed_with (last_node s) (λ type. parameter_rules n.name (in_level n.name (innermost s.names))) ByCaller base steps s)
    → TellsBroken f (parameter_declared base means steps name s)
parameter_broken base means steps name n s f e g =
    told_same f (sym (ap (λ n. parameter_declared base means steps n s) e))
    (stopped f
    (named_with (last_node s) (λ type. parameter_rules n.name (in_level n.name (innermost s.names))) (closed s.tags ByCaller base steps s.types))
    s (λ made. Ok (Object (adjusted made.0) steps (last_node s) Plain, with_parameter means n made.0 (record s { types = made.1 }))) g)

-- LENGTHS

pub length_unknown : (x : List ℕ) (old : Option Declared) → length_rules x old None ≡ []
length_unknown x None = refl
length_unknown x (Some old) = refl

pub length_given : (base : TypeTree) (steps : List Step) (last count : ℕ) (x : List ℕ) (s after final : Known) (t : TypeTree)
    → closed_with last (length_rules x (declared_before x (innermost s.names))) ByNothing base (map (with_length count) steps) s ≡ Ok (t, after)
    → final ≡ record after { names = retyped x t (innermost after.names) ∷ around after.names }
    → with_given_length base steps last count x s ≡ Ok final
length_given base steps last count x s after final t e f =
    going_on
    (named_with last (length_rules x (declared_before x (innermost s.names))) (closed s.tags ByNothing base (map (with_length count) steps) s.types))
    s after t (λ u k. record k { names = retyped x u (innermost k.names) ∷ around k.names }) e
    ∙ ap Ok (sym f)

pub length_broken : (base : TypeTree) (steps : List Step) (last count : ℕ) (x : List ℕ) (s : Known) (f : TypingFault)
    → TellsBroken f (closed_with last (length_rules x (declared_before x (innermost s.names))) ByNothing base (map (with_length count) steps) s)
    → TellsBroken f (with_given_length base steps last count x s)
length_broken base steps last count x s f e =
    stopped f
    (named_with last (length_rules x (declared_before x (innermost s.names))) (closed s.tags ByNothing base (map (with_length count) steps) s.types))
    s (λ made. Ok (record s { types = made.1; names = retyped x made.0 (innermost s.names) ∷ around s.names })) e
