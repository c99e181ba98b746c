-- Declarators that are closed, and the rules on what they declare.
use Rattle.std.proofs.Common.{◌≡◌, ℕ, List, [], Option, Some, None, Result, Ok, Err, refl, sym, ap, ◌∙◌, subst}
use Rattle.std.specs.Option.{option_map}
use Rattle.p9_lang.specs.Types.{TypeTree, Tags}
use Rattle.p9_lang.specs.Rules.{Rule, Broken, at_node, and_then}
use Rattle.p9_lang.specs.Scopes.{Known, Declared}
use Rattle.p9_lang.specs.Declarators.{LengthBy, Step, closed}
use Rattle.p9_lang.specs.Declaring.{named_with}
use Rattle.p9_operand.specs.Least.{least, unless_at, earlier_of}
use Rattle.p9_operand.proofs.Leasts.{unless_at_node, first_of_least}
use Rattle.p9_operand.specs.Told.{told_rule}
use Rattle.p9_declare.specs.declared.fault.TypingFault.{TypingFault}
use Rattle.p9_declare.specs.declared.fault.TypingFault.TheVariants as fault
use Rattle.p9_declare.specs.Judging.{TellsBroken}
use Rattle.p9_declare.specs.Told.{told_fault}
use Rattle.p9_declare.specs.Closing.{with_types, closed_over, closed_with}
use Rattle.p9_declare.proofs.Judging.{same_fault}

-- rules that go by the tags and names that are known, which closing a declarator keeps
abbrev pub RulesBy : Type 0
RulesBy = Tags → List (List Declared) → Option TypeTree → List Rule

abbrev Made : Type 0
Made = TypeTree × List TypeTree

same_value : {A E : Type 0} (r : Result A E) (x y : A) → r ≡ Ok x → r ≡ Ok y → x ≡ y
same_value r x y e f = cc

same_error : {A E : Type 0} (r : Result A E) (x y : E) → r ≡ Err x → r ≡ Err y → x ≡ y
same_error r x y e f = cc

abbrev named : ℕ → (Option TypeTree → List Rule) → Result Made Broken → Known → Result (TypeTree × Known) Broken
named last rules r s = and_then (named_with last rules r) (λ made. with_types made s)

named_by : (last : ℕ) (rules : Option TypeTree → List Rule) (made : Made) (s : Known) (o : Option Rule) → least (rules (Some made.0)) ≡ o
    → named last rules (Ok made) s ≡ and_then (unless_at last o made) (λ m. with_types m s)
named_by last rules made s o e = ap (λ r. and_then r (λ m. with_types m s)) (unless_at_node last (rules (Some made.0)) made ∙ ap (λ o. unless_at last o made) e)

-- no rule is broken
ok_by : (rules : RulesBy) (last : ℕ) (r : Result Made Broken) (s after : Known) (t : TypeTree) → and_then r (λ made. with_types made s) ≡ Ok (t, after)
    → least (rules after.tags after.names (Some t)) ≡ None → named last (rules s.tags s.names) r s ≡ Ok (t, after)
ok_by rules last (Ok made) s after t e f =
    let P : TypeTree × Known → Type 0 = λ q. least (rules q.1.tags q.1.names (Some q.0)) ≡ None → named last (rules s.tags s.names) (Ok made) s ≡ Ok q in
    subst P (same_value {A = TypeTree × Known} {E = Broken} (with_types made s) (made.0, record s { types = made.1 }) (t, after) refl e) (λ g. named_by last (rules s.tags s.names) made s None g) f
ok_by rules last (Err broken) s after t e f = cc

pub named_ok : (rules : RulesBy) (last : ℕ) (by : LengthBy) (base : TypeTree) (steps : List Step) (s after : Known) (t : TypeTree)
    → closed_over by base steps s ≡ Ok (t, after) → least (rules after.tags after.names (Some t)) ≡ None
    → closed_with last (rules s.tags s.names) by base steps s ≡ Ok (t, after)
named_ok rules last by base steps s after t e f = ok_by rules last (closed s.tags by base steps s.types) s after t e f

-- the name breaks a rule, by its type
after_by : (rules : RulesBy) (last : ℕ) (r : Result Made Broken) (s after : Known) (t : TypeTree) (rule : Rule)
    → and_then r (λ made. with_types made s) ≡ Ok (t, after)
    → least (rules after.tags after.names (Some t)) ≡ Some rule → named last (rules s.tags s.names) r s ≡ Err (at_node last rule)
after_by rules last (Ok made) s after t rule e f =
    let P : TypeTree × Known → Type 0 = λ q. least (rules q.1.tags q.1.names (Some q.0)) ≡ Some rule → named last (rules s.tags s.names) (Ok made) s ≡ Err (at_node last rule) in
    subst P (same_value {A = TypeTree × Known} {E = Broken} (with_types made s) (made.0, record s { types = made.1 }) (t, after) refl e) (λ g. named_by last (rules s.tags s.names) made s (Some rule) g) f
after_by rules last (Err broken) s after t rule e f = cc

pub named_after : (rules : RulesBy) (last node : ℕ) (by : LengthBy) (base : TypeTree) (steps : List Step) (s after : Known) (t : TypeTree) (rule : Rule)
    → node ≡ last → closed_over by base steps s ≡ Ok (t, after) → least (rules after.tags after.names (Some t)) ≡ Some rule
    → closed_with last (rules s.tags s.names) by base steps s ≡ Err (at_node node rule)
named_after rules last node by base steps s after t rule n e f =
    after_by rules last (closed s.tags by base steps s.types) s after t rule e f ∙ ap (λ k. Err (at_node k rule)) (sym n)

-- a step breaks a rule, and maybe the name another
broken_by : (rules : Option TypeTree → List Rule) (last : ℕ) (r : Result Made Broken) (s : Known) (b : Broken) (o : Option Rule)
    → and_then r (λ made. with_types made s) ≡ Err b → o ≡ least (rules None) → named last rules r s ≡ Err (earlier_of b last o)
broken_by rules last (Ok made) s b o e g = cc
broken_by rules last (Err c) s b o e g =
    ap Err (first_of_least c last (rules None) ∙ ap (earlier_of c last) (sym g) ∙ ap (λ d. earlier_of d last o) (same_error {A = TypeTree × Known} {E = Broken} (Err c) c b refl e))

told_earlier : {A : Type 0} (f g : TypingFault) (last : ℕ) (o : Option Rule) (answer other : Result A Broken)
    → ((b : Broken) → answer ≡ Err b → other ≡ Err (earlier_of b last o))
    → TellsBroken f answer → told_fault g ≡ option_map (λ b. earlier_of b last o) (told_fault f) → TellsBroken g other
told_earlier fault.Memory fault.Memory last o answer other same e g = tt
told_earlier fault.Memory (fault.Broken m q) last o answer other same e g = cc
told_earlier (fault.Broken n r) fault.Memory last o answer other same e g = tt
told_earlier (fault.Broken n r) (fault.Broken m q) last o answer other same e g =
    same (at_node n (told_rule r)) e ∙ sym (ap Err (same_some _ _ g))
  where
    same_some : (x y : Broken) → Some x ≡ Some y → x ≡ y
    same_some x y h = cc

pub named_before : (rules : Option TypeTree → List Rule) (last node : ℕ) (by : LengthBy) (base : TypeTree) (steps : List Step) (s : Known) (f g : TypingFault) (o : Option Rule)
    → node ≡ last → TellsBroken f (closed_over by base steps s) → o ≡ least (rules None)
    → told_fault g ≡ option_map (λ b. earlier_of b node o) (told_fault f)
    → TellsBroken g (closed_with last rules by base steps s)
named_before rules last node by base steps s f g o n e h k =
    told_earlier f g last o (closed_over by base steps s) (closed_with last rules by base steps s)
    (λ b i. broken_by rules last (closed s.tags by base steps s.types) s b o i h) e
    (k ∙ ap (λ m. option_map (λ b. earlier_of b m o) (told_fault f)) n)

-- where no rule goes without the type, a step's is told
pub named_unknown : (rules : Option TypeTree → List Rule) (last : ℕ) (by : LengthBy) (base : TypeTree) (steps : List Step) (s : Known) (f : TypingFault)
    → TellsBroken f (closed_over by base steps s) → least (rules None) ≡ None
    → TellsBroken f (closed_with last rules by base steps s)
named_unknown rules last by base steps s f e g =
    same_fault f (closed_over by base steps s) (closed_with last rules by base steps s)
    (λ b h. broken_by rules last (closed s.tags by base steps s.types) s b None h (sym g)) e
