-- Behind a node that is typed, the nodes before it have their types and meanings still, but for those
-- that wait; and structures keep their bodies.
use Rattle.std.proofs.Common.{◌≡◌, ◌<◌, ℕ, suc, ◌+◌, Bool, true, false, if◌then◌else◌, List, [], ◌∷◌, ◌++◌, length, slice_get, Option, Some, None, Result, Ok, Err, refl, sym, ap, subst, ◌∙◌}
use Rattle.p9_lang.specs.declared.tree.Kind.{Kind}
use Rattle.p9_lang.specs.declared.tree.Kind.TheVariants as kind
use Rattle.p9_lang.specs.declared.tree.EntryBy.{EntryBy}
use Rattle.p9_lang.specs.Types.{TypeTree, Void, Int, Meant, Nothing, Static, TypeName}
use Rattle.p9_lang.specs.Rules.{Rule, Malformed, Undeclared, at_node, Broken}
use Rattle.p9_lang.specs.Scopes.{Known, Declared, with_node, next_node, close_level, close_block, in_levels}
use Rattle.p9_lang.specs.Declarators.{Step, Shape, Unsized, Sized, Points, Keeps, Names}
use Rattle.p9_lang.specs.Parts.{Role, EntryOf, Part, Value, Declarator, Object, Members, Enumerator, Parameter, NamedType, Braced, Filled, CaseLabel, Statement, DefaultLabel, Frame, Judged, object_type, last_object, or_object, inner_steps}
use Rattle.p9_lang.specs.Constants.{Operand, Constant, NotConstant}
use Rattle.p9_lang.specs.Expressions.{Verdict, verdict}
use Rattle.p9_lang.specs.Declaring.{broken_rules}
use Rattle.p9_lang.specs.Typing.{has, typeless, stepped, step_at, judged_brackets, judged_name, judged_text, judged_decl_name, judged_enumerator, judged_entry, judged_as, judged_expression, judged, judged_params, operand, is_filled_by_text, is_block_static, is_whole, text_type, operands_of}
use Rattle.p9_lang.proofs.Growing.{Grows, stays, then_grows}
use Rattle.p9_lang.proofs.Counting.{unless_of}
use Rattle.p9_sound.specs.Labels.{is_open, IsShut, AreKnown}
use Rattle.p9_sound.proofs.Numbering.{get_last, get_before, length_last, Extends, extends_self, extends_last, IsOpen, shut_later, shut_last, open_last, shut_within, AreOpen, steps_later, steps_append}

pub record Stays (kinds : List Kind) (s r : Known) : Type 0 where
  pub types : (n : ℕ) → IsShut kinds n → slice_get r.types n ≡ slice_get s.types n
  pub means : (n : ℕ) → IsShut kinds n → slice_get r.means n ≡ slice_get s.means n
  pub grows : Grows s.tags r.tags

pub still : (kinds : List Kind) (s : Known) → Stays kinds s s
still kinds s = record { types = λ n h. refl; means = λ n h. refl; grows = stays s.tags }

pub then_stays : (a b : List Kind) (s r q : Known) → Extends a b → Stays a s r → Stays b r q → Stays a s q
then_stays a b s r q x first second = record {
  types = λ n h. second.types n (shut_later a b x n h) ∙ first.types n h;
  means = λ n h. second.means n (shut_later a b x n h) ∙ first.means n h;
  grows = then_grows s.tags r.tags q.tags first.grows second.grows;
}

-- the same nodes, with as many structures or more
pub record Alike (s q : Known) : Type 0 where
  pub types : q.types ≡ s.types
  pub means : q.means ≡ s.means
  pub grows : Grows s.tags q.tags

pub alike_known : (kinds : List Kind) (s q : Known) → Alike s q → AreKnown kinds s → AreKnown kinds q
alike_known kinds s q a h = record { types = ap length a.types ∙ h.types; means = ap length a.means ∙ h.means }

pub alike_stays : (kinds : List Kind) (s q : Known) → Alike s q → Stays kinds s q
alike_stays kinds s q a = record {
  types = λ n h. ap (λ xs. slice_get xs n) a.types;
  means = λ n h. ap (λ xs. slice_get xs n) a.means;
  grows = a.grows;
}

-- WHAT A PART HOLDS: an expression or a named type has its type at its node, and what waits is open

abbrev pub Fits : List Kind → Known → (n : ℕ) → Part → Type 0
Fits kinds s n (Value o) = IsShut kinds n × (slice_get s.types n ≡ Some o.type)
Fits kinds s n (NamedType type) = IsShut kinds n × (slice_get s.types n ≡ Some type)
Fits kinds s n (Declarator steps) = AreOpen kinds steps
Fits kinds s n (Object type steps last role) = AreOpen kinds steps
Fits kinds s n (Enumerator x value) = IsOpen kinds n
Fits kinds s n (Members members) = Unit {0}
Fits kinds s n (Parameter type) = Unit {0}
Fits kinds s n (Braced count) = Unit {0}
Fits kinds s n (Filled next) = Unit {0}
Fits kinds s n (CaseLabel word) = Unit {0}
Fits kinds s n DefaultLabel = Unit {0}
Fits kinds s n Statement = Unit {0}

-- of a part that its node has seen no more is asked than that its steps are open
abbrev pub HasOpen : List Kind → Part → Type 0
HasOpen kinds (Declarator steps) = AreOpen kinds steps
HasOpen kinds (Object type steps last role) = AreOpen kinds steps
HasOpen kinds (Value o) = Unit {0}
HasOpen kinds (NamedType type) = Unit {0}
HasOpen kinds (Enumerator x value) = Unit {0}
HasOpen kinds (Members members) = Unit {0}
HasOpen kinds (Parameter type) = Unit {0}
HasOpen kinds (Braced count) = Unit {0}
HasOpen kinds (Filled next) = Unit {0}
HasOpen kinds (CaseLabel word) = Unit {0}
HasOpen kinds DefaultLabel = Unit {0}
HasOpen kinds Statement = Unit {0}

abbrev pub AllHaveOpen : List Kind → List Part → Type 0
AllHaveOpen kinds [] = Unit {0}
AllHaveOpen kinds (part ∷ parts) = HasOpen kinds part × AllHaveOpen kinds parts

has_open_later : (a b : List Kind) → Extends a b → (part : Part) → HasOpen a part → HasOpen b part
has_open_later a b x (Declarator steps) f = steps_later a b x steps f
has_open_later a b x (Object type steps last role) f = steps_later a b x steps f
has_open_later a b x (Value o) f = tt
has_open_later a b x (NamedType type) f = tt
has_open_later a b x (Enumerator name value) f = tt
has_open_later a b x (Members members) f = tt
has_open_later a b x (Parameter type) f = tt
has_open_later a b x (Braced count) f = tt
has_open_later a b x (Filled next) f = tt
has_open_later a b x (CaseLabel word) f = tt
has_open_later a b x DefaultLabel f = tt
has_open_later a b x Statement f = tt

pub all_open_later : (a b : List Kind) → Extends a b → (parts : List Part) → AllHaveOpen a parts → AllHaveOpen b parts
all_open_later a b x [] f = tt
all_open_later a b x (part ∷ parts) f = (has_open_later a b x part f.0, all_open_later a b x parts f.1)

pub one_open_more : (kinds : List Kind) (parts : List Part) (part : Part) → AllHaveOpen kinds parts → HasOpen kinds part → AllHaveOpen kinds (parts ++ part ∷ [])
one_open_more kinds [] part f g = (g, tt)
one_open_more kinds (p ∷ ps) part f g = (f.0, one_open_more kinds ps part f.1 g)

-- the steps within
inner_open : (kinds : List Kind) (parts : List Part) → AllHaveOpen kinds parts → AreOpen kinds (inner_steps parts)
inner_open kinds [] f = tt
inner_open kinds (Declarator steps ∷ parts) f = f.0
inner_open kinds (Value o ∷ parts) f = tt
inner_open kinds (Object type steps last role ∷ parts) f = tt
inner_open kinds (Members members ∷ parts) f = tt
inner_open kinds (Enumerator x value ∷ parts) f = tt
inner_open kinds (Parameter type ∷ parts) f = tt
inner_open kinds (NamedType type ∷ parts) f = tt
inner_open kinds (Braced count ∷ parts) f = tt
inner_open kinds (Filled next ∷ parts) f = tt
inner_open kinds (CaseLabel word ∷ parts) f = tt
inner_open kinds (DefaultLabel ∷ parts) f = tt
inner_open kinds (Statement ∷ parts) f = tt

-- the last object's steps
abbrev pub ObjectOpen : List Kind → Option Part → Type 0
ObjectOpen kinds (Some (Object type steps last role)) = AreOpen kinds steps
ObjectOpen kinds other = Unit {0}

or_object_open : (kinds : List Kind) (o : Option Part) (part : Part) → ObjectOpen kinds o → HasOpen kinds part → ObjectOpen kinds (or_object o part)
or_object_open kinds (Some later) part h f = h
or_object_open kinds None (Object type steps last role) h f = f
or_object_open kinds None (Declarator steps) h f = tt
or_object_open kinds None (Value o) h f = tt
or_object_open kinds None (Members members) h f = tt
or_object_open kinds None (Enumerator x value) h f = tt
or_object_open kinds None (Parameter type) h f = tt
or_object_open kinds None (NamedType type) h f = tt
or_object_open kinds None (Braced count) h f = tt
or_object_open kinds None (Filled next) h f = tt
or_object_open kinds None (CaseLabel word) h f = tt
or_object_open kinds None DefaultLabel h f = tt
or_object_open kinds None Statement h f = tt

pub last_object_open : (kinds : List Kind) (parts : List Part) → AllHaveOpen kinds parts → ObjectOpen kinds (last_object parts)
last_object_open kinds [] f = tt
last_object_open kinds (part ∷ parts) f = or_object_open kinds (last_object parts) part (last_object_open kinds parts f.1) f.0

-- ONE NODE MORE, of kind `k`

pub record Adds (kinds : List Kind) (k : Kind) (s : Known) (r : Part × Known) : Type 0 where
  pub known : AreKnown (kinds ++ k ∷ []) r.1
  pub stay : Stays kinds s r.1
  pub fits : Fits (kinds ++ k ∷ []) r.1 (length kinds) r.0

abbrev pub Adding : List Kind → Kind → Known → Judged → Type 0
Adding kinds k s m = (r : Part × Known) → m ≡ Ok r → Adds kinds k s r

with_node_known : (kinds : List Kind) (k : Kind) (type : TypeTree) (means : Meant) (s : Known) → AreKnown kinds s → AreKnown (kinds ++ k ∷ []) (with_node type means s)
with_node_known kinds k type means s h = record {
  types = length_last s.types type ∙ (ap suc h.types ∙ sym (length_last kinds k));
  means = length_last s.means means ∙ (ap suc h.means ∙ sym (length_last kinds k));
}

within_types : (kinds : List Kind) (s : Known) (n : ℕ) → AreKnown kinds s → IsShut kinds n → n < length s.types
within_types kinds s n h i = subst (λ m. n < m) (sym h.types) (shut_within kinds n i)

within_means : (kinds : List Kind) (s : Known) (n : ℕ) → AreKnown kinds s → IsShut kinds n → n < length s.means
within_means kinds s n h i = subst (λ m. n < m) (sym h.means) (shut_within kinds n i)

with_node_stays : (kinds : List Kind) (type : TypeTree) (means : Meant) (s : Known) → AreKnown kinds s → Stays kinds s (with_node type means s)
with_node_stays kinds type means s h = record {
  types = λ n i. get_before s.types (type ∷ []) n (within_types kinds s n h i);
  means = λ n i. get_before s.means (means ∷ []) n (within_means kinds s n h i);
  grows = stays s.tags;
}

has_adds : (kinds : List Kind) (k : Kind) (rules : List Rule) (type : TypeTree) (means : Meant) (part : Part) (s : Known) → AreKnown kinds s
    → Fits (kinds ++ k ∷ []) (with_node type means s) (length kinds) part → Adding kinds k s (has rules type means part s)
has_adds kinds k rules type means part s h f r e =
    let z = unless_of (broken_rules (next_node s) rules) (part, with_node type means s) r e in
    subst (λ x. Adds kinds k s x) z
    (record { known = with_node_known kinds k type means s h; stay = with_node_stays kinds type means s h; fits = f })

-- from what is known when nodes are the same
adds_from : (kinds : List Kind) (k : Kind) (s q : Known) (m : Judged) → Alike s q → Adding kinds k q m → Adding kinds k s m
adds_from kinds k s q m a h r e =
    let x = h r e in
    record { known = x.known; stay = then_stays kinds kinds s q r.1 (extends_self kinds) (alike_stays kinds s q a) x.stay; fits = x.fits }

err_adds : (kinds : List Kind) (k : Kind) (s : Known) (b : Broken) → Adding kinds k s (Err b)
err_adds kinds k s b r e = cc

if_adds : (kinds : List Kind) (k : Kind) (s : Known) (b : Bool) (x y : Judged) → Adding kinds k s x → Adding kinds k s y
    → Adding kinds k s (if b then x else y)
if_adds kinds k s true x y h g = h
if_adds kinds k s false x y h g = g

type_there : (kinds : List Kind) (type : TypeTree) (means : Meant) (s : Known) → AreKnown kinds s
    → slice_get (with_node type means s).types (length kinds) ≡ Some type
type_there kinds type means s h = subst (λ n. slice_get (s.types ++ type ∷ []) n ≡ Some type) h.types (get_last s.types type)

typed_adds : (kinds : List Kind) (k : Kind) → is_open k ≡ false → (rules : List Rule) (type : TypeTree) (means : Meant) (is_lvalue : Bool) (constant : Constant) (s : Known)
    → AreKnown kinds s → Adding kinds k s (has rules type means (Value (operand type is_lvalue constant)) s)
typed_adds kinds k c rules type means is_lvalue constant s h =
    has_adds kinds k rules type means (Value (operand type is_lvalue constant)) s h (shut_last kinds k c, type_there kinds type means s h)

step_open : (kinds : List Kind) (k : Kind) → is_open k ≡ true → (shape : Shape) (s : Known) → AreKnown kinds s → AreOpen (kinds ++ k ∷ []) (step_at s shape ∷ [])
step_open kinds k c shape s h = (subst (λ n. IsOpen (kinds ++ k ∷ []) n) (sym h.types) (open_last kinds k c), tt)

stepped_adds : (kinds : List Kind) (k : Kind) → is_open k ≡ true → (steps : List Step) (shape : Shape) (s : Known) → AreKnown kinds s → AreOpen kinds steps
    → Adding kinds k s (stepped steps shape s)
stepped_adds kinds k c steps shape s h f =
    has_adds kinds k [] Void Nothing (Declarator (steps ++ step_at s shape ∷ [])) s h
    (steps_append (kinds ++ k ∷ []) steps (step_at s shape ∷ []) (steps_later kinds (kinds ++ k ∷ []) (extends_last kinds k) steps f)
    (step_open kinds k c shape s h))

brackets_add : (kinds : List Kind) (k : Kind) → is_open k ≡ true → (parts : List Part) (s : Known) → AreKnown kinds s → AllHaveOpen kinds parts
    → Adding kinds k s (judged_brackets parts s)
brackets_add kinds k c [] s h f = stepped_adds kinds k c [] Unsized s h tt
brackets_add kinds k c (Value o ∷ []) s h f = stepped_adds kinds k c [] (Sized o.constant) s h tt
brackets_add kinds k c (Declarator steps ∷ []) s h f = stepped_adds kinds k c steps Unsized s h f.0
brackets_add kinds k c (Declarator steps ∷ (Value o ∷ [])) s h f = stepped_adds kinds k c steps (Sized o.constant) s h f.0
brackets_add kinds k c _ s h f = err_adds kinds k s (at_node (next_node s) Malformed)

name_adds : (kinds : List Kind) (k : Kind) → is_open k ≡ false → (x : List ℕ) (d : Option Declared) (s : Known) → AreKnown kinds s → Adding kinds k s (judged_name x d s)
name_adds kinds k c x None s h = err_adds kinds k s (at_node (next_node s) (Undeclared x))
name_adds kinds k c x (Some d) s h = typed_adds kinds k c _ d.type d.means _ _ s h

counted : (s : Known) → Alike s (record s { statics = s.statics + 1 })
counted s = record { types = refl; means = refl; grows = stays s.tags }

text_adds : (kinds : List Kind) (k : Kind) → is_open k ≡ false → (type : TypeTree) (role : Role) (s : Known) → AreKnown kinds s → Adding kinds k s (judged_text type role s)
text_adds kinds k c type role s h =
    let q = record s { statics = s.statics + 1 } in
    if_adds kinds k s (is_filled_by_text role) _ _ (typed_adds kinds k c [] type Nothing true NotConstant s h)
    (adds_from kinds k s q _ (counted s) (typed_adds kinds k c _ type (Static s.statics) true NotConstant q (alike_known kinds s q (counted s) h)))

decl_name_adds : (kinds : List Kind) (x : List ℕ) (role : Role) (s : Known) → AreKnown kinds s → Adding kinds (kind.DeclName x) s (judged_decl_name x role s)
decl_name_adds kinds x role s h =
    let q = record s { statics = s.statics + 1 } in
    let first = step_open kinds (kind.DeclName x) refl (Names x) s h in
    if_adds kinds (kind.DeclName x) s (is_block_static role) _ _
    (adds_from kinds (kind.DeclName x) s q _ (counted s)
    (has_adds kinds (kind.DeclName x) [] Void (Static s.statics) (Declarator (step_at s (Names x) ∷ [])) q (alike_known kinds s q (counted s) h) first))
    (has_adds kinds (kind.DeclName x) [] Void Nothing (Declarator (step_at s (Names x) ∷ [])) s h first)

enumerator_adds : (kinds : List Kind) (k : Kind) → is_open k ≡ true → (x : List ℕ) (parts : List Part) (s : Known) → AreKnown kinds s → Adding kinds k s (judged_enumerator x parts s)
enumerator_adds kinds k c x [] s h = has_adds kinds k [] Int Nothing (Enumerator x None) s h (open_last kinds k c)
enumerator_adds kinds k c x (Value o ∷ []) s h = has_adds kinds k [] Int Nothing (Enumerator x (Some o.constant)) s h (open_last kinds k c)
enumerator_adds kinds k c x _ s h = err_adds kinds k s (at_node (next_node s) Malformed)

entry_adds : (kinds : List Kind) (k : Kind) (by : EntryBy) (role : Role) (parts : List Part) (s : Known) → AreKnown kinds s → Adding kinds k s (judged_entry by role parts s)
entry_adds kinds k by (EntryOf list next) parts s h = has_adds kinds k _ _ Nothing _ s h tt
entry_adds kinds k by _ parts s h = err_adds kinds k s (at_node (next_node s) Malformed)

as_adds : (kinds : List Kind) (k j : Kind) → is_open k ≡ false → (operands : List Operand) (m : Result Verdict Rule) (s : Known) → AreKnown kinds s
    → Adding kinds k s (judged_as j operands m s)
as_adds kinds k j c operands (Ok v) s h = typed_adds kinds k c [] v.type Nothing v.is_lvalue _ s h
as_adds kinds k j c operands (Err rule) s h = err_adds kinds k s (at_node (next_node s) rule)

expression_adds : (kinds : List Kind) (k : Kind) → is_open k ≡ false → (role : Role) (operands : Option (List Operand)) (s : Known) → AreKnown kinds s
    → Adding kinds k s (judged_expression k role operands s)
expression_adds kinds k c role None s h = err_adds kinds k s (at_node (next_node s) Malformed)
expression_adds kinds k c role (Some operands) s h = as_adds kinds k k c operands (verdict s.tags (is_whole role) k operands) s h

closed_level : (s : Known) → Alike s (close_level s)
closed_level s = record { types = refl; means = refl; grows = stays s.tags }

closed_block : (s : Known) → Alike s (close_block s)
closed_block s = record { types = refl; means = refl; grows = stays s.tags }

-- a node that is no declarator and no expression
plain_adds : (kinds : List Kind) (k : Kind) (rules : List Rule) (part : Part) (s : Known) → AreKnown kinds s
    → Fits (kinds ++ k ∷ []) (with_node Void Nothing s) (length kinds) part → Adding kinds k s (typeless rules part s)
plain_adds kinds k rules part s h f = has_adds kinds k rules Void Nothing part s h f

behind_level : (kinds : List Kind) (k : Kind) (rules : List Rule) (s q : Known) → Alike s q → AreKnown kinds s → Adding kinds k s (typeless rules Statement q)
behind_level kinds k rules s q a h =
    adds_from kinds k s q _ a (plain_adds kinds k rules Statement q (alike_known kinds s q a h) tt)

params_add : (kinds : List Kind) (k : Kind) → is_open k ≡ true → (parts : List Part) (s : Known) → AreKnown kinds s → AllHaveOpen kinds parts
    → Adding kinds k s (judged_params parts s)
params_add kinds k c parts s h f =
    adds_from kinds k s (close_level s) _ (closed_level s)
    (stepped_adds kinds k c (inner_steps parts) _ (close_level s) (alike_known kinds s (close_level s) (closed_level s) h) (inner_open kinds parts f))

pub judged_adds : (kinds : List Kind) (k : Kind) (f : Frame) (parts : List Part) (s : Known) → AreKnown kinds s → AllHaveOpen kinds parts
    → Adding kinds k s (judged k f parts s)
judged_adds kinds (kind.Declaration spec inits) f parts s h a = plain_adds kinds _ _ Statement s h tt
judged_adds kinds (kind.Function spec) f parts s h a = behind_level kinds _ _ s (close_level s) (closed_level s) h
judged_adds kinds (kind.Member spec) f parts s h a = plain_adds kinds _ _ _ s h tt
judged_adds kinds (kind.EnumConst x valued) f parts s h a = enumerator_adds kinds _ refl x parts s h
judged_adds kinds (kind.DeclName x) f parts s h a = decl_name_adds kinds x f.context.role s h
judged_adds kinds (kind.Star volatiles) f parts s h a = stepped_adds kinds _ refl _ Points s h (inner_open kinds parts a)
judged_adds kinds (kind.Brackets inner sized) f parts s h a = brackets_add kinds _ refl parts s h a
judged_adds kinds (kind.Params inner void_word) f parts s h a = params_add kinds _ refl parts s h a
judged_adds kinds kind.DeclParens f parts s h a = stepped_adds kinds _ refl _ Keeps s h (inner_open kinds parts a)
judged_adds kinds (kind.Param spec) f parts s h a = has_adds kinds _ _ _ Nothing _ s h tt
judged_adds kinds (kind.NamedType spec) f parts s h a =
    let type = object_type (last_object parts) f.base in
    has_adds kinds _ _ type (TypeName type) (NamedType type) s h (shut_last kinds (kind.NamedType spec) refl, type_there kinds type (TypeName type) s h)
judged_adds kinds (kind.InitList comma) f parts s h a = has_adds kinds _ [] _ Nothing _ s h tt
judged_adds kinds (kind.Entry by equals) f parts s h a = entry_adds kinds _ by f.context.role parts s h
judged_adds kinds kind.Block f parts s h a = behind_level kinds _ [] s (close_block s) (closed_block s) h
judged_adds kinds kind.Expression f parts s h a = plain_adds kinds _ [] Statement s h tt
judged_adds kinds kind.If f parts s h a = plain_adds kinds _ _ Statement s h tt
judged_adds kinds kind.While f parts s h a = plain_adds kinds _ _ Statement s h tt
judged_adds kinds kind.Do f parts s h a = plain_adds kinds _ _ Statement s h tt
judged_adds kinds (kind.For first test step) f parts s h a = plain_adds kinds _ _ Statement s h tt
judged_adds kinds kind.Switch f parts s h a = plain_adds kinds _ _ Statement s h tt
judged_adds kinds kind.Case f parts s h a = plain_adds kinds _ _ _ s h tt
judged_adds kinds kind.Default f parts s h a = plain_adds kinds _ [] DefaultLabel s h tt
judged_adds kinds kind.Break f parts s h a = plain_adds kinds _ _ Statement s h tt
judged_adds kinds kind.Continue f parts s h a = plain_adds kinds _ _ Statement s h tt
judged_adds kinds kind.Return f parts s h a = plain_adds kinds _ _ Statement s h tt
judged_adds kinds (kind.Name x) f parts s h a = name_adds kinds _ refl x (in_levels x s.names) s h
judged_adds kinds (kind.Text texts) f parts s h a = text_adds kinds _ refl (text_type texts) f.context.role s h
judged_adds kinds kind.Index f parts s h a = expression_adds kinds kind.Index refl f.context.role (operands_of parts) s h
judged_adds kinds kind.Call f parts s h a = expression_adds kinds kind.Call refl f.context.role (operands_of parts) s h
judged_adds kinds (kind.Dot arrow x) f parts s h a = expression_adds kinds (kind.Dot arrow x) refl f.context.role (operands_of parts) s h
judged_adds kinds (kind.Post minus) f parts s h a = expression_adds kinds (kind.Post minus) refl f.context.role (operands_of parts) s h
judged_adds kinds (kind.Pre minus) f parts s h a = expression_adds kinds (kind.Pre minus) refl f.context.role (operands_of parts) s h
judged_adds kinds (kind.Unary op) f parts s h a = expression_adds kinds (kind.Unary op) refl f.context.role (operands_of parts) s h
judged_adds kinds kind.SizeofValue f parts s h a = expression_adds kinds kind.SizeofValue refl f.context.role (operands_of parts) s h
judged_adds kinds kind.SizeofType f parts s h a = expression_adds kinds kind.SizeofType refl f.context.role (operands_of parts) s h
judged_adds kinds kind.Cast f parts s h a = expression_adds kinds kind.Cast refl f.context.role (operands_of parts) s h
judged_adds kinds (kind.Binary op) f parts s h a = expression_adds kinds (kind.Binary op) refl f.context.role (operands_of parts) s h
judged_adds kinds kind.Choose f parts s h a = expression_adds kinds kind.Choose refl f.context.role (operands_of parts) s h
judged_adds kinds (kind.Assign op) f parts s h a = expression_adds kinds (kind.Assign op) refl f.context.role (operands_of parts) s h
judged_adds kinds kind.Comma f parts s h a = expression_adds kinds kind.Comma refl f.context.role (operands_of parts) s h
judged_adds kinds kind.Parens f parts s h a = expression_adds kinds kind.Parens refl f.context.role (operands_of parts) s h
judged_adds kinds (kind.Number value unsigned long) f parts s h a =
    expression_adds kinds (kind.Number value unsigned long) refl f.context.role (operands_of parts) s h
judged_adds kinds (kind.Character value) f parts s h a =
    expression_adds kinds (kind.Character value) refl f.context.role (operands_of parts) s h
