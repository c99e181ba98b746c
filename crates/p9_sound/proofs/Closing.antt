-- What a part means to its node changes only nodes that wait.
use Rattle.std.proofs.Common.{◌≡◌, ℕ, zero, suc, Bool, true, false, if◌then◌else◌, ◌==◌, List, [], ◌∷◌, ◌++◌, length, slice_get, slice_set, reverse, map, Option, Some, None, Result, Ok, Err, refl, sym, ap, subst, ◌∙◌, arith}
use Rattle.std.specs.List.{list_all}
use Rattle.std.proofs.lemmas.List.{length-set}
use Rattle.p9_lang.specs.Names.{is_nameless}
use Rattle.p9_lang.specs.declared.tree.Kind.{Kind}
use Rattle.p9_lang.specs.declared.tree.Kind.TheVariants as kind
use Rattle.p9_lang.specs.Trees.{SyntaxRow}
use Rattle.p9_lang.specs.Types.{TypeTree, Void, Array, Meant, MemberTree, Tags}
use Rattle.p9_lang.specs.Rules.{Rule, Malformed, Redeclared, at_node, Broken, unless, and_then}
use Rattle.p9_lang.specs.Scopes.{Known, Keyword, TagName, Tagging, tag_from, known_tag, new_tag, new_structure, tagged_as, in_level, innermost, around, Enum}
use Rattle.p9_lang.specs.Declarators.{LengthBy, Step, Head, Storage, NameNode, Words, Named, Structure, Enumeration, head_of, storage_of, closed, closed_from, shaped, broken_at, makes_no_type, with_length, adjusted, name_of, naming_rules, ByNothing, ByCaller, Declaring}
use Rattle.p9_lang.specs.Parts.{Context, Part, Value, Declarator, Object, Members, Enumerator, Parameter, NamedType, Braced, Filled, CaseLabel, Statement, DefaultLabel, Frame, Judged, object_type, last_object, name_in, object_role, object_names, members_in, Plain, follows, length_by}
use Rattle.p9_lang.specs.Constants.{Constant}
use Rattle.p9_lang.specs.Opening.{opened, of_head}
use Rattle.p9_lang.specs.Declaring.{broken_rules, behind, last_node, named_with, declare_object, declare_as, with_body_open, open_body, parameter_count, declare_member, declare_parameter, parameter_meaning, parameter_rules, declared_parameter, member_rules, names_in_braces, initialiser_role, declared_meaning, close_type, declared, function_declaring, object_declaring, enumerated, enumerator_value, constant_meaning, complete_if, with_members, with_length_given, with_given_length, length_rules, declared_before, unless_broken, initialiser_rules, given_length, retyped, initialised}
use Rattle.p9_lang.specs.Entries.{is_index_next}
use Rattle.p9_lang.proofs.Growing.{Grows, stays, appended_grows, body_grows}
use Rattle.p9_lang.proofs.Counting.{then_of, unless_of}
use Rattle.p9_sound.specs.Labels.{IsShut, AreKnown}
use Rattle.p9_sound.proofs.Numbering.{get_apart, IsOpen, apart, AreOpen, steps_reverse, steps_with_length, name_open}
use Rattle.p9_sound.proofs.Staying.{Stays, still, Alike, Fits, HasOpen, AllHaveOpen, ObjectOpen, last_object_open}

-- OPENING a node

either_alike : (s : Known) (b : Bool) (x y : Tagging) → Alike s x.known → Alike s y.known → Alike s (if b then x else y).known
either_alike s true x y h k = h
either_alike s false x y h k = k

new_tag_alike : (rules : List Rule) (keyword : Keyword) (name : List ℕ) (has_body : Bool) (s : Known)
    → Alike s (new_tag rules keyword name has_body s).known
new_tag_alike rules keyword name has_body s =
    record { types = refl; means = refl; grows = appended_grows s.tags (new_structure keyword name) }

known_tag_alike : (t : TagName) (has_body : Bool) (s : Known) → Alike s (known_tag t has_body s).known
known_tag_alike t true s = record { types = refl; means = refl; grows = stays s.tags }
known_tag_alike t false s = record { types = refl; means = refl; grows = stays s.tags }

tag_from_alike : (o : Option TagName) (keyword : Keyword) (name : List ℕ) (has_body : Bool) (s : Known)
    → Alike s (tag_from o keyword name has_body s).known
tag_from_alike None keyword name has_body s = new_tag_alike [] keyword name has_body s
tag_from_alike (Some t) keyword name has_body s =
    either_alike s _ (known_tag t has_body s) (new_tag (Redeclared name ∷ []) keyword name has_body s) (known_tag_alike t has_body s)
    (new_tag_alike (Redeclared name ∷ []) keyword name has_body s)

tagged_alike : (keyword : Keyword) (name : List ℕ) (has_body : Bool) (s : Known) → Alike s (tagged_as keyword name has_body s).known
tagged_alike keyword name has_body s =
    either_alike s (is_nameless name) (new_tag [] keyword name has_body s) (tag_from _ keyword name has_body s)
    (new_tag_alike [] keyword name has_body s) (tag_from_alike _ keyword name has_body s)

head_alike : (storage : Storage) (c : Context) (h : Head) (s : Known) → Alike s (of_head storage c h s).1
head_alike storage c (Words type) s = record { types = refl; means = refl; grows = stays s.tags }
head_alike storage c (Named x) s = record { types = refl; means = refl; grows = stays s.tags }
head_alike storage c (Structure is_union name members) s = tagged_alike _ name _ s
head_alike storage c (Enumeration name count) s = tagged_alike Enum name _ s

pub opened_alike : (k : Kind) (c : Context) (s : Known) → Alike s (opened k c s).1
opened_alike (kind.Declaration spec inits) c s = head_alike _ c _ s
opened_alike (kind.Function spec) c s =
    let r = head_alike (storage_of spec.words) c (head_of spec.words) (record s { autos = 0 }) in
    record { types = r.types; means = r.means; grows = r.grows }
opened_alike (kind.Member spec) c s = head_alike _ c _ s
opened_alike (kind.Param spec) c s = head_alike _ c _ s
opened_alike (kind.NamedType spec) c s = head_alike _ c _ s
opened_alike kind.Block c s = record { types = refl; means = refl; grows = stays s.tags }
opened_alike (kind.Params inner void_word) c s = record { types = refl; means = refl; grows = stays s.tags }
opened_alike _ c s = record { types = refl; means = refl; grows = stays s.tags }

-- A PART that holds still

pub record Holds (kinds : List Kind) (s : Known) (r : Part × Known) : Type 0 where
  pub known : AreKnown kinds r.1
  pub stay : Stays kinds s r.1
  pub opens : HasOpen kinds r.0

abbrev pub Holding : List Kind → Known → Judged → Type 0
Holding kinds s m = (r : Part × Known) → m ≡ Ok r → Holds kinds s r

err_holds : (kinds : List Kind) (s : Known) (b : Broken) → Holding kinds s (Err b)
err_holds kinds s b r e = cc

ok_holds : (kinds : List Kind) (s q : Known) (part : Part) → AreKnown kinds q → Stays kinds s q → HasOpen kinds part
    → Holding kinds s (Ok (part, q))
ok_holds kinds s q part h a f r e =
    let z : (part, q) ≡ r = cc in
    subst (λ x. Holds kinds s x) z (record { known = h; stay = a; opens = f })

same_holds : (kinds : List Kind) (s : Known) (part : Part) → AreKnown kinds s → HasOpen kinds part → Holding kinds s (Ok (part, s))
same_holds kinds s part h f = ok_holds kinds s s part h (still kinds s) f

unless_holds : (kinds : List Kind) (broken : List Broken) (s q : Known) (part : Part) → AreKnown kinds q → Stays kinds s q → HasOpen kinds part
    → Holding kinds s (unless broken (part, q))
unless_holds kinds broken s q part h a f r e = ok_holds kinds s q part h a f r (ap (λ x. Ok x) (unless_of broken (part, q) r e))

if_holds : (kinds : List Kind) (s : Known) (b : Bool) (x y : Judged) → Holding kinds s x → Holding kinds s y
    → Holding kinds s (if b then x else y)
if_holds kinds s true x y h k = h
if_holds kinds s false x y h k = k

-- CLOSING a declarator

-- other types, of as many nodes, where those of shut nodes are as before
pub record Retypes (kinds : List Kind) (before after : List TypeTree) : Type 0 where
  pub count : length after ≡ length before
  pub types : (n : ℕ) → IsShut kinds n → slice_get after n ≡ slice_get before n

set_open : {A : Type 0} (kinds : List Kind) (xs : List A) (m : ℕ) (x : A) → IsOpen kinds m → (n : ℕ) → IsShut kinds n
    → slice_get (slice_set xs m x) n ≡ slice_get xs n
set_open kinds xs m x o n h = get_apart xs m n x (apart kinds n m h o)

closed_retypes : (kinds : List Kind) (tags : Tags) (by : LengthBy) (type : TypeTree) (steps : List Step) (types : List TypeTree) (made : TypeTree × List TypeTree)
    → AreOpen kinds steps → closed_from tags by type steps types ≡ Ok made → Retypes kinds types made.1
closed_retypes kinds tags by type [] types made o e =
    let z : (type, types) ≡ made = cc in subst (λ m. Retypes kinds types m.1) z (record { count = refl; types = λ n h. refl })
closed_retypes kinds tags by type (step ∷ steps) types made o e =
    let r = then_of (broken_at step.number (shaped tags by (list_all makes_no_type steps) step.shape type))
    (λ made. closed_from tags by made steps (slice_set types step.number made)) made e in
    let later = closed_retypes kinds tags by r.0 steps (slice_set types step.number r.0) made o.1 r.2 in
    record {
      count = later.count ∙ length-set types step.number r.0;
      types = λ n h. later.types n h ∙ set_open kinds types step.number r.0 o.0 n h;
    }

whole_retypes : (kinds : List Kind) (tags : Tags) (by : LengthBy) (base : TypeTree) (steps : List Step) (types : List TypeTree) (made : TypeTree × List TypeTree)
    → AreOpen kinds steps → closed tags by base steps types ≡ Ok made → Retypes kinds types made.1
whole_retypes kinds tags by base steps types made o e =
    closed_retypes kinds tags by base (reverse steps) types made (steps_reverse kinds steps o) e

named_is : (last : ℕ) (rules : Option TypeTree → List Rule) (m : Result (TypeTree × List TypeTree) Broken) (made : TypeTree × List TypeTree)
    → named_with last rules m ≡ Ok made → m ≡ Ok made
named_is last rules (Ok x) made e = ap (λ y. Ok y) (unless_of (broken_rules last (rules (Some x.0))) x made e)
named_is last rules (Err b) made e = cc

retyped_known : (kinds : List Kind) (s : Known) (types : List TypeTree) → AreKnown kinds s → Retypes kinds s.types types → AreKnown kinds (record s { types = types })
retyped_known kinds s types h r = record { types = r.count ∙ h.types; means = h.means }

retyped_stays : (kinds : List Kind) (s : Known) (types : List TypeTree) → Retypes kinds s.types types → Stays kinds s (record s { types = types })
retyped_stays kinds s types r = record { types = r.types; means = λ n h. refl; grows = stays s.tags }

-- what follows on a closed declarator
closing_holds : (kinds : List Kind) (s : Known) (rules : Option TypeTree → List Rule) (by : LengthBy) (base : TypeTree) (steps : List Step)
    (next : TypeTree × List TypeTree → Judged) → AreOpen kinds steps
    → ((made : TypeTree × List TypeTree) → Retypes kinds s.types made.1 → Holding kinds s (next made))
    → Holding kinds s (and_then (named_with (last_node s) rules (closed s.tags by base steps s.types)) next)
closing_holds kinds s rules by base steps next o h r e =
    let made = then_of (named_with (last_node s) rules (closed s.tags by base steps s.types)) next r e in
    h made.0
    (whole_retypes kinds s.tags by base steps s.types made.0 o
    (named_is (last_node s) rules (closed s.tags by base steps s.types) made.0 made.1)) r made.2

bare_holds : (kinds : List Kind) (s : Known) (by : LengthBy) (base : TypeTree) (steps : List Step) (next : TypeTree × List TypeTree → Judged)
    → AreOpen kinds steps → ((made : TypeTree × List TypeTree) → Retypes kinds s.types made.1 → Holding kinds s (next made))
    → Holding kinds s (and_then (closed s.tags by base steps s.types) next)
bare_holds kinds s by base steps next o h r e =
    let made = then_of (closed s.tags by base steps s.types) next r e in
    h made.0 (whole_retypes kinds s.tags by base steps s.types made.0 o made.1) r made.2

-- the types are those made, and the name's node means this
named_node : (kinds : List Kind) (s q : Known) (types : List TypeTree) (m : ℕ) (means : Meant) → AreKnown kinds s → Retypes kinds s.types types → IsOpen kinds m
    → q.types ≡ types → q.means ≡ slice_set s.means m means → q.tags ≡ s.tags → AreKnown kinds q × Stays kinds s q
named_node kinds s q types m means h r o a b c = (
  record { types = ap length a ∙ (r.count ∙ h.types); means = ap length b ∙ (length-set s.means m means ∙ h.means) },
  record {
    types = λ n i. ap (λ xs. slice_get xs n) a ∙ r.types n i;
    means = λ n i. ap (λ xs. slice_get xs n) b ∙ set_open kinds s.means m means o n i;
    grows = subst (λ tags. Grows s.tags tags) (sym c) (stays s.tags);
  },
)

object_holds : (kinds : List Kind) (d : Declaring) (by : LengthBy) (base : TypeTree) (steps : List Step) (name : Option NameNode) (s : Known)
    → AreKnown kinds s → AreOpen kinds steps → name_of steps ≡ name → Holding kinds s (declare_object d by base steps name s)
object_holds kinds d by base steps None s h o e = err_holds kinds s (at_node (last_node s) Malformed)
object_holds kinds d by base steps (Some name) s h o e =
    closing_holds kinds s (naming_rules s.tags d name.name (in_level name.name (innermost s.names))) by base steps
    (λ made. Ok (
      Object made.0 steps (last_node s) (initialiser_role d made.0),
      declare_as d name made.0 (record s { types = made.1 }),
    ))
    o
    (λ made r.
    let z = named_node kinds s (declare_as d name made.0 (record s { types = made.1 })) made.1 name.number
    (declared_meaning d name made.0 (record s { types = made.1 })) h r (name_open kinds steps name o e) refl refl refl in
    ok_holds kinds s (declare_as d name made.0 (record s { types = made.1 }))
    (Object made.0 steps (last_node s) (initialiser_role d made.0)) z.0 z.1 o)

body_holds : (kinds : List Kind) (steps : List Step) (s : Known) (x : Part × Known) → Holds kinds s x → Holding kinds s (with_body_open steps x)
body_holds kinds steps s x h =
    let k = h.known in
    let a = h.stay in
    ok_holds kinds s (open_body steps (record x.1 { autos = parameter_count (object_type (Some x.0) Void) })) x.0
    (record { types = k.types; means = k.means })
    (record { types = a.types; means = a.means; grows = a.grows }) h.opens

function_holds : (kinds : List Kind) (steps : List Step) (s : Known) (m : Judged) → Holding kinds s m
    → Holding kinds s (and_then m (with_body_open steps))
function_holds kinds steps s m h r e =
    let x = then_of m (with_body_open steps) r e in
    body_holds kinds steps s x.0 (h x.0 x.1) r x.2

member_holds : (kinds : List Kind) (f : Frame) (before : List Part) (steps : List Step) (name : Option NameNode) (s : Known)
    → AreKnown kinds s → AreOpen kinds steps → Holding kinds s (declare_member f before steps name s)
member_holds kinds f before steps None s h o = err_holds kinds s (at_node (last_node s) Malformed)
member_holds kinds f before steps (Some name) s h o =
    closing_holds kinds s (member_rules s.tags (names_in_braces f.context.role ++ object_names before) name.name) ByNothing f.base steps
    (λ made. Ok (Object made.0 steps (last_node s) Plain, record s { types = made.1 })) o
    (λ made r. ok_holds kinds s (record s { types = made.1 }) (Object made.0 steps (last_node s) Plain)
    (retyped_known kinds s made.1 h r) (retyped_stays kinds s made.1 r) o)

parameter_retypes : (kinds : List Kind) (types made : List TypeTree) (m : ℕ) (type : TypeTree) → Retypes kinds types made → IsOpen kinds m
    → Retypes kinds types (slice_set made m type)
parameter_retypes kinds types made m type r o = record {
  count = length-set made m type ∙ r.count;
  types = λ n h. set_open kinds made m type o n h ∙ r.types n h;
}

parameter_holds : (kinds : List Kind) (f : Frame) (steps : List Step) (name : Option NameNode) (s : Known)
    → AreKnown kinds s → AreOpen kinds steps → name_of steps ≡ name → Holding kinds s (declare_parameter f steps name s)
parameter_holds kinds f steps None s h o e =
    bare_holds kinds s ByCaller f.base steps
    (λ made. Ok (Object (adjusted made.0) steps (last_node s) Plain, record s { types = made.1 })) o
    (λ made r. ok_holds kinds s (record s { types = made.1 }) (Object (adjusted made.0) steps (last_node s) Plain)
    (retyped_known kinds s made.1 h r) (retyped_stays kinds s made.1 r) o)
parameter_holds kinds f steps (Some name) s h o e =
    closing_holds kinds s (λ type. parameter_rules name.name (in_level name.name (innermost s.names))) ByCaller f.base steps
    (λ made. Ok (Object (adjusted made.0) steps (last_node s) Plain, declared_parameter f name made s)) o
    (λ made r.
    let m = name_open kinds steps name o e in
    let z = named_node kinds s (declared_parameter f name made s) (slice_set made.1 name.number (adjusted made.0)) name.number
    (parameter_meaning f.context.role) h (parameter_retypes kinds s.types made.1 name.number (adjusted made.0) r m) m refl refl refl in
    ok_holds kinds s (declared_parameter f name made s) (Object (adjusted made.0) steps (last_node s) Plain) z.0 z.1 o)

type_holds : (kinds : List Kind) (f : Frame) (steps : List Step) (s : Known) → AreKnown kinds s → AreOpen kinds steps
    → Holding kinds s (close_type f steps s)
type_holds kinds f steps s h o =
    bare_holds kinds s ByNothing f.base steps (λ made. Ok (Object made.0 steps (last_node s) Plain, record s { types = made.1 })) o
    (λ made r. ok_holds kinds s (record s { types = made.1 }) (Object made.0 steps (last_node s) Plain)
    (retyped_known kinds s made.1 h r) (retyped_stays kinds s made.1 r) o)

declared_holds : (kinds : List Kind) (k : Kind) (f : Frame) (before : List Part) (steps : List Step) (rest : SyntaxRow) (s : Known)
    → AreKnown kinds s → AreOpen kinds steps → Holding kinds s (declared k f before steps rest s)
declared_holds kinds (kind.Declaration spec inits) f before steps rest s h o =
    object_holds kinds (object_declaring f (follows rest) s) (length_by (follows rest)) f.base steps (name_of steps) s h o refl
declared_holds kinds (kind.Function spec) f before steps rest s h o =
    function_holds kinds steps s _ (object_holds kinds (function_declaring f) ByNothing f.base steps (name_of steps) s h o refl)
declared_holds kinds (kind.Member spec) f before steps rest s h o = member_holds kinds f before steps (name_of steps) s h o
declared_holds kinds (kind.Param spec) f before steps rest s h o = parameter_holds kinds f steps (name_of steps) s h o refl
declared_holds kinds (kind.NamedType spec) f before steps rest s h o = type_holds kinds f steps s h o
declared_holds kinds k f before steps rest s h o = same_holds kinds s (Declarator steps) h o

-- ENUMERATION CONSTANTS, whose node is the last one

last_is : (kinds : List Kind) (n : ℕ) (s : Known) → AreKnown kinds s → suc n ≡ length kinds → last_node s ≡ n
last_is kinds n s h e = let a = h.types in omega arith

enumerated_holds : (kinds : List Kind) (n : ℕ) (x : List ℕ) (value : Constant) (s : Known) → AreKnown kinds s → suc n ≡ length kinds → IsOpen kinds n
    → Holding kinds s (enumerated x value s)
enumerated_holds kinds n x value s h e o =
    let m = subst (λ i. IsOpen kinds i) (sym (last_is kinds n s h e)) o in
    unless_holds kinds _ s _ _
    (record { types = h.types; means = length-set s.means (last_node s) (constant_meaning value) ∙ h.means })
    (record {
      types = λ i j. refl;
      means = λ i j. set_open kinds s.means (last_node s) (constant_meaning value) m i j;
      grows = stays s.tags;
    })
    tt

-- MEMBERS

complete_stays : (kinds : List Kind) (is_last : Bool) (tag : Option ℕ) (members : List MemberTree) (s : Known) → AreKnown kinds s
    → AreKnown kinds (complete_if is_last tag members s) × Stays kinds s (complete_if is_last tag members s)
complete_stays kinds is_last None members s h = (h, still kinds s)
complete_stays kinds false (Some number) members s h = (h, still kinds s)
complete_stays kinds true (Some number) members s h = (
  record { types = h.types; means = h.means },
  record { types = λ i j. refl; means = λ i j. refl; grows = body_grows s.tags number members },
)

members_hold : (kinds : List Kind) (f : Frame) (before : List Part) (members : List MemberTree) (s : Known) → AreKnown kinds s
    → Holding kinds s (Ok (Members members, with_members f before (Members members) s))
members_hold kinds f before members s h =
    let z = complete_stays kinds (suc (length before) == f.braces) f.tag (members_in (before ++ Members members ∷ [])) s h in
    ok_holds kinds s (with_members f before (Members members) s) (Members members) z.0 z.1 tt

-- INITIALISERS

abbrev pub Given : List Kind → Known → Known → Type 0
Given kinds s q = AreKnown kinds q × Stays kinds s q

given_length_stays : (kinds : List Kind) (base : TypeTree) (steps : List Step) (last count : ℕ) (x : List ℕ) (s q : Known) → AreKnown kinds s → AreOpen kinds steps
    → with_given_length base steps last count x s ≡ Ok q → Given kinds s q
given_length_stays kinds base steps last count x s q h o e =
    let made = then_of
    (named_with last (length_rules x (declared_before x (innermost s.names))) (closed s.tags ByNothing base (map (with_length count) steps) s.types))
    (λ made. Ok (record s { types = made.1; names = retyped x made.0 (innermost s.names) ∷ around s.names })) q e in
    let r = whole_retypes kinds s.tags ByNothing base (map (with_length count) steps) s.types made.0 (steps_with_length kinds count steps o)
    (named_is last (length_rules x (declared_before x (innermost s.names)))
    (closed s.tags ByNothing base (map (with_length count) steps) s.types) made.0 made.1) in
    let m = made.2 in
    let z : record s { types = made.0.1; names = retyped x made.0.0 (innermost s.names) ∷ around s.names } ≡ q = cc in
    subst (λ y. Given kinds s y) z
    (record { types = r.count ∙ h.types; means = h.means }, record { types = r.types; means = λ i j. refl; grows = stays s.tags })

unchanged : (kinds : List Kind) (s q : Known) (m : Result Known Broken) → AreKnown kinds s → m ≡ Ok s → m ≡ Ok q → Given kinds s q
unchanged kinds s q m h d e = let z : s ≡ q = cc in subst (λ x. Given kinds s x) z (h, still kinds s)

given_stays : (kinds : List Kind) (base : TypeTree) (object : Option Part) (part : Part) (s q : Known) → AreKnown kinds s → ObjectOpen kinds object
    → with_length_given base object part s ≡ Ok q → Given kinds s q
given_stays kinds base (Some (Object (Array element zero) steps last role)) part s q h o e =
    given_length_stays kinds base steps last (given_length part) (name_in (name_of steps)) s q h o e
given_stays kinds base _ part s q h o e = unchanged kinds s q (Ok s) h refl e

assigned_holds : (kinds : List Kind) (base : TypeTree) (object : Option Part) (part : Part) (s : Known) (rules : Known → List Rule)
    → AreKnown kinds s → ObjectOpen kinds object → HasOpen kinds part
    → Holding kinds s (and_then (with_length_given base object part s) (λ given. unless_broken (rules given) part given))
assigned_holds kinds base object part s rules h o f r e =
    let x = then_of (with_length_given base object part s) (λ given. unless_broken (rules given) part given) r e in
    let g = given_stays kinds base object part s x.0 h o x.1 in
    unless_holds kinds _ s x.0 part g.0 g.1 f r x.2

initialised_holds : (kinds : List Kind) (k : Kind) (f : Frame) (before : List Part) (part : Part) (s : Known)
    → AreKnown kinds s → ObjectOpen kinds (last_object before) → HasOpen kinds part → Holding kinds s (initialised k f before part s)
initialised_holds kinds (kind.Declaration spec inits) f before part s h o g =
    assigned_holds kinds f.base (last_object before) part s (λ given. initialiser_rules given.tags (object_role (last_object before)) part) h o g
initialised_holds kinds (kind.Entry by equals) f before part s h o g =
    if_holds kinds s (is_index_next by before) _ _ (same_holds kinds s part h g)
    (unless_holds kinds _ s s part h (still kinds s) g)
initialised_holds kinds k f before part s h o g = same_holds kinds s part h g

-- ANY PART, with the number of its node

fits_open : (kinds : List Kind) (s : Known) (n : ℕ) (part : Part) → Fits kinds s n part → HasOpen kinds part
fits_open kinds s n (Declarator steps) f = f
fits_open kinds s n (Object type steps last role) f = f
fits_open kinds s n (Value o) f = tt
fits_open kinds s n (NamedType type) f = tt
fits_open kinds s n (Enumerator x value) f = tt
fits_open kinds s n (Members members) f = tt
fits_open kinds s n (Parameter type) f = tt
fits_open kinds s n (Braced count) f = tt
fits_open kinds s n (Filled next) f = tt
fits_open kinds s n (CaseLabel word) f = tt
fits_open kinds s n DefaultLabel f = tt
fits_open kinds s n Statement f = tt

pub behind_holds : (kinds : List Kind) (n : ℕ) (k : Kind) (f : Frame) (before : List Part) (part : Part) (rest : SyntaxRow) (s : Known)
    → AreKnown kinds s → suc n ≡ length kinds → AllHaveOpen kinds before → Fits kinds s n part → Holding kinds s (behind k f before part rest s)
behind_holds kinds n k f before (Value o) rest s h e a g = initialised_holds kinds k f before (Value o) s h (last_object_open kinds before a) tt
behind_holds kinds n k f before (Braced count) rest s h e a g = initialised_holds kinds k f before (Braced count) s h (last_object_open kinds before a) tt
behind_holds kinds n k f before (Declarator steps) rest s h e a g = declared_holds kinds k f before steps rest s h g
behind_holds kinds n k f before (Enumerator x value) rest s h e a g = enumerated_holds kinds n x (enumerator_value before value) s h e g
behind_holds kinds n k f before (Members members) rest s h e a g = members_hold kinds f before members s h
behind_holds kinds n k f before (CaseLabel word) rest s h e a g = unless_holds kinds _ s s (CaseLabel word) h (still kinds s) tt
behind_holds kinds n k f before DefaultLabel rest s h e a g = unless_holds kinds _ s s DefaultLabel h (still kinds s) tt
behind_holds kinds n k f before (Object type steps last role) rest s h e a g = same_holds kinds s (Object type steps last role) h g
behind_holds kinds n k f before (Parameter type) rest s h e a g = same_holds kinds s (Parameter type) h tt
behind_holds kinds n k f before (NamedType type) rest s h e a g = same_holds kinds s (NamedType type) h tt
behind_holds kinds n k f before (Filled next) rest s h e a g = same_holds kinds s (Filled next) h tt
behind_holds kinds n k f before Statement rest s h e a g = same_holds kinds s Statement h tt
