-- No name in scope stands for the type of an array without a length.
use Rattle.std.proofs.Common.{◌≡◌, ℕ, zero, suc, ◌+◌, ◌==◌, ◌&&◌, ◌||◌, Bool, true, false, not, if◌then◌else◌, List, [], ◌∷◌, ◌++◌, length, reverse, slice_get, slice_set, unwrap_or, Option, Some, None, Result, Ok, Err, refl, sym, ap, subst, ◌∙◌}
use Rattle.std.specs.List.{list_all}
use Rattle.p9_lang.specs.declared.tree.Kind.{Kind}
use Rattle.p9_lang.specs.declared.tree.Kind.TheVariants as kind
use Rattle.p9_lang.specs.declared.tree.EntryBy.{EntryBy}
use Rattle.p9_lang.specs.Names.{is_nameless, same_name}
use Rattle.p9_lang.specs.Trees.{node, none, more, Syntax, SyntaxRow}
use Rattle.p9_lang.specs.Types.{TypeTree, Void, Char, UChar, Short, UShort, Int, UInt, Long, ULong, Pointer, Array, Function, Meant, Nothing, Outer, Static, Auto, EnumValue, TypeName, Tags, MemberTree}
use Rattle.p9_lang.specs.Layout.{is_complete}
use Rattle.p9_lang.specs.Conversions.{is_array, is_function, is_structure}
use Rattle.p9_lang.specs.Rules.{Rule, Malformed, Incomplete, BadOperands, BadConstant, Undeclared, Redeclared, Broken, at_node, unless, unless_rules, breaks_if, and_then}
use Rattle.p9_lang.specs.Constants.{Operand, Constant, NotConstant, Undefined, Null}
use Rattle.p9_lang.specs.Constants as constants
use Rattle.p9_lang.specs.Expressions.{Verdict, verdict}
use Rattle.p9_lang.specs.Scopes.{Known, Declared, Keyword, Enum, TagName, Tagging, new_tag, known_tag, tag_from, tagged_as, with_node, next_node, close_level, close_block, in_level, in_levels, or_else, innermost, around}
use Rattle.p9_lang.specs.Declarators.{Said, said_type, signed_or_not, Step, Shape, Names, Keeps, Points, Sized, Unsized, Takes, Head, Words, Named, Structure, Enumeration, head_of, Storage, storage_of, is_typedef, is_static, LengthBy, ByNothing, array_rules, word_of, NameNode, name_of, own_list, Declaring, closed, closed_from, shaped, broken_at, makes_no_type, adjusted, naming_rules, repeat_rules, type_rules}
use Rattle.p9_lang.specs.Parts.{Role, EntryOf, ParameterOf, Plain, Context, Part, Value, Declarator, Object, Members, Enumerator, Parameter, NamedType, Braced, Filled, CaseLabel, DefaultLabel, Statement, Frame, Judged, kind_at, members_in, Follows, NoInitialiser, follows, length_by, has_initialiser, last_object, or_object, object_type, inner_steps, name_in}
use Rattle.p9_lang.specs.Opening.{opened, context, of_head, of_type_name}
use Rattle.p9_lang.specs.Entries.{is_index_next}
use Rattle.p9_lang.specs.Declaring.{broken_rules, last_node, behind, declared, declare_object, declare_as, declared_meaning, initialiser_role, declare_member, declare_parameter, declared_parameter, parameter_meaning, close_type, object_declaring, function_declaring, with_body_open, names_of_list, enumerated, enumerator_value, constant_meaning, complete_if, with_members, with_length_given, with_given_length, named_with, given_length, retyped, initialised}
use Rattle.p9_lang.specs.Typing.{has, judged_brackets, judged_name, judged_text, judged_decl_name, judged_enumerator, judged_entry, judged_as, judged_expression, judged, judge, judge_parts, role_rules, is_filled_by_text, is_block_static, is_whole, text_type, operands_of}
use Rattle.p9_lang.specs.declared.tree.SpecWord.{SpecWord}
use Rattle.p9_lang.specs.declared.tree.SpecWord.TheVariants as word
use Rattle.p9_lang.specs.Declarators.{head_from, nothing_said}
use Rattle.p9_lang.proofs.Counting.{then_of, unless_of}
use Rattle.p9_sound.proofs.Labels.{with_rules_is}
use Rattle.p9_firsts.specs.Typedefs.{HasItsLength, NamesItsLength, AllName, LevelIsClosed, LevelsAreClosed, IsClosed, TypedefsHaveLengths}

-- LISTS

all_append : (xs ys : List Meant) → AllName xs → AllName ys → AllName (xs ++ ys)
all_append [] ys h g = g
all_append (x ∷ xs) ys h g = (h.0, all_append xs ys h.1 g)

all_set : (xs : List Meant) (n : ℕ) (m : Meant) → AllName xs → NamesItsLength m → AllName (slice_set xs n m)
all_set [] zero m h g = tt
all_set [] (suc n) m h g = tt
all_set (x ∷ xs) zero m h g = (g, h.1)
all_set (x ∷ xs) (suc n) m h g = (h.0, all_set xs n m h.1 g)

all_get : (xs : List Meant) (n : ℕ) → AllName xs → NamesItsLength (unwrap_or (slice_get xs n) Nothing)
all_get [] zero h = tt
all_get [] (suc n) h = tt
all_get (x ∷ xs) zero h = h.0
all_get (x ∷ xs) (suc n) h = all_get xs n h.1

innermost_closed : (levels : List (List Declared)) → LevelsAreClosed levels → LevelIsClosed (innermost levels)
innermost_closed [] h = tt
innermost_closed (level ∷ levels) h = h.0

around_closed : (levels : List (List Declared)) → LevelsAreClosed levels → LevelsAreClosed (around levels)
around_closed [] h = tt
around_closed (level ∷ levels) h = h.1

retyped_closed : (x : List ℕ) (type : TypeTree) (ds : List Declared) → LevelIsClosed ds → LevelIsClosed (retyped x type ds)
retyped_closed x type [] h = tt
retyped_closed x type (d ∷ ds) h = by (same_name x d.name) (retyped_closed x type ds h.1)
  where
    by : (b : Bool) → LevelIsClosed (retyped x type ds) → LevelIsClosed (if b then record d { type = type } ∷ ds else d ∷ retyped x type ds)
    by true g = h
    by false g = (h.0, g)

in_level_closed : (x : List ℕ) (ds : List Declared) (d : Declared) → LevelIsClosed ds → in_level x ds ≡ Some d → NamesItsLength d.means
in_level_closed x [] d h e = cc
in_level_closed x (y ∷ ys) d h e = by (same_name x y.name) e (λ k. in_level_closed x ys d h.1 k)
  where
    by : (b : Bool) → (if b then Some y else in_level x ys) ≡ Some d → (in_level x ys ≡ Some d → NamesItsLength d.means) → NamesItsLength d.means
    by true k next = let z : y ≡ d = cc in subst (λ w. NamesItsLength w.means) z h.0
    by false k next = next k

or_closed : (a b : Option Declared) (d : Declared) → (a ≡ Some d → NamesItsLength d.means) → (b ≡ Some d → NamesItsLength d.means)
    → or_else a b ≡ Some d → NamesItsLength d.means
or_closed None b d h g e = g e
or_closed (Some x) b d h g e = h e

in_levels_closed : (x : List ℕ) (levels : List (List Declared)) (d : Declared) → LevelsAreClosed levels → in_levels x levels ≡ Some d → NamesItsLength d.means
in_levels_closed x [] d h e = cc
in_levels_closed x (level ∷ levels) d h e =
    or_closed (in_level x level) (in_levels x levels) d (λ k. in_level_closed x level d h.0 k) (λ k. in_levels_closed x levels d h.1 k) e

pub first_empty : {A : Type 0} (xs ys : List A) → xs ++ ys ≡ [] → xs ≡ []
first_empty [] ys e = refl
first_empty (x ∷ xs) ys e = cc

pub last_empty : {A : Type 0} (xs ys : List A) → xs ++ ys ≡ [] → ys ≡ []
last_empty [] ys e = e
last_empty (x ∷ xs) ys e = cc

-- SPECS

if_length : (b : Bool) (x y : TypeTree) → HasItsLength x → HasItsLength y → HasItsLength (if b then x else y)
if_length true x y h g = h
if_length false x y h g = g

signed_length : (b : Bool) (x y : TypeTree) → HasItsLength x → HasItsLength y → HasItsLength (signed_or_not b x y)
signed_length true x y h g = g
signed_length false x y h g = h

said_length : (said : Said) → HasItsLength (said_type said)
said_length said =
    if_length said.is_void Void _ tt
    (if_length said.is_char _ _ (signed_length said.is_unsigned Char UChar tt tt)
    (if_length said.is_short _ _ (signed_length said.is_unsigned Short UShort tt tt)
    (if_length said.is_long _ _ (signed_length said.is_unsigned Long ULong tt tt) (signed_length said.is_unsigned Int UInt tt tt))))

abbrev HeadIsClosed : Head → Type 0
HeadIsClosed (Words type) = HasItsLength type
HeadIsClosed (Named name) = Unit {0}
HeadIsClosed (Structure is_union name members) = Unit {0}
HeadIsClosed (Enumeration name count) = Unit {0}

head_closed : (said : Said) (words : List SpecWord) → HeadIsClosed (head_from said words)
head_closed said [] = said_length said
head_closed said (word.TypeName x ∷ words) = tt
head_closed said (word.Tag is_union name members ∷ words) = tt
head_closed said (word.Enum name count comma ∷ words) = tt
head_closed said (word.Void ∷ words) = head_closed (record said { is_void = true }) words
head_closed said (word.Char ∷ words) = head_closed (record said { is_char = true }) words
head_closed said (word.Short ∷ words) = head_closed (record said { is_short = true }) words
head_closed said (word.Long ∷ words) = head_closed (record said { is_long = true }) words
head_closed said (word.Unsigned ∷ words) = head_closed (record said { is_unsigned = true }) words
head_closed said (word.Int ∷ words) = head_closed said words
head_closed said (word.Signed ∷ words) = head_closed said words
head_closed said (word.Extern ∷ words) = head_closed said words
head_closed said (word.Static ∷ words) = head_closed said words
head_closed said (word.Typedef ∷ words) = head_closed said words
head_closed said (word.Auto ∷ words) = head_closed said words
head_closed said (word.Register ∷ words) = head_closed said words
head_closed said (word.Const ∷ words) = head_closed said words
head_closed said (word.Volatile ∷ words) = head_closed said words

-- OPENING

pub record OpensClosed (o : Frame × Known) : Type 0 where
  pub base : HasItsLength o.0.base
  pub known : IsClosed o.1

type_name_length : (storage : Storage) (c : Context) (x name : List ℕ) (type : TypeTree) (means : Meant) (is_static is_filled : Bool) → NamesItsLength means
    → HasItsLength (of_type_name storage c x (Some (record { name = name; type = type; means = means; is_static = is_static; is_filled = is_filled }))).base
type_name_length storage c x name type (TypeName t) is_static is_filled h = h
type_name_length storage c x name type Nothing is_static is_filled h = tt
type_name_length storage c x name type (Outer y) is_static is_filled h = tt
type_name_length storage c x name type (Static n) is_static is_filled h = tt
type_name_length storage c x name type (Auto n) is_static is_filled h = tt
type_name_length storage c x name type (EnumValue n) is_static is_filled h = tt

named_length : (storage : Storage) (c : Context) (x : List ℕ) (o : Option Declared) → ((d : Declared) → o ≡ Some d → NamesItsLength d.means)
    → HasItsLength (of_type_name storage c x o).base
named_length storage c x None h = tt
named_length storage c x (Some d) h = type_name_length storage c x d.name d.type d.means d.is_static d.is_filled (h d refl)

abbrev SameNames : (s q : Known) → Type 0
SameNames s q = (q.names ≡ s.names) × (q.means ≡ s.means)

either_same : (s : Known) (c : Bool) (x y : Tagging) → SameNames s x.known → SameNames s y.known → SameNames s (if c then x else y).known
either_same s true x y h k = h
either_same s false x y h k = k

known_tag_same : (t : TagName) (has_body : Bool) (s : Known) → SameNames s (known_tag t has_body s).known
known_tag_same t true s = (refl, refl)
known_tag_same t false s = (refl, refl)

tag_from_same : (o : Option TagName) (keyword : Keyword) (name : List ℕ) (has_body : Bool) (s : Known) → SameNames s (tag_from o keyword name has_body s).known
tag_from_same None keyword name has_body s = (refl, refl)
tag_from_same (Some t) keyword name has_body s =
    either_same s _ (known_tag t has_body s) (new_tag (Redeclared name ∷ []) keyword name has_body s) (known_tag_same t has_body s) (refl, refl)

tagged_same : (keyword : Keyword) (name : List ℕ) (has_body : Bool) (s : Known) → SameNames s (tagged_as keyword name has_body s).known
tagged_same keyword name has_body s =
    either_same s (is_nameless name) (new_tag [] keyword name has_body s) (tag_from _ keyword name has_body s) (refl, refl)
    (tag_from_same _ keyword name has_body s)

same_closed : (s q : Known) → SameNames s q → IsClosed s → IsClosed q
same_closed s q e h =
    record { names = subst (λ levels. LevelsAreClosed levels) (sym e.0) h.names; means = subst (λ ms. AllName ms) (sym e.1) h.means }

head_opens : (storage : Storage) (c : Context) (h : Head) (s : Known) → HeadIsClosed h → IsClosed s → OpensClosed (of_head storage c h s)
head_opens storage c (Words type) s k v = record { base = k; known = v }
head_opens storage c (Named x) s k v =
    record { base = named_length storage c x (in_levels x s.names) (λ d e. in_levels_closed x s.names d v.names e); known = v }
head_opens storage c (Structure is_union name members) s k v = record { base = tt; known = same_closed s _ (tagged_same _ name _ s) v }
head_opens storage c (Enumeration name count) s k v = record { base = tt; known = same_closed s _ (tagged_same Enum name _ s) v }

pub opens_closed : (k : Kind) (c : Context) (s : Known) → IsClosed s → OpensClosed (opened k c s)
opens_closed (kind.Declaration spec inits) c s v = head_opens _ c _ s (head_closed nothing_said spec.words) v
opens_closed (kind.Function spec) c s v =
    head_opens (storage_of spec.words) c (head_of spec.words) (record s { autos = 0 }) (head_closed nothing_said spec.words)
    (record { names = v.names; means = v.means })
opens_closed (kind.Member spec) c s v = head_opens _ c _ s (head_closed nothing_said spec.words) v
opens_closed (kind.Param spec) c s v = head_opens _ c _ s (head_closed nothing_said spec.words) v
opens_closed (kind.NamedType spec) c s v = head_opens _ c _ s (head_closed nothing_said spec.words) v
opens_closed kind.Block c s v = record { base = tt; known = record { names = (tt, v.names); means = v.means } }
opens_closed (kind.Params inner void_word) c s v = record { base = tt; known = record { names = (tt, v.names); means = v.means } }
opens_closed _ c s v = record { base = tt; known = v }

-- CLOSED DECLARATORS, without a length from an initialiser

made_as : (type made : TypeTree) (r : Result TypeTree Rule) → HasItsLength type → r ≡ Ok type → r ≡ Ok made → HasItsLength made
made_as type made r h d e = let z : type ≡ made = cc in subst (λ t. HasItsLength t) z h

pub unless_made : (rules : List Rule) (type made : TypeTree) → unless_rules rules type ≡ Ok made → (rules ≡ []) × (type ≡ made)
unless_made [] type made e = (refl, cc)
unless_made (rule ∷ rules) type made e = cc

pub sized_length : (rules : List Rule) (tags : Tags) (type : TypeTree) (c : Constant) (made : TypeTree)
    → unless_rules (rules ++ array_rules tags type c) (Array type (word_of c)) ≡ Ok made → HasItsLength made
sized_length rules tags type NotConstant made e =
    let z : BadConstant ∷ [] ≡ [] = last_empty rules (BadConstant ∷ []) (unless_made (rules ++ BadConstant ∷ []) (Array type 0) made e).0 in cc
sized_length rules tags type Undefined made e =
    let z : BadConstant ∷ [] ≡ [] = last_empty rules (BadConstant ∷ []) (unless_made (rules ++ BadConstant ∷ []) (Array type 0) made e).0 in cc
sized_length rules tags type Null made e =
    let z : BadConstant ∷ [] ≡ [] = last_empty rules (BadConstant ∷ []) (unless_made (rules ++ BadConstant ∷ []) (Array type 0) made e).0 in cc
sized_length rules tags type (constants.Value zero) made e =
    let z : BadConstant ∷ [] ≡ [] = last_empty rules (BadConstant ∷ []) (unless_made (rules ++ BadConstant ∷ []) (Array type 0) made e).0 in cc
sized_length rules tags type (constants.Value (suc n)) made e =
    subst (λ t. HasItsLength t) (unless_made (rules ++ array_rules tags type (constants.Value (suc n))) (Array type (suc n)) made e).1 tt

unsized_never : (rules : List Rule) (b : Bool) (type made : TypeTree) → unless_rules (rules ++ breaks_if (not (b && false)) BadConstant) type ≡ Ok made → ⊥
unsized_never rules true type made e =
    let z : BadConstant ∷ [] ≡ [] = last_empty rules (BadConstant ∷ []) (unless_made (rules ++ BadConstant ∷ []) type made e).0 in cc
unsized_never rules false type made e =
    let z : BadConstant ∷ [] ≡ [] = last_empty rules (BadConstant ∷ []) (unless_made (rules ++ BadConstant ∷ []) type made e).0 in cc

shaped_length : (tags : Tags) (is_outermost : Bool) (shape : Shape) (type made : TypeTree) → HasItsLength type → shaped tags ByNothing is_outermost shape type ≡ Ok made
    → HasItsLength made
shaped_length tags is_outermost (Names name) type made h e = made_as type made (Ok type) h refl e
shaped_length tags is_outermost Keeps type made h e = made_as type made (Ok type) h refl e
shaped_length tags is_outermost Points type made h e = made_as (Pointer type) made (Ok (Pointer type)) tt refl e
shaped_length tags is_outermost (Sized c) type made h e = sized_length (breaks_if (not (is_complete tags type)) Incomplete) tags type c made e
shaped_length tags is_outermost Unsized type made h e =
    absurd (unsized_never (breaks_if (not (is_complete tags type)) Incomplete) is_outermost (Array type 0) made e)
shaped_length tags is_outermost (Takes parameters level) type made h e =
    subst (λ t. HasItsLength t) (unless_made (breaks_if (is_array type || (is_function type || is_structure type)) BadOperands) (Function type parameters) made e).1 tt

pub step_made : (number : ℕ) (m : Result TypeTree Rule) (made : TypeTree) → broken_at number m ≡ Ok made → m ≡ Ok made
step_made number (Ok x) made e = let z : x ≡ made = cc in ap (λ y. Ok y) z
step_made number (Err rule) made e = cc

from_length : (tags : Tags) (type : TypeTree) (steps : List Step) (types : List TypeTree) (made : TypeTree × List TypeTree) → HasItsLength type
    → closed_from tags ByNothing type steps types ≡ Ok made → HasItsLength made.0
from_length tags type [] types made h e = let z : (type, types) ≡ made = cc in subst (λ m. HasItsLength m.0) z h
from_length tags type (step ∷ steps) types made h e =
    let r = then_of (broken_at step.number (shaped tags ByNothing (list_all makes_no_type steps) step.shape type))
    (λ made. closed_from tags ByNothing made steps (slice_set types step.number made)) made e in
    let g = shaped_length tags (list_all makes_no_type steps) step.shape type r.0 h
    (step_made step.number (shaped tags ByNothing (list_all makes_no_type steps) step.shape type) r.0 r.1) in
    from_length tags r.0 steps (slice_set types step.number r.0) made g r.2

pub closed_length : (tags : Tags) (base : TypeTree) (steps : List Step) (types : List TypeTree) (made : TypeTree × List TypeTree) → HasItsLength base
    → closed tags ByNothing base steps types ≡ Ok made → HasItsLength made.0
closed_length tags base steps types made h e = from_length tags base (reverse steps) types made h e

named_is : (last : ℕ) (rules : Option TypeTree → List Rule) (m : Result (TypeTree × List TypeTree) Broken) (made : TypeTree × List TypeTree)
    → named_with last rules m ≡ Ok made → m ≡ Ok made
named_is last rules (Ok x) made e = ap (λ y. Ok y) (unless_of (broken_rules last (rules (Some x.0))) x made e)
named_is last rules (Err broken) made e = cc

no_rules : {A : Type 0} (number : ℕ) (rules : List Rule) (x y : A) → unless (broken_rules number rules) x ≡ Ok y → rules ≡ []
no_rules number [] x y e = refl
no_rules number (r ∷ rs) x y e = cc

pub named_none : (last : ℕ) (rules : Option TypeTree → List Rule) (m : Result (TypeTree × List TypeTree) Broken) (made : TypeTree × List TypeTree)
    → named_with last rules m ≡ Ok made → rules (Some made.0) ≡ []
named_none last rules (Ok x) made e =
    let z = unless_of (broken_rules last (rules (Some x.0))) x made e in
    ap (λ y. rules (Some y.0)) (sym z) ∙ no_rules last (rules (Some x.0)) x made e
named_none last rules (Err b) made e = cc

-- PARTS: the names of parameter lists, and the types of declared objects where they are asked for

abbrev ShapeIsClosed : Shape → Type 0
ShapeIsClosed (Takes parameters level) = LevelIsClosed level
ShapeIsClosed (Names name) = Unit {0}
ShapeIsClosed Keeps = Unit {0}
ShapeIsClosed Points = Unit {0}
ShapeIsClosed (Sized c) = Unit {0}
ShapeIsClosed Unsized = Unit {0}

abbrev pub StepsAreClosed : List Step → Type 0
StepsAreClosed [] = Unit {0}
StepsAreClosed (step ∷ steps) = ShapeIsClosed step.shape × StepsAreClosed steps

abbrev pub PartIsClosed : (asked : TypeTree → Type 0) → Part → Type 0
PartIsClosed asked (Declarator steps) = StepsAreClosed steps
PartIsClosed asked (Object type steps last role) = asked type × StepsAreClosed steps
PartIsClosed asked (Value o) = Unit {0}
PartIsClosed asked (Members members) = Unit {0}
PartIsClosed asked (Enumerator x value) = Unit {0}
PartIsClosed asked (Parameter type) = Unit {0}
PartIsClosed asked (NamedType type) = Unit {0}
PartIsClosed asked (Braced count) = Unit {0}
PartIsClosed asked (Filled next) = Unit {0}
PartIsClosed asked (CaseLabel word) = Unit {0}
PartIsClosed asked DefaultLabel = Unit {0}
PartIsClosed asked Statement = Unit {0}

abbrev pub PartsAreClosed : (asked : TypeTree → Type 0) → List Part → Type 0
PartsAreClosed asked [] = Unit {0}
PartsAreClosed asked (part ∷ parts) = PartIsClosed asked part × PartsAreClosed asked parts

-- a named type asks that its type has its length
abbrev pub Asked : Kind → TypeTree → Type 0
Asked (kind.NamedType spec) type = HasItsLength type
Asked k type = Unit {0}

steps_append : (xs ys : List Step) → StepsAreClosed xs → StepsAreClosed ys → StepsAreClosed (xs ++ ys)
steps_append [] ys h g = g
steps_append (x ∷ xs) ys h g = (h.0, steps_append xs ys h.1 g)

pub parts_append : (asked : TypeTree → Type 0) (before : List Part) (part : Part) → PartsAreClosed asked before → PartIsClosed asked part
    → PartsAreClosed asked (before ++ part ∷ [])
parts_append asked [] part h g = (g, tt)
parts_append asked (p ∷ ps) part h g = (h.0, parts_append asked ps part h.1 g)

inner_closed : (asked : TypeTree → Type 0) (parts : List Part) → PartsAreClosed asked parts → StepsAreClosed (inner_steps parts)
inner_closed asked [] h = tt
inner_closed asked (Declarator steps ∷ parts) h = h.0
inner_closed asked (_ ∷ parts) h = tt

abbrev ListIsClosed : Option (List Declared) → Type 0
ListIsClosed None = Unit {0}
ListIsClosed (Some level) = LevelIsClosed level

own_by : (number : ℕ) (shape : Shape) (steps : List Step) → ShapeIsClosed shape → ListIsClosed (own_list steps)
    → ListIsClosed (own_list (record { number = number; shape = shape } ∷ steps))
own_by number (Names name) steps h g = g
own_by number Keeps steps h g = g
own_by number Points steps h g = tt
own_by number (Sized c) steps h g = tt
own_by number Unsized steps h g = tt
own_by number (Takes parameters level) steps h g = h

own_closed : (steps : List Step) → StepsAreClosed steps → ListIsClosed (own_list steps)
own_closed [] h = tt
own_closed (step ∷ steps) h = own_by step.number step.shape steps h.0 (own_closed steps h.1)

list_closed : (o : Option (List Declared)) → ListIsClosed o → LevelIsClosed (names_of_list o)
list_closed None h = tt
list_closed (Some level) h = h

abbrev ObjectHasLength : Option Part → Type 0
ObjectHasLength (Some (Object type steps last role)) = HasItsLength type
ObjectHasLength o = Unit {0}

or_length : (o : Option Part) (part : Part) → ObjectHasLength o → PartIsClosed (λ type. HasItsLength type) part → ObjectHasLength (or_object o part)
or_length (Some later) part h g = h
or_length None (Object type steps last role) h g = g.0
or_length None _ h g = tt

last_length : (parts : List Part) → PartsAreClosed (λ type. HasItsLength type) parts → ObjectHasLength (last_object parts)
last_length [] h = tt
last_length (part ∷ parts) h = or_length (last_object parts) part (last_length parts h.1) h.0

type_length : (o : Option Part) (base : TypeTree) → ObjectHasLength o → HasItsLength base → HasItsLength (object_type o base)
type_length (Some (Object type steps last role)) base h g = h
type_length _ base h g = g

-- NODES

abbrev GivesClosed : (asked : TypeTree → Type 0) → Judged → Type 0
GivesClosed asked m = (r : Part × Known) → m ≡ Ok r → IsClosed r.1 × PartIsClosed asked r.0

abbrev pub Never : TypeTree → Type 0
Never type = ⊥

abbrev pub Any : TypeTree → Type 0
Any type = Unit {0}

err_closed : (asked : TypeTree → Type 0) (broken : Broken) → GivesClosed asked (Err broken)
err_closed asked broken r e = cc

ok_closed : (asked : TypeTree → Type 0) (q : Known) (part : Part) → IsClosed q → PartIsClosed asked part → GivesClosed asked (Ok (part, q))
ok_closed asked q part h f r e = let z : (part, q) ≡ r = cc in subst (λ x. IsClosed x.1 × PartIsClosed asked x.0) z (h, f)

if_closed : (asked : TypeTree → Type 0) (c : Bool) (x y : Judged) → GivesClosed asked x → GivesClosed asked y → GivesClosed asked (if c then x else y)
if_closed asked true x y h g = h
if_closed asked false x y h g = g

unless_closed : (asked : TypeTree → Type 0) (broken : List Broken) (q : Known) (part : Part) → IsClosed q → PartIsClosed asked part
    → GivesClosed asked (unless broken (part, q))
unless_closed asked broken q part h f r e = ok_closed asked q part h f r (ap (λ x. Ok x) (unless_of broken (part, q) r e))

has_closed : (rules : List Rule) (type : TypeTree) (means : Meant) (part : Part) (q : Known) → IsClosed q → NamesItsLength means → PartIsClosed Never part
    → GivesClosed Never (has rules type means part q)
has_closed rules type means part q v m f =
    unless_closed Never (broken_rules (next_node q) rules) (with_node type means q) part
    (record { names = v.names; means = all_append q.means (means ∷ []) v.means (m, tt) }) f

module _ (s : Known) (v : IsClosed s) where
  brackets_closed : (parts : List Part) → PartsAreClosed Any parts → GivesClosed Never (judged_brackets parts s)
  brackets_closed [] h = has_closed [] Void Nothing _ s v tt (tt, tt)
  brackets_closed (Value o ∷ []) h = has_closed [] Void Nothing _ s v tt (tt, tt)
  brackets_closed (Declarator steps ∷ []) h = has_closed [] Void Nothing _ s v tt (steps_append steps _ h.0 (tt, tt))
  brackets_closed (Declarator steps ∷ (Value o ∷ [])) h = has_closed [] Void Nothing _ s v tt (steps_append steps _ h.0 (tt, tt))
  brackets_closed _ h = err_closed Never (at_node (next_node s) Malformed)

  name_closed : (x : List ℕ) (o : Option Declared) → in_levels x s.names ≡ o → GivesClosed Never (judged_name x o s)
  name_closed x None e = err_closed Never (at_node (next_node s) (Undeclared x))
  name_closed x (Some d) e = has_closed _ d.type d.means _ s v (in_levels_closed x s.names d v.names e) tt

  statics_closed : IsClosed (record s { statics = s.statics + 1 })
  statics_closed = record { names = v.names; means = v.means }

  text_closed : (type : TypeTree) (role : Role) → GivesClosed Never (judged_text type role s)
  text_closed type role =
      if_closed Never (is_filled_by_text role) _ _ (has_closed [] type Nothing _ s v tt tt)
      (has_closed _ type (Static s.statics) _ (record s { statics = s.statics + 1 }) statics_closed tt tt)

  decl_name_closed : (x : List ℕ) (role : Role) → GivesClosed Never (judged_decl_name x role s)
  decl_name_closed x role =
      if_closed Never (is_block_static role) _ _
      (has_closed [] Void (Static s.statics) _ (record s { statics = s.statics + 1 }) statics_closed tt (tt, tt))
      (has_closed [] Void Nothing _ s v tt (tt, tt))

  enumerator_closed : (x : List ℕ) (parts : List Part) → GivesClosed Never (judged_enumerator x parts s)
  enumerator_closed x [] = has_closed [] Int Nothing _ s v tt tt
  enumerator_closed x (Value o ∷ []) = has_closed [] Int Nothing _ s v tt tt
  enumerator_closed x _ = err_closed Never (at_node (next_node s) Malformed)

  entry_closed : (entry_by : EntryBy) (role : Role) (parts : List Part) → GivesClosed Never (judged_entry entry_by role parts s)
  entry_closed entry_by (EntryOf list next) parts = has_closed _ _ Nothing _ s v tt tt
  entry_closed entry_by _ parts = err_closed Never (at_node (next_node s) Malformed)

  as_closed : (k : Kind) (operands : List Operand) (m : Result Verdict Rule) → GivesClosed Never (judged_as k operands m s)
  as_closed k operands (Ok w) = has_closed [] w.type Nothing _ s v tt tt
  as_closed k operands (Err rule) = err_closed Never (at_node (next_node s) rule)

  expression_closed : (k : Kind) (role : Role) (operands : Option (List Operand)) → GivesClosed Never (judged_expression k role operands s)
  expression_closed k role None = err_closed Never (at_node (next_node s) Malformed)
  expression_closed k role (Some operands) = as_closed k operands (verdict s.tags (is_whole role) k operands)

  level_closed : IsClosed (close_level s)
  level_closed = record { names = around_closed s.names v.names; means = v.means }

  block_closed : IsClosed (close_block s)
  block_closed = record { names = around_closed s.names v.names; means = v.means }

  judged_closed : (k : Kind) (f : Frame) (parts : List Part) → HasItsLength f.base → PartsAreClosed (Asked k) parts → GivesClosed Never (judged k f parts s)
  judged_closed (kind.Declaration spec inits) f parts b h = has_closed _ Void Nothing Statement s v tt tt
  judged_closed (kind.Function spec) f parts b h = has_closed _ Void Nothing Statement (close_level s) level_closed tt tt
  judged_closed (kind.Member spec) f parts b h = has_closed _ Void Nothing _ s v tt tt
  judged_closed (kind.EnumConst x valued) f parts b h = enumerator_closed x parts
  judged_closed (kind.DeclName x) f parts b h = decl_name_closed x f.context.role
  judged_closed (kind.Star volatiles) f parts b h = has_closed [] Void Nothing _ s v tt (steps_append (inner_steps parts) _ (inner_closed Any parts h) (tt, tt))
  judged_closed (kind.Brackets inner sized) f parts b h = brackets_closed parts h
  judged_closed (kind.Params inner void_word) f parts b h =
      has_closed [] Void Nothing _ (close_level s) level_closed tt
      (steps_append (inner_steps parts) _ (inner_closed Any parts h) (innermost_closed s.names v.names, tt))
  judged_closed kind.DeclParens f parts b h = has_closed [] Void Nothing _ s v tt (steps_append (inner_steps parts) _ (inner_closed Any parts h) (tt, tt))
  judged_closed (kind.Param spec) f parts b h = has_closed _ _ Nothing _ s v tt tt
  judged_closed (kind.NamedType spec) f parts b h =
      has_closed _ (object_type (last_object parts) f.base) (TypeName (object_type (last_object parts) f.base)) _ s v
      (type_length (last_object parts) f.base (last_length parts h) b) tt
  judged_closed (kind.InitList comma) f parts b h = has_closed [] _ Nothing _ s v tt tt
  judged_closed (kind.Entry entry_by equals) f parts b h = entry_closed entry_by f.context.role parts
  judged_closed kind.Block f parts b h = has_closed [] Void Nothing Statement (close_block s) block_closed tt tt
  judged_closed kind.Expression f parts b h = has_closed [] Void Nothing Statement s v tt tt
  judged_closed kind.If f parts b h = has_closed _ Void Nothing Statement s v tt tt
  judged_closed kind.While f parts b h = has_closed _ Void Nothing Statement s v tt tt
  judged_closed kind.Do f parts b h = has_closed _ Void Nothing Statement s v tt tt
  judged_closed (kind.For first test step) f parts b h = has_closed _ Void Nothing Statement s v tt tt
  judged_closed kind.Switch f parts b h = has_closed _ Void Nothing Statement s v tt tt
  judged_closed kind.Case f parts b h = has_closed _ Void Nothing _ s v tt tt
  judged_closed kind.Default f parts b h = has_closed [] Void Nothing DefaultLabel s v tt tt
  judged_closed kind.Break f parts b h = has_closed _ Void Nothing Statement s v tt tt
  judged_closed kind.Continue f parts b h = has_closed _ Void Nothing Statement s v tt tt
  judged_closed kind.Return f parts b h = has_closed _ Void Nothing Statement s v tt tt
  judged_closed (kind.Name x) f parts b h = name_closed x (in_levels x s.names) refl
  judged_closed (kind.Text texts) f parts b h = text_closed (text_type texts) f.context.role
  judged_closed k f parts b h = expression_closed k f.context.role (operands_of parts)

  -- WHAT PARTS MEAN

  if_names : (c : Bool) (x y : Meant) → (c ≡ true → NamesItsLength x) → NamesItsLength y → NamesItsLength (if c then x else y)
  if_names true x y h g = h refl
  if_names false x y h g = g

  meaning_closed : (d : Declaring) (n : NameNode) (type : TypeTree) (types : List TypeTree) → (is_typedef d.storage ≡ true → HasItsLength type)
      → NamesItsLength (declared_meaning d n type (record s { types = types }))
  meaning_closed d n type types h =
      if_names (is_typedef d.storage) (TypeName type) _ h
      (if_names d.is_at_file (Outer n.name) _ (λ e. tt)
      (if_names (is_static d.storage) (unwrap_or (slice_get s.means n.number) Nothing) (Auto s.autos) (λ e. all_get s.means n.number v.means) tt))

  -- one name more, whose node means it too
  declared_known : (q : Known) (d : Declared) (m : ℕ) → NamesItsLength d.means → q.names ≡ (d ∷ innermost s.names) ∷ around s.names
      → q.means ≡ slice_set s.means m d.means → IsClosed q
  declared_known q d m h a c =
      record {
        names = subst (λ levels. LevelsAreClosed levels) (sym a) ((h, innermost_closed s.names v.names), around_closed s.names v.names);
        means = subst (λ ms. AllName ms) (sym c) (all_set s.means m d.means v.means h);
      }

  -- only what has no initialiser may name a type
  pub no_initialiser : (d : Declaring) (tags : Tags) (x : List ℕ) (old : Option Declared) (type : TypeTree) → naming_rules tags d x old (Some type) ≡ []
      → is_typedef d.storage ≡ true → d.has_initialiser ≡ false
  no_initialiser d tags x old type e t =
      by (is_typedef d.storage) d.has_initialiser t
      (first_empty (breaks_if (is_typedef d.storage && d.has_initialiser) BadOperands) (type_rules tags d (Some type))
      (last_empty (repeat_rules d x old (Some type)) (breaks_if (is_typedef d.storage && d.has_initialiser) BadOperands ++ type_rules tags d (Some type)) e))
    where
      by : (a b : Bool) → a ≡ true → breaks_if (a && b) BadOperands ≡ [] → b ≡ false
      by true true t e = cc
      by true false t e = refl
      by false b t e = cc

  object_closed : (d : Declaring) (by : LengthBy) (base : TypeTree) (steps : List Step) (name : Option NameNode) → (d.has_initialiser ≡ false → by ≡ ByNothing)
      → HasItsLength base → StepsAreClosed steps → GivesClosed Any (declare_object d by base steps name s)
  object_closed d by base steps None w b h r e = err_closed Any (at_node (last_node s) Malformed) r e
  object_closed d by base steps (Some n) w b h r e =
      let rules = naming_rules s.tags d n.name (in_level n.name (innermost s.names)) in
      let made = then_of (named_with (last_node s) rules (closed s.tags by base steps s.types)) _ r e in
      let none = named_none (last_node s) rules (closed s.tags by base steps s.types) made.0 made.1 in
      let there = named_is (last_node s) rules (closed s.tags by base steps s.types) made.0 made.1 in
      let length : is_typedef d.storage ≡ true → HasItsLength made.0.0 =
      λ t. closed_length s.tags base steps s.types made.0 b
      (ap (λ y. closed s.tags y base steps s.types) (sym (w (no_initialiser d s.tags n.name (in_level n.name (innermost s.names)) made.0.0 none t))) ∙ there) in
      ok_closed Any (declare_as d n made.0.0 (record s { types = made.0.1 })) (Object made.0.0 steps (last_node s) (initialiser_role d made.0.0))
      (declared_known (declare_as d n made.0.0 (record s { types = made.0.1 }))
      (record {
        name = n.name;
        type = made.0.0;
        means = declared_meaning d n made.0.0 (record s { types = made.0.1 });
        is_static = is_static d.storage;
        is_filled = d.has_initialiser || d.has_body;
      })
      n.number (meaning_closed d n made.0.0 made.0.1 length) refl refl)
      (tt, h) r made.2

  function_closed : (steps : List Step) (m : Judged) → StepsAreClosed steps → GivesClosed Any m → GivesClosed Any (and_then m (with_body_open steps))
  function_closed steps m h g r e =
      let x = then_of m (with_body_open steps) r e in
      let y = g x.0 x.1 in
      let k = y.0 in
      ok_closed Any _ x.0.0 (record { names = (list_closed (own_list steps) (own_closed steps h), k.names); means = k.means }) y.1 r x.2

  types_closed : (types : List TypeTree) → IsClosed (record s { types = types })
  types_closed types = record { names = v.names; means = v.means }

  member_closed : (f : Frame) (before : List Part) (steps : List Step) (name : Option NameNode) → StepsAreClosed steps
      → GivesClosed Any (declare_member f before steps name s)
  member_closed f before steps None h r e = err_closed Any (at_node (last_node s) Malformed) r e
  member_closed f before steps (Some n) h r e =
      let made = then_of _ (λ made. Ok (Object made.0 steps (last_node s) Plain, record s { types = made.1 })) r e in
      ok_closed Any (record s { types = made.0.1 }) _ (types_closed made.0.1) (tt, h) r made.2

  parameter_names : (role : Role) → NamesItsLength (parameter_meaning role)
  parameter_names (ParameterOf true number) = tt
  parameter_names _ = tt

  parameter_closed : (f : Frame) (steps : List Step) (name : Option NameNode) → StepsAreClosed steps → GivesClosed Any (declare_parameter f steps name s)
  parameter_closed f steps None h r e =
      let made = then_of _ (λ made. Ok (Object (adjusted made.0) steps (last_node s) Plain, record s { types = made.1 })) r e in
      ok_closed Any (record s { types = made.0.1 }) _ (types_closed made.0.1) (tt, h) r made.2
  parameter_closed f steps (Some n) h r e =
      let made = then_of _ (λ made. Ok (Object (adjusted made.0) steps (last_node s) Plain, declared_parameter f n made s)) r e in
      ok_closed Any (declared_parameter f n made.0 s) _
      (declared_known (declared_parameter f n made.0 s)
      (record {
        name = n.name;
        type = adjusted made.0.0;
        means = parameter_meaning f.context.role;
        is_static = false;
        is_filled = false;
      })
      n.number (parameter_names f.context.role) refl refl)
      (tt, h) r made.2

  type_closed : (f : Frame) (steps : List Step) → HasItsLength f.base → StepsAreClosed steps → GivesClosed (λ type. HasItsLength type) (close_type f steps s)
  type_closed f steps b h r e =
      let made = then_of (closed s.tags ByNothing f.base steps s.types) (λ made. Ok (Object made.0 steps (last_node s) Plain, record s { types = made.1 })) r e in
      ok_closed (λ type. HasItsLength type) (record s { types = made.0.1 }) _ (types_closed made.0.1)
      (closed_length s.tags f.base steps s.types made.0 b made.1, h) r made.2

  without_initialiser : (next : Follows) → has_initialiser next ≡ false → length_by next ≡ ByNothing
  without_initialiser NoInitialiser e = refl
  without_initialiser _ e = cc

  declared_closed : (k : Kind) (f : Frame) (before : List Part) (steps : List Step) (rest : SyntaxRow) → HasItsLength f.base → StepsAreClosed steps
      → GivesClosed (Asked k) (declared k f before steps rest s)
  declared_closed (kind.Declaration spec inits) f before steps rest b h =
      object_closed (object_declaring f (follows rest) s) (length_by (follows rest)) f.base steps (name_of steps) (without_initialiser (follows rest)) b h
  declared_closed (kind.Function spec) f before steps rest b h =
      function_closed steps _ h (object_closed (function_declaring f) ByNothing f.base steps (name_of steps) (λ e. refl) b h)
  declared_closed (kind.Member spec) f before steps rest b h = member_closed f before steps (name_of steps) h
  declared_closed (kind.Param spec) f before steps rest b h = parameter_closed f steps (name_of steps) h
  declared_closed (kind.NamedType spec) f before steps rest b h = type_closed f steps b h
  declared_closed k f before steps rest b h = ok_closed (Asked k) s (Declarator steps) v h

  constant_names : (c : Constant) → NamesItsLength (constant_meaning c)
  constant_names NotConstant = tt
  constant_names Undefined = tt
  constant_names Null = tt
  constant_names (constants.Value word) = tt

  enumerated_closed : (asked : TypeTree → Type 0) (x : List ℕ) (value : Constant) → GivesClosed asked (enumerated x value s)
  enumerated_closed asked x value =
      unless_closed asked _ _ _
      (declared_known _ (record { name = x; type = Int; means = constant_meaning value; is_static = false; is_filled = false }) (last_node s)
      (constant_names value) refl refl) tt

  complete_closed : (is_last : Bool) (tag : Option ℕ) (members : List MemberTree) → IsClosed (complete_if is_last tag members s)
  complete_closed is_last None members = v
  complete_closed false (Some number) members = v
  complete_closed true (Some number) members = record { names = v.names; means = v.means }

  given_length_closed : (base : TypeTree) (steps : List Step) (last count : ℕ) (x : List ℕ) (q : Known) → with_given_length base steps last count x s ≡ Ok q → IsClosed q
  given_length_closed base steps last count x q e =
      let made = then_of _ (λ made. Ok (record s { types = made.1; names = retyped x made.0 (innermost s.names) ∷ around s.names })) q e in
      let m = made.2 in
      let z : record s { types = made.0.1; names = retyped x made.0.0 (innermost s.names) ∷ around s.names } ≡ q = cc in
      subst (λ y. IsClosed y) z
      (record {
        names = (retyped_closed x made.0.0 (innermost s.names) (innermost_closed s.names v.names), around_closed s.names v.names);
        means = v.means;
      })

  unchanged_closed : (q : Known) (m : Result Known Broken) → m ≡ Ok s → m ≡ Ok q → IsClosed q
  unchanged_closed q m d e = let z : s ≡ q = cc in subst (λ x. IsClosed x) z v

  given_closed : (base : TypeTree) (object : Option Part) (part : Part) (q : Known) → with_length_given base object part s ≡ Ok q → IsClosed q
  given_closed base (Some (Object (Array element zero) steps last role)) part q e =
      given_length_closed base steps last (given_length part) (name_in (name_of steps)) q e
  given_closed base _ part q e = unchanged_closed q (Ok s) refl e

  initialised_closed : (k : Kind) (f : Frame) (before : List Part) (part : Part) → PartIsClosed (Asked k) part → GivesClosed (Asked k) (initialised k f before part s)
  initialised_closed (kind.Declaration spec inits) f before part l r e =
      let x = then_of (with_length_given f.base (last_object before) part s) _ r e in
      unless_closed Any _ x.0 part (given_closed f.base (last_object before) part x.0 x.1) l r x.2
  initialised_closed (kind.Entry entry_by equals) f before part l r e =
      if_closed Any (is_index_next entry_by before) _ _ (ok_closed Any s part v l) (unless_closed Any _ s part v l) r e
  initialised_closed k f before part l r e = ok_closed (Asked k) s part v l r e

  pub behind_closed : (k : Kind) (f : Frame) (before : List Part) (part : Part) (rest : SyntaxRow) → HasItsLength f.base → PartIsClosed Never part
      → GivesClosed (Asked k) (behind k f before part rest s)
  behind_closed k f before (Value o) rest b l = initialised_closed k f before (Value o) tt
  behind_closed k f before (Braced count) rest b l = initialised_closed k f before (Braced count) tt
  behind_closed k f before (Declarator steps) rest b l = declared_closed k f before steps rest b l
  behind_closed k f before (Enumerator x value) rest b l = enumerated_closed (Asked k) x (enumerator_value before value)
  behind_closed k f before (Members members) rest b l =
      ok_closed (Asked k) (with_members f before (Members members) s) (Members members)
      (complete_closed (suc (length before) == f.braces) f.tag (members_in (before ++ Members members ∷ []))) tt
  behind_closed k f before (CaseLabel word) rest b l = unless_closed (Asked k) _ s (CaseLabel word) v tt
  behind_closed k f before DefaultLabel rest b l = unless_closed (Asked k) _ s DefaultLabel v tt
  behind_closed k f before (Object type steps last role) rest b l = absurd l.0
  behind_closed k f before (Parameter type) rest b l = ok_closed (Asked k) s (Parameter type) v tt
  behind_closed k f before (NamedType type) rest b l = ok_closed (Asked k) s (NamedType type) v tt
  behind_closed k f before (Filled next) rest b l = ok_closed (Asked k) s (Filled next) v tt
  behind_closed k f before Statement rest b l = ok_closed (Asked k) s Statement v tt

-- THE RECURSION

mutual
  pub judge_closed : (t : Syntax) (c : Context) (s : Known) → IsClosed s → GivesClosed Never (judge t c s)
  judge_closed (node k at parts) c s v r e =
      let z = with_rules_is _ (role_rules c.role k) (and_then (judge_parts k (opened k c s).0 [] parts (opened k c s).1) _) r e in
      let x = then_of (judge_parts k (opened k c s).0 [] parts (opened k c s).1) _ r z in
      let o = opens_closed k c s v in
      let p = parts_closed k (opened k c s).0 [] parts (opened k c s).1 o.base o.known tt x.0 x.1 in
      judged_closed x.0.1 p.0 k (opened k c s).0 x.0.0 o.base p.1 r x.2

  pub parts_closed : (k : Kind) (f : Frame) (before : List Part) (ts : SyntaxRow) (s : Known) → HasItsLength f.base → IsClosed s → PartsAreClosed (Asked k) before
      → (r : List Part × Known) → judge_parts k f before ts s ≡ Ok r → IsClosed r.1 × PartsAreClosed (Asked k) r.0
  parts_closed k f before none s b v h r e =
      let z : (before, s) ≡ r = cc in subst (λ x. IsClosed x.1 × PartsAreClosed (Asked k) x.0) z (v, h)
  parts_closed k f before (more t ts) s b v h r e =
      let x = then_of (judge t (context k f before (kind_at t) s) s) _ r e in
      let y = then_of (behind k f before x.0.0 ts x.0.1) _ r x.2 in
      let first = judge_closed t (context k f before (kind_at t) s) s v x.0 x.1 in
      let second = behind_closed x.0.1 first.0 k f before x.0.0 ts b first.1 y.0 y.1 in
      parts_closed k f (before ++ y.0.0 ∷ []) ts y.0.1 b second.0 (parts_append (Asked k) before y.0.0 h second.1) r y.2

pub typedefs_have_lengths : TypedefsHaveLengths
typedefs_have_lengths t c s r v e = (judge_closed t c s v r e).0
