-- Typing adds one type and one meaning for each node, and structures keep what bodies they have.
use Rattle.std.proofs.Common.{◌≡◌, ℕ, zero, suc, ◌+◌, Bool, true, false, not, ◌==◌, if◌then◌else◌, List, [], ◌∷◌, ◌++◌, length, length-append, slice_set, reverse, map, Option, Some, None, Result, Ok, Err, refl, sym, ap, subst, ◌∙◌, arith}
use Rattle.std.specs.List.{list_all}
use Rattle.std.proofs.lemmas.List.{length-set}
use Rattle.p9_lang.specs.Names.{is_nameless, is_among}
use Rattle.p9_lang.specs.declared.tree.Kind.{Kind}
use Rattle.p9_lang.specs.declared.tree.Kind.TheVariants as kind
use Rattle.p9_lang.specs.declared.tree.EntryBy.{EntryBy}
use Rattle.p9_lang.specs.Trees.{node, none, more, Syntax, SyntaxRow, nodes_of, nodes_of_row}
use Rattle.p9_lang.specs.Types.{TypeTree, Void, Int, Array, Meant, Nothing, Static, MemberTree, Tags}
use Rattle.p9_lang.specs.Rules.{Rule, Malformed, Incomplete, BadOperands, BadConstant, breaks_if, Undeclared, Redeclared, at_node, Broken, unless, and_then, first_of}
use Rattle.p9_lang.specs.Scopes.{Known, Declared, Keyword, TagName, Tagging, known_first, tag_from, known_tag, new_tag, new_structure, tagged_as, with_node, next_node, close_level, close_block, in_levels, in_level, innermost, around, Struct, Union, Enum}
use Rattle.p9_lang.specs.Declarators.{LengthBy, Step, Shape, Unsized, Sized, Points, Keeps, Head, Storage, NameNode, Words, Named, Structure, Enumeration, head_of, storage_of, closed, closed_from, shaped, broken_at, makes_no_type, with_length, adjusted, name_of, naming_rules, sized_rules, ByNothing, ByCaller, Declaring}
use Rattle.p9_lang.specs.Parts.{Role, EntryOf, Context, Part, Value, Declarator, Object, Members, Enumerator, Parameter, NamedType, Braced, Filled, CaseLabel, Statement, DefaultLabel, Frame, Judged, file_context, kind_at, object_type, last_object, name_in, object_role, object_names, or_object, declared_members, or_unnamed, members_in, Plain, follows, length_by}
use Rattle.p9_lang.specs.Layout.{Extent, layout, has_layout, is_complete, is_within_limit}
use Rattle.p9_lang.specs.Conversions.{is_structure}
use Rattle.p9_lang.specs.Constants.{Operand, Constant}
use Rattle.p9_lang.specs.Expressions.{Verdict, verdict}
use Rattle.p9_lang.specs.Opening.{opened, context, of_head}
use Rattle.p9_lang.specs.Declaring.{broken_rules, behind, last_node, named_with, declare_object, declare_as, with_body_open, open_body, parameter_count, declare_member, declare_parameter, parameter_meaning, parameter_rules, declared_parameter, member_rules, names_in_braces, initialiser_role, declared_meaning, close_type, declared, function_declaring, object_declaring, enumerated, enumerator_value, constant_meaning, complete_if, with_members, with_length_given, with_given_length, length_rules, declared_before, unless_broken, initialiser_rules, given_length, retyped, initialised}
use Rattle.p9_lang.specs.Entries.{is_index_next}
use Rattle.p9_lang.specs.Files.{typing_of, names_with_bodies}
use Rattle.p9_lang.specs.TypingLaws.{EachNodeIsTyped, SizesStay, StructuresEnd}
use Rattle.p9_lang.specs.TagRules.{NoneContainsItself}
use Rattle.p9_lang.proofs.Bodies.{HasSize, HaveSizes, LaidOut, AreBodiless, laid_first, laid_appended, laid_body, size_stays, sizes_stay_all, sizes_append, laid_out_ends}
use Rattle.p9_lang.proofs.Marks.{marks_keep_ends}
use Rattle.p9_lang.proofs.Growing.{Grows, stays, then_grows, appended_grows, body_grows}
use Rattle.p9_lang.proofs.Layouts.{layouts_stay}
use Rattle.p9_lang.specs.Typing.{has, typeless, stepped, step_at, judged_brackets, judged_name, judged_text, judged_decl_name, judged_enumerator, judged_entry, judged_as, judged_expression, judged, judged_member, spec_rules, unnamed_rules, judge, judge_parts, judge_items, role_rules, with_rules, is_filled_by_text, is_block_static, is_whole, text_type, operands_of}

-- what is known of as many nodes, and of one more

pub record SameNodes (s r : Known) : Type 0 where
  pub types : length r.types ≡ length s.types
  pub means : length r.means ≡ length s.means
  pub grows : Grows s.tags r.tags
  pub laid : LaidOut s.tags → LaidOut r.tags

pub record More (n : ℕ) (s r : Known) : Type 0 where
  pub types : length r.types ≡ length s.types + n
  pub means : length r.means ≡ length s.means + n
  pub grows : Grows s.tags r.tags
  pub laid : LaidOut s.tags → LaidOut r.tags

pub same : (s : Known) → SameNodes s s
same s = record { types = refl; means = refl; grows = stays s.tags; laid = λ h. h }

pub then_same : (s r q : Known) → SameNodes s r → SameNodes r q → SameNodes s q
then_same s r q a b =
    record { types = b.types ∙ a.types; means = b.means ∙ a.means; grows = then_grows s.tags r.tags q.tags a.grows b.grows; laid = λ h. b.laid (a.laid h) }

-- what is known of the types in a part: members have sizes, and a declared object's type is as asked
abbrev pub Laid : (asked : TypeTree → Type 0) → Tags → Part → Type 0
Laid asked tags (Members members) = HaveSizes tags members
Laid asked tags (Object type steps last role) = asked type
Laid asked tags (Value o) = Unit {0}
Laid asked tags (Declarator steps) = Unit {0}
Laid asked tags (Enumerator x value) = Unit {0}
Laid asked tags (Parameter type) = Unit {0}
Laid asked tags (NamedType type) = Unit {0}
Laid asked tags (Braced count) = Unit {0}
Laid asked tags (Filled next) = Unit {0}
Laid asked tags (CaseLabel word) = Unit {0}
Laid asked tags DefaultLabel = Unit {0}
Laid asked tags Statement = Unit {0}

abbrev pub AllLaid : (asked : TypeTree → Type 0) → Tags → List Part → Type 0
AllLaid asked tags [] = Unit {0}
AllLaid asked tags (part ∷ parts) = Laid asked tags part × AllLaid asked tags parts

-- a member declaration asks that its types have sizes
abbrev pub Asked : Kind → Tags → TypeTree → Type 0
Asked (kind.Member spec) tags type = HasSize tags type
Asked k tags type = Unit {0}

-- results that are there

pub then_of : {A B E : Type 0} (m : Result A E) (next : A → Result B E) (y : B) → and_then m next ≡ Ok y → (x : A) × (m ≡ Ok x) × (next x ≡ Ok y)
then_of (Ok x) next y e = (x, refl, e)
then_of (Err b) next y e = cc

pub unless_of : {A : Type 0} (broken : List Broken) (x y : A) → unless broken x ≡ Ok y → x ≡ y
unless_of [] x y e = cc
unless_of (b ∷ bs) x y e = cc

zero_more : (n : ℕ) (s r q : Known) → More n s r → More 0 r q → More n s q
zero_more n s r q a b =
    let a1 = a.types in let a2 = a.means in let b1 = b.types in let b2 = b.means in
    record { types = omega arith; means = omega arith; grows = then_grows s.tags r.tags q.tags a.grows b.grows; laid = λ h. b.laid (a.laid h) }

-- a part with what is known of so many nodes more
abbrev pub Gives : (TypeTree → Type 0) → (n : ℕ) → Known → Judged → Type 0
Gives asked n s m = (r : Part × Known) → m ≡ Ok r → More n s r.1 × Laid asked r.1.tags r.0

-- a node that is judged, whose part is no declared object yet
abbrev pub Judges : Known → Judged → Type 0
Judges s m = Gives (λ type. ⊥) 1 s m

none_more : (s r : Known) → SameNodes s r → More 0 s r
none_more s r h = let a = h.types in let b = h.means in record { types = omega arith; means = omega arith; grows = h.grows; laid = h.laid }

pub then_more : (m n : ℕ) (s r q : Known) → More m s r → More n r q → More (m + n) s q
then_more m n s r q a b =
    let a1 = a.types in let a2 = a.means in let b1 = b.types in let b2 = b.means in
    record { types = omega arith; means = omega arith; grows = then_grows s.tags r.tags q.tags a.grows b.grows; laid = λ h. b.laid (a.laid h) }

pub after_same : (n : ℕ) (s r q : Known) → SameNodes s r → More n r q → More n s q
after_same n s r q a b =
    let a1 = a.types in let a2 = a.means in let b1 = b.types in let b2 = b.means in
    record { types = omega arith; means = omega arith; grows = then_grows s.tags r.tags q.tags a.grows b.grows; laid = λ h. b.laid (a.laid h) }

pub err_gives : (asked : TypeTree → Type 0) (n : ℕ) (s : Known) (b : Broken) → Gives asked n s (Err b)
err_gives asked n s b r e = cc

pub ok_gives : (asked : TypeTree → Type 0) (s q : Known) (part : Part) → SameNodes s q → Laid asked q.tags part
    → Gives asked 0 s (Ok (part, q))
ok_gives asked s q part h l r e =
    let z : (part, q) ≡ r = cc in
    subst (λ x. More 0 s x.1 × Laid asked x.1.tags x.0) z (none_more s q h, l)

pub if_gives : (asked : TypeTree → Type 0) (n : ℕ) (s : Known) (b : Bool) (x y : Judged) → Gives asked n s x → Gives asked n s y
    → Gives asked n s (if b then x else y)
if_gives asked n s true x y h k = h
if_gives asked n s false x y h k = k

-- ONE NODE MORE

one_more : (s q : Known) (type : TypeTree) (means : Meant) → SameNodes s q → More 1 s (with_node type means q)
one_more s q type means h =
    let a = length-append q.types (type ∷ []) in
    let b = length-append q.means (means ∷ []) in
    let c = h.types in
    let d = h.means in
    record { types = a ∙ omega arith; means = b ∙ omega arith; grows = h.grows; laid = h.laid }

pub has_gives : (rules : List Rule) (type : TypeTree) (means : Meant) (part : Part) (s q : Known) → SameNodes s q
    → Laid (λ type. ⊥) q.tags part → Judges s (has rules type means part q)
has_gives rules type means part s q h l r e =
    let z = unless_of (broken_rules (next_node q) rules) (part, with_node type means q) r e in
    subst (λ x. More 1 s x.1 × Laid (λ type. ⊥) x.1.tags x.0) z (one_more s q type means h, l)

pub typeless_gives : (rules : List Rule) (part : Part) (s q : Known) → SameNodes s q → Laid (λ type. ⊥) q.tags part
    → Judges s (typeless rules part q)
typeless_gives rules part s q h l = has_gives rules Void Nothing part s q h l

stepped_gives : (steps : List Step) (shape : Shape) (s q : Known) → SameNodes s q → Judges s (stepped steps shape q)
stepped_gives steps shape s q h = typeless_gives [] (Declarator (steps ++ step_at q shape ∷ [])) s q h tt

brackets_give : (parts : List Part) (s : Known) → Judges s (judged_brackets parts s)
brackets_give [] s = stepped_gives [] Unsized s s (same s)
brackets_give (Value o ∷ []) s = stepped_gives [] (Sized o.constant) s s (same s)
brackets_give (Declarator steps ∷ []) s = stepped_gives steps Unsized s s (same s)
brackets_give (Declarator steps ∷ (Value o ∷ [])) s = stepped_gives steps (Sized o.constant) s s (same s)
brackets_give _ s = err_gives (λ type. ⊥) 1 s (at_node (next_node s) Malformed)

name_gives : (x : List ℕ) (d : Option Declared) (s : Known) → Judges s (judged_name x d s)
name_gives x None s = err_gives (λ type. ⊥) 1 s (at_node (next_node s) (Undeclared x))
name_gives x (Some d) s = has_gives _ d.type d.means _ s s (same s) tt

text_gives : (type : TypeTree) (role : Role) (s : Known) → Judges s (judged_text type role s)
text_gives type role s =
    if_gives (λ type. ⊥) 1 s (is_filled_by_text role) _ _ (has_gives [] type Nothing _ s s (same s) tt)
    (has_gives _ type (Static s.statics) _ s (record s { statics = s.statics + 1 }) (record { types = refl; means = refl; grows = stays s.tags; laid = λ h. h }) tt)

decl_name_gives : (x : List ℕ) (role : Role) (s : Known) → Judges s (judged_decl_name x role s)
decl_name_gives x role s =
    if_gives (λ type. ⊥) 1 s (is_block_static role) _ _
    (has_gives [] Void (Static s.statics) _ s (record s { statics = s.statics + 1 }) (record { types = refl; means = refl; grows = stays s.tags; laid = λ h. h }) tt)
    (typeless_gives [] _ s s (same s) tt)

enumerator_gives : (x : List ℕ) (parts : List Part) (s : Known) → Judges s (judged_enumerator x parts s)
enumerator_gives x [] s = has_gives [] Int Nothing _ s s (same s) tt
enumerator_gives x (Value o ∷ []) s = has_gives [] Int Nothing _ s s (same s) tt
enumerator_gives x _ s = err_gives (λ type. ⊥) 1 s (at_node (next_node s) Malformed)

entry_gives : (by : EntryBy) (role : Role) (parts : List Part) (s : Known) → Judges s (judged_entry by role parts s)
entry_gives by (EntryOf list next) parts s = has_gives _ _ Nothing _ s s (same s) tt
entry_gives by _ parts s = err_gives (λ type. ⊥) 1 s (at_node (next_node s) Malformed)

as_gives : (k : Kind) (operands : List Operand) (m : Result Verdict Rule) (s : Known) → Judges s (judged_as k operands m s)
as_gives k operands (Ok v) s = has_gives [] v.type Nothing _ s s (same s) tt
as_gives k operands (Err rule) s = err_gives (λ type. ⊥) 1 s (at_node (next_node s) rule)

expression_gives : (k : Kind) (role : Role) (operands : Option (List Operand)) (s : Known) → Judges s (judged_expression k role operands s)
expression_gives k role None s = err_gives (λ type. ⊥) 1 s (at_node (next_node s) Malformed)
expression_gives k role (Some operands) s = as_gives k operands (verdict s.tags (is_whole role) k operands) s

-- a member declaration gives members that have sizes

no_rules : {A : Type 0} (number : ℕ) (rules : List Rule) (x y : A) → unless (broken_rules number rules) x ≡ Ok y → rules ≡ []
no_rules number [] x y e = refl
no_rules number (r ∷ rs) x y e = cc

first_empty : {A : Type 0} (xs ys : List A) → xs ++ ys ≡ [] → xs ≡ []
first_empty [] ys e = refl
first_empty (x ∷ xs) ys e = cc

last_empty : {A : Type 0} (xs ys : List A) → xs ++ ys ≡ [] → ys ≡ []
last_empty [] ys e = e
last_empty (x ∷ xs) ys e = cc

not_broken : (b : Bool) (rule : Rule) → breaks_if (not b) rule ≡ [] → b ≡ true
not_broken true rule e = refl
not_broken false rule e = cc

size_there : (o : Option Extent) → has_layout o ≡ true → (e : Extent) × (o ≡ Some e)
size_there None e = cc
size_there (Some x) e = (x, refl)

declared_sizes : (tags : Tags) (base : TypeTree) (parts : List Part) → AllLaid (HasSize tags) tags parts → HaveSizes tags (declared_members base parts)
declared_sizes tags base [] l = tt
declared_sizes tags base (Object type steps last role ∷ parts) l = (l.0, declared_sizes tags base parts l.1)
declared_sizes tags base (Value o ∷ parts) l = declared_sizes tags base parts l.1
declared_sizes tags base (Declarator steps ∷ parts) l = declared_sizes tags base parts l.1
declared_sizes tags base (Members members ∷ parts) l = declared_sizes tags base parts l.1
declared_sizes tags base (Enumerator x value ∷ parts) l = declared_sizes tags base parts l.1
declared_sizes tags base (Parameter type ∷ parts) l = declared_sizes tags base parts l.1
declared_sizes tags base (NamedType type ∷ parts) l = declared_sizes tags base parts l.1
declared_sizes tags base (Braced count ∷ parts) l = declared_sizes tags base parts l.1
declared_sizes tags base (Filled next ∷ parts) l = declared_sizes tags base parts l.1
declared_sizes tags base (CaseLabel word ∷ parts) l = declared_sizes tags base parts l.1
declared_sizes tags base (DefaultLabel ∷ parts) l = declared_sizes tags base parts l.1
declared_sizes tags base (Statement ∷ parts) l = declared_sizes tags base parts l.1

none_declared : (base : TypeTree) (parts : List Part) → declared_members base parts ≡ [] → last_object parts ≡ None
none_declared base [] e = refl
none_declared base (Object type steps last role ∷ parts) e = cc
none_declared base (Value o ∷ parts) e = ap (λ x. or_object x (Value o)) (none_declared base parts e)
none_declared base (Declarator steps ∷ parts) e = ap (λ x. or_object x (Declarator steps)) (none_declared base parts e)
none_declared base (Members members ∷ parts) e = ap (λ x. or_object x (Members members)) (none_declared base parts e)
none_declared base (Enumerator y value ∷ parts) e = ap (λ x. or_object x (Enumerator y value)) (none_declared base parts e)
none_declared base (Parameter type ∷ parts) e = ap (λ x. or_object x (Parameter type)) (none_declared base parts e)
none_declared base (NamedType type ∷ parts) e = ap (λ x. or_object x (NamedType type)) (none_declared base parts e)
none_declared base (Braced count ∷ parts) e = ap (λ x. or_object x (Braced count)) (none_declared base parts e)
none_declared base (Filled next ∷ parts) e = ap (λ x. or_object x (Filled next)) (none_declared base parts e)
none_declared base (CaseLabel word ∷ parts) e = ap (λ x. or_object x (CaseLabel word)) (none_declared base parts e)
none_declared base (DefaultLabel ∷ parts) e = ap (λ x. or_object x DefaultLabel) (none_declared base parts e)
none_declared base (Statement ∷ parts) e = ap (λ x. or_object x Statement) (none_declared base parts e)

unnamed_size : (tags : Tags) (base : TypeTree) (o : Option Part) → o ≡ None → unnamed_rules tags base o ≡ [] → HasSize tags base
unnamed_size tags base o z e =
    let r = ap (λ x. unnamed_rules tags base x) (sym z) ∙ e in
    size_there (layout tags base)
    (not_broken (is_complete tags base) Incomplete (first_empty (breaks_if (not (is_complete tags base)) Incomplete) (breaks_if (not (is_structure base)) BadOperands) r))

members_sized : (tags : Tags) (base : TypeTree) (parts : List Part) → AllLaid (HasSize tags) tags parts
    → unnamed_rules tags base (last_object parts) ≡ [] → HaveSizes tags (or_unnamed base (declared_members base parts))
members_sized tags base parts l e = by (declared_members base parts) refl (declared_sizes tags base parts l)
  where
    by : (ms : List MemberTree) → declared_members base parts ≡ ms → HaveSizes tags ms → HaveSizes tags (or_unnamed base ms)
    by [] z h = (unnamed_size tags base (last_object parts) (none_declared base parts z) e, tt)
    by (m ∷ ms) z h = h

member_node_gives : (f : Frame) (parts : List Part) (s : Known) → AllLaid (HasSize s.tags) s.tags parts → Judges s (judged_member f parts s)
member_node_gives f parts s l r e =
    let rules = spec_rules f s ++ unnamed_rules s.tags f.base (last_object parts) in
    let none = no_rules (next_node s) rules (Members (or_unnamed f.base (declared_members f.base parts)), with_node Void Nothing s) r e in
    let last = last_empty (spec_rules f s) (unnamed_rules s.tags f.base (last_object parts)) none in
    typeless_gives rules (Members (or_unnamed f.base (declared_members f.base parts))) s s (same s)
    (members_sized s.tags f.base parts l last) r e

pub judged_gives : (k : Kind) (f : Frame) (parts : List Part) (s : Known) → AllLaid (Asked k s.tags) s.tags parts → Judges s (judged k f parts s)
judged_gives (kind.Declaration spec inits) f parts s l = typeless_gives _ Statement s s (same s) tt
judged_gives (kind.Function spec) f parts s l = typeless_gives _ Statement s (close_level s) (record { types = refl; means = refl; grows = stays s.tags; laid = λ h. h }) tt
judged_gives (kind.Member spec) f parts s l = member_node_gives f parts s l
judged_gives (kind.EnumConst x valued) f parts s l = enumerator_gives x parts s
judged_gives (kind.DeclName x) f parts s l = decl_name_gives x f.context.role s
judged_gives (kind.Star volatiles) f parts s l = stepped_gives _ Points s s (same s)
judged_gives (kind.Brackets inner sized) f parts s l = brackets_give parts s
judged_gives (kind.Params inner void_word) f parts s l = stepped_gives _ _ s (close_level s) (record { types = refl; means = refl; grows = stays s.tags; laid = λ h. h })
judged_gives kind.DeclParens f parts s l = stepped_gives _ Keeps s s (same s)
judged_gives (kind.Param spec) f parts s l = has_gives _ _ Nothing _ s s (same s) tt
judged_gives (kind.NamedType spec) f parts s l = has_gives _ _ _ _ s s (same s) tt
judged_gives (kind.InitList comma) f parts s l = has_gives [] _ Nothing _ s s (same s) tt
judged_gives (kind.Entry by equals) f parts s l = entry_gives by f.context.role parts s
judged_gives kind.Block f parts s l = typeless_gives [] Statement s (close_block s) (record { types = refl; means = refl; grows = stays s.tags; laid = λ h. h }) tt
judged_gives kind.Expression f parts s l = typeless_gives [] Statement s s (same s) tt
judged_gives kind.If f parts s l = typeless_gives _ Statement s s (same s) tt
judged_gives kind.While f parts s l = typeless_gives _ Statement s s (same s) tt
judged_gives kind.Do f parts s l = typeless_gives _ Statement s s (same s) tt
judged_gives (kind.For first test step) f parts s l = typeless_gives _ Statement s s (same s) tt
judged_gives kind.Switch f parts s l = typeless_gives _ Statement s s (same s) tt
judged_gives kind.Case f parts s l = typeless_gives _ _ s s (same s) tt
judged_gives kind.Default f parts s l = typeless_gives [] DefaultLabel s s (same s) tt
judged_gives kind.Break f parts s l = typeless_gives _ Statement s s (same s) tt
judged_gives kind.Continue f parts s l = typeless_gives _ Statement s s (same s) tt
judged_gives kind.Return f parts s l = typeless_gives _ Statement s s (same s) tt
judged_gives (kind.Name x) f parts s l = name_gives x (in_levels x s.names) s
judged_gives (kind.Text texts) f parts s l = text_gives (text_type texts) f.context.role s
judged_gives kind.Index f parts s l = expression_gives kind.Index f.context.role (operands_of parts) s
judged_gives kind.Call f parts s l = expression_gives kind.Call f.context.role (operands_of parts) s
judged_gives (kind.Dot arrow x) f parts s l = expression_gives (kind.Dot arrow x) f.context.role (operands_of parts) s
judged_gives (kind.Post minus) f parts s l = expression_gives (kind.Post minus) f.context.role (operands_of parts) s
judged_gives (kind.Pre minus) f parts s l = expression_gives (kind.Pre minus) f.context.role (operands_of parts) s
judged_gives (kind.Unary op) f parts s l = expression_gives (kind.Unary op) f.context.role (operands_of parts) s
judged_gives kind.SizeofValue f parts s l = expression_gives kind.SizeofValue f.context.role (operands_of parts) s
judged_gives kind.SizeofType f parts s l = expression_gives kind.SizeofType f.context.role (operands_of parts) s
judged_gives kind.Cast f parts s l = expression_gives kind.Cast f.context.role (operands_of parts) s
judged_gives (kind.Binary op) f parts s l = expression_gives (kind.Binary op) f.context.role (operands_of parts) s
judged_gives kind.Choose f parts s l = expression_gives kind.Choose f.context.role (operands_of parts) s
judged_gives (kind.Assign op) f parts s l = expression_gives (kind.Assign op) f.context.role (operands_of parts) s
judged_gives kind.Comma f parts s l = expression_gives kind.Comma f.context.role (operands_of parts) s
judged_gives kind.Parens f parts s l = expression_gives kind.Parens f.context.role (operands_of parts) s
judged_gives (kind.Number value unsigned long) f parts s l =
    expression_gives (kind.Number value unsigned long) f.context.role (operands_of parts) s
judged_gives (kind.Character value) f parts s l = expression_gives (kind.Character value) f.context.role (operands_of parts) s

-- OPENING

either_same : (s : Known) (b : Bool) (x y : Tagging) → SameNodes s x.known → SameNodes s y.known → SameNodes s (if b then x else y).known
either_same s true x y h k = h
either_same s false x y h k = k

new_bodiless : (keyword : Keyword) (name : List ℕ) → AreBodiless (new_structure keyword name)
new_bodiless Struct name = (refl, tt)
new_bodiless Union name = (refl, tt)
new_bodiless Enum name = tt

new_tag_same : (rules : List Rule) (keyword : Keyword) (name : List ℕ) (has_body : Bool) (s : Known)
    → SameNodes s (new_tag rules keyword name has_body s).known
new_tag_same rules keyword name has_body s =
    record {
      types = refl;
      means = refl;
      grows = appended_grows s.tags (new_structure keyword name);
      laid = laid_appended s.tags (new_structure keyword name) (new_bodiless keyword name);
    }

known_tag_same : (t : TagName) (has_body : Bool) (s : Known) → SameNodes s (known_tag t has_body s).known
known_tag_same t true s = record { types = refl; means = refl; grows = stays s.tags; laid = λ h. h }
known_tag_same t false s = same s

tag_from_same : (o : Option TagName) (keyword : Keyword) (name : List ℕ) (has_body : Bool) (s : Known)
    → SameNodes s (tag_from o keyword name has_body s).known
tag_from_same None keyword name has_body s = new_tag_same [] keyword name has_body s
tag_from_same (Some t) keyword name has_body s =
    either_same s _ (known_tag t has_body s) (new_tag (Redeclared name ∷ []) keyword name has_body s) (known_tag_same t has_body s)
    (new_tag_same (Redeclared name ∷ []) keyword name has_body s)

tagged_same : (keyword : Keyword) (name : List ℕ) (has_body : Bool) (s : Known) → SameNodes s (tagged_as keyword name has_body s).known
tagged_same keyword name has_body s =
    either_same s (is_nameless name) (new_tag [] keyword name has_body s) (tag_from _ keyword name has_body s)
    (new_tag_same [] keyword name has_body s) (tag_from_same _ keyword name has_body s)

head_same : (storage : Storage) (c : Context) (h : Head) (s : Known) → SameNodes s (of_head storage c h s).1
head_same storage c (Words type) s = same s
head_same storage c (Named x) s = same s
head_same storage c (Structure is_union name members) s = tagged_same _ name _ s
head_same storage c (Enumeration name count) s = tagged_same Enum name _ s

opened_same : (k : Kind) (c : Context) (s : Known) → SameNodes s (opened k c s).1
opened_same (kind.Declaration spec inits) c s = head_same _ c _ s
opened_same (kind.Function spec) c s =
    let r = head_same (storage_of spec.words) c (head_of spec.words) (record s { autos = 0 }) in
    record { types = r.types; means = r.means; grows = r.grows; laid = r.laid }
opened_same (kind.Member spec) c s = head_same _ c _ s
opened_same (kind.Param spec) c s = head_same _ c _ s
opened_same (kind.NamedType spec) c s = head_same _ c _ s
opened_same kind.Block c s = record { types = refl; means = refl; grows = stays s.tags; laid = λ h. h }
opened_same (kind.Params inner void_word) c s = record { types = refl; means = refl; grows = stays s.tags; laid = λ h. h }
opened_same _ c s = same s

-- PARTS

closed_length : (tags : Tags) (by : LengthBy) (type : TypeTree) (steps : List Step) (types : List TypeTree) (made : TypeTree × List TypeTree)
    → closed_from tags by type steps types ≡ Ok made → length made.1 ≡ length types
closed_length tags by type [] types made e = let z : (type, types) ≡ made = cc in ap (λ m. length m.1) (sym z)
closed_length tags by type (step ∷ steps) types made e =
    let r = then_of (broken_at step.number (shaped tags by (list_all makes_no_type steps) step.shape type))
    (λ made. closed_from tags by made steps (slice_set types step.number made)) made e in
    closed_length tags by r.0 steps (slice_set types step.number r.0) made r.2 ∙ length-set types step.number r.0

named_of : (last : ℕ) (rules : Option TypeTree → List Rule) (m : Result (TypeTree × List TypeTree) Broken) (made : TypeTree × List TypeTree)
    → named_with last rules m ≡ Ok made → m ≡ Ok made
named_of last rules (Ok x) made e = ap (λ y. Ok y) (unless_of (broken_rules last (rules (Some x.0))) x made e)
named_of last rules (Err b) made e = cc

named_none : (last : ℕ) (rules : Option TypeTree → List Rule) (m : Result (TypeTree × List TypeTree) Broken) (made : TypeTree × List TypeTree)
    → named_with last rules m ≡ Ok made → rules (Some made.0) ≡ []
named_none last rules (Ok x) made e =
    let z = unless_of (broken_rules last (rules (Some x.0))) x made e in
    ap (λ y. rules (Some y.0)) (sym z) ∙ no_rules last (rules (Some x.0)) x made e
named_none last rules (Err b) made e = cc

-- what follows on a closed declarator
closing_gives : (asked : TypeTree → Type 0) (s : Known) (rules : Option TypeTree → List Rule) (by : LengthBy) (base : TypeTree)
    (steps : List Step) (next : TypeTree × List TypeTree → Judged)
    → ((made : TypeTree × List TypeTree) → length made.1 ≡ length s.types → rules (Some made.0) ≡ [] → Gives asked 0 s (next made))
    → Gives asked 0 s (and_then (named_with (last_node s) rules (closed s.tags by base steps s.types)) next)
closing_gives asked s rules by base steps next h r e =
    let made = then_of (named_with (last_node s) rules (closed s.tags by base steps s.types)) next r e in
    h made.0
    (closed_length s.tags by base (reverse steps) s.types made.0
    (named_of (last_node s) rules (closed s.tags by base steps s.types) made.0 made.1))
    (named_none (last_node s) rules (closed s.tags by base steps s.types) made.0 made.1) r made.2

bare_gives : (asked : TypeTree → Type 0) (s : Known) (by : LengthBy) (base : TypeTree) (steps : List Step)
    (next : TypeTree × List TypeTree → Judged)
    → ((made : TypeTree × List TypeTree) → length made.1 ≡ length s.types → Gives asked 0 s (next made))
    → Gives asked 0 s (and_then (closed s.tags by base steps s.types) next)
bare_gives asked s by base steps next h r e =
    let made = then_of (closed s.tags by base steps s.types) next r e in
    h made.0 (closed_length s.tags by base (reverse steps) s.types made.0 made.1) r made.2

object_gives : (d : Declaring) (by : LengthBy) (base : TypeTree) (steps : List Step) (n : Option NameNode) (s : Known)
    → Gives (λ type. Unit {0}) 0 s (declare_object d by base steps n s)
object_gives d by base steps None s = err_gives (λ type. Unit {0}) 0 s (at_node (last_node s) Malformed)
object_gives d by base steps (Some n) s =
    closing_gives (λ type. Unit {0}) s (naming_rules s.tags d n.name (in_level n.name (innermost s.names))) by base steps
    (λ made. Ok (
      Object made.0 steps (last_node s) (initialiser_role d made.0),
      declare_as d n made.0 (record s { types = made.1 }),
    ))
    (λ made h none. ok_gives (λ type. Unit {0}) s (declare_as d n made.0 (record s { types = made.1 }))
    (Object made.0 steps (last_node s) (initialiser_role d made.0))
    (record {
      types = h;
      means = length-set s.means n.number (declared_meaning d n made.0 (record s { types = made.1 }));
      grows = stays s.tags;
      laid = λ h. h;
    })
    tt)

body_gives : (steps : List Step) (s : Known) (x : Part × Known) → More 0 s x.1 → Laid (λ type. Unit {0}) x.1.tags x.0
    → Gives (λ type. Unit {0}) 0 s (with_body_open steps x)
body_gives steps s x h l r e =
    let q = record x.1 { autos = parameter_count (object_type (Some x.0) Void) } in
    let z : (x.0, open_body steps q) ≡ r = cc in
    subst (λ y. More 0 s y.1 × Laid (λ type. Unit {0}) y.1.tags y.0) z
    (record { types = h.types; means = h.means; grows = h.grows; laid = h.laid }, l)

function_gives : (steps : List Step) (s : Known) (m : Judged) → Gives (λ type. Unit {0}) 0 s m
    → Gives (λ type. Unit {0}) 0 s (and_then m (with_body_open steps))
function_gives steps s m h r e =
    let x = then_of m (with_body_open steps) r e in
    let g = h x.0 x.1 in
    body_gives steps s x.0 g.0 g.1 r x.2

sized_type : (tags : Tags) (names : List (List ℕ)) (x : List ℕ) (type : TypeTree) → member_rules tags names x (Some type) ≡ [] → HasSize tags type
sized_type tags names x type e =
    size_there (layout tags type)
    (not_broken (is_complete tags type) Incomplete
    (first_empty (breaks_if (not (is_complete tags type)) Incomplete) (breaks_if (not (is_within_limit tags type)) BadConstant)
    (last_empty (breaks_if (is_among names x) (Redeclared x)) (sized_rules tags type) e)))

member_gives : (f : Frame) (before : List Part) (steps : List Step) (n : Option NameNode) (s : Known)
    → Gives (HasSize s.tags) 0 s (declare_member f before steps n s)
member_gives f before steps None s = err_gives (HasSize s.tags) 0 s (at_node (last_node s) Malformed)
member_gives f before steps (Some n) s =
    closing_gives (HasSize s.tags) s (member_rules s.tags (names_in_braces f.context.role ++ object_names before) n.name) ByNothing f.base steps
    (λ made. Ok (Object made.0 steps (last_node s) Plain, record s { types = made.1 }))
    (λ made h none. ok_gives (HasSize s.tags) s (record s { types = made.1 }) (Object made.0 steps (last_node s) Plain)
    (record { types = h; means = refl; grows = stays s.tags; laid = λ h. h })
    (sized_type s.tags (names_in_braces f.context.role ++ object_names before) n.name made.0 none))

parameter_gives : (f : Frame) (steps : List Step) (n : Option NameNode) (s : Known)
    → Gives (λ type. Unit {0}) 0 s (declare_parameter f steps n s)
parameter_gives f steps None s =
    bare_gives (λ type. Unit {0}) s ByCaller f.base steps
    (λ made. Ok (Object (adjusted made.0) steps (last_node s) Plain, record s { types = made.1 }))
    (λ made h. ok_gives (λ type. Unit {0}) s (record s { types = made.1 }) (Object (adjusted made.0) steps (last_node s) Plain)
    (record { types = h; means = refl; grows = stays s.tags; laid = λ h. h }) tt)
parameter_gives f steps (Some n) s =
    closing_gives (λ type. Unit {0}) s (λ type. parameter_rules n.name (in_level n.name (innermost s.names))) ByCaller f.base steps
    (λ made. Ok (Object (adjusted made.0) steps (last_node s) Plain, declared_parameter f n made s))
    (λ made h none. ok_gives (λ type. Unit {0}) s (declared_parameter f n made s) (Object (adjusted made.0) steps (last_node s) Plain)
    (record {
      types = length-set made.1 n.number (adjusted made.0) ∙ h;
      means = length-set s.means n.number (parameter_meaning f.context.role);
      grows = stays s.tags;
      laid = λ h. h;
    })
    tt)

type_gives : (f : Frame) (steps : List Step) (s : Known) → Gives (λ type. Unit {0}) 0 s (close_type f steps s)
type_gives f steps s =
    bare_gives (λ type. Unit {0}) s ByNothing f.base steps (λ made. Ok (Object made.0 steps (last_node s) Plain, record s { types = made.1 }))
    (λ made h. ok_gives (λ type. Unit {0}) s (record s { types = made.1 }) (Object made.0 steps (last_node s) Plain)
    (record { types = h; means = refl; grows = stays s.tags; laid = λ h. h }) tt)

declared_gives : (k : Kind) (f : Frame) (before : List Part) (steps : List Step) (rest : SyntaxRow) (s : Known)
    → Gives (Asked k s.tags) 0 s (declared k f before steps rest s)
declared_gives (kind.Declaration spec inits) f before steps rest s =
    object_gives (object_declaring f (follows rest) s) (length_by (follows rest)) f.base steps (name_of steps) s
declared_gives (kind.Function spec) f before steps rest s =
    function_gives steps s _ (object_gives (function_declaring f) ByNothing f.base steps (name_of steps) s)
declared_gives (kind.Member spec) f before steps rest s = member_gives f before steps (name_of steps) s
declared_gives (kind.Param spec) f before steps rest s = parameter_gives f steps (name_of steps) s
declared_gives (kind.NamedType spec) f before steps rest s = type_gives f steps s
declared_gives k f before steps rest s = ok_gives (Asked k s.tags) s s (Declarator steps) (same s) tt

unless_gives : (asked : TypeTree → Type 0) (broken : List Broken) (s q : Known) (part : Part) → SameNodes s q → Laid asked q.tags part
    → Gives asked 0 s (unless broken (part, q))
unless_gives asked broken s q part h l r e = ok_gives asked s q part h l r (ap (λ x. Ok x) (unless_of broken (part, q) r e))

enumerated_gives : (asked : TypeTree → Type 0) (x : List ℕ) (value : Constant) (s : Known) → Gives asked 0 s (enumerated x value s)
enumerated_gives asked x value s =
    unless_gives asked _ s _ _
    (record { types = refl; means = length-set s.means (last_node s) (constant_meaning value); grows = stays s.tags; laid = λ h. h }) tt

complete_same : (is_last : Bool) (tag : Option ℕ) (members : List MemberTree) (s : Known) → HaveSizes s.tags members
    → SameNodes s (complete_if is_last tag members s)
complete_same is_last None members s k = same s
complete_same false (Some number) members s k = same s
complete_same true (Some number) members s k =
    record {
      types = refl;
      means = refl;
      grows = body_grows s.tags number members;
      laid = laid_body s.tags number members k;
    }

given_length_same : (base : TypeTree) (steps : List Step) (last count : ℕ) (x : List ℕ) (s q : Known)
    → with_given_length base steps last count x s ≡ Ok q → SameNodes s q
given_length_same base steps last count x s q e =
    let made = then_of
    (named_with last (length_rules x (declared_before x (innermost s.names))) (closed s.tags ByNothing base (map (with_length count) steps) s.types))
    (λ made. Ok (record s { types = made.1; names = retyped x made.0 (innermost s.names) ∷ around s.names })) q e in
    let types = closed_length s.tags ByNothing base (reverse (map (with_length count) steps)) s.types made.0
    (named_of last (length_rules x (declared_before x (innermost s.names)))
    (closed s.tags ByNothing base (map (with_length count) steps) s.types) made.0 made.1) in
    let m = made.2 in
    let z : record s { types = made.0.1; names = retyped x made.0.0 (innermost s.names) ∷ around s.names } ≡ q = cc in
    subst (λ y. SameNodes s y) z (record { types = types; means = refl; grows = stays s.tags; laid = λ h. h })

given_tags : (base : TypeTree) (steps : List Step) (last count : ℕ) (x : List ℕ) (s q : Known)
    → with_given_length base steps last count x s ≡ Ok q → q.tags ≡ s.tags
given_tags base steps last count x s q e =
    let made = then_of
    (named_with last (length_rules x (declared_before x (innermost s.names))) (closed s.tags ByNothing base (map (with_length count) steps) s.types))
    (λ made. Ok (record s { types = made.1; names = retyped x made.0 (innermost s.names) ∷ around s.names })) q e in
    let m = made.2 in
    let z : record s { types = made.0.1; names = retyped x made.0.0 (innermost s.names) ∷ around s.names } ≡ q = cc in
    ap (λ y. y.tags) (sym z)

unchanged : (s q : Known) (m : Result Known Broken) → m ≡ Ok s → m ≡ Ok q → SameNodes s q
unchanged s q m d e = let z : s ≡ q = cc in subst (λ x. SameNodes s x) z (same s)

unchanged_tags : (s q : Known) (m : Result Known Broken) → m ≡ Ok s → m ≡ Ok q → q.tags ≡ s.tags
unchanged_tags s q m d e = let z : s ≡ q = cc in ap (λ x. x.tags) (sym z)

given_same : (base : TypeTree) (object : Option Part) (part : Part) (s q : Known) → with_length_given base object part s ≡ Ok q
    → SameNodes s q × (q.tags ≡ s.tags)
given_same base (Some (Object (Array element zero) steps last role)) part s q e = (
  given_length_same base steps last (given_length part) (name_in (name_of steps)) s q e,
  given_tags base steps last (given_length part) (name_in (name_of steps)) s q e,
)
given_same base _ part s q e = (unchanged s q (Ok s) refl e, unchanged_tags s q (Ok s) refl e)

assigned_gives : (asked : TypeTree → Type 0) (base : TypeTree) (object : Option Part) (part : Part) (s : Known) (rules : Known → List Rule)
    → Laid asked s.tags part
    → Gives asked 0 s (and_then (with_length_given base object part s) (λ given. unless_broken (rules given) part given))
assigned_gives asked base object part s rules l r e =
    let x = then_of (with_length_given base object part s) (λ given. unless_broken (rules given) part given) r e in
    let g = given_same base object part s x.0 x.1 in
    unless_gives asked _ s x.0 part g.0 (subst (λ tags. Laid asked tags part) (sym g.1) l) r x.2

initialised_gives : (k : Kind) (f : Frame) (before : List Part) (part : Part) (s : Known) → Laid (Asked k s.tags) s.tags part
    → Gives (Asked k s.tags) 0 s (initialised k f before part s)
initialised_gives (kind.Declaration spec inits) f before part s l =
    assigned_gives (λ type. Unit {0}) f.base (last_object before) part s
    (λ given. initialiser_rules given.tags (object_role (last_object before)) part) l
initialised_gives (kind.Entry by equals) f before part s l =
    if_gives (λ type. Unit {0}) 0 s (is_index_next by before) _ _ (ok_gives (λ type. Unit {0}) s s part (same s) l)
    (unless_gives (λ type. Unit {0}) _ s s part (same s) l)
initialised_gives k f before part s l = ok_gives (Asked k s.tags) s s part (same s) l

-- the members so far have sizes
members_so_far : (asked : TypeTree → Type 0) (tags : Tags) (parts : List Part) → AllLaid asked tags parts → HaveSizes tags (members_in parts)
members_so_far asked tags [] l = tt
members_so_far asked tags (Members members ∷ parts) l = sizes_append tags members (members_in parts) l.0 (members_so_far asked tags parts l.1)
members_so_far asked tags (Object type steps last role ∷ parts) l = members_so_far asked tags parts l.1
members_so_far asked tags (Value o ∷ parts) l = members_so_far asked tags parts l.1
members_so_far asked tags (Declarator steps ∷ parts) l = members_so_far asked tags parts l.1
members_so_far asked tags (Enumerator x value ∷ parts) l = members_so_far asked tags parts l.1
members_so_far asked tags (Parameter type ∷ parts) l = members_so_far asked tags parts l.1
members_so_far asked tags (NamedType type ∷ parts) l = members_so_far asked tags parts l.1
members_so_far asked tags (Braced count ∷ parts) l = members_so_far asked tags parts l.1
members_so_far asked tags (Filled next ∷ parts) l = members_so_far asked tags parts l.1
members_so_far asked tags (CaseLabel word ∷ parts) l = members_so_far asked tags parts l.1
members_so_far asked tags (DefaultLabel ∷ parts) l = members_so_far asked tags parts l.1
members_so_far asked tags (Statement ∷ parts) l = members_so_far asked tags parts l.1

laid_append : (asked : TypeTree → Type 0) (tags : Tags) (before : List Part) (part : Part) → AllLaid asked tags before → Laid asked tags part
    → AllLaid asked tags (before ++ part ∷ [])
laid_append asked tags [] part l k = (k, tt)
laid_append asked tags (p ∷ ps) part l k = (l.0, laid_append asked tags ps part l.1 k)

members_give : (asked : TypeTree → Type 0) (f : Frame) (before : List Part) (members : List MemberTree) (s : Known)
    → AllLaid asked s.tags before → HaveSizes s.tags members
    → Gives asked 0 s (Ok (Members members, with_members f before (Members members) s))
members_give asked f before members s l k =
    let all = members_so_far asked s.tags (before ++ Members members ∷ []) (laid_append asked s.tags before (Members members) l k) in
    let h = complete_same (suc (length before) == f.braces) f.tag (members_in (before ++ Members members ∷ [])) s all in
    ok_gives asked s (with_members f before (Members members) s) (Members members) h
    (sizes_stay_all s.tags (with_members f before (Members members) s).tags h.grows members k)

-- a part as it was judged is no declared object
behind_gives : (k : Kind) (f : Frame) (before : List Part) (part : Part) (rest : SyntaxRow) (s : Known) → AllLaid (Asked k s.tags) s.tags before
    → Laid (λ type. ⊥) s.tags part → Gives (Asked k s.tags) 0 s (behind k f before part rest s)
behind_gives k f before (Value o) rest s b l = initialised_gives k f before (Value o) s tt
behind_gives k f before (Braced count) rest s b l = initialised_gives k f before (Braced count) s tt
behind_gives k f before (Declarator steps) rest s b l = declared_gives k f before steps rest s
behind_gives k f before (Enumerator x value) rest s b l = enumerated_gives (Asked k s.tags) x (enumerator_value before value) s
behind_gives k f before (Members members) rest s b l = members_give (Asked k s.tags) f before members s b l
behind_gives k f before (CaseLabel word) rest s b l = unless_gives (Asked k s.tags) _ s s (CaseLabel word) (same s) tt
behind_gives k f before DefaultLabel rest s b l = unless_gives (Asked k s.tags) _ s s DefaultLabel (same s) tt
behind_gives k f before (Object type steps last role) rest s b l = absurd l
behind_gives k f before (Parameter type) rest s b l = ok_gives (Asked k s.tags) s s (Parameter type) (same s) tt
behind_gives k f before (NamedType type) rest s b l = ok_gives (Asked k s.tags) s s (NamedType type) (same s) tt
behind_gives k f before (Filled next) rest s b l = ok_gives (Asked k s.tags) s s (Filled next) (same s) tt
behind_gives k f before Statement rest s b l = ok_gives (Asked k s.tags) s s Statement (same s) tt

-- later, sizes are still there

asked_stays : (k : Kind) (before after : Tags) → Grows before after → (type : TypeTree) → Asked k before type → Asked k after type
asked_stays (kind.Member spec) before after g type h = size_stays before after g type h
asked_stays _ before after g type h = tt

laid_stays : (k : Kind) (before after : Tags) → Grows before after → (part : Part) → Laid (Asked k before) before part → Laid (Asked k after) after part
laid_stays k before after g (Members members) l = sizes_stay_all before after g members l
laid_stays k before after g (Object type steps last role) l = asked_stays k before after g type l
laid_stays k before after g (Value o) l = tt
laid_stays k before after g (Declarator steps) l = tt
laid_stays k before after g (Enumerator x value) l = tt
laid_stays k before after g (Parameter type) l = tt
laid_stays k before after g (NamedType type) l = tt
laid_stays k before after g (Braced count) l = tt
laid_stays k before after g (Filled next) l = tt
laid_stays k before after g (CaseLabel word) l = tt
laid_stays k before after g DefaultLabel l = tt
laid_stays k before after g Statement l = tt

all_laid_stay : (k : Kind) (before after : Tags) → Grows before after → (parts : List Part) → AllLaid (Asked k before) before parts
    → AllLaid (Asked k after) after parts
all_laid_stay k before after g [] l = tt
all_laid_stay k before after g (p ∷ ps) l = (laid_stays k before after g p l.0, all_laid_stay k before after g ps l.1)

-- a part that was asked for at its own time
laid_later : (k : Kind) (s q : Known) → Grows s.tags q.tags → (part : Part) → Laid (Asked k s.tags) q.tags part → Laid (Asked k q.tags) q.tags part
laid_later k s q g (Members members) l = l
laid_later k s q g (Object type steps last role) l = asked_stays k s.tags q.tags g type l
laid_later k s q g (Value o) l = tt
laid_later k s q g (Declarator steps) l = tt
laid_later k s q g (Enumerator x value) l = tt
laid_later k s q g (Parameter type) l = tt
laid_later k s q g (NamedType type) l = tt
laid_later k s q g (Braced count) l = tt
laid_later k s q g (Filled next) l = tt
laid_later k s q g (CaseLabel word) l = tt
laid_later k s q g DefaultLabel l = tt
laid_later k s q g Statement l = tt

-- THE RECURSION

with_rules_of : (number : ℕ) (rules : List Rule) (m : Judged) (r : Part × Known) → with_rules number rules m ≡ Ok r → m ≡ Ok r
with_rules_of number rules (Ok x) r e = ap (λ y. Ok y) (unless_of (broken_rules number rules) x r e)
with_rules_of number rules (Err b) r e = by (b.node == number) e
  where
    by : (same : Bool) → (if same then Err (first_of b (broken_rules number rules)) else Err b) ≡ Ok r → Err b ≡ Ok r
    by true k = cc
    by false k = k

mutual
  judge_gives : (t : Syntax) (c : Context) (s : Known) → Gives (λ type. ⊥) (nodes_of t) s (judge t c s)
  judge_gives (node k at parts) c s r e =
      let z = with_rules_of _ (role_rules c.role k) (and_then (judge_parts k (opened k c s).0 [] parts (opened k c s).1) _) r e in
      let x = then_of (judge_parts k (opened k c s).0 [] parts (opened k c s).1) _ r z in
      let p = parts_give k (opened k c s).0 [] parts (opened k c s).1 tt x.0 x.1 in
      let j = judged_gives k (opened k c s).0 x.0.0 x.0.1 p.1 r x.2 in (
        after_same (nodes_of_row parts + 1) s (opened k c s).1 r.1 (opened_same k c s)
            (then_more (nodes_of_row parts) 1 (opened k c s).1 x.0.1 r.1 p.0 j.0),
        j.1,
      )

  parts_give : (k : Kind) (f : Frame) (before : List Part) (ts : SyntaxRow) (s : Known) → AllLaid (Asked k s.tags) s.tags before
      → (r : List Part × Known) → judge_parts k f before ts s ≡ Ok r → More (nodes_of_row ts) s r.1 × AllLaid (Asked k r.1.tags) r.1.tags r.0
  parts_give k f before none s b r e =
      let z : (before, s) ≡ r = cc in
      subst (λ x. More 0 s x.1 × AllLaid (Asked k x.1.tags) x.1.tags x.0) z (none_more s s (same s), b)
  parts_give k f before (more t ts) s b r e =
      let x = then_of (judge t (context k f before (kind_at t) s) s) _ r e in
      let y = then_of (behind k f before x.0.0 ts x.0.1) _ r x.2 in
      let first = judge_gives t (context k f before (kind_at t) s) s x.0 x.1 in
      let grown = first.0 in
      let before_then = all_laid_stay k s.tags x.0.1.tags grown.grows before b in
      let second = behind_gives k f before x.0.0 ts x.0.1 before_then first.1 y.0 y.1 in
      let grown_more = second.0 in
      let before_last = all_laid_stay k x.0.1.tags y.0.1.tags grown_more.grows before before_then in
      let part_last = laid_later k x.0.1 y.0.1 grown_more.grows y.0.0 second.1 in
      let others = parts_give k f (before ++ y.0.0 ∷ []) ts y.0.1
      (laid_append (Asked k y.0.1.tags) y.0.1.tags before y.0.0 before_last part_last) r y.2 in
      (then_more (nodes_of t) (nodes_of_row ts) s y.0.1 r.1 (zero_more (nodes_of t) s x.0.1 y.0.1 first.0 second.0) others.0, others.1)

items_give : (items : SyntaxRow) (s r : Known) → judge_items items s ≡ Ok r → More (nodes_of_row items) s r
items_give none s r e = let z : s ≡ r = cc in subst (λ x. More 0 s x) z (none_more s s (same s))
items_give (more item items) s r e =
    let x = then_of (judge item file_context s) _ r e in
    let g = judge_gives item file_context s x.0 x.1 in
    then_more (nodes_of item) (nodes_of_row items) s x.0.1 r g.0 (items_give items x.0.1 r x.2)

pub each_node_is_typed : EachNodeIsTyped
each_node_is_typed items marks t e =
    let x = then_of (judge_items items (known_first (names_with_bodies items))) _ t e in
    let h = items_give items (known_first (names_with_bodies items)) x.0 x.1 in
    let z : typing_of marks x.0 ≡ t = cc in
    let a = h.types in
    let b = h.means in
    subst (λ u. (length u.types ≡ nodes_of_row items) × (length u.means ≡ nodes_of_row items)) z (a ∙ omega arith, b ∙ omega arith)

pub sizes_stay : SizesStay
sizes_stay t c s r type e h k =
    let j = judge_gives t c s r h in
    let g = j.0 in
    let b = g.grows in
    layouts_stay s.tags r.1.tags type e b.bodies b.count k

pub structures_end : StructuresEnd
structures_end items marks t e =
    let x = then_of (judge_items items (known_first (names_with_bodies items))) _ t e in
    let h = items_give items (known_first (names_with_bodies items)) x.0 x.1 in
    let z : typing_of marks x.0 ≡ t = cc in
    subst (λ u. NoneContainsItself u.tags) z
    (marks_keep_ends marks (innermost x.0.tag_names) x.0.tags (laid_out_ends x.0.tags (h.laid laid_first)))
