-- A structure of a file that is typed has members where it has a body.
use Rattle.std.proofs.Common.{◌≡◌, ℕ, zero, suc, ◌+◌, ◌==◌, Bool, true, false, if◌then◌else◌, List, [], ◌∷◌, ◌++◌, map, length, slice_get, slice_set, Option, Some, None, Result, Ok, Err, refl, sym, ap, subst, ◌∙◌}
use Rattle.p9_lang.specs.declared.tree.Kind.{Kind}
use Rattle.p9_lang.specs.declared.tree.Kind.TheVariants as kind
use Rattle.p9_lang.specs.declared.tree.EntryBy.{EntryBy}
use Rattle.p9_lang.specs.Names.{is_nameless}
use Rattle.p9_lang.specs.Trees.{node, none, more, Syntax, SyntaxRow}
use Rattle.p9_lang.specs.Types.{TypeTree, Void, Int, Array, Meant, Nothing, Static, MemberTree, TagTree, Tags}
use Rattle.p9_lang.specs.Rules.{Rule, Malformed, Undeclared, Redeclared, Broken, at_node, first_of, unless, and_then}
use Rattle.p9_lang.specs.Constants.{Operand}
use Rattle.p9_lang.specs.Expressions.{Verdict, verdict}
use Rattle.p9_lang.specs.Scopes.{Known, Declared, Keyword, Struct, Union, Enum, TagName, Tagging, known_first, new_structure, new_tag, known_tag, tag_from, tagged_as, with_body, or_else, with_node, next_node, close_level, close_block, in_levels, innermost, around}
use Rattle.p9_lang.specs.Declarators.{Step, Head, Words, Named, Structure, Enumeration, head_of, Storage, storage_of, LengthBy, ByNothing, NameNode, name_of, Declaring, closed, with_length}
use Rattle.p9_lang.specs.Parts.{Role, EntryOf, Context, file_context, Part, Value, Declarator, Object, Members, Enumerator, Parameter, NamedType, Braced, Filled, CaseLabel, DefaultLabel, Statement, Frame, Judged, kind_at, members_in, follows, length_by, or_unnamed, declared_members, last_object, name_in}
use Rattle.p9_lang.specs.Opening.{opened, context, of_head}
use Rattle.p9_lang.specs.Entries.{is_index_next}
use Rattle.p9_lang.specs.Declaring.{broken_rules, last_node, behind, declared, declare_object, declare_member, declare_parameter, object_declaring, function_declaring, with_body_open, complete_if, with_members, with_length_given, with_given_length, named_with, length_rules, declared_before, given_length, retyped, initialised}
use Rattle.p9_lang.specs.Typing.{has, judged_brackets, judged_name, judged_text, judged_decl_name, judged_enumerator, judged_entry, judged_as, judged_expression, judged, judge, judge_parts, judge_items, role_rules, with_rules, is_filled_by_text, is_block_static, is_whole, text_type, operands_of}
use Rattle.p9_lang.specs.Files.{mark_tag, mark_tags, typing_of, names_with_bodies}
use Rattle.p9_lang.proofs.Counting.{then_of, unless_of}
use Rattle.p9_firsts.specs.Whole.{BodiesAreFull}
use Rattle.p9_firsts.specs.Laws.{BodiesHaveMembers}

-- LISTS OF STRUCTURES

nothing_there : (i : ℕ) (tag : TagTree) → slice_get [] i ≡ Some tag → ⊥
nothing_there zero tag e = cc
nothing_there (suc i) tag e = cc

full_first : BodiesAreFull []
full_first i tag e k = nothing_there i tag e

full_append : (tags new : Tags) → BodiesAreFull tags → BodiesAreFull new → BodiesAreFull (tags ++ new)
full_append [] new h g i tag e k = g i tag e k
full_append (t ∷ ts) new h g zero tag e k = h zero tag e k
full_append (t ∷ ts) new h g (suc i) tag e k = full_append ts new (λ j. h (suc j)) g i tag e k

bodiless_full : (new : TagTree) → new.members ≡ None → BodiesAreFull (new ∷ [])
bodiless_full new h zero tag e k =
    let z : new ≡ tag = cc in
    let y : None ≡ Some [] = sym h ∙ ap (λ x. x.members) z ∙ k in
    cc
bodiless_full new h (suc i) tag e k = nothing_there i tag e

new_full : (keyword : Keyword) (name : List ℕ) → BodiesAreFull (new_structure keyword name)
new_full Struct name = bodiless_full (record { is_union = false; name = name; members = None; is_marked = false }) refl
new_full Union name = bodiless_full (record { is_union = true; name = name; members = None; is_marked = false }) refl
new_full Enum name = full_first

full_set : (tags : Tags) (n : ℕ) (new : TagTree) → BodiesAreFull tags → (new.members ≡ Some [] → ⊥) → BodiesAreFull (slice_set tags n new)
full_set [] zero new h g i tag e k = h i tag e k
full_set [] (suc n) new h g i tag e k = h i tag e k
full_set (t ∷ ts) zero new h g zero tag e k = let z : new ≡ tag = cc in g (ap (λ x. x.members) z ∙ k)
full_set (t ∷ ts) zero new h g (suc i) tag e k = h (suc i) tag e k
full_set (t ∷ ts) (suc n) new h g zero tag e k = h zero tag e k
full_set (t ∷ ts) (suc n) new h g (suc i) tag e k = full_set ts n new (λ j. h (suc j)) g i tag e k

full_body : (tags : Tags) (n : ℕ) (members : List MemberTree) → BodiesAreFull tags → (members ≡ [] → ⊥)
    → BodiesAreFull (with_body n members (slice_get tags n) tags)
full_body tags n members h g = by (slice_get tags n) refl
  where
    kept : (old : TagTree) → slice_get tags n ≡ Some old → (o : Option (List MemberTree)) → old.members ≡ o → or_else o (Some members) ≡ Some [] → ⊥
    kept old at None q e = let z : members ≡ [] = cc in g z
    kept old at (Some ms) q e = h n old at (q ∙ e)

    by : (o : Option TagTree) → slice_get tags n ≡ o → BodiesAreFull (with_body n members o tags)
    by None at = h
    by (Some old) at = full_set tags n (record old { members = or_else old.members (Some members) }) h (kept old at old.members refl)

full_mark : (n : ℕ) (tags : Tags) → BodiesAreFull tags → BodiesAreFull (mark_tag n tags)
full_mark zero [] h i tag e k = h i tag e k
full_mark zero (t ∷ ts) h zero tag e k =
    let z : record t { is_marked = true } ≡ tag = cc in h zero t refl (ap (λ x. x.members) z ∙ k)
full_mark zero (t ∷ ts) h (suc i) tag e k = h (suc i) tag e k
full_mark (suc n) [] h i tag e k = h i tag e k
full_mark (suc n) (t ∷ ts) h zero tag e k = h zero tag e k
full_mark (suc n) (t ∷ ts) h (suc i) tag e k = full_mark n ts (λ j. h (suc j)) i tag e k

full_marks : (marks : List (List ℕ)) (names : List TagName) (tags : Tags) → BodiesAreFull tags → BodiesAreFull (mark_tags marks names tags)
full_marks marks [] tags h = h
full_marks marks (t ∷ ts) tags h = by _ (full_marks marks ts tags h)
  where
    by : (b : Bool) → BodiesAreFull (mark_tags marks ts tags) → BodiesAreFull (if b then mark_tag t.number (mark_tags marks ts tags) else mark_tags marks ts tags)
    by true k = full_mark t.number (mark_tags marks ts tags) k
    by false k = k

-- WHAT IS KNOWN

abbrev KeepsFull : (s q : Known) → Type 0
KeepsFull s q = BodiesAreFull s.tags → BodiesAreFull q.tags

-- the members that a declaration of members has
abbrev PartIsFull : Part → Type 0
PartIsFull (Members members) = members ≡ [] → ⊥
PartIsFull (Object type steps last role) = Unit {0}
PartIsFull (Value o) = Unit {0}
PartIsFull (Declarator steps) = Unit {0}
PartIsFull (Enumerator x value) = Unit {0}
PartIsFull (Parameter type) = Unit {0}
PartIsFull (NamedType type) = Unit {0}
PartIsFull (Braced count) = Unit {0}
PartIsFull (Filled next) = Unit {0}
PartIsFull (CaseLabel word) = Unit {0}
PartIsFull DefaultLabel = Unit {0}
PartIsFull Statement = Unit {0}

abbrev GivesFull : Known → Judged → Type 0
GivesFull s m = (r : Part × Known) → m ≡ Ok r → KeepsFull s r.1 × PartIsFull r.0

ok_full : (s q : Known) (part : Part) → KeepsFull s q → PartIsFull part → GivesFull s (Ok (part, q))
ok_full s q part h l r e = let z : (part, q) ≡ r = cc in subst (λ x. KeepsFull s x.1 × PartIsFull x.0) z (h, l)

err_full : (s : Known) (b : Broken) → GivesFull s (Err b)
err_full s b r e = cc

if_full : (s : Known) (b : Bool) (x y : Judged) → GivesFull s x → GivesFull s y → GivesFull s (if b then x else y)
if_full s true x y h k = h
if_full s false x y h k = k

unless_full : (broken : List Broken) (s q : Known) (part : Part) → KeepsFull s q → PartIsFull part → GivesFull s (unless broken (part, q))
unless_full broken s q part h l r e = ok_full s q part h l r (ap (λ x. Ok x) (unless_of broken (part, q) r e))

then_full : {A : Type 0} (s : Known) (m : Result A Broken) (next : A → Judged) → ((x : A) → GivesFull s (next x)) → GivesFull s (and_then m next)
then_full s m next h r e = let x = then_of m next r e in h x.0 r x.2

has_full : (rules : List Rule) (type : TypeTree) (means : Meant) (part : Part) (s q : Known) → KeepsFull s q → PartIsFull part
    → GivesFull s (has rules type means part q)
has_full rules type means part s q h l = unless_full (broken_rules (next_node q) rules) s (with_node type means q) part h l

-- NODES

brackets_full : (parts : List Part) (s : Known) → GivesFull s (judged_brackets parts s)
brackets_full [] s = has_full [] Void Nothing _ s s (λ h. h) tt
brackets_full (Value o ∷ []) s = has_full [] Void Nothing _ s s (λ h. h) tt
brackets_full (Declarator steps ∷ []) s = has_full [] Void Nothing _ s s (λ h. h) tt
brackets_full (Declarator steps ∷ (Value o ∷ [])) s = has_full [] Void Nothing _ s s (λ h. h) tt
brackets_full _ s = err_full s (at_node (next_node s) Malformed)

name_full : (x : List ℕ) (d : Option Declared) (s : Known) → GivesFull s (judged_name x d s)
name_full x None s = err_full s (at_node (next_node s) (Undeclared x))
name_full x (Some d) s = has_full _ d.type d.means _ s s (λ h. h) tt

text_full : (type : TypeTree) (role : Role) (s : Known) → GivesFull s (judged_text type role s)
text_full type role s =
    if_full s (is_filled_by_text role) _ _ (has_full [] type Nothing _ s s (λ h. h) tt)
    (has_full _ type (Static s.statics) _ s (record s { statics = s.statics + 1 }) (λ h. h) tt)

decl_name_full : (x : List ℕ) (role : Role) (s : Known) → GivesFull s (judged_decl_name x role s)
decl_name_full x role s =
    if_full s (is_block_static role) _ _ (has_full [] Void (Static s.statics) _ s (record s { statics = s.statics + 1 }) (λ h. h) tt)
    (has_full [] Void Nothing _ s s (λ h. h) tt)

enumerator_full : (x : List ℕ) (parts : List Part) (s : Known) → GivesFull s (judged_enumerator x parts s)
enumerator_full x [] s = has_full [] Int Nothing _ s s (λ h. h) tt
enumerator_full x (Value o ∷ []) s = has_full [] Int Nothing _ s s (λ h. h) tt
enumerator_full x _ s = err_full s (at_node (next_node s) Malformed)

entry_full : (entry_by : EntryBy) (role : Role) (parts : List Part) (s : Known) → GivesFull s (judged_entry entry_by role parts s)
entry_full entry_by (EntryOf list next) parts s = has_full _ _ Nothing _ s s (λ h. h) tt
entry_full entry_by _ parts s = err_full s (at_node (next_node s) Malformed)

as_full : (k : Kind) (operands : List Operand) (m : Result Verdict Rule) (s : Known) → GivesFull s (judged_as k operands m s)
as_full k operands (Ok v) s = has_full [] v.type Nothing _ s s (λ h. h) tt
as_full k operands (Err rule) s = err_full s (at_node (next_node s) rule)

expression_full : (k : Kind) (role : Role) (operands : Option (List Operand)) (s : Known) → GivesFull s (judged_expression k role operands s)
expression_full k role None s = err_full s (at_node (next_node s) Malformed)
expression_full k role (Some operands) s = as_full k operands (verdict s.tags (is_whole role) k operands) s

unnamed_full : (base : TypeTree) (members : List MemberTree) → or_unnamed base members ≡ [] → ⊥
unnamed_full base [] e = cc
unnamed_full base (m ∷ ms) e = cc

judged_full : (k : Kind) (f : Frame) (parts : List Part) (s : Known) → GivesFull s (judged k f parts s)
judged_full (kind.Declaration spec inits) f parts s = has_full _ Void Nothing Statement s s (λ h. h) tt
judged_full (kind.Function spec) f parts s = has_full _ Void Nothing Statement s (close_level s) (λ h. h) tt
judged_full (kind.Member spec) f parts s = has_full _ Void Nothing _ s s (λ h. h) (unnamed_full f.base (declared_members f.base parts))
judged_full (kind.EnumConst x valued) f parts s = enumerator_full x parts s
judged_full (kind.DeclName x) f parts s = decl_name_full x f.context.role s
judged_full (kind.Star volatiles) f parts s = has_full [] Void Nothing _ s s (λ h. h) tt
judged_full (kind.Brackets inner sized) f parts s = brackets_full parts s
judged_full (kind.Params inner void_word) f parts s = has_full [] Void Nothing _ s (close_level s) (λ h. h) tt
judged_full kind.DeclParens f parts s = has_full [] Void Nothing _ s s (λ h. h) tt
judged_full (kind.Param spec) f parts s = has_full _ _ Nothing _ s s (λ h. h) tt
judged_full (kind.NamedType spec) f parts s = has_full _ _ _ _ s s (λ h. h) tt
judged_full (kind.InitList comma) f parts s = has_full [] _ Nothing _ s s (λ h. h) tt
judged_full (kind.Entry entry_by equals) f parts s = entry_full entry_by f.context.role parts s
judged_full kind.Block f parts s = has_full [] Void Nothing Statement s (close_block s) (λ h. h) tt
judged_full kind.Expression f parts s = has_full [] Void Nothing Statement s s (λ h. h) tt
judged_full kind.If f parts s = has_full _ Void Nothing Statement s s (λ h. h) tt
judged_full kind.While f parts s = has_full _ Void Nothing Statement s s (λ h. h) tt
judged_full kind.Do f parts s = has_full _ Void Nothing Statement s s (λ h. h) tt
judged_full (kind.For first test step) f parts s = has_full _ Void Nothing Statement s s (λ h. h) tt
judged_full kind.Switch f parts s = has_full _ Void Nothing Statement s s (λ h. h) tt
judged_full kind.Case f parts s = has_full _ Void Nothing _ s s (λ h. h) tt
judged_full kind.Default f parts s = has_full [] Void Nothing DefaultLabel s s (λ h. h) tt
judged_full kind.Break f parts s = has_full _ Void Nothing Statement s s (λ h. h) tt
judged_full kind.Continue f parts s = has_full _ Void Nothing Statement s s (λ h. h) tt
judged_full kind.Return f parts s = has_full _ Void Nothing Statement s s (λ h. h) tt
judged_full (kind.Name x) f parts s = name_full x (in_levels x s.names) s
judged_full (kind.Text texts) f parts s = text_full (text_type texts) f.context.role s
judged_full k f parts s = expression_full k f.context.role (operands_of parts) s

-- OPENING

either_full : (s : Known) (b : Bool) (x y : Tagging) → KeepsFull s x.known → KeepsFull s y.known → KeepsFull s (if b then x else y).known
either_full s true x y h k = h
either_full s false x y h k = k

new_tag_full : (rules : List Rule) (keyword : Keyword) (name : List ℕ) (has_body : Bool) (s : Known) → KeepsFull s (new_tag rules keyword name has_body s).known
new_tag_full rules keyword name has_body s h = full_append s.tags (new_structure keyword name) h (new_full keyword name)

known_tag_full : (t : TagName) (has_body : Bool) (s : Known) → KeepsFull s (known_tag t has_body s).known
known_tag_full t true s h = h
known_tag_full t false s h = h

tag_from_full : (o : Option TagName) (keyword : Keyword) (name : List ℕ) (has_body : Bool) (s : Known) → KeepsFull s (tag_from o keyword name has_body s).known
tag_from_full None keyword name has_body s = new_tag_full [] keyword name has_body s
tag_from_full (Some t) keyword name has_body s =
    either_full s _ (known_tag t has_body s) (new_tag (Redeclared name ∷ []) keyword name has_body s) (known_tag_full t has_body s)
    (new_tag_full (Redeclared name ∷ []) keyword name has_body s)

tagged_full : (keyword : Keyword) (name : List ℕ) (has_body : Bool) (s : Known) → KeepsFull s (tagged_as keyword name has_body s).known
tagged_full keyword name has_body s =
    either_full s (is_nameless name) (new_tag [] keyword name has_body s) (tag_from _ keyword name has_body s)
    (new_tag_full [] keyword name has_body s) (tag_from_full _ keyword name has_body s)

head_full : (storage : Storage) (c : Context) (h : Head) (s : Known) → KeepsFull s (of_head storage c h s).1
head_full storage c (Words type) s = λ h. h
head_full storage c (Named x) s = λ h. h
head_full storage c (Structure is_union name members) s = tagged_full _ name _ s
head_full storage c (Enumeration name count) s = tagged_full Enum name _ s

opened_full : (k : Kind) (c : Context) (s : Known) → KeepsFull s (opened k c s).1
opened_full (kind.Declaration spec inits) c s = head_full _ c _ s
opened_full (kind.Function spec) c s = head_full (storage_of spec.words) c (head_of spec.words) (record s { autos = 0 })
opened_full (kind.Member spec) c s = head_full _ c _ s
opened_full (kind.Param spec) c s = head_full _ c _ s
opened_full (kind.NamedType spec) c s = head_full _ c _ s
opened_full kind.Block c s = λ h. h
opened_full (kind.Params inner void_word) c s = λ h. h
opened_full _ c s = λ h. h

-- PARTS

object_full : (d : Declaring) (by : LengthBy) (base : TypeTree) (steps : List Step) (n : Option NameNode) (s : Known)
    → GivesFull s (declare_object d by base steps n s)
object_full d by base steps None s = err_full s (at_node (last_node s) Malformed)
object_full d by base steps (Some n) s = then_full s _ _ (λ made. ok_full s _ _ (λ h. h) tt)

function_full : (steps : List Step) (s : Known) (m : Judged) → GivesFull s m → GivesFull s (and_then m (with_body_open steps))
function_full steps s m h r e =
    let x = then_of m (with_body_open steps) r e in
    let g = h x.0 x.1 in
    ok_full s _ x.0.0 g.0 g.1 r x.2

member_full : (f : Frame) (before : List Part) (steps : List Step) (n : Option NameNode) (s : Known) → GivesFull s (declare_member f before steps n s)
member_full f before steps None s = err_full s (at_node (last_node s) Malformed)
member_full f before steps (Some n) s = then_full s _ _ (λ made. ok_full s _ _ (λ h. h) tt)

parameter_full : (f : Frame) (steps : List Step) (n : Option NameNode) (s : Known) → GivesFull s (declare_parameter f steps n s)
parameter_full f steps None s = then_full s _ _ (λ made. ok_full s _ _ (λ h. h) tt)
parameter_full f steps (Some n) s = then_full s _ _ (λ made. ok_full s _ _ (λ h. h) tt)

declared_full : (k : Kind) (f : Frame) (before : List Part) (steps : List Step) (rest : SyntaxRow) (s : Known) → GivesFull s (declared k f before steps rest s)
declared_full (kind.Declaration spec inits) f before steps rest s =
    object_full (object_declaring f (follows rest) s) (length_by (follows rest)) f.base steps (name_of steps) s
declared_full (kind.Function spec) f before steps rest s =
    function_full steps s _ (object_full (function_declaring f) ByNothing f.base steps (name_of steps) s)
declared_full (kind.Member spec) f before steps rest s = member_full f before steps (name_of steps) s
declared_full (kind.Param spec) f before steps rest s = parameter_full f steps (name_of steps) s
declared_full (kind.NamedType spec) f before steps rest s = then_full s _ _ (λ made. ok_full s _ _ (λ h. h) tt)
declared_full k f before steps rest s = ok_full s s (Declarator steps) (λ h. h) tt

given_tags : (base : TypeTree) (steps : List Step) (last count : ℕ) (x : List ℕ) (s q : Known)
    → with_given_length base steps last count x s ≡ Ok q → q.tags ≡ s.tags
given_tags base steps last count x s q e =
    let made = then_of
    (named_with last (length_rules x (declared_before x (innermost s.names))) (closed s.tags ByNothing base (map (with_length count) steps) s.types))
    (λ made. Ok (record s { types = made.1; names = retyped x made.0 (innermost s.names) ∷ around s.names })) q e in
    let m = made.2 in
    let z : record s { types = made.0.1; names = retyped x made.0.0 (innermost s.names) ∷ around s.names } ≡ q = cc in
    ap (λ y. y.tags) (sym z)

same_tags : (s q : Known) (m : Result Known Broken) → m ≡ Ok s → m ≡ Ok q → q.tags ≡ s.tags
same_tags s q m d e = let z : s ≡ q = cc in ap (λ x. x.tags) (sym z)

length_tags : (base : TypeTree) (object : Option Part) (part : Part) (s q : Known) → with_length_given base object part s ≡ Ok q → q.tags ≡ s.tags
length_tags base (Some (Object (Array element zero) steps last role)) part s q e =
    given_tags base steps last (given_length part) (name_in (name_of steps)) s q e
length_tags base _ part s q e = same_tags s q (Ok s) refl e

initialised_full : (k : Kind) (f : Frame) (before : List Part) (part : Part) (s : Known) → PartIsFull part → GivesFull s (initialised k f before part s)
initialised_full (kind.Declaration spec inits) f before part s l r e =
    let x = then_of (with_length_given f.base (last_object before) part s) _ r e in
    let t = length_tags f.base (last_object before) part s x.0 x.1 in
    unless_full _ s x.0 part (λ h. subst (λ tags. BodiesAreFull tags) (sym t) h) l r x.2
initialised_full (kind.Entry entry_by equals) f before part s l r e =
    if_full s (is_index_next entry_by before) _ _ (ok_full s s part (λ h. h) l) (unless_full _ s s part (λ h. h) l) r e
initialised_full k f before part s l r e = ok_full s s part (λ h. h) l r e

first_empty : {A : Type 0} (xs ys : List A) → xs ++ ys ≡ [] → xs ≡ []
first_empty [] ys e = refl
first_empty (x ∷ xs) ys e = cc

last_empty : {A : Type 0} (xs ys : List A) → xs ++ ys ≡ [] → ys ≡ []
last_empty [] ys e = e
last_empty (x ∷ xs) ys e = cc

last_members : (before : List Part) (members : List MemberTree) → (members ≡ [] → ⊥) → members_in (before ++ Members members ∷ []) ≡ [] → ⊥
last_members [] members h e = h (first_empty members [] e)
last_members (Members first ∷ parts) members h e =
    last_members parts members h (last_empty first (members_in (parts ++ Members members ∷ [])) e)
last_members (_ ∷ parts) members h e = last_members parts members h e

complete_full : (is_last : Bool) (tag : Option ℕ) (members : List MemberTree) (s : Known) → (members ≡ [] → ⊥) → KeepsFull s (complete_if is_last tag members s)
complete_full is_last None members s g h = h
complete_full false (Some number) members s g h = h
complete_full true (Some number) members s g h = full_body s.tags number members h g

behind_full : (k : Kind) (f : Frame) (before : List Part) (part : Part) (rest : SyntaxRow) (s : Known) → PartIsFull part
    → GivesFull s (behind k f before part rest s)
behind_full k f before (Value o) rest s l = initialised_full k f before (Value o) s l
behind_full k f before (Braced count) rest s l = initialised_full k f before (Braced count) s l
behind_full k f before (Declarator steps) rest s l = declared_full k f before steps rest s
behind_full k f before (Enumerator x value) rest s l = unless_full _ s _ _ (λ h. h) tt
behind_full k f before (Members members) rest s l =
    ok_full s (with_members f before (Members members) s) (Members members)
    (complete_full (suc (length before) == f.braces) f.tag (members_in (before ++ Members members ∷ [])) s (last_members before members l)) l
behind_full k f before (CaseLabel word) rest s l = unless_full _ s s (CaseLabel word) (λ h. h) tt
behind_full k f before DefaultLabel rest s l = unless_full _ s s DefaultLabel (λ h. h) tt
behind_full k f before (Object type steps last role) rest s l = ok_full s s (Object type steps last role) (λ h. h) tt
behind_full k f before (Parameter type) rest s l = ok_full s s (Parameter type) (λ h. h) tt
behind_full k f before (NamedType type) rest s l = ok_full s s (NamedType type) (λ h. h) tt
behind_full k f before (Filled next) rest s l = ok_full s s (Filled next) (λ h. h) tt
behind_full k f before Statement rest s l = ok_full s s Statement (λ h. h) tt

-- THE RECURSION

pub with_rules_of : (number : ℕ) (rules : List Rule) (m : Judged) (r : Part × Known) → with_rules number rules m ≡ Ok r → m ≡ Ok r
with_rules_of number rules (Ok x) r e = ap (λ y. Ok y) (unless_of (broken_rules number rules) x r e)
with_rules_of number rules (Err b) r e = by (b.node == number) e
  where
    by : (same : Bool) → (if same then Err (first_of b (broken_rules number rules)) else Err b) ≡ Ok r → Err b ≡ Ok r
    by true k = cc
    by false k = k

mutual
  judge_full : (t : Syntax) (c : Context) (s : Known) → GivesFull s (judge t c s)
  judge_full (node k at parts) c s r e =
      let z = with_rules_of _ (role_rules c.role k) (and_then (judge_parts k (opened k c s).0 [] parts (opened k c s).1) _) r e in
      let x = then_of (judge_parts k (opened k c s).0 [] parts (opened k c s).1) _ r z in
      let p = parts_full k (opened k c s).0 [] parts (opened k c s).1 x.0 x.1 in
      let j = judged_full k (opened k c s).0 x.0.0 x.0.1 r x.2 in
      (λ h. j.0 (p (opened_full k c s h)), j.1)

  parts_full : (k : Kind) (f : Frame) (before : List Part) (ts : SyntaxRow) (s : Known) (r : List Part × Known) → judge_parts k f before ts s ≡ Ok r → KeepsFull s r.1
  parts_full k f before none s r e = let z : (before, s) ≡ r = cc in subst (λ x. KeepsFull s x.1) z (λ h. h)
  parts_full k f before (more t ts) s r e =
      let x = then_of (judge t (context k f before (kind_at t) s) s) _ r e in
      let y = then_of (behind k f before x.0.0 ts x.0.1) _ r x.2 in
      let first = judge_full t (context k f before (kind_at t) s) s x.0 x.1 in
      let second = behind_full k f before x.0.0 ts x.0.1 first.1 y.0 y.1 in
      let others = parts_full k f (before ++ y.0.0 ∷ []) ts y.0.1 r y.2 in
      λ h. others (second.0 (first.0 h))

items_full : (items : SyntaxRow) (s r : Known) → judge_items items s ≡ Ok r → KeepsFull s r
items_full none s r e = let z : s ≡ r = cc in subst (λ x. KeepsFull s x) z (λ h. h)
items_full (more item items) s r e =
    let x = then_of (judge item file_context s) _ r e in
    let g = judge_full item file_context s x.0 x.1 in
    let others = items_full items x.0.1 r x.2 in
    λ h. others (g.0 h)

pub bodies_have_members : BodiesHaveMembers
bodies_have_members items marks t e =
    let x = then_of (judge_items items (known_first (names_with_bodies items))) _ t e in
    let h = items_full items (known_first (names_with_bodies items)) x.0 x.1 full_first in
    let z : typing_of marks x.0 ≡ t = cc in
    subst (λ u. BodiesAreFull u.tags) z (full_marks marks (innermost x.0.tag_names) x.0.tags h)
