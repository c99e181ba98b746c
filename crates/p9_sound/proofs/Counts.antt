-- What a node does to the count of automatics, and when it is a declarator.
use Rattle.std.proofs.Common.{◌≡◌, ◌<◌, ℕ, suc, ◌+◌, Bool, true, false, not, ◌&&◌, ◌==◌, if◌then◌else◌, List, [], ◌∷◌, ◌++◌, length, slice_get, Option, Some, None, Ok, refl, sym, ap, subst, ◌∙◌}
use Rattle.std.proofs.lemmas.List.{length-set}
use Rattle.p9_lang.specs.Names.{is_nameless}
use Rattle.p9_lang.specs.declared.tree.Kind.{Kind}
use Rattle.p9_lang.specs.declared.tree.Kind.TheVariants as kind
use Rattle.p9_lang.specs.declared.tree.EntryBy.{EntryBy}
use Rattle.p9_lang.specs.Trees.{SyntaxRow}
use Rattle.p9_lang.specs.Types.{TypeTree, Void, Int, Meant, Nothing, Static, TypeName, type_row, MemberTree}
use Rattle.p9_lang.specs.Layout.{is_within_limit}
use Rattle.p9_lang.specs.Rules.{Rule, BadConstant, breaks_if, Undeclared, Redeclared}
use Rattle.p9_lang.specs.Scopes.{Known, Declared, Keyword, TagName, Tagging, tag_from, known_tag, new_tag, tagged_as, with_node, next_node, innermost, in_level, in_levels, close_level, close_block, Enum}
use Rattle.p9_lang.specs.Declarators.{Step, Names, Keeps, Points, Sized, Unsized, Takes, adjusted, Head, Words, Named, Structure, Enumeration, Storage, NameNode, closed, name_of, ByNothing, ByCaller}
use Rattle.p9_lang.specs.Constants.{Constant, NotConstant, constant_at}
use Rattle.p9_lang.specs.Parts.{Role, EntryOf, Context, Part, Value, Declarator, Object, Members, Enumerator, Parameter, NamedType, Braced, Filled, CaseLabel, Statement, DefaultLabel, Frame, Judged, is_declarator, object_type, last_object, inner_steps, declared_members, or_unnamed, parameter_types, positions, first_constant, members_in, object_names, Plain}
use Rattle.p9_lang.specs.Conversions.{is_function}
use Rattle.p9_lang.specs.Opening.{opened, of_head}
use Rattle.p9_lang.specs.Entries.{constant_or_zero, entry_rules, filled_type, entry_role, entry_position, is_index_next}
use Rattle.p9_lang.specs.Declaring.{broken_rules, behind, last_node, declared, enumerated, enumerator_value, constant_meaning, named_with, member_rules, names_in_braces, declare_member, declare_parameter, parameter_rules, declared_parameter, close_type, with_members, complete_if, unless_broken, initialiser_rules, initialised}
use Rattle.p9_lang.specs.Typing.{has, typeless, step_at, operand, judged_brackets, judged_name, judged_enumerator, judged_entry, is_usable, is_enumerator, is_filled_by_text, is_block_static, text_type, judged}
use Rattle.p9_lang.proofs.Counting.{then_of, unless_of}
use Rattle.p9_sound.specs.Nodes.{has_verdict}
use Rattle.p9_sound.specs.Automatics.{declares}
use Rattle.p9_sound.proofs.Numbering.{get_apart, get_before}
use Rattle.p9_sound.proofs.Nodes.{Took, node_took}

-- OPENING

either_autos : (n : ℕ) (b : Bool) (x y : Tagging) → x.known.autos ≡ n → y.known.autos ≡ n → (if b then x else y).known.autos ≡ n
either_autos n true x y h g = h
either_autos n false x y h g = g

known_tag_autos : (t : TagName) (has_body : Bool) (s : Known) → (known_tag t has_body s).known.autos ≡ s.autos
known_tag_autos t true s = refl
known_tag_autos t false s = refl

tag_from_autos : (o : Option TagName) (keyword : Keyword) (name : List ℕ) (has_body : Bool) (s : Known)
    → (tag_from o keyword name has_body s).known.autos ≡ s.autos
tag_from_autos None keyword name has_body s = refl
tag_from_autos (Some t) keyword name has_body s =
    either_autos s.autos _ (known_tag t has_body s) (new_tag (Redeclared name ∷ []) keyword name has_body s) (known_tag_autos t has_body s) refl

tagged_autos : (keyword : Keyword) (name : List ℕ) (has_body : Bool) (s : Known) → (tagged_as keyword name has_body s).known.autos ≡ s.autos
tagged_autos keyword name has_body s =
    either_autos s.autos (is_nameless name) (new_tag [] keyword name has_body s) (tag_from _ keyword name has_body s) refl
    (tag_from_autos _ keyword name has_body s)

head_autos : (storage : Storage) (c : Context) (h : Head) (s : Known) → (of_head storage c h s).1.autos ≡ s.autos
head_autos storage c (Words type) s = refl
head_autos storage c (Named x) s = refl
head_autos storage c (Structure is_union name members) s = tagged_autos _ name _ s
head_autos storage c (Enumeration name count) s = tagged_autos Enum name _ s

abbrev pub is_item : Kind → Bool
is_item (kind.Function spec) = true
is_item k = false

pub opened_autos : (k : Kind) (c : Context) (s : Known) → is_item k ≡ false → (opened k c s).1.autos ≡ s.autos
opened_autos (kind.Declaration spec inits) c s h = head_autos _ c _ s
opened_autos (kind.Function spec) c s h = cc
opened_autos (kind.Member spec) c s h = head_autos _ c _ s
opened_autos (kind.Param spec) c s h = head_autos _ c _ s
opened_autos (kind.NamedType spec) c s h = head_autos _ c _ s
opened_autos kind.Block c s h = refl
opened_autos (kind.Params inner void_word) c s h = refl
opened_autos k c s h = refl

pub none_item : (k : Kind) → declares k ≡ false → is_item k ≡ false
none_item (kind.Function spec) h = cc
none_item k h = refl

-- A NODE as it is judged: the count stays, and it is a declarator if its kind is one

abbrev pub Suits : Kind → Part → Type 0
Suits k (Declarator steps) = is_declarator k ≡ true
Suits k (Object type steps last role) = ⊥
Suits k (Value o) = is_declarator k ≡ false
Suits k (Members members) = is_declarator k ≡ false
Suits k (Enumerator x value) = is_declarator k ≡ false
Suits k (Parameter type) = is_declarator k ≡ false
Suits k (NamedType type) = is_declarator k ≡ false
Suits k (Braced count) = is_declarator k ≡ false
Suits k (Filled next) = is_declarator k ≡ false
Suits k (CaseLabel word) = is_declarator k ≡ false
Suits k DefaultLabel = is_declarator k ≡ false
Suits k Statement = is_declarator k ≡ false

pub record Plainly (k : Kind) (s : Known) (r : Part × Known) : Type 0 where
  pub autos : r.1.autos ≡ s.autos
  pub means : (n : ℕ) → n < length s.means → slice_get r.1.means n ≡ slice_get s.means n
  pub suits : Suits k r.0

-- the same count and meanings
record Quiet (s q : Known) : Type 0 where
  autos : q.autos ≡ s.autos
  means : q.means ≡ s.means

quiet : (s : Known) → Quiet s s
quiet s = record { autos = refl; means = refl }

quiet_level : (s : Known) → Quiet s (close_level s)
quiet_level s = record { autos = refl; means = refl }

quiet_block : (s : Known) → Quiet s (close_block s)
quiet_block s = record { autos = refl; means = refl }

quiet_counted : (s : Known) → Quiet s (record s { statics = s.statics + 1 })
quiet_counted s = record { autos = refl; means = refl }

with_node_means : (s q : Known) (means : Meant) → Quiet s q → (n : ℕ) → n < length s.means → slice_get (q.means ++ means ∷ []) n ≡ slice_get s.means n
with_node_means s q means a n h =
    get_before q.means (means ∷ []) n (subst (λ xs. n < length xs) (sym a.means) h) ∙ ap (λ xs. slice_get xs n) a.means

has_plainly : (k : Kind) (rules : List Rule) (type : TypeTree) (means : Meant) (part : Part) (s q : Known) (r : Part × Known) → Quiet s q → Suits k part
    → has rules type means part q ≡ Ok r → Plainly k s r
has_plainly k rules type means part s q r a f e =
    subst (λ x. Plainly k s x) (unless_of (broken_rules (next_node q) rules) (part, with_node type means q) r e)
    (record { autos = a.autos; means = λ n h. with_node_means s q means a n h; suits = f })

brackets_plainly : (k : Kind) (parts : List Part) (s : Known) (r : Part × Known) → is_declarator k ≡ true → judged_brackets parts s ≡ Ok r → Plainly k s r
brackets_plainly k [] s r d e = has_plainly k [] Void Nothing (Declarator (step_at s Unsized ∷ [])) s s r (quiet s) d e
brackets_plainly k (Value o ∷ []) s r d e = has_plainly k [] Void Nothing (Declarator (step_at s (Sized o.constant) ∷ [])) s s r (quiet s) d e
brackets_plainly k (Declarator steps ∷ []) s r d e = has_plainly k [] Void Nothing (Declarator (steps ++ step_at s Unsized ∷ [])) s s r (quiet s) d e
brackets_plainly k (Declarator steps ∷ (Value o ∷ [])) s r d e =
    has_plainly k [] Void Nothing (Declarator (steps ++ step_at s (Sized o.constant) ∷ [])) s s r (quiet s) d e
brackets_plainly k _ s r d e = cc

decl_name_plainly : (k : Kind) (b : Bool) (name : List ℕ) (s q : Known) (r : Part × Known) → is_declarator k ≡ true → Quiet s q
    → (if b then has [] Void (Static s.statics) (Declarator (step_at s (Names name) ∷ [])) q else typeless [] (Declarator (step_at s (Names name) ∷ [])) s) ≡ Ok r
    → Plainly k s r
decl_name_plainly k true name s q r d a e = has_plainly k [] Void (Static s.statics) (Declarator (step_at s (Names name) ∷ [])) s q r a d e
decl_name_plainly k false name s q r d a e = has_plainly k [] Void Nothing (Declarator (step_at s (Names name) ∷ [])) s s r (quiet s) d e

enumerator_plainly : (k : Kind) (name : List ℕ) (parts : List Part) (s : Known) (r : Part × Known) → is_declarator k ≡ false → judged_enumerator name parts s ≡ Ok r
    → Plainly k s r
enumerator_plainly k name [] s r d e = has_plainly k [] Int Nothing (Enumerator name None) s s r (quiet s) d e
enumerator_plainly k name (Value o ∷ []) s r d e = has_plainly k [] Int Nothing (Enumerator name (Some o.constant)) s s r (quiet s) d e
enumerator_plainly k name _ s r d e = cc

entry_plainly : (k : Kind) (by : EntryBy) (role : Role) (parts : List Part) (s : Known) (r : Part × Known) → is_declarator k ≡ false → judged_entry by role parts s ≡ Ok r
    → Plainly k s r
entry_plainly k by (EntryOf list next) parts s r d e =
    has_plainly k (entry_rules s.tags list next by parts) (filled_type (entry_role s.tags (EntryOf list next) by parts)) Nothing
    (Filled (suc (entry_position s.tags list next by parts))) s s r (quiet s) d e
entry_plainly k by _ parts s r d e = cc

name_plainly : (k : Kind) (x : List ℕ) (d : Option Declared) (s : Known) (r : Part × Known) → is_declarator k ≡ false → judged_name x d s ≡ Ok r → Plainly k s r
name_plainly k x None s r c e = cc
name_plainly k x (Some d) s r c e =
    has_plainly k (breaks_if (not (is_usable s.bodies d)) (Undeclared x)) d.type d.means
    (Value (operand d.type (not (is_function d.type) && not (is_enumerator d.means)) (constant_at s.tags (kind.Name x) d.type d.means [])))
    s s r (quiet s) c e

text_plainly : (k : Kind) (b : Bool) (type : TypeTree) (rules : List Rule) (means : Meant) (s q : Known) (r : Part × Known) → is_declarator k ≡ false → Quiet s q
    → (if b then has [] type Nothing (Value (operand type true NotConstant)) s else has rules type means (Value (operand type true NotConstant)) q) ≡ Ok r
    → Plainly k s r
text_plainly k true type rules means s q r d a e = has_plainly k [] type Nothing (Value (operand type true NotConstant)) s s r (quiet s) d e
text_plainly k false type rules means s q r d a e = has_plainly k rules type means (Value (operand type true NotConstant)) s q r a d e

other_plainly : (k : Kind) (f : Frame) (parts : List Part) (s : Known) (r : Part × Known) → has_verdict k ≡ false → judged k f parts s ≡ Ok r → Plainly k s r
other_plainly (kind.Declaration spec inits) f parts s r v e = has_plainly (kind.Declaration spec inits) _ Void Nothing Statement s s r (quiet s) refl e
other_plainly (kind.Function spec) f parts s r v e = has_plainly (kind.Function spec) _ Void Nothing Statement s (close_level s) r (quiet_level s) refl e
other_plainly (kind.Member spec) f parts s r v e =
    has_plainly (kind.Member spec) _ Void Nothing (Members (or_unnamed f.base (declared_members f.base parts))) s s r (quiet s) refl e
other_plainly (kind.EnumConst name valued) f parts s r v e = enumerator_plainly (kind.EnumConst name valued) name parts s r refl e
other_plainly (kind.DeclName name) f parts s r v e =
    decl_name_plainly (kind.DeclName name) (is_block_static f.context.role) name s (record s { statics = s.statics + 1 }) r refl (quiet_counted s) e
other_plainly (kind.Star volatiles) f parts s r v e =
    has_plainly (kind.Star volatiles) [] Void Nothing (Declarator (inner_steps parts ++ step_at s Points ∷ [])) s s r (quiet s) refl e
other_plainly (kind.Brackets inner sized) f parts s r v e = brackets_plainly (kind.Brackets inner sized) parts s r refl e
other_plainly (kind.Params inner void_word) f parts s r v e =
    has_plainly (kind.Params inner void_word) [] Void Nothing
    (Declarator (inner_steps parts ++ step_at (close_level s) (Takes (type_row (parameter_types parts)) (innermost s.names)) ∷ [])) s (close_level s) r (quiet_level s) refl e
other_plainly kind.DeclParens f parts s r v e =
    has_plainly kind.DeclParens [] Void Nothing (Declarator (inner_steps parts ++ step_at s Keeps ∷ [])) s s r (quiet s) refl e
other_plainly (kind.Param spec) f parts s r v e =
    has_plainly (kind.Param spec) _ _ Nothing (Parameter (object_type (last_object parts) (adjusted f.base))) s s r (quiet s) refl e
other_plainly (kind.NamedType spec) f parts s r v e =
    has_plainly (kind.NamedType spec) _ (object_type (last_object parts) f.base) (TypeName (object_type (last_object parts) f.base))
    (NamedType (object_type (last_object parts) f.base)) s s r (quiet s) refl e
other_plainly (kind.InitList comma) f parts s r v e = has_plainly (kind.InitList comma) [] _ Nothing (Braced (positions 0 parts)) s s r (quiet s) refl e
other_plainly (kind.Entry by equals) f parts s r v e = entry_plainly (kind.Entry by equals) by f.context.role parts s r refl e
other_plainly kind.Block f parts s r v e = has_plainly kind.Block [] Void Nothing Statement s (close_block s) r (quiet_block s) refl e
other_plainly kind.Expression f parts s r v e = has_plainly kind.Expression [] Void Nothing Statement s s r (quiet s) refl e
other_plainly kind.If f parts s r v e = has_plainly kind.If _ Void Nothing Statement s s r (quiet s) refl e
other_plainly kind.While f parts s r v e = has_plainly kind.While _ Void Nothing Statement s s r (quiet s) refl e
other_plainly kind.Do f parts s r v e = has_plainly kind.Do _ Void Nothing Statement s s r (quiet s) refl e
other_plainly (kind.For first test step) f parts s r v e = has_plainly (kind.For first test step) _ Void Nothing Statement s s r (quiet s) refl e
other_plainly kind.Switch f parts s r v e = has_plainly kind.Switch _ Void Nothing Statement s s r (quiet s) refl e
other_plainly kind.Case f parts s r v e = has_plainly kind.Case _ Void Nothing (CaseLabel (constant_or_zero (first_constant parts))) s s r (quiet s) refl e
other_plainly kind.Default f parts s r v e = has_plainly kind.Default [] Void Nothing DefaultLabel s s r (quiet s) refl e
other_plainly kind.Break f parts s r v e = has_plainly kind.Break _ Void Nothing Statement s s r (quiet s) refl e
other_plainly kind.Continue f parts s r v e = has_plainly kind.Continue _ Void Nothing Statement s s r (quiet s) refl e
other_plainly kind.Return f parts s r v e = has_plainly kind.Return _ Void Nothing Statement s s r (quiet s) refl e
other_plainly (kind.Name x) f parts s r v e = name_plainly (kind.Name x) x (in_levels x s.names) s r refl e
other_plainly (kind.Text texts) f parts s r v e =
    text_plainly (kind.Text texts) (is_filled_by_text f.context.role) (text_type texts)
    (breaks_if (not (is_within_limit s.tags (text_type texts))) BadConstant) (Static s.statics) s (record s { statics = s.statics + 1 }) r refl (quiet_counted s) e
other_plainly k f parts s r v e = cc

verdict_no_declarator : (k : Kind) → has_verdict k ≡ true → is_declarator k ≡ false
verdict_no_declarator (kind.DeclName x) h = cc
verdict_no_declarator (kind.Star volatiles) h = cc
verdict_no_declarator (kind.Brackets inner sized) h = cc
verdict_no_declarator (kind.Params inner void_word) h = cc
verdict_no_declarator kind.DeclParens h = cc
verdict_no_declarator k h = refl

took_plainly : (k : Kind) (parts : List Part) (s : Known) (r : Part × Known) → has_verdict k ≡ true → Took k parts s r → Plainly k s r
took_plainly k parts s r v x = record {
  autos = ap (λ y. y.autos) (sym x.known);
  means = λ n h. ap (λ y. slice_get y.means n) (sym x.known) ∙ get_before s.means (Nothing ∷ []) n h;
  suits = subst (λ p. Suits k p) (sym x.part) (verdict_no_declarator k v);
}

pub judged_plainly : (k : Kind) (f : Frame) (parts : List Part) (s : Known) (r : Part × Known) → judged k f parts s ≡ Ok r → Plainly k s r
judged_plainly k f parts s r e = by (has_verdict k) refl
  where
    by : (b : Bool) → has_verdict k ≡ b → Plainly k s r
    by true v = took_plainly k parts s r v (node_took k f parts s r v e)
    by false v = other_plainly k f parts s r v e

-- BEHIND A PART, where no declarator is closed: the count stays, and the meanings but for the last node's

abbrev pub closes : Kind → Bool
closes (kind.Declaration spec inits) = true
closes (kind.Function spec) = true
closes (kind.Member spec) = true
closes (kind.Param spec) = true
closes (kind.NamedType spec) = true
closes k = false

pub closes_declares : (k : Kind) → closes k ≡ false → declares k ≡ false
closes_declares (kind.Declaration spec inits) h = cc
closes_declares (kind.Function spec) h = cc
closes_declares k h = refl

abbrev pub is_declarator_part : Part → Bool
is_declarator_part (Declarator steps) = true
is_declarator_part part = false

pub record Calm (s : Known) (q : Known) : Type 0 where
  pub autos : q.autos ≡ s.autos
  pub types : length q.types ≡ length s.types
  pub count : length q.means ≡ length s.means
  pub means : (n : ℕ) → (n ≡ last_node s → ⊥) → slice_get q.means n ≡ slice_get s.means n

pub calm : (s : Known) → Calm s s
calm s = record { autos = refl; types = refl; count = refl; means = λ n h. refl }

pub calm_of : (s p : Known) (part : Part) (m : Judged) (q : Part × Known) → Calm s p → m ≡ Ok (part, p) → m ≡ Ok q → Calm s q.1
calm_of s p part m q c d e = let z : (part, p) ≡ q = cc in subst (λ x. Calm s x.1) z c

pub unless_calm : (s : Known) (rules : List Rule) (part : Part) (q : Part × Known) → unless_broken rules part s ≡ Ok q → Calm s q.1
unless_calm s rules part q e = subst (λ x. Calm s x.1) (unless_of (broken_rules (last_node s) rules) (part, s) q e) (calm s)

if_calm : (s : Known) (b : Bool) (rules : List Rule) (part : Part) (q : Part × Known) → (if b then Ok (part, s) else unless_broken rules part s) ≡ Ok q → Calm s q.1
if_calm s true rules part q e = calm_of s s part (Ok (part, s)) q (calm s) refl e
if_calm s false rules part q e = unless_calm s rules part q e

-- of a declaration an initialiser may give a length
abbrev pub initialises : Kind → Bool
initialises (kind.Declaration spec inits) = true
initialises k = false

declares_initialises : (k : Kind) → declares k ≡ false → initialises k ≡ false
declares_initialises (kind.Declaration spec inits) h = cc
declares_initialises k h = refl

initialised_calm : (k : Kind) (f : Frame) (before : List Part) (part : Part) (s : Known) (q : Part × Known) → initialises k ≡ false → initialised k f before part s ≡ Ok q → Calm s q.1
initialised_calm (kind.Declaration spec inits) f before part s q h e = cc
initialised_calm (kind.Entry by equals) f before part s q h e =
    if_calm s (is_index_next by before) (initialiser_rules s.tags (entry_role s.tags f.context.role by before) part) part q e
initialised_calm k f before part s q h e = calm_of s s part (Ok (part, s)) q (calm s) refl e

declared_calm : (k : Kind) (f : Frame) (before : List Part) (steps : List Step) (rest : SyntaxRow) (s : Known) (q : Part × Known) → closes k ≡ false
    → declared k f before steps rest s ≡ Ok q → Calm s q.1
declared_calm (kind.Declaration spec inits) f before steps rest s q h e = cc
declared_calm (kind.Function spec) f before steps rest s q h e = cc
declared_calm (kind.Member spec) f before steps rest s q h e = cc
declared_calm (kind.Param spec) f before steps rest s q h e = cc
declared_calm (kind.NamedType spec) f before steps rest s q h e = cc
declared_calm k f before steps rest s q h e = calm_of s s (Declarator steps) (Ok (Declarator steps, s)) q (calm s) refl e

pub enumerated_calm : (x : List ℕ) (value : Constant) (s : Known) (q : Part × Known) → enumerated x value s ≡ Ok q → Calm s q.1
enumerated_calm x value s q e =
    subst (λ y. Calm s y.1) (unless_of _ _ q e)
    (record {
      autos = refl;
      types = refl;
      count = length-set s.means (last_node s) (constant_meaning value);
      means = λ n h. get_apart s.means (last_node s) n (constant_meaning value) h;
    })

complete_calm : (is_last : Bool) (tag : Option ℕ) (members : List MemberTree) (s : Known) → Calm s (complete_if is_last tag members s)
complete_calm is_last None members s = calm s
complete_calm false (Some number) members s = calm s
complete_calm true (Some number) members s = record { autos = refl; types = refl; count = refl; means = λ n h. refl }

pub members_calm : (f : Frame) (before : List Part) (members : List MemberTree) (s : Known) → Calm s (with_members f before (Members members) s)
members_calm f before members s = complete_calm (suc (length before) == f.braces) f.tag (members_in (before ++ Members members ∷ [])) s

-- BEHIND A PART of a node that declares nothing, the count stays

member_autos : (f : Frame) (before : List Part) (steps : List Step) (name : Option NameNode) (s : Known) (q : Part × Known)
    → declare_member f before steps name s ≡ Ok q → q.1.autos ≡ s.autos
member_autos f before steps None s q e = cc
member_autos f before steps (Some n) s q e =
    let made = then_of
    (named_with (last_node s) (member_rules s.tags (names_in_braces f.context.role ++ object_names before) n.name) (closed s.tags ByNothing f.base steps s.types))
    (λ made. Ok (Object made.0 steps (last_node s) Plain, record s { types = made.1 })) q e in
    let m = made.2 in
    let z : (Object made.0.0 steps (last_node s) Plain, record s { types = made.0.1 }) ≡ q = cc in
    ap (λ x. x.1.autos) (sym z)

parameter_autos : (f : Frame) (steps : List Step) (name : Option NameNode) (s : Known) (q : Part × Known) → declare_parameter f steps name s ≡ Ok q → q.1.autos ≡ s.autos
parameter_autos f steps None s q e =
    let made = then_of (closed s.tags ByCaller f.base steps s.types)
    (λ made. Ok (Object (adjusted made.0) steps (last_node s) Plain, record s { types = made.1 })) q e in
    let m = made.2 in
    let z : (Object (adjusted made.0.0) steps (last_node s) Plain, record s { types = made.0.1 }) ≡ q = cc in
    ap (λ x. x.1.autos) (sym z)
parameter_autos f steps (Some n) s q e =
    let made = then_of
    (named_with (last_node s) (λ type. parameter_rules n.name (in_level n.name (innermost s.names))) (closed s.tags ByCaller f.base steps s.types))
    (λ made. Ok (Object (adjusted made.0) steps (last_node s) Plain, declared_parameter f n made s)) q e in
    let m = made.2 in
    let z : (Object (adjusted made.0.0) steps (last_node s) Plain, declared_parameter f n made.0 s) ≡ q = cc in
    ap (λ x. x.1.autos) (sym z)

type_autos : (f : Frame) (steps : List Step) (s : Known) (q : Part × Known) → close_type f steps s ≡ Ok q → q.1.autos ≡ s.autos
type_autos f steps s q e =
    let made = then_of (closed s.tags ByNothing f.base steps s.types)
    (λ made. Ok (Object made.0 steps (last_node s) Plain, record s { types = made.1 })) q e in
    let m = made.2 in
    let z : (Object made.0.0 steps (last_node s) Plain, record s { types = made.0.1 }) ≡ q = cc in
    ap (λ x. x.1.autos) (sym z)

declared_autos : (k : Kind) (f : Frame) (before : List Part) (steps : List Step) (rest : SyntaxRow) (s : Known) (q : Part × Known) → declares k ≡ false
    → declared k f before steps rest s ≡ Ok q → q.1.autos ≡ s.autos
declared_autos (kind.Declaration spec inits) f before steps rest s q h e = cc
declared_autos (kind.Function spec) f before steps rest s q h e = cc
declared_autos (kind.Member spec) f before steps rest s q h e = member_autos f before steps (name_of steps) s q e
declared_autos (kind.Param spec) f before steps rest s q h e = parameter_autos f steps (name_of steps) s q e
declared_autos (kind.NamedType spec) f before steps rest s q h e = type_autos f steps s q e
declared_autos k f before steps rest s q h e =
    let c = calm_of s s (Declarator steps) (Ok (Declarator steps, s)) q (calm s) refl e in c.autos

-- that no declarator is closed isn't asked where the part is no declarator
pub other_calm : (k : Kind) (f : Frame) (before : List Part) (part : Part) (rest : SyntaxRow) (s : Known) (q : Part × Known) → initialises k ≡ false → is_declarator_part part ≡ false
    → behind k f before part rest s ≡ Ok q → Calm s q.1
other_calm k f before (Value o) rest s q h d e = initialised_calm k f before (Value o) s q h e
other_calm k f before (Braced count) rest s q h d e = initialised_calm k f before (Braced count) s q h e
other_calm k f before (Declarator steps) rest s q h d e = cc
other_calm k f before (Enumerator x value) rest s q h d e = enumerated_calm x (enumerator_value before value) s q e
other_calm k f before (Members members) rest s q h d e =
    calm_of s (with_members f before (Members members) s) (Members members) (Ok (Members members, with_members f before (Members members) s)) q
    (members_calm f before members s) refl e
other_calm k f before (CaseLabel word) rest s q h d e = unless_calm s _ (CaseLabel word) q e
other_calm k f before DefaultLabel rest s q h d e = unless_calm s _ DefaultLabel q e
other_calm k f before (Object type steps last role) rest s q h d e =
    calm_of s s (Object type steps last role) (Ok (Object type steps last role, s)) q (calm s) refl e
other_calm k f before (Parameter type) rest s q h d e = calm_of s s (Parameter type) (Ok (Parameter type, s)) q (calm s) refl e
other_calm k f before (NamedType type) rest s q h d e = calm_of s s (NamedType type) (Ok (NamedType type, s)) q (calm s) refl e
other_calm k f before (Filled next) rest s q h d e = calm_of s s (Filled next) (Ok (Filled next, s)) q (calm s) refl e
other_calm k f before Statement rest s q h d e = calm_of s s Statement (Ok (Statement, s)) q (calm s) refl e

other_autos : (k : Kind) (f : Frame) (before : List Part) (part : Part) (rest : SyntaxRow) (s : Known) (q : Part × Known) → declares k ≡ false → is_declarator_part part ≡ false
    → behind k f before part rest s ≡ Ok q → q.1.autos ≡ s.autos
other_autos k f before part rest s q h d e = let c = other_calm k f before part rest s q (declares_initialises k h) d e in c.autos

pub behind_autos : (k : Kind) (f : Frame) (before : List Part) (part : Part) (rest : SyntaxRow) (s : Known) (q : Part × Known) → declares k ≡ false
    → behind k f before part rest s ≡ Ok q → q.1.autos ≡ s.autos
behind_autos k f before (Declarator steps) rest s q h e = declared_autos k f before steps rest s q h e
behind_autos k f before part rest s q h e = other_autos k f before part rest s q h refl e

pub behind_calm : (k : Kind) (f : Frame) (before : List Part) (part : Part) (rest : SyntaxRow) (s : Known) (q : Part × Known) → closes k ≡ false
    → behind k f before part rest s ≡ Ok q → Calm s q.1
behind_calm k f before (Declarator steps) rest s q h e = declared_calm k f before steps rest s q h e
behind_calm k f before part rest s q h e = other_calm k f before part rest s q (declares_initialises k (closes_declares k h)) refl e
