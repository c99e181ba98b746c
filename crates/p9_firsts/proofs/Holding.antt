-- The types of nodes stay at all numbers but those of new nodes and of steps that wait.
use Rattle.std.proofs.Common.{◌≡◌, ◌<◌, ◌≤◌, ℕ, zero, suc, ◌+◌, ◌==◌, Bool, true, false, if◌then◌else◌, List, [], ◌∷◌, ◌++◌, map, length, length-append, reverse, slice_get, slice_set, Option, Some, None, Result, Ok, Err, refl, sym, ap, subst, ◌∙◌, arith}
use Rattle.std.specs.List.{list_all}
use Rattle.std.proofs.lemmas.List.{length-set}
use Rattle.std.proofs.lemmas.Grind.{reverse_onto}
use Rattle.p9_lang.specs.declared.tree.Kind.{Kind}
use Rattle.p9_lang.specs.declared.tree.Kind.TheVariants as kind
use Rattle.p9_lang.specs.declared.tree.EntryBy.{EntryBy}
use Rattle.p9_lang.specs.Names.{is_nameless}
use Rattle.p9_lang.specs.Trees.{node, none, more, Syntax, SyntaxRow, nodes_of, nodes_of_row}
use Rattle.p9_lang.specs.Types.{TypeTree, Void, Int, Array, Meant, Nothing, Static, MemberTree, Tags}
use Rattle.p9_lang.specs.Rules.{Rule, Malformed, Undeclared, Redeclared, Broken, at_node, unless, and_then}
use Rattle.p9_lang.specs.Constants.{Operand, Constant}
use Rattle.p9_lang.specs.Expressions.{Verdict, verdict}
use Rattle.p9_lang.specs.Scopes.{Known, Declared, Keyword, Enum, new_structure, TagName, Tagging, new_tag, known_tag, tag_from, tagged_as, with_node, next_node, close_level, close_block, in_level, in_levels, innermost, around}
use Rattle.p9_lang.specs.Declarators.{Step, Shape, Names, Keeps, Points, Sized, Unsized, Takes, Head, Words, Named, Structure, Enumeration, head_of, Storage, storage_of, LengthBy, ByNothing, ByCaller, NameNode, name_of, Declaring, closed, closed_from, shaped, broken_at, makes_no_type, with_length, adjusted, naming_rules}
use Rattle.p9_lang.specs.Parts.{Role, EntryOf, Context, Part, Value, Declarator, Object, Members, Enumerator, Parameter, NamedType, Braced, Filled, CaseLabel, DefaultLabel, Statement, Plain, Frame, Judged, kind_at, members_in, follows, length_by, last_object, or_object, inner_steps, name_in, object_names, object_type}
use Rattle.p9_lang.specs.Opening.{opened, context, of_head}
use Rattle.p9_lang.specs.Entries.{is_index_next}
use Rattle.p9_lang.specs.Declaring.{broken_rules, last_node, behind, declared, declare_object, declare_as, initialiser_role, declare_member, member_rules, names_in_braces, declare_parameter, declared_parameter, parameter_rules, object_declaring, function_declaring, with_body_open, open_body, parameter_count, enumerated, enumerator_value, complete_if, with_members, with_length_given, with_given_length, named_with, length_rules, declared_before, given_length, retyped, initialised}
use Rattle.p9_lang.specs.Typing.{has, stepped, step_at, judged_brackets, judged_name, judged_text, judged_decl_name, judged_enumerator, judged_entry, judged_as, judged_expression, judged, judge, judge_parts, role_rules, is_filled_by_text, is_block_static, is_whole, text_type, operands_of}
use Rattle.p9_lang.proofs.Counting.{then_of, unless_of}
use Rattle.p9_lang.proofs.Growing.{Grows, stays, then_grows, appended_grows, body_grows}
use Rattle.p9_sound.proofs.Labels.{with_rules_is}

-- LISTS

get_before : {A : Type 0} (xs ys : List A) (n : ℕ) → n < length xs → slice_get (xs ++ ys) n ≡ slice_get xs n
get_before [] ys n h = absurd (omega (arith, h))
get_before (x ∷ xs) ys zero h = refl
get_before (x ∷ xs) ys (suc n) h = get_before xs ys n (omega (arith, h))

pub get_apart : {A : Type 0} (xs : List A) (m n : ℕ) (x : A) → (n ≡ m → ⊥) → slice_get (slice_set xs m x) n ≡ slice_get xs n
get_apart [] m n x h = refl
get_apart (y ∷ ys) zero zero x h = absurd (h refl)
get_apart (y ∷ ys) zero (suc n) x h = refl
get_apart (y ∷ ys) (suc m) zero x h = refl
get_apart (y ∷ ys) (suc m) (suc n) x h = get_apart ys m n x (λ e. h (ap suc e))

with_length_number : (n m : ℕ) (shape : Shape) → (with_length n (record { number = m; shape = shape })).number ≡ m
with_length_number n m (Names name) = refl
with_length_number n m Keeps = refl
with_length_number n m Points = refl
with_length_number n m (Sized length) = refl
with_length_number n m Unsized = refl
with_length_number n m (Takes parameters level) = refl

pub name_number : (m : ℕ) (shape : Shape) (steps : List Step) (n : NameNode) → name_of (record { number = m; shape = shape } ∷ steps) ≡ Some n → n.number ≡ m
name_number m (Names name) steps n e = let z : record { name = name; number = m } ≡ n = cc in ap (λ x. x.number) (sym z)
name_number m Keeps steps n e = cc
name_number m Points steps n e = cc
name_number m (Sized length) steps n e = cc
name_number m Unsized steps n e = cc
name_number m (Takes parameters level) steps n e = cc

pub named_is : (last : ℕ) (rules : Option TypeTree → List Rule) (m : Result (TypeTree × List TypeTree) Broken) (made : TypeTree × List TypeTree)
    → named_with last rules m ≡ Ok made → m ≡ Ok made
named_is last rules (Ok x) made e = ap (λ y. Ok y) (unless_of (broken_rules last (rules (Some x.0))) x made e)
named_is last rules (Err broken) made e = cc

-- OPENING changes no type

abbrev SameTypes : (s q : Known) → Type 0
SameTypes s q = (q.types ≡ s.types) × Grows s.tags q.tags

new_tag_same : (rules : List Rule) (keyword : Keyword) (name : List ℕ) (has_body : Bool) (s : Known) → SameTypes s (new_tag rules keyword name has_body s).known
new_tag_same rules keyword name has_body s = (refl, appended_grows s.tags (new_structure keyword name))

either_same : (s : Known) (c : Bool) (x y : Tagging) → SameTypes s x.known → SameTypes s y.known → SameTypes s (if c then x else y).known
either_same s true x y h k = h
either_same s false x y h k = k

known_tag_same : (t : TagName) (has_body : Bool) (s : Known) → SameTypes s (known_tag t has_body s).known
known_tag_same t true s = (refl, stays s.tags)
known_tag_same t false s = (refl, stays s.tags)

tag_from_same : (o : Option TagName) (keyword : Keyword) (name : List ℕ) (has_body : Bool) (s : Known) → SameTypes s (tag_from o keyword name has_body s).known
tag_from_same None keyword name has_body s = new_tag_same [] keyword name has_body s
tag_from_same (Some t) keyword name has_body s =
    either_same s _ (known_tag t has_body s) (new_tag (Redeclared name ∷ []) keyword name has_body s) (known_tag_same t has_body s)
    (new_tag_same (Redeclared name ∷ []) keyword name has_body s)

tagged_same : (keyword : Keyword) (name : List ℕ) (has_body : Bool) (s : Known) → SameTypes s (tagged_as keyword name has_body s).known
tagged_same keyword name has_body s =
    either_same s (is_nameless name) (new_tag [] keyword name has_body s) (tag_from _ keyword name has_body s) (new_tag_same [] keyword name has_body s)
    (tag_from_same _ keyword name has_body s)

head_same : (storage : Storage) (c : Context) (h : Head) (s : Known) → SameTypes s (of_head storage c h s).1
head_same storage c (Words type) s = (refl, stays s.tags)
head_same storage c (Named x) s = (refl, stays s.tags)
head_same storage c (Structure is_union name members) s = tagged_same _ name _ s
head_same storage c (Enumeration name count) s = tagged_same Enum name _ s

pub opened_same : (k : Kind) (c : Context) (s : Known) → SameTypes s (opened k c s).1
opened_same (kind.Declaration spec inits) c s = head_same _ c _ s
opened_same (kind.Function spec) c s = head_same (storage_of spec.words) c (head_of spec.words) (record s { autos = 0 })
opened_same (kind.Member spec) c s = head_same _ c _ s
opened_same (kind.Param spec) c s = head_same _ c _ s
opened_same (kind.NamedType spec) c s = head_same _ c _ s
opened_same kind.Block c s = (refl, stays s.tags)
opened_same (kind.Params inner void_word) c s = (refl, stays s.tags)
opened_same _ c s = (refl, stays s.tags)

abbrev pub is_initialiser : Part → Bool
is_initialiser (Value o) = true
is_initialiser (Braced count) = true
is_initialiser (Declarator steps) = false
is_initialiser (Object type steps last role) = false
is_initialiser (Members members) = false
is_initialiser (Enumerator x value) = false
is_initialiser (Parameter type) = false
is_initialiser (NamedType type) = false
is_initialiser (Filled next) = false
is_initialiser (CaseLabel word) = false
is_initialiser DefaultLabel = false
is_initialiser Statement = false

-- TYPES THAT ARE HELD: those at some numbers, none of which is a new node's or a waiting step's

module _ (P : ℕ → Type 0) where
  never_same : (m n : ℕ) → P n → (P m → ⊥) → n ≡ m → ⊥
  never_same m n h g e = g (subst P e h)

  -- with so many nodes more
  pub record Holds (more_nodes : ℕ) (s q : Known) : Type 0 where
    pub types : (n : ℕ) → P n → n < length s.types → slice_get q.types n ≡ slice_get s.types n
    pub count : length q.types ≡ length s.types + more_nodes
    pub grows : Grows s.tags q.tags

  alike_holds : (s q : Known) → q.types ≡ s.types → Grows s.tags q.tags → Holds 0 s q
  alike_holds s q t g =
      let a : length q.types ≡ length s.types = ap length t in
      record { types = λ n h i. ap (λ xs. slice_get xs n) t; count = omega (arith, a); grows = g }

  pub same_holds : (s : Known) → Holds 0 s s
  same_holds s = alike_holds s s refl (stays s.tags)

  pub then_holds : (m n : ℕ) (s r q : Known) → Holds m s r → Holds n r q → Holds (m + n) s q
  then_holds m n s r q first second =
      let a = first.count in
      let c = second.count in
      record {
        types = λ i h lt. second.types i h (omega (arith, lt, a)) ∙ first.types i h lt;
        count = omega (arith, a, c);
        grows = then_grows s.tags r.tags q.tags first.grows second.grows;
      }

  counted : (m n : ℕ) (s q : Known) → m ≡ n → Holds m s q → Holds n s q
  counted m n s q e h = subst (λ k. Holds k s q) e h

  -- of so many numbers from one on
  abbrev pub IsFresh : (from count : ℕ) → Type 0
  IsFresh from count = (n : ℕ) → from ≤ n → n < from + count → P n → ⊥

  fresh_within : (a n b m : ℕ) → a ≤ b → b + m ≤ a + n → IsFresh a n → IsFresh b m
  fresh_within a n b m le end h i lo hi p = h i (omega (arith, le, lo)) (omega (arith, hi, end)) p

  -- STEPS apart from those numbers, and parts whose steps are

  abbrev pub StepsApart : List Step → Type 0
  StepsApart [] = Unit {0}
  StepsApart (step ∷ steps) = (P step.number → ⊥) × StepsApart steps

  abbrev pub PartIsApart : Part → Type 0
  PartIsApart (Declarator steps) = StepsApart steps
  PartIsApart (Object type steps last role) = StepsApart steps
  PartIsApart (Value o) = Unit {0}
  PartIsApart (Members members) = Unit {0}
  PartIsApart (Enumerator x value) = Unit {0}
  PartIsApart (Parameter type) = Unit {0}
  PartIsApart (NamedType type) = Unit {0}
  PartIsApart (Braced count) = Unit {0}
  PartIsApart (Filled next) = Unit {0}
  PartIsApart (CaseLabel word) = Unit {0}
  PartIsApart DefaultLabel = Unit {0}
  PartIsApart Statement = Unit {0}

  abbrev pub PartsAreApart : List Part → Type 0
  PartsAreApart [] = Unit {0}
  PartsAreApart (part ∷ parts) = PartIsApart part × PartsAreApart parts

  steps_append : (xs ys : List Step) → StepsApart xs → StepsApart ys → StepsApart (xs ++ ys)
  steps_append [] ys h k = k
  steps_append (x ∷ xs) ys h k = (h.0, steps_append xs ys h.1 k)

  steps_reverse : (steps : List Step) → StepsApart steps → StepsApart (reverse steps)
  steps_reverse [] h = tt
  steps_reverse (step ∷ steps) h =
      subst (λ xs. StepsApart xs) (sym (reverse_onto steps step []))
      (steps_append (reverse steps) (step ∷ []) (steps_reverse steps h.1) (h.0, tt))

  steps_with_length : (n : ℕ) (steps : List Step) → StepsApart steps → StepsApart (map (with_length n) steps)
  steps_with_length n [] h = tt
  steps_with_length n (step ∷ steps) h =
      (subst (λ m. P m → ⊥) (sym (with_length_number n step.number step.shape)) h.0, steps_with_length n steps h.1)

  name_apart : (steps : List Step) (n : NameNode) → StepsApart steps → name_of steps ≡ Some n → P n.number → ⊥
  name_apart [] n h e = cc
  name_apart (step ∷ steps) n h e = subst (λ m. P m → ⊥) (sym (name_number step.number step.shape steps n e)) h.0

  inner_apart : (parts : List Part) → PartsAreApart parts → StepsApart (inner_steps parts)
  inner_apart [] h = tt
  inner_apart (Declarator steps ∷ parts) h = h.0
  inner_apart (_ ∷ parts) h = tt

  pub parts_append : (before : List Part) (part : Part) → PartsAreApart before → PartIsApart part → PartsAreApart (before ++ part ∷ [])
  parts_append [] part h k = (k, tt)
  parts_append (p ∷ ps) part h k = (h.0, parts_append ps part h.1 k)

  abbrev pub ObjectIsApart : Option Part → Type 0
  ObjectIsApart None = Unit {0}
  ObjectIsApart (Some part) = PartIsApart part

  pub or_apart : (o : Option Part) (part : Part) → ObjectIsApart o → PartIsApart part → ObjectIsApart (or_object o part)
  or_apart (Some later) part h k = h
  or_apart None (Object type steps last role) h k = k
  or_apart None _ h k = tt

  pub last_apart : (parts : List Part) → PartsAreApart parts → ObjectIsApart (last_object parts)
  last_apart [] h = tt
  last_apart (part ∷ parts) h = or_apart (last_object parts) part (last_apart parts h.1) h.0

  -- PARTS with what is known behind them

  pub record PartHolds (more_nodes : ℕ) (s : Known) (r : Part × Known) : Type 0 where
    pub holds : Holds more_nodes s r.1
    pub apart : PartIsApart r.0

  abbrev GivesHeld : ℕ → Known → Judged → Type 0
  GivesHeld n s m = (r : Part × Known) → m ≡ Ok r → PartHolds n s r

  err_held : (n : ℕ) (s : Known) (broken : Broken) → GivesHeld n s (Err broken)
  err_held n s broken r e = cc

  if_held : (n : ℕ) (s : Known) (c : Bool) (x y : Judged) → GivesHeld n s x → GivesHeld n s y → GivesHeld n s (if c then x else y)
  if_held n s true x y h k = h
  if_held n s false x y h k = k

  ok_held : (n : ℕ) (s q : Known) (part : Part) → Holds n s q → PartIsApart part → GivesHeld n s (Ok (part, q))
  ok_held n s q part h f r e = let z : (part, q) ≡ r = cc in subst (λ x. PartHolds n s x) z (record { holds = h; apart = f })

  unless_held : (n : ℕ) (broken : List Broken) (s q : Known) (part : Part) → Holds n s q → PartIsApart part → GivesHeld n s (unless broken (part, q))
  unless_held n broken s q part h f r e = ok_held n s q part h f r (ap (λ x. Ok x) (unless_of broken (part, q) r e))

  -- CLOSED DECLARATORS

  record Retypes (before after : List TypeTree) : Type 0 where
    count : length after ≡ length before
    types : (n : ℕ) → P n → slice_get after n ≡ slice_get before n

  closed_from_retypes : (tags : Tags) (by : LengthBy) (type : TypeTree) (steps : List Step) (types : List TypeTree) (made : TypeTree × List TypeTree)
      → StepsApart steps → closed_from tags by type steps types ≡ Ok made → Retypes types made.1
  closed_from_retypes tags by type [] types made o e =
      let z : (type, types) ≡ made = cc in subst (λ m. Retypes types m.1) z (record { count = refl; types = λ n h. refl })
  closed_from_retypes tags by type (step ∷ steps) types made o e =
      let r = then_of (broken_at step.number (shaped tags by (list_all makes_no_type steps) step.shape type))
      (λ made. closed_from tags by made steps (slice_set types step.number made)) made e in
      let later = closed_from_retypes tags by r.0 steps (slice_set types step.number r.0) made o.1 r.2 in
      record {
        count = later.count ∙ length-set types step.number r.0;
        types = λ n h. later.types n h ∙ get_apart types step.number n r.0 (never_same step.number n h o.0);
      }

  closed_retypes : (tags : Tags) (by : LengthBy) (base : TypeTree) (steps : List Step) (types : List TypeTree) (made : TypeTree × List TypeTree)
      → StepsApart steps → closed tags by base steps types ≡ Ok made → Retypes types made.1
  closed_retypes tags by base steps types made o e = closed_from_retypes tags by base (reverse steps) types made (steps_reverse steps o) e

  module _ (s : Known) (fresh : P (length s.types) → ⊥) where
    -- NODES

    node_holds : (q : Known) (type : TypeTree) (means : Meant) → q.types ≡ s.types → q.tags ≡ s.tags → Holds 1 s (with_node type means q)
    node_holds q type means t g =
        let a : length (q.types ++ type ∷ []) ≡ length s.types + 1 = length-append q.types (type ∷ []) ∙ ap (λ xs. length xs + 1) t in
        record {
          types = λ n h lt. ap (λ xs. slice_get (xs ++ type ∷ []) n) t ∙ get_before s.types (type ∷ []) n lt;
          count = a;
          grows = subst (λ tags. Grows s.tags tags) (sym g) (stays s.tags);
        }

    pub has_held : (rules : List Rule) (type : TypeTree) (means : Meant) (part : Part) (q : Known) → q.types ≡ s.types → q.tags ≡ s.tags
        → PartIsApart part → GivesHeld 1 s (has rules type means part q)
    has_held rules type means part q t g f =
        unless_held 1 (broken_rules (next_node q) rules) s (with_node type means q) part (node_holds q type means t g) f

    next_apart : (q : Known) → q.types ≡ s.types → P (next_node q) → ⊥
    next_apart q t p = fresh (subst (λ xs. P (length xs)) t p)

    stepped_held : (steps : List Step) (shape : Shape) (q : Known) → q.types ≡ s.types → q.tags ≡ s.tags → StepsApart steps
        → GivesHeld 1 s (stepped steps shape q)
    stepped_held steps shape q t g f =
        has_held [] Void Nothing (Declarator (steps ++ step_at q shape ∷ [])) q t g (steps_append steps (step_at q shape ∷ []) f (next_apart q t, tt))

    brackets_held : (parts : List Part) → PartsAreApart parts → GivesHeld 1 s (judged_brackets parts s)
    brackets_held [] h = stepped_held [] Unsized s refl refl tt
    brackets_held (Value o ∷ []) h = stepped_held [] (Sized o.constant) s refl refl tt
    brackets_held (Declarator steps ∷ []) h = stepped_held steps Unsized s refl refl h.0
    brackets_held (Declarator steps ∷ (Value o ∷ [])) h = stepped_held steps (Sized o.constant) s refl refl h.0
    brackets_held _ h = err_held 1 s (at_node (next_node s) Malformed)

    name_held : (x : List ℕ) (d : Option Declared) → GivesHeld 1 s (judged_name x d s)
    name_held x None = err_held 1 s (at_node (next_node s) (Undeclared x))
    name_held x (Some d) = has_held _ d.type d.means _ s refl refl tt

    text_held : (type : TypeTree) (role : Role) → GivesHeld 1 s (judged_text type role s)
    text_held type role =
        if_held 1 s (is_filled_by_text role) _ _ (has_held [] type Nothing _ s refl refl tt)
        (has_held _ type (Static s.statics) _ (record s { statics = s.statics + 1 }) refl refl tt)

    decl_name_held : (x : List ℕ) (role : Role) → GivesHeld 1 s (judged_decl_name x role s)
    decl_name_held x role =
        if_held 1 s (is_block_static role) _ _
        (has_held [] Void (Static s.statics) (Declarator (step_at s (Names x) ∷ [])) (record s { statics = s.statics + 1 }) refl refl
        (next_apart s refl, tt))
        (has_held [] Void Nothing (Declarator (step_at s (Names x) ∷ [])) s refl refl (next_apart s refl, tt))

    enumerator_held : (x : List ℕ) (parts : List Part) → GivesHeld 1 s (judged_enumerator x parts s)
    enumerator_held x [] = has_held [] Int Nothing _ s refl refl tt
    enumerator_held x (Value o ∷ []) = has_held [] Int Nothing _ s refl refl tt
    enumerator_held x _ = err_held 1 s (at_node (next_node s) Malformed)

    entry_held : (entry_by : EntryBy) (role : Role) (parts : List Part) → GivesHeld 1 s (judged_entry entry_by role parts s)
    entry_held entry_by (EntryOf list next) parts = has_held _ _ Nothing _ s refl refl tt
    entry_held entry_by _ parts = err_held 1 s (at_node (next_node s) Malformed)

    as_held : (k : Kind) (operands : List Operand) (m : Result Verdict Rule) → GivesHeld 1 s (judged_as k operands m s)
    as_held k operands (Ok w) = has_held [] w.type Nothing _ s refl refl tt
    as_held k operands (Err rule) = err_held 1 s (at_node (next_node s) rule)

    expression_held : (k : Kind) (role : Role) (operands : Option (List Operand)) → GivesHeld 1 s (judged_expression k role operands s)
    expression_held k role None = err_held 1 s (at_node (next_node s) Malformed)
    expression_held k role (Some operands) = as_held k operands (verdict s.tags (is_whole role) k operands)

    pub judged_held : (k : Kind) (f : Frame) (parts : List Part) → PartsAreApart parts → GivesHeld 1 s (judged k f parts s)
    judged_held (kind.Declaration spec inits) f parts h = has_held _ Void Nothing Statement s refl refl tt
    judged_held (kind.Function spec) f parts h = has_held _ Void Nothing Statement (close_level s) refl refl tt
    judged_held (kind.Member spec) f parts h = has_held _ Void Nothing _ s refl refl tt
    judged_held (kind.EnumConst x valued) f parts h = enumerator_held x parts
    judged_held (kind.DeclName x) f parts h = decl_name_held x f.context.role
    judged_held (kind.Star volatiles) f parts h = stepped_held _ Points s refl refl (inner_apart parts h)
    judged_held (kind.Brackets inner sized) f parts h = brackets_held parts h
    judged_held (kind.Params inner void_word) f parts h = stepped_held _ _ (close_level s) refl refl (inner_apart parts h)
    judged_held kind.DeclParens f parts h = stepped_held _ Keeps s refl refl (inner_apart parts h)
    judged_held (kind.Param spec) f parts h = has_held _ _ Nothing _ s refl refl tt
    judged_held (kind.NamedType spec) f parts h = has_held _ _ _ _ s refl refl tt
    judged_held (kind.InitList comma) f parts h = has_held [] _ Nothing _ s refl refl tt
    judged_held (kind.Entry entry_by equals) f parts h = entry_held entry_by f.context.role parts
    judged_held kind.Block f parts h = has_held [] Void Nothing Statement (close_block s) refl refl tt
    judged_held kind.Expression f parts h = has_held [] Void Nothing Statement s refl refl tt
    judged_held kind.If f parts h = has_held _ Void Nothing Statement s refl refl tt
    judged_held kind.While f parts h = has_held _ Void Nothing Statement s refl refl tt
    judged_held kind.Do f parts h = has_held _ Void Nothing Statement s refl refl tt
    judged_held (kind.For first test step) f parts h = has_held _ Void Nothing Statement s refl refl tt
    judged_held kind.Switch f parts h = has_held _ Void Nothing Statement s refl refl tt
    judged_held kind.Case f parts h = has_held _ Void Nothing _ s refl refl tt
    judged_held kind.Default f parts h = has_held [] Void Nothing DefaultLabel s refl refl tt
    judged_held kind.Break f parts h = has_held _ Void Nothing Statement s refl refl tt
    judged_held kind.Continue f parts h = has_held _ Void Nothing Statement s refl refl tt
    judged_held kind.Return f parts h = has_held _ Void Nothing Statement s refl refl tt
    judged_held (kind.Name x) f parts h = name_held x (in_levels x s.names)
    judged_held (kind.Text texts) f parts h = text_held (text_type texts) f.context.role
    judged_held k f parts h = expression_held k f.context.role (operands_of parts)

  module _ (s : Known) where
    -- WHAT PARTS MEAN

    retyped_holds : (types : List TypeTree) → Retypes s.types types → Holds 0 s (record s { types = types })
    retyped_holds types r =
        let c = r.count in
        record { types = λ n h i. r.types n h; count = omega (arith, c); grows = stays s.tags }

    named_holds : (q : Known) (types : List TypeTree) → Retypes s.types types → q.types ≡ types → q.tags ≡ s.tags → Holds 0 s q
    named_holds q types r a g =
        let n : length q.types ≡ length s.types = ap length a ∙ r.count in
        record {
          types = λ j h i. ap (λ xs. slice_get xs j) a ∙ r.types j h;
          count = omega (arith, n);
          grows = subst (λ tags. Grows s.tags tags) (sym g) (stays s.tags);
        }

    closing_held : (rules : Option TypeTree → List Rule) (by : LengthBy) (base : TypeTree) (steps : List Step) (next : TypeTree × List TypeTree → Judged)
        → StepsApart steps → ((made : TypeTree × List TypeTree) → Retypes s.types made.1 → GivesHeld 0 s (next made))
        → GivesHeld 0 s (and_then (named_with (last_node s) rules (closed s.tags by base steps s.types)) next)
    closing_held rules by base steps next o h r e =
        let made = then_of (named_with (last_node s) rules (closed s.tags by base steps s.types)) next r e in
        h made.0
        (closed_retypes s.tags by base steps s.types made.0 o
        (named_is (last_node s) rules (closed s.tags by base steps s.types) made.0 made.1)) r made.2

    bare_held : (by : LengthBy) (base : TypeTree) (steps : List Step) (next : TypeTree × List TypeTree → Judged)
        → StepsApart steps → ((made : TypeTree × List TypeTree) → Retypes s.types made.1 → GivesHeld 0 s (next made))
        → GivesHeld 0 s (and_then (closed s.tags by base steps s.types) next)
    bare_held by base steps next o h r e =
        let made = then_of (closed s.tags by base steps s.types) next r e in
        h made.0 (closed_retypes s.tags by base steps s.types made.0 o made.1) r made.2

    object_held : (d : Declaring) (by : LengthBy) (base : TypeTree) (steps : List Step) (name : Option NameNode) → StepsApart steps → name_of steps ≡ name
        → GivesHeld 0 s (declare_object d by base steps name s)
    object_held d by base steps None o e = err_held 0 s (at_node (last_node s) Malformed)
    object_held d by base steps (Some name) o e =
        closing_held (naming_rules s.tags d name.name (in_level name.name (innermost s.names))) by base steps
        (λ made. Ok (
          Object made.0 steps (last_node s) (initialiser_role d made.0),
          declare_as d name made.0 (record s { types = made.1 }),
        ))
        o
        (λ made r.
        ok_held 0 s (declare_as d name made.0 (record s { types = made.1 })) (Object made.0 steps (last_node s) (initialiser_role d made.0))
        (named_holds (declare_as d name made.0 (record s { types = made.1 })) made.1 r refl refl) o)

    body_held : (steps : List Step) (x : Part × Known) → PartHolds 0 s x → GivesHeld 0 s (with_body_open steps x)
    body_held steps x h =
        let a = h.holds in
        ok_held 0 s (open_body steps (record x.1 { autos = parameter_count (object_type (Some x.0) Void) })) x.0
        (record { types = a.types; count = a.count; grows = a.grows }) h.apart

    function_held : (steps : List Step) (m : Judged) → GivesHeld 0 s m → GivesHeld 0 s (and_then m (with_body_open steps))
    function_held steps m h r e = let x = then_of m (with_body_open steps) r e in body_held steps x.0 (h x.0 x.1) r x.2

    member_held : (f : Frame) (before : List Part) (steps : List Step) (name : Option NameNode) → StepsApart steps
        → GivesHeld 0 s (declare_member f before steps name s)
    member_held f before steps None o = err_held 0 s (at_node (last_node s) Malformed)
    member_held f before steps (Some name) o =
        closing_held (member_rules s.tags (names_in_braces f.context.role ++ object_names before) name.name) ByNothing f.base steps
        (λ made. Ok (Object made.0 steps (last_node s) Plain, record s { types = made.1 })) o
        (λ made r. ok_held 0 s (record s { types = made.1 }) (Object made.0 steps (last_node s) Plain) (retyped_holds made.1 r) o)

    parameter_retypes : (made : List TypeTree) (m : ℕ) (type : TypeTree) → Retypes s.types made → (P m → ⊥) → Retypes s.types (slice_set made m type)
    parameter_retypes made m type r g = record {
      count = length-set made m type ∙ r.count;
      types = λ n h. get_apart made m n type (never_same m n h g) ∙ r.types n h;
    }

    parameter_held : (f : Frame) (steps : List Step) (name : Option NameNode) → StepsApart steps → name_of steps ≡ name
        → GivesHeld 0 s (declare_parameter f steps name s)
    parameter_held f steps None o e =
        bare_held ByCaller f.base steps
        (λ made. Ok (Object (adjusted made.0) steps (last_node s) Plain, record s { types = made.1 })) o
        (λ made r. ok_held 0 s (record s { types = made.1 }) (Object (adjusted made.0) steps (last_node s) Plain) (retyped_holds made.1 r) o)
    parameter_held f steps (Some name) o e =
        closing_held (λ type. parameter_rules name.name (in_level name.name (innermost s.names))) ByCaller f.base steps
        (λ made. Ok (Object (adjusted made.0) steps (last_node s) Plain, declared_parameter f name made s)) o
        (λ made r.
        let g = name_apart steps name o e in
        ok_held 0 s (declared_parameter f name made s) (Object (adjusted made.0) steps (last_node s) Plain)
        (named_holds (declared_parameter f name made s) (slice_set made.1 name.number (adjusted made.0))
        (parameter_retypes made.1 name.number (adjusted made.0) r g) refl refl) o)

    pub declared_held : (k : Kind) (f : Frame) (before : List Part) (steps : List Step) (rest : SyntaxRow) → StepsApart steps
        → GivesHeld 0 s (declared k f before steps rest s)
    declared_held (kind.Declaration spec inits) f before steps rest o =
        object_held (object_declaring f (follows rest) s) (length_by (follows rest)) f.base steps (name_of steps) o refl
    declared_held (kind.Function spec) f before steps rest o =
        function_held steps _ (object_held (function_declaring f) ByNothing f.base steps (name_of steps) o refl)
    declared_held (kind.Member spec) f before steps rest o = member_held f before steps (name_of steps) o
    declared_held (kind.Param spec) f before steps rest o = parameter_held f steps (name_of steps) o refl
    declared_held (kind.NamedType spec) f before steps rest o =
        bare_held ByNothing f.base steps (λ made. Ok (Object made.0 steps (last_node s) Plain, record s { types = made.1 })) o
        (λ made r. ok_held 0 s (record s { types = made.1 }) (Object made.0 steps (last_node s) Plain) (retyped_holds made.1 r) o)
    declared_held k f before steps rest o = ok_held 0 s s (Declarator steps) (same_holds s) o

    enumerated_held : (x : List ℕ) (value : Constant) → GivesHeld 0 s (enumerated x value s)
    enumerated_held x value = unless_held 0 _ s _ _ (alike_holds s _ refl (stays s.tags)) tt

    complete_holds : (is_last : Bool) (tag : Option ℕ) (members : List MemberTree) → Holds 0 s (complete_if is_last tag members s)
    complete_holds is_last None members = same_holds s
    complete_holds false (Some number) members = same_holds s
    complete_holds true (Some number) members = alike_holds s _ refl (body_grows s.tags number members)

    given_length_holds : (base : TypeTree) (steps : List Step) (last count : ℕ) (x : List ℕ) (q : Known) → StepsApart steps
        → with_given_length base steps last count x s ≡ Ok q → Holds 0 s q
    given_length_holds base steps last count x q o e =
        let made = then_of
        (named_with last (length_rules x (declared_before x (innermost s.names))) (closed s.tags ByNothing base (map (with_length count) steps) s.types))
        (λ made. Ok (record s { types = made.1; names = retyped x made.0 (innermost s.names) ∷ around s.names })) q e in
        let r = closed_retypes s.tags ByNothing base (map (with_length count) steps) s.types made.0 (steps_with_length count steps o)
        (named_is last (length_rules x (declared_before x (innermost s.names)))
        (closed s.tags ByNothing base (map (with_length count) steps) s.types) made.0 made.1) in
        let c = r.count in
        let m = made.2 in
        let z : record s { types = made.0.1; names = retyped x made.0.0 (innermost s.names) ∷ around s.names } ≡ q = cc in
        subst (λ y. Holds 0 s y) z (record { types = λ n h i. r.types n h; count = omega (arith, c); grows = stays s.tags })

    unchanged_holds : (q : Known) (m : Result Known Broken) → m ≡ Ok s → m ≡ Ok q → Holds 0 s q
    unchanged_holds q m d e = let z : s ≡ q = cc in subst (λ x. Holds 0 s x) z (same_holds s)

    pub given_holds : (base : TypeTree) (object : Option Part) (part : Part) (q : Known) → ObjectIsApart object → with_length_given base object part s ≡ Ok q
        → Holds 0 s q
    given_holds base (Some (Object (Array element zero) steps last role)) part q o e =
        given_length_holds base steps last (given_length part) (name_in (name_of steps)) q o e
    given_holds base _ part q o e = unchanged_holds q (Ok s) refl e

    initialised_held : (k : Kind) (f : Frame) (before : List Part) (part : Part) → PartsAreApart before → PartIsApart part
        → GivesHeld 0 s (initialised k f before part s)
    initialised_held (kind.Declaration spec inits) f before part h l r e =
        let x = then_of (with_length_given f.base (last_object before) part s) _ r e in
        unless_held 0 _ s x.0 part (given_holds f.base (last_object before) part x.0 (last_apart before h) x.1) l r x.2
    initialised_held (kind.Entry entry_by equals) f before part h l r e =
        if_held 0 s (is_index_next entry_by before) _ _ (ok_held 0 s s part (same_holds s) l) (unless_held 0 _ s s part (same_holds s) l) r e
    initialised_held k f before part h l r e = ok_held 0 s s part (same_holds s) l r e

    -- a part that is no initialiser looks at no other part's steps
    pub other_held : (k : Kind) (f : Frame) (before : List Part) (part : Part) (rest : SyntaxRow) → is_initialiser part ≡ false → PartIsApart part
        → GivesHeld 0 s (behind k f before part rest s)
    other_held k f before (Value o) rest n l = cc
    other_held k f before (Braced count) rest n l = cc
    other_held k f before (Declarator steps) rest n l = declared_held k f before steps rest l
    other_held k f before (Enumerator x value) rest n l = enumerated_held x (enumerator_value before value)
    other_held k f before (Members members) rest n l =
        ok_held 0 s (with_members f before (Members members) s) (Members members)
        (complete_holds (suc (length before) == f.braces) f.tag (members_in (before ++ Members members ∷ []))) tt
    other_held k f before (CaseLabel word) rest n l = unless_held 0 _ s s (CaseLabel word) (same_holds s) tt
    other_held k f before DefaultLabel rest n l = unless_held 0 _ s s DefaultLabel (same_holds s) tt
    other_held k f before (Object type steps last role) rest n l = ok_held 0 s s (Object type steps last role) (same_holds s) l
    other_held k f before (Parameter type) rest n l = ok_held 0 s s (Parameter type) (same_holds s) tt
    other_held k f before (NamedType type) rest n l = ok_held 0 s s (NamedType type) (same_holds s) tt
    other_held k f before (Filled next) rest n l = ok_held 0 s s (Filled next) (same_holds s) tt
    other_held k f before Statement rest n l = ok_held 0 s s Statement (same_holds s) tt

    pub behind_held : (k : Kind) (f : Frame) (before : List Part) (part : Part) (rest : SyntaxRow) → PartsAreApart before
        → PartIsApart part → GivesHeld 0 s (behind k f before part rest s)
    behind_held k f before (Value o) rest h l = initialised_held k f before (Value o) h l
    behind_held k f before (Braced count) rest h l = initialised_held k f before (Braced count) h l
    behind_held k f before part rest h l = other_held k f before part rest refl l

  -- THE RECURSION

  pub record RowHolds (more_nodes : ℕ) (s : Known) (r : List Part × Known) : Type 0 where
    pub holds : Holds more_nodes s r.1
    pub apart : PartsAreApart r.0

  mutual
    pub judge_held : (t : Syntax) (c : Context) (s : Known) → IsFresh (length s.types) (nodes_of t) → GivesHeld (nodes_of t) s (judge t c s)
    judge_held (node k at parts) c s fresh r e =
        let z = with_rules_is _ (role_rules c.role k) (and_then (judge_parts k (opened k c s).0 [] parts (opened k c s).1) _) r e in
        let x = then_of (judge_parts k (opened k c s).0 [] parts (opened k c s).1) _ r z in
        let q = (opened k c s).1 in
        let a = opened_same k c s in
        let opening = alike_holds s q a.0 a.1 in
        let o = opening.count in
        let p = parts_held k (opened k c s).0 [] parts q
        (fresh_within (length s.types) (nodes_of_row parts + 1) (length q.types) (nodes_of_row parts) (omega (arith, o)) (omega (arith, o)) fresh) tt x.0 x.1 in
        let all = counted (0 + nodes_of_row parts) (nodes_of_row parts) s x.0.1 (omega arith) (then_holds 0 (nodes_of_row parts) s q x.0.1 opening p.holds) in
        let d = all.count in
        let j = judged_held x.0.1 (fresh (length x.0.1.types) (omega (arith, d)) (omega (arith, d))) k (opened k c s).0 x.0.0 p.apart r x.2 in
        record { holds = then_holds (nodes_of_row parts) 1 s x.0.1 r.1 all j.holds; apart = j.apart }

    pub parts_held : (k : Kind) (f : Frame) (before : List Part) (ts : SyntaxRow) (s : Known) → IsFresh (length s.types) (nodes_of_row ts) → PartsAreApart before
        → (r : List Part × Known) → judge_parts k f before ts s ≡ Ok r → RowHolds (nodes_of_row ts) s r
    parts_held k f before none s fresh h r e =
        let z : (before, s) ≡ r = cc in subst (λ x. RowHolds 0 s x) z (record { holds = same_holds s; apart = h })
    parts_held k f before (more t ts) s fresh h r e =
        let x = then_of (judge t (context k f before (kind_at t) s) s) _ r e in
        let y = then_of (behind k f before x.0.0 ts x.0.1) _ r x.2 in
        let first = judge_held t (context k f before (kind_at t) s) s
        (fresh_within (length s.types) (nodes_of t + nodes_of_row ts) (length s.types) (nodes_of t) (omega arith) (omega arith) fresh) x.0 x.1 in
        let second = behind_held x.0.1 k f before x.0.0 ts h first.apart y.0 y.1 in
        let both = counted (nodes_of t + 0) (nodes_of t) s y.0.1 (omega arith) (then_holds (nodes_of t) 0 s x.0.1 y.0.1 first.holds second.holds) in
        let d = both.count in
        let others = parts_held k f (before ++ y.0.0 ∷ []) ts y.0.1
        (fresh_within (length s.types) (nodes_of t + nodes_of_row ts) (length y.0.1.types) (nodes_of_row ts) (omega (arith, d)) (omega (arith, d)) fresh)
        (parts_append before y.0.0 h second.apart) r y.2 in
        record { holds = then_holds (nodes_of t) (nodes_of_row ts) s y.0.1 r.1 both others.holds; apart = others.apart }
