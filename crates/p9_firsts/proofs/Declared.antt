-- The declared objects of a declaration: each name with an initialiser behind it has a complete type,
-- and keeps it while the rest of the declaration is typed.
use Rattle.std.proofs.Common.{◌≡◌, ◌<◌, ◌≤◌, ◌⊎◌, inl, inr, ℕ, zero, ◌+◌, ◌&&◌, Bool, true, false, not, if◌then◌else◌, List, [], ◌∷◌, ◌++◌, map, length, slice_get, Option, Some, None, Result, Ok, refl, sym, ap, subst, ◌∙◌, arith}
use Rattle.p9_lang.specs.declared.tree.Kind.{Kind}
use Rattle.p9_lang.specs.declared.tree.Kind.TheVariants as kind
use Rattle.p9_lang.specs.Trees.{node, none, more, Syntax, SyntaxRow, nodes_of}
use Rattle.p9_lang.specs.Types.{TypeTree, Void, Array, Meant, Nothing, Tags}
use Rattle.p9_lang.specs.Layout.{has_layout, is_complete}
use Rattle.p9_lang.specs.Conversions.{is_function}
use Rattle.p9_lang.specs.Constants.{NotConstant}
use Rattle.p9_lang.specs.Rules.{Rule, BadOperands, Misplaced, breaks_if, Broken, and_then, unless}
use Rattle.p9_lang.specs.Scopes.{Known, with_node, next_node, in_level, innermost, around}
use Rattle.p9_lang.specs.Declarators.{Step, LengthBy, ByNothing, closed, with_length, NameNode, name_of, is_typedef, Declaring, naming_rules, repeat_rules, type_rules, function_rules, object_rules}
use Rattle.p9_lang.specs.Parts.{Role, Context, Part, Value, Declarator, Object, Braced, Frame, is_declarator, kind_at, NoInitialiser, Expression, follows, follows_kind, length_by, has_initialiser, last_object, or_object, name_in}
use Rattle.p9_lang.specs.Opening.{opened, context}
use Rattle.p9_lang.specs.Declaring.{broken_rules, last_node, behind, declare_object, declare_as, initialiser_role, object_declaring, with_length_given, named_with, length_rules, declared_before, given_length, retyped}
use Rattle.p9_lang.specs.Typing.{has, judged, judged_brackets, judge, judge_parts, role_rules, operand, is_filled_by_text, text_type}
use Rattle.p9_lang.specs.Symbols.{name_label, is_declaration}
use Rattle.p9_lang.specs.Modules.{typed, label_of}
use Rattle.p9_lang.proofs.Growing.{Grows}
use Rattle.p9_lang.proofs.Counting.{then_of, unless_of}
use Rattle.p9_sound.proofs.Labels.{with_rules_is}
use Rattle.p9_sound.proofs.Operands.{complete_stays}
use Rattle.p9_sound.proofs.NamesOf.{tree_name}
use Rattle.p9_firsts.specs.Typedefs.{HasItsLength}
use Rattle.p9_firsts.proofs.Closed.{first_empty, last_empty, closed_length, named_none}
use Rattle.p9_firsts.proofs.Holding.{Holds, IsFresh, PartIsApart, StepsApart, PartsAreApart, ObjectIsApart, is_initialiser, named_is, given_holds, other_held, judge_held}
use Rattle.p9_firsts.proofs.Reclosing.{name_type, with_length_name, LacksLength, recloses, object_complete}

-- ONE NUMBER, and none

abbrev pub Only : ℕ → ℕ → Type 0
Only n m = n ≡ m

abbrev pub Nowhere : ℕ → Type 0
Nowhere m = ⊥

pub fresh_below : (n from count : ℕ) → n < from → IsFresh (Only n) from count
fresh_below n from count h i lo hi e = omega (arith, h, lo, e)

pub fresh_above : (n from count : ℕ) → from + count ≤ n → IsFresh (Only n) from count
fresh_above n from count h i lo hi e = omega (arith, h, hi, e)

steps_nowhere : (steps : List Step) → StepsApart Nowhere steps
steps_nowhere [] = tt
steps_nowhere (step ∷ steps) = (λ p. p, steps_nowhere steps)

pub part_nowhere : (part : Part) → PartIsApart Nowhere part
part_nowhere (Declarator steps) = steps_nowhere steps
part_nowhere (Object type steps last role) = steps_nowhere steps
part_nowhere _ = tt

pub parts_nowhere : (parts : List Part) → PartsAreApart Nowhere parts
parts_nowhere [] = tt
parts_nowhere (part ∷ parts) = (part_nowhere part, parts_nowhere parts)

object_nowhere : (o : Option Part) → ObjectIsApart Nowhere o
object_nowhere None = tt
object_nowhere (Some part) = part_nowhere part

-- A NODE WITH A COMPLETE TYPE

pub record CompleteAt (n : ℕ) (s : Known) : Type 0 where
  pub type : TypeTree
  pub there : slice_get s.types n ≡ Some type
  pub complete : is_complete s.tags type ≡ true

pub grown_complete : (before after : Tags) → Grows before after → (type : TypeTree) → is_complete before type ≡ true → is_complete after type ≡ true
grown_complete before after g type h =
    let b = g.bodies in
    let c = g.count in
    ap has_layout (sym (complete_stays before after b c type h)) ∙ h

kept_complete : (n m : ℕ) (s q : Known) → n < length s.types → Holds (Only n) m s q → CompleteAt n s → CompleteAt n q
kept_complete n m s q lt h c = record {
  type = c.type;
  there = h.types n refl lt ∙ c.there;
  complete = grown_complete s.tags q.tags h.grows c.type c.complete;
}

later_number : (n a b m : ℕ) → n < a → b ≡ a + m → n < b
later_number n a b m h e = omega (arith, h, e)

-- WHAT A NODE GIVES

pub has_part : (rules : List Rule) (type : TypeTree) (means : Meant) (part : Part) (s : Known) (r : Part × Known) → has rules type means part s ≡ Ok r
    → ((part, with_node type means s) ≡ r)
has_part rules type means part s r e = unless_of (broken_rules (next_node s) rules) (part, with_node type means s) r e

is_declared_part : (rules : List Rule) (steps : List Step) (s : Known) (r : Part × Known) → has rules Void Nothing (Declarator steps) s ≡ Ok r
    → (all : List Step) × (r.0 ≡ Declarator all)
is_declared_part rules steps s r e = (steps, ap (λ x. x.0) (sym (has_part rules Void Nothing (Declarator steps) s r e)))

if_declared : (b : Bool) (means : Meant) (steps : List Step) (s q : Known) (r : Part × Known)
    → (if b then has [] Void means (Declarator steps) q else has [] Void Nothing (Declarator steps) s) ≡ Ok r → (all : List Step) × (r.0 ≡ Declarator all)
if_declared true means steps s q r e = (steps, ap (λ x. x.0) (sym (has_part [] Void means (Declarator steps) q r e)))
if_declared false means steps s q r e = is_declared_part [] steps s r e

brackets_part : (parts : List Part) (s : Known) (r : Part × Known) → judged_brackets parts s ≡ Ok r → (all : List Step) × (r.0 ≡ Declarator all)
brackets_part [] s r e = is_declared_part [] _ s r e
brackets_part (Value o ∷ []) s r e = is_declared_part [] _ s r e
brackets_part (Declarator steps ∷ []) s r e = is_declared_part [] _ s r e
brackets_part (Declarator steps ∷ (Value o ∷ [])) s r e = is_declared_part [] _ s r e
brackets_part _ s r e = cc

node_declares : (k : Kind) (f : Frame) (parts : List Part) (s : Known) (r : Part × Known) → is_declarator k ≡ true → judged k f parts s ≡ Ok r
    → (all : List Step) × (r.0 ≡ Declarator all)
node_declares (kind.DeclName x) f parts s r d e = if_declared _ _ _ s _ r e
node_declares (kind.Star volatiles) f parts s r d e = is_declared_part [] _ s r e
node_declares (kind.Brackets inner sized) f parts s r d e = brackets_part parts s r e
node_declares (kind.Params inner void_word) f parts s r d e = is_declared_part [] _ _ r e
node_declares kind.DeclParens f parts s r d e = is_declared_part [] _ s r e
node_declares _ f parts s r d e = cc

pub tree_node : (k : Kind) (at : ℕ) (parts : SyntaxRow) (c : Context) (s : Known) (r : Part × Known) → judge (node k at parts) c s ≡ Ok r
    → (x : List Part × Known) × (judge_parts k (opened k c s).0 [] parts (opened k c s).1 ≡ Ok x) × (judged k (opened k c s).0 x.0 x.1 ≡ Ok r)
tree_node k at parts c s r e =
    let z = with_rules_is _ (role_rules c.role k) (and_then (judge_parts k (opened k c s).0 [] parts (opened k c s).1) _) r e in
    then_of (judge_parts k (opened k c s).0 [] parts (opened k c s).1) _ r z

tree_declares : (t : Syntax) (c : Context) (s : Known) (r : Part × Known) → is_declarator (kind_at t) ≡ true → judge t c s ≡ Ok r
    → (all : List Step) × (r.0 ≡ Declarator all)
tree_declares (node k at parts) c s r d e =
    let x = tree_node k at parts c s r e in node_declares k (opened k c s).0 x.0.0 x.0.1 r d x.2

-- an initialiser that gives a length is one

value_part : (b : Bool) (type : TypeTree) (rules : List Rule) (means : Meant) (s q : Known) (r : Part × Known)
    → (if b then has [] type Nothing (Value (operand type true NotConstant)) s else has rules type means (Value (operand type true NotConstant)) q) ≡ Ok r
    → is_initialiser r.0 ≡ true
value_part true type rules means s q r e = ap (λ x. is_initialiser x.0) (sym (has_part [] type Nothing _ s r e))
value_part false type rules means s q r e = ap (λ x. is_initialiser x.0) (sym (has_part rules type means _ q r e))

no_length : (b : Bool) → length_by (if b then NoInitialiser else Expression) ≡ ByNothing
no_length true = refl
no_length false = refl

node_gives_length : (k : Kind) (f : Frame) (parts : List Part) (s : Known) (r : Part × Known) → (length_by (follows_kind k) ≡ ByNothing → ⊥)
    → judged k f parts s ≡ Ok r → is_initialiser r.0 ≡ true
node_gives_length (kind.InitList comma) f parts s r h e = ap (λ x. is_initialiser x.0) (sym (has_part [] _ Nothing _ s r e))
node_gives_length (kind.Text texts) f parts s r h e = value_part (is_filled_by_text f.context.role) (text_type texts) _ _ s _ r e
node_gives_length k f parts s r h e = absurd (h (no_length (is_declarator k)))

tree_gives_length : (t : Syntax) (c : Context) (s : Known) (r : Part × Known) → (length_by (follows_kind (kind_at t)) ≡ ByNothing → ⊥) → judge t c s ≡ Ok r
    → is_initialiser r.0 ≡ true
tree_gives_length (node k at parts) c s r h e =
    let x = tree_node k at parts c s r e in node_gives_length k (opened k c s).0 x.0.0 x.0.1 r h x.2

if_initial : (b : Bool) → b ≡ false → has_initialiser (if b then NoInitialiser else Expression) ≡ true
if_initial true e = cc
if_initial false e = refl

kind_initial : (k : Kind) → is_declarator k ≡ false → has_initialiser (follows_kind k) ≡ true
kind_initial (kind.InitList comma) e = refl
kind_initial (kind.Text texts) e = refl
kind_initial k e = if_initial (is_declarator k) e

-- A DECLARED OBJECT

record ObjectMade (d : Declaring) (by : LengthBy) (base : TypeTree) (steps : List Step) (s : Known) (q : Part × Known) : Type 0 where
  n : NameNode
  named : name_of steps ≡ Some n
  made : TypeTree × List TypeTree
  closing : closed s.tags by base steps s.types ≡ Ok made
  rules : naming_rules s.tags d n.name (in_level n.name (innermost s.names)) (Some made.0) ≡ []
  part : Object made.0 steps (last_node s) (initialiser_role d made.0) ≡ q.0
  types : made.1 ≡ q.1.types
  tags : s.tags ≡ q.1.tags

object_made : (d : Declaring) (by : LengthBy) (base : TypeTree) (steps : List Step) (o : Option NameNode) (s : Known) (q : Part × Known) → name_of steps ≡ o
    → declare_object d by base steps o s ≡ Ok q → ObjectMade d by base steps s q
object_made d by base steps None s q h e = cc
object_made d by base steps (Some n) s q h e =
    let rules = naming_rules s.tags d n.name (in_level n.name (innermost s.names)) in
    let made = then_of (named_with (last_node s) rules (closed s.tags by base steps s.types))
    (λ made. Ok (Object made.0 steps (last_node s) (initialiser_role d made.0), declare_as d n made.0 (record s { types = made.1 }))) q e in
    let m = made.2 in
    let z : (Object made.0.0 steps (last_node s) (initialiser_role d made.0.0), declare_as d n made.0.0 (record s { types = made.0.1 })) ≡ q = cc in
    record {
      n = n;
      named = h;
      made = made.0;
      closing = named_is (last_node s) rules (closed s.tags by base steps s.types) made.0 made.1;
      rules = named_none (last_node s) rules (closed s.tags by base steps s.types) made.0 made.1;
      part = ap (λ x. x.0) z;
      types = ap (λ x. x.1.types) z;
      tags = ap (λ x. x.1.tags) z;
    }

-- one with an initialiser is no type's name and no function
ruled_object : (tags : Tags) (d : Declaring) (x : List ℕ) (type : TypeTree) (repeats : List Rule) → d.has_initialiser ≡ true
    → repeats ++ (breaks_if (is_typedef d.storage && d.has_initialiser) BadOperands ++ type_rules tags d (Some type)) ≡ [] → object_rules tags type ≡ []
ruled_object tags d x type repeats i e =
    by (is_typedef d.storage) d.has_initialiser i
    (last_empty repeats (breaks_if (is_typedef d.storage && d.has_initialiser) BadOperands ++ type_rules tags d (Some type)) e)
  where
    by_function : (b : Bool) → (if b then function_rules d else object_rules tags type) ≡ [] → object_rules tags type ≡ []
    by_function true k =
        let z = ap (λ c. breaks_if c BadOperands) (sym i) ∙ first_empty (breaks_if d.has_initialiser BadOperands) (breaks_if (not d.is_at_file) Misplaced) k in cc
    by_function false k = k

    by : (a b : Bool) → b ≡ true
        → breaks_if (a && b) BadOperands ++ (if a then [] else (if is_function type then function_rules d else object_rules tags type)) ≡ []
        → object_rules tags type ≡ []
    by true true t k = cc
    by a false t k = cc
    by false true t k = by_function (is_function type) k

-- THE LOOP over the rest of a declaration

last_of_object : (before : List Part) (type : TypeTree) (steps : List Step) (last : ℕ) (role : Role)
    → last_object (before ++ Object type steps last role ∷ []) ≡ Some (Object type steps last role)
last_of_object [] type steps last role = refl
last_of_object (b ∷ bs) type steps last role = ap (λ o. or_object o b) (last_of_object bs type steps last role)

last_of_other : (before : List Part) (part : Part) → or_object None part ≡ None → last_object (before ++ part ∷ []) ≡ last_object before
last_of_other [] part h = h
last_of_other (b ∷ bs) part h = ap (λ o. or_object o b) (last_of_other bs part h)

module _ (f : Frame) (n : NameNode) where
  -- the object with this name, which is complete once its length is given
  record IsOurs (o : Option Part) : Type 0 where
    type : TypeTree
    steps : List Step
    last : ℕ
    role : Role
    is : o ≡ Some (Object type steps last role)
    named : name_of steps ≡ Some n
    completes : LacksLength type → (count : ℕ) (later : Tags) (others : List TypeTree) (again : TypeTree × List TypeTree)
        → closed later ByNothing f.base (map (with_length count) steps) others ≡ Ok again → is_complete later again.0 ≡ true

  abbrev Watched : Option Part → Type 0
  Watched o = IsOurs o ⊎ ObjectIsApart (Only n.number) o

  watched_snoc : (before : List Part) (part : Part) → PartIsApart (Only n.number) part → Watched (last_object before) → Watched (last_object (before ++ part ∷ []))
  watched_snoc before (Object type steps last role) a w = inr (subst (λ o. ObjectIsApart (Only n.number) o) (sym (last_of_object before type steps last role)) a)
  watched_snoc before part a w = subst (λ o. Watched o) (sym (last_of_other before part refl)) w

  -- the length is given, or nothing changes
  given_complete : (type : TypeTree) (steps : List Step) (last : ℕ) (role : Role) (part : Part) (s q : Known) → name_of steps ≡ Some n
      → (LacksLength type → (count : ℕ) (later : Tags) (others : List TypeTree) (again : TypeTree × List TypeTree)
      → closed later ByNothing f.base (map (with_length count) steps) others ≡ Ok again → is_complete later again.0 ≡ true)
      → n.number < length s.types → CompleteAt n.number s ⊎ LacksLength type
      → with_length_given f.base (Some (Object type steps last role)) part s ≡ Ok q → CompleteAt n.number q
  given_complete (Array t zero) steps last role part s q named completes lt c e =
      let count = given_length part in
      let rules = length_rules (name_in (name_of steps)) (declared_before (name_in (name_of steps)) (innermost s.names)) in
      let made = then_of (named_with last rules (closed s.tags ByNothing f.base (map (with_length count) steps) s.types))
      (λ made. Ok (record s { types = made.1; names = retyped (name_in (name_of steps)) made.0 (innermost s.names) ∷ around s.names })) q e in
      let closing = named_is last rules (closed s.tags ByNothing f.base (map (with_length count) steps) s.types) made.0 made.1 in
      let m = made.2 in
      let z : record s { types = made.0.1; names = retyped (name_in (name_of steps)) made.0.0 (innermost s.names) ∷ around s.names } ≡ q = cc in
      subst (λ x. CompleteAt n.number x) z
      (record {
        type = made.0.0;
        there = name_type s.tags ByNothing f.base (map (with_length count) steps) s.types made.0 n closing (with_length_name count steps n named) lt;
        complete = completes (λ h. h) count s.tags s.types made.0 closing;
      })
  given_complete _ steps last role part s q named completes lt (inl c) e = unchanged s q (Ok s) refl e c
    where
      unchanged : (s q : Known) (m : Result Known Broken) → m ≡ Ok s → m ≡ Ok q → CompleteAt n.number s → CompleteAt n.number q
      unchanged s q m d e c = let z : s ≡ q = cc in subst (λ x. CompleteAt n.number x) z c
  given_complete _ steps last role part s q named completes lt (inr l) e = absurd (l tt)

  record Stepped (before : List Part) (q : Part × Known) : Type 0 where
    lt : n.number < length q.1.types
    complete : CompleteAt n.number q.1
    watched : Watched (last_object (before ++ q.0 ∷ []))

  -- behind an initialiser, whether the length is known before or not
  behind_given : (before : List Part) (part : Part) (s given : Known) (q : Part × Known) → or_object None part ≡ None → n.number < length s.types
      → with_length_given f.base (last_object before) part s ≡ Ok given → CompleteAt n.number given → Watched (last_object before) → (part, given) ≡ q → Stepped before q
  behind_given before part s given q h lt e c w z =
      let k = given_holds Nowhere s f.base (last_object before) part given (object_nowhere (last_object before)) e in
      subst (λ x. Stepped before x) z
      (record {
        lt = later_number n.number (length s.types) (length given.types) 0 lt k.count;
        complete = c;
        watched = subst (λ o. Watched o) (sym (last_of_other before part h)) w;
      })

  ours_given : (before : List Part) (part : Part) (s : Known) (q : Part × Known) (rules : Known → List Broken) → or_object None part ≡ None → n.number < length s.types
      → (o : IsOurs (last_object before)) → CompleteAt n.number s ⊎ LacksLength o.type
      → and_then (with_length_given f.base (last_object before) part s) (λ given. unless (rules given) (part, given)) ≡ Ok q → Stepped before q
  ours_given before part s q rules h lt o c e =
      let x = then_of (with_length_given f.base (last_object before) part s) _ q e in
      behind_given before part s x.0 q h lt x.1
      (given_complete o.type o.steps o.last o.role part s x.0 o.named o.completes lt c (ap (λ object. with_length_given f.base object part s) (sym o.is) ∙ x.1))
      (inl o) (unless_of (rules x.0) (part, x.0) q x.2)

  apart_given : (before : List Part) (part : Part) (s : Known) (q : Part × Known) (rules : Known → List Broken) → or_object None part ≡ None → n.number < length s.types
      → ObjectIsApart (Only n.number) (last_object before) → CompleteAt n.number s
      → and_then (with_length_given f.base (last_object before) part s) (λ given. unless (rules given) (part, given)) ≡ Ok q → Stepped before q
  apart_given before part s q rules h lt a c e =
      let x = then_of (with_length_given f.base (last_object before) part s) _ q e in
      behind_given before part s x.0 q h lt x.1
      (kept_complete n.number 0 s x.0 lt (given_holds (Only n.number) s f.base (last_object before) part x.0 a x.1) c)
      (inr a) (unless_of (rules x.0) (part, x.0) q x.2)

  watched_given : (before : List Part) (part : Part) (s : Known) (q : Part × Known) (rules : Known → List Broken) → or_object None part ≡ None → n.number < length s.types
      → Watched (last_object before) → CompleteAt n.number s
      → and_then (with_length_given f.base (last_object before) part s) (λ given. unless (rules given) (part, given)) ≡ Ok q → Stepped before q
  watched_given before part s q rules h lt (inl o) c e = ours_given before part s q rules h lt o (inl c) e
  watched_given before part s q rules h lt (inr a) c e = apart_given before part s q rules h lt a c e

  pending_step : (k : Kind) → is_declaration k ≡ true → (before : List Part) (part : Part) (rest : SyntaxRow) (s : Known) (q : Part × Known) → is_initialiser part ≡ true
      → n.number < length s.types → (o : IsOurs (last_object before)) → LacksLength o.type → behind k f before part rest s ≡ Ok q → Stepped before q
  pending_step (kind.Declaration spec inits) d before (Value v) rest s q i lt o l e = ours_given before (Value v) s q _ refl lt o (inr l) e
  pending_step (kind.Declaration spec inits) d before (Braced count) rest s q i lt o l e = ours_given before (Braced count) s q _ refl lt o (inr l) e
  pending_step (kind.Declaration spec inits) d before _ rest s q i lt o l e = cc
  pending_step _ d before part rest s q i lt o l e = cc

  initial_step : (k : Kind) → is_declaration k ≡ true → (before : List Part) (part : Part) (rest : SyntaxRow) (s : Known) (q : Part × Known) → is_initialiser part ≡ true
      → n.number < length s.types → CompleteAt n.number s → Watched (last_object before) → behind k f before part rest s ≡ Ok q → Stepped before q
  initial_step (kind.Declaration spec inits) d before (Value v) rest s q i lt c w e = watched_given before (Value v) s q _ refl lt w c e
  initial_step (kind.Declaration spec inits) d before (Braced count) rest s q i lt c w e = watched_given before (Braced count) s q _ refl lt w c e
  initial_step (kind.Declaration spec inits) d before _ rest s q i lt c w e = cc
  initial_step _ d before part rest s q i lt c w e = cc

  other_step : (k : Kind) (before : List Part) (part : Part) (rest : SyntaxRow) (s : Known) (q : Part × Known) → is_initialiser part ≡ false → PartIsApart (Only n.number) part
      → n.number < length s.types → CompleteAt n.number s → Watched (last_object before) → behind k f before part rest s ≡ Ok q → Stepped before q
  other_step k before part rest s q i a lt c w e =
      let h = other_held (Only n.number) s k f before part rest i a q e in
      let g = h.holds in
      record {
        lt = later_number n.number (length s.types) (length q.1.types) 0 lt g.count;
        complete = kept_complete n.number 0 s q.1 lt h.holds c;
        watched = watched_snoc before q.0 h.apart w;
      }

  any_step : (k : Kind) → is_declaration k ≡ true → (before : List Part) (part : Part) (rest : SyntaxRow) (s : Known) (q : Part × Known) → PartIsApart (Only n.number) part
      → n.number < length s.types → CompleteAt n.number s → Watched (last_object before) → behind k f before part rest s ≡ Ok q → Stepped before q
  any_step k d before part rest s q a lt c w e = by (is_initialiser part) refl
    where
      by : (b : Bool) → is_initialiser part ≡ b → Stepped before q
      by true i = initial_step k d before part rest s q i lt c w e
      by false i = other_step k before part rest s q i a lt c w e

  loop : (k : Kind) → is_declaration k ≡ true → (before : List Part) (ts : SyntaxRow) (s : Known) (r : List Part × Known) → judge_parts k f before ts s ≡ Ok r
      → n.number < length s.types → CompleteAt n.number s → Watched (last_object before) → CompleteAt n.number r.1
  loop k d before none s r e lt c w = let z : (before, s) ≡ r = cc in subst (λ x. CompleteAt n.number x.1) z c
  loop k d before (more t ts) s r e lt c w =
      let x = then_of (judge t (context k f before (kind_at t) s) s) _ r e in
      let y = then_of (behind k f before x.0.0 ts x.0.1) _ r x.2 in
      let h = judge_held (Only n.number) t (context k f before (kind_at t) s) s (fresh_below n.number (length s.types) (nodes_of t) lt) x.0 x.1 in
      let g = h.holds in
      let b = any_step k d before x.0.0 ts x.0.1 y.0 h.apart (later_number n.number (length s.types) (length x.0.1.types) (nodes_of t) lt g.count)
      (kept_complete n.number (nodes_of t) s x.0.1 lt h.holds c) w y.1 in
      loop k d (before ++ y.0.0 ∷ []) ts y.0.1 r y.2 b.lt b.complete b.watched

-- A NAME WITH AN INITIALISER behind it

pub record NameIsComplete (t : Syntax) (s : Known) (r : List Part × Known) : Type 0 where
  pub n : NameNode
  pub token : ℕ
  pub label : (types : List TypeTree) (means : List Meant) → name_label (typed types means (next_node s) t) ≡ Some (label_of types means n.number token)
  pub from : next_node s ≤ n.number
  pub complete : CompleteAt n.number r.1

-- from a declared object on, whose initialiser comes next
sum_in : (before after : Tags) (type : TypeTree) → before ≡ after → (is_complete before type ≡ true) ⊎ LacksLength type → (is_complete after type ≡ true) ⊎ LacksLength type
sum_in before after type e (inl c) = inl (subst (λ tags. is_complete tags type ≡ true) e c)
sum_in before after type e (inr l) = inr l

rest_complete : (k : Kind) → is_declaration k ≡ true → (f : Frame) (before : List Part) (u : Syntax) (us : SyntaxRow) (s : Known) (r : List Part × Known) (n : NameNode) (type : TypeTree)
    → (o : IsOurs f n (last_object before)) → type ≡ o.type → judge_parts k f before (more u us) s ≡ Ok r → n.number < length s.types → slice_get s.types n.number ≡ Some type
    → (length_by (follows_kind (kind_at u)) ≡ ByNothing → HasItsLength type) → (is_complete s.tags type ≡ true) ⊎ LacksLength type → CompleteAt n.number r.1
rest_complete k d f before u us s r n type o same e lt there plain (inl c) =
    loop f n k d before (more u us) s r e lt (record { type = type; there = there; complete = c }) (inl o)
rest_complete k d f before u us s r n type o same e lt there plain (inr l) =
    let x = then_of (judge u (context k f before (kind_at u) s) s) _ r e in
    let y = then_of (behind k f before x.0.0 us x.0.1) _ r x.2 in
    let i = tree_gives_length u (context k f before (kind_at u) s) s x.0 (λ z. l (plain z)) x.1 in
    let h = judge_held Nowhere u (context k f before (kind_at u) s) s (λ i lo hi p. p) x.0 x.1 in
    let g = h.holds in
    let b = pending_step f n k d before x.0.0 us x.0.1 y.0 i (later_number n.number (length s.types) (length x.0.1.types) (nodes_of u) lt g.count) o
    (subst (λ t. LacksLength t) same l) y.1 in
    loop f n k d (before ++ y.0.0 ∷ []) us y.0.1 r y.2 b.lt b.complete b.watched

at_declarator : (k : Kind) → is_declaration k ≡ true → (f : Frame) (before : List Part) (part : Part) (steps : List Step) (rest : SyntaxRow) (s : Known) (q : Part × Known)
    → part ≡ Declarator steps → behind k f before part rest s ≡ Ok q → declare_object (object_declaring f (follows rest) s) (length_by (follows rest)) f.base steps (name_of steps) s ≡ Ok q
at_declarator (kind.Declaration spec inits) d f before part steps rest s q p e = ap (λ x. behind (kind.Declaration spec inits) f before x rest s) (sym p) ∙ e
at_declarator _ d f before part steps rest s q p e = cc

pub start : (k : Kind) → is_declaration k ≡ true → (f : Frame) (before : List Part) (t u : Syntax) (us : SyntaxRow) (s : Known) (r : List Part × Known) → HasItsLength f.base
    → is_declarator (kind_at t) ≡ true → is_declarator (kind_at u) ≡ false → length s.means ≡ length s.types
    → judge_parts k f before (more t (more u us)) s ≡ Ok r → NameIsComplete t s r
start k d f before t u us s r base dt du even e =
    let x = then_of (judge t (context k f before (kind_at t) s) s) _ r e in
    let y = then_of (behind k f before x.0.0 (more u us) x.0.1) _ r x.2 in
    let p = tree_declares t (context k f before (kind_at t) s) s x.0 dt x.1 in
    let by = length_by (follows (more u us)) in
    let dd = object_declaring f (follows (more u us)) x.0.1 in
    let o = object_made dd by f.base p.0 (name_of p.0) x.0.1 y.0 refl (at_declarator k d f before x.0.0 p.0 (more u us) x.0.1 y.0 p.1 y.1) in
    let name = tree_name t (context k f before (kind_at t) s) s x.0 even x.1 p.0 p.1 o.n o.named in
    let lt = name.within in
    let held = other_held Nowhere x.0.1 k f before x.0.0 (more u us) (ap is_initialiser p.1) (part_nowhere x.0.0) y.0 y.1 in
    let h = held.holds in
    let later = later_number o.n.number (length x.0.1.types) (length y.0.1.types) 0 lt h.count in
    let there : slice_get y.0.1.types o.n.number ≡ Some o.made.0 =
    ap (λ xs. slice_get xs o.n.number) (sym o.types) ∙ name_type x.0.1.tags by f.base p.0 x.0.1.types o.made o.n o.closing o.named lt in
    let rules = ruled_object x.0.1.tags dd o.n.name o.made.0 (repeat_rules dd o.n.name (in_level o.n.name (innermost x.0.1.names)) (Some o.made.0))
    (kind_initial (kind_at u) du) o.rules in
    let ours : IsOurs f o.n (last_object (before ++ y.0.0 ∷ [])) = record {
      type = o.made.0;
      steps = p.0;
      last = last_node x.0.1;
      role = initialiser_role dd o.made.0;
      is = ap (λ part. last_object (before ++ part ∷ [])) (sym o.part) ∙ last_of_object before o.made.0 p.0 (last_node x.0.1) (initialiser_role dd o.made.0);
      named = o.named;
      completes = recloses x.0.1.tags by f.base p.0 x.0.1.types o.made base o.closing;
    } in
    record {
      n = o.n;
      token = name.token;
      label = name.label;
      from = name.from;
      complete = rest_complete k d f (before ++ y.0.0 ∷ []) u us y.0.1 r o.n o.made.0 ours refl y.2 later there
          (λ z. closed_length x.0.1.tags f.base p.0 x.0.1.types o.made base (ap (λ b. closed x.0.1.tags b f.base p.0 x.0.1.types) (sym z) ∙ o.closing))
          (sum_in x.0.1.tags y.0.1.tags o.made.0 o.tags (object_complete x.0.1.tags o.made.0 rules));
    }
