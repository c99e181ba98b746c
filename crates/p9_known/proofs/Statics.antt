-- Each text, and each static of a block that a name stands for, has a symbol.
use Rattle.std.proofs.Common.{◌≡◌, ℕ, zero, suc, ◌+◌, ◌==◌, Bool, true, false, not, ◌&&◌, if◌then◌else◌, List, [], ◌∷◌, ◌++◌, length, slice_get, slice_set, unwrap_or, Option, Some, None, Ok, refl, sym, ap, subst, ◌∙◌, eq-eqb}
use Rattle.p9_lang.specs.declared.tree.Kind.{Kind}
use Rattle.p9_lang.specs.declared.tree.Kind.TheVariants as kind
use Rattle.p9_lang.specs.Names.{same_name}
use Rattle.p9_lang.specs.Trees.{node, none, more, Syntax, SyntaxRow, nodes_of_row}
use Rattle.p9_lang.specs.Types.{TypeTree, Void, Int, Array, Meant, Nothing, Outer, Static, Auto, EnumValue, TypeName, MemberTree}
use Rattle.p9_lang.specs.Rules.{Undeclared, Broken, unless, and_then, breaks_if}
use Rattle.p9_lang.specs.Constants.{Operand, Constant, NotConstant, Undefined, Null}
use Rattle.p9_lang.specs.Constants as constants
use Rattle.p9_lang.specs.Scopes.{Known, Declared, known_first, newest, with_node, next_node, in_levels, innermost, around}
use Rattle.p9_lang.specs.Declarators.{Step, is_typedef, is_static, LengthBy, ByNothing, NameNode, name_of, own_list, Declaring, closed, adjusted, is_filled}
use Rattle.p9_lang.specs.Parts.{Role, ParameterOf, Plain, Context, file_context, Part, Value, Declarator, Object, Members, Enumerator, Parameter, NamedType, Braced, Filled, CaseLabel, DefaultLabel, Statement, Frame, Judged, kind_at, members_in, follows, length_by, last_object, object_type, name_in}
use Rattle.p9_lang.specs.Opening.{opened, context}
use Rattle.p9_lang.specs.Entries.{is_index_next}
use Rattle.p9_lang.specs.Declaring.{broken_rules, last_node, behind, declared, declare_object, declare_as, declared_meaning, initialiser_role, declare_member, declare_parameter, declared_parameter, parameter_meaning, close_type, object_declaring, function_declaring, with_body_open, open_body, parameter_count, enumerated, enumerator_value, constant_meaning, complete_if, with_members, with_length_given, retyped, initialised}
use Rattle.p9_lang.specs.Typing.{judged_name, judged, judge, judge_parts, judge_items, is_usable}
use Rattle.p9_lang.specs.Modules.{Label, label_of, typed, typed_row}
use Rattle.p9_lang.specs.Files.{Typing, typing_of, names_with_bodies}
use Rattle.p9_lang.proofs.Counting.{then_of, unless_of}
use Rattle.p9_sound.specs.Labels.{AreKnown}
use Rattle.p9_sound.proofs.Numbering.{kinds_after}
use Rattle.p9_sound.proofs.Staying.{AllHaveOpen, alike_known}
use Rattle.p9_sound.proofs.Closing.{opened_alike}
use Rattle.p9_sound.proofs.Labels.{tree_stays, row_stays, part_stays}
use Rattle.std.proofs.Common.{◌<◌, ◌≤◌, ◌-◌, map, filter, arith, append_assoc}
use Rattle.p9_lang.specs.Trees.{nodes_of, row_of}
use Rattle.p9_lang.specs.Types.{Tags}
use Rattle.p9_lang.specs.Modules.{Typed, source_of}
use Rattle.p9_lang.specs.Files.{typing_in, typed_file}
use Rattle.p9_lang.specs.Parts.{is_declarator}
use Rattle.p9_lang.specs.Symbols.{kind_of_node, name_label, initialiser, is_declaration, LocalObject, Symbol, text_at, static_at, local_objects, local_objects_in, local_symbol, symbols, symbol_of, symbol_names, is_symbol}
use Rattle.p9_lower.specs.Names.{static_symbol, is_static_symbol}
use Rattle.p9_lower.specs.Premises.{is_found}
use Rattle.p9_cmean.specs.Union.{number_from}
use Rattle.p9_sound.proofs.NamesOf.{tree_name, tree_steady}
use Rattle.p9_sound.proofs.Automatics.{get_set, tree_suits}
use Rattle.p9_sound.proofs.Counts.{judged_plainly, Suits}
use Rattle.p9_sound.proofs.Numbering.{get_last}
use Rattle.p9_sound.proofs.Ending.{meant_in}
use Rattle.p9_firsts.proofs.Holding as holding
use Rattle.p9_firsts.proofs.Holding.{Holds, PartIsApart, PartsAreApart, name_number, judged_held, judge_held, behind_held, parts_held}
use Rattle.p9_firsts.proofs.Declared.{Only, Nowhere, fresh_below, fresh_above, part_nowhere, parts_nowhere, tree_node}
use Rattle.p9_known.specs.Statics.{IsAmong, NodeIsAmong, StaticsAreAmong, RowIsAmong, TypedStaticsAreFound}
use Rattle.p9_known.proofs.Scoped.{opens_level, closes_level, opened_names, Never, Any, LevelIs, LevelsAre, innermost_are, around_are, in_levels_are, opened_are, left_are, StepsAre, PartIs, PartsAre, own_is, list_is, part_asked, Leaves, judged_leaves}
use Rattle.p9_known.proofs.Scoped as scoped
use Rattle.p9_known.proofs.Meanings.{IsClear, Made, made_object, behind_keeps, row_keeps}

-- NUMBERS of local objects

abbrev pub AllIn : (ℕ → Type 0) → List LocalObject → Type 0
AllIn P [] = Unit {0}
AllIn P (o ∷ os) = P o.number × AllIn P os

all_left : (P : ℕ → Type 0) (xs ys : List LocalObject) → AllIn P (xs ++ ys) → AllIn P xs
all_left P [] ys h = tt
all_left P (x ∷ xs) ys h = (h.0, all_left P xs ys h.1)

all_right : (P : ℕ → Type 0) (xs ys : List LocalObject) → AllIn P (xs ++ ys) → AllIn P ys
all_right P [] ys h = h
all_right P (x ∷ xs) ys h = all_right P xs ys h.1

text_among : (P : ℕ → Type 0) (texts : List (List ℕ)) (number token : ℕ) (type : TypeTree) (means : Meant)
    → AllIn P (text_at (kind.Text texts) (record { number = number; token = token; type = type; means = means })) → IsAmong P means
text_among P texts number token type Nothing h = tt
text_among P texts number token type (Outer name) h = tt
text_among P texts number token type (Static n) h = h.0
text_among P texts number token type (Auto n) h = tt
text_among P texts number token type (EnumValue value) h = tt
text_among P texts number token type (TypeName other) h = tt

static_among : (P : ℕ → Type 0) (tags : Tags) (value : Option Typed) (number token : ℕ) (type : TypeTree) (means : Meant)
    → AllIn P (static_at tags value (Some (record { number = number; token = token; type = type; means = means }))) → IsAmong P means
static_among P tags value number token type Nothing h = tt
static_among P tags value number token type (Outer name) h = tt
static_among P tags value number token type (Static n) h = h.0
static_among P tags value number token type (Auto n) h = tt
static_among P tags value number token type (EnumValue other) h = tt
static_among P tags value number token type (TypeName other) h = tt

-- NAMES IN SCOPE

abbrev InScope : (ℕ → Type 0) → TypeTree → Meant → Type 0
InScope P type means = IsAmong P means

module _ (P : ℕ → Type 0) where
  abbrev Scope : Known → Type 0
  Scope s = LevelsAre (InScope P) s.names

  abbrev Means : Judged → Type 0
  Means m = (r : Part × Known) → m ≡ Ok r → Scope r.1 × PartIs (InScope P) Any r.0

  ok_means : (q : Known) (part : Part) → Scope q → PartIs (InScope P) Any part → Means (Ok (part, q))
  ok_means q part h f r e = let z : (part, q) ≡ r = cc in subst (λ x. Scope x.1 × PartIs (InScope P) Any x.0) z (h, f)

  if_means : (c : Bool) (x y : Judged) → Means x → Means y → Means (if c then x else y)
  if_means true x y h g = h
  if_means false x y h g = g

  unless_means : (q : Known) (broken : List Broken) (part : Part) → Scope q → PartIs (InScope P) Any part → Means (unless broken (part, q))
  unless_means q broken part h f r e = ok_means q part h f r (ap (λ x. Ok x) (unless_of broken (part, q) r e))

  newest_scope : (s q : Known) (d : Declared) → Scope s → q.names ≡ (d ∷ innermost s.names) ∷ around s.names → IsAmong P d.means → Scope q
  newest_scope s q d v e i =
      subst (λ levels. LevelsAre (InScope P) levels) (sym e) ((i, innermost_are (InScope P) s.names v), around_are (InScope P) s.names v)

  retyped_scope : (x : List ℕ) (type : TypeTree) (ds : List Declared) → LevelIs (InScope P) ds → LevelIs (InScope P) (retyped x type ds)
  retyped_scope x type [] h = tt
  retyped_scope x type (d ∷ ds) h = by (same_name x d.name) (retyped_scope x type ds h.1)
    where
      by : (b : Bool) → LevelIs (InScope P) (retyped x type ds) → LevelIs (InScope P) (if b then record d { type = type } ∷ ds else d ∷ retyped x type ds)
      by true g = h
      by false g = (h.0, g)

  -- what the declared name means behind its declarator
  abbrev StandsIn : Known → List Step → Part × Known → Type 0
  StandsIn s steps r = (n : NameNode) → name_of steps ≡ Some n → (n.number < length s.means) × IsAmong P (meant_in r.1.means n.number)

  -- a name of file scope is no static of a block
  outer_among : (c : Bool) (type : TypeTree) (name : List ℕ) → IsAmong P (if c then TypeName type else Outer name)
  outer_among true type name = tt
  outer_among false type name = tt

  module _ (s : Known) (v : Scope s) where
    made_scope : (d : Declaring) (n : NameNode) (q : Known) → Made d n s q → (n.number < length s.means) × IsAmong P (meant_in q.means n.number) → Scope q
    made_scope d n q m h =
        let k = record s { types = m.types } in
        let means = declared_meaning d n m.type k in
        let there : slice_get q.means n.number ≡ Some means =
        ap (λ y. slice_get y.means n.number) (sym m.is) ∙ get_set s.means n.number means h.0 in
        newest_scope s q (record { name = n.name; type = m.type; means = means; is_static = is_static d.storage; is_filled = is_filled d }) v
        (ap (λ y. y.names) (sym m.is)) (subst (λ o. IsAmong P (unwrap_or o Nothing)) there h.1)

    object_scope : (d : Declaring) (by : LengthBy) (base : TypeTree) (steps : List Step) (name : Option NameNode) → name_of steps ≡ name → (r : Part × Known)
        → declare_object d by base steps name s ≡ Ok r → StandsIn s steps r → Scope r.1 × PartIs (InScope P) Any r.0
    object_scope d by base steps None w r e h = cc
    object_scope d by base steps (Some n) w r e h =
        let made = then_of _ (λ made. Ok (
          Object made.0 steps (last_node s) (initialiser_role d made.0),
          declare_as d n made.0 (record s { types = made.1 }),
        )) r e in
        let k = made.2 in
        let z : (Object made.0.0 steps (last_node s) (initialiser_role d made.0.0), declare_as d n made.0.0 (record s { types = made.0.1 })) ≡ r = cc in
        (made_scope d n r.1 (made_object d by base steps n s r e) (h n w), subst (λ x. PartIs (InScope P) Any x.0) z tt)

    function_object : (f : Frame) (steps : List Step) (name : Option NameNode) → Means (declare_object (function_declaring f) ByNothing f.base steps name s)
    function_object f steps None r e = cc
    function_object f steps (Some n) r e =
        let made = then_of _ (λ made. Ok (
          Object made.0 steps (last_node s) (initialiser_role (function_declaring f) made.0),
          declare_as (function_declaring f) n made.0 (record s { types = made.1 }),
        )) r e in
        let q = declare_as (function_declaring f) n made.0.0 (record s { types = made.0.1 }) in
        ok_means q _
        (newest_scope s q
        (record {
          name = n.name;
          type = made.0.0;
          means = declared_meaning (function_declaring f) n made.0.0 (record s { types = made.0.1 });
          is_static = is_static f.storage;
          is_filled = true;
        })
        v refl (outer_among (is_typedef f.storage) made.0.0 n.name))
        tt r made.2

    body_scope : (steps : List Step) (x r : Part × Known) → StepsAre (InScope P) steps → Scope x.1 → PartIs (InScope P) Any x.0 → with_body_open steps x ≡ Ok r
        → Scope r.1 × PartIs (InScope P) Any r.0
    body_scope steps x r h a g e =
        let z : (x.0, open_body steps (record x.1 { autos = parameter_count (object_type (Some x.0) Void) })) ≡ r = cc in
        subst (λ y. Scope y.1 × PartIs (InScope P) Any y.0) z ((list_is (InScope P) (own_list steps) (own_is (InScope P) steps h), a), g)

    function_scope : (f : Frame) (steps : List Step) → StepsAre (InScope P) steps
        → Means (and_then (declare_object (function_declaring f) ByNothing f.base steps (name_of steps) s) (with_body_open steps))
    function_scope f steps h r e =
        let x = then_of (declare_object (function_declaring f) ByNothing f.base steps (name_of steps) s) (with_body_open steps) r e in
        let g = function_object f steps (name_of steps) x.0 x.1 in
        body_scope steps x.0 r h g.0 g.1 x.2

    member_scope : (f : Frame) (before : List Part) (steps : List Step) (name : Option NameNode) → Means (declare_member f before steps name s)
    member_scope f before steps None r e = cc
    member_scope f before steps (Some n) r e =
        let made = then_of _ (λ made. Ok (Object made.0 steps (last_node s) Plain, record s { types = made.1 })) r e in
        ok_means (record s { types = made.0.1 }) _ v tt r made.2

    parameter_among : (role : Role) → IsAmong P (parameter_meaning role)
    parameter_among (ParameterOf true number) = tt
    parameter_among _ = tt

    parameter_scope : (f : Frame) (steps : List Step) (name : Option NameNode) → Means (declare_parameter f steps name s)
    parameter_scope f steps None r e =
        let made = then_of _ (λ made. Ok (Object (adjusted made.0) steps (last_node s) Plain, record s { types = made.1 })) r e in
        ok_means (record s { types = made.0.1 }) _ v tt r made.2
    parameter_scope f steps (Some n) r e =
        let made = then_of _ (λ made. Ok (Object (adjusted made.0) steps (last_node s) Plain, declared_parameter f n made s)) r e in
        ok_means (declared_parameter f n made.0 s) _
        (newest_scope s (declared_parameter f n made.0 s)
        (record {
          name = n.name;
          type = adjusted made.0.0;
          means = parameter_meaning f.context.role;
          is_static = false;
          is_filled = false;
        })
        v refl (parameter_among f.context.role))
        tt r made.2

    type_scope : (f : Frame) (steps : List Step) → Means (close_type f steps s)
    type_scope f steps r e =
        let made = then_of (closed s.tags ByNothing f.base steps s.types) (λ made. Ok (Object made.0 steps (last_node s) Plain, record s { types = made.1 })) r e in
        ok_means (record s { types = made.0.1 }) _ v tt r made.2

    declared_scope : (k : Kind) (f : Frame) (before : List Part) (steps : List Step) (rest : SyntaxRow) → StepsAre (InScope P) steps → (r : Part × Known)
        → declared k f before steps rest s ≡ Ok r → (is_declaration k ≡ true → StandsIn s steps r) → Scope r.1 × PartIs (InScope P) Any r.0
    declared_scope (kind.Declaration spec inits) f before steps rest h r e w =
        object_scope (object_declaring f (follows rest) s) (length_by (follows rest)) f.base steps (name_of steps) refl r e (w refl)
    declared_scope (kind.Function spec) f before steps rest h r e w = function_scope f steps h r e
    declared_scope (kind.Member spec) f before steps rest h r e w = member_scope f before steps (name_of steps) r e
    declared_scope (kind.Param spec) f before steps rest h r e w = parameter_scope f steps (name_of steps) r e
    declared_scope (kind.NamedType spec) f before steps rest h r e w = type_scope f steps r e
    declared_scope k f before steps rest h r e w = ok_means s (Declarator steps) v h r e

    constant_among : (c : Constant) → IsAmong P (constant_meaning c)
    constant_among NotConstant = tt
    constant_among Undefined = tt
    constant_among Null = tt
    constant_among (constants.Value word) = tt

    abbrev enumerated_known : (x : List ℕ) (value : Constant) → Known
    enumerated_known x value = record s {
      means = slice_set s.means (last_node s) (constant_meaning value);
      names = newest (record { name = x; type = Int; means = constant_meaning value; is_static = false; is_filled = false }) s.names;
    }

    enumerated_scope : (x : List ℕ) (value : Constant) → Means (enumerated x value s)
    enumerated_scope x value =
        unless_means (enumerated_known x value) _ _
        (newest_scope s (enumerated_known x value) (record { name = x; type = Int; means = constant_meaning value; is_static = false; is_filled = false }) v refl (constant_among value)) tt

    complete_scope : (is_last : Bool) (tag : Option ℕ) (members : List MemberTree) → Scope (complete_if is_last tag members s)
    complete_scope is_last None members = v
    complete_scope false (Some number) members = v
    complete_scope true (Some number) members = v

    given_scope : (base : TypeTree) (object : Option Part) (part : Part) (q : Known) → with_length_given base object part s ≡ Ok q → Scope q
    given_scope base (Some (Object (Array element zero) steps last role)) part q e =
        let made = then_of _ (λ made. Ok (record s { types = made.1; names = retyped (name_in (name_of steps)) made.0 (innermost s.names) ∷ around s.names })) q e in
        let k = made.2 in
        let z : record s { types = made.0.1; names = retyped (name_in (name_of steps)) made.0.0 (innermost s.names) ∷ around s.names } ≡ q = cc in
        subst (λ y. Scope y) z
        (retyped_scope (name_in (name_of steps)) made.0.0 (innermost s.names) (innermost_are (InScope P) s.names v), around_are (InScope P) s.names v)
    given_scope base _ part q e = let z : s ≡ q = cc in subst (λ y. Scope y) z v

    initialised_scope : (k : Kind) (f : Frame) (before : List Part) (part : Part) → PartIs (InScope P) Any part → Means (initialised k f before part s)
    initialised_scope (kind.Declaration spec inits) f before part l r e =
        let x = then_of (with_length_given f.base (last_object before) part s) _ r e in
        unless_means x.0 _ part (given_scope f.base (last_object before) part x.0 x.1) l r x.2
    initialised_scope (kind.Entry entry_by equals) f before part l r e =
        if_means (is_index_next entry_by before) _ _ (ok_means s part v l) (unless_means s _ part v l) r e
    initialised_scope k f before part l r e = ok_means s part v l r e

    behind_scope : (k : Kind) (f : Frame) (before : List Part) (part : Part) (rest : SyntaxRow) → PartIs (InScope P) Never part → (r : Part × Known)
        → behind k f before part rest s ≡ Ok r → ((steps : List Step) → part ≡ Declarator steps → is_declaration k ≡ true → StandsIn s steps r)
        → Scope r.1 × PartIs (InScope P) Any r.0
    behind_scope k f before (Value o) rest l r e w = initialised_scope k f before (Value o) tt r e
    behind_scope k f before (Braced count) rest l r e w = initialised_scope k f before (Braced count) tt r e
    behind_scope k f before (Declarator steps) rest l r e w = declared_scope k f before steps rest l r e (w steps refl)
    behind_scope k f before (Enumerator x value) rest l r e w = enumerated_scope x (enumerator_value before value) r e
    behind_scope k f before (Members members) rest l r e w =
        ok_means (with_members f before (Members members) s) (Members members)
        (complete_scope (suc (length before) == f.braces) f.tag (members_in (before ++ Members members ∷ []))) tt r e
    behind_scope k f before (CaseLabel word) rest l r e w = unless_means s _ (CaseLabel word) v tt r e
    behind_scope k f before DefaultLabel rest l r e w = unless_means s _ DefaultLabel v tt r e
    behind_scope k f before (Object type steps last role) rest l r e w = absurd l
    behind_scope k f before (Parameter type) rest l r e w = ok_means s (Parameter type) v tt r e
    behind_scope k f before (NamedType type) rest l r e w = ok_means s (NamedType type) v tt r e
    behind_scope k f before (Filled next) rest l r e w = ok_means s (Filled next) v tt r e
    behind_scope k f before Statement rest l r e w = ok_means s Statement v tt r e

-- NUMBERS

at_or_above : (a b n : ℕ) → a ≡ b → a ≤ n → b ≤ n
at_or_above a b n e h = omega (arith, e, h)

within : (n a b m : ℕ) → n < a → b ≡ a + m → n < b
within n a b m h e = omega (arith, h, e)

from_later : (a b n m : ℕ) → b ≡ a + m → b ≤ n → a ≤ n
from_later a b n m e h = omega (arith, e, h)

end_below : (a b n m : ℕ) → b ≡ a + m → b ≤ n → a + m ≤ n
end_below a b n m e h = omega (arith, e, h)

no_more : (a b : ℕ) → b ≡ a + 0 → b ≡ a
no_more a b e = omega (arith, e)

never_last : (n a : ℕ) → n < a → n ≡ a → ⊥
never_last n a h e = omega (arith, h, e)

before_last : (n a b : ℕ) → n < a → b ≡ a + 1 → n ≡ b - 1 → ⊥
before_last n a b h c e = omega (arith, h, c, e)

same_bound : (n a b : ℕ) → a ≡ b → n < a → n < b
same_bound n a b e h = omega (arith, e, h)

last_above : (a b m : ℕ) → b ≡ a + m → a ≤ b
last_above a b m e = omega (arith, e)

last_within : (a b : ℕ) → b ≡ a + 1 → a < b
last_within a b e = omega (arith, e)

kind_typed : (types : List TypeTree) (means : List Meant) (first : ℕ) (t : Syntax) → kind_of_node (typed types means first t) ≡ kind_at t
kind_typed types means first (node k at parts) = refl

-- A NODE THAT IS NOT ASKED FOR AGAIN

abbrev NotLast : ℕ → Known → Part → Type 0
NotLast n s (Enumerator x value) = n ≡ last_node s → ⊥
NotLast n s (Declarator steps) = Unit {0}
NotLast n s (Object type steps last role) = Unit {0}
NotLast n s (Value o) = Unit {0}
NotLast n s (Members members) = Unit {0}
NotLast n s (Parameter type) = Unit {0}
NotLast n s (NamedType type) = Unit {0}
NotLast n s (Braced count) = Unit {0}
NotLast n s (Filled next) = Unit {0}
NotLast n s (CaseLabel word) = Unit {0}
NotLast n s DefaultLabel = Unit {0}
NotLast n s Statement = Unit {0}

not_last_of : (n : ℕ) (s : Known) (part : Part) → (n ≡ last_node s → ⊥) → NotLast n s part
not_last_of n s (Enumerator x value) h = h
not_last_of n s _ h = tt

name_apart : (n : ℕ) (steps : List Step) (m : NameNode) → PartIsApart (Only n) (Declarator steps) → name_of steps ≡ Some m → n ≡ m.number → ⊥
name_apart n [] m h e = cc
name_apart n (step ∷ steps) m h e = subst (λ i. n ≡ i → ⊥) (sym (name_number step.number step.shape steps m e)) h.0

clear_from : (n : ℕ) (s : Known) (part : Part) → PartIsApart (Only n) part → NotLast n s part → IsClear n s part
clear_from n s (Declarator steps) h g = λ m e. name_apart n steps m h e
clear_from n s (Enumerator x value) h g = g
clear_from n s _ h g = tt

declaration_part : (k : Kind) → is_declaration k ≡ true → (f : Frame) (parts : List Part) (s : Known) (r : Part × Known) → judged k f parts s ≡ Ok r → Statement ≡ r.0
declaration_part (kind.Declaration spec inits) d f parts s r e = ap (λ x. x.0) (unless_of (broken_rules (next_node s) _) (Statement, _) r e)
declaration_part _ d f parts s r e = cc

-- THE LABEL of a node

name_among : (P : ℕ → Type 0) (x : List ℕ) (o : Option Declared) (s : Known) (r : Part × Known) (meant : Option Meant) → length s.means ≡ length s.types
    → ((d : Declared) → o ≡ Some d → IsAmong P d.means) → judged_name x o s ≡ Ok r
    → (PartIsApart (Only (length s.types)) r.0 → NotLast (length s.types) r.1 r.0 → meant ≡ slice_get r.1.means (length s.types))
    → IsAmong P (unwrap_or meant Nothing)
name_among P x None s r meant even i e agree = cc
name_among P x (Some d) s r meant even i e agree =
    let z = unless_of (broken_rules (next_node s) (breaks_if (not (is_usable s.bodies d)) (Undeclared x))) (_, with_node d.type d.means s) r e in
    let part = ap (λ y. y.0) z in
    let last : slice_get (s.means ++ d.means ∷ []) (length s.types) ≡ Some d.means =
    subst (λ n. slice_get (s.means ++ d.means ∷ []) n ≡ Some d.means) even (get_last s.means d.means) in
    let there : meant ≡ Some d.means =
    agree (subst (λ p. PartIsApart (Only (length s.types)) p) part tt) (subst (λ p. NotLast (length s.types) r.1 p) part tt)
    ∙ ap (λ y. slice_get y.1.means (length s.types)) (sym z) ∙ last in
    subst (λ m. IsAmong P (unwrap_or m Nothing)) (sym there) (i d refl)

node_among : (P : ℕ → Type 0) (final : Typing) (k : Kind) (f : Frame) (parts : List Part) (s : Known) (r : Part × Known) (at : ℕ) → length s.means ≡ length s.types
    → Scope P s → judged k f parts s ≡ Ok r → AllIn P (text_at k (label_of final.types final.means (length s.types) at))
    → (PartIsApart (Only (length s.types)) r.0 → NotLast (length s.types) r.1 r.0 → slice_get final.means (length s.types) ≡ slice_get r.1.means (length s.types))
    → NodeIsAmong P k (meant_in final.means (length s.types))
node_among P final (kind.Name x) f parts s r at even v e own agree =
    name_among P x (in_levels x s.names) s r (slice_get final.means (length s.types)) even (λ d i. in_levels_are (InScope P) x s.names d v i) e agree
node_among P final (kind.Text texts) f parts s r at even v e own agree =
    text_among P texts (length s.types) at _ (meant_in final.means (length s.types)) own
node_among P final k f parts s r at even v e own agree = tt

-- a declarator in a declaration
own_among : (P : ℕ → Type 0) (b : Bool) (tags : Tags) (value : Option Typed) (label : Option Label) (number token : ℕ) (types : List TypeTree) (means : List Meant)
    → b ≡ true → label ≡ Some (label_of types means number token) → AllIn P (if b then static_at tags value label else []) → IsAmong P (meant_in means number)
own_among P true tags value label number token types means b e h =
    static_among P tags value number token _ (meant_in means number) (subst (λ o. AllIn P (static_at tags value o)) e h)
own_among P false tags value label number token types means b e h = cc

both_true : (a b : Bool) → a ≡ true → b ≡ true → (a && b) ≡ true
both_true true b e h = h
both_true false b e h = cc

scoped_append : (n : ℕ) (before : List Part) (part : Part) → PartsAreApart (Only n) before → PartIsApart (Only n) part → PartsAreApart (Only n) (before ++ part ∷ [])
scoped_append n before part h g = holding.parts_append (Only n) before part h g

-- THE RECURSION

record TreeFound (P : ℕ → Type 0) (final : Typing) (t : Syntax) (s : Known) (r : Part × Known) : Type 0 where
  scope : Scope P r.1
  part_is : PartIs (InScope P) Never r.0
  among : StaticsAreAmong P (typed final.types final.means (length s.types) t)

record RowFound (P : ℕ → Type 0) (final : Typing) (ts : SyntaxRow) (s : Known) (r : List Part × Known) : Type 0 where
  scope : Scope P r.1
  parts_are : PartsAre (InScope P) Any r.0
  among : RowIsAmong P (typed_row final.types final.means (length s.types) ts)

mutual
  tree_found : (P : ℕ → Type 0) (final : Typing) (kinds : List Kind) (t : Syntax) (c : Context) (s : Known) → AreKnown kinds s → Scope P s → (r : Part × Known)
      → judge t c s ≡ Ok r
      → ((n : ℕ) → length s.types ≤ n → n < length r.1.types → PartIsApart (Only n) r.0 → NotLast n r.1 r.0 → slice_get final.means n ≡ slice_get r.1.means n)
      → AllIn P (local_objects final.tags (typed final.types final.means (length s.types) t)) → TreeFound P final t s r
  tree_found P final kinds (node k at parts) c s h v r e agree own =
      let x = tree_node k at parts c s r e in
      let a = opened_alike k c s in
      let q = (opened k c s).1 in
      let f = (opened k c s).0 in
      let known = alike_known kinds s q a h in
      let same : length q.types ≡ length s.types = ap length a.types in
      let p = row_stays kinds k f [] parts q known tt x.0 x.1 in
      let inner = p.known in
      let even : length x.0.1.means ≡ length x.0.1.types = inner.means ∙ sym inner.types in
      let all = judged_held Nowhere x.0.1 (λ i. i) k f x.0.0 (parts_nowhere x.0.0) r x.2 in
      let count = all.holds in
      let held = parts_held Nowhere k f [] parts q (λ i lo hi j. j) tt x.0 x.1 in
      let inside = held.holds in
      let upto : length x.0.1.types ≡ length s.types + nodes_of_row parts = inside.count ∙ ap (λ i. i + nodes_of_row parts) same in
      let plain = judged_plainly k f x.0.0 x.0.1 r x.2 in
      let objects = local_objects_in final.tags (is_declaration k) (typed_row final.types final.means (length s.types) parts) in
      let label = label_of final.types final.means (length s.types + nodes_of_row parts) at in
      let row = row_found P final kinds k f [] parts q known tt (opened_are (InScope P) (opens_level k) s q v (opened_names k c s)) tt (λ n le. tt) x.0 x.1
      (λ n lo hi apart.
      let j = judged_held (Only n) x.0.1 (never_last n (length x.0.1.types) hi) k f x.0.0 apart r x.2 in
      agree n (at_or_above (length q.types) (length s.types) n same lo) (within n (length x.0.1.types) (length r.1.types) 1 hi count.count) j.apart
      (not_last_of n r.1 r.0 (before_last n (length x.0.1.types) (length r.1.types) hi count.count))
      ∙ plain.means n (same_bound n (length x.0.1.types) (length x.0.1.means) (sym even) hi))
      (λ d n lo hi.
      agree n (at_or_above (length q.types) (length s.types) n same lo) (within n (length x.0.1.types) (length r.1.types) 1 hi count.count)
      (subst (λ y. PartIsApart (Only n) y) (declaration_part k d f x.0.0 x.0.1 r x.2) tt)
      (not_last_of n r.1 r.0 (before_last n (length x.0.1.types) (length r.1.types) hi count.count))
      ∙ plain.means n (same_bound n (length x.0.1.types) (length x.0.1.means) (sym even) hi))
      (subst (λ i. AllIn P (local_objects_in final.tags (is_declaration k) (typed_row final.types final.means i parts))) (sym same)
      (all_left P objects (text_at k label) own)) in
      let l = judged_leaves (InScope P) x.0.1 Any k f x.0.0 row.scope row.parts_are r x.2 in
      record {
        scope = left_are (InScope P) (closes_level k) x.0.1 r.1 row.scope l.0;
        part_is = l.1;
        among = (
          subst (λ i. NodeIsAmong P k (meant_in final.means i)) upto
              (node_among P final k f x.0.0 x.0.1 r at even row.scope x.2
              (subst (λ i. AllIn P (text_at k (label_of final.types final.means i at))) (sym upto) (all_right P objects (text_at k label) own))
              (λ apart last. agree (length x.0.1.types) (last_above (length s.types) (length x.0.1.types) (nodes_of_row parts) upto)
              (last_within (length x.0.1.types) (length r.1.types) count.count) apart last)),
          subst (λ i. RowIsAmong P (typed_row final.types final.means i parts)) same row.among,
        );
      }

  row_found : (P : ℕ → Type 0) (final : Typing) (kinds : List Kind) (k : Kind) (f : Frame) (before : List Part) (ts : SyntaxRow) (s : Known) → AreKnown kinds s
      → AllHaveOpen kinds before → Scope P s → PartsAre (InScope P) Any before → ((n : ℕ) → length s.types ≤ n → PartsAreApart (Only n) before)
      → (r : List Part × Known) → judge_parts k f before ts s ≡ Ok r
      → ((n : ℕ) → length s.types ≤ n → n < length r.1.types → PartsAreApart (Only n) r.0 → slice_get final.means n ≡ slice_get r.1.means n)
      → (is_declaration k ≡ true → (n : ℕ) → length s.types ≤ n → n < length r.1.types → slice_get final.means n ≡ slice_get r.1.means n)
      → AllIn P (local_objects_in final.tags (is_declaration k) (typed_row final.types final.means (length s.types) ts)) → RowFound P final ts s r
  row_found P final kinds k f before none s h b v w under r e agree full own =
      let z : (before, s) ≡ r = cc in subst (λ x. RowFound P final none s x) z (record { scope = v; parts_are = w; among = tt })
  row_found P final kinds k f before (more t ts) s h b v w under r e agree full own =
      let x = then_of (judge t (context k f before (kind_at t) s) s) _ r e in
      let y = then_of (behind k f before x.0.0 ts x.0.1) _ r x.2 in
      let later = kinds_after kinds t in
      let p = part_stays kinds k f before t ts s b x.0 (tree_stays kinds t (context k f before (kind_at t) s) s h x.0 x.1) y.0 y.1 in
      let tree = judge_held Nowhere t (context k f before (kind_at t) s) s (λ i lo hi q. q) x.0 x.1 in
      let part = behind_held Nowhere x.0.1 k f before x.0.0 ts (parts_nowhere before) (part_nowhere x.0.0) y.0 y.1 in
      let rest = parts_held Nowhere k f (before ++ y.0.0 ∷ []) ts y.0.1 (λ i lo hi q. q) (parts_nowhere (before ++ y.0.0 ∷ [])) r y.2 in
      let one = tree.holds in
      let two = part.holds in
      let three = rest.holds in
      let even : length s.means ≡ length s.types = h.means ∙ sym h.types in
      let steady = tree_steady t (context k f before (kind_at t) s) s x.0 even x.1 in
      let upto : length y.0.1.types ≡ length s.types + nodes_of t = no_more (length x.0.1.types) (length y.0.1.types) two.count ∙ one.count in
      let node = typed final.types final.means (length s.types) t in
      let others = typed_row final.types final.means (length s.types + nodes_of t) ts in
      let item = if is_declaration k && is_declarator (kind_of_node node) then static_at final.tags (initialiser others) (name_label node) else [] in
      let inner = all_right P item (local_objects final.tags node ++ local_objects_in final.tags (is_declaration k) others) own in
      let first = tree_found P final kinds t (context k f before (kind_at t) s) s h v x.0 x.1
      (λ n lo hi apart last.
      let i = within n (length x.0.1.types) (length y.0.1.types) 0 hi two.count in
      let m = behind_held (Only n) x.0.1 k f before x.0.0 ts (under n lo) apart y.0 y.1 in
      let o = parts_held (Only n) k f (before ++ y.0.0 ∷ []) ts y.0.1 (fresh_below n (length y.0.1.types) (nodes_of_row ts) i)
      (scoped_append n before y.0.0 (under n lo) m.apart) r y.2 in
      agree n lo (within n (length y.0.1.types) (length r.1.types) (nodes_of_row ts) i three.count) o.apart
      ∙ row_keeps n later k f (before ++ y.0.0 ∷ []) ts y.0.1 r p.known p.opens i y.2
      ∙ behind_keeps n x.0.1 k f before x.0.0 ts (clear_from n x.0.1 x.0.0 apart last) y.0 y.1)
      (all_left P (local_objects final.tags node) (local_objects_in final.tags (is_declaration k) others) inner) in
      let second = behind_scope P x.0.1 first.scope k f before x.0.0 ts first.part_is y.0 y.1
      (λ steps q d n i.
      let a = tree_name t (context k f before (kind_at t) s) s x.0 even x.1 steps q n i in
      let suits = tree_suits t (context k f before (kind_at t) s) s x.0 x.1 in
      let hi = within n.number (length x.0.1.types) (length y.0.1.types) 0 a.within two.count in
      let declarator : is_declarator (kind_of_node node) ≡ true =
      ap is_declarator (kind_typed final.types final.means (length s.types) t) ∙ subst (λ z. Suits (kind_at t) z) q suits in
      let there : slice_get final.means n.number ≡ slice_get y.0.1.means n.number =
      full d n.number a.from (within n.number (length y.0.1.types) (length r.1.types) (nodes_of_row ts) hi three.count)
      ∙ row_keeps n.number later k f (before ++ y.0.0 ∷ []) ts y.0.1 r p.known p.opens hi y.2 in (
        same_bound n.number (length x.0.1.types) (length x.0.1.means) (sym steady.even) a.within,
        subst (λ o. IsAmong P (unwrap_or o Nothing)) there
            (own_among P (is_declaration k && is_declarator (kind_of_node node)) final.tags (initialiser others) (name_label node) n.number a.token
            final.types final.means (both_true (is_declaration k) (is_declarator (kind_of_node node)) d declarator) (a.label final.types final.means)
            (all_left P item (local_objects final.tags node ++ local_objects_in final.tags (is_declaration k) others) own)),
      )) in
      let more_found = row_found P final later k f (before ++ y.0.0 ∷ []) ts y.0.1 p.known p.opens second.0
      (scoped.parts_append (InScope P) Any before y.0.0 w second.1)
      (λ n lo.
      let low = from_later (length s.types) (length y.0.1.types) n (nodes_of t) upto lo in
      let i = judge_held (Only n) t (context k f before (kind_at t) s) s
      (fresh_above n (length s.types) (nodes_of t) (end_below (length s.types) (length y.0.1.types) n (nodes_of t) upto lo)) x.0 x.1 in
      let m = behind_held (Only n) x.0.1 k f before x.0.0 ts (under n low) i.apart y.0 y.1 in
      scoped_append n before y.0.0 (under n low) m.apart)
      r y.2
      (λ n lo hi apart. agree n (from_later (length s.types) (length y.0.1.types) n (nodes_of t) upto lo) hi apart)
      (λ d n lo hi. full d n (from_later (length s.types) (length y.0.1.types) n (nodes_of t) upto lo) hi)
      (subst (λ i. AllIn P (local_objects_in final.tags (is_declaration k) (typed_row final.types final.means i ts))) (sym upto)
      (all_right P (local_objects final.tags node) (local_objects_in final.tags (is_declaration k) others) inner)) in
      record {
        scope = more_found.scope;
        parts_are = more_found.parts_are;
        among = (first.among, subst (λ i. RowIsAmong P (typed_row final.types final.means i ts)) upto more_found.among);
      }

-- FILES

items_keep : (n : ℕ) (kinds : List Kind) (items : SyntaxRow) (s r : Known) → AreKnown kinds s → n < length s.types → judge_items items s ≡ Ok r
    → slice_get r.means n ≡ slice_get s.means n
items_keep n kinds none s r h i e = let z : s ≡ r = cc in ap (λ x. slice_get x.means n) (sym z)
items_keep n kinds (more t ts) s r h i e =
    let x = then_of (judge t file_context s) _ r e in
    let w = tree_steady t file_context s x.0 (h.means ∙ sym h.types) x.1 in
    let p = tree_stays kinds t file_context s h x.0 x.1 in
    items_keep n (kinds_after kinds t) ts x.0.1 r p.known (within n (length s.types) (length x.0.1.types) (nodes_of t) i w.count) x.2 ∙ w.means n i

items_count : (kinds : List Kind) (items : SyntaxRow) (s r : Known) → AreKnown kinds s → judge_items items s ≡ Ok r → length s.types ≤ length r.types
items_count kinds none s r h e = let z : s ≡ r = cc in subst (λ x. length s.types ≤ length x.types) z (omega arith)
items_count kinds (more t ts) s r h e =
    let x = then_of (judge t file_context s) _ r e in
    let w = tree_steady t file_context s x.0 (h.means ∙ sym h.types) x.1 in
    let p = tree_stays kinds t file_context s h x.0 x.1 in
    grown (length s.types) (length x.0.1.types) (length r.types) (nodes_of t) w.count (items_count (kinds_after kinds t) ts x.0.1 r p.known x.2)
  where
    grown : (a b c m : ℕ) → b ≡ a + m → b ≤ c → a ≤ c
    grown a b c m e h = omega (arith, e, h)

below : (n a b : ℕ) → n < a → a ≤ b → n < b
below n a b h g = omega (arith, h, g)

items_found : (P : ℕ → Type 0) (final : Typing) (kinds : List Kind) (items : SyntaxRow) (s : Known) → AreKnown kinds s → Scope P s → (r : Known)
    → judge_items items s ≡ Ok r → ((n : ℕ) → length s.types ≤ n → n < length r.types → slice_get final.means n ≡ slice_get r.means n)
    → AllIn P (local_objects_in final.tags false (typed_row final.types final.means (length s.types) items))
    → RowIsAmong P (typed_row final.types final.means (length s.types) items)
items_found P final kinds none s h v r e agree own = tt
items_found P final kinds (more t ts) s h v r e agree own =
    let x = then_of (judge t file_context s) _ r e in
    let w = tree_steady t file_context s x.0 (h.means ∙ sym h.types) x.1 in
    let p = tree_stays kinds t file_context s h x.0 x.1 in
    let node = typed final.types final.means (length s.types) t in
    let others = typed_row final.types final.means (length s.types + nodes_of t) ts in
    let first = tree_found P final kinds t file_context s h v x.0 x.1
    (λ n lo hi apart last.
    agree n lo (below n (length x.0.1.types) (length r.types) hi (items_count (kinds_after kinds t) ts x.0.1 r p.known x.2))
    ∙ items_keep n (kinds_after kinds t) ts x.0.1 r p.known hi x.2)
    (all_left P (local_objects final.tags node) (local_objects_in final.tags false others) own) in
    let more_found = items_found P final (kinds_after kinds t) ts x.0.1 p.known first.scope r x.2
    (λ n lo hi. agree n (from_later (length s.types) (length x.0.1.types) n (nodes_of t) w.count lo) hi)
    (subst (λ i. AllIn P (local_objects_in final.tags false (typed_row final.types final.means i ts))) (sym w.count)
    (all_right P (local_objects final.tags node) (local_objects_in final.tags false others) own)) in
    (first.among, subst (λ i. RowIsAmong P (typed_row final.types final.means i ts)) w.count more_found)

-- what holds of the numbers of all local objects holds of what texts and names stand for
pub file_found : (P : ℕ → Type 0) (items : SyntaxRow) (marks : List (List ℕ)) (t : Typing) → typed_file items marks ≡ Ok t
    → AllIn P (local_objects_in t.tags false (typed_row t.types t.means 0 items)) → RowIsAmong P (typed_row t.types t.means 0 items)
file_found P items marks t e =
    let x = then_of (judge_items items (known_first (names_with_bodies items))) _ t e in
    let first : AreKnown [] (known_first (names_with_bodies items)) = record { types = refl; means = refl } in
    let z : typing_of marks x.0 ≡ t = cc in
    subst (λ u. AllIn P (local_objects_in u.tags false (typed_row u.types u.means 0 items)) → RowIsAmong P (typed_row u.types u.means 0 items)) z
    (λ own. items_found P (typing_of marks x.0) [] items (known_first (names_with_bodies items)) first ((tt, (tt, (tt, tt))), tt) x.0 x.1 (λ n lo hi. refl) own)

-- SYMBOLS: those of local objects come last

passing_found : (passes : Symbol → Bool) (i : ℕ) (xs : List Symbol) (y : Symbol) (ys : List Symbol) → passes y ≡ true
    → is_found (number_from i passes (xs ++ y ∷ ys)) ≡ true
passing_found passes i [] y ys h = by (passes y) h
  where
    by : (b : Bool) → b ≡ true → is_found (if b then Some i else number_from (suc i) passes ys) ≡ true
    by true e = refl
    by false e = cc
passing_found passes i (x ∷ xs) y ys h = by (passes x) (passing_found passes (suc i) xs y ys h)
  where
    by : (b : Bool) → is_found (number_from (suc i) passes (xs ++ y ∷ ys)) ≡ true
        → is_found (if b then Some i else number_from (suc i) passes (xs ++ y ∷ ys)) ≡ true
    by true g = refl
    by false g = g

locals_found : (xs : List Symbol) (os : List LocalObject)
    → AllIn (λ number. is_found (static_symbol (xs ++ map local_symbol os) number) ≡ true) os
locals_found xs [] = tt
locals_found xs (o ∷ os) = (
  passing_found (is_static_symbol o.number) 0 xs (local_symbol o) (map local_symbol os) (eq-eqb o.number o.number refl),
  subst (λ ys. AllIn (λ number. is_found (static_symbol ys number) ≡ true) os) (append_assoc xs (local_symbol o ∷ []) (map local_symbol os))
      (locals_found (xs ++ local_symbol o ∷ []) os),
)

pub typed_statics_are_found : TypedStaticsAreFound
typed_statics_are_found m e =
    let source = source_of m in
    file_found (λ number. is_found (static_symbol (symbols source) number) ≡ true) (row_of m.tree.items) m.tree.marks (typing_in m) e
    (locals_found (filter is_symbol (map (symbol_of source) (symbol_names source))) (local_objects_in source.tags false source.items))
