-- Enumeration constants in scope have integer types, and so have the names that stand for them.
use Rattle.std.proofs.Common.{◌≡◌, ℕ, zero, suc, ◌==◌, Bool, true, false, not, ◌&&◌, if◌then◌else◌, List, [], ◌∷◌, ◌++◌, length, slice_set, Option, Some, None, Result, Ok, refl, sym, ap, subst, ◌∙◌, eq-eqb}
use Rattle.p9_lang.specs.declared.tree.Kind.{Kind}
use Rattle.p9_lang.specs.declared.tree.Kind.TheVariants as kind
use Rattle.p9_lang.specs.declared.tree.Spec.{Spec}
use Rattle.p9_lang.specs.Names.{same_name}
use Rattle.p9_lang.specs.Trees.{node, none, more, Syntax, SyntaxRow}
use Rattle.p9_lang.specs.Types.{TypeTree, Void, Int, Array, Meant, Nothing, Outer, Static, Auto, EnumValue, TypeName, MemberTree}
use Rattle.p9_lang.specs.Conversions.{is_integer}
use Rattle.p9_lang.specs.Rules.{Rule, Undeclared, Broken, unless, and_then, breaks_if}
use Rattle.p9_lang.specs.Constants.{Operand, Constant, NotConstant, Undefined, Null}
use Rattle.p9_lang.specs.Constants as constants
use Rattle.p9_lang.specs.Scopes.{Known, Declared, known_first, newest, with_node, next_node, in_level, in_levels, innermost, around}
use Rattle.p9_lang.specs.Declarators.{Step, is_typedef, is_static, LengthBy, ByNothing, NameNode, name_of, own_list, Declaring, closed, adjusted, is_filled}
use Rattle.p9_lang.specs.Parts.{Role, ParameterOf, Plain, Context, file_context, Part, Value, Declarator, Object, Members, Enumerator, Parameter, NamedType, Braced, Filled, CaseLabel, DefaultLabel, Statement, Frame, Judged, kind_at, members_in, follows, length_by, last_object, object_type, name_in}
use Rattle.p9_lang.specs.Opening.{opened, context}
use Rattle.p9_lang.specs.Entries.{is_index_next}
use Rattle.p9_lang.specs.Declaring.{broken_rules, last_node, behind, declared, declare_object, declare_as, declared_meaning, initialiser_role, declare_member, declare_parameter, declared_parameter, parameter_meaning, parameter_rules, close_type, object_declaring, function_declaring, with_body_open, open_body, parameter_count, enumerated, enumerator_value, constant_meaning, constant_rules, complete_if, with_members, with_length_given, with_given_length, given_length, retyped, initialised}
use Rattle.p9_lang.specs.Typing.{judged_name, judged, judge, judge_parts, judge_items, role_rules, is_usable}
use Rattle.p9_lang.specs.Modules.{label_of, typed, typed_row}
use Rattle.p9_lang.specs.Files.{Typing, typing_of, names_with_bodies}
use Rattle.p9_lang.proofs.Counting.{then_of, unless_of}
use Rattle.p9_lower.proofs.Agreeing.{names_are}
use Rattle.p9_sound.specs.Labels.{AreKnown}
use Rattle.p9_sound.specs.Constants.{NameIsInteger, NamesAreIntegers, AllNamesAreIntegers}
use Rattle.p9_sound.proofs.Numbering.{kinds_after, kinds_after_row, extends_self, extends_last, extends_tree, extends_row}
use Rattle.p9_sound.proofs.Staying.{AllHaveOpen, Stays, still, then_stays, alike_known, judged_adds}
use Rattle.p9_sound.proofs.Closing.{opened_alike}
use Rattle.p9_sound.proofs.Labels.{with_rules_is, tree_stays, row_stays, part_stays}
use Rattle.p9_sound.proofs.Ending.{Later, before_later, length_after, length_after_row, last_type, last_means, meant_in, file_later}
use Rattle.p9_firsts.proofs.Closed.{first_empty}
use Rattle.p9_formed.specs.Functions.{is_function_node, HasNoFunction, HaveNoFunctions, IsFunctionless, FunctionsAreItems}
use Rattle.p9_known.specs.Laws.{ItemsNameIntegers}
use Rattle.p9_known.proofs.Named.{value_of, tree_name}
use Rattle.p9_known.proofs.Scoped.{Any, LevelIs, LevelsAre, Never, ObjectIs, PartIs, PartsAre, StepsAre, around_are, closes_level, in_levels_are, innermost_are, judged_leaves, last_is, left_are, list_is, opened_are, opened_names, opens_level, own_is, parts_append, parts_asked, same_level}

-- NAMES IN SCOPE

abbrev IsInt : TypeTree → Meant → Type 0
IsInt type (EnumValue word) = is_integer type ≡ true
IsInt type Nothing = Unit {0}
IsInt type (Outer name) = Unit {0}
IsInt type (Static number) = Unit {0}
IsInt type (Auto number) = Unit {0}
IsInt type (TypeName other) = Unit {0}

plain_int : (type : TypeTree) (means : Meant) → value_of means ≡ [] → IsInt type means
plain_int type (EnumValue word) h = cc
plain_int type Nothing h = tt
plain_int type (Outer name) h = tt
plain_int type (Static number) h = tt
plain_int type (Auto number) h = tt
plain_int type (TypeName other) h = tt

-- A LEVEL where the newest of a name is no enumeration constant

record Held (x : List ℕ) (level : List Declared) : Type 0 where
  found : Declared
  there : in_level x level ≡ Some found
  plain : value_of found.means ≡ []

held_newest : (x : List ℕ) (d : Declared) (level : List Declared) → Held x level → (same_name x d.name ≡ true → value_of d.means ≡ []) → Held x (d ∷ level)
held_newest x d level h p = by (same_name x d.name) refl
  where
    by : (b : Bool) → same_name x d.name ≡ b → Held x (d ∷ level)
    by true e = record { found = d; there = ap (λ c. if c then Some d else in_level x level) e; plain = p e }
    by false e = record { found = h.found; there = ap (λ c. if c then Some d else in_level x level) e ∙ h.there; plain = h.plain }

held_retyped : (y x : List ℕ) (type : TypeTree) (ds : List Declared) → Held y ds → Held y (retyped x type ds)
held_retyped y x type [] h = let k : None ≡ Some h.found = h.there in cc
held_retyped y x type (d ∷ ds) h =
    by (same_name x d.name) (same_name y d.name) refl
    (ap (λ c. if c then Some d else in_level y ds) refl ∙ h.there) (λ g. held_retyped y x type ds g)
  where
    by : (b c : Bool) → same_name y d.name ≡ c → (if c then Some d else in_level y ds) ≡ Some h.found → (Held y ds → Held y (retyped x type ds))
        → Held y (if b then record d { type = type } ∷ ds else d ∷ retyped x type ds)
    by true true e k next =
        let z : d ≡ h.found = cc in
        record {
          found = record d { type = type };
          there = ap (λ c. if c then Some (record d { type = type }) else in_level y ds) e;
          plain = ap (λ w. value_of w.means) z ∙ h.plain;
        }
    by true false e k next =
        record { found = h.found; there = ap (λ c. if c then Some (record d { type = type }) else in_level y ds) e ∙ k; plain = h.plain }
    by false true e k next =
        let z : d ≡ h.found = cc in
        record { found = d; there = ap (λ c. if c then Some d else in_level y (retyped x type ds)) e; plain = ap (λ w. value_of w.means) z ∙ h.plain }
    by false false e k next =
        let g = next (record { found = h.found; there = k; plain = h.plain }) in
        record { found = g.found; there = ap (λ c. if c then Some d else in_level y (retyped x type ds)) e ∙ g.there; plain = g.plain }

level_retyped : (x : List ℕ) (type : TypeTree) (ds : List Declared) → LevelIs IsInt ds → Held x ds → LevelIs IsInt (retyped x type ds)
level_retyped x type [] h p = tt
level_retyped x type (d ∷ ds) h p = by (same_name x d.name) p.there (λ g. level_retyped x type ds h.1 g)
  where
    by : (b : Bool) → (if b then Some d else in_level x ds) ≡ Some p.found → (Held x ds → LevelIs IsInt (retyped x type ds))
        → LevelIs IsInt (if b then record d { type = type } ∷ ds else d ∷ retyped x type ds)
    by true k next = let z : d ≡ p.found = cc in (plain_int type d.means (ap (λ w. value_of w.means) z ∙ p.plain), h.1)
    by false k next = (h.0, next (record { found = p.found; there = k; plain = p.plain }))

-- levels around stay, and the newest of a name is no enumeration constant later on
record KeepsLevel (s q : Known) : Type 0 where
  outside : around q.names ≡ around s.names
  held : (x : List ℕ) → Held x (innermost s.names) → Held x (innermost q.names)

same_keeps : (s q : Known) → q.names ≡ s.names → KeepsLevel s q
same_keeps s q e = record { outside = ap around e; held = λ x h. subst (λ levels. Held x (innermost levels)) (sym e) h }

then_keeps : (s r q : Known) → KeepsLevel s r → KeepsLevel r q → KeepsLevel s q
then_keeps s r q a b = record { outside = b.outside ∙ a.outside; held = λ x h. b.held x (a.held x h) }

record Settles (k : Kind) (s q : Known) : Type 0 where
  int : LevelsAre IsInt q.names
  keeps : is_function_node k ≡ false → KeepsLevel s q

same_settles : (k : Kind) (s q : Known) → LevelsAre IsInt s.names → q.names ≡ s.names → Settles k s q
same_settles k s q v e = record { int = subst (λ levels. LevelsAre IsInt levels) (sym e) v; keeps = λ f. same_keeps s q e }

then_settles : (k : Kind) (s r q : Known) → Settles k s r → Settles k r q → Settles k s q
then_settles k s r q a b = record { int = b.int; keeps = λ f. then_keeps s r q (a.keeps f) (b.keeps f) }

newest_settles : (k : Kind) (s q : Known) (d : Declared) → LevelsAre IsInt s.names → q.names ≡ (d ∷ innermost s.names) ∷ around s.names → IsInt d.type d.means
    → ((x : List ℕ) → Held x (innermost s.names) → same_name x d.name ≡ true → value_of d.means ≡ []) → Settles k s q
newest_settles k s q d v e i p = record {
  int = subst (λ levels. LevelsAre IsInt levels) (sym e) ((i, innermost_are IsInt s.names v), around_are IsInt s.names v);
  keeps = λ f. record {
    outside = ap around e;
    held = λ x h. subst (λ levels. Held x (innermost levels)) (sym e) (held_newest x d (innermost s.names) h (p x h));
  };
}

-- PARTS

-- a declaration asks that the name of its object is held
abbrev Asked : Kind → Known → List Step → Type 0
Asked (kind.Declaration spec inits) s steps = Held (name_in (name_of steps)) (innermost s.names)
Asked k s steps = Unit {0}

asked_held : (k : Kind) (s : Known) (steps : List Step) → Held (name_in (name_of steps)) (innermost s.names) → Asked k s steps
asked_held (kind.Declaration spec inits) s steps h = h
asked_held k s steps h = tt

asked_kept : (k : Kind) (s q : Known) → (is_function_node k ≡ false → KeepsLevel s q) → (steps : List Step) → Asked k s steps → Asked k q steps
asked_kept (kind.Declaration spec inits) s q g steps h = let a = g refl in a.held (name_in (name_of steps)) h
asked_kept k s q g steps h = tt

-- WHAT PARTS MEAN

abbrev Meaning : Kind → Known → Judged → Type 0
Meaning k s m = (r : Part × Known) → m ≡ Ok r → Settles k s r.1 × PartIs IsInt (Asked k r.1) r.0

ok_meaning : (k : Kind) (s q : Known) (part : Part) → Settles k s q → PartIs IsInt (Asked k q) part → Meaning k s (Ok (part, q))
ok_meaning k s q part h f r e = let z : (part, q) ≡ r = cc in subst (λ x. Settles k s x.1 × PartIs IsInt (Asked k x.1) x.0) z (h, f)

if_meaning : (k : Kind) (s : Known) (c : Bool) (x y : Judged) → Meaning k s x → Meaning k s y → Meaning k s (if c then x else y)
if_meaning k s true x y h g = h
if_meaning k s false x y h g = g

unless_meaning : (k : Kind) (s q : Known) (broken : List Broken) (part : Part) → Settles k s q → PartIs IsInt (Asked k q) part → Meaning k s (unless broken (part, q))
unless_meaning k s q broken part h f r e = ok_meaning k s q part h f r (ap (λ x. Ok x) (unless_of broken (part, q) r e))

no_rules : {A : Type 0} (number : ℕ) (rules : List Rule) (x y : A) → unless (broken_rules number rules) x ≡ Ok y → rules ≡ []
no_rules number [] x y e = refl
no_rules number (r ∷ rs) x y e = cc

same_self : (x : List ℕ) → same_name x x ≡ true
same_self [] = refl
same_self (x ∷ xs) = by (x == x) (eq-eqb x x refl) (same_self xs)
  where
    by : (b : Bool) → b ≡ true → same_name xs xs ≡ true → (b && same_name xs xs) ≡ true
    by true e h = h
    by false e h = cc

-- the name of a declarator stands for no enumeration constant yet
abbrev WaitsIn : Known → List Step → Type 0
WaitsIn s steps = (n : NameNode) → name_of steps ≡ Some n → value_of (meant_in s.means n.number) ≡ []

if_plain : (c : Bool) (x y : Meant) → value_of x ≡ [] → value_of y ≡ [] → value_of (if c then x else y) ≡ []
if_plain true x y h g = h
if_plain false x y h g = g

module _ (s : Known) (v : LevelsAre IsInt s.names) where
  meaning_plain : (d : Declaring) (n : NameNode) (type : TypeTree) (types : List TypeTree) → value_of (meant_in s.means n.number) ≡ []
      → value_of (declared_meaning d n type (record s { types = types })) ≡ []
  meaning_plain d n type types h =
      if_plain (is_typedef d.storage) (TypeName type) _ refl
      (if_plain d.is_at_file (Outer n.name) _ refl (if_plain (is_static d.storage) (meant_in s.means n.number) (Auto s.autos) h refl))

  object_meaning : (k : Kind) (d : Declaring) (by : LengthBy) (base : TypeTree) (steps : List Step) (name : Option NameNode) → name_of steps ≡ name
      → WaitsIn s steps → Meaning k s (declare_object d by base steps name s)
  object_meaning k d by base steps None w h r e = cc
  object_meaning k d by base steps (Some n) w h r e =
      let made = then_of _ (λ made. Ok (
        Object made.0 steps (last_node s) (initialiser_role d made.0),
        declare_as d n made.0 (record s { types = made.1 }),
      )) r e in
      let q = declare_as d n made.0.0 (record s { types = made.0.1 }) in
      let means = declared_meaning d n made.0.0 (record s { types = made.0.1 }) in
      let plain = meaning_plain d n made.0.0 made.0.1 (h n w) in
      let new : Declared = record { name = n.name; type = made.0.0; means = means; is_static = is_static d.storage; is_filled = is_filled d } in
      ok_meaning k s q (Object made.0.0 steps (last_node s) (initialiser_role d made.0.0))
      (newest_settles k s q new v refl (plain_int made.0.0 means plain) (λ x g c. plain))
      (asked_held k q steps
      (subst (λ o. Held (name_in o) (new ∷ innermost s.names)) (sym w)
      (record { found = new; there = ap (λ c. if c then Some new else in_level n.name (innermost s.names)) (same_self n.name); plain = plain })))
      r made.2

  body_meaning : (steps : List Step) (x : Part × Known) → StepsAre IsInt steps → LevelsAre IsInt x.1.names → PartIs IsInt Any x.0
      → (r : Part × Known) → with_body_open steps x ≡ Ok r → LevelsAre IsInt r.1.names × PartIs IsInt Any r.0
  body_meaning steps x h a g r e =
      let z : (x.0, open_body steps (record x.1 { autos = parameter_count (object_type (Some x.0) Void) })) ≡ r = cc in
      subst (λ y. LevelsAre IsInt y.1.names × PartIs IsInt Any y.0) z ((list_is IsInt (own_list steps) (own_is IsInt steps h), a), g)

  types_settle : (k : Kind) (types : List TypeTree) → Settles k s (record s { types = types })
  types_settle k types = same_settles k s (record s { types = types }) v refl

  member_meaning : (spec : Spec) (f : Frame) (before : List Part) (steps : List Step) (name : Option NameNode)
      → Meaning (kind.Member spec) s (declare_member f before steps name s)
  member_meaning spec f before steps None r e = cc
  member_meaning spec f before steps (Some n) r e =
      let made = then_of _ (λ made. Ok (Object made.0 steps (last_node s) Plain, record s { types = made.1 })) r e in
      ok_meaning (kind.Member spec) s (record s { types = made.0.1 }) _ (types_settle (kind.Member spec) made.0.1) tt r made.2

  parameter_plain : (role : Role) → value_of (parameter_meaning role) ≡ []
  parameter_plain (ParameterOf true number) = refl
  parameter_plain _ = refl

  parameter_means : (spec : Spec) (f : Frame) (steps : List Step) (name : Option NameNode) → Meaning (kind.Param spec) s (declare_parameter f steps name s)
  parameter_means spec f steps None r e =
      let made = then_of _ (λ made. Ok (Object (adjusted made.0) steps (last_node s) Plain, record s { types = made.1 })) r e in
      ok_meaning (kind.Param spec) s (record s { types = made.0.1 }) _ (types_settle (kind.Param spec) made.0.1) tt r made.2
  parameter_means spec f steps (Some n) r e =
      let made = then_of _ (λ made. Ok (Object (adjusted made.0) steps (last_node s) Plain, declared_parameter f n made s)) r e in
      let plain = parameter_plain f.context.role in
      ok_meaning (kind.Param spec) s (declared_parameter f n made.0 s) _
      (newest_settles (kind.Param spec) s (declared_parameter f n made.0 s)
      (record {
        name = n.name;
        type = adjusted made.0.0;
        means = parameter_meaning f.context.role;
        is_static = false;
        is_filled = false;
      })
      v refl (plain_int (adjusted made.0.0) (parameter_meaning f.context.role) plain) (λ x g c. plain))
      tt r made.2

  type_meaning : (spec : Spec) (f : Frame) (steps : List Step) → Meaning (kind.NamedType spec) s (close_type f steps s)
  type_meaning spec f steps r e =
      let made = then_of (closed s.tags ByNothing f.base steps s.types) (λ made. Ok (Object made.0 steps (last_node s) Plain, record s { types = made.1 })) r e in
      ok_meaning (kind.NamedType spec) s (record s { types = made.0.1 }) _ (types_settle (kind.NamedType spec) made.0.1) tt r made.2

  function_meaning : (spec : Spec) (f : Frame) (steps : List Step) → StepsAre IsInt steps → WaitsIn s steps
      → Meaning (kind.Function spec) s (and_then (declare_object (function_declaring f) ByNothing f.base steps (name_of steps) s) (with_body_open steps))
  function_meaning spec f steps h w r e =
      let x = then_of (declare_object (function_declaring f) ByNothing f.base steps (name_of steps) s) (with_body_open steps) r e in
      let g = object_meaning (kind.Function spec) (function_declaring f) ByNothing f.base steps (name_of steps) refl w x.0 x.1 in
      let a = g.0 in
      let b = body_meaning steps x.0 h a.int g.1 r x.2 in
      (record { int = b.0; keeps = λ i. cc }, b.1)

  declared_meaning_of : (k : Kind) (f : Frame) (before : List Part) (steps : List Step) (rest : SyntaxRow) → StepsAre IsInt steps → WaitsIn s steps
      → Meaning k s (declared k f before steps rest s)
  declared_meaning_of (kind.Declaration spec inits) f before steps rest h w =
      object_meaning (kind.Declaration spec inits) (object_declaring f (follows rest) s) (length_by (follows rest)) f.base steps (name_of steps) refl w
  declared_meaning_of (kind.Function spec) f before steps rest h w = function_meaning spec f steps h w
  declared_meaning_of (kind.Member spec) f before steps rest h w = member_meaning spec f before steps (name_of steps)
  declared_meaning_of (kind.Param spec) f before steps rest h w = parameter_means spec f steps (name_of steps)
  declared_meaning_of (kind.NamedType spec) f before steps rest h w = type_meaning spec f steps
  declared_meaning_of k f before steps rest h w = ok_meaning k s s (Declarator steps) (same_settles k s s v refl) h

  constant_int : (c : Constant) → IsInt Int (constant_meaning c)
  constant_int NotConstant = tt
  constant_int Undefined = tt
  constant_int Null = tt
  constant_int (constants.Value word) = refl

  undeclared : (x : List ℕ) (o : Option Declared) → parameter_rules x o ≡ [] → o ≡ None
  undeclared x None e = refl
  undeclared x (Some d) e = cc

  not_held : (x y : List ℕ) (level : List Declared) → in_level x level ≡ None → Held y level → same_name y x ≡ true → ⊥
  not_held x y level e h c =
      let z : None ≡ Some h.found = sym e ∙ (ap (λ n. in_level n level) (sym (names_are y x c)) ∙ h.there) in
      cc

  enumerated_means : (k : Kind) (x : List ℕ) (value : Constant) → Meaning k s (enumerated x value s)
  enumerated_means k x value r e =
      let new : Declared = record { name = x; type = Int; means = constant_meaning value; is_static = false; is_filled = false } in
      let q = record s { means = slice_set s.means (last_node s) (constant_meaning value); names = newest new s.names } in
      let rules = parameter_rules x (in_level x (innermost s.names)) ++ constant_rules value in
      let none = no_rules (last_node s) rules (Enumerator x (Some value), q) r e in
      let free = undeclared x (in_level x (innermost s.names)) (first_empty (parameter_rules x (in_level x (innermost s.names))) (constant_rules value) none) in
      unless_meaning k s q (broken_rules (last_node s) rules) (Enumerator x (Some value))
      (newest_settles k s q new v refl (constant_int value) (λ y g c. absurd (not_held x y (innermost s.names) free g c))) tt r e

  complete_settles : (k : Kind) (is_last : Bool) (tag : Option ℕ) (members : List MemberTree) → Settles k s (complete_if is_last tag members s)
  complete_settles k is_last None members = same_settles k s s v refl
  complete_settles k false (Some number) members = same_settles k s s v refl
  complete_settles k true (Some number) members = same_settles k s _ v refl

  -- a length that is given changes the newest type of a name that is held
  retyped_settles : (k : Kind) (x : List ℕ) (type : TypeTree) (q : Known) → Held x (innermost s.names) → q.names ≡ retyped x type (innermost s.names) ∷ around s.names
      → Settles k s q
  retyped_settles k x type q h e = record {
    int = subst (λ levels. LevelsAre IsInt levels) (sym e) (level_retyped x type (innermost s.names) (innermost_are IsInt s.names v) h, around_are IsInt s.names v);
    keeps = λ f. record {
      outside = ap around e;
      held = λ y g. subst (λ levels. Held y (innermost levels)) (sym e) (held_retyped y x type (innermost s.names) g);
    };
  }

  given_length_settles : (k : Kind) (base : TypeTree) (steps : List Step) (last count : ℕ) (x : List ℕ) (q : Known) → Held x (innermost s.names)
      → with_given_length base steps last count x s ≡ Ok q → Settles k s q
  given_length_settles k base steps last count x q h e =
      let made = then_of _ (λ made. Ok (record s { types = made.1; names = retyped x made.0 (innermost s.names) ∷ around s.names })) q e in
      let m = made.2 in
      let z : record s { types = made.0.1; names = retyped x made.0.0 (innermost s.names) ∷ around s.names } ≡ q = cc in
      retyped_settles k x made.0.0 q h (ap (λ y. y.names) (sym z))

  unchanged_settles : (k : Kind) (q : Known) (m : Result Known Broken) → m ≡ Ok s → m ≡ Ok q → Settles k s q
  unchanged_settles k q m d e = let z : s ≡ q = cc in subst (λ x. Settles k s x) z (same_settles k s s v refl)

  given_settles : (k : Kind) (base : TypeTree) (object : Option Part) (part : Part) (q : Known)
      → ObjectIs IsInt (λ steps. Held (name_in (name_of steps)) (innermost s.names)) object → with_length_given base object part s ≡ Ok q → Settles k s q
  given_settles k base (Some (Object (Array element zero) steps last role)) part q h e =
      given_length_settles k base steps last (given_length part) (name_in (name_of steps)) q h e
  given_settles k base _ part q h e = unchanged_settles k q (Ok s) refl e

  initialised_means : (k : Kind) (f : Frame) (before : List Part) (part : Part) → PartsAre IsInt (Asked k s) before
      → ((q : Known) → PartIs IsInt (Asked k q) part) → Meaning k s (initialised k f before part s)
  initialised_means (kind.Declaration spec inits) f before part h l r e =
      let x = then_of (with_length_given f.base (last_object before) part s) _ r e in
      unless_meaning (kind.Declaration spec inits) s x.0 _ part
      (given_settles (kind.Declaration spec inits) f.base (last_object before) part x.0 (last_is IsInt _ before h) x.1) (l x.0) r x.2
  initialised_means (kind.Entry entry_by equals) f before part h l r e =
      if_meaning (kind.Entry entry_by equals) s (is_index_next entry_by before) _ _
      (ok_meaning (kind.Entry entry_by equals) s s part (same_settles (kind.Entry entry_by equals) s s v refl) (l s))
      (unless_meaning (kind.Entry entry_by equals) s s _ part (same_settles (kind.Entry entry_by equals) s s v refl) (l s)) r e
  initialised_means k f before part h l r e = ok_meaning k s s part (same_settles k s s v refl) (l s) r e

  behind_means : (k : Kind) (f : Frame) (before : List Part) (part : Part) (rest : SyntaxRow) → PartsAre IsInt (Asked k s) before → PartIs IsInt Never part
      → ((steps : List Step) → part ≡ Declarator steps → WaitsIn s steps) → Meaning k s (behind k f before part rest s)
  behind_means k f before (Value o) rest h l w = initialised_means k f before (Value o) h (λ q. tt)
  behind_means k f before (Braced count) rest h l w = initialised_means k f before (Braced count) h (λ q. tt)
  behind_means k f before (Declarator steps) rest h l w = declared_meaning_of k f before steps rest l (w steps refl)
  behind_means k f before (Enumerator x value) rest h l w = enumerated_means k x (enumerator_value before value)
  behind_means k f before (Members members) rest h l w =
      ok_meaning k s (with_members f before (Members members) s) (Members members)
      (complete_settles k (suc (length before) == f.braces) f.tag (members_in (before ++ Members members ∷ []))) tt
  behind_means k f before (CaseLabel word) rest h l w = unless_meaning k s s _ (CaseLabel word) (same_settles k s s v refl) tt
  behind_means k f before DefaultLabel rest h l w = unless_meaning k s s _ DefaultLabel (same_settles k s s v refl) tt
  behind_means k f before (Object type steps last role) rest h l w = absurd l
  behind_means k f before (Parameter type) rest h l w = ok_meaning k s s (Parameter type) (same_settles k s s v refl) tt
  behind_means k f before (NamedType type) rest h l w = ok_meaning k s s (NamedType type) (same_settles k s s v refl) tt
  behind_means k f before (Filled next) rest h l w = ok_meaning k s s (Filled next) (same_settles k s s v refl) tt
  behind_means k f before Statement rest h l w = ok_meaning k s s Statement (same_settles k s s v refl) tt

-- A NAME's label in the end

int_word : (type : TypeTree) (means : Meant) (word : ℕ) → IsInt type means → means ≡ EnumValue word → is_integer type ≡ true
int_word type means word h e = subst (λ m. IsInt type m) e h

label_int : (kinds : List Kind) (x : List ℕ) (o : Option Declared) (s : Known) (r : Part × Known) (t : Typing) (at : ℕ) → AreKnown kinds s
    → Later (kinds ++ kind.Name x ∷ []) r.1 t → ((d : Declared) → o ≡ Some d → IsInt d.type d.means) → judged_name x o s ≡ Ok r
    → NameIsInteger (kind.Name x) (label_of t.types t.means (length kinds) at)
label_int kinds x None s r t at h l i e = cc
label_int kinds x (Some d) s r t at h l i e =
    let z = unless_of (broken_rules (next_node s) (breaks_if (not (is_usable s.bodies d)) (Undeclared x))) (_, with_node d.type d.means s) r e in
    let known : with_node d.type d.means s ≡ r.1 = ap (λ y. y.1) z in
    let type = last_type kinds (kind.Name x) s r.1 t d.type d.means h refl known l in
    let means = last_means kinds (kind.Name x) s r.1 t d.type d.means h refl known l in
    λ word m.
    subst (λ y. is_integer y ≡ true) (sym type) (int_word d.type d.means word (i d refl) (sym means ∙ m))

node_int : (kinds : List Kind) (k : Kind) (f : Frame) (parts : List Part) (s : Known) (r : Part × Known) (t : Typing) (at : ℕ) → AreKnown kinds s → LevelsAre IsInt s.names
    → Later (kinds ++ k ∷ []) r.1 t → judged k f parts s ≡ Ok r → NameIsInteger k (label_of t.types t.means (length kinds) at)
node_int kinds (kind.Name x) f parts s r t at h v l e =
    label_int kinds x (in_levels x s.names) s r t at h l (λ d i. in_levels_are IsInt x s.names d v i) e
node_int kinds k f parts s r t at h v l e = tt

-- THE RECURSION

record TreeInts (final : Typing) (kinds : List Kind) (t : Syntax) (s : Known) (r : Part × Known) : Type 0 where
  int : LevelsAre IsInt r.1.names
  keeps : is_function_node (kind_at t) ≡ false → KeepsLevel s r.1
  part_is : PartIs IsInt Never r.0
  names : Later (kinds_after kinds t) r.1 final → NamesAreIntegers (typed final.types final.means (length kinds) t)

record RowInts (final : Typing) (kinds : List Kind) (k : Kind) (ts : SyntaxRow) (s : Known) (r : List Part × Known) : Type 0 where
  settles : Settles k s r.1
  parts_are : PartsAre IsInt (Asked k r.1) r.0
  names : Later (kinds_after_row kinds ts) r.1 final → AllNamesAreIntegers (typed_row final.types final.means (length kinds) ts)

functionless : (t : Syntax) → HasNoFunction t → IsFunctionless t
functionless (node k at parts) h = h.1

rootless : (t : Syntax) → HasNoFunction t → is_function_node (kind_at t) ≡ false
rootless (node k at parts) h = h.0

-- the levels of a node that opens one and closes it are those before
node_keeps : (b : Bool) (s q x r : Known) → q.names ≡ (if b then [] ∷ s.names else s.names) → KeepsLevel q x → r.names ≡ (if b then around x.names else x.names)
    → KeepsLevel s r
node_keeps true s q x r o a e = same_keeps s r (e ∙ (a.outside ∙ ap around o))
node_keeps false s q x r o a e = then_keeps s q r (same_keeps s q o) (then_keeps q x r a (same_keeps x r e))

mutual
  tree_ints : (final : Typing) (kinds : List Kind) (t : Syntax) (c : Context) (s : Known) → IsFunctionless t → AreKnown kinds s → LevelsAre IsInt s.names
      → (r : Part × Known) → judge t c s ≡ Ok r → TreeInts final kinds t s r
  tree_ints final kinds (node k at parts) c s n h v r e =
      let z = with_rules_is _ (role_rules c.role k) (and_then (judge_parts k (opened k c s).0 [] parts (opened k c s).1) _) r e in
      let x = then_of (judge_parts k (opened k c s).0 [] parts (opened k c s).1) _ r z in
      let q = (opened k c s).1 in
      let o = opened_names k c s in
      let known = alike_known kinds s q (opened_alike k c s) h in
      let p = row_stays kinds k (opened k c s).0 [] parts q known tt x.0 x.1 in
      let inside = kinds_after_row kinds parts in
      let j = judged_adds inside k (opened k c s).0 x.0.0 x.0.1 p.known p.opens r x.2 in
      let row = row_ints final kinds k (opened k c s).0 [] parts q n known tt (opened_are IsInt (opens_level k) s q v o) tt x.0 x.1 in
      let b = row.settles in
      let a = judged_leaves IsInt x.0.1 (Asked k x.0.1) k (opened k c s).0 x.0.0 b.int row.parts_are r x.2 in
      record {
        int = left_are IsInt (closes_level k) x.0.1 r.1 b.int a.0;
        keeps = λ f. node_keeps (opens_level k) s q x.0.1 r.1 o (b.keeps f)
            (a.0 ∙ ap (λ y. if y then around x.0.1.names else x.0.1.names) (same_level k f));
        part_is = a.1;
        names = λ l.
            let m = before_later inside (inside ++ k ∷ []) x.0.1 r.1 final (extends_last inside k) j.stay l in (
              subst (λ i. NameIsInteger k (label_of final.types final.means i at)) (length_after_row kinds parts)
                  (node_int inside k (opened k c s).0 x.0.0 x.0.1 r final at p.known b.int l x.2),
              row.names m,
            );
      }

  row_ints : (final : Typing) (kinds : List Kind) (k : Kind) (f : Frame) (before : List Part) (ts : SyntaxRow) (s : Known) → HaveNoFunctions ts → AreKnown kinds s
      → AllHaveOpen kinds before → LevelsAre IsInt s.names → PartsAre IsInt (Asked k s) before → (r : List Part × Known) → judge_parts k f before ts s ≡ Ok r
      → RowInts final kinds k ts s r
  row_ints final kinds k f before none s n h b v a r e =
      let z : (before, s) ≡ r = cc in
      subst (λ x. RowInts final kinds k none s x) z (record { settles = same_settles k s s v refl; parts_are = a; names = λ l. tt })
  row_ints final kinds k f before (more t ts) s n h b v a r e =
      let x = then_of (judge t (context k f before (kind_at t) s) s) _ r e in
      let y = then_of (behind k f before x.0.0 ts x.0.1) _ r x.2 in
      let later = kinds_after kinds t in
      let p = part_stays kinds k f before t ts s b x.0 (tree_stays kinds t (context k f before (kind_at t) s) s h x.0 x.1) y.0 y.1 in
      let rest = row_stays later k f (before ++ y.0.0 ∷ []) ts y.0.1 p.known p.opens r y.2 in
      let first = tree_ints final kinds t (context k f before (kind_at t) s) s (functionless t n.0) h v x.0 x.1 in
      let kept = first.keeps (rootless t n.0) in
      let second = behind_means x.0.1 first.int k f before x.0.0 ts
      (parts_asked IsInt (Asked k s) (Asked k x.0.1) (asked_kept k s x.0.1 (λ g. kept)) before a) first.part_is
      (λ steps d m i.
      let w = tree_name t (context k f before (kind_at t) s) s x.0 (h.means ∙ sym h.types) x.1 steps d m i in
      w.waits)
      y.0 y.1 in
      let done = second.0 in
      let held = parts_asked IsInt (Asked k s) (Asked k y.0.1) (asked_kept k s y.0.1 (λ g. then_keeps s x.0.1 y.0.1 kept (done.keeps g))) before a in
      let others = row_ints final later k f (before ++ y.0.0 ∷ []) ts y.0.1 n.1 p.known p.opens done.int
      (parts_append IsInt (Asked k y.0.1) before y.0.0 held second.1) r y.2 in
      record {
        settles = then_settles k s y.0.1 r.1
            (record { int = done.int; keeps = λ g. then_keeps s x.0.1 y.0.1 kept (done.keeps g) })
            others.settles;
        parts_are = others.parts_are;
        names = λ l.
            let m = before_later later (kinds_after_row later ts) y.0.1 r.1 final (extends_row later ts) rest.stay l in
            let i = before_later later later x.0.1 y.0.1 final (extends_self later) p.behind_stay m in (
              first.names i,
              subst (λ i. AllNamesAreIntegers (typed_row final.types final.means i ts)) (length_after kinds t) (others.names l),
            );
      }

-- FILES

record ItemsInts (final : Typing) (kinds : List Kind) (items : SyntaxRow) (s r : Known) : Type 0 where
  stay : Stays kinds s r
  names : Later (kinds_after_row kinds items) r final → AllNamesAreIntegers (typed_row final.types final.means (length kinds) items)

items_int : (final : Typing) (kinds : List Kind) (items : SyntaxRow) (s : Known) → FunctionsAreItems items → AreKnown kinds s → LevelsAre IsInt s.names → (r : Known)
    → judge_items items s ≡ Ok r → ItemsInts final kinds items s r
items_int final kinds none s n h v r e =
    let z : s ≡ r = cc in subst (λ x. ItemsInts final kinds none s x) z (record { stay = still kinds s; names = λ l. tt })
items_int final kinds (more t ts) s n h v r e =
    let x = then_of (judge t file_context s) _ r e in
    let later = kinds_after kinds t in
    let p = tree_stays kinds t file_context s h x.0 x.1 in
    let first = tree_ints final kinds t file_context s n.0 h v x.0 x.1 in
    let others = items_int final later ts x.0.1 n.1 p.known first.int r x.2 in
    record {
      stay = then_stays kinds later s x.0.1 r (extends_tree kinds t) p.stay others.stay;
      names = λ l.
          let m = before_later later (kinds_after_row later ts) x.0.1 r final (extends_row later ts) others.stay l in
          (first.names m, subst (λ i. AllNamesAreIntegers (typed_row final.types final.means i ts)) (length_after kinds t) (others.names l));
    }

first_int : (bodies : List (List ℕ)) → LevelsAre IsInt (known_first bodies).names
first_int bodies = ((tt, (tt, (tt, tt))), tt)

pub items_name_integers : ItemsNameIntegers
items_name_integers items marks t e n =
    let x = then_of (judge_items items (known_first (names_with_bodies items))) _ t e in
    let first : AreKnown [] (known_first (names_with_bodies items)) = record { types = refl; means = refl } in
    let z : typing_of marks x.0 ≡ t = cc in
    let a = items_int (typing_of marks x.0) [] items (known_first (names_with_bodies items)) n first (first_int (names_with_bodies items)) x.0 x.1 in
    subst (λ u. AllNamesAreIntegers (typed_row u.types u.means 0 items)) z (a.names (file_later (kinds_after_row [] items) marks x.0))
