-- The automatics of a statement are numbered in the order of its nodes.
use Rattle.std.proofs.Common.{◌≡◌, ◌≤◌, ◌<◌, ℕ, zero, suc, ◌+◌, ◌-◌, Bool, true, false, not, ◌&&◌, if◌then◌else◌, List, [], ◌∷◌, ◌++◌, length, map, append-nil, slice_get, slice_set, reverse, unwrap_or, Option, Some, None, Result, Ok, Err, refl, sym, ap, subst, ◌∙◌, arith}
use Rattle.std.specs.List.{list_all}
use Rattle.std.proofs.lemmas.List.{length-set, map-append}
use Rattle.p9_lang.specs.declared.tree.Kind.{Kind}
use Rattle.p9_lang.specs.declared.tree.Kind.TheVariants as kind
use Rattle.p9_lang.specs.Trees.{node, none, more, Syntax, SyntaxRow, nodes_of, nodes_of_row}
use Rattle.p9_lang.specs.Types.{TypeTree, Array, Meant, Nothing, Outer, Static, Auto, EnumValue, TypeName, Tags}
use Rattle.p9_lang.specs.Rules.{Rule, Broken, and_then}
use Rattle.p9_lang.specs.Scopes.{Known, next_node, innermost, in_level, around}
use Rattle.p9_lang.specs.Declarators.{LengthBy, ByNothing, Step, NameNode, Declaring, is_typedef, is_static, name_of, naming_rules, closed, closed_from, shaped, broken_at, makes_no_type, with_length}
use Rattle.p9_lang.specs.Parts.{Context, Part, Value, Declarator, Object, Members, Enumerator, Parameter, NamedType, Braced, Filled, CaseLabel, Statement, DefaultLabel, Frame, is_declarator, kind_at, last_object, object_role, name_in, follows, length_by}
use Rattle.p9_lang.specs.Symbols.{kind_of_node, name_label, first_label, initialiser}
use Rattle.p9_lang.specs.Modules.{Label, Typed, TypedRow, label_of, typed, typed_row}
use Rattle.p9_lang.specs.Opening.{opened, context}
use Rattle.p9_lang.specs.Declaring.{broken_rules, behind, last_node, named_with, declare_object, declare_as, declared_meaning, takes_automatic, initialiser_role, object_declaring, initialiser_rules, unless_broken, with_length_given, length_rules, declared_before, given_length, retyped, enumerator_value, with_members}
use Rattle.p9_lang.specs.Typing.{judged, judge, judge_parts, role_rules}
use Rattle.p9_lang.proofs.Counting.{then_of, unless_of}
use Rattle.p9_cmean.specs.Declarations.{Automatic, automatic, automatics_in, declared_by}
use Rattle.p9_sound.specs.Automatics.{declares, HasNone, HaveNone, IsStatement, AreStatements, automatics_within, automatics_of_row, numbers, AreNumbered, AutomaticsAreNumbered}
use Rattle.p9_sound.proofs.Numbering.{get_apart}
use Rattle.p9_sound.proofs.Labels.{with_rules_is}
use Rattle.p9_sound.proofs.Closing.{opened_alike}
use Rattle.p9_sound.proofs.Ending.{meant_in}
use Rattle.p9_sound.proofs.Counts.{is_item, none_item, opened_autos, judged_plainly, Suits, closes, Calm, calm, behind_calm, behind_autos, calm_of, unless_calm, enumerated_calm, members_calm}
use Rattle.p9_sound.proofs.NamesOf.{Steady, tree_steady, some_nodes, none_steady, then_steady, part_steady, row_steady, number_of, NameIn, tree_name}

abbrev declared_kind : Kind → Bool
declared_kind (kind.Declaration spec inits) = true
declared_kind k = false

-- the automatic of one part of a declaration
abbrev item_list : Typed → TypedRow → List Automatic
item_list part others = if is_declarator (kind_of_node part) then automatic (name_label part) (initialiser others) else []

-- NUMBERS one behind the other

numbered_append : (a b c : ℕ) (xs ys : List ℕ) → AreNumbered a xs b → AreNumbered b ys c → AreNumbered a (xs ++ ys) c
numbered_append a b c [] ys h g = subst (λ n. AreNumbered n ys c) (sym h) g
numbered_append a b c (x ∷ xs) ys h g = (h.0, numbered_append (suc a) b c xs ys h.1 g)

lists_numbered : (a b c : ℕ) (xs ys : List Automatic) → AreNumbered a (numbers xs) b → AreNumbered b (numbers ys) c → AreNumbered a (numbers (xs ++ ys)) c
lists_numbered a b c xs ys h g =
    subst (λ ns. AreNumbered a ns c) (sym (map-append (λ x. x.number) xs ys)) (numbered_append a b c (numbers xs) (numbers ys) h g)

-- TREES without declarations

none_declared : (k : Kind) (label : Label) (parts : TypedRow) → declares k ≡ false → declared_by (node k label parts) ≡ []
none_declared (kind.Declaration spec inits) label parts h = cc
none_declared k label parts h = refl

mutual
  none_within : (types : List TypeTree) (means : List Meant) (first : ℕ) (t : Syntax) → HasNone t → automatics_within (typed types means first t) ≡ []
  none_within types means first (node k at parts) h =
      ap (λ xs. xs ++ automatics_of_row (typed_row types means first parts)) (none_declared k _ (typed_row types means first parts) h.0)
      ∙ none_in_row types means first parts h.1

  none_in_row : (types : List TypeTree) (means : List Meant) (first : ℕ) (ts : SyntaxRow) → HaveNone ts → automatics_of_row (typed_row types means first ts) ≡ []
  none_in_row types means first none h = refl
  none_in_row types means first (more t ts) h =
      ap (λ xs. xs ++ automatics_of_row (typed_row types means (first + nodes_of t) ts)) (none_within types means first t h.0)
      ∙ none_in_row types means (first + nodes_of t) ts h.1

mutual
  none_autos : (t : Syntax) (c : Context) (s : Known) (r : Part × Known) → HasNone t → judge t c s ≡ Ok r → r.1.autos ≡ s.autos
  none_autos (node k at parts) c s r h e =
      let z = with_rules_is _ (role_rules c.role k) (and_then (judge_parts k (opened k c s).0 [] parts (opened k c s).1) _) r e in
      let x = then_of (judge_parts k (opened k c s).0 [] parts (opened k c s).1) _ r z in
      let p = judged_plainly k (opened k c s).0 x.0.0 x.0.1 r x.2 in
      p.autos ∙ (row_autos k (opened k c s).0 [] parts (opened k c s).1 x.0 h.0 h.1 x.1 ∙ opened_autos k c s (none_item k h.0))

  row_autos : (k : Kind) (f : Frame) (before : List Part) (ts : SyntaxRow) (s : Known) (r : List Part × Known) → declares k ≡ false → HaveNone ts
      → judge_parts k f before ts s ≡ Ok r → r.1.autos ≡ s.autos
  row_autos k f before none s r d h e = let z : (before, s) ≡ r = cc in ap (λ x. x.1.autos) (sym z)
  row_autos k f before (more t ts) s r d h e =
      let x = then_of (judge t (context k f before (kind_at t) s) s) _ r e in
      let y = then_of (behind k f before x.0.0 ts x.0.1) _ r x.2 in
      row_autos k f (before ++ y.0.0 ∷ []) ts y.0.1 r d h.1 y.2
      ∙ (behind_autos k f before x.0.0 ts x.0.1 y.0 d y.1 ∙ none_autos t (context k f before (kind_at t) s) s x.0 h.0 x.1)

-- ONE OBJECT that is declared

pub closed_count : (tags : Tags) (by : LengthBy) (type : TypeTree) (steps : List Step) (types : List TypeTree) (made : TypeTree × List TypeTree)
    → closed_from tags by type steps types ≡ Ok made → length made.1 ≡ length types
closed_count tags by type [] types made e = let z : (type, types) ≡ made = cc in ap (λ m. length m.1) (sym z)
closed_count tags by type (step ∷ steps) types made e =
    let r = then_of (broken_at step.number (shaped tags by (list_all makes_no_type steps) step.shape type))
    (λ made. closed_from tags by made steps (slice_set types step.number made)) made e in
    closed_count tags by r.0 steps (slice_set types step.number r.0) made r.2 ∙ length-set types step.number r.0

pub named_made : (last : ℕ) (rules : Option TypeTree → List Rule) (m : Result (TypeTree × List TypeTree) Broken) (made : TypeTree × List TypeTree)
    → named_with last rules m ≡ Ok made → m ≡ Ok made
named_made last rules (Ok x) made e = ap (λ y. Ok y) (unless_of (broken_rules last (rules (Some x.0))) x made e)
named_made last rules (Err b) made e = cc

record ObjectIs (d : Declaring) (n : NameNode) (s q : Known) : Type 0 where
  type : TypeTree
  types : List TypeTree
  count : length types ≡ length s.types
  is : q ≡ declare_as d n type (record s { types = types })

object_is : (d : Declaring) (by : LengthBy) (base : TypeTree) (steps : List Step) (n : NameNode) (s : Known) (q : Part × Known)
    → declare_object d by base steps (Some n) s ≡ Ok q → ObjectIs d n s q.1
object_is d by base steps n s q e =
    let made = then_of
    (named_with (last_node s) (naming_rules s.tags d n.name (in_level n.name (innermost s.names))) (closed s.tags by base steps s.types))
    (λ made. Ok (
      Object made.0 steps (last_node s) (initialiser_role d made.0),
      declare_as d n made.0 (record s { types = made.1 }),
    )) q e in
    let m = made.2 in
    let z : (Object made.0.0 steps (last_node s) (initialiser_role d made.0.0), declare_as d n made.0.0 (record s { types = made.0.1 })) ≡ q = cc in
    record {
      type = made.0.0;
      types = made.0.1;
      count = closed_count s.tags by base (reverse steps) s.types made.0
          (named_made (last_node s) (naming_rules s.tags d n.name (in_level n.name (innermost s.names))) (closed s.tags by base steps s.types) made.0 made.1);
      is = ap (λ x. x.1) (sym z);
    }

-- what it means, and the count behind it
meaning_by : (typedef at_file static : Bool) (type : TypeTree) (name : List ℕ) (old : Meant) (autos : ℕ) → number_of old ≡ []
    → AreNumbered autos (number_of (if typedef then TypeName type else (if at_file then Outer name else (if static then old else Auto autos))))
    (if not typedef && (not at_file && not static) then autos + 1 else autos)
meaning_by true at_file static type name old autos h = refl
meaning_by false true static type name old autos h = refl
meaning_by false false true type name old autos h = subst (λ ns. AreNumbered autos ns autos) (sym h) refl
meaning_by false false false type name old autos h = (refl, omega arith)

pub get_set : {A : Type 0} (xs : List A) (n : ℕ) (x : A) → n < length xs → slice_get (slice_set xs n x) n ≡ Some x
get_set [] n x h = absurd (omega (arith, h))
get_set (y ∷ ys) zero x h = refl
get_set (y ∷ ys) (suc n) x h = get_set ys n x (omega (arith, h))

get_other : {A : Type 0} (xs : List A) (n i : ℕ) (x : A) → i < n → slice_get (slice_set xs n x) i ≡ slice_get xs i
get_other xs n i x h = get_apart xs n i x (λ e. absurd (omega (arith, h, e)))

automatic_number : (number token : ℕ) (type : TypeTree) (means : Meant) (initial : Option Typed)
    → numbers (automatic (Some (record { number = number; token = token; type = type; means = means })) initial) ≡ number_of means
automatic_number number token type Nothing initial = refl
automatic_number number token type (Outer name) initial = refl
automatic_number number token type (Static n) initial = refl
automatic_number number token type (Auto n) initial = refl
automatic_number number token type (EnumValue value) initial = refl
automatic_number number token type (TypeName other) initial = refl

-- A DECLARATION's parts

record DeclRow (ts : SyntaxRow) (s : Known) (r : Known) : Type 0 where
  steady : Steady (nodes_of_row ts) s r
  numbered : AreNumbered s.autos (numbers (automatics_in (typed_row r.types r.means (next_node s) ts))) r.autos

pub kind_typed : (types : List TypeTree) (means : List Meant) (first : ℕ) (t : Syntax) → kind_of_node (typed types means first t) ≡ kind_at t
kind_typed types means first (node k at parts) = refl

-- the automatic of one part, by whether it is a declarator
item_numbers : (b : Bool) (part : Typed) (others : TypedRow) (ns : List ℕ) → is_declarator (kind_of_node part) ≡ b
    → (if b then numbers (automatic (name_label part) (initialiser others)) else []) ≡ ns
    → numbers (item_list part others) ≡ ns
item_numbers true part others ns k e = ap (λ c. numbers (if c then automatic (name_label part) (initialiser others) else [])) k ∙ e
item_numbers false part others ns k e = ap (λ c. numbers (if c then automatic (name_label part) (initialiser others) else [])) k ∙ e

record ItemDone (t : Syntax) (s x y : Known) : Type 0 where
  steady : Steady (nodes_of t) s y
  -- whatever comes, if the meanings of these nodes stay
  numbered : (types : List TypeTree) (means : List Meant) (others : TypedRow) → ((n : ℕ) → n < length y.types → slice_get means n ≡ slice_get y.means n)
      → AreNumbered x.autos (numbers (item_list (typed types means (next_node s) t) others)) y.autos

given_calm : (base : TypeTree) (object : Option Part) (part : Part) (s q : Known) → with_length_given base object part s ≡ Ok q → Calm s q
given_calm base (Some (Object (Array element zero) steps last role)) part s q e =
    let made = then_of
    (named_with last (length_rules (name_in (name_of steps)) (declared_before (name_in (name_of steps)) (innermost s.names)))
    (closed s.tags ByNothing base (map (with_length (given_length part)) steps) s.types))
    (λ made. Ok (record s { types = made.1; names = retyped (name_in (name_of steps)) made.0 (innermost s.names) ∷ around s.names })) q e in
    let m = made.2 in
    let z : record s { types = made.0.1; names = retyped (name_in (name_of steps)) made.0.0 (innermost s.names) ∷ around s.names } ≡ q = cc in
    subst (λ y. Calm s y) z
    (record {
      autos = refl;
      types = closed_count s.tags ByNothing base (reverse (map (with_length (given_length part)) steps)) s.types made.0
          (named_made last (length_rules (name_in (name_of steps)) (declared_before (name_in (name_of steps)) (innermost s.names)))
          (closed s.tags ByNothing base (map (with_length (given_length part)) steps) s.types) made.0 made.1);
      count = refl;
      means = λ n h. refl;
    })
given_calm base object part s q e = let z : s ≡ q = cc in subst (λ y. Calm s y) z (calm s)

given_then : (base : TypeTree) (object : Option Part) (part : Part) (rules : Known → List Rule) (s : Known) (q : Part × Known)
    → and_then (with_length_given base object part s) (λ given. unless_broken (rules given) part given) ≡ Ok q → Calm s q.1
given_then base object part rules s q e =
    let x = then_of (with_length_given base object part s) (λ given. unless_broken (rules given) part given) q e in
    let z = unless_of (broken_rules (last_node x.0) (rules x.0)) (part, x.0) q x.2 in
    subst (λ y. Calm s y.1) z (given_calm base object part s x.0 x.1)

pub tree_suits : (t : Syntax) (c : Context) (s : Known) (r : Part × Known) → judge t c s ≡ Ok r → Suits (kind_at t) r.0
tree_suits (node k at parts) c s r e =
    let z = with_rules_is _ (role_rules c.role k) (and_then (judge_parts k (opened k c s).0 [] parts (opened k c s).1) _) r e in
    let x = then_of (judge_parts k (opened k c s).0 [] parts (opened k c s).1) _ r z in
    let p = judged_plainly k (opened k c s).0 x.0.0 x.0.1 r x.2 in
    p.suits

item_other : (t : Syntax) (s x y : Known) → is_declarator (kind_at t) ≡ false → Steady (nodes_of t) s x → Calm x y → ItemDone t s x y
item_other t s x y d b c = record {
  steady = part_steady (nodes_of t) s x y (some_nodes t) b c;
  numbered = λ types means others m.
      subst (λ ns. AreNumbered x.autos ns y.autos)
      (sym (item_numbers false (typed types means (next_node s) t) others [] (ap is_declarator (kind_typed types means (next_node s) t) ∙ d) refl))
      (sym c.autos);
}

named_item : (t : Syntax) (s x : Known) (d : Declaring) (n : NameNode) (type : TypeTree) (types : List TypeTree) → is_declarator (kind_at t) ≡ true
    → Steady (nodes_of t) s x → NameIn t (next_node s) x n → length types ≡ length x.types
    → ItemDone t s x (declare_as d n type (record x { types = types }))
named_item t s x d n type types k b a c =
    let meant = declared_meaning d n type (record x { types = types }) in
    let from : length s.types ≤ n.number = a.from in
    let within : n.number < length x.types = a.within in
    let in_means : n.number < length x.means = subst (λ i. n.number < i) (sym b.even) within in
    record {
      steady = record {
        count = c ∙ b.count;
        even = length-set x.means n.number meant ∙ (b.even ∙ sym c);
        means = λ i h. get_other x.means n.number i meant (omega (arith, h, from)) ∙ b.means i h;
      };
      numbered = λ later means others m.
          let part = typed later means (next_node s) t in
          let there : slice_get means n.number ≡ Some meant =
          m n.number (subst (λ i. n.number < i) (sym c) within) ∙ get_set x.means n.number meant in_means in
          subst (λ ns. AreNumbered x.autos ns (if takes_automatic d then x.autos + 1 else x.autos))
          (sym (item_numbers true part others (number_of meant) (ap is_declarator (kind_typed later means (next_node s) t) ∙ k)
          (ap (λ o. numbers (automatic o (initialiser others))) (a.label later means)
          ∙ (automatic_number n.number a.token (label_of later means n.number a.token).type (meant_in means n.number) (initialiser others)
          ∙ ap (λ o. number_of (unwrap_or o Nothing)) there))))
          (meaning_by (is_typedef d.storage) d.is_at_file (is_static d.storage) type n.name (meant_in x.means n.number) x.autos a.waits);
    }

object_item : (t : Syntax) (s x : Known) (d : Declaring) (by : LengthBy) (base : TypeTree) (steps : List Step) (o : Option NameNode) (q : Part × Known)
    → is_declarator (kind_at t) ≡ true → Steady (nodes_of t) s x → ((n : NameNode) → o ≡ Some n → NameIn t (next_node s) x n)
    → declare_object d by base steps o x ≡ Ok q → ItemDone t s x q.1
object_item t s x d by base steps None q k b a e = cc
object_item t s x d by base steps (Some n) q k b a e =
    let o = object_is d by base steps n x q e in
    subst (λ y. ItemDone t s x y) (sym o.is) (named_item t s x d n o.type o.types k b (a n refl) o.count)

part_item : (k : Kind) (f : Frame) (before : List Part) (t : Syntax) (ts : SyntaxRow) (s : Known) (x : Part × Known) (part : Part) (y : Part × Known)
    → declared_kind k ≡ true → Steady (nodes_of t) s x.1 → Suits (kind_at t) part
    → ((steps : List Step) → part ≡ Declarator steps → (n : NameNode) → name_of steps ≡ Some n → NameIn t (next_node s) x.1 n)
    → behind k f before part ts x.1 ≡ Ok y → ItemDone t s x.1 y.1
part_item (kind.Declaration spec inits) f before t ts s x (Declarator steps) y k b u a e =
    object_item t s x.1 (object_declaring f (follows ts) x.1) (length_by (follows ts)) f.base steps (name_of steps) y u b (a steps refl) e
part_item (kind.Declaration spec inits) f before t ts s x (Value o) y k b u a e =
    item_other t s x.1 y.1 u b
    (given_then f.base (last_object before) (Value o) (λ given. initialiser_rules given.tags (object_role (last_object before)) (Value o)) x.1 y e)
part_item (kind.Declaration spec inits) f before t ts s x (Braced count) y k b u a e =
    item_other t s x.1 y.1 u b
    (given_then f.base (last_object before) (Braced count) (λ given. initialiser_rules given.tags (object_role (last_object before)) (Braced count)) x.1 y e)
part_item (kind.Declaration spec inits) f before t ts s x (Enumerator name value) y k b u a e =
    item_other t s x.1 y.1 u b (enumerated_calm name (enumerator_value before value) x.1 y e)
part_item (kind.Declaration spec inits) f before t ts s x (Members members) y k b u a e =
    item_other t s x.1 y.1 u b
    (calm_of x.1 (with_members f before (Members members) x.1) (Members members) (Ok (Members members, with_members f before (Members members) x.1)) y
    (members_calm f before members x.1) refl e)
part_item (kind.Declaration spec inits) f before t ts s x (CaseLabel word) y k b u a e = item_other t s x.1 y.1 u b (unless_calm x.1 _ (CaseLabel word) y e)
part_item (kind.Declaration spec inits) f before t ts s x DefaultLabel y k b u a e = item_other t s x.1 y.1 u b (unless_calm x.1 _ DefaultLabel y e)
part_item (kind.Declaration spec inits) f before t ts s x (Object type steps last role) y k b u a e = absurd u
part_item (kind.Declaration spec inits) f before t ts s x (Parameter type) y k b u a e =
    item_other t s x.1 y.1 u b (calm_of x.1 x.1 (Parameter type) (Ok (Parameter type, x.1)) y (calm x.1) refl e)
part_item (kind.Declaration spec inits) f before t ts s x (NamedType type) y k b u a e =
    item_other t s x.1 y.1 u b (calm_of x.1 x.1 (NamedType type) (Ok (NamedType type, x.1)) y (calm x.1) refl e)
part_item (kind.Declaration spec inits) f before t ts s x (Filled next) y k b u a e =
    item_other t s x.1 y.1 u b (calm_of x.1 x.1 (Filled next) (Ok (Filled next, x.1)) y (calm x.1) refl e)
part_item (kind.Declaration spec inits) f before t ts s x Statement y k b u a e =
    item_other t s x.1 y.1 u b (calm_of x.1 x.1 Statement (Ok (Statement, x.1)) y (calm x.1) refl e)
part_item other f before t ts s x part y k b u a e = cc

decl_row : (k : Kind) (f : Frame) (before : List Part) (ts : SyntaxRow) (s : Known) (r : List Part × Known) → declared_kind k ≡ true → length s.means ≡ length s.types → HaveNone ts
    → judge_parts k f before ts s ≡ Ok r → DeclRow ts s r.1
decl_row k f before none s r d h v e =
    let z : (before, s) ≡ r = cc in
    subst (λ x. DeclRow none s x.1) z (record { steady = none_steady s h; numbered = refl })
decl_row k f before (more t ts) s r d h v e =
    let c = context k f before (kind_at t) s in
    let x = then_of (judge t c s) _ r e in
    let y = then_of (behind k f before x.0.0 ts x.0.1) _ r x.2 in
    let item = part_item k f before t ts s x.0 x.0.0 y.0 d (tree_steady t c s x.0 h x.1) (tree_suits t c s x.0 x.1) (tree_name t c s x.0 h x.1) y.1 in
    let st = item.steady in
    let rest = decl_row k f (before ++ y.0.0 ∷ []) ts y.0.1 r d st.even v.1 y.2 in
    let after = rest.steady in
    let part = typed r.1.types r.1.means (next_node s) t in
    let others = typed_row r.1.types r.1.means (next_node s + nodes_of t) ts in
    record {
      steady = then_steady (nodes_of t) (nodes_of_row ts) s y.0.1 r.1 st after;
      numbered = lists_numbered s.autos y.0.1.autos r.1.autos (item_list part others) (automatics_in others)
          (subst (λ i. AreNumbered i (numbers (item_list part others)) y.0.1.autos) (none_autos t c s x.0 v.0 x.1)
          (item.numbered r.1.types r.1.means others after.means))
          (subst (λ i. AreNumbered y.0.1.autos (numbers (automatics_in (typed_row r.1.types r.1.means i ts))) r.1.autos) st.count rest.numbered);
    }

-- THE SAME NUMBERS, where meanings are the same

abbrev pub Agree : (means others : List Meant) → ℕ → Type 0
Agree means others bound = (n : ℕ) → n < bound → slice_get means n ≡ slice_get others n

abbrev label_numbers : Option Label → List ℕ
label_numbers None = []
label_numbers (Some label) = number_of label.means

automatic_is : (o : Option Label) (initial : Option Typed) → numbers (automatic o initial) ≡ label_numbers o
automatic_is None initial = refl
automatic_is (Some label) initial = automatic_number label.number label.token label.type label.means initial

mutual
  name_same : (types others : List TypeTree) (means news : List Meant) (bound first : ℕ) (t : Syntax) → Agree means news bound → first + nodes_of t ≤ bound
      → label_numbers (name_label (typed types means first t)) ≡ label_numbers (name_label (typed others news first t))
  name_same types others means news bound first (node (kind.DeclName x) at parts) a h =
      ap (λ o. number_of (unwrap_or o Nothing)) (a (first + nodes_of_row parts) (omega (arith, h)))
  name_same types others means news bound first (node k at parts) a h = first_same types others means news bound first parts a (omega (arith, h))

  first_same : (types others : List TypeTree) (means news : List Meant) (bound first : ℕ) (ts : SyntaxRow) → Agree means news bound → first + nodes_of_row ts ≤ bound
      → label_numbers (first_label (typed_row types means first ts)) ≡ label_numbers (first_label (typed_row others news first ts))
  first_same types others means news bound first none a h = refl
  first_same types others means news bound first (more t ts) a h = name_same types others means news bound first t a (omega (arith, h))

if_same : (b : Bool) (o p : Option Label) (i j : Option Typed) → label_numbers o ≡ label_numbers p
    → numbers (if b then automatic o i else []) ≡ numbers (if b then automatic p j else [])
if_same true o p i j h = automatic_is o i ∙ (h ∙ sym (automatic_is p j))
if_same false o p i j h = refl

append_same : (xs ys us vs : List Automatic) → numbers xs ≡ numbers us → numbers ys ≡ numbers vs → numbers (xs ++ ys) ≡ numbers (us ++ vs)
append_same xs ys us vs h g =
    map-append (λ x. x.number) xs ys ∙ (ap (λ ns. ns ++ numbers ys) h ∙ (ap (λ ns. numbers us ++ ns) g ∙ sym (map-append (λ x. x.number) us vs)))

item_same : (types others : List TypeTree) (means news : List Meant) (bound first : ℕ) (t : Syntax) (row rows : TypedRow) → Agree means news bound → first + nodes_of t ≤ bound
    → numbers (item_list (typed types means first t) row) ≡ numbers (item_list (typed others news first t) rows)
item_same types others means news bound first t row rows a h =
    ap (λ k. numbers (if is_declarator k then automatic (name_label (typed types means first t)) (initialiser row) else [])) (kind_typed types means first t)
    ∙ (if_same (is_declarator (kind_at t)) (name_label (typed types means first t)) (name_label (typed others news first t)) (initialiser row) (initialiser rows)
    (name_same types others means news bound first t a h)
    ∙ ap (λ k. numbers (if is_declarator k then automatic (name_label (typed others news first t)) (initialiser rows) else [])) (sym (kind_typed others news first t)))

in_same : (types others : List TypeTree) (means news : List Meant) (bound first : ℕ) (ts : SyntaxRow) → Agree means news bound → first + nodes_of_row ts ≤ bound
    → numbers (automatics_in (typed_row types means first ts)) ≡ numbers (automatics_in (typed_row others news first ts))
in_same types others means news bound first none a h = refl
in_same types others means news bound first (more t ts) a h =
    append_same (item_list (typed types means first t) (typed_row types means (first + nodes_of t) ts)) (automatics_in (typed_row types means (first + nodes_of t) ts))
    (item_list (typed others news first t) (typed_row others news (first + nodes_of t) ts)) (automatics_in (typed_row others news (first + nodes_of t) ts))
    (item_same types others means news bound first t (typed_row types means (first + nodes_of t) ts) (typed_row others news (first + nodes_of t) ts) a (omega (arith, h)))
    (in_same types others means news bound (first + nodes_of t) ts a (omega (arith, h)))

declared_same : (types others : List TypeTree) (means news : List Meant) (bound first : ℕ) (k : Kind) (label other : Label) (ts : SyntaxRow) → Agree means news bound
    → first + nodes_of_row ts ≤ bound
    → numbers (declared_by (node k label (typed_row types means first ts))) ≡ numbers (declared_by (node k other (typed_row others news first ts)))
declared_same types others means news bound first (kind.Declaration spec inits) label other ts a h = in_same types others means news bound first ts a h
declared_same types others means news bound first k label other ts a h = refl

mutual
  pub within_same : (types others : List TypeTree) (means news : List Meant) (bound first : ℕ) (t : Syntax) → Agree means news bound → first + nodes_of t ≤ suc bound
      → numbers (automatics_within (typed types means first t)) ≡ numbers (automatics_within (typed others news first t))
  within_same types others means news bound first (node k at parts) a h =
      let label = label_of types means (first + nodes_of_row parts) at in
      let other = label_of others news (first + nodes_of_row parts) at in
      append_same (declared_by (node k label (typed_row types means first parts))) (automatics_of_row (typed_row types means first parts))
      (declared_by (node k other (typed_row others news first parts))) (automatics_of_row (typed_row others news first parts))
      (declared_same types others means news bound first k label other parts a (omega (arith, h)))
      (row_same types others means news bound first parts a (omega (arith, h)))

  row_same : (types others : List TypeTree) (means news : List Meant) (bound first : ℕ) (ts : SyntaxRow) → Agree means news bound → first + nodes_of_row ts ≤ bound
      → numbers (automatics_of_row (typed_row types means first ts)) ≡ numbers (automatics_of_row (typed_row others news first ts))
  row_same types others means news bound first none a h = refl
  row_same types others means news bound first (more t ts) a h =
      append_same (automatics_within (typed types means first t)) (automatics_of_row (typed_row types means (first + nodes_of t) ts))
      (automatics_within (typed others news first t)) (automatics_of_row (typed_row others news (first + nodes_of t) ts))
      (within_same types others means news bound first t a (omega (arith, h)))
      (row_same types others means news bound (first + nodes_of t) ts a (omega (arith, h)))

-- STATEMENTS

record Opened (k : Kind) (c : Context) (s : Known) : Type 0 where
  even : length (opened k c s).1.means ≡ length (opened k c s).1.types
  next : next_node (opened k c s).1 ≡ next_node s
  autos : (opened k c s).1.autos ≡ s.autos

opened_is : (k : Kind) (c : Context) (s : Known) → is_item k ≡ false → length s.means ≡ length s.types → Opened k c s
opened_is k c s i h =
    let a = opened_alike k c s in
    record { even = ap length a.means ∙ (h ∙ sym (ap length a.types)); next = ap length a.types; autos = opened_autos k c s i }

-- the node itself changes no number
node_numbered : (k : Kind) (f : Frame) (parts : List Part) (x : Known) (r : Part × Known) (from : ℕ) → judged k f parts x ≡ Ok r → length x.means ≡ length x.types
    → (listed : (types : List TypeTree) (means : List Meant) → List Automatic)
    → ((types others : List TypeTree) (means news : List Meant) → Agree means news (length x.types) → numbers (listed types means) ≡ numbers (listed others news))
    → AreNumbered from (numbers (listed x.types x.means)) x.autos → AreNumbered from (numbers (listed r.1.types r.1.means)) r.1.autos
node_numbered k f parts x r from e even listed same h =
    let p = judged_plainly k f parts x r e in
    subst (λ to. AreNumbered from (numbers (listed r.1.types r.1.means)) to) (sym p.autos)
    (subst (λ ns. AreNumbered from ns x.autos)
    (same x.types r.1.types x.means r.1.means (λ n l. sym (p.means n (subst (λ i. n < i) (sym even) l)))) h)

declaration_numbered : (k : Kind) (at : ℕ) (parts : SyntaxRow) (c : Context) (s : Known) (r : Part × Known) → declared_kind k ≡ true → is_item k ≡ false → length s.means ≡ length s.types
    → HaveNone parts → judge (node k at parts) c s ≡ Ok r
    → AreNumbered s.autos (numbers (automatics_in (typed_row r.1.types r.1.means (next_node s) parts))) r.1.autos
declaration_numbered k at parts c s r d i h v e =
    let z = with_rules_is _ (role_rules c.role k) (and_then (judge_parts k (opened k c s).0 [] parts (opened k c s).1) _) r e in
    let x = then_of (judge_parts k (opened k c s).0 [] parts (opened k c s).1) _ r z in
    let q = opened_is k c s i h in
    let row = decl_row k (opened k c s).0 [] parts (opened k c s).1 x.0 d q.even v x.1 in
    let st = row.steady in
    let count = st.count in
    let next : length (opened k c s).1.types ≡ length s.types = q.next in
    let le : length s.types + nodes_of_row parts ≤ length x.0.1.types = omega arith in
    node_numbered k (opened k c s).0 x.0.0 x.0.1 r s.autos x.2 st.even
    (λ types means. automatics_in (typed_row types means (next_node s) parts))
    (λ types others means news a. in_same types others means news (length x.0.1.types) (next_node s) parts a le)
    (subst (λ first. AreNumbered s.autos (numbers (automatics_in (typed_row x.0.1.types x.0.1.means first parts))) x.0.1.autos) next
    (subst (λ from. AreNumbered from (numbers (automatics_in (typed_row x.0.1.types x.0.1.means (next_node (opened k c s).1) parts))) x.0.1.autos) q.autos row.numbered))

abbrev Numbered : Syntax → Known → Known → Type 0
Numbered t s r = AreNumbered s.autos (numbers (automatics_within (typed r.types r.means (next_node s) t))) r.autos

abbrev RowNumbered : SyntaxRow → Known → Known → Type 0
RowNumbered ts s r = AreNumbered s.autos (numbers (automatics_of_row (typed_row r.types r.means (next_node s) ts))) r.autos

compound_numbered : (k : Kind) (at : ℕ) (parts : SyntaxRow) (c : Context) (s : Known) (r : Part × Known) → closes k ≡ false → is_item k ≡ false → declares k ≡ false
    → length s.means ≡ length s.types
    → ((x : List Part × Known) → judge_parts k (opened k c s).0 [] parts (opened k c s).1 ≡ Ok x → RowNumbered parts (opened k c s).1 x.1)
    → judge (node k at parts) c s ≡ Ok r → Numbered (node k at parts) s r.1
compound_numbered k at parts c s r cl i d h rows e =
    let z = with_rules_is _ (role_rules c.role k) (and_then (judge_parts k (opened k c s).0 [] parts (opened k c s).1) _) r e in
    let x = then_of (judge_parts k (opened k c s).0 [] parts (opened k c s).1) _ r z in
    let q = opened_is k c s i h in
    let st = row_steady k (opened k c s).0 [] parts (opened k c s).1 x.0 cl q.even x.1 in
    let count = st.count in
    let next : length (opened k c s).1.types ≡ length s.types = q.next in
    let le : length s.types + nodes_of_row parts ≤ length x.0.1.types = omega arith in
    let row = rows x.0 x.1 in
    let inside = node_numbered k (opened k c s).0 x.0.0 x.0.1 r s.autos x.2 st.even
    (λ types means. automatics_of_row (typed_row types means (next_node s) parts))
    (λ types others means news a. row_same types others means news (length x.0.1.types) (next_node s) parts a le)
    (subst (λ first. AreNumbered s.autos (numbers (automatics_of_row (typed_row x.0.1.types x.0.1.means first parts))) x.0.1.autos) next
    (subst (λ from. AreNumbered from (numbers (automatics_of_row (typed_row x.0.1.types x.0.1.means (next_node (opened k c s).1) parts))) x.0.1.autos) q.autos row)) in
    subst (λ xs. AreNumbered s.autos (numbers (xs ++ automatics_of_row (typed_row r.1.types r.1.means (next_node s) parts))) r.1.autos)
    (sym (none_declared k (label_of r.1.types r.1.means (next_node s + nodes_of_row parts) at) (typed_row r.1.types r.1.means (next_node s) parts) d)) inside

plain_numbered : (t : Syntax) (c : Context) (s : Known) (r : Part × Known) → HasNone t → judge t c s ≡ Ok r → Numbered t s r.1
plain_numbered t c s r v e =
    subst (λ xs. AreNumbered s.autos (numbers xs) r.1.autos) (sym (none_within r.1.types r.1.means (next_node s) t v)) (sym (none_autos t c s r v e))

-- one statement of a row, as the row leaves it
row_step : (t : Syntax) (ts : SyntaxRow) (s x y r : Known) → Steady (nodes_of t) s x → Calm x y → Steady (nodes_of_row ts) y r → Numbered t s x
    → RowNumbered ts y r → RowNumbered (more t ts) s r
row_step t ts s x y r a c b h g =
    let st = part_steady (nodes_of t) s x y (some_nodes t) a c in
    let p = some_nodes t in
    let n1 = a.count in
    let n2 = c.types in
    let le : length s.types + nodes_of t ≤ suc (length x.types - 1) = omega arith in
    lists_numbered s.autos y.autos r.autos (automatics_within (typed r.types r.means (next_node s) t))
    (automatics_of_row (typed_row r.types r.means (next_node s + nodes_of t) ts))
    (subst (λ to. AreNumbered s.autos (numbers (automatics_within (typed r.types r.means (next_node s) t))) to) (sym c.autos)
    (subst (λ ns. AreNumbered s.autos ns x.autos)
    (within_same x.types r.types x.means r.means (last_node x) (next_node s) t
    (λ n l.
    let low : n < length x.types - 1 = l in
    sym (b.means n (omega (arith, low, n2)) ∙ c.means n (λ e. let f : n ≡ length x.types - 1 = e in absurd (omega (arith, low, f)))))
    le) h))
    (subst (λ i. AreNumbered y.autos (numbers (automatics_of_row (typed_row r.types r.means i ts))) r.autos) st.count g)

mutual
  statement_numbered : (t : Syntax) (c : Context) (s : Known) (r : Part × Known) → length s.means ≡ length s.types → IsStatement t → judge t c s ≡ Ok r → Numbered t s r.1
  statement_numbered (node (kind.Declaration spec inits) at parts) c s r h v e =
      subst (λ xs. AreNumbered s.autos (numbers (automatics_in (typed_row r.1.types r.1.means (next_node s) parts) ++ xs)) r.1.autos)
      (sym (none_in_row r.1.types r.1.means (next_node s) parts v))
      (subst (λ xs. AreNumbered s.autos (numbers xs) r.1.autos) (sym (append-nil (automatics_in (typed_row r.1.types r.1.means (next_node s) parts))))
      (declaration_numbered (kind.Declaration spec inits) at parts c s r refl refl h v e))
  statement_numbered (node kind.Block at parts) c s r h v e =
      compound_numbered kind.Block at parts c s r refl refl refl h (λ x g. statements_numbered kind.Block (opened kind.Block c s).0 [] parts (opened kind.Block c s).1 x refl h v g) e
  statement_numbered (node kind.If at parts) c s r h v e =
      compound_numbered kind.If at parts c s r refl refl refl h (λ x g. statements_numbered kind.If (opened kind.If c s).0 [] parts s x refl h v g) e
  statement_numbered (node kind.While at parts) c s r h v e =
      compound_numbered kind.While at parts c s r refl refl refl h (λ x g. statements_numbered kind.While (opened kind.While c s).0 [] parts s x refl h v g) e
  statement_numbered (node kind.Do at parts) c s r h v e =
      compound_numbered kind.Do at parts c s r refl refl refl h (λ x g. statements_numbered kind.Do (opened kind.Do c s).0 [] parts s x refl h v g) e
  statement_numbered (node (kind.For first test step) at parts) c s r h v e =
      compound_numbered (kind.For first test step) at parts c s r refl refl refl h
      (λ x g. statements_numbered (kind.For first test step) (opened (kind.For first test step) c s).0 [] parts s x refl h v g) e
  statement_numbered (node kind.Switch at parts) c s r h v e =
      compound_numbered kind.Switch at parts c s r refl refl refl h (λ x g. statements_numbered kind.Switch (opened kind.Switch c s).0 [] parts s x refl h v g) e
  statement_numbered (node k at parts) c s r h v e = plain_numbered (node k at parts) c s r v e

  statements_numbered : (k : Kind) (f : Frame) (before : List Part) (ts : SyntaxRow) (s : Known) (r : List Part × Known) → closes k ≡ false → length s.means ≡ length s.types
      → AreStatements ts → judge_parts k f before ts s ≡ Ok r → RowNumbered ts s r.1
  statements_numbered k f before none s r cl h v e = let z : (before, s) ≡ r = cc in ap (λ x. x.1.autos) z
  statements_numbered k f before (more t ts) s r cl h v e =
      let c = context k f before (kind_at t) s in
      let x = then_of (judge t c s) _ r e in
      let y = then_of (behind k f before x.0.0 ts x.0.1) _ r x.2 in
      let a = tree_steady t c s x.0 h x.1 in
      let calmly = behind_calm k f before x.0.0 ts x.0.1 y.0 cl y.1 in
      let st = part_steady (nodes_of t) s x.0.1 y.0.1 (some_nodes t) a calmly in
      let b = row_steady k f (before ++ y.0.0 ∷ []) ts y.0.1 r cl st.even y.2 in
      row_step t ts s x.0.1 y.0.1 r.1 a calmly b (statement_numbered t c s x.0 h v.0 x.1)
      (statements_numbered k f (before ++ y.0.0 ∷ []) ts y.0.1 r cl st.even v.1 y.2)

pub automatics_are_numbered : AutomaticsAreNumbered
automatics_are_numbered t c s r h v e = statement_numbered t c s r h v e
