-- The meanings of nodes stay behind parts that neither name them nor give them a value.
use Rattle.std.proofs.Common.{◌≡◌, ◌<◌, ◌≤◌, ℕ, zero, suc, ◌+◌, ◌-◌, ◌==◌, Bool, true, false, if◌then◌else◌, List, [], ◌∷◌, ◌++◌, length, slice_get, Option, Some, None, Ok, refl, sym, ap, subst, ◌∙◌, arith}
use Rattle.p9_lang.specs.declared.tree.Kind.{Kind}
use Rattle.p9_lang.specs.declared.tree.Kind.TheVariants as kind
use Rattle.p9_lang.specs.Trees.{none, more, Syntax, SyntaxRow, nodes_of}
use Rattle.p9_lang.specs.Types.{TypeTree, Void, Array, MemberTree}
use Rattle.p9_lang.specs.Rules.{Broken, unless, and_then}
use Rattle.p9_lang.specs.Scopes.{Known, next_node, innermost, around}
use Rattle.p9_lang.specs.Declarators.{Step, LengthBy, ByNothing, NameNode, name_of, Declaring, closed, adjusted}
use Rattle.p9_lang.specs.Parts.{Context, Part, Value, Declarator, Object, Members, Enumerator, Parameter, NamedType, Braced, Filled, CaseLabel, DefaultLabel, Statement, Plain, Frame, Judged, kind_at, members_in, follows, length_by, last_object, object_type, name_in}
use Rattle.p9_lang.specs.Opening.{context}
use Rattle.p9_lang.specs.Entries.{is_index_next}
use Rattle.p9_lang.specs.Declaring.{last_node, behind, declared, declare_object, declare_as, declared_meaning, initialiser_role, declare_member, declare_parameter, declared_parameter, parameter_meaning, close_type, object_declaring, function_declaring, with_body_open, open_body, parameter_count, enumerator_value, constant_meaning, complete_if, with_members, with_length_given, retyped, initialised}
use Rattle.p9_lang.specs.Typing.{judge, judge_parts}
use Rattle.p9_lang.proofs.Counting.{then_of, unless_of}
use Rattle.p9_sound.specs.Labels.{AreKnown}
use Rattle.p9_sound.proofs.Numbering.{get_apart, kinds_after}
use Rattle.p9_sound.proofs.Staying.{AllHaveOpen}
use Rattle.p9_sound.proofs.Labels.{tree_stays, part_stays}
use Rattle.p9_sound.proofs.NamesOf.{tree_name, tree_steady, some_nodes}

abbrev pub IsClear : ℕ → Known → Part → Type 0
IsClear n s (Declarator steps) = (m : NameNode) → name_of steps ≡ Some m → n ≡ m.number → ⊥
IsClear n s (Enumerator x value) = n ≡ last_node s → ⊥
IsClear n s (Object type steps last role) = Unit {0}
IsClear n s (Value o) = Unit {0}
IsClear n s (Members members) = Unit {0}
IsClear n s (Parameter type) = Unit {0}
IsClear n s (NamedType type) = Unit {0}
IsClear n s (Braced count) = Unit {0}
IsClear n s (Filled next) = Unit {0}
IsClear n s (CaseLabel word) = Unit {0}
IsClear n s DefaultLabel = Unit {0}
IsClear n s Statement = Unit {0}

-- one object more
pub record Made (d : Declaring) (m : NameNode) (s q : Known) : Type 0 where
  pub type : TypeTree
  pub types : List TypeTree
  pub is : declare_as d m type (record s { types = types }) ≡ q

pub made_object : (d : Declaring) (by : LengthBy) (base : TypeTree) (steps : List Step) (m : NameNode) (s : Known) (q : Part × Known)
    → declare_object d by base steps (Some m) s ≡ Ok q → Made d m s q.1
made_object d by base steps m s q e =
    let made = then_of _ (λ made. Ok (
      Object made.0 steps (last_node s) (initialiser_role d made.0),
      declare_as d m made.0 (record s { types = made.1 }),
    )) q e in
    let k = made.2 in
    let z : (Object made.0.0 steps (last_node s) (initialiser_role d made.0.0), declare_as d m made.0.0 (record s { types = made.0.1 })) ≡ q = cc in
    record { type = made.0.0; types = made.0.1; is = ap (λ x. x.1) z }

module _ (n : ℕ) where
  abbrev Same : (s q : Known) → Type 0
  Same s q = slice_get q.means n ≡ slice_get s.means n

  abbrev KeepsIt : Known → Judged → Type 0
  KeepsIt s m = (r : Part × Known) → m ≡ Ok r → Same s r.1

  ok_keeps : (s q : Known) (part : Part) → Same s q → KeepsIt s (Ok (part, q))
  ok_keeps s q part h r e = let z : (part, q) ≡ r = cc in subst (λ x. Same s x.1) z h

  if_keeps : (s : Known) (c : Bool) (x y : Judged) → KeepsIt s x → KeepsIt s y → KeepsIt s (if c then x else y)
  if_keeps s true x y h g = h
  if_keeps s false x y h g = g

  unless_keeps : (s q : Known) (broken : List Broken) (part : Part) → Same s q → KeepsIt s (unless broken (part, q))
  unless_keeps s q broken part h r e = subst (λ x. Same s x.1) (unless_of broken (part, q) r e) h

  module _ (s : Known) where
    object_keeps : (d : Declaring) (by : LengthBy) (base : TypeTree) (steps : List Step) (name : Option NameNode) → name_of steps ≡ name
        → ((m : NameNode) → name_of steps ≡ Some m → n ≡ m.number → ⊥) → KeepsIt s (declare_object d by base steps name s)
    object_keeps d by base steps None w h r e = cc
    object_keeps d by base steps (Some m) w h r e =
        let made = made_object d by base steps m s r e in
        ap (λ y. slice_get y.means n) (sym made.is) ∙ get_apart s.means m.number n (declared_meaning d m made.type (record s { types = made.types })) (h m w)

    body_keeps : (steps : List Step) (x r : Part × Known) → Same s x.1 → with_body_open steps x ≡ Ok r → Same s r.1
    body_keeps steps x r h e =
        let z : (x.0, open_body steps (record x.1 { autos = parameter_count (object_type (Some x.0) Void) })) ≡ r = cc in
        subst (λ y. Same s y.1) z h

    function_keeps : (steps : List Step) (m : Judged) → KeepsIt s m → KeepsIt s (and_then m (with_body_open steps))
    function_keeps steps m h r e =
        let x = then_of m (with_body_open steps) r e in
        body_keeps steps x.0 r (h x.0 x.1) x.2

    member_keeps : (f : Frame) (before : List Part) (steps : List Step) (name : Option NameNode) → KeepsIt s (declare_member f before steps name s)
    member_keeps f before steps None r e = cc
    member_keeps f before steps (Some m) r e =
        let made = then_of _ (λ made. Ok (Object made.0 steps (last_node s) Plain, record s { types = made.1 })) r e in
        ok_keeps s (record s { types = made.0.1 }) _ refl r made.2

    parameter_keeps : (f : Frame) (steps : List Step) (name : Option NameNode) → name_of steps ≡ name
        → ((m : NameNode) → name_of steps ≡ Some m → n ≡ m.number → ⊥) → KeepsIt s (declare_parameter f steps name s)
    parameter_keeps f steps None w h r e =
        let made = then_of _ (λ made. Ok (Object (adjusted made.0) steps (last_node s) Plain, record s { types = made.1 })) r e in
        ok_keeps s (record s { types = made.0.1 }) _ refl r made.2
    parameter_keeps f steps (Some m) w h r e =
        let made = then_of _ (λ made. Ok (Object (adjusted made.0) steps (last_node s) Plain, declared_parameter f m made s)) r e in
        ok_keeps s (declared_parameter f m made.0 s) _ (get_apart s.means m.number n (parameter_meaning f.context.role) (h m w)) r made.2

    type_keeps : (f : Frame) (steps : List Step) → KeepsIt s (close_type f steps s)
    type_keeps f steps r e =
        let made = then_of (closed s.tags ByNothing f.base steps s.types) (λ made. Ok (Object made.0 steps (last_node s) Plain, record s { types = made.1 })) r e in
        ok_keeps s (record s { types = made.0.1 }) _ refl r made.2

    declared_keeps : (k : Kind) (f : Frame) (before : List Part) (steps : List Step) (rest : SyntaxRow)
        → ((m : NameNode) → name_of steps ≡ Some m → n ≡ m.number → ⊥) → KeepsIt s (declared k f before steps rest s)
    declared_keeps (kind.Declaration spec inits) f before steps rest h =
        object_keeps (object_declaring f (follows rest) s) (length_by (follows rest)) f.base steps (name_of steps) refl h
    declared_keeps (kind.Function spec) f before steps rest h =
        function_keeps steps _ (object_keeps (function_declaring f) ByNothing f.base steps (name_of steps) refl h)
    declared_keeps (kind.Member spec) f before steps rest h = member_keeps f before steps (name_of steps)
    declared_keeps (kind.Param spec) f before steps rest h = parameter_keeps f steps (name_of steps) refl h
    declared_keeps (kind.NamedType spec) f before steps rest h = type_keeps f steps
    declared_keeps k f before steps rest h = ok_keeps s s (Declarator steps) refl

    complete_same : (is_last : Bool) (tag : Option ℕ) (members : List MemberTree) → Same s (complete_if is_last tag members s)
    complete_same is_last None members = refl
    complete_same false (Some number) members = refl
    complete_same true (Some number) members = refl

    given_same : (base : TypeTree) (object : Option Part) (part : Part) (q : Known) → with_length_given base object part s ≡ Ok q → Same s q
    given_same base (Some (Object (Array element zero) steps last role)) part q e =
        let made = then_of _ (λ made. Ok (record s { types = made.1; names = retyped (name_in (name_of steps)) made.0 (innermost s.names) ∷ around s.names })) q e in
        let k = made.2 in
        let z : record s { types = made.0.1; names = retyped (name_in (name_of steps)) made.0.0 (innermost s.names) ∷ around s.names } ≡ q = cc in
        ap (λ y. slice_get y.means n) (sym z)
    given_same base _ part q e = let z : s ≡ q = cc in ap (λ y. slice_get y.means n) (sym z)

    initialised_keeps : (k : Kind) (f : Frame) (before : List Part) (part : Part) → KeepsIt s (initialised k f before part s)
    initialised_keeps (kind.Declaration spec inits) f before part r e =
        let x = then_of (with_length_given f.base (last_object before) part s) _ r e in
        unless_keeps s x.0 _ part (given_same f.base (last_object before) part x.0 x.1) r x.2
    initialised_keeps (kind.Entry entry_by equals) f before part r e =
        if_keeps s (is_index_next entry_by before) _ _ (ok_keeps s s part refl) (unless_keeps s s _ part refl) r e
    initialised_keeps k f before part r e = ok_keeps s s part refl r e

    pub behind_keeps : (k : Kind) (f : Frame) (before : List Part) (part : Part) (rest : SyntaxRow) → IsClear n s part → KeepsIt s (behind k f before part rest s)
    behind_keeps k f before (Value o) rest h = initialised_keeps k f before (Value o)
    behind_keeps k f before (Braced count) rest h = initialised_keeps k f before (Braced count)
    behind_keeps k f before (Declarator steps) rest h = declared_keeps k f before steps rest h
    behind_keeps k f before (Enumerator x value) rest h =
        unless_keeps s _ _ (Enumerator x _) (get_apart s.means (last_node s) n (constant_meaning (enumerator_value before value)) h)
    behind_keeps k f before (Members members) rest h =
        ok_keeps s (with_members f before (Members members) s) (Members members)
        (complete_same (suc (length before) == f.braces) f.tag (members_in (before ++ Members members ∷ [])))
    behind_keeps k f before (CaseLabel word) rest h = unless_keeps s s _ (CaseLabel word) refl
    behind_keeps k f before DefaultLabel rest h = unless_keeps s s _ DefaultLabel refl
    behind_keeps k f before (Object type steps last role) rest h = ok_keeps s s (Object type steps last role) refl
    behind_keeps k f before (Parameter type) rest h = ok_keeps s s (Parameter type) refl
    behind_keeps k f before (NamedType type) rest h = ok_keeps s s (NamedType type) refl
    behind_keeps k f before (Filled next) rest h = ok_keeps s s (Filled next) refl
    behind_keeps k f before Statement rest h = ok_keeps s s Statement refl

-- A ROW of parts keeps the meanings of the nodes before it

above : (n a b m : ℕ) → n < a → a ≤ m → n ≡ m → ⊥
above n a b m h g e = omega (arith, h, g, e)

not_last : (n a b m : ℕ) → n < a → b ≡ a + m → 0 < m → n ≡ b - 1 → ⊥
not_last n a b m h c p e = omega (arith, h, c, p, e)

clear_of : (n : ℕ) (part : Part) (s : Known) → ((steps : List Step) → part ≡ Declarator steps → (m : NameNode) → name_of steps ≡ Some m → n ≡ m.number → ⊥)
    → (n ≡ last_node s → ⊥) → IsClear n s part
clear_of n (Declarator steps) s h g = h steps refl
clear_of n (Enumerator x value) s h g = g
clear_of n _ s h g = tt

-- a tree and what it means to its node keep them too
pub part_keeps : (n : ℕ) (k : Kind) (f : Frame) (before : List Part) (t : Syntax) (ts : SyntaxRow) (c : Context) (s : Known) (x y : Part × Known)
    → length s.means ≡ length s.types → n < next_node s → judge t c s ≡ Ok x → behind k f before x.0 ts x.1 ≡ Ok y → slice_get y.1.means n ≡ slice_get s.means n
part_keeps n k f before t ts c s x y even h e g =
    let w = tree_steady t c s x even e in
    let clear = clear_of n x.0 x.1
    (λ steps p m i. let a = tree_name t c s x even e steps p m i in above n (next_node s) (next_node s) m.number h a.from)
    (not_last n (next_node s) (length x.1.types) (nodes_of t) h w.count (some_nodes t)) in
    behind_keeps n x.1 k f before x.0 ts clear y g ∙ w.means n h

pub row_keeps : (n : ℕ) (kinds : List Kind) (k : Kind) (f : Frame) (before : List Part) (ts : SyntaxRow) (s : Known) (r : List Part × Known) → AreKnown kinds s
    → AllHaveOpen kinds before → n < next_node s → judge_parts k f before ts s ≡ Ok r → slice_get r.1.means n ≡ slice_get s.means n
row_keeps n kinds k f before none s r h b i e = let z : (before, s) ≡ r = cc in ap (λ x. slice_get x.1.means n) (sym z)
row_keeps n kinds k f before (more t ts) s r h b i e =
    let x = then_of (judge t (context k f before (kind_at t) s) s) _ r e in
    let y = then_of (behind k f before x.0.0 ts x.0.1) _ r x.2 in
    let p = part_stays kinds k f before t ts s b x.0 (tree_stays kinds t (context k f before (kind_at t) s) s h x.0 x.1) y.0 y.1 in
    let even : length s.means ≡ length s.types = h.means ∙ sym h.types in
    let w = tree_steady t (context k f before (kind_at t) s) s x.0 even x.1 in
    let known = p.known in
    let first = tree_stays kinds t (context k f before (kind_at t) s) s h x.0 x.1 in
    let there = first.known in
    let count : length y.0.1.types ≡ length x.0.1.types = known.types ∙ sym there.types in
    row_keeps n (kinds_after kinds t) k f (before ++ y.0.0 ∷ []) ts y.0.1 r p.known p.opens (later n (length s.types) (length x.0.1.types) (length y.0.1.types) (nodes_of t) i w.count count) y.2
    ∙ part_keeps n k f before t ts (context k f before (kind_at t) s) s x.0 y.0 even i x.1 y.1
  where
    later : (n a b c m : ℕ) → n < a → b ≡ a + m → c ≡ b → n < c
    later n a b c m h e g = omega (arith, h, e, g)
