-- A function's block counts its automatics from the number of parameters that the function's type has.
use Rattle.std.proofs.Common.{◌≡◌, ◌≤◌, ◌<◌, ℕ, suc, ◌+◌, Bool, true, false, if◌then◌else◌, List, [], ◌∷◌, ◌++◌, length, slice_get, slice_set, reverse, unwrap_or, Option, Some, None, Ok, refl, sym, ap, subst, ◌∙◌, arith}
use Rattle.std.specs.List.{list_all}
use Rattle.std.proofs.lemmas.List.{length-set}
use Rattle.std.proofs.lemmas.Grind.{reverse_onto}
use Rattle.p9_lang.specs.declared.tree.Kind.{Kind}
use Rattle.p9_lang.specs.declared.tree.Spec.{Spec}
use Rattle.p9_lang.specs.declared.tree.Kind.TheVariants as kind
use Rattle.p9_lang.specs.Trees.{node, none, more, Syntax, SyntaxRow, nodes_of, nodes_of_row}
use Rattle.p9_lang.specs.Types.{TypeTree, Void, Function, Meant, Nothing, Tags}
use Rattle.p9_lang.specs.Rules.{and_then}
use Rattle.p9_lang.specs.Scopes.{Known, known_first, with_node, next_node, innermost, in_level, close_level, close_block}
use Rattle.p9_lang.specs.Declarators.{LengthBy, ByNothing, Step, Shape, Names, Keeps, Points, Sized, Unsized, Takes, NameNode, name_of, naming_rules, closed, closed_from, shaped, broken_at, makes_no_type}
use Rattle.p9_lang.specs.Parts.{Context, file_context, Part, Value, Declarator, Object, Members, Enumerator, Parameter, NamedType, Braced, Filled, CaseLabel, Statement, DefaultLabel, Frame, is_declarator, kind_at, object_type}
use Rattle.p9_lang.specs.Symbols.{kind_of_node, name_label}
use Rattle.p9_lang.specs.Modules.{Label, Typed, TypedRow, label_of, typed, typed_row}
use Rattle.p9_lang.specs.Opening.{opened, context}
use Rattle.p9_lang.specs.Declaring.{behind, last_node, named_with, declare_object, declare_as, initialiser_role, function_declaring, open_body, with_body_open, parameter_count}
use Rattle.p9_lang.specs.Typing.{judge, judge_parts, judge_items, role_rules}
use Rattle.p9_lang.specs.Files.{typing_of, names_with_bodies}
use Rattle.p9_lang.proofs.Counting.{then_of, unless_of}
use Rattle.p9_cmean.specs.Declarations.{Definition, defined_by, definition_in}
use Rattle.p9_cmean.specs.Union.{parameter_types}
use Rattle.p9_sound.specs.Automatics.{AreStatements, automatics_within, numbers, AreNumbered}
use Rattle.p9_sound.specs.Labels.{AreKnown}
use Rattle.p9_sound.specs.Functions.{Either, IsBody, HasBody, IsOrderly, AreOrderly, IsNumbered, FunctionIsNumbered, FunctionsAreNumberedIn, FunctionsAreNumbered}
use Rattle.p9_sound.proofs.Numbering.{get_before, length_last}
use Rattle.p9_sound.proofs.Labels.{with_rules_is, statements, statements_length, row_stays, earlier_labels_stay}
use Rattle.p9_sound.proofs.Closing.{opened_alike}
use Rattle.p9_sound.proofs.Counts.{Suits, is_declarator_part, other_calm}
use Rattle.p9_sound.proofs.NamesOf.{Steady, tree_steady, some_nodes, part_steady, NameIn, tree_name}
use Rattle.p9_sound.proofs.Automatics.{get_set, closed_count, named_made, tree_suits, kind_typed, Agree, within_same, automatics_are_numbered}

-- THE TYPE at the name of a declarator that is whole

abbrev step_of : ℕ → Shape → Step
step_of m shape = record { number = m; shape = shape }

name_is : (m : ℕ) (shape : Shape) (steps : List Step) (n : NameNode) → name_of (step_of m shape ∷ steps) ≡ Some n → step_of m shape ≡ step_of n.number (Names n.name)
name_is m (Names x) steps n e =
    let z : record { name = x; number = m } ≡ n = cc in
    ap (λ y. step_of y.number (Names y.name)) z
name_is m Keeps steps n e = cc
name_is m Points steps n e = cc
name_is m (Sized size) steps n e = cc
name_is m Unsized steps n e = cc
name_is m (Takes parameters level) steps n e = cc

closed_last : (tags : Tags) (by : LengthBy) (type : TypeTree) (steps : List Step) (m : ℕ) (x : List ℕ) (types : List TypeTree) (made : TypeTree × List TypeTree)
    → closed_from tags by type (steps ++ record { number = m; shape = Names x } ∷ []) types ≡ Ok made → m < length types → slice_get made.1 m ≡ Some made.0
closed_last tags by type [] m x types made e h =
    let z : (type, slice_set types m type) ≡ made = cc in
    subst (λ y. slice_get y.1 m ≡ Some y.0) z (get_set types m type h)
closed_last tags by type (step ∷ steps) m x types made e h =
    let r = then_of (broken_at step.number (shaped tags by (list_all makes_no_type (steps ++ record { number = m; shape = Names x } ∷ [])) step.shape type))
    (λ made. closed_from tags by made (steps ++ record { number = m; shape = Names x } ∷ []) (slice_set types step.number made)) made e in
    closed_last tags by r.0 steps m x (slice_set types step.number r.0) made r.2 (subst (λ i. m < i) (sym (length-set types step.number r.0)) h)

closed_name : (tags : Tags) (by : LengthBy) (type : TypeTree) (steps : List Step) (n : NameNode) (types : List TypeTree) (made : TypeTree × List TypeTree)
    → name_of steps ≡ Some n → closed tags by type steps types ≡ Ok made → n.number < length types → slice_get made.1 n.number ≡ Some made.0
closed_name tags by type [] n types made d e h = cc
closed_name tags by type (step ∷ steps) n types made d e h =
    let own = name_is step.number step.shape steps n d in
    let turned : reverse (step ∷ steps) ≡ reverse steps ++ record { number = n.number; shape = Names n.name } ∷ [] =
    reverse_onto steps step [] ∙ ap (λ s. reverse steps ++ s ∷ []) own in
    closed_last tags by type (reverse steps) n.number n.name types made (ap (λ s. closed_from tags by type s types) (sym turned) ∙ e) h

-- THE DECLARATOR of a function

record HeadIs (n : NameNode) (x y : Known) : Type 0 where
  type : TypeTree
  types : length y.types ≡ length x.types
  means : length y.means ≡ length x.means
  there : slice_get y.types n.number ≡ Some type
  autos : y.autos ≡ parameter_count type

head_is : (f : Frame) (steps : List Step) (n : NameNode) (x : Known) (y : Part × Known) → name_of steps ≡ Some n → n.number < length x.types
    → and_then (declare_object (function_declaring f) ByNothing f.base steps (Some n) x) (with_body_open steps) ≡ Ok y → HeadIs n x y.1
head_is f steps n x y d h e =
    let o = then_of (declare_object (function_declaring f) ByNothing f.base steps (Some n) x) (with_body_open steps) y e in
    let rules = naming_rules x.tags (function_declaring f) n.name (in_level n.name (innermost x.names)) in
    let made = then_of (named_with (last_node x) rules (closed x.tags ByNothing f.base steps x.types))
    (λ made. Ok (
      Object made.0 steps (last_node x) (initialiser_role (function_declaring f) made.0),
      declare_as (function_declaring f) n made.0 (record x { types = made.1 }),
    )) o.0 o.1 in
    let shut = named_made (last_node x) rules (closed x.tags ByNothing f.base steps x.types) made.0 made.1 in
    let object = Object made.0.0 steps (last_node x) (initialiser_role (function_declaring f) made.0.0) in
    let q = declare_as (function_declaring f) n made.0.0 (record x { types = made.0.1 }) in
    let m = made.2 in
    let z : (object, q) ≡ o.0 = cc in
    let w = o.2 in
    let v : Ok (object, open_body steps (record q { autos = parameter_count (object_type (Some object) Void) })) ≡ Ok y =
    ap (with_body_open steps) z ∙ w in
    let u : (object, open_body steps (record q { autos = parameter_count (object_type (Some object) Void) })) ≡ y = cc in
    subst (λ p. HeadIs n x p.1) u
    (record {
      type = made.0.0;
      types = closed_count x.tags ByNothing f.base (reverse steps) x.types made.0 shut;
      means = length-set x.means n.number _;
      there = closed_name x.tags ByNothing f.base steps n x.types made.0 d shut h;
      autos = refl;
    })

count_is : (type : TypeTree) → parameter_count type ≡ length (parameter_types type)
count_is (Function result parameters) = refl
count_is type = refl

-- A BLOCK, whose part is a statement

block_is : (at : ℕ) (parts : SyntaxRow) (c : Context) (s : Known) (r : Part × Known) → judge (node kind.Block at parts) c s ≡ Ok r → r.0 ≡ Statement
block_is at parts c s r e =
    let z = with_rules_is _ (role_rules c.role kind.Block) (and_then (judge_parts kind.Block (opened kind.Block c s).0 [] parts (opened kind.Block c s).1) _) r e in
    let x = then_of (judge_parts kind.Block (opened kind.Block c s).0 [] parts (opened kind.Block c s).1) _ r z in
    ap (λ y. y.0) (sym (unless_of [] (Statement, with_node Void Nothing (close_block x.0.1)) r x.2))

statement_same : (k : Kind) (f : Frame) (before : List Part) (part : Part) (s : Known) (q : Part × Known) → part ≡ Statement → behind k f before part none s ≡ Ok q → s ≡ q.1
statement_same k f before part s q h e =
    let g : behind k f before Statement none s ≡ Ok q = ap (λ p. behind k f before p none s) (sym h) ∙ e in
    let z : (Statement, s) ≡ q = cc in
    ap (λ x. x.1) z

-- A FUNCTION'S PARTS

record Defined (label : Label) (row : TypedRow) : Type 0 where
  definition : Definition
  is : definition_in label row ≡ Some definition
  to : ℕ
  numbered : AreNumbered (length (parameter_types definition.name.type)) (numbers (automatics_within definition.block)) to

abbrev AgreeTypes : (types others : List TypeTree) → ℕ → Type 0
AgreeTypes types others bound = (n : ℕ) → n < bound → slice_get types n ≡ slice_get others n

defined_now : (label : Label) (part next : Typed) (others : TypedRow) (name : Label) (to : ℕ) → is_declarator (kind_of_node part) ≡ true → name_label part ≡ Some name
    → AreNumbered (length (parameter_types name.type)) (numbers (automatics_within next)) to → Defined label (more part (more next others))
defined_now label part next others name to k n h = record {
  definition = record { label = label; name = name; block = next };
  is = ap (λ b. if b then defined_by label (name_label part) next else definition_in label (more next others)) k
      ∙ ap (λ o. defined_by label o next) n;
  to = to;
  numbered = h;
}

defined_later : (label : Label) (part next : Typed) (others : TypedRow) → is_declarator (kind_of_node part) ≡ false → Defined label (more next others)
    → Defined label (more part (more next others))
defined_later label part next others k d = record {
  definition = d.definition;
  is = ap (λ b. if b then defined_by label (name_label part) next else definition_in label (more next others)) k ∙ d.is;
  to = d.to;
  numbered = d.numbered;
}

-- the block behind the declarator, whose name has this number
block_defined : (k : Kind) (f : Frame) (before : List Part) (t : Syntax) (at : ℕ) (parts : SyntaxRow) (s x y : Known) (r : List Part × Known) (n : NameNode) (label : Label)
    (types : List TypeTree) (means : List Meant) → length s.means ≡ length s.types → is_declarator (kind_at t) ≡ true → Steady (nodes_of t) s x → NameIn t (next_node s) x n → HeadIs n x y
    → AreStatements parts → judge_parts k f before (more (node kind.Block at parts) none) y ≡ Ok r → AgreeTypes types r.1.types (length r.1.types)
    → Agree means r.1.means (length r.1.types)
    → Defined label (typed_row types means (next_node s) (more t (more (node kind.Block at parts) none)))
block_defined k f before t at parts s x y r n label types means even d a name head v e same_types same_means =
    let u = node kind.Block at parts in
    let c = context k f before kind.Block y in
    let b = then_of (judge u c y) _ r e in
    let q = then_of (behind k f before b.0.0 none b.0.1) _ r b.2 in
    let still = statement_same k f before b.0.0 b.0.1 q.0 (block_is at parts c y b.0 b.1) q.1 in
    let last = q.2 in
    let ended : (before ++ q.0.0 ∷ [], q.0.1) ≡ r = cc in
    let known : b.0.1 ≡ r.1 = still ∙ ap (λ z. z.1) ended in
    let y_even : length y.means ≡ length y.types = head.means ∙ (a.even ∙ sym head.types) in
    let w = tree_steady u c y b.0 y_even b.1 in
    let numbered = automatics_are_numbered u c y b.0 y_even v b.1 in
    let y_count : length y.types ≡ length s.types + nodes_of t = head.types ∙ a.count in
    let within : n.number < length y.types = subst (λ i. n.number < i) (sym head.types) name.within in
    let count = w.count in
    let kept = earlier_labels_stay u c y b.0 y_even b.1 n.number within in
    let r_types : length r.1.types ≡ length y.types + nodes_of u = ap (λ z. length z.types) (sym known) ∙ count in
    let type_there : unwrap_or (slice_get types n.number) Void ≡ head.type =
    ap (λ o. unwrap_or o Void)
    (same_types n.number (omega (arith, within, r_types)) ∙ (ap (λ z. slice_get z.types n.number) (sym known) ∙ (kept.0 ∙ head.there))) in
    let first = next_node y in
    let le : first + nodes_of u ≤ suc (length r.1.types) = omega (arith, r_types) in
    let in_the_end : numbers (automatics_within (typed b.0.1.types b.0.1.means first u)) ≡ numbers (automatics_within (typed types means first u)) =
    within_same b.0.1.types types b.0.1.means means (length r.1.types) first u
    (λ i h. ap (λ z. slice_get z.means i) known ∙ sym (same_means i h)) le in
    let from : y.autos ≡ length (parameter_types (unwrap_or (slice_get types n.number) Void)) =
    head.autos ∙ (count_is head.type ∙ ap (λ type. length (parameter_types type)) (sym type_there)) in
    defined_now label (typed types means (next_node s) t) (typed types means (next_node s + nodes_of t) u) none (label_of types means n.number name.token) b.0.1.autos
    (ap is_declarator (kind_typed types means (next_node s) t) ∙ d) (name.label types means)
    (subst (λ i. AreNumbered (length (parameter_types (unwrap_or (slice_get types n.number) Void))) (numbers (automatics_within (typed types means i u))) b.0.1.autos) y_count
    (subst (λ i. AreNumbered i (numbers (automatics_within (typed types means first u))) b.0.1.autos) from
    (subst (λ ns. AreNumbered y.autos ns b.0.1.autos) in_the_end numbered)))

declarator_there : (k : Kind) (part : Part) → is_declarator k ≡ true → Suits k part → (steps : List Step) × (part ≡ Declarator steps)
declarator_there k (Declarator steps) h u = (steps, refl)
declarator_there k (Object type steps last role) h u = absurd u
declarator_there k (Value o) h u = cc
declarator_there k (Members members) h u = cc
declarator_there k (Enumerator x value) h u = cc
declarator_there k (Parameter type) h u = cc
declarator_there k (NamedType type) h u = cc
declarator_there k (Braced count) h u = cc
declarator_there k (Filled next) h u = cc
declarator_there k (CaseLabel word) h u = cc
declarator_there k DefaultLabel h u = cc
declarator_there k Statement h u = cc

none_there : (k : Kind) (part : Part) → is_declarator k ≡ false → Suits k part → is_declarator_part part ≡ false
none_there k (Declarator steps) h u = cc
none_there k part h u = refl

head_from : (f : Frame) (steps : List Step) (x : Known) (y : Part × Known) (o : Option NameNode) → name_of steps ≡ o
    → ((n : NameNode) → name_of steps ≡ Some n → n.number < length x.types)
    → and_then (declare_object (function_declaring f) ByNothing f.base steps o x) (with_body_open steps) ≡ Ok y
    → (n : NameNode) × (name_of steps ≡ Some n) × HeadIs n x y.1
head_from f steps x y None d h e = cc
head_from f steps x y (Some n) d h e = (n, d, head_is f steps n x y d (h n d) e)

head_by : (spec : Spec) (f : Frame) (before : List Part) (part : Part) (steps : List Step) (rest : SyntaxRow) (x : Known) (y : Part × Known)
    → part ≡ Declarator steps → ((n : NameNode) → name_of steps ≡ Some n → n.number < length x.types)
    → behind (kind.Function spec) f before part rest x ≡ Ok y → (n : NameNode) × (name_of steps ≡ Some n) × HeadIs n x y.1
head_by spec f before part steps rest x y p h e =
    head_from f steps x y (name_of steps) refl h (ap (λ q. behind (kind.Function spec) f before q rest x) (sym p) ∙ e)

-- from a part on, up to the block

name_within : (t : Syntax) (s x : Known) (n : NameNode) → NameIn t (next_node s) x n → n.number < length x.types
name_within t s x n a = a.within

part_defined : (declares : Bool) (spec : Spec) (f : Frame) (before : List Part) (t u : Syntax) (us : SyntaxRow) (s : Known) (x y : Part × Known) (r : List Part × Known) (label : Label)
    (types : List TypeTree) (means : List Meant) → is_declarator (kind_at t) ≡ declares → length s.means ≡ length s.types
    → Either declares (IsBody u us) (HasBody (more u us)) → judge t (context (kind.Function spec) f before (kind_at t) s) s ≡ Ok x
    → behind (kind.Function spec) f before x.0 (more u us) x.1 ≡ Ok y → judge_parts (kind.Function spec) f (before ++ y.0 ∷ []) (more u us) y.1 ≡ Ok r
    → AgreeTypes types r.1.types (length r.1.types) → Agree means r.1.means (length r.1.types)
    → (length y.1.means ≡ length y.1.types → HasBody (more u us) → Defined label (typed_row types means (next_node y.1) (more u us)))
    → Defined label (typed_row types means (next_node s) (more t (more u us)))
part_defined true spec f before t (node kind.Block at parts) none s x y r label types means d even h e g rest a b again =
    let c = context (kind.Function spec) f before (kind_at t) s in
    let own = declarator_there (kind_at t) x.0 d (tree_suits t c s x e) in
    let name = tree_name t c s x even e own.0 own.1 in
    let head = head_by spec f before x.0 own.0 (more (node kind.Block at parts) none) x.1 y own.1 (λ n i. name_within t s x.1 n (name n i)) g in
    block_defined (kind.Function spec) f (before ++ y.0 ∷ []) t at parts s x.1 y.1 r head.0 label types means even d (tree_steady t c s x even e) (name head.0 head.1)
    head.2 h rest a b
part_defined true spec f before t u us s x y r label types means d even h e g rest a b again = absurd h
part_defined false spec f before t u us s x y r label types means d even h e g rest a b again =
    let c = context (kind.Function spec) f before (kind_at t) s in
    let calm = other_calm (kind.Function spec) f before x.0 (more u us) x.1 y refl (none_there (kind_at t) x.0 d (tree_suits t c s x e)) g in
    let st = part_steady (nodes_of t) s x.1 y.1 (some_nodes t) (tree_steady t c s x even e) calm in
    defined_later label (typed types means (next_node s) t) (typed types means (next_node s + nodes_of t) u)
    (typed_row types means (next_node s + nodes_of t + nodes_of u) us) (ap is_declarator (kind_typed types means (next_node s) t) ∙ d)
    (subst (λ i. Defined label (typed_row types means i (more u us))) st.count (again st.even h))

parts_defined : (spec : Spec) (f : Frame) (before : List Part) (ts : SyntaxRow) (s : Known) (r : List Part × Known) (label : Label) (types : List TypeTree) (means : List Meant)
    → length s.means ≡ length s.types → HasBody ts → judge_parts (kind.Function spec) f before ts s ≡ Ok r → AgreeTypes types r.1.types (length r.1.types)
    → Agree means r.1.means (length r.1.types) → Defined label (typed_row types means (next_node s) ts)
parts_defined spec f before none s r label types means even h e a b = absurd h
parts_defined spec f before (more t none) s r label types means even h e a b = absurd h
parts_defined spec f before (more t (more u us)) s r label types means even h e a b =
    let c = context (kind.Function spec) f before (kind_at t) s in
    let x = then_of (judge t c s) _ r e in
    let y = then_of (behind (kind.Function spec) f before x.0.0 (more u us) x.0.1) _ r x.2 in
    part_defined (is_declarator (kind_at t)) spec f before t u us s x.0 y.0 r label types means refl even h x.1 y.1 y.2 a b
    (λ even_then body. parts_defined spec f (before ++ y.0.0 ∷ []) (more u us) y.0.1 r label types means even_then body y.2 a b)

-- THE FILE

-- a function's parts leave as many meanings as types
parts_even : (spec : Spec) (f : Frame) (parts : SyntaxRow) (s : Known) (r : List Part × Known) → length s.means ≡ length s.types
    → judge_parts (kind.Function spec) f [] parts s ≡ Ok r → length r.1.means ≡ length r.1.types
parts_even spec f parts s r h e =
    let kinds = statements (next_node s) in
    let all : AreKnown kinds s = record { types = sym (statements_length (next_node s)); means = h ∙ sym (statements_length (next_node s)) } in
    let x = row_stays kinds (kind.Function spec) f [] parts s all tt r e in
    let k = x.known in
    k.means ∙ sym k.types

function_numbered : (spec : Spec) (at : ℕ) (parts : SyntaxRow) (c : Context) (s : Known) (r : Part × Known) (types : List TypeTree) (means : List Meant)
    → length s.means ≡ length s.types → HasBody parts → judge (node (kind.Function spec) at parts) c s ≡ Ok r → AgreeTypes types r.1.types (length r.1.types)
    → Agree means r.1.means (length r.1.types) → IsNumbered (typed types means (next_node s) (node (kind.Function spec) at parts))
function_numbered spec at parts c s r types means even h e a b =
    let k = kind.Function spec in
    let q = (opened k c s).1 in
    let o = opened_alike k c s in
    let z = with_rules_is _ (role_rules c.role k) (and_then (judge_parts k (opened k c s).0 [] parts q) _) r e in
    let x = then_of (judge_parts k (opened k c s).0 [] parts q) _ r z in
    let q_even : length q.means ≡ length q.types = ap length o.means ∙ (even ∙ sym (ap length o.types)) in
    let next : next_node q ≡ next_node s = ap length o.types in
    let w = unless_of _ (Statement, with_node Void Nothing (close_level x.0.1)) r x.2 in
    let known : with_node Void Nothing (close_level x.0.1) ≡ r.1 = ap (λ y. y.1) w in
    let x_even = parts_even spec (opened k c s).0 parts q x.0 q_even x.1 in
    let more_types : length r.1.types ≡ suc (length x.0.1.types) = ap (λ y. length y.types) (sym known) ∙ length_last x.0.1.types Void in
    let label = label_of types means (next_node s + nodes_of_row parts) at in
    let d : Defined label (typed_row types means (next_node s) parts) =
    subst (λ i. Defined label (typed_row types means i parts)) next
    (parts_defined spec (opened k c s).0 [] parts q x.0 label types means q_even h x.1
    (λ n i. a n (omega (arith, i, more_types)) ∙ (ap (λ y. slice_get y.types n) (sym known) ∙ get_before x.0.1.types (Void ∷ []) n i))
    (λ n i. b n (omega (arith, i, more_types)) ∙ (ap (λ y. slice_get y.means n) (sym known)
    ∙ get_before x.0.1.means (Nothing ∷ []) n (subst (λ m. n < m) (sym x_even) i)))) in
    record { definition = d.definition; is = d.is; to = d.to; numbered = d.numbered }

rest_kept : (items : SyntaxRow) (s r : Known) → length s.means ≡ length s.types → judge_items items s ≡ Ok r
    → ((n : ℕ) → n < length s.types → (n < length r.types) × (slice_get r.types n ≡ slice_get s.types n))
    × ((n : ℕ) → n < length s.types → (n < length r.types) × (slice_get r.means n ≡ slice_get s.means n))
rest_kept none s r even e =
    let z : s ≡ r = cc in
    subst
    (λ x. ((n : ℕ) → n < length s.types → (n < length x.types) × (slice_get x.types n ≡ slice_get s.types n))
    × ((n : ℕ) → n < length s.types → (n < length x.types) × (slice_get x.means n ≡ slice_get s.means n)))
    z (λ n h. (h, refl), λ n h. (h, refl))
rest_kept (more t ts) s r even e =
    let x = then_of (judge t file_context s) _ r e in
    let w = tree_steady t file_context s x.0 even x.1 in
    let l = rest_kept ts x.0.1 r w.even x.2 in
    let count = w.count in (
      λ n h.
          let inside : n < length x.0.1.types = omega (arith, h, count) in
          ((l.0 n inside).0, (l.0 n inside).1 ∙ (earlier_labels_stay t file_context s x.0 even x.1 n h).0),
      λ n h.
          let inside : n < length x.0.1.types = omega (arith, h, count) in
          ((l.1 n inside).0, (l.1 n inside).1 ∙ (earlier_labels_stay t file_context s x.0 even x.1 n h).1),
    )

item_numbered : (types : List TypeTree) (means : List Meant) (t : Syntax) (s : Known) (r : Part × Known) → length s.means ≡ length s.types → IsOrderly t
    → judge t file_context s ≡ Ok r → AgreeTypes types r.1.types (length r.1.types) → Agree means r.1.means (length r.1.types)
    → FunctionIsNumbered (typed types means (next_node s) t)
item_numbered types means (node (kind.Function spec) at parts) s r even h e a b = function_numbered spec at parts file_context s r types means even h e a b
item_numbered types means (node k at parts) s r even h e a b = tt

-- what a file has in the end is what it has behind an item, for the nodes up to there

items_numbered : (types : List TypeTree) (means : List Meant) (items : SyntaxRow) (s r : Known) → length s.means ≡ length s.types → AreOrderly items → judge_items items s ≡ Ok r
    → AgreeTypes types r.types (length r.types) → Agree means r.means (length r.types) → FunctionsAreNumberedIn (typed_row types means (next_node s) items)
items_numbered types means none s r even h e a b = tt
items_numbered types means (more t ts) s r even h e a b =
    let x = then_of (judge t file_context s) _ r e in
    let w = tree_steady t file_context s x.0 even x.1 in
    let l = rest_kept ts x.0.1 r w.even x.2 in (
      item_numbered types means t s x.0 even h.0 x.1 (λ n i. a n (l.0 n i).0 ∙ (l.0 n i).1) (λ n i. b n (l.1 n i).0 ∙ (l.1 n i).1),
      subst (λ i. FunctionsAreNumberedIn (typed_row types means i ts)) w.count (items_numbered types means ts x.0.1 r w.even h.1 x.2 a b),
    )

pub functions_are_numbered : FunctionsAreNumbered
functions_are_numbered items marks t e h =
    let x = then_of (judge_items items (known_first (names_with_bodies items))) _ t e in
    let z : typing_of marks x.0 ≡ t = cc in
    subst (λ u. FunctionsAreNumberedIn (typed_row u.types u.means 0 items)) z
    (items_numbered x.0.types x.0.means items (known_first (names_with_bodies items)) x.0 refl h x.1 (λ n i. refl) (λ n i. refl))
