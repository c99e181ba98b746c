-- The node of a declarator's name, which is no enumeration constant before the declarator is whole.
use Rattle.std.proofs.Common.{◌≡◌, ◌≤◌, ◌<◌, ℕ, ◌+◌, Bool, true, false, if◌then◌else◌, List, [], ◌∷◌, ◌++◌, length, unwrap_or, Some, Ok, refl, sym, ap, subst, ◌∙◌, arith}
use Rattle.p9_lang.specs.declared.tree.Kind.{Kind}
use Rattle.p9_lang.specs.declared.tree.Kind.TheVariants as kind
use Rattle.p9_lang.specs.Trees.{node, none, more, Syntax, SyntaxRow, nodes_of_row}
use Rattle.p9_lang.specs.Types.{TypeTree, Void, Meant, Nothing, Outer, Static, Auto, EnumValue, TypeName, type_row}
use Rattle.p9_lang.specs.Rules.{and_then}
use Rattle.p9_lang.specs.Scopes.{Known, with_node, next_node, innermost, close_level}
use Rattle.p9_lang.specs.Declarators.{Step, Shape, Names, Keeps, Points, Sized, Unsized, Takes, NameNode, name_of}
use Rattle.p9_lang.specs.Parts.{Context, Part, Value, Declarator, Object, Members, Enumerator, Parameter, NamedType, Braced, Filled, CaseLabel, Statement, DefaultLabel, Frame, Judged, is_declarator, kind_at, inner_steps, parameter_types}
use Rattle.p9_lang.specs.Symbols.{name_label, first_label}
use Rattle.p9_lang.specs.Modules.{label_of, typed, typed_row}
use Rattle.p9_lang.specs.Opening.{opened, context}
use Rattle.p9_lang.specs.Declaring.{broken_rules, behind, declared, with_members}
use Rattle.p9_lang.specs.Typing.{has, typeless, stepped, step_at, is_block_static, judged_brackets, judge, judge_parts, role_rules}
use Rattle.p9_lang.proofs.Counting.{then_of, unless_of}
use Rattle.p9_sound.proofs.Numbering.{get_last, get_before, length_last, name_number}
use Rattle.p9_sound.proofs.Labels.{with_rules_is}
use Rattle.p9_sound.proofs.Ending.{meant_in}
use Rattle.p9_sound.proofs.Operands.{initialised_part}
use Rattle.p9_sound.proofs.Counts.{judged_plainly, Suits, closes, is_declarator_part}
use Rattle.p9_sound.proofs.NamesOf.{tree_steady, row_steady}

-- MEANINGS that are values of enumeration constants

abbrev pub value_of : Meant → List ℕ
value_of (EnumValue value) = value ∷ []
value_of Nothing = []
value_of (Outer name) = []
value_of (Static number) = []
value_of (Auto number) = []
value_of (TypeName type) = []

-- THE NAME'S NODE of a declarator

pub record NameIn (t : Syntax) (first : ℕ) (r : Known) (n : NameNode) : Type 0 where
  pub token : ℕ
  pub label : (types : List TypeTree) (means : List Meant) → name_label (typed types means first t) ≡ Some (label_of types means n.number token)
  pub from : first ≤ n.number
  pub within : n.number < length r.types
  pub waits : value_of (meant_in r.means n.number) ≡ []

record NameInRow (ts : SyntaxRow) (first : ℕ) (r : Known) (n : NameNode) : Type 0 where
  token : ℕ
  label : (types : List TypeTree) (means : List Meant) → first_label (typed_row types means first ts) ≡ Some (label_of types means n.number token)
  from : first ≤ n.number
  within : n.number < length r.types
  waits : value_of (meant_in r.means n.number) ≡ []

abbrev is_name : Shape → Bool
is_name (Names x) = true
is_name shape = false

name_first : (m : ℕ) (shape : Shape) (xs ys : List Step) → name_of (record { number = m; shape = shape } ∷ xs) ≡ name_of (record { number = m; shape = shape } ∷ ys)
name_first m (Names x) xs ys = refl
name_first m Keeps xs ys = refl
name_first m Points xs ys = refl
name_first m (Sized length) xs ys = refl
name_first m Unsized xs ys = refl
name_first m (Takes parameters level) xs ys = refl

no_name : (m : ℕ) (shape : Shape) (n : NameNode) → is_name shape ≡ false → name_of (record { number = m; shape = shape } ∷ []) ≡ Some n → ⊥
no_name m (Names x) n h e = cc
no_name m Keeps n h e = cc
no_name m Points n h e = cc
no_name m (Sized length) n h e = cc
no_name m Unsized n h e = cc
no_name m (Takes parameters level) n h e = cc

inner_name : (xs : List Step) (m : ℕ) (shape : Shape) (n : NameNode) → is_name shape ≡ false → name_of (xs ++ record { number = m; shape = shape } ∷ []) ≡ Some n
    → name_of xs ≡ Some n
inner_name [] m shape n h e = absurd (no_name m shape n h e)
inner_name (step ∷ xs) m shape n h e =
    name_first step.number step.shape xs (xs ++ record { number = m; shape = shape } ∷ []) ∙ e

-- the first part, which has the steps within

row_head : (k : Kind) (f : Frame) (part : Part) (before : List Part) (ts : SyntaxRow) (s : Known) (r : List Part × Known) → judge_parts k f (part ∷ before) ts s ≡ Ok r
    → (rest : List Part) × (r.0 ≡ part ∷ rest)
row_head k f part before none s r e = let z : (part ∷ before, s) ≡ r = cc in (before, ap (λ x. x.0) (sym z))
row_head k f part before (more t ts) s r e =
    let x = then_of (judge t (context k f (part ∷ before) (kind_at t) s) s) _ r e in
    let y = then_of (behind k f (part ∷ before) x.0.0 ts x.0.1) _ r x.2 in
    row_head k f part (before ++ y.0.0 ∷ []) ts y.0.1 r y.2

inner_head : (part : Part) (rest : List Part) (n : NameNode) → name_of (inner_steps (part ∷ rest)) ≡ Some n → (steps : List Step) × (part ≡ Declarator steps) × (name_of steps ≡ Some n)
inner_head (Declarator steps) rest n e = (steps, refl, e)
inner_head (Value o) rest n e = cc
inner_head (Object type steps last role) rest n e = cc
inner_head (Members members) rest n e = cc
inner_head (Enumerator x value) rest n e = cc
inner_head (Parameter type) rest n e = cc
inner_head (NamedType type) rest n e = cc
inner_head (Braced count) rest n e = cc
inner_head (Filled next) rest n e = cc
inner_head (CaseLabel word) rest n e = cc
inner_head DefaultLabel rest n e = cc
inner_head Statement rest n e = cc

-- behind a declarator within a declarator nothing changes, and nothing else becomes one

no_declarator : (part : Part) (steps : List Step) → is_declarator_part part ≡ false → part ≡ Declarator steps → ⊥
no_declarator part steps h e = let z : false ≡ true = sym h ∙ ap is_declarator_part e in cc

declared_same : (k : Kind) (f : Frame) (before : List Part) (steps : List Step) (rest : SyntaxRow) (s : Known) (q : Part × Known) → closes k ≡ false
    → declared k f before steps rest s ≡ Ok q → (Declarator steps, s) ≡ q
declared_same (kind.Declaration spec inits) f before steps rest s q h e = cc
declared_same (kind.Function spec) f before steps rest s q h e = cc
declared_same (kind.Member spec) f before steps rest s q h e = cc
declared_same (kind.Param spec) f before steps rest s q h e = cc
declared_same (kind.NamedType spec) f before steps rest s q h e = cc
declared_same k f before steps rest s q h e = cc

-- what is no declarator doesn't become one
still_none : (part : Part) (s : Known) (m : Judged) (q : Part × Known) → is_declarator_part part ≡ false → m ≡ Ok (part, s) → m ≡ Ok q → is_declarator_part q.0 ≡ false
still_none part s m q h d e = let z : (part, s) ≡ q = cc in subst (λ x. is_declarator_part x.0 ≡ false) z h

behind_none : (k : Kind) (f : Frame) (before : List Part) (part : Part) (rest : SyntaxRow) (s : Known) (q : Part × Known) → is_declarator_part part ≡ false
    → behind k f before part rest s ≡ Ok q → is_declarator_part q.0 ≡ false
behind_none k f before (Value o) rest s q h e = subst (λ x. is_declarator_part x ≡ false) (initialised_part k f before (Value o) s q e) refl
behind_none k f before (Braced count) rest s q h e = subst (λ x. is_declarator_part x ≡ false) (initialised_part k f before (Braced count) s q e) refl
behind_none k f before (Declarator steps) rest s q h e = cc
behind_none k f before (Enumerator x value) rest s q h e = subst (λ y. is_declarator_part y.0 ≡ false) (unless_of _ _ q e) refl
behind_none k f before (Members members) rest s q h e =
    still_none (Members members) (with_members f before (Members members) s) (Ok (Members members, with_members f before (Members members) s)) q refl refl e
behind_none k f before (CaseLabel word) rest s q h e = subst (λ y. is_declarator_part y.0 ≡ false) (unless_of _ _ q e) refl
behind_none k f before DefaultLabel rest s q h e = subst (λ y. is_declarator_part y.0 ≡ false) (unless_of _ _ q e) refl
behind_none k f before (Object type steps last role) rest s q h e =
    still_none (Object type steps last role) s (Ok (Object type steps last role, s)) q refl refl e
behind_none k f before (Parameter type) rest s q h e = still_none (Parameter type) s (Ok (Parameter type, s)) q refl refl e
behind_none k f before (NamedType type) rest s q h e = still_none (NamedType type) s (Ok (NamedType type, s)) q refl refl e
behind_none k f before (Filled next) rest s q h e = still_none (Filled next) s (Ok (Filled next, s)) q refl refl e
behind_none k f before Statement rest s q h e = still_none Statement s (Ok (Statement, s)) q refl refl e

behind_same : (k : Kind) (f : Frame) (before : List Part) (part : Part) (rest : SyntaxRow) (s : Known) (q : Part × Known) (steps : List Step) → closes k ≡ false
    → behind k f before part rest s ≡ Ok q → q.0 ≡ Declarator steps → (part ≡ Declarator steps) × (s ≡ q.1)
behind_same k f before (Declarator inner) rest s q steps h e d =
    let z = declared_same k f before inner rest s q h e in
    (ap (λ x. x.0) z ∙ d, ap (λ x. x.1) z)
behind_same k f before part rest s q steps h e d =
    absurd (no_declarator q.0 steps (behind_none k f before part rest s q refl e) d)

-- A STEP that is added

record SteppedAs (inner : List Step) (s : Known) (r : Part × Known) : Type 0 where
  shape : Shape
  plain : is_name shape ≡ false
  part : r.0 ≡ Declarator (inner ++ step_at s shape ∷ [])
  types : r.1.types ≡ s.types ++ Void ∷ []
  means : r.1.means ≡ s.means ++ Nothing ∷ []

stepped_as : (inner : List Step) (shape : Shape) (s q : Known) (r : Part × Known) → is_name shape ≡ false → q.types ≡ s.types → q.means ≡ s.means
    → stepped inner shape q ≡ Ok r → SteppedAs inner s r
stepped_as inner shape s q r p a b e =
    let z = unless_of (broken_rules (next_node q) []) (Declarator (inner ++ step_at q shape ∷ []), with_node Void Nothing q) r e in
    record {
      shape = shape;
      plain = p;
      part = ap (λ x. x.0) (sym z) ∙ ap (λ i. Declarator (inner ++ record { number = i; shape = shape } ∷ [])) (ap length a);
      types = ap (λ x. x.1.types) (sym z) ∙ ap (λ xs. xs ++ Void ∷ []) a;
      means = ap (λ x. x.1.means) (sym z) ∙ ap (λ xs. xs ++ Nothing ∷ []) b;
    }

brackets_as : (parts : List Part) (s : Known) (r : Part × Known) → judged_brackets parts s ≡ Ok r → SteppedAs (inner_steps parts) s r
brackets_as [] s r e = stepped_as [] Unsized s s r refl refl refl e
brackets_as (Value o ∷ []) s r e = stepped_as [] (Sized o.constant) s s r refl refl refl e
brackets_as (Declarator steps ∷ []) s r e = stepped_as steps Unsized s s r refl refl refl e
brackets_as (Declarator steps ∷ (Value o ∷ [])) s r e = stepped_as steps (Sized o.constant) s s r refl refl refl e
brackets_as _ s r e = cc

same_steps : (p : Part) (xs ys : List Step) → p ≡ Declarator xs → p ≡ Declarator ys → xs ≡ ys
same_steps p xs ys e f = let z : Declarator xs ≡ Declarator ys = sym e ∙ f in cc

-- the node of a step, by its parts
step_name : (k : Kind) (at : ℕ) (parts : SyntaxRow) (first : ℕ) (inner : List Part) (s : Known) (r : Part × Known) (steps : List Step) (n : NameNode)
    → ((types : List TypeTree) (means : List Meant) → name_label (typed types means first (node k at parts)) ≡ first_label (typed_row types means first parts))
    → length s.means ≡ length s.types → SteppedAs (inner_steps inner) s r → r.0 ≡ Declarator steps → name_of steps ≡ Some n
    → (name_of (inner_steps inner) ≡ Some n → NameInRow parts first s n) → NameIn (node k at parts) first r.1 n
step_name k at parts first inner s r steps n labels even a p e row =
    let all : steps ≡ inner_steps inner ++ step_at s a.shape ∷ [] = same_steps r.0 steps (inner_steps inner ++ step_at s a.shape ∷ []) p a.part in
    let x = row (inner_name (inner_steps inner) (next_node s) a.shape n a.plain (ap name_of (sym all) ∙ e)) in
    let w = x.within in
    record {
      token = x.token;
      label = λ types means. labels types means ∙ x.label types means;
      from = x.from;
      within = subst (λ xs. n.number < length xs) (sym a.types) (subst (λ i. n.number < i) (sym (length_last s.types Void)) (omega (arith, w)));
      waits = ap (λ xs. value_of (meant_in xs n.number)) a.means
          ∙ (ap (λ o. value_of (unwrap_or o Nothing)) (get_before s.means (Nothing ∷ []) n.number (subst (λ i. n.number < i) (sym even) w)) ∙ x.waits);
    }

-- the name itself
record NamedAs (x : List ℕ) (s : Known) (r : Part × Known) : Type 0 where
  meant : Meant
  plain : value_of meant ≡ []
  part : r.0 ≡ Declarator (step_at s (Names x) ∷ [])
  types : r.1.types ≡ s.types ++ Void ∷ []
  means : r.1.means ≡ s.means ++ meant ∷ []

named_as : (b : Bool) (x : List ℕ) (s q : Known) (r : Part × Known) → q.types ≡ s.types → q.means ≡ s.means
    → (if b then has [] Void (Static s.statics) (Declarator (step_at s (Names x) ∷ [])) q else typeless [] (Declarator (step_at s (Names x) ∷ [])) s) ≡ Ok r
    → NamedAs x s r
named_as true x s q r a b e =
    let z = unless_of (broken_rules (next_node q) []) (Declarator (step_at s (Names x) ∷ []), with_node Void (Static s.statics) q) r e in
    record {
      meant = Static s.statics;
      plain = refl;
      part = ap (λ y. y.0) (sym z);
      types = ap (λ y. y.1.types) (sym z) ∙ ap (λ xs. xs ++ Void ∷ []) a;
      means = ap (λ y. y.1.means) (sym z) ∙ ap (λ xs. xs ++ Static s.statics ∷ []) b;
    }
named_as false x s q r a b e =
    let z = unless_of (broken_rules (next_node s) []) (Declarator (step_at s (Names x) ∷ []), with_node Void Nothing s) r e in
    record {
      meant = Nothing;
      plain = refl;
      part = ap (λ y. y.0) (sym z);
      types = ap (λ y. y.1.types) (sym z);
      means = ap (λ y. y.1.means) (sym z);
    }

own_name : (x : List ℕ) (at : ℕ) (parts : SyntaxRow) (first : ℕ) (s : Known) (r : Part × Known) (steps : List Step) (n : NameNode) → length s.means ≡ length s.types
    → length s.types ≡ first + nodes_of_row parts → NamedAs x s r → r.0 ≡ Declarator steps → name_of steps ≡ Some n → NameIn (node (kind.DeclName x) at parts) first r.1 n
own_name x at parts first s r steps n even count a p e =
    let all : steps ≡ step_at s (Names x) ∷ [] = same_steps r.0 steps (step_at s (Names x) ∷ []) p a.part in
    let m : n.number ≡ length s.types = name_number (length s.types) (Names x) [] n (ap name_of (sym all) ∙ e) in
    record {
      token = at;
      label = λ types means. ap (λ i. Some (label_of types means i at)) (sym (m ∙ count));
      from = omega arith;
      within = subst (λ xs. n.number < length xs) (sym a.types) (subst (λ i. n.number < i) (sym (length_last s.types Void)) (omega (arith, m)));
      waits = ap (λ xs. value_of (meant_in xs n.number)) a.means
          ∙ (ap (λ i. value_of (meant_in (s.means ++ a.meant ∷ []) i)) (m ∙ sym even)
          ∙ (ap (λ o. value_of (unwrap_or o Nothing)) (get_last s.means a.meant) ∙ a.plain));
    }

-- THE RECURSION

mutual
  pub tree_name : (t : Syntax) (c : Context) (s : Known) (r : Part × Known) → length s.means ≡ length s.types → judge t c s ≡ Ok r
      → (steps : List Step) → r.0 ≡ Declarator steps → (n : NameNode) → name_of steps ≡ Some n → NameIn t (next_node s) r.1 n
  tree_name (node (kind.DeclName x) at parts) c s r h e steps p n d =
      let z = with_rules_is _ (role_rules c.role (kind.DeclName x)) (and_then (judge_parts (kind.DeclName x) (opened (kind.DeclName x) c s).0 [] parts s) _) r e in
      let y = then_of (judge_parts (kind.DeclName x) (opened (kind.DeclName x) c s).0 [] parts s) _ r z in
      let w = row_steady (kind.DeclName x) (opened (kind.DeclName x) c s).0 [] parts s y.0 refl h y.1 in
      own_name x at parts (next_node s) y.0.1 r steps n w.even w.count
      (named_as (is_block_static c.role) x y.0.1 (record y.0.1 { statics = y.0.1.statics + 1 }) r refl refl y.2) p d
  tree_name (node (kind.Star volatiles) at parts) c s r h e steps p n d =
      let z = with_rules_is _ (role_rules c.role (kind.Star volatiles)) (and_then (judge_parts (kind.Star volatiles) (opened (kind.Star volatiles) c s).0 [] parts s) _) r e in
      let y = then_of (judge_parts (kind.Star volatiles) (opened (kind.Star volatiles) c s).0 [] parts s) _ r z in
      let w = row_steady (kind.Star volatiles) (opened (kind.Star volatiles) c s).0 [] parts s y.0 refl h y.1 in
      step_name (kind.Star volatiles) at parts (next_node s) y.0.0 y.0.1 r steps n (λ types means. refl) w.even
      (stepped_as (inner_steps y.0.0) Points y.0.1 y.0.1 r refl refl refl y.2) p d
      (λ inner. row_name (kind.Star volatiles) (opened (kind.Star volatiles) c s).0 parts s y.0 refl h y.1 n inner)
  tree_name (node kind.DeclParens at parts) c s r h e steps p n d =
      let z = with_rules_is _ (role_rules c.role kind.DeclParens) (and_then (judge_parts kind.DeclParens (opened kind.DeclParens c s).0 [] parts s) _) r e in
      let y = then_of (judge_parts kind.DeclParens (opened kind.DeclParens c s).0 [] parts s) _ r z in
      let w = row_steady kind.DeclParens (opened kind.DeclParens c s).0 [] parts s y.0 refl h y.1 in
      step_name kind.DeclParens at parts (next_node s) y.0.0 y.0.1 r steps n (λ types means. refl) w.even
      (stepped_as (inner_steps y.0.0) Keeps y.0.1 y.0.1 r refl refl refl y.2) p d
      (λ inner. row_name kind.DeclParens (opened kind.DeclParens c s).0 parts s y.0 refl h y.1 n inner)
  tree_name (node (kind.Brackets has_inner sized) at parts) c s r h e steps p n d =
      let k = kind.Brackets has_inner sized in
      let z = with_rules_is _ (role_rules c.role k) (and_then (judge_parts k (opened k c s).0 [] parts s) _) r e in
      let y = then_of (judge_parts k (opened k c s).0 [] parts s) _ r z in
      let w = row_steady k (opened k c s).0 [] parts s y.0 refl h y.1 in
      step_name k at parts (next_node s) y.0.0 y.0.1 r steps n (λ types means. refl) w.even (brackets_as y.0.0 y.0.1 r y.2) p d
      (λ inner. row_name k (opened k c s).0 parts s y.0 refl h y.1 n inner)
  tree_name (node (kind.Params has_inner void_word) at parts) c s r h e steps p n d =
      let k = kind.Params has_inner void_word in
      let q = (opened k c s).1 in
      let z = with_rules_is _ (role_rules c.role k) (and_then (judge_parts k (opened k c s).0 [] parts q) _) r e in
      let y = then_of (judge_parts k (opened k c s).0 [] parts q) _ r z in
      let w = row_steady k (opened k c s).0 [] parts q y.0 refl h y.1 in
      step_name k at parts (next_node s) y.0.0 y.0.1 r steps n (λ types means. refl) w.even
      (stepped_as (inner_steps y.0.0) (Takes (type_row (parameter_types y.0.0)) (innermost y.0.1.names)) y.0.1 (close_level y.0.1) r refl refl refl y.2) p d
      (λ inner. row_name k (opened k c s).0 parts q y.0 refl h y.1 n inner)
  tree_name (node k at parts) c s r h e steps p n d =
      let z = with_rules_is _ (role_rules c.role k) (and_then (judge_parts k (opened k c s).0 [] parts (opened k c s).1) _) r e in
      let y = then_of (judge_parts k (opened k c s).0 [] parts (opened k c s).1) _ r z in
      let x = judged_plainly k (opened k c s).0 y.0.0 y.0.1 r y.2 in
      let f : is_declarator k ≡ true = subst (λ part. Suits k part) p x.suits in
      cc

  row_name : (k : Kind) (f : Frame) (ts : SyntaxRow) (s : Known) (r : List Part × Known) → closes k ≡ false → length s.means ≡ length s.types
      → judge_parts k f [] ts s ≡ Ok r → (n : NameNode) → name_of (inner_steps r.0) ≡ Some n → NameInRow ts (next_node s) r.1 n
  row_name k f none s r c h e n d =
      let z : ([], s) ≡ r = cc in
      let g : name_of [] ≡ Some n = ap (λ x. name_of (inner_steps x.0)) z ∙ d in
      cc
  row_name k f (more t ts) s r c h e n d =
      let x = then_of (judge t (context k f [] (kind_at t) s) s) _ r e in
      let y = then_of (behind k f [] x.0.0 ts x.0.1) _ r x.2 in
      let rest = row_head k f y.0.0 [] ts y.0.1 r y.2 in
      let inner = inner_head y.0.0 rest.0 n (ap (λ ps. name_of (inner_steps ps)) (sym rest.1) ∙ d) in
      let same = behind_same k f [] x.0.0 ts x.0.1 y.0 inner.0 c y.1 inner.1 in
      let a = tree_name t (context k f [] (kind_at t) s) s x.0 h x.1 inner.0 same.0 n inner.2 in
      let b = tree_steady t (context k f [] (kind_at t) s) s x.0 h x.1 in
      let even : length y.0.1.means ≡ length y.0.1.types = subst (λ q. length q.means ≡ length q.types) same.1 b.even in
      let w = row_steady k f (y.0.0 ∷ []) ts y.0.1 r c even y.2 in
      let within : n.number < length y.0.1.types = subst (λ q. n.number < length q.types) same.1 a.within in
      let count = w.count in
      record {
        token = a.token;
        label = a.label;
        from = a.from;
        within = omega (arith, within, count);
        waits = ap (λ o. value_of (unwrap_or o Nothing)) (w.means n.number within)
            ∙ subst (λ q. value_of (meant_in q.means n.number) ≡ []) same.1 a.waits;
      }
