-- The operands of a node are what its parts are in the end.
use Rattle.std.proofs.Common.{◌≡◌, ◌≤◌, ℕ, Bool, true, false, if◌then◌else◌, List, [], ◌∷◌, ◌++◌, length, map, Option, Some, None, Ok, Err, refl, sym, ap, subst, ◌∙◌}
use Rattle.p9_lang.specs.declared.tree.CBinary.{CBinary}
use Rattle.p9_lang.specs.declared.tree.CBinary.TheVariants as operator
use Rattle.p9_lang.specs.declared.tree.Kind.{Kind}
use Rattle.p9_lang.specs.declared.tree.Kind.TheVariants as kind
use Rattle.p9_lang.specs.Trees.{SyntaxRow}
use Rattle.p9_lang.specs.Types.{TypeTree, UInt, Nothing, Tags}
use Rattle.p9_lang.specs.Layout.{Extent, layout, has_layout, is_complete}
use Rattle.p9_lang.specs.Conversions.{is_function}
use Rattle.p9_lang.specs.Rules.{BadOperands, Incomplete, Rule}
use Rattle.p9_lang.specs.Scopes.{Known}
use Rattle.p9_lang.specs.Constants.{Operand, Constant, NotConstant, by_one, by_two, by_three, binary_constant, unary_constant, chosen, on_words, cast_constant, size_constant, size_constant_in, constant_at}
use Rattle.p9_lang.specs.Constants as constants
use Rattle.p9_lang.specs.Expressions.{Verdict, verdict, asks, as_value, size_verdict, of_one}
use Rattle.p9_lang.specs.Parts.{Part, Value, Declarator, Object, Members, Enumerator, Parameter, NamedType, Braced, Filled, CaseLabel, Statement, DefaultLabel, Frame, Judged, last_object, object_role}
use Rattle.p9_lang.specs.Entries.{entry_role, is_index_next}
use Rattle.p9_lang.specs.Declaring.{broken_rules, behind, last_node, declared, enumerated, enumerator_value, with_members, with_length_given, unless_broken, initialiser_rules, initialised}
use Rattle.p9_lang.specs.Typing.{operand, operands_of}
use Rattle.p9_lang.specs.Laws.{KeepsBodies}
use Rattle.p9_lang.proofs.Counting.{then_of, unless_of}
use Rattle.p9_lang.proofs.Layouts.{layouts_stay}
use Rattle.p9_sound.specs.Nodes.{has_verdict, valued}

-- WHAT A PART IS as an operand

abbrev pub IsOperand : Operand → Part → Type 0
IsOperand x (Value o) = x ≡ valued o
IsOperand x (NamedType type) = x ≡ operand type false NotConstant
IsOperand x (Declarator steps) = Unit {0}
IsOperand x (Object type steps last role) = Unit {0}
IsOperand x (Members members) = Unit {0}
IsOperand x (Enumerator name value) = Unit {0}
IsOperand x (Parameter type) = Unit {0}
IsOperand x (Braced count) = Unit {0}
IsOperand x (Filled next) = Unit {0}
IsOperand x (CaseLabel word) = Unit {0}
IsOperand x DefaultLabel = Unit {0}
IsOperand x Statement = Unit {0}

abbrev pub AreOperands : List Operand → List Part → Type 0
AreOperands [] [] = Unit {0}
AreOperands [] (part ∷ parts) = ⊥
AreOperands (x ∷ xs) [] = ⊥
AreOperands (x ∷ xs) (part ∷ parts) = IsOperand x part × AreOperands xs parts

pub one_operand_more : (xs : List Operand) (parts : List Part) (x : Operand) (part : Part) → AreOperands xs parts → IsOperand x part
    → AreOperands (xs ++ x ∷ []) (parts ++ part ∷ [])
one_operand_more [] [] x part f g = (g, tt)
one_operand_more [] (p ∷ ps) x part f g = absurd f
one_operand_more (y ∷ ys) [] x part f g = absurd f
one_operand_more (y ∷ ys) (p ∷ ps) x part f g = (f.0, one_operand_more ys ps x part f.1 g)

-- the parts are these operands
abbrev pub OperandsAre : List Part → List Operand → Type 0
OperandsAre [] [] = Unit {0}
OperandsAre [] (o ∷ os) = ⊥
OperandsAre (Value a ∷ parts) (o ∷ os) = (a ≡ o) × OperandsAre parts os
OperandsAre (NamedType type ∷ parts) (o ∷ os) = (operand type false NotConstant ≡ o) × OperandsAre parts os
OperandsAre parts operands = ⊥

value_some : (o : Operand) (parts : List Part) (others : List Operand) → operands_of parts ≡ Some others → operands_of (Value o ∷ parts) ≡ Some (o ∷ others)
value_some o parts others e = rw e refl

value_none : (o : Operand) (parts : List Part) → operands_of parts ≡ None → operands_of (Value o ∷ parts) ≡ None
value_none o parts e = rw e refl

type_some : (type : TypeTree) (parts : List Part) (others : List Operand) → operands_of parts ≡ Some others
    → operands_of (NamedType type ∷ parts) ≡ Some (operand type false NotConstant ∷ others)
type_some type parts others e = rw e refl

type_none : (type : TypeTree) (parts : List Part) → operands_of parts ≡ None → operands_of (NamedType type ∷ parts) ≡ None
type_none type parts e = rw e refl

none_some : {A : Type 0} (o : Option A) (x : A) → o ≡ None → o ≡ Some x → ⊥
none_some o x e f = let z : None ≡ Some x = sym e ∙ f in cc

same_some : {A : Type 0} (o : Option A) (x y : A) → o ≡ Some x → o ≡ Some y → x ≡ y
same_some o x y e f = let z : Some x ≡ Some y = sym e ∙ f in cc

pub operands_are : (parts : List Part) (operands : List Operand) → operands_of parts ≡ Some operands → OperandsAre parts operands
operands_are [] [] e = tt
operands_are [] (o ∷ os) e = cc
operands_are (Value a ∷ parts) operands e = by (operands_of parts) refl (operands_are parts)
  where
    by : (rest : Option (List Operand)) → operands_of parts ≡ rest → ((os : List Operand) → operands_of parts ≡ Some os → OperandsAre parts os)
        → OperandsAre (Value a ∷ parts) operands
    by None h again = absurd (none_some (operands_of (Value a ∷ parts)) operands (value_none a parts h) e)
    by (Some others) h again =
        let z = same_some (operands_of (Value a ∷ parts)) (a ∷ others) operands (value_some a parts others h) e in
        subst (λ os. OperandsAre (Value a ∷ parts) os) z (refl, again others h)
operands_are (NamedType type ∷ parts) operands e = by (operands_of parts) refl (operands_are parts)
  where
    by : (rest : Option (List Operand)) → operands_of parts ≡ rest → ((os : List Operand) → operands_of parts ≡ Some os → OperandsAre parts os)
        → OperandsAre (NamedType type ∷ parts) operands
    by None h again = absurd (none_some (operands_of (NamedType type ∷ parts)) operands (type_none type parts h) e)
    by (Some others) h again =
        let z = same_some (operands_of (NamedType type ∷ parts)) (operand type false NotConstant ∷ others) operands (type_some type parts others h) e in
        subst (λ os. OperandsAre (NamedType type ∷ parts) os) z (refl, again others h)
operands_are (Declarator steps ∷ parts) operands e = cc
operands_are (Object type steps last role ∷ parts) operands e = cc
operands_are (Members members ∷ parts) operands e = cc
operands_are (Enumerator x value ∷ parts) operands e = cc
operands_are (Parameter type ∷ parts) operands e = cc
operands_are (Braced count ∷ parts) operands e = cc
operands_are (Filled next ∷ parts) operands e = cc
operands_are (CaseLabel word ∷ parts) operands e = cc
operands_are (DefaultLabel ∷ parts) operands e = cc
operands_are (Statement ∷ parts) operands e = cc

pub operands_in : (xs : List Operand) (parts : List Part) (operands : List Operand) → AreOperands xs parts → OperandsAre parts operands → xs ≡ map valued operands
operands_in [] [] [] f e = refl
operands_in [] [] (o ∷ os) f e = absurd e
operands_in [] (part ∷ parts) operands f e = absurd f
operands_in (x ∷ xs) [] operands f e = absurd f
operands_in (x ∷ xs) (Value a ∷ parts) [] f e = absurd e
operands_in (x ∷ xs) (Value a ∷ parts) (o ∷ os) f e =
    let first : x ≡ valued o = f.0 ∙ ap valued e.0 in
    ap (λ y. y ∷ xs) first ∙ ap (λ ys. valued o ∷ ys) (operands_in xs parts os f.1 e.1)
operands_in (x ∷ xs) (NamedType type ∷ parts) [] f e = absurd e
operands_in (x ∷ xs) (NamedType type ∷ parts) (o ∷ os) f e =
    let first : x ≡ valued o = f.0 ∙ ap valued e.0 in
    ap (λ y. y ∷ xs) first ∙ ap (λ ys. valued o ∷ ys) (operands_in xs parts os f.1 e.1)
operands_in (x ∷ xs) (Declarator steps ∷ parts) operands f e = absurd e
operands_in (x ∷ xs) (Object type steps last role ∷ parts) operands f e = absurd e
operands_in (x ∷ xs) (Members members ∷ parts) operands f e = absurd e
operands_in (x ∷ xs) (Enumerator name value ∷ parts) operands f e = absurd e
operands_in (x ∷ xs) (Parameter type ∷ parts) operands f e = absurd e
operands_in (x ∷ xs) (Braced count ∷ parts) operands f e = absurd e
operands_in (x ∷ xs) (Filled next ∷ parts) operands f e = absurd e
operands_in (x ∷ xs) (CaseLabel word ∷ parts) operands f e = absurd e
operands_in (x ∷ xs) (DefaultLabel ∷ parts) operands f e = absurd e
operands_in (x ∷ xs) (Statement ∷ parts) operands f e = absurd e

-- BEHIND A PART it is the same operand, for a node that the table has

if_part : (b : Bool) (part : Part) (s : Known) (rules : List Rule) (q : Part × Known)
    → (if b then Ok (part, s) else unless_broken rules part s) ≡ Ok q → part ≡ q.0
if_part true part s rules q e = let z : (part, s) ≡ q = cc in ap (λ x. x.0) z
if_part false part s rules q e = ap (λ x. x.0) (unless_of (broken_rules (last_node s) rules) (part, s) q e)

pub initialised_part : (k : Kind) (f : Frame) (before : List Part) (part : Part) (s : Known) (q : Part × Known) → initialised k f before part s ≡ Ok q → part ≡ q.0
initialised_part (kind.Declaration spec inits) f before part s q e =
    let x = then_of (with_length_given f.base (last_object before) part s)
    (λ given. unless_broken (initialiser_rules given.tags (object_role (last_object before)) part) part given) q e in
    ap (λ y. y.0) (unless_of (broken_rules (last_node x.0) (initialiser_rules x.0.tags (object_role (last_object before)) part)) (part, x.0) q x.2)
initialised_part (kind.Entry by equals) f before part s q e =
    if_part (is_index_next by before) part s (initialiser_rules s.tags (entry_role s.tags f.context.role by before) part) q e
initialised_part k f before part s q e = let z : (part, s) ≡ q = cc in ap (λ x. x.0) z

still_operand : (x : Operand) (part : Part) (s : Known) (q : Part × Known) → IsOperand x part → (m : Judged) → m ≡ Ok (part, s) → m ≡ Ok q → IsOperand x q.0
still_operand x part s q i m d e = let z : (part, s) ≡ q = cc in subst (λ y. IsOperand x y.0) z i

declared_operand : (x : Operand) (k : Kind) (f : Frame) (before : List Part) (steps : _) (rest : SyntaxRow) (s : Known) (q : Part × Known) → has_verdict k ≡ true
    → declared k f before steps rest s ≡ Ok q → IsOperand x q.0
declared_operand x (kind.Declaration spec inits) f before steps rest s q h e = cc
declared_operand x (kind.Function spec) f before steps rest s q h e = cc
declared_operand x (kind.Member spec) f before steps rest s q h e = cc
declared_operand x (kind.Param spec) f before steps rest s q h e = cc
declared_operand x (kind.NamedType spec) f before steps rest s q h e = cc
declared_operand x k f before steps rest s q h e = still_operand x (Declarator steps) s q tt (Ok (Declarator steps, s)) refl e

unless_operand : (x : Operand) (rules : List Rule) (part : Part) (s : Known) (q : Part × Known) → IsOperand x part → unless_broken rules part s ≡ Ok q → IsOperand x q.0
unless_operand x rules part s q i e =
    subst (λ y. IsOperand x y.0) (unless_of (broken_rules (last_node s) rules) (part, s) q e) i

enumerated_operand : (x : Operand) (name : List ℕ) (value : Constant) (s : Known) (q : Part × Known) → enumerated name value s ≡ Ok q → IsOperand x q.0
enumerated_operand x name value s q e = subst (λ y. IsOperand x y.0) (unless_of _ _ q e) tt

pub behind_operand : (x : Operand) (k : Kind) (f : Frame) (before : List Part) (part : Part) (rest : SyntaxRow) (s : Known) (q : Part × Known) → has_verdict k ≡ true
    → IsOperand x part → behind k f before part rest s ≡ Ok q → IsOperand x q.0
behind_operand x k f before (Value o) rest s q h i e = subst (λ y. IsOperand x y) (initialised_part k f before (Value o) s q e) i
behind_operand x k f before (Braced count) rest s q h i e = subst (λ y. IsOperand x y) (initialised_part k f before (Braced count) s q e) tt
behind_operand x k f before (Declarator steps) rest s q h i e = declared_operand x k f before steps rest s q h e
behind_operand x k f before (Enumerator name value) rest s q h i e = enumerated_operand x name (enumerator_value before value) s q e
behind_operand x k f before (Members members) rest s q h i e =
    still_operand x (Members members) (with_members f before (Members members) s) q tt (Ok (Members members, with_members f before (Members members) s)) refl e
behind_operand x k f before (CaseLabel word) rest s q h i e = unless_operand x _ (CaseLabel word) s q tt e
behind_operand x k f before DefaultLabel rest s q h i e = unless_operand x _ DefaultLabel s q tt e
behind_operand x k f before (Object type steps last role) rest s q h i e =
    still_operand x (Object type steps last role) s q tt (Ok (Object type steps last role, s)) refl e
behind_operand x k f before (Parameter type) rest s q h i e = still_operand x (Parameter type) s q tt (Ok (Parameter type, s)) refl e
behind_operand x k f before (NamedType type) rest s q h i e = still_operand x (NamedType type) s q i (Ok (NamedType type, s)) refl e
behind_operand x k f before (Filled next) rest s q h i e = still_operand x (Filled next) s q tt (Ok (Filled next, s)) refl e
behind_operand x k f before Statement rest s q h i e = still_operand x Statement s q tt (Ok (Statement, s)) refl e

-- THE CONSTANT of a node is the same in the end: sizes that are asked for stay

one_stays : (f g : Operand → Constant) → ((a : Operand) → f a ≡ g (valued a)) → (os : List Operand) → by_one f os ≡ by_one g (map valued os)
one_stays f g h [] = refl
one_stays f g h (a ∷ []) = h a
one_stays f g h (a ∷ (b ∷ os)) = refl

two_stay : (f g : Operand → Operand → Constant) → ((a b : Operand) → f a b ≡ g (valued a) (valued b)) → (os : List Operand) → by_two f os ≡ by_two g (map valued os)
two_stay f g h [] = refl
two_stay f g h (a ∷ []) = refl
two_stay f g h (a ∷ (b ∷ [])) = h a b
two_stay f g h (a ∷ (b ∷ (c ∷ os))) = refl

three_stay : (f g : Operand → Operand → Operand → Constant) → ((a b c : Operand) → f a b c ≡ g (valued a) (valued b) (valued c)) → (os : List Operand)
    → by_three f os ≡ by_three g (map valued os)
three_stay f g h [] = refl
three_stay f g h (a ∷ []) = refl
three_stay f g h (a ∷ (b ∷ [])) = refl
three_stay f g h (a ∷ (b ∷ (c ∷ []))) = h a b c
three_stay f g h (a ∷ (b ∷ (c ∷ (d ∷ os)))) = refl

binary_stays : (op : CBinary) (a b : Operand) → binary_constant op a b ≡ binary_constant op (valued a) (valued b)
binary_stays operator.AndAnd a b = refl
binary_stays operator.OrOr a b = refl
binary_stays op a b = refl

asked_size : (f c : Bool) (v : Verdict) → (if f then Err BadOperands else as_value (asks c Incomplete UInt)) ≡ Ok v → c ≡ true
asked_size true c v e = cc
asked_size false true v e = refl
asked_size false false v e = cc

layout_there : (o : Option Extent) → has_layout o ≡ true → (e : Extent) × (o ≡ Some e)
layout_there None e = cc
layout_there (Some x) e = (x, refl)

pub complete_stays : (before after : Tags) → KeepsBodies before after → length before ≤ length after → (type : TypeTree) → is_complete before type ≡ true
    → layout before type ≡ layout after type
complete_stays before after b n type h =
    let x = layout_there (layout before type) h in
    x.1 ∙ sym (layouts_stay before after type x.0 b n x.1)

size_stays : (before after : Tags) → KeepsBodies before after → length before ≤ length after → (type : TypeTree) (v : Verdict) → size_verdict before type ≡ Ok v
    → size_constant before type ≡ size_constant after type
size_stays before after b n type v e =
    ap size_constant_in (complete_stays before after b n type (asked_size (is_function type) (is_complete before type) v e))

sized_stays : (before after : Tags) → KeepsBodies before after → length before ≤ length after → (os : List Operand) (v : Verdict)
    → of_one (λ a. size_verdict before a.type) os ≡ Ok v
    → by_one (λ a. size_constant before a.type) os ≡ by_one (λ a. size_constant after a.type) (map valued os)
sized_stays before after b n [] v e = refl
sized_stays before after b n (a ∷ []) v e = size_stays before after b n a.type v e
sized_stays before after b n (a ∷ (c ∷ os)) v e = refl

pub constant_stays : (before after : Tags) → KeepsBodies before after → length before ≤ length after → (k : Kind) (is_statement : Bool) (os : List Operand) (v : Verdict)
    → has_verdict k ≡ true → verdict before is_statement k os ≡ Ok v
    → constant_at before k v.type Nothing os ≡ constant_at after k v.type Nothing (map valued os)
constant_stays before after b n (kind.Number value unsigned long) is_statement os v h e = refl
constant_stays before after b n (kind.Character value) is_statement os v h e = refl
constant_stays before after b n kind.Parens is_statement os v h e = one_stays (λ a. a.constant) (λ a. a.constant) (λ a. refl) os
constant_stays before after b n kind.Index is_statement os v h e = refl
constant_stays before after b n kind.Call is_statement os v h e = refl
constant_stays before after b n (kind.Dot arrow x) is_statement os v h e = refl
constant_stays before after b n (kind.Post minus) is_statement os v h e = refl
constant_stays before after b n (kind.Pre minus) is_statement os v h e = refl
constant_stays before after b n (kind.Unary op) is_statement os v h e =
    one_stays (λ a. unary_constant op a.constant) (λ a. unary_constant op a.constant) (λ a. refl) os
constant_stays before after b n kind.SizeofValue is_statement os v h e = sized_stays before after b n os v e
constant_stays before after b n kind.SizeofType is_statement os v h e = sized_stays before after b n os v e
constant_stays before after b n kind.Cast is_statement os v h e =
    two_stay (λ t a. cast_constant v.type a.constant) (λ t a. cast_constant v.type a.constant) (λ t a. refl) os
constant_stays before after b n (kind.Binary op) is_statement os v h e = two_stay (binary_constant op) (binary_constant op) (binary_stays op) os
constant_stays before after b n kind.Choose is_statement os v h e =
    three_stay (λ t a c. chosen t.constant a.constant c.constant) (λ t a c. chosen t.constant a.constant c.constant) (λ t a c. refl) os
constant_stays before after b n (kind.Assign op) is_statement os v h e = refl
constant_stays before after b n kind.Comma is_statement os v h e =
    two_stay (λ a c. on_words (λ x y. constants.Value y) a.constant c.constant) (λ a c. on_words (λ x y. constants.Value y) a.constant c.constant) (λ a c. refl) os
constant_stays before after b n k is_statement os v h e = cc
