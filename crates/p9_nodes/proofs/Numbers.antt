-- The numbers of nodes.
use Rattle.std.proofs.Common.{◌≡◌, ◌+◌, ◌-◌, ◌≤◌, ℕ, zero, suc, Bool, true, IsTrue, List, [], ◌∷◌, map, slice_get, unwrap_or, Option, Some, None, Bor, refl, sym, subst, ap, ◌∙◌, arith}
use Rattle.std.specs.Option.{option_map}
use Rattle.p9_lang.specs.declared.types.CType.{CType}
use Rattle.p9_lang.specs.declared.module.Bind.{Bind}
use Rattle.p9_lang.specs.declared.tree.Node.{Node, out-Node, fold_out-Node}
use Rattle.p9_lang.specs.Types.{TypeTree, Void, Char, UChar, Short, UShort, Int, UInt, Long, ULong, Pointer, Array, Function, Tagged, Meant, Nothing, Outer, Static, Auto, EnumValue, TypeName, type_of, types_of, meant, all_meant}
use Rattle.p9_lang.specs.Conversions.{is_void}
use Rattle.p9_lang.specs.declared.module.Module.{Module}
use Rattle.p9_lang.specs.Modules.{Typed, label_of, typed, typed_row}
use Rattle.p9_lang.specs.Trees.{Syntax, node, none, more, row, syntax_step, syntax_of, row_of, nodes_of, nodes_of_row}
use Rattle.p9_types.proofs.Shapes.{type_of_void}
use Rattle.p9_lang.specs.declared.types.CType.TheVariants as ctype
use Rattle.p9_nodes.specs.Unlabelled.{is_nothing}

row-map : (ns : List Node) → row (map syntax_of ns) ≡ row_of ns
row-map [] = refl
row-map (n ∷ ns) = ap (more (syntax_of n)) (row-map ns)

-- a node that is looked into
pub syntax_of_out : (n : Node) → syntax_of n ≡ node (out-Node n).kind (out-Node n).token (row_of (out-Node n).parts)
unfolding syntax_of
syntax_of_out n = fold_out-Node Syntax syntax_step n ∙ ap (node (out-Node n).kind (out-Node n).token) (row-map (out-Node n).parts)

pub types_at : (ts : List CType) (i : ℕ) → slice_get (types_of ts) i ≡ option_map type_of (slice_get ts i)
types_at [] zero = refl
types_at [] (suc i) = refl
types_at (t ∷ ts) zero = refl
types_at (t ∷ ts) (suc i) = types_at ts i

pub meanings_at : (ms : List Bind) (i : ℕ) → slice_get (all_meant ms) i ≡ option_map meant (slice_get ms i)
meanings_at [] zero = refl
meanings_at [] (suc i) = refl
meanings_at (m ∷ ms) zero = refl
meanings_at (m ∷ ms) (suc i) = meanings_at ms i

pub type_found : (ts : List CType) (i : ℕ) (t : CType) → Some t ≡ slice_get ts i → type_of t ≡ unwrap_or (slice_get (types_of ts) i) Void
type_found ts i t e = ap (λ o. unwrap_or (option_map type_of o) Void) e ∙ ap (λ o. unwrap_or o Void) (sym (types_at ts i))

pub meaning_found : (ms : List Bind) (i : ℕ) (m : Bind) → Some m ≡ slice_get ms i → meant m ≡ unwrap_or (slice_get (all_meant ms) i) Nothing
meaning_found ms i m e = ap (λ o. unwrap_or (option_map meant o) Nothing) e ∙ ap (λ o. unwrap_or o Nothing) (sym (meanings_at ms i))

pub is_void_type : (t : TypeTree) → IsTrue (is_void t) → t ≡ Void
is_void_type Void h = refl
is_void_type Char h = cc
is_void_type UChar h = cc
is_void_type Short h = cc
is_void_type UShort h = cc
is_void_type Int h = cc
is_void_type UInt h = cc
is_void_type Long h = cc
is_void_type ULong h = cc
is_void_type (Pointer target) h = cc
is_void_type (Array element count) h = cc
is_void_type (Function result parameters) h = cc
is_void_type (Tagged tag) h = cc

pub is_nothing_meant : (m : Meant) → IsTrue (is_nothing m) → m ≡ Nothing
is_nothing_meant Nothing h = refl
is_nothing_meant (Outer name) h = cc
is_nothing_meant (Static number) h = cc
is_nothing_meant (Auto number) h = cc
is_nothing_meant (EnumValue value) h = cc
is_nothing_meant (TypeName type) h = cc

pub type_missing : (ts : List CType) (i : ℕ) (t : CType) → None ≡ slice_get ts i → IsTrue (is_void (type_of t)) → type_of t ≡ unwrap_or (slice_get (types_of ts) i) Void
type_missing ts i t e h = is_void_type (type_of t) h ∙ ap (λ o. unwrap_or (option_map type_of o) Void) e ∙ ap (λ o. unwrap_or o Void) (sym (types_at ts i))

pub meaning_missing : (ms : List Bind) (i : ℕ) (m : Bind) → None ≡ slice_get ms i → IsTrue (is_nothing (meant m)) → meant m ≡ unwrap_or (slice_get (all_meant ms) i) Nothing
meaning_missing ms i m e h = is_nothing_meant (meant m) h ∙ ap (λ o. unwrap_or (option_map meant o) Nothing) e ∙ ap (λ o. unwrap_or o Nothing) (sym (meanings_at ms i))

pub void_is : IsTrue (is_void (type_of ctype.Void))
void_is = subst (λ t. IsTrue (is_void t)) (sym type_of_void) refl

pub counted : (n : Node) → nodes_of (syntax_of n) ≡ 1 + nodes_of_row (row_of (out-Node n).parts)
counted n = ap nodes_of (syntax_of_out n) ∙ omega arith

-- a node has itself
pub counts_one : (n : Node) (count : ℕ) → count ≡ nodes_of (syntax_of n) → 1 ≤ count
counts_one n count e = (let k : count ≡ 1 + nodes_of_row (row_of (out-Node n).parts) = e ∙ counted n in omega arith)

-- the number of a node is that of its first part, and one for each of its parts
pub number_of : (n : Node) (first count number : ℕ) → count ≡ nodes_of (syntax_of n) → number ≡ first + (count - 1)
    → number ≡ first + nodes_of_row (row_of (out-Node n).parts)
number_of n first count number e h = (let k : count ≡ 1 + nodes_of_row (row_of (out-Node n).parts) = e ∙ counted n in omega arith)

pub next_number : (n : Node) (first count number : ℕ) → count ≡ nodes_of (syntax_of n) → number ≡ first + (count - 1)
    → number + 1 ≡ first + nodes_of (syntax_of n)
next_number n first count number e h = (let k : 1 ≤ count = counts_one n count e in omega arith)

-- a node with what is known of it
pub node_tree : (m : Module) (n : Node) (nodes : List Node) (first number : ℕ) (type : TypeTree) (means : Meant)
    → number ≡ first + nodes_of_row (row_of (out-Node n).parts) → nodes ≡ (out-Node n).parts
    → type ≡ unwrap_or (slice_get (types_of m.types) number) Void → means ≡ unwrap_or (slice_get (all_meant m.binds) number) Nothing
    → node (out-Node n).kind (record { number = number; token = (out-Node n).token; type = type; means = means })
    (typed_row (types_of m.types) (all_meant m.binds) first (row_of nodes))
    ≡ typed (types_of m.types) (all_meant m.binds) first (syntax_of n)
node_tree m n nodes first number type means e h t w =
    ap (λ x. node (out-Node n).kind (record { number = number; token = (out-Node n).token; type = type; means = means })
    (typed_row (types_of m.types) (all_meant m.binds) first (row_of x))) h
    ∙ ap (λ x. node (out-Node n).kind (record { number = number; token = (out-Node n).token; type = x; means = means })
    (typed_row (types_of m.types) (all_meant m.binds) first (row_of (out-Node n).parts))) t
    ∙ ap (λ x. node (out-Node n).kind
    (record { number = number; token = (out-Node n).token; type = unwrap_or (slice_get (types_of m.types) number) Void; means = x })
    (typed_row (types_of m.types) (all_meant m.binds) first (row_of (out-Node n).parts))) w
    ∙ ap (λ x. node (out-Node n).kind (label_of (types_of m.types) (all_meant m.binds) x (out-Node n).token)
    (typed_row (types_of m.types) (all_meant m.binds) first (row_of (out-Node n).parts))) e
    ∙ sym (ap (typed (types_of m.types) (all_meant m.binds) first) (syntax_of_out n))

-- nodes beside each other, by the first

pub row_split : (m : Module) (first next number : ℕ) (nodes others : List Node) (n : Node) (t : Typed) → nodes ≡ n ∷ others
    → t ≡ typed (types_of m.types) (all_meant m.binds) first (syntax_of n) → number + 1 ≡ first + nodes_of (syntax_of n) → next ≡ number + 1
    → typed_row (types_of m.types) (all_meant m.binds) first (row_of nodes)
    ≡ more t (typed_row (types_of m.types) (all_meant m.binds) next (row_of others))
row_split m first next number nodes others n t w e h k =
    ap (λ x. typed_row (types_of m.types) (all_meant m.binds) first (row_of x)) w
    ∙ ap (λ x. more x (typed_row (types_of m.types) (all_meant m.binds) (first + nodes_of (syntax_of n)) (row_of others))) (sym e)
    ∙ ap (λ x. more t (typed_row (types_of m.types) (all_meant m.binds) x (row_of others))) (sym (k ∙ h))

pub row_none : (m : Module) (first : ℕ) (nodes : List Node) → nodes ≡ [] → typed_row (types_of m.types) (all_meant m.binds) first (row_of nodes) ≡ none
row_none m first nodes e = ap (λ x. typed_row (types_of m.types) (all_meant m.binds) first (row_of x)) e
