-- Each node of a file of the form has a type, and so the file has its module.
use Rattle.std.proofs.Common.{◌≡◌, ℕ, ◌+◌, Bool, true, false, if◌then◌else◌, nat_le, List, [], ◌∷◌, ◌++◌, Option, Some, None, refl, sym, ap, ◌∙◌, subst}
use Rattle.std.specs.Prelude.{codes}
use Rattle.p9_first.specs.declared.module.Module.{Module}
use Rattle.p9_first.specs.declared.tree.CBinary.TheVariants as operator
use Rattle.p9_first.specs.declared.tree.Kind.{Kind}
use Rattle.p9_first.specs.declared.tree.Kind.TheVariants as kind
use Rattle.p9_first.specs.Types.{TypeTree, Void, Int, UInt, Long, Function, Meant, Nothing}
use Rattle.p9_first.specs.Types as types
use Rattle.p9_first.specs.Trees.{node, none, more, Syntax, SyntaxRow, row_of}
use Rattle.p9_first.specs.Form.{is_variable_name, IsFile}
use Rattle.p9_first.specs.Modules.{HaveTypes, IsModule}
use Rattle.p9_first.specs.Typing.{Judged, Has, Breaks, Unknown, Scope, outer, named, judge, judged, judged_parts, judged_nodes, judged_rows, judged_statement, judged_statements, judged_item, judged_items, judged_file, typeless, common, is_integer, texts_in, texts_in_row, scope_after, system_scope}
use Rattle.p9_first.proofs.Variables.{IsVariableType}
use Rattle.p9_form.specs.declared.file.Operand.{Operand}
use Rattle.p9_form.specs.declared.file.Operand.TheVariants.{Variable, Number}
use Rattle.p9_form.specs.declared.file.Statement.{Statement}
use Rattle.p9_form.specs.declared.file.Statement.TheVariants.{Assign, Write, Exits}
use Rattle.p9_form.specs.declared.file.First.{First}
use Rattle.p9_form.specs.declared.file.First.TheVariants as first
use Rattle.p9_form.specs.declared.file.Declaration.{Declaration}
use Rattle.p9_form.specs.declared.file.File.{File}
use Rattle.p9_form.specs.Items.{leaf, number_leaf, text_leaf, exit_tree, operand_tree, sum_tree, effect_tree, statement_tree, statement_trees, statement_size, declaration_tree, declaration_trees, declaration_size, declarations_size, main_tree, main_trees, main_size, items_of}
use Rattle.p9_straight.proofs.SourceForm.{AreNew, names_behind, Among, MainIsFine, FileForm, file_form}
use Rattle.p9_straight.proofs.SourceRun.{FineOperand, FineIf, Fine, AreFine}
use Rattle.p9_straight.proofs.SourceTyped.{GoodScope, AreVariableNames, declared_good, main_good, system_good}
use Rattle.p9_agree.proofs.Made.{AllHave, all_types, all_binds, have_types, nodes_from, nodes_are}
use Rattle.p9_agree.specs.Modules.{FilesHaveModules}

-- it has this type, and some meaning
abbrev Typed : Judged → TypeTree → Type 0
Typed j type = (means : Meant) × (j ≡ Has type means)

abbrev HasType : Judged → Type 0
HasType j = (type : TypeTree) × Typed j type

all_append : (xs ys : List Judged) → AllHave xs → AllHave ys → AllHave (xs ++ ys)
all_append [] ys h g = g
all_append (Has type means ∷ xs) ys h g = all_append xs ys h g
all_append (Breaks rule ∷ xs) ys h g = absurd h
all_append (Unknown ∷ xs) ys h g = absurd h

one_has : (j : Judged) → HasType j → AllHave (j ∷ [])
one_has j h = subst (λ x. AllHave (x ∷ [])) (sym h.1.1) tt

-- a node whose parts have types
node_has : (scope : Scope) (k : ℕ) (kd : Kind) (at : ℕ) (parts : SyntaxRow) → AllHave (judged_rows scope k parts) → HasType (judged scope k (node kd at parts)) → AllHave (judged_nodes scope k (node kd at parts))
node_has scope k kd at parts h g = all_append (judged_rows scope k parts) (judged scope k (node kd at parts) ∷ []) h (one_has (judged scope k (node kd at parts)) g)

row_has : (scope : Scope) (k : ℕ) (t : Syntax) (ts : SyntaxRow) → AllHave (judged_nodes scope k t) → AllHave (judged_rows scope (k + texts_in t) ts) → AllHave (judged_rows scope k (more t ts))
row_has scope k t ts h g = all_append (judged_nodes scope k t) (judged_rows scope (k + texts_in t) ts) h g

-- Expressions

int_or_not : (b : Bool) → is_integer (if b then Int else UInt) ≡ true
int_or_not true = refl
int_or_not false = refl

variable_integer : (type : TypeTree) → IsVariableType type → is_integer type ≡ true
variable_integer Int v = refl
variable_integer Long v = refl
variable_integer _ v = absurd v

record IsIntegral (j : Judged) : Type 0 where
  type : TypeTree
  typed : Typed j type
  integer : is_integer type ≡ true

module _ (names : List (List ℕ)) (scope : Scope) (good : GoodScope names scope) where
  variable_typed : (k at : ℕ) (x : List ℕ) → Among names x → IsIntegral (judged scope k (leaf (kind.Name x) at))
  variable_typed k at x h = let v = good.variable x h in record { type = v.0; typed = (_, v.2); integer = variable_integer v.0 v.1 }

  operand_typed : (k at : ℕ) (o : Operand) → FineOperand (Among names) o → IsIntegral (judged scope k (operand_tree at o))
  operand_typed k at (Variable x) h = variable_typed k at x h
  operand_typed k at (Number n) h = record { type = _; typed = (_, refl); integer = int_or_not (nat_le n 2147483647) }

  operand_has : (k at : ℕ) (o : Operand) → FineOperand (Among names) o → AllHave (judged_nodes scope k (operand_tree at o))
  operand_has k at (Variable x) h = let v = variable_typed k at x h in one_has (judged scope k (leaf (kind.Name x) at)) (v.type, v.typed)
  operand_has k at (Number n) h = tt

  added : (a b : TypeTree) (x y : Meant) (i j : ℕ) → is_integer a ≡ true → is_integer b ≡ true → HasType (judge scope i (kind.Binary operator.Add) (Has a x ∷ Has b y ∷ []))
  added a b x y i j p q =
      (common a b, (Nothing, ap (λ c. if c then (if is_integer b then Has (common a b) Nothing else Breaks 18) else Breaks 18) p ∙ ap (λ c. if c then Has (common a b) Nothing else Breaks 18) q))

  sum_typed : (k at : ℕ) (left : Operand) (right : Option Operand) → FineOperand (Among names) left → FineIf (Among names) right → HasType (judged scope k (sum_tree at left right))
  sum_typed k at left None h g = let o = operand_typed k at left h in (o.type, o.typed)
  sum_typed k at left (Some right) h g =
      let l = operand_typed k at left h in
      let r = operand_typed (k + texts_in (operand_tree at left)) (at + 2) right g in
      let i = k + texts_in_row (more (operand_tree at left) (more (operand_tree (at + 2) right) none)) in
      subst (λ x. HasType (judge scope i (kind.Binary operator.Add) (x ∷ judged scope (k + texts_in (operand_tree at left)) (operand_tree (at + 2) right) ∷ []))) (sym l.typed.1)
      (subst (λ y. HasType (judge scope i (kind.Binary operator.Add) (Has l.type l.typed.0 ∷ y ∷ []))) (sym r.typed.1)
      (added l.type r.type l.typed.0 r.typed.0 i i l.integer r.integer))

  sum_has : (k at : ℕ) (left : Operand) (right : Option Operand) → FineOperand (Among names) left → FineIf (Among names) right → AllHave (judged_nodes scope k (sum_tree at left right))
  sum_has k at left None h g = operand_has k at left h
  sum_has k at left (Some right) h g =
      let t = operand_tree at left in
      let u = operand_tree (at + 2) right in
      node_has scope k (kind.Binary operator.Add) at (more t (more u none))
      (row_has scope k t (more u none) (operand_has k at left h) (row_has scope (k + texts_in t) u none (operand_has (k + texts_in t) (at + 2) right g) tt))
      (sum_typed k at left (Some right) h g)

  -- what is assigned has the variable's type
  assigned : (i : ℕ) (p q : Judged) → HasType p → HasType q → HasType (judge scope i (kind.Assign None) (p ∷ q ∷ []))
  assigned i p q h g =
      subst (λ x. HasType (judge scope i (kind.Assign None) (x ∷ q ∷ []))) (sym h.1.1)
      (subst (λ y. HasType (judge scope i (kind.Assign None) (Has h.0 h.1.0 ∷ y ∷ []))) (sym g.1.1) (h.0, (Nothing, refl)))

  -- a call has the result's type
  called : (i : ℕ) (p : Judged) (arguments : List Judged) (result : TypeTree) (parameters : types.TypeRow) (means : Meant) → p ≡ Has (Function result parameters) means → HasType (judge scope i kind.Call (p ∷ arguments))
  called i p arguments result parameters means e = subst (λ x. HasType (judge scope i kind.Call (x ∷ arguments))) (sym e) (result, (Nothing, refl))

  name_has : (k at : ℕ) (x : List ℕ) (type : TypeTree) (means : Meant) → named scope x ≡ Has type means → AllHave (judged_nodes scope k (leaf (kind.Name x) at))
  name_has k at x type means e = one_has (named scope x) (type, (means, e))

  effect_has : (k at : ℕ) (s : Statement) → Fine (Among names) s → AllHave (judged_nodes scope k (effect_tree at s))
  effect_has k at (Assign x left right) h =
      let v = variable_typed k at x h.0 in
      let t = leaf (kind.Name x) at in
      let u = sum_tree (at + 2) left right in
      node_has scope k (kind.Assign None) at (more t (more u none))
      (row_has scope k t (more u none) (one_has (judged scope k t) (v.type, v.typed)) (row_has scope (k + 0) u none (sum_has (k + 0) (at + 2) left right h.1 h.2) tt))
      (assigned (k + texts_in_row (more t (more u none))) (judged scope k t) (judged scope (k + 0) u) (v.type, v.typed) (sum_typed (k + 0) (at + 2) left right h.1 h.2))
  effect_has k at (Write text count) h =
      let t = leaf (kind.Name (codes "write")) at in
      let u = operand_tree (at + 6) count in
      let others = more (text_leaf text (at + 4)) (more u none) in
      node_has scope k kind.Call at (more t (more (number_leaf 1 (at + 2)) others))
      (row_has scope k t (more (number_leaf 1 (at + 2)) others) (name_has k at (codes "write") _ _ good.write)
      (row_has scope (k + 0 + 0 + 1) u none (operand_has (k + 0 + 0 + 1) (at + 6) count h) tt))
      (called (k + texts_in_row (more t (more (number_leaf 1 (at + 2)) others))) (named scope (codes "write")) (judged_parts scope (k + 0) (more (number_leaf 1 (at + 2)) others)) Long _ _ good.write)
  effect_has k at (Exits None) h =
      let t = leaf (kind.Name (codes "exits")) at in
      node_has scope k kind.Call at (more t (more (exit_tree (at + 2) None) none))
      (row_has scope k t (more (exit_tree (at + 2) None) none) (name_has k at (codes "exits") _ _ good.exits) tt)
      (called (k + texts_in_row (more t (more (exit_tree (at + 2) None) none))) (named scope (codes "exits")) (judged_parts scope (k + 0) (more (exit_tree (at + 2) None) none)) Void _ _ good.exits)
  effect_has k at (Exits (Some text)) h =
      let t = leaf (kind.Name (codes "exits")) at in
      node_has scope k kind.Call at (more t (more (exit_tree (at + 2) (Some text)) none))
      (row_has scope k t (more (exit_tree (at + 2) (Some text)) none) (name_has k at (codes "exits") _ _ good.exits) tt)
      (called (k + texts_in_row (more t (more (exit_tree (at + 2) (Some text)) none))) (named scope (codes "exits")) (judged_parts scope (k + 0) (more (exit_tree (at + 2) (Some text)) none)) Void _ _ good.exits)

  statements_have : (k at : ℕ) (ss : List Statement) → AreFine (Among names) ss → AllHave (judged_statements scope k (statement_trees at ss))
  statements_have k at [] h = tt
  statements_have k at (s ∷ ss) h =
      all_append (judged_statement scope k (statement_tree at s)) (judged_statements scope (k + texts_in (statement_tree at s)) (statement_trees (at + statement_size s) ss))
      (all_append (judged_nodes scope k (effect_tree at s)) (typeless ∷ []) (effect_has k at s h.0) tt)
      (statements_have (k + texts_in (statement_tree at s)) (at + statement_size s) ss h.1)

-- Items

abbrev plain : List ℕ → Bool → First → Declaration
plain x l f = record { name = x; is_long = l; first = f }

item_has : (scope : Scope) (k at : ℕ) (x : List ℕ) (l : Bool) (f : First) → AllHave (judged_item scope k (declaration_tree at (plain x l f)))
item_has scope k at x l first.Extern = tt
item_has scope k at x l first.Zero = tt
item_has scope k at x l (first.Number value) = tt

good_behind : (names : List (List ℕ)) (scope : Scope) (at : ℕ) (x : List ℕ) (l : Bool) (f : First) → is_variable_name x ≡ true → GoodScope names scope → GoodScope (x ∷ names) (scope_after (declaration_tree at (plain x l f)) scope)
good_behind names scope at x true first.Extern v g = declared_good names scope x Long v tt g
good_behind names scope at x false first.Extern v g = declared_good names scope x Int v tt g
good_behind names scope at x true first.Zero v g = declared_good names scope x Long v tt g
good_behind names scope at x false first.Zero v g = declared_good names scope x Int v tt g
good_behind names scope at x true (first.Number value) v g = declared_good names scope x Long v tt g
good_behind names scope at x false (first.Number value) v g = declared_good names scope x Int v tt g

declarations_have : (names : List (List ℕ)) (scope : Scope) (k at : ℕ) (ds : List Declaration) (others : SyntaxRow) → GoodScope names scope → AreVariableNames names → AreNew names ds
    → ((scope : Scope) (k : ℕ) → GoodScope (names_behind names ds) scope → AreVariableNames (names_behind names ds) → AllHave (judged_items scope k others))
    → AllHave (judged_items scope k (declaration_trees at ds others))
declarations_have names scope k at [] others g v n h = h scope k g v
declarations_have names scope k at (d ∷ ds) others g v n h =
    let t = declaration_tree at d in
    all_append (judged_item scope k t) (judged_items (scope_after t scope) (k + texts_in t) (declaration_trees (at + declaration_size d.first) ds others))
    (item_has scope k at d.name d.is_long d.first)
    (declarations_have (d.name ∷ names) (scope_after t scope) (k + texts_in t) (at + declaration_size d.first) ds others (good_behind names scope at d.name d.is_long d.first n.0 g) (n.0, v) n.3 h)

abbrev main_type : TypeTree
main_type = Function Void types.none

main_has : (names : List (List ℕ)) (scope : Scope) (k at : ℕ) (main : Option (List Statement)) (after : List Declaration) → GoodScope names scope → AreVariableNames names → AreNew names after → MainIsFine names main → AllHave (judged_items scope k (main_trees at main after))
main_has names scope k at None after g v n f = declarations_have names scope k at after none g v n (λ s i h u. tt)
main_has names scope k at (Some ss) after g v n f =
    let inner = outer (codes "main") main_type ∷ scope in
    let good = main_good names scope main_type v g in
    let statements = judged_statements inner k (statement_trees (at + 6) ss) in
    all_append ((statements ++ typeless ∷ []) ++ typeless ∷ []) (judged_items inner (k + texts_in (main_tree at ss)) (declaration_trees (at + main_size ss) after none))
    (all_append (statements ++ typeless ∷ []) (typeless ∷ []) (all_append statements (typeless ∷ []) (statements_have names inner good k (at + 6) ss f) tt) tt)
    (declarations_have names inner (k + texts_in (main_tree at ss)) (at + main_size ss) after none good v n (λ s i h u. tt))

-- A file

file_has : (file : File) → FileForm file → AllHave (judged_file (items_of file))
file_has file f =
    declarations_have [] system_scope 0 0 file.before (main_trees (declarations_size file.before) file.main file.after) system_good tt f.before
    (λ scope k g v. main_has (names_behind [] file.before) scope k (declarations_size file.before) file.main file.after g v f.after f.main)

abbrev module_from : File → Module
module_from file = record {
  tree = record { items = nodes_from (items_of file); marks = [] };
  tags = record { list = [] };
  types = all_types (judged_file (items_of file));
  binds = all_binds (judged_file (items_of file));
  statics = [];
}

pub files_have_modules : FilesHaveModules
files_have_modules file h = (module_from file, (is, nodes_are (items_of file)))
  where
    same : row_of (nodes_from (items_of file)) ≡ items_of file
    same = nodes_are (items_of file)

    is : IsModule (module_from file)
    is = record {
      file = subst IsFile (sym same) h;
      typed = subst (λ items. HaveTypes (judged_file items) (types.types_of (all_types (judged_file (items_of file)))) (types.all_meant (all_binds (judged_file (items_of file))))) (sym same) (have_types (judged_file (items_of file)) (file_has file (file_form file h)));
      tags = refl;
      marks = refl;
      statics = refl;
    }
