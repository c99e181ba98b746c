-- Files that break a rule, with the node and the rule that are told.
use Rattle.std.specs.Prelude.{◌≡◌, ℕ, true, false, [], ◌∷◌, Some, None, Err, codes}
use Rattle.p9_lang.specs.declared.tree.CBinary.TheVariants as operator
use Rattle.p9_lang.specs.declared.tree.CUnary.TheVariants as unary
use Rattle.p9_lang.specs.declared.tree.EntryBy.TheVariants as by
use Rattle.p9_lang.specs.declared.tree.SpecWord.TheVariants as word
use Rattle.p9_lang.specs.declared.tree.Kind.TheVariants as kind
use Rattle.p9_lang.specs.Trees.{SyntaxRow, row}
use Rattle.p9_lang.specs.ExampleTrees.{leaf, tree, declaration, function, member, parameter, named, used, number, binary}
use Rattle.p9_lang.specs.Rules.{Rule, Incomplete, Ambiguous, Undeclared, Redeclared, NotLvalue, BadOperands, BadAssign, NotFunction, ArgCount, NoMember, NotScalar, BadConstant, BadReturn, Misplaced, TooManyItems, at_node}
use Rattle.p9_lang.specs.Files.{typed_file}

-- the file breaks this rule at the node with this number, and no rule before
abbrev pub Breaks : SyntaxRow → (number : ℕ) → Rule → Type 0
Breaks items number rule = typed_file items [] ≡ Err (at_node number rule)

-- struct S; struct S x;
abbrev pub incomplete_object : SyntaxRow
incomplete_object =
    row (declaration (word.Tag false (codes "S") None ∷ []) [] []
    ∷ declaration (word.Tag false (codes "S") None ∷ []) (false ∷ []) (named (codes "x") ∷ [])
    ∷ [])

-- struct A { int k; }; struct B { int k; }; struct C { struct A; struct B; } c; int x[sizeof c.k];
abbrev pub two_members : SyntaxRow
two_members =
    row (declaration (word.Tag false (codes "A") (Some 1) ∷ []) [] (member (word.Int ∷ []) (named (codes "k") ∷ []) ∷ [])
    ∷ declaration (word.Tag false (codes "B") (Some 1) ∷ []) [] (member (word.Int ∷ []) (named (codes "k") ∷ []) ∷ [])
    ∷ declaration (word.Tag false (codes "C") (Some 2) ∷ []) (false ∷ [])
    (member (word.Tag false (codes "A") None ∷ []) []
    ∷ member (word.Tag false (codes "B") None ∷ []) []
    ∷ named (codes "c")
    ∷ [])
    ∷ declaration (word.Int ∷ []) (false ∷ [])
    (tree (kind.Brackets true true)
    (named (codes "x")
    ∷ tree kind.SizeofValue (tree (kind.Dot false (codes "k")) (used (codes "c") ∷ []) ∷ [])
    ∷ [])
    ∷ [])
    ∷ [])

-- int x = y;
abbrev pub unknown_name : SyntaxRow
unknown_name =
    row (declaration (word.Int ∷ []) (true ∷ []) (named (codes "x") ∷ used (codes "y") ∷ []) ∷ [])

-- static int f(void); int x[sizeof f()];
abbrev pub no_body : SyntaxRow
no_body =
    row (declaration (word.Static ∷ word.Int ∷ []) (false ∷ [])
    (tree (kind.Params true true) (named (codes "f") ∷ [])
    ∷ [])
    ∷ declaration (word.Int ∷ []) (false ∷ [])
    (tree (kind.Brackets true true)
    (named (codes "x")
    ∷ tree kind.SizeofValue (tree kind.Call (used (codes "f") ∷ []) ∷ [])
    ∷ [])
    ∷ [])
    ∷ [])

-- int x; char x;
abbrev pub other_type : SyntaxRow
other_type =
    row (declaration (word.Int ∷ []) (false ∷ []) (named (codes "x") ∷ [])
    ∷ declaration (word.Char ∷ []) (false ∷ []) (named (codes "x") ∷ [])
    ∷ [])

-- static int x; int x;
abbrev pub other_linkage : SyntaxRow
other_linkage =
    row (declaration (word.Static ∷ word.Int ∷ []) (false ∷ []) (named (codes "x") ∷ [])
    ∷ declaration (word.Int ∷ []) (false ∷ []) (named (codes "x") ∷ [])
    ∷ [])

-- struct S { int a; }; struct S { int b; };
abbrev pub two_bodies : SyntaxRow
two_bodies =
    row (declaration (word.Tag false (codes "S") (Some 1) ∷ []) [] (member (word.Int ∷ []) (named (codes "a") ∷ []) ∷ [])
    ∷ declaration (word.Tag false (codes "S") (Some 1) ∷ []) [] (member (word.Int ∷ []) (named (codes "b") ∷ []) ∷ [])
    ∷ [])

-- int x[sizeof (1 = 2)];
abbrev pub written_number : SyntaxRow
written_number =
    row (declaration (word.Int ∷ []) (false ∷ [])
    (tree (kind.Brackets true true)
    (named (codes "x")
    ∷ tree kind.SizeofValue (tree kind.Parens (tree (kind.Assign None) (number 1 ∷ number 2 ∷ []) ∷ []) ∷ [])
    ∷ [])
    ∷ [])
    ∷ [])

-- int *p, x[sizeof -p];
abbrev pub negated_pointer : SyntaxRow
negated_pointer =
    row (declaration (word.Int ∷ []) (false ∷ false ∷ [])
    (tree (kind.Star ([])) (named (codes "p") ∷ [])
    ∷ tree (kind.Brackets true true)
    (named (codes "x")
    ∷ tree kind.SizeofValue (tree (kind.Unary unary.Minus) (used (codes "p") ∷ []) ∷ [])
    ∷ [])
    ∷ [])
    ∷ [])

-- struct S { int a; } s, t; int x[sizeof (s = t)];
abbrev pub structure_inside : SyntaxRow
structure_inside =
    row (declaration (word.Tag false (codes "S") (Some 1) ∷ []) (false ∷ false ∷ [])
    (member (word.Int ∷ []) (named (codes "a") ∷ [])
    ∷ named (codes "s")
    ∷ named (codes "t")
    ∷ [])
    ∷ declaration (word.Int ∷ []) (false ∷ [])
    (tree (kind.Brackets true true)
    (named (codes "x")
    ∷ tree kind.SizeofValue
    (tree kind.Parens (tree (kind.Assign None) (used (codes "s") ∷ used (codes "t") ∷ []) ∷ [])
    ∷ [])
    ∷ [])
    ∷ [])
    ∷ [])

-- int *p = 5;
abbrev pub number_as_pointer : SyntaxRow
number_as_pointer =
    row (declaration (word.Int ∷ []) (true ∷ []) (tree (kind.Star ([])) (named (codes "p") ∷ []) ∷ number 5 ∷ [])
    ∷ [])

-- int x, y[sizeof x()];
abbrev pub called_number : SyntaxRow
called_number =
    row (declaration (word.Int ∷ []) (false ∷ false ∷ [])
    (named (codes "x")
    ∷ tree (kind.Brackets true true)
    (named (codes "y")
    ∷ tree kind.SizeofValue (tree kind.Call (used (codes "x") ∷ []) ∷ [])
    ∷ [])
    ∷ [])
    ∷ [])

-- int f(int), x[sizeof f()];
abbrev pub too_few : SyntaxRow
too_few =
    row (declaration (word.Int ∷ []) (false ∷ false ∷ [])
    (tree (kind.Params true false) (named (codes "f") ∷ parameter (word.Int ∷ []) [] ∷ [])
    ∷ tree (kind.Brackets true true)
    (named (codes "x")
    ∷ tree kind.SizeofValue (tree kind.Call (used (codes "f") ∷ []) ∷ [])
    ∷ [])
    ∷ [])
    ∷ [])

-- int f(int), *p, x[sizeof f(p, p)];
abbrev pub count_and_argument : SyntaxRow
count_and_argument =
    row (declaration (word.Int ∷ []) (false ∷ false ∷ false ∷ [])
    (tree (kind.Params true false) (named (codes "f") ∷ parameter (word.Int ∷ []) [] ∷ [])
    ∷ tree (kind.Star ([])) (named (codes "p") ∷ [])
    ∷ tree (kind.Brackets true true)
    (named (codes "x")
    ∷ tree kind.SizeofValue (tree kind.Call (used (codes "f") ∷ used (codes "p") ∷ used (codes "p") ∷ []) ∷ [])
    ∷ [])
    ∷ [])
    ∷ [])

-- struct S { int a; } s; int x[sizeof s.b];
abbrev pub unknown_member : SyntaxRow
unknown_member =
    row (declaration (word.Tag false (codes "S") (Some 1) ∷ []) (false ∷ [])
    (member (word.Int ∷ []) (named (codes "a") ∷ [])
    ∷ named (codes "s")
    ∷ [])
    ∷ declaration (word.Int ∷ []) (false ∷ [])
    (tree (kind.Brackets true true)
    (named (codes "x")
    ∷ tree kind.SizeofValue (tree (kind.Dot false (codes "b")) (used (codes "s") ∷ []) ∷ [])
    ∷ [])
    ∷ [])
    ∷ [])

-- struct S { int a; } s; int x[sizeof !s];
abbrev pub tested_structure : SyntaxRow
tested_structure =
    row (declaration (word.Tag false (codes "S") (Some 1) ∷ []) (false ∷ [])
    (member (word.Int ∷ []) (named (codes "a") ∷ [])
    ∷ named (codes "s")
    ∷ [])
    ∷ declaration (word.Int ∷ []) (false ∷ [])
    (tree (kind.Brackets true true)
    (named (codes "x")
    ∷ tree kind.SizeofValue (tree (kind.Unary unary.Not) (used (codes "s") ∷ []) ∷ [])
    ∷ [])
    ∷ [])
    ∷ [])

-- int x[0];
abbrev pub no_length : SyntaxRow
no_length =
    row (declaration (word.Int ∷ []) (false ∷ [])
    (tree (kind.Brackets true true) (named (codes "x") ∷ number 0 ∷ [])
    ∷ [])
    ∷ [])

-- int x[1 / 0];
abbrev pub divided_by_zero : SyntaxRow
divided_by_zero =
    row (declaration (word.Int ∷ []) (false ∷ [])
    (tree (kind.Brackets true true) (named (codes "x") ∷ binary operator.Div (number 1 ∷ number 0 ∷ []) ∷ [])
    ∷ [])
    ∷ [])

-- int f(void)[bad];
abbrev pub outermost_step : SyntaxRow
outermost_step =
    row (declaration (word.Int ∷ []) (false ∷ [])
    (tree (kind.Brackets true true)
    (tree (kind.Params true true) (named (codes "f") ∷ [])
    ∷ used (codes "bad")
    ∷ [])
    ∷ [])
    ∷ [])

-- void f(void) { return 1; }
abbrev pub value_of_void : SyntaxRow
value_of_void =
    row (function (word.Void ∷ [])
    (tree (kind.Params true true) (named (codes "f") ∷ [])
    ∷ tree kind.Block (tree kind.Return (number 1 ∷ []) ∷ [])
    ∷ [])
    ∷ [])

-- void f(void) { continue; }
abbrev pub lone_continue : SyntaxRow
lone_continue =
    row (function (word.Void ∷ [])
    (tree (kind.Params true true) (named (codes "f") ∷ [])
    ∷ tree kind.Block (leaf kind.Continue ∷ [])
    ∷ [])
    ∷ [])

-- int x[] = { [16777216] = 1 };
abbrev pub past_the_limit : SyntaxRow
past_the_limit =
    row (declaration (word.Int ∷ []) (true ∷ [])
    (tree (kind.Brackets true false) (named (codes "x") ∷ [])
    ∷ tree (kind.InitList false) (tree (kind.Entry by.Index true) (number 16777216 ∷ number 1 ∷ []) ∷ [])
    ∷ [])
    ∷ [])

pub record Refusals : Type 0 where
  pub incomplete_object_told : Breaks incomplete_object 1 Incomplete
  pub two_members_told : Breaks two_members 12 (Ambiguous (codes "k"))
  pub unknown_name_told : Breaks unknown_name 1 (Undeclared (codes "y"))
  pub no_body_told : Breaks no_body 4 (Undeclared (codes "f"))
  pub other_type_told : Breaks other_type 2 (Redeclared (codes "x"))
  pub other_linkage_told : Breaks other_linkage 2 (Redeclared (codes "x"))
  pub two_bodies_told : Breaks two_bodies 5 (Redeclared (codes "S"))
  pub written_number_told : Breaks written_number 3 NotLvalue
  pub negated_pointer_told : Breaks negated_pointer 4 BadOperands
  pub structure_inside_told : Breaks structure_inside 8 BadOperands
  pub number_as_pointer_told : Breaks number_as_pointer 2 BadAssign
  pub called_number_told : Breaks called_number 3 NotFunction
  pub too_few_told : Breaks too_few 5 ArgCount
  pub count_and_argument_told : Breaks count_and_argument 9 BadAssign
  pub unknown_member_told : Breaks unknown_member 6 (NoMember (codes "b"))
  pub tested_structure_told : Breaks tested_structure 6 NotScalar
  pub no_length_told : Breaks no_length 2 BadConstant
  pub divided_by_zero_told : Breaks divided_by_zero 4 BadConstant
  pub outermost_step_told : Breaks outermost_step 2 (Undeclared (codes "bad"))
  pub value_of_void_told : Breaks value_of_void 3 BadReturn
  pub lone_continue_told : Breaks lone_continue 2 Misplaced
  pub past_the_limit_told : Breaks past_the_limit 4 TooManyItems
