-- Words for rows: files that begin with the same declarations, and the number of the rule that is told.
use Rattle.std.specs.Prelude.{ℕ, Bool, true, false, ◌==◌, List, [], ◌∷◌, ◌++◌, Some, None, Result, Ok, Err, codes}
use Rattle.std.specs.List.{list_all}
use Rattle.p9_lang.specs.declared.tree.CUnary.{CUnary}
use Rattle.p9_lang.specs.declared.tree.SpecWord.TheVariants as word
use Rattle.p9_lang.specs.declared.tree.Kind.TheVariants as kind
use Rattle.p9_lang.specs.Trees.{Syntax, row}
use Rattle.p9_lang.specs.Rules.{Broken, rule_number}
use Rattle.p9_lang.specs.Files.{Typing, typed_file}
use Rattle.p9_lang.specs.ExampleTrees.{tree, declaration, function, member, parameter, named, number}

-- PARTS OF FILES

abbrev pub variable : List ℕ → Syntax
variable x = declaration (word.Int ∷ []) (false ∷ []) (named x ∷ [])

abbrev pub no_parameters : Syntax → Syntax
no_parameters declarator = tree (kind.Params true true) (declarator ∷ [])

abbrev pub block : List Syntax → Syntax
block statements = tree kind.Block statements

abbrev pub effect : Syntax → Syntax
effect e = tree kind.Expression (e ∷ [])

abbrev pub call : Syntax → List Syntax → Syntax
call f arguments = tree kind.Call (f ∷ arguments)

abbrev pub assign : Syntax → Syntax → Syntax
assign left right = tree (kind.Assign None) (left ∷ right ∷ [])

abbrev pub unary_of : CUnary → Syntax → Syntax
unary_of op e = tree (kind.Unary op) (e ∷ [])

abbrev pub if_holds : Syntax → Syntax → Syntax
if_holds test statement = tree kind.If (test ∷ statement ∷ [])

abbrev pub returns : Syntax → Syntax
returns e = tree kind.Return (e ∷ [])

abbrev pub element : Syntax → Syntax → Syntax
element array index = tree kind.Index (array ∷ index ∷ [])

abbrev pub parens : Syntax → Syntax
parens e = tree kind.Parens (e ∷ [])

-- FILES

-- int x, *p, f(int); void *v; char c; long l; struct S { int a; } s, t; struct O *o; int a[3];
-- void n(void); int (*fp)(int);
abbrev pub beginning : List Syntax
beginning =
    declaration (word.Int ∷ []) (false ∷ false ∷ false ∷ []) (named (codes "x")
    ∷ tree (kind.Star []) (named (codes "p") ∷ [])
    ∷ tree (kind.Params true false) (named (codes "f") ∷ parameter (word.Int ∷ []) [] ∷ []) ∷ [])
    ∷ declaration (word.Void ∷ []) (false ∷ []) (tree (kind.Star []) (named (codes "v") ∷ []) ∷ [])
    ∷ declaration (word.Char ∷ []) (false ∷ []) (named (codes "c") ∷ [])
    ∷ declaration (word.Long ∷ []) (false ∷ []) (named (codes "l") ∷ [])
    ∷ declaration (word.Tag false (codes "S") (Some 1) ∷ []) (false ∷ false ∷ [])
    (member (word.Int ∷ []) (named (codes "a") ∷ []) ∷ named (codes "s") ∷ named (codes "t") ∷ [])
    ∷ declaration (word.Tag false (codes "O") None ∷ []) (false ∷ [])
    (tree (kind.Star []) (named (codes "o") ∷ []) ∷ [])
    ∷ declaration (word.Int ∷ []) (false ∷ [])
    (tree (kind.Brackets true true) (named (codes "a") ∷ number 3 ∷ []) ∷ [])
    ∷ declaration (word.Void ∷ []) (false ∷ []) (no_parameters (named (codes "n")) ∷ [])
    ∷ declaration (word.Int ∷ []) (false ∷ []) (tree (kind.Params true false)
    (tree kind.DeclParens (tree (kind.Star []) (named (codes "fp") ∷ []) ∷ [])
    ∷ parameter (word.Int ∷ []) [] ∷ []) ∷ []) ∷ []

-- the number of the rule that a file with these items behind the beginning breaks, and 0 for none
abbrev pub number_in : Result Typing Broken → ℕ
number_in (Ok typing) = 0
number_in (Err broken) = rule_number broken.rule

abbrev pub told : List Syntax → ℕ
told items = number_in (typed_file (row (beginning ++ items)) [])

-- with `void g(void){ .. }` round one statement
abbrev pub told_in_body : Syntax → ℕ
told_in_body statement = told (function (word.Void ∷ []) (no_parameters (named (codes "g")) ∷ block (statement ∷ []) ∷ []) ∷ [])

-- of all these rows the same rule is told
abbrev pub files_told : ℕ → List (List Syntax) → Bool
files_told number rows = list_all (λ items. told items == number) rows

abbrev pub bodies_told : ℕ → List Syntax → Bool
bodies_told number rows = list_all (λ statement. told_in_body statement == number) rows
