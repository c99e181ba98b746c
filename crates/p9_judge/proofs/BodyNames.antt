-- Names of functions that have bodies.
use Rattle.std.proofs.Common.{◌≡◌, ℕ, Bool, true, false, List, [], ◌∷◌, ◌++◌, Option, Some, None, unwrap_or, refl, sym, ap, ◌∙◌, append-nil}
use Rattle.std.specs.Prelude.{if◌then◌else◌}
use Rattle.p9_lang.specs.declared.tree.Kind.{Kind}
use Rattle.p9_lang.specs.declared.tree.Kind.TheVariants as kind
use Rattle.p9_lang.specs.declared.tree.Node.{Node, out-Node}
use Rattle.p9_lang.specs.Trees.{node, SyntaxRow, syntax_of, row_of}
use Rattle.p9_lang.specs.Files.{declarator_name, first_name, function_name, body_name}
use Rattle.p9_lang.specs.Parts.{is_declarator}
use Rattle.p9_judge.specs.Bodies.{own_name, is_function}
use Rattle.p9_judge.proofs.Nodes.{syntax_of_out, kind_there}

named : (k : Kind) (at : ℕ) (parts : SyntaxRow) → declarator_name (node k at parts) ≡ unwrap_or (own_name k) (first_name parts)
named (kind.Declaration spec inits) at parts = refl
named (kind.Function spec) at parts = refl
named (kind.Member spec) at parts = refl
named (kind.EnumConst name valued) at parts = refl
named (kind.DeclName name) at parts = refl
named (kind.Star volatiles) at parts = refl
named (kind.Brackets inner sized) at parts = refl
named (kind.Params inner void_word) at parts = refl
named kind.DeclParens at parts = refl
named (kind.Param spec) at parts = refl
named (kind.NamedType spec) at parts = refl
named (kind.InitList comma) at parts = refl
named (kind.Entry by equals) at parts = refl
named kind.Block at parts = refl
named kind.Expression at parts = refl
named kind.If at parts = refl
named kind.While at parts = refl
named kind.Do at parts = refl
named (kind.For first test step) at parts = refl
named kind.Switch at parts = refl
named kind.Case at parts = refl
named kind.Default at parts = refl
named kind.Break at parts = refl
named kind.Continue at parts = refl
named kind.Return at parts = refl
named kind.Index at parts = refl
named kind.Call at parts = refl
named (kind.Dot arrow name) at parts = refl
named (kind.Post minus) at parts = refl
named (kind.Pre minus) at parts = refl
named (kind.Unary op) at parts = refl
named kind.SizeofValue at parts = refl
named kind.SizeofType at parts = refl
named kind.Cast at parts = refl
named (kind.Binary op) at parts = refl
named kind.Choose at parts = refl
named (kind.Assign op) at parts = refl
named kind.Comma at parts = refl
named kind.Parens at parts = refl
named (kind.Name x) at parts = refl
named (kind.Number n unsigned long) at parts = refl
named (kind.Character n) at parts = refl
named (kind.Text texts) at parts = refl

node_named : (n : Node) (own : Option (List ℕ)) → own_name (out-Node n).kind ≡ own
    → declarator_name (syntax_of n) ≡ unwrap_or own (first_name (row_of (out-Node n).parts))
node_named n own e =
    ap declarator_name (syntax_of_out n) ∙ named (out-Node n).kind (out-Node n).token (row_of (out-Node n).parts)
    ∙ ap (λ o. unwrap_or o (first_name (row_of (out-Node n).parts))) e

pub named_here : (n : Node) (x : List ℕ) → own_name (out-Node n).kind ≡ Some x → declarator_name (syntax_of n) ≡ x
named_here n x e = node_named n (Some x) e

pub named_inside : (n first : Node) (others : List Node) → own_name (out-Node n).kind ≡ None → (out-Node n).parts ≡ first ∷ others
    → declarator_name (syntax_of n) ≡ declarator_name (syntax_of first)
named_inside n first others e f = node_named n None e ∙ ap (λ ns. first_name (row_of ns)) f

pub named_nowhere : (n : Node) → own_name (out-Node n).kind ≡ None → (out-Node n).parts ≡ [] → declarator_name (syntax_of n) ≡ []
named_nowhere n e f = node_named n None e ∙ ap (λ ns. first_name (row_of ns)) f

-- the first declarator of a function

pub declarator_here : (n : Node) (others : List Node) → is_declarator (out-Node n).kind ≡ true
    → function_name (row_of (n ∷ others)) ≡ declarator_name (syntax_of n)
declarator_here n others e =
    ap (λ k. if is_declarator k then declarator_name (syntax_of n) else function_name (row_of others)) (kind_there n)
    ∙ ap (λ b. if b then declarator_name (syntax_of n) else function_name (row_of others)) e

pub declarator_behind : (n : Node) (others : List Node) → is_declarator (out-Node n).kind ≡ false
    → function_name (row_of (n ∷ others)) ≡ function_name (row_of others)
declarator_behind n others e =
    ap (λ k. if is_declarator k then declarator_name (syntax_of n) else function_name (row_of others)) (kind_there n)
    ∙ ap (λ b. if b then declarator_name (syntax_of n) else function_name (row_of others)) e

-- items

body_of : (k : Kind) (at : ℕ) (parts : SyntaxRow) → body_name (node k at parts) ≡ (if is_function k then function_name parts ∷ [] else [])
body_of (kind.Declaration spec inits) at parts = refl
body_of (kind.Function spec) at parts = refl
body_of (kind.Member spec) at parts = refl
body_of (kind.EnumConst name valued) at parts = refl
body_of (kind.DeclName name) at parts = refl
body_of (kind.Star volatiles) at parts = refl
body_of (kind.Brackets inner sized) at parts = refl
body_of (kind.Params inner void_word) at parts = refl
body_of kind.DeclParens at parts = refl
body_of (kind.Param spec) at parts = refl
body_of (kind.NamedType spec) at parts = refl
body_of (kind.InitList comma) at parts = refl
body_of (kind.Entry by equals) at parts = refl
body_of kind.Block at parts = refl
body_of kind.Expression at parts = refl
body_of kind.If at parts = refl
body_of kind.While at parts = refl
body_of kind.Do at parts = refl
body_of (kind.For first test step) at parts = refl
body_of kind.Switch at parts = refl
body_of kind.Case at parts = refl
body_of kind.Default at parts = refl
body_of kind.Break at parts = refl
body_of kind.Continue at parts = refl
body_of kind.Return at parts = refl
body_of kind.Index at parts = refl
body_of kind.Call at parts = refl
body_of (kind.Dot arrow name) at parts = refl
body_of (kind.Post minus) at parts = refl
body_of (kind.Pre minus) at parts = refl
body_of (kind.Unary op) at parts = refl
body_of kind.SizeofValue at parts = refl
body_of kind.SizeofType at parts = refl
body_of kind.Cast at parts = refl
body_of (kind.Binary op) at parts = refl
body_of kind.Choose at parts = refl
body_of (kind.Assign op) at parts = refl
body_of kind.Comma at parts = refl
body_of kind.Parens at parts = refl
body_of (kind.Name x) at parts = refl
body_of (kind.Number n unsigned long) at parts = refl
body_of (kind.Character n) at parts = refl
body_of (kind.Text texts) at parts = refl

item_body : (n : Node) (b : Bool) → is_function (out-Node n).kind ≡ b
    → body_name (syntax_of n) ≡ (if b then function_name (row_of (out-Node n).parts) ∷ [] else [])
item_body n b e =
    ap body_name (syntax_of_out n) ∙ body_of (out-Node n).kind (out-Node n).token (row_of (out-Node n).parts)
    ∙ ap (λ c. if c then function_name (row_of (out-Node n).parts) ∷ [] else []) e

pub body_there : (n : Node) → is_function (out-Node n).kind ≡ true → body_name (syntax_of n) ≡ function_name (row_of (out-Node n).parts) ∷ []
body_there n e = item_body n true e

pub no_body : (names : List (List ℕ)) (n : Node) → is_function (out-Node n).kind ≡ false → names ≡ names ++ body_name (syntax_of n)
no_body names n e = sym (append-nil names) ∙ ap (λ l. names ++ l) (sym (item_body n false e))
