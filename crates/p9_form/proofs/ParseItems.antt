-- Each row of trees of the form is that of a file that fits.
use Rattle.std.proofs.Common.{◌≡◌, ℕ, suc, ◌≤◌, Bool, true, false, not, ◌&&◌, IsTrue, List, [], ◌∷◌, ◌++◌, Option, Some, None, refl, ap, ◌∙◌, sym, subst, append_assoc, append-nil, codes, flat_map, ◌⊎◌, inl, inr}
use Rattle.p9_first.specs.declared.tree.CBinary.TheVariants as operator
use Rattle.p9_first.specs.declared.tree.SpecWord.{SpecWord}
use Rattle.p9_first.specs.declared.tree.SpecWord.TheVariants as word
use Rattle.p9_first.specs.declared.tree.Kind.TheVariants as kind
use Rattle.p9_first.specs.Trees.{node, none, more, Syntax, SyntaxRow}
use Rattle.p9_first.specs.Tokens.{Token, Word, Number, Text, End, spec_tokens, tokens, tokens_from, file_tokens}
use Rattle.p9_first.specs.Form.{IsVariable, IsOperand, IsSum, Names, IsExactly, IsText, IsExitText, IsEffect, IsStatement, AreStatements, IsNumberType, IsVariableHead, IsNewName, IsNumber, IsDeclaration, IsMainHead, IsBody, IsMain, is_among, is_variable_name, names_after, name_in, AreDeclarations, AreItems, IsFile}
use Rattle.p9_form.specs.declared.file.Operand.{Operand}
use Rattle.p9_form.specs.declared.file.Operand.TheVariants as operand
use Rattle.p9_form.specs.declared.file.Statement.{Statement}
use Rattle.p9_form.specs.declared.file.Statement.TheVariants.{Assign, Write, Exits}
use Rattle.p9_form.specs.declared.file.First.{First}
use Rattle.p9_form.specs.declared.file.First.TheVariants as first
use Rattle.p9_form.specs.declared.file.Declaration.{Declaration}
use Rattle.p9_form.specs.declared.file.File.{File}
use Rattle.p9_form.specs.Phrases.{mark, operand_token, right_tokens, exit_token, statement_tokens, statements_tokens, OperandFits, RightFits, TextFits, ExitFits, StatementFits, StatementsFit, type_token, declaration_tokens, declarations_tokens, FirstFits, DeclarationFits, DeclarationsFit, declared, main_tokens, written, MainFits, FileFits}
use Rattle.p9_form.specs.Found.{IsNotWritten}

-- Expressions

record IsOperandTree (names : List (List ℕ)) (ts : List Token) : Type 0 where
  value : Operand
  fits : OperandFits names value
  is : ts ≡ operand_token value ∷ []

operand_of : (names : List (List ℕ)) (t : Syntax) → IsOperand names t → IsOperandTree names (tokens t)
operand_of names (node (kind.Name x) at none) h = record { value = operand.Variable x; fits = h; is = refl }
operand_of names (node (kind.Number value false false) at none) h = record { value = operand.Number value; fits = h; is = refl }
operand_of names _ h = absurd h

record IsSumTree (names : List (List ℕ)) (ts : List Token) : Type 0 where
  left : Operand
  right : Option Operand
  left_fits : OperandFits names left
  right_fits : RightFits names right
  is : ts ≡ operand_token left ∷ right_tokens right

sum_of : (names : List (List ℕ)) (t : Syntax) → IsSum names t → IsSumTree names (tokens t)
sum_of names (node (kind.Name x) at none) h = record { left = operand.Variable x; right = None; left_fits = h; right_fits = tt; is = refl }
sum_of names (node (kind.Number value false false) at none) h = record { left = operand.Number value; right = None; left_fits = h; right_fits = tt; is = refl }
sum_of names (node (kind.Binary operator.Add) at (more left (more right none))) h =
    let l = operand_of names left h.0 in
    let r = operand_of names right h.1 in
    record {
      left = l.value;
      right = Some r.value;
      left_fits = l.fits;
      right_fits = r.fits;
      is = ap (λ v. v ++ (mark 43 ∷ (tokens right ++ []))) l.is ∙ ap (λ v. operand_token l.value ∷ mark 43 ∷ (v ++ [])) r.is;
    }
sum_of names _ h = absurd h

-- Effects

record IsStatementTree (names : List (List ℕ)) (ts : List Token) : Type 0 where
  value : Statement
  fits : StatementFits names value
  is : ts ≡ statement_tokens value

record IsVariableTree (names : List (List ℕ)) (ts : List Token) : Type 0 where
  name : List ℕ
  fits : IsTrue (is_among names name)
  is : ts ≡ Word name ∷ []

variable_of : (names : List (List ℕ)) (t : Syntax) → IsVariable names t → IsVariableTree names (tokens t)
variable_of names (node (kind.Name x) at none) h = record { name = x; fits = h; is = refl }
variable_of names _ h = absurd h

function_of : (f : List ℕ) (t : Syntax) → Names f t → tokens t ≡ Word f ∷ []
function_of f (node (kind.Name x) at none) h = ap (λ x. Word x ∷ []) h
function_of f _ h = absurd h

number_of : (n : ℕ) (t : Syntax) → IsExactly n t → tokens t ≡ Number n false false ∷ []
number_of n (node (kind.Number value false false) at none) h = ap (λ v. Number v false false ∷ []) h
number_of n _ h = absurd h

record IsTextTree (ts : List Token) : Type 0 where
  text : List ℕ
  fits : TextFits text
  is : ts ≡ Text text ∷ []

text_of : (t : Syntax) → IsText t → IsTextTree (tokens t)
text_of (node (kind.Text (bytes ∷ [])) at none) h = record { text = bytes; fits = h; is = refl }
text_of _ h = absurd h

record IsExitTree (ts : List Token) : Type 0 where
  text : Option (List ℕ)
  fits : ExitFits text
  is : ts ≡ exit_token text ∷ []

exit_of : (t : Syntax) → IsExitText t → IsExitTree (tokens t)
exit_of (node (kind.Text (bytes ∷ [])) at none) h = record { text = Some bytes; fits = h; is = refl }
exit_of (node (kind.Number value false false) at none) h = record { text = None; fits = tt; is = ap (λ v. Number v false false ∷ []) h }
exit_of _ h = absurd h

effect_of : (names : List (List ℕ)) (t : Syntax) → IsEffect names t → IsStatementTree names (tokens t ++ mark 59 ∷ [])
effect_of names (node (kind.Assign None) at (more place (more value none))) h =
    let x = variable_of names place h.0 in
    let s = sum_of names value h.1 in
    record {
      value = Assign x.name s.left s.right;
      fits = (x.fits, s.left_fits, s.right_fits);
      is = ap (λ v. (v ++ (mark 61 ∷ (tokens value ++ []))) ++ mark 59 ∷ []) x.is
          ∙ ap (λ v. Word x.name ∷ mark 61 ∷ (v ++ mark 59 ∷ [])) (append-nil (tokens value) ∙ s.is);
    }
effect_of names (node kind.Call at (more f (more text none))) h =
    let t = exit_of text h.1 in
    record {
      value = Exits t.text;
      fits = t.fits;
      is = ap (λ v. (v ++ (mark 40 ∷ (tokens text ++ mark 41 ∷ []))) ++ mark 59 ∷ []) (function_of (codes "exits") f h.0)
          ∙ ap (λ v. Word (codes "exits") ∷ mark 40 ∷ ((v ++ mark 41 ∷ []) ++ mark 59 ∷ [])) t.is;
    }
effect_of names (node kind.Call at (more f (more descriptor (more text (more count none))))) h =
    let t = text_of text h.2 in
    let c = operand_of names count h.3 in
    record {
      value = Write t.text c.value;
      fits = (t.fits, c.fits);
      is = ap (λ v. (v ++ (mark 40 ∷ (tokens descriptor ++ (mark 44 ∷ (tokens text ++ (mark 44 ∷ (tokens count ++ mark 41 ∷ []))))))) ++ mark 59 ∷ []) (function_of (codes "write") f h.0)
          ∙ ap (λ v. Word (codes "write") ∷ mark 40 ∷ ((v ++ (mark 44 ∷ (tokens text ++ (mark 44 ∷ (tokens count ++ mark 41 ∷ []))))) ++ mark 59 ∷ [])) (number_of 1 descriptor h.1)
          ∙ ap (λ v. Word (codes "write") ∷ mark 40 ∷ Number 1 false false ∷ mark 44 ∷ ((v ++ (mark 44 ∷ (tokens count ++ mark 41 ∷ []))) ++ mark 59 ∷ [])) t.is
          ∙ ap (λ v. Word (codes "write") ∷ mark 40 ∷ Number 1 false false ∷ mark 44 ∷ Text t.text ∷ mark 44 ∷ ((v ++ mark 41 ∷ []) ++ mark 59 ∷ [])) c.is;
    }
effect_of names _ h = absurd h

-- Statements

statement_of : (names : List (List ℕ)) (t : Syntax) → IsStatement names t → IsStatementTree names (tokens t)
statement_of names (node kind.Expression at (more effect none)) h = effect_of names effect h
statement_of names _ h = absurd h

record AreStatementTrees (names : List (List ℕ)) (ts : List Token) : Type 0 where
  list : List Statement
  fit : StatementsFit names list
  is : ts ≡ statements_tokens list ++ mark 125 ∷ []

statements_of : (names : List (List ℕ)) (i : ℕ) (row : SyntaxRow) → AreStatements names row → AreStatementTrees names (tokens_from kind.Block i row)
statements_of names i none h = record { list = []; fit = tt; is = refl }
statements_of names i (more first others) h =
    let s = statement_of names first h.0 in
    let ss = statements_of names (suc i) others h.1 in
    record {
      list = s.value ∷ ss.list;
      fit = (s.fits, ss.fit);
      is = ap (λ v. v ++ tokens_from kind.Block (suc i) others) s.is
          ∙ ap (λ v. statement_tokens s.value ++ v) ss.is
          ∙ sym (append_assoc (statement_tokens s.value) (statements_tokens ss.list) (mark 125 ∷ []));
    }

-- Declarations

record IsDeclarationTree (names later : List (List ℕ)) (ts : List Token) : Type 0 where
  value : Declaration
  fits : DeclarationFits names value
  named : later ≡ value.name ∷ names
  is : ts ≡ declaration_tokens value

record IsTypeOf (ts : List Token) : Type 0 where
  is_long : Bool
  is : ts ≡ type_token is_long ∷ []

type_of : (words : List SpecWord) → IsNumberType words → IsTypeOf (flat_map spec_tokens words)
type_of (word.Int ∷ []) h = record { is_long = false; is = refl }
type_of (word.Long ∷ []) h = record { is_long = true; is = refl }
type_of _ h = absurd h

-- `extern` or not
record IsHeadOf (ts : List Token) : Type 0 where
  is_long : Bool
  value : First
  no_number : (value ≡ first.Extern) ⊎ (value ≡ first.Zero)
  is : (name : List ℕ) → ts ++ (Word name ∷ mark 59 ∷ []) ≡ declaration_tokens (record { name = name; is_long = is_long; first = value })

head_of : (words : List SpecWord) → IsVariableHead words → IsHeadOf (flat_map spec_tokens words)
head_of (word.Extern ∷ words) h =
    let t = type_of words h in
    record { is_long = t.is_long; value = first.Extern; no_number = inl refl; is = λ name. ap (λ v. (Word (codes "extern") ∷ v) ++ (Word name ∷ mark 59 ∷ [])) t.is }
head_of (word.Int ∷ []) h = record { is_long = false; value = first.Zero; no_number = inr refl; is = λ name. refl }
head_of (word.Long ∷ []) h = record { is_long = true; value = first.Zero; no_number = inr refl; is = λ name. refl }
head_of _ h = absurd h

record IsNewTree (names later : List (List ℕ)) (ts : List Token) : Type 0 where
  name : List ℕ
  fits : IsTrue (is_variable_name name && not (is_among names name))
  named : later ≡ name ∷ names
  is : ts ≡ Word name ∷ []

new_of : (names : List (List ℕ)) (t : Syntax) → IsNewName names t → IsNewTree names (name_in t names) (tokens t)
new_of names (node (kind.DeclName x) at none) h = record { name = x; fits = h; named = refl; is = refl }
new_of names _ h = absurd h

record IsNumberTree (ts : List Token) : Type 0 where
  value : ℕ
  small : value ≤ 2147483647
  is : ts ≡ Number value false false ∷ []

value_of : (t : Syntax) → IsNumber t → IsNumberTree (tokens t)
value_of (node (kind.Number value false false) at none) h = record { value = value; small = h; is = refl }
value_of _ h = absurd h

first_fits : (f : First) → (f ≡ first.Extern) ⊎ (f ≡ first.Zero) → FirstFits f
first_fits first.Extern h = tt
first_fits first.Zero h = tt
first_fits (first.Number value) (inl e) = cc
first_fits (first.Number value) (inr e) = cc

declaration_of : (names : List (List ℕ)) (t : Syntax) → IsDeclaration names t → IsDeclarationTree names (names_after t names) (tokens t)
declaration_of names (node (kind.Declaration spec (false ∷ [])) at (more name none)) h =
    let t = head_of spec.words h.0 in
    let x = new_of names name h.1 in
    record {
      value = record { name = x.name; is_long = t.is_long; first = t.value };
      fits = (x.fits, first_fits t.value t.no_number);
      named = x.named;
      is = ap (λ v. flat_map spec_tokens spec.words ++ (v ++ mark 59 ∷ [])) x.is ∙ t.is x.name;
    }
declaration_of names (node (kind.Declaration spec (true ∷ [])) at (more name (more value none))) h =
    let t = type_of spec.words h.0 in
    let x = new_of names name h.1 in
    let n = value_of value h.2 in
    record {
      value = record { name = x.name; is_long = t.is_long; first = first.Number n.value };
      fits = (x.fits, n.small);
      named = x.named;
      is = ap (λ v. v ++ (tokens name ++ (mark 61 ∷ (tokens value ++ mark 59 ∷ [])))) t.is
          ∙ ap (λ v. type_token t.is_long ∷ (v ++ (mark 61 ∷ (tokens value ++ mark 59 ∷ [])))) x.is
          ∙ ap (λ v. type_token t.is_long ∷ Word x.name ∷ mark 61 ∷ (v ++ mark 59 ∷ [])) n.is;
    }
declaration_of names _ h = absurd h

record AreDeclarationTrees (names : List (List ℕ)) (ts : List Token) : Type 0 where
  list : List Declaration
  fit : DeclarationsFit names list
  is : ts ≡ declarations_tokens list ++ End ∷ []

declarations_of : (names : List (List ℕ)) (row : SyntaxRow) → AreDeclarations names row → AreDeclarationTrees names (file_tokens row)
declarations_of names none h = record { list = []; fit = tt; is = refl }
declarations_of names (more first others) h =
    let d = declaration_of names first h.0 in
    let ds = declarations_of (names_after first names) others h.1 in
    record {
      list = d.value ∷ ds.list;
      fit = (d.fits, subst (λ names. DeclarationsFit names ds.list) d.named ds.fit);
      is = ap (λ v. v ++ file_tokens others) d.is ∙ ap (λ v. declaration_tokens d.value ++ v) ds.is ∙ sym (append_assoc (declaration_tokens d.value) (declarations_tokens ds.list) (End ∷ []));
    }

-- `main`

main_head_of : (t : Syntax) → IsMainHead t → tokens t ≡ Word (codes "main") ∷ mark 40 ∷ Word (codes "void") ∷ mark 41 ∷ []
main_head_of (node (kind.Params true true) at (more (node (kind.DeclName x) name_at none) none)) h = ap (λ x. Word x ∷ mark 40 ∷ Word (codes "void") ∷ mark 41 ∷ []) h
main_head_of _ h = absurd h

record IsBodyTree (names : List (List ℕ)) (ts : List Token) : Type 0 where
  list : List Statement
  fit : StatementsFit names list
  is : ts ≡ mark 123 ∷ (statements_tokens list ++ mark 125 ∷ [])

body_of : (names : List (List ℕ)) (t : Syntax) → IsBody names t → IsBodyTree names (tokens t)
body_of names (node kind.Block at statements) h =
    let ss = statements_of names 0 statements h in
    record { list = ss.list; fit = ss.fit; is = ap (λ v. mark 123 ∷ v) ss.is }
body_of names _ h = absurd h

record IsMainTree (names : List (List ℕ)) (ts : List Token) : Type 0 where
  list : List Statement
  fit : StatementsFit names list
  is : ts ≡ main_tokens (Some list)

main_of : (names : List (List ℕ)) (t : Syntax) → IsMain names t → IsMainTree names (tokens t)
main_of names (node (kind.Function spec) at (more head (more body none))) h =
    let b = body_of names body h.2 in
    record {
      list = b.list;
      fit = b.fit;
      is = ap (λ words. flat_map spec_tokens words ++ (tokens head ++ (tokens body ++ []))) h.0
          ∙ ap (λ v. Word (codes "void") ∷ (v ++ (tokens body ++ []))) (main_head_of head h.1)
          ∙ ap (λ v. Word (codes "void") ∷ Word (codes "main") ∷ mark 40 ∷ Word (codes "void") ∷ mark 41 ∷ v) (append-nil (tokens body) ∙ b.is);
    }
main_of names _ h = absurd h

-- Files

record AreItemTrees (names : List (List ℕ)) (ts : List Token) : Type 0 where
  before : List Declaration
  main : Option (List Statement)
  after : List Declaration
  before_fits : DeclarationsFit names before
  main_fits : MainFits (declared names before) main after
  is : ts ≡ declarations_tokens before ++ (main_tokens main ++ (declarations_tokens after ++ End ∷ []))

with_main : (names : List (List ℕ)) (first : Syntax) (others : SyntaxRow) → IsMain names first → AreDeclarations names others → AreItemTrees names (file_tokens (more first others))
with_main names first others m ds =
    let main = main_of names first m in
    let after = declarations_of names others ds in
    record {
      before = [];
      main = Some main.list;
      after = after.list;
      before_fits = tt;
      main_fits = (main.fit, after.fit);
      is = ap (λ v. v ++ file_tokens others) main.is ∙ ap (λ v. main_tokens (Some main.list) ++ v) after.is;
    }

with_declaration : (names : List (List ℕ)) (first : Syntax) (others : SyntaxRow) → IsDeclaration names first → AreItemTrees (names_after first names) (file_tokens others) → AreItemTrees names (file_tokens (more first others))
with_declaration names first others h later =
    let d = declaration_of names first h in
    let rest = main_tokens later.main ++ (declarations_tokens later.after ++ End ∷ []) in
    record {
      before = d.value ∷ later.before;
      main = later.main;
      after = later.after;
      before_fits = (d.fits, subst (λ names. DeclarationsFit names later.before) d.named later.before_fits);
      main_fits = subst (λ names. MainFits (declared names later.before) later.main later.after) d.named later.main_fits;
      is = ap (λ v. v ++ file_tokens others) d.is ∙ ap (λ v. declaration_tokens d.value ++ v) later.is ∙ sym (append_assoc (declaration_tokens d.value) (declarations_tokens later.before) rest);
    }

items_are : (names : List (List ℕ)) (row : SyntaxRow) → AreItems names row → AreItemTrees names (file_tokens row)
items_are names none h = record { before = []; main = None; after = []; before_fits = tt; main_fits = refl; is = refl }
items_are names (more (node (kind.Function spec) at parts) others) h = with_main names (node (kind.Function spec) at parts) others h.0 h.1
items_are names (more first others) h = with_declaration names first others h.0 (items_are (names_after first names) others h.1)

-- the file with these items
pub record FileOf (items : SyntaxRow) : Type 0 where
  pub file : File
  pub fits : FileFits file
  pub is : file_tokens items ≡ written file

pub file_of : (items : SyntaxRow) → IsFile items → FileOf items
file_of items h =
    let f = items_are [] items h.form in
    record { file = record { before = f.before; main = f.main; after = f.after }; fits = (f.before_fits, f.main_fits); is = f.is }

pub no_file : (ts : List Token) → IsNotWritten ts → (items : SyntaxRow) → IsFile items → file_tokens items ≡ ts → ⊥
no_file ts n items h e =
    let f = file_of items h in
    n.no f.file (record { fits = f.fits; is = sym e ∙ f.is })
