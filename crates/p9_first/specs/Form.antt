-- The form that the suite takes so far: variables of type int and long, shared by name, and one
-- `main` that assigns numbers, variables and sums of two, writes texts, and exits.
--
--     file = { decl } [ main { decl } ]
--     decl = [ "extern" ] ("int" | "long") NAME ";" | ("int" | "long") NAME "=" NUMBER ";"
--     main = "void" "main" "(" "void" ")" "{" { stmt } "}"
--     stmt = NAME "=" opd [ "+" opd ] ";" | "write" "(" "1" "," TEXT "," opd ")" ";"
--          | "exits" "(" ( TEXT | "0" ) ")" ";"
--     opd  = NAME | NUMBER
use Rattle.std.specs.Prelude.{◌≡◌, ◌≤◌, ℕ, zero, suc, ◌+◌, Bool, true, false, not, ◌&&◌, ◌||◌, ◌==◌, nat_le, IsTrue, List, [], ◌∷◌, length, None, codes}
use Rattle.std.specs.List.{list_all, list_any}
use Rattle.p9_first.specs.declared.tree.CBinary.TheVariants as operator
use Rattle.p9_first.specs.declared.tree.SpecWord.TheVariants as word
use Rattle.p9_first.specs.declared.tree.SpecWord.{SpecWord}
use Rattle.p9_first.specs.declared.tree.Kind.{Kind}
use Rattle.p9_first.specs.declared.tree.Kind.TheVariants as kind
use Rattle.p9_first.specs.Trees.{node, none, more, Syntax, SyntaxRow}
use Rattle.p9_first.specs.Tokens.{front, gap, tokens}

-- Names

abbrev pub is_letter : ℕ → Bool
is_letter b = (nat_le 97 b && nat_le b 122) || (nat_le 65 b && nat_le b 90) || b == 95

abbrev pub is_letter_or_digit : ℕ → Bool
is_letter_or_digit b = is_letter b || (nat_le 48 b && nat_le b 57)

abbrev pub is_name : List ℕ → Bool
is_name [] = false
is_name (b ∷ bs) = is_letter b && (list_all is_letter_or_digit bs && nat_le (length bs) 254)

abbrev pub same_name : List ℕ → List ℕ → Bool
same_name [] [] = true
same_name [] (y ∷ ys) = false
same_name (x ∷ xs) [] = false
same_name (x ∷ xs) (y ∷ ys) = (x == y) && same_name xs ys

abbrev pub keywords : List (List ℕ)
keywords =
    codes "auto" ∷ codes "break" ∷ codes "case" ∷ codes "char" ∷ codes "const" ∷ codes "continue"
    ∷ codes "default" ∷ codes "do" ∷ codes "double" ∷ codes "else" ∷ codes "enum" ∷ codes "extern"
    ∷ codes "float" ∷ codes "for" ∷ codes "goto" ∷ codes "if" ∷ codes "int" ∷ codes "long"
    ∷ codes "register" ∷ codes "return" ∷ codes "short" ∷ codes "signed" ∷ codes "sizeof" ∷ codes "static"
    ∷ codes "struct" ∷ codes "switch" ∷ codes "typedef" ∷ codes "union" ∷ codes "unsigned" ∷ codes "void"
    ∷ codes "volatile" ∷ codes "while" ∷ []

abbrev pub is_among : List (List ℕ) → List ℕ → Bool
is_among names x = list_any (same_name x) names

-- the functions of the form, which no variable is named as
abbrev pub functions : List (List ℕ)
functions = codes "main" ∷ codes "write" ∷ codes "exits" ∷ codes "read" ∷ []

abbrev pub is_variable_name : List ℕ → Bool
is_variable_name x = is_name x && (not (is_among keywords x) && not (is_among functions x))

-- Texts and numbers

-- from the space to the tilde, but for the quotation mark and the backslash; or a newline
abbrev pub is_text_byte : ℕ → Bool
is_text_byte b = (nat_le 32 b && (nat_le b 126 && (not (b == 34) && not (b == 92)))) || b == 10

abbrev pub IsText : Syntax → Type 0
IsText (node (kind.Text (bytes ∷ [])) at none) = IsTrue (list_all is_text_byte bytes)
IsText _ = ⊥

abbrev pub IsNumber : Syntax → Type 0
IsNumber (node (kind.Number value false false) at none) = value ≤ 2147483647
IsNumber _ = ⊥

-- Expressions. `names` are those of the variables declared before.

-- a variable that is declared before
abbrev pub IsVariable : List (List ℕ) → Syntax → Type 0
IsVariable names (node (kind.Name x) at none) = IsTrue (is_among names x)
IsVariable names _ = ⊥

abbrev pub IsOperand : List (List ℕ) → Syntax → Type 0
IsOperand names (node (kind.Name x) at none) = IsTrue (is_among names x)
IsOperand names (node (kind.Number value false false) at none) = value ≤ 2147483647
IsOperand names _ = ⊥

abbrev pub IsSum : List (List ℕ) → Syntax → Type 0
IsSum names (node (kind.Name x) at none) = IsTrue (is_among names x)
IsSum names (node (kind.Number value false false) at none) = value ≤ 2147483647
IsSum names (node (kind.Binary operator.Add) at (more left (more right none))) = IsOperand names left × IsOperand names right
IsSum names _ = ⊥

-- the name of this function
abbrev pub Names : List ℕ → Syntax → Type 0
Names f (node (kind.Name x) at none) = x ≡ f
Names f _ = ⊥

abbrev pub IsExactly : ℕ → Syntax → Type 0
IsExactly n (node (kind.Number value false false) at none) = value ≡ n
IsExactly n _ = ⊥

-- what `exits` is given: a text, or the number 0
abbrev pub IsExitText : Syntax → Type 0
IsExitText (node (kind.Text (bytes ∷ [])) at none) = IsTrue (list_all is_text_byte bytes)
IsExitText (node (kind.Number value false false) at none) = value ≡ 0
IsExitText _ = ⊥

abbrev pub IsEffect : List (List ℕ) → Syntax → Type 0
IsEffect names (node (kind.Assign None) at (more place (more value none))) = IsVariable names place × IsSum names value
IsEffect names (node kind.Call at (more f (more text none))) = Names (codes "exits") f × IsExitText text
IsEffect names (node kind.Call at (more f (more descriptor (more text (more count none))))) =
    Names (codes "write") f × IsExactly 1 descriptor × IsText text × IsOperand names count
IsEffect names _ = ⊥

-- Statements and items

abbrev pub IsStatement : List (List ℕ) → Syntax → Type 0
IsStatement names (node kind.Expression at (more effect none)) = IsEffect names effect
IsStatement names _ = ⊥

abbrev pub AreStatements : List (List ℕ) → SyntaxRow → Type 0
AreStatements names none = Unit {0}
AreStatements names (more first others) = IsStatement names first × AreStatements names others

-- `void main(void)` as a declarator
abbrev pub IsMainHead : Syntax → Type 0
IsMainHead (node (kind.Params true true) at (more (node (kind.DeclName x) name_at none) none)) = x ≡ codes "main"
IsMainHead _ = ⊥

abbrev pub IsBody : List (List ℕ) → Syntax → Type 0
IsBody names (node kind.Block at statements) = AreStatements names statements
IsBody names _ = ⊥

abbrev pub IsNumberType : List SpecWord → Type 0
IsNumberType (word.Int ∷ []) = Unit {0}
IsNumberType (word.Long ∷ []) = Unit {0}
IsNumberType _ = ⊥

abbrev pub IsVariableHead : List SpecWord → Type 0
IsVariableHead (word.Extern ∷ words) = IsNumberType words
IsVariableHead words = IsNumberType words

-- a name that is declared here, and wasn't before
abbrev pub IsNewName : List (List ℕ) → Syntax → Type 0
IsNewName names (node (kind.DeclName x) at none) = IsTrue (is_variable_name x && not (is_among names x))
IsNewName names _ = ⊥

abbrev pub IsDeclaration : List (List ℕ) → Syntax → Type 0
IsDeclaration names (node (kind.Declaration spec (false ∷ [])) at (more name none)) = IsVariableHead spec.words × IsNewName names name
IsDeclaration names (node (kind.Declaration spec (true ∷ [])) at (more name (more value none))) =
    IsNumberType spec.words × IsNewName names name × IsNumber value
IsDeclaration names _ = ⊥

abbrev pub IsMain : List (List ℕ) → Syntax → Type 0
IsMain names (node (kind.Function spec) at (more head (more body none))) =
    (spec.words ≡ word.Void ∷ []) × IsMainHead head × IsBody names body
IsMain names _ = ⊥

-- the names that are declared behind an item
abbrev pub name_in : Syntax → List (List ℕ) → List (List ℕ)
name_in (node (kind.DeclName x) at parts) names = x ∷ names
name_in _ names = names

abbrev pub names_after : Syntax → List (List ℕ) → List (List ℕ)
names_after (node (kind.Declaration spec inits) at (more name others)) names = name_in name names
names_after _ names = names

abbrev pub AreDeclarations : List (List ℕ) → SyntaxRow → Type 0
AreDeclarations names none = Unit {0}
AreDeclarations names (more first others) = IsDeclaration names first × AreDeclarations (names_after first names) others

-- declarations, at most one `main`, and more declarations
abbrev pub AreItems : List (List ℕ) → SyntaxRow → Type 0
AreItems names none = Unit {0}
AreItems names (more (node (kind.Function spec) at parts) others) =
    IsMain names (node (kind.Function spec) at parts) × AreDeclarations names others
AreItems names (more first others) = IsDeclaration names first × AreItems (names_after first names) others

-- Each node knows the place of its first token; `at` is the place of the tree's.

abbrev mutual
  pub IsPlaced : ℕ → Syntax → Type 0
  IsPlaced at (node k token parts) = (token ≡ at) × ArePlaced k zero (at + length (front k)) parts

  pub ArePlaced : Kind → ℕ → ℕ → SyntaxRow → Type 0
  ArePlaced k i at none = Unit {0}
  ArePlaced k i at (more first others) =
      IsPlaced (at + length (gap k i)) first
      × ArePlaced k (suc i) (at + length (gap k i) + length (tokens first)) others

abbrev pub AreItemsPlaced : ℕ → SyntaxRow → Type 0
AreItemsPlaced at none = Unit {0}
AreItemsPlaced at (more first others) = IsPlaced at first × AreItemsPlaced (at + length (tokens first)) others

-- a file of the form
pub record IsFile (items : SyntaxRow) : Type 0 where
  pub form : AreItems [] items
  pub placed : AreItemsPlaced 0 items
