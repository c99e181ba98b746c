-- The grammar: how a tree is written, and which trees are well formed.
use Rattle.std.specs.Prelude.{◌≡◌, ℕ, zero, suc, ◌+◌, ◌≤◌, Bool, true, false, ◌&&◌, ◌||◌, not, List, [], ◌∷◌, ◌++◌, length, Option, Some, None, ⊤}
use Rattle.std.specs.List.{list_any}
use Rattle.p9_lang.specs.declared.tree.CBinary.{CBinary}
use Rattle.p9_lang.specs.declared.tree.CBinary.TheVariants as operator
use Rattle.p9_lang.specs.declared.tree.EntryBy.{EntryBy}
use Rattle.p9_lang.specs.declared.tree.EntryBy.TheVariants as by
use Rattle.p9_lang.specs.declared.tree.SpecWord.{SpecWord}
use Rattle.p9_lang.specs.declared.tree.SpecWord.TheVariants as word
use Rattle.p9_lang.specs.declared.tree.Kind.{Kind}
use Rattle.p9_lang.specs.declared.tree.Kind.TheVariants as kind
use Rattle.p9_grammar.specs.declared.terminal.Terminal.{Terminal}
use Rattle.p9_grammar.specs.declared.head.Naming.{Naming}
use Rattle.p9_grammar.specs.declared.head.Naming.TheVariants as naming
use Rattle.p9_grammar.specs.declared.head.Class.{Class}
use Rattle.p9_grammar.specs.declared.head.Class.TheVariants as class
use Rattle.p9_grammar.specs.Trees.{Tree, node, Trees, none, more, count}
use Rattle.p9_grammar.specs.Symbols.{Symbol, Write, Part, Enter, Slot, Of, Last, Pointed, Direct, Grouped, Role, binds, right_side, file_symbols}
use Rattle.p9_grammar.specs.Scopes.{Scope, is_type, add, after, told}

-- How a tree is written

abbrev mutual
  pub tokens : Tree → List Terminal
  tokens (node kind at parts) = write (right_side kind (count parts)) parts

  -- the symbols with the parts in their places
  pub write : List Symbol → Trees → List Terminal
  write [] parts = []
  write (Write t ∷ symbols) parts = t ∷ write symbols parts
  write (Enter ∷ symbols) parts = write symbols parts
  write (Part slot role ∷ symbols) none = write symbols none
  write (Part slot role ∷ symbols) (more n ns) = tokens n ++ write symbols ns

-- The place behind a tree that begins at this place: one further for each token.

abbrev mutual
  pub past : Tree → ℕ → ℕ
  past (node kind token parts) at = past_in (right_side kind (count parts)) parts at

  pub past_in : List Symbol → Trees → ℕ → ℕ
  past_in [] parts at = at
  past_in (Write t ∷ symbols) parts at = past_in symbols parts (suc at)
  past_in (Enter ∷ symbols) parts at = past_in symbols parts at
  past_in (Part slot role ∷ symbols) none at = past_in symbols none at
  past_in (Part slot role ∷ symbols) (more n ns) at = past_in symbols ns (past n at)

-- What a kind is

pub data Sort : Type 0 where
  Expression : (level : ℕ) → Sort
  Declarator : (level : ℕ) → Sort
  Braced : Sort
  Entry : Sort
  Param : Sort
  TypeName : Sort
  Member : Sort
  Constant : Sort
  Declaration : Sort
  Function : Sort
  Block : Sort
  Statement : Sort
  Label : Sort

abbrev pub sort : Kind → Sort
sort (kind.Declaration spec inits) = Declaration
sort (kind.Function spec) = Function
sort (kind.Member spec) = Member
sort (kind.EnumConst name valued) = Constant
sort (kind.DeclName name) = Declarator 16
sort (kind.Star volatiles) = Declarator 15
sort (kind.Brackets inner sized) = Declarator 16
sort (kind.Params inner void_word) = Declarator 16
sort kind.DeclParens = Declarator 16
sort (kind.Param spec) = Param
sort (kind.NamedType spec) = TypeName
sort (kind.InitList comma) = Braced
sort (kind.Entry place equals) = Entry
sort kind.Block = Block
sort kind.Expression = Statement
sort kind.If = Statement
sort kind.While = Statement
sort kind.Do = Statement
sort (kind.For first test step) = Statement
sort kind.Switch = Statement
sort kind.Case = Label
sort kind.Default = Label
sort kind.Break = Statement
sort kind.Continue = Statement
sort kind.Return = Statement
sort kind.Index = Expression 16
sort kind.Call = Expression 16
sort (kind.Dot arrow name) = Expression 16
sort (kind.Post minus) = Expression 16
sort (kind.Pre minus) = Expression 15
sort (kind.Unary op) = Expression 15
sort kind.SizeofValue = Expression 15
sort kind.SizeofType = Expression 15
sort kind.Cast = Expression 14
sort (kind.Binary op) = Expression (binds op)
sort kind.Choose = Expression 3
sort (kind.Assign op) = Expression 2
sort kind.Comma = Expression 1
sort kind.Parens = Expression 16
sort (kind.Name name) = Expression 16
sort (kind.Number value unsigned long) = Expression 16
sort (kind.Character value) = Expression 16
sort (kind.Text pieces) = Expression 16

-- what may stand where this is wanted
abbrev pub Accepts : Class → Sort → Type 0
Accepts (class.Expression l) (Expression k) = l ≤ k
Accepts (class.Declarator n l) (Declarator k) = l ≤ k
Accepts class.Initialiser (Expression k) = 2 ≤ k
Accepts class.Initialiser Braced = ⊤
Accepts class.Entry Entry = ⊤
Accepts class.Param Param = ⊤
Accepts class.OnlyParam Param = ⊤
Accepts class.Type TypeName = ⊤
Accepts class.Member Member = ⊤
Accepts class.Constant Constant = ⊤
Accepts class.FileItem Declaration = ⊤
Accepts class.FileItem Function = ⊤
Accepts class.HeadItem Declaration = ⊤
Accepts class.BlockItem Declaration = ⊤
Accepts class.BlockItem Block = ⊤
Accepts class.BlockItem Statement = ⊤
Accepts (class.Statement may) Block = ⊤
Accepts (class.Statement may) Statement = ⊤
Accepts class.SwitchItem Label = ⊤
Accepts class.SwitchItem Block = ⊤
Accepts class.SwitchItem Statement = ⊤
Accepts class.Body Block = ⊤
Accepts _ _ = ⊥

-- the word `void` alone is no parameter
abbrev pub is_void_word : List SpecWord → ℕ → Bool
is_void_word (word.Void ∷ []) zero = true
is_void_word _ n = false

abbrev pub Hides : Naming → Scope → List ℕ → Type 0
Hides naming.Named scope x = ⊤
Hides naming.Either scope x = ⊤
Hides naming.Hidden scope x = is_type scope x ≡ false
Hides naming.Bare scope x = ⊥

-- a declarator that must have its name
abbrev pub Leads : Naming → Type 0 → Type 0
Leads naming.Named p = p
Leads _ p = ⊤

-- what a place asks besides: that no `if` without `else` ends the statement, that the declarator has
-- its name or has none, that the parameter isn't the word `void`
abbrev pub Suits : Class → Scope → Kind → ℕ → Type 0
Suits (class.Statement false) scope kind.If n = 3 ≤ n
Suits (class.Declarator naming l) scope (kind.DeclName x) n = Hides naming scope x
Suits (class.Declarator naming l) scope (kind.Star volatiles) n = Leads naming (1 ≤ n)
Suits (class.Declarator naming l) scope (kind.Brackets inner sized) n = Leads naming (inner ≡ true)
Suits (class.Declarator naming l) scope (kind.Params inner void_word) n = Leads naming (inner ≡ true)
Suits class.OnlyParam scope (kind.Param spec) n = is_void_word spec.words n ≡ false
Suits _ scope kind n = ⊤

-- The heads of declarations

pub data Share : Type 0 where
  Nothing : Share
  Storage : Share
  Whole : Share
  Sign : Share
  Char : Share
  Int : Share
  Size : Share

-- the part that a word has in a type
abbrev pub share : SpecWord → Share
share word.Extern = Storage
share word.Static = Storage
share word.Typedef = Storage
share word.Auto = Nothing
share word.Register = Nothing
share word.Const = Nothing
share word.Volatile = Nothing
share word.Void = Whole
share word.Char = Char
share word.Short = Size
share word.Int = Int
share word.Long = Size
share word.Signed = Sign
share word.Unsigned = Sign
share (word.TypeName name) = Whole
share (word.Tag is_union name members) = Whole
share (word.Enum name constants comma) = Whole

-- whether the one can't stand beside the other
abbrev pub excludes : Share → Share → Bool
excludes Nothing _ = false
excludes Storage Storage = true
excludes Storage _ = false
excludes Whole Nothing = false
excludes Whole Storage = false
excludes Whole _ = true
excludes Sign Whole = true
excludes Sign Sign = true
excludes Sign _ = false
excludes Char Whole = true
excludes Char Char = true
excludes Char Int = true
excludes Char Size = true
excludes Char _ = false
excludes Int Whole = true
excludes Int Char = true
excludes Int Int = true
excludes Int _ = false
excludes Size Whole = true
excludes Size Char = true
excludes Size Size = true
excludes Size _ = false

abbrev pub clashes : SpecWord → SpecWord → Bool
clashes v w = excludes (share v) (share w)

abbrev pub is_storage : Share → Bool
is_storage Storage = true
is_storage _ = false

abbrev pub names_type : Share → Bool
names_type Nothing = false
names_type Storage = false
names_type _ = true

abbrev pub has_type : List SpecWord → Bool
has_type words = list_any (λ w. names_type (share w)) words

abbrev pub is_positive : Option ℕ → Bool
is_positive None = true
is_positive (Some zero) = false
is_positive (Some (suc n)) = true

-- a tag without braces has a name
abbrev pub is_named : List ℕ → Option ℕ → Bool
is_named [] None = false
is_named _ _ = true

-- a typedef name is in scope; in braces something stands, and before them or without them a name
abbrev pub is_known : Scope → SpecWord → Bool
is_known scope (word.TypeName x) = is_type scope x
is_known scope (word.Tag is_union name members) = is_positive members && is_named name members
is_known scope (word.Enum name None comma) = is_named name None && not comma
is_known scope (word.Enum name (Some n) comma) = is_positive (Some n)
is_known scope _ = true

-- whether a word may follow those
abbrev pub may_follow : (storage : Bool) → List SpecWord → SpecWord → Bool
may_follow storage words w = (storage || not (is_storage (share w))) && not (list_any (clashes w) words)

-- The words stand in this order behind those before: each beside all others, and one at least is a type.
abbrev pub SpecFrom : (storage : Bool) → Scope → (before words : List SpecWord) → Type 0
SpecFrom storage scope before [] = has_type before ≡ true
SpecFrom storage scope before (w ∷ ws) =
    (may_follow storage before w ≡ true) × (is_known scope w ≡ true) × SpecFrom storage scope (before ++ w ∷ []) ws

abbrev pub IsSpec : (storage : Bool) → Scope → List SpecWord → Type 0
IsSpec storage scope words = SpecFrom storage scope [] words

-- What a node asks of its kind and of the names in scope

abbrev pub is_assignable : Option CBinary → Bool
is_assignable None = true
is_assignable (Some operator.Mul) = true
is_assignable (Some operator.Div) = true
is_assignable (Some operator.Rem) = true
is_assignable (Some operator.Add) = true
is_assignable (Some operator.Sub) = true
is_assignable (Some operator.Shl) = true
is_assignable (Some operator.Shr) = true
is_assignable (Some operator.And) = true
is_assignable (Some operator.Xor) = true
is_assignable (Some operator.Or) = true
is_assignable (Some operator.Lt) = false
is_assignable (Some operator.Gt) = false
is_assignable (Some operator.Le) = false
is_assignable (Some operator.Ge) = false
is_assignable (Some operator.Eq) = false
is_assignable (Some operator.Ne) = false
is_assignable (Some operator.AndAnd) = false
is_assignable (Some operator.OrOr) = false

abbrev pub Asks : Scope → Kind → ℕ → Type 0
Asks scope (kind.Declaration spec inits) n = IsSpec true scope spec.words
Asks scope (kind.Function spec) n = IsSpec true scope spec.words
Asks scope (kind.Member spec) n = IsSpec false scope spec.words
Asks scope (kind.Param spec) n = IsSpec false scope spec.words
Asks scope (kind.NamedType spec) n = IsSpec false scope spec.words
Asks scope (kind.InitList comma) n = 1 ≤ n
Asks scope (kind.Entry by.Nothing equals) n = equals ≡ false
Asks scope (kind.Assign op) n = is_assignable op ≡ true
Asks scope (kind.Name x) n = is_type scope x ≡ false
Asks scope (kind.Text pieces) n = 1 ≤ length pieces
Asks scope _ n = ⊤

-- Well-formed trees

abbrev pub pointed : Naming → Naming
pointed naming.Hidden = naming.Either
pointed n = n

abbrev pub grouped : Naming → Naming
grouped naming.Either = naming.Hidden
grouped n = n

abbrev pub naming_of : Class → Naming
naming_of (class.Declarator n l) = n
naming_of _ = naming.Named

abbrev pub may_of : Class → Bool
may_of (class.Statement may) = may
may_of _ = true

-- the class of a part in a node of this class
abbrev pub slot_class : Class → Slot → Class
slot_class c (Of d) = d
slot_class c Last = class.Statement (may_of c)
slot_class c Pointed = class.Declarator (pointed (naming_of c)) 15
slot_class c Direct = class.Declarator (naming_of c) 16
slot_class c Grouped = class.Declarator (grouped (naming_of c)) 15

abbrev mutual
  -- a tree of this class, under these names, whose first token has this place
  pub Formed : Class → Scope → ℕ → Tree → Type 0
  Formed c scope at (node kind token parts) =
      (token ≡ at) × Accepts c (sort kind) × Suits c scope kind (count parts) × Asks scope kind (count parts)
      × Fills c (right_side kind (count parts)) scope at parts

  -- the parts fill the places of the symbols, each under the names that are in scope where it stands
  pub Fills : Class → List Symbol → Scope → ℕ → Trees → Type 0
  Fills c [] scope at none = ⊤
  Fills c [] scope at (more n ns) = ⊥
  Fills c (Write t ∷ symbols) scope at parts = Fills c symbols scope (suc at) parts
  Fills c (Enter ∷ symbols) scope at parts = Fills c symbols ([] ∷ scope) at parts
  Fills c (Part slot role ∷ symbols) scope at none = ⊥
  Fills c (Part slot role ∷ symbols) scope at (more n ns) =
      Formed (slot_class c slot) scope at n
      × Fills c symbols (add role (told n scope) (after n scope)) (past n at) ns
