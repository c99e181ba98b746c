-- The first token of a part.
use Rattle.std.proofs.Common.{◌≡◌, ℕ, zero, suc, ◌+◌, ◌-◌, ◌≤◌, ◌<◌, nat_le, Bool, true, false, ◌||◌, ◌&&◌, ◌⊎◌, inl, inr, not, List, [], ◌∷◌, ◌++◌, Option, Some, None, refl, sym, ap, subst, ◌∙◌, arith, ⊎_elim, append_assoc, append-nil, map}
use Rattle.std.specs.Prelude.{⊤}
use Rattle.std.proofs.lemmas.Bool.{false≢true, and_parts, not-true}
use Rattle.p9_lang.specs.declared.tree.CBinary.{CBinary}
use Rattle.p9_lang.specs.declared.tree.CBinary.TheVariants as operator
use Rattle.p9_lang.specs.declared.tree.CUnary.{CUnary}
use Rattle.p9_lang.specs.declared.tree.CUnary.TheVariants as unary
use Rattle.p9_lang.specs.declared.tree.EntryBy.{EntryBy}
use Rattle.p9_lang.specs.declared.tree.EntryBy.TheVariants as by
use Rattle.p9_lang.specs.declared.tree.SpecWord.{SpecWord}
use Rattle.p9_lang.specs.declared.tree.SpecWord.TheVariants as word
use Rattle.p9_lang.specs.declared.tree.Kind.{Kind}
use Rattle.p9_lang.specs.declared.tree.Kind.TheVariants as kind
use Rattle.p9_grammar.specs.declared.terminal.Keyword.{Keyword}
use Rattle.p9_grammar.specs.declared.terminal.Keyword.TheVariants as key
use Rattle.p9_grammar.specs.declared.terminal.Punctuator.{Punctuator}
use Rattle.p9_grammar.specs.declared.terminal.Punctuator.TheVariants as mark
use Rattle.p9_grammar.specs.declared.terminal.Terminal.{Terminal}
use Rattle.p9_grammar.specs.declared.terminal.Terminal.TheVariants as t
use Rattle.p9_grammar.specs.declared.head.Context.{Context}
use Rattle.p9_grammar.specs.declared.head.Context.TheVariants as context
use Rattle.p9_grammar.specs.declared.head.Naming.{Naming}
use Rattle.p9_grammar.specs.declared.head.Naming.TheVariants as naming
use Rattle.p9_grammar.specs.declared.head.Class.{Class}
use Rattle.p9_grammar.specs.declared.head.Class.TheVariants as class
use Rattle.p9_grammar.specs.declared.head.Head.{Head}
use Rattle.p9_grammar.specs.declared.head.Head.TheVariants as head
use Rattle.p9_grammar.specs.Trees.{Tree, node, Trees, none, more, count}
use Rattle.p9_grammar.specs.Symbols.{Symbol, Write, Part, Enter, right_side, binds, spec_symbols, branches}
use Rattle.p9_grammar.specs.Scopes.{Scope, is_type}
use Rattle.p9_grammar.specs.Grammar.{Sort, sort, Accepts, Suits, Asks, Formed, Fills, SpecFrom, IsSpec, may_follow, has_type, is_known, Hides, Leads}
use Rattle.p9_grammar.specs.Machine.{Move, Shift, Refused, Begin, begin, begin_by, begin_spec, begin_expression, begin_declarator, begin_statement, begin_switch_item, is_begun, only_if, spec_move, shift_if, allows_storage}
use Rattle.p9_grammar.proofs.Spelling.{spell, spells}

-- A list begins with a token of this kind.
abbrev pub First : (Terminal → Bool) → List Terminal → Type 0
First p ts = (token : Terminal) × (rest : List Terminal) × (ts ≡ token ∷ rest) × (p token ≡ true)

abbrev pub starts_expression : Scope → Terminal → Bool
starts_expression scope token = is_begun (begin_expression scope 1 token)

abbrev pub starts_declarator : Naming → Scope → Terminal → Bool
starts_declarator n scope token = is_begun (begin_declarator scope n token)

abbrev pub starts_statement : Scope → Terminal → Bool
starts_statement scope (t.Mark mark.OpenBrace) = true
starts_statement scope (t.Mark mark.Semicolon) = true
starts_statement scope (t.Key key.If) = true
starts_statement scope (t.Key key.While) = true
starts_statement scope (t.Key key.Do) = true
starts_statement scope (t.Key key.For) = true
starts_statement scope (t.Key key.Switch) = true
starts_statement scope (t.Key key.Break) = true
starts_statement scope (t.Key key.Continue) = true
starts_statement scope (t.Key key.Return) = true
starts_statement scope token = starts_expression scope token

abbrev pub starts_switch_item : Scope → Terminal → Bool
starts_switch_item scope (t.Key key.Case) = true
starts_switch_item scope (t.Key key.Default) = true
starts_switch_item scope token = starts_statement scope token

abbrev pub starts_initialiser : Scope → Terminal → Bool
starts_initialiser scope (t.Mark mark.OpenBrace) = true
starts_initialiser scope token = starts_expression scope token

abbrev pub starts_entry : Scope → Terminal → Bool
starts_entry scope (t.Mark mark.OpenBracket) = true
starts_entry scope (t.Mark mark.Dot) = true
starts_entry scope token = starts_initialiser scope token

abbrev pub starts_constant : Terminal → Bool
starts_constant (t.Name x) = true
starts_constant _ = false

abbrev pub starts_body : Terminal → Bool
starts_body (t.Mark mark.OpenBrace) = true
starts_body _ = false

abbrev pub starts_spec : Context → Scope → Terminal → Bool
starts_spec c scope token = is_begun (begin_spec scope c token)

abbrev pub starts : Class → Scope → Terminal → Bool
starts (class.Expression l) scope token = starts_expression scope token
starts (class.Declarator n l) scope token = starts_declarator n scope token
starts class.Initialiser scope token = starts_initialiser scope token
starts class.Entry scope token = starts_entry scope token
starts class.Param scope token = starts_spec context.Param scope token
starts class.OnlyParam scope token = starts_spec context.Param scope token
starts class.Type scope token = starts_spec context.Type scope token
starts class.Member scope token = starts_spec context.Member scope token
starts class.Constant scope token = starts_constant token
starts class.FileItem scope token = starts_spec context.File scope token
starts class.HeadItem scope token = starts_spec context.Head scope token
starts class.BlockItem scope token = starts_spec context.Local scope token || starts_statement scope token
starts (class.Statement may) scope token = starts_statement scope token
starts class.SwitchItem scope token = starts_switch_item scope token
starts class.Body scope token = starts_body token

pub first-along : (p q : Terminal → Bool) (ts : List Terminal) → ((token : Terminal) → p token ≡ true → q token ≡ true) → First p ts → First q ts
first-along p q ts h (token, rest, e, g) = (token, rest, e, h token g)

-- expressions

mutual
  pub first-expression : (n : Tree) (l : ℕ) (scope : Scope) (at : ℕ) (rest : List Terminal) → Formed (class.Expression l) scope at n →
      First (starts_expression scope) (spell n rest)
  first-expression (node k at parts) l scope p rest f = first-expression_in k parts l scope p rest f.1 f.3 f.4

  first-expression_in : (k : Kind) (parts : Trees) (l : ℕ) (scope : Scope) (at : ℕ) (rest : List Terminal) →
      Accepts (class.Expression l) (sort k) → Asks scope k (count parts) → Fills (class.Expression l) (right_side k (count parts)) scope at parts →
      First (starts_expression scope) (spells (right_side k (count parts)) parts rest)
  first-expression_in kind.Index none l scope at rest a g f = absurd f
  first-expression_in kind.Index (more n ns) l scope at rest a g f = first-expression n 16 scope at _ f.0
  first-expression_in kind.Call none l scope at rest a g f = absurd f
  first-expression_in kind.Call (more n ns) l scope at rest a g f = first-expression n 16 scope at _ f.0
  first-expression_in (kind.Dot arrow x) none l scope at rest a g f = absurd f
  first-expression_in (kind.Dot arrow x) (more n ns) l scope at rest a g f = first-expression n 16 scope at _ f.0
  first-expression_in (kind.Post minus) none l scope at rest a g f = absurd f
  first-expression_in (kind.Post minus) (more n ns) l scope at rest a g f = first-expression n 16 scope at _ f.0
  first-expression_in (kind.Pre true) parts l scope at rest a g f = (_, _, refl, refl)
  first-expression_in (kind.Pre false) parts l scope at rest a g f = (_, _, refl, refl)
  first-expression_in (kind.Unary unary.Address) parts l scope at rest a g f = (_, _, refl, refl)
  first-expression_in (kind.Unary unary.Deref) parts l scope at rest a g f = (_, _, refl, refl)
  first-expression_in (kind.Unary unary.Plus) parts l scope at rest a g f = (_, _, refl, refl)
  first-expression_in (kind.Unary unary.Minus) parts l scope at rest a g f = (_, _, refl, refl)
  first-expression_in (kind.Unary unary.Complement) parts l scope at rest a g f = (_, _, refl, refl)
  first-expression_in (kind.Unary unary.Not) parts l scope at rest a g f = (_, _, refl, refl)
  first-expression_in kind.SizeofValue parts l scope at rest a g f = (_, _, refl, refl)
  first-expression_in kind.SizeofType parts l scope at rest a g f = (_, _, refl, refl)
  first-expression_in kind.Cast parts l scope at rest a g f = (_, _, refl, refl)
  first-expression_in (kind.Binary op) none l scope at rest a g f = absurd f
  first-expression_in (kind.Binary op) (more n ns) l scope at rest a g f = first-expression n (binds op) scope at _ f.0
  first-expression_in kind.Choose none l scope at rest a g f = absurd f
  first-expression_in kind.Choose (more n ns) l scope at rest a g f = first-expression n 4 scope at _ f.0
  first-expression_in (kind.Assign op) none l scope at rest a g f = absurd f
  first-expression_in (kind.Assign op) (more n ns) l scope at rest a g f = first-expression n 15 scope at _ f.0
  first-expression_in kind.Comma none l scope at rest a g f = absurd f
  first-expression_in kind.Comma (more n ns) l scope at rest a g f = first-expression n 1 scope at _ f.0
  first-expression_in kind.Parens parts l scope at rest a g f = (_, _, refl, refl)
  first-expression_in (kind.Name x) parts l scope at rest a g f = (t.Name x, _, refl, ap (λ b. is_begun (only_if (not b) (Rattle.p9_grammar.specs.Machine.Leaf (kind.Name x)))) g)
  first-expression_in (kind.Number value unsigned long) parts l scope at rest a g f = (_, _, refl, refl)
  first-expression_in (kind.Character value) parts l scope at rest a g f = (_, _, refl, refl)
  first-expression_in (kind.Text []) parts l scope at rest a g f = absurd (omega (arith, g))
  first-expression_in (kind.Text (x ∷ xs)) parts l scope at rest a g f = (t.Text x, _, refl, refl)
  first-expression_in _ parts l scope at rest a g f = absurd a

-- the heads of declarations

-- the token of a word that is one token
abbrev pub word_token : SpecWord → Terminal
word_token word.Extern = t.Key key.Extern
word_token word.Static = t.Key key.Static
word_token word.Typedef = t.Key key.Typedef
word_token word.Auto = t.Key key.Auto
word_token word.Register = t.Key key.Register
word_token word.Const = t.Key key.Const
word_token word.Volatile = t.Key key.Volatile
word_token word.Void = t.Key key.Void
word_token word.Char = t.Key key.Char
word_token word.Short = t.Key key.Short
word_token word.Int = t.Key key.Int
word_token word.Long = t.Key key.Long
word_token word.Signed = t.Key key.Signed
word_token word.Unsigned = t.Key key.Unsigned
word_token (word.TypeName x) = t.Name x
word_token (word.Tag true x members) = t.Key key.Union
word_token (word.Tag false x members) = t.Key key.Struct
word_token (word.Enum x constants comma) = t.Key key.Enum

-- what the reader makes of it
abbrev pub word_head : Context → List SpecWord → SpecWord → Head
word_head c before (word.Tag is_union x members) = head.TagStart c before is_union
word_head c before (word.Enum x constants comma) = head.EnumStart c before
word_head c before w = head.Spec c (before ++ w ∷ [])

and_true : (a b : Bool) → a ≡ true → b ≡ true → (a && b) ≡ true
and_true a b h g = ap (λ x. x && b) h ∙ g

pub moves-word : (scope : Scope) (c : Context) (before : List SpecWord) (w : SpecWord) → may_follow (allows_storage c) before w ≡ true → is_known scope w ≡ true →
    spec_move scope c before (word_token w) ≡ Shift (word_head c before w)
moves-word scope c before (word.TypeName x) h g = ap (λ b. shift_if b (head.Spec c (before ++ word.TypeName x ∷ [])) (Rattle.p9_grammar.specs.Machine.ends_spec c before (t.Name x))) (and_true _ _ g h)
moves-word scope c before (word.Tag true x members) h g = ap (λ b. shift_if b (head.TagStart c before true) Refused) h
moves-word scope c before (word.Tag false x members) h g = ap (λ b. shift_if b (head.TagStart c before false) Refused) h
moves-word scope c before (word.Enum x constants comma) h g = ap (λ b. shift_if b (head.EnumStart c before) Refused) h
moves-word scope c before word.Extern h g = ap (λ b. shift_if b (head.Spec c (before ++ word.Extern ∷ [])) Refused) h
moves-word scope c before word.Static h g = ap (λ b. shift_if b (head.Spec c (before ++ word.Static ∷ [])) Refused) h
moves-word scope c before word.Typedef h g = ap (λ b. shift_if b (head.Spec c (before ++ word.Typedef ∷ [])) Refused) h
moves-word scope c before word.Auto h g = ap (λ b. shift_if b (head.Spec c (before ++ word.Auto ∷ [])) Refused) h
moves-word scope c before word.Register h g = ap (λ b. shift_if b (head.Spec c (before ++ word.Register ∷ [])) Refused) h
moves-word scope c before word.Const h g = ap (λ b. shift_if b (head.Spec c (before ++ word.Const ∷ [])) Refused) h
moves-word scope c before word.Volatile h g = ap (λ b. shift_if b (head.Spec c (before ++ word.Volatile ∷ [])) Refused) h
moves-word scope c before word.Void h g = ap (λ b. shift_if b (head.Spec c (before ++ word.Void ∷ [])) Refused) h
moves-word scope c before word.Char h g = ap (λ b. shift_if b (head.Spec c (before ++ word.Char ∷ [])) Refused) h
moves-word scope c before word.Short h g = ap (λ b. shift_if b (head.Spec c (before ++ word.Short ∷ [])) Refused) h
moves-word scope c before word.Int h g = ap (λ b. shift_if b (head.Spec c (before ++ word.Int ∷ [])) Refused) h
moves-word scope c before word.Long h g = ap (λ b. shift_if b (head.Spec c (before ++ word.Long ∷ [])) Refused) h
moves-word scope c before word.Signed h g = ap (λ b. shift_if b (head.Spec c (before ++ word.Signed ∷ [])) Refused) h
moves-word scope c before word.Unsigned h g = ap (λ b. shift_if b (head.Spec c (before ++ word.Unsigned ∷ [])) Refused) h

-- the tokens of a word begin with that token
pub first_of_word : (w : SpecWord) (symbols : List Symbol) (parts : Trees) (rest : List Terminal) →
    (more : List Terminal) × (spells (Rattle.p9_grammar.specs.Symbols.word_symbols w ++ symbols) parts rest ≡ word_token w ∷ more)
first_of_word (word.Tag true x members) symbols parts rest = (_, refl)
first_of_word (word.Tag false x members) symbols parts rest = (_, refl)
first_of_word (word.Enum x constants comma) symbols parts rest = (_, refl)
first_of_word (word.TypeName x) symbols parts rest = (_, refl)
first_of_word word.Extern symbols parts rest = (_, refl)
first_of_word word.Static symbols parts rest = (_, refl)
first_of_word word.Typedef symbols parts rest = (_, refl)
first_of_word word.Auto symbols parts rest = (_, refl)
first_of_word word.Register symbols parts rest = (_, refl)
first_of_word word.Const symbols parts rest = (_, refl)
first_of_word word.Volatile symbols parts rest = (_, refl)
first_of_word word.Void symbols parts rest = (_, refl)
first_of_word word.Char symbols parts rest = (_, refl)
first_of_word word.Short symbols parts rest = (_, refl)
first_of_word word.Int symbols parts rest = (_, refl)
first_of_word word.Long symbols parts rest = (_, refl)
first_of_word word.Signed symbols parts rest = (_, refl)
first_of_word word.Unsigned symbols parts rest = (_, refl)

pub first-spec : (c : Context) (scope : Scope) (words : List SpecWord) (symbols : List Symbol) (parts : Trees) (rest : List Terminal) →
    IsSpec (allows_storage c) scope words → First (starts_spec c scope) (spells (spec_symbols words ++ symbols) parts rest)
first-spec c scope [] symbols parts rest h = absurd (false≢true h)
first-spec c scope (w ∷ ws) symbols parts rest h =
    let p = first_of_word w (spec_symbols ws ++ symbols) parts rest in (
      word_token w,
      p.0,
      ap (λ x. spells x parts rest) (append_assoc (Rattle.p9_grammar.specs.Symbols.word_symbols w) (spec_symbols ws) symbols) ∙ p.1,
      ap (λ m. is_begun (begin_by m)) (moves-word scope c [] w h.0 h.1),
    )

-- declarators

mutual
  pub first-declarator : (n : Tree) (m : Naming) (l : ℕ) (scope : Scope) (at : ℕ) (rest : List Terminal) → Formed (class.Declarator m l) scope at n →
      First (starts_declarator m scope) (spell n rest)
  first-declarator (node k at parts) m l scope p rest f = first-declarator_in k parts m l scope p rest f.1 f.2 f.4

  first-declarator_in : (k : Kind) (parts : Trees) (m : Naming) (l : ℕ) (scope : Scope) (at : ℕ) (rest : List Terminal) →
      Accepts (class.Declarator m l) (sort k) → Suits (class.Declarator m l) scope k (count parts) → Fills (class.Declarator m l) (right_side k (count parts)) scope at parts →
      First (starts_declarator m scope) (spells (right_side k (count parts)) parts rest)
  first-declarator_in (kind.DeclName x) parts naming.Named l scope at rest a g f = (_, _, refl, refl)
  first-declarator_in (kind.DeclName x) parts naming.Either l scope at rest a g f = (_, _, refl, refl)
  first-declarator_in (kind.DeclName x) parts naming.Hidden l scope at rest a g f = (t.Name x, _, refl, ap (λ b. is_begun (only_if (not b) (Rattle.p9_grammar.specs.Machine.Leaf (kind.DeclName x)))) g)
  first-declarator_in (kind.DeclName x) parts naming.Bare l scope at rest a g f = absurd g
  first-declarator_in (kind.Star volatiles) parts m l scope at rest a g f = (_, _, refl, refl)
  first-declarator_in (kind.Brackets true sized) none m l scope at rest a g f = absurd f
  first-declarator_in (kind.Brackets true sized) (more n ns) m l scope at rest a g f = first-declarator n m 16 scope at _ f.0
  first-declarator_in (kind.Brackets false sized) parts naming.Named l scope at rest a g f = absurd (false≢true g)
  first-declarator_in (kind.Brackets false sized) parts naming.Either l scope at rest a g f = (_, _, refl, refl)
  first-declarator_in (kind.Brackets false sized) parts naming.Hidden l scope at rest a g f = (_, _, refl, refl)
  first-declarator_in (kind.Brackets false sized) parts naming.Bare l scope at rest a g f = (_, _, refl, refl)
  first-declarator_in (kind.Params true void_word) none m l scope at rest a g f = absurd f
  first-declarator_in (kind.Params true void_word) (more n ns) m l scope at rest a g f = first-declarator n m 16 scope at _ f.0
  first-declarator_in (kind.Params false void_word) parts naming.Named l scope at rest a g f = (_, _, refl, refl)
  first-declarator_in (kind.Params false void_word) parts naming.Either l scope at rest a g f = (_, _, refl, refl)
  first-declarator_in (kind.Params false void_word) parts naming.Hidden l scope at rest a g f = (_, _, refl, refl)
  first-declarator_in (kind.Params false void_word) parts naming.Bare l scope at rest a g f = (_, _, refl, refl)
  first-declarator_in kind.DeclParens parts naming.Named l scope at rest a g f = (_, _, refl, refl)
  first-declarator_in kind.DeclParens parts naming.Either l scope at rest a g f = (_, _, refl, refl)
  first-declarator_in kind.DeclParens parts naming.Hidden l scope at rest a g f = (_, _, refl, refl)
  first-declarator_in kind.DeclParens parts naming.Bare l scope at rest a g f = (_, _, refl, refl)
  first-declarator_in _ parts m l scope at rest a g f = absurd a
