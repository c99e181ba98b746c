-- A reader that takes one token after the other, with a stack of the nodes that are open.
use Rattle.std.specs.Prelude.{◌≡◌, ℕ, zero, suc, pred, ◌+◌, nat_le, Bool, true, false, ◌&&◌, not, List, [], ◌∷◌, ◌++◌, Option, Some, None, if◌then◌else◌}
use Rattle.p9_lang.specs.declared.tree.CBinary.{CBinary}
use Rattle.p9_lang.specs.declared.tree.CBinary.TheVariants as operator
use Rattle.p9_lang.specs.declared.tree.CUnary.TheVariants as unary
use Rattle.p9_lang.specs.declared.tree.EntryBy.{EntryBy}
use Rattle.p9_lang.specs.declared.tree.EntryBy.TheVariants as by
use Rattle.p9_lang.specs.declared.tree.Spec.{Spec}
use Rattle.p9_lang.specs.declared.tree.SpecWord.{SpecWord}
use Rattle.p9_lang.specs.declared.tree.SpecWord.TheVariants as word
use Rattle.p9_lang.specs.declared.tree.Kind.{Kind}
use Rattle.p9_lang.specs.declared.tree.Kind.TheVariants as kind
use Rattle.p9_grammar.specs.declared.terminal.Keyword.{Keyword}
use Rattle.p9_grammar.specs.declared.terminal.Keyword.TheVariants as key
use Rattle.p9_grammar.specs.declared.terminal.Punctuator.{Punctuator}
use Rattle.p9_grammar.specs.declared.terminal.Punctuator.TheVariants as mark
use Rattle.p9_grammar.specs.declared.terminal.Terminal.{Terminal}
use Rattle.p9_grammar.specs.declared.terminal.Terminal.TheVariants as t
use Rattle.p9_grammar.specs.declared.head.Context.{Context}
use Rattle.p9_grammar.specs.declared.head.Context.TheVariants as context
use Rattle.p9_grammar.specs.declared.head.Naming.{Naming}
use Rattle.p9_grammar.specs.declared.head.Naming.TheVariants as naming
use Rattle.p9_grammar.specs.declared.head.Class.{Class}
use Rattle.p9_grammar.specs.declared.head.Class.TheVariants as class
use Rattle.p9_grammar.specs.declared.head.Head.{Head}
use Rattle.p9_grammar.specs.declared.head.Head.TheVariants as head
use Rattle.p9_grammar.specs.Trees.{Tree, node, Trees, none, more, push}
use Rattle.p9_grammar.specs.Symbols.{binds, expression, assignment, conditional, operand, is_typedef, Role, Plain, Declares}
use Rattle.p9_grammar.specs.Scopes.{Scope, is_type, outer, innermost, Told, nothing, tells, leave, add}
use Rattle.p9_grammar.specs.Grammar.{Sort, Expression, Declarator, sort, may_follow, has_type, is_void_word, pointed, grouped}

-- What is open: how far the reader has come in a node, the place of its first token, the parts read so
-- far, and what its declarator tells.
pub record Frame : Type 0 where
  pub head : Head
  pub from : ℕ
  pub parts : Trees
  pub told : Told

-- a node that is read, and what it tells
pub record Read : Type 0 where
  pub tree : Tree
  pub told : Told

abbrev pub Stack : Type 0
Stack = List Frame

-- Either a node has just been read, or the innermost open one goes on.
pub record State : Type 0 where
  pub stack : Stack
  pub scope : Scope
  pub at : ℕ
  pub last : Option Read

abbrev pub start_of : Tree → ℕ
start_of (node kind at parts) = at

abbrev pub fresh : Head → ℕ → Frame
fresh h at = record { head = h; from = at; parts = none; told = nothing }

abbrev pub moved : Frame → Head → Frame
moved f h = record { head = h; from = f.from; parts = f.parts; told = f.told }

-- What the innermost open node does with a token: takes it and goes on, takes it and ends, begins a part
-- with it, ends before it, or refuses it.
pub data Move : Type 0 where
  Shift : Head → Move
  Ends : Kind → Move
  Opens : Head → Move
  Over : Kind → Move
  Refused : Move

-- How a part begins: with a token that opens a node, with one that is a node, or in a node of which it is
-- the first part.
pub data Begin : Type 0 where
  Pushes : Head → Begin
  Leaf : Kind → Begin
  Under : Head → Begin
  Nowhere : Begin

-- What a part that is read makes of the node that it is part of: it goes on, or it ends.
pub data After : Type 0 where
  To : Head → After
  Makes : Kind → After
  Unwanted : After

-- What a token makes of the node before it: the first part of one that goes on or of one that is whole, or
-- a longer one; or nothing.
pub data Join : Type 0 where
  Joins : Head → Join
  Posts : Kind → Join
  Lengthens : Kind → Join
  Apart : Join

abbrev pub spec : List SpecWord → Spec
spec words = record { words = words }

-- The heads of declarations

abbrev pub allows_storage : Context → Bool
allows_storage context.File = true
allows_storage context.Head = true
allows_storage context.Local = true
allows_storage context.Member = false
allows_storage context.Param = false
allows_storage context.Type = false

abbrev pub shift_if : Bool → Head → Move → Move
shift_if true h other = Shift h
shift_if false h other = other

-- behind a head that is whole
abbrev pub behind : Context → List SpecWord → Terminal → Move
behind context.File words (t.Mark mark.Semicolon) = Ends (kind.Declaration (spec words) [])
behind context.File words token = Opens (head.Declarators context.File words [])
behind context.Head words (t.Mark mark.Semicolon) = Ends (kind.Declaration (spec words) [])
behind context.Head words token = Opens (head.Declarators context.Head words [])
behind context.Local words (t.Mark mark.Semicolon) = Ends (kind.Declaration (spec words) [])
behind context.Local words token = Opens (head.Declarators context.Local words [])
behind context.Member words (t.Mark mark.Semicolon) = Ends (kind.Member (spec words))
behind context.Member words token = Opens (head.MemberDeclarators words)
behind context.Param words (t.Mark mark.Comma) = Over (kind.Param (spec words))
behind context.Param words (t.Mark mark.CloseParen) = Over (kind.Param (spec words))
behind context.Param words token = Opens (head.ParamOf words)
behind context.Type words (t.Mark mark.CloseParen) = Over (kind.NamedType (spec words))
behind context.Type words token = Opens (head.TypeOf words)

abbrev pub behind_type : (has_type : Bool) → Context → List SpecWord → Terminal → Move
behind_type true c words token = behind c words token
behind_type false c words token = Refused

abbrev pub ends_spec : Context → List SpecWord → Terminal → Move
ends_spec c words token = behind_type (has_type words) c words token

abbrev pub word_move : Context → List SpecWord → SpecWord → Move
word_move c words w = shift_if (may_follow (allows_storage c) words w) (head.Spec c (words ++ w ∷ [])) Refused

abbrev pub key_move : Context → List SpecWord → Keyword → Move
key_move c words key.Extern = word_move c words word.Extern
key_move c words key.Static = word_move c words word.Static
key_move c words key.Typedef = word_move c words word.Typedef
key_move c words key.Auto = word_move c words word.Auto
key_move c words key.Register = word_move c words word.Register
key_move c words key.Const = word_move c words word.Const
key_move c words key.Volatile = word_move c words word.Volatile
key_move c words key.Void = word_move c words word.Void
key_move c words key.Char = word_move c words word.Char
key_move c words key.Short = word_move c words word.Short
key_move c words key.Int = word_move c words word.Int
key_move c words key.Long = word_move c words word.Long
key_move c words key.Signed = word_move c words word.Signed
key_move c words key.Unsigned = word_move c words word.Unsigned
key_move c words key.Struct = shift_if (may_follow (allows_storage c) words (word.Tag false [] None)) (head.TagStart c words false) Refused
key_move c words key.Union = shift_if (may_follow (allows_storage c) words (word.Tag true [] None)) (head.TagStart c words true) Refused
key_move c words key.Enum = shift_if (may_follow (allows_storage c) words (word.Enum [] None false)) (head.EnumStart c words) Refused
key_move c words k = ends_spec c words (t.Key k)

abbrev pub spec_move : Scope → Context → List SpecWord → Terminal → Move
spec_move scope c words (t.Key k) = key_move c words k
spec_move scope c words (t.Name x) =
    shift_if (is_type scope x && may_follow (allows_storage c) words (word.TypeName x)) (head.Spec c (words ++ word.TypeName x ∷ []))
    (ends_spec c words (t.Name x))
spec_move scope c words token = ends_spec c words token

abbrev pub begin_by : Move → Begin
begin_by (Shift h) = Pushes h
begin_by _ = Nowhere

abbrev pub begin_spec : Scope → Context → Terminal → Begin
begin_spec scope c token = begin_by (spec_move scope c [] token)

abbrev pub is_begun : Begin → Bool
is_begun (Pushes h) = true
is_begun (Leaf k) = true
is_begun (Under h) = true
is_begun Nowhere = false

-- whether a type in a cast or a parameter begins with this token
abbrev pub begins_type : Scope → Terminal → Bool
begins_type scope token = is_begun (begin_spec scope context.Type token)

-- The first token of a part

abbrev pub only_if : Bool → Begin → Begin
only_if true b = b
only_if false b = Nowhere

abbrev pub or_else : Begin → Begin → Begin
or_else Nowhere other = other
or_else b other = b

abbrev pub begin_expression : Scope → (level : ℕ) → Terminal → Begin
begin_expression scope l (t.Name x) = only_if (not (is_type scope x)) (Leaf (kind.Name x))
begin_expression scope l (t.Number value unsigned long) = Leaf (kind.Number value unsigned long)
begin_expression scope l (t.Character value) = Leaf (kind.Character value)
begin_expression scope l (t.Text x) = Leaf (kind.Text (x ∷ []))
begin_expression scope l (t.Mark mark.OpenParen) = Pushes (head.Opened l)
begin_expression scope l (t.Mark mark.Ampersand) = only_if (nat_le l 15) (Pushes (head.UnaryOf unary.Address))
begin_expression scope l (t.Mark mark.Star) = only_if (nat_le l 15) (Pushes (head.UnaryOf unary.Deref))
begin_expression scope l (t.Mark mark.Plus) = only_if (nat_le l 15) (Pushes (head.UnaryOf unary.Plus))
begin_expression scope l (t.Mark mark.Minus) = only_if (nat_le l 15) (Pushes (head.UnaryOf unary.Minus))
begin_expression scope l (t.Mark mark.Tilde) = only_if (nat_le l 15) (Pushes (head.UnaryOf unary.Complement))
begin_expression scope l (t.Mark mark.Bang) = only_if (nat_le l 15) (Pushes (head.UnaryOf unary.Not))
begin_expression scope l (t.Mark mark.PlusPlus) = only_if (nat_le l 15) (Pushes (head.PreOf false))
begin_expression scope l (t.Mark mark.MinusMinus) = only_if (nat_le l 15) (Pushes (head.PreOf true))
begin_expression scope l (t.Key key.Sizeof) = only_if (nat_le l 15) (Pushes head.SizeofStart)
begin_expression scope l _ = Nowhere

abbrev pub begin_name : Scope → Naming → List ℕ → Begin
begin_name scope naming.Named x = Leaf (kind.DeclName x)
begin_name scope naming.Either x = Leaf (kind.DeclName x)
begin_name scope naming.Hidden x = only_if (not (is_type scope x)) (Leaf (kind.DeclName x))
begin_name scope naming.Bare x = Nowhere

-- a parenthesis or bracket where no declarator stands before
abbrev pub begin_group : Naming → Begin
begin_group naming.Named = Pushes (head.DeclGroup naming.Named)
begin_group n = Pushes (head.DeclOpened n)

abbrev pub begin_brackets : Naming → Begin
begin_brackets naming.Named = Nowhere
begin_brackets n = Pushes (head.BracketsStart false)

abbrev pub begin_declarator : Scope → Naming → Terminal → Begin
begin_declarator scope n (t.Name x) = begin_name scope n x
begin_declarator scope n (t.Mark mark.Star) = Pushes (head.Stars n [])
begin_declarator scope n (t.Mark mark.OpenParen) = begin_group n
begin_declarator scope n (t.Mark mark.OpenBracket) = begin_brackets n
begin_declarator scope n _ = Nowhere

abbrev pub begin_statement : Terminal → Begin
begin_statement (t.Mark mark.OpenBrace) = Pushes head.BlockItems
begin_statement (t.Mark mark.Semicolon) = Leaf kind.Expression
begin_statement (t.Key key.If) = Pushes head.IfStart
begin_statement (t.Key key.While) = Pushes head.WhileStart
begin_statement (t.Key key.Do) = Pushes head.DoBody
begin_statement (t.Key key.For) = Pushes head.ForStart
begin_statement (t.Key key.Switch) = Pushes head.SwitchStart
begin_statement (t.Key key.Break) = Pushes head.BreakEnd
begin_statement (t.Key key.Continue) = Pushes head.ContinueEnd
begin_statement (t.Key key.Return) = Pushes head.ReturnOf
begin_statement _ = Under head.ExpressionOf

abbrev pub begin_switch_item : Terminal → Begin
begin_switch_item (t.Key key.Case) = Pushes head.CaseOf
begin_switch_item (t.Key key.Default) = Pushes head.DefaultEnd
begin_switch_item token = begin_statement token

abbrev pub begin_body : Terminal → Begin
begin_body (t.Mark mark.OpenBrace) = Pushes head.BlockItems
begin_body _ = Nowhere

abbrev pub begin_initialiser : Scope → Terminal → Begin
begin_initialiser scope (t.Mark mark.OpenBrace) = Pushes head.ListStart
begin_initialiser scope token = begin_expression scope 2 token

abbrev pub begin_entry : Terminal → Begin
begin_entry (t.Mark mark.OpenBracket) = Pushes head.EntryIndex
begin_entry (t.Mark mark.Dot) = Pushes head.EntryDot
begin_entry _ = Under (head.EntryOf by.Nothing false)

abbrev pub begin_constant : Terminal → Begin
begin_constant (t.Name x) = Pushes (head.ConstantNamed x)
begin_constant _ = Nowhere

abbrev pub begin : Scope → Class → Terminal → Begin
begin scope (class.Expression l) token = begin_expression scope l token
begin scope (class.Declarator n l) token = begin_declarator scope n token
begin scope class.Initialiser token = begin_initialiser scope token
begin scope class.Entry token = begin_entry token
begin scope class.Param token = begin_spec scope context.Param token
begin scope class.OnlyParam token = begin_spec scope context.Param token
begin scope class.Type token = begin_spec scope context.Type token
begin scope class.Member token = begin_spec scope context.Member token
begin scope class.Constant token = begin_constant token
begin scope class.FileItem token = begin_spec scope context.File token
begin scope class.HeadItem token = begin_spec scope context.Head token
begin scope class.BlockItem token = or_else (begin_spec scope context.Local token) (begin_statement token)
begin scope (class.Statement may) token = begin_statement token
begin scope class.SwitchItem token = begin_switch_item token
begin scope class.Body token = begin_body token

-- What a node that is open wants

abbrev pub wanted : Head → Class
wanted head.FileItems = class.FileItem
wanted head.GoalExpression = expression
wanted head.GoalHead = class.HeadItem
wanted head.Group = expression
wanted head.CastType = class.Type
wanted head.CastOf = operand
wanted (head.UnaryOf op) = operand
wanted (head.PreOf minus) = class.Expression 15
wanted head.SizeofOf = class.Expression 15
wanted head.SizeofType = class.Type
wanted (head.BinaryOf op) = class.Expression (suc (binds op))
wanted (head.AssignOf op) = assignment
wanted head.CommaOf = assignment
wanted head.ChooseYes = expression
wanted head.ChooseNo = conditional
wanted head.IndexOf = expression
wanted head.CallStart = assignment
wanted head.CallMore = assignment
wanted head.BlockItems = class.BlockItem
wanted head.ExpressionOf = expression
wanted head.IfTest = expression
wanted head.IfThen = class.Statement true
wanted head.IfElse = class.Statement true
wanted head.WhileTest = expression
wanted head.WhileBody = class.Statement true
wanted head.DoBody = class.Statement true
wanted head.DoTest = expression
wanted head.ForFirst = expression
wanted (head.ForTest first) = expression
wanted (head.ForStep first test) = expression
wanted (head.ForBody first test step) = class.Statement true
wanted head.SwitchValue = expression
wanted head.SwitchItems = class.SwitchItem
wanted head.CaseOf = conditional
wanted head.ReturnOf = expression
wanted (head.Members c words is_union name n) = class.Member
wanted (head.Constants c words name n) = class.Constant
wanted (head.ConstantsComma c words name n) = class.Constant
wanted (head.ConstantOf name) = conditional
wanted (head.Declarators c words inits) = class.Declarator naming.Named 15
wanted (head.Initialised c words inits) = class.Initialiser
wanted (head.FunctionBody words) = class.Body
wanted (head.MemberDeclarators words) = class.Declarator naming.Named 15
wanted (head.ParamOf words) = class.Declarator naming.Either 15
wanted (head.TypeOf words) = class.Declarator naming.Bare 15
wanted (head.Stars n volatiles) = class.Declarator (pointed n) 15
wanted (head.DeclGroup n) = class.Declarator (grouped n) 15
wanted (head.BracketsStart inner) = conditional
wanted (head.ParamsStart inner) = class.Param
wanted (head.ParamsMore inner) = class.Param
wanted head.ListStart = class.Entry
wanted head.ListComma = class.Entry
wanted head.EntryIndex = conditional
wanted (head.EntryOf place equals) = class.Initialiser
wanted _ = class.Body

abbrev pub only_void : Tree → Bool
only_void (node (kind.Param s) at none) = is_void_word s.words 0
only_void _ = false

abbrev pub first_param : (only_void : Bool) → (inner : Bool) → After
first_param true inner = To (head.ParamsLone inner)
first_param false inner = To (head.ParamsNext inner)

abbrev pub attached : Head → Tree → After
attached head.FileItems n = To head.FileItems
attached head.GoalExpression n = To head.GoalRead
attached head.GoalHead n = To head.HeadRead
attached head.Group n = To head.GroupEnd
attached head.CastType n = To head.CastEnd
attached head.CastOf n = Makes kind.Cast
attached (head.UnaryOf op) n = Makes (kind.Unary op)
attached (head.PreOf minus) n = Makes (kind.Pre minus)
attached head.SizeofOf n = Makes kind.SizeofValue
attached head.SizeofType n = To head.SizeofEnd
attached (head.BinaryOf op) n = Makes (kind.Binary op)
attached (head.AssignOf op) n = Makes (kind.Assign op)
attached head.CommaOf n = Makes kind.Comma
attached head.ChooseYes n = To head.ChooseColon
attached head.ChooseNo n = Makes kind.Choose
attached head.IndexOf n = To head.IndexEnd
attached head.CallStart n = To head.CallNext
attached head.CallMore n = To head.CallNext
attached head.BlockItems n = To head.BlockItems
attached head.ExpressionOf n = To head.ExpressionEnd
attached head.IfTest n = To head.IfEnd
attached head.IfThen n = To head.IfThenEnd
attached head.IfElse n = Makes kind.If
attached head.WhileTest n = To head.WhileEnd
attached head.WhileBody n = Makes kind.While
attached head.DoBody n = To head.DoWhile
attached head.DoTest n = To head.DoClose
attached head.ForFirst n = To head.ForFirstEnd
attached (head.ForTest first) n = To (head.ForTestEnd first)
attached (head.ForStep first test) n = To (head.ForStepEnd first test)
attached (head.ForBody first test step) n = Makes (kind.For first test step)
attached head.SwitchValue n = To head.SwitchEnd
attached head.SwitchItems n = To head.SwitchItems
attached head.CaseOf n = To head.CaseEnd
attached head.ReturnOf n = To head.ReturnEnd
attached (head.Members c words is_union name k) n = To (head.Members c words is_union name (suc k))
attached (head.Constants c words name k) n = To (head.ConstantsNext c words name (suc k))
attached (head.ConstantsComma c words name k) n = To (head.ConstantsNext c words name (suc k))
attached (head.ConstantOf name) n = Makes (kind.EnumConst name true)
attached (head.Declarators c words inits) n = To (head.Declared c words inits)
attached (head.Initialised c words inits) n = To (head.InitialisedEnd c words inits)
attached (head.FunctionBody words) n = Makes (kind.Function (spec words))
attached (head.MemberDeclarators words) n = To (head.MemberDeclared words)
attached (head.ParamOf words) n = Makes (kind.Param (spec words))
attached (head.TypeOf words) n = Makes (kind.NamedType (spec words))
attached (head.Stars m volatiles) n = Makes (kind.Star volatiles)
attached (head.DeclGroup m) n = To (head.DeclGroupEnd m)
attached (head.BracketsStart inner) n = To (head.BracketsEnd inner)
attached (head.ParamsStart inner) n = first_param (only_void n) inner
attached (head.ParamsMore inner) n = To (head.ParamsNext inner)
attached head.ListStart n = To head.ListNext
attached head.ListComma n = To head.ListNext
attached head.EntryIndex n = To head.EntryIndexEnd
attached (head.EntryOf place equals) n = Makes (kind.Entry place equals)
attached _ n = Unwanted

-- what a part adds to the names in scope
abbrev pub role : Head → Role
role (head.Declarators c words inits) = Declares (is_typedef words)
role (head.ParamOf words) = Declares false
role _ = Plain

-- what an open node is told by a part of it
abbrev pub retold : Head → (before now : Told) → Told
retold (head.Declarators c words inits) before now = now
retold (head.ParamOf words) before now = now
retold (head.Stars n volatiles) before now = now
retold (head.DeclGroup n) before now = now
retold _ before now = before

-- What a node that is open does with a token

abbrev pub by_comma : Head → Terminal → Move
by_comma h (t.Mark mark.Comma) = Shift h
by_comma h _ = Refused

abbrev pub close_paren : Move → Terminal → Move
close_paren m (t.Mark mark.CloseParen) = m
close_paren m _ = Refused

abbrev pub open_paren : Head → Terminal → Move
open_paren h (t.Mark mark.OpenParen) = Shift h
open_paren h _ = Refused

abbrev pub close_bracket : Move → Terminal → Move
close_bracket m (t.Mark mark.CloseBracket) = m
close_bracket m _ = Refused

abbrev pub semicolon : Move → Terminal → Move
semicolon m (t.Mark mark.Semicolon) = m
semicolon m _ = Refused

abbrev pub colon : Move → Terminal → Move
colon m (t.Mark mark.Colon) = m
colon m _ = Refused

-- the closing mark, or else a part
abbrev pub paren_or : Move → Move → Terminal → Move
paren_or m other (t.Mark mark.CloseParen) = m
paren_or m other _ = other

abbrev pub semicolon_or : Move → Move → Terminal → Move
semicolon_or m other (t.Mark mark.Semicolon) = m
semicolon_or m other _ = other

abbrev pub brace_or : Move → Move → Terminal → Move
brace_or m other (t.Mark mark.CloseBrace) = m
brace_or m other _ = other

abbrev pub bracket_or : Move → Move → Terminal → Move
bracket_or m other (t.Mark mark.CloseBracket) = m
bracket_or m other _ = other

abbrev pub tag_move : Scope → Context → List SpecWord → (is_union : Bool) → (name : List ℕ) → Terminal → Move
tag_move scope c words is_union name (t.Mark mark.OpenBrace) = Shift (head.Members c words is_union name 0)
tag_move scope c words is_union name token = spec_move scope c (words ++ word.Tag is_union name None ∷ []) token

abbrev pub enum_move : Scope → Context → List SpecWord → (name : List ℕ) → Terminal → Move
enum_move scope c words name (t.Mark mark.OpenBrace) = Shift (head.Constants c words name 0)
enum_move scope c words name token = spec_move scope c (words ++ word.Enum name None false ∷ []) token

abbrev pub tag_start : Context → List SpecWord → (is_union : Bool) → Terminal → Move
tag_start c words is_union (t.Name (b ∷ bs)) = Shift (head.TagNamed c words is_union (b ∷ bs))
tag_start c words is_union (t.Mark mark.OpenBrace) = Shift (head.Members c words is_union [] 0)
tag_start c words is_union _ = Refused

abbrev pub enum_start : Context → List SpecWord → Terminal → Move
enum_start c words (t.Name (b ∷ bs)) = Shift (head.EnumNamed c words (b ∷ bs))
enum_start c words (t.Mark mark.OpenBrace) = Shift (head.Constants c words [] 0)
enum_start c words _ = Refused

abbrev pub members_move : Context → List SpecWord → (is_union : Bool) → (name : List ℕ) → ℕ → Terminal → Move
members_move c words is_union name zero token = Opens (head.Members c words is_union name 0)
members_move c words is_union name (suc n) token =
    brace_or (Shift (head.Spec c (words ++ word.Tag is_union name (Some (suc n)) ∷ []))) (Opens (head.Members c words is_union name (suc n))) token

abbrev pub constants_next : Context → List SpecWord → (name : List ℕ) → ℕ → Terminal → Move
constants_next c words name n (t.Mark mark.Comma) = Shift (head.ConstantsComma c words name n)
constants_next c words name n (t.Mark mark.CloseBrace) = Shift (head.Spec c (words ++ word.Enum name (Some n) false ∷ []))
constants_next c words name n _ = Refused

abbrev pub constant_named : (name : List ℕ) → Terminal → Move
constant_named name (t.Mark mark.Equal) = Shift (head.ConstantOf name)
constant_named name (t.Mark mark.Comma) = Over (kind.EnumConst name false)
constant_named name (t.Mark mark.CloseBrace) = Over (kind.EnumConst name false)
constant_named name _ = Refused

-- a function's block may follow its declarator alone
abbrev pub body_move : Context → List SpecWord → (inits : List Bool) → Move
body_move context.File words [] = Opens (head.FunctionBody words)
body_move context.Head words [] = Shift (head.HeadOver words)
body_move _ words inits = Refused

abbrev pub next_declarator : Context → List SpecWord → (inits : List Bool) → Terminal → Move
next_declarator c words inits (t.Mark mark.Comma) = Shift (head.Declarators c words inits)
next_declarator c words inits (t.Mark mark.Semicolon) = Ends (kind.Declaration (spec words) inits)
next_declarator c words inits _ = Refused

abbrev pub declared_move : Context → List SpecWord → (inits : List Bool) → Terminal → Move
declared_move c words inits (t.Mark mark.Equal) = Shift (head.Initialised c words inits)
declared_move c words inits (t.Mark mark.OpenBrace) = body_move c words inits
declared_move c words inits token = next_declarator c words (inits ++ false ∷ []) token

abbrev pub member_declared : List SpecWord → Terminal → Move
member_declared words (t.Mark mark.Comma) = Shift (head.MemberDeclarators words)
member_declared words (t.Mark mark.Semicolon) = Ends (kind.Member (spec words))
member_declared words _ = Refused

-- a star with nothing behind it
abbrev pub bare_star : Naming → List Bool → Move
bare_star naming.Named volatiles = Refused
bare_star n volatiles = Over (kind.Star volatiles)

abbrev pub stars_move : Naming → List Bool → Terminal → Move
stars_move n volatiles (t.Key key.Const) = Shift (head.Stars n (volatiles ++ false ∷ []))
stars_move n volatiles (t.Key key.Volatile) = Shift (head.Stars n (volatiles ++ true ∷ []))
stars_move n volatiles (t.Mark mark.Comma) = bare_star n volatiles
stars_move n volatiles (t.Mark mark.CloseParen) = bare_star n volatiles
stars_move n volatiles _ = Opens (head.Stars n volatiles)

abbrev pub params_start : (inner : Bool) → Terminal → Move
params_start inner (t.Mark mark.CloseParen) = Ends (kind.Params inner false)
params_start inner (t.Key key.Void) = Shift (head.ParamsVoid inner)
params_start inner _ = Opens (head.ParamsStart inner)

abbrev pub params_next : (inner : Bool) → Terminal → Move
params_next inner (t.Mark mark.Comma) = Shift (head.ParamsMore inner)
params_next inner (t.Mark mark.CloseParen) = Ends (kind.Params inner false)
params_next inner _ = Refused

abbrev pub list_next : Terminal → Move
list_next (t.Mark mark.Comma) = Shift head.ListComma
list_next (t.Mark mark.CloseBrace) = Ends (kind.InitList false)
list_next _ = Refused

abbrev pub call_next : Terminal → Move
call_next (t.Mark mark.Comma) = Shift head.CallMore
call_next (t.Mark mark.CloseParen) = Ends kind.Call
call_next _ = Refused

abbrev pub entry_dot : Terminal → Move
entry_dot (t.Name x) = Shift (head.EntryNamed (by.Member x))
entry_dot _ = Refused

abbrev pub entry_named : EntryBy → Terminal → Move
entry_named place (t.Mark mark.Equal) = Shift (head.EntryOf place true)
entry_named place _ = Opens (head.EntryOf place false)

abbrev pub dot_move : (arrow : Bool) → Terminal → Move
dot_move arrow (t.Name x) = Ends (kind.Dot arrow x)
dot_move arrow _ = Refused

abbrev pub sizeof_start : Terminal → Move
sizeof_start (t.Mark mark.OpenParen) = Shift head.SizeofOpen
sizeof_start _ = Opens head.SizeofOf

abbrev pub else_move : Terminal → Move
else_move (t.Key key.Else) = Shift head.IfElse
else_move _ = Over kind.If

abbrev pub while_move : Terminal → Move
while_move (t.Key key.While) = Shift head.DoOpen
while_move _ = Refused

abbrev pub brace_move : Terminal → Move
brace_move (t.Mark mark.OpenBrace) = Shift head.SwitchItems
brace_move _ = Refused

abbrev pub end_or : Move → Move → Terminal → Move
end_or m other t.End = m
end_or m other _ = other

abbrev pub move : Scope → Head → Terminal → Move
move scope head.FileItems token = end_or (Shift head.FileOver) (Opens head.FileItems) token
move scope head.FileOver token = Refused
move scope head.GoalExpression token = Opens head.GoalExpression
move scope head.GoalRead token = end_or (Shift head.GoalOver) Refused token
move scope head.GoalOver token = Refused
move scope head.GoalHead token = Opens head.GoalHead
move scope head.HeadRead token = Refused
move scope (head.HeadOver words) token = Refused
move scope (head.Opened l) token = Refused
move scope head.Group token = Opens head.Group
move scope head.GroupEnd token = close_paren (Ends kind.Parens) token
move scope head.CastType token = Opens head.CastType
move scope head.CastEnd token = close_paren (Shift head.CastOf) token
move scope head.CastOf token = Opens head.CastOf
move scope (head.UnaryOf op) token = Opens (head.UnaryOf op)
move scope (head.PreOf minus) token = Opens (head.PreOf minus)
move scope head.SizeofStart token = sizeof_start token
move scope head.SizeofOpen token = Refused
move scope head.SizeofOf token = Opens head.SizeofOf
move scope head.SizeofType token = Opens head.SizeofType
move scope head.SizeofEnd token = close_paren (Ends kind.SizeofType) token
move scope (head.BinaryOf op) token = Opens (head.BinaryOf op)
move scope (head.AssignOf op) token = Opens (head.AssignOf op)
move scope head.CommaOf token = Opens head.CommaOf
move scope head.ChooseYes token = Opens head.ChooseYes
move scope head.ChooseColon token = colon (Shift head.ChooseNo) token
move scope head.ChooseNo token = Opens head.ChooseNo
move scope head.IndexOf token = Opens head.IndexOf
move scope head.IndexEnd token = close_bracket (Ends kind.Index) token
move scope head.CallStart token = paren_or (Ends kind.Call) (Opens head.CallStart) token
move scope head.CallNext token = call_next token
move scope head.CallMore token = Opens head.CallMore
move scope (head.DotOf arrow) token = dot_move arrow token
move scope head.BlockItems token = brace_or (Ends kind.Block) (Opens head.BlockItems) token
move scope head.ExpressionOf token = Opens head.ExpressionOf
move scope head.ExpressionEnd token = semicolon (Ends kind.Expression) token
move scope head.IfStart token = open_paren head.IfTest token
move scope head.IfTest token = Opens head.IfTest
move scope head.IfEnd token = close_paren (Shift head.IfThen) token
move scope head.IfThen token = Opens head.IfThen
move scope head.IfThenEnd token = else_move token
move scope head.IfElse token = Opens head.IfElse
move scope head.WhileStart token = open_paren head.WhileTest token
move scope head.WhileTest token = Opens head.WhileTest
move scope head.WhileEnd token = close_paren (Shift head.WhileBody) token
move scope head.WhileBody token = Opens head.WhileBody
move scope head.DoBody token = Opens head.DoBody
move scope head.DoWhile token = while_move token
move scope head.DoOpen token = open_paren head.DoTest token
move scope head.DoTest token = Opens head.DoTest
move scope head.DoClose token = close_paren (Shift head.DoEnd) token
move scope head.DoEnd token = semicolon (Ends kind.Do) token
move scope head.ForStart token = open_paren head.ForFirst token
move scope head.ForFirst token = semicolon_or (Shift (head.ForTest false)) (Opens head.ForFirst) token
move scope head.ForFirstEnd token = semicolon (Shift (head.ForTest true)) token
move scope (head.ForTest first) token = semicolon_or (Shift (head.ForStep first false)) (Opens (head.ForTest first)) token
move scope (head.ForTestEnd first) token = semicolon (Shift (head.ForStep first true)) token
move scope (head.ForStep first test) token = paren_or (Shift (head.ForBody first test false)) (Opens (head.ForStep first test)) token
move scope (head.ForStepEnd first test) token = close_paren (Shift (head.ForBody first test true)) token
move scope (head.ForBody first test step) token = Opens (head.ForBody first test step)
move scope head.SwitchStart token = open_paren head.SwitchValue token
move scope head.SwitchValue token = Opens head.SwitchValue
move scope head.SwitchEnd token = close_paren (Shift head.SwitchBrace) token
move scope head.SwitchBrace token = brace_move token
move scope head.SwitchItems token = brace_or (Ends kind.Switch) (Opens head.SwitchItems) token
move scope head.CaseOf token = Opens head.CaseOf
move scope head.CaseEnd token = colon (Ends kind.Case) token
move scope head.DefaultEnd token = colon (Ends kind.Default) token
move scope head.BreakEnd token = semicolon (Ends kind.Break) token
move scope head.ContinueEnd token = semicolon (Ends kind.Continue) token
move scope head.ReturnOf token = semicolon_or (Ends kind.Return) (Opens head.ReturnOf) token
move scope head.ReturnEnd token = semicolon (Ends kind.Return) token
move scope (head.Spec c words) token = spec_move scope c words token
move scope (head.TagStart c words is_union) token = tag_start c words is_union token
move scope (head.TagNamed c words is_union name) token = tag_move scope c words is_union name token
move scope (head.Members c words is_union name n) token = members_move c words is_union name n token
move scope (head.EnumStart c words) token = enum_start c words token
move scope (head.EnumNamed c words name) token = enum_move scope c words name token
move scope (head.Constants c words name n) token = Opens (head.Constants c words name n)
move scope (head.ConstantsNext c words name n) token = constants_next c words name n token
move scope (head.ConstantsComma c words name n) token =
    brace_or (Shift (head.Spec c (words ++ word.Enum name (Some n) true ∷ []))) (Opens (head.ConstantsComma c words name n)) token
move scope (head.ConstantNamed name) token = constant_named name token
move scope (head.ConstantOf name) token = Opens (head.ConstantOf name)
move scope (head.Declarators c words inits) token = Opens (head.Declarators c words inits)
move scope (head.Declared c words inits) token = declared_move c words inits token
move scope (head.Initialised c words inits) token = Opens (head.Initialised c words inits)
move scope (head.InitialisedEnd c words inits) token = next_declarator c words (inits ++ true ∷ []) token
move scope (head.FunctionBody words) token = Refused
move scope (head.MemberDeclarators words) token = Opens (head.MemberDeclarators words)
move scope (head.MemberDeclared words) token = member_declared words token
move scope (head.ParamOf words) token = Opens (head.ParamOf words)
move scope (head.TypeOf words) token = Opens (head.TypeOf words)
move scope (head.Stars n volatiles) token = stars_move n volatiles token
move scope (head.DeclOpened n) token = Refused
move scope (head.DeclGroup n) token = Opens (head.DeclGroup n)
move scope (head.DeclGroupEnd n) token = close_paren (Ends kind.DeclParens) token
move scope (head.BracketsStart inner) token = bracket_or (Ends (kind.Brackets inner false)) (Opens (head.BracketsStart inner)) token
move scope (head.BracketsEnd inner) token = close_bracket (Ends (kind.Brackets inner true)) token
move scope (head.ParamsStart inner) token = params_start inner token
move scope (head.ParamsNext inner) token = params_next inner token
move scope (head.ParamsLone inner) token = by_comma (head.ParamsMore inner) token
move scope (head.ParamsMore inner) token = Opens (head.ParamsMore inner)
move scope (head.ParamsVoid inner) token = close_paren (Ends (kind.Params inner true)) token
move scope head.ListStart token = Opens head.ListStart
move scope head.ListNext token = list_next token
move scope head.ListComma token = brace_or (Ends (kind.InitList true)) (Opens head.ListComma) token
move scope head.EntryIndex token = Opens head.EntryIndex
move scope head.EntryIndexEnd token = close_bracket (Shift (head.EntryNamed by.Index)) token
move scope head.EntryDot token = entry_dot token
move scope (head.EntryNamed place) token = entry_named place token
move scope (head.EntryOf place equals) token = Opens (head.EntryOf place equals)

-- What a token makes of the expression or declarator before it

-- how tightly it binds, how tightly that before it must bind, and what it makes
pub data Infix : Type 0 where
  Binds : (level left : ℕ) → Join → Infix
  No : Infix

abbrev pub binary : CBinary → Infix
binary op = Binds (binds op) (binds op) (Joins (head.BinaryOf op))

abbrev pub assigns : Option CBinary → Infix
assigns op = Binds 2 15 (Joins (head.AssignOf op))

abbrev pub binding : Punctuator → Infix
binding mark.OpenParen = Binds 16 16 (Joins head.CallStart)
binding mark.OpenBracket = Binds 16 16 (Joins head.IndexOf)
binding mark.Dot = Binds 16 16 (Joins (head.DotOf false))
binding mark.Arrow = Binds 16 16 (Joins (head.DotOf true))
binding mark.PlusPlus = Binds 16 16 (Posts (kind.Post false))
binding mark.MinusMinus = Binds 16 16 (Posts (kind.Post true))
binding mark.Star = binary operator.Mul
binding mark.Slash = binary operator.Div
binding mark.Percent = binary operator.Rem
binding mark.Plus = binary operator.Add
binding mark.Minus = binary operator.Sub
binding mark.ShiftLeft = binary operator.Shl
binding mark.ShiftRight = binary operator.Shr
binding mark.Less = binary operator.Lt
binding mark.Greater = binary operator.Gt
binding mark.LessEqual = binary operator.Le
binding mark.GreaterEqual = binary operator.Ge
binding mark.EqualEqual = binary operator.Eq
binding mark.BangEqual = binary operator.Ne
binding mark.Ampersand = binary operator.And
binding mark.Caret = binary operator.Xor
binding mark.Bar = binary operator.Or
binding mark.AmpersandAmpersand = binary operator.AndAnd
binding mark.BarBar = binary operator.OrOr
binding mark.Question = Binds 3 4 (Joins head.ChooseYes)
binding mark.Equal = assigns None
binding mark.StarEqual = assigns (Some operator.Mul)
binding mark.SlashEqual = assigns (Some operator.Div)
binding mark.PercentEqual = assigns (Some operator.Rem)
binding mark.PlusEqual = assigns (Some operator.Add)
binding mark.MinusEqual = assigns (Some operator.Sub)
binding mark.ShiftLeftEqual = assigns (Some operator.Shl)
binding mark.ShiftRightEqual = assigns (Some operator.Shr)
binding mark.AmpersandEqual = assigns (Some operator.And)
binding mark.CaretEqual = assigns (Some operator.Xor)
binding mark.BarEqual = assigns (Some operator.Or)
binding mark.Comma = Binds 1 1 (Joins head.CommaOf)
binding mark.OpenBrace = No
binding mark.CloseBrace = No
binding mark.CloseParen = No
binding mark.CloseBracket = No
binding mark.Semicolon = No
binding mark.Tilde = No
binding mark.Bang = No
binding mark.Colon = No
binding mark.Hash = No

abbrev pub join_if : Bool → Join → Join
join_if true j = j
join_if false j = Apart

abbrev pub join_at : (level here : ℕ) → Infix → Join
join_at l k (Binds level left j) = join_if (nat_le l level && nat_le left k) j
join_at l k No = Apart

abbrev pub level_of_sort : Sort → ℕ
level_of_sort (Expression k) = k
level_of_sort _ = 0

abbrev pub direct_of_sort : Sort → ℕ
direct_of_sort (Declarator k) = k
direct_of_sort _ = 0

abbrev pub level_of : Tree → ℕ
level_of (node kind at parts) = level_of_sort (sort kind)

abbrev pub direct_of : Tree → ℕ
direct_of (node kind at parts) = direct_of_sort (sort kind)

-- a text behind a text makes it longer
abbrev pub lengthen : Tree → List ℕ → Join
lengthen (node (kind.Text pieces) at parts) x = Lengthens (kind.Text (pieces ++ x ∷ []))
lengthen _ x = Apart

abbrev pub join_expression : (level : ℕ) → Tree → Terminal → Join
join_expression l n (t.Mark p) = join_at l (level_of n) (binding p)
join_expression l n (t.Text x) = lengthen n x
join_expression l n _ = Apart

abbrev pub join_declarator : Tree → Terminal → Join
join_declarator n (t.Mark mark.OpenBracket) = join_if (nat_le 16 (direct_of n)) (Joins (head.BracketsStart true))
join_declarator n (t.Mark mark.OpenParen) = join_if (nat_le 16 (direct_of n)) (Joins (head.ParamsStart true))
join_declarator n _ = Apart

abbrev pub join : Class → Tree → Terminal → Join
join (class.Expression l) n token = join_expression l n token
join (class.Declarator m l) n token = join_declarator n token
join class.Initialiser n token = join_expression 2 n token
join _ n token = Apart

-- The steps

abbrev pub state : Stack → Scope → ℕ → Option Read → State
state s scope at last = record { stack = s; scope = scope; at = at; last = last }

abbrev pub to : Stack → Scope → ℕ → Option Read → Option State
to s scope at last = Some (state s scope (suc at) last)

-- a node that is whole, under the names at its end
abbrev pub made : Kind → ℕ → Trees → Told → Scope → Read
made k from parts told scope = record { tree = node k from parts; told = tells k parts told (innermost scope) }

abbrev pub leaf : Kind → ℕ → Read
leaf k at = record { tree = node k at none; told = tells k none nothing [] }

-- the levels of names that a node opens with its first tokens, that of a function before its block
abbrev pub enters : Head → Scope → Scope
enters head.BlockItems scope = [] ∷ scope
enters (head.ParamsStart inner) scope = [] ∷ scope
enters _ scope = scope

abbrev pub opens : Head → Told → Scope → Scope
opens (head.FunctionBody words) told scope = told.level ∷ scope
opens (head.HeadOver words) told scope = told.level ∷ scope
opens _ told scope = scope

abbrev pub inside : Stack → Scope → ℕ → Begin → Option State
inside s scope at (Pushes h) = to (fresh h at ∷ s) (enters h scope) at None
inside s scope at (Leaf k) = to s scope at (Some (leaf k at))
inside s scope at (Under h) = None
inside s scope at Nowhere = None

abbrev pub opening : Stack → Scope → ℕ → Terminal → Begin → Option State
opening s scope at token (Pushes h) = to (fresh h at ∷ s) (enters h scope) at None
opening s scope at token (Leaf k) = to s scope at (Some (leaf k at))
opening s scope at token (Under h) = inside (fresh h at ∷ s) scope at (begin scope (wanted h) token)
opening s scope at token Nowhere = None

-- what comes of a move; `next` goes on with the node that is over
abbrev pub resolve : Frame → Stack → Scope → ℕ → Terminal → (Read → Scope → Option State) → Move → Option State
resolve f s scope at token next (Shift h) = to (moved f h ∷ s) (opens h f.told scope) at None
resolve f s scope at token next (Ends k) = to s (leave k scope) at (Some (made k f.from f.parts f.told scope))
resolve f s scope at token next (Opens h) = opening (moved f h ∷ s) (opens h f.told scope) at token (begin (opens h f.told scope) (wanted h) token)
resolve f s scope at token next (Over k) = next (made k f.from f.parts f.told scope) (leave k scope)
resolve f s scope at token next Refused = None

abbrev pub attach : Frame → Stack → Read → Scope → ℕ → Terminal → (Read → Scope → Option State) → After → Option State
attach f s n scope at token next (To h) =
    resolve (record { head = h; from = f.from; parts = push f.parts n.tree; told = retold f.head f.told n.told }) s scope at token next (move scope h token)
attach f s n scope at token next (Makes k) =
    next (made k f.from (push f.parts n.tree) (retold f.head f.told n.told) scope) (leave k scope)
attach f s n scope at token next Unwanted = None

abbrev pub joining : Frame → Stack → Read → Scope → ℕ → (next : Option State) → Join → Option State
joining f s n scope at next (Joins h) =
    to (record { head = h; from = start_of n.tree; parts = more n.tree none; told = n.told } ∷ f ∷ s) (enters h scope) at None
joining f s n scope at next (Posts k) =
    to (f ∷ s) scope at (Some (record { tree = node k (start_of n.tree) (more n.tree none); told = nothing }))
joining f s n scope at next (Lengthens k) =
    to (f ∷ s) scope at (Some (record { tree = node k (start_of n.tree) none; told = nothing }))
joining f s n scope at next Apart = next

-- a node that is read, before the next token
abbrev pub settle : Stack → Read → Scope → ℕ → Terminal → Option State
settle [] n scope at token = None
settle (f ∷ s) n scope at token =
    joining f s n scope at
    (attach f s n (add (role f.head) n.told scope) at token (λ m scope'. settle s m scope' at token) (attached f.head n.tree))
    (join (wanted f.head) n.tree token)

-- What stands behind an opening parenthesis shows with the next token.

abbrev pub choose : {A : Type 0} → Bool → A → A → A
choose true a b = a
choose false a b = b

abbrev pub is_close_paren : Terminal → Bool
is_close_paren (t.Mark mark.CloseParen) = true
is_close_paren _ = false

abbrev pub or_close_paren : Bool → Terminal → Bool
or_close_paren begins token = choose begins true (is_close_paren token)

abbrev pub decide : Frame → Stack → Scope → ℕ → Terminal → Head → State
decide f s scope at token (head.Opened l) =
    state (moved f (choose (begins_type scope token && nat_le l 14) head.CastType head.Group) ∷ s) scope at None
decide f s scope at token head.SizeofOpen =
    state (choose (begins_type scope token) (moved f head.SizeofType ∷ s) (fresh head.Group (pred at) ∷ moved f head.SizeofOf ∷ s)) scope at None
decide f s scope at token (head.DeclOpened n) =
    choose (or_close_paren (begins_type scope token) token)
    (state (moved f (head.ParamsStart false) ∷ s) ([] ∷ scope) at None)
    (state (moved f (head.DeclGroup n) ∷ s) scope at None)
decide f s scope at token (head.ParamsVoid inner) =
    state (choose (is_close_paren token) (f ∷ s) (fresh (head.Spec context.Param (word.Void ∷ [])) (pred at) ∷ moved f (head.ParamsStart inner) ∷ s)) scope at None
decide f s scope at token _ = state (f ∷ s) scope at None

abbrev pub feed : Stack → Scope → ℕ → Terminal → Option State
feed [] scope at token = None
feed (f ∷ s) scope at token = resolve f s scope at token (λ m scope'. settle s m scope' at token) (move scope f.head token)

abbrev pub fed : State → Terminal → Option State
fed st token = feed st.stack st.scope st.at token

abbrev pub going : Stack → Scope → ℕ → Terminal → Option State
going [] scope at token = None
going (f ∷ s) scope at token = fed (decide f s scope at token f.head) token

abbrev pub stepped : Stack → Scope → ℕ → Option Read → Terminal → Option State
stepped s scope at None token = going s scope at token
stepped s scope at (Some n) token = settle s n scope at token

unfoldable pub step : State → Terminal → Option State
step st token = stepped st.stack st.scope st.at st.last token

abbrev pub run : Option State → List Terminal → Option State
run r [] = r
run None (token ∷ tokens) = None
run (Some st) (token ∷ tokens) = run (step st token) tokens

-- a whole file
abbrev pub file_start : State
file_start = state (fresh head.FileItems 0 ∷ []) ([] ∷ []) 0 None
