-- What the reader has read of the nodes that are open.
use Rattle.std.proofs.Common.{◌≡◌, ℕ, zero, suc, ◌+◌, ◌-◌, ◌≤◌, ◌<◌, nat_le, Bool, true, false, ◌||◌, ◌&&◌, ◌⊎◌, inl, inr, not, List, [], ◌∷◌, ◌++◌, length, Option, Some, None, refl, sym, ap, subst, ◌∙◌, arith, ⊎_elim, append_assoc, append-nil, map}
use Rattle.std.specs.Prelude.{⊤}
use Rattle.std.proofs.lemmas.Bool.{false≢true, and_parts, not-true}
use Rattle.p9_lang.specs.declared.tree.CBinary.{CBinary}
use Rattle.p9_lang.specs.declared.tree.CBinary.TheVariants as operator
use Rattle.p9_lang.specs.declared.tree.CUnary.{CUnary}
use Rattle.p9_lang.specs.declared.tree.CUnary.TheVariants as unary
use Rattle.p9_lang.specs.declared.tree.EntryBy.{EntryBy}
use Rattle.p9_lang.specs.declared.tree.EntryBy.TheVariants as by
use Rattle.p9_lang.specs.declared.tree.SpecWord.{SpecWord}
use Rattle.p9_lang.specs.declared.tree.SpecWord.TheVariants as word
use Rattle.p9_lang.specs.declared.tree.Kind.{Kind}
use Rattle.p9_lang.specs.declared.tree.Kind.TheVariants as kind
use Rattle.p9_grammar.specs.declared.terminal.Keyword.{Keyword}
use Rattle.p9_grammar.specs.declared.terminal.Keyword.TheVariants as key
use Rattle.p9_grammar.specs.declared.terminal.Punctuator.{Punctuator}
use Rattle.p9_grammar.specs.declared.terminal.Punctuator.TheVariants as mark
use Rattle.p9_grammar.specs.declared.terminal.Terminal.{Terminal}
use Rattle.p9_grammar.specs.declared.terminal.Terminal.TheVariants as t
use Rattle.p9_grammar.specs.declared.head.Context.{Context}
use Rattle.p9_grammar.specs.declared.head.Context.TheVariants as context
use Rattle.p9_grammar.specs.declared.head.Naming.{Naming}
use Rattle.p9_grammar.specs.declared.head.Naming.TheVariants as naming
use Rattle.p9_grammar.specs.declared.head.Class.{Class}
use Rattle.p9_grammar.specs.declared.head.Class.TheVariants as class
use Rattle.p9_grammar.specs.declared.head.Head.{Head}
use Rattle.p9_grammar.specs.declared.head.Head.TheVariants as head
use Rattle.p9_grammar.specs.Trees.{Tree, node, Trees, none, more, count, push}
use Rattle.p9_grammar.specs.Symbols.{Symbol, Write, Part, Enter, Slot, Of, Last, Pointed, Direct, Grouped, Role, Plain, Declares, Begins, part, sign, keyword, right_side, binds, binary_sign, unary_sign, assignment_sign, step_sign, dot_sign, expression, assignment, conditional, operand, later, listed, many, optional, at_most_one, branches, texts, spec_symbols, word_symbols, spec_parts, is_typedef, declarator, declarator_of, declarators, later_declarators, initialiser, qualifier, inner_declarator, parameters, parameter_list, behind, entry_place, named, in_braces, tag_key}
use Rattle.p9_grammar.specs.Scopes.{Scope, Level, is_type, after, told, told_first, through, add, leave, tells, nothing, Told, innermost, outer}
use Rattle.p9_grammar.specs.Grammar.{Sort, sort, Accepts, Suits, Asks, Formed, Fills, slot_class, naming_of, may_of, past, past_in, is_assignable, SpecFrom, IsSpec, may_follow, has_type, is_known, is_void_word, pointed, grouped}
use Rattle.p9_grammar.specs.Machine.{Frame, Read, Stack, State, state, to, fresh, moved, made, leaf, start_of, step, run, begin, begin_by, begin_spec, begin_expression, begin_declarator, begin_statement, begin_switch_item, begin_initialiser, only_if, or_else, Begin, Pushes, Leaf, Under, Nowhere, Move, Shift, Ends, Opens, Over, Refused, After, To, Makes, Unwanted, Join, Joins, Posts, Lengthens, Apart, opening, inside, resolve, attach, attached, joining, join, join_at, join_if, join_expression, join_declarator, settle, going, feed, decide, choose, wanted, role, retold, enters, opens, Infix, Binds, No, binding, binary, assigns, level_of, direct_of, move, spec_move, begins_type, allows_storage, spec, shift_if, ends_spec, paren_or, brace_or, semicolon_or, bracket_or}
use Rattle.p9_grammar.proofs.Spelling.{spell, spells}
use Rattle.p9_grammar.specs.Machine.{is_begun, only_if, begin_entry, begin_body, begin_constant, fed, else_move, stepped}
use Rattle.p9_grammar.specs.Grammar.{Expression, Declarator, Braced, Entry, Param, TypeName, Member, Constant, Declaration, Function, Block, Statement, Label}
use Rattle.p9_grammar.specs.Grammar.{tokens, write}

-- The symbols read so far, by the head and the number of parts

abbrev pub expr : Symbol
expr = part expression

abbrev pub commas : List Symbol → List Symbol
commas symbols = symbols ++ (sign mark.Comma ∷ [])

-- declarators so far and a comma, or none
abbrev pub before_declarator : (is_type : Bool) → List Bool → List Symbol
before_declarator is_type [] = []
before_declarator is_type (i ∷ is) = declarators is_type (i ∷ is) ++ (sign mark.Comma ∷ [])

abbrev pub before_member : ℕ → List Symbol
before_member zero = []
before_member (suc m) = listed (suc m) declarator ++ (sign mark.Comma ∷ [])

abbrev pub tag_symbols : (is_union : Bool) → List ℕ → List Symbol → List Symbol
tag_symbols is_union x symbols = tag_key is_union ∷ (named x ++ symbols)

abbrev pub enum_symbols : List ℕ → List Symbol → List Symbol
enum_symbols x symbols = keyword key.Enum ∷ (named x ++ symbols)

abbrev pub for_first : Bool → List Symbol → List Symbol
for_first first symbols = keyword key.For ∷ sign mark.OpenParen ∷ (optional first expr ++ (sign mark.Semicolon ∷ symbols))

abbrev pub for_test : Bool → Bool → List Symbol → List Symbol
for_test first test symbols = for_first first (optional test expr ++ (sign mark.Semicolon ∷ symbols))

abbrev pub so_far : Head → ℕ → List Symbol
so_far head.FileItems k = many k class.FileItem
so_far head.FileOver k = many k class.FileItem ++ (Write t.End ∷ [])
so_far head.GoalExpression k = []
so_far head.GoalRead k = expr ∷ []
so_far head.GoalOver k = expr ∷ Write t.End ∷ []
so_far head.GoalHead k = []
so_far head.HeadRead k = part class.HeadItem ∷ []
so_far (head.HeadOver words) k = spec_symbols words ++ (declarator_of naming.Named (Begins (is_typedef words)) ∷ sign mark.OpenBrace ∷ [])
so_far (head.Opened l) k = sign mark.OpenParen ∷ []
so_far head.Group k = sign mark.OpenParen ∷ []
so_far head.GroupEnd k = sign mark.OpenParen ∷ expr ∷ []
so_far head.CastType k = sign mark.OpenParen ∷ []
so_far head.CastEnd k = sign mark.OpenParen ∷ part class.Type ∷ []
so_far head.CastOf k = sign mark.OpenParen ∷ part class.Type ∷ sign mark.CloseParen ∷ []
so_far (head.UnaryOf op) k = sign (unary_sign op) ∷ []
so_far (head.PreOf minus) k = sign (step_sign minus) ∷ []
so_far head.SizeofStart k = keyword key.Sizeof ∷ []
so_far head.SizeofOpen k = keyword key.Sizeof ∷ sign mark.OpenParen ∷ []
so_far head.SizeofOf k = keyword key.Sizeof ∷ []
so_far head.SizeofType k = keyword key.Sizeof ∷ sign mark.OpenParen ∷ []
so_far head.SizeofEnd k = keyword key.Sizeof ∷ sign mark.OpenParen ∷ part class.Type ∷ []
so_far (head.BinaryOf op) k = part (class.Expression (binds op)) ∷ sign (binary_sign op) ∷ []
so_far (head.AssignOf op) k = part (class.Expression 15) ∷ sign (assignment_sign op) ∷ []
so_far head.CommaOf k = expr ∷ sign mark.Comma ∷ []
so_far head.ChooseYes k = part (class.Expression 4) ∷ sign mark.Question ∷ []
so_far head.ChooseColon k = part (class.Expression 4) ∷ sign mark.Question ∷ expr ∷ []
so_far head.ChooseNo k = part (class.Expression 4) ∷ sign mark.Question ∷ expr ∷ sign mark.Colon ∷ []
so_far head.IndexOf k = part (class.Expression 16) ∷ sign mark.OpenBracket ∷ []
so_far head.IndexEnd k = part (class.Expression 16) ∷ sign mark.OpenBracket ∷ expr ∷ []
so_far head.CallStart k = part (class.Expression 16) ∷ sign mark.OpenParen ∷ []
so_far head.CallNext k = part (class.Expression 16) ∷ sign mark.OpenParen ∷ listed (behind true k) (part assignment)
so_far head.CallMore k = part (class.Expression 16) ∷ sign mark.OpenParen ∷ (listed (behind true k) (part assignment) ++ (sign mark.Comma ∷ []))
so_far (head.DotOf arrow) k = part (class.Expression 16) ∷ sign (dot_sign arrow) ∷ []
so_far head.BlockItems k = sign mark.OpenBrace ∷ Enter ∷ many k class.BlockItem
so_far head.ExpressionOf k = []
so_far head.ExpressionEnd k = expr ∷ []
so_far head.IfStart k = keyword key.If ∷ []
so_far head.IfTest k = keyword key.If ∷ sign mark.OpenParen ∷ []
so_far head.IfEnd k = keyword key.If ∷ sign mark.OpenParen ∷ expr ∷ []
so_far head.IfThen k = keyword key.If ∷ sign mark.OpenParen ∷ expr ∷ sign mark.CloseParen ∷ []
so_far head.IfThenEnd k = keyword key.If ∷ sign mark.OpenParen ∷ expr ∷ sign mark.CloseParen ∷ part (class.Statement false) ∷ []
so_far head.IfElse k = keyword key.If ∷ sign mark.OpenParen ∷ expr ∷ sign mark.CloseParen ∷ part (class.Statement false) ∷ keyword key.Else ∷ []
so_far head.WhileStart k = keyword key.While ∷ []
so_far head.WhileTest k = keyword key.While ∷ sign mark.OpenParen ∷ []
so_far head.WhileEnd k = keyword key.While ∷ sign mark.OpenParen ∷ expr ∷ []
so_far head.WhileBody k = keyword key.While ∷ sign mark.OpenParen ∷ expr ∷ sign mark.CloseParen ∷ []
so_far head.DoBody k = keyword key.Do ∷ []
so_far head.DoWhile k = keyword key.Do ∷ part (class.Statement true) ∷ []
so_far head.DoOpen k = keyword key.Do ∷ part (class.Statement true) ∷ keyword key.While ∷ []
so_far head.DoTest k = keyword key.Do ∷ part (class.Statement true) ∷ keyword key.While ∷ sign mark.OpenParen ∷ []
so_far head.DoClose k = keyword key.Do ∷ part (class.Statement true) ∷ keyword key.While ∷ sign mark.OpenParen ∷ expr ∷ []
so_far head.DoEnd k = keyword key.Do ∷ part (class.Statement true) ∷ keyword key.While ∷ sign mark.OpenParen ∷ expr ∷ sign mark.CloseParen ∷ []
so_far head.ForStart k = keyword key.For ∷ []
so_far head.ForFirst k = keyword key.For ∷ sign mark.OpenParen ∷ []
so_far head.ForFirstEnd k = keyword key.For ∷ sign mark.OpenParen ∷ expr ∷ []
so_far (head.ForTest first) k = for_first first []
so_far (head.ForTestEnd first) k = for_first first (expr ∷ [])
so_far (head.ForStep first test) k = for_test first test []
so_far (head.ForStepEnd first test) k = for_test first test (expr ∷ [])
so_far (head.ForBody first test step) k = for_test first test (optional step expr ++ (sign mark.CloseParen ∷ []))
so_far head.SwitchStart k = keyword key.Switch ∷ []
so_far head.SwitchValue k = keyword key.Switch ∷ sign mark.OpenParen ∷ []
so_far head.SwitchEnd k = keyword key.Switch ∷ sign mark.OpenParen ∷ expr ∷ []
so_far head.SwitchBrace k = keyword key.Switch ∷ sign mark.OpenParen ∷ expr ∷ sign mark.CloseParen ∷ []
so_far head.SwitchItems k = keyword key.Switch ∷ sign mark.OpenParen ∷ expr ∷ sign mark.CloseParen ∷ sign mark.OpenBrace ∷ many (behind true k) class.SwitchItem
so_far head.CaseOf k = keyword key.Case ∷ []
so_far head.CaseEnd k = keyword key.Case ∷ part conditional ∷ []
so_far head.DefaultEnd k = keyword key.Default ∷ []
so_far head.BreakEnd k = keyword key.Break ∷ []
so_far head.ContinueEnd k = keyword key.Continue ∷ []
so_far head.ReturnOf k = keyword key.Return ∷ []
so_far head.ReturnEnd k = keyword key.Return ∷ expr ∷ []
so_far (head.Spec c words) k = spec_symbols words
so_far (head.TagStart c words is_union) k = spec_symbols words ++ (tag_key is_union ∷ [])
so_far (head.TagNamed c words is_union x) k = spec_symbols words ++ tag_symbols is_union x []
so_far (head.Members c words is_union x n) k = spec_symbols words ++ tag_symbols is_union x (sign mark.OpenBrace ∷ many n class.Member)
so_far (head.EnumStart c words) k = spec_symbols words ++ (keyword key.Enum ∷ [])
so_far (head.EnumNamed c words x) k = spec_symbols words ++ enum_symbols x []
so_far (head.Constants c words x n) k = spec_symbols words ++ enum_symbols x (sign mark.OpenBrace ∷ [])
so_far (head.ConstantsNext c words x n) k = spec_symbols words ++ enum_symbols x (sign mark.OpenBrace ∷ listed n (part class.Constant))
so_far (head.ConstantsComma c words x n) k = spec_symbols words ++ enum_symbols x (sign mark.OpenBrace ∷ (listed n (part class.Constant) ++ (sign mark.Comma ∷ [])))
so_far (head.ConstantNamed x) k = Write (t.Name x) ∷ []
so_far (head.ConstantOf x) k = Write (t.Name x) ∷ sign mark.Equal ∷ []
so_far (head.Declarators c words done) k = spec_symbols words ++ before_declarator (is_typedef words) done
so_far (head.Declared c words done) k = spec_symbols words ++ (before_declarator (is_typedef words) done ++ (declarator_of naming.Named (Declares (is_typedef words)) ∷ []))
so_far (head.Initialised c words done) k = spec_symbols words ++ (before_declarator (is_typedef words) done ++ (declarator_of naming.Named (Declares (is_typedef words)) ∷ sign mark.Equal ∷ []))
so_far (head.InitialisedEnd c words done) k = spec_symbols words ++ (before_declarator (is_typedef words) done ++ (declarator_of naming.Named (Declares (is_typedef words)) ∷ sign mark.Equal ∷ part class.Initialiser ∷ []))
so_far (head.FunctionBody words) k = spec_symbols words ++ (declarator_of naming.Named (Begins (is_typedef words)) ∷ [])
so_far (head.MemberDeclarators words) k = spec_symbols words ++ before_member (k - spec_parts words)
so_far (head.MemberDeclared words) k = spec_symbols words ++ listed (k - spec_parts words) declarator
so_far (head.ParamOf words) k = spec_symbols words
so_far (head.TypeOf words) k = spec_symbols words
so_far (head.Stars n volatiles) k = sign mark.Star ∷ map qualifier volatiles
so_far (head.DeclOpened n) k = sign mark.OpenParen ∷ []
so_far (head.DeclGroup n) k = sign mark.OpenParen ∷ []
so_far (head.DeclGroupEnd n) k = sign mark.OpenParen ∷ Part Grouped Plain ∷ []
so_far (head.BracketsStart inner) k = inner_declarator inner ++ (sign mark.OpenBracket ∷ [])
so_far (head.BracketsEnd inner) k = inner_declarator inner ++ (sign mark.OpenBracket ∷ part conditional ∷ [])
so_far (head.ParamsStart inner) k = inner_declarator inner ++ (sign mark.OpenParen ∷ Enter ∷ [])
so_far (head.ParamsNext inner) k = inner_declarator inner ++ (sign mark.OpenParen ∷ Enter ∷ parameters (behind inner k))
so_far (head.ParamsLone inner) k = inner_declarator inner ++ (sign mark.OpenParen ∷ Enter ∷ part class.Param ∷ [])
so_far (head.ParamsMore inner) k = inner_declarator inner ++ (sign mark.OpenParen ∷ Enter ∷ (listed (behind inner k) (part class.Param) ++ (sign mark.Comma ∷ [])))
so_far (head.ParamsVoid inner) k = inner_declarator inner ++ (sign mark.OpenParen ∷ Enter ∷ keyword key.Void ∷ [])
so_far head.ListStart k = sign mark.OpenBrace ∷ []
so_far head.ListNext k = sign mark.OpenBrace ∷ listed k (part class.Entry)
so_far head.ListComma k = sign mark.OpenBrace ∷ (listed k (part class.Entry) ++ (sign mark.Comma ∷ []))
so_far head.EntryIndex k = sign mark.OpenBracket ∷ []
so_far head.EntryIndexEnd k = sign mark.OpenBracket ∷ part conditional ∷ []
so_far head.EntryDot k = sign mark.Dot ∷ []
so_far (head.EntryNamed place) k = entry_place place
so_far (head.EntryOf place equals) k = entry_place place ++ optional equals (sign mark.Equal)

-- What holds of a node that is open, of the class that is wanted below it, under the names at its start

-- every word stands beside those before it
abbrev pub WordsFrom : (storage : Bool) → Scope → (before words : List SpecWord) → Type 0
WordsFrom storage scope before [] = ⊤
WordsFrom storage scope before (w ∷ ws) = (may_follow storage before w ≡ true) × (is_known scope w ≡ true) × WordsFrom storage scope (before ++ w ∷ []) ws

abbrev pub Words : Context → Scope → List SpecWord → Type 0
Words c scope words = WordsFrom (allows_storage c) scope [] words

-- the class of a node with such a head
abbrev pub Site : Context → Class → Type 0
Site context.File class.FileItem = ⊤
Site context.Head class.HeadItem = ⊤
Site context.Local class.BlockItem = ⊤
Site context.Member class.Member = ⊤
Site context.Param class.Param = ⊤
Site context.Type class.Type = ⊤
Site _ _ = ⊥

abbrev pub is_declaring : Context → Bool
is_declaring context.File = true
is_declaring context.Head = true
is_declaring context.Local = true
is_declaring _ = false

-- a head that may take one more word that names a type
abbrev pub Typeless : List SpecWord → Type 0
Typeless words = has_type words ≡ false

abbrev pub Whole : Context → Class → Scope → List SpecWord → Type 0
Whole k c scope words = Site k c × Words k scope words × (has_type words ≡ true)

abbrev pub Exp : ℕ → Class → Type 0
Exp l c = Accepts c (Expression l)

abbrev pub Dir : ℕ → Class → Type 0
Dir l c = Accepts c (Declarator l)

abbrev pub Nameless : Naming → Type 0
Nameless naming.Named = ⊥
Nameless _ = ⊤

-- without a declarator before it, a bracket or a list stands in a declarator that needs no name
abbrev pub Led : Class → (inner : Bool) → Type 0
Led c true = ⊤
Led c false = Nameless (naming_of c)

-- there is that declarator
abbrev pub Has : (inner : Bool) → ℕ → Type 0
Has false k = ⊤
Has true zero = ⊥
Has true (suc k) = ⊤

abbrev pub Open : Class → Scope → Head → ℕ → Type 0
Open c scope head.FileItems k = ⊤
Open c scope head.FileOver k = ⊤
Open c scope head.GoalExpression k = k ≡ 0
Open c scope head.GoalRead k = k ≡ 1
Open c scope head.GoalOver k = k ≡ 1
Open c scope head.GoalHead k = k ≡ 0
Open c scope head.HeadRead k = k ≡ 1
Open c scope (head.HeadOver words) k = Whole context.Head c scope words
Open c scope (head.Opened l) k = Exp 16 c × (l ≤ 14 → Exp 14 c)
Open c scope head.Group k = Exp 16 c
Open c scope head.GroupEnd k = Exp 16 c
Open c scope head.CastType k = Exp 14 c
Open c scope head.CastEnd k = Exp 14 c
Open c scope head.CastOf k = Exp 14 c
Open c scope (head.UnaryOf op) k = Exp 15 c
Open c scope (head.PreOf minus) k = Exp 15 c
Open c scope head.SizeofStart k = Exp 15 c
Open c scope head.SizeofOpen k = Exp 15 c
Open c scope head.SizeofOf k = Exp 15 c
Open c scope head.SizeofType k = Exp 15 c
Open c scope head.SizeofEnd k = Exp 15 c
Open c scope (head.BinaryOf op) k = Exp (binds op) c
Open c scope (head.AssignOf op) k = Exp 2 c × (is_assignable op ≡ true)
Open c scope head.CommaOf k = Exp 1 c
Open c scope head.ChooseYes k = Exp 3 c
Open c scope head.ChooseColon k = Exp 3 c
Open c scope head.ChooseNo k = Exp 3 c
Open c scope head.IndexOf k = Exp 16 c
Open c scope head.IndexEnd k = Exp 16 c
Open c scope head.CallStart k = Exp 16 c × (k ≡ 1)
Open c scope head.CallNext k = Exp 16 c × (2 ≤ k)
Open c scope head.CallMore k = Exp 16 c × (2 ≤ k)
Open c scope (head.DotOf arrow) k = Exp 16 c
Open c scope head.BlockItems k = Accepts c Block
Open c scope head.ExpressionOf k = Accepts c Statement × (k ≡ 0)
Open c scope head.ExpressionEnd k = Accepts c Statement × (k ≡ 1)
Open c scope head.IfStart k = Accepts c Statement × (k ≡ 0)
Open c scope head.IfTest k = Accepts c Statement × (k ≡ 0)
Open c scope head.IfEnd k = Accepts c Statement × (k ≡ 1)
Open c scope head.IfThen k = Accepts c Statement × (k ≡ 1)
Open c scope head.IfThenEnd k = ⊥
Open c scope head.IfElse k = Accepts c Statement × (k ≡ 2)
Open c scope head.SwitchStart k = Accepts c Statement × (k ≡ 0)
Open c scope head.SwitchValue k = Accepts c Statement × (k ≡ 0)
Open c scope head.SwitchEnd k = Accepts c Statement × (k ≡ 1)
Open c scope head.SwitchBrace k = Accepts c Statement × (k ≡ 1)
Open c scope head.SwitchItems k = Accepts c Statement × (1 ≤ k)
Open c scope head.CaseOf k = Accepts c Label
Open c scope head.CaseEnd k = Accepts c Label
Open c scope head.DefaultEnd k = Accepts c Label
Open c scope head.ReturnOf k = Accepts c Statement × (k ≡ 0)
Open c scope head.ReturnEnd k = Accepts c Statement × (k ≡ 1)
Open c scope (head.Spec p words) k = Site p c × Words p scope words × (k ≡ spec_parts words)
Open c scope (head.TagStart p words is_union) k = Site p c × Words p scope words × (k ≡ spec_parts words) × (may_follow (allows_storage p) words (word.Tag is_union [] None) ≡ true)
Open c scope (head.TagNamed p words is_union x) k = Site p c × Words p scope words × (k ≡ spec_parts words) × (may_follow (allows_storage p) words (word.Tag is_union [] None) ≡ true) × (1 ≤ length x)
Open c scope (head.Members p words is_union x n) k = Site p c × Words p scope words × (k ≡ spec_parts words + n) × (may_follow (allows_storage p) words (word.Tag is_union [] None) ≡ true)
Open c scope (head.EnumStart p words) k = Site p c × Words p scope words × (k ≡ spec_parts words) × (may_follow (allows_storage p) words (word.Enum [] None false) ≡ true)
Open c scope (head.EnumNamed p words x) k = Site p c × Words p scope words × (k ≡ spec_parts words) × (may_follow (allows_storage p) words (word.Enum [] None false) ≡ true) × (1 ≤ length x)
Open c scope (head.Constants p words x n) k = Site p c × Words p scope words × (k ≡ spec_parts words) × (may_follow (allows_storage p) words (word.Enum [] None false) ≡ true) × (n ≡ 0)
Open c scope (head.ConstantsNext p words x n) k = Site p c × Words p scope words × (k ≡ spec_parts words + n) × (may_follow (allows_storage p) words (word.Enum [] None false) ≡ true) × (1 ≤ n)
Open c scope (head.ConstantsComma p words x n) k = Site p c × Words p scope words × (k ≡ spec_parts words + n) × (may_follow (allows_storage p) words (word.Enum [] None false) ≡ true) × (1 ≤ n)
Open c scope (head.ConstantNamed x) k = Accepts c Constant
Open c scope (head.ConstantOf x) k = Accepts c Constant
Open c scope (head.Declarators p words done) k = Whole p c scope words × (is_declaring p ≡ true)
Open c scope (head.Declared p words done) k = Whole p c scope words × (is_declaring p ≡ true)
Open c scope (head.Initialised p words done) k = Whole p c scope words × (is_declaring p ≡ true)
Open c scope (head.InitialisedEnd p words done) k = Whole p c scope words × (is_declaring p ≡ true)
Open c scope (head.FunctionBody words) k = Whole context.File c scope words
Open c scope (head.MemberDeclarators words) k = Whole context.Member c scope words × (spec_parts words ≤ k)
Open c scope (head.MemberDeclared words) k = Whole context.Member c scope words × (suc (spec_parts words) ≤ k)
Open c scope (head.ParamOf words) k = Whole context.Param c scope words × (k ≡ spec_parts words)
Open c scope (head.TypeOf words) k = Whole context.Type c scope words × (k ≡ spec_parts words)
Open c scope (head.Stars n volatiles) k = Dir 15 c × (naming_of c ≡ n) × (k ≡ 0)
Open c scope (head.DeclOpened n) k = Dir 16 c × (naming_of c ≡ n) × Nameless n × (k ≡ 0)
Open c scope (head.DeclGroup n) k = Dir 16 c × (naming_of c ≡ n) × (k ≡ 0)
Open c scope (head.DeclGroupEnd n) k = Dir 16 c × (naming_of c ≡ n)
Open c scope (head.BracketsStart inner) k = Dir 16 c × Led c inner × Has inner k
Open c scope (head.BracketsEnd inner) k = Dir 16 c × Led c inner × Has inner k
Open c scope (head.ParamsStart inner) k = Dir 16 c × Led c inner × Has inner k × (behind inner k ≡ 0)
Open c scope (head.ParamsNext inner) k = Dir 16 c × Led c inner × Has inner k × (1 ≤ behind inner k)
Open c scope (head.ParamsLone inner) k = Dir 16 c × Led c inner × Has inner k × (behind inner k ≡ 1)
Open c scope (head.ParamsMore inner) k = Dir 16 c × Led c inner × Has inner k × (1 ≤ behind inner k)
Open c scope (head.ParamsVoid inner) k = Dir 16 c × Led c inner × Has inner k × (behind inner k ≡ 0)
Open c scope head.ListStart k = Accepts c Braced × (k ≡ 0)
Open c scope head.ListNext k = Accepts c Braced × (1 ≤ k)
Open c scope head.ListComma k = Accepts c Braced × (1 ≤ k)
Open c scope head.EntryIndex k = Accepts c Entry
Open c scope head.EntryIndexEnd k = Accepts c Entry
Open c scope head.EntryDot k = Accepts c Entry
Open c scope (head.EntryNamed place) k = Accepts c Entry × (Asks scope (kind.Entry place true) 0)
Open c scope (head.EntryOf place equals) k = Accepts c Entry × (Asks scope (kind.Entry place equals) 0)
Open c scope _ k = Accepts c Statement
