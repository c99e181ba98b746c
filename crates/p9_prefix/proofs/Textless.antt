-- No node is made of texts but by a token that is one.
use Rattle.std.proofs.Common.{◌≡◌, ℕ, zero, suc, nat_le, Bool, true, false, ◌&&◌, List, [], ◌∷◌, ◌++◌, Some, None, refl}
use Rattle.std.specs.Prelude.{⊤}
use Rattle.p9_lang.specs.declared.tree.EntryBy.{EntryBy}
use Rattle.p9_lang.specs.declared.tree.EntryBy.TheVariants as by
use Rattle.p9_lang.specs.declared.tree.SpecWord.{SpecWord}
use Rattle.p9_lang.specs.declared.tree.SpecWord.TheVariants as word
use Rattle.p9_lang.specs.declared.tree.Kind.{Kind}
use Rattle.p9_lang.specs.declared.tree.Kind.TheVariants as kind
use Rattle.p9_grammar.specs.declared.terminal.Keyword.{Keyword}
use Rattle.p9_grammar.specs.declared.terminal.Keyword.TheVariants as key
use Rattle.p9_grammar.specs.declared.terminal.Punctuator.{Punctuator}
use Rattle.p9_grammar.specs.declared.terminal.Punctuator.TheVariants as mark
use Rattle.p9_grammar.specs.declared.terminal.Terminal.{Terminal}
use Rattle.p9_grammar.specs.declared.terminal.Terminal.TheVariants as t
use Rattle.p9_grammar.specs.declared.head.Context.{Context}
use Rattle.p9_grammar.specs.declared.head.Context.TheVariants as context
use Rattle.p9_grammar.specs.declared.head.Naming.{Naming}
use Rattle.p9_grammar.specs.declared.head.Naming.TheVariants as naming
use Rattle.p9_grammar.specs.declared.head.Class.{Class}
use Rattle.p9_grammar.specs.declared.head.Class.TheVariants as class
use Rattle.p9_grammar.specs.declared.head.Head.{Head}
use Rattle.p9_grammar.specs.declared.head.Head.TheVariants as head
use Rattle.p9_grammar.specs.Trees.{Tree, node, Trees, none, more, height, nodes}
use Rattle.p9_grammar.specs.Scopes.{Scope, is_type}
use Rattle.p9_grammar.specs.Grammar.{may_follow, has_type}
use Rattle.p9_grammar.specs.Machine.{Move, Shift, Ends, Opens, Over, Refused, After, To, Makes, Unwanted, Join, Joins, Posts, Lengthens, Apart, Infix, Binds, No, allows_storage, shift_if, behind, behind_type, ends_spec, word_move, key_move, spec_move, by_comma, close_paren, open_paren, close_bracket, semicolon, colon, paren_or, semicolon_or, brace_or, bracket_or, tag_move, enum_move, tag_start, enum_start, members_move, constants_next, constant_named, body_move, next_declarator, declared_move, member_declared, bare_star, stars_move, params_start, params_next, list_next, call_next, entry_dot, entry_named, dot_move, sizeof_start, else_move, while_move, brace_move, end_or, move, attached, first_param, only_void, binding, join_if, join_at, level_of, direct_of, lengthen, join_expression, join_declarator, join}

abbrev pub NotText : Kind → Type 0
NotText (kind.Text pieces) = ⊥
NotText _ = ⊤

-- a text has no parts
abbrev pub Bare : Tree → Type 0
Bare (node (kind.Text pieces) at (more n ns)) = ⊥
Bare _ = ⊤

pub bare-node : (k : Kind) (at : ℕ) (ps : Trees) → NotText k → Bare (node k at ps)
bare-node (kind.Text pieces) at ps h = absurd h
bare-node _ at ps h = tt

pub bare-leaf : (k : Kind) (at : ℕ) → Bare (node k at none)
bare-leaf (kind.Text pieces) at = tt
bare-leaf _ at = tt

abbrev pub GoodMove : Move → Type 0
GoodMove (Shift h) = ⊤
GoodMove (Ends k) = NotText k
GoodMove (Opens h) = ⊤
GoodMove (Over k) = NotText k
GoodMove Refused = ⊤

abbrev pub GoodAfter : After → Type 0
GoodAfter (To h) = ⊤
GoodAfter (Makes k) = NotText k
GoodAfter Unwanted = ⊤

-- a text that grows was one node
abbrev pub GoodJoin : Tree → Join → Type 0
GoodJoin n (Joins h) = ⊤
GoodJoin n (Posts k) = NotText k
GoodJoin n (Lengthens k) = (height n ≡ 1) × (nodes n ≡ 1)
GoodJoin n Apart = ⊤

-- Parts

good-first : (b inner : Bool) → GoodAfter (first_param b inner)
good-first true inner = tt
good-first false inner = tt

pub good-after : (h : Head) (n : Tree) → GoodAfter (attached h n)
good-after (head.ParamsStart inner) n = good-first (only_void n) inner
good-after _ n = tt

-- What follows an operand

abbrev GoodInfix : Tree → Infix → Type 0
GoodInfix n (Binds level left j) = GoodJoin n j
GoodInfix n No = ⊤

good-if : (n : Tree) (b : Bool) (j : Join) → GoodJoin n j → GoodJoin n (join_if b j)
good-if n true j h = h
good-if n false j h = tt

good-at : (n : Tree) (l k : ℕ) (i : Infix) → GoodInfix n i → GoodJoin n (join_at l k i)
good-at n l k (Binds level left j) h = good-if n (nat_le l level && nat_le left k) j h
good-at n l k No h = tt

good-binding : (n : Tree) (p : Punctuator) → GoodInfix n (binding p)
good-binding n mark.OpenParen = tt
good-binding n _ = tt

good-lengthen : (n : Tree) (x : List ℕ) → Bare n → GoodJoin n (lengthen n x)
good-lengthen (node (kind.Text pieces) at none) x b = (refl, refl)
good-lengthen (node (kind.Text pieces) at (more n ns)) x b = absurd b
good-lengthen (node _ at ps) x b = tt

good-expression : (l : ℕ) (n : Tree) (token : Terminal) → Bare n → GoodJoin n (join_expression l n token)
good-expression l n (t.Mark p) b = good-at n l (level_of n) (binding p) (good-binding n p)
good-expression l n (t.Text x) b = good-lengthen n x b
good-expression l n _ b = tt

good-declarator : (n : Tree) (token : Terminal) → GoodJoin n (join_declarator n token)
good-declarator n (t.Mark mark.OpenBracket) = good-if n (nat_le 16 (direct_of n)) (Joins (head.BracketsStart true)) tt
good-declarator n (t.Mark mark.OpenParen) = good-if n (nat_le 16 (direct_of n)) (Joins (head.ParamsStart true)) tt
good-declarator n _ = tt

pub good-join : (c : Class) (n : Tree) (token : Terminal) → Bare n → GoodJoin n (join c n token)
good-join (class.Expression l) n token b = good-expression l n token b
good-join (class.Declarator m l) n token b = good-declarator n token
good-join class.Initialiser n token b = good-expression 2 n token b
good-join _ n token b = tt

-- Heads of declarations

good-shift : (b : Bool) (h : Head) (m : Move) → GoodMove m → GoodMove (shift_if b h m)
good-shift true h m g = tt
good-shift false h m g = g

good-behind : (c : Context) (words : List SpecWord) (token : Terminal) → GoodMove (behind c words token)
good-behind context.File words (t.Mark mark.Semicolon) = tt
good-behind context.File words _ = tt
good-behind context.Head words (t.Mark mark.Semicolon) = tt
good-behind context.Head words _ = tt
good-behind context.Local words (t.Mark mark.Semicolon) = tt
good-behind context.Local words _ = tt
good-behind context.Member words (t.Mark mark.Semicolon) = tt
good-behind context.Member words _ = tt
good-behind context.Param words (t.Mark mark.Comma) = tt
good-behind context.Param words (t.Mark mark.CloseParen) = tt
good-behind context.Param words _ = tt
good-behind context.Type words (t.Mark mark.CloseParen) = tt
good-behind context.Type words _ = tt

good-type : (b : Bool) (c : Context) (words : List SpecWord) (token : Terminal) → GoodMove (behind_type b c words token)
good-type true c words token = good-behind c words token
good-type false c words token = tt

good-ends : (c : Context) (words : List SpecWord) (token : Terminal) → GoodMove (ends_spec c words token)
good-ends c words token = good-type (has_type words) c words token

good-word : (c : Context) (words : List SpecWord) (w : SpecWord) → GoodMove (word_move c words w)
good-word c words w = good-shift (may_follow (allows_storage c) words w) (head.Spec c (words ++ w ∷ [])) Refused tt

good-key : (c : Context) (words : List SpecWord) (k : Keyword) → GoodMove (key_move c words k)
good-key c words key.Extern = good-word c words word.Extern
good-key c words key.Static = good-word c words word.Static
good-key c words key.Typedef = good-word c words word.Typedef
good-key c words key.Auto = good-word c words word.Auto
good-key c words key.Register = good-word c words word.Register
good-key c words key.Const = good-word c words word.Const
good-key c words key.Volatile = good-word c words word.Volatile
good-key c words key.Void = good-word c words word.Void
good-key c words key.Char = good-word c words word.Char
good-key c words key.Short = good-word c words word.Short
good-key c words key.Int = good-word c words word.Int
good-key c words key.Long = good-word c words word.Long
good-key c words key.Signed = good-word c words word.Signed
good-key c words key.Unsigned = good-word c words word.Unsigned
good-key c words key.Struct = good-shift (may_follow (allows_storage c) words (word.Tag false [] None)) (head.TagStart c words false) Refused tt
good-key c words key.Union = good-shift (may_follow (allows_storage c) words (word.Tag true [] None)) (head.TagStart c words true) Refused tt
good-key c words key.Enum = good-shift (may_follow (allows_storage c) words (word.Enum [] None false)) (head.EnumStart c words) Refused tt
good-key c words k = good-ends c words (t.Key k)

good-spec : (scope : Scope) (c : Context) (words : List SpecWord) (token : Terminal) → GoodMove (spec_move scope c words token)
good-spec scope c words (t.Key k) = good-key c words k
good-spec scope c words (t.Name x) =
    good-shift (is_type scope x && may_follow (allows_storage c) words (word.TypeName x)) (head.Spec c (words ++ word.TypeName x ∷ []))
    (ends_spec c words (t.Name x)) (good-ends c words (t.Name x))
good-spec scope c words token = good-ends c words token

good-tag : (scope : Scope) (c : Context) (words : List SpecWord) (is_union : Bool) (name : List ℕ) (token : Terminal) → GoodMove (tag_move scope c words is_union name token)
good-tag scope c words is_union name (t.Mark mark.OpenBrace) = tt
good-tag scope c words is_union name token = good-spec scope c (words ++ word.Tag is_union name None ∷ []) token

good-enum : (scope : Scope) (c : Context) (words : List SpecWord) (name : List ℕ) (token : Terminal) → GoodMove (enum_move scope c words name token)
good-enum scope c words name (t.Mark mark.OpenBrace) = tt
good-enum scope c words name token = good-spec scope c (words ++ word.Enum name None false ∷ []) token

good-tag_start : (c : Context) (words : List SpecWord) (is_union : Bool) (token : Terminal) → GoodMove (tag_start c words is_union token)
good-tag_start c words is_union (t.Name []) = tt
good-tag_start c words is_union (t.Name (b ∷ bs)) = tt
good-tag_start c words is_union (t.Mark mark.OpenBrace) = tt
good-tag_start c words is_union _ = tt

good-enum_start : (c : Context) (words : List SpecWord) (token : Terminal) → GoodMove (enum_start c words token)
good-enum_start c words (t.Name []) = tt
good-enum_start c words (t.Name (b ∷ bs)) = tt
good-enum_start c words (t.Mark mark.OpenBrace) = tt
good-enum_start c words _ = tt

good-members : (c : Context) (words : List SpecWord) (is_union : Bool) (name : List ℕ) (n : ℕ) (token : Terminal) → GoodMove (members_move c words is_union name n token)
good-members c words is_union name zero token = tt
good-members c words is_union name (suc n) (t.Mark mark.CloseBrace) = tt
good-members c words is_union name (suc n) _ = tt

-- Tokens that are looked at alone

good-close_paren : (m : Move) (token : Terminal) → GoodMove m → GoodMove (close_paren m token)
good-close_paren m (t.Mark mark.CloseParen) g = g
good-close_paren m _ g = tt

good-close_bracket : (m : Move) (token : Terminal) → GoodMove m → GoodMove (close_bracket m token)
good-close_bracket m (t.Mark mark.CloseBracket) g = g
good-close_bracket m _ g = tt

good-semicolon : (m : Move) (token : Terminal) → GoodMove m → GoodMove (semicolon m token)
good-semicolon m (t.Mark mark.Semicolon) g = g
good-semicolon m _ g = tt

good-colon : (m : Move) (token : Terminal) → GoodMove m → GoodMove (colon m token)
good-colon m (t.Mark mark.Colon) g = g
good-colon m _ g = tt

good-paren_or : (m other : Move) (token : Terminal) → GoodMove m → GoodMove other → GoodMove (paren_or m other token)
good-paren_or m other (t.Mark mark.CloseParen) g h = g
good-paren_or m other _ g h = h

good-semicolon_or : (m other : Move) (token : Terminal) → GoodMove m → GoodMove other → GoodMove (semicolon_or m other token)
good-semicolon_or m other (t.Mark mark.Semicolon) g h = g
good-semicolon_or m other _ g h = h

good-brace_or : (m other : Move) (token : Terminal) → GoodMove m → GoodMove other → GoodMove (brace_or m other token)
good-brace_or m other (t.Mark mark.CloseBrace) g h = g
good-brace_or m other _ g h = h

good-bracket_or : (m other : Move) (token : Terminal) → GoodMove m → GoodMove other → GoodMove (bracket_or m other token)
good-bracket_or m other (t.Mark mark.CloseBracket) g h = g
good-bracket_or m other _ g h = h

good-end_or : (m other : Move) (token : Terminal) → GoodMove m → GoodMove other → GoodMove (end_or m other token)
good-end_or m other t.End g h = g
good-end_or m other _ g h = h

good-by_comma : (h : Head) (token : Terminal) → GoodMove (by_comma h token)
good-by_comma h (t.Mark mark.Comma) = tt
good-by_comma h _ = tt

good-open_paren : (h : Head) (token : Terminal) → GoodMove (open_paren h token)
good-open_paren h (t.Mark mark.OpenParen) = tt
good-open_paren h _ = tt

good-constants_next : (c : Context) (words : List SpecWord) (name : List ℕ) (n : ℕ) (token : Terminal) → GoodMove (constants_next c words name n token)
good-constants_next c words name n (t.Mark mark.Comma) = tt
good-constants_next c words name n (t.Mark mark.CloseBrace) = tt
good-constants_next c words name n _ = tt

good-constant_named : (name : List ℕ) (token : Terminal) → GoodMove (constant_named name token)
good-constant_named name (t.Mark mark.Equal) = tt
good-constant_named name (t.Mark mark.Comma) = tt
good-constant_named name (t.Mark mark.CloseBrace) = tt
good-constant_named name _ = tt

good-body : (c : Context) (words : List SpecWord) (inits : List Bool) → GoodMove (body_move c words inits)
good-body context.File words [] = tt
good-body context.File words (i ∷ is) = tt
good-body context.Head words [] = tt
good-body context.Head words (i ∷ is) = tt
good-body _ words inits = tt

good-next_declarator : (c : Context) (words : List SpecWord) (inits : List Bool) (token : Terminal) → GoodMove (next_declarator c words inits token)
good-next_declarator c words inits (t.Mark mark.Comma) = tt
good-next_declarator c words inits (t.Mark mark.Semicolon) = tt
good-next_declarator c words inits _ = tt

good-declared : (c : Context) (words : List SpecWord) (inits : List Bool) (token : Terminal) → GoodMove (declared_move c words inits token)
good-declared c words inits (t.Mark mark.Equal) = tt
good-declared c words inits (t.Mark mark.OpenBrace) = good-body c words inits
good-declared c words inits token = good-next_declarator c words (inits ++ false ∷ []) token

good-member_declared : (words : List SpecWord) (token : Terminal) → GoodMove (member_declared words token)
good-member_declared words (t.Mark mark.Comma) = tt
good-member_declared words (t.Mark mark.Semicolon) = tt
good-member_declared words _ = tt

good-bare_star : (n : Naming) (volatiles : List Bool) → GoodMove (bare_star n volatiles)
good-bare_star naming.Named volatiles = tt
good-bare_star _ volatiles = tt

good-stars : (n : Naming) (volatiles : List Bool) (token : Terminal) → GoodMove (stars_move n volatiles token)
good-stars n volatiles (t.Key key.Const) = tt
good-stars n volatiles (t.Key key.Volatile) = tt
good-stars n volatiles (t.Mark mark.Comma) = good-bare_star n volatiles
good-stars n volatiles (t.Mark mark.CloseParen) = good-bare_star n volatiles
good-stars n volatiles _ = tt

good-params_start : (inner : Bool) (token : Terminal) → GoodMove (params_start inner token)
good-params_start inner (t.Mark mark.CloseParen) = tt
good-params_start inner (t.Key key.Void) = tt
good-params_start inner _ = tt

good-params_next : (inner : Bool) (token : Terminal) → GoodMove (params_next inner token)
good-params_next inner (t.Mark mark.Comma) = tt
good-params_next inner (t.Mark mark.CloseParen) = tt
good-params_next inner _ = tt

good-list_next : (token : Terminal) → GoodMove (list_next token)
good-list_next (t.Mark mark.Comma) = tt
good-list_next (t.Mark mark.CloseBrace) = tt
good-list_next _ = tt

good-call_next : (token : Terminal) → GoodMove (call_next token)
good-call_next (t.Mark mark.Comma) = tt
good-call_next (t.Mark mark.CloseParen) = tt
good-call_next _ = tt

good-entry_dot : (token : Terminal) → GoodMove (entry_dot token)
good-entry_dot (t.Name x) = tt
good-entry_dot _ = tt

good-entry_named : (place : EntryBy) (token : Terminal) → GoodMove (entry_named place token)
good-entry_named place (t.Mark mark.Equal) = tt
good-entry_named place _ = tt

good-dot : (arrow : Bool) (token : Terminal) → GoodMove (dot_move arrow token)
good-dot arrow (t.Name x) = tt
good-dot arrow _ = tt

good-sizeof : (token : Terminal) → GoodMove (sizeof_start token)
good-sizeof (t.Mark mark.OpenParen) = tt
good-sizeof _ = tt

good-else : (token : Terminal) → GoodMove (else_move token)
good-else (t.Key key.Else) = tt
good-else _ = tt

good-while : (token : Terminal) → GoodMove (while_move token)
good-while (t.Key key.While) = tt
good-while _ = tt

good-brace : (token : Terminal) → GoodMove (brace_move token)
good-brace (t.Mark mark.OpenBrace) = tt
good-brace _ = tt

-- Each head

pub good-move : (scope : Scope) (h : Head) (token : Terminal) → GoodMove (move scope h token)
good-move scope head.FileItems token = good-end_or (Shift head.FileOver) (Opens head.FileItems) token tt tt
good-move scope head.GoalRead token = good-end_or (Shift head.GoalOver) Refused token tt tt
good-move scope head.GroupEnd token = good-close_paren (Ends kind.Parens) token tt
good-move scope head.CastEnd token = good-close_paren (Shift head.CastOf) token tt
good-move scope head.SizeofStart token = good-sizeof token
good-move scope head.SizeofEnd token = good-close_paren (Ends kind.SizeofType) token tt
good-move scope head.ChooseColon token = good-colon (Shift head.ChooseNo) token tt
good-move scope head.IndexEnd token = good-close_bracket (Ends kind.Index) token tt
good-move scope head.CallStart token = good-paren_or (Ends kind.Call) (Opens head.CallStart) token tt tt
good-move scope head.CallNext token = good-call_next token
good-move scope (head.DotOf arrow) token = good-dot arrow token
good-move scope head.BlockItems token = good-brace_or (Ends kind.Block) (Opens head.BlockItems) token tt tt
good-move scope head.ExpressionEnd token = good-semicolon (Ends kind.Expression) token tt
good-move scope head.IfStart token = good-open_paren head.IfTest token
good-move scope head.IfEnd token = good-close_paren (Shift head.IfThen) token tt
good-move scope head.IfThenEnd token = good-else token
good-move scope head.WhileStart token = good-open_paren head.WhileTest token
good-move scope head.WhileEnd token = good-close_paren (Shift head.WhileBody) token tt
good-move scope head.DoWhile token = good-while token
good-move scope head.DoOpen token = good-open_paren head.DoTest token
good-move scope head.DoClose token = good-close_paren (Shift head.DoEnd) token tt
good-move scope head.DoEnd token = good-semicolon (Ends kind.Do) token tt
good-move scope head.ForStart token = good-open_paren head.ForFirst token
good-move scope head.ForFirst token = good-semicolon_or (Shift (head.ForTest false)) (Opens head.ForFirst) token tt tt
good-move scope head.ForFirstEnd token = good-semicolon (Shift (head.ForTest true)) token tt
good-move scope (head.ForTest first) token = good-semicolon_or (Shift (head.ForStep first false)) (Opens (head.ForTest first)) token tt tt
good-move scope (head.ForTestEnd first) token = good-semicolon (Shift (head.ForStep first true)) token tt
good-move scope (head.ForStep first test) token = good-paren_or (Shift (head.ForBody first test false)) (Opens (head.ForStep first test)) token tt tt
good-move scope (head.ForStepEnd first test) token = good-close_paren (Shift (head.ForBody first test true)) token tt
good-move scope head.SwitchStart token = good-open_paren head.SwitchValue token
good-move scope head.SwitchEnd token = good-close_paren (Shift head.SwitchBrace) token tt
good-move scope head.SwitchBrace token = good-brace token
good-move scope head.SwitchItems token = good-brace_or (Ends kind.Switch) (Opens head.SwitchItems) token tt tt
good-move scope head.CaseEnd token = good-colon (Ends kind.Case) token tt
good-move scope head.DefaultEnd token = good-colon (Ends kind.Default) token tt
good-move scope head.BreakEnd token = good-semicolon (Ends kind.Break) token tt
good-move scope head.ContinueEnd token = good-semicolon (Ends kind.Continue) token tt
good-move scope head.ReturnOf token = good-semicolon_or (Ends kind.Return) (Opens head.ReturnOf) token tt tt
good-move scope head.ReturnEnd token = good-semicolon (Ends kind.Return) token tt
good-move scope (head.Spec c words) token = good-spec scope c words token
good-move scope (head.TagStart c words is_union) token = good-tag_start c words is_union token
good-move scope (head.TagNamed c words is_union name) token = good-tag scope c words is_union name token
good-move scope (head.Members c words is_union name n) token = good-members c words is_union name n token
good-move scope (head.EnumStart c words) token = good-enum_start c words token
good-move scope (head.EnumNamed c words name) token = good-enum scope c words name token
good-move scope (head.ConstantsNext c words name n) token = good-constants_next c words name n token
good-move scope (head.ConstantNamed name) token = good-constant_named name token
good-move scope (head.Declared c words inits) token = good-declared c words inits token
good-move scope (head.InitialisedEnd c words inits) token = good-next_declarator c words (inits ++ true ∷ []) token
good-move scope (head.MemberDeclared words) token = good-member_declared words token
good-move scope (head.Stars n volatiles) token = good-stars n volatiles token
good-move scope (head.DeclGroupEnd n) token = good-close_paren (Ends kind.DeclParens) token tt
good-move scope (head.BracketsStart inner) token = good-bracket_or (Ends (kind.Brackets inner false)) (Opens (head.BracketsStart inner)) token tt tt
good-move scope (head.BracketsEnd inner) token = good-close_bracket (Ends (kind.Brackets inner true)) token tt
good-move scope (head.ParamsStart inner) token = good-params_start inner token
good-move scope (head.ParamsNext inner) token = good-params_next inner token
good-move scope (head.ParamsLone inner) token = good-by_comma (head.ParamsMore inner) token
good-move scope (head.ParamsVoid inner) token = good-close_paren (Ends (kind.Params inner true)) token tt
good-move scope head.ListNext token = good-list_next token
good-move scope head.ListComma token = good-brace_or (Ends (kind.InitList true)) (Opens head.ListComma) token tt tt
good-move scope head.EntryIndexEnd token = good-close_bracket (Shift (head.EntryNamed by.Index)) token tt
good-move scope head.EntryDot token = good-entry_dot token
good-move scope (head.EntryNamed place) token = good-entry_named place token
good-move scope (head.ConstantsComma c words name n) token =
    good-brace_or (Shift (head.Spec c (words ++ word.Enum name (Some n) true ∷ []))) (Opens (head.ConstantsComma c words name n)) token tt tt
good-move scope _ token = tt
