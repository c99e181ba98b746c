-- Heads at which the reader of a file may wait, and the moves that lead to them.
use Rattle.std.proofs.Common.{◌≡◌, ℕ, zero, suc, Bool, true, false, ◌&&◌, List, [], ◌∷◌, ◌++◌, Some, None, refl}
use Rattle.std.specs.Prelude.{not, nat_le}
use Rattle.p9_lang.specs.declared.tree.CUnary.TheVariants as unary
use Rattle.p9_lang.specs.declared.tree.EntryBy.{EntryBy}
use Rattle.p9_lang.specs.declared.tree.EntryBy.TheVariants as by
use Rattle.p9_lang.specs.declared.tree.SpecWord.{SpecWord}
use Rattle.p9_lang.specs.declared.tree.SpecWord.TheVariants as word
use Rattle.p9_lang.specs.declared.tree.Kind.TheVariants as kind
use Rattle.p9_grammar.specs.declared.terminal.Keyword.{Keyword}
use Rattle.p9_grammar.specs.declared.terminal.Keyword.TheVariants as key
use Rattle.p9_grammar.specs.declared.terminal.Punctuator.{Punctuator}
use Rattle.p9_grammar.specs.declared.terminal.Punctuator.TheVariants as mark
use Rattle.p9_grammar.specs.declared.terminal.Terminal.{Terminal}
use Rattle.p9_grammar.specs.declared.terminal.Terminal.TheVariants as t
use Rattle.p9_grammar.specs.declared.head.Context.{Context}
use Rattle.p9_grammar.specs.declared.head.Context.TheVariants as context
use Rattle.p9_grammar.specs.declared.head.Naming.{Naming}
use Rattle.p9_grammar.specs.declared.head.Naming.TheVariants as naming
use Rattle.p9_grammar.specs.declared.head.Class.{Class}
use Rattle.p9_grammar.specs.declared.head.Class.TheVariants as class
use Rattle.p9_grammar.specs.declared.head.Head.{Head}
use Rattle.p9_grammar.specs.declared.head.Head.TheVariants as head
use Rattle.p9_grammar.specs.Trees.{Tree, node}
use Rattle.p9_grammar.specs.Scopes.{Scope, is_type}
use Rattle.p9_grammar.specs.Machine.{step, begin, begin_by, begin_spec, begin_expression, begin_name, begin_group, begin_brackets, begin_declarator, begin_statement, begin_switch_item, begin_initialiser, begin_entry, begin_constant, begin_body, only_if, or_else, Begin, Pushes, Leaf, Under, Nowhere, Move, Shift, Ends, Opens, Over, Refused, After, To, Join, Joins, attached, first_param, only_void, join, join_at, join_if, join_expression, join_declarator, lengthen, Infix, Binds, No, binding, level_of, direct_of, move, spec_move, key_move, allows_storage, shift_if, behind, behind_type, ends_spec, by_comma, close_paren, open_paren, close_bracket, semicolon, colon, paren_or, brace_or, semicolon_or, bracket_or, tag_move, enum_move, tag_start, enum_start, members_move, constants_next, constant_named, body_move, next_declarator, declared_move, member_declared, bare_star, stars_move, params_start, params_next, list_next, call_next, entry_dot, entry_named, dot_move, sizeof_start, else_move, while_move, brace_move}
use Rattle.p9_grammar.specs.Grammar.{has_type, may_follow}

-- a head that stands above the bottom
abbrev pub up : Head → Bool
up head.FileItems = false
up head.FileOver = false
up head.GoalExpression = false
up head.GoalRead = false
up head.GoalOver = false
up head.GoalHead = false
up head.HeadRead = false
up _ = true

-- and at which the reader may wait for a token
abbrev pub waits : Head → Bool
waits (head.FunctionBody words) = false
waits h = up h

abbrev pub calm : Move → Bool
calm (Shift h) = waits h
calm (Opens h) = up h
calm _ = true

abbrev pub calm_begin : Begin → Bool
calm_begin (Pushes h) = waits h
calm_begin (Under h) = up h
calm_begin _ = true

abbrev pub calm_after : After → Bool
calm_after (To h) = up h
calm_after _ = true

abbrev pub calm_join : Join → Bool
calm_join (Joins h) = waits h
calm_join _ = true

-- the moves

pub calm-by_comma : (h : Head) (token : Terminal) → waits h ≡ true → calm (by_comma h token) ≡ true
calm-by_comma h (t.Mark mark.Comma) e = e
calm-by_comma h _ e = refl

pub calm-close_paren : (m : Move) (token : Terminal) → calm m ≡ true → calm (close_paren m token) ≡ true
calm-close_paren m (t.Mark mark.CloseParen) e = e
calm-close_paren m _ e = refl

pub calm-open_paren : (h : Head) (token : Terminal) → waits h ≡ true → calm (open_paren h token) ≡ true
calm-open_paren h (t.Mark mark.OpenParen) e = e
calm-open_paren h _ e = refl

pub calm-close_bracket : (m : Move) (token : Terminal) → calm m ≡ true → calm (close_bracket m token) ≡ true
calm-close_bracket m (t.Mark mark.CloseBracket) e = e
calm-close_bracket m _ e = refl

pub calm-semicolon : (m : Move) (token : Terminal) → calm m ≡ true → calm (semicolon m token) ≡ true
calm-semicolon m (t.Mark mark.Semicolon) e = e
calm-semicolon m _ e = refl

pub calm-colon : (m : Move) (token : Terminal) → calm m ≡ true → calm (colon m token) ≡ true
calm-colon m (t.Mark mark.Colon) e = e
calm-colon m _ e = refl

pub calm-paren_or : (m other : Move) (token : Terminal) → calm m ≡ true → calm other ≡ true → calm (paren_or m other token) ≡ true
calm-paren_or m other (t.Mark mark.CloseParen) e f = e
calm-paren_or m other _ e f = f

pub calm-semicolon_or : (m other : Move) (token : Terminal) → calm m ≡ true → calm other ≡ true → calm (semicolon_or m other token) ≡ true
calm-semicolon_or m other (t.Mark mark.Semicolon) e f = e
calm-semicolon_or m other _ e f = f

pub calm-brace_or : (m other : Move) (token : Terminal) → calm m ≡ true → calm other ≡ true → calm (brace_or m other token) ≡ true
calm-brace_or m other (t.Mark mark.CloseBrace) e f = e
calm-brace_or m other _ e f = f

pub calm-bracket_or : (m other : Move) (token : Terminal) → calm m ≡ true → calm other ≡ true → calm (bracket_or m other token) ≡ true
calm-bracket_or m other (t.Mark mark.CloseBracket) e f = e
calm-bracket_or m other _ e f = f

pub calm-shift_if : (b : Bool) (h : Head) (m : Move) → waits h ≡ true → calm m ≡ true → calm (shift_if b h m) ≡ true
calm-shift_if true h m e f = e
calm-shift_if false h m e f = f

pub calm-behind : (c : Context) (words : List SpecWord) (token : Terminal) → calm (behind c words token) ≡ true
calm-behind context.File words (t.Mark mark.Semicolon) = refl
calm-behind context.Head words (t.Mark mark.Semicolon) = refl
calm-behind context.Local words (t.Mark mark.Semicolon) = refl
calm-behind context.Member words (t.Mark mark.Semicolon) = refl
calm-behind context.File words _ = refl
calm-behind context.Head words _ = refl
calm-behind context.Local words _ = refl
calm-behind context.Member words _ = refl
calm-behind context.Param words (t.Mark mark.Comma) = refl
calm-behind context.Param words (t.Mark mark.CloseParen) = refl
calm-behind context.Param words _ = refl
calm-behind context.Type words (t.Mark mark.CloseParen) = refl
calm-behind context.Type words _ = refl

pub calm-behind_type : (b : Bool) (c : Context) (words : List SpecWord) (token : Terminal) → calm (behind_type b c words token) ≡ true
calm-behind_type true c words token = calm-behind c words token
calm-behind_type false c words token = refl

pub calm-key_move : (c : Context) (words : List SpecWord) (k : Keyword) → calm (key_move c words k) ≡ true
calm-key_move c words key.Extern = calm-shift_if (may_follow (allows_storage c) words word.Extern) (head.Spec c (words ++ word.Extern ∷ [])) Refused refl refl
calm-key_move c words key.Static = calm-shift_if (may_follow (allows_storage c) words word.Static) (head.Spec c (words ++ word.Static ∷ [])) Refused refl refl
calm-key_move c words key.Typedef = calm-shift_if (may_follow (allows_storage c) words word.Typedef) (head.Spec c (words ++ word.Typedef ∷ [])) Refused refl refl
calm-key_move c words key.Auto = calm-shift_if (may_follow (allows_storage c) words word.Auto) (head.Spec c (words ++ word.Auto ∷ [])) Refused refl refl
calm-key_move c words key.Register = calm-shift_if (may_follow (allows_storage c) words word.Register) (head.Spec c (words ++ word.Register ∷ [])) Refused refl refl
calm-key_move c words key.Const = calm-shift_if (may_follow (allows_storage c) words word.Const) (head.Spec c (words ++ word.Const ∷ [])) Refused refl refl
calm-key_move c words key.Volatile = calm-shift_if (may_follow (allows_storage c) words word.Volatile) (head.Spec c (words ++ word.Volatile ∷ [])) Refused refl refl
calm-key_move c words key.Void = calm-shift_if (may_follow (allows_storage c) words word.Void) (head.Spec c (words ++ word.Void ∷ [])) Refused refl refl
calm-key_move c words key.Char = calm-shift_if (may_follow (allows_storage c) words word.Char) (head.Spec c (words ++ word.Char ∷ [])) Refused refl refl
calm-key_move c words key.Short = calm-shift_if (may_follow (allows_storage c) words word.Short) (head.Spec c (words ++ word.Short ∷ [])) Refused refl refl
calm-key_move c words key.Int = calm-shift_if (may_follow (allows_storage c) words word.Int) (head.Spec c (words ++ word.Int ∷ [])) Refused refl refl
calm-key_move c words key.Long = calm-shift_if (may_follow (allows_storage c) words word.Long) (head.Spec c (words ++ word.Long ∷ [])) Refused refl refl
calm-key_move c words key.Signed = calm-shift_if (may_follow (allows_storage c) words word.Signed) (head.Spec c (words ++ word.Signed ∷ [])) Refused refl refl
calm-key_move c words key.Unsigned = calm-shift_if (may_follow (allows_storage c) words word.Unsigned) (head.Spec c (words ++ word.Unsigned ∷ [])) Refused refl refl
calm-key_move c words key.Struct = calm-shift_if (may_follow (allows_storage c) words (word.Tag false [] None)) (head.TagStart c words false) Refused refl refl
calm-key_move c words key.Union = calm-shift_if (may_follow (allows_storage c) words (word.Tag true [] None)) (head.TagStart c words true) Refused refl refl
calm-key_move c words key.Enum = calm-shift_if (may_follow (allows_storage c) words (word.Enum [] None false)) (head.EnumStart c words) Refused refl refl
calm-key_move c words key.Break = calm-behind_type (has_type words) c words (t.Key key.Break)
calm-key_move c words key.Case = calm-behind_type (has_type words) c words (t.Key key.Case)
calm-key_move c words key.Continue = calm-behind_type (has_type words) c words (t.Key key.Continue)
calm-key_move c words key.Default = calm-behind_type (has_type words) c words (t.Key key.Default)
calm-key_move c words key.Do = calm-behind_type (has_type words) c words (t.Key key.Do)
calm-key_move c words key.Double = calm-behind_type (has_type words) c words (t.Key key.Double)
calm-key_move c words key.Else = calm-behind_type (has_type words) c words (t.Key key.Else)
calm-key_move c words key.Float = calm-behind_type (has_type words) c words (t.Key key.Float)
calm-key_move c words key.For = calm-behind_type (has_type words) c words (t.Key key.For)
calm-key_move c words key.Goto = calm-behind_type (has_type words) c words (t.Key key.Goto)
calm-key_move c words key.If = calm-behind_type (has_type words) c words (t.Key key.If)
calm-key_move c words key.Return = calm-behind_type (has_type words) c words (t.Key key.Return)
calm-key_move c words key.Sizeof = calm-behind_type (has_type words) c words (t.Key key.Sizeof)
calm-key_move c words key.Switch = calm-behind_type (has_type words) c words (t.Key key.Switch)
calm-key_move c words key.While = calm-behind_type (has_type words) c words (t.Key key.While)

pub calm-spec_move : (scope : Scope) (c : Context) (words : List SpecWord) (token : Terminal) → calm (spec_move scope c words token) ≡ true
calm-spec_move scope c words (t.Key k) = calm-key_move c words k
calm-spec_move scope c words (t.Name x) =
    calm-shift_if (is_type scope x && may_follow (allows_storage c) words (word.TypeName x)) (head.Spec c (words ++ word.TypeName x ∷ [])) (ends_spec c words (t.Name x)) refl
    (calm-behind_type (has_type words) c words (t.Name x))
calm-spec_move scope c words (t.Number v u l) = calm-behind_type (has_type words) c words (t.Number v u l)
calm-spec_move scope c words (t.Character v) = calm-behind_type (has_type words) c words (t.Character v)
calm-spec_move scope c words (t.Text x) = calm-behind_type (has_type words) c words (t.Text x)
calm-spec_move scope c words (t.Mark p) = calm-behind_type (has_type words) c words (t.Mark p)
calm-spec_move scope c words t.End = calm-behind_type (has_type words) c words t.End
calm-spec_move scope c words t.Other = calm-behind_type (has_type words) c words t.Other

pub calm-tag_move : (scope : Scope) (c : Context) (words : List SpecWord) (is_union : Bool) (name : List ℕ) (token : Terminal) → calm (tag_move scope c words is_union name token) ≡ true
calm-tag_move scope c words is_union name (t.Mark mark.OpenBrace) = refl
calm-tag_move scope c words is_union name (t.Key k) = calm-spec_move scope c (words ++ word.Tag is_union name None ∷ []) (t.Key k)
calm-tag_move scope c words is_union name (t.Name x) = calm-spec_move scope c (words ++ word.Tag is_union name None ∷ []) (t.Name x)
calm-tag_move scope c words is_union name (t.Number v u l) = calm-spec_move scope c (words ++ word.Tag is_union name None ∷ []) (t.Number v u l)
calm-tag_move scope c words is_union name (t.Character v) = calm-spec_move scope c (words ++ word.Tag is_union name None ∷ []) (t.Character v)
calm-tag_move scope c words is_union name (t.Text x) = calm-spec_move scope c (words ++ word.Tag is_union name None ∷ []) (t.Text x)
calm-tag_move scope c words is_union name t.End = calm-spec_move scope c (words ++ word.Tag is_union name None ∷ []) t.End
calm-tag_move scope c words is_union name t.Other = calm-spec_move scope c (words ++ word.Tag is_union name None ∷ []) t.Other
calm-tag_move scope c words is_union name (t.Mark mark.CloseBrace) = calm-spec_move scope c (words ++ word.Tag is_union name None ∷ []) (t.Mark mark.CloseBrace)
calm-tag_move scope c words is_union name (t.Mark mark.OpenParen) = calm-spec_move scope c (words ++ word.Tag is_union name None ∷ []) (t.Mark mark.OpenParen)
calm-tag_move scope c words is_union name (t.Mark mark.CloseParen) = calm-spec_move scope c (words ++ word.Tag is_union name None ∷ []) (t.Mark mark.CloseParen)
calm-tag_move scope c words is_union name (t.Mark mark.OpenBracket) = calm-spec_move scope c (words ++ word.Tag is_union name None ∷ []) (t.Mark mark.OpenBracket)
calm-tag_move scope c words is_union name (t.Mark mark.CloseBracket) = calm-spec_move scope c (words ++ word.Tag is_union name None ∷ []) (t.Mark mark.CloseBracket)
calm-tag_move scope c words is_union name (t.Mark mark.Semicolon) = calm-spec_move scope c (words ++ word.Tag is_union name None ∷ []) (t.Mark mark.Semicolon)
calm-tag_move scope c words is_union name (t.Mark mark.Comma) = calm-spec_move scope c (words ++ word.Tag is_union name None ∷ []) (t.Mark mark.Comma)
calm-tag_move scope c words is_union name (t.Mark mark.Dot) = calm-spec_move scope c (words ++ word.Tag is_union name None ∷ []) (t.Mark mark.Dot)
calm-tag_move scope c words is_union name (t.Mark mark.Arrow) = calm-spec_move scope c (words ++ word.Tag is_union name None ∷ []) (t.Mark mark.Arrow)
calm-tag_move scope c words is_union name (t.Mark mark.PlusPlus) = calm-spec_move scope c (words ++ word.Tag is_union name None ∷ []) (t.Mark mark.PlusPlus)
calm-tag_move scope c words is_union name (t.Mark mark.MinusMinus) = calm-spec_move scope c (words ++ word.Tag is_union name None ∷ []) (t.Mark mark.MinusMinus)
calm-tag_move scope c words is_union name (t.Mark mark.Ampersand) = calm-spec_move scope c (words ++ word.Tag is_union name None ∷ []) (t.Mark mark.Ampersand)
calm-tag_move scope c words is_union name (t.Mark mark.Star) = calm-spec_move scope c (words ++ word.Tag is_union name None ∷ []) (t.Mark mark.Star)
calm-tag_move scope c words is_union name (t.Mark mark.Plus) = calm-spec_move scope c (words ++ word.Tag is_union name None ∷ []) (t.Mark mark.Plus)
calm-tag_move scope c words is_union name (t.Mark mark.Minus) = calm-spec_move scope c (words ++ word.Tag is_union name None ∷ []) (t.Mark mark.Minus)
calm-tag_move scope c words is_union name (t.Mark mark.Tilde) = calm-spec_move scope c (words ++ word.Tag is_union name None ∷ []) (t.Mark mark.Tilde)
calm-tag_move scope c words is_union name (t.Mark mark.Bang) = calm-spec_move scope c (words ++ word.Tag is_union name None ∷ []) (t.Mark mark.Bang)
calm-tag_move scope c words is_union name (t.Mark mark.Slash) = calm-spec_move scope c (words ++ word.Tag is_union name None ∷ []) (t.Mark mark.Slash)
calm-tag_move scope c words is_union name (t.Mark mark.Percent) = calm-spec_move scope c (words ++ word.Tag is_union name None ∷ []) (t.Mark mark.Percent)
calm-tag_move scope c words is_union name (t.Mark mark.ShiftLeft) = calm-spec_move scope c (words ++ word.Tag is_union name None ∷ []) (t.Mark mark.ShiftLeft)
calm-tag_move scope c words is_union name (t.Mark mark.ShiftRight) = calm-spec_move scope c (words ++ word.Tag is_union name None ∷ []) (t.Mark mark.ShiftRight)
calm-tag_move scope c words is_union name (t.Mark mark.Less) = calm-spec_move scope c (words ++ word.Tag is_union name None ∷ []) (t.Mark mark.Less)
calm-tag_move scope c words is_union name (t.Mark mark.Greater) = calm-spec_move scope c (words ++ word.Tag is_union name None ∷ []) (t.Mark mark.Greater)
calm-tag_move scope c words is_union name (t.Mark mark.LessEqual) = calm-spec_move scope c (words ++ word.Tag is_union name None ∷ []) (t.Mark mark.LessEqual)
calm-tag_move scope c words is_union name (t.Mark mark.GreaterEqual) = calm-spec_move scope c (words ++ word.Tag is_union name None ∷ []) (t.Mark mark.GreaterEqual)
calm-tag_move scope c words is_union name (t.Mark mark.EqualEqual) = calm-spec_move scope c (words ++ word.Tag is_union name None ∷ []) (t.Mark mark.EqualEqual)
calm-tag_move scope c words is_union name (t.Mark mark.BangEqual) = calm-spec_move scope c (words ++ word.Tag is_union name None ∷ []) (t.Mark mark.BangEqual)
calm-tag_move scope c words is_union name (t.Mark mark.Caret) = calm-spec_move scope c (words ++ word.Tag is_union name None ∷ []) (t.Mark mark.Caret)
calm-tag_move scope c words is_union name (t.Mark mark.Bar) = calm-spec_move scope c (words ++ word.Tag is_union name None ∷ []) (t.Mark mark.Bar)
calm-tag_move scope c words is_union name (t.Mark mark.AmpersandAmpersand) = calm-spec_move scope c (words ++ word.Tag is_union name None ∷ []) (t.Mark mark.AmpersandAmpersand)
calm-tag_move scope c words is_union name (t.Mark mark.BarBar) = calm-spec_move scope c (words ++ word.Tag is_union name None ∷ []) (t.Mark mark.BarBar)
calm-tag_move scope c words is_union name (t.Mark mark.Question) = calm-spec_move scope c (words ++ word.Tag is_union name None ∷ []) (t.Mark mark.Question)
calm-tag_move scope c words is_union name (t.Mark mark.Colon) = calm-spec_move scope c (words ++ word.Tag is_union name None ∷ []) (t.Mark mark.Colon)
calm-tag_move scope c words is_union name (t.Mark mark.Equal) = calm-spec_move scope c (words ++ word.Tag is_union name None ∷ []) (t.Mark mark.Equal)
calm-tag_move scope c words is_union name (t.Mark mark.StarEqual) = calm-spec_move scope c (words ++ word.Tag is_union name None ∷ []) (t.Mark mark.StarEqual)
calm-tag_move scope c words is_union name (t.Mark mark.SlashEqual) = calm-spec_move scope c (words ++ word.Tag is_union name None ∷ []) (t.Mark mark.SlashEqual)
calm-tag_move scope c words is_union name (t.Mark mark.PercentEqual) = calm-spec_move scope c (words ++ word.Tag is_union name None ∷ []) (t.Mark mark.PercentEqual)
calm-tag_move scope c words is_union name (t.Mark mark.PlusEqual) = calm-spec_move scope c (words ++ word.Tag is_union name None ∷ []) (t.Mark mark.PlusEqual)
calm-tag_move scope c words is_union name (t.Mark mark.MinusEqual) = calm-spec_move scope c (words ++ word.Tag is_union name None ∷ []) (t.Mark mark.MinusEqual)
calm-tag_move scope c words is_union name (t.Mark mark.ShiftLeftEqual) = calm-spec_move scope c (words ++ word.Tag is_union name None ∷ []) (t.Mark mark.ShiftLeftEqual)
calm-tag_move scope c words is_union name (t.Mark mark.ShiftRightEqual) = calm-spec_move scope c (words ++ word.Tag is_union name None ∷ []) (t.Mark mark.ShiftRightEqual)
calm-tag_move scope c words is_union name (t.Mark mark.AmpersandEqual) = calm-spec_move scope c (words ++ word.Tag is_union name None ∷ []) (t.Mark mark.AmpersandEqual)
calm-tag_move scope c words is_union name (t.Mark mark.CaretEqual) = calm-spec_move scope c (words ++ word.Tag is_union name None ∷ []) (t.Mark mark.CaretEqual)
calm-tag_move scope c words is_union name (t.Mark mark.BarEqual) = calm-spec_move scope c (words ++ word.Tag is_union name None ∷ []) (t.Mark mark.BarEqual)
calm-tag_move scope c words is_union name (t.Mark mark.Hash) = calm-spec_move scope c (words ++ word.Tag is_union name None ∷ []) (t.Mark mark.Hash)

pub calm-enum_move : (scope : Scope) (c : Context) (words : List SpecWord) (name : List ℕ) (token : Terminal) → calm (enum_move scope c words name token) ≡ true
calm-enum_move scope c words name (t.Mark mark.OpenBrace) = refl
calm-enum_move scope c words name (t.Key k) = calm-spec_move scope c (words ++ word.Enum name None false ∷ []) (t.Key k)
calm-enum_move scope c words name (t.Name x) = calm-spec_move scope c (words ++ word.Enum name None false ∷ []) (t.Name x)
calm-enum_move scope c words name (t.Number v u l) = calm-spec_move scope c (words ++ word.Enum name None false ∷ []) (t.Number v u l)
calm-enum_move scope c words name (t.Character v) = calm-spec_move scope c (words ++ word.Enum name None false ∷ []) (t.Character v)
calm-enum_move scope c words name (t.Text x) = calm-spec_move scope c (words ++ word.Enum name None false ∷ []) (t.Text x)
calm-enum_move scope c words name t.End = calm-spec_move scope c (words ++ word.Enum name None false ∷ []) t.End
calm-enum_move scope c words name t.Other = calm-spec_move scope c (words ++ word.Enum name None false ∷ []) t.Other
calm-enum_move scope c words name (t.Mark mark.CloseBrace) = calm-spec_move scope c (words ++ word.Enum name None false ∷ []) (t.Mark mark.CloseBrace)
calm-enum_move scope c words name (t.Mark mark.OpenParen) = calm-spec_move scope c (words ++ word.Enum name None false ∷ []) (t.Mark mark.OpenParen)
calm-enum_move scope c words name (t.Mark mark.CloseParen) = calm-spec_move scope c (words ++ word.Enum name None false ∷ []) (t.Mark mark.CloseParen)
calm-enum_move scope c words name (t.Mark mark.OpenBracket) = calm-spec_move scope c (words ++ word.Enum name None false ∷ []) (t.Mark mark.OpenBracket)
calm-enum_move scope c words name (t.Mark mark.CloseBracket) = calm-spec_move scope c (words ++ word.Enum name None false ∷ []) (t.Mark mark.CloseBracket)
calm-enum_move scope c words name (t.Mark mark.Semicolon) = calm-spec_move scope c (words ++ word.Enum name None false ∷ []) (t.Mark mark.Semicolon)
calm-enum_move scope c words name (t.Mark mark.Comma) = calm-spec_move scope c (words ++ word.Enum name None false ∷ []) (t.Mark mark.Comma)
calm-enum_move scope c words name (t.Mark mark.Dot) = calm-spec_move scope c (words ++ word.Enum name None false ∷ []) (t.Mark mark.Dot)
calm-enum_move scope c words name (t.Mark mark.Arrow) = calm-spec_move scope c (words ++ word.Enum name None false ∷ []) (t.Mark mark.Arrow)
calm-enum_move scope c words name (t.Mark mark.PlusPlus) = calm-spec_move scope c (words ++ word.Enum name None false ∷ []) (t.Mark mark.PlusPlus)
calm-enum_move scope c words name (t.Mark mark.MinusMinus) = calm-spec_move scope c (words ++ word.Enum name None false ∷ []) (t.Mark mark.MinusMinus)
calm-enum_move scope c words name (t.Mark mark.Ampersand) = calm-spec_move scope c (words ++ word.Enum name None false ∷ []) (t.Mark mark.Ampersand)
calm-enum_move scope c words name (t.Mark mark.Star) = calm-spec_move scope c (words ++ word.Enum name None false ∷ []) (t.Mark mark.Star)
calm-enum_move scope c words name (t.Mark mark.Plus) = calm-spec_move scope c (words ++ word.Enum name None false ∷ []) (t.Mark mark.Plus)
calm-enum_move scope c words name (t.Mark mark.Minus) = calm-spec_move scope c (words ++ word.Enum name None false ∷ []) (t.Mark mark.Minus)
calm-enum_move scope c words name (t.Mark mark.Tilde) = calm-spec_move scope c (words ++ word.Enum name None false ∷ []) (t.Mark mark.Tilde)
calm-enum_move scope c words name (t.Mark mark.Bang) = calm-spec_move scope c (words ++ word.Enum name None false ∷ []) (t.Mark mark.Bang)
calm-enum_move scope c words name (t.Mark mark.Slash) = calm-spec_move scope c (words ++ word.Enum name None false ∷ []) (t.Mark mark.Slash)
calm-enum_move scope c words name (t.Mark mark.Percent) = calm-spec_move scope c (words ++ word.Enum name None false ∷ []) (t.Mark mark.Percent)
calm-enum_move scope c words name (t.Mark mark.ShiftLeft) = calm-spec_move scope c (words ++ word.Enum name None false ∷ []) (t.Mark mark.ShiftLeft)
calm-enum_move scope c words name (t.Mark mark.ShiftRight) = calm-spec_move scope c (words ++ word.Enum name None false ∷ []) (t.Mark mark.ShiftRight)
calm-enum_move scope c words name (t.Mark mark.Less) = calm-spec_move scope c (words ++ word.Enum name None false ∷ []) (t.Mark mark.Less)
calm-enum_move scope c words name (t.Mark mark.Greater) = calm-spec_move scope c (words ++ word.Enum name None false ∷ []) (t.Mark mark.Greater)
calm-enum_move scope c words name (t.Mark mark.LessEqual) = calm-spec_move scope c (words ++ word.Enum name None false ∷ []) (t.Mark mark.LessEqual)
calm-enum_move scope c words name (t.Mark mark.GreaterEqual) = calm-spec_move scope c (words ++ word.Enum name None false ∷ []) (t.Mark mark.GreaterEqual)
calm-enum_move scope c words name (t.Mark mark.EqualEqual) = calm-spec_move scope c (words ++ word.Enum name None false ∷ []) (t.Mark mark.EqualEqual)
calm-enum_move scope c words name (t.Mark mark.BangEqual) = calm-spec_move scope c (words ++ word.Enum name None false ∷ []) (t.Mark mark.BangEqual)
calm-enum_move scope c words name (t.Mark mark.Caret) = calm-spec_move scope c (words ++ word.Enum name None false ∷ []) (t.Mark mark.Caret)
calm-enum_move scope c words name (t.Mark mark.Bar) = calm-spec_move scope c (words ++ word.Enum name None false ∷ []) (t.Mark mark.Bar)
calm-enum_move scope c words name (t.Mark mark.AmpersandAmpersand) = calm-spec_move scope c (words ++ word.Enum name None false ∷ []) (t.Mark mark.AmpersandAmpersand)
calm-enum_move scope c words name (t.Mark mark.BarBar) = calm-spec_move scope c (words ++ word.Enum name None false ∷ []) (t.Mark mark.BarBar)
calm-enum_move scope c words name (t.Mark mark.Question) = calm-spec_move scope c (words ++ word.Enum name None false ∷ []) (t.Mark mark.Question)
calm-enum_move scope c words name (t.Mark mark.Colon) = calm-spec_move scope c (words ++ word.Enum name None false ∷ []) (t.Mark mark.Colon)
calm-enum_move scope c words name (t.Mark mark.Equal) = calm-spec_move scope c (words ++ word.Enum name None false ∷ []) (t.Mark mark.Equal)
calm-enum_move scope c words name (t.Mark mark.StarEqual) = calm-spec_move scope c (words ++ word.Enum name None false ∷ []) (t.Mark mark.StarEqual)
calm-enum_move scope c words name (t.Mark mark.SlashEqual) = calm-spec_move scope c (words ++ word.Enum name None false ∷ []) (t.Mark mark.SlashEqual)
calm-enum_move scope c words name (t.Mark mark.PercentEqual) = calm-spec_move scope c (words ++ word.Enum name None false ∷ []) (t.Mark mark.PercentEqual)
calm-enum_move scope c words name (t.Mark mark.PlusEqual) = calm-spec_move scope c (words ++ word.Enum name None false ∷ []) (t.Mark mark.PlusEqual)
calm-enum_move scope c words name (t.Mark mark.MinusEqual) = calm-spec_move scope c (words ++ word.Enum name None false ∷ []) (t.Mark mark.MinusEqual)
calm-enum_move scope c words name (t.Mark mark.ShiftLeftEqual) = calm-spec_move scope c (words ++ word.Enum name None false ∷ []) (t.Mark mark.ShiftLeftEqual)
calm-enum_move scope c words name (t.Mark mark.ShiftRightEqual) = calm-spec_move scope c (words ++ word.Enum name None false ∷ []) (t.Mark mark.ShiftRightEqual)
calm-enum_move scope c words name (t.Mark mark.AmpersandEqual) = calm-spec_move scope c (words ++ word.Enum name None false ∷ []) (t.Mark mark.AmpersandEqual)
calm-enum_move scope c words name (t.Mark mark.CaretEqual) = calm-spec_move scope c (words ++ word.Enum name None false ∷ []) (t.Mark mark.CaretEqual)
calm-enum_move scope c words name (t.Mark mark.BarEqual) = calm-spec_move scope c (words ++ word.Enum name None false ∷ []) (t.Mark mark.BarEqual)
calm-enum_move scope c words name (t.Mark mark.Hash) = calm-spec_move scope c (words ++ word.Enum name None false ∷ []) (t.Mark mark.Hash)

pub calm-tag_start : (c : Context) (words : List SpecWord) (is_union : Bool) (token : Terminal) → calm (tag_start c words is_union token) ≡ true
calm-tag_start c words is_union (t.Name (b ∷ bs)) = refl
calm-tag_start c words is_union (t.Name []) = refl
calm-tag_start c words is_union (t.Mark mark.OpenBrace) = refl
calm-tag_start c words is_union _ = refl

pub calm-enum_start : (c : Context) (words : List SpecWord) (token : Terminal) → calm (enum_start c words token) ≡ true
calm-enum_start c words (t.Name (b ∷ bs)) = refl
calm-enum_start c words (t.Name []) = refl
calm-enum_start c words (t.Mark mark.OpenBrace) = refl
calm-enum_start c words _ = refl

pub calm-members_move : (c : Context) (words : List SpecWord) (is_union : Bool) (name : List ℕ) (n : ℕ) (token : Terminal) → calm (members_move c words is_union name n token) ≡ true
calm-members_move c words is_union name zero token = refl
calm-members_move c words is_union name (suc n) token =
    calm-brace_or (Shift (head.Spec c (words ++ word.Tag is_union name (Some (suc n)) ∷ []))) (Opens (head.Members c words is_union name (suc n))) token refl refl

pub calm-constants_next : (c : Context) (words : List SpecWord) (name : List ℕ) (n : ℕ) (token : Terminal) → calm (constants_next c words name n token) ≡ true
calm-constants_next c words name n (t.Mark mark.Comma) = refl
calm-constants_next c words name n (t.Mark mark.CloseBrace) = refl
calm-constants_next c words name n _ = refl

pub calm-constant_named : (name : List ℕ) (token : Terminal) → calm (constant_named name token) ≡ true
calm-constant_named name (t.Mark mark.Equal) = refl
calm-constant_named name (t.Mark mark.Comma) = refl
calm-constant_named name (t.Mark mark.CloseBrace) = refl
calm-constant_named name _ = refl

pub calm-body_move : (c : Context) (words : List SpecWord) (inits : List Bool) → calm (body_move c words inits) ≡ true
calm-body_move context.File words [] = refl
calm-body_move context.Head words [] = refl
calm-body_move context.Local words [] = refl
calm-body_move context.Member words [] = refl
calm-body_move context.Param words [] = refl
calm-body_move context.Type words [] = refl
calm-body_move context.File words (i ∷ is) = refl
calm-body_move context.Head words (i ∷ is) = refl
calm-body_move context.Local words (i ∷ is) = refl
calm-body_move context.Member words (i ∷ is) = refl
calm-body_move context.Param words (i ∷ is) = refl
calm-body_move context.Type words (i ∷ is) = refl

pub calm-next_declarator : (c : Context) (words : List SpecWord) (inits : List Bool) (token : Terminal) → calm (next_declarator c words inits token) ≡ true
calm-next_declarator c words inits (t.Mark mark.Comma) = refl
calm-next_declarator c words inits (t.Mark mark.Semicolon) = refl
calm-next_declarator c words inits _ = refl

pub calm-declared_move : (c : Context) (words : List SpecWord) (inits : List Bool) (token : Terminal) → calm (declared_move c words inits token) ≡ true
calm-declared_move c words inits (t.Mark mark.Equal) = refl
calm-declared_move c words inits (t.Mark mark.OpenBrace) = calm-body_move c words inits
calm-declared_move c words inits (t.Mark mark.Comma) = refl
calm-declared_move c words inits (t.Mark mark.Semicolon) = refl
calm-declared_move c words inits _ = refl

pub calm-member_declared : (words : List SpecWord) (token : Terminal) → calm (member_declared words token) ≡ true
calm-member_declared words (t.Mark mark.Comma) = refl
calm-member_declared words (t.Mark mark.Semicolon) = refl
calm-member_declared words _ = refl

pub calm-bare_star : (n : Naming) (volatiles : List Bool) → calm (bare_star n volatiles) ≡ true
calm-bare_star naming.Named volatiles = refl
calm-bare_star naming.Either volatiles = refl
calm-bare_star naming.Hidden volatiles = refl
calm-bare_star naming.Bare volatiles = refl

pub calm-stars_move : (n : Naming) (volatiles : List Bool) (token : Terminal) → calm (stars_move n volatiles token) ≡ true
calm-stars_move n volatiles (t.Key key.Const) = refl
calm-stars_move n volatiles (t.Key key.Volatile) = refl
calm-stars_move n volatiles (t.Mark mark.Comma) = calm-bare_star n volatiles
calm-stars_move n volatiles (t.Mark mark.CloseParen) = calm-bare_star n volatiles
calm-stars_move n volatiles _ = refl

pub calm-params_start : (inner : Bool) (token : Terminal) → calm (params_start inner token) ≡ true
calm-params_start inner (t.Mark mark.CloseParen) = refl
calm-params_start inner (t.Key key.Void) = refl
calm-params_start inner _ = refl

pub calm-params_next : (inner : Bool) (token : Terminal) → calm (params_next inner token) ≡ true
calm-params_next inner (t.Mark mark.Comma) = refl
calm-params_next inner (t.Mark mark.CloseParen) = refl
calm-params_next inner _ = refl

pub calm-list_next : (token : Terminal) → calm (list_next token) ≡ true
calm-list_next (t.Mark mark.Comma) = refl
calm-list_next (t.Mark mark.CloseBrace) = refl
calm-list_next _ = refl

pub calm-call_next : (token : Terminal) → calm (call_next token) ≡ true
calm-call_next (t.Mark mark.Comma) = refl
calm-call_next (t.Mark mark.CloseParen) = refl
calm-call_next _ = refl

pub calm-entry_dot : (token : Terminal) → calm (entry_dot token) ≡ true
calm-entry_dot (t.Name x) = refl
calm-entry_dot _ = refl

pub calm-entry_named : (place : EntryBy) (token : Terminal) → calm (entry_named place token) ≡ true
calm-entry_named place (t.Mark mark.Equal) = refl
calm-entry_named place _ = refl

pub calm-dot_move : (arrow : Bool) (token : Terminal) → calm (dot_move arrow token) ≡ true
calm-dot_move arrow (t.Name x) = refl
calm-dot_move arrow _ = refl

pub calm-sizeof_start : (token : Terminal) → calm (sizeof_start token) ≡ true
calm-sizeof_start (t.Mark mark.OpenParen) = refl
calm-sizeof_start _ = refl

pub calm-else_move : (token : Terminal) → calm (else_move token) ≡ true
calm-else_move (t.Key key.Else) = refl
calm-else_move _ = refl

pub calm-while_move : (token : Terminal) → calm (while_move token) ≡ true
calm-while_move (t.Key key.While) = refl
calm-while_move _ = refl

pub calm-brace_move : (token : Terminal) → calm (brace_move token) ≡ true
calm-brace_move (t.Mark mark.OpenBrace) = refl
calm-brace_move _ = refl

pub calm-move : (scope : Scope) (h : Head) (token : Terminal) → up h ≡ true → calm (move scope h token) ≡ true
calm-move scope head.FileItems token e = absurd (cc)
calm-move scope head.FileOver token e = absurd (cc)
calm-move scope head.GoalExpression token e = absurd (cc)
calm-move scope head.GoalRead token e = absurd (cc)
calm-move scope head.GoalOver token e = absurd (cc)
calm-move scope head.GoalHead token e = absurd (cc)
calm-move scope head.HeadRead token e = absurd (cc)
calm-move scope (head.HeadOver words) token e = refl
calm-move scope (head.Opened l) token e = refl
calm-move scope head.Group token e = refl
calm-move scope head.GroupEnd token e = calm-close_paren (Ends kind.Parens) token refl
calm-move scope head.CastType token e = refl
calm-move scope head.CastEnd token e = calm-close_paren (Shift head.CastOf) token refl
calm-move scope head.CastOf token e = refl
calm-move scope (head.UnaryOf op) token e = refl
calm-move scope (head.PreOf minus) token e = refl
calm-move scope head.SizeofStart token e = calm-sizeof_start token
calm-move scope head.SizeofOpen token e = refl
calm-move scope head.SizeofOf token e = refl
calm-move scope head.SizeofType token e = refl
calm-move scope head.SizeofEnd token e = calm-close_paren (Ends kind.SizeofType) token refl
calm-move scope (head.BinaryOf op) token e = refl
calm-move scope (head.AssignOf op) token e = refl
calm-move scope head.CommaOf token e = refl
calm-move scope head.ChooseYes token e = refl
calm-move scope head.ChooseColon token e = calm-colon (Shift head.ChooseNo) token refl
calm-move scope head.ChooseNo token e = refl
calm-move scope head.IndexOf token e = refl
calm-move scope head.IndexEnd token e = calm-close_bracket (Ends kind.Index) token refl
calm-move scope head.CallStart token e = calm-paren_or (Ends kind.Call) (Opens head.CallStart) token refl refl
calm-move scope head.CallNext token e = calm-call_next token
calm-move scope head.CallMore token e = refl
calm-move scope (head.DotOf arrow) token e = calm-dot_move arrow token
calm-move scope head.BlockItems token e = calm-brace_or (Ends kind.Block) (Opens head.BlockItems) token refl refl
calm-move scope head.ExpressionOf token e = refl
calm-move scope head.ExpressionEnd token e = calm-semicolon (Ends kind.Expression) token refl
calm-move scope head.IfStart token e = calm-open_paren head.IfTest token refl
calm-move scope head.IfTest token e = refl
calm-move scope head.IfEnd token e = calm-close_paren (Shift head.IfThen) token refl
calm-move scope head.IfThen token e = refl
calm-move scope head.IfThenEnd token e = calm-else_move token
calm-move scope head.IfElse token e = refl
calm-move scope head.WhileStart token e = calm-open_paren head.WhileTest token refl
calm-move scope head.WhileTest token e = refl
calm-move scope head.WhileEnd token e = calm-close_paren (Shift head.WhileBody) token refl
calm-move scope head.WhileBody token e = refl
calm-move scope head.DoBody token e = refl
calm-move scope head.DoWhile token e = calm-while_move token
calm-move scope head.DoOpen token e = calm-open_paren head.DoTest token refl
calm-move scope head.DoTest token e = refl
calm-move scope head.DoClose token e = calm-close_paren (Shift head.DoEnd) token refl
calm-move scope head.DoEnd token e = calm-semicolon (Ends kind.Do) token refl
calm-move scope head.ForStart token e = calm-open_paren head.ForFirst token refl
calm-move scope head.ForFirst token e = calm-semicolon_or (Shift (head.ForTest false)) (Opens head.ForFirst) token refl refl
calm-move scope head.ForFirstEnd token e = calm-semicolon (Shift (head.ForTest true)) token refl
calm-move scope (head.ForTest first) token e = calm-semicolon_or (Shift (head.ForStep first false)) (Opens (head.ForTest first)) token refl refl
calm-move scope (head.ForTestEnd first) token e = calm-semicolon (Shift (head.ForStep first true)) token refl
calm-move scope (head.ForStep first test) token e = calm-paren_or (Shift (head.ForBody first test false)) (Opens (head.ForStep first test)) token refl refl
calm-move scope (head.ForStepEnd first test) token e = calm-close_paren (Shift (head.ForBody first test true)) token refl
calm-move scope (head.ForBody first test step) token e = refl
calm-move scope head.SwitchStart token e = calm-open_paren head.SwitchValue token refl
calm-move scope head.SwitchValue token e = refl
calm-move scope head.SwitchEnd token e = calm-close_paren (Shift head.SwitchBrace) token refl
calm-move scope head.SwitchBrace token e = calm-brace_move token
calm-move scope head.SwitchItems token e = calm-brace_or (Ends kind.Switch) (Opens head.SwitchItems) token refl refl
calm-move scope head.CaseOf token e = refl
calm-move scope head.CaseEnd token e = calm-colon (Ends kind.Case) token refl
calm-move scope head.DefaultEnd token e = calm-colon (Ends kind.Default) token refl
calm-move scope head.BreakEnd token e = calm-semicolon (Ends kind.Break) token refl
calm-move scope head.ContinueEnd token e = calm-semicolon (Ends kind.Continue) token refl
calm-move scope head.ReturnOf token e = calm-semicolon_or (Ends kind.Return) (Opens head.ReturnOf) token refl refl
calm-move scope head.ReturnEnd token e = calm-semicolon (Ends kind.Return) token refl
calm-move scope (head.Spec c words) token e = calm-spec_move scope c words token
calm-move scope (head.TagStart c words is_union) token e = calm-tag_start c words is_union token
calm-move scope (head.TagNamed c words is_union name) token e = calm-tag_move scope c words is_union name token
calm-move scope (head.Members c words is_union name n) token e = calm-members_move c words is_union name n token
calm-move scope (head.EnumStart c words) token e = calm-enum_start c words token
calm-move scope (head.EnumNamed c words name) token e = calm-enum_move scope c words name token
calm-move scope (head.Constants c words name n) token e = refl
calm-move scope (head.ConstantsNext c words name n) token e = calm-constants_next c words name n token
calm-move scope (head.ConstantsComma c words name n) token e = calm-brace_or (Shift (head.Spec c (words ++ word.Enum name (Some n) true ∷ []))) (Opens (head.ConstantsComma c words name n)) token refl refl
calm-move scope (head.ConstantNamed name) token e = calm-constant_named name token
calm-move scope (head.ConstantOf name) token e = refl
calm-move scope (head.Declarators c words inits) token e = refl
calm-move scope (head.Declared c words inits) token e = calm-declared_move c words inits token
calm-move scope (head.Initialised c words inits) token e = refl
calm-move scope (head.InitialisedEnd c words inits) token e = calm-next_declarator c words (inits ++ true ∷ []) token
calm-move scope (head.FunctionBody words) token e = refl
calm-move scope (head.MemberDeclarators words) token e = refl
calm-move scope (head.MemberDeclared words) token e = calm-member_declared words token
calm-move scope (head.ParamOf words) token e = refl
calm-move scope (head.TypeOf words) token e = refl
calm-move scope (head.Stars n volatiles) token e = calm-stars_move n volatiles token
calm-move scope (head.DeclOpened n) token e = refl
calm-move scope (head.DeclGroup n) token e = refl
calm-move scope (head.DeclGroupEnd n) token e = calm-close_paren (Ends kind.DeclParens) token refl
calm-move scope (head.BracketsStart inner) token e = calm-bracket_or (Ends (kind.Brackets inner false)) (Opens (head.BracketsStart inner)) token refl refl
calm-move scope (head.BracketsEnd inner) token e = calm-close_bracket (Ends (kind.Brackets inner true)) token refl
calm-move scope (head.ParamsStart inner) token e = calm-params_start inner token
calm-move scope (head.ParamsNext inner) token e = calm-params_next inner token
calm-move scope (head.ParamsLone inner) token e = calm-by_comma (head.ParamsMore inner) token refl
calm-move scope (head.ParamsMore inner) token e = refl
calm-move scope (head.ParamsVoid inner) token e = calm-close_paren (Ends (kind.Params inner true)) token refl
calm-move scope head.ListStart token e = refl
calm-move scope head.ListNext token e = calm-list_next token
calm-move scope head.ListComma token e = calm-brace_or (Ends (kind.InitList true)) (Opens head.ListComma) token refl refl
calm-move scope head.EntryIndex token e = refl
calm-move scope head.EntryIndexEnd token e = calm-close_bracket (Shift (head.EntryNamed by.Index)) token refl
calm-move scope head.EntryDot token e = calm-entry_dot token
calm-move scope (head.EntryNamed place) token e = calm-entry_named place token
calm-move scope (head.EntryOf place equals) token e = refl

pub calm-first : (b inner : Bool) → calm_after (first_param b inner) ≡ true
calm-first true inner = refl
calm-first false inner = refl

pub calm-attached : (h : Head) (n : Tree) → up h ≡ true → calm_after (attached h n) ≡ true
calm-attached (head.ParamsStart inner) n e = calm-first (only_void n) inner
calm-attached head.FileItems n e = absurd (cc)
calm-attached head.FileOver n e = absurd (cc)
calm-attached head.GoalExpression n e = absurd (cc)
calm-attached head.GoalHead n e = absurd (cc)
calm-attached head.GoalOver n e = absurd (cc)
calm-attached head.GoalRead n e = absurd (cc)
calm-attached head.HeadRead n e = absurd (cc)
calm-attached _ n e = refl

-- how parts begin

pub calm-only_if : (b : Bool) (x : Begin) → calm_begin x ≡ true → calm_begin (only_if b x) ≡ true
calm-only_if true x e = e
calm-only_if false x e = refl

pub calm-or_else : (x y : Begin) → calm_begin x ≡ true → calm_begin y ≡ true → calm_begin (or_else x y) ≡ true
calm-or_else Nowhere y e f = f
calm-or_else (Pushes h) y e f = e
calm-or_else (Leaf k) y e f = e
calm-or_else (Under h) y e f = e

pub calm-begin_by : (m : Move) → calm m ≡ true → calm_begin (begin_by m) ≡ true
calm-begin_by (Shift h) e = e
calm-begin_by (Ends k) e = refl
calm-begin_by (Opens h) e = refl
calm-begin_by (Over k) e = refl
calm-begin_by Refused e = refl

pub calm-begin_spec : (scope : Scope) (c : Context) (token : Terminal) → calm_begin (begin_spec scope c token) ≡ true
calm-begin_spec scope c token = calm-begin_by (spec_move scope c [] token) (calm-spec_move scope c [] token)

pub calm-begin_expression : (scope : Scope) (l : ℕ) (token : Terminal) → calm_begin (begin_expression scope l token) ≡ true
calm-begin_expression scope l (t.Name x) = calm-only_if (not (is_type scope x)) (Leaf (kind.Name x)) refl
calm-begin_expression scope l (t.Mark mark.Ampersand) = calm-only_if (nat_le l 15) (Pushes (head.UnaryOf unary.Address)) refl
calm-begin_expression scope l (t.Mark mark.Star) = calm-only_if (nat_le l 15) (Pushes (head.UnaryOf unary.Deref)) refl
calm-begin_expression scope l (t.Mark mark.Plus) = calm-only_if (nat_le l 15) (Pushes (head.UnaryOf unary.Plus)) refl
calm-begin_expression scope l (t.Mark mark.Minus) = calm-only_if (nat_le l 15) (Pushes (head.UnaryOf unary.Minus)) refl
calm-begin_expression scope l (t.Mark mark.Tilde) = calm-only_if (nat_le l 15) (Pushes (head.UnaryOf unary.Complement)) refl
calm-begin_expression scope l (t.Mark mark.Bang) = calm-only_if (nat_le l 15) (Pushes (head.UnaryOf unary.Not)) refl
calm-begin_expression scope l (t.Mark mark.PlusPlus) = calm-only_if (nat_le l 15) (Pushes (head.PreOf false)) refl
calm-begin_expression scope l (t.Mark mark.MinusMinus) = calm-only_if (nat_le l 15) (Pushes (head.PreOf true)) refl
calm-begin_expression scope l (t.Key key.Sizeof) = calm-only_if (nat_le l 15) (Pushes head.SizeofStart) refl
calm-begin_expression scope l _ = refl

pub calm-begin_name : (scope : Scope) (n : Naming) (x : List ℕ) → calm_begin (begin_name scope n x) ≡ true
calm-begin_name scope naming.Named x = refl
calm-begin_name scope naming.Either x = refl
calm-begin_name scope naming.Hidden x = calm-only_if (not (is_type scope x)) (Leaf (kind.DeclName x)) refl
calm-begin_name scope naming.Bare x = refl

pub calm-begin_group : (n : Naming) → calm_begin (begin_group n) ≡ true
calm-begin_group naming.Named = refl
calm-begin_group naming.Either = refl
calm-begin_group naming.Hidden = refl
calm-begin_group naming.Bare = refl

pub calm-begin_brackets : (n : Naming) → calm_begin (begin_brackets n) ≡ true
calm-begin_brackets naming.Named = refl
calm-begin_brackets naming.Either = refl
calm-begin_brackets naming.Hidden = refl
calm-begin_brackets naming.Bare = refl

pub calm-begin_declarator : (scope : Scope) (n : Naming) (token : Terminal) → calm_begin (begin_declarator scope n token) ≡ true
calm-begin_declarator scope n (t.Name x) = calm-begin_name scope n x
calm-begin_declarator scope n (t.Mark mark.Star) = refl
calm-begin_declarator scope n (t.Mark mark.OpenParen) = calm-begin_group n
calm-begin_declarator scope n (t.Mark mark.OpenBracket) = calm-begin_brackets n
calm-begin_declarator scope n _ = refl

pub calm-begin_statement : (token : Terminal) → calm_begin (begin_statement token) ≡ true
calm-begin_statement (t.Mark mark.OpenBrace) = refl
calm-begin_statement (t.Mark mark.Semicolon) = refl
calm-begin_statement (t.Key key.If) = refl
calm-begin_statement (t.Key key.While) = refl
calm-begin_statement (t.Key key.Do) = refl
calm-begin_statement (t.Key key.For) = refl
calm-begin_statement (t.Key key.Switch) = refl
calm-begin_statement (t.Key key.Break) = refl
calm-begin_statement (t.Key key.Continue) = refl
calm-begin_statement (t.Key key.Return) = refl
calm-begin_statement _ = refl

pub calm-begin_switch_item : (token : Terminal) → calm_begin (begin_switch_item token) ≡ true
calm-begin_switch_item (t.Key key.Case) = refl
calm-begin_switch_item (t.Key key.Default) = refl
calm-begin_switch_item token = calm-begin_statement token

pub calm-begin_body : (token : Terminal) → calm_begin (begin_body token) ≡ true
calm-begin_body (t.Mark mark.OpenBrace) = refl
calm-begin_body _ = refl

pub calm-begin_initialiser : (scope : Scope) (token : Terminal) → calm_begin (begin_initialiser scope token) ≡ true
calm-begin_initialiser scope (t.Mark mark.OpenBrace) = refl
calm-begin_initialiser scope token = calm-begin_expression scope 2 token

pub calm-begin_entry : (token : Terminal) → calm_begin (begin_entry token) ≡ true
calm-begin_entry (t.Mark mark.OpenBracket) = refl
calm-begin_entry (t.Mark mark.Dot) = refl
calm-begin_entry _ = refl

pub calm-begin_constant : (token : Terminal) → calm_begin (begin_constant token) ≡ true
calm-begin_constant (t.Name x) = refl
calm-begin_constant _ = refl

pub calm-begin : (scope : Scope) (c : Class) (token : Terminal) → calm_begin (begin scope c token) ≡ true
calm-begin scope (class.Expression l) token = calm-begin_expression scope l token
calm-begin scope (class.Declarator n l) token = calm-begin_declarator scope n token
calm-begin scope class.Initialiser token = calm-begin_initialiser scope token
calm-begin scope class.Entry token = calm-begin_entry token
calm-begin scope class.Param token = calm-begin_spec scope context.Param token
calm-begin scope class.OnlyParam token = calm-begin_spec scope context.Param token
calm-begin scope class.Type token = calm-begin_spec scope context.Type token
calm-begin scope class.Member token = calm-begin_spec scope context.Member token
calm-begin scope class.Constant token = calm-begin_constant token
calm-begin scope class.FileItem token = calm-begin_spec scope context.File token
calm-begin scope class.HeadItem token = calm-begin_spec scope context.Head token
calm-begin scope class.BlockItem token = calm-or_else (begin_spec scope context.Local token) (begin_statement token) (calm-begin_spec scope context.Local token) (calm-begin_statement token)
calm-begin scope (class.Statement may) token = calm-begin_statement token
calm-begin scope class.SwitchItem token = calm-begin_switch_item token
calm-begin scope class.Body token = calm-begin_body token

-- what a token makes of the node before it

pub calm-join_if : (b : Bool) (j : Join) → calm_join j ≡ true → calm_join (join_if b j) ≡ true
calm-join_if true j e = e
calm-join_if false j e = refl

abbrev pub calm_infix : Infix → Bool
calm_infix (Binds l k j) = calm_join j
calm_infix No = true

pub calm-binding : (p : Punctuator) → calm_infix (binding p) ≡ true
calm-binding mark.OpenParen = refl
calm-binding _ = refl

pub calm-join_at : (l k : ℕ) (i : Infix) → calm_infix i ≡ true → calm_join (join_at l k i) ≡ true
calm-join_at l k (Binds level left j) e = calm-join_if (nat_le l level && nat_le left k) j e
calm-join_at l k No e = refl

pub calm-lengthen : (n : Tree) (x : List ℕ) → calm_join (lengthen n x) ≡ true
calm-lengthen (node (kind.Text pieces) at parts) x = refl
calm-lengthen (node _ at parts) x = refl

pub calm-join_expression : (l : ℕ) (n : Tree) (token : Terminal) → calm_join (join_expression l n token) ≡ true
calm-join_expression l n (t.Mark p) = calm-join_at l (level_of n) (binding p) (calm-binding p)
calm-join_expression l n (t.Text x) = calm-lengthen n x
calm-join_expression l n _ = refl

pub calm-join_declarator : (n : Tree) (token : Terminal) → calm_join (join_declarator n token) ≡ true
calm-join_declarator n (t.Mark mark.OpenBracket) = calm-join_if (nat_le 16 (direct_of n)) (Joins (head.BracketsStart true)) refl
calm-join_declarator n (t.Mark mark.OpenParen) = calm-join_if (nat_le 16 (direct_of n)) (Joins (head.ParamsStart true)) refl
calm-join_declarator n _ = refl

pub calm-join : (c : Class) (n : Tree) (token : Terminal) → calm_join (join c n token) ≡ true
calm-join (class.Expression l) n token = calm-join_expression l n token
calm-join (class.Declarator m l) n token = calm-join_declarator n token
calm-join class.Initialiser n token = calm-join_expression 2 n token
calm-join _ n token = refl
