-- Tokens of which one is wanted.
use Rattle.std.specs.Prelude.{Bool, true, false, List, [], ◌∷◌, Option, Some, None}
use Rattle.p9_grammar.specs.declared.terminal.Keyword.TheVariants as key
use Rattle.p9_grammar.specs.declared.head.Head.{Head}
use Rattle.p9_grammar.specs.declared.head.Head.TheVariants as head
use Rattle.p9_lang.specs.declared.tree.SpecWord.{SpecWord}
use Rattle.p9_lang.specs.declared.tree.SpecWord.TheVariants as word
use Rattle.p9_grammar.specs.declared.terminal.Punctuator.TheVariants as mark
use Rattle.p9_grammar.specs.declared.terminal.Terminal.{Terminal}
use Rattle.p9_grammar.specs.declared.terminal.Terminal.TheVariants as t

abbrev pub is_comma : Terminal → Bool
is_comma (t.Mark mark.Comma) = true
is_comma _ = false

abbrev pub is_open_paren : Terminal → Bool
is_open_paren (t.Mark mark.OpenParen) = true
is_open_paren _ = false

abbrev pub is_semicolon : Terminal → Bool
is_semicolon (t.Mark mark.Semicolon) = true
is_semicolon _ = false

abbrev pub is_colon : Terminal → Bool
is_colon (t.Mark mark.Colon) = true
is_colon _ = false

abbrev pub is_close_brace : Terminal → Bool
is_close_brace (t.Mark mark.CloseBrace) = true
is_close_brace _ = false

abbrev pub is_close_bracket : Terminal → Bool
is_close_bracket (t.Mark mark.CloseBracket) = true
is_close_bracket _ = false

abbrev pub is_end : Terminal → Bool
is_end t.End = true
is_end _ = false

abbrev pub is_open_brace : Terminal → Bool
is_open_brace (t.Mark mark.OpenBrace) = true
is_open_brace _ = false

-- the label that begins with a token
abbrev pub label_of : Terminal → Option Head
label_of (t.Key key.Case) = Some head.CaseOf
label_of (t.Key key.Default) = Some head.DefaultEnd
label_of _ = None

abbrev pub is_void : SpecWord → Bool
is_void word.Void = true
is_void _ = false

-- whether the word `void` is the only one
abbrev pub is_lone_void : List SpecWord → Bool
is_lone_void (w ∷ []) = is_void w
is_lone_void _ = false
