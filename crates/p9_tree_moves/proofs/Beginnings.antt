-- How parts begin whose first token tells.
use Rattle.std.proofs.Common.{◌≡◌, ℕ, true, false, [], Some, None, refl, ap}
use Rattle.p9_grammar.specs.declared.terminal.Punctuator.{Punctuator}
use Rattle.p9_grammar.specs.declared.terminal.Punctuator.TheVariants as mark
use Rattle.p9_grammar.specs.declared.terminal.Keyword.TheVariants as key
use Rattle.p9_grammar.specs.declared.terminal.Terminal.{Terminal}
use Rattle.p9_grammar.specs.declared.terminal.Terminal.TheVariants as t
use Rattle.p9_grammar.specs.declared.head.Head.{Head}
use Rattle.p9_grammar.specs.declared.head.Head.TheVariants as head
use Rattle.p9_grammar.specs.Scopes.{Scope}
use Rattle.p9_grammar.specs.Machine.{Pushes, begin_expression, begin_switch_item, begin_statement, begin_initialiser}
use Rattle.p9_tree_moves.specs.Marks.{is_open_brace, label_of}

pub mark_begins : (scope : Scope) (l : ℕ) (p : Punctuator) → begin_expression scope l (t.Mark p) ≡ begin_expression [] l (t.Mark p)
mark_begins scope l _ = refl

pub label_begins : (token : Terminal) (h : Head) → Some h ≡ label_of token → begin_switch_item token ≡ Pushes h
label_begins (t.Key key.Case) h e = ap Pushes (cc)
label_begins (t.Key key.Default) h e = ap Pushes (cc)
label_begins _ h e = absurd (cc)

pub statement_begins : (token : Terminal) → None ≡ label_of token → begin_switch_item token ≡ begin_statement token
statement_begins (t.Key key.Case) e = absurd (cc)
statement_begins (t.Key key.Default) e = absurd (cc)
statement_begins _ e = refl

pub braces_begin : (scope : Scope) (token : Terminal) → true ≡ is_open_brace token → begin_initialiser scope token ≡ Pushes head.ListStart
braces_begin scope (t.Mark mark.OpenBrace) e = refl
braces_begin scope _ e = absurd (cc)

pub value_begins : (scope : Scope) (token : Terminal) → false ≡ is_open_brace token → begin_initialiser scope token ≡ begin_expression scope 2 token
value_begins scope (t.Mark mark.OpenBrace) e = absurd (cc)
value_begins scope _ e = refl
