-- The tokens of the lexer end in the end.
use Rattle.std.proofs.Common.{◌≡◌, ℕ, Bool, true, List, [], ◌∷◌, refl, ap, ◌∙◌}
use Rattle.p9_lex.specs.declared.token.Dialect.{Dialect}
use Rattle.p9_lex.specs.declared.token.Token.{Token}
use Rattle.p9_lex.specs.declared.token.TokenKind.{TokenKind}
use Rattle.p9_lex.specs.declared.token.TokenKind.TheVariants as kinds
use Rattle.p9_lex.specs.Made.{AreTokens, IfEnd, is_line_end}
use Rattle.p9_grammar.specs.declared.terminal.Terminal.TheVariants.{End}
use Rattle.p9_terminal.specs.Terminals.{terminal_of, terminals}
use Rattle.p9_parse.specs.Units.{EndsInEnd}

one_more : (t : Token) (ts : List Token) → EndsInEnd ts → EndsInEnd (t ∷ ts)
one_more t ts h = (terminal_of t.kind ∷ h.0, ap (λ us. terminal_of t.kind ∷ us) h.1)

alone : (t : Token) (ts : List Token) → t.kind ≡ kinds.End → ts ≡ [] → EndsInEnd (t ∷ ts)
alone t ts e f = ([], ap (λ k. terminal_of k ∷ terminals ts) e ∙ ap (λ us. End ∷ terminals us) f)

by_kind : (k : TokenKind) (t : Token) (ts : List Token) (P : Type 0) → t.kind ≡ k → IfEnd k (ts ≡ []) P → (P → EndsInEnd ts) → EndsInEnd (t ∷ ts)
by_kind kinds.End t ts P e h g = alone t ts e h
by_kind _ t ts P e h g = one_more t ts (g h)

pub lexed_ends : (d : Dialect) (place : ℕ) (first joined : Bool) (rest : List ℕ) (ts : List Token) → AreTokens d place first joined rest ts → EndsInEnd ts
lexed_ends d place first joined rest [] h = absurd h
lexed_ends d place first joined rest (t ∷ ts) h =
    by_kind t.kind t ts (AreTokens d t.end (is_line_end t.kind) true h.0 ts) refl h.2 (lexed_ends d t.end (is_line_end t.kind) true h.0 ts)
