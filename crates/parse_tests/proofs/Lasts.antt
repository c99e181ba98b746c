-- Tokens whose last is the end.
use Rattle.std.proofs.Common.{◌≡◌, List, [], ◌∷◌, ◌++◌, ap, ◌∙◌}
use Rattle.std.proofs.lemmas.List.{map-append}
use Rattle.p9_lex.specs.declared.token.Token.{Token}
use Rattle.p9_lex.specs.declared.token.TokenKind.TheVariants as kinds
use Rattle.p9_grammar.specs.declared.terminal.Terminal.TheVariants.{End}
use Rattle.p9_terminal.specs.Terminals.{terminal_of, terminals}
use Rattle.p9_parse.specs.Units.{EndsInEnd}

pub ends_in : (ts front : List Token) (t : Token) → ts ≡ front ++ (t ∷ []) → t.kind ≡ kinds.End → EndsInEnd ts
ends_in ts front t e f =
    (terminals front, ap terminals e ∙ map-append (λ (t : Token). terminal_of t.kind) front (t ∷ []) ∙ ap (λ k. terminals front ++ (terminal_of k ∷ [])) f)
