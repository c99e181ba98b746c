-- Where the end stands in tokens.
use Rattle.std.specs.Prelude.{◌≡◌, ℕ, Bool, true, false, List, [], ◌∷◌, ◌++◌, ⊤}
use Rattle.p9_grammar.specs.declared.terminal.Terminal.{Terminal}
use Rattle.p9_grammar.specs.declared.terminal.Terminal.TheVariants.{End}
use Rattle.p9_grammar.specs.Scopes.{Scope}
use Rattle.p9_grammar.specs.Trees.{Tree, Trees}
use Rattle.p9_grammar.specs.Promise.{file_tokens}
use Rattle.p9_prefix.specs.declared.phrase.Phrase.{Phrase}
use Rattle.p9_prefix.specs.Goals.{IsPhrase}

abbrev pub is_end : Terminal → Bool
is_end End = true
is_end _ = false

-- the end isn't among them
abbrev pub Endless : List Terminal → Type 0
Endless [] = ⊤
Endless (x ∷ xs) = (is_end x ≡ false) × Endless xs

-- Nothing stands behind the first end of a file, be it well formed or not.
abbrev pub EndsOnce : Type 0
EndsOnce = (items : Trees) (front rest : List Terminal) → file_tokens items ≡ front ++ End ∷ rest → rest ≡ []

-- No end stands in an expression or a declaration.
abbrev pub PhrasesAreEndless : Type 0
PhrasesAreEndless = (p : Phrase) (scope : Scope) (at : ℕ) (n : Tree) (ts : List Terminal) → IsPhrase p scope at n ts → Endless ts
