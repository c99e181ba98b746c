-- Trees written in front of other tokens.
use Rattle.std.proofs.Common.{◌≡◌, ℕ, suc, ◌+◌, List, [], ◌∷◌, ◌++◌, length, refl, sym, ap, ◌∙◌, arith, append_assoc, length-append}
use Rattle.p9_grammar.specs.declared.terminal.Terminal.{Terminal}
use Rattle.p9_grammar.specs.Trees.{Tree, node, Trees, none, more, count}
use Rattle.p9_grammar.specs.Symbols.{Symbol, Write, Part, Enter, right_side}
use Rattle.p9_grammar.specs.Grammar.{tokens, write, past, past_in}

abbrev mutual
  pub spell : Tree → List Terminal → List Terminal
  spell (node kind at parts) rest = spells (right_side kind (count parts)) parts rest

  pub spells : List Symbol → Trees → List Terminal → List Terminal
  spells [] parts rest = rest
  spells (Write t ∷ symbols) parts rest = t ∷ spells symbols parts rest
  spells (Enter ∷ symbols) parts rest = spells symbols parts rest
  spells (Part slot role ∷ symbols) none rest = spells symbols none rest
  spells (Part slot role ∷ symbols) (more n ns) rest = spell n (spells symbols ns rest)

mutual
  pub spell-tokens : (n : Tree) (rest : List Terminal) → spell n rest ≡ tokens n ++ rest
  spell-tokens (node kind at parts) rest = spells-write (right_side kind (count parts)) parts rest

  pub spells-write : (symbols : List Symbol) (parts : Trees) (rest : List Terminal) → spells symbols parts rest ≡ write symbols parts ++ rest
  spells-write [] parts rest = refl
  spells-write (Write t ∷ symbols) parts rest = ap (λ ts. t ∷ ts) (spells-write symbols parts rest)
  spells-write (Enter ∷ symbols) parts rest = spells-write symbols parts rest
  spells-write (Part slot role ∷ symbols) none rest = spells-write symbols none rest
  spells-write (Part slot role ∷ symbols) (more n ns) rest =
      spell-tokens n (spells symbols ns rest) ∙ ap (λ ts. tokens n ++ ts) (spells-write symbols ns rest)
      ∙ sym (append_assoc (tokens n) (write symbols ns) rest)

-- the place behind a tree is as many places further as the tree has tokens
mutual
  pub past-length : (n : Tree) (at : ℕ) → past n at ≡ at + length (tokens n)
  past-length (node kind token parts) at = past_in-length (right_side kind (count parts)) parts at

  pub past_in-length : (symbols : List Symbol) (parts : Trees) (at : ℕ) → past_in symbols parts at ≡ at + length (write symbols parts)
  past_in-length [] parts at = omega arith
  past_in-length (Write t ∷ symbols) parts at = omega (arith, past_in-length symbols parts (suc at))
  past_in-length (Enter ∷ symbols) parts at = past_in-length symbols parts at
  past_in-length (Part slot role ∷ symbols) none at = past_in-length symbols none at
  past_in-length (Part slot role ∷ symbols) (more n ns) at =
      omega (arith, past_in-length symbols ns (past n at), past-length n at, length-append (tokens n) (write symbols ns))
