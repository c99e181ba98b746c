-- Parts of a text that is written while tags are met: what a part writes, and what it knows behind
-- it, depends on the tags met before it.
use Rattle.std.specs.Prelude.{ℕ, List, ◌++◌, Option, Some, None}

-- bytes, and the names of the tags met by the time they are written, in the order of their meeting
pub record Written : Type 0 where
  pub text : List ℕ
  pub met : List (List ℕ)

-- what is written by the tags met before; none where structures lead into one another too deep
abbrev pub Part : Type 0
Part = List (List ℕ) → Option Written

-- bytes that meet no tag
abbrev pub writes : List ℕ → Part
writes xs met = Some (record { text = xs; met = met })

-- the same with bytes before it
abbrev pub behind : List ℕ → Option Written → Option Written
behind xs None = None
behind xs (Some w) = Some (record { text = xs ++ w.text; met = w.met })

abbrev pub continued : Option Written → Part → Option Written
continued None next = None
continued (Some w) next = behind w.text (next w.met)

-- `a ⨟ b` is a, and then b where a ends
infixr 35 ◌⨟◌
abbrev pub ◌⨟◌ : Part → Part → Part
(a ⨟ b) met = continued (a met) b
