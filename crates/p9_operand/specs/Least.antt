-- Of the rules that a node breaks the one that is told: the first with the least number.
use Rattle.std.specs.Prelude.{ℕ, List, [], ◌∷◌, Option, Some, None, Result, Ok, Err}
use Rattle.p9_lang.specs.Rules.{Rule, Broken, at_node, earlier, least_of, lesser}

-- of a list of rules; none of an empty one
abbrev pub least : List Rule → Option Rule
least [] = None
least (rule ∷ others) = Some (least_of rule others)

-- of what is told of one list and of another behind it
abbrev pub least_of_both : Option Rule → Option Rule → Option Rule
least_of_both None b = b
least_of_both (Some a) None = Some a
least_of_both (Some a) (Some b) = Some (lesser a b)

-- the value, unless some rule is broken
abbrev pub unless_least : {A : Type 0} → Option Rule → A → Result A Rule
unless_least None x = Ok x
unless_least (Some rule) x = Err rule

-- likewise, with the node's number
abbrev pub unless_at : {A : Type 0} → (node : ℕ) → Option Rule → A → Result A Broken
unless_at node None x = Ok x
unless_at node (Some rule) x = Err (at_node node rule)

-- a rule that an earlier node breaks, or this one
abbrev pub earlier_of : Broken → (node : ℕ) → Option Rule → Broken
earlier_of broken node None = broken
earlier_of broken node (Some rule) = earlier broken (at_node node rule)
