-- Trees for examples. Their tokens play no part, so each is the first.
use Rattle.std.specs.Prelude.{ℕ, Bool, false, List}
use Rattle.p9_lang.specs.declared.tree.CBinary.{CBinary}
use Rattle.p9_lang.specs.declared.tree.SpecWord.{SpecWord}
use Rattle.p9_lang.specs.declared.tree.Kind.{Kind}
use Rattle.p9_lang.specs.declared.tree.Kind.TheVariants as kind
use Rattle.p9_lang.specs.Trees.{node, none, Syntax, row}

abbrev pub leaf : Kind → Syntax
leaf k = node k 0 none

abbrev pub tree : Kind → List Syntax → Syntax
tree k parts = node k 0 (row parts)

abbrev pub declaration : List SpecWord → (inits : List Bool) → List Syntax → Syntax
declaration words inits parts = tree (kind.Declaration (record { words = words }) inits) parts

abbrev pub function : List SpecWord → List Syntax → Syntax
function words parts = tree (kind.Function (record { words = words })) parts

abbrev pub member : List SpecWord → List Syntax → Syntax
member words parts = tree (kind.Member (record { words = words })) parts

abbrev pub parameter : List SpecWord → List Syntax → Syntax
parameter words parts = tree (kind.Param (record { words = words })) parts

abbrev pub named_type : List SpecWord → List Syntax → Syntax
named_type words parts = tree (kind.NamedType (record { words = words })) parts

-- a name that is declared, and one that is used
abbrev pub named : List ℕ → Syntax
named x = leaf (kind.DeclName x)

abbrev pub used : List ℕ → Syntax
used x = leaf (kind.Name x)

abbrev pub number : ℕ → Syntax
number n = leaf (kind.Number n false false)

abbrev pub text : List (List ℕ) → Syntax
text bytes = leaf (kind.Text bytes)

abbrev pub binary : CBinary → List Syntax → Syntax
binary op parts = tree (kind.Binary op) parts
