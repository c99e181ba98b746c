-- Which two records of one global name do not go together, and what a function main may be.
use Rattle.std.specs.Prelude.{◌==◌, ℕ, Bool, true, false, not, ◌&&◌, ◌||◌, List, [], ◌∷◌, Option, Some, None, codes, bytes_eq}
use Rattle.p9_abs.specs.declared.modules.Body.{Body}
use Rattle.p9_abs.specs.declared.modules.Body.TheVariants.{Text, Data, Common}
use Rattle.p9_abs.specs.declared.modules.Symbol.{Symbol}
use Rattle.p9_abs.specs.Modules.{size_of, is_definition, is_text, is_full}
use Rattle.p9_names.specs.declared.rules.Rule.{Rule}
use Rattle.p9_names.specs.declared.rules.Rule.TheVariants.{Once, Agreement}

-- a name is defined twice: both by text or data, or one by text and one by common
abbrev pub clash : Body → Body → Bool
clash (Text _) other = is_definition other
clash (Data _) other = is_full other
clash (Common _) other = is_text other
clash _ _ = false

abbrev pub is_empty : List ℕ → Bool
is_empty [] = true
is_empty (_ ∷ _) = false

-- both are given, and differ
abbrev pub signatures_differ : List ℕ → List ℕ → Bool
signatures_differ a b = not (is_empty a) && (not (is_empty b) && not (bytes_eq a b))

-- both are given, and differ
abbrev pub sizes_differ : Option ℕ → Option ℕ → Bool
sizes_differ None _ = false
sizes_differ (Some a) None = false
sizes_differ (Some a) (Some b) = not (a == b)

-- two records disagree in their signatures, or in their sizes as data or common
abbrev pub differ : Symbol → Symbol → Bool
differ a b = signatures_differ a.sig b.sig || sizes_differ (size_of a.body) (size_of b.body)

-- each rule on two records of one name, and when it is broken
abbrev pub breaks : Rule → Symbol → Symbol → Bool
breaks Once a b = clash a.body b.body
breaks Agreement a b = differ a b

abbrev pub main_name : List ℕ
main_name = codes "main"

-- a function without a signature, or of one of the two types that main may have
abbrev pub is_main : Symbol → Bool
is_main s =
    is_text s.body && (is_empty s.sig || (bytes_eq s.sig (codes "()v") || bytes_eq s.sig (codes "(i;**c;)v")))
