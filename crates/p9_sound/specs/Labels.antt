-- The labels of nodes while a file is typed: most stay as they were given.
use Rattle.std.specs.Prelude.{◌≡◌, ◌<◌, ℕ, Bool, true, false, List, length, slice_get, Some, Ok}
use Rattle.p9_lang.specs.declared.tree.Kind.{Kind}
use Rattle.p9_lang.specs.declared.tree.Kind.TheVariants as kind
use Rattle.p9_lang.specs.Trees.{Syntax}
use Rattle.p9_lang.specs.Scopes.{Known, next_node}
use Rattle.p9_lang.specs.Parts.{Context, Part}
use Rattle.p9_lang.specs.Typing.{judge}

-- A declarator's nodes have their types, and a name its meaning, once the declarator is whole; an
-- enumeration constant has its value once the node round it takes it.
abbrev pub is_open : Kind → Bool
is_open (kind.DeclName x) = true
is_open (kind.Star volatiles) = true
is_open (kind.Brackets inner sized) = true
is_open (kind.Params inner void_word) = true
is_open kind.DeclParens = true
is_open (kind.EnumConst x valued) = true
is_open k = false

-- the node with this number, among nodes of these kinds, is none of those
pub record IsShut (kinds : List Kind) (n : ℕ) : Type 0 where
  pub found : Kind
  pub there : slice_get kinds n ≡ Some found
  pub shut : is_open found ≡ false

pub record LabelsAreKept (kinds : List Kind) (s r : Known) : Type 0 where
  pub types : (n : ℕ) → IsShut kinds n → slice_get r.types n ≡ slice_get s.types n
  pub means : (n : ℕ) → IsShut kinds n → slice_get r.means n ≡ slice_get s.means n

-- as many nodes of these kinds are known
pub record AreKnown (kinds : List Kind) (s : Known) : Type 0 where
  pub types : length s.types ≡ length kinds
  pub means : length s.means ≡ length kinds

abbrev pub LabelsStay : Type 0
LabelsStay =
    (kinds : List Kind) (t : Syntax) (c : Context) (s : Known) (r : Part × Known)
    → AreKnown kinds s → judge t c s ≡ Ok r → LabelsAreKept kinds s r.1

-- all nodes before the first of this one keep what they have
abbrev pub EarlierLabelsStay : Type 0
EarlierLabelsStay =
    (t : Syntax) (c : Context) (s : Known) (r : Part × Known) → length s.means ≡ length s.types → judge t c s ≡ Ok r
    → (n : ℕ) → n < next_node s → (slice_get r.1.types n ≡ slice_get s.types n) × (slice_get r.1.means n ≡ slice_get s.means n)
