-- When modules are loaded, and when they are refused: those that do not join come first, then too many data, then too
-- long a text.
use Rattle.std.specs.Prelude.{ℕ, ◌≡◌, ◌<◌, ◌≤◌, List}
use Rattle.p9_abs.specs.declared.modules.AModule.{AModule}
use Rattle.p9_abs.specs.BuiltIn.{linked}
use Rattle.p9_abs.specs.Programs.{routines_of}
use Rattle.p9_names.specs.declared.table.LinkFault.{LinkFault}
use Rattle.p9_names.specs.Answers.{Joins, IsRefusal as IsLinkRefusal}
use Rattle.p9_place.specs.Places.{object_bytes}
use Rattle.p9_text.specs.Weights.{text_weight, text_limit}
use Rattle.p9_load.specs.declared.fault.LoadFault.{LoadFault}

-- the most bytes of data and commons: 16 MiB
abbrev pub data_limit : ℕ
data_limit = 16777216

-- the modules with the built-in one join, and neither their data nor their text are too large
pub record AreLoadable (modules : List AModule) : Type 0 where
  pub joins : Joins (linked modules)
  pub data_fits : object_bytes (linked modules) ≤ data_limit
  pub text_fits : text_weight (routines_of modules) ≤ text_limit

-- each refusal with its cause; those before it in the order do not hold
abbrev pub IsLoadRefusal : List AModule → LoadFault → Type 0
IsLoadRefusal ms (LoadFault.Twice name i j) = IsLinkRefusal (linked ms) (LinkFault.Twice name i j)
IsLoadRefusal ms LoadFault.NoMain = IsLinkRefusal (linked ms) LinkFault.NoMain
IsLoadRefusal ms (LoadFault.MainType i) = IsLinkRefusal (linked ms) (LinkFault.MainType i)
IsLoadRefusal ms (LoadFault.Unresolved name i) = IsLinkRefusal (linked ms) (LinkFault.Unresolved name i)
IsLoadRefusal ms (LoadFault.Disagree name i j) = IsLinkRefusal (linked ms) (LinkFault.Disagree name i j)
IsLoadRefusal ms (LoadFault.DataTooLarge n) = Joins (linked ms) × (n ≡ object_bytes (linked ms)) × (data_limit < n)
IsLoadRefusal ms (LoadFault.TextTooLarge n) =
    Joins (linked ms) × (object_bytes (linked ms) ≤ data_limit) × (n ≡ text_weight (routines_of ms)) × (text_limit < n)
IsLoadRefusal ms LoadFault.Memory = Unit {0}
