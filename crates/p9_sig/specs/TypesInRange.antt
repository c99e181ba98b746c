-- Types whose structures there are.
use Rattle.std.specs.Prelude.{◌<◌, length}
use Rattle.p9_lang.specs.Types.{TypeTree, Tags}
use Rattle.p9_lang.specs.TagRules.{Mentioned}

-- each structure that the type names is one of the list
abbrev pub IsOver : Tags → TypeTree → Type 0
IsOver tags type = Mentioned (λ i. i < length tags) type
