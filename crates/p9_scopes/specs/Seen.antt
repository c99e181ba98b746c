-- What the program holds, as the plain data that the definitions of typing speak of.
use Rattle.std.specs.Prelude.{ℕ, List, map, Option}
use Rattle.std.specs.Option.{option_map}
use Rattle.p9_lang.specs.Types.{type_of, meant}
use Rattle.p9_lang.specs.Scopes as scopes
use Rattle.p9_scopes.specs.declared.declared.Declared.{Declared}
use Rattle.p9_scopes.specs.declared.tag.Keyword.{Keyword}
use Rattle.p9_scopes.specs.declared.tag.Keyword.TheVariants as keyword
use Rattle.p9_scopes.specs.declared.tag.TagName.{TagName}

abbrev pub declared_of : Declared → scopes.Declared
declared_of d = record { name = d.name; type = type_of d.ty; means = meant d.means; is_static = d.is_static; is_filled = d.is_filled }

abbrev pub level_of : List Declared → List scopes.Declared
level_of ds = map declared_of ds

abbrev pub levels_of : List (List Declared) → List (List scopes.Declared)
levels_of levels = map level_of levels

abbrev pub declared_in : Option Declared → Option scopes.Declared
declared_in d = option_map declared_of d

abbrev pub keyword_of : Keyword → scopes.Keyword
keyword_of keyword.Struct = scopes.Struct
keyword_of keyword.Union = scopes.Union
keyword_of keyword.Enum = scopes.Enum

abbrev pub tag_name_of : TagName → scopes.TagName
tag_name_of t = record { name = t.name; keyword = keyword_of t.keyword; number = t.number; has_body = t.has_body }

abbrev pub tag_level_of : List TagName → List scopes.TagName
tag_level_of ts = map tag_name_of ts

abbrev pub tag_levels_of : List (List TagName) → List (List scopes.TagName)
tag_levels_of levels = map tag_level_of levels

abbrev pub tag_in : Option TagName → Option scopes.TagName
tag_in t = option_map tag_name_of t

-- the names that a level declares
abbrev pub names_of : List Declared → List (List ℕ)
names_of ds = map (λ d. d.name) ds

abbrev pub tag_names_of : List TagName → List (List ℕ)
tag_names_of ts = map (λ t. t.name) ts
