-- The structures that an object of a type contains.
use Rattle.std.specs.Prelude.{ℕ, List, [], ◌∷◌, ◌++◌, Option, Some, None}
use Rattle.p9_lang.specs.Types.{TypeTree, Array, Tagged, MemberTree, TagTree}

-- at most one directly
abbrev pub inner_of : TypeTree → List ℕ
inner_of (Array element n) = inner_of element
inner_of (Tagged i) = i ∷ []
inner_of type = []

abbrev pub inner_of_members : List MemberTree → List ℕ
inner_of_members [] = []
inner_of_members (m ∷ ms) = inner_of m.type ++ inner_of_members ms

abbrev pub inner_of_body : Option (List MemberTree) → List ℕ
inner_of_body None = []
inner_of_body (Some members) = inner_of_members members

abbrev pub inner_tags : Option TagTree → List ℕ
inner_tags None = []
inner_tags (Some tag) = inner_of_body tag.members
