-- Conversions of a value, of which a type and whether it is the null constant are known.
use Rattle.std.specs.Prelude.{Bool, if◌then◌else◌}
use Rattle.p9_lang.specs.Types.{TypeTree, Tags}
use Rattle.p9_lang.specs.Layout.{size_of}
use Rattle.p9_lang.specs.Conversions.{is_structure, conversion}
use Rattle.p9_tree.specs.Trees.{Tree, Store, Copy}
use Rattle.p9_lower.specs.Operators.{width_of, stored_tree, converted_tree}

-- as a value of a type
abbrev pub passed_from : Tags → (from : TypeTree) → (is_null : Bool) → (to : TypeTree) → Tree → Tree
passed_from tags from is_null to tree = converted_tree (conversion tags from to is_null) to tree

-- as what an lvalue of a type, by its address, holds from then on
abbrev pub assigned_from : Tags → (from : TypeTree) → (is_null : Bool) → TypeTree → (to value : Tree) → Tree
assigned_from tags from is_null type to value =
    if is_structure type then Copy (size_of tags type) to value
    else Store (width_of type) to (stored_tree (conversion tags from type is_null) value)
