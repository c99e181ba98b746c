-- Texts and block statics.
use Rattle.std.specs.Prelude.{List, [], ◌∷◌, Option, Result}
use Rattle.p9_lang.specs.Types.{TypeTree, Meant, Nothing, Outer, Static, Auto, EnumValue, TypeName}
use Rattle.p9_lang.specs.Initialisers.{Write, BrokenItem}
use Rattle.p9_lang.specs.Modules.{Label}
use Rattle.p9_lang.specs.Symbols.{LocalObject}

-- the text or block static that a meaning is
abbrev pub object_of : Option (Result (List Write) BrokenItem) → TypeTree → Meant → List LocalObject
object_of first type (Static number) = record { number = number; type = type; first = first } ∷ []
object_of first type Nothing = []
object_of first type (Outer name) = []
object_of first type (Auto number) = []
object_of first type (EnumValue value) = []
object_of first type (TypeName other) = []

abbrev pub meant_object : Option (Result (List Write) BrokenItem) → Label → List LocalObject
meant_object first label = object_of first label.type label.means
