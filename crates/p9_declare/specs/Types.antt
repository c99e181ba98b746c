-- Types and declarations, by what is asked of them.
use Rattle.std.specs.Prelude.{zero, suc, Bool, true, false, not, ◌&&◌, if◌then◌else◌}
use Rattle.p9_lang.specs.Types.{TypeTree, Array}
use Rattle.p9_lang.specs.Scopes.{Declared}
use Rattle.p9_lang.specs.Declarators.{Declaring, is_typedef, is_static, is_type_name, is_outer, is_filled, same_flags}

-- an array whose length may still be given
abbrev pub lacks_length : TypeTree → Bool
lacks_length (Array element zero) = true
lacks_length type = false

-- whether a name may be declared again, if its types are equal
abbrev pub is_again : Declaring → Declared → Bool
is_again d old =
    if is_typedef d.storage then is_type_name old.means
    else (d.is_at_file && is_outer old.means)
    && (same_flags old.is_static (is_static d.storage) && not (old.is_filled && is_filled d))
