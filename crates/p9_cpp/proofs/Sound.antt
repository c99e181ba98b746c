-- The reader keeps its flags right.
use Rattle.std.proofs.Common.{◌≡◌, ℕ, Bool, true, false, List, [], ◌∷◌, Some, sym, ap, subst, ◌∙◌}
use Rattle.p9_cpp.specs.declared.uses.Known.{Known}
use Rattle.p9_cpp.specs.declared.frame.Frame.{Frame}
use Rattle.p9_cpp.specs.declared.frame.Frame.TheVariants as frames
use Rattle.p9_cpp.specs.declared.frame.Rest.{Rest}
use Rattle.p9_cpp.specs.Macros.{Table}
use Rattle.p9_cpp.specs.Reading.{hidden_of, with_flag, IsApart, IsNew, IsSound, flags_of}
use Rattle.p9_cpp.proofs.Flags.{flag_set, flag_cleared}

pub sound_set : (table : Table) (fs stack : List Frame) (flags flags' : List Bool) (known : Known) (rest : Rest) → IsApart table → IsSound table fs flags → IsNew table fs known → stack ≡ frames.Body known rest ∷ fs → flags' ≡ with_flag flags known.index true → IsSound table stack flags'
sound_set table fs stack flags flags' known rest apart sound new pushed set =
    subst (λ x. IsSound table x flags') (sym pushed)
    (set ∙ ap (λ x. with_flag x known.index true) sound.0 ∙ flag_set table (hidden_of fs) known.index known.name.now (Some known.definition.now) apart new.0, (new, sound.1))

pub sound_cleared : (table : Table) (fs stack : List Frame) (flags flags' : List Bool) (known : Known) (rest : Rest) → IsApart table → IsSound table stack flags → stack ≡ frames.Body known rest ∷ fs → flags' ≡ with_flag flags known.index false → IsSound table fs flags'
sound_cleared table fs stack flags flags' known rest apart sound popped cleared =
    let whole : IsSound table (frames.Body known rest ∷ fs) flags = subst (λ x. IsSound table x flags) popped sound in
    (cleared ∙ ap (λ x. with_flag x known.index false) whole.0 ∙ flag_cleared table (hidden_of fs) known.index known.name.now (Some known.definition.now) apart whole.1.0.0 whole.1.0.1, whole.1.1)
