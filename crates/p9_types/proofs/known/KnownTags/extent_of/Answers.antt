use Rattle.std.proofs.Common.{None, sym, ap, subst, ◌∙◌}
use Rattle.p9_lang.specs.Types.{type_of}
use Rattle.p9_lang.specs.Layout.{on_some, repeated}
use Rattle.p9_types.specs.Capping.{Alike}
use Rattle.p9_types.specs.Told.{told_option, known_extent}
use Rattle.p9_types.proofs.AlikeExtents.{repeated_whole}
use Rattle.p9_types.proofs.known.KnownTags.extent_of.Goals as goal

pub returns-in-Some : goal.returns-in-Some
returns-in-Some c =
    repeated_whole (known_extent c.args.self.now.map.entries) (type_of c.args.ty.now) (type_of c.innermost_elements-elements.result.ty.now) c.innermost_elements-elements.result.count
    (told_option c.extent_of_element.result) (told_option c.repeated.result)
    c.innermost_elements-elements.ensures.ty c.innermost_elements-elements.ensures.count c.extent_of_element.ensures
    (subst (λ o. Alike (told_option c.repeated.result) (on_some (told_option o) (repeated c.innermost_elements-elements.result.count))) (sym c.in-Some.is) c.repeated.ensures)

pub returns-in-None : goal.returns-in-None
returns-in-None c =
    repeated_whole (known_extent c.args.self.now.map.entries) (type_of c.args.ty.now) (type_of c.innermost_elements-elements.result.ty.now) c.innermost_elements-elements.result.count
    None None
    c.innermost_elements-elements.ensures.ty c.innermost_elements-elements.ensures.count (sym (ap told_option c.in-None.is) ∙ c.extent_of_element.ensures) tt
