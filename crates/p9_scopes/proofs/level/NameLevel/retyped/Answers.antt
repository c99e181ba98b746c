use Rattle.std.proofs.Common.{◌≡◌, ap, ◌∙◌}
use Rattle.p9_lang.specs.Types.{type_of}
use Rattle.p9_lang.specs.Declaring.{retyped}
use Rattle.p9_scopes.specs.Newest.{held, older}
use Rattle.p9_scopes.specs.Seen.{level_of}
use Rattle.p9_scopes.proofs.Levels.{is_retyped, finds_retyped}
use Rattle.p9_scopes.proofs.level.NameLevel.retyped.Goals as goal

pub invariant_of-result : goal.invariant_of-result
invariant_of-result c =
    let e : c.newest_place-place.result ≡ older (held c.self.inside.places.entries c.args.name.now) = cc in
    finds_retyped c.self.inside.places.entries c.args.name.now c.self.inside.list.items c.retype_at.new.list.items c.newest_place-place.result c.args.ty c.self.invariant e c.retype_at.ensures

pub returns : goal.returns
returns c =
    let e : c.newest_place-place.result ≡ older (held c.self.inside.places.entries c.args.name.now) = cc in
    is_retyped c.self.inside.places.entries c.args.name.now c.self.inside.list.items c.retype_at.new.list.items c.newest_place-place.result c.args.ty c.self.invariant e c.retype_at.ensures
    ∙ ap (λ l. retyped c.args.name.now (type_of c.args.ty) (level_of l)) c.self.view_is
