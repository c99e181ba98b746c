use Rattle.std.proofs.Common.{◌++◌, ◌-◌, ◌%◌, ℕ, ◌≡◌, length, refl, ap, ◌∙◌, arith}
use Rattle.std.specs.Prelude.{flat_map}
use Rattle.std.proofs.lemmas.Grind.{common_steps}
use Rattle.p9_abs.specs.Programs.{piece_bytes}
use Rattle.p9_image.specs.Text.{address_at}
use Rattle.p9_data.proofs.Collecting.{object_pushed}
use Rattle.p9_data.proofs.data.push_object.Goals as goal

pub returns : goal.returns
returns c =
    let address = address_at c.args.tables.now c.args.unit in
    let size : ℕ = c.len.result - c.len-start.result in
    let long : size ≡ length c.push_pieces.new.out.items - length c.args.out.now.items = grind (arith, common_steps) in
    object_pushed address c.args.pieces.now c.args.out.now.items c.push_pieces.new.out.items c.push_zeros.new.out.items size ((4 - size % 4) % 4)
    (c.in_ok-push_pieces.ensures ∙ ap (λ ps. c.args.out.now.items ++ flat_map (piece_bytes address) ps) (c.deref.ensures.value ∙ c.pieces.view_is))
    long refl c.in_ok-push_zeros.ensures
