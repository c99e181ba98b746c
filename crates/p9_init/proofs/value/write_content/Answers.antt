use Rattle.std.proofs.Common.{ℕ, ◌+◌, ◌≤◌, [], length, sym, subst}
use Rattle.p9_lang.specs.Layout.{size_of}
use Rattle.p9_lang.specs.Types.{type_of}
use Rattle.p9_init.specs.declared.content.Content.{Content}
use Rattle.p9_init.specs.Contents.{FitsType, IsWritten}
use Rattle.p9_init.proofs.Values.{pointer_size}
use Rattle.p9_init.proofs.value.write_content.Goals as goal

pub write_number-requires-clause-within : goal.write_number-requires-clause-within
write_number-requires-clause-within c =
    subst (λ (n : ℕ). c.args.start + n ≤ length c.args.cells.now) (c.scalar_size.ensures.size []) (c.requires.within [])

pub write_address-requires-clause-within : goal.write_address-requires-clause-within
write_address-requires-clause-within c =
    subst (λ (n : ℕ). c.args.start + n ≤ length c.args.cells.now)
    (pointer_size [] (type_of c.args.ty.now) (subst (FitsType (type_of c.args.ty.now)) c.in-AddressOf.is c.requires.fits)) (c.requires.within [])

pub returns-in-AddressOf : goal.returns-in-AddressOf
returns-in-AddressOf c tags =
    subst (λ (x : Content). IsWritten c.args.start (size_of tags (type_of c.args.ty.now)) x c.args.cells.now c.write_address.new.cells) (sym c.in-AddressOf.is)
    (c.write_address.ensures (size_of tags (type_of c.args.ty.now)))
