use Rattle.std.proofs.Common.{[], refl}
use Rattle.p9_kinds.proofs.controls.sound.Goals as goal

pub returns : goal.returns
returns c = c.typeless.ensures [] refl
