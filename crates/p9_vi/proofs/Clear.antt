-- Steps at which no hazard can come.
use Rattle.std.proofs.Common.{◌≡◌, ◌&&◌, Bool, true, false, Some, Ok, refl}
use Rattle.p9_r3k.specs.declared.inst.Inst.{Inst}
use Rattle.p9_r3k.specs.Memory.{Core}
use Rattle.p9_r3k.specs.Effects.{writes_pair}
use Rattle.p9_r3k.specs.Machine.{without_hazard}
use Rattle.p9_vi.specs.Kept.{IsClear}

and_false : (b : Bool) → (b && false) ≡ false
and_false true = refl
and_false false = refl

pub without_hazard_clear : (c : Core) (i : Inst) → IsClear c → without_hazard (Some i) c ≡ Ok i
without_hazard_clear c i h = rw (h.0, h.1, h.2, h.3, and_false (writes_pair i)) refl
