-- Addresses of automatics that code takes: `HasNearAddresses`.
use Rattle.std.specs.Prelude.{ℕ, ◌≤◌, List, All, slice_index}
use Rattle.p9_abs.specs.declared.instructions.Operand.{Operand}
use Rattle.p9_abs.specs.declared.instructions.Operand.TheVariants.{AutoAddr}
use Rattle.p9_abs.specs.declared.instructions.AFunction.{AFunction}

-- an address is that of one of the automatic's bytes, or of the byte behind them
abbrev pub IsNear : List ℕ → Operand → Type 0
IsNear sizes (AutoAddr v o) = o ≤ slice_index sizes v
IsNear sizes _ = Unit {0}

abbrev pub HasNearAddresses : AFunction → Type 0
HasNearAddresses f = All (λ a. All (IsNear f.autos) a.operands) f.code
