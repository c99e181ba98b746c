-- Sethi and Ullman's number is the least number of registers, up to the largest word.
use Rattle.std.proofs.Common.{◌≡◌, ℕ, ◌<◌, ◌≤◌, min, subst, arith}
use Rattle.p9_su.specs.declared.shapes.Shape.{Shape}
use Rattle.p9_su.specs.Shapes.{number_of}
use Rattle.p9_su.specs.Game.{CanBePlayed}
use Rattle.p9_su.proofs.Bound.{number_least}
use Rattle.p9_su.proofs.Plays.{number_enough}

pub enough_registers : (shape : Shape) (n : ℕ) → n ≡ min (number_of shape) 4294967295 → n < 4294967295 → CanBePlayed shape n
enough_registers shape n rule below =
    let same : number_of shape ≡ n = omega arith in subst (λ m. CanBePlayed shape m) same (number_enough shape)

pub least_registers : (shape : Shape) (n : ℕ) → n ≡ min (number_of shape) 4294967295 → (count : ℕ) → CanBePlayed shape count → n ≤ count
least_registers shape n rule count can =
    let least : number_of shape ≤ count = number_least shape count can in omega arith
