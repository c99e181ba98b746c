use Rattle.std.specs.Prelude.{◌≡◌, ◌<◌, ◌+◌, ◌^◌, ◌++◌, length}
use Rattle.p9_image.specs.Text.{LinesFit, text_from, text_bytes}
use Rattle.p9_image.proofs.text.text_bytes.Given as goal

abbrev pub invariant-loop-rest : goal.invariant-loop-rest
invariant-loop-rest l =
    (l.bytes.items ++ text_from l.tables l.number l.rest ≡ text_bytes l.tables l.fn.lines)
    × (l.number + length l.rest < 2 ^ 32) × LinesFit l.rest

abbrev pub decreases-loop-rest : goal.decreases-loop-rest
decreases-loop-rest l = length l.rest
