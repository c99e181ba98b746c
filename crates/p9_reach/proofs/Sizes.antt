-- The scheduled lines are within the weights.
use Rattle.std.proofs.Common.{refl, arith}
use Rattle.p9_expand.specs.Program.{program_lines}
use Rattle.p9_expand.proofs.Answering.{words_within}
use Rattle.p9_reach.specs.Laws.{ScheduleWithin}
use Rattle.p9_reach.proofs.Spacing.{all-within}

pub schedule_within : ScheduleWithin
schedule_within modules new moved once h =
    omega (arith, all-within (program_lines modules) new moved once h, words_within modules (program_lines modules) refl)
