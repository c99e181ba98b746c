use Rattle.std.proofs.Common.{◌≡◌, ◌≤◌}
use Rattle.p9_abs.specs.Programs.{routines_of}
use Rattle.p9_text.specs.Weights.{text_weight}
use Rattle.p9_lines.specs.Weights.{words_needed}
use Rattle.p9_slot.specs.Schedule.{HaveTargets, TargetsAreLines}
use Rattle.p9_expand.specs.Laws.{IsMarked}
use Rattle.p9_expand.specs.Program.{program_lines}
use Rattle.p9_expand.proofs.Answering.{targets_had, targets_are_lines, marks_right, words_within, if-lines}
use Rattle.p9_expand.proofs.expanding.expand.Goals as goal

pub returns-clause-targets : goal.returns-clause-targets
returns-clause-targets c = if-lines (λ lines. lines ≡ program_lines c.args.modules.now.items) HaveTargets (λ lines e. targets_had c.args.modules.now.items lines c.requires.valid e) c.expanded.result c.expanded.ensures.lines

pub returns-clause-aims : goal.returns-clause-aims
returns-clause-aims c = if-lines (λ lines. lines ≡ program_lines c.args.modules.now.items) TargetsAreLines (λ lines e. targets_are_lines c.args.modules.now.items lines c.requires.valid e) c.expanded.result c.expanded.ensures.lines

pub returns-clause-marks : goal.returns-clause-marks
returns-clause-marks c = if-lines (λ lines. lines ≡ program_lines c.args.modules.now.items) (IsMarked c.args.modules.now.items) (λ lines e. marks_right c.args.modules.now.items lines e) c.expanded.result c.expanded.ensures.lines

pub returns-clause-words : goal.returns-clause-words
returns-clause-words c = if-lines (λ lines. lines ≡ program_lines c.args.modules.now.items) (λ lines. words_needed lines ≤ text_weight (routines_of c.args.modules.now.items)) (λ lines e. words_within c.args.modules.now.items lines e) c.expanded.result c.expanded.ensures.lines
