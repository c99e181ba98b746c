use Rattle.std.proofs.Common.{◌≡◌, true, sym, ap, ◌∙◌}
use Rattle.p9_tree_build.specs.Machines.{frame_of, stack_of}
use Rattle.p9_tree_reader.specs.Reading.{last_of}
use Rattle.p9_parse.specs.Units.{is_file}
use Rattle.p9_parse.proofs.Walking.{file_top}
use Rattle.p9_parse.proofs.unit.finish.Goals as goal

pub returns-in-Some-clause-read : goal.returns-in-Some-clause-read
returns-in-Some-clause-read c =
    let e : is_file (stack_of c.args.reader.stack) ≡ true = ap (λ s. is_file (stack_of s)) c.as_slice.ensures ∙ sym c.if-not-only_frame.ensures in
    file_top (stack_of c.args.reader.stack) c.args.reader.scope.levels c.args.reader.at (last_of c.args.reader.last) _ (frame_of c.in-Some.frame) (stack_of c.pop.new.self) e (ap stack_of c.in-Some.ensures) c.items_of.ensures
