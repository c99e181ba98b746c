use Rattle.p9_parts.specs.Told.{part_of}
use Rattle.p9_parts.proofs.Summaries.{summary_more}
use Rattle.p9_parts.proofs.summary.Summary.with.Goals as goal

pub returns : goal.returns
returns c = λ list e s.
    summary_more c.args.self _ list c.args.at (part_of c.args.part.now)
    c.object_with-object.ensures
    c.in_ok-names.ensures.members
    c.in_ok-names.ensures.objects
    c.in_ok-counts.ensures.parameters
    c.in_ok-counts.ensures.value
    c.in_ok-counts.ensures.position
    c.in_ok-counts.ensures.positions
    c.in_ok-labels.ensures.cases
    c.in_ok-labels.ensures.default
    e
    s
