use Rattle.p9_lang.specs.Types.{type_of, tags_of}
use Rattle.p9_types.specs.Told.{told_option}
use Rattle.p9_types.proofs.Laid.{laid_out}
use Rattle.p9_types.proofs.reaching.extent_within.Goals as goal

pub returns-clause-extent : goal.returns-clause-extent
returns-clause-extent c =
    laid_out (tags_of c.args.tags.now) c.learn_within.new.known.map.entries (type_of c.args.ty.now) (told_option c.extent_of.result)
    c.in_ok-learn_within.ensures.sound c.in_ok-learn_within.ensures.known c.extent_of.ensures
