use Rattle.p9_text.specs.Weights.{text_weight}
use Rattle.p9_text.proofs.Exactly.{refused-exactly, weighed-exactly}
use Rattle.p9_text.proofs.weighing.text_words.Goals as goal

pub returns-clause-refused_exactly : goal.returns-clause-refused_exactly
returns-clause-refused_exactly c =
    refused-exactly (text_weight c.args.routines.now) c.weighed.result c.weighed.ensures.words c.weighed.ensures.fits c.weighed.ensures.refused

pub returns-clause-weighed_exactly : goal.returns-clause-weighed_exactly
returns-clause-weighed_exactly c = weighed-exactly (text_weight c.args.routines.now) c.weighed.result c.weighed.ensures.refused
