use Rattle.p9_lang.specs.Types.{tags_of}
use Rattle.p9_types.proofs.Advancing.{learnt, learnt_keeps, learnt_sound}
use Rattle.p9_types.proofs.reaching.finish.Goals as goal

pub returns-clause-sound : goal.returns-clause-sound
returns-clause-sound c =
    learnt_sound (tags_of c.args.tags.now) c.args.known.now.map.entries c.learn.new.self.map.entries c.args.number c.extent_at-extent.result
    c.requires.ends c.requires.sound c.requires.inner c.extent_at-extent.ensures c.in_ok-learn.ensures

pub returns-clause-known : goal.returns-clause-known
returns-clause-known c = learnt c.args.known.now.map.entries c.learn.new.self.map.entries c.args.number c.extent_at-extent.result c.in_ok-learn.ensures

pub returns-clause-keeps : goal.returns-clause-keeps
returns-clause-keeps c = learnt_keeps c.args.known.now.map.entries c.learn.new.self.map.entries c.args.number c.extent_at-extent.result c.in_ok-learn.ensures
