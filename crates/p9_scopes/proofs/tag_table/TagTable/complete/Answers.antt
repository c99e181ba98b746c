use Rattle.std.proofs.Common.{rules}
use Rattle.p9_lang.specs.Types.{members_of, tags_of}
use Rattle.p9_lang.proofs.Bodies.{HaveSizes}
use Rattle.p9_scopes.proofs.Tables.{sound_ends, same_sound, body_sound}
use Rattle.p9_scopes.proofs.tag_table.TagTable.complete.Goals as goal

pub all_have_sizes-requires : goal.all_have_sizes-requires
all_have_sizes-requires c = sound_ends c.self.inside.tags.list c.self.invariant

pub invariant_of-self : goal.invariant_of-self
invariant_of-self c = same_sound c.self.inside.tags.list c.put_body.new.tags.list c.self.invariant c.in_err-put_body.ensures.err

pub invariant_of-self-2 : goal.invariant_of-self-2
invariant_of-self-2 c =
    let sizes : HaveSizes (tags_of c.self.inside.tags.list) (members_of c.args.members) = search rules in
    body_sound c.self.inside.tags.list c.put_body.new.tags.list c.args.number (members_of c.args.members) c.self.invariant sizes c.in_ok-put_body.ensures.ok
