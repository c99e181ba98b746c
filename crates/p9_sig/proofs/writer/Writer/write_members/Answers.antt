use Rattle.std.proofs.Common.{length, take, drop, ◌-◌, refl}
use Rattle.p9_sig.specs.Writing.{final}
use Rattle.p9_sig.proofs.Steps.{members_step, first_and_others}
use Rattle.p9_sig.proofs.writer.Writer.write_members.Goals as goal

pub returns-in_ok-keep-in-len1-up-2-clause-then : goal.returns-in_ok-keep-in-len1-up-2-clause-then
returns-in_ok-keep-in-len1-up-2-clause-then c = λ tag.
    members_step (final tag c.args.self.now) (final tag c.put_name.new.self) (final tag c.put-in-len1-up.new.self) (final tag c.keep.new.self) (final tag c.keep-in-len1-up.new.self)
    tag c.args.members.now c.member-item.result (take (length c.args.members.now - 1) (drop 1 c.args.members.now)) c.args.is_union c.member-item.result.name
    (first_and_others c.args.members.now c.member-item.result c.in-len1-up.len_at_least c.member-item.is) refl
    (c.in_ok-put_name-in-len1-up.ensures.then tag) (c.in_ok-put-in-len1-up.ensures.then tag)
    (c.in_ok-keep-in-len1-up.ensures.then tag) (c.in_ok-keep-in-len1-up-2.ensures.then tag)
