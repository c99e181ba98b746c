use Rattle.std.proofs.Common.{refl}
use Rattle.p9_lang.specs.Types.{tag_of}
use Rattle.p9_lang.specs.Agreement.{open_body}
use Rattle.p9_sig.specs.Writing.{final}
use Rattle.p9_sig.proofs.Steps.{body_step}
use Rattle.p9_sig.proofs.writer.Writer.write_body.Goals as goal

pub returns-in_ok-write_members-in-Some-clause-then : goal.returns-in_ok-write_members-in-Some-clause-then
returns-in_ok-write_members-in-Some-clause-then c = λ part.
    body_step (final part c.args.self.now) _ _ _ (final part c.write_members.new.self) part (open_body (tag_of c.args.tag.now)) c.in-Some.members.now c.args.tag.now.is_union c.args.tag.now.name
    c.opening-in-Some.result.now c.args.tag.now.name c.in-Some.ensures c.opening-in-Some.ensures refl
    (c.in_ok-put-in-Some.ensures.then part) (c.in_ok-put_name-in-Some.ensures.then part) (c.in_ok-put-in-Some-2.ensures.then part) (c.in_ok-write_members-in-Some.ensures.then part)
