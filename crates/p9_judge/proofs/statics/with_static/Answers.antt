use Rattle.std.proofs.Common.{sym, ◌∙◌}
use Rattle.p9_scopes.specs.Seen.{declared_of}
use Rattle.p9_judge.proofs.StaticNames.{new_step}
use Rattle.p9_judge.proofs.statics.with_static.Goals as goal

pub returns-then-branch : goal.returns-then-branch
returns-then-branch c after =
    new_step c.args.names c.names.inside.list c.in_ok-more.more c.in_ok-copied.field-0 (declared_of c.args.declared.now) after
    c.names.view_is c.in_ok-more.ensures c.in_ok-copied.ensures (sym c.in_ok-is_new.ensures ∙ c.if-branch.true)
