use Rattle.std.proofs.Common.{ap, ◌∙◌, ◌+◌, ◌≡◌, ◌++◌, [], ◌∷◌, length, length-append}
use Rattle.p9_flow.proofs.Tabling.{columns-none, columns-push}
use Rattle.p9_flow.proofs.rows.columns.Goals as goal

pub loop-word-init : goal.loop-word-init
loop-word-init c = (ap length c.new-columns.ensures.items, columns-none c.args.acts.now _ c.new-columns.ensures.items)

pub loop-word-preserved : goal.loop-word-preserved
loop-word-preserved c =
    let after : c.push.new.self.items ≡ c.loop-word.columns.items ++ c.in_ok-list.list.items ∷ [] = c.in_ok-push.ensures.items in (
      ap length after ∙ (length-append c.loop-word.columns.items (c.in_ok-list.list.items ∷ []) ∙ ap (λ n. n + 1) c.loop-word.invariant.0),
      columns-push c.args.acts.now c.loop-word.columns.items c.push.new.self.items c.in_ok-list.list.items c.loop-word.word after c.loop-word.invariant.0 c.loop-word.invariant.1 c.in_ok-list.ensures,
    )
