use Rattle.std.proofs.Common.{◌+◌, ◌-◌, ◌∷◌, [], length, take, drop, ap, sym, ◌∙◌}
use Rattle.std.proofs.lemmas.List.{map-append}
use Rattle.p9_lang.specs.Trees.{syntax_of, row_of, nodes_of, nodes_of_row}
use Rattle.p9_lang.specs.Typing.{judge_parts}
use Rattle.p9_types.proofs.Lists.{first_and_others}
use Rattle.p9_lang.specs.Opening.{context}
use Rattle.p9_scopes.specs.State.{known_of}
use Rattle.p9_parts.specs.Told.{context_of, frame_of, part_of, parts_of}
use Rattle.p9_judge.proofs.Nodes.{kind_there}
use Rattle.p9_judge.proofs.Walking.{part_goes_on, part_broken, node_walked, node_counted, parts_go_on, parts_broken, parts_counted, fault_counts_with}
use Rattle.p9_judge.proofs.walk.+judge_within.Goals as goal

pub judge_part-returns-in-Ok-clause-judges : goal.judge_part-returns-in-Ok-clause-judges
judge_part-returns-in-Ok-clause-judges t c =
    part_goes_on part_of c.behind.result (known_of c.behind.new.known) c.args.kind.now (frame_of c.args.names.now c.args.frame.now)
    (parts_of c.args.before.now) (syntax_of c.args.part.now) (row_of c.args.rest.now) (known_of c.args.known.now)
    (known_of c.judge_within.new.known) (context_of c.lent-lent.result.now c.in_ok-context.context) (part_of c.in-Ok.judged)
    (ap (λ l. context_of l c.in_ok-context.context) c.lent-lent.ensures ∙ c.in_ok-context.ensures c.args.names.now
    ∙ ap (λ k. context c.args.kind.now (frame_of c.args.names.now c.args.frame.now) (parts_of c.args.before.now) k (known_of c.args.known.now))
    (sym (kind_there c.args.part.now)))
    c.in-Ok.ensures.judges c.behind.ensures

pub judge_part-returns-in-Err-clause-judges : goal.judge_part-returns-in-Err-clause-judges
judge_part-returns-in-Err-clause-judges t c =
    part_broken c.in-Err.fault c.args.kind.now (frame_of c.args.names.now c.args.frame.now)
    (parts_of c.args.before.now) (syntax_of c.args.part.now) (row_of c.args.rest.now) (known_of c.args.known.now)
    (context_of c.lent-lent.result.now c.in_ok-context.context)
    (ap (λ l. context_of l c.in_ok-context.context) c.lent-lent.ensures ∙ c.in_ok-context.ensures c.args.names.now
    ∙ ap (λ k. context c.args.kind.now (frame_of c.args.names.now c.args.frame.now) (parts_of c.args.before.now) k (known_of c.args.known.now))
    (sym (kind_there c.args.part.now)))
    c.in-Err.ensures.judges

pub judge_parts-returns-in-Err-clause-judges : goal.judge_parts-returns-in-Err-clause-judges
judge_parts-returns-in-Err-clause-judges t c =
    parts_broken c.in-Err.fault c.args.kind.now (frame_of c.args.names.now c.args.frame.now) (parts_of c.parts.before) c.parts.rest.now
    (take (length c.parts.rest.now - 1) (drop 1 c.parts.rest.now)) c.part-item.result (known_of c.parts.known)
    (judge_parts c.args.kind.now (frame_of c.args.names.now c.args.frame.now) [] (row_of c.args.parts.now) (known_of c.args.known.now))
    (first_and_others c.parts.rest.now c.part-item.result c.in-len1-up.len_at_least c.part-item.is)
    c.parts.invariant.judges c.in-Err.ensures.judges

pub judge_parts-returns-in-Err-clause-counts : goal.judge_parts-returns-in-Err-clause-counts
judge_parts-returns-in-Err-clause-counts t c =
    fault_counts_with c.in-Err.fault c.judge_part.new.nodes (c.parts.nodes + nodes_of (syntax_of c.part-item.result)) c.in_ok-nodes-in-Err.field-0
    (c.args.nodes.now + nodes_of_row (row_of c.args.parts.now))
    (λ e. c.in_ok-nodes-in-Err.ensures
    ∙ parts_counted c.parts.rest.now (take (length c.parts.rest.now - 1) (drop 1 c.parts.rest.now)) c.part-item.result c.parts.nodes c.judge_part.new.nodes
    (c.args.nodes.now + nodes_of_row (row_of c.args.parts.now))
    (first_and_others c.parts.rest.now c.part-item.result c.in-len1-up.len_at_least c.part-item.is)
    c.parts.invariant.counts e)
    c.in-Err.ensures.counts

pub judge_parts-parts-preserved : goal.judge_parts-parts-preserved
judge_parts-parts-preserved t c =
    record {
      judges = parts_go_on c.args.kind.now (frame_of c.args.names.now c.args.frame.now) (parts_of c.parts.before) (parts_of c.push.new.self) c.parts.rest.now
          (take (length c.parts.rest.now - 1) (drop 1 c.parts.rest.now)) c.part-item.result (known_of c.parts.known) (known_of c.judge_part.new.known)
          (part_of c.in-Ok.judged)
          (judge_parts c.args.kind.now (frame_of c.args.names.now c.args.frame.now) [] (row_of c.args.parts.now) (known_of c.args.known.now))
          (first_and_others c.parts.rest.now c.part-item.result c.in-len1-up.len_at_least c.part-item.is)
          (ap parts_of c.in_ok-push-in-Ok.ensures ∙ map-append part_of c.parts.before (c.in-Ok.judged ∷ []))
          c.in-Ok.ensures.judges c.parts.invariant.judges;
      counts = parts_counted c.parts.rest.now (take (length c.parts.rest.now - 1) (drop 1 c.parts.rest.now)) c.part-item.result c.parts.nodes
          c.judge_part.new.nodes (c.args.nodes.now + nodes_of_row (row_of c.args.parts.now))
          (first_and_others c.parts.rest.now c.part-item.result c.in-len1-up.len_at_least c.part-item.is)
          c.parts.invariant.counts c.in-Ok.ensures.counts;
    }

pub judge_within-returns-clause-judges : goal.judge_within-returns-clause-judges
judge_within-returns-clause-judges t c =
    node_walked part_of c.with_rule.result c.judge_inside-judged.result (known_of c.judge_inside-judged.new.known) (known_of c.args.known.now)
    c.args.node.now c.as_slice-parts.result.now (context_of c.args.names.now c.args.context) c.in_ok-number.number c.next_node-first.result
    c.judge_inside-judged.new.nodes c.as_slice-parts.ensures c.next_node-first.ensures c.in_ok-number.ensures
    c.judge_inside-judged.ensures.counts c.judge_inside-judged.ensures.judges
    (λ m answer k j. c.with_rule.ensures.judges m _ (known_of c.judge_inside-judged.new.known) answer (c.role_rule-rule.ensures c.args.names.now) k j)

pub judge_within-returns-clause-counts : goal.judge_within-returns-clause-counts
judge_within-returns-clause-counts t c =
    c.with_rule.ensures.counts _ _
    (node_counted c.judge_inside-judged.result c.args.node.now c.as_slice-parts.result.now c.judge_inside-judged.new.nodes c.in_ok-before.before
    c.in_ok-nodes.field-0 c.args.nodes.now c.as_slice-parts.ensures c.in_ok-before.ensures c.in_ok-nodes.ensures
    c.judge_inside-judged.ensures.counts)
