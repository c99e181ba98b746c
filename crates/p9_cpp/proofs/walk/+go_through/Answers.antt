use Rattle.std.proofs.Common.{◌-◌, List, refl, ap, ◌∙◌}
use Rattle.p9_cpp.specs.declared.items.Item.{Item}
use Rattle.p9_lex.specs.Tokens.{lexed}
use Rattle.p9_lex.specs.declared.token.Dialect.TheVariants.{C}
use Rattle.p9_cpp.specs.Units.{ends, including, source_run, by_tokens, items_run}
use Rattle.p9_cpp.specs.Calls.{state_of, Makes}
use Rattle.p9_cpp.proofs.Walking.{file_unlexed, file_begun, include_stopped, include_done, opened_then, unlexed_by, counts_same, counts_behind, stopped_here}
use Rattle.p9_cpp.proofs.walk.+go_through.Goals as goal

pub returns-in-Err-clause-comes : goal.returns-in-Err-clause-comes
returns-in-Err-clause-comes g t c =
    file_unlexed g.F.Files.did c.args.files.now c.in-Err.fault c.args.depth c.args.source.now (state_of c.args.unit.now) (ends (state_of c.args.unit.now)) c.in-Err.ensures.refused

pub returns-in-Err-clause-counts : goal.returns-in-Err-clause-counts
returns-in-Err-clause-counts g t c =
    let source = c.args.source.now in
    let run = by_tokens (including c.args.depth) source (lexed C source.bytes) (state_of c.args.unit.now) in
    counts_same c.in-Err.fault run (g.F.Files.faults c.args.files.now) (g.F.Files.faults c.args.files.now) (unlexed_by c.in-Err.fault (including c.args.depth) source (lexed C source.bytes) (state_of c.args.unit.now) c.in-Err.ensures.refused) refl

pub loop-next-init : goal.loop-next-init
loop-next-init g t c = record {
  makes = file_begun g.F.Files.did c.args.files.now c.args.depth c.args.source.now c.in-Ok.items c.new-groups.result c.last_line-last.result (state_of c.args.unit.now) c.in-Ok.ensures.ok c.last_line-last.ensures c.new-groups.ensures;
  ready = c.requires.ready;
  counts = refl;
}

pub returns-in-Err-open-clause-comes : goal.returns-in-Err-open-clause-comes
returns-in-Err-open-clause-comes g t c =
    let l = c.loop-next in
    let source = c.args.source.now in
    let d = c.args.depth in
    let i = c.in-Ok-Include.inclusion in
    let last = c.last_line-last.result in
    let opens = c.in-Err-open.ensures.opens in
    let here = items_run (including d) source last l.left l.groups (state_of l.unit) in
    include_stopped g.F.Files.did c.args.files.now l.files c.open.new.files c.in-Err-open.fault (source_run d source (state_of c.args.unit.now)) here (including d i.angled i.name source.name i.line (state_of c.item.new.unit)) opens.end (ends (state_of c.open.new.unit)) (items_run (including d) source last c.pop.new.self c.item.new.groups)
    l.invariant.makes
    (ap (λ (ls : List Item). items_run (including d) source last ls l.groups (state_of l.unit)) c.in-Some.ensures
    ∙ (rw c.in-Ok-Include.field-0-is at (c.in-Ok-Include.ensures.passes (including d) (items_run (including d) source last c.pop.new.self))))
    opens.makes opens.opened

pub returns-in-Err-go_through-clause-comes : goal.returns-in-Err-go_through-clause-comes
returns-in-Err-go_through-clause-comes g t c =
    let l = c.loop-next in
    let source = c.args.source.now in
    let d = c.args.depth in
    let i = c.in-Ok-Include.inclusion in
    let last = c.last_line-last.result in
    let opens = c.in-Ok-open.ensures.opens in
    let comes = c.in-Err-go_through.ensures.comes in
    let here = items_run (including d) source last l.left l.groups (state_of l.unit) in
    let inner = including d i.angled i.name source.name i.line (state_of c.item.new.unit) in
    let inside : Makes g.F.Files.did l.files c.go_through.new.files inner comes.end = opened_then g.F.Files.did l.files c.open.new.files c.go_through.new.files inner opens.end (source_run (d - 1) c.in-Ok-open.inner (state_of c.open.new.unit)) comes.end opens.makes opens.opened comes.makes in
    include_stopped g.F.Files.did c.args.files.now l.files c.go_through.new.files c.in-Err-go_through.fault (source_run d source (state_of c.args.unit.now)) here inner comes.end (ends (state_of c.go_through.new.unit)) (items_run (including d) source last c.pop.new.self c.item.new.groups)
    l.invariant.makes
    (ap (λ (ls : List Item). items_run (including d) source last ls l.groups (state_of l.unit)) c.in-Some.ensures
    ∙ (rw c.in-Ok-Include.field-0-is at (c.in-Ok-Include.ensures.passes (including d) (items_run (including d) source last c.pop.new.self))))
    inside comes.goes

pub loop-next-preserved : goal.loop-next-preserved
loop-next-preserved g t c =
    let l = c.loop-next in
    let source = c.args.source.now in
    let d = c.args.depth in
    let i = c.in-Ok-Include.inclusion in
    let last = c.last_line-last.result in
    let opens = c.in-Ok-open.ensures.opens in
    let comes = c.in-Ok-go_through.ensures.comes in
    let here = items_run (including d) source last l.left l.groups (state_of l.unit) in
    let inner = including d i.angled i.name source.name i.line (state_of c.item.new.unit) in
    let inside : Makes g.F.Files.did l.files c.go_through.new.files inner comes.end = opened_then g.F.Files.did l.files c.open.new.files c.go_through.new.files inner opens.end (source_run (d - 1) c.in-Ok-open.inner (state_of c.open.new.unit)) comes.end opens.makes opens.opened comes.makes in
    record {
      makes = include_done g.F.Files.did c.args.files.now l.files c.go_through.new.files (source_run d source (state_of c.args.unit.now)) here inner comes.end (state_of c.go_through.new.unit) (items_run (including d) source last c.pop.new.self c.item.new.groups)
          l.invariant.makes
          (ap (λ (ls : List Item). items_run (including d) source last ls l.groups (state_of l.unit)) c.in-Some.ensures
          ∙ (rw c.in-Ok-Include.field-0-is at (c.in-Ok-Include.ensures.passes (including d) (items_run (including d) source last c.pop.new.self))))
          inside comes.goes;
      ready = c.in-Ok-go_through.ensures.ready;
      counts = c.in-Ok-go_through.ensures.counts ∙ c.in-Ok-open.ensures.counts ∙ l.invariant.counts;
    }

pub returns-in-Err-open-clause-counts : goal.returns-in-Err-open-clause-counts
returns-in-Err-open-clause-counts g t c =
    counts_behind c.in-Err-open.fault (g.F.Files.faults c.args.files.now) (g.F.Files.faults c.loop-next.files) (g.F.Files.faults c.open.new.files) c.loop-next.invariant.counts c.in-Err-open.ensures.counts

pub returns-in-Err-go_through-clause-counts : goal.returns-in-Err-go_through-clause-counts
returns-in-Err-go_through-clause-counts g t c =
    counts_behind c.in-Err-go_through.fault (g.F.Files.faults c.args.files.now) (g.F.Files.faults c.open.new.files) (g.F.Files.faults c.go_through.new.files) (c.in-Ok-open.ensures.counts ∙ c.loop-next.invariant.counts) c.in-Err-go_through.ensures.counts
