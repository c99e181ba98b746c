use Rattle.std.proofs.Common.{◌∙◌, ap, map, arith}
use Rattle.p9_abs.specs.declared.instructions.AFunction.{AFunction}
use Rattle.p9_abs.specs.Forms.{decoded}
use Rattle.p9_region.specs.Picking.{step_of}
use Rattle.p9_region.proofs.Gathering.{next-regions, all-regions}
use Rattle.p9_region.proofs.Columns.{column-next}
use Rattle.p9_region.proofs.finding.regions_of.Goals as goal

pub loop-v-preserved : goal.loop-v-preserved
loop-v-preserved c = record {
  regions =
      next-regions c.args.f.now c.args.rows.now c.deref-in-loop-v-3.result.now c.deref-in-loop-v-4.result.now c.loop-v.v _ c.loop-v.list.items c.add_automatic.new.regions.items c.requires.rows c.deref-in-loop-v-4.ensures.value
      (c.deref-in-loop-v-3.ensures.value ∙ (c.in_ok-steps.ensures ∙ ap (map (λ a. step_of (decoded a))) (c.deref.ensures.value ∙ ap (λ (z : AFunction). z.code) c.f.view_is)))
      (c.requires.candidates c.loop-v.v) c.in_ok-add_automatic.ensures c.loop-v.invariant.regions;
  column = λ ne. column-next _ c.deref-in-loop-v.result.now _ c.deref-in-loop-v-2.result.now c.args.rows.now.width c.loop-v.v _ c.deref-in-loop-v.ensures.value c.deref-in-loop-v-2.ensures.value c.in_ok-column.ensures ne;
}

pub returns : goal.returns
returns c = all-regions c.args.f.now c.loop-v.v c.args.candidates.now c.loop-v.list.items (omega arith) c.requires.candidates c.loop-v.invariant.regions
