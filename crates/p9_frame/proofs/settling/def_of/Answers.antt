use Rattle.std.proofs.Common.{true, ap, ◌∙◌, ◌+◌, ◌++◌}
use Rattle.p9_frame.specs.Sizes.{offsets_from, end_from}
use Rattle.p9_frame.specs.Plans.{held}
use Rattle.p9_frame.specs.Emitted.{moves_of, blocks_in}
use Rattle.p9_frame.specs.Making.{first_of}
use Rattle.p9_frame.proofs.settling.def_of.Goals as goal

pub returns : goal.returns
returns c =
    let code = c.args.code.now in
    let sizes = c.args.sizes.now in
    let table = c.in_ok-table.table in
    let taken = c.in_ok-offsets.offsets.end + 4 in
    let own = c.deref.ensures.value ∙ (c.in_ok-offsets.ensures.list ∙ ap (λ z. offsets_from z sizes) c.first_offset.ensures) in
    record {
      table = table;
      starts = c.in_ok-starts.starts.items;
      table_is = c.in_ok-table.ensures;
      starts_are = c.in_ok-starts.ensures;
      frame_is = c.in_ok-offsets.ensures.end ∙ ap (λ z. end_from z sizes) c.first_offset.ensures;
      code_is =
          c.in_ok-list.ensures
          ∙ (ap (λ z. moves_of sizes z (held code table true 0 12) ++ blocks_in code sizes table z c.deref-2.result.now taken 0 code) own
          ∙ ap (λ z. moves_of sizes (offsets_from (first_of code) sizes) (held code table true 0 12) ++ blocks_in code sizes table (offsets_from (first_of code) sizes) z taken 0 code) c.deref-2.ensures.value);
    }
