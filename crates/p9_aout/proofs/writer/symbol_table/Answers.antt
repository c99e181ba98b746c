use Rattle.p9_aout.proofs.Entries.{entries_more, words_more}
use Rattle.p9_aout.proofs.writer.symbol_table.Goals as goal

pub loop-symbol-preserved : goal.loop-symbol-preserved
loop-symbol-preserved c =
    let below = c.loop-symbol-test.true in
    record {
      entries = entries_more _ _ _ _ _ c.loop-symbol.invariant.entries below c.symbol-item.is c.in_ok-push_symbol.ensures.entry;
      words = words_more _ _ _ c.loop-symbol.invariant.words below c.symbol-item.is c.in_ok-push_symbol.ensures.word;
    }
