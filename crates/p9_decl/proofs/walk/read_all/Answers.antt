use Rattle.std.proofs.Common.{sym, ap, ◌∙◌, arith}
use Rattle.p9_grammar.specs.Machine.{step}
use Rattle.p9_tree_reader.specs.Reading.{state_of}
use Rattle.p9_decl.proofs.Walking.{read_step, stopped_there}
use Rattle.p9_decl.proofs.walk.read_all.Goals as goal

pub returns-in-Err-clause-stopped : goal.returns-in-Err-clause-stopped
returns-in-Err-clause-stopped c =
    stopped_there (Unit {0}) (state_of c.args.start) c.args.tokens.now c.args.from c.loop-i.i c.in_ok-place.place c.index-tokens-i.result c.in_ok-terminal.terminal (state_of c.loop-i.reader) (state_of c.read_one.new.reader) c.in-Err.fault
    c.in_ok-place.ensures c.in_ok-terminal.ensures c.index-tokens-i.is (omega arith) c.loop-i.invariant.0 c.in-Err.ensures

pub loop-i-preserved : goal.loop-i-preserved
loop-i-preserved c = (
  read_step (state_of c.args.start) c.args.tokens.now c.loop-i.i c.index-tokens-i.result (state_of c.loop-i.reader) c.index-tokens-i.is (omega arith) c.loop-i.invariant.0
      ∙ ap (step (state_of c.loop-i.reader)) (sym c.in_ok-terminal.ensures) ∙ c.in-Ok.ensures.0,
  c.in-Ok.ensures.1,
)
