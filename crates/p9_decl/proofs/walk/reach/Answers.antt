use Rattle.std.proofs.Common.{inl, inr, refl, sym, ap, ◌∙◌, arith}
use Rattle.p9_grammar.specs.Machine.{step}
use Rattle.p9_tree_reader.specs.Reading.{state_of}
use Rattle.p9_decl.proofs.Walking.{ended_step, endless_step, passed_there, reached_all, read_step, was_refused}
use Rattle.p9_decl.proofs.walk.reach.Goals as goal

pub loop-i-preserved : goal.loop-i-preserved
loop-i-preserved c = (
  (
    read_step (state_of c.args.start) c.args.tokens.now c.loop-i.i c.index-tokens-i.result (state_of c.loop-i.reader) c.index-tokens-i.is (omega arith) c.loop-i.invariant.0.0
        ∙ ap (step (state_of c.loop-i.reader)) (sym c.in_ok-terminal.ensures) ∙ c.in-Ok.ensures.0,
    c.in-Ok.ensures.1,
  ),
  endless_step c.args.tokens.now c.loop-i.i c.index-tokens-i.result c.in_ok-terminal.terminal c.in_ok-terminal.ensures c.index-tokens-i.is (omega arith) (sym c.is_end.ensures ∙ c.if-is_end.false) c.loop-i.invariant.1,
)

pub returns-then-is_end-clause-reached : goal.returns-then-is_end-clause-reached
returns-then-is_end-clause-reached c = (
  omega arith,
  (state_of c.loop-i.reader, c.loop-i.invariant.0.0),
  c.loop-i.invariant.1,
  λ h. inl (ended_step c.args.tokens.now c.loop-i.i c.index-tokens-i.result c.in_ok-terminal.terminal c.in_ok-terminal.ensures c.index-tokens-i.is h (sym c.is_end.ensures ∙ c.if-is_end.true)),
)

pub returns-clause-reached : goal.returns-clause-reached
returns-clause-reached c = reached_all (state_of c.args.start) c.args.tokens.now c.loop-i.i _ (state_of c.loop-i.reader) (omega arith) refl c.loop-i.invariant.0.0 c.loop-i.invariant.1

pub returns-in-Syntax-clause-reached : goal.returns-in-Syntax-clause-reached
returns-in-Syntax-clause-reached c = (
  omega arith,
  (state_of c.loop-i.reader, c.loop-i.invariant.0.0),
  c.loop-i.invariant.1,
  λ h. inr
      (read_step (state_of c.args.start) c.args.tokens.now c.loop-i.i c.index-tokens-i.result (state_of c.loop-i.reader) c.index-tokens-i.is h c.loop-i.invariant.0.0
      ∙ ap (step (state_of c.loop-i.reader)) (sym c.in_ok-terminal.ensures)
      ∙ was_refused (Unit {0}) (step (state_of c.loop-i.reader) c.in_ok-terminal.terminal) 0 c.in-Syntax.field-0 c.in-Err.fault (state_of c.read_one.new.reader) c.in-Syntax.is c.in-Err.ensures),
)

pub returns-in_default : goal.returns-in_default
returns-in_default c = record {
  reached = tt;
  passed = passed_there (Unit {0}) (state_of c.args.start) c.args.tokens.now c.loop-i.i 0 c.index-tokens-i.result c.in_ok-terminal.terminal (state_of c.loop-i.reader) (state_of c.read_one.new.reader) c.in-Err.fault c.in_default.not-Syntax
      c.in_ok-terminal.ensures c.index-tokens-i.is (omega arith) (sym c.is_end.ensures ∙ c.if-is_end.false) c.loop-i.invariant.1 c.loop-i.invariant.0.0 c.in-Err.ensures;
}
