use Rattle.std.proofs.Common.{◌∙◌, sym, ap}
use Rattle.p9_r3k.specs.Machine.{applied}
use Rattle.p9_vi.proofs.Stepping.{halts_plain, acts_plain, halts_told, acts_told, calls_told, call_stands}
use Rattle.p9_vi.proofs.Tying.{ties_step}
use Rattle.p9_vi.proofs.machine.Machine.step.Goals as goal

pub returns-in-Err-clause-changes : goal.returns-in-Err-clause-changes
returns-in-Err-clause-changes g c =
    halts_told (g.I.Source.left c.args.input.now) (g.O.Sink.sofar c.args.out.now) c.args.self.now c.halt.new.self c.in-Err.cause c.requires (sym c.in-Err.ensures.exact) c.halt.ensures

pub returns-in-Call-clause-changes : goal.returns-in-Call-clause-changes
returns-in-Call-clause-changes g c =
    calls_told (g.I.Source.left c.args.input.now) (g.I.Source.left c.call.new.input) (g.O.Sink.sofar c.args.out.now) (g.O.Sink.sofar c.call.new.out) c.call.result c.args.self.now c.call.new.self c.asked-request.result
    (record { running = c.requires; instruction = c.in-Ok.i; fetches = sym c.in-Ok.ensures.exact; calls = sym c.effect.ensures.exact ∙ c.in-Call.is })
    c.asked-request.ensures.exact c.call.ensures.changes

pub returns-in-Call-clause-stands : goal.returns-in-Call-clause-stands
returns-in-Call-clause-stands g c =
    call_stands c.call.result c.asked-request.result c.args.self.now c.call.new.self
    (record { running = c.requires; instruction = c.in-Ok.i; fetches = sym c.in-Ok.ensures.exact; calls = sym c.effect.ensures.exact ∙ c.in-Call.is })
    c.asked-request.ensures.exact c.call.ensures.keeps

pub returns-in_default-clause-changes : goal.returns-in_default-clause-changes
returns-in_default-clause-changes g c =
    acts_told (g.I.Source.left c.args.input.now) (g.O.Sink.sofar c.args.out.now) c.args.self.now c.apply.new.self c.in-Ok.i c.effect.result c.requires (sym c.in-Ok.ensures.exact) c.effect.ensures.exact c.in_default.not-Call
    (c.apply.ensures ∙ ap (applied c.effect.result c.args.self.now) c.reads_pair.ensures)

pub returns-in-Err-clause-tied : goal.returns-in-Err-clause-tied
returns-in-Err-clause-tied g c =
    ties_step g.I.Source.did g.O.Sink.did c.args.input.now c.args.out.now c.args.self.now c.halt.new.self
    (halts_plain c.args.self.now c.halt.new.self c.in-Err.cause c.requires (sym c.in-Err.ensures.exact) c.halt.ensures)

pub returns-in-Call-clause-tied : goal.returns-in-Call-clause-tied
returns-in-Call-clause-tied g c = c.call.ensures.tied (
  record { running = c.requires; instruction = c.in-Ok.i; fetches = sym c.in-Ok.ensures.exact; calls = sym c.effect.ensures.exact ∙ c.in-Call.is },
  c.asked-request.ensures.exact,
)

pub returns-in_default-clause-tied : goal.returns-in_default-clause-tied
returns-in_default-clause-tied g c =
    ties_step g.I.Source.did g.O.Sink.did c.args.input.now c.args.out.now c.args.self.now c.apply.new.self
    (acts_plain c.args.self.now c.apply.new.self c.in-Ok.i c.effect.result c.requires (sym c.in-Ok.ensures.exact) c.effect.ensures.exact c.in_default.not-Call
    (c.apply.ensures ∙ ap (applied c.effect.result c.args.self.now) c.reads_pair.ensures))
