use Rattle.std.proofs.Common.{ap, ◌∙◌, length}
use Rattle.p9_abs.specs.declared.instructions.AFunction.{AFunction}
use Rattle.p9_frame.proofs.Within.{regions-within}
use Rattle.p9_frame.proofs.Framing.{made-keeps, made-valid, made-bound, room-along}
use Rattle.p9_frame.proofs.settling.settle.Goals as goal

pub def_of-requires : goal.def_of-requires
def_of-requires c =
    let code = c.deref.ensures.value ∙ ap (λ (z : AFunction). z.code) c.f.view_is in
    let sizes = c.deref-2.ensures.value ∙ ap (λ (z : AFunction). z.autos) c.f.view_is in
    record {
      within = regions-within c.args.f.now c.args.regions.now (length c.deref.result.now) (ap length code) c.requires.regions.each;
      homes = c.requires.homes;
      room = room-along c.args.f.now c.deref.result.now c.deref-2.result.now code sizes c.requires.room;
    }

pub returns : goal.returns
returns c =
    let code = c.deref.ensures.value ∙ ap (λ (z : AFunction). z.code) c.f.view_is in
    let sizes = c.deref-2.ensures.value ∙ ap (λ (z : AFunction). z.autos) c.f.view_is in
    record {
      keeps = made-keeps c.args.f.now c.deref.result.now c.deref-2.result.now c.args.regions.now c.args.homes.now c.in_ok-def.def c.requires.code c.requires.plain c.requires.regions c.requires.homes c.requires.room code sizes c.in_ok-def.ensures;
      valid = λ near. made-valid c.args.f.now c.deref.result.now c.deref-2.result.now c.args.regions.now c.args.homes.now c.in_ok-def.def c.requires.code c.requires.plain c.requires.regions c.requires.homes c.requires.room code sizes c.in_ok-def.ensures near;
      frame = made-bound c.args.f.now c.deref.result.now c.deref-2.result.now c.args.regions.now c.args.homes.now c.in_ok-def.def code sizes c.in_ok-def.ensures;
    }
