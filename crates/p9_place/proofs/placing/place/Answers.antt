use Rattle.std.proofs.Common.{IfOk, IfErr}
use Rattle.p9_abs.specs.BuiltIn.{linked}
use Rattle.p9_place.specs.Places.{IsRefusal}
use Rattle.p9_place.proofs.Answering.{IsPlaced, AreObjects, objects-of, placed, refused, placed-inits, placed-bss, placed-data_size, placed-bss_size, placed-inits_at, placed-bss_at, refused-exactly, placed-exactly}
use Rattle.p9_place.proofs.placing.place.Goals as goal

pub returns : goal.returns
returns c =
    let ms = linked c.args.modules.now.items in
    let inits = c.in_ok-objects.objects.inits.items in
    let bss = c.in_ok-objects.objects.bss.items in
    let all : AreObjects ms inits bss =
    objects-of c.args.modules.now.items c.deref.result.now c.args.table.now.defs.entries inits bss c.deref.ensures.value
    c.requires.table c.requires.chosen c.in_ok-objects.ensures.inits c.in_ok-objects.ensures.bss in
    let there : IfOk c.lay_all.result (IsPlaced ms) =
    placed ms inits bss c.lay_all.result all c.lay_all.ensures.inits c.lay_all.ensures.bss c.lay_all.ensures.data_size c.lay_all.ensures.bss_size in
    let refusal : IfErr c.lay_all.result (IsRefusal ms) = refused ms inits bss c.lay_all.result all c.lay_all.ensures.err in
    record {
      inits = placed-inits ms c.lay_all.result there;
      bss = placed-bss ms c.lay_all.result there;
      data_size = placed-data_size ms c.lay_all.result there;
      bss_size = placed-bss_size ms c.lay_all.result there;
      placed_inits = placed-inits_at ms c.lay_all.result there;
      placed_bss = placed-bss_at ms c.lay_all.result there;
      fits = c.lay_all.ensures.fits;
      refused = refusal;
      refused_exactly = refused-exactly ms c.lay_all.result there c.lay_all.ensures.fits refusal;
      placed_exactly = placed-exactly ms c.lay_all.result refusal;
    }
