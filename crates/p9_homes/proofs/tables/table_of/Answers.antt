use Rattle.std.proofs.Common.{arith, ◌∙◌, sym, subst, length, ap}
use Rattle.p9_homes.specs.Tables.{AreWithin}
use Rattle.p9_homes.proofs.Tabling.{table-start, taken-back, homes-along, table-along}
use Rattle.p9_homes.proofs.tables.table_of.Goals as goal

pub mark_all-requires : goal.mark_all-requires
mark_all-requires c =
    let regions = c.deref.ensures.value ∙ c.regions.view_is in
    let homes = c.deref-2.ensures.value ∙ c.homes.view_is in
    record {
      within = subst (AreWithin c.args.count) (sym regions) c.requires.within;
      homes = homes-along _ _ _ _ (sym regions) (sym homes) c.requires.homes;
      none = table-start c.deref.result.now c.deref-2.result.now c.args.count c.deref_mut.result.now (c.deref_mut.ensures.value ∙ c.in_ok-list.ensures);
    }

pub returns : goal.returns
returns c =
    let list = c.deref_mut.ensures.value in
    let kept = c.mark_all.auto.cells in
    let count = ap length list in
    let k = c.in_ok-list.list.ok.0 in
    table-along _ _ _ _ c.args.count _ _ (c.deref.ensures.value ∙ c.regions.view_is) (c.deref-2.ensures.value ∙ c.homes.view_is)
    (sym (taken-back c.mark_all.new.cells c.in_ok-list.list.items c.in_ok-list.list.len (omega (arith, kept, count, k)))) c.mark_all.ensures
