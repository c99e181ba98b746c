use Rattle.std.proofs.Common.{◌≡◌, length, sym, ap, ◌∙◌, subst, All, refl}
use Rattle.p9_abs.specs.Programs.{init_bytes}
use Rattle.p9_slot.specs.declared.scheduling.Scheduled.{Scheduled}
use Rattle.p9_image.specs.Text.{text_bytes}
use Rattle.p9_refine.proofs.Fine.{all-valid}
use Rattle.p9_aout.specs.Image.{image_of}
use Rattle.p9_aout.specs.Symbols.{HasWholeName}
use Rattle.p9_symbols.specs.Placing.{placing_of}
use Rattle.p9_symbols.specs.Tables.{symbol_tables}
use Rattle.p9_symbols.specs.Entries.{symbol_entries}
use Rattle.p9_load.specs.Addresses.{entered_addresses}
use Rattle.p9_load.specs.Loading.{places_in}
use Rattle.p9_load.proofs.Naming.{names-whole}
use Rattle.p9_load.proofs.Finishing.{IsReady, ready-from, HasParts, fit-lines, reach-lines, bounds, placed, runs}
use Rattle.p9_load.proofs.executable.written.Goals as goal

pub image-requires-clause-fit : goal.image-requires-clause-fit
image-requires-clause-fit c =
    let modules = c.args.modules.now.items in
    let new = c.as_slice-lines.result.now in
    let moved = c.in_ok-scheduled.scheduled.moved.items in
    let s = c.in_ok-scheduled.ensures in
    let ready : IsReady modules new moved =
    ready-from modules c.args.expansion.now.lines new c.in_ok-scheduled.scheduled.lines moved c.requires.objects c.requires.loadable c.requires.expansion.lines
    (c.as_slice-lines.ensures.value ∙ ap (λ (s : Scheduled). s.lines) c.scheduled.view_is)
    (record { once = s.once; added = s.added; justified = s.justified; calls = s.calls; divided = s.divided; spaced = s.spaced; runs = s.runs }) in
    fit-lines modules new moved ready

pub write_aout-requires-clause-bounds : goal.write_aout-requires-clause-bounds
write_aout-requires-clause-bounds c =
    let modules = c.args.modules.now.items in
    let new = c.as_slice-lines.result.now in
    let moved = c.in_ok-scheduled.scheduled.moved.items in
    let s = c.in_ok-scheduled.ensures in
    let ready : IsReady modules new moved =
    ready-from modules c.args.expansion.now.lines new c.in_ok-scheduled.scheduled.lines moved c.requires.objects c.requires.loadable c.requires.expansion.lines
    (c.as_slice-lines.ensures.value ∙ ap (λ (s : Scheduled). s.lines) c.scheduled.view_is)
    (record { once = s.once; added = s.added; justified = s.justified; calls = s.calls; divided = s.divided; spaced = s.spaced; runs = s.runs }) in
    let places = c.in_ok-places.places.items in
    let size = c.in_ok-text_size.text_size in
    let p = placing_of modules places size in
    let seen : c.deref-3.result.now ≡ places = c.deref-3.ensures.value in
    let image = c.in_ok-image.image in
    let parts : HasParts modules p new image = record {
      entry = c.in_ok-image.ensures.entry;
      text = c.in_ok-image.ensures.text ∙ ap (λ l. text_bytes (symbol_tables modules (placing_of modules l size)) new) seen;
      init = c.in_ok-image.ensures.init ∙ ap (λ l. init_bytes modules (placing_of modules l size)) seen;
      bss = c.in_ok-image.ensures.bss;
    } in
    bounds modules p new moved image ready parts

pub write_aout-requires-clause-names : goal.write_aout-requires-clause-names
write_aout-requires-clause-names c =
    let modules = c.args.modules.now.items in
    let p = placing_of modules c.deref-3.result.now c.in_ok-text_size.text_size in
    subst (All HasWholeName) (sym c.in_ok-image.ensures.symbols) (names-whole modules p (all-valid modules c.requires.objects))

pub returns-clause-loads : goal.returns-clause-loads
returns-clause-loads c =
    let modules = c.args.modules.now.items in
    let new = c.as_slice-lines.result.now in
    let moved = c.in_ok-scheduled.scheduled.moved.items in
    let s = c.in_ok-scheduled.ensures in
    let ready : IsReady modules new moved =
    ready-from modules c.args.expansion.now.lines new c.in_ok-scheduled.scheduled.lines moved c.requires.objects c.requires.loadable c.requires.expansion.lines
    (c.as_slice-lines.ensures.value ∙ ap (λ (s : Scheduled). s.lines) c.scheduled.view_is)
    (record { once = s.once; added = s.added; justified = s.justified; calls = s.calls; divided = s.divided; spaced = s.spaced; runs = s.runs }) in
    let places = c.in_ok-places.places.items in
    let size = c.in_ok-text_size.text_size in
    let p = placing_of modules places size in
    let seen : c.deref-3.result.now ≡ places = c.deref-3.ensures.value in
    let image = c.in_ok-image.image in
    let parts : HasParts modules p new image = record {
      entry = c.in_ok-image.ensures.entry;
      text = c.in_ok-image.ensures.text ∙ ap (λ l. text_bytes (symbol_tables modules (placing_of modules l size)) new) seen;
      init = c.in_ok-image.ensures.init ∙ ap (λ l. init_bytes modules (placing_of modules l size)) seen;
      bss = c.in_ok-image.ensures.bss;
    } in
    let listed : places ≡ places_in modules new moved =
    c.in_ok-places.ensures
    ∙ (ap (λ l. entered_addresses l (length new) c.deref.result.now) (c.deref-2.ensures.value ∙ ap (λ (s : Scheduled). s.moved.items) c.scheduled.view_is)
    ∙ ap (λ l. entered_addresses moved (length new) l) (c.deref.ensures.value ∙ c.requires.expansion.starts)) in
    record {
      image = image;
      bytes = c.in_ok-bytes.ensures.bytes;
      read = c.in_ok-bytes.ensures.read_back;
      entry = refl;
      starts = parts.entry;
      text = record {
        lines = new;
        moved = moved;
        scheduled = ready.scheduled;
        fit = fit-lines modules new moved ready;
        reach = reach-lines modules new moved ready;
        size = c.in_ok-text_size.ensures;
        places = listed;
        words = parts.text;
      };
      init = parts.init;
      bss = parts.bss;
      symbols = c.in_ok-image.ensures.symbols ∙ ap (λ l. symbol_entries modules (placing_of modules l size)) seen;
    }

pub returns-clause-placed : goal.returns-clause-placed
returns-clause-placed c =
    let modules = c.args.modules.now.items in
    let new = c.as_slice-lines.result.now in
    let moved = c.in_ok-scheduled.scheduled.moved.items in
    let s = c.in_ok-scheduled.ensures in
    let ready : IsReady modules new moved =
    ready-from modules c.args.expansion.now.lines new c.in_ok-scheduled.scheduled.lines moved c.requires.objects c.requires.loadable c.requires.expansion.lines
    (c.as_slice-lines.ensures.value ∙ ap (λ (s : Scheduled). s.lines) c.scheduled.view_is)
    (record { once = s.once; added = s.added; justified = s.justified; calls = s.calls; divided = s.divided; spaced = s.spaced; runs = s.runs }) in
    let places = c.in_ok-places.places.items in
    let size = c.in_ok-text_size.text_size in
    let listed : places ≡ places_in modules new moved =
    c.in_ok-places.ensures
    ∙ (ap (λ l. entered_addresses l (length new) c.deref.result.now) (c.deref-2.ensures.value ∙ ap (λ (s : Scheduled). s.moved.items) c.scheduled.view_is)
    ∙ ap (λ l. entered_addresses moved (length new) l) (c.deref.ensures.value ∙ c.requires.expansion.starts)) in
    placed modules new moved places size ready listed c.in_ok-text_size.ensures

pub returns-clause-runs : goal.returns-clause-runs
returns-clause-runs c =
    let modules = c.args.modules.now.items in
    let new = c.as_slice-lines.result.now in
    let moved = c.in_ok-scheduled.scheduled.moved.items in
    let s = c.in_ok-scheduled.ensures in
    let ready : IsReady modules new moved =
    ready-from modules c.args.expansion.now.lines new c.in_ok-scheduled.scheduled.lines moved c.requires.objects c.requires.loadable c.requires.expansion.lines
    (c.as_slice-lines.ensures.value ∙ ap (λ (s : Scheduled). s.lines) c.scheduled.view_is)
    (record { once = s.once; added = s.added; justified = s.justified; calls = s.calls; divided = s.divided; spaced = s.spaced; runs = s.runs }) in
    let places = c.in_ok-places.places.items in
    let size = c.in_ok-text_size.text_size in
    let p = placing_of modules places size in
    let seen : c.deref-3.result.now ≡ places = c.deref-3.ensures.value in
    let image = c.in_ok-image.image in
    let parts : HasParts modules p new image = record {
      entry = c.in_ok-image.ensures.entry;
      text = c.in_ok-image.ensures.text ∙ ap (λ l. text_bytes (symbol_tables modules (placing_of modules l size)) new) seen;
      init = c.in_ok-image.ensures.init ∙ ap (λ l. init_bytes modules (placing_of modules l size)) seen;
      bss = c.in_ok-image.ensures.bss;
    } in
    let listed : places ≡ places_in modules new moved =
    c.in_ok-places.ensures
    ∙ (ap (λ l. entered_addresses l (length new) c.deref.result.now) (c.deref-2.ensures.value ∙ ap (λ (s : Scheduled). s.moved.items) c.scheduled.view_is)
    ∙ ap (λ l. entered_addresses moved (length new) l) (c.deref.ensures.value ∙ c.requires.expansion.starts)) in
    runs modules new moved places size image (image_of c.in_ok-bytes.bytes) ready listed c.in_ok-text_size.ensures parts c.in_ok-bytes.ensures.read_back
