-- From a schedule, addresses and the parts of an image to what is loaded.
use Rattle.std.proofs.Common.{ℕ, zero, suc, ◌+◌, ◌-◌, ◌*◌, ◌/◌, ◌%◌, ◌^◌, ◌≡◌, ◌≤◌, ◌<◌, Some, List, [], ◌∷◌, ◌++◌, Result, Ok, Err, length, refl, sym, ap, ◌∙◌, subst, All, arith}
use Rattle.std.specs.Prelude.{slice_get, slice_index}
use Rattle.std.proofs.lemmas.Option.{none-some, slice_get_within}
use Rattle.p9_base.specs.Core.{text_start}
use Rattle.p9_abs.specs.declared.modules.AModule.{AModule}
use Rattle.p9_abs.specs.BuiltIn.{linked}
use Rattle.p9_abs.specs.Programs.{Placing, IsPlacing, routines_of, init_size, bss_size, init_bytes, arun}
use Rattle.p9_abs.specs.Validity.{IsValid}
use Rattle.p9_object.specs.Laws.{IsObject}
use Rattle.p9_r3k.specs.declared.lines.Line.{Line}
use Rattle.p9_r3k.specs.Delayed.{line_address}
use Rattle.p9_r3k.specs.Start.{start, page_from, zeros}
use Rattle.p9_slot.specs.Schedule.{EachOnce}
use Rattle.p9_text.specs.Weights.{text_weight, text_limit}
use Rattle.p9_pieces.specs.Callees.{callee_in}
use Rattle.p9_expand.specs.Program.{starts_of, program_lines}
use Rattle.p9_expand.proofs.Answering.{marks_right}
use Rattle.p9_image.specs.Text.{LinesFit, text_bytes}
use Rattle.p9_image_laws.specs.Reaching.{LinesReach}
use Rattle.p9_refine.specs.Maps.{IsMap, GoesBy}
use Rattle.p9_refine.proofs.Fine.{all-valid}
use Rattle.p9_refine.proofs.Placed.{maps_place}
use Rattle.p9_load_laws.specs.Showing as shown
use Rattle.p9_load_laws.specs.Showing.{entry_address, IsArranged, ShowsAs}
use Rattle.p9_load_laws.proofs.Mapping.{schedule_maps}
use Rattle.p9_load_laws.proofs.Showing.{machine_shows}
use Rattle.p9_aout.specs.declared.format.AoutFault.{AoutFault}
use Rattle.p9_aout.specs.declared.format.Image.{Image}
use Rattle.p9_aout.specs.Image.{ImageParts, parts_of, IsWithinBounds}
use Rattle.p9_reach.proofs.Sizes.{schedule_within}
use Rattle.p9_reach.proofs.Fitting.{schedule_fits}
use Rattle.p9_reach.proofs.Reaching.{schedule_reaches}
use Rattle.p9_symbols.specs.Placing.{data_start_of, placing_of}
use Rattle.p9_symbols.specs.Tables.{symbol_tables}
use Rattle.p9_symbols.proofs.Reading.{symbol-address}
use Rattle.p9_load.specs.Refusals.{AreLoadable}
use Rattle.p9_load.specs.Loading.{IsSchedule, places_in, below_data}
use Rattle.p9_load.proofs.Sizes.{text-length, init-length}
use Rattle.p9_load.proofs.Going.{data-begin, goes-by}

-- The scheduled lines of modules that are loaded

pub record IsReady (modules : List AModule) (new : List Line) (moved : List ℕ) : Type 0 where
  pub objects : All IsObject modules
  pub loadable : AreLoadable modules
  pub scheduled : IsSchedule (program_lines modules) new moved

-- from the lines that each part of loading sees
pub ready-from : (modules : List AModule) (old seen new : List Line) (moved : List ℕ) → All IsObject modules → AreLoadable modules →
    old ≡ program_lines modules → seen ≡ new → IsSchedule old new moved → IsReady modules seen moved
ready-from modules old seen new moved objects loadable e f h = record {
  objects = objects;
  loadable = loadable;
  scheduled = subst (λ l. IsSchedule (program_lines modules) l moved) (sym f) (subst (λ l. IsSchedule l new moved) e h);
}

pub fit-lines : (modules : List AModule) (new : List Line) (moved : List ℕ) → IsReady modules new moved → LinesFit new
fit-lines modules new moved h = schedule_fits modules new moved h.objects h.scheduled.once h.scheduled.added

pub reach-lines : (modules : List AModule) (new : List Line) (moved : List ℕ) → IsReady modules new moved → LinesReach new
reach-lines modules new moved h = schedule_reaches modules new moved h.objects h.scheduled.once h.scheduled.added h.scheduled.spaced

few-lines : (modules : List AModule) (new : List Line) (moved : List ℕ) → IsReady modules new moved → length new ≤ 4194304
few-lines modules new moved h = omega (arith, schedule_within modules new moved h.scheduled.once h.scheduled.spaced, h.loadable.text_fits)

small-text : (modules : List AModule) (new : List Line) (moved : List ℕ) → IsReady modules new moved → line_address (length new) < 2 ^ 28
small-text modules new moved h = omega (arith, few-lines modules new moved h)

first-line : (old : List Line) → 0 < length old → (l : Line) × (slice_get old 0 ≡ Some l)
first-line [] h = absurd (omega (arith, h))
first-line (l ∷ rest) h = (l, refl)

-- there is a line
some-line : (modules : List AModule) (new : List Line) (moved : List ℕ) → IsReady modules new moved → 0 < length new
some-line modules new moved h =
    let found = first-line (program_lines modules) (omega arith) in
    let there = slice_get_within new (slice_index moved 0) _ (h.scheduled.once.kept 0 found.0 found.1) in
    omega (arith, there)

line-map : (modules : List AModule) (new : List Line) (moved : List ℕ) → IsReady modules new moved → IsMap modules (entry_address moved new)
line-map modules new moved h =
    schedule_maps modules moved new (all-valid modules h.objects) (marks_right modules (program_lines modules) refl)
    h.scheduled.once h.scheduled.calls h.scheduled.divided (small-text modules new moved h)

goes : (modules : List AModule) (new : List Line) (moved places : List ℕ) (size : ℕ) → IsReady modules new moved → places ≡ places_in modules new moved → size ≡ 4 * length new →
    GoesBy modules (entry_address moved new) (placing_of modules places size)
goes modules new moved places size h e s = goes-by modules new moved places size h.scheduled.once (small-text modules new moved h) h.loadable.data_fits e s

page-whole : (a : ℕ) → page_from a % 4096 ≡ 0
page-whole a = omega arith

pub placed : (modules : List AModule) (new : List Line) (moved places : List ℕ) (size : ℕ) → IsReady modules new moved → places ≡ places_in modules new moved → size ≡ 4 * length new →
    IsPlacing modules (placing_of modules places size)
placed modules new moved places size h e s =
    maps_place modules (entry_address moved new) (placing_of modules places size) h.objects (line-map modules new moved h) (goes modules new moved places size h e s) (page-whole (text_start + size))

-- The image

pub record HasParts (modules : List AModule) (p : Placing) (new : List Line) (image : Image) : Type 0 where
  pub entry : image.entry ≡ text_start
  pub text : image.text ≡ text_bytes (symbol_tables modules p) new
  pub init : image.init ≡ init_bytes modules p
  pub bss : image.bss ≡ bss_size (linked modules)

pub bounds : (modules : List AModule) (p : Placing) (new : List Line) (moved : List ℕ) (image : Image) → IsReady modules new moved → HasParts modules p new image →
    IsWithinBounds (parts_of image)
bounds modules p new moved image h i =
    let long : length image.text ≡ 4 * length new = ap length i.text ∙ text-length (symbol_tables modules p) new in
    let given : length image.init ≡ init_size (linked modules) = ap length i.init ∙ init-length modules p in
    let some = some-line modules new moved h in
    let few = few-lines modules new moved h in
    record {
      whole_words = omega (arith, long);
      some_text = omega (arith, long, some);
      most_text = omega (arith, long, few);
      most_data = omega (arith, given, i.bss, h.loadable.data_fits);
      entry_is_word = omega (arith, i.entry);
      entry_from = omega (arith, i.entry);
      entry_below = omega (arith, i.entry, long, some);
    }

-- The run

abbrev parts-in : List AModule → Placing → List Line → ImageParts
parts-in modules p new = record { entry = text_start; text = text_bytes (symbol_tables modules p) new; init = init_bytes modules p; bss = bss_size (linked modules) }

parts-same : (modules : List AModule) (p : Placing) (new : List Line) (image : Image) → HasParts modules p new image → parts_of image ≡ parts-in modules p new
parts-same modules p new image i =
    let made : ℕ → List ℕ → List ℕ → ℕ → ImageParts = λ entry text init bss. record { entry = entry; text = text; init = init; bss = bss } in
    ap (λ x. made x image.text image.init image.bss) i.entry
    ∙ (ap (λ x. made text_start x image.init image.bss) i.text
    ∙ (ap (λ x. made text_start (text_bytes (symbol_tables modules p) new) x image.bss) i.init
    ∙ ap (λ x. made text_start (text_bytes (symbol_tables modules p) new) (init_bytes modules p) x) i.bss))

arranged : (modules : List AModule) (new : List Line) (moved places : List ℕ) (size : ℕ) → IsReady modules new moved → places ≡ places_in modules new moved → size ≡ 4 * length new →
    (let p : Placing = placing_of modules places size in IsArranged modules p moved new (symbol_tables modules p))
arranged modules new moved places size h e s =
    let p : Placing = placing_of modules places size in
    record {
      runs = h.scheduled.runs;
      fit = fit-lines modules new moved h;
      reach = reach-lines modules new moved h;
      small = small-text modules new moved h;
      map = line-map modules new moved h;
      goes = goes modules new moved places size h e s;
      begin = data-begin new size s;
      symbols = λ unit k. symbol-address modules p unit k;
    }

-- what the machine does from such parts
abbrev Shows : List AModule → Placing → (input : List ℕ) → (n : ℕ) → ImageParts → Type 0
Shows modules p input n parts = ShowsAs (start parts.text parts.init parts.bss parts.entry input) n (arun modules p (below_data parts.text p.data_start) input n)

shows : (modules : List AModule) (new : List Line) (moved places : List ℕ) (size : ℕ) → IsReady modules new moved → places ≡ places_in modules new moved → size ≡ 4 * length new →
    (input : List ℕ) (n : ℕ) → (let p : Placing = placing_of modules places size in Shows modules p input n (parts-in modules p new))
shows modules new moved places size h e s input n =
    let p : Placing = placing_of modules places size in
    let text : List ℕ = text_bytes (symbol_tables modules p) new in
    let long : length text ≡ 4 * length new = text-length (symbol_tables modules p) new in
    let gap : shown.data_start_of new - line_address (length new) ≡ data_start_of size - (text_start + length text) =
    ap (λ k. k - line_address (length new)) (sym (data-begin new size s)) ∙ ap (λ k. data_start_of size - (text_start + k)) (sym long) in
    let below : shown.below_data text new ≡ below_data text p.data_start = ap (λ k. text ++ zeros k) gap in
    subst (λ b. ShowsAs (start text (init_bytes modules p) (bss_size (linked modules)) text_start input) n (arun modules p b input n)) below
    (machine_shows modules p moved new (symbol_tables modules p) input n h.objects h.loadable.joins.once (arranged modules new moved places size h e s)
    (omega (arith, long, few-lines modules new moved h), omega (arith, init-length modules p, h.loadable.data_fits)))

same-ok : (a b : ImageParts) → (let r : Result ImageParts AoutFault = Ok a in r ≡ Ok b) → a ≡ b
same-ok a b e = cc

pub runs : (modules : List AModule) (new : List Line) (moved places : List ℕ) (size : ℕ) (image : Image) (read : Result ImageParts AoutFault) →
    IsReady modules new moved → places ≡ places_in modules new moved → size ≡ 4 * length new → HasParts modules (placing_of modules places size) new image →
    read ≡ Ok (parts_of image) → (parts : ImageParts) (input : List ℕ) (n : ℕ) → read ≡ Ok parts → Shows modules (placing_of modules places size) input n parts
runs modules new moved places size image read h e s i back parts input n r =
    let p : Placing = placing_of modules places size in
    let same : parts ≡ parts-in modules p new = same-ok parts (parts_of image) (sym r ∙ back) ∙ parts-same modules p new image i in
    subst (Shows modules p input n) (sym same) (shows modules new moved places size h e s input n)
