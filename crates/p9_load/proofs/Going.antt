-- A placing by the list of addresses goes by the addresses at which lines are entered.
use Rattle.std.proofs.Common.{ℕ, zero, suc, ◌+◌, ◌*◌, ◌^◌, ◌≡◌, ◌≤◌, ◌<◌, get_or, Some, List, [], ◌∷◌, length, take, map, sum_by, refl, sym, ap, ◌∙◌, subst, All, arith}
use Rattle.std.specs.Prelude.{slice_get, slice_index}
use Rattle.std.proofs.lemmas.List.Sums.{sum_by-cons}
use Rattle.std.proofs.lemmas.Option.{none-some, same_Some, slice_get_within}
use Rattle.p9_base.specs.Core.{text_start}
use Rattle.p9_abs.specs.declared.modules.AModule.{AModule}
use Rattle.p9_abs.specs.BuiltIn.{linked}
use Rattle.p9_abs.specs.Runs.{Routine}
use Rattle.p9_abs.specs.Programs.{Placing, routines_of, init_size, bss_size}
use Rattle.p9_r3k.specs.declared.lines.Line.{Line}
use Rattle.p9_r3k.specs.Delayed.{line_address, enter}
use Rattle.p9_r3k.specs.Start.{page_from}
use Rattle.p9_slot.specs.Schedule.{EachOnce}
use Rattle.p9_text.specs.Places.{places_of}
use Rattle.p9_pieces.specs.Callees.{callee_in}
use Rattle.p9_pieces.specs.Pieces.{Piece, pieces_from, starts_from}
use Rattle.p9_expand.specs.Program.{starts_of, program_lines}
use Rattle.p9_expand.proofs.Leading.{numbers_of, pieces_length}
use Rattle.p9_expand_laws.specs.Standing.{line_of}
use Rattle.p9_expand_laws.proofs.Numbered.{starts-at}
use Rattle.p9_refine.specs.Maps.{GoesBy}
use Rattle.p9_load_laws.specs.Showing as shown
use Rattle.p9_load_laws.specs.Showing.{entry_address}
use Rattle.p9_load_laws.proofs.Mapping.{schedule_leaves_room}
use Rattle.p9_symbols.specs.Placing.{entry_of, data_start_of, placing_of}
use Rattle.p9_load.specs.Addresses.{entered_addresses}

map-index : (f : ℕ → ℕ) (xs : List ℕ) (n : ℕ) → n < length xs → get_or (map f xs) n 0 ≡ f (get_or xs n 0)
map-index f [] n h = absurd (omega (arith, h))
map-index f (x ∷ xs) zero h = refl
map-index f (x ∷ xs) (suc n) h = map-index f xs n (omega (arith, h))

starts-length : (n : ℕ) (ps : List Piece) → length (starts_from n ps) ≡ length ps
starts-length n [] = refl
starts-length n (p ∷ ps) = ap suc (starts-length (n + length p) ps)

-- a function's numbers are among those of all
numbers-inside : (rs : List Routine) (f : ℕ) (r : Routine) → slice_get rs f ≡ Some r → entry_of rs f + places_of r ≤ numbers_of rs
numbers-inside [] f r e = absurd (none-some r e)
numbers-inside (q ∷ rs) zero r e = (let same : q ≡ r = same_Some q r e in omega (arith, ap places_of same, sum_by-cons places_of q rs))
numbers-inside (q ∷ rs) (suc f) r e =
    omega (arith, numbers-inside rs f r e, sum_by-cons places_of q rs, sum_by-cons places_of q (take f rs))

-- the address by its number in the order of the text
pub address-at : (modules : List AModule) (new : List Line) (moved places : List ℕ) (n : ℕ) →
    places ≡ entered_addresses moved (length new) (starts_of (callee_in modules) (routines_of modules)) → n < numbers_of (routines_of modules) →
    slice_index places n ≡ entry_address moved new (line_of modules n)
address-at modules new moved places n e h =
    let ps : List Piece = pieces_from (callee_in modules) 0 (routines_of modules) in
    let below : n < length ps = omega (arith, h, pieces_length (callee_in modules) 0 (routines_of modules)) in
    ap (λ l. get_or l n 0) e
    ∙ (map-index (λ i. line_address (enter moved (length new) i)) (starts_from 2 ps) n (omega (arith, below, starts-length 2 ps))
    ∙ ap (entry_address moved new) (starts-at 2 ps n below))

pub data-begin : (new : List Line) (size : ℕ) → size ≡ 4 * length new → data_start_of size ≡ shown.data_start_of new
data-begin new size e = ap (λ n. page_from (text_start + n)) e

pub goes-by : (modules : List AModule) (new : List Line) (moved places : List ℕ) (size : ℕ) → EachOnce (program_lines modules) new moved →
    line_address (length new) < 2 ^ 28 → init_size (linked modules) + bss_size (linked modules) ≤ 2 ^ 24 →
    places ≡ entered_addresses moved (length new) (starts_of (callee_in modules) (routines_of modules)) → size ≡ 4 * length new →
    GoesBy modules (entry_address moved new) (placing_of modules places size)
goes-by modules new moved places size once small few e s =
    let room = schedule_leaves_room modules moved new once small few in
    let begin : data_start_of size ≡ shown.data_start_of new = data-begin new size s in
    record {
      functions = λ f r there. address-at modules new moved places (entry_of (routines_of modules) f) e (omega (arith, numbers-inside (routines_of modules) f r there));
      instructions = λ f k r there inside. address-at modules new moved places (entry_of (routines_of modules) f + 1 + k) e (omega (arith, inside, numbers-inside (routines_of modules) f r there));
      before_data = λ i h. subst (λ n. entry_address moved new i < n) (sym begin) (room.before_data i h);
      room = omega (arith, begin, room.room);
    }
