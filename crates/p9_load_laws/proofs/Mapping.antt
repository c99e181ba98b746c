-- Where scheduled lines are entered.
use Rattle.std.proofs.Common.{ℕ, zero, suc, ◌+◌, ◌^◌, ◌==◌, ◌||◌, ◌≡◌, ◌≤◌, ◌<◌, Bool, true, false, get_or, Option, Some, None, List, [], ◌∷◌, length, take, drop, sum_by, refl, sym, ◌∙◌, ap, arith, All}
use Rattle.std.proofs.lemmas.Bool.Decides.{nat_tests}
use Rattle.std.proofs.lemmas.List.Sums.{sum_by-cons}
use Rattle.std.proofs.lemmas.Option.{none-some}
use Rattle.std.specs.Prelude.{slice_get, slice_index}
use Rattle.p9_abs.specs.declared.modules.AModule.{AModule}
use Rattle.p9_abs.specs.BuiltIn.{linked}
use Rattle.p9_abs.specs.Runs.{Routine}
use Rattle.p9_abs.specs.Programs.{routines_of, init_size, bss_size}
use Rattle.p9_abs.specs.Validity.{IsValid}
use Rattle.p9_r3k.proofs.Begins.{page_from-above, page_from-near}
use Rattle.p9_r3k.specs.declared.lines.Line.{Line}
use Rattle.p9_r3k.specs.Delayed.{line_address, least, enter}
use Rattle.p9_r3k.specs.Uses.{links}
use Rattle.p9_slot.specs.Blocks.{is_named}
use Rattle.p9_slot.specs.Schedule.{is_at, EachOnce, CallsReturn, TargetsDivide}
use Rattle.p9_text.specs.Places.{places_of}
use Rattle.p9_lines.proofs.Having.{have_lines}
use Rattle.p9_lines.specs.FormLines.{lines_of, entry_lines}
use Rattle.p9_pieces.specs.Callees.{callee_in}
use Rattle.p9_pieces.specs.Ways.{Scope, setting_of, way_of}
use Rattle.p9_pieces.specs.Pieces.{Piece, pieces_from}
use Rattle.p9_expand.proofs.Valid.{IsSound, all_sound}
use Rattle.p9_expand.specs.Laws.{IsMarked}
use Rattle.p9_expand.specs.Program.{is_first, starts_of, program_lines}
use Rattle.p9_expand_laws.proofs.Standing.{instructions_stand}
use Rattle.p9_expand_laws.specs.Standing.{entry_of, line_of, scope_in}
use Rattle.p9_expand_laws.proofs.Numbered.{starts-at, piece-at}
use Rattle.p9_forms.specs.Standing.{Stand}
use Rattle.p9_refine.proofs.Numbers.{all-at, lines-rise, has-first}
use Rattle.p9_refine.specs.Maps.{IsMap, function_line}
use Rattle.p9_load_laws.specs.Showing.{entry_address, data_start_of}
use Rattle.p9_load_laws.specs.Mapping.{ScheduleMaps, ScheduleLeavesRoom}

-- Lists

within : {X : Type 0} (xs : List X) (i : ℕ) (x : X) → slice_get xs i ≡ Some x → i < length xs
within [] i x e = absurd (none-some x e)
within (y ∷ ys) zero x e = omega arith
within (y ∷ ys) (suc i) x e = (let r = within ys i x e in omega (arith, r))

there : {X : Type 0} (xs : List X) (i : ℕ) → i < length xs → (x : X) × (slice_get xs i ≡ Some x)
there [] i h = absurd (omega (arith, h))
there (y ∷ ys) zero h = (y, refl)
there (y ∷ ys) (suc i) h = there ys i (omega (arith, h))

-- Where lines are entered

least_below : (end : ℕ) (ns : List ℕ) → least end ns ≤ end
least_below end [] = omega arith
least_below end (n ∷ ns) = (let r = least_below end ns in omega (arith, r))

least_rises : (end : ℕ) (ns : List ℕ) (i j : ℕ) → i ≤ j → least end (drop i ns) ≤ least end (drop j ns)
least_rises end [] zero zero h = omega arith
least_rises end [] zero (suc j) h = omega arith
least_rises end [] (suc i) zero h = omega arith
least_rises end [] (suc i) (suc j) h = omega arith
least_rises end (n ∷ ns) zero zero h = omega arith
least_rises end (n ∷ ns) zero (suc j) h = (let r = least_rises end ns zero j (omega arith) in omega (arith, r))
least_rises end (n ∷ ns) (suc i) zero h = absurd (omega (arith, h))
least_rises end (n ∷ ns) (suc i) (suc j) h = least_rises end ns i j (omega (arith, h))

least_at : (end : ℕ) (ns : List ℕ) (i : ℕ) → i < length ns → least end (drop i ns) ≤ slice_index ns i
least_at end [] i h = absurd (omega (arith, h))
least_at end (n ∷ ns) zero h = omega arith
least_at end (n ∷ ns) (suc i) h = least_at end ns i (omega (arith, h))

-- a line is entered no later than where it stands, which is among the new lines
entered_at : (modules : List AModule) (moved : List ℕ) (new : List Line) → EachOnce (program_lines modules) new moved → (i : ℕ) → i < length (program_lines modules) →
    (enter moved (length new) i ≤ slice_index moved i) × (slice_index moved i < length new)
entered_at modules moved new once i h =
    let count = once.count in
    let line = there (program_lines modules) i h in (
      least_at (length new) moved i (omega (arith, h, count)),
      within new (slice_index moved i) _ (once.kept i line.0 line.1),
    )

module _ (modules : List AModule) (moved : List ℕ) (new : List Line) (valid : All IsValid modules) (marks : IsMarked modules (program_lines modules))
    (once : EachOnce (program_lines modules) new moved) (calls : CallsReturn (program_lines modules) new moved) (divided : TargetsDivide (program_lines modules) new moved)
    (small : line_address (length new) < 2 ^ 28) where
  abbrev lines : List Line
  lines = program_lines modules

  abbrev entered : ℕ → ℕ
  entered i = enter moved (length new) i

  linked_within : (i : ℕ) (o : Option Line) → slice_get lines i ≡ o → is_at links lines i ≡ true → i < length lines
  linked_within i None e h = absurd (no_line (ap (Rattle.p9_slot.specs.Schedule.line_is links) (sym e) ∙ h))
    where
      no_line : false ≡ true → ⊥
      no_line e = cc
  linked_within i (Some line) e h = within lines i line e

  -- the first line of a function is a target

  first_entry : (starts : List ℕ) (n : ℕ) (rs : List Routine) (f : ℕ) (r : Routine) (i : ℕ) → slice_get rs f ≡ Some r →
      slice_index starts (n + sum_by places_of (take f rs)) ≡ i → is_first starts n rs i ≡ true
  first_entry starts n [] f r i e s = absurd (none-some r e)
  first_entry starts n (q ∷ rs) zero r i e s = (let t : slice_index starts n ≡ i = ap (slice_index starts) (omega arith) ∙ s in or_left (slice_index starts n == i) (is_first starts (n + places_of q) rs i) (same_test (slice_index starts n) i t))
    where
      same_test : (a b : ℕ) → a ≡ b → (a == b) ≡ true
      same_test a b e = grind (arith, nat_tests)

      or_left : (a b : Bool) → a ≡ true → (a || b) ≡ true
      or_left true b e = refl
      or_left false b e = cc
  first_entry starts n (q ∷ rs) (suc f) r i e s =
      let all = sum_by-cons places_of q (take f rs) in
      or_right (slice_index starts n == i) (is_first starts (n + places_of q) rs i)
      (first_entry starts (n + places_of q) rs f r i e (ap (slice_index starts) (omega (arith, all)) ∙ s))
    where
      or_right : (a b : Bool) → b ≡ true → (a || b) ≡ true
      or_right true b e = refl
      or_right false b e = e

  first_is_target : (f : ℕ) (r : Routine) (line : Line) → slice_get (routines_of modules) f ≡ Some r → slice_get lines (function_line modules f) ≡ Some line → line.is_target ≡ true
  first_is_target f r line e here =
      let rs : List Routine = routines_of modules in
      let starts : List ℕ = starts_of (callee_in modules) rs in
      let pieces : List Piece = pieces_from (callee_in modules) 0 rs in
      let piece = piece-at (callee_in modules) 0 rs f r 0 (entry_lines (setting_of r)) e refl in
      let inside = within pieces (sum_by places_of (take f rs) + 0) (entry_lines (setting_of r)) piece in
      let start : get_or starts (entry_of modules f) 0 ≡ function_line modules f = starts-at 2 pieces (entry_of modules f) (omega (arith, inside)) in
      let first : is_first starts 0 rs (function_line modules f) ≡ true = first_entry starts 0 rs f r (function_line modules f) e (ap (slice_index starts) (omega arith) ∙ start) in
      marks (function_line modules f) line here ∙ ap (λ (b : Bool). b || is_named lines (function_line modules f)) first

  -- lines before a function are entered before its first line
  before_function : (f i : ℕ) (r : Routine) → slice_get (routines_of modules) f ≡ Some r → i < function_line modules f → function_line modules f < length lines → entered i < entered (function_line modules f)
  before_function f i r e h inside =
      let t : ℕ = function_line modules f in
      let line = there lines t inside in
      let apart = divided i t line.0 line.1 (first_is_target f r line.0 e line.1) h in
      let at = (entered_at modules moved new once i (omega (arith, h, inside))).0 in
      omega (arith, apart, at)

  -- each function has a line
  has_line : (place : ℕ → ℕ) (n : ℕ) (piece : List Line) → 0 < length piece → Stand lines place n piece → n < length lines
  has_line place n [] some stand = absurd (omega (arith, some))
  has_line place n (line ∷ rest) some stand = within lines n _ stand.1

  function_within : (f : ℕ) (r : Routine) → slice_get (routines_of modules) f ≡ Some r → function_line modules f < length lines
  function_within f r e =
      let i = has-first r (all-at IsSound (routines_of modules) f r (all_sound modules valid) e) in
      let s : Scope = scope_in modules f r in
      let stand = instructions_stand modules f 0 r i.0 i.1 valid e i.2 i.3 in
      let inside = has_line (line_of modules) (line_of modules (s.first + 0)) (lines_of s.setting (way_of s 0 i.1) i.1) (have_lines s.setting (way_of s 0 i.1) i.1) stand.there in
      let before = lines-rise modules (entry_of modules f) (s.first + 0) (omega arith) in
      omega (arith, inside, before)

  pub maps : IsMap modules (entry_address moved new)
  maps = record {
    code = λ i h. (let w = (entered_at modules moved new once i h).0 in let b = (entered_at modules moved new once i h).1 in (omega arith, omega arith, omega (arith, w, b, small)));
    rising = λ i j h inside. (let r = least_rises (length new) moved i j h in omega (arith, r));
    apart = λ f i r e h. (let b = before_function f i r e h (function_within f r e) in omega (arith, b));
    returns = λ i h. (
        let inside = linked_within i (slice_get lines i) refl h in
        let at = (entered_at modules moved new once i inside).0 in
        let back = calls i h in
        omega (arith, at, back));
  }

pub schedule_maps : ScheduleMaps
schedule_maps modules moved new valid marks once calls divided small = maps modules moved new valid marks once calls divided small

pub schedule_leaves_room : ScheduleLeavesRoom
schedule_leaves_room modules moved new once small few = record {
  before_data = λ i h. (
      let e = entered_at modules moved new once i h in
      let low = e.0 in
      let high = e.1 in
      let above = page_from-above (line_address (length new)) in
      omega (arith, low, high, above));
  room = (let near = page_from-near (line_address (length new)) in omega (arith, near, small, few));
}
