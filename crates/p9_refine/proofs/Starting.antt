-- The start: R30 becomes the static base, and the first function is entered.
use Rattle.std.proofs.Common.{ℕ, ◌+◌, ◌-◌, ◌^◌, ◌≡◌, ◌≤◌, ◌<◌, Bool, true, false, Option, Some, None, List, [], ◌∷◌, ◌++◌, cond, length, length-append, sum_by, filter, flat_map, unwrap_or, refl, sym, ap, ◌∙◌, subst, All, if◌then◌else◌, arith}
use Rattle.std.specs.Prelude.{slice_get, option_and_then}
use Rattle.std.proofs.lemmas.List.{length-replicate}
use Rattle.std.proofs.lemmas.List.Sums.{sum_by-cons, sum_by-append}
use Rattle.std.proofs.lemmas.Option.{same_Some}
use Rattle.p9_base.specs.Words.{word_sum}
use Rattle.p9_base.specs.Core.{text_start, stack_start}
use Rattle.p9_base.specs.SystemCalls.{State}
use Rattle.p9_base.specs.Holding.{LaidOut}
use Rattle.p9_abs.specs.declared.modules.AModule.{AModule}
use Rattle.p9_abs.specs.declared.modules.Body.{Body}
use Rattle.p9_abs.specs.declared.modules.Body.TheVariants.{Declared, Used, Text, Data, Common}
use Rattle.p9_abs.specs.declared.modules.DataPiece.{DataPiece}
use Rattle.p9_abs.specs.declared.modules.DataPiece.TheVariants.{Raw, Address}
use Rattle.p9_abs.specs.declared.modules.Def.{Def}
use Rattle.p9_abs.specs.declared.modules.Symbol.{Symbol}
use Rattle.p9_abs.specs.Modules.{rounded, piece_size, pieces_size}
use Rattle.p9_abs.specs.Names.{symbol_at}
use Rattle.p9_abs.specs.BuiltIn.{start_code, linked}
use Rattle.p9_abs.specs.Runs.{Routine, Status, Going, Gone, Broken, entered, enters, arun_of}
use Rattle.p9_abs.specs.Programs.{Numbered, Placing, routines_of, routine_number, records, is_data, same_def, space_of, offset_in, inits_of, bss_of, data_objects, init_size, bss_size, placed_at, address_of_definition, address_of, chosen, stands_for, definition_of, piece_bytes, zero_bytes, object_bytes, init_bytes, static_base, addresses_of, start_core, start_state, arun}
use Rattle.p9_names.specs.declared.rules.Rule.TheVariants.{Once}
use Rattle.p9_names.specs.Linking.{IsKept}
use Rattle.p9_object.specs.Laws.{IsObject}
use Rattle.p9_r3k.proofs.Runs.{straight_run-sum}
use Rattle.p9_forms.specs.Standing.{Rest, stands}
use Rattle.p9_forms.specs.Entering.{based_at}
use Rattle.p9_forms.proofs.Entries.{start-made}
use Rattle.p9_expand.specs.Base.{argument_list, base_offset}
use Rattle.p9_expand.specs.Program.{program_lines}
use Rattle.p9_expand_laws.specs.Standing.{line_of}
use Rattle.p9_expand_laws.proofs.Standing.{start_stands}
use Rattle.p9_refine.specs.Maps.{function_line, IsMap, GoesBy, addresses_by}
use Rattle.p9_refine.specs.Refining.{before_start, at_start, ProgramRefines}
use Rattle.p9_refine.proofs.Own.{own, HasSymbol, symbols-found, last-module}
use Rattle.p9_refine.proofs.Finding.{number-found, routine-numbers}
use Rattle.p9_refine.proofs.Fine.{all-valid}
use Rattle.p9_refine.proofs.Matching.{run_by, Matches}
use Rattle.p9_refine.proofs.Entering.{EntersAs, entry-enters}
use Rattle.p9_refine.proofs.Refining.{Stays, stays, stands-as}

-- Sizes of data

zero-length : (n : ℕ) → length (zero_bytes n) ≡ n
unfolding zero_bytes
zero-length n = length-replicate n 0

pieces-length : (address : ℕ → ℕ) (pieces : List DataPiece) → length (flat_map (piece_bytes address) pieces) ≡ pieces_size pieces
pieces-length address [] = refl
pieces-length address (Raw bytes ∷ rest) =
    omega (arith, length-append bytes (flat_map (piece_bytes address) rest), pieces-length address rest, sum_by-cons piece_size (Raw bytes) rest)
pieces-length address (Address symbol offset ∷ rest) = omega (arith, pieces-length address rest, sum_by-cons piece_size (Address symbol offset) rest)

object-length : (address : ℕ → ℕ → ℕ) (r : Numbered) → is_data r ≡ true → length (object_bytes address r) ≡ space_of r
object-length address r h = by r.symbol.body refl
  where
    with_body : Body → Numbered
    with_body b = record r { symbol = record r.symbol { body = b } }

    no_data : (body : Body) → r.symbol.body ≡ body → is_data (record r { symbol = record r.symbol { body = body } }) ≡ false → length (object_bytes address r) ≡ space_of r
    no_data body e f = absurd (let no : false ≡ true = sym f ∙ sym (ap (λ b. is_data (record r { symbol = record r.symbol { body = b } })) e) ∙ h in cc no)

    by : (body : Body) → r.symbol.body ≡ body → length (object_bytes address r) ≡ space_of r
    by (Data pieces) e =
        let size : ℕ = pieces_size pieces in
        let bytes : length (object_bytes address r) ≡ length (flat_map (piece_bytes (address r.def.«module»)) pieces ++ zero_bytes (rounded size - size)) =
        ap (λ b. length (object_bytes address (record r { symbol = record r.symbol { body = b } }))) e in
        let space : space_of r ≡ rounded size = ap (λ b. space_of (record r { symbol = record r.symbol { body = b } })) e in
        omega (arith, bytes, space, length-append (flat_map (piece_bytes (address r.def.«module»)) pieces) (zero_bytes (rounded size - size)), pieces-length (address r.def.«module») pieces, zero-length (rounded size - size))
    by Declared e = no_data Declared e refl
    by Used e = no_data Used e refl
    by (Text def) e = no_data (Text def) e refl
    by (Common size) e = no_data (Common size) e refl

objects-length : (address : ℕ → ℕ → ℕ) (rs : List Numbered) → length (flat_map (object_bytes address) (filter is_data rs)) ≡ sum_by space_of (filter is_data rs)
objects-length address [] = refl
objects-length address (r ∷ rs) = by (is_data r) refl (objects-length address rs)
  where
    by : (b : Bool) → is_data r ≡ b → length (flat_map (object_bytes address) (filter is_data rs)) ≡ sum_by space_of (filter is_data rs) →
        length (flat_map (object_bytes address) (cond b (r ∷ filter is_data rs) (filter is_data rs))) ≡ sum_by space_of (cond b (r ∷ filter is_data rs) (filter is_data rs))
    by true e h =
        omega (arith, length-append (object_bytes address r) (flat_map (object_bytes address) (filter is_data rs)), object-length address r e, sum_by-cons space_of r (filter is_data rs), h)
    by false e h = h

-- Offsets lie within the data

offset-small : (at : ℕ) (rs : List Numbered) (d : Def) → unwrap_or (offset_in at rs d) 0 ≤ at + sum_by space_of rs
offset-small at [] d = omega arith
offset-small at (r ∷ rs) d = by (same_def r.def d) (offset-small (at + space_of r) rs d)
  where
    by : (b : Bool) → unwrap_or (offset_in (at + space_of r) rs d) 0 ≤ at + space_of r + sum_by space_of rs →
        unwrap_or (cond b (Some at) (offset_in (at + space_of r) rs d)) 0 ≤ at + sum_by space_of (r ∷ rs)
    by true h = omega arith
    by false h = omega (arith, h, sum_by-cons space_of r rs)

data-offset-small : (ms : List AModule) (d : Def) → unwrap_or (offset_in 0 (data_objects ms) d) 0 ≤ init_size ms + bss_size ms
data-offset-small ms d = omega (arith, offset-small 0 (data_objects ms) d, sum_by-append space_of (inits_of ms) (bss_of ms))

-- The static base

module _ (modules : List AModule) (line : ℕ → ℕ) (placing : Placing) where
  abbrev base : Def
  base = record { «module» = length modules; symbol = argument_list }

  base-symbol : (s : Symbol) × (symbol_at (linked modules) (record { «module» = length modules; symbol = argument_list }) ≡ Some s)
      × (s.local ≡ true) × ((r : Routine) → s.body ≡ Text r.def → ⊥)
  base-symbol = (_, ap (option_and_then (λ (m : AModule). slice_get m.symbols argument_list)) (last-module modules), refl, (λ r e. absurd (cc e)))

  base-itself : definition_of (linked modules) (record { «module» = length modules; symbol = argument_list }) ≡ Some (record { «module» = length modules; symbol = argument_list })
  base-itself =
      let s = base-symbol in
      ap (option_and_then (stands_for (linked modules) base)) s.1 ∙ ap (λ b. if b then Some base else chosen (linked modules) s.0.name) s.2

  no-function : (o : Option ℕ) → routine_number (routines_of modules) 0 (record { «module» = length modules; symbol = argument_list }) ≡ o → o ≡ None
  no-function None e = refl
  no-function (Some g) e =
      let (i, g_is, f) = number-found (routines_of modules) 0 base g e in
      let numbers = routine-numbers base f.routine f.is in
      let h : HasSymbol (linked modules) f.routine = symbols-found modules i f.routine f.there in
      let s = base-symbol in
      let one : own f.routine ≡ base = ap (λ u. at u f.routine.symbol) numbers.0 ∙ ap (at (length modules)) numbers.1 in
      let same : h.symbol ≡ s.0 = same_Some h.symbol s.0 (sym h.stands ∙ ap (symbol_at (linked modules)) one ∙ s.1) in
      absurd (s.3 f.routine (ap (λ (x : Symbol). x.body) (sym same) ∙ h.text))
    where
      at : ℕ → ℕ → Def
      at unit symbol = record { «module» = unit; symbol = symbol }

  base-address : address_of modules placing (record { «module» = length modules; symbol = argument_list })
      ≡ placing.data_start + unwrap_or (offset_in 0 (data_objects (linked modules)) (record { «module» = length modules; symbol = argument_list })) 0
  base-address =
      ap (address_of_definition modules placing) base-itself
      ∙ ap (placed_at modules placing base) (no-function (routine_number (routines_of modules) 0 base) refl)

  base-value : placing.data_start + init_size (linked modules) + bss_size (linked modules) < stack_start →
      word_sum (address_of modules placing (record { «module» = length modules; symbol = argument_list })) (base_offset modules) ≡ static_base placing.data_start
  base-value room =
      let o : ℕ = unwrap_or (offset_in 0 (data_objects (linked modules)) base) 0 in
      let small : o ≤ init_size (linked modules) + bss_size (linked modules) = data-offset-small (linked modules) base in
      ap (λ n. word_sum n (base_offset modules)) base-address ∙ omega (arith, small, room)

-- The start

module _ (modules : List AModule) (line : ℕ → ℕ) (placing : Placing) (below input : List ℕ) (objects : All IsObject modules) (once : IsKept Once (linked modules)) (m : IsMap modules line) (goes : GoesBy modules line placing) (size : text_start + length below ≡ placing.data_start) where
  abbrev first : Routine
  first = record { unit = length modules; symbol = 0; def = record { frame = 8; code = start_code } }

  start-laid : LaidOut (start_core modules placing below)
  start-laid =
      let bytes : List ℕ = init_bytes modules placing in
      let low : length (below ++ bytes ++ zero_bytes (bss_size (linked modules))) ≡ length below + init_size (linked modules) + bss_size (linked modules) =
      omega (
        arith,
        length-append (below ++ bytes) (zero_bytes (bss_size (linked modules))),
        length-append below bytes,
        zero-length (bss_size (linked modules)),
        objects-length (addresses_of modules placing).symbol (records (linked modules)),
      ) in
      record {
        text = omega arith;
        gap = omega (arith, size);
        data_and_bss = omega (arith, size, low);
        above = omega (arith, size, low, goes.room);
        stack_size = zero-length (2 ^ 24);
      }

  -- the lines of the start
  started : (k : Rest) × (run_by modules line placing 2 (at_start modules placing below input)
      ≡ stands 0 k (start_state modules placing below input) (function_line modules 0))
  started =
      let s : State = before_start modules placing below input in
      let rest : Rest = record { pc = text_start; next = text_start + 4; slot = false; loaded = 0; used = false; used_before = false; text_end = text_start } in
      let value : word_sum (address_of modules placing (record { «module» = length modules; symbol = argument_list })) (base_offset modules) ≡ static_base placing.data_start = base-value modules line placing goes.room in
      let made = start-made (addresses_by modules line placing) (program_lines modules) (line_of modules) 0 (length modules) argument_list (base_offset modules) s 0 rest
      (record { running = refl; count = refl; zero_register = refl; textless = refl; stack = omega arith }) (start_stands modules (all-valid modules objects)) in
      (made.0, made.1 ∙ ap (λ v. stands 0 made.0 (based_at v s) 2) value)

  first-found : slice_get (routines_of modules) 0 ≡ Some (record { unit = length modules; symbol = 0; def = record { frame = 8; code = start_code } })
  first-found = refl

  start-stays : Stays modules line placing (at_start modules placing below input) 0
      (enters (routines_of modules) (Some 0) (start_state modules placing below input) [])
  start-stays =
      by (entered first.def (start_state modules placing below input) 0 [])
      (entry-enters modules line placing 0 first (start_state modules placing below input) [] (record {
        valid = all-valid modules objects;
        found = first-found;
        running = refl;
        registers = record { count = refl; zero_register = refl };
        textless = refl;
        laid = start-laid;
        aligned = refl;
        above = omega arith;
        below = omega arith;
        link = omega arith;
        waiting = tt;
      }) 0 started.0)
    where
      by : (s : Status) → EntersAs modules line placing (stands 0 started.0 (start_state modules placing below input) (function_line modules 0)) s →
          Stays modules line placing (at_start modules placing below input) 0 s
      by (Going r) e = (
        2 + e.0,
        omega arith,
        omega (arith, e.1),
        subst (Matches modules line r)
            (ap (run_by modules line placing e.0) (sym started.1)
            ∙ sym (straight_run-sum (addresses_by modules line placing) (program_lines modules) 2 e.0 (at_start modules placing below input))) e.2,
      )
      by (Gone s) e = absurd e
      by Broken e = tt

  pub refines-from : (n : ℕ) →
      Stays modules line placing (at_start modules placing below input) n (arun modules placing below input n)
  unfolding arun_of
  refines-from n = stays modules line placing objects once m goes (at_start modules placing below input) (enters (routines_of modules) (Some 0) (start_state modules placing below input) []) start-stays n

pub program_refines : ProgramRefines
program_refines modules line placing below input n objects once m goes size =
    stands-as modules line placing (at_start modules placing below input) n (arun modules placing below input n)
    (refines-from modules line placing below input objects once m goes size n)
