-- The function at an address, and the function that a symbol names, are those of the lines.
use Rattle.std.proofs.Common.{ℕ, zero, suc, ◌+◌, ◌==◌, ◌≡◌, ◌≢◌, ◌≤◌, ◌<◌, ◌⊎◌, inl, inr, Bool, true, false, Option, Some, None, List, [], ◌∷◌, length, take, sum_by, refl, sym, ap, ◌∙◌, subst, All, if◌then◌else◌, arith}
use Rattle.std.specs.Prelude.{slice_get, option_and_then}
use Rattle.std.proofs.lemmas.List.Sums.{sum_by-cons}
use Rattle.std.proofs.lemmas.Option.{none-some, same_Some}
use Rattle.std.proofs.lemmas.Bool.{true≢false, and_parts, and_from}
use Rattle.std.proofs.lemmas.Bool.Decides.{nat_tests}
use Rattle.p9_base.specs.Core.{text_start}
use Rattle.p9_abs.specs.declared.modules.AModule.{AModule}
use Rattle.p9_abs.specs.declared.modules.Def.{Def}
use Rattle.p9_abs.specs.BuiltIn.{linked}
use Rattle.p9_abs.specs.Runs.{Routine, routine_at}
use Rattle.p9_abs.specs.Runs as runs
use Rattle.p9_abs.specs.Programs.{Placing, routines_of, is_routine, routine_number, placed_at, address_of_definition, definition_of, addresses_of}
use Rattle.p9_abs.specs.Validity.{IsValid}
use Rattle.p9_names.specs.declared.rules.Rule.TheVariants.{Once}
use Rattle.p9_names.specs.Linking.{IsKept}
use Rattle.p9_text.specs.Places.{places_of}
use Rattle.p9_text.specs.Entries.{entry_number}
use Rattle.p9_pieces.specs.Callees.{callee_in}
use Rattle.p9_expand.specs.Program.{program_lines}
use Rattle.p9_expand_laws.specs.Standing.{entry_of}
use Rattle.p9_refine.specs.Maps.{function_line, IsMap, GoesBy}
use Rattle.p9_refine.proofs.Numbers.{function-within, functions-rise}
use Rattle.p9_refine.proofs.Own.{own, order, stands_for_itself}

-- Lists of functions

-- the first function of a definition is number i
pub record IsFound (rs : List Routine) (d : Def) (i : ℕ) : Type 0 where
  pub routine : Routine
  pub there : slice_get rs i ≡ Some routine
  pub is : is_routine d routine ≡ true
  pub first : (j : ℕ) (q : Routine) → j < i → slice_get rs j ≡ Some q → is_routine d q ≡ false

found-later : (r : Routine) (rs : List Routine) (d : Def) (i : ℕ) → is_routine d r ≡ false → IsFound rs d i → IsFound (r ∷ rs) d (suc i)
found-later r rs d i h f = record { routine = f.routine; there = f.there; is = f.is; first = earlier }
  where
    earlier : (j : ℕ) (q : Routine) → j < suc i → slice_get (r ∷ rs) j ≡ Some q → is_routine d q ≡ false
    earlier zero q l e = subst (λ x. is_routine d x ≡ false) (same_Some r q e) h
    earlier (suc j) q l e = f.first j q (omega (arith, l)) e

pub number-found : (rs : List Routine) (n : ℕ) (d : Def) (g : ℕ) → routine_number rs n d ≡ Some g → (i : ℕ) × (g ≡ n + i) × IsFound rs d i
number-found [] n d g e = absurd (none-some g e)
number-found (r ∷ rs) n d g e = by (is_routine d r) refl e (number-found rs (n + 1) d g)
  where
    by : (b : Bool) → is_routine d r ≡ b → (if b then Some n else routine_number rs (n + 1) d) ≡ Some g →
        (routine_number rs (n + 1) d ≡ Some g → (i : ℕ) × (g ≡ n + 1 + i) × IsFound rs d i) → (i : ℕ) × (g ≡ n + i) × IsFound (r ∷ rs) d i
    by true is h rest =
        (0, (let same : n ≡ g = same_Some n g h in omega (arith, same)), record { routine = r; there = refl; is = is; first = λ j q l e. absurd (omega (arith, l)) })
    by false is h rest = (let (i, same, f) = rest h in (suc i, omega (arith, same), found-later r rs d i is f))

number-missing : (rs : List Routine) (n : ℕ) (d : Def) → routine_number rs n d ≡ None → (i : ℕ) (q : Routine) → slice_get rs i ≡ Some q → is_routine d q ≡ false
number-missing [] n d e i q there = absurd (none-some q there)
number-missing (r ∷ rs) n d e i q there = by (is_routine d r) refl e (number-missing rs (n + 1) d) i there
  where
    by : (b : Bool) → is_routine d r ≡ b → (if b then Some n else routine_number rs (n + 1) d) ≡ None →
        (routine_number rs (n + 1) d ≡ None → (j : ℕ) (p : Routine) → slice_get rs j ≡ Some p → is_routine d p ≡ false) →
        (j : ℕ) → slice_get (r ∷ rs) j ≡ Some q → is_routine d q ≡ false
    by true is h rest j there = absurd (none-some n (sym h))
    by false is h rest zero there = subst (λ x. is_routine d x ≡ false) (same_Some r q there) is
    by false is h rest (suc j) there = rest h j q there

entry-found : (rs : List Routine) (n : ℕ) (d : Def) (i : ℕ) → IsFound rs d i → entry_number rs n d ≡ Some (n + sum_by places_of (take i rs))
entry-found [] n d i f = absurd (none-some f.routine f.there)
entry-found (r ∷ rs) n d zero f =
    let is : is_routine d r ≡ true = subst (λ x. is_routine d x ≡ true) (sym (same_Some r f.routine f.there)) f.is in
    ap (λ b. if b then Some n else entry_number rs (n + places_of r) d) is ∙ ap Some (let e : n ≡ n + sum_by places_of (take 0 (r ∷ rs)) = omega arith in e)
entry-found (r ∷ rs) n d (suc i) f =
    let not : is_routine d r ≡ false = f.first 0 r (omega arith) refl in
    let rest : IsFound rs d i = record { routine = f.routine; there = f.there; is = f.is; first = λ j q l e. f.first (suc j) q (omega (arith, l)) e } in
    ap (λ b. if b then Some n else entry_number rs (n + places_of r) d) not
    ∙ entry-found rs (n + places_of r) d i rest
    ∙ ap Some (omega (arith, sum_by-cons places_of r (take i rs)))

-- the least function with an address
record IsLeast (p : runs.Addresses) (rs : List Routine) (to i : ℕ) : Type 0 where
  pub routine : Routine
  pub there : slice_get rs i ≡ Some routine
  pub is : p.symbol routine.unit routine.symbol ≡ to
  pub first : (j : ℕ) (q : Routine) → j < i → slice_get rs j ≡ Some q → p.symbol q.unit q.symbol ≢ to

least-later : (p : runs.Addresses) (r : Routine) (rs : List Routine) (to i : ℕ) → p.symbol r.unit r.symbol ≢ to → IsLeast p rs to i → IsLeast p (r ∷ rs) to (suc i)
least-later p r rs to i h f = record { routine = f.routine; there = f.there; is = f.is; first = earlier }
  where
    earlier : (j : ℕ) (q : Routine) → j < suc i → slice_get (r ∷ rs) j ≡ Some q → p.symbol q.unit q.symbol ≢ to
    earlier zero q l e = subst (λ x. p.symbol x.unit x.symbol ≢ to) (same_Some r q e) h
    earlier (suc j) q l e = f.first j q (omega (arith, l)) e

address-least : (p : runs.Addresses) (rs : List Routine) (n to g : ℕ) → routine_at p rs n to ≡ Some g → (i : ℕ) × (g ≡ n + i) × IsLeast p rs to i
address-least p [] n to g e = absurd (none-some g e)
address-least p (r ∷ rs) n to g e = by (p.symbol r.unit r.symbol == to) refl e (address-least p rs (n + 1) to g)
  where
    by : (b : Bool) → (p.symbol r.unit r.symbol == to) ≡ b → (if b then Some n else routine_at p rs (n + 1) to) ≡ Some g →
        (routine_at p rs (n + 1) to ≡ Some g → (i : ℕ) × (g ≡ n + 1 + i) × IsLeast p rs to i) → (i : ℕ) × (g ≡ n + i) × IsLeast p (r ∷ rs) to i
    by true is h rest = (
      0,
      (let same : n ≡ g = same_Some n g h in omega (arith, same)),
      record { routine = r; there = refl; is = (let e : p.symbol r.unit r.symbol ≡ to = grind (arith, nat_tests) in e); first = λ j q l e. absurd (omega (arith, l)) },
    )
    by false is h rest =
        (let (i, same, f) = rest h in
        (suc i, omega (arith, same), least-later p r rs to i (let e : p.symbol r.unit r.symbol ≢ to = grind (arith, nat_tests) in e) f))

-- what is a definition's function has its numbers
pub routine-numbers : (d : Def) (q : Routine) → is_routine d q ≡ true → (q.unit ≡ d.«module») × (q.symbol ≡ d.symbol)
routine-numbers d q h =
    let parts = and_parts (q.unit == d.«module») (q.symbol == d.symbol) h in
    ((let e : q.unit ≡ d.«module» = grind (arith, nat_tests, parts.0) in e), (let e : q.symbol ≡ d.symbol = grind (arith, nat_tests, parts.1) in e))

own-routine : (r : Routine) → is_routine (own r) r ≡ true
own-routine r = and_from (r.unit == r.unit) (r.symbol == r.symbol) (grind (arith, nat_tests)) (grind (arith, nat_tests))

module _ (modules : List AModule) (line : ℕ → ℕ) (placing : Placing) (valid : All IsValid modules) (once : IsKept Once (linked modules)) (m : IsMap modules line) (goes : GoesBy modules line placing) where
  abbrev rs : List Routine
  rs = routines_of modules

  abbrev places : runs.Addresses
  places = addresses_of modules placing

  one-address : (f g : ℕ) (q r : Routine) → slice_get (routines_of modules) f ≡ Some q → slice_get (routines_of modules) g ≡ Some r →
      line (function_line modules f) ≡ line (function_line modules g) → f ≡ g
  one-address f g q r e h same = by (order f g)
    where
      by : (f < g) ⊎ ((f ≡ g) ⊎ (g < f)) → f ≡ g
      by (inl l) = absurd (omega (arith, m.apart g (function_line modules f) r h (functions-rise modules valid f q e g l), same))
      by (inr (inl l)) = l
      by (inr (inr l)) = absurd (omega (arith, m.apart f (function_line modules g) q e (functions-rise modules valid g r h f l), same))

  -- the function at an address has its first line there
  pub called-there : (to g : ℕ) → routine_at (addresses_of modules placing) (routines_of modules) 0 to ≡ Some g →
      (r : Routine) × (slice_get (routines_of modules) g ≡ Some r) × (to ≡ line (function_line modules g))
  called-there to g e =
      let (i, zero_is, least) = address-least places rs 0 to g e in
      let same : g ≡ i = omega (arith, zero_is) in
      let there : slice_get rs g ≡ Some least.routine = ap (slice_get rs) same ∙ least.there in
      let d : Def = own least.routine in (
        least.routine,
        there,
        by least same d refl (routine_number rs 0 d) refl
            (sym least.is ∙ ap (address_of_definition modules placing) (stands_for_itself modules valid once g least.routine there)),
      )
    where
      by : {i : ℕ} (least : IsLeast places rs to i) → g ≡ i → (d : Def) → d ≡ own least.routine → (o : Option ℕ) → routine_number rs 0 d ≡ o →
          to ≡ placed_at modules placing (own least.routine) (routine_number rs 0 (own least.routine)) → to ≡ line (function_line modules g)
      by {i} least same d is None e to_is =
          absurd (true≢false (sym (own-routine least.routine)
          ∙ number-missing rs 0 (own least.routine) (ap (routine_number rs 0) (sym is) ∙ e) i least.routine least.there))
      by {i} least same d is (Some h) e to_is =
          let e2 : routine_number rs 0 (own least.routine) ≡ Some h = ap (routine_number rs 0) (sym is) ∙ e in
          let (j, h_is, f) = number-found rs 0 (own least.routine) h e2 in
          let numbers = routine-numbers (own least.routine) f.routine f.is in
          let address : places.symbol f.routine.unit f.routine.symbol ≡ to =
          ap (λ u. places.symbol u f.routine.symbol) numbers.0 ∙ ap (places.symbol least.routine.unit) numbers.1 ∙ least.is in
          let here : to ≡ line (function_line modules j) =
          to_is ∙ ap (placed_at modules placing (own least.routine)) e2 ∙ ap placing.function (let e : h ≡ j = omega (arith, h_is) in e) ∙ goes.functions j f.routine f.there in
          let equal : j ≡ i = equal-numbers j (order j i) f address in
          here ∙ ap (λ n. line (function_line modules n)) (omega (arith, equal, same))
        where
          equal-numbers : (j : ℕ) → (j < i) ⊎ ((j ≡ i) ⊎ (i < j)) → (f : IsFound rs (own least.routine) j) → places.symbol f.routine.unit f.routine.symbol ≡ to → j ≡ i
          equal-numbers j (inl l) f address = absurd (least.first j f.routine l f.there address)
          equal-numbers j (inr (inl l)) f address = l
          equal-numbers j (inr (inr l)) f address = absurd (true≢false (sym (own-routine least.routine) ∙ f.first i least.routine l least.there))

  -- a symbol names the function at its address
  pub named-there : (unit symbol g : ℕ) →
      routine_at (addresses_of modules placing) (routines_of modules) 0 ((addresses_of modules placing).symbol unit symbol) ≡ Some g →
      callee_in modules unit symbol ≡ Some (entry_of modules g)
  named-there unit symbol g e =
      let (r, there, here) = called-there (places.symbol unit symbol) g e in
      by-definition r there (definition_of (linked modules) (record { «module» = unit; symbol = symbol })) here
    where
      in-text : (r : Routine) → slice_get rs g ≡ Some r → (text_start ≤ line (function_line modules g)) × (line (function_line modules g) < placing.data_start)
      in-text r there =
          let l : function_line modules g < length (program_lines modules) = function-within modules valid g r there in
          ((m.code (function_line modules g) l).1, goes.before_data (function_line modules g) l)

      by-number : (r : Routine) → slice_get rs g ≡ Some r → (d : Def) (o : Option ℕ) → routine_number rs 0 d ≡ o → placed_at modules placing d o ≡ line (function_line modules g) →
          entry_number rs 0 d ≡ Some (entry_of modules g)
      by-number r there d None e here = absurd (let high = (in-text r there).1 in omega (arith, here, high))
      by-number r there d (Some h) e here =
          let (j, h_is, f) = number-found rs 0 d h e in
          let same : line (function_line modules j) ≡ line (function_line modules g) = sym (goes.functions j f.routine f.there) ∙ ap placing.function (let e : j ≡ h = omega (arith, h_is) in e) ∙ here in
          let equal : j ≡ g = one-address j g f.routine r f.there there same in
          entry-found rs 0 d j f ∙ ap Some (let e : 0 + entry_of modules j ≡ entry_of modules j = omega arith in e) ∙ ap (λ n. Some (entry_of modules n)) equal

      by-definition : (r : Routine) → slice_get rs g ≡ Some r → (o : Option Def) → address_of_definition modules placing o ≡ line (function_line modules g) →
          option_and_then (entry_number rs 0) o ≡ Some (entry_of modules g)
      by-definition r there None here = absurd (let low = (in-text r there).0 in omega (arith, here, low))
      by-definition r there (Some d) here = by-number r there d (routine_number rs 0 d) refl here
