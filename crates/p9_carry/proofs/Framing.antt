-- Framed code.
use Rattle.std.proofs.Common.{◌≡◌, ◌≤◌, ◌<◌, ◌⊎◌, inl, inr, ℕ, suc, ◌+◌, ◌-◌, ◌^◌, ◌*◌, ◌==◌, ◌&&◌, ◌||◌, nat_le, nat_lt, not, Bool, true, false, if◌then◌else◌, Option, Some, List, [], ◌∷◌, length, map, slice_get, All, refl, sym, ap, ◌∙◌, subst, arith}
use Rattle.std.specs.List.{list_any}
use Rattle.std.proofs.lemmas.Bool.{true≢false, and_parts, or_parts, leb-true}
use Rattle.std.proofs.lemmas.Bool.Decides.{nat_tests}
use Rattle.std.proofs.lemmas.List.Elements.{All-nil, All-cons, All-head, All-tail}
use Rattle.p9_base.specs.Words.{IsWord}
use Rattle.p9_base.specs.Core.{Core, stack_start, reg, with_word}
use Rattle.p9_base.specs.SystemCalls.{State}
use Rattle.p9_base.specs.Holding.{HoldsWords}
use Rattle.p9_abs.specs.declared.instructions.Abs.{Abs}
use Rattle.p9_abs.specs.declared.instructions.AFunction.{AFunction}
use Rattle.p9_abs.specs.declared.instructions.TextDef.{TextDef}
use Rattle.p9_abs.specs.declared.regions.Region.{Region}
use Rattle.p9_abs.specs.Forms.{IsForm}
use Rattle.p9_abs.specs.Automatics.{IsCode, IsInstructionOf, is_variable}
use Rattle.p9_abs.specs.Steps.{Mach}
use Rattle.p9_abs.specs.Runs.{keeps, taken_by, keeps_return, in_word, lowered}
use Rattle.p9_abs.specs.OneCall.{Layout, IsLayout, AreDisjoint, in_gap, in_words, in_automatic, banned_in, around_call, size_at}
use Rattle.p9_abs.specs.Framed.{Plan, IsFramed}
use Rattle.p9_abs.specs.Keeping.{IsEntry, HasVariables, HoldsVariables, nowhere, Follows, side_of, framed_side, around_framed, layout_of, in_variable, content, KeepsFramed}
use Rattle.p9_cmean.specs.Cells as c
use Rattle.p9_cmean.specs.Cells.{Value}
use Rattle.p9_cmean.specs.Plays.{Call, Play}
use Rattle.p9_cmean.specs.Turns.{room}
use Rattle.p9_sim.specs.Memory.{Map, Ground}
use Rattle.p9_sim.specs.Matching.{AtCall, entry_of}
use Rattle.p9_sim.specs.Playing.{Branches, first_count, Setting, Performs}
use Rattle.p9_sim.specs.Functions.{lowered_stack, after_entry, kept_with, setting_of, framed_as, is_no_automatic, setting_over}
use Rattle.p9_carry.specs.Carrying.{HasNoSystemCall, CarriesFramed}
use Rattle.p9_carry.proofs.Alike.{bool-not}
use Rattle.p9_carry.proofs.Entries.{entry-stack, entry-words, entry-is}
use Rattle.p9_carry.proofs.Carrying.{Suits, Sync, carry}
use Rattle.p9_carry.proofs.Over.{at-each}
use Rattle.p9_carry.proofs.Rows.{is_call, framed-calls}
use Rattle.p9_carry.proofs.Places.{in-memory, mapped, AtVariable, variable-at, AtAutomatic, automatic-at, AtWord, word-at, layout-is, contents, contents-length, contents-hold, contents-words, contents-low}

forms-of : (autos count : ℕ) (code : List Abs) → All (IsInstructionOf autos count) code → All IsForm code
forms-of autos count [] h = All-nil IsForm
forms-of autos count (a ∷ code) h =
    All-cons IsForm a code (let i = All-head (IsInstructionOf autos count) a code h in i.form) (forms-of autos count code (All-tail (IsInstructionOf autos count) a code h))

-- code with a frame keeps its return address
framed-keeps : (frame : ℕ) (calls : Bool) → 1 ≤ frame → (not (frame == 0) || calls) ≡ true
framed-keeps frame calls h = let e : (frame == 0) ≡ false = grind (arith, nat_tests) in ap (λ b. not b || calls) e

map-length : (ps : List ℕ) → length (map Some ps) ≡ length ps
map-length [] = refl
map-length (p ∷ ps) = ap suc (map-length ps)

disjoint-not : (a n b m k : ℕ) → AreDisjoint a n b m → a ≤ k → k < a + n → b ≤ k → k < b + m → ⊥
disjoint-not a n b m k (inl h) p q r s = omega (arith, h, p, q, r, s)
disjoint-not a n b m k (inr h) p q r s = omega (arith, h, p, q, r, s)

order : (v w : ℕ) → (v < w) ⊎ ((w < v) ⊎ (v ≡ w))
order v w = by (nat_lt v w) refl (nat_lt w v) refl
  where
    by : (p : Bool) → nat_lt v w ≡ p → (q : Bool) → nat_lt w v ≡ q → (v < w) ⊎ ((w < v) ⊎ (v ≡ w))
    by true e q g = inl (grind (arith, nat_tests))
    by false e true g = inr (inl (grind (arith, nat_tests)))
    by false e false g = inr (inr (grind (arith, nat_tests)))

module _ (f : AFunction) (rs : List Region) (homes : List (Option ℕ)) (def : TextDef) (p : Plan) (code : IsCode f) (no_f : HasNoSystemCall f.code) (no_def : HasNoSystemCall def.code)
    (framed : IsFramed f rs homes def p) (g : Ground) (symbol : ℕ → ℕ) (need : ℕ) (others : ℕ → Bool) (active : ℕ) (call : Call) (s : c.State) (m : Map) (x : State)
    (room_is : def.frame + 4 ≤ need) (fits : active + need ≤ room) (at : AtCall g others others active m call s x) where
  abbrev l : Layout
  l = layout_of f def.frame p.offsets

  abbrev sp : ℕ
  sp = lowered_stack (framed_as f l) x

  abbrev apart : ℕ → Bool
  apart n = nat_le sp n && in_variable f 0 p.offsets (n - sp)

  abbrev base : Setting
  base = setting_over g Branches symbol f l others active need (entry_of m s call x)

  abbrev shut_b : ℕ → Bool
  shut_b byte = kept_with others def sp byte

  abbrev framed_at : ℕ → Setting
  framed_at n = record {
    placing = g;
    counting = Branches;
    around = around_framed symbol def n others;
    def = def;
    loose = nowhere;
    shut = kept_with others def n;
    active = active + need;
    outer_shut = others;
    outer_active = active;
    entry = entry_of m s call x;
  }

  abbrev core : Core
  core = (let y : State = after_entry def x in y.core)

  abbrev vars : List ℕ
  vars = contents f core sp 0 p.offsets

  abbrev start_a : Mach
  start_a = record { state = after_entry def x; vars = vars; at = 0 }

  abbrev start_b : Mach
  start_b = record { state = after_entry def x; vars = []; at = 0 }

  calls_same : list_any is_call def.code ≡ list_any is_call f.code
  calls_same = framed-calls f rs homes p (taken_by def) def.code (forms-of (length f.autos) (length f.code) f.code code.instructions) framed.code

  same_keeps : keeps (framed_as f l) ≡ keeps def
  same_keeps = ap (λ b. not (def.frame == 0) || b) (sym calls_same)

  stacks : sp ≡ lowered_stack def x
  stacks = ap (λ b. reg x.core 29 - (if b then def.frame + 4 else 0)) same_keeps

  states : after_entry (framed_as f l) x ≡ after_entry def x
  states = ap (λ b. if b then record x { core = with_word (lowered x.core (def.frame + 4)) (reg x.core 29 - (def.frame + 4)) (reg x.core 31) } else x) same_keeps

  layout : IsLayout f l
  layout = layout-is f def.frame p.offsets framed.frame framed.placed

  stack_is : (let y : State = after_entry def x in reg y.core 29 ≡ sp)
  stack_is = entry-stack def x at.matched.words at.matched.laid ∙ sym stacks

  begun : (v : List ℕ) → IsEntry def.frame (taken_by def) others (record { state = after_entry def x; vars = v; at = 0 })
  begun v = entry-is g others others active need m call s x def v at framed.frame room_is fits

  words : HoldsWords core
  words = entry-words def x at.matched.words at.matched.laid

  below : sp ≤ reg x.core 29
  below = omega arith

  -- WHERE VARIABLES ARE

  record IsApart (n : ℕ) : Type 0 where
    pub high : sp ≤ n
    pub at_variable : AtVariable f 0 p.offsets (n - sp)
    pub low : sp + 4 ≤ n
    pub inside : n < sp + 4 + def.frame
    pub some : 1 ≤ def.frame

  apart-is : (n : ℕ) → apart n ≡ true → IsApart n
  apart-is n e =
      let a = and_parts (nat_le sp n) (in_variable f 0 p.offsets (n - sp)) e in
      let high = leb-true sp n a.0 in
      let v = variable-at f 0 p.offsets (n - sp) a.1 in
      let k_is : 0 + v.k ≡ v.k = omega arith in
      let w = framed.placed.within v.k v.q (mapped f p.offsets v.k v.q v.is) in
      let w0 = w.0 in let w1 = w.1 in let low = v.low in
      let up : n - sp < v.q + size_at f v.k = subst (λ j. n - sp < v.q + size_at f j) k_is v.high in
      record { high = high; at_variable = v; low = omega (arith, high, low, w0); inside = omega (arith, high, up, w1); some = omega (arith, low, up, w0, w1) }

  keeps-it : (n : ℕ) → IsApart n → keeps_return def.frame f.code ≡ true
  keeps-it n i = framed-keeps def.frame _ i.some

  not-automatic : (n : ℕ) → IsApart n → in_automatic l.offsets f.autos (n - sp) ≡ false
  not-automatic n i = bool-not (in_automatic l.offsets f.autos (n - sp)) (λ e. by (automatic-at l.offsets f.autos (n - sp) e))
    where
      by : AtAutomatic l.offsets f.autos (n - sp) → ⊥
      by w =
          let v = i.at_variable in
          let k_is : 0 + v.k ≡ v.k = omega arith in let w_is : 0 + w.k ≡ w.k = omega arith in
          let got = in-memory f 0 p.offsets w.k w.q w.is in
          let up : n - sp < v.q + size_at f v.k = subst (λ j. n - sp < v.q + size_at f j) k_is v.high in
          let var : is_variable f v.k ≡ true = ap (is_variable f) (sym k_is) ∙ v.variable in
          let plain : is_variable f w.k ≡ false = ap (is_variable f) (sym w_is) ∙ got.1 in
          cases (order v.k w.k) (mapped f p.offsets v.k v.q v.is) (mapped f p.offsets w.k w.q got.0) up var plain
        where
          cases : (let v = i.at_variable in (v.k < w.k) ⊎ ((w.k < v.k) ⊎ (v.k ≡ w.k))) → slice_get (map Some p.offsets) i.at_variable.k ≡ Some (Some i.at_variable.q)
              → slice_get (map Some p.offsets) w.k ≡ Some (Some w.q) → n - sp < i.at_variable.q + size_at f i.at_variable.k
              → is_variable f i.at_variable.k ≡ true → is_variable f w.k ≡ false → ⊥
          cases (inl h) a b up var plain = disjoint-not _ _ _ _ (n - sp) (framed.placed.disjoint i.at_variable.k w.k i.at_variable.q w.q h a b) i.at_variable.low up w.low w.high
          cases (inr (inl h)) a b up var plain = disjoint-not _ _ _ _ (n - sp) (framed.placed.disjoint w.k i.at_variable.k w.q i.at_variable.q h b a) w.low w.high i.at_variable.low up
          cases (inr (inr h)) a b up var plain = true≢false (sym var ∙ (ap (is_variable f) h ∙ plain))

  not-word : (n : ℕ) → IsApart n → in_words f.code (n - sp) ≡ false
  not-word n i = bool-not (in_words f.code (n - sp)) (λ e. by (word-at f.code (n - sp) (length f.code) e))
    where
      by : AtWord f.code (n - sp) → ⊥
      by w =
          let v = i.at_variable in
          let k_is : 0 + v.k ≡ v.k = omega arith in
          let up : n - sp < v.q + size_at f v.k = subst (λ j. n - sp < v.q + size_at f j) k_is v.high in
          disjoint-not w.o 4 v.q (size_at f v.k) (n - sp) (framed.placed.apart w.i w.o v.k v.q w.reached_is w.uses (mapped f p.offsets v.k v.q v.is)) w.low w.high v.low up

  in-frame : (n : ℕ) → IsApart n → (nat_le (sp + 4) n && nat_lt n (sp + 4 + def.frame)) ≡ true
  in-frame n i =
      let a : nat_le (sp + 4) n ≡ true = (let low = i.low in grind (arith, nat_tests)) in
      let b : nat_lt n (sp + 4 + def.frame) ≡ true = (let inside = i.inside in grind (arith, nat_tests)) in
      λ t. a t && b t

  gap : (n : ℕ) → IsApart n → in_gap f l sp n ≡ true
  gap n i = λ t. in-frame n i t && not (not-automatic n i t || not-word n i t)

  or-right : (b : Bool) → (b || true) ≡ true
  or-right true = refl
  or-right false = refl

  suits : Suits base (around_call symbol f l sp others) (around_framed symbol def sp others) (framed_as f l) def base.loose nowhere base.shut shut_b apart sp
  suits = record {
    shut = λ n e. kept-same n ∙ (or_parts (kept_with others (framed_as f l) sp n) (is_no_automatic f l sp n) e).0;
    banned = λ n e. not-banned n e;
    above = λ n e. above n e;
    loose = λ n e. refl;
    hidden = λ n e. (let i = apart-is n e in
        ap (λ b. kept_with others (framed_as f l) sp n || b) (λ t. in-frame n i t && not (not-automatic n i t)) ∙ or-right (kept_with others (framed_as f l) sp n));
    untouched = λ n e. (let i = apart-is n e in
        (λ t. others n || (keeps-it n i t && (in_word n (Some sp) || gap n i t))) ∙ (ap (λ b. others n || b) (or-right (in_word n (Some sp))) ∙ or-right (others n)));
    loosened = λ n e. gap n (apart-is n e);
    seen = λ n e. refl;
    inside = λ n e. (let i = apart-is n e in let high = i.high in let into = i.inside in
        let entry = begun [] in let low = entry.low in
        let top : sp + 4 + def.frame ≡ reg x.core 29 = top-is (keeps-it n i) in
        (omega (arith, low, stack_is, high), high, omega (arith, into, top)));
    same_keeps = same_keeps;
    same_frame = refl;
    silent_a = no_f;
    silent_b = no_def;
    destinations = λ i ins e. (at-each (IsInstructionOf (length f.autos) (length f.code)) f.code i ins code.instructions e).destination;
  }
    where
      kept-same : (n : ℕ) → kept_with others def sp n ≡ kept_with others (framed_as f l) sp n
      kept-same n = ap (λ b. others n || (b && in_word n (Some sp))) (sym same_keeps)

      not-banned : (n : ℕ) → banned_in f l sp others n ≡ false → kept_with others def sp n ≡ false
      not-banned n e = kept-same n ∙ by (keeps_return def.frame f.code) ((or_parts (others n) _ e).0) ((or_parts (others n) _ e).1)
        where
          by : (b : Bool) → others n ≡ false → (b && (in_word n (Some sp) || in_gap f l sp n)) ≡ false → (others n || (b && in_word n (Some sp))) ≡ false
          by true o h = λ t. o t || (or_parts (in_word n (Some sp)) (in_gap f l sp n) h).0 t
          by false o h = λ t. o t || false

      above : (n : ℕ) → kept_with others def sp n ≡ true → sp ≤ n
      above n e = by (others n) refl (keeps def) e
        where
          by : (o : Bool) → others n ≡ o → (b : Bool) → (o || (b && in_word n (Some sp))) ≡ true → sp ≤ n
          by true o b h = let q = at.above n o in omega (arith, q, below)
          by false o true h = leb-true sp n ((and_parts (nat_le sp n) _ h).0)
          by false o false h = absurd (true≢false (sym h))

      top-is : keeps_return def.frame f.code ≡ true → sp + 4 + def.frame ≡ reg x.core 29
      top-is k =
          let e : sp ≡ reg x.core 29 - (def.frame + 4) = ap (λ b. reg x.core 29 - (if b then def.frame + 4 else 0)) k in
          let floor = at.matched.floor in
          omega (arith, e, floor, fits, room_is)

  variables : HasVariables f (record { state = x; vars = vars; at = 0 })
  variables = record {
    count = contents-length f core sp words 0 p.offsets ∙ (sym (map-length p.offsets) ∙ framed.placed.count);
    low = λ v value var e. (let n : 0 + v ≡ v = omega arith in subst (λ k. value < 2 ^ (8 * size_at f k)) n (contents-low f core sp words 0 p.offsets v value e));
  }

  sync : KeepsFramed f p.offsets def → Sync base (around_call symbol f l sp others) (around_framed symbol def sp others) (framed_as f l) def base.loose nowhere base.shut shut_b apart sp suits start_a start_b
  sync keeps_steps = record {
    out = refl;
    left = refl;
    ending = refl;
    stack = stack_is;
    holds = record { words = words; input = (let e = begun [] in e.input); variables = All-nil IsWord };
    follows = λ n. subst (λ k. Follows (λ b. nat_le k b && in_variable f 0 p.offsets (b - k)) (side_of symbol f l k others) (framed_side symbol def k others) n start_a start_b) stack_is
        (keeps_steps symbol others n start_a start_b (begun vars) (record { count = variables.count; low = variables.low }) refl refl holds_variables);
  }
    where
      holds_variables : HoldsVariables f p.offsets start_a start_b
      holds_variables v q value var is h =
          let n : 0 + v ≡ v = omega arith in
          contents-hold f core sp words 0 p.offsets v q value is
          (ap (λ k. content core (sp + q) (size_at f k)) n ∙ (ap (λ k. content core (k + q) (size_at f v)) (sym stack_is) ∙ h))

  framed-performs : (q : Play Value) → KeepsFramed f p.offsets def
      → Performs base q m first_count (record { state = after_entry (framed_as f l) x; vars = vars; at = 0 })
      → Performs (setting_of g Branches symbol def others active need (entry_of m s call x)) q m first_count start_b
  framed-performs q keeps_steps done =
      subst (λ n. Performs (framed_at n) q m first_count start_b) stacks
      (carry base (around_call symbol f l sp others) (around_framed symbol def sp others) (framed_as f l) def base.loose nowhere base.shut shut_b apart sp suits
      q m first_count first_count start_a start_b (subst (λ y. Performs base q m first_count (record { state = y; vars = vars; at = 0 })) states done)
      (record { turns = refl; steps = refl; allowed = refl; backs = omega arith }) (sync keeps_steps))

pub carries_framed : CarriesFramed
carries_framed f rs homes def code no_f no_def settled g symbol need body name room_is ok others active turns call s m x is fits at =
    let p = settled.0 in
    let l : Layout = layout_of f def.frame p.offsets in
    let framed = settled.1 in (
      stack-found,
      framed-performs f rs homes def p code no_f no_def framed g symbol need others active call s m x room_is fits at (body turns call s) settled.2
          (ok l (vars f rs homes def p code no_f no_def framed g symbol need others active call s m x room_is fits at) others active turns call s m x
          (layout-is f def.frame p.offsets framed.frame framed.placed) room_is
          (variables f rs homes def p code no_f no_def framed g symbol need others active call s m x room_is fits at)
          (contents-words f (core f rs homes def p code no_f no_def framed g symbol need others active call s m x room_is fits at) (lowered_stack (framed_as f l) x) (words f rs homes def p code no_f no_def framed g symbol need others active call s m x room_is fits at) 0 p.offsets) is fits at),
    )
  where
    taken-small : (b : Bool) → (if b then def.frame + 4 else 0) ≤ def.frame + 4
    taken-small true = omega arith
    taken-small false = omega arith

    stack-found : stack_start + taken_by def ≤ reg x.core 29
    stack-found = let floor = at.matched.floor in let small = taken-small (keeps def) in omega (arith, floor, fits, room_is, small)
