-- Steps that touch automatics: their addresses, and reads and writes of those in memory, of homes and of places.
use Rattle.std.proofs.Common.{ℕ, ◌+◌, ◌-◌, ◌%◌, ◌^◌, ◌==◌, ◌&&◌, ◌||◌, ◌≡◌, ◌≢◌, ◌⊎◌, inl, inr, ◌≤◌, nat_le, Bool, true, false, not, Option, Some, None, refl, sym, ap, ◌∙◌, subst, arith, length, slice_get, slice_index, slice_set}
use Rattle.std.proofs.lemmas.Bool.{false≢true, and_parts, eqb-true, eq-eqb}
use Rattle.std.proofs.lemmas.Option.{slice_get_within, get_or_from_slice_get}
use Rattle.std.proofs.lemmas.List.{get_or-set_same, get_or-set_other, length-set}
use Rattle.p9_base.specs.Words.{word_sum}
use Rattle.p9_base.specs.Core.{Core, reg, readable, writable}
use Rattle.p9_base.specs.Holding.{LaidOut}
use Rattle.p9_base.proofs.Holding.{register-word}
use Rattle.p9_abs.specs.declared.instructions.Abs.{Abs}
use Rattle.p9_abs.specs.declared.forms.Location.TheVariants.{Automatic}
use Rattle.p9_abs.specs.declared.forms.Width.{Width}
use Rattle.p9_abs.specs.declared.forms.Form.TheVariants as forms
use Rattle.p9_abs.specs.Automatics.{holds_of, reads, is_variable, fills}
use Rattle.p9_abs.specs.OneCall.{size_at}
use Rattle.p9_abs.specs.Keeping.{memory_offsets, offset_or_none, steps_of}
use Rattle.p9_abs.specs.Runs.{taken_by}
use Rattle.p9_abs.specs.Steps.{Mach, Next, without_text, write, moved, stored, bytes_of, is_free, touches, load_effect, store_effect, loads, stores, takes_address, automatic_spot, acts}
use Rattle.p9_abs.specs.Laws.{IfMach}
use Rattle.p9_abs.specs.Laws.{Holds as HoldsAll}
use Rattle.p9_abs.proofs.Fixed.{other-register}
use Rattle.p9_homed.specs.Homed.{homed_load, homed_store}
use Rattle.p9_keeps.proofs.Widths.{loaded, stored-moved, moved-stored, one-size, AreOneSize}
use Rattle.p9_keeps.proofs.Cores.{get, put, aligned, load-step, store-step, IsInStack, stack-readable, stack-writable, stack-aligned, get-put, get-beside, get-loaded, put-sizes}
use Rattle.p9_keeps.proofs.Living.{variable-size, variable-whole, matters-read, memory-home, home-apart}
use Rattle.p9_keeps.proofs.Scenes.{Scene, given, made, made_side, place, made-taken}
use Rattle.p9_keeps.proofs.Places.{memory-get, memory-past, has-place, place-free, place-stack, places-apart}
use Rattle.p9_keeps.proofs.Matching.{Held, home}
use Rattle.p9_keeps.proofs.Laying.{IsAt, form-is}
use Rattle.p9_keeps.proofs.Shapes.{written, filled, same-register, near-place, near-home, range, some-bytes}
use Rattle.p9_keeps.proofs.Stepping.{Now, IsFollowed, KeepsStack, alone, stays, made-step, wordy, onward, register, load, store, place-high, opened}
use Rattle.p9_keeps.proofs.Acting.{FollowsForm}

-- an automatic is none of the code's, a variable, or in memory
pub data Where (s : Scene) (v : ℕ) : Type 0 where
  Nowhere : slice_get (memory_offsets s.f 0 s.p.offsets) v ≡ None → Where s v
  Outside : is_variable s.f v ≡ true → slice_get (memory_offsets s.f 0 s.p.offsets) v ≡ Some None → Where s v
  Inside : is_variable s.f v ≡ false → slice_get (memory_offsets s.f 0 s.p.offsets) v ≡ Some (Some (slice_index s.p.offsets v)) → Where s v

where-is : (s : Scene) (v : ℕ) → Where s v
where-is s v = by (slice_get s.p.offsets v) refl
  where
    same : 0 + v ≡ v
    same = omega arith

    by : (o : Option ℕ) → slice_get s.p.offsets v ≡ o → Where s v
    by None e = Nowhere (memory-past s.f 0 s.p.offsets v e)
    by (Some p) e = at (is_variable s.f v) refl
      where
        is : slice_get (memory_offsets s.f 0 s.p.offsets) v ≡ Some (offset_or_none (is_variable s.f v) p)
        is = memory-get s.f 0 s.p.offsets v p e ∙ ap (λ z. Some (offset_or_none (is_variable s.f z) p)) same

        at : (b : Bool) → is_variable s.f v ≡ b → Where s v
        at true h = Outside h (is ∙ ap (λ b. Some (offset_or_none b p)) h)
        at false h = Inside h (is ∙ (ap (λ b. Some (offset_or_none b p)) h ∙ ap (λ z. Some (Some z)) (sym (get_or_from_slice_get s.p.offsets v p 0 e))))

wrapped : (r q : ℕ) → word_sum r (q % 2 ^ 32) ≡ word_sum r q
wrapped r q = omega arith

from-taken : (r t q : ℕ) → t ≤ 2 ^ 32 → word_sum r (t + (q + 2 ^ 32 - t) % 2 ^ 32) ≡ word_sum r q
from-taken r t q l = omega (arith, l)

-- Steps at a variable's place

module _ (s : Scene) (y : Mach) (w : Width) (v : ℕ) (var : is_variable s.f v ≡ true) (size : bytes_of w ≡ size_at s.f v) (laid : (let z : Mach = without_text y in LaidOut z.state.core)) where
  abbrev d : Core
  d = let z : Mach = without_text y in z.state.core

  pub in-stack : IsInStack d (place s v) (bytes_of w)
  in-stack = subst (IsInStack d (place s v)) (sym size) (place-stack s v d var laid refl)

  free : is_free (made s).banned (place s v) (bytes_of w) ≡ true
  free = ap (is_free (made s).banned (place s v)) size ∙ place-free s v var

  four : aligned w (place s v) ≡ true
  four = stack-aligned w (place s v) (has-place s v var).fourfold

  pub place-load : (r : ℕ) (z : Mach) → touches (made s) (place s v) (bytes_of w) (load_effect w d r (place s v)) z ≡ write r (loaded w (get w d (place s v))) z
  place-load r z = load-step (made s) w r (place s v) d z ∙ opened (is_free (made s).banned (place s v) (bytes_of w)) (aligned w (place s v)) (nat_le (bytes_of w) (readable d (place s v))) _ free four (stack-readable d (place s v) (bytes_of w) in-stack (some-bytes w))

  pub place-store : (n : ℕ) → touches (made s) (place s v) (bytes_of w) (store_effect w d (place s v) n) (without_text y) ≡ Next (filled w (place s v) n (without_text y))
  place-store n = store-step (made s) w (place s v) n (without_text y) ∙ opened (is_free (made s).banned (place s v) (bytes_of w)) (aligned w (place s v)) (nat_le (bytes_of w) (writable d (place s v))) _ free four (stack-writable d (place s v) (bytes_of w) in-stack (some-bytes w))

-- no address of a variable's place wraps
pub place-address : (s : Scene) (v r : ℕ) → is_variable s.f v ≡ true → r ≡ s.sp → word_sum r (slice_index s.p.offsets v % 2 ^ 32) ≡ place s v
place-address s v r var e = let p = has-place s v var in let b = p.below in let h = s.high in omega (arith, e, b, h)

module _ (s : Scene) (i m : ℕ) (x y : Mach) (now : Now s i m x y) (a : Abs) where
  stack-same : reg y.state.core 29 ≡ reg x.state.core 29
  stack-same = sym (now.holds.near.regs 29 (inr (omega arith)))

  -- Addresses

  pub address : (v o r : ℕ) → FollowsForm s i m x y a (forms.SetAddress (Automatic v o) r)
  address v o r t = by (where-is s v)
    where
      same : word_sum (reg y.state.core 29) (taken_by s.def + (slice_index s.p.offsets v + o + 2 ^ 32 - taken_by s.def) % 2 ^ 32) ≡ word_sum (reg x.state.core 29) (slice_index s.p.offsets v + o)
      same =
          let k = made-taken s in let f = s.framed.frame.1 in
          ap (λ z. word_sum z (taken_by s.def + (slice_index s.p.offsets v + o + 2 ^ 32 - taken_by s.def) % 2 ^ 32)) stack-same
          ∙ from-taken (reg x.state.core 29) (taken_by s.def) (slice_index s.p.offsets v + o) (omega (arith, k, f))

      by : Where s v → IsFollowed s m x y (takes_address (automatic_spot (reg x.state.core 29) v (slice_get (memory_offsets s.f 0 s.p.offsets) v) o) r (without_text x))
      by (Nowhere e) = subst (λ q. IsFollowed s m x y (takes_address (automatic_spot (reg x.state.core 29) v q o) r (without_text x))) (sym e) tt
      by (Outside h e) = subst (λ q. IsFollowed s m x y (takes_address (automatic_spot (reg x.state.core 29) v q o) r (without_text x))) (sym e) tt
      by (Inside h e) = subst (λ q. IsFollowed s m x y (takes_address (automatic_spot (reg x.state.core 29) v q o) r (without_text x))) (sym e)
          (register s i m x y now a _ t r (word_sum (reg x.state.core 29) (slice_index s.p.offsets v + o)) refl refl (λ u var z. false≢true z) t.oks.1.0
          (subst (λ q. KeepsStack x (takes_address (automatic_spot (reg x.state.core 29) v q o) r (without_text x))) e (stays s i m x y now a _ t))
          (subst (λ z. IfMach HoldsAll (write r z (without_text (alone y)))) same (wordy s i m x y now a _ t refl))
          (made-step s i m x y now a _ t refl ∙ ap (λ z. write r z (without_text y)) same))

  -- An access of a variable is of its whole

  whole : (v o : ℕ) (w : Width) → (not (v == v) || ((o == 0) && (bytes_of w == size_at s.f v))) ≡ true → (o ≡ 0) × (bytes_of w ≡ size_at s.f v)
  whole v o w h =
      let q = and_parts (o == 0) (bytes_of w == size_at s.f v) (sym (ap (λ b. not b || ((o == 0) && (bytes_of w == size_at s.f v))) (eq-eqb v v refl)) ∙ h) in
      (eqb-true o 0 q.0, eqb-true (bytes_of w) (size_at s.f v) q.1)

  -- the operand of framed code is at the place
  at-place : (v o : ℕ) → is_variable s.f v ≡ true → o ≡ 0 → word_sum (reg y.state.core 29) ((slice_index s.p.offsets v + o) % 2 ^ 32) ≡ place s v
  at-place v o var z =
      let e : slice_index s.p.offsets v + o ≡ slice_index s.p.offsets v = omega (arith, z) in
      ap (λ k. word_sum (reg y.state.core 29) (k % 2 ^ 32)) e ∙ place-address s v (reg y.state.core 29) var (stack-same ∙ now.holds.near.stack)

  at-memory : (v o : ℕ) → word_sum (reg y.state.core 29) ((slice_index s.p.offsets v + o) % 2 ^ 32) ≡ word_sum (reg x.state.core 29) (slice_index s.p.offsets v + o)
  at-memory v o = ap (λ k. word_sum k ((slice_index s.p.offsets v + o) % 2 ^ 32)) stack-same ∙ wrapped (reg x.state.core 29) (slice_index s.p.offsets v + o)

  abbrev d0 : Core
  d0 = let z : Mach = without_text y in z.state.core

  -- Reads

  module _ (w : Width) (v o r : ℕ) (t : IsAt s i a (forms.Load w (Automatic v o) r)) where
    variable-read : is_variable s.f v ≡ true → KeepsStack x (write r (moved w (slice_index x.vars v)) (without_text x)) → (h : Option ℕ) → home s v i ≡ h → Held s h v x y →
        IfMach HoldsAll (acts (made s) (homed_load w h (slice_index s.p.offsets v + o) r) (without_text (alone y))) →
        steps_of (made_side s) y ≡ acts (made s) (homed_load w h (slice_index s.p.offsets v + o) r) (without_text y) →
        (o ≡ 0) × (bytes_of w ≡ size_at s.f v) → IsFollowed s m x y (write r (moved w (slice_index x.vars v)) (without_text x))
    variable-read var keeps (Some h) at held words e z =
        let value : moved w (reg y.state.core h) ≡ moved w (slice_index x.vars v) = sym (moved-stored w (reg y.state.core h)) ∙ ap (moved w) (held w z.1) in
        register s i m x y now a _ t r (moved w (slice_index x.vars v)) refl refl (λ u k q. false≢true q) t.oks.1.0 keeps
        (subst (λ n. IfMach HoldsAll (write r n (without_text (alone y)))) value words)
        (e ∙ ap (λ n. write r n (without_text y)) value)
    variable-read var keeps None at held words e z =
        let spot : word_sum (reg y.state.core 29) ((slice_index s.p.offsets v + o) % 2 ^ 32) ≡ place s v = at-place v o var z.0 in
        let value : loaded w (get w d0 (place s v)) ≡ moved w (slice_index x.vars v) = get-loaded w y.state.core (place s v) now.holds.near.words ∙ ap (moved w) (held w z.1) in
        register s i m x y now a _ t r (moved w (slice_index x.vars v)) refl refl (λ u k q. false≢true q) t.oks.1.0 keeps
        (subst (IfMach HoldsAll) (place-load s y w v var z.1 now.holds.near.laid r (without_text (alone y)) ∙ ap (λ n. write r n (without_text (alone y))) value)
        (subst (λ k. IfMach HoldsAll (touches (made s) k (bytes_of w) (load_effect w d0 r k) (without_text (alone y)))) spot words))
        (e ∙ (ap (λ k. touches (made s) k (bytes_of w) (load_effect w d0 r k) (without_text y)) spot
        ∙ (place-load s y w v var z.1 now.holds.near.laid r (without_text y) ∙ ap (λ n. write r n (without_text y)) value)))

    pub reading : IsFollowed s m x y (acts (given s) (forms.Load w (Automatic v o) r) (without_text x))
    reading = by (where-is s v)
      where
        by : Where s v → IsFollowed s m x y (loads (given s) w (automatic_spot (reg x.state.core 29) v (slice_get (memory_offsets s.f 0 s.p.offsets) v) o) r (without_text x))
        by (Nowhere e) = subst (λ q. IsFollowed s m x y (loads (given s) w (automatic_spot (reg x.state.core 29) v q o) r (without_text x))) (sym e) tt
        by (Outside h e) = subst (λ q. IsFollowed s m x y (loads (given s) w (automatic_spot (reg x.state.core 29) v q o) r (without_text x))) (sym e)
            (variable-read h (subst (λ q. KeepsStack x (loads (given s) w (automatic_spot (reg x.state.core 29) v q o) r (without_text x))) e (stays s i m x y now a _ t))
            (home s v i) refl
            (now.holds.held v (matters-read s.f v i h (ap (holds_of (reads v)) (form-is s i a _ t) ∙ eq-eqb v v refl)))
            (wordy s i m x y now a _ t refl) (made-step s i m x y now a _ t refl)
            (whole v o w (variable-whole s.f v i _ h now.holds.reached_is (form-is s i a _ t))))
        by (Inside h e) =
            let none : home s v i ≡ None = memory-home s.f s.rs s.homes s.regions s.homed v i h in
            let spot = at-memory v o in
            subst (λ q. IsFollowed s m x y (loads (given s) w (automatic_spot (reg x.state.core 29) v q o) r (without_text x))) (sym e)
            (load s i m x y now a _ t w r (word_sum (reg x.state.core 29) (slice_index s.p.offsets v + o)) refl refl (λ u k q. false≢true q) t.oks.1.0
            (subst (λ q. KeepsStack x (loads (given s) w (automatic_spot (reg x.state.core 29) v q o) r (without_text x))) e (stays s i m x y now a _ t))
            (subst (λ k. IfMach HoldsAll (touches (made s) k (bytes_of w) (load_effect w d0 r k) (without_text (alone y)))) spot
            (subst (λ k. IfMach HoldsAll (acts (made s) (homed_load w k (slice_index s.p.offsets v + o) r) (without_text (alone y)))) none (wordy s i m x y now a _ t refl)))
            (made-step s i m x y now a _ t refl
            ∙ (ap (λ k. acts (made s) (homed_load w k (slice_index s.p.offsets v + o) r) (without_text y)) none
            ∙ ap (λ k. touches (made s) k (bytes_of w) (load_effect w d0 r k) (without_text y)) spot)))

  -- Writes

  module _ (w : Width) (r v o : ℕ) (t : IsAt s i a (forms.Store w r (Automatic v o))) where
    -- the machine of the code given behind the write
    abbrev put_x : Mach
    put_x = let z : Mach = without_text x in record z { vars = slice_set x.vars v (stored w (reg x.state.core r)); at = x.at + 1 }

    value-same : reg y.state.core r ≡ reg x.state.core r
    value-same = sym (now.holds.near.regs r t.oks.0)

    counted : length (slice_set x.vars v (stored w (reg x.state.core r))) ≡ length s.f.autos
    counted = length-set x.vars v (stored w (reg x.state.core r)) ∙ now.holds.near.variables

    -- the variable that is written
    here : is_variable s.f v ≡ true → slice_index (slice_set x.vars v (stored w (reg x.state.core r))) v ≡ stored w (reg x.state.core r)
    here var =
        let l = slice_get_within s.f.autos v (size_at s.f v) (variable-size s.f v var) in let n = now.holds.near.variables in
        get_or-set_same x.vars v (stored w (reg x.state.core r)) 0 (omega (arith, l, n))

    -- and another
    there : (u : ℕ) → u ≢ v → slice_index (slice_set x.vars v (stored w (reg x.state.core r))) u ≡ slice_index x.vars u
    there u ne = get_or-set_other x.vars v u (stored w (reg x.state.core r)) 0 ne

    unfilled : (u : ℕ) → bytes_of w ≡ size_at s.f v → o ≡ 0 → fills u (size_at s.f u) (forms.Store w r (Automatic v o)) ≡ false → u ≢ v
    unfilled u size z e q = false≢true (sym e ∙ subst (λ k. fills k (size_at s.f k) (forms.Store w r (Automatic v o)) ≡ true) (sym q) fills-v)
      where
        fills-v : ((v == v) && (not (v == v) || ((o == 0) && (bytes_of w == size_at s.f v)))) ≡ true
        fills-v =
            ap (λ b. b && (not b || ((o == 0) && (bytes_of w == size_at s.f v)))) (eq-eqb v v refl)
            ∙ (ap (λ b. b && (bytes_of w == size_at s.f v)) (eq-eqb o 0 z) ∙ eq-eqb (bytes_of w) (size_at s.f v) size)

    filled-only : (u : ℕ) → fills u (size_at s.f u) (forms.Store w r (Automatic v o)) ≡ true → v ≡ u
    filled-only u e = eqb-true v u (and_parts (v == u) _ e).0

    variable-write : is_variable s.f v ≡ true → (h : Option ℕ) → home s v i ≡ h →
        IfMach HoldsAll (acts (made s) (homed_store w r h (slice_index s.p.offsets v + o)) (without_text (alone y))) →
        steps_of (made_side s) y ≡ acts (made s) (homed_store w r h (slice_index s.p.offsets v + o)) (without_text y) →
        (o ≡ 0) × (bytes_of w ≡ size_at s.f v) → IsFollowed s m x y (Next put_x)
    variable-write var (Some h) at words e z =
        onward s i m x y now a _ t put_x (written h (moved w (reg y.state.core r)) (without_text y)) refl refl e
        (near-home s x y h (moved w (reg y.state.core r)) now.holds.near (range s v i h at) words.words (slice_set x.vars v (stored w (reg x.state.core r))) (x.at + 1) counted) refl refl
        kept filled_one
      where
        kept : (u : ℕ) → is_variable s.f u ≡ true → fills u (size_at s.f u) (forms.Store w r (Automatic v o)) ≡ false → (q : Option ℕ) → home s u i ≡ q → Held s q u x y →
            Held s q u put_x (written h (moved w (reg y.state.core r)) (without_text y))
        kept u uv f None q held = λ k b. held k b ∙ sym (there u (unfilled u z.1 z.0 f))
        kept u uv f (Some g) q held =
            let ne : u ≢ v = unfilled u z.1 z.0 f in
            let other : g ≢ h = λ c. home-apart s.f s.rs s.homes s.regions s.homed u v i g ne q (at ∙ ap (λ k. Some k) (sym c)) in
            λ k b. ap (stored k) (other-register y.state.core.regs h (moved w (reg y.state.core r)) g other) ∙ (held k b ∙ sym (there u ne))

        written-home : reg (let c : Mach = written h (moved w (reg y.state.core r)) (without_text y) in c.state.core) h ≡ moved w (reg y.state.core r)
        written-home =
            let b = range s v i h at in let b0 = b.0 in let b1 = b.1 in let n = now.holds.near.words.count in
            same-register y.state.core.regs h (moved w (reg y.state.core r)) (λ q. omega (arith, q, b0)) (omega (arith, n, b1))

        filled-home : (k : Width) → bytes_of k ≡ size_at s.f v → stored k (reg (let c : Mach = written h (moved w (reg y.state.core r)) (without_text y) in c.state.core) h) ≡ slice_index (slice_set x.vars v (stored w (reg x.state.core r))) v
        filled-home k b =
            let one : AreOneSize k w = one-size k w (b ∙ sym z.1) in
            ap (stored k) written-home ∙ (one.parts (moved w (reg y.state.core r)) ∙ (stored-moved w (reg y.state.core r) ∙ (ap (stored w) value-same ∙ sym (here var))))

        filled-as : (u : ℕ) → v ≡ u → (q : Option ℕ) → home s u i ≡ q → Held s q u put_x (written h (moved w (reg y.state.core r)) (without_text y))
        filled-as u c q d =
            subst (λ k. Held s q k put_x (written h (moved w (reg y.state.core r)) (without_text y))) c
            (subst (λ k. Held s k v put_x (written h (moved w (reg y.state.core r)) (without_text y))) (sym at ∙ (ap (λ k. home s k i) c ∙ d)) filled-home)

        filled_one : (u : ℕ) → is_variable s.f u ≡ true → fills u (size_at s.f u) (forms.Store w r (Automatic v o)) ≡ true → (q : Option ℕ) → home s u i ≡ q →
            Held s q u put_x (written h (moved w (reg y.state.core r)) (without_text y))
        filled_one u uv f q d = filled-as u (filled-only u f) q d
    variable-write var None at words e z =
        onward s i m x y now a _ t put_x (filled w (place s v) (reg y.state.core r) (without_text y)) refl refl
        (e ∙ (ap (λ k. touches (made s) k (bytes_of w) (store_effect w d0 k (reg y.state.core r)) (without_text y)) (at-place v o var z.0) ∙ place-store s y w v var z.1 now.holds.near.laid (reg y.state.core r)))
        (near-place s x y w v (reg y.state.core r) now.holds.near var z.1 (place-high s i m x y now a _ t v var) (slice_set x.vars v (stored w (reg x.state.core r))) (x.at + 1) counted) refl refl
        kept (λ u uv f q d. filled-as u (filled-only u f) q d)
      where
        kept : (u : ℕ) → is_variable s.f u ≡ true → fills u (size_at s.f u) (forms.Store w r (Automatic v o)) ≡ false → (q : Option ℕ) → home s u i ≡ q → Held s q u x y →
            Held s q u put_x (filled w (place s v) (reg y.state.core r) (without_text y))
        kept u uv f (Some g) q held = λ k b. ap (stored k) (ap (λ l. slice_index l g) (put-sizes w d0 (place s v) (reg y.state.core r)).regs) ∙ (held k b ∙ sym (there u (unfilled u z.1 z.0 f)))
        kept u uv f None q held = λ k b.
            let ne : u ≢ v = unfilled u z.1 z.0 f in
            get-beside w k d0 (place s v) (place s u) (reg y.state.core r) (place-high s i m x y now a _ t u uv) (beside k b (places-apart s u v ne uv var)) ∙ (held k b ∙ sym (there u ne))
          where
            beside : (k : Width) → bytes_of k ≡ size_at s.f u → (place s u + size_at s.f u ≤ place s v) ⊎ (place s v + size_at s.f v ≤ place s u) → (place s u + bytes_of k ≤ place s v) ⊎ (place s v + bytes_of w ≤ place s u)
            beside k b (inl l) = inl (omega (arith, b, l))
            beside k b (inr l) = let c = z.1 in inr (omega (arith, c, l))

        filled-place : (k : Width) → bytes_of k ≡ size_at s.f v → get k (put w d0 (place s v) (reg y.state.core r)) (place s v) ≡ slice_index (slice_set x.vars v (stored w (reg x.state.core r))) v
        filled-place k b =
            get-put w k d0 (place s v) (reg y.state.core r) (b ∙ sym z.1) (in-stack s y w v var z.1 now.holds.near.laid) (register-word y.state.core r now.holds.near.words)
            ∙ (ap (stored w) value-same ∙ sym (here var))

        filled-as : (u : ℕ) → v ≡ u → (q : Option ℕ) → home s u i ≡ q → Held s q u put_x (filled w (place s v) (reg y.state.core r) (without_text y))
        filled-as u c q d =
            subst (λ k. Held s q k put_x (filled w (place s v) (reg y.state.core r) (without_text y))) c
            (subst (λ k. Held s k v put_x (filled w (place s v) (reg y.state.core r) (without_text y))) (sym at ∙ (ap (λ k. home s k i) c ∙ d)) filled-place)

    pub writing : IsFollowed s m x y (acts (given s) (forms.Store w r (Automatic v o)) (without_text x))
    writing = by (where-is s v)
      where
        none-filled : is_variable s.f v ≡ false → (u : ℕ) → is_variable s.f u ≡ true → fills u (size_at s.f u) (forms.Store w r (Automatic v o)) ≡ true → ⊥
        none-filled h u uv f = false≢true (sym h ∙ (ap (is_variable s.f) (filled-only u f) ∙ uv))

        by : Where s v → IsFollowed s m x y (stores (given s) w r (automatic_spot (reg x.state.core 29) v (slice_get (memory_offsets s.f 0 s.p.offsets) v) o) (without_text x))
        by (Nowhere e) = subst (λ q. IsFollowed s m x y (stores (given s) w r (automatic_spot (reg x.state.core 29) v q o) (without_text x))) (sym e) tt
        by (Outside h e) = subst (λ q. IsFollowed s m x y (stores (given s) w r (automatic_spot (reg x.state.core 29) v q o) (without_text x))) (sym e)
            (variable-write h (home s v i) refl (wordy s i m x y now a _ t refl) (made-step s i m x y now a _ t refl)
            (whole v o w (variable-whole s.f v i _ h now.holds.reached_is (form-is s i a _ t))))
        by (Inside h e) =
            let none : home s v i ≡ None = memory-home s.f s.rs s.homes s.regions s.homed v i h in
            subst (λ q. IsFollowed s m x y (stores (given s) w r (automatic_spot (reg x.state.core 29) v q o) (without_text x))) (sym e)
            (store s i m x y now a _ t w (word_sum (reg x.state.core 29) (slice_index s.p.offsets v + o)) (reg x.state.core r) refl refl (none-filled h)
            (made-step s i m x y now a _ t refl
            ∙ (ap (λ k. acts (made s) (homed_store w r k (slice_index s.p.offsets v + o)) (without_text y)) none
            ∙ (λ k. touches (made s) (at-memory v o k) (bytes_of w) (store_effect w d0 (at-memory v o k) (value-same k)) (without_text y)))))
