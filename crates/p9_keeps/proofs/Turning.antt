-- Branches, jumps, calls and returns.
use Rattle.std.proofs.Common.{ℕ, ◌+◌, ◌-◌, ◌≡◌, inl, inr, ◌<◌, nat_le, Bool, true, false, Option, Some, None, refl, sym, ap, ◌∙◌, subst, arith, List, ◌∷◌, ◌++◌, length, slice_index}
use Rattle.std.proofs.lemmas.Bool.{false≢true, true≢false, and_left, eq-eqb, leb-true, le-leb, lt-leb}
use Rattle.std.proofs.lemmas.List.{length-map}
use Rattle.p9_base.specs.Core.{stack_start, reg}
use Rattle.p9_base.specs.SystemCalls.{State}
use Rattle.p9_base.specs.Holding.{LaidOut}
use Rattle.p9_abs.specs.declared.instructions.Abs.{Abs}
use Rattle.p9_abs.specs.declared.forms.Width.{Width}
use Rattle.p9_abs.specs.declared.forms.PairTest.{PairTest}
use Rattle.p9_abs.specs.declared.forms.SignTest.{SignTest}
use Rattle.p9_abs.specs.declared.forms.Form.{Form}
use Rattle.p9_abs.specs.declared.forms.Form.TheVariants as forms
use Rattle.p9_abs.specs.Automatics.{holds_of, calls_in, falls, goes_to, flows, call_at, is_variable, fills, fills_at}
use Rattle.p9_abs.specs.Framed.{start_of, shifts_code}
use Rattle.p9_abs.specs.OneCall.{size_at}
use Rattle.p9_abs.specs.Steps.{Mach, without_text, stored, bytes_of, pair_holds, sign_holds, turns, calls, acts}
use Rattle.p9_abs.specs.Keeping.{SameMemory, Meet, Answers, steps_of, in_variable}
use Rattle.p9_abs.proofs.Reaching.{reached-flows}
use Rattle.p9_homed.specs.Homed.{homed_form, framed_instruction}
use Rattle.p9_keeps.proofs.Cores.{get, SameCore, same-by-bytes, bytes-by-same, get-bytes}
use Rattle.p9_keeps.proofs.Living.{Matters, matters-back, homed-candidate}
use Rattle.p9_keeps.proofs.Scenes.{Scene, made, given_side, made_side, apart, place}
use Rattle.p9_keeps.proofs.Places.{has-place, place-apart}
use Rattle.p9_keeps.proofs.Lagging.{lags}
use Rattle.p9_keeps.proofs.Matching.{IsPlainRegister, Near, Held, home, Holds, arrive}
use Rattle.p9_keeps.proofs.Laying.{HasAt, has-left, has-right, step-acts, homing, start-next, start-plain, start-rises, block-at, IsAt, form-is, flows-next, flows-to}
use Rattle.p9_keeps.proofs.Shapes.{moved_to, near-jump, held-jump}
use Rattle.p9_keeps.proofs.Stepping.{Now, IsFollowed, no-call, made-step, fills-are}
use Rattle.p9_keeps.proofs.Acting.{FollowsForm}
use Rattle.p9_keeps.proofs.Shifting.{Agree, AreLoaded, run-loads, RunsLoads, AreStored, run-stores, RunsStores}

-- Memory that is the same but for variables' places

below-stack : (s : Scene) (a : ℕ) → a < stack_start → apart s a ≡ false
below-stack s a l = let h = s.low in and_left (nat_le s.sp a) (in_variable s.f 0 s.p.offsets (a - s.sp)) (lt-leb s.sp a (omega (arith, l, h)))

memory-same : (s : Scene) (x y : State) → SameCore (apart s) x.core y.core → x.left ≡ y.left → x.out ≡ y.out → SameMemory (apart s) x y
memory-same s x y m input output = record {
  bytes = bytes-by-same (apart s) x.core y.core m;
  low = ap length m.low;
  stack = m.size;
  order = m.order;
  data_start = m.begin;
  input = input;
  output = output;
}

meets : (s : Scene) (x y : Mach) (i j : ℕ) → Near s x y → (let u : Mach = without_text x in let w : Mach = without_text y in Meet (apart s) (record u { at = i }) (record w { at = j }))
meets s x y i j near = record {
  result = near.regs 1 (inl (omega arith));
  stack = near.regs 29 (inr (omega arith));
  base = near.regs 30 (inr (omega arith));
  memory = (let m = near.memory in let u : Mach = without_text x in let w : Mach = without_text y in
      memory-same s u.state w.state (record { order = m.order; low = m.low; begin = m.begin; size = m.size; stack = m.stack }) near.input near.output);
}

module _ (s : Scene) (i m : ℕ) (x y : Mach) (now : Now s i m x y) (a : Abs) where
  -- Branches

  module _ (form : Form) (t : IsAt s i a form) (call : calls_in form ≡ false) (none : (v : ℕ) → fills v (size_at s.f v) form ≡ true → ⊥) where
    onto : (j k : ℕ) → flows s.f.code i j ≡ true → k ≡ start_of s.p j → Holds s j (moved_to s j (without_text x)) (moved_to s k (without_text y))
    onto j k flow e =
        arrive s i j x y (moved_to s j (without_text x)) (moved_to s k (without_text y)) now.holds flow (no-call s i m x y now a form t call) (near-jump s x y j k now.holds.near) refl e
        (λ v var q o at d. held-jump s x y j k now.holds.near v o d)
        (λ v var q o at. absurd (none v (sym (fills-are s i m x y now a form t v var) ∙ q)))

    turning : (taken : Bool) (l : ℕ) → (taken ≡ false → falls form ≡ true) → goes_to l form ≡ true → l < length s.f.code → steps_of (made_side s) y ≡ turns taken (start_of s.p l) (without_text y) →
        IsFollowed s m x y (turns taken l (without_text x))
    turning true l goes to inside e = (
      0,
      y,
      moved_to s (start_of s.p l) (without_text y),
      refl,
      e,
      (λ back. let h = now.holds.here in let k = now.holds.there in
          le-leb l x.at (let r = start-rises s l i (let q = leb-true (start_of s.p l) y.at back in omega (arith, q, k)) in omega (arith, r, h))),
      now.later l (moved_to s l (without_text x)) (moved_to s (start_of s.p l) (without_text y)) (onto l (start_of s.p l) (flows-to s i l a form t to inside) refl),
    )
    turning false l goes to inside e = (
      0,
      y,
      moved_to s (y.at + 1) (without_text y),
      refl,
      e,
      (λ back. back),
      now.later (i + 1) (moved_to s (x.at + 1) (without_text x)) (moved_to s (y.at + 1) (without_text y))
          (subst (λ n. Holds s (i + 1) (moved_to s n (without_text x)) (moved_to s (y.at + 1) (without_text y))) (let h = now.holds.here in let z : i + 1 ≡ x.at + 1 = omega (arith, h) in z)
          (onto (i + 1) (y.at + 1) (flows-next s i a form t (goes refl)) (let k = now.holds.there in let n = start-plain s i (no-call s i m x y now a form t call) in omega (arith, k, n)))),
    )

  as-before : (r : ℕ) → IsPlainRegister r → reg y.state.core r ≡ reg x.state.core r
  as-before r p = sym (now.holds.near.regs r p)

  pub branch-pair : (k : PairTest) (p q l : ℕ) → FollowsForm s i m x y a (forms.BranchPair k p q l)
  branch-pair k p q l t =
      let e = as-before p t.oks.0 in let g = as-before q t.oks.1.0 in
      turning (forms.BranchPair k p q l) t refl (λ v z. false≢true z) (pair_holds k (reg x.state.core p) (reg x.state.core q)) l (λ z. refl) (eq-eqb l l refl) t.oks.1.1.0
      (made-step s i m x y now a _ t refl ∙ (λ z. turns (pair_holds k (e z) (g z)) (start_of s.p l) (without_text y)))

  pub branch-sign : (k : SignTest) (p l : ℕ) → FollowsForm s i m x y a (forms.BranchSign k p l)
  branch-sign k p l t =
      let e = as-before p t.oks.0 in
      turning (forms.BranchSign k p l) t refl (λ v z. false≢true z) (sign_holds k (reg x.state.core p)) l (λ z. refl) (eq-eqb l l refl) t.oks.1.0
      (made-step s i m x y now a _ t refl ∙ (λ z. turns (sign_holds k (e z)) (start_of s.p l) (without_text y)))

  pub jump : (l : ℕ) → FollowsForm s i m x y a (forms.Jump l)
  jump l t = turning (forms.Jump l) t refl (λ v z. false≢true z) true l (λ z. absurd (true≢false z)) (eq-eqb l l refl) t.oks.0 (made-step s i m x y now a _ t refl)

  -- Returns

  pub back : FollowsForm s i m x y a forms.Return
  back t = (0, y, without_text y, refl, made-step s i m x y now a _ t refl, meets s x y x.at y.at now.holds.near)

  -- Calls

  module _ (form : Form) (t : IsAt s i a form) (call : calls_in form ≡ true) (goes : falls form ≡ true) (none : (v : ℕ) → fills v (size_at s.f v) form ≡ false) where
    call-is : call_at s.f.code i ≡ true
    call-is = ap (holds_of calls_in) (form-is s i a form t) ∙ call

    flow : flows s.f.code i (i + 1) ≡ true
    flow = flows-next s i a form t goes

    abbrev before : List Abs
    before = shifts_code s.f s.p (s.p.before i)

    abbrev after : List Abs
    after = shifts_code s.f s.p (s.p.after i)

    abbrev framed : Abs
    framed = framed_instruction s.rs s.homes s.p (made s).taken i a

    block : HasAt s.def.code (start_of s.p i) (before ++ (framed ∷ after))
    block = block-at s i a t.is

    stores : RunsStores s i (s.p.before i) x y
    stores =
        run-stores s i (s.p.before i) x y now.holds.near (s.moves.before i call-is).each
        (subst (λ n. HasAt s.def.code n before) (sym now.holds.there) (has-left s.def.code (start_of s.p i) before (framed ∷ after) block))

    call-stands : HasAt s.def.code (start_of s.p i + length (s.p.before i)) (framed ∷ after)
    call-stands = subst (λ n. HasAt s.def.code (start_of s.p i + n) (framed ∷ after)) (length-map (s.p.before i) _) (has-right s.def.code (start_of s.p i) before (framed ∷ after) block)

    module _ (z : Mach) (stored_z : AreStored s i (s.p.before i) x y z) where
      at-call : z.at ≡ start_of s.p i + length (s.p.before i)
      at-call = stored_z.at ∙ ap (λ n. n + length (s.p.before i)) now.holds.there

      pub call-step : steps_of (made_side s) z ≡ acts (made s) (homed_form (homing s i) form) (without_text z)
      call-step = step-acts (made s) s.def.code z (start_of s.p i + length (s.p.before i)) framed (homed_form (homing s i) form) at-call call-stands.0 t.homed

      unfilled : (v : ℕ) → is_variable s.f v ≡ true → fills_at s.f v i ≡ false
      unfilled v var = fills-are s i m x y now a form t v var ∙ none v

      -- all that counts behind the call is in its place
      in-place : (v : ℕ) → Matters s.f v (i + 1) → (w : Width) → bytes_of w ≡ size_at s.f v → get w z.state.core (place s v) ≡ slice_index x.vars v
      in-place v later w b = by (home s v i) refl (now.holds.held v counts)
        where
          counts : Matters s.f v i
          counts = matters-back s.f v i (i + 1) later flow (unfilled v later.variable)

          by : (o : Option ℕ) → home s v i ≡ o → Held s o v x y → get w z.state.core (place s v) ≡ slice_index x.vars v
          by None e d = stored_z.others v later.variable e w b ∙ d w b
          by (Some h) e d =
              let live = counts.live (homed-candidate s.f s.rs s.homes s.regions s.homed v i h e) in
              let agree : Agree s v h z = stored_z.done v h e ((s.moves.before i call-is).every v h live e) in
              sym (agree w b) ∙ (ap (λ l. stored w (slice_index l h)) stored_z.regs ∙ d w b)

      -- machines behind the answered call
      module _ (p q : Mach) (answer : (let u : Mach = without_text x in let w : Mach = without_text z in Answers (apart s) (record u { at = x.at + 1 }) (record w { at = z.at + 1 }) p q)) where
        laid-q : (let w : Mach = without_text q in LaidOut w.state.core)
        laid-q =
            let l = stored_z.near.laid in let n = stored_z.near.memory in let k = answer.sizes in let j = answer.memory in
            let g0 = l.gap in let g1 = l.data_and_bss in let g2 = l.above in let g3 = l.stack_size in
            let b0 = n.begin in let b1 = k.data_start in let b2 = j.data_start in
            let c0 = ap length n.low in let c1 = k.low in let c2 = j.low in
            let d0 = n.size in let d1 = k.stack in let d2 = j.stack in
            record { text = omega arith; gap = omega (arith, g0, b0, b1, b2); data_and_bss = omega (arith, g1, b0, b1, b2, c0, c1, c2); above = omega (arith, g2, c0, c1, c2); stack_size = omega (arith, g3, d0, d1, d2) }

        near-q : Near s p q
        near-q = record {
          regs = λ r plain. ap (λ l. slice_index l r) answer.registers;
          high = answer.high;
          lower = answer.lower;
          memory = (let j = answer.memory in let above = laid-q.above in let low = j.low in
              same-by-bytes (apart s) p.state.core q.state.core j.order j.data_start j.low j.stack (omega (arith, above, low)) (below-stack s) j.bytes);
          input = answer.memory.input;
          output = answer.memory.output;
          stack = answer.stack ∙ stored_z.near.stack;
          words = answer.words.1;
          laid = laid-q;
          counted = answer.words.0.count;
          variables = ap length answer.variables.0 ∙ now.holds.near.variables;
        }

        place-kept : (v : ℕ) → is_variable s.f v ≡ true → (w : Width) → bytes_of w ≡ size_at s.f v → get w q.state.core (place s v) ≡ get w z.state.core (place s v)
        place-kept v var w b =
            let high = (has-place s v var).above in let l = s.low in
            get-bytes w q.state.core z.state.core (place s v) (omega (arith, high, l))
            (sym answer.memory.order ∙ (answer.sizes.order ∙ stored_z.near.memory.order))
            (λ k less. answer.kept (place s v + k) (place-apart s v k var (omega (arith, less, b))))

        after-stands : HasAt s.def.code q.at after
        after-stands = subst (λ n. HasAt s.def.code n after) (sym (answer.on.1 ∙ ap (λ n. n + 1) at-call)) call-stands.1

        loads : RunsLoads s (i + 1) (s.p.after i) p q
        loads = run-loads s (i + 1) (s.p.after i) p q near-q (s.moves.after i call-is).each after-stands

        regained : (u : Mach) → AreLoaded s (i + 1) (s.p.after i) p q u → Holds s (i + 1) p u
        regained u loaded_u = record {
          near = loaded_u.near;
          here = answer.on.0 ∙ ap (λ n. n + 1) now.holds.here;
          there = (let e = loaded_u.at in let k = answer.on.1 in let c = at-call in let n = start-next s i in omega (arith, e, k, c, n));
          reached_is = reached-flows s.f.code i (i + 1) now.holds.reached_is flow;
          held = λ v counts. by v counts (home s v (i + 1)) refl;
        }
          where
            value : (v : ℕ) → Matters s.f v (i + 1) → (w : Width) → bytes_of w ≡ size_at s.f v → get w u.state.core (place s v) ≡ slice_index p.vars v
            value v counts w b = loaded_u.places v w ∙ (place-kept v counts.variable w b ∙ (in-place v counts w b ∙ ap (λ l. slice_index l v) (sym answer.variables.0)))

            by : (v : ℕ) → Matters s.f v (i + 1) → (o : Option ℕ) → home s v (i + 1) ≡ o → Held s o v p u
            by v counts None e = value v counts
            by v counts (Some h) e = λ w b.
                let live = counts.live (homed-candidate s.f s.rs s.homes s.regions s.homed v (i + 1) h e) in
                let agree : Agree s v h u = loaded_u.done v h e ((s.moves.after i call-is).every v h live e) in
                agree w b ∙ value v counts w b

    calling : (to : ℕ) → ((z : Mach) → AreStored s i (s.p.before i) x y z → acts (made s) (homed_form (homing s i) form) (without_text z) ≡ calls to (without_text z)) → IsFollowed s m x y (calls to (without_text x))
    calling to is =
        let z : Mach = stores.0 in (
          stores.1.0,
          z,
          (let w : Mach = without_text z in record w { at = z.at + 1 }),
          stores.1.1,
          call-step z stores.2 ∙ is z stores.2,
          meets s x z (x.at + 1) (z.at + 1) stores.2.near,
          (λ p q answer.
              let l = loads z stores.2 p q answer in
              lags (apart s) (given_side s) (made_side s) m p q l.0 l.1 (now.later (i + 1) p l.0 (regained z stores.2 p q answer l.0 l.2))),
        )

  pub call : (g : ℕ) → FollowsForm s i m x y a (forms.Call g)
  call g t = calling (forms.Call g) t refl refl (λ v. refl) (s.symbol g) (λ z h. refl)

  pub call-register : (r : ℕ) → FollowsForm s i m x y a (forms.CallRegister r)
  call-register r t = calling (forms.CallRegister r) t refl refl (λ v. refl) (reg x.state.core r) (λ z h. ap (λ to. calls to (without_text z)) (sym (h.near.regs r t.oks.0)))
