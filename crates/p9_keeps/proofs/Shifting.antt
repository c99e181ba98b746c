-- Moves between homes and places: behind them the home and the place of each automatic that was moved agree.
use Rattle.std.proofs.Common.{ℕ, zero, suc, ◌+◌, ◌^◌, ◌==◌, ◌≡◌, ◌≢◌, ◌⊎◌, inl, inr, ◌≤◌, ◌<◌, Bool, true, false, Some, None, refl, sym, ap, ◌∙◌, subst, arith, if◌then◌else◌, List, [], ◌∷◌, length, slice_get, slice_index, All, Contains}
use Rattle.std.proofs.lemmas.Bool.{cases_eq}
use Rattle.std.proofs.lemmas.List.Elements.{All-head, All-tail, All-nil}
use Rattle.p9_base.specs.Words.{IsWord, word_sum}
use Rattle.p9_base.specs.Core.{Core, reg}
use Rattle.p9_base.specs.Holding.{HoldsWords}
use Rattle.p9_base.proofs.Holding.{register-word}
use Rattle.p9_abs.specs.declared.instructions.Op.TheVariants.{MovW, MovH, MovB}
use Rattle.p9_abs.specs.declared.forms.Location.TheVariants.{Based}
use Rattle.p9_abs.specs.declared.forms.OperandKind.TheVariants.{Register, Memory}
use Rattle.p9_abs.specs.declared.forms.Width.{Width}
use Rattle.p9_abs.specs.declared.forms.Width.TheVariants.{Word, SignedHalf, UnsignedHalf, SignedByte, UnsignedByte}
use Rattle.p9_abs.specs.declared.forms.Form.TheVariants as forms
use Rattle.p9_abs.specs.Forms.{kinds_form, decoded}
use Rattle.p9_abs.specs.Automatics.{is_variable}
use Rattle.p9_abs.specs.Framed.{Shift, shift_code, shifts_code}
use Rattle.p9_abs.specs.OneCall.{size_at}
use Rattle.p9_abs.specs.Keeping.{steps_of}
use Rattle.p9_abs.specs.Steps.{Mach, Next, without_text, write, moved, stored, bytes_of, touches, load_effect, store_effect}
use Rattle.p9_abs.specs.Laws.{IfMach}
use Rattle.p9_abs.specs.Laws.{Holds as HoldsAll}
use Rattle.p9_abs.proofs.StepLaws.{words_stay}
use Rattle.p9_abs.proofs.Fixed.{other-register}
use Rattle.p9_keeps.specs.Moves.{IsMoveAt}
use Rattle.p9_keeps.proofs.Widths.{loaded, stored-moved, one-size, AreOneSize}
use Rattle.p9_keeps.proofs.Cores.{get, put, put-sizes, get-put, get-beside, get-one, get-loaded, get-stored}
use Rattle.p9_keeps.proofs.Living.{candidate-variable, homed-candidate, home-width, home-apart}
use Rattle.p9_keeps.proofs.Scenes.{Scene, made, made_side, place}
use Rattle.p9_keeps.proofs.Places.{has-place, places-apart}
use Rattle.p9_keeps.proofs.Lagging.{Runs, runs-none, runs-one, runs-then}
use Rattle.p9_keeps.proofs.Matching.{Near, home}
use Rattle.p9_keeps.proofs.Laying.{HasAt, step-acts}
use Rattle.p9_keeps.proofs.Shapes.{written, filled, same-register, near-place, near-home, range}
use Rattle.p9_keeps.proofs.Stepping.{alone}
use Rattle.p9_keeps.proofs.Variables.{place-load, place-store, in-stack}

-- the width of a move of so many bytes
abbrev width_of : ℕ → Width
width_of size = if size == 1 then SignedByte else (if size == 2 then SignedHalf else Word)

width-size : (w : Width) (size : ℕ) → bytes_of w ≡ size → bytes_of (width_of size) ≡ size
width-size w size e = by w e
  where
    by : (w : Width) → bytes_of w ≡ size → bytes_of (width_of size) ≡ size
    by Word q = subst (λ n. bytes_of (width_of n) ≡ n) q refl
    by SignedHalf q = subst (λ n. bytes_of (width_of n) ≡ n) q refl
    by UnsignedHalf q = subst (λ n. bytes_of (width_of n) ≡ n) q refl
    by SignedByte q = subst (λ n. bytes_of (width_of n) ≡ n) q refl
    by UnsignedByte q = subst (λ n. bytes_of (width_of n) ≡ n) q refl

load-form : (b c : Bool) (o h : ℕ) → kinds_form (if b then MovB else (if c then MovH else MovW)) (Memory (Based 29 o) ∷ Register h ∷ []) ≡ Some (forms.Load (if b then SignedByte else (if c then SignedHalf else Word)) (Based 29 o) h)
load-form true c o h = refl
load-form false true o h = refl
load-form false false o h = refl

store-form : (b c : Bool) (o h : ℕ) → kinds_form (if b then MovB else (if c then MovH else MovW)) (Register h ∷ Memory (Based 29 o) ∷ []) ≡ Some (forms.Store (if b then SignedByte else (if c then SignedHalf else Word)) h (Based 29 o))
store-form true c o h = refl
store-form false true o h = refl
store-form false false o h = refl

module _ (s : Scene) where
  load-decodes : (v h : ℕ) → decoded (shift_code s.f s.p (record { auto = v; home = h; loads = true })) ≡ Some (forms.Load (width_of (size_at s.f v)) (Based 29 (slice_index s.p.offsets v)) h)
  load-decodes v h = load-form (size_at s.f v == 1) (size_at s.f v == 2) (slice_index s.p.offsets v) h

  store-decodes : (v h : ℕ) → decoded (shift_code s.f s.p (record { auto = v; home = h; loads = false })) ≡ Some (forms.Store (width_of (size_at s.f v)) h (Based 29 (slice_index s.p.offsets v)))
  store-decodes v h = store-form (size_at s.f v == 1) (size_at s.f v == 2) (slice_index s.p.offsets v) h

  -- What is homed

  module _ (i v h : ℕ) (at : home s v i ≡ Some h) where
    pub homed-variable : is_variable s.f v ≡ true
    homed-variable = candidate-variable s.f v (homed-candidate s.f s.rs s.homes s.regions s.homed v i h at)

    homed-size : bytes_of (width_of (size_at s.f v)) ≡ size_at s.f v
    homed-size = let w = home-width s.f s.rs s.homes s.regions s.homed v i h at in width-size w.0 (size_at s.f v) w.1

  -- the home and the place of v agree
  abbrev pub Agree : ℕ → ℕ → Mach → Type 0
  Agree v h y = (w : Width) → bytes_of w ≡ size_at s.f v → stored w (reg y.state.core h) ≡ get w y.state.core (place s v)

  -- One move

  address : (x y : Mach) (v : ℕ) → is_variable s.f v ≡ true → Near s x y → word_sum (reg y.state.core 29) (slice_index s.p.offsets v) ≡ place s v
  address x y v var near =
      let e = near.regs 29 (inr (omega arith)) in let k = near.stack in
      let p = has-place s v var in let b = p.below in let u = s.high in omega (arith, e, k, b, u)

  near-itself : (x y : Mach) → (let z : Mach = without_text x in Near s z y) → Near s x y
  near-itself x y n = record {
    regs = n.regs;
    high = n.high;
    lower = n.lower;
    memory = (let q = n.memory in record { order = q.order; low = q.low; begin = q.begin; size = q.size; stack = q.stack });
    input = n.input;
    output = n.output;
    stack = n.stack;
    words = n.words;
    laid = n.laid;
    counted = n.counted;
    variables = n.variables;
  }

  module _ (x y : Mach) (i v h : ℕ) (at : home s v i ≡ Some h) (near : Near s x y) where
    abbrev var : is_variable s.f v ≡ true
    var = homed-variable i v h at

    abbrev k : Width
    k = width_of (size_at s.f v)

    abbrev d : Core
    d = let z : Mach = without_text y in z.state.core

    -- what a load leaves
    abbrev behind_load : Mach
    behind_load = written h (loaded k (get k d (place s v))) (without_text y)

    load-step : slice_get s.def.code y.at ≡ Some (shift_code s.f s.p (record { auto = v; home = h; loads = true })) → steps_of (made_side s) y ≡ Next behind_load
    load-step e =
        step-acts (made s) s.def.code y y.at _ _ refl e (load-decodes v h)
        ∙ (ap (λ b. touches (made s) b (bytes_of k) (load_effect k d h b) (without_text y)) (address x y v var near)
        ∙ place-load s y k v var (homed-size i v h at) near.laid h (without_text y))

    load-words : slice_get s.def.code y.at ≡ Some (shift_code s.f s.p (record { auto = v; home = h; loads = true })) → HoldsWords (let z : Mach = behind_load in z.state.core)
    load-words e =
        let r : IfMach HoldsAll (write h (loaded k (get k d (place s v))) (without_text (alone y))) =
        subst (IfMach HoldsAll)
        (step-acts (made s) s.def.code (alone y) y.at _ _ refl e (load-decodes v h)
        ∙ (ap (λ b. touches (made s) b (bytes_of k) (load_effect k d h b) (without_text (alone y))) (address x y v var near)
        ∙ place-load s y k v var (homed-size i v h at) near.laid h (without_text (alone y))))
        (words_stay (made s) s.def.code (alone y) (record { words = near.words; input = All-nil (λ b. b < 2 ^ 8); variables = All-nil IsWord })) in
        r.words

    load-near : slice_get s.def.code y.at ≡ Some (shift_code s.f s.p (record { auto = v; home = h; loads = true })) → Near s x behind_load
    load-near e = near-itself x behind_load (near-home s x y h (loaded k (get k d (place s v))) near (range s v i h at) (load-words e) x.vars x.at near.variables)

    loaded-home : reg (let z : Mach = behind_load in z.state.core) h ≡ loaded k (get k d (place s v))
    loaded-home =
        let b = range s v i h at in let b0 = b.0 in let b1 = b.1 in let n = near.words.count in
        same-register y.state.core.regs h (loaded k (get k d (place s v))) (λ q. omega (arith, q, b0)) (omega (arith, n, b1))

    load-agrees : Agree v h behind_load
    load-agrees w b =
        let one : AreOneSize w k = one-size w k (b ∙ sym (homed-size i v h at)) in
        ap (stored w) (loaded-home ∙ get-loaded k y.state.core (place s v) near.words)
        ∙ (one.parts (moved k (get k d (place s v)))
        ∙ (stored-moved k (get k d (place s v))
        ∙ (sym (one.parts (get k d (place s v)))
        ∙ (ap (stored w) (sym (gets w one))
        ∙ get-stored w y.state.core (place s v) near.words))))
      where
        gets : (w : Width) → AreOneSize w k → get w d (place s v) ≡ get k d (place s v)
        gets w one = get-one w k y.state.core (place s v) one

    load-keeps : (u g : ℕ) → home s u i ≡ Some g → Agree u g y → Agree u g behind_load
    load-keeps u g other agree = by (cases_eq g h) (cases_eq u v)
      where
        by : (g ≡ h) ⊎ (g ≡ h → ⊥) → (u ≡ v) ⊎ (u ≡ v → ⊥) → Agree u g behind_load
        by (inr ne) q = λ w b. ap (stored w) (other-register y.state.core.regs h (loaded k (get k d (place s v))) g ne) ∙ agree w b
        by (inl e) (inl q) = subst (λ n. Agree u n behind_load) (sym e) (subst (λ n. Agree n h behind_load) (sym q) load-agrees)
        by (inl e) (inr q) = absurd (home-apart s.f s.rs s.homes s.regions s.homed u v i g q other (at ∙ ap (λ n. Some n) (sym e)))

    -- what a store leaves
    abbrev behind_store : Mach
    behind_store = filled k (place s v) (reg y.state.core h) (without_text y)

    store-step : slice_get s.def.code y.at ≡ Some (shift_code s.f s.p (record { auto = v; home = h; loads = false })) → steps_of (made_side s) y ≡ Next behind_store
    store-step e =
        step-acts (made s) s.def.code y y.at _ _ refl e (store-decodes v h)
        ∙ (ap (λ b. touches (made s) b (bytes_of k) (store_effect k d b (reg y.state.core h)) (without_text y)) (address x y v var near)
        ∙ place-store s y k v var (homed-size i v h at) near.laid (reg y.state.core h))

    store-near : Near s x behind_store
    store-near = near-itself x behind_store (near-place s x y k v (reg y.state.core h) near var (homed-size i v h at) (let p = (has-place s v var).above in let l = s.low in omega (arith, p, l)) x.vars x.at near.variables)

    store-regs : (let z : Mach = behind_store in z.state.core.regs) ≡ y.state.core.regs
    store-regs = (put-sizes k d (place s v) (reg y.state.core h)).regs

    store-agrees : Agree v h behind_store
    store-agrees w b =
        let one : AreOneSize w k = one-size w k (b ∙ sym (homed-size i v h at)) in
        ap (λ l. stored w (slice_index l h)) store-regs
        ∙ (one.parts (reg y.state.core h)
        ∙ sym (get-put k w d (place s v) (reg y.state.core h) (b ∙ sym (homed-size i v h at)) (in-stack s y k v var (homed-size i v h at) near.laid) (register-word y.state.core h near.words)))

    -- another variable's place is as it was
    store-other : (u : ℕ) → is_variable s.f u ≡ true → u ≢ v → (w : Width) → bytes_of w ≡ size_at s.f u → get w (put k d (place s v) (reg y.state.core h)) (place s u) ≡ get w y.state.core (place s u)
    store-other u uv ne w b =
        get-beside k w d (place s v) (place s u) (reg y.state.core h) (let p = (has-place s u uv).above in let l = s.low in omega (arith, p, l)) (beside (places-apart s u v ne uv var))
      where
        beside : (place s u + size_at s.f u ≤ place s v) ⊎ (place s v + size_at s.f v ≤ place s u) → (place s u + bytes_of w ≤ place s v) ⊎ (place s v + bytes_of k ≤ place s u)
        beside (inl l) = inl (omega (arith, b, l))
        beside (inr l) = let c = homed-size i v h at in inr (omega (arith, c, l))

    store-keeps : (u g : ℕ) → home s u i ≡ Some g → Agree u g y → Agree u g behind_store
    store-keeps u g other agree = by (cases_eq u v)
      where
        by : (u ≡ v) ⊎ (u ≡ v → ⊥) → Agree u g behind_store
        by (inr ne) = λ w b. ap (λ l. stored w (slice_index l g)) store-regs ∙ (agree w b ∙ sym (store-other u (homed-variable i u g other) ne w b))
        by (inl q) =
            let same : g ≡ h = (let z : Some g ≡ Some h = sym other ∙ (ap (λ n. home s n i) q ∙ at) in cc) in
            subst (λ n. Agree u n behind_store) (sym same) (subst (λ n. Agree n h behind_store) (sym q) store-agrees)

  -- Moves of a list

  named : (t : Shift) (d : Bool) → t.loads ≡ d → t ≡ record { auto = t.auto; home = t.home; loads = d }
  named t d e = λ j. record { auto = t.auto; home = t.home; loads = e j }

  -- it is the first of a list, or one of the rest
  first-or : (t : Shift) (ts : List Shift) (u : Shift) → Contains (t ∷ ts) u → (t ≡ u) ⊎ Contains ts u
  first-or t ts u (zero, l, e) = inl e
  first-or t ts u (suc k, l, e) = inr (k, omega (arith, l), e)

  -- the homes are loaded, and places are as before
  pub record AreLoaded (i : ℕ) (ts : List Shift) (x y z : Mach) : Type 0 where
    pub near : Near s x z
    pub at : z.at ≡ y.at + length ts
    pub places : (v : ℕ) (w : Width) → get w z.state.core (place s v) ≡ get w y.state.core (place s v)
    pub keeps : (v h : ℕ) → home s v i ≡ Some h → Agree v h y → Agree v h z
    pub done : (v h : ℕ) → home s v i ≡ Some h → Contains ts (record { auto = v; home = h; loads = true }) → Agree v h z

  abbrev pub RunsLoads : (i : ℕ) (ts : List Shift) (x y : Mach) → Type 0
  RunsLoads i ts x y = (z : Mach) × Runs (made_side s) y z × AreLoaded i ts x y z

  pub run-loads : (i : ℕ) (ts : List Shift) (x y : Mach) → Near s x y → All (IsMoveAt s.rs s.homes true i) ts → HasAt s.def.code y.at (shifts_code s.f s.p ts) → RunsLoads i ts x y
  run-loads i [] x y near all stands = (
    y,
    runs-none (made_side s) y,
    record { near = near; at = (let e : y.at ≡ y.at + 0 = omega arith in e); places = λ v w. refl; keeps = λ v h e a. a; done = λ v h e c. absurd (let l = c.1 in omega (arith, l)) },
  )
  run-loads i (t ∷ ts) x y near all stands =
      let first : IsMoveAt s.rs s.homes true i t = All-head (IsMoveAt s.rs s.homes true i) t ts all in
      let is : slice_get s.def.code y.at ≡ Some (shift_code s.f s.p (record { auto = t.auto; home = t.home; loads = true })) = stands.0 ∙ ap (λ u. Some (shift_code s.f s.p u)) (named t true first.direction) in
      let y1 : Mach = behind_load x y i t.auto t.home first.home near in
      let rest : RunsLoads i ts x y1 = run-loads i ts x y1 (load-near x y i t.auto t.home first.home near is) (All-tail (IsMoveAt s.rs s.homes true i) t ts all) stands.1 in
      let r = rest.2 in (
        rest.0,
        runs-then (made_side s) y y1 rest.0 (runs-one (made_side s) y y1 (load-step x y i t.auto t.home first.home near is)) rest.1,
        record {
          near = r.near;
          at = (let e = r.at in omega (arith, e));
          places = r.places;
          keeps = λ v h e a. r.keeps v h e (load-keeps x y i t.auto t.home first.home near v h e a);
          done = λ v h e c. by y1 rest.0 first (load-agrees x y i t.auto t.home first.home near) r v h e (first-or t ts _ c);
        },
      )
    where
      by : (y1 z : Mach) → IsMoveAt s.rs s.homes true i t → Agree t.auto t.home y1 → AreLoaded i ts x y1 z → (v h : ℕ) → home s v i ≡ Some h → (t ≡ record { auto = v; home = h; loads = true }) ⊎ Contains ts (record { auto = v; home = h; loads = true }) → Agree v h z
      by y1 z first agree r v h e (inr c) = r.done v h e c
      by y1 z first agree r v h e (inl q) =
          r.keeps v h e (subst (λ n. Agree v n y1) (ap (λ (u : Shift). u.home) q) (subst (λ n. Agree n t.home y1) (ap (λ (u : Shift). u.auto) q) agree))

  -- the homes are stored, and registers are as before
  pub record AreStored (i : ℕ) (ts : List Shift) (x y z : Mach) : Type 0 where
    pub near : Near s x z
    pub at : z.at ≡ y.at + length ts
    pub regs : z.state.core.regs ≡ y.state.core.regs
    pub others : (v : ℕ) → is_variable s.f v ≡ true → home s v i ≡ None → (w : Width) → bytes_of w ≡ size_at s.f v → get w z.state.core (place s v) ≡ get w y.state.core (place s v)
    pub keeps : (v h : ℕ) → home s v i ≡ Some h → Agree v h y → Agree v h z
    pub done : (v h : ℕ) → home s v i ≡ Some h → Contains ts (record { auto = v; home = h; loads = false }) → Agree v h z

  abbrev pub RunsStores : (i : ℕ) (ts : List Shift) (x y : Mach) → Type 0
  RunsStores i ts x y = (z : Mach) × Runs (made_side s) y z × AreStored i ts x y z

  pub run-stores : (i : ℕ) (ts : List Shift) (x y : Mach) → Near s x y → All (IsMoveAt s.rs s.homes false i) ts → HasAt s.def.code y.at (shifts_code s.f s.p ts) → RunsStores i ts x y
  run-stores i [] x y near all stands = (
    y,
    runs-none (made_side s) y,
    record { near = near; at = (let e : y.at ≡ y.at + 0 = omega arith in e); regs = refl; others = λ v var e w b. refl; keeps = λ v h e a. a; done = λ v h e c. absurd (let l = c.1 in omega (arith, l)) },
  )
  run-stores i (t ∷ ts) x y near all stands =
      let first : IsMoveAt s.rs s.homes false i t = All-head (IsMoveAt s.rs s.homes false i) t ts all in
      let is : slice_get s.def.code y.at ≡ Some (shift_code s.f s.p (record { auto = t.auto; home = t.home; loads = false })) = stands.0 ∙ ap (λ u. Some (shift_code s.f s.p u)) (named t false first.direction) in
      let y1 : Mach = behind_store x y i t.auto t.home first.home near in
      let rest : RunsStores i ts x y1 = run-stores i ts x y1 (store-near x y i t.auto t.home first.home near) (All-tail (IsMoveAt s.rs s.homes false i) t ts all) stands.1 in
      let r = rest.2 in (
        rest.0,
        runs-then (made_side s) y y1 rest.0 (runs-one (made_side s) y y1 (store-step x y i t.auto t.home first.home near is)) rest.1,
        record {
          near = r.near;
          at = (let e = r.at in omega (arith, e));
          regs = r.regs ∙ store-regs x y i t.auto t.home first.home near;
          others = λ v var e w b. r.others v var e w b
              ∙ store-other x y i t.auto t.home first.home near v var (λ q. no-some t.home (sym first.home ∙ (ap (λ n. home s n i) (sym q) ∙ e))) w b;
          keeps = λ v h e a. r.keeps v h e (store-keeps x y i t.auto t.home first.home near v h e a);
          done = λ v h e c. by y1 rest.0 (store-agrees x y i t.auto t.home first.home near) r v h e (first-or t ts _ c);
        },
      )
    where
      no-some : (h : ℕ) → Some h ≡ None → ⊥
      no-some h e = cc

      by : (y1 z : Mach) → Agree t.auto t.home y1 → AreStored i ts x y1 z → (v h : ℕ) → home s v i ≡ Some h → (t ≡ record { auto = v; home = h; loads = false }) ⊎ Contains ts (record { auto = v; home = h; loads = false }) → Agree v h z
      by y1 z agree r v h e (inr c) = r.done v h e c
      by y1 z agree r v h e (inl q) =
          r.keeps v h e (subst (λ n. Agree v n y1) (ap (λ (u : Shift). u.home) q) (subst (λ n. Agree n t.home y1) (ap (λ (u : Shift). u.auto) q) agree))
