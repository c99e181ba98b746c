-- Framed code keeps the meaning: from the entry on, and for any number of steps.
use Rattle.std.proofs.Common.{ℕ, zero, suc, ◌+◌, ◌≡◌, ◌≤◌, ◌<◌, Bool, true, Option, Some, None, refl, sym, ap, ◌∙◌, subst, arith, List, [], ◌∷◌, length, slice_get, slice_index}
use Rattle.std.proofs.lemmas.Option.{slice_get_within, get_or_from_slice_get}
use Rattle.p9_base.specs.Core.{Core, text_start, reg}
use Rattle.p9_base.specs.SystemCalls.{State}
use Rattle.p9_base.specs.Holding.{HoldsWords, LaidOut}
use Rattle.p9_abs.specs.declared.instructions.Abs.{Abs}
use Rattle.p9_abs.specs.declared.instructions.AFunction.{AFunction}
use Rattle.p9_abs.specs.declared.instructions.TextDef.{TextDef}
use Rattle.p9_abs.specs.declared.regions.Region.{Region}
use Rattle.p9_abs.specs.declared.forms.Width.{Width}
use Rattle.p9_abs.specs.declared.forms.Width.TheVariants.{Word, SignedHalf, UnsignedHalf, SignedByte, UnsignedByte}
use Rattle.p9_abs.specs.declared.forms.Form.{Form}
use Rattle.p9_abs.specs.Forms.{decoded}
use Rattle.p9_abs.specs.Automatics.{IsCode, is_variable}
use Rattle.p9_abs.specs.Validity.{EndsWell}
use Rattle.p9_abs.specs.Regions.{AreRegions, AreHomes}
use Rattle.p9_abs.specs.Framed.{Plan, IsFramed, shifts_code}
use Rattle.p9_abs.specs.OneCall.{size_at}
use Rattle.p9_abs.specs.Runs.{taken_by}
use Rattle.p9_abs.specs.Steps.{Mach, Step, Undefined, step, without_text, bytes_of, acts_as, at_instruction}
use Rattle.p9_abs.specs.Keeping.{steps_of, FollowsBy, Follows, IsEntry, HasVariables, HoldsVariables, content}
use Rattle.p9_abs.proofs.Reaching.{reached-first}
use Rattle.p9_homed.specs.Plain.{IsPlain}
use Rattle.p9_keeps.specs.Moves.{HasMoves, FramedKeeps}
use Rattle.p9_keeps.proofs.Cores.{get}
use Rattle.p9_keeps.proofs.Living.{Matters, variable-size, homed-candidate}
use Rattle.p9_keeps.proofs.Scenes.{Scene, given_side, made_side, apart, place, taken-some}
use Rattle.p9_keeps.proofs.Places.{offset-get}
use Rattle.p9_keeps.proofs.Lagging.{lags}
use Rattle.p9_keeps.proofs.Matching.{Near, Held, home, Holds}
use Rattle.p9_keeps.proofs.Laying.{IsAt, is-at, entry-at, HasAt}
use Rattle.p9_keeps.proofs.Stepping.{FollowsFor, Now, given-step}
use Rattle.p9_keeps.proofs.Acting.{acting}
use Rattle.p9_keeps.proofs.Variables.{address, reading, writing}
use Rattle.p9_keeps.proofs.Turning.{branch-pair, branch-sign, jump, back, call, call-register}
use Rattle.p9_keeps.proofs.Shifting.{Agree, AreLoaded, RunsLoads, run-loads}

-- Any number of steps

module _ (s : Scene) where
  one-step : (i m : ℕ) (x y : Mach) → Now s i m x y → (a : Abs) (form : Form) → IsAt s i a form → FollowsBy (apart s) (made_side s) (steps_of (given_side s) x) (Follows (apart s) (given_side s) (made_side s) m) x y
  one-step i m x y now a form t =
      subst (λ z. FollowsBy (apart s) (made_side s) z (Follows (apart s) (given_side s) (made_side s) m) x y) (sym (given-step s i m x y now a form t))
      (acting s i m x y now a form
      (record {
        address = address s i m x y now a;
        read = reading s i m x y now a;
        write_of = writing s i m x y now a;
        branch_pair = branch-pair s i m x y now a;
        branch_sign = branch-sign s i m x y now a;
        jump = jump s i m x y now a;
        call = call s i m x y now a;
        call_register = call-register s i m x y now a;
        back = back s i m x y now a;
      }) t)

  -- where there is no instruction, the code given goes on to nothing that is defined
  no-step : (x : Mach) (i : ℕ) → x.at ≡ i → slice_get s.f.code i ≡ None → steps_of (given_side s) x ≡ Undefined
  unfolding step
  no-step x i here e = let g = given_side s in ap (λ o. at_instruction g.around o (without_text x)) (ap (slice_get s.f.code) here ∙ e)

  no-form : (x : Mach) (i : ℕ) (a : Abs) → x.at ≡ i → slice_get s.f.code i ≡ Some a → decoded a ≡ None → steps_of (given_side s) x ≡ Undefined
  unfolding step
  no-form x i a here e d =
      let g = given_side s in
      ap (λ o. at_instruction g.around o (without_text x)) (ap (slice_get s.f.code) here ∙ e) ∙ ap (λ o. acts_as g.around o (without_text x)) d

  undefined : (m : ℕ) (x y : Mach) (t : Step) → t ≡ Undefined → FollowsBy (apart s) (made_side s) t (Follows (apart s) (given_side s) (made_side s) m) x y
  undefined m x y t e = subst (λ z. FollowsBy (apart s) (made_side s) z (Follows (apart s) (given_side s) (made_side s) m) x y) (sym e) tt

  pub follows-for : (m : ℕ) → FollowsFor s m
  follows-for zero i x y h = tt
  follows-for (suc m) i x y h = by (λ j u w k. follows-for m j u w k) (slice_get s.f.code i) refl
    where
      with_form : FollowsFor s m → (a : Abs) → slice_get s.f.code i ≡ Some a → (o : Option Form) → decoded a ≡ o → FollowsBy (apart s) (made_side s) (steps_of (given_side s) x) (Follows (apart s) (given_side s) (made_side s) m) x y
      with_form rest a e None d = undefined m x y (steps_of (given_side s) x) (no-form x i a h.here e d)
      with_form rest a e (Some form) d = one-step i m x y (record { holds = h; later = rest }) a form (is-at s i a form e d)

      by : FollowsFor s m → (o : Option Abs) → slice_get s.f.code i ≡ o → FollowsBy (apart s) (made_side s) (steps_of (given_side s) x) (Follows (apart s) (given_side s) (made_side s) m) x y
      by rest None e = undefined m x y (steps_of (given_side s) x) (no-step x i h.here e)
      by rest (Some a) e = with_form rest a e (decoded a) refl

-- From the entry

content-get : (w : Width) (c : Core) (a size : ℕ) → bytes_of w ≡ size → content c a size ≡ Some (get w c a)
content-get w c a size e = subst (λ n. content c a n ≡ Some (get w c a)) e (by w)
  where
    by : (w : Width) → content c a (bytes_of w) ≡ Some (get w c a)
    by Word = refl
    by SignedHalf = refl
    by UnsignedHalf = refl
    by SignedByte = refl
    by UnsignedByte = refl

some-code : (code : List Abs) → EndsWell code → 0 < length code
some-code [] h = absurd h
some-code (a ∷ code) h = omega arith

module _ (f : AFunction) (rs : List Region) (homes : List (Option ℕ)) (def : TextDef) (p : Plan) (valid : IsCode f) (plain : IsPlain f.code) (regions : AreRegions f rs) (homed : AreHomes rs homes)
    (framed : IsFramed f rs homes def p) (moves : HasMoves f rs homes p) (some_frame : 1 ≤ def.frame)
    (symbol : ℕ → ℕ) (others : ℕ → Bool) (x y : Mach) (entry : IsEntry def.frame (taken_by def) others x) (variables : HasVariables f x)
    (same : x.state ≡ y.state) (first : y.at ≡ 0) (contents : HoldsVariables f p.offsets x y) where
  taken-by : taken_by def ≡ def.frame + 4
  taken-by = taken-some def.frame def.code some_frame

  abbrev scene : Scene
  scene = record {
    f = f;
    rs = rs;
    homes = homes;
    def = def;
    p = p;
    symbol = symbol;
    others = others;
    sp = reg x.state.core 29;
    valid = valid;
    plain = plain;
    regions = regions;
    homed = homed;
    framed = framed;
    moves = moves;
    some_frame = some_frame;
    low = entry.low;
    high = entry.high;
    fourfold = entry.fourfold;
    clear = λ b l. entry.apart b (let t = taken-by in omega (arith, t, l));
  }

  same_core : x.state.core ≡ y.state.core
  same_core = ap (λ (z : State). z.core) same

  near : Near scene x y
  near = record {
    regs = λ r plain_r. ap (λ (c : Core). reg c r) same_core;
    high = ap (λ (c : Core). c.hi) same_core;
    lower = ap (λ (c : Core). c.lo) same_core;
    memory = record {
      order = ap (λ (c : Core). c.order) same_core;
      low = ap (λ (c : Core). c.low) same_core;
      begin = ap (λ (c : Core). c.data_start) same_core;
      size = ap (λ (c : Core). length c.stack) same_core;
      stack = λ k h. ap (λ (c : Core). slice_index c.stack k) same_core;
    };
    input = ap (λ (z : State). z.left) same;
    output = ap (λ (z : State). z.out) same;
    stack = refl;
    words = subst HoldsWords same_core entry.words;
    laid = subst (λ (c : Core). LaidOut (record c { text_end = text_start })) same_core entry.laid;
    counted = entry.words.count;
    variables = variables.count;
  }

  -- each place holds its variable
  in-place : (v : ℕ) → is_variable f v ≡ true → (w : Width) → bytes_of w ≡ size_at f v → get w y.state.core (place scene v) ≡ slice_index x.vars v
  in-place v var w b =
      let l = slice_get_within f.autos v (size_at f v) (variable-size f v var) in
      let e : reg y.state.core 29 + slice_index p.offsets v ≡ place scene v = ap (λ (c : Core). reg c 29 + slice_index p.offsets v) (sym same_core) in
      sym (get_or_from_slice_get x.vars v (get w y.state.core (place scene v)) 0
      (contents v (slice_index p.offsets v) (get w y.state.core (place scene v)) var (offset-get scene v l)
      (ap (λ a. content y.state.core a (size_at f v)) e ∙ content-get w y.state.core (place scene v) (size_at f v) b)))

  loads : RunsLoads scene 0 p.entry x y
  loads = run-loads scene 0 p.entry x y near moves.entry.each (subst (λ n. HasAt def.code n (shifts_code f p p.entry)) (sym first) (entry-at scene))

  begun : (z : Mach) → AreLoaded scene 0 p.entry x y z → Holds scene 0 x z
  begun z loaded_z = record {
    near = loaded_z.near;
    here = entry.first;
    there = (let e = loaded_z.at in let z : z.at ≡ length p.entry = omega (arith, e, first) in z);
    reached_is = reached-first f.code (some-code f.code valid.ending);
    held = λ v counts. by v counts (home scene v 0) refl;
  }
    where
      value : (v : ℕ) → Matters f v 0 → (w : Width) → bytes_of w ≡ size_at f v → get w z.state.core (place scene v) ≡ slice_index x.vars v
      value v counts w b = loaded_z.places v w ∙ in-place v counts.variable w b

      by : (v : ℕ) → Matters f v 0 → (o : Option ℕ) → home scene v 0 ≡ o → Held scene o v x z
      by v counts None e = value v counts
      by v counts (Some h) e = λ w b.
          let live = counts.live (homed-candidate f rs homes regions homed v 0 h e) in
          let agree : Agree scene v h z = loaded_z.done v h e (moves.entry.every v h live e) in
          agree w b ∙ value v counts w b

  follows : (n : ℕ) → Follows (apart scene) (given_side scene) (made_side scene) n x y
  follows n = lags (apart scene) (given_side scene) (made_side scene) n x y loads.0 loads.1 (follows-for scene n 0 x loads.0 (begun loads.0 loads.2))

pub framed-keeps : FramedKeeps
framed-keeps f rs homes def p valid plain regions homed framed moves some_frame symbol others n x y entry variables same first contents =
    follows f rs homes def p valid plain regions homed framed moves some_frame symbol others x y entry variables same first contents n
