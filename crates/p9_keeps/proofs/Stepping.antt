-- One step of the code given that is no call, branch or return, and the step of framed code beside it.
use Rattle.std.proofs.Common.{ℕ, ◌+◌, ◌-◌, ◌/◌, ◌%◌, ◌^◌, ◌==◌, ◌&&◌, ◌||◌, ◌≡◌, ◌≤◌, ◌<◌, nat_le, Bool, true, false, Option, Some, None, refl, sym, ap, ◌∙◌, subst, arith, if◌then◌else◌, [], ◌∷◌, length, slice_get}
use Rattle.std.proofs.lemmas.List.Elements.{All-nil}
use Rattle.p9_base.specs.Words.{IsWord, signed_quotient, signed_remainder, signed_product, unsigned_product}
use Rattle.p9_base.specs.Core.{Core, stack_start, reg, readable, writable}
use Rattle.p9_abs.specs.declared.instructions.Abs.{Abs}
use Rattle.p9_abs.specs.declared.forms.Width.{Width}
use Rattle.p9_abs.specs.declared.forms.Product.{Product}
use Rattle.p9_abs.specs.declared.forms.Product.TheVariants.{Mul, MulU, Div, DivU}
use Rattle.p9_abs.specs.declared.forms.Form.{Form}
use Rattle.p9_abs.specs.Automatics.{holds_of, calls_in, falls, call_at, is_variable, fills, fills_of_size, fills_at}
use Rattle.p9_abs.specs.Framed.{start_of, shifts_code}
use Rattle.p9_abs.specs.Runs.{taken_by}
use Rattle.p9_abs.specs.OneCall.{size_at}
use Rattle.p9_abs.specs.Steps.{Mach, Step, Next, Undefined, without_text, write, write_pair, writes, multiplied, bytes_of, is_free, touches, load_effect, store_effect, acts}
use Rattle.p9_abs.specs.Laws.{IfMach}
use Rattle.p9_abs.specs.Laws.{Holds as HoldsAll}
use Rattle.p9_abs.specs.Keeping.{steps_of, FollowsBy, Follows}
use Rattle.p9_abs.proofs.StepLaws.{words_stay}
use Rattle.p9_abs.proofs.Fixed.{stack_stays}
use Rattle.p9_homed.specs.Homed.{homed_form, framed_instruction}
use Rattle.p9_keeps.proofs.Widths.{loaded}
use Rattle.p9_keeps.proofs.Cores.{get, guarded, aligned, load-step, store-step, same-readable, same-writable, same-get, SameCore}
use Rattle.p9_keeps.proofs.Living.{variable-size}
use Rattle.p9_keeps.proofs.Scenes.{Scene, given, made, given_side, made_side, apart, place}
use Rattle.p9_keeps.proofs.Places.{has-place, fewer-free, free-together}
use Rattle.p9_keeps.proofs.Lagging.{runs-one, lags}
use Rattle.p9_keeps.proofs.Matching.{IsPlainRegister, Near, Held, home, Holds, arrive}
use Rattle.p9_keeps.proofs.Laying.{has-right, step-acts, homing, start-plain, block-at, IsAt, form-is, flows-next}
use Rattle.p9_keeps.proofs.Shapes.{written, paired, filled, near-write, held-write, near-pair, held-pair, near-put, held-put}

-- framed code follows for m steps from each match
abbrev pub FollowsFor : Scene → ℕ → Type 0
FollowsFor s m = (i : ℕ) (x y : Mach) → Holds s i x y → Follows (apart s) (given_side s) (made_side s) m x y

-- a match at instruction i, and that m steps are followed from any
pub record Now (s : Scene) (i m : ℕ) (x y : Mach) : Type 0 where
  pub holds : Holds s i x y
  pub later : FollowsFor s m

-- the step is followed
abbrev pub IsFollowed : Scene → ℕ → Mach → Mach → Step → Type 0
IsFollowed s m x y t = FollowsBy (apart s) (made_side s) t (Follows (apart s) (given_side s) (made_side s) m) x y

-- R29 is as it was
abbrev pub KeepsStack : Mach → Step → Type 0
KeepsStack x t = IfMach (λ z. (reg z.state.core 29 ≡ reg x.state.core 29) × (reg z.state.core 30 ≡ reg x.state.core 30) × (reg z.state.core 31 ≡ reg x.state.core 31)) t

-- the machine's registers and memory alone
abbrev pub alone : Mach → Mach
alone y = record { state = record { core = y.state.core; left = []; out = [] }; vars = []; at = y.at }

pub opened : (p q r : Bool) (u : Step) → p ≡ true → q ≡ true → r ≡ true → guarded p (guarded q (guarded r u)) ≡ u
opened p q r u ep eq er =
    ap (λ b. if b then (if q then (if r then u else Undefined) else Undefined) else Undefined) ep
    ∙ (ap (λ b. if b then (if r then u else Undefined) else Undefined) eq ∙ ap (λ b. if b then u else Undefined) er)

module _ (s : Scene) (i m : ℕ) (x y : Mach) (now : Now s i m x y) (a : Abs) (form : Form) (t : IsAt s i a form) where
  pub no-call : calls_in form ≡ false → call_at s.f.code i ≡ false
  no-call e = ap (holds_of calls_in) (form-is s i a form t) ∙ e

  pub given-step : steps_of (given_side s) x ≡ acts (given s) form (without_text x)
  given-step = step-acts (given s) s.f.code x i a form now.holds.here t.is t.decodes

  pub stays : KeepsStack x (acts (given s) form (without_text x))
  stays = subst (KeepsStack x) given-step (stack_stays (given s) s.f.code x a (ap (slice_get s.f.code) now.holds.here ∙ t.is) t.instruction_is.destination)

  stands : call_at s.f.code i ≡ false → slice_get s.def.code (start_of s.p i) ≡ Some (framed_instruction s.rs s.homes s.p (taken_by s.def) i a)
  stands call =
      let q = (s.framed.only_at_calls i call).0 in
      let n : start_of s.p i + length (shifts_code s.f s.p (s.p.before i)) ≡ start_of s.p i = ap (λ l. start_of s.p i + length (shifts_code s.f s.p l)) q ∙ (let z : start_of s.p i + 0 ≡ start_of s.p i = omega arith in z) in
      ap (slice_get s.def.code) (sym n) ∙ (has-right s.def.code (start_of s.p i) (shifts_code s.f s.p (s.p.before i)) (framed_instruction s.rs s.homes s.p (taken_by s.def) i a ∷ shifts_code s.f s.p (s.p.after i)) (block-at s i a t.is)).0

  pub made-step : calls_in form ≡ false → steps_of (made_side s) y ≡ acts (made s) (homed_form (homing s i) form) (without_text y)
  made-step call = step-acts (made s) s.def.code y (start_of s.p i) _ (homed_form (homing s i) form) now.holds.there (stands (no-call call)) t.homed

  pub wordy : calls_in form ≡ false → IfMach HoldsAll (acts (made s) (homed_form (homing s i) form) (without_text (alone y)))
  wordy call =
      subst (IfMach HoldsAll) (step-acts (made s) s.def.code (alone y) (start_of s.p i) _ (homed_form (homing s i) form) now.holds.there (stands (no-call call)) t.homed)
      (words_stay (made s) s.def.code (alone y) (record { words = now.holds.near.words; input = All-nil (λ b. b < 2 ^ 8); variables = All-nil IsWord }))

  pub fills-are : (v : ℕ) → is_variable s.f v ≡ true → fills_at s.f v i ≡ fills v (size_at s.f v) form
  fills-are v h = ap (λ o. fills_of_size s.f.code v o i) (variable-size s.f v h) ∙ ap (holds_of (fills v (size_at s.f v))) (form-is s i a form t)

  -- both go on to the next instruction
  pub onward : (u w : Mach) → calls_in form ≡ false → falls form ≡ true → steps_of (made_side s) y ≡ Next w → Near s u w → u.at ≡ x.at + 1 → w.at ≡ y.at + 1 →
      ((v : ℕ) → is_variable s.f v ≡ true → fills v (size_at s.f v) form ≡ false → (o : Option ℕ) → home s v i ≡ o → Held s o v x y → Held s o v u w) →
      ((v : ℕ) → is_variable s.f v ≡ true → fills v (size_at s.f v) form ≡ true → (o : Option ℕ) → home s v i ≡ o → Held s o v u w) →
      Follows (apart s) (given_side s) (made_side s) m u y
  onward u w call goes e near here there kept filled =
      let h = now.holds in
      let c = no-call call in
      let at_x = h.here in let at_y = h.there in let n = start-plain s i c in
      lags (apart s) (given_side s) (made_side s) m u y w (runs-one (made_side s) y w e)
      (now.later (i + 1) u w
      (arrive s i (i + 1) x y u w h (flows-next s i a form t goes) c near (omega (arith, here, at_x)) (omega (arith, there, at_y, n))
      (λ v var q. kept v var (sym (fills-are v var) ∙ q)) (λ v var q. filled v var (sym (fills-are v var) ∙ q))))

  -- no variable is filled by the form
  abbrev pub FillsNone : Type 0
  FillsNone = (v : ℕ) → is_variable s.f v ≡ true → fills v (size_at s.f v) form ≡ true → ⊥

  -- A register

  pub register : (r v : ℕ) → calls_in form ≡ false → falls form ≡ true → FillsNone → IsPlainRegister r → KeepsStack x (write r v (without_text x)) → IfMach HoldsAll (write r v (without_text (alone y))) →
      steps_of (made_side s) y ≡ write r v (without_text y) → IsFollowed s m x y (write r v (without_text x))
  register r v call goes none plain keeps words e =
      onward (written r v (without_text x)) (written r v (without_text y)) call goes e
      (near-write s x y r v v now.holds.near plain keeps.0 refl words.words) refl refl
      (λ u var q o d. held-write s x y r v v now.holds.near plain keeps.0 refl words.words u i o d)
      (λ u var q o d. absurd (none u var q))

  pub register-option : (r : ℕ) (o : Option ℕ) → calls_in form ≡ false → falls form ≡ true → FillsNone → IsPlainRegister r → KeepsStack x (writes r o (without_text x)) → IfMach HoldsAll (writes r o (without_text (alone y))) →
      steps_of (made_side s) y ≡ writes r o (without_text y) → IsFollowed s m x y (writes r o (without_text x))
  register-option r None call goes none plain keeps words e = tt
  register-option r (Some v) call goes none plain keeps words e = register r v call goes none plain keeps words e

  -- HI and LO

  pub pair : (h l : ℕ) → calls_in form ≡ false → falls form ≡ true → FillsNone → IfMach HoldsAll (write_pair h l (without_text (alone y))) →
      steps_of (made_side s) y ≡ write_pair h l (without_text y) → IsFollowed s m x y (write_pair h l (without_text x))
  pair h l call goes none words e =
      onward (paired h l (without_text x)) (paired h l (without_text y)) call goes e
      (near-pair s x y h l h l now.holds.near refl refl words.words) refl refl
      (λ u var q o d. held-pair s x y h l h l now.holds.near refl refl words.words u o)
      (λ u var q o d. absurd (none u var q))

  pair-unless : (b : Bool) (h l : ℕ) → calls_in form ≡ false → falls form ≡ true → FillsNone → IfMach HoldsAll (if b then Undefined else write_pair h l (without_text (alone y))) →
      steps_of (made_side s) y ≡ (if b then Undefined else write_pair h l (without_text y)) → IsFollowed s m x y (if b then Undefined else write_pair h l (without_text x))
  pair-unless true h l call goes none words e = tt
  pair-unless false h l call goes none words e = pair h l call goes none words e

  pub product : (k : Product) (p q : ℕ) → calls_in form ≡ false → falls form ≡ true → FillsNone → IfMach HoldsAll (multiplied k p q (without_text (alone y))) →
      steps_of (made_side s) y ≡ multiplied k p q (without_text y) → IsFollowed s m x y (multiplied k p q (without_text x))
  product Mul p q call goes none words e = pair (signed_product q p / 2 ^ 32) (signed_product q p % 2 ^ 32) call goes none words e
  product MulU p q call goes none words e = pair (unsigned_product q p / 2 ^ 32) (unsigned_product q p % 2 ^ 32) call goes none words e
  product Div p q call goes none words e = pair-unless ((p == 0) || ((q == 2 ^ 31) && (p == 2 ^ 32 - 1))) (signed_remainder q p) (signed_quotient q p) call goes none words e
  product DivU p q call goes none words e = pair-unless (p == 0) (q % p) (q / p) call goes none words e

  -- Bytes of memory that the code given may touch

  abbrev c0 : Core
  c0 = let z : Mach = without_text x in z.state.core

  abbrev d0 : Core
  d0 = let z : Mach = without_text y in z.state.core

  same : SameCore (apart s) c0 d0
  same = let q = now.holds.near.memory in record { order = q.order; low = q.low; begin = q.begin; size = q.size; stack = q.stack }

  pub load : (w : Width) (r b : ℕ) → calls_in form ≡ false → falls form ≡ true → FillsNone → IsPlainRegister r →
      KeepsStack x (touches (given s) b (bytes_of w) (load_effect w c0 r b) (without_text x)) →
      IfMach HoldsAll (touches (made s) b (bytes_of w) (load_effect w d0 r b) (without_text (alone y))) →
      steps_of (made_side s) y ≡ touches (made s) b (bytes_of w) (load_effect w d0 r b) (without_text y) →
      IsFollowed s m x y (touches (given s) b (bytes_of w) (load_effect w c0 r b) (without_text x))
  load w r b call goes none plain keeps words e =
      subst (IsFollowed s m x y) (sym (load-step (given s) w r b c0 (without_text x)))
      (by (is_free (given s).banned b (bytes_of w)) refl (aligned w b) refl (nat_le (bytes_of w) (readable c0 b)) refl)
    where
      by : (p : Bool) → is_free (given s).banned b (bytes_of w) ≡ p → (q : Bool) → aligned w b ≡ q → (n : Bool) → nat_le (bytes_of w) (readable c0 b) ≡ n → IsFollowed s m x y (guarded p (guarded q (guarded n (write r (loaded w (get w c0 b)) (without_text x)))))
      by false f q g n k = tt
      by true f false g n k = tt
      by true f true g false k = tt
      by true f true g true k =
          let free : is_free (made s).banned b (bytes_of w) ≡ true = fewer-free s (bytes_of w) b f in
          let room : nat_le (bytes_of w) (readable d0 b) ≡ true = ap (nat_le (bytes_of w)) (sym (same-readable (apart s) c0 d0 same refl b)) ∙ k in
          let value : get w c0 b ≡ get w d0 b = same-get (apart s) c0 d0 same w b (λ j l. free-together s (bytes_of w) b j f l) in
          let value' : loaded w (get w d0 b) ≡ loaded w (get w c0 b) = ap (loaded w) (sym value) in
          register r (loaded w (get w c0 b)) call goes none plain
          (subst (KeepsStack x) (load-step (given s) w r b c0 (without_text x) ∙ opened _ _ _ _ f g k) keeps)
          (subst (IfMach HoldsAll) (load-step (made s) w r b d0 (without_text (alone y)) ∙ (opened _ _ _ _ free g room ∙ ap (λ v. write r v (without_text (alone y))) value')) words)
          (e ∙ (load-step (made s) w r b d0 (without_text y) ∙ (opened _ _ _ _ free g room ∙ ap (λ v. write r v (without_text y)) value')))

  -- a variable stands in the stack
  pub place-high : (v : ℕ) → is_variable s.f v ≡ true → stack_start ≤ place s v
  place-high v h = let p = (has-place s v h).above in let l = s.low in omega (arith, p, l)

  pub store : (w : Width) (b v : ℕ) → calls_in form ≡ false → falls form ≡ true → FillsNone →
      steps_of (made_side s) y ≡ touches (made s) b (bytes_of w) (store_effect w d0 b v) (without_text y) →
      IsFollowed s m x y (touches (given s) b (bytes_of w) (store_effect w c0 b v) (without_text x))
  store w b v call goes none e =
      subst (IsFollowed s m x y) (sym (store-step (given s) w b v (without_text x)))
      (by (is_free (given s).banned b (bytes_of w)) refl (aligned w b) refl (nat_le (bytes_of w) (writable c0 b)) refl)
    where
      by : (p : Bool) → is_free (given s).banned b (bytes_of w) ≡ p → (q : Bool) → aligned w b ≡ q → (n : Bool) → nat_le (bytes_of w) (writable c0 b) ≡ n → IsFollowed s m x y (guarded p (guarded q (guarded n (Next (filled w b v (without_text x))))))
      by false f q g n k = tt
      by true f false g n k = tt
      by true f true g false k = tt
      by true f true g true k =
          let free : is_free (made s).banned b (bytes_of w) ≡ true = fewer-free s (bytes_of w) b f in
          let room : nat_le (bytes_of w) (writable d0 b) ≡ true = ap (nat_le (bytes_of w)) (sym (same-writable (apart s) c0 d0 same b)) ∙ k in
          onward (filled w b v (without_text x)) (filled w b v (without_text y)) call goes
          (e ∙ (store-step (made s) w b v (without_text y) ∙ opened _ _ _ _ free g room))
          (near-put s x y w b v now.holds.near) refl refl
          (λ u var q o d. held-put s x y w b v now.holds.near (λ j l. free-together s (bytes_of w) b j f l) u i o var (place-high u var))
          (λ u var q o d. absurd (none u var q))
