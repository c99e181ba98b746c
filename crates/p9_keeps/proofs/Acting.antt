-- Each form but calls, branches and returns, where it touches no automatic.
use Rattle.std.proofs.Common.{ℕ, ◌+◌, ◌%◌, ◌^◌, ◌≡◌, ◌⊎◌, inr, ◌<◌, refl, sym, ap, ◌∙◌, subst, arith}
use Rattle.std.proofs.lemmas.Bool.{false≢true}
use Rattle.p9_base.specs.Words.{word_sum}
use Rattle.p9_base.specs.Core.{Core, reg}
use Rattle.p9_abs.specs.declared.instructions.Abs.{Abs}
use Rattle.p9_abs.specs.declared.forms.Location.{Location}
use Rattle.p9_abs.specs.declared.forms.Location.TheVariants.{Static, Argument, Frame, Based, Automatic}
use Rattle.p9_abs.specs.declared.forms.Special.{Special}
use Rattle.p9_abs.specs.declared.forms.Special.TheVariants as special
use Rattle.p9_abs.specs.declared.forms.Width.{Width}
use Rattle.p9_abs.specs.declared.forms.PairTest.{PairTest}
use Rattle.p9_abs.specs.declared.forms.SignTest.{SignTest}
use Rattle.p9_abs.specs.declared.forms.Form.{Form}
use Rattle.p9_abs.specs.declared.forms.Form.TheVariants as forms
use Rattle.p9_abs.specs.Steps.{Mach, without_text, write, write_pair, writes, multiplied, computed, moved, bytes_of, touches, load_effect, store_effect, acts}
use Rattle.p9_abs.specs.Laws.{IfMach}
use Rattle.p9_abs.specs.Laws.{Holds as HoldsAll}
use Rattle.p9_abs.specs.Keeping.{steps_of}
use Rattle.p9_keeps.proofs.Scenes.{Scene, given, made, made_side, given-taken, made-taken}
use Rattle.p9_keeps.proofs.Laying.{IsAt}
use Rattle.p9_keeps.proofs.Stepping.{Now, IsFollowed, alone, stays, made-step, wordy, register, register-option, pair, product, load, store}

-- the step of a form is followed
abbrev pub FollowsForm : (s : Scene) (i m : ℕ) (x y : Mach) → Abs → Form → Type 0
FollowsForm s i m x y a form = IsAt s i a form → IsFollowed s m x y (acts (given s) form (without_text x))

-- what is to be shown of the forms that touch an automatic, and of those that don't just go on
pub record Others (s : Scene) (i m : ℕ) (x y : Mach) (a : Abs) : Type 0 where
  pub address : (v o r : ℕ) → FollowsForm s i m x y a (forms.SetAddress (Automatic v o) r)
  pub read : (w : Width) (v o r : ℕ) → FollowsForm s i m x y a (forms.Load w (Automatic v o) r)
  pub write_of : (w : Width) (r v o : ℕ) → FollowsForm s i m x y a (forms.Store w r (Automatic v o))
  pub branch_pair : (k : PairTest) (p q l : ℕ) → FollowsForm s i m x y a (forms.BranchPair k p q l)
  pub branch_sign : (k : SignTest) (p l : ℕ) → FollowsForm s i m x y a (forms.BranchSign k p l)
  pub jump : (l : ℕ) → FollowsForm s i m x y a (forms.Jump l)
  pub call : (g : ℕ) → FollowsForm s i m x y a (forms.Call g)
  pub call_register : (r : ℕ) → FollowsForm s i m x y a (forms.CallRegister r)
  pub back : FollowsForm s i m x y a forms.Return

module _ (s : Scene) (i m : ℕ) (x y : Mach) (now : Now s i m x y) (a : Abs) where
  abbrev c0 : Core
  c0 = let z : Mach = without_text x in z.state.core

  abbrev d0 : Core
  d0 = let z : Mach = without_text y in z.state.core

  as-before : (r : ℕ) → (r < 9) ⊎ (20 < r) → reg y.state.core r ≡ reg x.state.core r
  as-before r p = sym (now.holds.near.regs r p)

  stack-before : reg y.state.core 29 ≡ reg x.state.core 29
  stack-before = as-before 29 (inr (omega arith))

  argument-before : (o : ℕ) → word_sum (reg y.state.core 29) ((made s).taken + 4 + o) ≡ word_sum (reg x.state.core 29) ((given s).taken + 4 + o)
  argument-before o = let e = stack-before in let t : (made s).taken ≡ (given s).taken = made-taken s ∙ sym (given-taken s) in λ k. word_sum (e k) (t k + 4 + o)

  address-at : (l : Location) (r : ℕ) → IsAt s i a (forms.SetAddress l r) → ((v o : ℕ) → l ≡ Automatic v o → IsFollowed s m x y (acts (given s) (forms.SetAddress (Automatic v o) r) (without_text x))) →
      IsFollowed s m x y (acts (given s) (forms.SetAddress l r) (without_text x))
  address-at (Static k o) r t other = register s i m x y now a _ t r (word_sum (s.symbol k) o) refl refl (λ v h q. false≢true q) t.oks.1.0 (stays s i m x y now a _ t) (wordy s i m x y now a _ t refl) (made-step s i m x y now a _ t refl)
  address-at (Argument o) r t other =
      let e = argument-before o in
      register s i m x y now a _ t r (word_sum (reg x.state.core 29) ((given s).taken + 4 + o)) refl refl (λ v h q. false≢true q) t.oks.1.0 (stays s i m x y now a _ t)
      (subst (λ v. IfMach HoldsAll (write r v (without_text (alone y)))) e (wordy s i m x y now a _ t refl))
      (made-step s i m x y now a _ t refl ∙ ap (λ v. write r v (without_text y)) e)
  address-at (Frame o) r t other = absurd t.oks.0
  address-at (Based q o) r t other = absurd t.oks.0
  address-at (Automatic v o) r t other = other v o refl

  load-as : (w : Width) (l : Location) (r b e : ℕ) (t : IsAt s i a (forms.Load w l r)) → e ≡ b →
      IfMach HoldsAll (touches (made s) e (bytes_of w) (load_effect w d0 r e) (without_text (alone y))) →
      steps_of (made_side s) y ≡ touches (made s) e (bytes_of w) (load_effect w d0 r e) (without_text y) →
      IfMach (λ z. (reg z.state.core 29 ≡ reg x.state.core 29) × (reg z.state.core 30 ≡ reg x.state.core 30) × (reg z.state.core 31 ≡ reg x.state.core 31)) (touches (given s) b (bytes_of w) (load_effect w c0 r b) (without_text x)) →
      IsFollowed s m x y (touches (given s) b (bytes_of w) (load_effect w c0 r b) (without_text x))
  load-as w l r b e t is words step keeps =
      load s i m x y now a (forms.Load w l r) t w r b refl refl (λ v h q. false≢true q) t.oks.1.0 keeps
      (subst (λ k. IfMach HoldsAll (touches (made s) k (bytes_of w) (load_effect w d0 r k) (without_text (alone y)))) is words)
      (step ∙ ap (λ k. touches (made s) k (bytes_of w) (load_effect w d0 r k) (without_text y)) is)

  load-at : (w : Width) (l : Location) (r : ℕ) → IsAt s i a (forms.Load w l r) → ((v o : ℕ) → l ≡ Automatic v o → IsFollowed s m x y (acts (given s) (forms.Load w (Automatic v o) r) (without_text x))) →
      IsFollowed s m x y (acts (given s) (forms.Load w l r) (without_text x))
  load-at w (Static k o) r t other = load-as w _ r (word_sum (s.symbol k) o) (word_sum (s.symbol k) o) t refl (wordy s i m x y now a _ t refl) (made-step s i m x y now a _ t refl) (stays s i m x y now a _ t)
  load-at w (Argument o) r t other = load-as w _ r (word_sum (reg x.state.core 29) ((given s).taken + 4 + o)) _ t (argument-before o) (wordy s i m x y now a _ t refl) (made-step s i m x y now a _ t refl) (stays s i m x y now a _ t)
  load-at w (Frame o) r t other = absurd t.oks.0
  load-at w (Based q o) r t other = load-as w _ r (word_sum (reg x.state.core q) o) _ t (ap (λ z. word_sum z o) (as-before q t.oks.0)) (wordy s i m x y now a _ t refl) (made-step s i m x y now a _ t refl) (stays s i m x y now a _ t)
  load-at w (Automatic v o) r t other = other v o refl

  store-at : (w : Width) (r : ℕ) (l : Location) → IsAt s i a (forms.Store w r l) → ((v o : ℕ) → l ≡ Automatic v o → IsFollowed s m x y (acts (given s) (forms.Store w r (Automatic v o)) (without_text x))) →
      IsFollowed s m x y (acts (given s) (forms.Store w r l) (without_text x))
  store-at w r (Static k o) t other =
      store s i m x y now a _ t w (word_sum (s.symbol k) o) (reg x.state.core r) refl refl (λ v h q. false≢true q)
      (made-step s i m x y now a _ t refl ∙ ap (λ v. touches (made s) (word_sum (s.symbol k) o) (bytes_of w) (store_effect w d0 (word_sum (s.symbol k) o) v) (without_text y)) (as-before r t.oks.0))
  store-at w r (Argument o) t other =
      let e = argument-before o in let f = as-before r t.oks.0 in
      store s i m x y now a _ t w (word_sum (reg x.state.core 29) ((given s).taken + 4 + o)) (reg x.state.core r) refl refl (λ v h q. false≢true q)
      (made-step s i m x y now a _ t refl ∙ (λ k. touches (made s) (e k) (bytes_of w) (store_effect w d0 (e k) (f k)) (without_text y)))
  store-at w r (Frame o) t other = absurd t.oks.1.0
  store-at w r (Based q o) t other =
      let e = as-before q t.oks.1.0 in let f = as-before r t.oks.0 in
      store s i m x y now a _ t w (word_sum (reg x.state.core q) o) (reg x.state.core r) refl refl (λ v h q. false≢true q)
      (made-step s i m x y now a _ t refl ∙ (λ k. touches (made s) (word_sum (e k) o) (bytes_of w) (store_effect w d0 (word_sum (e k) o) (f k)) (without_text y)))
  store-at w r (Automatic v o) t other = other v o refl

  get-special : (h : Special) (r : ℕ) → IsAt s i a (forms.GetHiLo h r) → IsFollowed s m x y (acts (given s) (forms.GetHiLo h r) (without_text x))
  get-special special.Hi r t =
      let e = sym now.holds.near.high in
      register s i m x y now a _ t r x.state.core.hi refl refl (λ v h q. false≢true q) t.oks.1.0 (stays s i m x y now a _ t)
      (subst (λ v. IfMach HoldsAll (write r v (without_text (alone y)))) e (wordy s i m x y now a _ t refl))
      (made-step s i m x y now a _ t refl ∙ ap (λ v. write r v (without_text y)) e)
  get-special special.Lo r t =
      let e = sym now.holds.near.lower in
      register s i m x y now a _ t r x.state.core.lo refl refl (λ v h q. false≢true q) t.oks.1.0 (stays s i m x y now a _ t)
      (subst (λ v. IfMach HoldsAll (write r v (without_text (alone y)))) e (wordy s i m x y now a _ t refl))
      (made-step s i m x y now a _ t refl ∙ ap (λ v. write r v (without_text y)) e)

  set-special : (r : ℕ) (h : Special) → IsAt s i a (forms.SetHiLo r h) → IsFollowed s m x y (acts (given s) (forms.SetHiLo r h) (without_text x))
  set-special r special.Hi t =
      let e = as-before r t.oks.0 in let f = sym now.holds.near.lower in
      pair s i m x y now a _ t (reg x.state.core r) x.state.core.lo refl refl (λ v h q. false≢true q)
      (subst (λ v. IfMach HoldsAll (write_pair (reg x.state.core r) v (without_text (alone y)))) f (subst (λ v. IfMach HoldsAll (write_pair v y.state.core.lo (without_text (alone y)))) e (wordy s i m x y now a _ t refl)))
      (made-step s i m x y now a _ t refl ∙ (λ k. write_pair (e k) (f k) (without_text y)))
  set-special r special.Lo t =
      let e = as-before r t.oks.0 in let f = sym now.holds.near.high in
      pair s i m x y now a _ t x.state.core.hi (reg x.state.core r) refl refl (λ v h q. false≢true q)
      (subst (λ v. IfMach HoldsAll (write_pair v (reg x.state.core r) (without_text (alone y)))) f (subst (λ v. IfMach HoldsAll (write_pair y.state.core.hi v (without_text (alone y)))) e (wordy s i m x y now a _ t refl)))
      (made-step s i m x y now a _ t refl ∙ (λ k. write_pair (f k) (e k) (without_text y)))

  -- all forms
  pub acting : (form : Form) → Others s i m x y a → FollowsForm s i m x y a form
  acting (forms.Move w p q) other t =
      let e = as-before p t.oks.0 in
      register s i m x y now a _ t q (moved w (reg x.state.core p)) refl refl (λ v h z. false≢true z) t.oks.1.0 (stays s i m x y now a _ t)
      (subst (λ v. IfMach HoldsAll (write q (moved w v) (without_text (alone y)))) e (wordy s i m x y now a _ t refl))
      (made-step s i m x y now a _ t refl ∙ ap (λ v. write q (moved w v) (without_text y)) e)
  acting (forms.SetConstant k q) other t = register s i m x y now a _ t q (k % 2 ^ 32) refl refl (λ v h z. false≢true z) t.oks.1.0 (stays s i m x y now a _ t) (wordy s i m x y now a _ t refl) (made-step s i m x y now a _ t refl)
  acting (forms.SetAddress l r) other t = address-at l r t (λ v o e. other.address v o r (subst (λ z. IsAt s i a (forms.SetAddress z r)) e t))
  acting (forms.Load w l r) other t = load-at w l r t (λ v o e. other.read w v o r (subst (λ z. IsAt s i a (forms.Load w z r)) e t))
  acting (forms.Store w r l) other t = store-at w r l t (λ v o e. other.write_of w r v o (subst (λ z. IsAt s i a (forms.Store w r z)) e t))
  acting (forms.GetHiLo h r) other t = get-special h r t
  acting (forms.SetHiLo r h) other t = set-special r h t
  acting (forms.Calculate k p q r) other t =
      let e = as-before p t.oks.0 in let g = as-before q t.oks.1.0 in
      let o : computed k (reg y.state.core p) (reg y.state.core q) ≡ computed k (reg x.state.core p) (reg x.state.core q) = (λ z. computed k (e z) (g z)) in
      register-option s i m x y now a _ t r (computed k (reg x.state.core p) (reg x.state.core q)) refl refl (λ v h z. false≢true z) t.oks.1.1.0 (stays s i m x y now a _ t)
      (subst (λ v. IfMach HoldsAll (writes r v (without_text (alone y)))) o (wordy s i m x y now a _ t refl))
      (made-step s i m x y now a _ t refl ∙ ap (λ v. writes r v (without_text y)) o)
  acting (forms.CalculateConstant k n q r) other t =
      let o : computed k (n % 2 ^ 32) (reg y.state.core q) ≡ computed k (n % 2 ^ 32) (reg x.state.core q) = ap (computed k (n % 2 ^ 32)) (as-before q t.oks.1.0) in
      register-option s i m x y now a _ t r (computed k (n % 2 ^ 32) (reg x.state.core q)) refl refl (λ v h z. false≢true z) t.oks.1.1.0 (stays s i m x y now a _ t)
      (subst (λ v. IfMach HoldsAll (writes r v (without_text (alone y)))) o (wordy s i m x y now a _ t refl))
      (made-step s i m x y now a _ t refl ∙ ap (λ v. writes r v (without_text y)) o)
  acting (forms.ShiftConstant k n q r) other t =
      let o : computed k (n % 2 ^ 32) (reg y.state.core q) ≡ computed k (n % 2 ^ 32) (reg x.state.core q) = ap (computed k (n % 2 ^ 32)) (as-before q t.oks.1.0) in
      register-option s i m x y now a _ t r (computed k (n % 2 ^ 32) (reg x.state.core q)) refl refl (λ v h z. false≢true z) t.oks.1.1.0 (stays s i m x y now a _ t)
      (subst (λ v. IfMach HoldsAll (writes r v (without_text (alone y)))) o (wordy s i m x y now a _ t refl))
      (made-step s i m x y now a _ t refl ∙ ap (λ v. writes r v (without_text y)) o)
  acting (forms.Multiply k p q) other t =
      let e = as-before p t.oks.0 in let g = as-before q t.oks.1.0 in
      product s i m x y now a _ t k (reg x.state.core p) (reg x.state.core q) refl refl (λ v h z. false≢true z)
      (subst (λ v. IfMach HoldsAll (multiplied k (reg x.state.core p) v (without_text (alone y)))) g (subst (λ v. IfMach HoldsAll (multiplied k v (reg y.state.core q) (without_text (alone y)))) e (wordy s i m x y now a _ t refl)))
      (made-step s i m x y now a _ t refl ∙ (λ z. multiplied k (e z) (g z) (without_text y)))
  acting (forms.BranchPair k p q l) other t = other.branch_pair k p q l t
  acting (forms.BranchSign k p l) other t = other.branch_sign k p l t
  acting (forms.Jump l) other t = other.jump l t
  acting (forms.Call g) other t = other.call g t
  acting (forms.CallRegister r) other t = other.call_register r t
  acting forms.Return other t = other.back t
  acting forms.SystemCall other t = absurd t.silent
