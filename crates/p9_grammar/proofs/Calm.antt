-- Tokens that none of a part's own nodes takes.
use Rattle.std.proofs.Common.{◌≡◌, ℕ, zero, suc, ◌+◌, ◌≤◌, ◌<◌, nat_le, Bool, true, false, ◌||◌, ◌&&◌, ◌⊎◌, inl, inr, not, List, [], ◌∷◌, ◌++◌, refl, sym, ap, subst, ◌∙◌, arith, ⊎_elim}
use Rattle.std.proofs.lemmas.Bool.{le-leb, false≢true}
use Rattle.std.proofs.lemmas.Bool.Decides.{leb_tells}
use Rattle.p9_grammar.specs.declared.terminal.Keyword.TheVariants as key
use Rattle.p9_grammar.specs.declared.terminal.Punctuator.{Punctuator}
use Rattle.p9_grammar.specs.declared.terminal.Punctuator.TheVariants as mark
use Rattle.p9_grammar.specs.declared.terminal.Terminal.{Terminal}
use Rattle.p9_grammar.specs.declared.terminal.Terminal.TheVariants as t
use Rattle.p9_grammar.specs.declared.head.Naming.{Naming}
use Rattle.p9_grammar.specs.Trees.{Tree, node, Trees, none, more, count}
use Rattle.p9_grammar.specs.Machine.{Infix, Binds, No, binding, Join, Joins, Posts, Lengthens, Apart, join_at, join_if, join_expression, join_declarator, level_of, direct_of}
use Rattle.p9_grammar.proofs.Reading.{calm, calm_at, quiet}

pub le_true : (m n : ℕ) → m ≤ n → nat_le m n ≡ true
le_true m n h = le-leb m n h

pub le_false : (m n : ℕ) → suc n ≤ m → nat_le m n ≡ false
le_false m n h = ⊎_elim (λ p. absurd (omega (arith, p.1, h))) (λ p. p.0) (leb_tells m n)

pub true_le : (m n : ℕ) → nat_le m n ≡ true → m ≤ n
true_le m n e = ⊎_elim (λ p. p.1) (λ p. absurd (false≢true (sym p.0 ∙ e))) (leb_tells m n)

-- The token binds less tightly than this level, or binds nothing.
abbrev pub low_at : ℕ → Infix → Bool
low_at w (Binds level left j) = nat_le (suc level) w
low_at w No = true

abbrev pub low : ℕ → Terminal → Bool
low w (t.Mark p) = low_at w (binding p)
low w (t.Text x) = false
low w _ = true

low_at-calm : (w : ℕ) (b : Infix) → low_at w b ≡ true → calm_at w b ≡ true
low_at-calm w (Binds level left j) h = ap (λ x. x || nat_le left w) h
low_at-calm w No h = refl

pub low-calm : (w : ℕ) (token : Terminal) → low w token ≡ true → calm w token ≡ true
low-calm w (t.Mark p) h = low_at-calm w (binding p) h
low-calm w (t.Text x) h = h
low-calm w _ h = refl

low_at-apart : (w k : ℕ) (b : Infix) → low_at w b ≡ true → join_at w k b ≡ Apart
low_at-apart w k (Binds level left j) h = ap (λ x. join_if (x && nat_le left k) j) (le_false w level (true_le (suc level) w h))
low_at-apart w k No h = refl

pub low-apart : (w : ℕ) (n : Tree) (token : Terminal) → low w token ≡ true → join_expression w n token ≡ Apart
low-apart w n (t.Mark p) h = low_at-apart w (level_of n) (binding p) h
low-apart w n (t.Text x) h = absurd (false≢true h)
low-apart w n _ h = refl

-- A node that binds so tightly, and its last part, which is open at its end.
abbrev pub Edge : ℕ → ℕ → Type 0
Edge k w = (k ≤ 15) × ((k < w) ⊎ ((14 ≤ w) ⊎ ((k ≤ 3) × (2 ≤ w) × (k ≤ w))))

calm_parts : (a b : Bool) → (a || b) ≡ true → (a ≡ true) ⊎ (b ≡ true)
calm_parts true b h = inl refl
calm_parts false b h = inr h

-- what holds of how tokens bind: equally on both sides, or as the conditional, an assignment or what
-- follows an operand
data Shape : ℕ → ℕ → Type 0 where
  Even : {b : ℕ} → b ≤ 13 → (4 ≤ b) ⊎ (b ≡ 1) → Shape b b
  Conditional : Shape 3 4
  Assigning : Shape 2 15
  Postfix : Shape 16 16

low_even : (b l k w : ℕ) → b ≤ 13 → (4 ≤ b) ⊎ (b ≡ 1) → (suc b ≤ l) ⊎ (b ≤ l) → l ≤ k → Edge k w → suc b ≤ w
low_even b l k w h e c g (z, inl q) = ⊎_elim (λ x. omega (arith, x, g, q)) (λ x. omega (arith, x, g, q)) c
low_even b l k w h e c g (z, inr (inl q)) = omega (arith, h, q)
low_even b l k w h (inl e) c g (z, inr (inr q)) = absurd (⊎_elim (λ x. omega (arith, x, e, g, q.0)) (λ x. omega (arith, x, e, g, q.0)) c)
low_even b l k w h (inr e) c g (z, inr (inr q)) = omega (arith, e, q.1)

low_conditional : (l k w : ℕ) → (4 ≤ l) ⊎ (4 ≤ l) → l ≤ k → Edge k w → 4 ≤ w
low_conditional l k w c g (z, inl q) = ⊎_elim (λ x. omega (arith, x, g, q)) (λ x. omega (arith, x, g, q)) c
low_conditional l k w c g (z, inr (inl q)) = omega (arith, q)
low_conditional l k w c g (z, inr (inr q)) = absurd (⊎_elim (λ x. omega (arith, x, g, q.0)) (λ x. omega (arith, x, g, q.0)) c)

low_assigning : (l k w : ℕ) → (3 ≤ l) ⊎ (15 ≤ l) → l ≤ k → Edge k w → 3 ≤ w
low_assigning l k w c g (z, inl q) = ⊎_elim (λ x. omega (arith, x, g, q)) (λ x. omega (arith, x, g, q)) c
low_assigning l k w c g (z, inr (inl q)) = omega (arith, q)
low_assigning l k w c g (z, inr (inr q)) = ⊎_elim (λ x. omega (arith, x, g, q.2)) (λ x. omega (arith, x, g, q.2)) c

low_postfix : (l k w : ℕ) → (17 ≤ l) ⊎ (16 ≤ l) → l ≤ k → Edge k w → 17 ≤ w
low_postfix l k w c g q = absurd (⊎_elim (λ x. omega (arith, x, g, q.0)) (λ x. omega (arith, x, g, q.0)) c)

low_shape : (level left l k w : ℕ) → Shape level left → (suc level ≤ l) ⊎ (left ≤ l) → l ≤ k → Edge k w → suc level ≤ w
low_shape _ _ l k w (Even {b} h e) c g q = low_even b l k w h e c g q
low_shape _ _ l k w Conditional c g q = low_conditional l k w c g q
low_shape _ _ l k w Assigning c g q = low_assigning l k w c g q
low_shape _ _ l k w Postfix c g q = low_postfix l k w c g q

low_if : (level left l k w : ℕ) → Shape level left → (nat_le (suc level) l || nat_le left l) ≡ true → l ≤ k → Edge k w → nat_le (suc level) w ≡ true
low_if level left l k w h c g q =
    le_true _ _ (low_shape level left l k w h (⊎_elim (λ x. inl (true_le _ _ x)) (λ x. inr (true_le _ _ x)) (calm_parts (nat_le (suc level) l) (nat_le left l) c)) g q)

even : (b : ℕ) (l k w : ℕ) → b ≤ 13 → 4 ≤ b → (nat_le (suc b) l || nat_le b l) ≡ true → l ≤ k → Edge k w → nat_le (suc b) w ≡ true
even b l k w h e c g q = low_if b b l k w (Even h (inl e)) c g q

low-mark : (l k w : ℕ) (p : Punctuator) → calm_at l (binding p) ≡ true → l ≤ k → Edge k w → low_at w (binding p) ≡ true
low-mark l k w mark.OpenParen c g q = low_if 16 16 l k w Postfix c g q
low-mark l k w mark.OpenBracket c g q = low_if 16 16 l k w Postfix c g q
low-mark l k w mark.Dot c g q = low_if 16 16 l k w Postfix c g q
low-mark l k w mark.Arrow c g q = low_if 16 16 l k w Postfix c g q
low-mark l k w mark.PlusPlus c g q = low_if 16 16 l k w Postfix c g q
low-mark l k w mark.MinusMinus c g q = low_if 16 16 l k w Postfix c g q
low-mark l k w mark.Star c g q = even 13 l k w (omega arith) (omega arith) c g q
low-mark l k w mark.Slash c g q = even 13 l k w (omega arith) (omega arith) c g q
low-mark l k w mark.Percent c g q = even 13 l k w (omega arith) (omega arith) c g q
low-mark l k w mark.Plus c g q = even 12 l k w (omega arith) (omega arith) c g q
low-mark l k w mark.Minus c g q = even 12 l k w (omega arith) (omega arith) c g q
low-mark l k w mark.ShiftLeft c g q = even 11 l k w (omega arith) (omega arith) c g q
low-mark l k w mark.ShiftRight c g q = even 11 l k w (omega arith) (omega arith) c g q
low-mark l k w mark.Less c g q = even 10 l k w (omega arith) (omega arith) c g q
low-mark l k w mark.Greater c g q = even 10 l k w (omega arith) (omega arith) c g q
low-mark l k w mark.LessEqual c g q = even 10 l k w (omega arith) (omega arith) c g q
low-mark l k w mark.GreaterEqual c g q = even 10 l k w (omega arith) (omega arith) c g q
low-mark l k w mark.EqualEqual c g q = even 9 l k w (omega arith) (omega arith) c g q
low-mark l k w mark.BangEqual c g q = even 9 l k w (omega arith) (omega arith) c g q
low-mark l k w mark.Ampersand c g q = even 8 l k w (omega arith) (omega arith) c g q
low-mark l k w mark.Caret c g q = even 7 l k w (omega arith) (omega arith) c g q
low-mark l k w mark.Bar c g q = even 6 l k w (omega arith) (omega arith) c g q
low-mark l k w mark.AmpersandAmpersand c g q = even 5 l k w (omega arith) (omega arith) c g q
low-mark l k w mark.BarBar c g q = even 4 l k w (omega arith) (omega arith) c g q
low-mark l k w mark.Question c g q = low_if 3 4 l k w Conditional c g q
low-mark l k w mark.Equal c g q = low_if 2 15 l k w Assigning c g q
low-mark l k w mark.StarEqual c g q = low_if 2 15 l k w Assigning c g q
low-mark l k w mark.SlashEqual c g q = low_if 2 15 l k w Assigning c g q
low-mark l k w mark.PercentEqual c g q = low_if 2 15 l k w Assigning c g q
low-mark l k w mark.PlusEqual c g q = low_if 2 15 l k w Assigning c g q
low-mark l k w mark.MinusEqual c g q = low_if 2 15 l k w Assigning c g q
low-mark l k w mark.ShiftLeftEqual c g q = low_if 2 15 l k w Assigning c g q
low-mark l k w mark.ShiftRightEqual c g q = low_if 2 15 l k w Assigning c g q
low-mark l k w mark.AmpersandEqual c g q = low_if 2 15 l k w Assigning c g q
low-mark l k w mark.CaretEqual c g q = low_if 2 15 l k w Assigning c g q
low-mark l k w mark.BarEqual c g q = low_if 2 15 l k w Assigning c g q
low-mark l k w mark.Comma c g q = low_if 1 1 l k w (Even (omega arith) (inr refl)) c g q
low-mark l k w _ c g q = refl

-- A token that may follow a node binds less tightly than that node's last part is wanted to.
pub calm-low : (l k w : ℕ) (token : Terminal) → calm l token ≡ true → l ≤ k → Edge k w → low w token ≡ true
calm-low l k w (t.Mark p) c g q = low-mark l k w p c g q
calm-low l k w (t.Text x) c g q = c
calm-low l k w _ c g q = refl

-- A declarator's own steps take no token that may follow one with a star.
pub quiet-apart : (m : Naming) (n : Tree) (token : Terminal) → quiet m 15 token ≡ true → join_declarator n token ≡ Apart
quiet-apart m n (t.Mark mark.OpenBracket) h = absurd (false≢true h)
quiet-apart m n (t.Mark mark.OpenParen) h = absurd (false≢true h)
quiet-apart m n _ h = refl

pub quiet-less : (m : Naming) (l : ℕ) (token : Terminal) → quiet m l token ≡ true → l ≤ 15 → quiet m 15 token ≡ true
quiet-less m l (t.Mark mark.OpenBracket) h g = absurd (false≢true (sym (le_false 16 l (omega (arith, g))) ∙ h))
quiet-less m l (t.Mark mark.OpenParen) h g = absurd (false≢true (sym (le_false 16 l (omega (arith, g))) ∙ h))
quiet-less m l (t.Mark mark.Comma) h g = refl
quiet-less m l (t.Mark mark.CloseParen) h g = refl
quiet-less m l (t.Mark mark.Semicolon) h g = h
quiet-less m l (t.Mark mark.Equal) h g = h
quiet-less m l (t.Mark mark.OpenBrace) h g = h
quiet-less m l _ h g = absurd (false≢true h)
