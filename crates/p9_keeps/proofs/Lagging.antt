-- Code that follows may be some quiet steps behind.
use Rattle.std.proofs.Common.{ℕ, zero, suc, ◌≡◌, Bool, refl, sym, subst}
use Rattle.p9_abs.specs.Steps.{Mach, Step, Next, Turns, Calls, Returns, Exits, Undefined}
use Rattle.p9_abs.specs.Keeping.{Side, steps_of, Quiet, FollowsBy, Follows}

-- some quiet steps lead from one machine to the other
abbrev pub Runs : Side → Mach → Mach → Type 0
Runs b x y = (j : ℕ) × Quiet b j x y

pub runs-none : (b : Side) (x : Mach) → Runs b x x
runs-none b x = (0, refl)

pub runs-one : (b : Side) (x y : Mach) → steps_of b x ≡ Next y → Runs b x y
runs-one b x y e = (1, (y, e, refl))

quiet-then : (b : Side) (j : ℕ) (x y z : Mach) → Quiet b j x y → Runs b y z → Runs b x z
quiet-then b zero x y z q r = subst (λ w. Runs b w z) (sym q) r
quiet-then b (suc j) x y z (w, e, q) r = let t = quiet-then b j w y z q r in (suc t.0, (w, e, t.1))

pub runs-then : (b : Side) (x y z : Mach) → Runs b x y → Runs b y z → Runs b x z
runs-then b x y z q r = quiet-then b q.0 x y z q.1 r

module _ (apart : ℕ → Bool) (a b : Side) where
  pub lag-by : (m : ℕ) (x y z : Mach) → Runs b y z → ((w : Mach) → Follows apart a b m w z → Follows apart a b m w y) →
      (s : Step) → FollowsBy apart b s (Follows apart a b m) x z → FollowsBy apart b s (Follows apart a b m) x y
  lag-by m x y z r rec (Next u) f = rec u f
  lag-by m x y z r rec (Turns taken u) f = let q = quiet-then b r.0 y z f.1 r.1 (f.0, f.3) in (q.0, f.1, f.2, q.1, f.4, f.5, f.6)
  lag-by m x y z r rec (Calls to u) f = let q = quiet-then b r.0 y z f.1 r.1 (f.0, f.3) in (q.0, f.1, f.2, q.1, f.4, f.5, f.6)
  lag-by m x y z r rec (Returns u) f = let q = quiet-then b r.0 y z f.1 r.1 (f.0, f.3) in (q.0, f.1, f.2, q.1, f.4, f.5)
  lag-by m x y z r rec (Exits u) f = let q = quiet-then b r.0 y z f.1 r.1 (f.0, f.3) in (q.0, f.1, f.2, q.1, f.4, f.5, f.6)
  lag-by m x y z r rec Undefined f = tt

  pub lags : (m : ℕ) (x y z : Mach) → Runs b y z → Follows apart a b m x z → Follows apart a b m x y
  lags zero x y z r f = tt
  lags (suc m) x y z r f = lag-by m x y z r (λ w g. lags m w y z r g) (steps_of a x) f
