-- The match: what machines of the code given and of framed code have in common at the start of an
-- instruction (`Holds`).
use Rattle.std.proofs.Common.{ℕ, ◌+◌, ◌≡◌, ◌⊎◌, ◌<◌, Bool, true, false, Option, Some, None, refl, subst, length, slice_index}
use Rattle.p9_base.specs.Core.{reg}
use Rattle.p9_base.specs.Holding.{HoldsWords, LaidOut}
use Rattle.p9_abs.specs.declared.forms.Width.{Width}
use Rattle.p9_abs.specs.Automatics.{flows, call_at, reached, is_variable, fills_at}
use Rattle.p9_abs.specs.Regions.{home_at}
use Rattle.p9_abs.specs.Framed.{start_of}
use Rattle.p9_abs.specs.Steps.{Mach, without_text, bytes_of, stored}
use Rattle.p9_abs.specs.OneCall.{size_at}
use Rattle.p9_abs.proofs.Reaching.{reached-flows}
use Rattle.p9_keeps.proofs.Living.{Matters, matters-back, home-along}
use Rattle.p9_keeps.proofs.Cores.{get, SameCore}
use Rattle.p9_keeps.proofs.Scenes.{Scene, apart}

-- a register that is no home
abbrev pub IsPlainRegister : ℕ → Type 0
IsPlainRegister r = (r < 9) ⊎ (20 < r)

-- the machines agree but for homes, variables and their places
pub record Near (s : Scene) (x y : Mach) : Type 0 where
  pub regs : (r : ℕ) → IsPlainRegister r → reg x.state.core r ≡ reg y.state.core r
  pub high : x.state.core.hi ≡ y.state.core.hi
  pub lower : x.state.core.lo ≡ y.state.core.lo
  pub memory : SameCore (apart s) x.state.core y.state.core
  pub input : x.state.left ≡ y.state.left
  pub output : x.state.out ≡ y.state.out
  pub stack : reg x.state.core 29 ≡ s.sp
  pub words : HoldsWords y.state.core
  pub laid : (let z : Mach = without_text y in LaidOut z.state.core)
  pub counted : length x.state.core.regs ≡ 32
  pub variables : length x.vars ≡ length s.f.autos

module _ (s : Scene) where
  -- the home of a variable, or else its place, holds its low bytes
  abbrev pub Held : Option ℕ → ℕ → Mach → Mach → Type 0
  Held None v x y = (w : Width) → bytes_of w ≡ size_at s.f v → get w y.state.core (s.sp + slice_index s.p.offsets v) ≡ slice_index x.vars v
  Held (Some h) v x y = (w : Width) → bytes_of w ≡ size_at s.f v → stored w (reg y.state.core h) ≡ slice_index x.vars v

  abbrev pub home : ℕ → ℕ → Option ℕ
  home v i = home_at s.rs s.homes v i

  -- at the start of instruction i
  pub record Holds (i : ℕ) (x y : Mach) : Type 0 where
    pub near : Near s x y
    pub here : x.at ≡ i
    pub there : y.at ≡ start_of s.p i
    pub reached_is : reached s.f.code i ≡ true
    pub held : (v : ℕ) → Matters s.f v i → Held (home_at s.rs s.homes v i) v x y

  -- at another instruction, where what wasn't written is held as before
  pub arrive : (i j : ℕ) (x y u w : Mach) → Holds i x y → flows s.f.code i j ≡ true → call_at s.f.code i ≡ false → Near s u w → u.at ≡ j → w.at ≡ start_of s.p j →
      ((v : ℕ) → is_variable s.f v ≡ true → fills_at s.f v i ≡ false → (o : Option ℕ) → home_at s.rs s.homes v i ≡ o → Held o v x y → Held o v u w) →
      ((v : ℕ) → is_variable s.f v ≡ true → fills_at s.f v i ≡ true → (o : Option ℕ) → home_at s.rs s.homes v i ≡ o → Held o v u w) → Holds j u w
  arrive i j x y u w h flow call near here there kept filled = record {
    near = near;
    here = here;
    there = there;
    reached_is = reached-flows s.f.code i j h.reached_is flow;
    held = λ v m. subst (λ o. Held o v u w) (home-along s.f s.rs s.homes s.regions s.homed v i j m flow call) (by v m (fills_at s.f v i) refl);
  }
    where
      by : (v : ℕ) → Matters s.f v j → (b : Bool) → fills_at s.f v i ≡ b → Held (home_at s.rs s.homes v i) v u w
      by v m true e = filled v m.variable e (home_at s.rs s.homes v i) refl
      by v m false e = kept v m.variable e (home_at s.rs s.homes v i) refl (h.held v (matters-back s.f v i j m flow e))
