-- Lines that do an effect, and constants in a register.
use Rattle.std.proofs.Common.{ℕ, ◌+◌, ◌*◌, ◌^◌, ◌==◌, ◌≡◌, ◌≤◌, ◌<◌, nat_lt, Bool, true, false, Some, refl, sym, ap, ◌∙◌, subst, arith, if◌then◌else◌, List, [], ◌∷◌, ◌++◌, length}
use Rattle.std.specs.Prelude.{bit_or, slice_get}
use Rattle.std.proofs.lemmas.Nat.{or_shifted}
use Rattle.std.proofs.lemmas.Bool.Decides.{nat_tests}
use Rattle.p9_base.specs.Words.{word_sum, IsWord}
use Rattle.p9_base.specs.Numbers.{sign_extended}
use Rattle.p9_base.specs.declared.halt.Ending.TheVariants.{Running}
use Rattle.p9_base.specs.declared.halt.Effect.{Effect}
use Rattle.p9_base.specs.declared.halt.Effect.TheVariants as effects
use Rattle.p9_base.specs.Core.{text_start, stack_start, reg, with_byte, with_half, with_word}
use Rattle.p9_base.specs.SystemCalls.{State}
use Rattle.p9_abs.specs.declared.forms.Form.{Form}
use Rattle.p9_abs.specs.Steps.{Mach, Around, write, does, is_free, touches, Undefined}
use Rattle.p9_r3k.specs.declared.inst.Inst.{Inst}
use Rattle.p9_r3k.specs.declared.inst.Inst.TheVariants as i
use Rattle.p9_r3k.specs.declared.lines.Line.{Line}
use Rattle.p9_r3k.specs.Effects.{effect_of}
use Rattle.p9_r3k.specs.Straight.{Straight, filled, straight_step, straight_run}
use Rattle.p9_lines.specs.FormLines.{plain, is_near, upper_of, low_of, constant_lines}
use Rattle.p9_forms.specs.Standing.{Rest, stands, placed, Stand, Arrives}
use Rattle.p9_forms.specs.Following.{Site, Follows}
use Rattle.p9_forms.specs.Laws.{IsFree}
use Rattle.p9_forms.proofs.Temporary.{rest_at, seen, with_r, seen-other, seen-temporary, line-by, line-temporary, register-written, memory-written, run-none, run-one, run-then, arrives, halves, near-extended}

-- an effect that leaves register 28
abbrev pub Spares : Effect → Type 0
Spares (effects.Write r v) = IsFree r
Spares (effects.Load r v) = IsFree r
Spares _ = Unit {0}

-- nothing in one of both words
pub nothing-or : (v : ℕ) → v < 2 ^ 16 → bit_or 0 v ≡ v
nothing-or v small = refl

pub or-nothing : (v : ℕ) → bit_or v 0 ≡ v
or-nothing v =
    let e : bit_or (v * 2 ^ 0) 0 ≡ v * 2 ^ 0 + 0 = or_shifted v 0 0 (omega arith) in
    let one : v * 2 ^ 0 ≡ v = omega arith in
    ap (λ n. bit_or n 0) (sym one) ∙ e ∙ omega arith

-- what is known of a state
pub record Usual (s : State) : Type 0 where
  pub running : s.core.ending ≡ Running
  pub count : length s.core.regs ≡ 32
  pub zero_register : reg s.core 0 ≡ 0
  pub textless : s.core.text_end ≡ text_start

-- the last line of an instruction that goes on to the next one
pub last-line : (h : Site) (form : Form) (c : ℕ) (from : Straight) (n t : ℕ) (k : Rest) (x : Mach) (line : Line) →
    straight_run h.addresses h.lines c from ≡ stands t k x.state n → c ≤ 6 → h.place h.way.next ≡ n + 1 →
    x.state.core.ending ≡ Running → slice_get h.lines n ≡ Some line →
    (e : Effect) → effect_of (filled h.addresses line) (seen h.addresses n t k x.state) ≡ e → Spares e →
    Follows h form from (does e x)
last-line h form c from n t k x line run few next running found e same spares = go e same spares
  where
    ends : (s : State) → straight_step h.addresses h.lines (stands t k x.state n) ≡ stands t (rest_at h.addresses n k) s (n + 1) → Arrives h.addresses h.lines from s (h.place h.way.next)
    ends s d = subst (λ at. Arrives h.addresses h.lines from s at) (sym next) (arrives h.addresses h.lines c from (stands t k x.state n) t (rest_at h.addresses n k) s (n + 1) run few d)

    go : (f : Effect) → effect_of (filled h.addresses line) (seen h.addresses n t k x.state) ≡ f → Spares f → Follows h form from (does f x)
    go (effects.Write r v) d free =
        ends (with_r r v x.state) (line-by h.addresses h.lines n t k x.state line (effects.Write r v) running found d ∙ register-written h.addresses n t k x.state r v (n + 1) free)
    go (effects.Load r v) d free =
        ends (with_r r v x.state) (line-by h.addresses h.lines n t k x.state line (effects.Load r v) running found d ∙ register-written h.addresses n t k x.state r v (n + 1) free)
    go (effects.Pair hi lo) d free =
        ends (record x.state { core = record x.state.core { hi = hi; lo = lo } }) (line-by h.addresses h.lines n t k x.state line (effects.Pair hi lo) running found d)
    go (effects.StoreByte p v) d free =
        ends (record x.state { core = with_byte x.state.core p v }) (line-by h.addresses h.lines n t k x.state line (effects.StoreByte p v) running found d
        ∙ memory-written t (rest_at h.addresses n k) x.state (nat_lt p stack_start) _ _ (n + 1))
    go (effects.StoreHalf p v) d free =
        ends (record x.state { core = with_half x.state.core p v }) (line-by h.addresses h.lines n t k x.state line (effects.StoreHalf p v) running found d
        ∙ memory-written t (rest_at h.addresses n k) x.state (nat_lt p stack_start) _ _ (n + 1))
    go (effects.StoreWord p v) d free =
        ends (record x.state { core = with_word x.state.core p v }) (line-by h.addresses h.lines n t k x.state line (effects.StoreWord p v) running found d
        ∙ memory-written t (rest_at h.addresses n k) x.state (nat_lt p stack_start) _ _ (n + 1))
    go (effects.Branch r taken to) d free = tt
    go (effects.JumpTo r to) d free = tt
    go effects.Call d free = tt
    go (effects.Stop cause) d free = tt

-- one line with no piece of an address
pub one-line : (h : Site) (form : Form) (t : ℕ) (k : Rest) (x : Mach) (inst : Inst) →
    x.state.core.ending ≡ Running → Stand h.lines h.place h.first (plain inst ∷ []) → h.place h.way.next ≡ h.first + 1 →
    (e : Effect) → effect_of inst (seen h.addresses h.first t k x.state) ≡ e → Spares e →
    Follows h form (stands t k x.state h.first) (does e x)
one-line h form t k x inst running there next e same spares =
    last-line h form 0 (stands t k x.state h.first) h.first t k x (placed h.place there.0 (plain inst))
    (run-none h.addresses h.lines (stands t k x.state h.first)) (omega arith) next running there.1 e same spares

-- a line that puts a word into register 28, behind others
pub temporary-made : (h : Site) (c : ℕ) (from : Straight) (n t : ℕ) (k : Rest) (s : State) (line : Line) (v : ℕ) →
    straight_run h.addresses h.lines c from ≡ stands t k s n → s.core.ending ≡ Running → slice_get h.lines n ≡ Some line →
    effect_of (filled h.addresses line) (seen h.addresses n t k s) ≡ effects.Write 28 v →
    straight_run h.addresses h.lines (c + 1) from ≡ stands v (rest_at h.addresses n k) s (n + 1)
temporary-made h c from n t k s line v run running found e =
    run-then h.addresses h.lines c 1 from (stands t k s n) (stands v (rest_at h.addresses n k) s (n + 1)) run
    (run-one h.addresses h.lines (stands t k s n) ∙ line-temporary h.addresses h.lines n t k s line v running found e)

-- two pieces of lines
pub stand-first : (lines : List Line) (place : ℕ → ℕ) (n : ℕ) (xs ys : List Line) → Stand lines place n (xs ++ ys) → Stand lines place n xs
stand-first lines place n [] ys h = tt
stand-first lines place n (x ∷ xs) ys h = (h.0, h.1, stand-first lines place (n + 1) xs ys h.2)

pub stand-rest : (lines : List Line) (place : ℕ → ℕ) (n : ℕ) (xs ys : List Line) → Stand lines place n (xs ++ ys) → Stand lines place (n + length xs) ys
stand-rest lines place n [] ys h = subst (λ m. Stand lines place m ys) (omega arith) h
stand-rest lines place n (x ∷ xs) ys h = subst (λ m. Stand lines place m ys) (omega arith) (stand-rest lines place (n + 1) xs ys h.2)

-- Constants

-- what the last line of a constant does, behind the others: it writes the register
pub record IsMade (h : Site) (from : Straight) (n : ℕ) (s : State) (ls : List Line) (r c : ℕ) : Type 0 where
  pub before : ℕ
  pub few : before ≤ 1
  pub at : ℕ
  pub temporary : ℕ
  pub rest : Rest
  pub line : Line
  pub run : straight_run h.addresses h.lines before from ≡ stands temporary rest s at
  pub found : slice_get h.lines at ≡ Some line
  pub ends : at + 1 ≡ n + length ls
  pub does : effect_of (filled h.addresses line) (seen h.addresses at temporary rest s) ≡ effects.Write r c

pub constant-made : (h : Site) (n t : ℕ) (k : Rest) (s : State) (c r : ℕ) → Usual s → IsWord c → Stand h.lines h.place n (constant_lines c r) →
    IsMade h (stands t k s n) n s (constant_lines c r) r c
constant-made h n t k s c r u small there = by-near (is_near c) refl there
  where
    none : straight_run h.addresses h.lines 0 (stands t k s n) ≡ stands t k s n
    none = run-none h.addresses h.lines (stands t k s n)

    by-low : (z : Bool) → (low_of c == 0) ≡ z →
        (let ls : List Line = (if z then plain (i.Lui r (upper_of c)) ∷ [] else plain (i.Lui 28 (upper_of c)) ∷ plain (i.Ori 28 r (low_of c)) ∷ []) in
        Stand h.lines h.place n ls → IsMade h (stands t k s n) n s ls r c)
    by-low true e there = record {
      before = 0;
      few = omega arith;
      at = n;
      temporary = t;
      rest = k;
      line = placed h.place there.0 (plain (i.Lui r (upper_of c)));
      run = none;
      found = there.1;
      ends = refl;
      does = ap (λ v. effects.Write r v) (let z : low_of c ≡ 0 = grind (arith, nat_tests) in omega (arith, z));
    }
    by-low false e there =
        let hi : ℕ = upper_of c * 2 ^ 16 in
        record {
          before = 1;
          few = omega arith;
          at = n + 1;
          temporary = hi;
          rest = rest_at h.addresses n k;
          line = placed h.place there.2.0 (plain (i.Ori 28 r (low_of c)));
          run = temporary-made h 0 (stands t k s n) n t k s (placed h.place there.0 (plain (i.Lui 28 (upper_of c)))) hi none u.running there.1 refl;
          found = there.2.1;
          ends = omega arith;
          does = ap (λ v. effects.Write r v) (ap (λ z. bit_or z (low_of c)) (seen-temporary h.addresses (n + 1) hi (rest_at h.addresses n k) s u.count) ∙ halves c);
        }

    by-half : (b : Bool) → nat_lt c (2 ^ 16) ≡ b →
        (let ls : List Line = (if b then plain (i.Ori 0 r c) ∷ [] else (if low_of c == 0 then plain (i.Lui r (upper_of c)) ∷ [] else plain (i.Lui 28 (upper_of c)) ∷ plain (i.Ori 28 r (low_of c)) ∷ [])) in
        Stand h.lines h.place n ls → IsMade h (stands t k s n) n s ls r c)
    by-half true e there = record {
      before = 0;
      few = omega arith;
      at = n;
      temporary = t;
      rest = k;
      line = placed h.place there.0 (plain (i.Ori 0 r c));
      run = none;
      found = there.1;
      ends = refl;
      does = ap (λ v. effects.Write r v) (ap (λ z. bit_or z c) (seen-other h.addresses n t k s 0 refl ∙ u.zero_register) ∙ nothing-or c (let half : c < 2 ^ 16 = grind (arith, nat_tests) in half));
    }
    by-half false e there = by-low (low_of c == 0) refl there

    by-near : (b : Bool) → is_near c ≡ b →
        (let ls : List Line = (if b then plain (i.Addiu 0 r (low_of c)) ∷ [] else (if nat_lt c (2 ^ 16) then plain (i.Ori 0 r c) ∷ [] else (if low_of c == 0 then plain (i.Lui r (upper_of c)) ∷ [] else plain (i.Lui 28 (upper_of c)) ∷ plain (i.Ori 28 r (low_of c)) ∷ []))) in
        Stand h.lines h.place n ls → IsMade h (stands t k s n) n s ls r c)
    by-near true e there = record {
      before = 0;
      few = omega arith;
      at = n;
      temporary = t;
      rest = k;
      line = placed h.place there.0 (plain (i.Addiu 0 r (low_of c)));
      run = none;
      found = there.1;
      ends = refl;
      does = ap (λ v. effects.Write r v) (ap (λ z. word_sum z (sign_extended 16 (low_of c))) (seen-other h.addresses n t k s 0 refl ∙ u.zero_register)
          ∙ (ap (λ z. word_sum 0 z) (near-extended c small e) ∙ omega (arith, small)));
    }
    by-near false e there = by-half (nat_lt c (2 ^ 16)) refl there

-- a constant in a register that isn't 28
pub constant-moved : (h : Site) (form : Form) (t : ℕ) (k : Rest) (x : Mach) (c r : ℕ) → Usual x.state → IsWord c → IsFree r →
    Stand h.lines h.place h.first (constant_lines c r) → h.place h.way.next ≡ h.first + length (constant_lines c r) →
    Follows h form (stands t k x.state h.first) (write r c x)
constant-moved h form t k x c r u small free there next =
    let m = constant-made h h.first t k x.state c r u small there in
    last-line h form m.before (stands t k x.state h.first) m.at m.temporary m.rest x m.line m.run (omega (arith, m.few)) (next ∙ sym m.ends) u.running m.found (effects.Write r c) m.does free

-- a constant in register 28
pub record IsReady (h : Site) (from : Straight) (n : ℕ) (s : State) (v : ℕ) : Type 0 where
  pub count : ℕ
  pub few : count ≤ 2
  pub rest : Rest
  pub run : straight_run h.addresses h.lines count from ≡ stands v rest s n

pub constant-ready : (h : Site) (n t : ℕ) (k : Rest) (s : State) (c : ℕ) → Usual s → IsWord c → Stand h.lines h.place n (constant_lines c 28) →
    IsReady h (stands t k s n) (n + length (constant_lines c 28)) s c
constant-ready h n t k s c u small there =
    let m = constant-made h n t k s c 28 u small there in
    record {
      count = m.before + 1;
      few = omega (arith, m.few);
      rest = rest_at h.addresses m.at m.rest;
      run = temporary-made h m.before (stands t k s n) m.at m.temporary m.rest s m.line c m.run u.running m.found m.does ∙ ap (λ j. stands c (rest_at h.addresses m.at m.rest) s j) m.ends;
    }

pub touched : (h : Site) (form : Form) (from : Straight) (around : Around) (p n : ℕ) (e : Effect) (x : Mach) →
    Follows h form from (does e x) → Follows h form from (touches around p n e x)
touched h form from around p n e x f = go (is_free around.banned p n)
  where
    go : (b : Bool) → Follows h form from (if b then does e x else Undefined)
    go true = f
    go false = tt
