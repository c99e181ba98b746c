-- The match behind a step of both machines: a register, HI and LO, or bytes are written, or only the
-- place of the next instruction changes.
use Rattle.std.proofs.Common.{ℕ, ◌+◌, ◌-◌, ◌==◌, ◌≡◌, ◌≢◌, ◌⊎◌, inl, inr, ◌≤◌, ◌<◌, Bool, true, false, Option, Some, None, refl, sym, ap, ◌∙◌, subst, arith, if◌then◌else◌, List, length, slice_index, slice_set}
use Rattle.std.proofs.lemmas.Bool.{cases_eq, cases_lt, eqb-true, false≢true}
use Rattle.std.proofs.lemmas.List.{get_or-set_same, get_or-set_other, length-set, set_past}
use Rattle.p9_base.specs.Core.{Core, text_start, stack_start, reg, with_reg}
use Rattle.p9_base.specs.Holding.{HoldsWords, LaidOut}
use Rattle.p9_abs.specs.declared.forms.Width.{Width}
use Rattle.p9_abs.specs.declared.forms.Width.TheVariants.{Word, SignedHalf, UnsignedHalf, SignedByte, UnsignedByte}
use Rattle.p9_abs.specs.Automatics.{is_variable}
use Rattle.p9_abs.specs.Steps.{Mach, with_core, without_text, bytes_of, stored}
use Rattle.p9_abs.specs.OneCall.{size_at}
use Rattle.p9_abs.proofs.Fixed.{other-register}
use Rattle.p9_keeps.proofs.Cores.{put, SameCore, KeepsSizes, put-sizes, put-words, put-laid, get-beside, same-put, apart-put}
use Rattle.p9_keeps.proofs.Scenes.{Scene, apart, place}
use Rattle.p9_keeps.proofs.Places.{place-apart}
use Rattle.p9_keeps.proofs.Living.{home-range}
use Rattle.p9_keeps.proofs.Matching.{IsPlainRegister, Near, Held, home}

-- Machines behind writes

abbrev pub written : ℕ → ℕ → Mach → Mach
written r v x = with_core x (record x.state.core { regs = with_reg x.state.core.regs r v })

abbrev pub paired : ℕ → ℕ → Mach → Mach
paired h l x = with_core x (record x.state.core { hi = h; lo = l })

abbrev pub filled : Width → ℕ → ℕ → Mach → Mach
filled w a v x = with_core x (put w x.state.core a v)

pub some-bytes : (w : Width) → 0 < bytes_of w
some-bytes Word = omega arith
some-bytes SignedHalf = omega arith
some-bytes UnsignedHalf = omega arith
some-bytes SignedByte = omega arith
some-bytes UnsignedByte = omega arith

-- Registers

pub same-register : (regs : List ℕ) (r v : ℕ) → r ≢ 0 → r < length regs → slice_index (with_reg regs r v) r ≡ v
same-register regs r v some l = by (r == 0) refl
  where
    by : (b : Bool) → (r == 0) ≡ b → slice_index (if b then regs else slice_set regs r v) r ≡ v
    by true e = absurd (some (eqb-true r 0 e))
    by false e = get_or-set_same regs r v 0 l

both-registers : (xs ys : List ℕ) (r v w q : ℕ) → length xs ≡ length ys → v ≡ w → slice_index xs q ≡ slice_index ys q → slice_index (with_reg xs r v) q ≡ slice_index (with_reg ys r w) q
both-registers xs ys r v w q count e same = by (r == 0)
  where
    at : (q ≡ r) ⊎ (q ≢ r) → (r < length xs) ⊎ (length xs ≤ r) → slice_index (slice_set xs r v) q ≡ slice_index (slice_set ys r w) q
    at (inr ne) m = get_or-set_other xs r q v 0 ne ∙ (same ∙ sym (get_or-set_other ys r q w 0 ne))
    at (inl d) (inl l) = ap (slice_index (slice_set xs r v)) d ∙ (get_or-set_same xs r v 0 l ∙ (e ∙ (sym (get_or-set_same ys r w 0 (omega (arith, count, l))) ∙ ap (slice_index (slice_set ys r w)) (sym d))))
    at (inl d) (inr l) = ap (λ z. slice_index z q) (set_past xs r v l) ∙ (same ∙ ap (λ z. slice_index z q) (sym (set_past ys r w (omega (arith, count, l)))))

    by : (b : Bool) → slice_index (if b then xs else slice_set xs r v) q ≡ slice_index (if b then ys else slice_set ys r w) q
    by true = same
    by false = at (cases_eq q r) (cases_lt r (length xs))

reg-count : (regs : List ℕ) (r v : ℕ) → length (with_reg regs r v) ≡ length regs
reg-count regs r v = by (r == 0)
  where
    by : (b : Bool) → length (if b then regs else slice_set regs r v) ≡ length regs
    by true = refl
    by false = length-set regs r v

pub home-not-plain : (h r : ℕ) → (9 ≤ h) × (h ≤ 20) → IsPlainRegister r → h ≢ r
home-not-plain h r i (inl p) e = let a = i.0 in omega (arith, a, p, e)
home-not-plain h r i (inr p) e = let a = i.1 in omega (arith, a, p, e)

pub bare-laid : (c : Core) → LaidOut c → (let d : Core = record c { text_end = text_start } in LaidOut d)
bare-laid c l = let a = l.text in let b = l.gap in record { text = omega arith; gap = omega (arith, a, b); data_and_bss = l.data_and_bss; above = l.above; stack_size = l.stack_size }

module _ (s : Scene) where
  pub range : (v i h : ℕ) → home s v i ≡ Some h → (9 ≤ h) × (h ≤ 20)
  range v i h e = home-range s.f s.rs s.homes s.regions s.homed v i h e

  -- A plain register is written with one value

  module _ (x y : Mach) (r u w : ℕ) (near : Near s x y) (plain : IsPlainRegister r) (stays : slice_index (with_reg x.state.core.regs r u) 29 ≡ reg x.state.core 29) (same : u ≡ w)
      (words : (let z : Mach = written r w (without_text y) in HoldsWords z.state.core)) where
    pub near-write : Near s (written r u (without_text x)) (written r w (without_text y))
    near-write = record {
      regs = λ q p. both-registers x.state.core.regs y.state.core.regs r u w q (near.counted ∙ sym near.words.count) same (near.regs q p);
      high = near.high;
      lower = near.lower;
      memory = (let m = near.memory in record { order = m.order; low = m.low; begin = m.begin; size = m.size; stack = m.stack });
      input = near.input;
      output = near.output;
      stack = stays ∙ near.stack;
      words = words;
      laid = (let l = near.laid in record { text = l.text; gap = l.gap; data_and_bss = l.data_and_bss; above = l.above; stack_size = l.stack_size });
      counted = reg-count x.state.core.regs r u ∙ near.counted;
      variables = near.variables;
    }

    pub held-write : (v i : ℕ) (o : Option ℕ) → home s v i ≡ o → Held s o v x y → Held s o v (written r u (without_text x)) (written r w (without_text y))
    held-write v i None e d = d
    held-write v i (Some h) e d = λ k z. ap (stored k) (other-register y.state.core.regs r w h (home-not-plain h r (range v i h e) plain)) ∙ d k z

  -- HI and LO are

  module _ (x y : Mach) (h l g k : ℕ) (near : Near s x y) (high : h ≡ g) (lower : l ≡ k) (words : (let z : Mach = paired g k (without_text y) in HoldsWords z.state.core)) where
    pub near-pair : Near s (paired h l (without_text x)) (paired g k (without_text y))
    near-pair = record {
      regs = near.regs;
      high = high;
      lower = lower;
      memory = (let m = near.memory in record { order = m.order; low = m.low; begin = m.begin; size = m.size; stack = m.stack });
      input = near.input;
      output = near.output;
      stack = near.stack;
      words = words;
      laid = (let m = near.laid in record { text = m.text; gap = m.gap; data_and_bss = m.data_and_bss; above = m.above; stack_size = m.stack_size });
      counted = near.counted;
      variables = near.variables;
    }

    pub held-pair : (v : ℕ) (o : Option ℕ) → Held s o v x y → Held s o v (paired h l (without_text x)) (paired g k (without_text y))
    held-pair v None d = d
    held-pair v (Some n) d = d

  -- Only the place of the next instruction is another

  abbrev pub moved_to : ℕ → Mach → Mach
  moved_to i x = record x { at = i }

  module _ (x y : Mach) (i j : ℕ) (near : Near s x y) where
    pub near-jump : Near s (moved_to i (without_text x)) (moved_to j (without_text y))
    near-jump = record {
      regs = near.regs;
      high = near.high;
      lower = near.lower;
      memory = (let m = near.memory in record { order = m.order; low = m.low; begin = m.begin; size = m.size; stack = m.stack });
      input = near.input;
      output = near.output;
      stack = near.stack;
      words = (let h = near.words in record { count = h.count; zero_register = h.zero_register; registers = h.registers; high = h.high; less = h.less; low_bytes = h.low_bytes; stack_bytes = h.stack_bytes });
      laid = (let m = near.laid in record { text = m.text; gap = m.gap; data_and_bss = m.data_and_bss; above = m.above; stack_size = m.stack_size });
      counted = near.counted;
      variables = near.variables;
    }

    pub held-jump : (v : ℕ) (o : Option ℕ) → Held s o v x y → Held s o v (moved_to i (without_text x)) (moved_to j (without_text y))
    held-jump v None d = d
    held-jump v (Some n) d = d

  -- The same bytes are stored in both

  -- bytes that are no variable's are beside its place
  place-beside : (u a n : ℕ) → is_variable s.f u ≡ true → 0 < n → 0 < size_at s.f u → ((m : ℕ) → m < n → apart s (a + m) ≡ false) → (place s u + size_at s.f u ≤ a) ⊎ (a + n ≤ place s u)
  place-beside u a n var some_n some free = by (cases_lt (place s u) (a + n)) (cases_lt a (place s u + size_at s.f u)) (cases_lt (place s u) a)
    where
      own : (m : ℕ) → m < size_at s.f u → apart s (place s u + m) ≡ true
      own m l = place-apart s u m var l

      by : (place s u < a + n) ⊎ (a + n ≤ place s u) → (a < place s u + size_at s.f u) ⊎ (place s u + size_at s.f u ≤ a) → (place s u < a) ⊎ (a ≤ place s u) → (place s u + size_at s.f u ≤ a) ⊎ (a + n ≤ place s u)
      by (inr l) m q = inr l
      by (inl l) (inr m) q = inl m
      by (inl l) (inl m) (inl q) =
          let e : place s u + (a - place s u) ≡ a + 0 = omega (arith, q) in
          absurd (false≢true (sym (free 0 some_n) ∙ (ap (apart s) (sym e) ∙ own (a - place s u) (omega (arith, m, q)))))
      by (inl l) (inl m) (inr q) =
          let e : place s u + 0 ≡ a + (place s u - a) = omega (arith, q) in
          absurd (false≢true (sym (free (place s u - a) (omega (arith, l, q))) ∙ (ap (apart s) (sym e) ∙ own 0 some)))

  bare-words : (c : Core) → HoldsWords c → (let d : Core = record c { text_end = text_start } in HoldsWords d)
  bare-words c h = record { count = h.count; zero_register = h.zero_register; registers = h.registers; high = h.high; less = h.less; low_bytes = h.low_bytes; stack_bytes = h.stack_bytes }

  bare-same : (c d : Core) → SameCore (apart s) c d → (let a : Core = record c { text_end = text_start } in let b : Core = record d { text_end = text_start } in SameCore (apart s) a b)
  bare-same c d m = record { order = m.order; low = m.low; begin = m.begin; size = m.size; stack = m.stack }

  module _ (x y : Mach) (k : Width) (a v : ℕ) (near : Near s x y) where
    abbrev c0 : Core
    c0 = let z : Mach = without_text x in z.state.core

    abbrev d0 : Core
    d0 = let z : Mach = without_text y in z.state.core

    kx : KeepsSizes c0 (put k c0 a v)
    kx = put-sizes k c0 a v

    ky : KeepsSizes d0 (put k d0 a v)
    ky = put-sizes k d0 a v

    pub near-put : Near s (filled k a v (without_text x)) (filled k a v (without_text y))
    near-put = record {
      regs = λ q p. ap (λ z. slice_index z q) kx.regs ∙ (near.regs q p ∙ ap (λ z. slice_index z q) (sym ky.regs));
      high = kx.high ∙ (near.high ∙ sym ky.high);
      lower = kx.lower ∙ (near.lower ∙ sym ky.lower);
      memory = same-put (apart s) c0 d0 (bare-same x.state.core y.state.core near.memory) k a v;
      input = near.input;
      output = near.output;
      stack = ap (λ z. slice_index z 29) kx.regs ∙ near.stack;
      words = put-words k d0 a v (bare-words y.state.core near.words);
      laid = bare-laid (put k d0 a v) (put-laid k d0 a v near.laid);
      counted = ap length kx.regs ∙ near.counted;
      variables = near.variables;
    }

    -- where the bytes are no variable's
    pub held-put : ((n : ℕ) → n < bytes_of k → apart s (a + n) ≡ false) → (u i : ℕ) (o : Option ℕ) → is_variable s.f u ≡ true → stack_start ≤ place s u → Held s o u x y →
        Held s o u (filled k a v (without_text x)) (filled k a v (without_text y))
    held-put free u i (Some h) var high d = λ w z. ap (stored w) (ap (λ l. slice_index l h) ky.regs) ∙ d w z
    held-put free u i None var high d = λ w z. get-beside k w d0 a (place s u) v high (subst (λ m. (place s u + m ≤ a) ⊎ (a + bytes_of k ≤ place s u)) (sym z) (place-beside u a (bytes_of k) var (some-bytes k) (subst (λ m. 0 < m) z (some-bytes w)) free)) ∙ d w z

  -- Bytes of a variable's place are stored in the second

  module _ (x y : Mach) (k : Width) (u v : ℕ) (near : Near s x y) (var : is_variable s.f u ≡ true) (size : bytes_of k ≡ size_at s.f u) (high : stack_start ≤ place s u) where
    abbrev e0 : Core
    e0 = let z : Mach = without_text y in z.state.core

    kz : KeepsSizes e0 (put k e0 (place s u) v)
    kz = put-sizes k e0 (place s u) v

    pub near-place : (xs : List ℕ) (at : ℕ) → length xs ≡ length s.f.autos → (let z : Mach = without_text x in Near s (record z { vars = xs; at = at }) (filled k (place s u) v (without_text y)))
    near-place xs at count = record {
      regs = λ q p. near.regs q p ∙ ap (λ z. slice_index z q) (sym kz.regs);
      high = near.high ∙ sym kz.high;
      lower = near.lower ∙ sym kz.lower;
      memory = apart-put (apart s) (let z : Mach = without_text x in z.state.core) e0 (bare-same x.state.core y.state.core near.memory) k (place s u) v high (λ n l. place-apart s u n var (omega (arith, l, size)));
      input = near.input;
      output = near.output;
      stack = near.stack;
      words = put-words k e0 (place s u) v (bare-words y.state.core near.words);
      laid = bare-laid (put k e0 (place s u) v) (put-laid k e0 (place s u) v near.laid);
      counted = near.counted;
      variables = count;
    }

  -- A home is written in the second

  module _ (x y : Mach) (h w : ℕ) (near : Near s x y) (is_home : (9 ≤ h) × (h ≤ 20)) (words : (let z : Mach = written h w (without_text y) in HoldsWords z.state.core)) where
    pub near-home : (xs : List ℕ) (at : ℕ) → length xs ≡ length s.f.autos → (let z : Mach = without_text x in Near s (record z { vars = xs; at = at }) (written h w (without_text y)))
    near-home xs at count = record {
      regs = λ q p. near.regs q p ∙ sym (other-register y.state.core.regs h w q (λ e. home-not-plain h q is_home p (sym e)));
      high = near.high;
      lower = near.lower;
      memory = (let m = near.memory in record { order = m.order; low = m.low; begin = m.begin; size = m.size; stack = m.stack });
      input = near.input;
      output = near.output;
      stack = near.stack;
      words = words;
      laid = (let m = near.laid in record { text = m.text; gap = m.gap; data_and_bss = m.data_and_bss; above = m.above; stack_size = m.stack_size });
      counted = near.counted;
      variables = count;
    }
