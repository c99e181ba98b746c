-- Keeping composes: what follows code that follows code over the same automatics follows it too.
use Rattle.std.proofs.Common.{◌≡◌, ℕ, zero, suc, ◌+◌, Bool, true, false, List, length, refl, sym, ap, ◌∙◌, subst, arith}
use Rattle.std.proofs.lemmas.Bool.{true≢false}
use Rattle.p9_base.specs.Core.{reg, read_byte}
use Rattle.p9_base.specs.SystemCalls.{State, exit_text}
use Rattle.p9_abs.specs.Steps.{Mach, Step, Next, Turns, Calls, Returns, Exits, Undefined}
use Rattle.p9_abs.specs.Keeping.{SameMemory, Meet, Answers, Side, steps_of, Quiet, is_back, FollowsBy, Follows, nowhere}
use Rattle.p9_abs.specs.Laws.{KeepsCompose}

abbrev IsEvent : Step → Type 0
IsEvent (Next z) = ⊥
IsEvent (Turns taken z) = Unit {0}
IsEvent (Calls to z) = Unit {0}
IsEvent (Returns z) = Unit {0}
IsEvent (Exits z) = Unit {0}
IsEvent Undefined = Unit {0}

next-same : (a b : Mach) → Next a ≡ Next b → a ≡ b
next-same a b h = cc

turns-same : (d e : Bool) (a b : Mach) → Turns d a ≡ Turns e b → a ≡ b
turns-same d e a b h = cc

calls-same : (d e : ℕ) (a b : Mach) → Calls d a ≡ Calls e b → a ≡ b
calls-same d e a b h = cc

-- quiet steps end at one event
quiet-same : (s : Side) (j k : ℕ) (x y z : Mach) → Quiet s j x y → IsEvent (steps_of s y) → Quiet s k x z → IsEvent (steps_of s z) → y ≡ z
quiet-same s zero zero x y z h e g f = sym h ∙ g
quiet-same s zero (suc k) x y z h e g f = absurd (subst IsEvent (ap (steps_of s) (sym h) ∙ g.1) e)
quiet-same s (suc j) zero x y z h e g f = absurd (subst IsEvent (ap (steps_of s) (sym g) ∙ h.1) f)
quiet-same s (suc j) (suc k) x y z h e g f =
    let d : g.0 ≡ h.0 = next-same g.0 h.0 (sym g.1 ∙ h.1) in
    quiet-same s j k h.0 y z h.2 e (subst (λ a. Quiet s k a z) d g.2) f

turned : (s : Side) (taken : Bool) (y : Mach) (j k : ℕ) (p q p' q' : Mach) → Quiet s j y p → steps_of s p ≡ Turns taken q → Quiet s k y p' → steps_of s p' ≡ Turns taken q' → q ≡ q'
turned s taken y j k p q p' q' h e g f =
    turns-same taken taken q q'
    (sym e ∙ ap (steps_of s) (quiet-same s j k y p p' h (subst IsEvent (sym e) tt) g (subst IsEvent (sym f) tt)) ∙ f)

called : (s : Side) (to : ℕ) (y : Mach) (j k : ℕ) (p q p' q' : Mach) → Quiet s j y p → steps_of s p ≡ Calls to q → Quiet s k y p' → steps_of s p' ≡ Calls to q' → q ≡ q'
called s to y j k p q p' q' h e g f =
    calls-same to to q q'
    (sym e ∙ ap (steps_of s) (quiet-same s j k y p p' h (subst IsEvent (sym e) tt) g (subst IsEvent (sym f) tt)) ∙ f)

-- what follows a run follows it behind its quiet steps
quiet-follows : (apart : ℕ → Bool) (b c : Side) (j k : ℕ) (y p z : Mach) → Quiet b j y p → Follows apart b c (j + k) y z → Follows apart b c k p z
quiet-follows apart b c zero k y p z h f =
    let e : zero + k ≡ k = omega arith in
    subst (λ w. Follows apart b c k w z) h (subst (λ n. Follows apart b c n y z) e f)
quiet-follows apart b c (suc j) k y p z h f =
    let e : suc j + k ≡ suc (j + k) = omega arith in
    let g : Follows apart b c (suc (j + k)) y z = subst (λ n. Follows apart b c n y z) e f in
    quiet-follows apart b c j k h.0 p z h.2 (subst (λ s. FollowsBy apart c s (Follows apart b c (j + k)) y z) h.1 g)

same-through : (apart : ℕ → Bool) (x y z : State) → SameMemory nowhere x y → SameMemory apart y z → SameMemory apart x z
same-through apart x y z f g = record {
  bytes = λ a h. f.bytes a refl ∙ g.bytes a h;
  low = f.low ∙ g.low;
  stack = f.stack ∙ g.stack;
  order = f.order ∙ g.order;
  data_start = f.data_start ∙ g.data_start;
  input = f.input ∙ g.input;
  output = f.output ∙ g.output;
}

same-self : (x : State) → SameMemory nowhere x x
same-self x = record { bytes = λ a h. refl; low = refl; stack = refl; order = refl; data_start = refl; input = refl; output = refl }

meet-through : (apart : ℕ → Bool) (x y z : Mach) → Meet nowhere x y → Meet apart y z → Meet apart x z
meet-through apart x y z f g = record {
  result = f.result ∙ g.result;
  stack = f.stack ∙ g.stack;
  base = f.base ∙ g.base;
  memory = same-through apart x.state y.state z.state f.memory g.memory;
}

-- the answer in between: the first one's state with the variables of the second
between : Mach → Mach → Mach
between q u = record u { vars = q.vars; at = q.at }

answers-first : (apart : ℕ → Bool) (x y z u w : Mach) → Answers apart x z u w → Answers nowhere x y u (between y u)
unfolding between
answers-first apart x y z u w f = record {
  registers = refl;
  high = refl;
  lower = refl;
  stack = f.stack;
  base = f.base;
  memory = same-self u.state;
  words = (f.words.0, f.words.0);
  sizes = f.sizes;
  variables = (f.variables.0, refl);
  kept = λ a h. absurd (true≢false (sym h));
  on = (f.on.0, refl);
}

answers-second : (apart : ℕ → Bool) (x y z u w : Mach) → Meet nowhere x y → Answers apart x z u w → Answers apart y z (between y u) w
unfolding between
answers-second apart x y z u w m f = record {
  registers = f.registers;
  high = f.high;
  lower = f.lower;
  stack = f.stack ∙ m.stack;
  base = f.base ∙ m.base;
  memory = f.memory;
  words = f.words;
  sizes = record {
    order = f.sizes.order ∙ m.memory.order;
    data_start = f.sizes.data_start ∙ m.memory.data_start;
    low = f.sizes.low ∙ m.memory.low;
    stack = f.sizes.stack ∙ m.memory.stack;
  };
  variables = (refl, f.variables.1);
  kept = f.kept;
  on = (refl, f.on.1);
}

module _ (apart : ℕ → Bool) (a b c : Side) where
  -- the second code follows for any number of steps, and so does the third
  abbrev First : Mach → Mach → Type 0
  First x y = (n : ℕ) → Follows nowhere a b n x y

  abbrev Second : Mach → Mach → Type 0
  Second y z = (n : ℕ) → Follows apart b c n y z

  -- Turns

  first-turns : (taken : Bool) (u x y p q : Mach) (j : ℕ) → Quiet b j y p → steps_of b p ≡ Turns taken q
      → ((m : ℕ) → FollowsBy nowhere b (Turns taken u) (Follows nowhere a b m) x y) → First u q
  first-turns taken u x y p q j h e f m =
      subst (Follows nowhere a b m u) (turned b taken y (f m).0 j (f m).1 (f m).2 p q (f m).3 (f m).4 h e) (f m).6

  second-after : (s : Step) (y p z : Mach) (j : ℕ) → Quiet b j y p → steps_of b p ≡ s → Second y z → (m : ℕ) → FollowsBy apart c s (Follows apart b c m) p z
  second-after s y p z j h e g m =
      subst (λ t. FollowsBy apart c t (Follows apart b c m) p z) e (quiet-follows apart b c j (suc m) y p z h (g (j + suc m)))

  second-turns : (taken : Bool) (q p z r t : Mach) (j : ℕ) → Quiet c j z r → steps_of c r ≡ Turns taken t
      → ((m : ℕ) → FollowsBy apart c (Turns taken q) (Follows apart b c m) p z) → Second q t
  second-turns taken q p z r t j h e f m =
      subst (Follows apart b c m q) (turned c taken z (f m).0 j (f m).1 (f m).2 r t (f m).3 (f m).4 h e) (f m).6

  -- Calls

  first-calls : (to : ℕ) (u x y p q : Mach) (j : ℕ) → Quiet b j y p → steps_of b p ≡ Calls to q
      → ((m : ℕ) → FollowsBy nowhere b (Calls to u) (Follows nowhere a b m) x y)
      → (k l : Mach) → Answers nowhere u q k l → First k l
  first-calls to u x y p q j h e f k l ans m =
      let d : q ≡ (f m).2 = called b to y j (f m).0 p q (f m).1 (f m).2 h e (f m).3 (f m).4 in
      (f m).6 k l (subst (λ w. Answers nowhere u w k l) d ans)

  second-calls : (to : ℕ) (q p z r t : Mach) (j : ℕ) → Quiet c j z r → steps_of c r ≡ Calls to t
      → ((m : ℕ) → FollowsBy apart c (Calls to q) (Follows apart b c m) p z)
      → (k l : Mach) → Answers apart q t k l → Second k l
  second-calls to q p z r t j h e f k l ans m =
      let d : t ≡ (f m).2 = called c to z j (f m).0 r t (f m).1 (f m).2 h e (f m).3 (f m).4 in
      (f m).6 k l (subst (λ w. Answers apart q w k l) d ans)

  -- One step

  abbrev Through : ℕ → Type 0
  Through n = (x y z : Mach) → First x y → Second y z → Follows apart a c n x z

  one : (n : ℕ) → Through n → (s : Step) (x y z : Mach) → ((m : ℕ) → FollowsBy nowhere b s (Follows nowhere a b m) x y) → Second y z
      → FollowsBy apart c s (Follows apart a c n) x z
  one n on (Next u) x y z f g = on u y z f g
  one n on (Turns taken u) x y z f g =
      let h = f 0 in
      let after = second-after (Turns taken h.2) y h.1 z h.0 h.3 h.4 g in
      let k = after 0 in (
        k.0,
        k.1,
        k.2,
        k.3,
        k.4,
        (λ back. h.5 (k.5 back)),
        on u h.2 k.2 (first-turns taken u x y h.1 h.2 h.0 h.3 h.4 f) (second-turns taken h.2 h.1 z k.1 k.2 k.0 k.3 k.4 after),
      )
  one n on (Calls to u) x y z f g =
      let h = f 0 in
      let after = second-after (Calls to h.2) y h.1 z h.0 h.3 h.4 g in
      let k = after 0 in (
        k.0,
        k.1,
        k.2,
        k.3,
        k.4,
        meet-through apart u h.2 k.2 h.5 k.5,
        (λ v w ans. on v (between h.2 v) w
            (first-calls to u x y h.1 h.2 h.0 h.3 h.4 f v (between h.2 v) (answers-first apart u h.2 k.2 v w ans))
            (second-calls to h.2 h.1 z k.1 k.2 k.0 k.3 k.4 after (between h.2 v) w (answers-second apart u h.2 k.2 v w h.5 ans))),
      )
  one n on (Returns u) x y z f g =
      let h = f 0 in
      let k = second-after (Returns h.2) y h.1 z h.0 h.3 h.4 g 0 in
      (k.0, k.1, k.2, k.3, k.4, meet-through apart u h.2 k.2 h.5 k.5)
  one n on (Exits u) x y z f g =
      let h = f 0 in
      let k = second-after (Exits h.2) y h.1 z h.0 h.3 h.4 g 0 in
      (k.0, k.1, k.2, k.3, k.4, h.5 ∙ k.5, h.6 ∙ k.6)
  one n on Undefined x y z f g = tt

  through : (n : ℕ) → Through n
  through zero x y z f g = tt
  through (suc n) x y z f g = one n (through n) (steps_of a x) x y z (λ m. f (suc m)) g

pub keeps_compose : KeepsCompose
keeps_compose apart a b c x y z f g n = through apart a b c n x y z f g
