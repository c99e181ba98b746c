-- The law of carrying: what follows code that does what a play does, does it too.
use Rattle.std.proofs.Common.{◌≡◌, ◌≢◌, ◌≤◌, ◌<◌, ◌⊎◌, inl, inr, ℕ, zero, suc, ◌+◌, nat_lt, Bool, true, false, if◌then◌else◌, Option, Some, None, List, [], ◌∷◌, ◌++◌, length, slice_get, refl, sym, ap, ◌∙◌, subst, arith}
use Rattle.std.proofs.lemmas.Bool.{true≢false}
use Rattle.std.proofs.lemmas.Bool.Decides.{nat_tests}
use Rattle.p9_base.specs.Words.{IsWord}
use Rattle.p9_base.specs.Core.{stack_start, reg}
use Rattle.p9_base.specs.SystemCalls.{State}
use Rattle.p9_base.specs.Holding.{HoldsWords}
use Rattle.p9_abs.specs.declared.instructions.Abs.{Abs}
use Rattle.p9_abs.specs.declared.instructions.TextDef.{TextDef}
use Rattle.p9_abs.specs.declared.forms.Form.TheVariants as forms
use Rattle.p9_abs.specs.Validity.{writes_last, IsWritable}
use Rattle.p9_abs.specs.Automatics.{form_at}
use Rattle.p9_abs.specs.Steps.{Mach, Around, Step, Next, Turns, Calls, Returns, Exits, Undefined, step, without_text, at_instruction}
use Rattle.p9_abs.specs.Runs.{keeps, linked_to}
use Rattle.p9_abs.specs.Keeping.{SameMemory, SameSizes, Meet, Side, steps_of, Quiet, is_back, FollowsBy, Follows, nowhere}
use Rattle.p9_abs.specs.Keeping as keeping
use Rattle.p9_abs.specs.Laws.{IfMach, Holds, IsSilent}
use Rattle.p9_abs.proofs.StepLaws.{words_stay, silent_steps}
use Rattle.p9_abs.proofs.Fixed.{stack_stays, other-register}
use Rattle.p9_cmean.specs.Cells as c
use Rattle.p9_cmean.specs.Cells.{FunctionName, Object, Value}
use Rattle.p9_cmean.specs.Plays.{Call, Play, Done, Wrong, NoMeaning, Exit, Cut, Turn, Ask, Moved}
use Rattle.p9_sim.specs.Memory.{Map, Ground, StandsValue, Owner}
use Rattle.p9_sim.specs.Matching.{Lies, IsArgument, AtCall, Entry, entry_of, Leaves, Answers}
use Rattle.p9_sim.specs.Playing.{Branches, Count, IsPaid, after_plain, after_branch, after_call, after_turn, after_copy, Setting, step_in, Continues, Goes, after_return, Performs}
use Rattle.p9_carry.proofs.Ending.{EndingStays, ending-stays}
use Rattle.p9_carry.proofs.Alike.{bool-not, Alike, linked-alike, raised-alike, raised-count, match-alike, arguments-alike}

abbrev IsEvent : Step → Type 0
IsEvent (Next z) = ⊥
IsEvent (Turns taken z) = Unit {0}
IsEvent (Calls to z) = Unit {0}
IsEvent (Returns z) = Unit {0}
IsEvent (Exits z) = Unit {0}
IsEvent Undefined = Unit {0}

next-same : (a b : Mach) → Next a ≡ Next b → a ≡ b
next-same a b h = cc

turns-same : (d e : Bool) (a b : Mach) → Turns d a ≡ Turns e b → a ≡ b
turns-same d e a b h = cc

calls-same : (d e : ℕ) (a b : Mach) → Calls d a ≡ Calls e b → a ≡ b
calls-same d e a b h = cc

quiet-same : (s : Side) (j k : ℕ) (x y z : Mach) → Quiet s j x y → IsEvent (steps_of s y) → Quiet s k x z → IsEvent (steps_of s z) → y ≡ z
quiet-same s zero zero x y z h e g f = sym h ∙ g
quiet-same s zero (suc k) x y z h e g f = absurd (subst IsEvent (ap (steps_of s) (sym h) ∙ g.1) e)
quiet-same s (suc j) zero x y z h e g f = absurd (subst IsEvent (ap (steps_of s) (sym g) ∙ h.1) f)
quiet-same s (suc j) (suc k) x y z h e g f =
    let d : g.0 ≡ h.0 = next-same g.0 h.0 (sym g.1 ∙ h.1) in
    quiet-same s j k h.0 y z h.2 e (subst (λ a. Quiet s k a z) d g.2) f

pub record EvenCount (d e : Count) : Type 0 where
  pub turns : e.turns ≡ d.turns
  pub steps : e.steps ≡ d.steps
  pub allowed : e.allowed ≡ d.allowed
  pub backs : e.backs ≤ d.backs

paid-even : (d e : Count) → EvenCount d e → IsPaid d → IsPaid e
paid-even d e ev p =
    let t = ev.turns in let s = ev.steps in let al = ev.allowed in let bk = ev.backs in let en = p.steps in let fw = p.backs in
    record { steps = omega (arith, t, s, en); backs = omega (arith, al, bk, fw) }

backs-less : (p q : Bool) → (p ≡ true → q ≡ true) → (if p then 1 else 0) ≤ (if q then 1 else 0)
backs-less true true h = omega arith
backs-less true false h = absurd (true≢false (sym (h refl)))
backs-less false true h = omega arith
backs-less false false h = omega arith

-- steps without a SYSCALL

silent-next : (s : State) (z : Mach) → IsSilent s (Next z) → (z.state.out ≡ s.out) × (z.state.left ≡ s.left)
silent-next s z h = h

-- a byte that a live object owns after a call was one's before it
owner-before : (g : Ground) (loose : ℕ → Bool) (from : Entry) (u : Map) (t : c.State) (w : State) (v : Value) (byte : ℕ) → Leaves g loose from u t w v → length from.map ≡ length from.objects
    → Owner u t.objects byte → Owner from.map from.objects byte
owner-before g loose from u t w v byte l count o = by (split o.number (length from.objects))
  where
    split : (i j : ℕ) → (i < j) ⊎ (j ≤ i)
    split i j = go (nat_lt i j) refl
      where
        go : (z : Bool) → nat_lt i j ≡ z → (i < j) ⊎ (j ≤ i)
        go true e = inl (grind (arith, nat_tests))
        go false e = inr (grind (arith, nat_tests))

    front : (m more : Map) (i : ℕ) → i < length m → slice_get (m ++ more) i ≡ slice_get m i
    front [] more i h = absurd (omega (arith, h))
    front (x ∷ m) more zero h = refl
    front (x ∷ m) more (suc i) h = front m more i (omega (arith, h))

    some-same : (a b : Object) → Some a ≡ Some b → a ≡ b
    some-same a b e = cc

    old : (a : Object) → slice_get from.objects o.number ≡ Some a → o.number < length from.map → Owner from.map from.objects byte
    old a e i =
        let q = l.objects.earlier o.number a e in
        let same : q.0 ≡ o.object = some-same q.0 o.object (sym q.1 ∙ o.is_object) in
        let size : length o.object.cells ≡ length a.cells = ap (λ z. length z.cells) (sym same) ∙ q.2 in
        let inside = o.inside in
        record {
          number = o.number;
          object = a;
          start = o.start;
          k = o.k;
          is_object = e;
          alive = sym q.3 ∙ (ap (λ z. z.is_alive) same ∙ o.alive);
          placed = sym (front from.map l.addresses.more o.number i) ∙ (ap (λ z. slice_get z o.number) (sym l.addresses.is) ∙ o.placed);
          inside = omega (arith, size, inside);
          is = o.is;
        }

    find : (r : Option Object) → slice_get from.objects o.number ≡ r → o.number < length from.objects → Owner from.map from.objects byte
    find (Some a) e i = old a e (omega (arith, i, count))
    find None e i = absurd (none-past from.objects o.number e i)
      where
        none-past : (xs : List Object) (n : ℕ) → slice_get xs n ≡ None → n < length xs → ⊥
        none-past [] n h i = omega (arith, i)
        none-past (x ∷ xs) zero h i = let z : Some x ≡ None = h in cc
        none-past (x ∷ xs) (suc n) h i = none-past xs n h (omega (arith, i))

    by : (o.number < length from.objects) ⊎ (length from.objects ≤ o.number) → Owner from.map from.objects byte
    by (inl i) = find (slice_get from.objects o.number) refl i
    by (inr i) = absurd (let z : true ≡ false = sym o.alive ∙ l.objects.later o.number o.object i o.is_object in true≢false z)

past-end : (around : Around) (code : List Abs) (x : Mach) → slice_get code x.at ≡ None → step around code x ≡ Undefined
unfolding step
past-end around code x h = ap (λ o. at_instruction around o (without_text x)) h

module _ (base : Setting) (around_a around_b : Around) (def_a def_b : TextDef) (loose_a loose_b shut_a shut_b apart : ℕ → Bool) (sp : ℕ) where
  abbrev a : Setting
  a = record base { counting = Branches; around = around_a; def = def_a; loose = loose_a; shut = shut_a }

  abbrev b : Setting
  b = record base { counting = Branches; around = around_b; def = def_b; loose = loose_b; shut = shut_b }

  abbrev side_a : Side
  side_a = record { around = around_a; code = def_a.code }

  abbrev side_b : Side
  side_b = record { around = around_b; code = def_b.code }

  -- how the two codes stand in one call
  pub record Suits : Type 0 where
    -- the second may put live objects, and arguments, where the first may
    pub shut : (n : ℕ) → shut_a n ≡ false → shut_b n ≡ false
    pub banned : (n : ℕ) → around_a.banned n ≡ false → around_b.banned n ≡ false
    pub above : (n : ℕ) → around_b.banned n ≡ true → sp ≤ n
    pub loose : (n : ℕ) → loose_a n ≡ false → loose_b n ≡ false
    -- the bytes that are apart are in the own frame, where the first touches nothing
    pub hidden : (n : ℕ) → apart n ≡ true → shut_a n ≡ true
    pub untouched : (n : ℕ) → apart n ≡ true → around_a.banned n ≡ true
    pub loosened : (n : ℕ) → apart n ≡ true → loose_a n ≡ true
    pub seen : (n : ℕ) → apart n ≡ true → loose_b n ≡ false
    pub inside : (n : ℕ) → apart n ≡ true → (stack_start ≤ n) × (sp ≤ n) × (n < reg base.entry.state.core 29)
    pub same_keeps : keeps def_a ≡ keeps def_b
    pub same_frame : def_a.frame ≡ def_b.frame
    pub silent_a : (i : ℕ) → form_at def_a.code i ≢ Some forms.SystemCall
    pub silent_b : (i : ℕ) → form_at def_b.code i ≢ Some forms.SystemCall
    pub destinations : (i : ℕ) (ins : Abs) → slice_get def_a.code i ≡ Some ins → writes_last ins.op ≡ true → IsWritable ins.operands

  module _ (suits : Suits) where
    -- where the second code stands, while the first stands at x
    pub record Sync (x y : Mach) : Type 0 where
      pub out : y.state.out ≡ x.state.out
      pub left : y.state.left ≡ x.state.left
      pub ending : y.state.core.ending ≡ x.state.core.ending
      pub stack : reg x.state.core 29 ≡ sp
      pub holds : Holds y
      pub follows : (n : ℕ) → Follows apart side_a side_b n x y

    holds-step : (x : Mach) (s : Step) → steps_of side_b x ≡ s → Holds x → IfMach Holds s
    holds-step x s e h = subst (IfMach Holds) e (words_stay around_b def_b.code x h)

    silent-a : (x : Mach) (s : Step) → steps_of side_a x ≡ s → IsSilent x.state s
    silent-a x s e = subst (IsSilent x.state) e (silent_steps around_a def_a.code x (suits.silent_a x.at))

    silent-b : (x : Mach) (s : Step) → steps_of side_b x ≡ s → IsSilent x.state s
    silent-b x s e = subst (IsSilent x.state) e (silent_steps around_b def_b.code x (suits.silent_b x.at))

    ending-a : (x : Mach) (s : Step) → steps_of side_a x ≡ s → EndingStays x.state s
    ending-a x s e = subst (EndingStays x.state) e (ending-stays around_a def_a.code x (suits.silent_a x.at))

    ending-b : (x : Mach) (s : Step) → steps_of side_b x ≡ s → EndingStays x.state s
    ending-b x s e = subst (EndingStays x.state) e (ending-stays around_b def_b.code x (suits.silent_b x.at))

    quiet-ending : (j : ℕ) (x y : Mach) → Quiet side_b j x y → y.state.core.ending ≡ x.state.core.ending
    quiet-ending zero x y q = ap (λ z. z.state.core.ending) (sym q)
    quiet-ending (suc j) x y q = quiet-ending j q.0 y q.2 ∙ ending-b x (Next q.0) q.1

    quiet-even : (j : ℕ) (x y : Mach) → Quiet side_b j x y → (y.state.out ≡ x.state.out) × (y.state.left ≡ x.state.left)
    quiet-even zero x y q = (ap (λ z. z.state.out) (sym q), ap (λ z. z.state.left) (sym q))
    quiet-even (suc j) x y q =
        let r = quiet-even j q.0 y q.2 in let t = silent-b x (Next q.0) q.1 in
        (r.0 ∙ t.0, r.1 ∙ t.1)

    quiet-holds : (j : ℕ) (x y : Mach) → Quiet side_b j x y → Holds x → Holds y
    quiet-holds zero x y q h = subst Holds q h
    quiet-holds (suc j) x y q h = quiet-holds j q.0 y q.2 (holds-step x (Next q.0) q.1 h)

    -- R29 is as at entry
    abbrev KeepsStack : Mach → Step → Type 0
    KeepsStack x s = IfMach (λ y. reg y.state.core 29 ≡ reg x.state.core 29) s

    stack-step : (x : Mach) (s : Step) → steps_of side_a x ≡ s → KeepsStack x s
    stack-step x s e = subst (KeepsStack x) e (go (slice_get def_a.code x.at) refl)
      where
        weaken : (s : Step) → IfMach (λ y. (reg y.state.core 29 ≡ reg x.state.core 29) × (reg y.state.core 30 ≡ reg x.state.core 30) × (reg y.state.core 31 ≡ reg x.state.core 31)) s → KeepsStack x s
        weaken (Next y) h = h.0
        weaken (Turns taken y) h = h.0
        weaken (Calls to y) h = h.0
        weaken (Returns y) h = h.0
        weaken (Exits y) h = h.0
        weaken Undefined h = tt

        go : (o : Option Abs) → slice_get def_a.code x.at ≡ o → KeepsStack x (steps_of side_a x)
        go None f = subst (KeepsStack x) (sym (past-end around_a def_a.code x f)) tt
        go (Some ins) f = weaken (steps_of side_a x) (stack_stays around_a def_a.code x ins f (suits.destinations x.at ins f))

    -- steps of the second code

    goes-quiet : (j k : ℕ) (x y z : Mach) (d e : Count) → Quiet side_b j x y → Goes b k y d z e → Goes b (j + k) x d z e
    goes-quiet zero k x y z d e h g = let q : k ≡ 0 + k = omega arith in subst (λ i. Goes b i x d z e) q (subst (λ w. Goes b k w d z e) (sym h) g)
    goes-quiet (suc j) k x y z d e h g =
        let q : suc (j + k) ≡ suc j + k = omega arith in
        let rest : Goes b (j + k) h.0 d z e = goes-quiet j k h.0 y z d e h.2 g in
        subst (λ i. Goes b i x d z e) q (subst (λ s. Continues b s x.at d (λ w f. Goes b (j + k) w f z e)) (sym h.1) rest)

    goes-by : (s : Step) (j k at : ℕ) (y z : Mach) (d e f : Count) → ((w : Mach) (h : Count) → Goes b j w h y e → Goes b (j + k) w h z f)
        → Continues b s at d (λ w h. Goes b j w h y e) → Continues b s at d (λ w h. Goes b (j + k) w h z f)
    goes-by (Next w) j k at y z d e f r h = r w (after_plain Branches d) h
    goes-by (Turns taken w) j k at y z d e f r h = r w (after_branch taken at w.at d) h
    goes-by (Calls to w) j k at y z d e f r h = h
    goes-by (Returns w) j k at y z d e f r h = h
    goes-by (Exits w) j k at y z d e f r h = h
    goes-by Undefined j k at y z d e f r h = h

    goes-goes : (j k : ℕ) (x y z : Mach) (d e f : Count) → Goes b j x d y e → Goes b k y e z f → Goes b (j + k) x d z f
    goes-goes zero k x y z d e f h g =
        let q : k ≡ 0 + k = omega arith in
        subst (λ i. Goes b i x d z f) q (subst (λ w. Goes b k w d z f) (sym h.0) (subst (λ n. Goes b k y n z f) (sym h.1) g))
    goes-goes (suc j) k x y z d e f h g =
        let q : suc (j + k) ≡ suc j + k = omega arith in
        subst (λ i. Goes b i x d z f) q (goes-by (step_in b x) j k x.at y z d e f (λ w n r. goes-goes j k w y z n e f r g) h)

    goes-on : (j : ℕ) (u v : Mach) (e : Count) → Quiet side_b j u v → Goes b j u e v e
    goes-on j u v e q = let z : j + 0 ≡ j = omega arith in subst (λ i. Goes b i u e v e) z (goes-quiet j 0 u v v e e q (refl, refl))

    pub record Kept (x1 : Mach) (e : Count) (y : Mach) (d : Count) : Type 0 where
      pub to : Mach
      pub steps : ℕ
      pub count : Count
      pub goes : Goes b steps y d to count
      pub even : EvenCount e count
      pub sync : Sync x1 to

    goes-kept : (j : ℕ) (x x1 : Mach) (d e : Count) (y : Mach) (d' : Count) → Goes a j x d x1 e → EvenCount d d' → Sync x y → Kept x1 e y d'
    goes-kept zero x x1 d e y d' g ev sy =
        subst (λ w. Kept w e y d') g.0 (subst (λ n. Kept x n y d') g.1 (record { to = y; steps = 0; count = d'; goes = (refl, refl); even = ev; sync = sy }))
    goes-kept (suc j) x x1 d e y d' g ev sy =
        by (steps_of side_a x) refl g (λ n. sy.follows (suc n)) (λ z n y2 m g2 ev2 sy2. goes-kept j z x1 n e y2 m g2 ev2 sy2)
      where
        by : (s : Step) → steps_of side_a x ≡ s → Continues a s x.at d (λ z h. Goes a j z h x1 e) → ((n : ℕ) → FollowsBy apart side_b s (Follows apart side_a side_b n) x y)
            → ((z : Mach) (n : Count) (y2 : Mach) (m : Count) → Goes a j z n x1 e → EvenCount n m → Sync z y2 → Kept x1 e y2 m) → Kept x1 e y d'
        by (Next z) h g' f rec =
            let si = silent-a x (Next z) h in
            rec z d y d' g' ev (record { out = sy.out ∙ sym si.0; left = sy.left ∙ sym si.1; ending = sy.ending ∙ sym (ending-a x (Next z) h); stack = stack-step x (Next z) h ∙ sy.stack; holds = sy.holds; follows = f })
        by (Turns taken z) h g' f rec =
            let w = f 0 in
            let same : (n : ℕ) → (f n).2 ≡ w.2 = λ n. turns-same taken taken (f n).2 w.2 (sym (f n).4
            ∙ (ap (steps_of side_b) (quiet-same side_b (f n).0 w.0 y (f n).1 w.1 (f n).3 (subst IsEvent (sym (f n).4) tt) w.3 (subst IsEvent (sym w.4) tt)) ∙ w.4)) in
            let si = silent-a x (Turns taken z) h in
            let qe = quiet-even w.0 y w.1 w.3 in
            let sb = silent-b w.1 (Turns taken w.2) w.4 in
            let m : Count = after_branch taken w.1.at w.2.at d' in
            let fewer = backs-less (is_back taken w.1.at w.2.at) (is_back taken x.at z.at) w.5 in
            let t = ev.turns in let s = ev.steps in let al = ev.allowed in let bk = ev.backs in
            let r = rec z (after_branch taken x.at z.at d) w.2 m g' (record { turns = t; steps = omega (arith, s); allowed = al; backs = omega (arith, bk, fewer) })
            (record {
              out = sb.0 ∙ (qe.0 ∙ (sy.out ∙ sym si.0));
              left = sb.1 ∙ (qe.1 ∙ (sy.left ∙ sym si.1));
              ending = ending-b w.1 (Turns taken w.2) w.4 ∙ (quiet-ending w.0 y w.1 w.3 ∙ (sy.ending ∙ sym (ending-a x (Turns taken z) h)));
              stack = stack-step x (Turns taken z) h ∙ sy.stack;
              holds = holds-step w.1 (Turns taken w.2) w.4 (quiet-holds w.0 y w.1 w.3 sy.holds);
              follows = λ n. subst (Follows apart side_a side_b n z) (same n) (f n).6;
            }) in
            let one : Goes b 1 w.1 d' w.2 m = subst (λ q. Continues b q w.1.at d' (λ u n. Goes b 0 u n w.2 m)) (sym w.4) (refl, refl) in
            record {
              to = r.to;
              steps = (w.0 + 1) + r.steps;
              count = r.count;
              goes = goes-goes (w.0 + 1) r.steps y w.2 r.to d' m r.count (goes-quiet w.0 1 y w.1 w.2 d' m w.3 one) r.goes;
              even = r.even;
              sync = r.sync;
            }
        by (Calls to z) h g' f rec = absurd g'
        by (Returns z) h g' f rec = absurd g'
        by (Exits z) h g' f rec = absurd g'
        by Undefined h g' f rec = absurd g'

    -- what the two settings see of each other

    alike-of : (u v : Mach) → Meet apart u v → HoldsWords v.state.core → v.state.core.ending ≡ u.state.core.ending → Alike apart u.state v.state
    alike-of u v m words ending = record { result = m.result; stack = m.stack; base = m.base; memory = m.memory; words = words; ending = ending }

    -- a byte that isn't shut is not apart
    not-apart : (n : ℕ) → shut_a n ≡ false → apart n ≡ false
    not-apart n h = bool-not (apart n) (λ e. true≢false (sym (suits.hidden n e) ∙ h))

    call-alike : (m : Map) (call : Call) (s : c.State) (x y : State) → AtCall base.placing around_a.banned shut_a base.active m call s x → Alike apart x y → reg x.core 29 ≡ sp
        → AtCall base.placing around_b.banned shut_b base.active m call s y
    call-alike m call s x y h k stack =
        let st = k.stack in let floor = h.matched.floor in let deep = h.matched.not_deep in
        record {
          matched = match-alike base.placing shut_a shut_b apart base.active m s x y (λ n w. (suits.shut n (h.matched.free n w), not-apart n (h.matched.free n w))) k h.matched;
          arguments = arguments-alike base.placing apart m call.arguments x y k (omega (arith, floor, deep))
              (λ n i. bool-not (apart n) (λ e. true≢false (sym (suits.untouched n e) ∙ h.allowed n i))) h.arguments;
          in_stack = λ n i. h.in_stack n (back n i);
          allowed = λ n i. suits.banned n (h.allowed n (back n i));
          above = λ n e. let l = suits.above n e in omega (arith, l, stack, st);
          unowned = λ n i. h.unowned n (back n i);
        }
      where
        back : (n : ℕ) → IsArgument y.core (length call.arguments) n → IsArgument x.core (length call.arguments) n
        back n i = let st = k.stack in let p = i.0 in let q = i.1 in (omega (arith, p, st), omega (arith, q, st))

    -- an answer to the second is one to the first
    answer-back : (m u : Map) (call : Call) (s t : c.State) (x y w : State) (v : Value) → AtCall base.placing around_a.banned shut_a base.active m call s x → Alike apart x y
        → Answers base.placing loose_b shut_b base.active (entry_of m s call y) u t w v → Answers base.placing loose_a shut_a base.active (entry_of m s call x) u t w v
    answer-back m u call s t x y w v at k r =
        let l = r.leaves in let q = r.matched in
        record {
          matched = record {
            count = q.count;
            statics = q.statics;
            fourfold = q.fourfold;
            cells = q.cells;
            lie = q.lie;
            disjoint = q.disjoint;
            free = λ n o. at.matched.free n (owner-before base.placing loose_b (entry_of m s call y) u t w v n l at.matched.count o);
            output = q.output;
            input = q.input;
            base = q.base;
            aligned = q.aligned;
            top = q.top;
            floor = q.floor;
            not_deep = q.not_deep;
            words = q.words;
            bytes = q.bytes;
            laid = q.laid;
            data_start = q.data_start;
            behind = q.behind;
            gap = q.gap;
            order = q.order;
            running = q.running;
          };
          leaves = record {
            addresses = l.addresses;
            hidden = l.hidden;
            objects = l.objects;
            result = l.result;
            stack = l.stack ∙ sym k.stack;
            sizes = record {
              order = l.sizes.order ∙ sym k.memory.order;
              data_start = l.sizes.data_start ∙ sym k.memory.data_start;
              low = l.sizes.low ∙ sym k.memory.low;
              stack = l.sizes.stack ∙ sym k.memory.stack;
            };
            memory = λ n free where_ owner words.
                l.memory n (suits.loose n free) (over n where_) owner (λ i. words (let st = k.stack in let p = i.0 in let z = i.1 in (omega (arith, p, st), omega (arith, z, st))))
                ∙ sym (k.memory.bytes n (bool-not (apart n) (λ e. true≢false (sym (suits.loosened n e) ∙ free))));
          };
        }
      where
        over : (n : ℕ) → (n < stack_start) ⊎ (reg x.core 29 ≤ n) → (n < stack_start) ⊎ (reg y.core 29 ≤ n)
        over n (inl z) = inl z
        over n (inr z) = let st = k.stack in inr (omega (arith, z, st))

    -- both go on from one answer
    answers-of : (m n : Map) (call : Call) (s t : c.State) (to : ℕ) (u v : Mach) (w : State) (value : Value)
        → AtCall base.placing around_a.banned shut_a base.active m call s (linked_to to u.state) → Meet apart u v → reg u.state.core 29 ≡ sp
        → Answers base.placing loose_b shut_b base.active (entry_of m s call (linked_to to v.state)) n t w value
        → keeping.Answers apart u v (record u { state = w }) (record v { state = w })
    answers-of m n call s t to u v w value at meet stack r =
        let lu : (let z : State = linked_to to u.state in reg z.core 29 ≡ reg u.state.core 29) = other-register u.state.core.regs 31 to 29 (λ h. omega (arith, h)) in
        let lv : (let z : State = linked_to to v.state in reg z.core 29 ≡ reg v.state.core 29) = other-register v.state.core.regs 31 to 29 (λ h. omega (arith, h)) in
        let mv = meet.stack in
        record {
          registers = refl;
          high = refl;
          lower = refl;
          stack = r.leaves.stack ∙ (lv ∙ sym meet.stack);
          base = r.matched.base ∙ (sym at.matched.base ∙ other-register u.state.core.regs 31 to 30 (λ h. omega (arith, h)));
          memory = record { bytes = λ i e. refl; low = refl; stack = refl; order = refl; data_start = refl; input = refl; output = refl };
          words = (r.matched.words, r.matched.words);
          sizes = record {
            order = r.leaves.sizes.order ∙ sym meet.memory.order;
            data_start = r.leaves.sizes.data_start ∙ sym meet.memory.data_start;
            low = r.leaves.sizes.low ∙ sym meet.memory.low;
            stack = r.leaves.sizes.stack ∙ sym meet.memory.stack;
          };
          variables = (refl, refl);
          kept = λ i e. r.leaves.memory i (suits.seen i e) (inr (let in_frame = (suits.inside i e).1 in omega (arith, in_frame, lv, mv, stack)))
              (λ o. true≢false (sym (suits.hidden i e) ∙ at.matched.free i o))
              (λ a. true≢false (sym (suits.untouched i e) ∙ at.allowed i (let p = a.0 in let q = a.1 in (omega (arith, p, lv, lu, mv), omega (arith, q, lv, lu, mv)))));
          on = (refl, refl);
        }

    -- at the end
    done-alike : (n : Map) (s : c.State) (x y : State) (v : Value) → Answers base.placing nowhere base.outer_shut base.outer_active base.entry n s x v → Alike apart x y
        → Answers base.placing nowhere base.outer_shut base.outer_active base.entry n s y v
    done-alike n s x y v r k =
        let l = r.leaves in
        record {
          matched = match-alike base.placing base.outer_shut base.outer_shut apart base.outer_active n s x y (λ i w. (r.matched.free i w, away i (r.matched.lie i w))) k r.matched;
          leaves = record {
            addresses = l.addresses;
            hidden = l.hidden;
            objects = l.objects;
            result = subst (λ z. StandsValue base.placing n v z) k.result l.result;
            stack = sym k.stack ∙ l.stack;
            sizes = record {
              order = sym k.memory.order ∙ l.sizes.order;
              data_start = sym k.memory.data_start ∙ l.sizes.data_start;
              low = sym k.memory.low ∙ l.sizes.low;
              stack = sym k.memory.stack ∙ l.sizes.stack;
            };
            memory = λ i free where_ owner words. sym (k.memory.bytes i (outside i where_)) ∙ l.memory i free where_ owner words;
          };
        }
      where
        outside : (i : ℕ) → (i < stack_start) ⊎ (reg base.entry.state.core 29 ≤ i) → apart i ≡ false
        outside i (inl z) = bool-not (apart i) (λ e. let q = (suits.inside i e).0 in omega (arith, z, q))
        outside i (inr z) = bool-not (apart i) (λ e. let q = (suits.inside i e).2 in omega (arith, z, q))

        away : (i : ℕ) → Lies x.core i → apart i ≡ false
        away i (inl z) = let z1 = z.1 in let u = r.matched.laid.above in outside i (inl (omega (arith, z1, u)))
        away i (inr z) = let z0 = z.0 in let st = r.leaves.stack in outside i (inr (omega (arith, z0, st)))

    pub carry : (p : Play Value) (m : Map) (d d' : Count) (x y : Mach) → Performs a p m d x → EvenCount d d' → Sync x y → Performs b p m d' y
    carry (Done v s) m d d' x y h ev sy =
        let r = h.0 in let u = h.1 in
        let k = goes-kept r.steps x r.to d r.count y d' r.goes ev sy in
        let w = subst (λ t. FollowsBy apart side_b t (Follows apart side_a side_b 0) r.to k.to) h.2 (k.sync.follows 1) in
        let holds : Holds w.2 = holds-step w.1 (Returns w.2) w.4 (quiet-holds w.0 k.to w.1 w.3 k.sync.holds) in (
          record { steps = k.steps + w.0; to = w.1; count = k.count; goes = goes-goes k.steps w.0 y k.to w.1 d' k.count k.count k.goes (goes-on w.0 k.to w.1 k.count w.3) },
          w.2,
          w.4,
          paid-even r.count k.count k.even h.3,
          h.4,
          λ to word. (let ans = h.5 to word in
              let count = ans.matched.words.count in
              let raised_is = raised-count def_a (linked_to to u.state) in
              done-alike h.4 s (after_return a to u) (after_return b to w.2) v ans
              (raised-alike def_a def_b apart (linked_to to u.state) (linked_to to w.2.state) suits.same_keeps suits.same_frame (sym raised_is ∙ count)
              (linked-alike apart u.state w.2.state to word (alike-of u w.2 w.5 holds.words
              (ending-b w.1 (Returns w.2) w.4 ∙ (quiet-ending w.0 k.to w.1 w.3 ∙ (k.sync.ending ∙ sym (ending-a r.to (Returns u) h.2)))))))),
        )
    carry (Wrong why place s) m d d' x y h ev sy = tt
    carry (NoMeaning place s) m d d' x y h ev sy = tt
    carry (Exit text s) m d d' x y h ev sy = absurd (silent-a h.0.to (Exits h.1) h.2)
    carry (Cut s) m d d' x y h ev sy = tt
    carry (Turn s p) m d d' x y h ev sy =
        let r = h.0 in
        let k = goes-kept r.steps x r.to d r.count y d' r.goes ev sy in
        let t = k.even.turns in let st = k.even.steps in let al = k.even.allowed in let bk = k.even.backs in (
          record { steps = k.steps; to = k.to; count = k.count; goes = k.goes },
          paid-even r.count k.count k.even h.1,
          (k.sync.out ∙ h.2.0, k.sync.left ∙ h.2.1),
          carry p m (after_turn r.count) (after_turn k.count) r.to k.to h.3 (record { turns = omega (arith, t); steps = st; allowed = omega (arith, al); backs = bk }) k.sync,
        )
    carry (Moved n p) m d d' x y h ev sy =
        let al = ev.allowed in
        carry p m (after_copy n d) (after_copy n d') x y h (record { turns = ev.turns; steps = ev.steps; allowed = omega (arith, al); backs = ev.backs }) sy
    carry (Ask call s q) m d d' x y h ev sy =
        let r = h.0 in let u = h.1 in
        let to_call : ℕ = base.placing.function call.function in
        let k = goes-kept r.steps x r.to d r.count y d' r.goes ev sy in
        let w : (n : ℕ) → FollowsBy apart side_b (Calls to_call u) (Follows apart side_a side_b n) r.to k.to =
        λ n. subst (λ t. FollowsBy apart side_b t (Follows apart side_a side_b n) r.to k.to) h.2 (k.sync.follows (suc n)) in
        let z = w 0 in
        let same : (n : ℕ) → (w n).2 ≡ z.2 = λ n. calls-same to_call to_call (w n).2 z.2 (sym (w n).4
        ∙ (ap (steps_of side_b) (quiet-same side_b (w n).0 z.0 k.to (w n).1 z.1 (w n).3 (subst IsEvent (sym (w n).4) tt) z.3 (subst IsEvent (sym z.4) tt)) ∙ z.4)) in
        let holds : Holds z.2 = holds-step z.1 (Calls to_call z.2) z.4 (quiet-holds z.0 k.to z.1 z.3 k.sync.holds) in
        let meet : Meet apart u z.2 = z.5 in
        let stack : reg u.state.core 29 ≡ sp = stack-step r.to (Calls to_call u) h.2 ∙ k.sync.stack in
        let linked : (to : ℕ) → IsWord to → Alike apart (linked_to to u.state) (linked_to to z.2.state) = λ to word. linked-alike apart u.state z.2.state to word (alike-of u z.2 meet holds.words
        (ending-b z.1 (Calls to_call z.2) z.4 ∙ (quiet-ending z.0 k.to z.1 z.3 ∙ (k.sync.ending ∙ sym (ending-a r.to (Calls to_call u) h.2))))) in
        let st = k.even.steps in (
          record { steps = k.steps + z.0; to = z.1; count = k.count; goes = goes-goes k.steps z.0 y k.to z.1 d' k.count k.count k.goes (goes-on z.0 k.to z.1 k.count z.3) },
          z.2,
          z.4,
          paid-even r.count k.count k.even h.3,
          h.4,
          h.5,
          (λ to word. call-alike h.4 call s (linked_to to u.state) (linked_to to z.2.state) (h.6 to word) (linked to word) (other-register u.state.core.regs 31 to 29 (λ e. omega (arith, e)) ∙ stack)),
          λ to word v t n c ans.
              (let both : keeping.Answers apart u z.2 (record u { state = c }) (record z.2 { state = c }) = answers-of h.4 n call s t to u z.2 c v (h.6 to word) meet stack ans in
              carry (q v t) n (after_call r.count) (after_call k.count) (record u { state = c }) (record z.2 { state = c })
              (h.7 to word v t n c (answer-back h.4 n call s t (linked_to to u.state) (linked_to to z.2.state) c v (h.6 to word) (linked to word) ans))
              (record { turns = k.even.turns; steps = omega (arith, st); allowed = k.even.allowed; backs = k.even.backs })
              (record {
                out = refl;
                left = refl;
                ending = refl;
                stack = both.stack ∙ stack;
                holds = record { words = ans.matched.words; input = ans.matched.bytes; variables = holds.variables };
                follows = λ i. subst (λ g. Follows apart side_a side_b i (record u { state = c }) (record g { state = c })) (same i)
                    ((w i).6 (record u { state = c }) (record (w i).2 { state = c }) (subst (λ g. keeping.Answers apart u g (record u { state = c }) (record g { state = c })) (sym (same i)) both));
              })),
        )
