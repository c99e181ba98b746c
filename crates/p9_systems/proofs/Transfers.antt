-- The code of `read` and `write` does what these do.
use Rattle.std.proofs.Common.{◌≡◌, ◌≢◌, ◌≤◌, ◌<◌, ◌⊎◌, inl, inr, ℕ, ◌+◌, ◌-◌, ◌^◌, nat_lt, Bool, true, false, if◌then◌else◌, Option, Some, None, List, [], length, slice_get, slice_index, refl, sym, ap, ◌∙◌, subst, arith}
use Rattle.std.specs.Prelude.{unwrap_or}
use Rattle.std.proofs.lemmas.Bool.{true≢false}
use Rattle.std.proofs.lemmas.Bool.Decides.{nat_tests}
use Rattle.std.proofs.lemmas.List.{get_or-set_same}
use Rattle.p9_base.specs.declared.halt.Asked.{Asked}
use Rattle.p9_base.specs.declared.halt.Asked.TheVariants as asks
use Rattle.p9_base.specs.Words.{IsWord}
use Rattle.p9_base.specs.Core.{text_start, reg, with_reg, read_byte}
use Rattle.p9_base.specs.SystemCalls.{State, asked, called}
use Rattle.p9_base.specs.Holding.{AreBytes, KeepsText}
use Rattle.p9_base.proofs.Holding.{HoldsAll, CountFits, with_register-words, called-words, asked-count}
use Rattle.p9_base.proofs.Kept.{RoomFits, called-keeps, asked-room}
use Rattle.p9_abs.specs.BuiltIn.{system_code}
use Rattle.p9_abs.specs.Steps.{Mach, Around, Next, Undefined, step, room_free, asks_system, ended, without_text}
use Rattle.p9_abs.proofs.Fixed.{other-register}
use Rattle.p9_cmean.specs.Cells as c
use Rattle.p9_cmean.specs.Cells.{Pointer, Into, ToFunction, Cell, Object, Value, Word, Address, Missing}
use Rattle.p9_cmean.specs.Plays.{Call, Done}
use Rattle.p9_cmean.specs.Access.{object_at, dead_object}
use Rattle.p9_cmean.specs.SystemCalls.{SystemCall, minus_one}
use Rattle.p9_sim.specs.Memory.{Map, Ground, Owner}
use Rattle.p9_sim.specs.Matching.{Match, IsArgument, AtCall, entry_of, Answers}
use Rattle.p9_sim.specs.Playing.{AllSteps, Branches, Counting, Count, first_count, IsPaid, after_plain, Setting, step_in, Continues, Goes, Performs}
use Rattle.p9_sim.specs.Functions.{lowered_stack, setting_of}
use Rattle.p9_sim.proofs.Registers.{same-objects}
use Rattle.p9_systems.specs.Systems.{number_of, system_def}
use Rattle.p9_systems.proofs.Matched.{Near, match-near, answers-near}
use Rattle.p9_systems.proofs.Calling.{around, prepared, with_argument, IsPrepared, prepared-is, last-step}
use Rattle.p9_systems.proofs.Exiting.{two-steps}

three-steps : (set : Setting) (x y z w : Mach) (d : Count) → step_in set x ≡ Next y → step_in set y ≡ Next z → step_in set z ≡ Next w
    → Goes set 3 x d w (after_plain set.counting (after_plain set.counting (after_plain set.counting d)))
three-steps set x y z w d e f h =
    subst (λ s. Continues set s x.at d (λ v n. Goes set 2 v n w (after_plain set.counting (after_plain set.counting (after_plain set.counting d))))) (sym e) (two-steps set y z w (after_plain set.counting d) f h)

paid : (counting : Counting) → IsPaid (after_plain counting (after_plain counting (after_plain counting first_count)))
paid AllSteps = record { steps = omega arith; backs = omega arith }
paid Branches = record { steps = omega arith; backs = omega arith }

-- behind the return
abbrev pub final : State → (to : ℕ) → State
final w to = record w { core = record w.core { regs = with_reg w.core.regs 31 to; text_end = text_start } }

-- a call that goes on answers in R1 and leaves all other registers
abbrev pub Answering : Asked → (v : ℕ) → State → Type 0
Answering q v y = ((called q y).core.regs ≡ with_reg y.core.regs 1 v) × ((called q y).core.ending ≡ y.core.ending)

pub split : (i j : ℕ) → (i < j) ⊎ (j ≤ i)
split i j = cut (nat_lt i j) refl
  where
    cut : (t : Bool) → nat_lt i j ≡ t → (i < j) ⊎ (j ≤ i)
    cut true e = inl (grind (arith, nat_tests))
    cut false e = inr (grind (arith, nat_tests))

module _ (system : SystemCall) (counting : Counting) (g : Ground) (symbol : ℕ → ℕ) (need : ℕ) (others : ℕ → Bool) (active : ℕ) (m : Map) (call : Call) (s : c.State) (x : State) (at : AtCall g others others active m call s x)
    (three : length call.arguments ≡ 3) where
  abbrev pub set : Setting
  set = setting_of g counting symbol (system_def system) others active need (entry_of m s call x)

  abbrev pub low : ℕ
  low = lowered_stack (system_def system) x

  abbrev pub y : State
  y = prepared system x

  abbrev pub start : Mach
  start = record { state = x; vars = []; at = 0 }

  abbrev pub here : Around
  here = around system symbol low others

  pub ready : IsPrepared system symbol low others (length call.arguments) x y
  ready = prepared-is g system symbol others active low m call s x at (omega (arith, three))

  pub unstored : (byte : ℕ) → (IsArgument x.core 3 byte → ⊥) → read_byte y.core byte ≡ read_byte x.core byte
  unstored byte out = (let r = ready in r.memory byte (by (split byte (reg x.core 29 + 4)) (split byte (reg x.core 29 + 8))))
    where
      by : (byte < reg x.core 29 + 4) ⊎ (reg x.core 29 + 4 ≤ byte) → (byte < reg x.core 29 + 8) ⊎ (reg x.core 29 + 8 ≤ byte) → (byte < reg x.core 29 + 4) ⊎ (reg x.core 29 + 8 ≤ byte)
      by (inl a) b = inl a
      by (inr a) (inr b) = inr b
      by (inr a) (inl b) = absurd (out (a, omega (arith, b)))

  pub owned : (byte : ℕ) → Owner m s.objects byte → IsArgument x.core 3 byte → ⊥
  owned byte w i = let i0 = i.0 in let i1 = i.1 in at.unowned byte (i0, omega (arith, i1, three)) w

  -- the code returns
  pub returning : (q : Asked) (v : ℕ) (result : Value) (t : c.State) → asked y.core ≡ q → room_free here y.core q ≡ true → Answering q v y
      → ((to : ℕ) → IsWord to → Answers g (λ byte. false) others active (entry_of m s call x) m t (final (called q y) to) result)
      → Performs set (Done result t) m first_count start
  returning q v result t is free answering ans =
      let r = ready in
      let w : Mach = record { state = y; vars = []; at = 2 } in
      let z : Mach = record { state = called q y; vars = []; at = 3 } in
      let third : step here (system_code (number_of system)) w ≡ Next z = r.third ∙ (ap (λ k. asks_system here k w) is ∙ (ap (λ b. if b then ended (called q y).core.ending z else Undefined) free ∙ ap (λ e. ended e z) (answering.1 ∙ at.matched.running))) in (
        record { steps = 3; to = z; count = after_plain counting (after_plain counting (after_plain counting first_count)); goes = three-steps set start (record { state = with_argument x x.core.regs; vars = []; at = 1 }) w z first_count r.first r.second third },
        without_text z,
        last-step system here (called q y),
        paid counting,
        m,
        ans,
      )

  pub holds-called : (q : Asked) → asked y.core ≡ q → HoldsAll (called q y)
  holds-called q is =
      let r = ready in
      called-words q y (subst CountFits is (asked-count y.core r.near.words)) (record { words = r.near.words; left = subst AreBytes (sym r.left) at.matched.bytes })

  pub keeps-called : (q : Asked) → asked y.core ≡ q → KeepsText y.core (called q y).core
  keeps-called q is = let r = ready in called-keeps q y r.laid (subst (λ k. RoomFits k y.core) is (asked-room y.core))

  pub near-final : (q : Asked) (v to : ℕ) → IsWord to → asked y.core ≡ q → Answering q v y → Near x (final (called q y) to)
  near-final q v to word is answering =
      let r = ready in
      let all = holds-called q is in
      let k = keeps-called q is in
      let w = with_register-words (called q y).core 31 to word all.words in
      record {
        stack = other 29 (λ e. omega (arith, e)) (λ e. omega (arith, e)) ∙ r.near.stack;
        base = other 30 (λ e. omega (arith, e)) (λ e. omega (arith, e)) ∙ r.near.base;
        sizes = record {
          order = k.order ∙ r.near.sizes.order;
          data_start = k.data_start ∙ r.near.sizes.data_start;
          low = k.low_size ∙ r.near.sizes.low;
          stack = k.stack_size ∙ r.near.sizes.stack;
        };
        ending = answering.1 ∙ r.near.ending;
        words = record { count = w.count; zero_register = w.zero_register; registers = w.registers; high = w.high; less = w.less; low_bytes = w.low_bytes; stack_bytes = w.stack_bytes };
      }
    where
      other : (p : ℕ) → p ≢ 1 → p ≢ 31 → slice_index (with_reg (called q y).core.regs 31 to) p ≡ reg y.core p
      other p a b = other-register (called q y).core.regs 31 to p b ∙ (ap (λ l. slice_index l p) answering.0 ∙ other-register y.core.regs 1 v p a)

  pub result-final : (q : Asked) (v to : ℕ) → Answering q v y → (let z : State = final (called q y) to in reg z.core 1 ≡ v)
  result-final q v to answering =
      let r = ready in let count = r.near.words.count in
      other-register (called q y).core.regs 31 to 1 (λ e. omega (arith, e)) ∙ (ap (λ l. slice_index l 1) answering.0 ∙ get_or-set_same y.core.regs 1 v 0 (omega (arith, count)))

  -- where memory is as it was
  pub plainly : (q : Asked) (v : ℕ) (output : List ℕ) → asked y.core ≡ q → room_free here y.core q ≡ true → Answering q v y
      → (called q y).out ≡ output → (called q y).left ≡ x.left → ((byte : ℕ) → read_byte (called q y).core byte ≡ read_byte y.core byte)
      → Performs set (Done (Word v) (record s { output = output })) m first_count start
  plainly q v output is free answering out left same =
      returning q v (Word v) (record s { output = output }) is free answering
      (λ to word. answers-near g (λ byte. false) others active m s (record s { output = output }) x (final (called q y) to) (length call.arguments) (Word v)
      (let n = near-final q v to word is answering in
      let matched = match-near g others others active m s x (final (called q y) to) at.matched n (λ byte w. same byte ∙ unstored byte (owned byte w)) at.matched.free (subst AreBytes (sym left) at.matched.bytes) in
      subst (λ o. Match g others active m (record s { output = o }) (final (called q y) to)) out
      (subst (λ i. Match g others active m (record s { output = (called q y).out; input = i }) (final (called q y) to)) (left ∙ at.matched.input) matched))
      (near-final q v to word is answering) (same-objects s.objects) (λ p e. refl) (sym (result-final q v to answering))
      (λ byte w o a. same byte ∙ unstored byte (λ i. a (let i0 = i.0 in let i1 = i.1 in (i0, omega (arith, i1, three))))))

  pub refused : asked y.core ≡ asks.Refused → Performs set (Done minus_one s) m first_count start
  refused is =
      plainly asks.Refused (2 ^ 32 - 1) s.output is (let r = ready in r.words_3 (omega (arith, three))) (refl, refl) (at.matched.output) refl (λ byte. refl)

-- The object of an access
pub live-is : (objects : List Object) (number : ℕ) → (object_at objects number).is_alive ≡ true → slice_get objects number ≡ Some (object_at objects number)
live-is objects number h = by (slice_get objects number) refl h
  where
    by : (o : Option Object) → slice_get objects number ≡ o → (unwrap_or o dead_object).is_alive ≡ true → slice_get objects number ≡ Some (object_at objects number)
    by None e h = absurd (true≢false (sym h))
    by (Some a) e h = e ∙ ap (λ o. Some (unwrap_or o dead_object)) (sym e)
