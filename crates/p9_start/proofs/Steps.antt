-- The instructions of the start.
use Rattle.std.proofs.Common.{◌≡◌, ◌≤◌, ◌<◌, ◌⊎◌, inl, inr, ℕ, ◌+◌, ◌-◌, ◌%◌, ◌==◌, ◌&&◌, ◌||◌, nat_le, nat_lt, Bool, true, false, Some, List, [], refl, sym, ap, ◌∙◌, subst, arith}
use Rattle.std.proofs.lemmas.Bool.{true≢false, leb-true}
use Rattle.std.proofs.lemmas.Bool.Decides.{nat_tests}
use Rattle.p9_base.specs.declared.order.ByteOrder.TheVariants.{Big}
use Rattle.p9_base.specs.Words.{word_sum}
use Rattle.p9_base.specs.Core.{text_start, stack_start, reg, with_reg, writable, with_word_in}
use Rattle.p9_base.specs.Effects.{store_word}
use Rattle.p9_base.specs.SystemCalls.{State}
use Rattle.p9_abs.specs.BuiltIn.{start_code}
use Rattle.p9_abs.specs.Steps.{Mach, Around, Next, Calls, step, with_core, is_free, touches, without_text}
use Rattle.p9_abs.specs.Runs.{in_word, lowered}
use Rattle.p9_sim.specs.Functions.{after_entry}
use Rattle.p9_systems.proofs.Calling.{store, stored-high}
use Rattle.p9_start.specs.Starting.{start_def}

-- a state with these registers and this stack
abbrev pub made : State → (regs stack : List ℕ) → State
made x regs stack = record x { core = record x.core { regs = regs; stack = stack; text_end = text_start } }

-- KEPT BYTES

-- the own return address is at the stack's end less 12
abbrev pub kept_at : ℕ → ℕ → Bool
kept_at sp byte = in_word byte (Some sp) || false

pub kept-not : (sp byte : ℕ) → (byte < sp) ⊎ (sp + 4 ≤ byte) → kept_at sp byte ≡ false
kept-not sp byte (inl h) = let e : nat_le sp byte ≡ false = grind (arith, nat_tests) in ap (λ b. (b && nat_lt byte (sp + 4)) || false) e
kept-not sp byte (inr h) = by (nat_le sp byte)
  where
    by : (b : Bool) → ((b && nat_lt byte (sp + 4)) || false) ≡ false
    by true = let e : nat_lt byte (sp + 4) ≡ false = grind (arith, nat_tests) in ap (λ b. b || false) e
    by false = refl

pub kept-above : (sp byte : ℕ) → kept_at sp byte ≡ true → sp ≤ byte
kept-above sp byte h = leb-true sp byte (by (nat_le sp byte) h)
  where
    by : (b : Bool) → ((b && nat_lt byte (sp + 4)) || false) ≡ true → b ≡ true
    by true h = refl
    by false h = absurd (true≢false (sym h))

-- what the start stands in
abbrev pub around_start : (symbol : ℕ → ℕ) → (sp : ℕ) → Around
around_start symbol sp = record { symbol = symbol; taken = 12; offsets = []; banned = kept_at sp }

-- THE ENTRY

abbrev pub first_stack : State → ℕ → List ℕ
first_stack x sp = with_word_in Big x.core.stack (sp - stack_start) (reg x.core 31)

pub entry-is : (x : State) (sp : ℕ) → reg x.core 29 - 12 ≡ sp → stack_start ≤ sp → x.core.order ≡ Big
    → after_entry start_def x ≡ record x { core = record x.core { regs = with_reg x.core.regs 29 sp; stack = first_stack x sp } }
entry-is x sp e high big =
    ap (λ c. record x { core = c }) (stored-high (lowered x.core 12) (reg x.core 29 - 12) (reg x.core 31) (subst (λ n. stack_start ≤ n) (sym e) high) big)
    ∙ ap (λ n. record x { core = record x.core { regs = with_reg x.core.regs 29 n; stack = with_word_in Big x.core.stack (n - stack_start) (reg x.core 31) } }) e

-- THE INSTRUCTIONS

module _ (symbol : ℕ → ℕ) (sp : ℕ) where
  abbrev here : Around
  here = around_start symbol sp

  -- the address of the arguments, to R2
  pub step-0 : (x : State) → step here start_code (record { state = x; vars = []; at = 0 }) ≡ Next (record { state = made x (with_reg x.core.regs 2 (word_sum (symbol 1) 0)) x.core.stack; vars = []; at = 1 })
  unfolding step
  step-0 x = refl

  -- R2 to 8(R29)
  pub step-1 : (x : State) (a : ℕ) → word_sum (reg x.core 29) 8 ≡ a → is_free (kept_at sp) a 4 ≡ true → (a % 4 == 0) ≡ true → nat_le 4 (writable (record x.core { text_end = text_start }) a) ≡ true → stack_start ≤ a → x.core.order ≡ Big
      → step here start_code (record { state = x; vars = []; at = 1 }) ≡ Next (record { state = made x x.core.regs (with_word_in Big x.core.stack (a - stack_start) (reg x.core 2)); vars = []; at = 2 })
  unfolding step
  step-1 x a is f e w high big =
      let y : Mach = without_text (record { state = x; vars = []; at = 1 }) in
      let v : ℕ = reg x.core 2 in
      ap (λ n. touches here n 4 (store_word y.state.core n v) y) is
      ∙ (store here a v y f e w ∙ ap (λ d. Next (with_core y d)) (stored-high y.state.core a v high big))

  -- 1 to R1
  pub step-2 : (x : State) → step here start_code (record { state = x; vars = []; at = 2 }) ≡ Next (record { state = made x (with_reg x.core.regs 1 1) x.core.stack; vars = []; at = 3 })
  unfolding step
  step-2 x = refl

  pub step-3 : (x : State) → step here start_code (record { state = x; vars = []; at = 3 }) ≡ Calls (symbol 2) (record { state = made x x.core.regs x.core.stack; vars = []; at = 4 })
  unfolding step
  step-3 x = refl

  -- the address of the exit text, to R1
  pub step-4 : (x : State) → step here start_code (record { state = x; vars = []; at = 4 }) ≡ Next (record { state = made x (with_reg x.core.regs 1 (word_sum (symbol 3) 0)) x.core.stack; vars = []; at = 5 })
  unfolding step
  step-4 x = refl

  pub step-5 : (x : State) → step here start_code (record { state = x; vars = []; at = 5 }) ≡ Calls (symbol 4) (record { state = made x x.core.regs x.core.stack; vars = []; at = 6 })
  unfolding step
  step-5 x = refl
