-- What an entry leaves: its R29, and a state in which the code of a call may begin.
use Rattle.std.proofs.Common.{◌≡◌, ◌≤◌, ℕ, ◌+◌, ◌-◌, ◌%◌, ◌==◌, ◌||◌, nat_lt, not, Bool, true, false, if◌then◌else◌, List, length, slice_index, refl, sym, ap, ◌∙◌, subst, arith}
use Rattle.std.proofs.lemmas.Bool.{true≢false, or_parts}
use Rattle.std.proofs.lemmas.Bool.Decides.{nat_tests}
use Rattle.std.proofs.lemmas.List.{get_or-set_same}
use Rattle.p9_base.specs.Words.{IsWord}
use Rattle.p9_base.specs.Core.{Core, text_start, stack_start, reg, with_word_in, with_word}
use Rattle.p9_base.specs.SystemCalls.{State}
use Rattle.p9_base.specs.Holding.{HoldsWords, AreBytes}
use Rattle.p9_base.proofs.Holding.{with_register-words, memory-words-by, word-bytes, register-word}
use Rattle.p9_base.proofs.Kept.{length-word}
use Rattle.p9_abs.specs.declared.instructions.TextDef.{TextDef}
use Rattle.p9_abs.specs.Validity.{IsFrame}
use Rattle.p9_abs.specs.Runs.{keeps, taken_by, lowered}
use Rattle.p9_abs.specs.Keeping.{IsEntry}
use Rattle.p9_cmean.specs.Cells as c
use Rattle.p9_cmean.specs.Plays.{Call}
use Rattle.p9_cmean.specs.Turns.{room}
use Rattle.p9_sim.specs.Memory.{Map, Ground}
use Rattle.p9_sim.specs.Matching.{IsLaidOut, AtCall}
use Rattle.p9_sim.specs.Functions.{lowered_stack, after_entry}
use Rattle.p9_carry.proofs.Alike.{bool-not}

-- a store of a word leaves registers, sizes and words

stored-regs-by : (b : Bool) (c : Core) (low stack : List ℕ) → (let d : Core = if b then record c { low = low } else record c { stack = stack } in d.regs ≡ c.regs)
stored-regs-by true c low stack = refl
stored-regs-by false c low stack = refl

stored-regs : (c : Core) (a v : ℕ) → (let d : Core = with_word c a v in d.regs ≡ c.regs)
stored-regs c a v = stored-regs-by (nat_lt a stack_start) c (with_word_in c.order c.low (a - text_start) v) (with_word_in c.order c.stack (a - stack_start) v)

stored-words : (c : Core) (a v : ℕ) → HoldsWords c → HoldsWords (with_word c a v)
stored-words c a v h =
    memory-words-by (nat_lt a stack_start) c (with_word_in c.order c.low (a - text_start) v) (with_word_in c.order c.stack (a - stack_start) v) h
    (word-bytes c.order c.low (a - text_start) v h.low_bytes) (word-bytes c.order c.stack (a - stack_start) v h.stack_bytes)

-- how memory lies
record Sizes (c d : Core) : Type 0 where
  pub low : length d.low ≡ length c.low
  pub stack : length d.stack ≡ length c.stack
  pub start : d.data_start ≡ c.data_start

stored-sizes-by : (b : Bool) (c : Core) (low stack : List ℕ) → length low ≡ length c.low → length stack ≡ length c.stack
    → Sizes c (if b then record c { low = low } else record c { stack = stack })
stored-sizes-by true c low stack h k = record { low = h; stack = refl; start = refl }
stored-sizes-by false c low stack h k = record { low = refl; stack = k; start = refl }

stored-sizes : (c : Core) (a v : ℕ) → Sizes c (with_word c a v)
stored-sizes c a v =
    stored-sizes-by (nat_lt a stack_start) c (with_word_in c.order c.low (a - text_start) v) (with_word_in c.order c.stack (a - stack_start) v)
    (length-word c.order c.low (a - text_start) v) (length-word c.order c.stack (a - stack_start) v)

laid-by : (x y : State) → Sizes x.core y.core → IsLaidOut x → IsLaidOut y
laid-by x y z l =
    let low = z.low in let stack = z.stack in let start = z.start in
    let gap = l.gap in let within = l.data_and_bss in let above = l.above in let size = l.stack_size in
    record { text = l.text; gap = omega (arith, start, gap); data_and_bss = omega (arith, start, low, within); above = omega (arith, low, above); stack_size = stack ∙ size }

-- the state behind an entry that takes so much, or nothing
abbrev entry_by : Bool → ℕ → State → State
entry_by b frame x = if b then record x { core = with_word (lowered x.core (frame + 4)) (reg x.core 29 - (frame + 4)) (reg x.core 31) } else x

abbrev taken_if : Bool → ℕ → ℕ
taken_if b frame = if b then frame + 4 else 0

record Entered (b : Bool) (frame : ℕ) (x : State) : Type 0 where
  pub stack : (let y : State = entry_by b frame x in reg y.core 29 ≡ reg x.core 29 - taken_if b frame)
  pub words : (let y : State = entry_by b frame x in HoldsWords y.core)
  pub left : (let y : State = entry_by b frame x in y.left ≡ x.left)
  pub laid : (let y : State = entry_by b frame x in IsLaidOut y)

entered-by : (b : Bool) (frame : ℕ) (x : State) → HoldsWords x.core → IsLaidOut x → Entered b frame x
entered-by false frame x words laid = record { stack = omega arith; words = words; left = refl; laid = laid }
entered-by true frame x words laid =
    let count = words.count in
    let sp : ℕ = reg x.core 29 - (frame + 4) in
    let small : IsWord (reg x.core 29) = register-word x.core 29 words in
    let low : Core = lowered x.core (frame + 4) in
    let low_words : HoldsWords low = with_register-words x.core 29 sp (omega (arith, small)) words in
    record {
      stack = ap (λ r. slice_index r 29) (stored-regs low sp (reg x.core 31)) ∙ get_or-set_same x.core.regs 29 sp 0 (omega (arith, count));
      words = stored-words low sp (reg x.core 31) low_words;
      left = refl;
      laid = laid-by (record x { core = low }) (record x { core = with_word low sp (reg x.core 31) }) (stored-sizes low sp (reg x.core 31))
          (record { text = laid.text; gap = laid.gap; data_and_bss = laid.data_and_bss; above = laid.above; stack_size = laid.stack_size });
    }

pub entry-stack : (def : TextDef) (x : State) → HoldsWords x.core → IsLaidOut x → (let y : State = after_entry def x in reg y.core 29 ≡ lowered_stack def x)
entry-stack def x words laid = (entered-by (keeps def) def.frame x words laid).stack

pub entry-words : (def : TextDef) (x : State) → HoldsWords x.core → IsLaidOut x → (let y : State = after_entry def x in HoldsWords y.core)
entry-words def x words laid = (entered-by (keeps def) def.frame x words laid).words

pub entry-left : (def : TextDef) (x : State) → HoldsWords x.core → IsLaidOut x → (let y : State = after_entry def x in y.left ≡ x.left)
entry-left def x words laid = (entered-by (keeps def) def.frame x words laid).left

-- code that keeps no return address has no frame
no-frame : (frame : ℕ) (calls : Bool) → (not (frame == 0) || calls) ≡ false → frame ≡ 0
no-frame frame calls h = by (frame == 0) refl ((or_parts (not (frame == 0)) calls h).0)
  where
    by : (b : Bool) → (frame == 0) ≡ b → not b ≡ false → frame ≡ 0
    by true e f = grind (arith, nat_tests)
    by false e f = absurd (true≢false f)

abbrev TakenFits : Bool → ℕ → ℕ → Type 0
TakenFits b frame top = (taken_if b frame % 4 ≡ 0) × (frame + 4 ≤ 4 + taken_if b frame) × (taken_if b frame ≤ frame + 4)

taken-fits : (b : Bool) (frame top : ℕ) → (b ≡ false → frame ≡ 0) → frame % 4 ≡ 0 → TakenFits b frame top
taken-fits true frame top h four = (omega (arith, four), omega arith, omega arith)
taken-fits false frame top h four = let z = h refl in (refl, omega (arith, z), omega arith)

pub entry-is : (g : Ground) (others shut : ℕ → Bool) (active need : ℕ) (m : Map) (call : Call) (s : c.State) (x : State) (def : TextDef) (vars : List ℕ)
    → AtCall g others shut active m call s x → IsFrame def.frame → def.frame + 4 ≤ need → active + need ≤ room
    → IsEntry def.frame (taken_by def) others (record { state = after_entry def x; vars = vars; at = 0 })
entry-is g others shut active need m call s x def vars at frame fits room_is =
    let h = at.matched in
    let words = h.words in let laid = h.laid in
    let sp = entry-stack def x words laid in
    let t = taken-fits (keeps def) def.frame 0 (λ e. no-frame def.frame _ e) frame.0 in
    let t0 = t.0 in let t1 = t.1 in let t2 = t.2 in
    let al = h.aligned in let top = h.top in let floor = h.floor in
    record {
      first = refl;
      words = entry-words def x words laid;
      input = subst AreBytes (sym (entry-left def x words laid)) h.bytes;
      laid = (entered-by (keeps def) def.frame x words laid).laid;
      fourfold = omega (arith, sp, t0, al, t2, floor, fits, room_is);
      low = omega (arith, sp, t2, floor, fits, room_is);
      high = omega (arith, sp, t1, t2, top, al, floor, fits, room_is);
      apart = λ n l. bool-not (others (reg (after_entry def x).core 29 + n)) (λ e. let q = at.above _ e in omega (arith, q, l, sp, t2, floor, fits, room_is));
    }
