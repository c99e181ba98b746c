-- What each step leaves: memory's sizes and the bytes below the data, words, output, and the stack pointer.
use Rattle.std.proofs.Common.{◌≡◌, ◌≢◌, ◌≤◌, ◌<◌, ◌⊎◌, inl, inr, ℕ, zero, suc, ◌+◌, ◌-◌, ◌^◌, ◌==◌, ◌&&◌, nat_lt, Bool, true, false, not, Option, Some, None, if◌then◌else◌, List, [], ◌∷◌, length, All, map, slice_get, slice_index, slice_set, refl, sym, ap, ◌∙◌, subst, arith}
use Rattle.std.specs.Prelude.{option_and_then}
use Rattle.std.proofs.lemmas.List.{get_or-set_other, length-set}
use Rattle.std.proofs.lemmas.List.Elements.{All-set}
use Rattle.std.proofs.lemmas.Bool.{true≢false}
use Rattle.std.proofs.lemmas.Bool.Decides.{nat_tests}
use Rattle.p9_base.specs.Words.{IsWord}
use Rattle.p9_base.specs.declared.halt.Ending.{Ending}
use Rattle.p9_base.specs.declared.halt.Ending.TheVariants.{Running, Exited, Halted}
use Rattle.p9_base.specs.declared.halt.Asked.{Asked}
use Rattle.p9_base.specs.declared.halt.Asked.TheVariants as asks
use Rattle.p9_base.specs.Core.{Core, text_start, stack_start, reg, with_reg, with_byte, with_half, with_word, with_half_in, with_word_in}
use Rattle.p9_base.specs.SystemCalls.{State, asked, called}
use Rattle.p9_base.specs.Holding.{HoldsWords, AreBytes, LaidOut, KeepsText}
use Rattle.p9_base.proofs.Holding.{HoldsAll, with_register-words, memory-words-by, set-bytes, half-bytes, word-bytes, called-words, asked-count}
use Rattle.p9_base.proofs.Kept.{keeps-same, with_byte-keeps, with_half-keeps, with_word-keeps, called-keeps, asked-room}
use Rattle.p9_abs.specs.declared.instructions.Abs.{Abs}
use Rattle.p9_abs.specs.declared.forms.Form.{Form}
use Rattle.p9_abs.specs.declared.forms.Form.TheVariants as forms
use Rattle.p9_abs.specs.Forms.{decoded}
use Rattle.p9_abs.specs.Automatics.{form_at}
use Rattle.p9_abs.specs.Steps.{Mach, Around, Step, Next, Turns, Calls, Returns, Exits, Undefined, step, without_text, at_instruction, acts_as, acts, room_free, ended}
use Rattle.p9_abs.specs.Laws.{IfMach, MemoryStays, Holds, WordsStay, IsSilent, SilentSteps}
use Rattle.p9_abs.proofs.Walking.{destination, HoldsMach, Walk, walked}

-- From forms to steps

abbrev FormLaw : Around → List Abs → Mach → (Step → Type 0) → Type 0
FormLaw around code x G = (form : Form) → form_at code x.at ≡ Some form → G (acts around form (without_text x))

acting : (around : Around) (x : Mach) (G : Step → Type 0) (o : Option Form) → G Undefined → ((form : Form) → o ≡ Some form → G (acts around form (without_text x)))
    → G (acts_as around o (without_text x))
acting around x G None none go = none
acting around x G (Some form) none go = go form refl

at-each : (around : Around) (x : Mach) (G : Step → Type 0) (o : Option Abs) → G Undefined
    → ((form : Form) → option_and_then decoded o ≡ Some form → G (acts around form (without_text x)))
    → G (at_instruction around o (without_text x))
at-each around x G None none go = none
at-each around x G (Some a) none go = acting around x G (decoded a) none go

pub step-by : (around : Around) (code : List Abs) (x : Mach) (G : Step → Type 0) → G Undefined → FormLaw around code x G → G (step around code x)
unfolding step
step-by around code x G none go = at-each around x G (slice_get code x.at) none go

pub ended-by : (P : Mach → Type 0) (e : Ending) (y : Mach) → P y → IfMach P (ended e y)
ended-by P Running y h = h
ended-by P (Exited at n) y h = h
ended-by P (Halted cause pc) y h = tt

-- Memory

abbrev Kept : Mach → Step → Type 0
Kept x s = IfMach (λ y. KeepsText x.state.core y.state.core) s

same-text : (c : Core) (regs : List ℕ) (h l : ℕ) → KeepsText c (record c { regs = regs; hi = h; lo = l })
same-text c regs h l = record { order = refl; text_end = refl; data_start = refl; low_size = refl; stack_size = refl; below_data = refl }

memory-walk : (around : Around) (form : Form) (x : Mach) → LaidOut x.state.core → Walk around form x (Kept x)
memory-walk around form x laid = record {
  undefined = tt;
  register = λ r v d h. same-text x.state.core (with_reg x.state.core.regs r v) x.state.core.hi x.state.core.lo;
  pair = λ h l w. same-text x.state.core x.state.core.regs h l;
  byte = λ a v f w s. with_byte-keeps x.state.core a v w;
  half = λ a v f w. with_half-keeps x.state.core a v w;
  word = λ a v f w. with_word-keeps x.state.core a v w;
  variable = λ v value h. keeps-same x.state.core;
  turn = λ taken l. keeps-same x.state.core;
  call = λ to. keeps-same x.state.core;
  back = keeps-same x.state.core;
  system = λ e f.
      (let s : State = called (asked x.state.core) x.state in
      ended-by (λ y. KeepsText x.state.core y.state.core) s.core.ending (record x { state = s; at = x.at + 1 })
      (called-keeps (asked x.state.core) x.state laid (asked-room x.state.core)));
}

pub memory_stays : MemoryStays
memory_stays around code x laid =
    step-by around code x (Kept (without_text x)) tt
    (λ form e. walked around form (without_text x) (Kept (without_text x)) (memory-walk around form (without_text x) laid))

-- Words

abbrev AllWords : Mach → Step → Type 0
AllWords x s = Holds x → IfMach Holds s

of-mach : (x : Mach) → Holds x → HoldsMach x
of-mach x h = record { words = h.words; variables = h.variables }

with-core-words : (x : Mach) (c : Core) (at : ℕ) → HoldsWords c → Holds x → Holds (record x { state = record x.state { core = c }; at = at })
with-core-words x c at w h = record { words = w; input = h.input; variables = h.variables }

pair-words : (c : Core) (h l : ℕ) → IsWord h → IsWord l → HoldsWords c → HoldsWords (record c { hi = h; lo = l })
pair-words c h l wh wl w = record {
  count = w.count;
  zero_register = w.zero_register;
  registers = w.registers;
  high = wh;
  less = wl;
  low_bytes = w.low_bytes;
  stack_bytes = w.stack_bytes;
}

called-holds : (x : Mach) → Holds x → (let s : State = called (asked x.state.core) x.state in Holds (record x { state = s; at = x.at + 1 }))
called-holds x h =
    let k : HoldsAll (called (asked x.state.core) x.state) =
    called-words (asked x.state.core) x.state (asked-count x.state.core h.words) (record { words = h.words; left = h.input }) in
    record { words = k.words; input = k.left; variables = h.variables }

words-walk : (around : Around) (form : Form) (x : Mach) → Walk around form x (AllWords x)
words-walk around form x = record {
  undefined = λ h. tt;
  register = λ r v d w h. with-core-words x _ (x.at + 1) (with_register-words x.state.core r v (w (of-mach x h)) h.words) h;
  pair = λ a l w h. with-core-words x _ (x.at + 1) (pair-words x.state.core a l ((w (of-mach x h)).0) ((w (of-mach x h)).1) h.words) h;
  byte = λ a v f w s h. with-core-words x (with_byte x.state.core a v) (x.at + 1)
      (memory-words-by (nat_lt a stack_start) x.state.core (slice_set x.state.core.low (a - text_start) v) (slice_set x.state.core.stack (a - stack_start) v) h.words
      (set-bytes x.state.core.low (a - text_start) v s h.words.low_bytes) (set-bytes x.state.core.stack (a - stack_start) v s h.words.stack_bytes)) h;
  half = λ a v f w h. with-core-words x (with_half x.state.core a v) (x.at + 1)
      (memory-words-by (nat_lt a stack_start) x.state.core (with_half_in x.state.core.order x.state.core.low (a - text_start) v) (with_half_in x.state.core.order x.state.core.stack (a - stack_start) v) h.words
      (half-bytes x.state.core.order x.state.core.low (a - text_start) v h.words.low_bytes) (half-bytes x.state.core.order x.state.core.stack (a - stack_start) v h.words.stack_bytes)) h;
  word = λ a v f w h. with-core-words x (with_word x.state.core a v) (x.at + 1)
      (memory-words-by (nat_lt a stack_start) x.state.core (with_word_in x.state.core.order x.state.core.low (a - text_start) v) (with_word_in x.state.core.order x.state.core.stack (a - stack_start) v) h.words
      (word-bytes x.state.core.order x.state.core.low (a - text_start) v h.words.low_bytes) (word-bytes x.state.core.order x.state.core.stack (a - stack_start) v h.words.stack_bytes)) h;
  variable = λ v value w h. record { words = h.words; input = h.input; variables = All-set IsWord x.vars v value (w (of-mach x h)) h.variables };
  turn = λ taken l h. record { words = h.words; input = h.input; variables = h.variables };
  call = λ to h. record { words = h.words; input = h.input; variables = h.variables };
  back = λ h. h;
  system = λ e f h.
      (let s : State = called (asked x.state.core) x.state in
      ended-by Holds s.core.ending (record x { state = s; at = x.at + 1 }) (called-holds x h));
}

without_text-holds : (x : Mach) → Holds x → Holds (without_text x)
without_text-holds x h = record {
  words = record {
    count = h.words.count;
    zero_register = h.words.zero_register;
    registers = h.words.registers;
    high = h.words.high;
    less = h.words.less;
    low_bytes = h.words.low_bytes;
    stack_bytes = h.words.stack_bytes;
  };
  input = h.input;
  variables = h.variables;
}

pub words_stay : WordsStay
words_stay around code x h =
    step-by around code x (IfMach Holds) tt
    (λ form e. walked around form (without_text x) (AllWords (without_text x)) (words-walk around form (without_text x)) (without_text-holds x h))

-- Silence

silent-walk : (around : Around) (form : Form) (x : Mach) → form ≢ forms.SystemCall → Walk around form x (IsSilent x.state)
silent-walk around form x other = record {
  undefined = tt;
  register = λ r v d h. (refl, refl);
  pair = λ h l w. (refl, refl);
  byte = λ a v f w s. byte-silent (nat_lt a stack_start);
  half = λ a v f w. byte-silent (nat_lt a stack_start);
  word = λ a v f w. byte-silent (nat_lt a stack_start);
  variable = λ v value h. (refl, refl);
  turn = λ taken l. (refl, refl);
  call = λ to. (refl, refl);
  back = (refl, refl);
  system = λ e f. absurd (other e);
}
  where
    byte-silent : Bool → (x.state.out ≡ x.state.out) × (x.state.left ≡ x.state.left)
    byte-silent b = (refl, refl)

pub silent_steps : SilentSteps
silent_steps around code x other =
    step-by around code x (IsSilent x.state) tt
    (λ form e. walked around form (without_text x) (IsSilent x.state) (silent-walk around form (without_text x) (λ is. other (e ∙ ap Some is))))
