-- A matched state is matched with other registers, as long as R29 and R30 are the same.
use Rattle.std.proofs.Common.{◌≡◌, ◌≤◌, ◌<◌, inl, inr, ℕ, ◌+◌, ◌%◌, Bool, false, Some, None, List, [], slice_index, refl, sym, ap, ◌∙◌, subst, arith}
use Rattle.std.proofs.lemmas.List.{append-nil}
use Rattle.std.proofs.lemmas.Option.{slice_get_past}
use Rattle.p9_base.specs.Core.{Core, stack_start, stack_end, reg}
use Rattle.p9_base.specs.SystemCalls.{State}
use Rattle.p9_base.specs.Holding.{HoldsWords}
use Rattle.p9_cmean.specs.Cells as c
use Rattle.p9_cmean.specs.Cells.{Object, Value}
use Rattle.p9_cmean.specs.Turns.{room}
use Rattle.p9_sim.specs.Memory.{Map, Extends, Ground, StandsValue, Owner}
use Rattle.p9_sim.specs.Matching.{IsLaidOut, Lies, Match, SameObjects, Answers}

-- the state with other registers, and with the text's end moved, which means nothing
abbrev pub with_regs : State → List ℕ → (text_end : ℕ) → State
with_regs x regs text_end = record x { core = record x.core { regs = regs; text_end = text_end } }

pub words-with : (c : Core) (regs : List ℕ) (text_end : ℕ) → HoldsWords (record c { regs = regs }) → HoldsWords (record c { regs = regs; text_end = text_end })
words-with c regs text_end h = record {
  count = h.count;
  zero_register = h.zero_register;
  registers = h.registers;
  high = h.high;
  less = h.less;
  low_bytes = h.low_bytes;
  stack_bytes = h.stack_bytes;
}

laid-with : (x : State) (regs : List ℕ) (text_end : ℕ) → IsLaidOut x → IsLaidOut (with_regs x regs text_end)
laid-with x regs text_end l = record { text = l.text; gap = l.gap; data_and_bss = l.data_and_bss; above = l.above; stack_size = l.stack_size }

pub match-with : (g : Ground) (shut other : ℕ → Bool) (active : ℕ) (m : Map) (s : c.State) (x : State) (regs : List ℕ) (text_end : ℕ) → Match g shut active m s x
    → HoldsWords (record x.core { regs = regs }) → slice_index regs 29 ≡ reg x.core 29 → slice_index regs 30 ≡ reg x.core 30
    → ((byte : ℕ) → Owner m s.objects byte → other byte ≡ false) → Match g other active m s (with_regs x regs text_end)
match-with g shut other active m s x regs text_end h words sp base free = record {
  count = h.count;
  statics = h.statics;
  fourfold = h.fourfold;
  cells = h.cells;
  lie = λ byte w. lies byte (h.lie byte w);
  disjoint = h.disjoint;
  free = free;
  output = h.output;
  input = h.input;
  base = base ∙ h.base;
  aligned = ap (λ n. n % 4) sp ∙ h.aligned;
  top = subst (λ n. n < stack_end) (sym sp) h.top;
  floor = subst (λ n. stack_start + room ≤ n + active) (sym sp) h.floor;
  not_deep = h.not_deep;
  words = words-with x.core regs text_end words;
  bytes = h.bytes;
  laid = laid-with x regs text_end h.laid;
  data_start = h.data_start;
  behind = h.behind;
  gap = h.gap;
  order = h.order;
  running = h.running;
}
  where
    lies : (byte : ℕ) → Lies x.core byte → (let y : State = with_regs x regs text_end in Lies y.core byte)
    lies byte (inl i) = inl i
    lies byte (inr i) = let low = i.0 in inr (omega (arith, low, sp), i.1)

-- objects are as they are
pub same-objects : (objects : List Object) → SameObjects objects objects
same-objects objects = record {
  earlier = λ number a e. (a, e, refl, refl);
  later = λ number b past e. absurd (let z : None ≡ Some b = sym (slice_get_past objects number past) ∙ e in cc);
}

pub extends-self : (m : Map) → Extends m m
extends-self m = record { more = []; is = sym (append-nil m) }

-- a call may leave all but the registers as it was
pub answers-with : (g : Ground) (loose shut other : ℕ → Bool) (active : ℕ) (m : Map) (s : c.State) (x : State) (arguments : ℕ) (regs : List ℕ) (text_end : ℕ) (v : Value)
    → Match g shut active m s x → HoldsWords (record x.core { regs = regs }) → slice_index regs 29 ≡ reg x.core 29 → slice_index regs 30 ≡ reg x.core 30
    → ((byte : ℕ) → Owner m s.objects byte → other byte ≡ false) → StandsValue g m v (slice_index regs 1)
    → Answers g loose other active (record { map = m; objects = s.objects; state = x; arguments = arguments }) m s (with_regs x regs text_end) v
answers-with g loose shut other active m s x arguments regs text_end v h words sp base free result = record {
  matched = match-with g shut other active m s x regs text_end h words sp base free;
  leaves = record {
    addresses = extends-self m;
    hidden = λ number e. refl;
    objects = same-objects s.objects;
    result = result;
    stack = sp;
    sizes = record { order = refl; data_start = refl; low = refl; stack = refl };
    memory = λ byte l w o a. refl;
  };
}
