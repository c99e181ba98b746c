-- States that are alike but for some bytes of the own frame: what is matched by one is matched by the other.
use Rattle.std.proofs.Common.{◌≡◌, ◌≤◌, ◌<◌, inl, inr, ℕ, suc, ◌+◌, ◌-◌, ◌*◌, ◌%◌, ◌^◌, nat_lt, Bool, true, false, if◌then◌else◌, List, [], ◌∷◌, length, slice_index, refl, sym, ap, ◌∙◌, subst, arith}
use Rattle.std.proofs.lemmas.Bool.Decides.{nat_tests}
use Rattle.std.proofs.lemmas.List.{get_or-set_same, length-set}
use Rattle.p9_base.specs.declared.order.ByteOrder.{ByteOrder}
use Rattle.p9_base.specs.declared.order.ByteOrder.TheVariants.{Big, Little}
use Rattle.p9_base.specs.Words.{IsWord, word_sum}
use Rattle.p9_base.specs.Core.{Core, text_start, stack_start, stack_end, reg, with_reg, word_in, read_byte, read_word}
use Rattle.p9_base.specs.SystemCalls.{State}
use Rattle.p9_base.specs.Holding.{HoldsWords, AreBytes}
use Rattle.p9_base.proofs.Holding.{with_register-words}
use Rattle.p9_abs.specs.declared.instructions.TextDef.{TextDef}
use Rattle.p9_abs.specs.Runs.{keeps, linked_to, raised}
use Rattle.p9_abs.specs.Keeping.{SameMemory}
use Rattle.p9_abs.proofs.Fixed.{other-register}
use Rattle.p9_cmean.specs.Cells as c
use Rattle.p9_cmean.specs.Cells.{Cell, Object, Value}
use Rattle.p9_cmean.specs.Turns.{room}
use Rattle.p9_sim.specs.Memory.{Map, Ground, StandsValue, StandsCell, StandCells, Owner}
use Rattle.p9_sim.specs.Matching.{IsLaidOut, Lies, Match, StandFrom, StandArguments, IsArgument}

pub bool-not : (b : Bool) → (b ≡ true → ⊥) → b ≡ false
bool-not true h = absurd (h refl)
bool-not false h = refl

pub record Alike (apart : ℕ → Bool) (x y : State) : Type 0 where
  pub result : reg x.core 1 ≡ reg y.core 1
  pub stack : reg x.core 29 ≡ reg y.core 29
  pub base : reg x.core 30 ≡ reg y.core 30
  pub memory : SameMemory apart x y
  pub words : HoldsWords y.core
  pub ending : y.core.ending ≡ x.core.ending

-- Calls and returns

-- behind a JAL
pub linked-alike : (apart : ℕ → Bool) (x y : State) (to : ℕ) → IsWord to → Alike apart x y → Alike apart (linked_to to x) (linked_to to y)
linked-alike apart x y to word k = record {
  result = other-register x.core.regs 31 to 1 (λ h. omega (arith, h)) ∙ (k.result ∙ sym (other-register y.core.regs 31 to 1 (λ h. omega (arith, h))));
  stack = other-register x.core.regs 31 to 29 (λ h. omega (arith, h)) ∙ (k.stack ∙ sym (other-register y.core.regs 31 to 29 (λ h. omega (arith, h))));
  base = other-register x.core.regs 31 to 30 (λ h. omega (arith, h)) ∙ (k.base ∙ sym (other-register y.core.regs 31 to 30 (λ h. omega (arith, h))));
  memory = record {
    bytes = k.memory.bytes;
    low = k.memory.low;
    stack = k.memory.stack;
    order = k.memory.order;
    data_start = k.memory.data_start;
    input = k.memory.input;
    output = k.memory.output;
  };
  words = with_register-words y.core 31 to word k.words;
  ending = k.ending;
}

abbrev raised_by : Bool → ℕ → State → State
raised_by b frame s = if b then record s { core = record s.core { regs = with_reg s.core.regs 29 (word_sum (reg s.core 29) (frame + 4)) } } else s

raised-alike-by : (b : Bool) (frame : ℕ) (apart : ℕ → Bool) (x y : State) → length x.core.regs ≡ 32 → Alike apart x y → Alike apart (raised_by b frame x) (raised_by b frame y)
raised-alike-by false frame apart x y count k = k
raised-alike-by true frame apart x y count k =
    let counted = k.words.count in
    let v : ℕ = word_sum (reg x.core 29) (frame + 4) in
    let w : ℕ = word_sum (reg y.core 29) (frame + 4) in
    record {
      result = other-register x.core.regs 29 v 1 (λ h. omega (arith, h)) ∙ (k.result ∙ sym (other-register y.core.regs 29 w 1 (λ h. omega (arith, h))));
      stack = get_or-set_same x.core.regs 29 v 0 (omega (arith, count)) ∙ (ap (λ n. word_sum n (frame + 4)) k.stack ∙ sym (get_or-set_same y.core.regs 29 w 0 (omega (arith, counted))));
      base = other-register x.core.regs 29 v 30 (λ h. omega (arith, h)) ∙ (k.base ∙ sym (other-register y.core.regs 29 w 30 (λ h. omega (arith, h))));
      memory = record {
        bytes = k.memory.bytes;
        low = k.memory.low;
        stack = k.memory.stack;
        order = k.memory.order;
        data_start = k.memory.data_start;
        input = k.memory.input;
        output = k.memory.output;
      };
      words = with_register-words y.core 29 w (omega arith) k.words;
      ending = k.ending;
    }

-- behind a RET
pub raised-alike : (a b : TextDef) (apart : ℕ → Bool) (x y : State) → keeps a ≡ keeps b → a.frame ≡ b.frame → length x.core.regs ≡ 32 → Alike apart x y
    → Alike apart (raised a x) (raised b y)
raised-alike a b apart x y same frame count k =
    subst (λ n. Alike apart (raised a x) (raised_by (keeps b) n y)) frame
    (subst (λ t. Alike apart (raised a x) (raised_by t a.frame y)) same (raised-alike-by (keeps a) a.frame apart x y count k))

raised-count-by : (b : Bool) (frame : ℕ) (x : State) → (let y : State = raised_by b frame x in length y.core.regs ≡ length x.core.regs)
raised-count-by true frame x = length-set x.core.regs 29 (word_sum (reg x.core 29) (frame + 4))
raised-count-by false frame x = refl

pub raised-count : (a : TextDef) (x : State) → (let y : State = raised a x in length y.core.regs ≡ length x.core.regs)
raised-count a x = raised-count-by (keeps a) a.frame x

pub linked-count : (to : ℕ) (x : State) → (let y : State = linked_to to x in length y.core.regs ≡ length x.core.regs)
linked-count to x = length-set x.core.regs 31 to

-- Memory

pub stands-same : (g : Ground) (m : Map) (p q : ℕ → ℕ) (cells : List Cell) (start : ℕ) → ((i : ℕ) → i < length cells → p (start + i) ≡ q (start + i))
    → StandCells g m cells p start → StandCells g m cells q start
stands-same g m p q [] start same h = tt
stands-same g m p q (cell ∷ cells) start same h =
    let z : start + 0 ≡ start = omega arith in
    let first : p start ≡ q start = subst (λ n. p n ≡ q n) z (same 0 (omega arith)) in (
      subst (λ b. StandsCell g m cell b) first h.0,
      stands-same g m p q cells (start + 1) (λ i l. let n : start + suc i ≡ start + 1 + i = omega arith in subst (λ k. p k ≡ q k) n (same (suc i) (omega (arith, l)))) h.1,
    )

byte-high : (x : Core) (a : ℕ) → stack_start ≤ a → read_byte x a ≡ slice_index x.stack (a - stack_start)
byte-high x a h = by (nat_lt a stack_start) refl
  where
    by : (b : Bool) → nat_lt a stack_start ≡ b → (if b then slice_index x.low (a - text_start) else slice_index x.stack (a - stack_start)) ≡ slice_index x.stack (a - stack_start)
    by true e = absurd (let l : a < stack_start = grind (arith, nat_tests) in omega (arith, h, l))
    by false e = refl

word-high : (x : Core) (a : ℕ) → stack_start ≤ a → read_word x a ≡ word_in x.order x.stack (a - stack_start)
word-high x a h = by (nat_lt a stack_start) refl
  where
    by : (b : Bool) → nat_lt a stack_start ≡ b → (if b then word_in x.order x.low (a - text_start) else word_in x.order x.stack (a - stack_start)) ≡ word_in x.order x.stack (a - stack_start)
    by true e = absurd (let l : a < stack_start = grind (arith, nat_tests) in omega (arith, h, l))
    by false e = refl

four-same : (o : ByteOrder) (xs ys : List ℕ) (i : ℕ) → slice_index xs i ≡ slice_index ys i → slice_index xs (i + 1) ≡ slice_index ys (i + 1)
    → slice_index xs (i + 2) ≡ slice_index ys (i + 2) → slice_index xs (i + 3) ≡ slice_index ys (i + 3) → word_in o xs i ≡ word_in o ys i
four-same Big xs ys i a b c d = λ t. a t * 2 ^ 24 + b t * 2 ^ 16 + c t * 2 ^ 8 + d t
four-same Little xs ys i a b c d = λ t. d t * 2 ^ 24 + c t * 2 ^ 16 + b t * 2 ^ 8 + a t

-- a word of the stack, none of whose bytes is apart
pub word-alike : (apart : ℕ → Bool) (x y : State) (a : ℕ) → SameMemory apart x y → stack_start ≤ a → ((i : ℕ) → i < 4 → apart (a + i) ≡ false) → read_word x.core a ≡ read_word y.core a
word-alike apart x y a k high out =
    word-high x.core a high
    ∙ (four-same x.core.order x.core.stack y.core.stack (a - stack_start) (byte0 0 (omega arith) (omega arith)) (byte0 1 (omega arith) (omega (arith, high))) (byte0 2 (omega arith) (omega (arith, high))) (byte0 3 (omega arith) (omega (arith, high)))
    ∙ (ap (λ o. word_in o y.core.stack (a - stack_start)) k.order ∙ sym (word-high y.core a high)))
  where
    byte0 : (i : ℕ) → i < 4 → {n : ℕ} → a + i - stack_start ≡ n → slice_index x.core.stack n ≡ slice_index y.core.stack n
    byte0 i l e =
        subst (λ n. slice_index x.core.stack n ≡ slice_index y.core.stack n) e
        (sym (byte-high x.core (a + i) (omega (arith, high))) ∙ (k.bytes (a + i) (out i l) ∙ byte-high y.core (a + i) (omega (arith, high))))

laid-alike : (apart : ℕ → Bool) (x y : State) → SameMemory apart x y → IsLaidOut x → IsLaidOut y
laid-alike apart x y k l =
    let data_is = k.data_start in let low = k.low in let stack = k.stack in
    let gap = l.gap in let within = l.data_and_bss in let above = l.above in let size = l.stack_size in
    record { text = l.text; gap = omega (arith, data_is, gap); data_and_bss = omega (arith, data_is, low, within); above = omega (arith, low, above); stack_size = sym stack ∙ size }

-- The match

pub match-alike : (g : Ground) (shut other apart : ℕ → Bool) (active : ℕ) (m : Map) (s : c.State) (x y : State)
    → ((byte : ℕ) → Owner m s.objects byte → (other byte ≡ false) × (apart byte ≡ false)) → Alike apart x y → Match g shut active m s x → Match g other active m s y
match-alike g shut other apart active m s x y free k h = record {
  count = h.count;
  statics = h.statics;
  fourfold = h.fourfold;
  cells = λ number start object is alive placed. stands-same g m (read_byte x.core) (read_byte y.core) object.cells start
      (λ i l. k.memory.bytes (start + i) (free (start + i) (record { number = number; object = object; start = start; k = i; is_object = is; alive = alive; placed = placed; inside = l; is = refl })).1)
      (h.cells number start object is alive placed);
  lie = λ byte w. lies byte (h.lie byte w);
  disjoint = h.disjoint;
  free = λ byte w. (free byte w).0;
  output = sym k.memory.output ∙ h.output;
  input = sym k.memory.input ∙ h.input;
  base = sym k.base ∙ h.base;
  aligned = ap (λ n. n % 4) (sym k.stack) ∙ h.aligned;
  top = subst (λ n. n < stack_end) k.stack h.top;
  floor = subst (λ n. stack_start + room ≤ n + active) k.stack h.floor;
  not_deep = h.not_deep;
  words = k.words;
  bytes = subst AreBytes k.memory.input h.bytes;
  laid = laid-alike apart x y k.memory h.laid;
  data_start = sym k.memory.data_start ∙ h.data_start;
  behind = h.behind;
  gap = (let low = k.memory.low in let up = h.gap in omega (arith, low, up));
  order = sym k.memory.order ∙ h.order;
  running = k.ending ∙ h.running;
}
  where
    lies : (byte : ℕ) → Lies x.core byte → Lies y.core byte
    lies byte (inl i) = let data_is = k.memory.data_start in let low = k.memory.low in let i0 = i.0 in let i1 = i.1 in inl (omega (arith, data_is, i0), omega (arith, low, i1))
    lies byte (inr i) = let st = k.stack in let i0 = i.0 in inr (omega (arith, st, i0), i.1)

-- Arguments

from-alike : (g : Ground) (apart : ℕ → Bool) (m : Map) (k : ℕ) (vs : List Value) (x y : State) → Alike apart x y → stack_start ≤ reg x.core 29
    → ((n : ℕ) → reg x.core 29 + 4 + 4 * k ≤ n → n < reg x.core 29 + 4 + 4 * (k + length vs) → apart n ≡ false) → StandFrom g m k vs x.core → StandFrom g m k vs y.core
from-alike g apart m k [] x y l high out h = tt
from-alike g apart m k (v ∷ vs) x y l high out h =
    let w : read_word x.core (reg x.core 29 + 4 + 4 * k) ≡ read_word y.core (reg x.core 29 + 4 + 4 * k) =
    word-alike apart x y (reg x.core 29 + 4 + 4 * k) l.memory (omega (arith, high)) (λ i j. out (reg x.core 29 + 4 + 4 * k + i) (omega arith) (omega (arith, j))) in (
      subst (λ z. StandsValue g m v z) (w ∙ ap (λ z. read_word y.core (z + 4 + 4 * k)) l.stack) h.0,
      from-alike g apart m (k + 1) vs x y l high (λ n p q. out n (omega (arith, p)) (omega (arith, q))) h.1,
    )

pub arguments-alike : (g : Ground) (apart : ℕ → Bool) (m : Map) (vs : List Value) (x y : State) → Alike apart x y → stack_start ≤ reg x.core 29
    → ((n : ℕ) → IsArgument x.core (length vs) n → apart n ≡ false) → StandArguments g m vs x.core → StandArguments g m vs y.core
arguments-alike g apart m [] x y l high out h = tt
arguments-alike g apart m (v ∷ vs) x y l high out h =
    (subst (λ z. StandsValue g m v z) l.result h.0, from-alike g apart m 1 vs x y l high (λ n p q. out n (omega (arith, p), omega (arith, q))) h.1)
