-- Code that keeps the meaning of code over automatics: it comes through the same branches, calls and
-- return, as a game over the steps of the code given.
use Rattle.std.specs.Prelude.{ℕ, zero, suc, ◌+◌, ◌-◌, ◌*◌, ◌%◌, ◌^◌, ◌==◌, ◌&&◌, ◌||◌, ◌≡◌, ◌≤◌, ◌<◌, nat_le, nat_lt, if◌then◌else◌, Bool, true, false, Option, Some, None, List, [], ◌∷◌, length, slice_get, slice_index}
use Rattle.p9_base.specs.Core.{Core, stack_start, stack_end, reg, read_byte, read_half, read_word}
use Rattle.p9_base.specs.Holding.{HoldsWords, AreBytes, LaidOut}
use Rattle.p9_base.specs.SystemCalls.{State, exit_text}
use Rattle.p9_abs.specs.declared.instructions.Abs.{Abs}
use Rattle.p9_abs.specs.declared.instructions.AFunction.{AFunction}
use Rattle.p9_abs.specs.declared.instructions.TextDef.{TextDef}
use Rattle.p9_abs.specs.declared.regions.Region.{Region}
use Rattle.p9_abs.specs.Automatics.{is_variable}
use Rattle.p9_abs.specs.Steps.{Mach, Around, Step, Next, Turns, Calls, Returns, Exits, Undefined, step, without_text}
use Rattle.p9_abs.specs.Runs.{keeps, taken_by, taken_from_stack, in_word}
use Rattle.p9_abs.specs.OneCall.{Layout, around_call, size_at}
use Rattle.p9_abs.specs.Framed.{Plan, IsFramed}

-- The same states, but for some bytes

-- memory outside the bytes that are apart, what is left of the input, and the output
pub record SameMemory (apart : ℕ → Bool) (x y : State) : Type 0 where
  pub bytes : (a : ℕ) → apart a ≡ false → read_byte x.core a ≡ read_byte y.core a
  pub low : length x.core.low ≡ length y.core.low
  pub stack : length x.core.stack ≡ length y.core.stack
  pub order : x.core.order ≡ y.core.order
  pub data_start : x.core.data_start ≡ y.core.data_start
  pub input : x.left ≡ y.left
  pub output : x.out ≡ y.out

-- a call leaves how memory lies
pub record SameSizes (x u : State) : Type 0 where
  pub order : u.core.order ≡ x.core.order
  pub data_start : u.core.data_start ≡ x.core.data_start
  pub low : length u.core.low ≡ length x.core.low
  pub stack : length u.core.stack ≡ length x.core.stack

-- what a caller and a callee see at a call or return
pub record Meet (apart : ℕ → Bool) (x y : Mach) : Type 0 where
  pub result : reg x.state.core 1 ≡ reg y.state.core 1
  pub stack : reg x.state.core 29 ≡ reg y.state.core 29
  pub base : reg x.state.core 30 ≡ reg y.state.core 30
  pub memory : SameMemory apart x.state y.state

-- an answered call leaves both with equal registers, HI, LO and memory, keeps R29 and R30, and leaves
-- variables and the bytes that are apart as they were
pub record Answers (apart : ℕ → Bool) (x y u w : Mach) : Type 0 where
  pub registers : u.state.core.regs ≡ w.state.core.regs
  pub high : u.state.core.hi ≡ w.state.core.hi
  pub lower : u.state.core.lo ≡ w.state.core.lo
  pub stack : reg u.state.core 29 ≡ reg x.state.core 29
  pub base : reg u.state.core 30 ≡ reg x.state.core 30
  pub memory : SameMemory apart u.state w.state
  pub words : HoldsWords u.state.core × HoldsWords w.state.core
  pub sizes : SameSizes x.state u.state
  pub variables : (u.vars ≡ x.vars) × (w.vars ≡ y.vars)
  pub kept : (a : ℕ) → apart a ≡ true → read_byte w.state.core a ≡ read_byte y.state.core a
  pub on : (u.at ≡ x.at) × (w.at ≡ y.at)

-- The game

-- code, and what it stands in
pub record Side : Type 0 where
  pub around : Around
  pub code : List Abs

abbrev pub steps_of : Side → Mach → Step
steps_of s x = step s.around s.code x

-- steps without an event
abbrev pub Quiet : Side → ℕ → Mach → Mach → Type 0
Quiet s zero x y = x ≡ y
Quiet s (suc j) x y = (z : Mach) × (steps_of s x ≡ Next z) × Quiet s j z y

-- a step back is a branch that is taken, or a JMP, to an instruction that isn't later
abbrev pub is_back : Bool → ℕ → ℕ → Bool
is_back taken from to = taken && nat_le to from

-- the second code comes through the step of the first: by quiet steps to the same event. It goes back
-- only where the first does.
abbrev pub FollowsBy : (ℕ → Bool) → Side → Step → (Mach → Mach → Type 0) → Mach → Mach → Type 0
FollowsBy apart b (Next u) F x y = F u y
FollowsBy apart b (Turns taken u) F x y =
    (j : ℕ) × (z w : Mach) × Quiet b j y z × (steps_of b z ≡ Turns taken w)
    × (is_back taken z.at w.at ≡ true → is_back taken x.at u.at ≡ true) × F u w
FollowsBy apart b (Calls to u) F x y =
    (j : ℕ) × (z w : Mach) × Quiet b j y z × (steps_of b z ≡ Calls to w) × Meet apart u w
    × ((p q : Mach) → Answers apart u w p q → F p q)
FollowsBy apart b (Returns u) F x y =
    (j : ℕ) × (z w : Mach) × Quiet b j y z × (steps_of b z ≡ Returns w) × Meet apart u w
FollowsBy apart b (Exits u) F x y =
    (j : ℕ) × (z w : Mach) × Quiet b j y z × (steps_of b z ≡ Exits w)
    × (exit_text u.state.core ≡ exit_text w.state.core) × (u.state.out ≡ w.state.out)
FollowsBy apart b Undefined F x y = Unit {0}

-- through n steps of the first
abbrev pub Follows : (ℕ → Bool) → Side → Side → ℕ → Mach → Mach → Type 0
Follows apart a b zero x y = Unit {0}
Follows apart a b (suc n) x y = FollowsBy apart b (steps_of a x) (Follows apart a b n) x y

-- Starts

-- a state that an entry gives: R29 and the frame lie in the stack, and what the entry took from R29 is
-- apart from what others keep. Where it took nothing, R29 is the caller's, whose return address is kept there.
pub record IsEntry (frame taken : ℕ) (others : ℕ → Bool) (x : Mach) : Type 0 where
  pub first : x.at ≡ 0
  pub words : HoldsWords x.state.core
  pub input : AreBytes x.state.left
  pub laid : (let y : Mach = without_text x in LaidOut y.state.core)
  pub fourfold : reg x.state.core 29 % 4 ≡ 0
  pub low : stack_start ≤ reg x.state.core 29
  pub high : reg x.state.core 29 + frame + 4 ≤ stack_end
  pub apart : (b : ℕ) → b < taken → others (reg x.state.core 29 + b) ≡ false

-- each variable holds so many low bytes as it has
pub record HasVariables (f : AFunction) (x : Mach) : Type 0 where
  pub count : length x.vars ≡ length f.autos
  pub low : (v value : ℕ) → is_variable f v ≡ true → slice_get x.vars v ≡ Some value → value < 2 ^ (8 * size_at f v)

-- an automatic's content in memory; one whose size is no move's has none that could be read
abbrev pub content : Core → ℕ → ℕ → Option ℕ
content c a size =
    if size == 1 then Some (read_byte c a) else
    if size == 2 then Some (read_half c a) else
    if size == 4 then Some (read_word c a) else None

-- Code over the same automatics

-- no byte
abbrev pub nowhere : ℕ → Bool
nowhere b = false

abbrev pub side_of : (ℕ → ℕ) → AFunction → Layout → ℕ → (ℕ → Bool) → Side
side_of symbol f l sp others = record { around = around_call symbol f l sp others; code = f.code }

-- in one layout, from one state with any content of the variables
abbrev pub KeepsOver : AFunction → AFunction → Layout → Type 0
KeepsOver f g l =
    (symbol : ℕ → ℕ) (others : ℕ → Bool) (n : ℕ) (x : Mach) → IsEntry l.frame (taken_from_stack l.frame f.code) others x → HasVariables f x →
    (let sp : ℕ = reg x.state.core 29 in
    Follows nowhere (side_of symbol f l sp others) (side_of symbol g l sp others) n x x)

-- Framed code

-- the layout in which framed code of this frame has these offsets for all automatics
abbrev pub offset_or_none : Bool → ℕ → Option ℕ
offset_or_none true p = None
offset_or_none false p = Some p

abbrev pub memory_offsets : AFunction → ℕ → List ℕ → List (Option ℕ)
memory_offsets f v [] = []
memory_offsets f v (p ∷ ps) = offset_or_none (is_variable f v) p ∷ memory_offsets f (v + 1) ps

abbrev pub layout_of : AFunction → ℕ → List ℕ → Layout
layout_of f frame offsets = record { frame = frame; offsets = memory_offsets f 0 offsets }

-- byte b, counted from R29, lies at the offset of a variable
abbrev pub in_variable : AFunction → ℕ → List ℕ → ℕ → Bool
in_variable f v [] b = false
in_variable f v (p ∷ ps) b = (is_variable f v && (nat_le p b && nat_lt b (p + size_at f v))) || in_variable f (v + 1) ps b

-- what a call of framed code stands in: it has no automatics, and only kept words are banned
abbrev pub around_framed : (ℕ → ℕ) → TextDef → ℕ → (ℕ → Bool) → Around
around_framed symbol def sp others = record {
  symbol = symbol;
  taken = taken_by def;
  offsets = [];
  banned = λ b. others b || (keeps def && in_word b (Some sp));
}

abbrev pub framed_side : (ℕ → ℕ) → TextDef → ℕ → (ℕ → Bool) → Side
framed_side symbol def sp others = record { around = around_framed symbol def sp others; code = def.code }

-- each variable's content is that of its offset
abbrev pub HoldsVariables : AFunction → List ℕ → Mach → Mach → Type 0
HoldsVariables f offsets x y =
    (v p value : ℕ) → is_variable f v ≡ true → slice_get offsets v ≡ Some p →
    content y.state.core (reg y.state.core 29 + p) (size_at f v) ≡ Some value → slice_get x.vars v ≡ Some value

-- both start in one state
abbrev pub KeepsFramed : AFunction → List ℕ → TextDef → Type 0
KeepsFramed f offsets def =
    (symbol : ℕ → ℕ) (others : ℕ → Bool) (n : ℕ) (x y : Mach) → IsEntry def.frame (taken_by def) others x → HasVariables f x →
    x.state ≡ y.state → y.at ≡ 0 → HoldsVariables f offsets x y →
    (let sp : ℕ = reg x.state.core 29 in
    Follows (λ b. nat_le sp b && in_variable f 0 offsets (b - sp))
    (side_of symbol f (layout_of f def.frame offsets) sp others) (framed_side symbol def sp others) n x y)

-- the code is framed from f with these homes, and keeps its meaning at the same offsets
abbrev pub IsSettled : AFunction → List Region → List (Option ℕ) → TextDef → Type 0
IsSettled f rs homes def = (p : Plan) × IsFramed f rs homes def p × KeepsFramed f p.offsets def
