-- When the code of a function is right: assembled code, and code over automatics under every layout.
use Rattle.std.specs.Prelude.{◌≡◌, ◌≤◌, ℕ, ◌+◌, ◌-◌, ◌&&◌, ◌||◌, nat_le, nat_lt, not, Bool, Some, if◌then◌else◌, List, [], All}
use Rattle.p9_base.specs.Words.{IsWord}
use Rattle.p9_base.specs.Core.{stack_start, reg, with_word}
use Rattle.p9_base.specs.SystemCalls.{State}
use Rattle.p9_abs.specs.declared.instructions.AFunction.{AFunction}
use Rattle.p9_abs.specs.declared.instructions.TextDef.{TextDef}
use Rattle.p9_abs.specs.Runs.{keeps, taken_by, in_word, lowered}
use Rattle.p9_abs.specs.OneCall.{Layout, IsLayout, in_automatic, in_gap, around_call}
use Rattle.p9_abs.specs.Keeping.{HasVariables, nowhere, around_framed}
use Rattle.p9_cmean.specs.Cells as c
use Rattle.p9_cmean.specs.Cells.{FunctionName, Value}
use Rattle.p9_cmean.specs.Plays.{Call, Play}
use Rattle.p9_cmean.specs.Turns.{room}
use Rattle.p9_sim.specs.Memory.{Map, Ground}
use Rattle.p9_sim.specs.Matching.{AtCall, Entry, entry_of}
use Rattle.p9_sim.specs.Playing.{Counting, Setting, first_count, Performs}

-- ENTRIES

-- R29 behind the entry
abbrev pub lowered_stack : TextDef → State → ℕ
lowered_stack def x = reg x.core 29 - taken_by def

-- the entry takes the frame, and stores R31 at R29
abbrev pub after_entry : TextDef → State → State
after_entry def x =
    if keeps def then record x { core = with_word (lowered x.core (def.frame + 4)) (reg x.core 29 - (def.frame + 4)) (reg x.core 31) } else x

-- ASSEMBLED CODE

-- the bytes of return addresses that active calls keep: those of others, and the own one
abbrev pub kept_with : (others : ℕ → Bool) → TextDef → (sp : ℕ) → ℕ → Bool
kept_with others def sp byte = others byte || (keeps def && in_word byte (Some sp))

abbrev pub setting_of : Ground → Counting → (symbol : ℕ → ℕ) → TextDef → (others : ℕ → Bool) → (active need : ℕ) → Entry → Setting
setting_of g counting symbol def others active need entry =
    let sp : ℕ = lowered_stack def entry.state in
    record {
      placing = g;
      counting = counting;
      around = around_framed symbol def sp others;
      def = def;
      loose = nowhere;
      shut = kept_with others def sp;
      active = active + need;
      outer_shut = others;
      outer_active = active;
      entry = entry;
    }

-- what a function does when it is called, each of its loops being given so many turns
abbrev pub Body : Type 0
Body = (turns : ℕ) → Call → c.State → Play Value

-- At every matched call for which there is room, from whatever callers, who keep their return
-- addresses at the bytes `others`, the entry finds its stack, and the code does what the body does.
abbrev pub FnOk : Counting → Ground → (symbol : ℕ → ℕ) → TextDef → (need : ℕ) → Body → FunctionName → Type 0
FnOk counting g symbol def need body name =
    (others : ℕ → Bool) (active turns : ℕ) (call : Call) (s : c.State) (m : Map) (x : State)
    → call.function ≡ name → active + need ≤ room → AtCall g others others active m call s x
    → (stack_start + taken_by def ≤ reg x.core 29)
    × Performs (setting_of g counting symbol def others active need (entry_of m s call x)) (body turns call s) m first_count
    (record { state = after_entry def x; vars = []; at = 0 })

-- CODE OVER AUTOMATICS

-- in a layout of its frame it is entered and left as assembled code with that frame
abbrev pub framed_as : AFunction → Layout → TextDef
framed_as f l = record { frame = l.frame; code = f.code }

-- a byte of the own frame that is no automatic's
abbrev pub is_no_automatic : AFunction → Layout → (sp : ℕ) → ℕ → Bool
is_no_automatic f l sp byte = (nat_le (sp + 4) byte && nat_lt byte (sp + 4 + l.frame)) && not (in_automatic l.offsets f.autos (byte - sp))

abbrev pub setting_over : Ground → Counting → (symbol : ℕ → ℕ) → AFunction → Layout → (others : ℕ → Bool) → (active need : ℕ) → Entry → Setting
setting_over g counting symbol f l others active need entry =
    let sp : ℕ = lowered_stack (framed_as f l) entry.state in
    record {
      placing = g;
      counting = counting;
      around = around_call symbol f l sp others;
      def = framed_as f l;
      loose = in_gap f l sp;
      shut = λ byte. kept_with others (framed_as f l) sp byte || is_no_automatic f l sp byte;
      active = active + need;
      outer_shut = others;
      outer_active = active;
      entry = entry;
    }

-- The same under every layout with room for its frame, whatever words its variables hold at first. At each
-- of its calls no live object owns a byte of the own frame that is no automatic's.
abbrev pub FnOkOver : Counting → Ground → (symbol : ℕ → ℕ) → AFunction → (need : ℕ) → Body → FunctionName → Type 0
FnOkOver counting g symbol f need body name =
    (l : Layout) (vars : List ℕ) (others : ℕ → Bool) (active turns : ℕ) (call : Call) (s : c.State) (m : Map) (x : State)
    → IsLayout f l → l.frame + 4 ≤ need → HasVariables f (record { state = x; vars = vars; at = 0 }) → All IsWord vars
    → call.function ≡ name → active + need ≤ room → AtCall g others others active m call s x
    → Performs (setting_over g counting symbol f l others active need (entry_of m s call x)) (body turns call s) m first_count
    (record { state = after_entry (framed_as f l) x; vars = vars; at = 0 })
