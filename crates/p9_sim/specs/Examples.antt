-- Small functions: code that is right, and wrong codes, which no setting and no state makes right.
use Rattle.std.specs.Prelude.{◌≡◌, ◌≢◌, ◌^◌, ◌-◌, ℕ, List, [], ◌∷◌, ◌++◌}
use Rattle.p9_base.specs.SystemCalls.{State, exit_text}
use Rattle.p9_base.specs.Holding.{HoldsWords}
use Rattle.p9_abs.specs.declared.instructions.Op.{Op}
use Rattle.p9_abs.specs.declared.instructions.Op.TheVariants.{MovW, AddU, Bne, Jal, Ret}
use Rattle.p9_abs.specs.declared.instructions.Operand.{Operand}
use Rattle.p9_abs.specs.declared.instructions.Operand.TheVariants.{Reg, Const, Label, Func}
use Rattle.p9_abs.specs.declared.instructions.Abs.{Abs}
use Rattle.p9_abs.specs.declared.instructions.TextDef.{TextDef}
use Rattle.p9_abs.specs.Steps.{Mach, Returns, Exits}
use Rattle.p9_cmean.specs.Cells as c
use Rattle.p9_cmean.specs.Cells.{FunctionName, Value, Word}
use Rattle.p9_cmean.specs.Plays.{Call, Play, Done, Exit, Ask}
use Rattle.p9_sim.specs.Memory.{Map, Ground}
use Rattle.p9_sim.specs.Playing.{Counting, AllSteps, Branches, Count, first_count, Setting, step_in, Goes, Performs}
use Rattle.p9_sim.specs.Functions.{Body, FnOk}

abbrev pub inst : Op → List Operand → Abs
inst code parts = record { op = code; operands = parts }

abbrev pub without_frame : List Abs → TextDef
without_frame code = record { frame = 0; code = code }

abbrev pub with_code : Setting → List Abs → Setting
with_code set code = record set { def = without_frame code }

abbrev pub at_first : State → Mach
at_first x = record { state = x; vars = []; at = 0 }

-- COUNTING: code that is right where branches, JMP and JAL alone are counted is right where all steps are

abbrev pub BranchesAreSteps : Type 0
BranchesAreSteps =
    (g : Ground) (symbol : ℕ → ℕ) (def : TextDef) (need : ℕ) (body : Body) (name : FunctionName)
    → FnOk Branches g symbol def need body name → FnOk AllSteps g symbol def need body name

-- RIGHT: `int five(void) { return 5; }`

abbrev pub five_code : List Abs
five_code = inst MovW (Const 5 ∷ Reg 1 ∷ []) ∷ inst Ret [] ∷ []

abbrev pub five : Body
five turns call s = Done (Word 5) s

abbrev pub FiveIsRight : Type 0
FiveIsRight =
    (counting : Counting) (g : Ground) (symbol : ℕ → ℕ) (need : ℕ) (name : FunctionName)
    → FnOk counting g symbol (without_frame five_code) need five name

-- WRONG

-- 7 is kept in R9 over a call, and then given: `int seven(void) { g(); return 7; }`
abbrev pub register_code : List Abs
register_code =
    inst MovW (Const 7 ∷ Reg 9 ∷ [])
    ∷ inst Jal (Func 0 ∷ [])
    ∷ inst MovW (Reg 9 ∷ Reg 1 ∷ [])
    ∷ inst Ret []
    ∷ []

abbrev pub RegisterOverCall : Type 0
RegisterOverCall =
    (set : Setting) (call : Call) (s : c.State) (m : Map) (d : Count) (x : State)
    → Performs (with_code set register_code) (Ask call s (λ v t. Done (Word 7) t)) m d (at_first x) → ⊥

-- the right operand's call is made first: `int sum(void) { return f() + g(); }`, where g is symbol 1
abbrev pub right_first_code : List Abs
right_first_code =
    inst Jal (Func 1 ∷ [])
    ∷ inst MovW (Reg 1 ∷ Reg 9 ∷ [])
    ∷ inst Jal (Func 0 ∷ [])
    ∷ inst AddU (Reg 9 ∷ Reg 1 ∷ Reg 1 ∷ [])
    ∷ inst Ret []
    ∷ []

abbrev pub RightFirst : Type 0
RightFirst =
    (set : Setting) (left : Call) (s : c.State) (rest : Value → c.State → Play Value) (m : Map) (d : Count) (x : State)
    → set.around.symbol 1 ≢ set.placing.function left.function
    → Performs (with_code set right_first_code) (Ask left s rest) m d (at_first x) → ⊥

-- R8 is counted down from 2^32 - 1 before anything else is done
abbrev pub countdown_code : List Abs
countdown_code =
    inst MovW (Const (2 ^ 32 - 1) ∷ Reg 8 ∷ [])
    ∷ inst AddU (Const (2 ^ 32 - 1) ∷ Reg 8 ∷ Reg 8 ∷ [])
    ∷ inst Bne (Reg 8 ∷ Reg 0 ∷ Label 1 ∷ [])
    ∷ inst MovW (Const 5 ∷ Reg 1 ∷ [])
    ∷ inst Ret []
    ∷ []

abbrev pub Countdown : Type 0
Countdown =
    (set : Setting) (v : Value) (s : c.State) (m : Map) (x : State) → HoldsWords x.core
    → Performs (with_code set countdown_code) (Done v s) m first_count (at_first x) → ⊥

-- whatever code has more output at its return than the function, as where it is written twice
abbrev pub PrintedTwice : Type 0
PrintedTwice =
    (set : Setting) (v : Value) (s : c.State) (m : Map) (d e : Count) (x y z : Mach) (j b : ℕ) (more : List ℕ)
    → Goes set j x d y e → step_in set y ≡ Returns z → z.state.out ≡ s.output ++ b ∷ more
    → Performs set (Done v s) m d x → ⊥

-- whatever code has read more input at its exit than the function
abbrev pub ReadBehindExit : Type 0
ReadBehindExit =
    (set : Setting) (text : List ℕ) (s : c.State) (m : Map) (d e : Count) (x y z : Mach) (j b : ℕ) (more : List ℕ)
    → Goes set j x d y e → step_in set y ≡ Exits z → s.input ≡ b ∷ (more ++ z.state.left)
    → Performs set (Exit text s) m d x → ⊥

-- whatever code exits with another text
abbrev pub OtherText : Type 0
OtherText =
    (set : Setting) (text : List ℕ) (s : c.State) (m : Map) (d e : Count) (x y z : Mach) (j : ℕ)
    → Goes set j x d y e → step_in set y ≡ Exits z → exit_text z.state.core ≢ text
    → Performs set (Exit text s) m d x → ⊥
