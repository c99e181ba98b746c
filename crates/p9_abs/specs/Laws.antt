-- Laws of steps, of code over automatics and of programs.
use Rattle.std.specs.Prelude.{◌≡◌, ◌≢◌, ◌≤◌, ◌<◌, ◌↔◌, ℕ, ◌+◌, ◌++◌, Bool, true, false, Option, Some, None, List, length, slice_get, All}
use Rattle.p9_base.specs.Words.{IsWord}
use Rattle.p9_base.specs.Core.{Core, stack_start, reg, read_byte}
use Rattle.p9_base.specs.SystemCalls.{State}
use Rattle.p9_base.specs.Holding.{HoldsWords, AreBytes, LaidOut, KeepsText}
use Rattle.p9_abs.specs.declared.instructions.Abs.{Abs}
use Rattle.p9_abs.specs.declared.forms.Form.{Form}
use Rattle.p9_abs.specs.declared.forms.Form.TheVariants as forms
use Rattle.p9_abs.specs.declared.modules.AModule.{AModule}
use Rattle.p9_abs.specs.declared.modules.Def.{Def}
use Rattle.p9_abs.specs.Validity.{writes_last, IsWritable}
use Rattle.p9_abs.specs.Names.{IsChosen, IsUndefined}
use Rattle.p9_abs.specs.Automatics.{form_at, reached, Along}
use Rattle.p9_abs.specs.Steps.{Mach, Around, Step, Next, Turns, Calls, Returns, Exits, Undefined, step, without_text}
use Rattle.p9_abs.specs.Keeping.{Side, Follows, nowhere}
use Rattle.p9_abs.specs.Runs.{Routine, Addresses, Status, Going, Gone, Broken, arun_from}
use Rattle.p9_abs.specs.Programs.{chosen}

-- Steps

-- of the machine that a step gives, unless the step is undefined
abbrev pub IfMach : (Mach → Type 0) → Step → Type 0
IfMach P (Next y) = P y
IfMach P (Turns taken y) = P y
IfMach P (Calls to y) = P y
IfMach P (Returns y) = P y
IfMach P (Exits y) = P y
IfMach P Undefined = Unit {0}

-- no step changes the byte order, the sizes of memory, or the bytes below the data
abbrev pub MemoryStays : Type 0
MemoryStays =
    (around : Around) (code : List Abs) (x : Mach) →
    (let from : Mach = without_text x in LaidOut from.state.core → IfMach (λ y. KeepsText from.state.core y.state.core) (step around code x))

-- registers and variables hold words, and memory and input hold bytes
pub record Holds (x : Mach) : Type 0 where
  pub words : HoldsWords x.state.core
  pub input : AreBytes x.state.left
  pub variables : All IsWord x.vars

abbrev pub WordsStay : Type 0
WordsStay = (around : Around) (code : List Abs) (x : Mach) → Holds x → IfMach Holds (step around code x)

-- output and input are as before, and there is no exit
abbrev pub IsSilent : State → Step → Type 0
IsSilent s (Next y) = (y.state.out ≡ s.out) × (y.state.left ≡ s.left)
IsSilent s (Turns taken y) = (y.state.out ≡ s.out) × (y.state.left ≡ s.left)
IsSilent s (Calls to y) = (y.state.out ≡ s.out) × (y.state.left ≡ s.left)
IsSilent s (Returns y) = (y.state.out ≡ s.out) × (y.state.left ≡ s.left)
IsSilent s (Exits y) = ⊥
IsSilent s Undefined = Unit {0}

-- all instructions but SYSCALL
abbrev pub SilentSteps : Type 0
SilentSteps =
    (around : Around) (code : List Abs) (x : Mach) → form_at code x.at ≢ Some forms.SystemCall → IsSilent x.state (step around code x)

-- output only grows
abbrev pub Grows : List ℕ → List ℕ → Type 0
Grows xs ys = (more : List ℕ) × (ys ≡ xs ++ more)

abbrev pub OutputGrows : Type 0
OutputGrows = (around : Around) (code : List Abs) (x : Mach) → IfMach (λ y. Grows x.state.out y.state.out) (step around code x)

-- an instruction that writes none of R29, R30 and R31 by its form leaves them
abbrev pub StackStays : Type 0
StackStays =
    (around : Around) (code : List Abs) (x : Mach) (a : Abs) → slice_get code x.at ≡ Some a → (writes_last a.op ≡ true → IsWritable a.operands) →
    IfMach (λ y. (reg y.state.core 29 ≡ reg x.state.core 29) × (reg y.state.core 30 ≡ reg x.state.core 30) × (reg y.state.core 31 ≡ reg x.state.core 31))
    (step around code x)

-- a byte of the stack that is banned is left as it was
abbrev pub BannedStay : Type 0
BannedStay =
    (around : Around) (code : List Abs) (x : Mach) (b : ℕ) →
    (let from : Mach = without_text x in LaidOut from.state.core) → stack_start ≤ b → around.banned b ≡ true →
    IfMach (λ y. read_byte y.state.core b ≡ read_byte x.state.core b) (step around code x)

-- Code over automatics

-- an instruction can be reached exactly where a way leads to it from the first
abbrev pub ReachedByWays : Type 0
ReachedByWays = (code : List Abs) (i : ℕ) → (reached code i ≡ true) ↔ ((0 < length code) × (way : List ℕ) × Along code 0 way i)

-- code that follows code that follows code over the same automatics follows it
abbrev pub KeepsCompose : Type 0
KeepsCompose =
    (apart : ℕ → Bool) (a b c : Side) (x y z : Mach) →
    ((n : ℕ) → Follows nowhere a b n x y) → ((n : ℕ) → Follows apart b c n y z) → (n : ℕ) → Follows apart a c n x z

-- Runs

-- m + n steps are n steps after m steps
abbrev pub RunsCompose : Type 0
RunsCompose = (p : Addresses) (rs : List Routine) (m n : ℕ) (s : Status) → arun_from p rs (m + n) s ≡ arun_from p rs n (arun_from p rs m s)

abbrev pub HasEnded : Status → Type 0
HasEnded (Going r) = ⊥
HasEnded (Gone s) = Unit {0}
HasEnded Broken = Unit {0}

abbrev pub EndedRunsStay : Type 0
EndedRunsStay = (p : Addresses) (rs : List Routine) (n : ℕ) (s : Status) → HasEnded s → arun_from p rs n s ≡ s

-- Programs

-- the chosen definition is text or data, or where there is none the first common one; a name without
-- one isn't defined
abbrev pub ChosenIsChosen : Type 0
ChosenIsChosen = (ms : List AModule) (name : List ℕ) (d : Def) → chosen ms name ≡ Some d → IsChosen ms name d

abbrev pub NoneIsUndefined : Type 0
NoneIsUndefined = (ms : List AModule) (name : List ℕ) → chosen ms name ≡ None → IsUndefined ms name
