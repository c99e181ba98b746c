-- Laws of the machines' runs.
use Rattle.std.specs.Prelude.{ℕ, ◌+◌, ◌-◌, ◌^◌, ◌≡◌, ◌≤◌, ◌++◌, List, length, take}
pub use Rattle.p9_base.specs.Holding.{AreWords, AreBytes, HoldsWords, LaidOut, KeepsText}
use Rattle.p9_base.specs.declared.order.ByteOrder.{ByteOrder}
use Rattle.p9_base.specs.declared.halt.Ending.{Ending}
use Rattle.p9_base.specs.declared.halt.Ending.TheVariants.{Running, Exited, Halted}
use Rattle.p9_r3k.specs.declared.lines.Line.{Line}
use Rattle.p9_r3k.specs.Memory.{Core, text_start, stack_start, stack_end, reg, low_end, read_word, word_in}
use Rattle.p9_r3k.specs.Machine.{State, run}
use Rattle.p9_r3k.specs.Start.{start, in_order}
use Rattle.p9_r3k.specs.Pending.{Pending, settled, pending_run}
use Rattle.p9_r3k.specs.Straight.{Addresses, Straight, straight_run}

abbrev pub HasEnded : Ending → Type 0
HasEnded Running = ⊥
HasEnded (Exited at len) = Unit {0}
HasEnded (Halted cause pc) = Unit {0}

abbrev pub EndedStays : Type 0
EndedStays = (n : ℕ) (s : State) → HasEnded s.core.ending → run n s ≡ s

abbrev pub RunsCompose : Type 0
RunsCompose = (m n : ℕ) (s : State) → run (m + n) s ≡ run n (run m s)

-- the second list begins with the first
abbrev pub Extends : List ℕ → List ℕ → Type 0
Extends xs ys = (more : List ℕ) × (ys ≡ xs ++ more)

-- the first list ends with the second
abbrev pub EndsWith : List ℕ → List ℕ → Type 0
EndsWith xs ys = (before : List ℕ) × (xs ≡ before ++ ys)

abbrev pub OutputGrows : Type 0
OutputGrows = (n : ℕ) (s : State) → Extends s.out (run n s).out

abbrev pub InputShrinks : Type 0
InputShrinks = (n : ℕ) (s : State) → EndsWith s.left (run n s).left

abbrev pub TextStays : Type 0
TextStays = (n : ℕ) (s : State) → LaidOut s.core → KeepsText s.core (run n s).core

abbrev pub WordsStay : Type 0
WordsStay =
    (n : ℕ) (s : State) → HoldsWords s.core → AreBytes s.left →
    HoldsWords (run n s).core × AreBytes (run n s).left

-- an image's text, data with bss, within what the machine has room for
abbrev pub ImageFits : (text init : List ℕ) → (bss : ℕ) → Type 0
ImageFits text init bss = (length text ≤ 2 ^ 25) × (length init + bss ≤ 2 ^ 24)

abbrev pub StartsLaidOut : Type 0
StartsLaidOut =
    (text init : List ℕ) (bss entry : ℕ) (input : List ℕ) →
    ImageFits text init bss → LaidOut (start text init bss entry input).core

-- at every step the words of the text are the image's, by the machine's byte order
abbrev pub RunsItsText : Type 0
RunsItsText =
    (order : ByteOrder) (text init : List ℕ) (bss entry : ℕ) (input : List ℕ) (n a : ℕ) →
    ImageFits text init bss → text_start ≤ a → a + 4 ≤ text_start + length text →
    read_word (run n (in_order order (start text init bss entry input))).core a ≡ word_in order text (a - text_start)

abbrev pub StartsWithWords : Type 0
StartsWithWords =
    (text init : List ℕ) (bss entry : ℕ) (input : List ℕ) →
    AreBytes text → AreBytes init → HoldsWords (start text init bss entry input).core

-- Of the straight machine

abbrev pub StraightEndedStays : Type 0
StraightEndedStays =
    (a : Addresses) (lines : List Line) (n : ℕ) (x : Straight) →
    HasEnded x.state.core.ending → straight_run a lines n x ≡ x

abbrev pub StraightRunsCompose : Type 0
StraightRunsCompose =
    (a : Addresses) (lines : List Line) (m n : ℕ) (x : Straight) →
    straight_run a lines (m + n) x ≡ straight_run a lines n (straight_run a lines m x)

abbrev pub StraightOutputGrows : Type 0
StraightOutputGrows =
    (a : Addresses) (lines : List Line) (n : ℕ) (x : Straight) →
    Extends x.state.out (straight_run a lines n x).state.out

abbrev pub StraightInputShrinks : Type 0
StraightInputShrinks =
    (a : Addresses) (lines : List Line) (n : ℕ) (x : Straight) →
    EndsWith x.state.left (straight_run a lines n x).state.left

-- Of the machine whose loads come one instruction later

-- it stands as the machine whose loads come at once, but for the value that is on its way
abbrev pub LoadsComeLater : Type 0
LoadsComeLater = (n : ℕ) (p : Pending) → settled (pending_run n p) ≡ run n (settled p)
