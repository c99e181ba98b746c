-- The machine's run from the bytes of an executable.
use Rattle.std.specs.Prelude.{◌≡◌, ℕ, List, Option, Some, None, option_map, Result, Ok, Err, IsSomeAnd}
use Rattle.p9_base.specs.declared.halt.HaltCause.{HaltCause}
use Rattle.p9_base.specs.declared.halt.Ending.{Ending}
use Rattle.p9_base.specs.declared.halt.Ending.TheVariants.{Running, Exited, Halted}
use Rattle.p9_r3k.specs.Machine.{State, run, exit_text}
use Rattle.p9_r3k.specs.Start.{start}
use Rattle.p9_aout.specs.declared.format.AoutFault.{AoutFault}
use Rattle.p9_aout.specs.Image.{ImageParts, image_of}

-- the machine at the start of an image
abbrev pub start_of : ImageParts → (input : List ℕ) → State
start_of parts input = start parts.text parts.init parts.bss parts.entry input

abbrev pub started : Result ImageParts AoutFault → (input : List ℕ) → Option State
started (Ok parts) input = Some (start_of parts input)
started (Err fault) input = None

-- the state m steps after the start of the bytes' image; none where the bytes are no executable
unfoldable pub vrun : (bytes input : List ℕ) (m : ℕ) → Option State
vrun bytes input m = option_map (run m) (started (image_of bytes) input)

-- the machine has exited
abbrev pub IsExited : Ending → Type 0
IsExited Running = ⊥
IsExited (Exited at length) = Unit {0}
IsExited (Halted cause pc) = ⊥

-- the run has exited after m steps, with this output and this text
abbrev pub HasExited : (bytes input : List ℕ) (m : ℕ) (output text : List ℕ) → Type 0
HasExited bytes input m output text =
    IsSomeAnd (vrun bytes input m) (λ s. IsExited s.core.ending × (exit_text s.core ≡ text) × (s.out ≡ output))

-- the run goes on after m steps, with this output so far
abbrev pub IsRunning : (bytes input : List ℕ) (m : ℕ) (output : List ℕ) → Type 0
IsRunning bytes input m output =
    IsSomeAnd (vrun bytes input m) (λ s. (s.core.ending ≡ Running) × (s.out ≡ output))

-- the run has halted after m steps, with this output, for this cause at this instruction
abbrev pub HasHalted : (bytes input : List ℕ) (m : ℕ) (output : List ℕ) → HaltCause → (pc : ℕ) → Type 0
HasHalted bytes input m output cause pc =
    IsSomeAnd (vrun bytes input m) (λ s. (s.core.ending ≡ Halted cause pc) × (s.out ≡ output))
