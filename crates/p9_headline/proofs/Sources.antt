-- A source whose executable keeps its meaning has ended where the machine has exited, and the machine never halts.
use Rattle.std.proofs.Common.{◌≡◌, ℕ, ◌+◌, List, refl, arith}
use Rattle.p9_base.specs.declared.halt.HaltCause.{HaltCause}
use Rattle.p9_vi.specs.Run.{HasHalted}
use Rattle.p9_headline.specs.Headline.{Seen, SourceRun, Ended, Out, Other, IsDefined, AreDefined, HasExited, KeepsMeaning}
use Rattle.p9_headline.proofs.Exited.{exits_once, exited_stays, halted_stays, exit_no_halt}

ended_by : (source : SourceRun) (bytes input : List ℕ) (m : ℕ) (output text left : List ℕ) (seen : Seen) → KeepsMeaning source bytes → HasExited bytes input m output text left → IsDefined seen → source input (m + 1) ≡ seen → seen ≡ Ended output text left
ended_by source bytes input m output text left (Ended other end rest) keeps exits d e =
    let machine = keeps.ended input (m + 1) other end rest e in
    let same = exits_once bytes input machine.0 m other end rest output text left machine.1 exits in
    λ i. Ended (same.0 i) (same.1 i) (same.2 i)
ended_by source bytes input m output text left (Out so_far rest) keeps exits d e =
    let machine = keeps.goes_on input (m + 1) so_far rest e in
    absurd (exited_stays bytes input m machine.0 output text left so_far rest (omega (arith, machine.1)) exits machine.2)
ended_by source bytes input m output text left Other keeps exits d e = absurd d

pub ended_as_exited : (source : SourceRun) (bytes input : List ℕ) (m : ℕ) (output text left : List ℕ) → KeepsMeaning source bytes → AreDefined source input → HasExited bytes input m output text left → source input (m + 1) ≡ Ended output text left
ended_as_exited source bytes input m output text left keeps defined exits =
    ended_by source bytes input m output text left (source input (m + 1)) keeps exits (defined (m + 1)) refl

halted_by : (source : SourceRun) (bytes input : List ℕ) (m : ℕ) (output : List ℕ) (cause : HaltCause) (pc : ℕ) (seen : Seen) → KeepsMeaning source bytes → HasHalted bytes input m output cause pc → IsDefined seen → source input m ≡ seen → ⊥
halted_by source bytes input m output cause pc (Ended other end rest) keeps halts d e =
    let machine = keeps.ended input m other end rest e in
    exit_no_halt bytes input machine.0 m other end rest output cause pc machine.1 halts
halted_by source bytes input m output cause pc (Out so_far rest) keeps halts d e =
    let machine = keeps.goes_on input m so_far rest e in
    halted_stays bytes input m machine.0 output cause pc so_far rest machine.1 halts machine.2
halted_by source bytes input m output cause pc Other keeps halts d e = d

pub never_halted : (source : SourceRun) (bytes input : List ℕ) (m : ℕ) (output : List ℕ) (cause : HaltCause) (pc : ℕ) → KeepsMeaning source bytes → AreDefined source input → HasHalted bytes input m output cause pc → ⊥
never_halted source bytes input m output cause pc keeps defined halts =
    halted_by source bytes input m output cause pc (source input m) keeps halts (defined m) refl
