-- A run that has ended stays, so it exits in one way, and doesn't run on later.
use Rattle.std.proofs.Common.{◌≡◌, ◌≤◌, ℕ, ◌+◌, ◌-◌, List, IsSomeAnd, Result, Ok, Err, option_map, sym, ap, ◌∙◌, subst, arith}
use Rattle.p9_aout.specs.Image.{ImageParts, image_of}
use Rattle.p9_aout.specs.declared.format.AoutFault.{AoutFault}
use Rattle.p9_r3k.specs.Laws.{HasEnded}
use Rattle.p9_r3k.specs.Machine.{State, run, exit_text}
use Rattle.p9_base.specs.declared.halt.Ending.{Ending}
use Rattle.p9_base.specs.declared.halt.Ending.TheVariants.{Running, Exited, Halted}
use Rattle.p9_base.specs.declared.halt.HaltCause.{HaltCause}
use Rattle.p9_r3k.proofs.Runs.{run-ended, run-sum}
use Rattle.p9_vi.specs.Run.{vrun, start_of, started, IsExited, HasHalted}
use Rattle.p9_headline.specs.Headline.{HasExited, IsRunning}

exited_ended : (e : Ending) → IsExited e → HasEnded e
exited_ended Running x = x
exited_ended (Exited at n) x = tt
exited_ended (Halted cause pc) x = absurd x

halted_ended : (e : Ending) (cause : HaltCause) (pc : ℕ) → e ≡ Halted cause pc → HasEnded e
halted_ended e cause pc h = subst (λ (x : Ending). HasEnded x) (sym h) tt

-- a run is the same from its end on
run_later : (s : State) (m n : ℕ) → m ≤ n → HasEnded (run m s).core.ending → run n s ≡ run m s
run_later s m n less ended =
    let e : n ≡ m + (n - m) = omega (arith, less) in
    ap (λ k. run k s) e ∙ run-sum m (n - m) s ∙ run-ended (n - m) (run m s) ended

same_end : (s : State) (m n : ℕ) → HasEnded (run m s).core.ending → HasEnded (run n s).core.ending → run m s ≡ run n s
same_end s m n a b = sym (run_later s m (m + n) (omega arith) a) ∙ run_later s n (m + n) (omega arith) b

-- what the words of `Headline` say of a run from the image's start
abbrev Ends : State → (output text left : List ℕ) → Type 0
Ends s output text left = IsExited s.core.ending × (exit_text s.core ≡ text) × (s.out ≡ output) × (s.left ≡ left)

abbrev Runs : State → (output left : List ℕ) → Type 0
Runs s output left = (s.core.ending ≡ Running) × (s.out ≡ output) × (s.left ≡ left)

abbrev Started : Result ImageParts AoutFault → (input : List ℕ) (m : ℕ) → (State → Type 0) → Type 0
Started r input m P = IsSomeAnd (option_map (run m) (started r input)) P

-- Exits are the same

one_end : (r : Result ImageParts AoutFault) (input : List ℕ) (m n : ℕ) (output text left other end rest : List ℕ) → Started r input m (λ s. Ends s output text left) → Started r input n (λ s. Ends s other end rest) → (output ≡ other) × (text ≡ end) × (left ≡ rest)
one_end (Err fault) input m n output text left other end rest a b = absurd a
one_end (Ok parts) input m n output text left other end rest a b =
    let s : State = start_of parts input in
    let same : run m s ≡ run n s =
    same_end s m n (exited_ended (run m s).core.ending a.0) (exited_ended (run n s).core.ending b.0) in (
      sym a.2 ∙ (ap (λ (x : State). x.out) same ∙ b.2),
      sym a.1 ∙ (ap (λ (x : State). exit_text x.core) same ∙ b.1),
      sym a.3 ∙ (ap (λ (x : State). x.left) same ∙ b.3),
    )

pub exits_once : (bytes input : List ℕ) (m n : ℕ) (output text left other end rest : List ℕ) → HasExited bytes input m output text left → HasExited bytes input n other end rest → (output ≡ other) × (text ≡ end) × (left ≡ rest)
unfolding vrun
exits_once bytes input m n output text left other end rest a b = one_end (image_of bytes) input m n output text left other end rest a b

-- An exit excludes that the machine goes on later, and that it has halted

not_ended : (e : Ending) → HasEnded e → e ≡ Running → ⊥
not_ended Running x r = x
not_ended (Exited at n) x r = cc
not_ended (Halted cause pc) x r = cc

no_longer : (s : State) (n m : ℕ) → n ≤ m → HasEnded (run n s).core.ending → (run m s).core.ending ≡ Running → ⊥
no_longer s n m le x r =
    not_ended (run n s).core.ending x (sym (ap (λ (t : State). t.core.ending) (run_later s n m le x)) ∙ r)

exit_and_on : (r : Result ImageParts AoutFault) (input : List ℕ) (n m : ℕ) (output text left so_far rest : List ℕ) → n ≤ m → Started r input n (λ s. Ends s output text left) → Started r input m (λ s. Runs s so_far rest) → ⊥
exit_and_on (Err fault) input n m output text left so_far rest le a b = a
exit_and_on (Ok parts) input n m output text left so_far rest le a b =
    let s : State = start_of parts input in no_longer s n m le (exited_ended (run n s).core.ending a.0) b.0

pub exited_stays : (bytes input : List ℕ) (n m : ℕ) (output text left so_far rest : List ℕ) → n ≤ m → HasExited bytes input n output text left → IsRunning bytes input m so_far rest → ⊥
unfolding vrun
exited_stays bytes input n m output text left so_far rest le a b = exit_and_on (image_of bytes) input n m output text left so_far rest le a b

halt_and_on : (r : Result ImageParts AoutFault) (input : List ℕ) (n m : ℕ) (output : List ℕ) (cause : HaltCause) (pc : ℕ) (so_far rest : List ℕ) → n ≤ m → Started r input n (λ s. (s.core.ending ≡ Halted cause pc) × (s.out ≡ output)) → Started r input m (λ s. Runs s so_far rest) → ⊥
halt_and_on (Err fault) input n m output cause pc so_far rest le a b = a
halt_and_on (Ok parts) input n m output cause pc so_far rest le a b =
    let s : State = start_of parts input in no_longer s n m le (halted_ended (run n s).core.ending cause pc a.0) b.0

pub halted_stays : (bytes input : List ℕ) (n m : ℕ) (output : List ℕ) (cause : HaltCause) (pc : ℕ) (so_far rest : List ℕ) → n ≤ m → HasHalted bytes input n output cause pc → IsRunning bytes input m so_far rest → ⊥
unfolding vrun
halted_stays bytes input n m output cause pc so_far rest le a b = halt_and_on (image_of bytes) input n m output cause pc so_far rest le a b

exit_of_halt : (e : Ending) (cause : HaltCause) (pc : ℕ) → IsExited e → e ≡ Halted cause pc → ⊥
exit_of_halt e cause pc x h = subst (λ (k : Ending). IsExited k) h x

exit_and_halt : (r : Result ImageParts AoutFault) (input : List ℕ) (n m : ℕ) (output text left so_far : List ℕ) (cause : HaltCause) (pc : ℕ) → Started r input n (λ s. Ends s output text left) → Started r input m (λ s. (s.core.ending ≡ Halted cause pc) × (s.out ≡ so_far)) → ⊥
exit_and_halt (Err fault) input n m output text left so_far cause pc a b = a
exit_and_halt (Ok parts) input n m output text left so_far cause pc a b =
    let s : State = start_of parts input in
    let same : run n s ≡ run m s =
    same_end s n m (exited_ended (run n s).core.ending a.0) (halted_ended (run m s).core.ending cause pc b.0) in
    exit_of_halt (run n s).core.ending cause pc a.0 (ap (λ (x : State). x.core.ending) same ∙ b.0)

pub exit_no_halt : (bytes input : List ℕ) (n m : ℕ) (output text left so_far : List ℕ) (cause : HaltCause) (pc : ℕ) → HasExited bytes input n output text left → HasHalted bytes input m so_far cause pc → ⊥
unfolding vrun
exit_no_halt bytes input n m output text left so_far cause pc a b = exit_and_halt (image_of bytes) input n m output text left so_far cause pc a b

-- an exit stays as it is

exits_later : (r : Result ImageParts AoutFault) (input : List ℕ) (n m : ℕ) (output text left : List ℕ) → n ≤ m → Started r input n (λ s. Ends s output text left) → Started r input m (λ s. Ends s output text left)
exits_later (Err fault) input n m output text left le a = a
exits_later (Ok parts) input n m output text left le a =
    let s : State = start_of parts input in
    subst (λ (x : State). Ends x output text left) (sym (run_later s n m le (exited_ended (run n s).core.ending a.0))) a

pub exit_later : (bytes input : List ℕ) (n m : ℕ) (output text left : List ℕ) → n ≤ m → HasExited bytes input n output text left → HasExited bytes input m output text left
unfolding vrun
exit_later bytes input n m output text left le a = exits_later (image_of bytes) input n m output text left le a
