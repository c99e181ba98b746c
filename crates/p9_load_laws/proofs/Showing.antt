-- The machine's run shows what the run of modules shows.
use Rattle.std.proofs.Common.{ℕ, zero, suc, ◌+◌, ◌*◌, ◌≡◌, ◌≤◌, ◌⊎◌, inl, inr, Bool, true, false, List, length, refl, sym, ◌∙◌, ap, subst, arith, All}
use Rattle.p9_base.specs.declared.halt.Ending.{Ending}
use Rattle.p9_base.specs.declared.halt.Ending.TheVariants.{Running, Exited, Halted}
use Rattle.p9_base.specs.Core.{Core}
use Rattle.p9_base.specs.SystemCalls.{State, exit_text}
use Rattle.p9_abs.specs.declared.modules.AModule.{AModule}
use Rattle.p9_abs.specs.BuiltIn.{linked}
use Rattle.p9_abs.specs.Runs.{Status, Going, Gone, Broken}
use Rattle.p9_abs.specs.Programs.{Placing, addresses_of, init_bytes, bss_size, arun}
use Rattle.p9_forms.specs.Standing.{Rest, stands}
use Rattle.p9_object.specs.Laws.{IsObject}
use Rattle.p9_names.specs.declared.rules.Rule.TheVariants.{Once}
use Rattle.p9_names.specs.Linking.{IsKept}
use Rattle.p9_r3k.proofs.Begins.{page_from-above}
use Rattle.p9_r3k.specs.declared.lines.Line.{Line}
use Rattle.p9_r3k.specs.Delayed.{line_address, delayed_run, NotHalted}
use Rattle.p9_r3k.specs.Laws.{ImageFits, HasEnded}
use Rattle.p9_r3k.specs.Machine.{run}
use Rattle.p9_r3k.specs.Straight.{Addresses, Straight, straight_step, straight_run}
use Rattle.p9_r3k.specs.Uses.{is_system_call}
use Rattle.p9_slot.specs.Runs.{Follows, Alike, at_first_line}
use Rattle.p9_slot.specs.Schedule.{is_at}
use Rattle.p9_expand.specs.Program.{program_lines}
use Rattle.p9_image.specs.Text.{address_at, text_bytes}
use Rattle.p9_image_laws.proofs.Running.{runs_its_lines}
use Rattle.p9_refine.proofs.Starting.{program_refines}
use Rattle.p9_refine.specs.Maps.{addresses_by, instruction_line}
use Rattle.p9_refine.specs.Refining.{Comes, HasExited, StandsAs, ProgramRefines, at_start}
use Rattle.p9_load_laws.proofs.Quiet.{IsQuiet, straight_suc, quiet_step, ended_step}
use Rattle.p9_load_laws.proofs.Starting.{starts_same, below_size}
use Rattle.p9_load_laws.specs.Showing.{entry_address, data_start_of, below_data, IsArranged, executable_start, ShowsAs, MachineShows}

-- The same output and input left, and where the first has exited the same exit
pub record LooksAs (s t : State) : Type 0 where
  pub out : t.out ≡ s.out
  pub left : t.left ≡ s.left
  pub running : s.core.ending ≡ Running → t.core.ending ≡ Running
  pub exited : HasExited s.core.ending → HasExited t.core.ending × (exit_text t.core ≡ exit_text s.core)

-- an exit's text rests on the end and memory
text_by : (c d : Core) (low stack : List ℕ) (e : Ending) →
    exit_text (record d { low = low; stack = stack; ending = e }) ≡ exit_text (record c { low = low; stack = stack; ending = e })
text_by c d low stack Running = refl
text_by c d low stack (Exited at len) = refl
text_by c d low stack (Halted cause pc) = refl

same_text : (c d : Core) → d.ending ≡ c.ending → d.low ≡ c.low → d.stack ≡ c.stack → exit_text d ≡ exit_text c
same_text c d ending low stack =
    ap (λ (e : Ending). exit_text (record d { low = d.low; stack = d.stack; ending = e })) ending
    ∙ (ap (λ (l : List ℕ). exit_text (record d { low = l; stack = d.stack; ending = c.ending })) low
    ∙ (ap (λ (k : List ℕ). exit_text (record d { low = c.low; stack = k; ending = c.ending })) stack
    ∙ text_by c d c.low c.stack c.ending))

of_alike : (s t : State) → Alike s t → LooksAs s t
of_alike s t a = record {
  out = a.out;
  left = a.left;
  running = λ e. a.ending ∙ e;
  exited = λ h. (subst (λ (e : Ending). HasExited e) (sym a.ending) h, same_text s.core t.core a.ending a.low a.stack);
}

-- One line that is no system call is not seen, nor one behind the end

has_ended : (e : Ending) → (e ≡ Running) ⊎ HasEnded e
has_ended Running = inl refl
has_ended (Exited at len) = inr tt
has_ended (Halted cause pc) = inr tt

not_running : (e : Ending) → HasExited e → e ≡ Running → ⊥
not_running Running h r = absurd h
not_running (Exited at len) h r = cc
not_running (Halted cause pc) h r = absurd h

not_both : (n : ℕ) (b : Bool) → (b ≡ true → n ≡ suc n) → b ≡ false
not_both n true h = (let e : n ≡ suc n = h refl in absurd (omega (arith, e)))
not_both n false h = refl

module _ (a : Addresses) (lines : List Line) (x : Straight) (before : ℕ) where
  abbrev pub y : Straight
  y = straight_run a lines before x

  next : straight_run a lines (suc before) x ≡ straight_step a lines y
  next = straight_suc a lines before x

  -- where the line that comes isn't a system call, a state that looks as the one before it looks as the one behind it
  unseen : (t : State) → (y.state.core.ending ≡ Running → is_at is_system_call lines y.at ≡ false) → LooksAs y.state t → LooksAs (straight_run a lines (suc before) x).state t
  unseen t quiet l = by (has_ended y.state.core.ending)
    where
      by : (y.state.core.ending ≡ Running) ⊎ HasEnded y.state.core.ending → LooksAs (straight_run a lines (suc before) x).state t
      by (inl r) =
          let q : IsQuiet y.state (straight_step a lines y).state = quiet_step a lines y r (quiet r) in
          subst (λ (z : Straight). LooksAs z.state t) (sym next) (record {
            out = l.out ∙ sym q.out;
            left = l.left ∙ sym q.left;
            running = λ _. l.running r;
            exited = λ h. absurd (not_running y.state.core.ending (q.no_exit h) r);
          })
      by (inr h) = subst (λ (z : Straight). LooksAs z.state t) (sym (next ∙ ended_step a lines y h)) l

  -- what the delayed machine comes to looks as the straight machine behind that line
  reached : (new : List Line) (start : State) → (f : Follows a lines new x start before) →
      LooksAs (straight_run a lines (suc before) x).state (delayed_run a new f.instructions start)
  reached new start f = by f.one_of_two
    where
      t : State
      t = delayed_run a new f.instructions start

      by : (f.steps ≡ before) ⊎ (f.steps ≡ suc before) → LooksAs (straight_run a lines (suc before) x).state t
      by (inr e) = of_alike (straight_run a lines (suc before) x).state t (subst (λ (k : ℕ). Alike (straight_run a lines k x).state t) e f.alike)
      by (inl e) =
          unseen t (λ r. not_both before (is_at is_system_call lines y.at) (λ c. sym e ∙ f.calls r c))
          (of_alike y.state t (subst (λ (k : ℕ). Alike (straight_run a lines k x).state t) e f.alike))

-- The machine

not_halted_running : (e : Ending) → e ≡ Running → NotHalted e
not_halted_running Running h = tt
not_halted_running (Exited at len) h = tt
not_halted_running (Halted cause pc) h = cc

not_halted_exited : (e : Ending) → HasExited e → NotHalted e
not_halted_exited Running h = tt
not_halted_exited (Exited at len) h = tt
not_halted_exited (Halted cause pc) h = absurd h

module _ (modules : List AModule) (p : Placing) (moved : List ℕ) (new : List Line) (tables : List (List ℕ)) (input : List ℕ) (arranged : IsArranged modules p moved new tables)
    (fits : ImageFits (text_bytes tables new) (init_bytes modules p) (bss_size (linked modules))) where
  abbrev pub a : Addresses
  a = addresses_by modules (entry_address moved new) p

  abbrev pub lines : List Line
  lines = program_lines modules

  abbrev pub below : List ℕ
  below = below_data (text_bytes tables new) new

  abbrev pub x : Straight
  x = at_start modules p below input

  abbrev pub end : ℕ
  end = line_address (length new)

  abbrev pub s : State
  s = executable_start modules p new tables input

  same_symbols : address_at tables ≡ a.symbol
  same_symbols = λ i unit k. arranged.symbols unit k i

  same_run : (m : ℕ) → run m s ≡ delayed_run a new m (at_first_line end x.state)
  same_run m =
      runs_its_lines tables new (init_bytes modules p) (bss_size (linked modules)) input (entry_address moved new) m arranged.fit arranged.reach arranged.small fits
      ∙ (ap (λ (f : ℕ → ℕ → ℕ). delayed_run (record { line = entry_address moved new; symbol = f }) new m s) same_symbols
      ∙ ap (delayed_run a new m) (starts_same modules p new tables input arranged.begin))

  end_below : end ≤ x.state.core.data_start
  end_below = subst (λ (d : ℕ). end ≤ d) (sym arranged.begin) (page_from-above end)

  -- the machine comes to look as the straight machine behind one line more
  pub record Reached (before : ℕ) : Type 0 where
    pub count : ℕ
    pub many : before ≤ count
    pub few : count ≤ 3 * before + 3
    pub looks : LooksAs (straight_run a lines (suc before) x).state (run count s)

  comes : (before : ℕ) → NotHalted (straight_run a lines (suc before) x).state.core.ending → Reached before
  comes before going =
      let f : Follows a lines new x (at_first_line end x.state) before =
      arranged.runs a.symbol x.state end before (λ i h. (arranged.map.code i h).2) end_below going in
      record {
        count = f.instructions;
        many = f.at_least;
        few = f.at_most;
        looks = subst (λ (t : State). LooksAs (straight_run a lines (suc before) x).state t) (sym (same_run f.instructions)) (reached a lines x before new (at_first_line end x.state) f);
      }

  -- what is known where the straight machine stands as a state
  pub record Seen (n : ℕ) (t : State) : Type 0 where
    pub count : ℕ
    pub many : n ≤ count
    pub few : count ≤ 24 * n + 24
    pub looks : LooksAs t (run count s)

  -- the state that the straight machine stands as has the same end, memory, input and output
  undressed : (temporary : ℕ) (rest : Rest) (t u : State) (at : ℕ) → LooksAs (stands temporary rest t at).state u → LooksAs t u
  undressed temporary rest t u at l = record {
    out = l.out;
    left = l.left;
    running = l.running;
    exited = λ h. let r = l.exited h in (r.0, r.1 ∙ same_text t.core (stands temporary rest t at).state.core refl refl refl);
  }

  seen : (n : ℕ) (t : State) (at : ℕ) → NotHalted t.core.ending → Comes a lines x (n + 1) (7 * n + 6) t at → Seen n t
  seen n t at going c = by c.count c.many c.few c.run
    where
      by : (count : ℕ) → n + 1 ≤ count → count ≤ 7 * n + 6 → straight_run a lines count x ≡ stands c.temporary c.rest t at → Seen n t
      by zero many few e = absurd (omega (arith, many))
      by (suc before) many few e =
          let r : Reached before = comes before (subst (λ (z : Straight). NotHalted z.state.core.ending) (sym e) going) in
          let least = r.many in
          let most = r.few in
          record {
            count = r.count;
            many = omega (arith, many, least);
            few = omega (arith, few, most);
            looks = undressed c.temporary c.rest t (run r.count s) at (subst (λ (z : Straight). LooksAs z.state (run r.count s)) e r.looks);
          }

  shows : (n : ℕ) (status : Status) → StandsAs modules a x n status → ShowsAs s n status
  shows n (Going r) h =
      let w : Seen n r.mach.state = seen n r.mach.state (instruction_line modules r.routine r.mach.at) (not_halted_running r.mach.state.core.ending h.0) h.1 in
      (w.count, w.many, w.few, w.looks.running h.0, w.looks.out, w.looks.left)
  shows n (Gone t) h =
      let w : Seen n t = seen n t h.1.0 (not_halted_exited t.core.ending h.0) h.1.1 in
      let e = w.looks.exited h.0 in
      (w.count, w.few, e.0, e.1, w.looks.out, w.looks.left)
  shows n Broken h = tt

  pub shown : ProgramRefines → All IsObject modules → IsKept Once (linked modules) → (n : ℕ) → ShowsAs s n (arun modules p below input n)
  shown refines objects once n =
      shows n (arun modules p below input n)
      (refines modules (entry_address moved new) p below input n objects once arranged.map arranged.goes (below_size tables new ∙ sym arranged.begin))

pub machine_shows : MachineShows
machine_shows modules p moved new tables input n objects once arranged fits = shown modules p moved new tables input arranged fits program_refines objects once n
