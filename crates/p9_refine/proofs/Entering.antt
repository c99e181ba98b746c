-- A function's entry keeps the straight machine to the run of the modules.
use Rattle.std.proofs.Common.{ℕ, ◌+◌, ◌-◌, ◌%◌, ◌≡◌, ◌≢◌, ◌≤◌, nat_le, Bool, true, false, Option, Some, None, List, [], ◌∷◌, ◌++◌, length, refl, sym, ap, ◌∙◌, subst, All, if◌then◌else◌, arith}
use Rattle.std.specs.Prelude.{slice_get}
use Rattle.std.proofs.lemmas.List.{length-set, get_or-set_same, get_or-set_other}
use Rattle.std.proofs.lemmas.Option.{none-some}
use Rattle.std.proofs.lemmas.Bool.Decides.{nat_tests}
use Rattle.p9_base.specs.Words.{IsWord}
use Rattle.p9_base.specs.declared.halt.Ending.TheVariants.{Running}
use Rattle.p9_base.specs.Core.{Core, text_start, stack_start, stack_end, reg, writable, with_word_in, read_word, with_word}
use Rattle.p9_base.specs.SystemCalls.{State}
use Rattle.p9_base.specs.Holding.{LaidOut}
use Rattle.p9_base.proofs.Kept.{length-word}
use Rattle.p9_abs.specs.declared.modules.AModule.{AModule}
use Rattle.p9_abs.specs.Runs.{Routine, keeps, taken_by, Active, Status, Going, Gone, Broken, lowered, at_first, kept_entry, entered}
use Rattle.p9_abs.specs.Programs.{Placing, routines_of}
use Rattle.p9_abs.specs.Validity.{IsValid}
use Rattle.p9_r3k.specs.Straight.{Straight}
use Rattle.p9_lines.specs.FormLines.{plain, lower_lines, entry_lines}
use Rattle.p9_r3k.specs.declared.inst.Inst.TheVariants as i
use Rattle.p9_pieces.specs.Ways.{setting_of}
use Rattle.p9_forms.specs.Standing.{Rest, stands}
use Rattle.p9_forms.specs.Following.{Site}
use Rattle.p9_forms.specs.Entering.{entered_by}
use Rattle.p9_forms.proofs.Entries.{IsEntered, entry-made}
use Rattle.p9_forms.proofs.Temporary.{run-none}
use Rattle.p9_expand.specs.Program.{program_lines}
use Rattle.p9_expand.proofs.Valid.{IsSound, all_sound}
use Rattle.p9_expand_laws.specs.Standing.{entry_of, line_of, StandsAt}
use Rattle.p9_expand_laws.proofs.Standing.{entries_stand}
use Rattle.p9_refine.specs.Maps.{function_line, instruction_line, addresses_by}
use Rattle.p9_refine.proofs.Words.{written-to-stack, word-kept, word-read, stack-writable}
use Rattle.p9_refine.proofs.Numbers.{all-at}
use Rattle.p9_refine.proofs.Plain.{HasRegisters}
use Rattle.p9_refine.proofs.Matching.{run_by, Frame, GoesBack, IsLeast, IsInside, Stacked, Matches, KeptSame, AllKeptSame, stacked-same, IsHigh, AreHigh, stacked-high}

-- the calls that wait when a function is entered: the last goes on at the address in R31, and its return address is at R29
abbrev pub Waiting : List AModule → (line : ℕ → ℕ) → (link : ℕ) → (word : ℕ → ℕ) → (sp : ℕ) → List Active → Type 0
Waiting modules line link word sp [] = Unit {0}
Waiting modules line link word sp (b ∷ bs) =
    (link ≡ line (instruction_line modules b.routine b.after))
    × IsLeast modules line (instruction_line modules b.routine b.after)
    × IsInside modules b.routine b.after
    × (b.kept ≡ Some sp)
    × Stacked modules line link word sp b.routine b.kept bs

-- with the entered function on them
entered-stack : (modules : List AModule) (line : ℕ → ℕ) (link new : ℕ) (before now : ℕ → ℕ) (sp low g : ℕ) (kept : Option ℕ) (bs : List Active) (s : Frame modules low g kept) →
    low + taken_by s.routine.def ≡ sp → GoesBack new now kept link → ((k : ℕ) → sp ≤ k → now k ≡ before k) →
    Waiting modules line link before sp bs → Stacked modules line new now low g kept bs
entered-stack modules line link new before now sp low g kept [] s sum back same w = s
entered-stack modules line link new before now sp low g kept (b ∷ bs) s sum back same w = (
  s,
  subst (GoesBack new now kept) w.0 back,
  w.1,
  w.2,
  w.3 ∙ ap Some (sym sum),
  subst (λ n. Stacked modules line new now n b.routine b.kept bs) (sym sum)
      (stacked-same modules line link new before now sp b.routine b.kept bs (kept-same b.kept high.0) (all-kept-same bs high.1)
      (λ e. absurd (none-some sp (sym e ∙ w.3))) w.4),
)
  where
    high : IsHigh sp b.kept × AreHigh sp bs
    high = stacked-high modules line link before sp b.routine b.kept bs w.4

    kept-same : (o : Option ℕ) → IsHigh sp o → KeptSame before now o
    kept-same None h = tt
    kept-same (Some k) h = same k h.0

    all-kept-same : (cs : List Active) → AreHigh sp cs → AllKeptSame before now cs
    all-kept-same [] h = tt
    all-kept-same (c ∷ cs) h = (kept-same c.kept h.0, all-kept-same cs h.1)

-- where an entry leads, in at most four lines
abbrev pub EntersAs : List AModule → (ℕ → ℕ) → Placing → Straight → Status → Type 0
EntersAs modules line placing from (Going r) =
    (c : ℕ) × (c ≤ 4) × Matches modules line r (run_by modules line placing c from)
EntersAs modules line placing from (Gone s) = ⊥
EntersAs modules line placing from Broken = Unit {0}

-- a state before the entry of a function
pub record Entering (modules : List AModule) (line : ℕ → ℕ) (g : ℕ) (rg : Routine) (s : State) (callers : List Active) : Type 0 where
  pub valid : All IsValid modules
  pub found : slice_get (routines_of modules) g ≡ Some rg
  pub running : s.core.ending ≡ Running
  pub registers : HasRegisters s.core
  pub textless : s.core.text_end ≡ text_start
  pub laid : LaidOut s.core
  pub aligned : reg s.core 29 % 4 ≡ 0
  pub above : stack_start ≤ reg s.core 29
  pub below : reg s.core 29 ≤ stack_end
  pub link : IsWord (reg s.core 31)
  pub waiting : Waiting modules line (reg s.core 31) (λ k. read_word s.core k) (reg s.core 29) callers

module _ (modules : List AModule) (line : ℕ → ℕ) (placing : Placing) (g : ℕ) (rg : Routine) (s : State) (callers : List Active) (v : Entering modules line g rg s callers) (t : ℕ) (k : Rest) where
  abbrev from : Straight
  from = stands t k s (function_line modules g)

  sound-entry : IsSound rg
  sound-entry = all-at IsSound (routines_of modules) g rg (all_sound modules v.valid) v.found

  stand-entry : StandsAt modules (entry_of modules g) (entry_lines (setting_of rg))
  stand-entry = entries_stand modules g rg v.valid v.found

  -- the first instruction comes behind the entry
  behind-entry : instruction_line modules g 0 ≡ function_line modules g + length (entry_lines (setting_of rg))
  behind-entry = ap (line_of modules) (let e : entry_of modules g + 1 + 0 ≡ entry_of modules g + 1 = omega arith in e) ∙ stand-entry.next

  laid-textless : (c : Core) → LaidOut c → LaidOut (record c { text_end = text_start })
  laid-textless c l = record {
    text = omega arith;
    gap = omega (arith, l.text, l.gap);
    data_and_bss = l.data_and_bss;
    above = l.above;
    stack_size = l.stack_size;
  }

  -- a function that leaves its return address in R31
  plain-entry : keeps rg.def ≡ false → EntersAs modules line placing (stands t k s (function_line modules g)) (at_first s g None callers)
  plain-entry keep =
      let none : taken_by rg.def ≡ 0 = ap (λ b. if b then rg.def.frame + 4 else 0) keep in
      let no_lines : length (entry_lines (setting_of rg)) ≡ 0 = ap (λ b. length (if b then lower_lines (taken_by rg.def) ++ plain (i.Sw 29 31 0) ∷ [] else [])) keep in
      let frame : Frame modules (reg s.core 29) g None = record {
        routine = rg;
        found = v.found;
        kept_is = sym (ap (λ b. if b then Some (reg s.core 29) else None) keep);
        aligned = v.aligned;
        above = v.above;
        below = omega (arith, none, v.below);
      } in (
        0,
        omega arith,
        record {
          temporary = t;
          rest = k;
          same = run-none (addresses_by modules line placing) (program_lines modules) from
              ∙ ap (λ n. stands t k s n) (let e : function_line modules g ≡ instruction_line modules g 0 = omega (arith, behind-entry, no_lines) in e);
          running = v.running;
          registers = v.registers;
          laid = laid-textless s.core v.laid;
          stack = entered-stack modules line (reg s.core 31) (reg s.core 31) (λ n. read_word s.core n) (λ n. read_word s.core n) (reg s.core 29) (reg s.core 29) g None callers frame
              (omega (arith, none)) refl (λ n h. refl) v.waiting;
        },
      )

  -- a function that keeps its return address, where there is room for its frame
  kept-fits : keeps rg.def ≡ true → stack_start + (rg.def.frame + 4) ≤ reg s.core 29 →
      EntersAs modules line placing (stands t k s (function_line modules g))
      (at_first (entered_by (rg.def.frame + 4) s) g (Some (reg s.core 29 - (rg.def.frame + 4))) callers)
  kept-fits keep fits =
      let m : ℕ = rg.def.frame + 4 in
      let sp : ℕ = reg s.core 29 in
      let low : ℕ = sp - m in
      let value : ℕ = reg s.core 31 in
      let taken : taken_by rg.def ≡ m = ap (λ b. if b then rg.def.frame + 4 else 0) keep in
      let high : stack_start ≤ low = omega (arith, fits) in
      let inside : low + 4 ≤ stack_end = omega (arith, fits, v.below) in
      let aligned : low % 4 ≡ 0 = omega (arith, fits, v.aligned, sound-entry.frame.0) in
      let c : Core = lowered s.core m in
      let d : Core = record c { stack = with_word_in c.order c.stack (low - stack_start) value } in
      let written : with_word c low value ≡ d = written-to-stack c low value high in
      let h : Site = record {
        addresses = addresses_by modules line placing;
        lines = program_lines modules;
        place = line_of modules;
        setting = setting_of rg;
        way = record { next = 0; goal = None; short = false };
        first = function_line modules g;
      } in
      let entry : IsEntered h from (entered_by (taken_by rg.def) s) (function_line modules g + length (entry_lines (setting_of rg))) =
      entry-made h s t k (record {
        settled = record {
          running = v.running;
          count = v.registers.count;
          zero_register = v.registers.zero_register;
          textless = v.textless;
          stack = omega (arith, v.below);
        };
        keeps = keep;
        small = omega (arith, taken, sound-entry.frame.1);
        room = omega (arith, taken, fits);
        aligned = (let e : sp - taken_by rg.def ≡ low = omega (arith, taken) in subst (λ n. n % 4 ≡ 0) (sym e) aligned);
        free = (let e : sp - taken_by rg.def ≡ low = omega (arith, taken) in subst (λ n. 4 ≤ writable s.core n) (sym e) (stack-writable s.core low v.laid high inside));
        there = stand-entry.there;
      }) in
      let arrived : run_by modules line placing entry.lines from ≡ stands entry.temporary entry.rest (entered_by m s) (instruction_line modules g 0) =
      entry.run
      ∙ ap (λ n. stands entry.temporary entry.rest (entered_by n s) (function_line modules g + length (entry_lines (setting_of rg)))) taken
      ∙ ap (λ n. stands entry.temporary entry.rest (entered_by m s) n) (sym behind-entry) in
      let lowered_pointer : reg d 29 ≡ low = get_or-set_same s.core.regs 29 low 0 (omega (arith, v.registers.count)) in
      let frame : Frame modules low g (Some low) = record {
        routine = rg;
        found = v.found;
        kept_is = sym (ap (λ b. if b then Some low else None) keep);
        aligned = aligned;
        above = high;
        below = omega (arith, taken, fits, v.below);
      } in
      let stack : Stacked modules line (reg d 31) (λ n. read_word d n) low g (Some low) callers =
      entered-stack modules line value (reg d 31) (λ n. read_word s.core n) (λ n. read_word d n) sp low g (Some low) callers frame
      (omega (arith, taken, fits))
      (ap (λ z. read_word z low) (sym written) ∙ word-read c low value high inside v.laid.stack_size v.link)
      (λ n above. ap (λ z. read_word z n) (sym written) ∙ word-kept c low value n high (omega (arith, above, fits)))
      v.waiting in (
        entry.lines,
        entry.few,
        record {
          temporary = entry.temporary;
          rest = entry.rest;
          same = arrived;
          running = ap (λ (z : Core). z.ending) written ∙ v.running;
          registers = subst HasRegisters (sym written) (record {
            count = length-set s.core.regs 29 low ∙ v.registers.count;
            zero_register = get_or-set_other s.core.regs 29 0 low 0 (let differ : 0 ≢ 29 = omega arith in differ) ∙ v.registers.zero_register;
          });
          laid = subst (λ (z : Core). LaidOut (record z { text_end = text_start })) (sym written) (record {
            text = omega arith;
            gap = omega (arith, v.laid.text, v.laid.gap);
            data_and_bss = v.laid.data_and_bss;
            above = v.laid.above;
            stack_size = length-word c.order c.stack (low - stack_start) value ∙ v.laid.stack_size;
          });
          stack = subst (λ (z : Core). Stacked modules line (reg z 31) (λ n. read_word z n) (reg z 29) g (Some low) callers) (sym written)
              (subst (λ n. Stacked modules line (reg d 31) (λ n. read_word d n) n g (Some low) callers) (sym lowered_pointer) stack);
        },
      )

  kept-enters : keeps rg.def ≡ true → EntersAs modules line placing (stands t k s (function_line modules g)) (kept_entry rg.def s g callers)
  kept-enters keep = by (nat_le (stack_start + (rg.def.frame + 4)) (reg s.core 29)) refl
    where
      by : (b : Bool) → nat_le (stack_start + (rg.def.frame + 4)) (reg s.core 29) ≡ b →
          EntersAs modules line placing (stands t k s (function_line modules g))
          (if b then at_first (entered_by (rg.def.frame + 4) s) g (Some (reg s.core 29 - (rg.def.frame + 4))) callers else Broken)
      by true e = kept-fits keep (let fits : stack_start + (rg.def.frame + 4) ≤ reg s.core 29 = grind (arith, nat_tests) in fits)
      by false e = tt

  pub entry-enters : EntersAs modules line placing (stands t k s (function_line modules g)) (entered rg.def s g callers)
  entry-enters = by (keeps rg.def) refl
    where
      by : (b : Bool) → keeps rg.def ≡ b →
          EntersAs modules line placing (stands t k s (function_line modules g)) (if b then kept_entry rg.def s g callers else at_first s g None callers)
      by true e = kept-enters e
      by false e = plain-entry e
