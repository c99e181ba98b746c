-- Returns keep the straight machine to the run of the modules.
use Rattle.std.proofs.Common.{ℕ, ◌+◌, ◌≡◌, ◌≢◌, ◌≤◌, Bool, true, false, Option, Some, None, List, [], ◌∷◌, refl, sym, ap, ◌∙◌, subst, if◌then◌else◌, arith}
use Rattle.std.proofs.lemmas.List.{length-set, get_or-set_same, get_or-set_other}
use Rattle.std.proofs.lemmas.Option.{none-some, same_Some}
use Rattle.p9_base.specs.Words.{word_sum}
use Rattle.p9_base.specs.declared.halt.Effect.TheVariants as effects
use Rattle.p9_base.specs.Core.{Core, stack_end, reg, read_word}
use Rattle.p9_base.specs.Effects.{load_word}
use Rattle.p9_base.specs.SystemCalls.{State}
use Rattle.p9_base.specs.Holding.{LaidOut}
use Rattle.p9_abs.specs.declared.instructions.Abs.{Abs}
use Rattle.p9_abs.specs.declared.modules.AModule.{AModule}
use Rattle.p9_abs.specs.declared.forms.Form.TheVariants as forms
use Rattle.p9_abs.specs.Steps.{Mach, Returns, without_text}
use Rattle.p9_abs.specs.Programs.{addresses_of, Placing}
use Rattle.p9_abs.specs.Runs.{Routine, keeps, taken_by, Active, Run, Status, Going, linked_to, raised, returned}
use Rattle.p9_r3k.specs.Straight.{Straight}
use Rattle.p9_forms.specs.Standing.{Arrives}
use Rattle.p9_forms.specs.Following.{Follows, IsKeptReturn, raised_by}
use Rattle.p9_expand.specs.Program.{program_lines}
use Rattle.p9_refine.specs.Maps.{instruction_line, GoesBy, addresses_by}
use Rattle.p9_refine.proofs.Words.{stack-loaded}
use Rattle.p9_refine.proofs.Matching.{Frame, frame-of, GoesBack, Stacked, KeptSame, all-same, stacked-same}
use Rattle.p9_refine.proofs.Leading.{Leads, site, Before}

-- words that no instruction changed
same-words : (word : ℕ → ℕ) (kept : Option ℕ) → KeptSame word word kept
same-words word None = tt
same-words word (Some k) = refl

module _ (modules : List AModule) (line : ℕ → ℕ) (placing : Placing) (r : Run) (rt : Routine) (a : Abs) (y : Straight) (b : Before modules line placing r rt a forms.Return y) (goes : GoesBy modules line placing) where
  abbrev x : Mach
  x = without_text r.mach

  abbrev sp : ℕ
  sp = reg r.mach.state.core 29

  abbrev word : ℕ → ℕ
  word k = read_word r.mach.state.core k

  -- back in the caller, with R31 as the address that this returns to
  abbrev back_in : Active → List Active → State → Status
  back_in c cs s = Going (record { mach = record { state = s; vars = []; at = c.after }; routine = c.routine; kept = c.kept; callers = cs })

  pub returns-lead : Follows (site modules line placing r.routine r.mach.at rt forms.Return) forms.Return y (Returns (without_text r.mach)) →
      Leads modules line placing y (returned (addresses_of modules placing) rt.def (without_text r.mach) r.callers)
  returns-lead f = by r.callers b.matches.stack
    where
      by-keeping : (c : Active) (cs : List Active) (s : Frame modules sp r.routine r.kept) → GoesBack (reg r.mach.state.core 31) word r.kept (line (instruction_line modules c.routine c.after)) →
          (q : Bool) → r.kept ≡ (if q then Some sp else None) → sp + (if q then rt.def.frame + 4 else 0) ≤ stack_end → c.kept ≡ Some (sp + (if q then rt.def.frame + 4 else 0)) →
          Stacked modules line (reg r.mach.state.core 31) word (sp + (if q then rt.def.frame + 4 else 0)) c.routine c.kept cs →
          (IsKeptReturn q x.state (line (instruction_line modules c.routine c.after)) →
          (let l : State = linked_to (line (instruction_line modules c.routine c.after)) x.state in
          Arrives (addresses_by modules line placing) (program_lines modules) y (if q then raised_by (if q then rt.def.frame + 4 else 0) l else l) (instruction_line modules c.routine c.after))) →
          (let l : State = linked_to (line (instruction_line modules c.routine c.after)) x.state in
          Leads modules line placing y (back_in c cs (if q then raised_by (rt.def.frame + 4) l else l)))
      by-keeping c cs s back true kept below keeps stack arrives =
          let to : ℕ = line (instruction_line modules c.routine c.after) in
          let m : ℕ = rt.def.frame + 4 in
          let l : State = linked_to to x.state in
          let d : Core = (raised_by m l).core in
          let g : LaidOut x.state.core = b.matches.laid in
          let held : word sp ≡ to = subst (λ o. GoesBack (reg r.mach.state.core 31) word o to) kept back in
          let loads : load_word x.state.core 31 sp ≡ effects.Load 31 to =
          stack-loaded x.state.core 31 sp g s.above (omega (arith, below)) s.aligned ∙ ap (effects.Load 31) held in
          let there = arrives loads in
          let pointer : reg l.core 29 ≡ sp = get_or-set_other r.mach.state.core.regs 31 29 to 0 (let differ : 29 ≢ 31 = omega arith in differ) in
          let up : reg d 29 ≡ sp + m =
          get_or-set_same l.core.regs 29 (word_sum (reg l.core 29) m) 0 (omega (arith, b.matches.registers.count, length-set r.mach.state.core.regs 31 to)) ∙ omega (arith, pointer, below) in (
            there.count,
            there.some,
            there.few,
            record {
              temporary = there.temporary;
              rest = there.rest;
              same = there.run;
              running = b.matches.running;
              registers = record {
                count = length-set l.core.regs 29 (word_sum (reg l.core 29) m) ∙ length-set r.mach.state.core.regs 31 to ∙ b.matches.registers.count;
                zero_register = get_or-set_other l.core.regs 29 0 (word_sum (reg l.core 29) m) 0 (let differ : 0 ≢ 29 = omega arith in differ)
                    ∙ get_or-set_other r.mach.state.core.regs 31 0 to 0 (let differ : 0 ≢ 31 = omega arith in differ)
                    ∙ b.matches.registers.zero_register;
              };
              laid = record { text = g.text; gap = g.gap; data_and_bss = g.data_and_bss; above = g.above; stack_size = g.stack_size };
              stack = subst (λ n. Stacked modules line (reg d 31) (λ k. read_word d k) n c.routine c.kept cs) (sym up)
                  (stacked-same modules line (reg r.mach.state.core 31) (reg d 31) word (λ k. read_word d k) (sp + m) c.routine c.kept cs (same-words word c.kept) (all-same word cs)
                  (λ e. absurd (none-some (sp + m) (sym e ∙ keeps))) stack);
            },
          )
      by-keeping c cs s back false kept below keeps stack arrives =
          let to : ℕ = line (instruction_line modules c.routine c.after) in
          let l : State = linked_to to x.state in
          let g : LaidOut x.state.core = b.matches.laid in
          let held : reg r.mach.state.core 31 ≡ to = subst (λ o. GoesBack (reg r.mach.state.core 31) word o to) kept back in
          let there = arrives held in
          let pointer : reg l.core 29 ≡ sp + 0 = get_or-set_other r.mach.state.core.regs 31 29 to 0 (let differ : 29 ≢ 31 = omega arith in differ) ∙ omega arith in (
            there.count,
            there.some,
            there.few,
            record {
              temporary = there.temporary;
              rest = there.rest;
              same = there.run;
              running = b.matches.running;
              registers = record {
                count = length-set r.mach.state.core.regs 31 to ∙ b.matches.registers.count;
                zero_register = get_or-set_other r.mach.state.core.regs 31 0 to 0 (let differ : 0 ≢ 31 = omega arith in differ) ∙ b.matches.registers.zero_register;
              };
              laid = record { text = g.text; gap = g.gap; data_and_bss = g.data_and_bss; above = g.above; stack_size = g.stack_size };
              stack = subst (λ n. Stacked modules line (reg l.core 31) (λ k. read_word l.core k) n c.routine c.kept cs) (sym pointer)
                  (stacked-same modules line (reg r.mach.state.core 31) (reg l.core 31) word (λ k. read_word l.core k) (sp + 0) c.routine c.kept cs (same-words word c.kept) (all-same word cs)
                  (λ e. absurd (none-some (sp + 0) (sym e ∙ keeps))) stack);
            },
          )

      by : (cs : List Active) → Stacked modules line (reg r.mach.state.core 31) word sp r.routine r.kept cs →
          Leads modules line placing y (returned (addresses_of modules placing) rt.def x cs)
      by [] s = tt
      by (c ∷ cs) s =
          let same : s.0.routine ≡ rt = same_Some s.0.routine rt (sym s.0.found ∙ b.found) in
          let caller = frame-of modules line (reg r.mach.state.core 31) word (sp + taken_by s.0.routine.def) c.routine c.kept cs s.5 in
          subst (λ z. Leads modules line placing y (back_in c cs (raised rt.def (linked_to z x.state))))
          (sym (goes.instructions c.routine c.after caller.routine caller.found (s.3 caller.routine caller.found)))
          (by-keeping c cs s.0 s.1 (keeps rt.def)
          (s.0.kept_is ∙ ap (λ (q : Routine). if keeps q.def then Some sp else None) same)
          (subst (λ (q : Routine). sp + taken_by q.def ≤ stack_end) same s.0.below)
          (s.4 ∙ ap (λ (q : Routine). Some (sp + taken_by q.def)) same)
          (subst (λ (q : Routine). Stacked modules line (reg r.mach.state.core 31) word (sp + taken_by q.def) c.routine c.kept cs) same s.5)
          (λ e. f (line (instruction_line modules c.routine c.after)) (instruction_line modules c.routine c.after) e s.2))
