-- Calls keep the straight machine to the run of the modules.
use Rattle.std.proofs.Common.{ℕ, zero, suc, ◌+◌, ◌%◌, ◌==◌, ◌||◌, ◌≡◌, ◌≢◌, ◌⊎◌, inl, inr, ◌≤◌, ◌<◌, Bool, true, false, not, Option, Some, None, List, [], ◌∷◌, length, map, refl, sym, ap, ◌∙◌, subst, if◌then◌else◌, arith}
use Rattle.std.specs.Prelude.{slice_get}
use Rattle.std.specs.List.{list_any}
use Rattle.std.proofs.lemmas.List.{length-set, get_or-set_same, get_or-set_other}
use Rattle.std.proofs.lemmas.Option.{none-some, same_Some, slice_get_within}
use Rattle.p9_base.specs.Words.{IsWord}
use Rattle.p9_base.specs.declared.halt.Ending.TheVariants.{Running}
use Rattle.p9_base.specs.declared.halt.Effect.TheVariants as effects
use Rattle.p9_base.specs.Core.{reg, read_word}
use Rattle.p9_base.specs.SystemCalls.{State}
use Rattle.p9_base.specs.Holding.{LaidOut}
use Rattle.p9_abs.specs.declared.instructions.Op.TheVariants.{Jmp, Ret}
use Rattle.p9_abs.specs.declared.instructions.Abs.{Abs}
use Rattle.p9_abs.specs.declared.modules.AModule.{AModule}
use Rattle.p9_abs.specs.declared.forms.OperandKind.{OperandKind}
use Rattle.p9_abs.specs.declared.forms.OperandKind.TheVariants.{Target}
use Rattle.p9_abs.specs.declared.forms.Form.{Form}
use Rattle.p9_abs.specs.declared.forms.Form.TheVariants as forms
use Rattle.p9_abs.specs.Forms.{operand_kind, jump, bare, kinds_form, decoded}
use Rattle.p9_abs.specs.Automatics.{holds_of, calls_in}
use Rattle.p9_abs.specs.BuiltIn.{linked}
use Rattle.p9_abs.specs.Steps.{Mach, without_text}
use Rattle.p9_abs.specs.Runs.{Routine, keeps, Active, Run, Status, Going, Gone, Broken, entered, entered_in, enters, routine_at, linked_to}
use Rattle.p9_abs.specs.Programs.{addresses_of, Placing, routines_of}
use Rattle.p9_abs.specs.Validity.{EndsWell}
use Rattle.p9_names.specs.declared.rules.Rule.TheVariants.{Once}
use Rattle.p9_names.specs.Linking.{IsKept}
use Rattle.p9_r3k.specs.declared.inst.Inst.TheVariants as i
use Rattle.p9_r3k.specs.Straight.{Straight, line_at, on_to, linked_line}
use Rattle.p9_r3k.specs.Uses.{links}
use Rattle.p9_r3k.proofs.Runs.{straight_run-sum}
use Rattle.p9_slot.specs.Schedule.{is_at}
use Rattle.p9_lines.specs.FormLines.{plain, going_to, jump_lines}
use Rattle.p9_forms.specs.Standing.{Rest, stands, placed, Stand}
use Rattle.p9_forms.specs.Laws.{IsFree}
use Rattle.p9_forms.proofs.Temporary.{rest_at, seen_state, seen-other, line-by, register-written, run-one}
use Rattle.p9_expand.specs.Program.{program_lines}
use Rattle.p9_expand_laws.specs.Standing.{line_of}
use Rattle.p9_refine.specs.Maps.{function_line, instruction_line, IsMap, GoesBy, addresses_by}
use Rattle.p9_refine.proofs.Least.{line_at-least}
use Rattle.p9_refine.proofs.Numbers.{instruction-within}
use Rattle.p9_refine.proofs.Finding.{called-there}
use Rattle.p9_refine.proofs.Fine.{all-valid}
use Rattle.p9_refine.proofs.Matching.{run_by, Frame, IsLeast, Stacked, Matches, all-same, stacked-same, KeptSame}
use Rattle.p9_refine.proofs.Leading.{Leads, Before, sound-here, frame-here}
use Rattle.p9_refine.proofs.Entering.{EntersAs, Entering, entry-enters}

-- A call is not the last instruction, and its function keeps its return address

abbrev is-call-of : Option Form → Bool
is-call-of o = holds_of calls_in o

bare-calls : (kinds : List OperandKind) → is-call-of (bare forms.Return kinds) ≡ false
bare-calls [] = refl
bare-calls (k ∷ ks) = refl

jump-calls : (kinds : List OperandKind) → is-call-of (jump kinds) ≡ false
jump-calls (Target a ∷ []) = refl
jump-calls _ = refl

last-calls : (a : Abs) → (a.op ≡ Ret) ⊎ (a.op ≡ Jmp) → is-call-of (decoded a) ≡ false
last-calls a (inl e) = ap (λ op. is-call-of (kinds_form op (map operand_kind a.operands))) e ∙ bare-calls (map operand_kind a.operands)
last-calls a (inr e) = ap (λ op. is-call-of (kinds_form op (map operand_kind a.operands))) e ∙ jump-calls (map operand_kind a.operands)

call-goes-on : (code : List Abs) (k : ℕ) (a : Abs) → EndsWell code → slice_get code k ≡ Some a → is-call-of (decoded a) ≡ true → (b : Abs) × (slice_get code (k + 1) ≡ Some b)
call-goes-on [] k a ends e c = absurd ends
call-goes-on (x ∷ []) zero a ends e c =
    absurd (let no : false ≡ true = sym (last-calls x ends) ∙ ap (λ (z : Abs). is-call-of (decoded z)) (same_Some x a e) ∙ c in cc no)
call-goes-on (x ∷ []) (suc k) a ends e c = absurd (none-some a e)
call-goes-on (x ∷ y ∷ rest) zero a ends e c = (y, refl)
call-goes-on (x ∷ y ∷ rest) (suc k) a ends e c =
    let next = call-goes-on (y ∷ rest) k a ends e c in
    (next.0, ap (slice_get (x ∷ y ∷ rest)) (let n : suc k + 1 ≡ suc (k + 1) = omega arith in n) ∙ next.1)

some-call : (code : List Abs) (k : ℕ) (a : Abs) → slice_get code k ≡ Some a → is-call-of (decoded a) ≡ true → list_any (λ (x : Abs). holds_of calls_in (decoded x)) code ≡ true
some-call [] k a e c = absurd (none-some a e)
some-call (x ∷ rest) zero a e c =
    let here : is-call-of (decoded x) ≡ true = ap (λ (z : Abs). is-call-of (decoded z)) (same_Some x a e) ∙ c in
    ap (λ b. b || list_any (λ (z : Abs). holds_of calls_in (decoded z)) rest) here
some-call (x ∷ rest) (suc k) a e c = by (is-call-of (decoded x)) (some-call rest k a e c)
  where
    by : (b : Bool) → list_any (λ (z : Abs). holds_of calls_in (decoded z)) rest ≡ true → (b || list_any (λ (z : Abs). holds_of calls_in (decoded z)) rest) ≡ true
    by true h = refl
    by false h = h

either : (b c : Bool) → c ≡ true → (b || c) ≡ true
either true c h = refl
either false c h = h

-- The line of a call

pub by-name : (modules : List AModule) (line : ℕ → ℕ) (placing : Placing) (n t : ℕ) (k : Rest) (s : State) (g : ℕ) → s.core.ending ≡ Running →
    Stand (program_lines modules) (line_of modules) n (jump_lines (i.Jal 0) (Some g)) →
    run_by modules line placing 1 (stands t k s n)
    ≡ stands t (rest_at (addresses_by modules line placing) n k) (linked_to (line (n + 1)) s) (line_of modules g)
by-name modules line placing n t k s g running there =
    run-one (addresses_by modules line placing) (program_lines modules) (stands t k s n)
    ∙ line-by (addresses_by modules line placing) (program_lines modules) n t k s (placed (line_of modules) there.0 (going_to (i.Jal 0) g)) (effects.Branch 31 true _) running there.1 refl
    ∙ register-written (addresses_by modules line placing) n t k s 31 (line (n + 1)) (line_of modules g) refl

pub by-address : (modules : List AModule) (line : ℕ → ℕ) (placing : Placing) (n t : ℕ) (k : Rest) (s : State) (p j : ℕ) → s.core.ending ≡ Running → IsFree p →
    Stand (program_lines modules) (line_of modules) n (plain (i.Jalr p 31) ∷ []) → line_at line (reg s.core p) 0 (length (program_lines modules)) ≡ Some j →
    run_by modules line placing 1 (stands t k s n)
    ≡ stands t (rest_at (addresses_by modules line placing) n k) (linked_to (line (n + 1)) s) j
by-address modules line placing n t k s p j running free there found =
    run-one (addresses_by modules line placing) (program_lines modules) (stands t k s n)
    ∙ line-by (addresses_by modules line placing) (program_lines modules) n t k s (placed (line_of modules) there.0 (plain (i.Jalr p 31))) (effects.JumpTo 31 (reg s.core p)) running there.1
    (ap (effects.JumpTo 31) (seen-other (addresses_by modules line placing) n t k s p free))
    ∙ ap (λ o. on_to o n (linked_line (addresses_by modules line placing) 31 n (seen_state (addresses_by modules line placing) n t k s))) found
    ∙ register-written (addresses_by modules line placing) n t k s 31 (line (n + 1)) j refl

-- Where a call leads

module _ (modules : List AModule) (line : ℕ → ℕ) (placing : Placing) (r : Run) (rt : Routine) (a : Abs) (form : Form) (y : Straight) (b : Before modules line placing r rt a form y) (once : IsKept Once (linked modules)) (m : IsMap modules line) (goes : GoesBy modules line placing) (calls : calls_in form ≡ true) where
  abbrev x : Mach
  x = without_text r.mach

  abbrev f : ℕ
  f = r.routine

  abbrev here : ℕ
  here = instruction_line modules r.routine r.mach.at

  abbrev after : ℕ
  after = instruction_line modules r.routine (r.mach.at + 1)

  abbrev active : Active
  active = record { routine = r.routine; after = r.mach.at + 1; kept = r.kept }

  abbrev linked_state : State
  linked_state = linked_to (line (instruction_line modules r.routine (r.mach.at + 1))) (without_text r.mach).state

  calls-here : is-call-of (decoded a) ≡ true
  calls-here = ap is-call-of b.decodes ∙ calls

  next-there : (n : Abs) × (slice_get rt.def.code (r.mach.at + 1) ≡ Some n)
  next-there = call-goes-on rt.def.code r.mach.at a (sound-here modules line placing r rt a form y b).ending b.there calls-here

  after-within : instruction_line modules r.routine (r.mach.at + 1) < length (program_lines modules)
  after-within = (let next = next-there in instruction-within modules (all-valid modules b.objects) r.routine rt b.found (r.mach.at + 1) next.0 next.1)

  after-inside : r.mach.at + 1 < length rt.def.code
  after-inside = (let next = next-there in slice_get_within rt.def.code (r.mach.at + 1) next.0 next.1)

  keeps-here : keeps rt.def ≡ true
  keeps-here = either (not (rt.def.frame == 0)) _ (some-call rt.def.code r.mach.at a b.there calls-here)

  kept-here : r.kept ≡ Some (reg r.mach.state.core 29)
  kept-here = by (frame-here modules line placing r rt a form y b)
    where
      by : Frame modules (reg r.mach.state.core 29) r.routine r.kept → r.kept ≡ Some (reg r.mach.state.core 29)
      by frame =
          frame.kept_is
          ∙ ap (λ (q : Routine). if keeps q.def then Some (reg r.mach.state.core 29) else None) (same_Some frame.routine rt (sym frame.found ∙ b.found))
          ∙ ap (λ z. if z then Some (reg r.mach.state.core 29) else None) keeps-here

  -- the line behind the call is the least at its address
  least-after : is_at links (program_lines modules) (instruction_line modules r.routine r.mach.at) ≡ true →
      instruction_line modules r.routine (r.mach.at + 1) ≡ instruction_line modules r.routine r.mach.at + 1 → IsLeast modules line (instruction_line modules r.routine (r.mach.at + 1))
  least-after link next =
      line_at-least line after (length (program_lines modules)) 0 (omega arith) (omega (arith, after-within))
      (λ j h.
      (let rises : line here < line (here + 1) = m.returns here link in
      let up : line j ≤ line here = m.rising j here (omega (arith, h, next)) (omega (arith, after-within, next)) in
      let same : line (here + 1) ≡ line after = ap line (sym next) in
      omega (arith, rises, up, same)))

  kept-same : (o : Option ℕ) → KeptSame (λ k. read_word r.mach.state.core k) (λ k. read_word r.mach.state.core k) o
  kept-same None = tt
  kept-same (Some k) = refl

  entering : (g : ℕ) (rg : Routine) → slice_get (routines_of modules) g ≡ Some rg →
      is_at links (program_lines modules) (instruction_line modules r.routine r.mach.at) ≡ true →
      instruction_line modules r.routine (r.mach.at + 1) ≡ instruction_line modules r.routine r.mach.at + 1 →
      Entering modules line g rg linked_state (active ∷ r.callers)
  entering g rg found link next =
      let frame : Frame modules (reg r.mach.state.core 29) r.routine r.kept = frame-here modules line placing r rt a form y b in
      let to : ℕ = line after in
      let l : LaidOut x.state.core = b.matches.laid in
      let pointer : reg linked_state.core 29 ≡ reg r.mach.state.core 29 = get_or-set_other r.mach.state.core.regs 31 29 to 0 (let differ : 29 ≢ 31 = omega arith in differ) in
      let back : reg linked_state.core 31 ≡ to = get_or-set_same r.mach.state.core.regs 31 to 0 (omega (arith, b.matches.registers.count)) in
      let small : IsWord to = (let code = m.code after after-within in omega (arith, code.2)) in
      let stack : Stacked modules line (reg linked_state.core 31) (λ k. read_word linked_state.core k) (reg r.mach.state.core 29) r.routine r.kept r.callers =
      stacked-same modules line (reg r.mach.state.core 31) (reg linked_state.core 31) (λ k. read_word r.mach.state.core k) (λ k. read_word linked_state.core k) (reg r.mach.state.core 29) r.routine r.kept r.callers
      (kept-same r.kept) (all-same (λ k. read_word r.mach.state.core k) r.callers)
      (λ e. absurd (none-some (reg r.mach.state.core 29) (sym e ∙ kept-here))) b.matches.stack in
      record {
        valid = all-valid modules b.objects;
        found = found;
        running = b.matches.running;
        registers = record {
          count = length-set r.mach.state.core.regs 31 to ∙ b.matches.registers.count;
          zero_register = get_or-set_other r.mach.state.core.regs 31 0 to 0 (let differ : 0 ≢ 31 = omega arith in differ) ∙ b.matches.registers.zero_register;
        };
        textless = refl;
        laid = record { text = l.text; gap = l.gap; data_and_bss = l.data_and_bss; above = l.above; stack_size = l.stack_size };
        aligned = ap (λ n. n % 4) pointer ∙ frame.aligned;
        above = omega (arith, pointer, frame.above);
        below = omega (arith, pointer, frame.below);
        link = (let e : reg linked_state.core 31 ≡ to = back in subst IsWord (sym e) small);
        waiting = (
          back,
          least-after link next,
          (λ q e. subst (λ (z : Routine). r.mach.at + 1 < length z.def.code) (same_Some rt q (sym b.found ∙ e)) after-inside),
          kept-here ∙ ap Some (sym pointer),
          subst (λ n. Stacked modules line (reg linked_state.core 31) (λ k. read_word linked_state.core k) n r.routine r.kept r.callers) (sym pointer) stack,
        );
      }

  -- one line, and the entry
  call-led : (g : ℕ) (rg : Routine) → slice_get (routines_of modules) g ≡ Some rg →
      is_at links (program_lines modules) (instruction_line modules r.routine r.mach.at) ≡ true →
      instruction_line modules r.routine (r.mach.at + 1) ≡ instruction_line modules r.routine r.mach.at + 1 →
      ((t : ℕ) × (k : Rest) × (run_by modules line placing 1 y ≡ stands t k linked_state (function_line modules g))) →
      Leads modules line placing y (entered rg.def linked_state g (active ∷ r.callers))
  call-led g rg found link next (t, k, run) =
      by (entered rg.def linked_state g (active ∷ r.callers)) (entry-enters modules line placing g rg linked_state (active ∷ r.callers) (entering g rg found link next) t k)
    where
      by : (st : Status) → EntersAs modules line placing (stands t k linked_state (function_line modules g)) st → Leads modules line placing y st
      by (Going q) e = (
        1 + e.0,
        omega arith,
        omega (arith, e.1),
        subst (Matches modules line q)
            (ap (run_by modules line placing e.0) (sym run) ∙ sym (straight_run-sum (addresses_by modules line placing) (program_lines modules) 1 e.0 y)) e.2,
      )
      by (Gone s) e = absurd e
      by Broken e = tt

  -- the function that is called, if there is one
  pub calls-lead : (to : ℕ) →
      ((g : ℕ) → routine_at (addresses_of modules placing) (routines_of modules) 0 to ≡ Some g →
      (is_at links (program_lines modules) (instruction_line modules r.routine r.mach.at) ≡ true)
      × (instruction_line modules r.routine (r.mach.at + 1) ≡ instruction_line modules r.routine r.mach.at + 1)
      × ((t : ℕ) × (k : Rest) × (run_by modules line placing 1 y
      ≡ stands t k (linked_to (line (instruction_line modules r.routine (r.mach.at + 1))) (without_text r.mach).state) (function_line modules g)))) →
      Leads modules line placing y
      (enters (routines_of modules) (routine_at (addresses_of modules placing) (routines_of modules) 0 to)
      (linked_to (placing.instruction r.routine (r.mach.at + 1)) (without_text r.mach).state)
      (record { routine = r.routine; after = r.mach.at + 1; kept = r.kept } ∷ r.callers))
  calls-lead to lines =
      subst (λ z. Leads modules line placing y (enters (routines_of modules) (routine_at (addresses_of modules placing) (routines_of modules) 0 to) (linked_to z x.state) (active ∷ r.callers)))
      (sym (goes.instructions r.routine (r.mach.at + 1) rt b.found after-inside))
      (by (routine_at (addresses_of modules placing) (routines_of modules) 0 to) refl)
    where
      by : (o : Option ℕ) → routine_at (addresses_of modules placing) (routines_of modules) 0 to ≡ o →
          Leads modules line placing y (enters (routines_of modules) o linked_state (active ∷ r.callers))
      by None e = tt
      by (Some g) e =
          let there = called-there modules line placing (all-valid modules b.objects) once m goes to g e in
          let l = lines g e in
          subst (λ o. Leads modules line placing y (entered_in o linked_state g (active ∷ r.callers))) (sym there.1) (call-led g there.0 there.1 l.0 l.1 l.2)
