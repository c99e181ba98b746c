-- Each step of a run of the modules keeps the straight machine to it.
use Rattle.std.proofs.Common.{ℕ, ◌+◌, ◌≡◌, ◌<◌, true, Option, Some, None, List, [], ◌∷◌, length, refl, sym, ap, ◌∙◌, subst, All, arith}
use Rattle.std.specs.Prelude.{slice_get}
use Rattle.p9_base.specs.Core.{reg}
use Rattle.p9_abs.specs.declared.instructions.Abs.{Abs}
use Rattle.p9_abs.specs.declared.modules.AModule.{AModule}
use Rattle.p9_abs.specs.declared.forms.Form.{Form}
use Rattle.p9_abs.specs.declared.forms.Form.TheVariants as forms
use Rattle.p9_abs.specs.Forms.{decoded}
use Rattle.p9_abs.specs.BuiltIn.{linked}
use Rattle.p9_abs.specs.Steps.{Mach, pair_holds, sign_holds, acts_as, at_instruction, without_text, acts, step}
use Rattle.p9_abs.specs.Runs.{Routine, Run, Going, routine_at, linked_to, stepped, in_routine, onward}
use Rattle.p9_abs.specs.Programs.{addresses_of, Placing, routines_of}
use Rattle.p9_names.specs.declared.rules.Rule.TheVariants.{Once}
use Rattle.p9_names.specs.Linking.{IsKept}
use Rattle.p9_object.specs.Laws.{IsObject}
use Rattle.p9_r3k.specs.declared.inst.Inst.TheVariants as i
use Rattle.p9_r3k.specs.Straight.{Straight, line_at}
use Rattle.p9_r3k.specs.Uses.{links}
use Rattle.p9_slot.specs.Schedule.{line_is, is_at}
use Rattle.p9_lines.specs.FormLines.{plain, jump_lines}
use Rattle.p9_pieces.specs.Callees.{callee_in}
use Rattle.p9_forms.specs.Standing.{Rest, stands, Stand}
use Rattle.p9_forms.specs.Following.{Follows}
use Rattle.p9_forms.proofs.Forms.{forms_do}
use Rattle.p9_forms.proofs.Temporary.{rest_at}
use Rattle.p9_expand.specs.Program.{program_lines}
use Rattle.p9_expand_laws.specs.Standing.{entry_of, line_of}
use Rattle.p9_refine.specs.Maps.{function_line, instruction_line, IsMap, GoesBy, addresses_by}
use Rattle.p9_refine.proofs.Least.{line_at-least}
use Rattle.p9_refine.proofs.Numbers.{function-within}
use Rattle.p9_refine.proofs.Finding.{called-there, named-there}
use Rattle.p9_refine.proofs.Fine.{all-valid, all-fine}
use Rattle.p9_refine.proofs.Plain.{is_plain, plain-on, step-regular}
use Rattle.p9_refine.proofs.Matching.{run_by, Matches}
use Rattle.p9_refine.proofs.Leading.{around_by, Leads, site, label-goal, Before, usual-here, leaves-here, plain-leads, branch-leads}
use Rattle.p9_refine.proofs.Calling.{by-name, by-address, calls-lead}
use Rattle.p9_refine.proofs.Returning.{returns-lead}

module _ (modules : List AModule) (line : ℕ → ℕ) (placing : Placing) (once : IsKept Once (linked modules)) (m : IsMap modules line) (goes : GoesBy modules line placing) (r : Run) (rt : Routine) (a : Abs) (y : Straight) where
  abbrev x : Mach
  x = without_text r.mach

  -- what an instruction does, its lines do
  followed : (form : Form) → Before modules line placing r rt a form y →
      Follows (site modules line placing r.routine r.mach.at rt form) form y (acts (around_by modules line placing rt r) form (without_text r.mach))
  followed form b =
      subst (λ z. Follows (site modules line placing r.routine r.mach.at rt form) form z (acts (around_by modules line placing rt r) form x)) (sym b.matches.same)
      (forms_do form b.fine (site modules line placing r.routine r.mach.at rt form) (around_by modules line placing rt r) x b.matches.temporary b.matches.rest
      (usual-here modules line placing r rt a form y b))

  plain-form : (form : Form) → Before modules line placing r rt a form y → is_plain form ≡ true →
      Leads modules line placing y
      (stepped (addresses_of modules placing) (routines_of modules) rt r (acts (around_by modules line placing rt r) form (without_text r.mach)))
  plain-form form b h =
      plain-leads modules line placing r rt a form y b (acts (around_by modules line placing rt r) form x)
      (plain-on (around_by modules line placing rt r) form x h)
      (step-regular (around_by modules line placing rt r) form x b.matches.running
      (record { count = b.matches.registers.count; zero_register = b.matches.registers.zero_register }))
      (leaves-here modules line placing r rt a form y b) (followed form b)

  next-number : entry_of modules r.routine + 1 + (r.mach.at + 1) ≡ entry_of modules r.routine + 1 + r.mach.at + 1
  next-number = omega arith

  call-by-name : (symbol : ℕ) → Before modules line placing r rt a (forms.Call symbol) y →
      Leads modules line placing y
      (stepped (addresses_of modules placing) (routines_of modules) rt r
      (acts (around_by modules line placing rt r) (forms.Call symbol) (without_text r.mach)))
  call-by-name symbol b = calls-lead modules line placing r rt a (forms.Call symbol) y b once m goes refl ((addresses_of modules placing).symbol rt.unit symbol) lines
    where
      lines : (g : ℕ) →
          routine_at (addresses_of modules placing) (routines_of modules) 0 ((addresses_of modules placing).symbol rt.unit symbol) ≡ Some g →
          (is_at links (program_lines modules) (instruction_line modules r.routine r.mach.at) ≡ true)
          × (instruction_line modules r.routine (r.mach.at + 1) ≡ instruction_line modules r.routine r.mach.at + 1)
          × ((t : ℕ) × (k : Rest) × (run_by modules line placing 1 y
          ≡ stands t k (linked_to (line (instruction_line modules r.routine (r.mach.at + 1))) (without_text r.mach).state) (function_line modules g)))
      lines g e =
          let goal : callee_in modules rt.unit symbol ≡ Some (entry_of modules g) = named-there modules line placing (all-valid modules b.objects) once m goes rt.unit symbol g e in
          let u = usual-here modules line placing r rt a (forms.Call symbol) y b in
          let there : Stand (program_lines modules) (line_of modules) (instruction_line modules r.routine r.mach.at) (jump_lines (i.Jal 0) (Some (entry_of modules g))) =
          subst (λ o. Stand (program_lines modules) (line_of modules) (instruction_line modules r.routine r.mach.at) (jump_lines (i.Jal 0) o)) goal u.there in
          let next : instruction_line modules r.routine (r.mach.at + 1) ≡ instruction_line modules r.routine r.mach.at + 1 =
          ap (line_of modules) next-number ∙ u.next ∙ ap (λ o. instruction_line modules r.routine r.mach.at + length (jump_lines (i.Jal 0) o)) goal in (
            ap (line_is links) there.1,
            next,
            (
              b.matches.temporary,
              rest_at (addresses_by modules line placing) (instruction_line modules r.routine r.mach.at) b.matches.rest,
              ap (run_by modules line placing 1) b.matches.same
                  ∙ by-name modules line placing (instruction_line modules r.routine r.mach.at) b.matches.temporary b.matches.rest x.state (entry_of modules g) b.matches.running there
                  ∙ ap (λ n. stands b.matches.temporary (rest_at (addresses_by modules line placing) (instruction_line modules r.routine r.mach.at) b.matches.rest) (linked_to (line n) x.state) (function_line modules g)) (sym next),
            ),
          )

  call-by-address : (p : ℕ) → Before modules line placing r rt a (forms.CallRegister p) y →
      Leads modules line placing y
      (stepped (addresses_of modules placing) (routines_of modules) rt r
      (acts (around_by modules line placing rt r) (forms.CallRegister p) (without_text r.mach)))
  call-by-address p b = calls-lead modules line placing r rt a (forms.CallRegister p) y b once m goes refl (reg r.mach.state.core p) lines
    where
      lines : (g : ℕ) → routine_at (addresses_of modules placing) (routines_of modules) 0 (reg r.mach.state.core p) ≡ Some g →
          (is_at links (program_lines modules) (instruction_line modules r.routine r.mach.at) ≡ true)
          × (instruction_line modules r.routine (r.mach.at + 1) ≡ instruction_line modules r.routine r.mach.at + 1)
          × ((t : ℕ) × (k : Rest) × (run_by modules line placing 1 y
          ≡ stands t k (linked_to (line (instruction_line modules r.routine (r.mach.at + 1))) (without_text r.mach).state) (function_line modules g)))
      lines g e =
          let called = called-there modules line placing (all-valid modules b.objects) once m goes (reg r.mach.state.core p) g e in
          let u = usual-here modules line placing r rt a (forms.CallRegister p) y b in
          let there : Stand (program_lines modules) (line_of modules) (instruction_line modules r.routine r.mach.at) (plain (i.Jalr p 31) ∷ []) = u.there in
          let next : instruction_line modules r.routine (r.mach.at + 1) ≡ instruction_line modules r.routine r.mach.at + 1 = ap (line_of modules) next-number ∙ u.next in
          let inside : function_line modules g < length (program_lines modules) = function-within modules (all-valid modules b.objects) g called.0 called.1 in
          let found : line_at line (reg r.mach.state.core p) 0 (length (program_lines modules)) ≡ Some (function_line modules g) =
          ap (λ z. line_at line z 0 (length (program_lines modules))) called.2
          ∙ line_at-least line (function_line modules g) (length (program_lines modules)) 0 (omega arith) (omega (arith, inside)) (λ j h. m.apart g j called.0 called.1 h) in (
            ap (line_is links) there.1,
            next,
            (
              b.matches.temporary,
              rest_at (addresses_by modules line placing) (instruction_line modules r.routine r.mach.at) b.matches.rest,
              ap (run_by modules line placing 1) b.matches.same
                  ∙ by-address modules line placing (instruction_line modules r.routine r.mach.at) b.matches.temporary b.matches.rest x.state p (function_line modules g) b.matches.running b.fine there found
                  ∙ ap (λ n. stands b.matches.temporary (rest_at (addresses_by modules line placing) (instruction_line modules r.routine r.mach.at) b.matches.rest) (linked_to (line n) x.state) (function_line modules g)) (sym next),
            ),
          )

  form-leads : (form : Form) → Before modules line placing r rt a form y →
      Leads modules line placing y
      (stepped (addresses_of modules placing) (routines_of modules) rt r (acts (around_by modules line placing rt r) form (without_text r.mach)))
  form-leads (forms.BranchPair t p q l) b =
      branch-leads modules line placing r rt a (forms.BranchPair t p q l) y b (pair_holds t (reg x.state.core p) (reg x.state.core q)) l (label-goal modules r.routine rt l b.label) (followed (forms.BranchPair t p q l) b)
  form-leads (forms.BranchSign t p l) b =
      branch-leads modules line placing r rt a (forms.BranchSign t p l) y b (sign_holds t (reg x.state.core p)) l (label-goal modules r.routine rt l b.label) (followed (forms.BranchSign t p l) b)
  form-leads (forms.Jump l) b = branch-leads modules line placing r rt a (forms.Jump l) y b true l (label-goal modules r.routine rt l b.label) (followed (forms.Jump l) b)
  form-leads (forms.Call symbol) b = call-by-name symbol b
  form-leads (forms.CallRegister p) b = call-by-address p b
  form-leads forms.Return b = returns-lead modules line placing r rt a y b goes (followed forms.Return b)
  form-leads (forms.Move w p q) b = plain-form (forms.Move w p q) b refl
  form-leads (forms.SetConstant c p) b = plain-form (forms.SetConstant c p) b refl
  form-leads (forms.SetAddress l p) b = plain-form (forms.SetAddress l p) b refl
  form-leads (forms.Load w l p) b = plain-form (forms.Load w l p) b refl
  form-leads (forms.Store w p l) b = plain-form (forms.Store w p l) b refl
  form-leads (forms.GetHiLo s p) b = plain-form (forms.GetHiLo s p) b refl
  form-leads (forms.SetHiLo p s) b = plain-form (forms.SetHiLo p s) b refl
  form-leads (forms.Calculate k p q c) b = plain-form (forms.Calculate k p q c) b refl
  form-leads (forms.CalculateConstant k p q c) b = plain-form (forms.CalculateConstant k p q c) b refl
  form-leads (forms.ShiftConstant k p q c) b = plain-form (forms.ShiftConstant k p q c) b refl
  form-leads (forms.Multiply k p q) b = plain-form (forms.Multiply k p q) b refl
  form-leads forms.SystemCall b = plain-form forms.SystemCall b refl

  pub instruction-leads : All IsObject modules → Matches modules line r y → slice_get (routines_of modules) r.routine ≡ Some rt → slice_get rt.def.code r.mach.at ≡ Some a →
      Leads modules line placing y
      (stepped (addresses_of modules placing) (routines_of modules) rt r
      (acts_as (around_by modules line placing rt r) (decoded a) (without_text r.mach)))
  instruction-leads objects match found there = by (decoded a) refl
    where
      by : (o : Option Form) → decoded a ≡ o →
          Leads modules line placing y
          (stepped (addresses_of modules placing) (routines_of modules) rt r (acts_as (around_by modules line placing rt r) o (without_text r.mach)))
      by None e = tt
      by (Some form) e =
          let fine = all-fine modules r.routine r.mach.at rt a form objects found there e in
          form-leads form (record { objects = objects; matches = match; found = found; there = there; decodes = e; fine = fine.0; label = fine.1 })

module _ (modules : List AModule) (line : ℕ → ℕ) (placing : Placing) (objects : All IsObject modules) (once : IsKept Once (linked modules)) (m : IsMap modules line) (goes : GoesBy modules line placing) (r : Run) (y : Straight) (match : Matches modules line r y) where
  step-is : (rt : Routine) (o : Option Abs) → slice_get rt.def.code r.mach.at ≡ o →
      step (around_by modules line placing rt r) rt.def.code r.mach
      ≡ at_instruction (around_by modules line placing rt r) o (without_text r.mach)
  unfolding step
  step-is rt o e = ap (λ z. at_instruction (around_by modules line placing rt r) z (without_text r.mach)) e

  -- each step of a run that goes on
  pub onward-leads : Leads modules line placing y (onward (addresses_of modules placing) (routines_of modules) (Going r))
  onward-leads = by (slice_get (routines_of modules) r.routine) refl
    where
      by-instruction : (rt : Routine) → slice_get (routines_of modules) r.routine ≡ Some rt → (o : Option Abs) → slice_get rt.def.code r.mach.at ≡ o →
          Leads modules line placing y
          (stepped (addresses_of modules placing) (routines_of modules) rt r
          (at_instruction (around_by modules line placing rt r) o (without_text r.mach)))
      by-instruction rt found None e = tt
      by-instruction rt found (Some a) e = instruction-leads modules line placing once m goes r rt a y objects match found e

      by : (o : Option Routine) → slice_get (routines_of modules) r.routine ≡ o →
          Leads modules line placing y (in_routine (addresses_of modules placing) (routines_of modules) o r)
      by None e = tt
      by (Some rt) e =
          subst (λ s. Leads modules line placing y (stepped (addresses_of modules placing) (routines_of modules) rt r s)) (sym (step-is rt (slice_get rt.def.code r.mach.at) refl))
          (by-instruction rt e (slice_get rt.def.code r.mach.at) refl)
