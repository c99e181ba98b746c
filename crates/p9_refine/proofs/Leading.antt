-- Where a step leads: the straight machine keeps to the run of the modules where an instruction goes on, branches or exits.
use Rattle.std.proofs.Common.{ℕ, ◌+◌, ◌≡◌, ◌≤◌, ◌<◌, nat_lt, Bool, true, false, Option, Some, None, IsSome, List, [], ◌∷◌, length, refl, sym, ap, ◌∙◌, subst, All, if◌then◌else◌, suc, arith}
use Rattle.std.specs.Prelude.{slice_get}
use Rattle.std.proofs.lemmas.Bool.Decides.{nat_tests}
use Rattle.p9_base.specs.Core.{stack_start, reg, read_byte}
use Rattle.p9_base.specs.Holding.{LaidOut, KeepsText}
use Rattle.p9_abs.specs.declared.instructions.Abs.{Abs}
use Rattle.p9_abs.specs.declared.modules.AModule.{AModule}
use Rattle.p9_abs.specs.declared.forms.Form.{Form}
use Rattle.p9_abs.specs.declared.forms.Form.TheVariants as forms
use Rattle.p9_abs.specs.Forms.{weight_of, decoded}
use Rattle.p9_abs.specs.Steps.{Mach, Around, Step, Next, Turns, Calls, Returns, Exits, Undefined, acts_as, at_instruction, without_text, acts, step}
use Rattle.p9_abs.specs.Laws.{IfMach}
use Rattle.p9_abs.specs.Runs.{Routine, keeps, taken_by, Run, Status, Going, Gone, Broken, is_kept, around_of, stepped}
use Rattle.p9_abs.specs.Programs.{addresses_of, Placing, routines_of}
use Rattle.p9_abs.specs.Validity.{IsInstruction}
use Rattle.p9_abs.proofs.StepLaws.{memory_stays}
use Rattle.p9_abs.proofs.Fixed.{stack_stays, banned_stay}
use Rattle.p9_object.specs.Laws.{IsObject}
use Rattle.p9_r3k.specs.Straight.{Straight}
use Rattle.p9_lines.specs.FormLines.{lines_of}
use Rattle.p9_pieces.specs.Ways.{words_from, label_goal, goal_of, way_of}
use Rattle.p9_forms.specs.Standing.{stands, Arrives}
use Rattle.p9_forms.specs.Following.{Site, Follows}
use Rattle.p9_forms.specs.Laws.{is_conditional, IsFine, IsUsual}
use Rattle.p9_expand.specs.Program.{program_lines}
use Rattle.p9_expand.proofs.Valid.{IsSound, all_sound}
use Rattle.p9_expand_laws.specs.Standing.{entry_of, line_of, scope_in, StandsAt}
use Rattle.p9_expand_laws.proofs.Standing.{instructions_stand}
use Rattle.p9_refine.specs.Maps.{instruction_line, addresses_by}
use Rattle.p9_refine.specs.Refining.{HasExited}
use Rattle.p9_refine.proofs.Numbers.{all-at}
use Rattle.p9_refine.proofs.Fine.{LabelWithin, all-valid}
use Rattle.p9_refine.proofs.Plain.{GoesOn, IsRegularStep}
use Rattle.p9_refine.proofs.Matching.{run_by, Frame, frame-of, Matches, stacked-banned}

-- Where a status comes, in 1 to 7 lines
abbrev pub Leads : List AModule → (ℕ → ℕ) → Placing → Straight → Status → Type 0
Leads modules line placing from (Going r) =
    (c : ℕ) × (1 ≤ c) × (c ≤ 7) × Matches modules line r (run_by modules line placing c from)
Leads modules line placing from (Gone s) =
    HasExited s.core.ending × ((at : ℕ) × Arrives (addresses_by modules line placing) (program_lines modules) from s at)
Leads modules line placing from Broken = Unit {0}

-- what the code of a function stands in
abbrev pub around_by : List AModule → (ℕ → ℕ) → Placing → Routine → Run → Around
around_by modules line placing rt r = around_of (addresses_of modules placing) rt r

-- where an instruction's lines stand
abbrev pub site : List AModule → (ℕ → ℕ) → (placing : Placing) → (f k : ℕ) → Routine → Form → Site
site modules line placing f k rt form = record {
  addresses = addresses_by modules line placing;
  lines = program_lines modules;
  place = line_of modules;
  setting = (scope_in modules f rt).setting;
  way = way_of (scope_in modules f rt) k form;
  first = instruction_line modules f k;
}

-- Labels

words-length : (n : ℕ) (code : List Abs) → length (words_from n code) ≡ length code
words-length n [] = refl
words-length n (a ∷ rest) = ap suc (words-length (n + weight_of a) rest)

pub label-goal : (modules : List AModule) (f : ℕ) (rt : Routine) (l : ℕ) → l < length rt.def.code → label_goal (scope_in modules f rt) l ≡ Some (entry_of modules f + 1 + l)
label-goal modules f rt l h =
    ap (λ b. if b then Some (entry_of modules f + 1 + l) else None) (let e : nat_lt l (length (words_from 0 rt.def.code)) ≡ true = inside (length (words_from 0 rt.def.code)) (words-length 0 rt.def.code) in e)
  where
    inside : (n : ℕ) → n ≡ length rt.def.code → nat_lt l n ≡ true
    inside n e = (let small : l < n = omega (arith, e, h) in grind (arith, nat_tests, small))

has-some : {X : Type 0} (o : Option X) (x : X) → o ≡ Some x → IsSome o
has-some o x e = subst (λ p. IsSome p) (sym e) refl

conditional-goal : (modules : List AModule) (f k : ℕ) (rt : Routine) (form : Form) → LabelWithin (length rt.def.code) form → is_conditional form ≡ true →
    IsSome (goal_of (scope_in modules f rt) form)
conditional-goal modules f k rt (forms.BranchPair t a b l) h e = has-some (label_goal (scope_in modules f rt) l) (entry_of modules f + 1 + l) (label-goal modules f rt l h)
conditional-goal modules f k rt (forms.BranchSign t a l) h e = has-some (label_goal (scope_in modules f rt) l) (entry_of modules f + 1 + l) (label-goal modules f rt l h)
conditional-goal modules f k rt _ h e = absurd (cc e)

-- Frames are words

taken-small : (rt : Routine) → IsSound rt → taken_by rt.def ≤ 16777216
taken-small rt v = by (keeps rt.def)
  where
    by : (b : Bool) → (if b then rt.def.frame + 4 else 0) ≤ 16777216
    by true = omega (arith, v.frame.1)
    by false = omega arith

-- A run before an instruction

pub record Before (modules : List AModule) (line : ℕ → ℕ) (placing : Placing) (r : Run) (rt : Routine) (a : Abs) (form : Form) (y : Straight) : Type 0 where
  pub objects : All IsObject modules
  pub matches : Matches modules line r y
  pub found : slice_get (routines_of modules) r.routine ≡ Some rt
  pub there : slice_get rt.def.code r.mach.at ≡ Some a
  pub decodes : decoded a ≡ Some form
  pub fine : IsFine form
  pub label : LabelWithin (length rt.def.code) form

module _ (modules : List AModule) (line : ℕ → ℕ) (placing : Placing) (r : Run) (rt : Routine) (a : Abs) (form : Form) (y : Straight) (b : Before modules line placing r rt a form y) where
  abbrev x : Mach
  x = without_text r.mach

  abbrev around : Around
  around = around_of (addresses_of modules placing) rt r

  pub sound-here : IsSound rt
  sound-here = all-at IsSound (routines_of modules) r.routine rt (all_sound modules (all-valid modules b.objects)) b.found

  pub instruction-here : IsInstruction rt.def.frame (length rt.def.code) a
  instruction-here = all-at (IsInstruction rt.def.frame (length rt.def.code)) rt.def.code r.mach.at a sound-here.instructions b.there

  pub frame-here : Frame modules (reg r.mach.state.core 29) r.routine r.kept
  frame-here = frame-of modules line _ _ (reg r.mach.state.core 29) r.routine r.kept r.callers b.matches.stack

  stand-here : StandsAt modules (entry_of modules r.routine + 1 + r.mach.at)
      (lines_of (scope_in modules r.routine rt).setting (way_of (scope_in modules r.routine rt) r.mach.at form) form)
  stand-here = instructions_stand modules r.routine r.mach.at rt a form (all-valid modules b.objects) b.found b.there b.decodes

  pub usual-here : IsUsual (site modules line placing r.routine r.mach.at rt form) (around_by modules line placing rt r) form (without_text r.mach)
  usual-here = record {
    running = b.matches.running;
    count = b.matches.registers.count;
    zero_register = b.matches.registers.zero_register;
    textless = refl;
    stack = (let frame = frame-here in omega (arith, frame.below));
    taken = refl;
    small = (let t = taken-small rt sound-here in omega (arith, t));
    symbols = λ symbol. refl;
    framed = refl;
    there = stand-here.there;
    next = stand-here.next;
    goal = λ e. conditional-goal modules r.routine r.mach.at rt form b.label e;
  }

  -- the step of an instruction is that of its form
  pub step-here : step (around_by modules line placing rt r) rt.def.code r.mach
      ≡ acts (around_by modules line placing rt r) form (without_text r.mach)
  unfolding step
  step-here = ap (λ o. at_instruction around o x) b.there ∙ ap (λ o. acts_as around o x) b.decodes

  -- what each step leaves
  pub record Leaves (s : Step) : Type 0 where
    pub memory : IfMach (λ z. KeepsText (without_text r.mach).state.core z.state.core) s
    pub fixed : IfMach (λ z. (reg z.state.core 29 ≡ reg r.mach.state.core 29) × (reg z.state.core 30 ≡ reg r.mach.state.core 30) × (reg z.state.core 31 ≡ reg r.mach.state.core 31)) s
    pub banned : (p : ℕ) → stack_start ≤ p → is_kept r p ≡ true → IfMach (λ z. read_byte z.state.core p ≡ read_byte r.mach.state.core p) s

  pub leaves-here : Leaves (acts (around_by modules line placing rt r) form (without_text r.mach))
  leaves-here = record {
    memory = subst (IfMach (λ z. KeepsText x.state.core z.state.core)) step-here (memory_stays around rt.def.code r.mach b.matches.laid);
    fixed =
        subst (IfMach (λ z. (reg z.state.core 29 ≡ reg r.mach.state.core 29) × (reg z.state.core 30 ≡ reg r.mach.state.core 30) × (reg z.state.core 31 ≡ reg r.mach.state.core 31))) step-here
        (stack_stays around rt.def.code r.mach a b.there instruction-here.destination);
    banned = λ p high kept.
        subst (IfMach (λ z. read_byte z.state.core p ≡ read_byte r.mach.state.core p)) step-here
        (banned_stay around rt.def.code r.mach p b.matches.laid high kept);
  }

  laid-kept : (z : Mach) → KeepsText x.state.core z.state.core → LaidOut (without_text z).state.core
  laid-kept z k =
      let l : LaidOut x.state.core = b.matches.laid in
      record {
        text = omega arith;
        gap = omega (arith, l.gap, k.data_start);
        data_and_bss = omega (arith, l.data_and_bss, k.data_start, k.low_size);
        above = omega (arith, l.above, k.low_size);
        stack_size = k.stack_size ∙ l.stack_size;
      }

  -- the next instruction
  goes-on : (z : Mach) → Leaves (Next z) → IsRegularStep x (Next z) → Arrives (addresses_by modules line placing) (program_lines modules) y z.state (line_of modules (entry_of modules r.routine + 1 + r.mach.at + 1)) →
      Leads modules line placing y (Going (record r { mach = z }))
  goes-on z l g arrives = (
    arrives.count,
    arrives.some,
    arrives.few,
    record {
      temporary = arrives.temporary;
      rest = arrives.rest;
      same = arrives.run ∙ ap (λ n. stands arrives.temporary arrives.rest z.state (line_of modules n)) (omega (arith, g.0));
      running = g.1;
      registers = g.2;
      laid = laid-kept z l.memory;
      stack = stacked-banned modules line r r.mach.state.core z.state.core l.memory.order l.fixed.0 l.fixed.2 l.banned b.matches.stack;
    },
  )

  -- a step that only goes on or exits
  pub plain-leads : (s : Step) → GoesOn s → IsRegularStep (without_text r.mach) s → Leaves s → Follows (site modules line placing r.routine r.mach.at rt form) form y s →
      Leads modules line placing y (stepped (addresses_of modules placing) (routines_of modules) rt r s)
  plain-leads (Next z) on g l f = goes-on z l g f
  plain-leads (Exits z) on g l f = (g, f)
  plain-leads Undefined on g l f = tt
  plain-leads (Turns taken z) on g l f = absurd on
  plain-leads (Calls to z) on g l f = absurd on
  plain-leads (Returns z) on g l f = absurd on

  -- to another instruction with the same state
  pub turns-to : (at : ℕ) → Arrives (addresses_by modules line placing) (program_lines modules) y (without_text r.mach).state (instruction_line modules r.routine at) →
      Leads modules line placing y (Going (record r { mach = record (without_text r.mach) { at = at } }))
  turns-to at arrives = (
    arrives.count,
    arrives.some,
    arrives.few,
    record {
      temporary = arrives.temporary;
      rest = arrives.rest;
      same = arrives.run;
      running = b.matches.running;
      registers = record { count = b.matches.registers.count; zero_register = b.matches.registers.zero_register };
      laid = b.matches.laid;
      stack = b.matches.stack;
    },
  )

  pub branch-leads : (taken : Bool) (l : ℕ) → goal_of (scope_in modules r.routine rt) form ≡ Some (entry_of modules r.routine + 1 + l) →
      Follows (site modules line placing r.routine r.mach.at rt form) form y (Turns taken (record (without_text r.mach) { at = if taken then l else r.mach.at + 1 })) →
      Leads modules line placing y (Going (record r { mach = record (without_text r.mach) { at = if taken then l else r.mach.at + 1 } }))
  branch-leads true l goal f = turns-to l (f (entry_of modules r.routine + 1 + l) goal)
  branch-leads false l goal f =
      turns-to (r.mach.at + 1)
      (subst (λ n. Arrives (addresses_by modules line placing) (program_lines modules) y x.state (line_of modules n)) (let e : entry_of modules r.routine + 1 + r.mach.at + 1 ≡ entry_of modules r.routine + 1 + (r.mach.at + 1) = omega arith in e) f)
