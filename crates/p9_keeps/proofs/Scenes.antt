-- Framed code in a call: what stands fixed while it runs beside the code given (`Scene`).
use Rattle.std.proofs.Common.{ℕ, ◌+◌, ◌-◌, ◌%◌, ◌&&◌, ◌||◌, ◌≡◌, ◌≤◌, ◌<◌, nat_le, Bool, true, false, not, Option, List, ap, arith, if◌then◌else◌, slice_index}
use Rattle.std.specs.List.{list_any}
use Rattle.std.proofs.lemmas.Bool.{ne_eqb}
use Rattle.p9_base.specs.Core.{stack_start, stack_end}
use Rattle.p9_abs.specs.declared.instructions.Abs.{Abs}
use Rattle.p9_abs.specs.declared.instructions.AFunction.{AFunction}
use Rattle.p9_abs.specs.declared.instructions.TextDef.{TextDef}
use Rattle.p9_abs.specs.declared.regions.Region.{Region}
use Rattle.p9_abs.specs.Forms.{decoded}
use Rattle.p9_abs.specs.Automatics.{IsCode, holds_of, calls_in}
use Rattle.p9_abs.specs.Regions.{AreRegions, AreHomes}
use Rattle.p9_abs.specs.Framed.{Plan, IsFramed}
use Rattle.p9_abs.specs.Steps.{Around}
use Rattle.p9_abs.specs.Runs.{keeps_return, taken_from_stack, keeps, taken_by}
use Rattle.p9_abs.specs.OneCall.{Layout, around_call}
use Rattle.p9_abs.specs.Keeping.{Side, side_of, layout_of, in_variable, around_framed, framed_side}
use Rattle.p9_homed.specs.Plain.{IsPlain}
use Rattle.p9_keeps.specs.Moves.{HasMoves}

pub record Scene : Type 0 where
  pub f : AFunction
  pub rs : List Region
  pub homes : List (Option ℕ)
  pub def : TextDef
  pub p : Plan
  pub symbol : ℕ → ℕ
  pub others : ℕ → Bool
  -- R29
  pub sp : ℕ
  pub valid : IsCode f
  pub plain : IsPlain f.code
  pub regions : AreRegions f rs
  pub homed : AreHomes rs homes
  pub framed : IsFramed f rs homes def p
  pub moves : HasMoves f rs homes p
  pub some_frame : 1 ≤ def.frame
  pub low : stack_start ≤ sp
  pub high : sp + def.frame + 4 ≤ stack_end
  pub fourfold : sp % 4 ≡ 0
  pub clear : (b : ℕ) → b < def.frame + 4 → others (sp + b) ≡ false

-- code with a frame keeps its return address
keeps-some : (frame : ℕ) (code : List Abs) → 1 ≤ frame → keeps_return frame code ≡ true
keeps-some frame code l = ap (λ b. not b || list_any (λ (a : Abs). holds_of calls_in (decoded a)) code) (ne_eqb frame 0 (λ e. omega (arith, e, l)))

pub taken-some : (frame : ℕ) (code : List Abs) → 1 ≤ frame → taken_from_stack frame code ≡ frame + 4
taken-some frame code l = ap (λ b. if b then frame + 4 else 0) (keeps-some frame code l)

module _ (s : Scene) where
  abbrev pub layout : Layout
  layout = layout_of s.f s.def.frame s.p.offsets

  abbrev pub given : Around
  given = around_call s.symbol s.f (layout_of s.f s.def.frame s.p.offsets) s.sp s.others

  abbrev pub made : Around
  made = around_framed s.symbol s.def s.sp s.others

  abbrev pub given_side : Side
  given_side = side_of s.symbol s.f (layout_of s.f s.def.frame s.p.offsets) s.sp s.others

  abbrev pub made_side : Side
  made_side = framed_side s.symbol s.def s.sp s.others

  -- the bytes that may differ
  abbrev pub apart : ℕ → Bool
  apart b = nat_le s.sp b && in_variable s.f 0 s.p.offsets (b - s.sp)

  -- where an automatic stands
  abbrev pub place : ℕ → ℕ
  place v = s.sp + slice_index s.p.offsets v

  pub given-keeps : keeps_return s.def.frame s.f.code ≡ true
  given-keeps = keeps-some s.def.frame s.f.code s.some_frame

  pub made-keeps : keeps s.def ≡ true
  made-keeps = keeps-some s.def.frame s.def.code s.some_frame

  pub given-taken : taken_from_stack s.def.frame s.f.code ≡ s.def.frame + 4
  given-taken = taken-some s.def.frame s.f.code s.some_frame

  pub made-taken : taken_by s.def ≡ s.def.frame + 4
  made-taken = taken-some s.def.frame s.def.code s.some_frame
