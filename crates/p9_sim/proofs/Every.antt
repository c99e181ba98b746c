-- Code that is right where branches, JMP and JAL alone are counted is right where all steps are.
use Rattle.std.proofs.Common.{◌≡◌, ◌≤◌, ℕ, zero, suc, ◌+◌, [], refl, ap, subst, arith}
use Rattle.p9_abs.specs.Steps.{Mach, Step, Next, Turns, Calls, Returns, Exits, Undefined}
use Rattle.p9_cmean.specs.Cells.{Value}
use Rattle.p9_cmean.specs.Plays.{Play, Done, Wrong, NoMeaning, Exit, Cut, Turn, Ask, Moved}
use Rattle.p9_sim.specs.Memory.{Map}
use Rattle.p9_sim.specs.Playing.{AllSteps, Branches, Count, first_count, IsPaid, after_plain, back_step, after_branch, after_call, after_turn, after_copy, Setting, step_in, Continues, Goes, Performs}
use Rattle.p9_sim.specs.Matching.{entry_of}
use Rattle.p9_sim.specs.Functions.{setting_of, after_entry}
use Rattle.p9_sim.specs.Examples.{BranchesAreSteps}

pub record More (d e : Count) : Type 0 where
  pub turns : e.turns ≡ d.turns
  pub steps : d.steps ≤ e.steps
  pub allowed : e.allowed ≡ d.allowed
  pub backs : e.backs ≡ d.backs

paid-more : (d e : Count) → More d e → IsPaid d → IsPaid e
paid-more d e m p =
    let t = m.turns in let s = m.steps in let al = m.allowed in let bk = m.backs in let en = p.steps in let fw = p.backs in
    record { steps = omega (arith, t, s, en); backs = omega (arith, al, bk, fw) }

module _ (base : Setting) where
  abbrev a : Setting
  a = record base { counting = Branches }

  abbrev b : Setting
  b = record base { counting = AllSteps }

  goes-more : (j : ℕ) (x y : Mach) (d d1 e : Count) → More d e → Goes a j x d y d1 → (e1 : Count) × Goes b j x e y e1 × More d1 e1
  goes-more zero x y d d1 e m h = (e, (h.0, refl), subst (λ z. More z e) h.1 m)
  goes-more (suc j) x y d d1 e m h = by (step_in base x) h (λ z q r n g. goes-more j z y q d1 r n g)
    where
      by : (s : Step) → Continues a s x.at d (λ z q. Goes a j z q y d1) → ((z : Mach) (q r : Count) → More q r → Goes a j z q y d1 → (e1 : Count) × Goes b j z r y e1 × More d1 e1)
          → (e1 : Count) × Continues b s x.at e (λ z q. Goes b j z q y e1) × More d1 e1
      by (Next z) g rec = let s = m.steps in rec z d (after_plain AllSteps e) (record { turns = m.turns; steps = omega (arith, s); allowed = m.allowed; backs = m.backs }) g
      by (Turns taken z) g rec =
          let s = m.steps in let bk = m.backs in
          rec z (after_branch taken x.at z.at d) (after_branch taken x.at z.at e) (record { turns = m.turns; steps = omega (arith, s); allowed = m.allowed; backs = ap (λ n. n + back_step taken x.at z.at) bk }) g
      by (Calls to z) g rec = absurd g
      by (Returns z) g rec = absurd g
      by (Exits z) g rec = absurd g
      by Undefined g rec = absurd g

  every-step : (p : Play Value) (m : Map) (d e : Count) (x : Mach) → More d e → Performs a p m d x → Performs b p m e x
  every-step (Done v s) m d e x r h =
      let i = h.0 in let g = goes-more i.steps x i.to d i.count e r i.goes in
      (record { steps = i.steps; to = i.to; count = g.0; goes = g.1 }, h.1, h.2, paid-more i.count g.0 g.2 h.3, h.4, h.5)
  every-step (Wrong why place s) m d e x r h = tt
  every-step (NoMeaning place s) m d e x r h = tt
  every-step (Exit text s) m d e x r h =
      let i = h.0 in let g = goes-more i.steps x i.to d i.count e r i.goes in let al = g.2.allowed in let bk = g.2.backs in let fw = h.3 in
      (record { steps = i.steps; to = i.to; count = g.0; goes = g.1 }, h.1, h.2, omega (arith, al, bk, fw), h.4, h.5)
  every-step (Cut s) m d e x r h = tt
  every-step (Turn s p) m d e x r h =
      let i = h.0 in let g = goes-more i.steps x i.to d i.count e r i.goes in (
        record { steps = i.steps; to = i.to; count = g.0; goes = g.1 },
        paid-more i.count g.0 g.2 h.1,
        h.2,
        every-step p m (after_turn i.count) (after_turn g.0) i.to (record { turns = ap (λ n. n + 1) g.2.turns; steps = g.2.steps; allowed = ap (λ n. n + 1) g.2.allowed; backs = g.2.backs }) h.3,
      )
  every-step (Moved n p) m d e x r h =
      every-step p m (after_copy n d) (after_copy n e) x (record { turns = r.turns; steps = r.steps; allowed = ap (λ k. k + n) r.allowed; backs = r.backs }) h
  every-step (Ask call s k) m d e x r h =
      let i = h.0 in let g = goes-more i.steps x i.to d i.count e r i.goes in let st = g.2.steps in (
        record { steps = i.steps; to = i.to; count = g.0; goes = g.1 },
        h.1,
        h.2,
        paid-more i.count g.0 g.2 h.3,
        h.4,
        h.5,
        h.6,
        λ to word v t u w ans. every-step (k v t) u (after_call i.count) (after_call g.0) (record h.1 { state = w })
            (record { turns = g.2.turns; steps = omega (arith, st); allowed = g.2.allowed; backs = g.2.backs }) (h.7 to word v t u w ans),
      )

pub branches_are_steps : BranchesAreSteps
branches_are_steps g symbol def need body name ok others active turns call s m x same fits at =
    let o = ok others active turns call s m x same fits at in
    (o.0, every-step (setting_of g Branches symbol def others active need (entry_of m s call x)) (body turns call s) m first_count first_count (record { state = after_entry def x; vars = []; at = 0 }) (record { turns = refl; steps = omega arith; allowed = refl; backs = refl }) o.1)
