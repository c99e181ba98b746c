-- A run of the modules of any number of steps keeps the straight machine to it.
use Rattle.std.proofs.Common.{ℕ, zero, suc, ◌+◌, ◌*◌, ◌≤◌, List, sym, ap, ◌∙◌, subst, All, arith}
use Rattle.p9_base.specs.declared.halt.Ending.{Ending}
use Rattle.p9_base.specs.declared.halt.Ending.TheVariants.{Running, Exited, Halted}
use Rattle.p9_abs.specs.declared.modules.AModule.{AModule}
use Rattle.p9_abs.specs.BuiltIn.{linked}
use Rattle.p9_abs.specs.Runs.{Status, Going, Gone, Broken, onward, arun_from}
use Rattle.p9_abs.specs.Programs.{addresses_of, Placing, routines_of}
use Rattle.p9_names.specs.declared.rules.Rule.TheVariants.{Once}
use Rattle.p9_names.specs.Linking.{IsKept}
use Rattle.p9_object.specs.Laws.{IsObject}
use Rattle.p9_r3k.specs.Straight.{Straight}
use Rattle.p9_r3k.specs.Laws.{HasEnded}
use Rattle.p9_r3k.proofs.Runs.{straight_run-ended, straight_run-sum}
use Rattle.p9_forms.specs.Standing.{stands}
use Rattle.p9_expand.specs.Program.{program_lines}
use Rattle.p9_refine.specs.Maps.{IsMap, GoesBy, addresses_by}
use Rattle.p9_refine.specs.Refining.{Comes, HasExited, StandsAs}
use Rattle.p9_refine.proofs.Matching.{run_by, Matches}
use Rattle.p9_refine.proofs.Leading.{Leads}
use Rattle.p9_refine.proofs.Stepping.{onward-leads}

-- after n steps of a run
abbrev pub Stays : List AModule → (ℕ → ℕ) → Placing → Straight → ℕ → Status → Type 0
Stays modules line placing from n (Going r) =
    (c : ℕ) × (n + 1 ≤ c) × (c ≤ 7 * n + 6) × Matches modules line r (run_by modules line placing c from)
Stays modules line placing from n (Gone s) =
    HasExited s.core.ending × ((at : ℕ) × Comes (addresses_by modules line placing) (program_lines modules) from (n + 1) (7 * n + 6) s at)
Stays modules line placing from n Broken = Unit {0}

ended-of : (e : Ending) → HasExited e → HasEnded e
ended-of (Exited at len) h = tt
ended-of Running h = absurd h
ended-of (Halted cause pc) h = absurd h

module _ (modules : List AModule) (line : ℕ → ℕ) (placing : Placing) (objects : All IsObject modules) (once : IsKept Once (linked modules)) (m : IsMap modules line) (goes : GoesBy modules line placing) (from : Straight) where
  one-more : (n : ℕ) (s : Status) → Stays modules line placing from n s →
      Stays modules line placing from (suc n) (onward (addresses_of modules placing) (routines_of modules) s)
  one-more n Broken h = tt
  one-more n (Gone s) h =
      let c = h.1.1 in (
        h.0,
        (
          h.1.0,
          record {
            count = c.count + 1;
            temporary = c.temporary;
            rest = c.rest;
            many = omega (arith, c.many);
            few = omega (arith, c.few);
            run = straight_run-sum (addresses_by modules line placing) (program_lines modules) c.count 1 from
                ∙ ap (run_by modules line placing 1) c.run
                ∙ straight_run-ended (addresses_by modules line placing) (program_lines modules) 1 (stands c.temporary c.rest s h.1.0) (ended-of s.core.ending h.0);
          },
        ),
      )
  one-more n (Going r) h =
      by (onward (addresses_of modules placing) (routines_of modules) (Going r))
      (onward-leads modules line placing objects once m goes r (run_by modules line placing h.0 from) h.3)
    where
      by : (s : Status) → Leads modules line placing (run_by modules line placing h.0 from) s → Stays modules line placing from (suc n) s
      by Broken l = tt
      by (Gone s) l =
          let a = l.1.1 in (
            l.0,
            (
              l.1.0,
              record {
                count = h.0 + a.count;
                temporary = a.temporary;
                rest = a.rest;
                many = omega (arith, h.1, a.some);
                few = omega (arith, h.2, a.few);
                run = straight_run-sum (addresses_by modules line placing) (program_lines modules) h.0 a.count from ∙ a.run;
              },
            ),
          )
      by (Going q) l = (
        h.0 + l.0,
        omega (arith, h.1, l.1),
        omega (arith, h.2, l.2),
        subst (Matches modules line q) (sym (straight_run-sum (addresses_by modules line placing) (program_lines modules) h.0 l.0 from)) l.3,
      )

  pub stays : (start : Status) → Stays modules line placing from 0 start → (n : ℕ) →
      Stays modules line placing from n (arun_from (addresses_of modules placing) (routines_of modules) n start)
  unfolding arun_from
  stays start h zero = h
  stays start h (suc n) = one-more n (arun_from (addresses_of modules placing) (routines_of modules) n start) (stays start h n)

-- it stands as the run
pub stands-as : (modules : List AModule) (line : ℕ → ℕ) (placing : Placing) (from : Straight) (n : ℕ) (s : Status) → Stays modules line placing from n s →
    StandsAs modules (addresses_by modules line placing) from n s
stands-as modules line placing from n Broken h = tt
stands-as modules line placing from n (Gone s) h = h
stands-as modules line placing from n (Going r) h =
    (h.3.running, record { count = h.0; temporary = h.3.temporary; rest = h.3.rest; many = h.1; few = h.2; run = h.3.same })
