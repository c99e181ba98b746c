-- Functions whose code is right make a program that is right, by induction on turns.
use Rattle.std.proofs.Common.{◌≡◌, ◌≤◌, ◌<◌, ◌⊎◌, inl, inr, ℕ, zero, suc, ◌+◌, ◌-◌, ◌*◌, nat_lt, Bool, true, false, Option, Some, List, [], ◌∷◌, length, slice_get, refl, sym, ap, ◌∙◌, subst, arith, if◌then◌else◌}
use Rattle.std.proofs.lemmas.Bool.Decides.{nat_tests}
use Rattle.p9_base.specs.Words.{IsWord}
use Rattle.p9_base.specs.SystemCalls.{State}
use Rattle.p9_abs.specs.Steps.{Mach, Step, Next, Turns, Calls, Returns, Exits, Undefined, step}
use Rattle.p9_abs.specs.Runs.{Routine, Addresses, Active, Status, Going, kept_by, entered_in, enters, linked_to, raised, around_of, arun_from}
use Rattle.p9_abs.specs.Keeping.{nowhere}
use Rattle.p9_cmean.specs.Cells as c
use Rattle.p9_cmean.specs.Cells.{FunctionName, Value}
use Rattle.p9_cmean.specs.Plays.{Call, Play, Done, Wrong, NoMeaning, Exit, Cut, Turn, Ask, Moved}
use Rattle.p9_cmean.specs.PlayLaws.{Lasts}
use Rattle.p9_cmean.specs.Turns.{Ended, Out, Undefined as Wronged, Deep, NoOutcome, End, Gave, Over, and_then, resolve, Functions, room, calls_to}
use Rattle.p9_cmean.proofs.Plays.{lasts_less}
use Rattle.p9_sim.specs.Memory.{Map, Ground}
use Rattle.p9_sim.specs.Matching.{AtCall, Entry, entry_of, Answers}
use Rattle.p9_sim.specs.Playing.{AllSteps, Count, first_count, IsPaid, after_plain, back_step, after_branch, after_call, after_turn, after_copy, Setting, step_in, Continues, Goes, Reaches, Performs}
use Rattle.p9_sim.specs.Functions.{setting_of}
use Rattle.p9_compose.specs.Calling.{HasCode, IsMeaningless, IsAbsent, IsProgram, run_at, waiting, ComesTo, CallsAreRight}
use Rattle.p9_compose.proofs.Running.{runs-zero, runs-next, onward-step, back-or-not, cost-on, cost-back, cost-inner, cost-end, cost-over, cost-less}
use Rattle.p9_compose.proofs.Shaping.{Plain, Shape, shaped}
use Rattle.p9_compose.proofs.Ending.{call-inside}
use Rattle.p9_compose.proofs.Entering.{kept_word, first_of, entered-going, kept-same, around-same}
use Rattle.p9_abs.proofs.Growing.{runs_compose}

module _ (p : Addresses) (rs : List Routine) (g : Ground) (functions : Functions) (most : ℕ) where
  -- where the run of a call stands: J steps from its caller's JAL on
  record Now (st : Status) (k c0 f : ℕ) (kept : Option ℕ) (callers : List Active) (n copied : ℕ) (d : Count) (x : Mach) (J I e : ℕ) : Type 0 where
    pub went : arun_from p rs J st ≡ Going (run_at x f kept callers)
    pub turns : k ≡ n + d.turns + I
    pub steps : d.steps + I ≤ J
    pub cost : J ≤ 1 + x.at + (d.backs + e) * most
    pub spent : k + copied ≡ n + c0 + 1 + d.allowed + e
    pub vars : x.vars ≡ []
    pub more : c0 ≤ copied
    pub one : 1 ≤ d.turns

  -- the steps of one call are steps of the run
  record Lifted (st : Status) (k c0 f : ℕ) (kept : Option ℕ) (callers : List Active) (n copied : ℕ) (e0 : Count) (y : Mach) (I e : ℕ) : Type 0 where
    pub J : ℕ
    pub now : Now st k c0 f kept callers n copied e0 y J I e

  -- one call, of a function of the program, begun with `entry`
  module _ (st : Status) (k c0 f : ℕ) (callers : List Active) (rt : Routine) (is : slice_get rs f ≡ Some rt) (short : length rt.def.code ≤ most)
      (before need : ℕ) (entry : Entry) where
    abbrev kept : Option ℕ
    kept = kept_word rt.def entry.state

    abbrev set : Setting
    set = setting_of g AllSteps (p.symbol rt.unit) rt.def (kept_by callers) before need entry

    in-run : (y : Mach) (s : Step) → step_in set y ≡ s → step (around_of p rt (run_at y f kept callers)) rt.def.code y ≡ s
    in-run y s e = ap (λ a. step a rt.def.code y) (around-same p rt entry.state f y callers) ∙ e

    shape-at : (y : Mach) (s : Step) → step_in set y ≡ s → Shape (length rt.def.code) y s
    shape-at y s e = shaped set.around rt.def.code y s e

    lift-by : (j : ℕ) (x y : Mach) (d e : Count) (n copied J I u : ℕ) (s : Step) → step_in set x ≡ s
        → Now st k c0 f kept callers n copied d x J I u → Continues set s x.at d (λ z h. Goes set j z h y e)
        → ((z : Mach) (h : Count) → Now st k c0 f kept callers n copied h z (J + 1) I u → Goes set j z h y e → Lifted st k c0 f kept callers n copied e y I u)
        → Shape (length rt.def.code) x s → Lifted st k c0 f kept callers n copied e y I u
    lift-by j x y d e n copied J I u (Next z) eq now goes rec sh =
        rec z (after_plain AllSteps d) (record {
          went = runs-next p rs J st _ _ now.went (onward-step p rs (run_at x f kept callers) rt (Next z) is (in-run x (Next z) eq));
          turns = now.turns;
          steps = (let h = now.steps in omega (arith, h));
          cost = cost-on most J x.at z.at d.backs u d.backs now.cost refl (let q = sh.1 in omega (arith, q));
          spent = now.spent;
          vars = sh.2 now.vars;
          more = now.more;
          one = now.one;
        }) goes
    lift-by j x y d e n copied J I u (Turns taken z) eq now goes rec sh =
        rec z (after_branch taken x.at z.at d) (record {
          went = runs-next p rs J st _ _ now.went (onward-step p rs (run_at x f kept callers) rt (Turns taken z) is (in-run x (Turns taken z) eq));
          turns = now.turns;
          steps = (let h = now.steps in omega (arith, h));
          cost = by (back-or-not taken x.at z.at sh.1);
          spent = now.spent;
          vars = sh.2 now.vars;
          more = now.more;
          one = now.one;
        }) goes
      where
        by : (back_step taken x.at z.at ≡ 1) ⊎ ((back_step taken x.at z.at ≡ 0) × (x.at + 1 ≤ z.at)) → J + 1 ≤ 1 + z.at + ((d.backs + back_step taken x.at z.at) + u) * most
        by (inl q) = cost-back most J x.at z.at d.backs u (d.backs + back_step taken x.at z.at) now.cost (omega (arith, q)) (let i = sh.0 in omega (arith, i, short))
        by (inr q) = cost-on most J x.at z.at d.backs u (d.backs + back_step taken x.at z.at) now.cost (let h = q.0 in omega (arith, h)) q.1
    lift-by j x y d e n copied J I u (Calls to z) eq now goes rec sh = absurd goes
    lift-by j x y d e n copied J I u (Returns z) eq now goes rec sh = absurd goes
    lift-by j x y d e n copied J I u (Exits z) eq now goes rec sh = absurd goes
    lift-by j x y d e n copied J I u Undefined eq now goes rec sh = absurd goes

    lift : (j : ℕ) (x y : Mach) (d e : Count) (n copied J I u : ℕ) → Now st k c0 f kept callers n copied d x J I u → Goes set j x d y e → Lifted st k c0 f kept callers n copied e y I u
    lift zero x y d e n copied J I u now goes =
        subst (λ z. Lifted st k c0 f kept callers n copied e z I u) goes.0 (subst (λ h. Lifted st k c0 f kept callers n copied h x I u) goes.1 (record { J = J; now = now }))
    lift (suc j) x y d e n copied J I u now goes =
        lift-by j x y d e n copied J I u (step_in set x) refl now goes
        (λ z h later rest. lift j z y h e n copied (J + 1) I u later rest) (shape-at x (step_in set x) refl)

  -- what the law says of calls of at most d turns
  abbrev CallsOk : ℕ → Type 0
  CallsOk d = (call : Call) (s : c.State) (n copied active : ℕ) (m : Map) (f : ℕ) (kept : Option ℕ) (callers : List Active) (rt : Routine) (y z : Mach)
      → n ≤ d → slice_get rs f ≡ Some rt → IsWord (p.instruction f z.at)
      → step (around_of p rt (run_at y f kept callers)) rt.def.code y ≡ Calls (g.function call.function) z
      → AtCall g (kept_by (waiting f kept z ∷ callers)) (kept_by (waiting f kept z ∷ callers)) active m call s (linked_to (p.instruction f z.at) z.state)
      → ComesTo p rs g most n copied (Going (run_at y f kept callers)) (waiting f kept z) callers active (entry_of m s call (linked_to (p.instruction f z.at) z.state))
      (calls_to d functions active n copied call s)

  module _ (st : Status) (k c0 f : ℕ) (a : Active) (callers : List Active) (rt : Routine) (is : slice_get rs f ≡ Some rt) (short : length rt.def.code ≤ most)
      (before need : ℕ) (entry : Entry) (after : IsWord (p.instruction a.routine a.after))
      (behind : (y z : Mach) (to : ℕ) → step_in (setting_of g AllSteps (p.symbol rt.unit) rt.def (kept_by (a ∷ callers)) before need entry) y ≡ Calls to z → IsWord (p.instruction f z.at)) where
    abbrev own_kept : Option ℕ
    own_kept = kept_word rt.def entry.state

    abbrev own : Setting
    own = setting_of g AllSteps (p.symbol rt.unit) rt.def (kept_by (a ∷ callers)) before need entry

    abbrev Comes : End → Type 0
    Comes end = ComesTo p rs g most k c0 st a callers before entry end

    abbrev Stands : ℕ → ℕ → Count → Mach → ℕ → ℕ → ℕ → Type 0
    Stands n copied d x J I u = Now st k c0 f own_kept (a ∷ callers) n copied d x J I u

    -- on from what an inner call comes to
    asked : (d : ℕ) (call : Call) (s : c.State) (rest : Value → c.State → Play Value) (m : Map) (e : Count) (y z : Mach) (n copied J I u : ℕ)
        → Stands n copied e y J I u → IsPaid e → Plain (length rt.def.code) y z
        → ((v : Value) (t : c.State) (x : Map) (w : State) (left c1 J1 I1 u1 : ℕ) → left < n
        → Answers g nowhere (kept_by (waiting f own_kept z ∷ a ∷ callers)) (before + need) (entry_of m s call (linked_to (p.instruction f z.at) z.state)) x t w v
        → Stands left c1 (after_call e) (record { state = w; vars = []; at = z.at }) J1 I1 u1
        → Comes (resolve (calls_to d functions) (before + need) left c1 (rest v t)))
        → (inner : End)
        → ComesTo p rs g most n copied (Going (run_at y f own_kept (a ∷ callers))) (waiting f own_kept z) (a ∷ callers) (before + need) (entry_of m s call (linked_to (p.instruction f z.at) z.state)) inner
        → Comes (and_then inner (λ v t left moved. resolve (calls_to d functions) (before + need) left moved (rest v t)))
    asked d call s rest m e y z n copied J I u now paid plain go (Gave v t left c1) h =
        let fewer = h.5 in let more = h.6 in let took = h.7 in let spent = now.spent in let turns = now.turns in let steps = now.steps in let older = now.more in let one = now.one in
        go v t h.1 h.2 left c1 (J + h.0) (I + (n - left)) (u + (n - left) + (c1 - copied)) fewer h.4 (record {
          went = runs_compose p rs J h.0 st ∙ (ap (arun_from p rs h.0) now.went ∙ h.3);
          turns = omega (arith, turns, fewer);
          steps = omega (arith, steps, took, fewer);
          cost = cost-inner most J h.0 y.at z.at e.backs u (u + (n - left) + (c1 - copied)) n copied left c1 now.cost plain.at h.8 (omega (arith, fewer, more));
          spent = omega (arith, spent, fewer, more);
          vars = refl;
          more = omega (arith, older, more);
          one = one;
        })
    asked d call s rest m e y z n copied J I u now paid plain go (Over (Ended text t) c1) h =
        let below = plain.inside in (
          J + h.0,
          h.1,
          runs_compose p rs J h.0 st ∙ (ap (arun_from p rs h.0) now.went ∙ h.2),
          h.3,
          h.4,
          h.5,
          cost-over most J h.0 y.at e.backs u e.allowed n copied c0 c1 k now.cost (omega (arith, below, short)) paid.backs now.spent h.6,
        )
    asked d call s rest m e y z n copied J I u now paid plain go (Over (Out waits t) c1) h =
        let turns = now.turns in let steps = now.steps in let enough = paid.steps in let took = h.5 in
        (J + h.0, h.1, runs_compose p rs J h.0 st ∙ (ap (arun_from p rs h.0) now.went ∙ h.2), h.3, h.4, omega (arith, turns, steps, enough, took))
    asked d call s rest m e y z n copied J I u now paid plain go (Over (Wronged why place t) c1) h = tt
    asked d call s rest m e y z n copied J I u now paid plain go (Over (Deep place t) c1) h = tt
    asked d call s rest m e y z n copied J I u now paid plain go (Over (NoOutcome place t) c1) h = tt

    lifted : (x : Mach) (d : Count) (r : Reaches own x d) (n copied J I u : ℕ) → Stands n copied d x J I u → Lifted st k c0 f own_kept (a ∷ callers) n copied r.count r.to I u
    lifted x d r n copied J I u now = lift st k c0 f (a ∷ callers) rt is short before need entry r.steps x r.to d r.count n copied J I u now r.goes

    runs-on : (x y : Mach) (s : Step) → step_in own y ≡ s → step (around_of p rt (run_at y f own_kept (a ∷ callers))) rt.def.code y ≡ s
    runs-on x y s e = in-run st k c0 f (a ∷ callers) rt is short before need entry y s e

    whole : (d : ℕ) → CallsOk d → (q : Play Value) (m : Map) (e : Count) (x : Mach) (n copied J I u : ℕ) → n ≤ d → Lasts (suc n) q → Performs own q m e x
        → Stands n copied e x J I u → Comes (resolve (calls_to d functions) (before + need) n copied q)
    whole d ok (Done v s) m e x n copied J I u le la h now =
        let r = h.0 in
        let l = lifted x e r n copied J I u now in
        let below : r.to.at < length rt.def.code = shaped own.around rt.def.code r.to (Returns h.1) h.2 in
        let turns = l.now.turns in let steps = l.now.steps in let enough = h.3.steps in let spent = l.now.spent in let one = l.now.one in (
          l.J + 1,
          h.4,
          raised rt.def (linked_to (p.instruction a.routine a.after) h.1.state),
          runs-next p rs l.J st _ _ l.now.went (onward-step p rs (run_at r.to f own_kept (a ∷ callers)) rt (Returns h.1) is (runs-on x r.to (Returns h.1) h.2)),
          h.5 (p.instruction a.routine a.after) after,
          omega (arith, turns, one),
          l.now.more,
          omega (arith, turns, steps, enough),
          cost-end most l.J r.to.at r.count.backs u r.count.allowed (n + c0) (k + copied) l.now.cost (omega (arith, below, short)) h.3.backs spent,
        )
    whole d ok (Wrong why place s) m e x n copied J I u le la h now = tt
    whole d ok (NoMeaning place s) m e x n copied J I u le la h now = tt
    whole d ok (Exit text s) m e x n copied J I u le la h now =
        let r = h.0 in
        let l = lifted x e r n copied J I u now in
        let below : r.to.at < length rt.def.code = shaped own.around rt.def.code r.to (Exits h.1) h.2 in
        let spent = l.now.spent in (
          l.J + 1,
          h.1.state,
          runs-next p rs l.J st _ _ l.now.went (onward-step p rs (run_at r.to f own_kept (a ∷ callers)) rt (Exits h.1) is (runs-on x r.to (Exits h.1) h.2)),
          h.4,
          h.5.0,
          h.5.1,
          cost-less most (l.J + 1) n c0 k (k + copied) (cost-end most l.J r.to.at r.count.backs u r.count.allowed (n + c0) (k + copied) l.now.cost (omega (arith, below, short)) h.3 spent),
        )
    whole d ok (Cut s) m e x n copied J I u le la h now = absurd la
    whole d ok (Turn s q) m e x zero copied J I u le la h now =
        let r = h.0 in
        let l = lifted x e r zero copied J I u now in
        let turns = l.now.turns in let steps = l.now.steps in let enough = h.1.steps in
        (l.J, run_at r.to f own_kept (a ∷ callers), l.now.went, h.2.0, h.2.1, omega (arith, turns, steps, enough))
    whole d ok (Turn s q) m e x (suc n) copied J I u le la h now =
        let r = h.0 in
        let l = lifted x e r (suc n) copied J I u now in
        let turns = l.now.turns in let spent = l.now.spent in let one = l.now.one in
        whole d ok q m (after_turn r.count) r.to n copied l.J I u (omega arith) la h.3 (record {
          went = l.now.went;
          turns = omega (arith, turns);
          steps = l.now.steps;
          cost = l.now.cost;
          spent = omega (arith, spent);
          vars = l.now.vars;
          more = l.now.more;
          one = omega (arith, one);
        })
    whole d ok (Moved b q) m e x n copied J I u le la h now =
        let spent = now.spent in let more = now.more in
        whole d ok q m (after_copy b e) x n (copied + b) J I u le la h (record {
          went = now.went;
          turns = now.turns;
          steps = now.steps;
          cost = now.cost;
          spent = omega (arith, spent);
          vars = now.vars;
          more = omega (arith, more);
          one = now.one;
        })
    whole d ok (Ask call s rest) m e x n copied J I u le la h now =
        let r = h.0 in let z = h.1 in
        let l = lifted x e r n copied J I u now in
        let plain : Plain (length rt.def.code) r.to z = shaped own.around rt.def.code r.to (Calls (g.function call.function) z) h.2 in
        let to : ℕ = p.instruction f z.at in
        let word : IsWord to = behind r.to z (g.function call.function) h.2 in
        let same : kept_by (waiting f own_kept z ∷ a ∷ callers) ≡ own.shut = kept-same rt.def entry.state f z (a ∷ callers) in
        asked d call s rest h.4 r.count r.to z n copied l.J I u l.now h.3 plain
        (λ v t y w left c1 J1 I1 u1 fewer ans later. whole d ok (rest v t) y (after_call r.count) (record { state = w; vars = []; at = z.at }) left c1 J1 I1 u1 (omega (arith, fewer, le))
        (lasts_less (rest v t) n (suc left) (omega (arith, fewer)) (la v t))
        (subst (λ vs. Performs own (rest v t) y (after_call r.count) (record { state = w; vars = vs; at = z.at })) (plain.bare l.now.vars)
        (h.7 to word v t y w (subst (λ q. Answers g nowhere q (before + need) (entry_of h.4 s call (linked_to to z.state)) y t w v) same ans))) later)
        (calls_to d functions (before + need) n copied call s)
        (ok call s n copied (before + need) h.4 f own_kept (a ∷ callers) rt r.to z le is word (runs-on x r.to (Calls (g.function call.function) z) h.2)
        (subst (λ q. AtCall g q q (before + need) h.4 call s (linked_to to z.state)) (sym same) (h.6 to word)))

  absent-end : (st : Status) (k c0 : ℕ) (a : Active) (callers : List Active) (before : ℕ) (entry : Entry) (d active n copied : ℕ) (q : Play Value) → IsMeaningless q
      → ComesTo p rs g most k c0 st a callers before entry (resolve (calls_to d functions) active n copied q)
  absent-end st k c0 a callers before entry d active n copied (Done v s) h = absurd h
  absent-end st k c0 a callers before entry d active n copied (Wrong why place s) h = absurd h
  absent-end st k c0 a callers before entry d active n copied (NoMeaning place s) h = tt
  absent-end st k c0 a callers before entry d active n copied (Exit text s) h = absurd h
  absent-end st k c0 a callers before entry d active n copied (Cut s) h = absurd h
  absent-end st k c0 a callers before entry d active n copied (Turn s q) h = absurd h
  absent-end st k c0 a callers before entry d active n copied (Ask call s rest) h = absurd h
  absent-end st k c0 a callers before entry d active n copied (Moved b q) h = absurd h

  module _ (program : IsProgram p rs g functions most) where
    out-at-once : (call : Call) (s : c.State) (copied active : ℕ) (m : Map) (f : ℕ) (kept : Option ℕ) (callers : List Active) (rt : Routine) (y z : Mach)
        → step (around_of p rt (run_at y f kept callers)) rt.def.code y ≡ Calls (g.function call.function) z
        → AtCall g (kept_by (waiting f kept z ∷ callers)) (kept_by (waiting f kept z ∷ callers)) active m call s (linked_to (p.instruction f z.at) z.state)
        → ComesTo p rs g most 0 copied (Going (run_at y f kept callers)) (waiting f kept z) callers active (entry_of m s call (linked_to (p.instruction f z.at) z.state)) (Over (Out (Some call) s) copied)
    out-at-once call s copied active m f kept callers rt y z eq at =
        let plain : Plain (length rt.def.code) y z = shaped (around_of p rt (run_at y f kept callers)) rt.def.code y (Calls (g.function call.function) z) eq in
        (0, run_at y f kept callers, runs-zero p rs _, sym plain.out ∙ at.matched.output, sym plain.left ∙ at.matched.input, omega arith)

    calls-ok : (d : ℕ) → CallsOk d
    calls-ok zero call s zero copied active m f kept callers rt y z le is word eq at = out-at-once call s copied active m f kept callers rt y z eq at
    calls-ok (suc d) call s zero copied active m f kept callers rt y z le is word eq at = out-at-once call s copied active m f kept callers rt y z eq at
    calls-ok zero call s (suc n) copied active m f kept callers rt y z le is word eq at = absurd (omega (arith, le))
    calls-ok (suc d) call s (suc n) copied active m f kept callers rt y z le is word eq at =
        by (nat_lt room (active + functions.need call.function)) refl (program.codes call.function) (calls-ok d)
      where
        by : (b : Bool) → nat_lt room (active + functions.need call.function) ≡ b
            → HasCode p rs g functions most call.function ⊎ IsAbsent functions call.function
            → CallsOk d
            → ComesTo p rs g most (suc n) copied (Going (run_at y f kept callers)) (waiting f kept z) callers active (entry_of m s call (linked_to (p.instruction f z.at) z.state))
            (if b then Over (Deep call.place s) copied else resolve (calls_to d functions) (active + functions.need call.function) n copied (functions.body n call s))
        by true e i ok = tt
        by false e (inr absent) ok =
            absent-end (Going (run_at y f kept callers)) (suc n) copied (waiting f kept z) callers active (entry_of m s call (linked_to (p.instruction f z.at) z.state))
            d (active + functions.need call.function) n copied (functions.body n call s) (absent n call s refl)
        by false e (inl i) ok =
            let v : Active = waiting f kept z in
            let u : State = linked_to (p.instruction f z.at) z.state in
            let o = i.ok (kept_by (v ∷ callers)) active n call s m u refl (grind (arith, nat_tests)) at in
            let first : Mach = first_of i.routine.def u in
            whole (Going (run_at y f kept callers)) (suc n) copied i.number v callers i.routine i.is i.short active (functions.need call.function) (entry_of m s call u) word
            (λ y1 z1 to e1. i.placed z1.at (call-inside _ i.routine.def.code y1 z1 to i.ends_well e1))
            d ok (functions.body n call s) m first_count first n copied 1 0 0 (omega (arith, le)) (program.last n call s) o.1 (record {
              went = runs-next p rs 0 (Going (run_at y f kept callers)) (Going (run_at y f kept callers)) (Going (run_at first i.number (kept_word i.routine.def u) (v ∷ callers))) (runs-zero p rs _)
                  (onward-step p rs (run_at y f kept callers) rt (Calls (g.function call.function) z) is eq
                  ∙ (ap (λ q. enters rs q u (v ∷ callers)) i.found ∙ (ap (λ q. entered_in q u i.number (v ∷ callers)) i.is ∙ entered-going i.routine.def u i.number (v ∷ callers) o.0)));
              turns = omega arith;
              steps = omega arith;
              cost = omega arith;
              spent = omega arith;
              vars = refl;
              more = omega arith;
              one = omega arith;
            })

pub calls_are_right : CallsAreRight
calls_are_right p rs g functions most program call s turns copied active m f kept callers rt y z is word eq at =
    calls-ok p rs g functions most program turns call s turns copied active m f kept callers rt y z (omega arith) is word eq at
