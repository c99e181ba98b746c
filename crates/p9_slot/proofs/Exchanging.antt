-- Two lines that have changed places do in the delayed run as both do one after the other in the straight run.
use Rattle.std.proofs.Common.{ℕ, suc, ◌+◌, ◌^◌, ◌≡◌, ◌⊎◌, inl, inr, ◌≤◌, ◌<◌, ◌==◌, ◌||◌, ◌&&◌, Bool, true, false, not, Option, Some, None, IsSome, refl, sym, ap, ◌∙◌, subst, arith, if◌then◌else◌, List, length, slice_get}
use Rattle.std.proofs.lemmas.Option.{slice_get_within}
use Rattle.p9_base.specs.Words.{word_sum}
use Rattle.p9_base.specs.declared.halt.Ending.TheVariants.{Running}
use Rattle.p9_base.specs.declared.halt.Effect.{Effect}
use Rattle.p9_base.specs.declared.halt.Effect.TheVariants as effects
use Rattle.p9_base.specs.Core.{text_start, with_reg}
use Rattle.p9_base.specs.SystemCalls.{State}
use Rattle.p9_r3k.specs.declared.inst.Inst.{Inst}
use Rattle.p9_r3k.specs.declared.lines.Line.{Line}
use Rattle.p9_r3k.specs.Effects.{effect_of, reads, reads_pair, branches}
use Rattle.p9_r3k.specs.Machine.{acted}
use Rattle.p9_r3k.specs.Uses.{written, loads, stores, links, delays}
use Rattle.p9_r3k.specs.UseLaws.{MayDo, NoStop, SameUses, Agree, without_text}
use Rattle.p9_r3k.specs.Straight.{Addresses, Straight, filled, line_at, aim, target_or, named_by_value, linked_line, on_to, at_once}
use Rattle.p9_r3k.specs.Delayed.{line_address, aimed, delayed_step, delayed_run, NotHalted}
use Rattle.p9_r3k.proofs.Doing.{does_what_it_may, readers_are_quick, stores_are_quick}
use Rattle.p9_r3k.proofs.Filling.{filled-uses}
use Rattle.p9_r3k.proofs.DelayedRuns.{delayed_run-one, delayed_run-sum}
use Rattle.p9_slot.specs.declared.placing.Recent.{Recent}
use Rattle.p9_slot.specs.Schedule.{new_target, retargeted}
use Rattle.p9_slot.specs.Placing.{nothing}
use Rattle.p9_slot.proofs.Moving.{Moves, moves_by}
use Rattle.p9_slot.proofs.Scanning.{clear-at, scan, scan-next}
use Rattle.p9_slot.proofs.Entering.{PairAt}
use Rattle.p9_slot.proofs.Marks.{Marks, marked_core, marked, plain_core, effect-agreed, Clear, line-acts, Within, clear-within, clear-filled, Setting, Comes}
use Rattle.p9_slot.proofs.Standing.{plain_after, loaded_after, sent_after, placed, Done, Idle, comes-idle, comes-target, line_at-found, least-begins, linked-same, may-filled}
use Rattle.p9_slot.proofs.Changes.{regs_of, low_of, stack_of, changed, change-acted, moves-change, moves-memory, unread, swap-change, change-unread}

-- the delayed machine is at the block of old line i, which has moved behind the next
pub record Both (e : ℕ → ℕ) (begins moved : ℕ → Bool) (old new : List Line) (text_end i : ℕ) (line : Line) (k : Marks) : Type 0 where
  pub setting : Setting e begins moved old new
  pub found : slice_get old i ≡ Some line
  pub pair : PairAt e e begins old new i line
  pub at : Comes e begins new text_end i (e i) k

false-is : (a b : Bool) → (a && b) ≡ false → b ≡ true → a ≡ false
false-is false b h e = refl
false-is true b h e = absurd (let z : true ≡ false = sym e ∙ h in cc)

delay-reads : (i : Inst) → delays i ≡ true → reads_pair i ≡ false
delay-reads i h = false-is (reads_pair i) (delays i) (readers_are_quick i) h

delay-stores : (i : Inst) → delays i ≡ true → stores i ≡ false
delay-stores i h = false-is (stores i) (delays i) (stores_are_quick i) h

-- the straight machine between the two lines
abbrev pub between : (at : ℕ) → Effect → State → State
between at f s = record s { core = record (changed f s.core) { pc = at; text_end = text_start } }

-- The second line of the two, which stood first

moved-agrees : (i c b : Inst) (k : Marks) (s : State) (pc r u : ℕ) → SameUses c i → Moves c b → written b ≡ r →
    Agree i (plain_core pc s.core) (without_text (marked_core k (record s.core { regs = with_reg s.core.regs r u })))
moved-agrees i c b k s pc r u uses m e = record {
  registers = λ q h.
      unread c r u q s.core.regs (ap (λ x. not (x == 0) && reads c x) (sym e) ∙ m.not_read_back) (sym (uses.registers q) ∙ h);
  hi = λ h. refl;
  lo = λ h. refl;
  place = λ h. absurd (let z : true ≡ false = sym (ap (λ x. x || loads i) h) ∙ (ap (λ x. x || loads i) uses.branch ∙ (ap (λ x. branches c || x) uses.load ∙ m.quick)) in cc);
  memory = λ h. record { order = refl; low = refl; stack = refl; text_end = refl; data_start = refl };
  data_start = λ h. refl;
  size = λ h. refl;
}

-- it does what it did before the other
second-acts : (a : Addresses) (e : ℕ → ℕ) (begins moved : ℕ → Bool) (old new : List Line) (text_end i : ℕ) (line : Line) (k d : Marks) (s : State) (r u : ℕ) →
    (h : Both e begins moved old new text_end i line k) → s.core.ending ≡ Running → text_end ≤ s.core.data_start → written h.pair.lead.inst ≡ r →
    d.pc ≡ line_address (suc (e i)) → d.text_end ≡ text_end → Within d (scan nothing new (suc (e i))) →
    (let f = effect_of (filled a line) (plain_core (line_address (e i)) s.core) in
    let t : State = record s { core = record s.core { regs = with_reg s.core.regs r u } } in
    NoStop f → delayed_step a new (marked d t) ≡ marked (plain_after d false) (record t { core = changed f t.core }))
second-acts a e begins moved old new text_end i line k d s r u h running below wrote at text within fine =
    let c : Inst = filled a line in
    let uses : SameUses line.inst c = filled-uses a line in
    let m : Moves line.inst h.pair.lead.inst = moves_by line.inst h.pair.lead.inst h.pair.may in
    let pc : ℕ = line_address (e i) in
    let f : Effect = effect_of c (plain_core pc s.core) in
    let t : State = record s { core = record s.core { regs = with_reg s.core.regs r u } } in
    let here : slice_get new (suc (e i)) ≡ Some (retargeted e line) = ap (slice_get new) (omega arith) ∙ h.pair.second in
    let plain : branches c ≡ false = uses.branch ∙ quick_plain line.inst m.quick in
    let clear : Clear c d =
    clear-within c d (scan nothing new (suc (e i))) within
    (clear-filled (scan nothing new (suc (e i))) line.inst c uses (clear-at nothing new (suc (e i)) (retargeted e line) h.setting.clear here))
    (ap (λ b. d.slot && b) plain ∙ no_branch d.slot) in
    let same : effect_of c (marked_core d t.core) ≡ f =
    effect-agreed c d t.core (plain_core pc s.core) (moved-agrees c line.inst h.pair.lead.inst d s pc r u uses m wrote) (omega (arith, text, below)) fine in
    let may : MayDo line.inst f = may-filled line.inst c uses f (does_what_it_may c (plain_core pc s.core)) in
    line-acts a new (suc (e i)) d t (retargeted e line) running at here clear
    ∙ (ap (λ g. acted (aimed (new_target e line.target) g) (marked d t) (reads_pair c)) same
    ∙ (change-acted (new_target e line.target) f d t (reads_pair c) (moves-change line.inst h.pair.lead.inst m f may fine)
    ∙ ap (λ b. marked (plain_after d b) (record t { core = changed f t.core })) (uses.pair_reader ∙ m.no_reader)))
  where
    no_branch : (b : Bool) → (b && false) ≡ false
    no_branch true = refl
    no_branch false = refl

    or-false : (x y : Bool) → (x || y) ≡ false → x ≡ false
    or-false false y h = refl
    or-false true y h = h

    quick_plain : (x : Inst) → delays x ≡ false → branches x ≡ false
    quick_plain x h = or-false (branches x) (loads x) h

-- The first line of the two, which stood second

lead-agrees : (i c b : Inst) (k : Marks) (s : State) (pc : ℕ) (f : Effect) → SameUses b i → Moves c b → MayDo c f → k.pc ≡ pc →
    Agree i (between pc f s).core (without_text (marked_core k s.core))
lead-agrees i c b k s pc f uses m may at = record {
  registers = λ q h. change-unread c b m f may s.core.regs q (sym (uses.registers q) ∙ h);
  hi = λ h. refl;
  lo = λ h. refl;
  place = λ h. at;
  memory = λ h.
      (let same : (low_of f s.core.order s.core.low ≡ s.core.low) × (stack_of f s.core.order s.core.stack ≡ s.core.stack) =
      moves-memory c b m (sym uses.load ∙ h) f may s.core.order s.core.low s.core.stack in
      record { order = refl; low = sym same.0; stack = sym same.1; text_end = refl; data_start = refl });
  data_start = λ h. refl;
  size = λ h. absurd (let z : true ≡ false = sym (sym uses.store ∙ h) ∙ delay-stores b m.delayed in cc);
}

-- Both

-- what the first writes, and where it sends the machine
pair-done : (a : Addresses) (e : ℕ → ℕ) (begins moved : ℕ → Bool) (old new : List Line) (text_end i : ℕ) (line : Line) (k d : Marks) (s : State) (r u v j q : ℕ) →
    (h : Both e begins moved old new text_end i line k) → s.core.ending ≡ Running → text_end ≤ s.core.data_start → written h.pair.lead.inst ≡ r →
    d.pc ≡ line_address (suc (e i)) → d.text_end ≡ text_end → Within d (scan nothing new (suc (e i))) → ((l : List ℕ) → with_reg l r u ≡ with_reg l r v) →
    (let f = effect_of (filled a line) (plain_core (line_address (e i)) s.core) in
    let z : State = between (line_address (e i)) f s in
    let y : Straight = record { state = record z { core = record z.core { regs = with_reg z.core.regs r v } }; at = j } in
    NoStop f → MayDo line.inst f →
    delayed_step a new (marked k s) ≡ marked d (record s { core = record s.core { regs = with_reg s.core.regs r u } }) →
    Comes e begins new text_end j q (plain_after d false) →
    Done a e begins new text_end 2 2 (marked k s) y)
pair-done a e begins moved old new text_end i line k d s r u v j q h running below wrote at text within uv fine may step comes =
    let f : Effect = effect_of (filled a line) (plain_core (line_address (e i)) s.core) in
    let m : Moves line.inst h.pair.lead.inst = moves_by line.inst h.pair.lead.inst h.pair.may in
    let t : State = record s { core = record s.core { regs = with_reg s.core.regs r u } } in
    let put : List ℕ → State = λ l. marked (plain_after d false) (record s { core = record (changed f s.core) { regs = l } }) in
    let regs : regs_of f (with_reg s.core.regs r u) ≡ with_reg (regs_of f s.core.regs) r v =
    sym (swap-change line.inst h.pair.lead.inst m f may s.core.regs r u wrote) ∙ uv (regs_of f s.core.regs) in
    let same : put (regs_of f (with_reg s.core.regs r u)) ≡ put (with_reg (regs_of f s.core.regs) r v) = ap put regs in
    record {
      steps = 2;
      marks = plain_after d false;
      many = omega arith;
      few = omega arith;
      run = delayed_run-sum a new 1 1 (marked k s)
          ∙ (ap (delayed_run a new 1) (delayed_run-one a new (marked k s) ∙ step)
          ∙ (delayed_run-one a new (marked d t)
          ∙ (second-acts a e begins moved old new text_end i line k d s r u h running below wrote at text within fine ∙ same)));
      lands = λ x. (q, comes);
    }

-- nothing is on its way after both
idle-both : (text_end q : ℕ) (d : Marks) → d.next ≡ line_address q → line_address q < 2 ^ 29 + 8 → d.text_end ≡ text_end → d.used ≡ false →
    Idle text_end q (plain_after d false)
idle-both text_end q d e small text used = record {
  pc = e;
  next = omega (arith, e, small);
  slot = refl;
  loaded = refl;
  text = text;
  used = refl;
  used_before = used;
}

-- on to the line after both
comes-behind : (e : ℕ → ℕ) (begins moved : ℕ → Bool) (old new : List Line) (text_end i : ℕ) (line : Line) (k d : Marks) →
    (h : Both e begins moved old new text_end i line k) → Idle text_end (e i + 2) d →
    Comes e begins new text_end (i + 1 + 1) (e i + 2) d
comes-behind e begins moved old new text_end i line k d h idle =
    let within : suc i < length old = slice_get_within old (suc i) h.pair.lead h.pair.next in
    subst (λ n. Comes e begins new text_end n (e i + 2) d) (let z : suc (suc i) ≡ i + 1 + 1 = omega arith in z)
    (comes-idle e begins moved old new text_end (suc (suc i)) (e i + 2) d h.setting h.pair.next_begins (omega (arith, within)) h.pair.room h.pair.near
    (λ p from to. h.pair.noops p (omega (arith, from)) to) idle)

-- the marks after the first
lead-within : (e : ℕ → ℕ) (begins moved : ℕ → Bool) (old new : List Line) (text_end i : ℕ) (line : Line) (k d : Marks) →
    (h : Both e begins moved old new text_end i line k) → d.used ≡ false → d.used_before ≡ k.used →
    (d.loaded ≡ 0) ⊎ (d.loaded ≡ (if loads h.pair.lead.inst then written h.pair.lead.inst else 0)) →
    Within d (scan nothing new (suc (e i)))
lead-within e begins moved old new text_end i line k d h used before loaded =
    subst (λ (r : Recent). Within d r) (sym (scan-next nothing new (e i) (retargeted e h.pair.lead) h.pair.first)) (record {
      used = λ u. absurd (let f : false ≡ true = sym used ∙ u in cc);
      used_before = λ u. h.at.within.used (sym before ∙ u);
      loaded = loaded;
    })

lead-links : (e : ℕ → ℕ) (begins moved : ℕ → Bool) (old new : List Line) (text_end i : ℕ) (line : Line) (k : Marks) (r : ℕ) →
    (h : Both e begins moved old new text_end i line k) → (links h.pair.lead.inst ≡ true) ⊎ (r ≡ 0) → (e (i + 1 + 1) ≡ e i + 2) ⊎ (r ≡ 0)
lead-links e begins moved old new text_end i line k r h (inl l) =
    inl (ap e (let z : i + 1 + 1 ≡ suc (suc i) = omega arith in z) ∙ h.pair.call l)
lead-links e begins moved old new text_end i line k r h (inr z) = inr z

-- a branch or jump that goes to an address
sent-both : (symbol : ℕ → ℕ → ℕ) (e : ℕ → ℕ) (begins moved : ℕ → Bool) (old new : List Line) (text_end i : ℕ) (line : Line) (k : Marks) (s : State) (r to j q : ℕ) →
    (h : Both e begins moved old new text_end i line k) → s.core.ending ≡ Running → text_end ≤ s.core.data_start → written h.pair.lead.inst ≡ r →
    (links h.pair.lead.inst ≡ true) ⊎ (r ≡ 0) →
    (let a = placed e symbol in
    let f = effect_of (filled a line) (plain_core (line_address (e i)) s.core) in
    let z : State = between (line_address (e i)) f s in
    let y : Straight = record { state = linked_line a r (i + 1) z; at = j } in
    NoStop f → MayDo line.inst f →
    delayed_step a new (marked k s) ≡ marked (sent_after k to) (record s { core = record s.core { regs = with_reg s.core.regs r (word_sum k.pc 8) } }) →
    Comes e begins new text_end j q (plain_after (sent_after k to) false) →
    Done a e begins new text_end 2 2 (marked k s) y)
sent-both symbol e begins moved old new text_end i line k s r to j q h running below wrote link fine may step comes =
    pair-done (placed e symbol) e begins moved old new text_end i line k (sent_after k to) s r (word_sum k.pc 8) (line_address (e (i + 1 + 1))) j q
    h running below wrote h.at.next h.at.text
    (lead-within e begins moved old new text_end i line k (sent_after k to) h refl refl (inl refl))
    (λ l. linked-same e l r k.pc (i + 1 + 1) (e i) h.at.pc h.at.small (lead-links e begins moved old new text_end i line k r h link))
    fine may step comes

abbrev StandsBoth : (symbol : ℕ → ℕ → ℕ) (e : ℕ → ℕ) (begins moved : ℕ → Bool) (old new : List Line) (text_end i : ℕ) (line : Line) (k : Marks) (s : State) →
    Both e begins moved old new text_end i line k → Effect → Type 0
StandsBoth symbol e begins moved old new text_end i line k s h g =
    (let a = placed e symbol in
    let f = effect_of (filled a line) (plain_core (line_address (e i)) s.core) in
    let z : State = between (line_address (e i)) f s in
    let y : Straight = at_once a (length old) (aim a (length old) h.pair.lead z.core) g (i + 1) z in
    NoStop f → MayDo line.inst f → MayDo h.pair.lead.inst g → NotHalted y.state.core.ending →
    delayed_step a new (marked k s) ≡ acted (aimed (new_target e h.pair.lead.target) g) (marked k s) false →
    Done a e begins new text_end 2 2 (marked k s) y)

-- an instruction without a delay isn't one that has a delay
no-delay : {A : Type 0} → (i : Inst) → delays i ≡ true → delays i ≡ false → A
no-delay i h g = absurd (let z : true ≡ false = sym h ∙ g in cc)

both-stand : (symbol : ℕ → ℕ → ℕ) (e : ℕ → ℕ) (begins moved : ℕ → Bool) (old new : List Line) (text_end i : ℕ) (line : Line) (k : Marks) (s : State) →
    (h : Both e begins moved old new text_end i line k) → s.core.ending ≡ Running → text_end ≤ s.core.data_start →
    (g : Effect) → StandsBoth symbol e begins moved old new text_end i line k s h g
both-stand symbol e begins moved old new text_end i line k s h running below (effects.Write r v) fine may does going step =
    no-delay h.pair.lead.inst (moves_by line.inst h.pair.lead.inst h.pair.may).delayed does.1
both-stand symbol e begins moved old new text_end i line k s h running below (effects.Pair hi lo) fine may does going step =
    no-delay h.pair.lead.inst (moves_by line.inst h.pair.lead.inst h.pair.may).delayed does.1
both-stand symbol e begins moved old new text_end i line k s h running below (effects.StoreByte p v) fine may does going step =
    no-delay h.pair.lead.inst (moves_by line.inst h.pair.lead.inst h.pair.may).delayed does.1
both-stand symbol e begins moved old new text_end i line k s h running below (effects.StoreHalf p v) fine may does going step =
    no-delay h.pair.lead.inst (moves_by line.inst h.pair.lead.inst h.pair.may).delayed does.1
both-stand symbol e begins moved old new text_end i line k s h running below (effects.StoreWord p v) fine may does going step =
    no-delay h.pair.lead.inst (moves_by line.inst h.pair.lead.inst h.pair.may).delayed does.1
both-stand symbol e begins moved old new text_end i line k s h running below effects.Call fine may does going step =
    no-delay h.pair.lead.inst (moves_by line.inst h.pair.lead.inst h.pair.may).delayed does.1
both-stand symbol e begins moved old new text_end i line k s h running below (effects.Load r v) fine may does going step =
    pair-done (placed e symbol) e begins moved old new text_end i line k (loaded_after k false r) s r v v (i + 1 + 1) (e i + 2)
    h running below does.0 h.at.next h.at.text
    (lead-within e begins moved old new text_end i line k (loaded_after k false r) h refl refl
    (inr (sym does.0 ∙ sym (ap (λ b. if b then written h.pair.lead.inst else 0) does.1))))
    (λ l. refl) fine may step
    (comes-behind e begins moved old new text_end i line k (plain_after (loaded_after k false r) false) h
    (idle-both text_end (e i + 2) (loaded_after k false r) (omega (arith, h.at.next, h.at.small)) (omega (arith, h.at.small)) h.at.text refl))
both-stand symbol e begins moved old new text_end i line k s h running below (effects.Branch r false to) fine may does going step =
    sent-both symbol e begins moved old new text_end i line k s r (word_sum k.pc 8) (i + 1 + 1) (e i + 2) h running below does.0 does.3 fine may step
    (comes-behind e begins moved old new text_end i line k (plain_after (sent_after k (word_sum k.pc 8)) false) h
    (idle-both text_end (e i + 2) (sent_after k (word_sum k.pc 8)) (omega (arith, h.at.pc, h.at.small)) (omega (arith, h.at.small)) h.at.text refl))
both-stand symbol e begins moved old new text_end i line k s h running below (effects.Branch r true to) fine may does going step =
    by_target h.pair.lead.target refl (h.setting.targets (suc i) h.pair.lead h.pair.next does.4) step
  where
    by_target : (t : Option ℕ) → h.pair.lead.target ≡ t → IsSome h.pair.lead.target →
        (let a = placed e symbol in
        let z : State = between (line_address (e i)) (effect_of (filled a line) (plain_core (line_address (e i)) s.core)) s in
        let y : Straight = on_to (aim a (length old) h.pair.lead z.core) (i + 1) (linked_line a r (i + 1) z) in
        delayed_step a new (marked k s) ≡ acted (aimed (new_target e h.pair.lead.target) (effects.Branch r true to)) (marked k s) false →
        Done a e begins new text_end 2 2 (marked k s) y)
    by_target None t some d = absurd (let f : false ≡ true = subst IsSome t some in cc)
    by_target (Some j) t some d =
        let a : Addresses = placed e symbol in
        let z : State = between (line_address (e i)) (effect_of (filled a line) (plain_core (line_address (e i)) s.core)) s in
        let within : j < length old = h.setting.inside (suc i) h.pair.lead j h.pair.next t in
        let small : line_address (e j) < 2 ^ 29 = h.setting.small j (omega (arith, within)) in
        let goal : Done a e begins new text_end 2 2 (marked k s) (on_to (Some j) (i + 1) (linked_line a r (i + 1) z)) =
        sent-both symbol e begins moved old new text_end i line k s r (line_address (e j)) j (e j) h running below does.0 does.3 fine may
        (d ∙ ap (λ o. acted (aimed (new_target e o) (effects.Branch r true to)) (marked k s) false) t)
        (comes-target e begins moved old new text_end j (plain_after (sent_after k (line_address (e j))) false) h.setting
        (h.setting.open_targets (suc i) h.pair.lead j h.pair.next t) within
        (idle-both text_end (e j) (sent_after k (line_address (e j))) refl (omega (arith, small)) h.at.text refl)) in
        let aims : aim a (length old) h.pair.lead z.core ≡ Some j =
        ap (λ o. target_or o (named_by_value a (length old) h.pair.lead.value (filled a h.pair.lead) z.core)) t in
        subst (λ o. Done a e begins new text_end 2 2 (marked k s) (on_to o (i + 1) (linked_line a r (i + 1) z))) (sym aims) goal
both-stand symbol e begins moved old new text_end i line k s h running below (effects.JumpTo r to) fine may does going step =
    by_line (line_at (λ n. line_address (e n)) to 0 (length old)) refl going
  where
    by_line : (t : Option ℕ) → line_at (λ n. line_address (e n)) to 0 (length old) ≡ t →
        (let a = placed e symbol in
        let z : State = between (line_address (e i)) (effect_of (filled a line) (plain_core (line_address (e i)) s.core)) s in
        let y : Straight = on_to t (i + 1) (linked_line a r (i + 1) z) in
        NotHalted y.state.core.ending →
        Done a e begins new text_end 2 2 (marked k s) y)
    by_line None t g = absurd g
    by_line (Some j) t g =
        let there : (line_address (e j) ≡ to) × (j < 0 + length old) = line_at-found (λ n. line_address (e n)) to 0 (length old) j t in
        let small : line_address (e j) < 2 ^ 29 = h.setting.small j (omega (arith, there.1)) in
        sent-both symbol e begins moved old new text_end i line k s r to j (e j) h running below does.0 does.3 fine may step
        (comes-target e begins moved old new text_end j (plain_after (sent_after k to) false) h.setting
        (least-begins e begins moved old new to (length old) j h.setting t) (omega (arith, there.1))
        (idle-both text_end (e j) (sent_after k to) (sym there.0) (omega (arith, small)) h.at.text refl))
both-stand symbol e begins moved old new text_end i line k s h running below (effects.Stop cause) fine may does going step = absurd going

-- the effect of the line that stood second, done after the other
pub pair-stands : (symbol : ℕ → ℕ → ℕ) (e : ℕ → ℕ) (begins moved : ℕ → Bool) (old new : List Line) (text_end i : ℕ) (line : Line) (k : Marks) (s : State) →
    (h : Both e begins moved old new text_end i line k) → s.core.ending ≡ Running → text_end ≤ s.core.data_start →
    (let a = placed e symbol in
    let f = effect_of (filled a line) (plain_core (line_address (e i)) s.core) in
    let z : State = between (line_address (e i)) f s in
    let y : Straight = at_once a (length old) (aim a (length old) h.pair.lead z.core) (effect_of (filled a h.pair.lead) z.core) (i + 1) z in
    NoStop f → NoStop (effect_of (filled a h.pair.lead) z.core) → NotHalted y.state.core.ending →
    Done a e begins new text_end 2 2 (marked k s) y)
pair-stands symbol e begins moved old new text_end i line k s h running below fine fine2 going =
    let a : Addresses = placed e symbol in
    let pc : ℕ = line_address (e i) in
    let f : Effect = effect_of (filled a line) (plain_core pc s.core) in
    let z : State = between pc f s in
    let b : Inst = filled a h.pair.lead in
    let g : Effect = effect_of b z.core in
    let uses : SameUses h.pair.lead.inst b = filled-uses a h.pair.lead in
    let m : Moves line.inst h.pair.lead.inst = moves_by line.inst h.pair.lead.inst h.pair.may in
    let may : MayDo line.inst f = may-filled line.inst (filled a line) (filled-uses a line) f (does_what_it_may (filled a line) (plain_core pc s.core)) in
    let clear : Clear b k =
    clear-within b k (scan nothing new (e i)) h.at.within
    (clear-filled (scan nothing new (e i)) h.pair.lead.inst b uses (clear-at nothing new (e i) (retargeted e h.pair.lead) h.setting.clear h.pair.first))
    (ap (λ x. x && branches b) h.at.slot) in
    let same : effect_of b (marked_core k s.core) ≡ g =
    effect-agreed b k s.core z.core (lead-agrees b line.inst h.pair.lead.inst k s pc f uses m may h.at.pc) (omega (arith, h.at.text, below)) fine2 in
    both-stand symbol e begins moved old new text_end i line k s h running below g fine may
    (may-filled h.pair.lead.inst b uses g (does_what_it_may b z.core)) going
    (line-acts a new (e i) k s (retargeted e h.pair.lead) running h.at.pc h.pair.first clear
    ∙ (ap (λ x. acted (aimed (new_target e h.pair.lead.target) x) (marked k s) (reads_pair b)) same
    ∙ ap (λ x. acted (aimed (new_target e h.pair.lead.target) g) (marked k s) x) (uses.pair_reader ∙ delay-reads h.pair.lead.inst m.delayed)))
