-- What a line that moves changes: a register, or memory.
use Rattle.std.proofs.Common.{ℕ, ◌+◌, ◌-◌, ◌==◌, ◌≡◌, ◌≢◌, ◌||◌, ◌&&◌, nat_lt, Bool, true, false, not, Option, refl, sym, ap, ◌∙◌, arith, if◌then◌else◌, List, slice_index, slice_set}
use Rattle.std.proofs.lemmas.List.{set_comm}
use Rattle.std.proofs.lemmas.Bool.Decides.{nat_tests}
use Rattle.p9_base.specs.declared.order.ByteOrder.{ByteOrder}
use Rattle.p9_base.specs.declared.halt.Effect.{Effect}
use Rattle.p9_base.specs.declared.halt.Effect.TheVariants as effects
use Rattle.p9_base.specs.Core.{Core, text_start, stack_start, with_reg, with_half_in, with_word_in}
use Rattle.p9_base.specs.Effects.{advanced}
use Rattle.p9_base.specs.SystemCalls.{State}
use Rattle.p9_r3k.specs.declared.inst.Inst.{Inst}
use Rattle.p9_r3k.specs.Effects.{reads, writes_pair, branches}
use Rattle.p9_r3k.specs.Machine.{acted}
use Rattle.p9_r3k.specs.Uses.{written, loads, stores, is_system_call, delays}
use Rattle.p9_r3k.specs.UseLaws.{MayDo, NoStop}
use Rattle.p9_r3k.specs.Straight.{Addresses, Straight, at_once}
use Rattle.p9_r3k.specs.Delayed.{aimed}
use Rattle.p9_r3k.proofs.Quiet.{other_reg}
use Rattle.p9_slot.proofs.Moving.{Moves}
use Rattle.p9_slot.proofs.Marks.{Marks, marked_core, marked}
use Rattle.p9_slot.proofs.Standing.{plain_after}

-- an effect that writes a register or memory
abbrev pub IsChange : Effect → Type 0
IsChange (effects.Write r v) = Unit {0}
IsChange (effects.StoreByte p v) = Unit {0}
IsChange (effects.StoreHalf p v) = Unit {0}
IsChange (effects.StoreWord p v) = Unit {0}
IsChange _ = ⊥

-- the registers, and both parts of memory, after it
abbrev pub regs_of : Effect → List ℕ → List ℕ
regs_of (effects.Write r v) regs = with_reg regs r v
regs_of _ regs = regs

abbrev pub low_of : Effect → ByteOrder → List ℕ → List ℕ
low_of (effects.StoreByte p v) o low = if nat_lt p stack_start then slice_set low (p - text_start) v else low
low_of (effects.StoreHalf p v) o low = if nat_lt p stack_start then with_half_in o low (p - text_start) v else low
low_of (effects.StoreWord p v) o low = if nat_lt p stack_start then with_word_in o low (p - text_start) v else low
low_of _ o low = low

abbrev pub stack_of : Effect → ByteOrder → List ℕ → List ℕ
stack_of (effects.StoreByte p v) o stack = if nat_lt p stack_start then stack else slice_set stack (p - stack_start) v
stack_of (effects.StoreHalf p v) o stack = if nat_lt p stack_start then stack else with_half_in o stack (p - stack_start) v
stack_of (effects.StoreWord p v) o stack = if nat_lt p stack_start then stack else with_word_in o stack (p - stack_start) v
stack_of _ o stack = stack

abbrev pub changed : Effect → Core → Core
changed f c = record c { regs = regs_of f c.regs; low = low_of f c.order c.low; stack = stack_of f c.order c.stack }

choose : (b : Bool) (c : Core) (low stack : List ℕ) →
    (let x : Core = (if b then record c { low = low } else record c { stack = stack }) in
    let y : Core = record c { low = (if b then low else c.low); stack = (if b then c.stack else stack) } in x ≡ y)
choose true c low stack = refl
choose false c low stack = refl

-- at once, as the straight machine does it
pub change-at_once : (a : Addresses) (n : ℕ) (t : Option ℕ) (f : Effect) (i : ℕ) (s : State) → IsChange f →
    (let y : Straight = record { state = record s { core = changed f s.core }; at = i + 1 } in at_once a n t f i s ≡ y)
change-at_once a n t (effects.Write r v) i s h = refl
change-at_once a n t (effects.StoreByte p v) i s h =
    ap (λ (c : Core). record { state = record s { core = c }; at = i + 1 }) (choose (nat_lt p stack_start) s.core (slice_set s.core.low (p - text_start) v) (slice_set s.core.stack (p - stack_start) v))
change-at_once a n t (effects.StoreHalf p v) i s h =
    ap (λ (c : Core). record { state = record s { core = c }; at = i + 1 }) (choose (nat_lt p stack_start) s.core (with_half_in s.core.order s.core.low (p - text_start) v) (with_half_in s.core.order s.core.stack (p - stack_start) v))
change-at_once a n t (effects.StoreWord p v) i s h =
    ap (λ (c : Core). record { state = record s { core = c }; at = i + 1 }) (choose (nat_lt p stack_start) s.core (with_word_in s.core.order s.core.low (p - text_start) v) (with_word_in s.core.order s.core.stack (p - stack_start) v))
change-at_once a n t (effects.Pair hi lo) i s h = absurd h
change-at_once a n t (effects.Load r v) i s h = absurd h
change-at_once a n t (effects.Branch r taken to) i s h = absurd h
change-at_once a n t (effects.JumpTo r to) i s h = absurd h
change-at_once a n t effects.Call i s h = absurd h
change-at_once a n t (effects.Stop cause) i s h = absurd h

-- and as the delayed machine does it
pub change-acted : (t : Option ℕ) (f : Effect) (k : Marks) (s : State) (reader : Bool) → IsChange f →
    acted (aimed t f) (marked k s) reader ≡ marked (plain_after k reader) (record s { core = changed f s.core })
change-acted t (effects.Write r v) k s reader h = refl
change-acted t (effects.StoreByte p v) k s reader h = by_part (nat_lt p stack_start)
  where
    by_part : (b : Bool) →
        (let c : Core = (if b then record (marked_core k s.core) { low = slice_set s.core.low (p - text_start) v } else record (marked_core k s.core) { stack = slice_set s.core.stack (p - stack_start) v }) in
        let x : State = record (marked k s) { core = advanced c reader } in
        x ≡ marked (plain_after k reader) (record s { core = record s.core { low = (if b then slice_set s.core.low (p - text_start) v else s.core.low); stack = (if b then s.core.stack else slice_set s.core.stack (p - stack_start) v) } }))
    by_part true = refl
    by_part false = refl
change-acted t (effects.StoreHalf p v) k s reader h = by_part (nat_lt p stack_start)
  where
    by_part : (b : Bool) →
        (let c : Core = (if b then record (marked_core k s.core) { low = with_half_in s.core.order s.core.low (p - text_start) v } else record (marked_core k s.core) { stack = with_half_in s.core.order s.core.stack (p - stack_start) v }) in
        let x : State = record (marked k s) { core = advanced c reader } in
        x ≡ marked (plain_after k reader) (record s { core = record s.core { low = (if b then with_half_in s.core.order s.core.low (p - text_start) v else s.core.low); stack = (if b then s.core.stack else with_half_in s.core.order s.core.stack (p - stack_start) v) } }))
    by_part true = refl
    by_part false = refl
change-acted t (effects.StoreWord p v) k s reader h = by_part (nat_lt p stack_start)
  where
    by_part : (b : Bool) →
        (let c : Core = (if b then record (marked_core k s.core) { low = with_word_in s.core.order s.core.low (p - text_start) v } else record (marked_core k s.core) { stack = with_word_in s.core.order s.core.stack (p - stack_start) v }) in
        let x : State = record (marked k s) { core = advanced c reader } in
        x ≡ marked (plain_after k reader) (record s { core = record s.core { low = (if b then with_word_in s.core.order s.core.low (p - text_start) v else s.core.low); stack = (if b then s.core.stack else with_word_in s.core.order s.core.stack (p - stack_start) v) } }))
    by_part true = refl
    by_part false = refl
change-acted t (effects.Pair hi lo) k s reader h = absurd h
change-acted t (effects.Load r v) k s reader h = absurd h
change-acted t (effects.Branch r taken to) k s reader h = absurd h
change-acted t (effects.JumpTo r to) k s reader h = absurd h
change-acted t effects.Call k s reader h = absurd h
change-acted t (effects.Stop cause) k s reader h = absurd h

-- A line that moves changes something, unless it stops

apart : (b : Bool) → b ≡ true → b ≡ false → ⊥
apart b h g = let z : true ≡ false = sym h ∙ g in cc

pub moves-change : (c b : Inst) → Moves c b → (f : Effect) → MayDo c f → NoStop f → IsChange f
moves-change c b m (effects.Write r v) may h = tt
moves-change c b m (effects.StoreByte p v) may h = tt
moves-change c b m (effects.StoreHalf p v) may h = tt
moves-change c b m (effects.StoreWord p v) may h = tt
moves-change c b m (effects.Pair hi lo) may h = apart (writes_pair c) may.0 m.no_writer
moves-change c b m (effects.Load r v) may h =
    apart (delays c) (ap (λ x. branches c || x) may.1 ∙ either (branches c)) m.quick
  where
    either : (x : Bool) → (x || true) ≡ true
    either true = refl
    either false = refl
moves-change c b m (effects.Branch r taken to) may h = apart (delays c) (ap (λ x. x || loads c) may.1) m.quick
moves-change c b m (effects.JumpTo r to) may h = apart (delays c) (ap (λ x. x || loads c) may.1) m.quick
moves-change c b m effects.Call may h = apart (is_system_call c) may.0 m.no_call
moves-change c b m (effects.Stop cause) may h = h

-- a load's memory is the same before and after it
pub moves-memory : (c b : Inst) → Moves c b → loads b ≡ true → (f : Effect) → MayDo c f → (o : ByteOrder) (low stack : List ℕ) →
    (low_of f o low ≡ low) × (stack_of f o stack ≡ stack)
moves-memory c b m l (effects.StoreByte p v) may o low stack =
    absurd (apart (loads b && stores c) (ap (λ x. x && stores c) l ∙ may.0) m.memory)
moves-memory c b m l (effects.StoreHalf p v) may o low stack =
    absurd (apart (loads b && stores c) (ap (λ x. x && stores c) l ∙ may.0) m.memory)
moves-memory c b m l (effects.StoreWord p v) may o low stack =
    absurd (apart (loads b && stores c) (ap (λ x. x && stores c) l ∙ may.0) m.memory)
moves-memory c b m l (effects.Write r v) may o low stack = (refl, refl)
moves-memory c b m l (effects.Pair hi lo) may o low stack = (refl, refl)
moves-memory c b m l (effects.Load r v) may o low stack = (refl, refl)
moves-memory c b m l (effects.Branch r taken to) may o low stack = (refl, refl)
moves-memory c b m l (effects.JumpTo r to) may o low stack = (refl, refl)
moves-memory c b m l effects.Call may o low stack = (refl, refl)
moves-memory c b m l (effects.Stop cause) may o low stack = (refl, refl)

-- Registers

-- a write of register w leaves a register that is read by one that doesn't read w
pub unread : (i : Inst) (w v r : ℕ) (regs : List ℕ) → (not (w == 0) && reads i w) ≡ false → reads i r ≡ true →
    slice_index (with_reg regs w v) r ≡ slice_index regs r
unread i w v r regs h read = by_zero (w == 0) refl h
  where
    by_equal : (e : Bool) → (r == w) ≡ e → reads i w ≡ false → (r == w) ≡ false
    by_equal false t g = t
    by_equal true t g =
        absurd (let same : r ≡ w = grind (arith, nat_tests) in apart (reads i w) (ap (reads i) (sym same) ∙ read) g)

    by_zero : (z : Bool) → (w == 0) ≡ z → (not (w == 0) && reads i w) ≡ false → slice_index (with_reg regs w v) r ≡ slice_index regs r
    by_zero true t g = ap (λ b. slice_index (if b then regs else slice_set regs w v) r) t
    by_zero false t g =
        other_reg regs w v r (by_equal (r == w) refl (ap (λ b. not b && reads i w) (sym t) ∙ g))

-- two writes of two registers, in either order; register 0 is never written
pub swap-writes : (regs : List ℕ) (w v r u : ℕ) → (not (w == 0) && (r == w)) ≡ false →
    with_reg (with_reg regs w v) r u ≡ with_reg (with_reg regs r u) w v
swap-writes regs w v r u h = go (w == 0) (r == 0) refl refl
  where
    differ : (w == 0) ≡ false → w ≢ r
    differ z = by_equal (r == w) refl
      where
        by_equal : (e : Bool) → (r == w) ≡ e → w ≢ r
        by_equal false t = grind (arith, nat_tests)
        by_equal true t =
            absurd (apart (not (w == 0) && (r == w)) (ap (λ b. not b && (r == w)) z ∙ t) h)

    go : (x y : Bool) → (w == 0) ≡ x → (r == 0) ≡ y →
        (let p : List ℕ = (if y then (if x then regs else slice_set regs w v) else slice_set (if x then regs else slice_set regs w v) r u) in
        let q : List ℕ = (if x then (if y then regs else slice_set regs r u) else slice_set (if y then regs else slice_set regs r u) w v) in
        p ≡ q)
    go true y zx zy = refl
    go false true zx zy = refl
    go false false zx zy = set_comm regs w r v u (differ zx)

-- what a moved line changes, and a register that the line before which it stood writes
pub swap-change : (c b : Inst) → Moves c b → (f : Effect) → MayDo c f → (regs : List ℕ) (r u : ℕ) → written b ≡ r →
    with_reg (regs_of f regs) r u ≡ regs_of f (with_reg regs r u)
swap-change c b m (effects.Write w v) may regs r u e =
    swap-writes regs w v r u
    (ap (λ x. not (w == 0) && (x == w)) (sym e) ∙ (ap (λ x. not (x == 0) && (written b == x)) (sym may.0) ∙ m.not_written))
swap-change c b m (effects.StoreByte p v) may regs r u e = refl
swap-change c b m (effects.StoreHalf p v) may regs r u e = refl
swap-change c b m (effects.StoreWord p v) may regs r u e = refl
swap-change c b m (effects.Pair hi lo) may regs r u e = refl
swap-change c b m (effects.Load q v) may regs r u e = refl
swap-change c b m (effects.Branch q taken to) may regs r u e = refl
swap-change c b m (effects.JumpTo q to) may regs r u e = refl
swap-change c b m effects.Call may regs r u e = refl
swap-change c b m (effects.Stop cause) may regs r u e = refl

-- b reads the same before and after it
pub change-unread : (c b : Inst) → Moves c b → (f : Effect) → MayDo c f → (regs : List ℕ) (r : ℕ) → reads b r ≡ true →
    slice_index regs r ≡ slice_index (regs_of f regs) r
change-unread c b m (effects.Write w v) may regs r h =
    sym (unread b w v r regs (ap (λ x. not (x == 0) && reads b x) (sym may.0) ∙ m.not_read) h)
change-unread c b m (effects.StoreByte p v) may regs r h = refl
change-unread c b m (effects.StoreHalf p v) may regs r h = refl
change-unread c b m (effects.StoreWord p v) may regs r h = refl
change-unread c b m (effects.Pair hi lo) may regs r h = refl
change-unread c b m (effects.Load q v) may regs r h = refl
change-unread c b m (effects.Branch q taken to) may regs r h = refl
change-unread c b m (effects.JumpTo q to) may regs r h = refl
change-unread c b m effects.Call may regs r h = refl
change-unread c b m (effects.Stop cause) may regs r h = refl
