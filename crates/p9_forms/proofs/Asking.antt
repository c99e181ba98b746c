-- System calls.
use Rattle.std.proofs.Common.{ℕ, ◌+◌, ◌-◌, ◌^◌, ◌≡◌, nat_lt, Bool, true, false, refl, sym, ap, ◌∙◌, subst, arith, if◌then◌else◌, List, [], ◌∷◌, ◌++◌, length, take, drop}
use Rattle.std.specs.Prelude.{min}
use Rattle.p9_base.specs.Words.{word_sum}
use Rattle.p9_base.specs.declared.halt.Ending.TheVariants.{Running}
use Rattle.p9_base.specs.declared.halt.Effect.TheVariants as effects
use Rattle.p9_base.specs.declared.halt.Asked.{Asked}
use Rattle.p9_base.specs.declared.halt.Asked.TheVariants as asks
use Rattle.p9_base.specs.Core.{Core, text_start, stack_start, bytes_from, with_bytes, over}
use Rattle.p9_base.specs.SystemCalls.{State, asked, answered, called}
use Rattle.p9_abs.specs.declared.forms.Form.{Form}
use Rattle.p9_abs.specs.Steps.{Mach, Around, Undefined, asks_system, room_free, ended}
use Rattle.p9_r3k.specs.declared.inst.Inst.TheVariants as i
use Rattle.p9_r3k.specs.Straight.{Addresses, Straight, straight_step}
use Rattle.p9_r3k.proofs.Agreeing.{asks_by_what_it_reads}
use Rattle.p9_lines.specs.FormLines.{plain}
use Rattle.p9_forms.specs.Standing.{Rest, rested, stands, dressed, placed, Stand, Arrives}
use Rattle.p9_forms.specs.Following.{Site, Follows}
use Rattle.p9_forms.proofs.Temporary.{rest_at, seen, seen_state, seen-other, written-other, line-by, run-none, arrives}
use Rattle.p9_forms.proofs.Doing.{Usual}

-- what a call leaves of the rest of a core
abbrev called_rest : Rest → Rest
called_rest k = record { pc = k.next; next = word_sum k.next 4; slot = false; loaded = 0; used = false; used_before = k.used; text_end = text_start }

asks-same : (a : Addresses) (n t : ℕ) (k : Rest) (s : State) → Usual s → asked (seen a n t k s) ≡ asked s.core
asks-same a n t k s u =
    asks_by_what_it_reads s.core (seen a n t k s) (seen-other a n t k s 1 refl) (seen-other a n t k s 29 refl)
    (record { order = refl; low = refl; stack = refl; text_end = sym u.textless; data_start = refl })

-- one line that leads to a state
arrives-at : (h : Site) (t : ℕ) (k l : Rest) (x s : State) → straight_step h.addresses h.lines (stands t k x h.first) ≡ stands t l s (h.first + 1) →
    h.place h.way.next ≡ h.first + 1 → Arrives h.addresses h.lines (stands t k x h.first) s (h.place h.way.next)
arrives-at h t k l x s e next =
    subst (λ m. Arrives h.addresses h.lines (stands t k x h.first) s m) (sym next)
    (arrives h.addresses h.lines 0 (stands t k x h.first) (stands t k x h.first) t l s (h.first + 1) (run-none h.addresses h.lines (stands t k x h.first)) (omega arith) e)

-- a call that goes on
goes-on : (h : Site) (form : Form) (t : ℕ) (k l : Rest) (x : Mach) (s : State) → s.core.ending ≡ Running →
    straight_step h.addresses h.lines (stands t k x.state h.first) ≡ stands t l s (h.first + 1) → h.place h.way.next ≡ h.first + 1 →
    Follows h form (stands t k x.state h.first) (ended s.core.ending (record x { state = s; at = x.at + 1 }))
goes-on h form t k l x s running e next =
    subst (λ z. Follows h form (stands t k x.state h.first) (ended z (record x { state = s; at = x.at + 1 }))) (sym running) (arrives-at h t k l x.state s e next)

-- an answer in register 1
answer-stands : (a : Addresses) (n t : ℕ) (k : Rest) (s : State) (v at : ℕ) →
    (let y : Straight = record { state = record (seen_state a n t k s) { core = answered (seen a n t k s) v }; at = at } in
    y ≡ stands t (called_rest k) (record s { core = answered s.core v }) at)
answer-stands a n t k s v at =
    ap (λ (l : List ℕ). (let y : Straight = record { state = record s { core = rested (called_rest k) (record s.core { regs = l }) }; at = at } in y)) (written-other s.core.regs 1 v t refl)

-- bytes are written in one of two places
core-written : (t : ℕ) (k : Rest) (s : State) (b : Bool) (low stack : List ℕ) →
    (let c : Core = (if b then record (dressed t k s).core { low = low } else record (dressed t k s).core { stack = stack }) in
    let d : State = record s { core = (if b then record s.core { low = low } else record s.core { stack = stack }) } in
    c ≡ (dressed t k d).core)
core-written t k s true low stack = refl
core-written t k s false low stack = refl

still-running : (c : Core) (b : Bool) (low stack : List ℕ) → c.ending ≡ Running → (if b then record c { low = low } else record c { stack = stack }).ending ≡ Running
still-running c true low stack h = h
still-running c false low stack h = h

-- what is read
abbrev filled_with : State → ℕ → ℕ → State
filled_with s at m = record s { core = with_bytes s.core at (take (min m (length s.left)) s.left); left = drop (min m (length s.left)) s.left }

read-stands : (a : Addresses) (n t : ℕ) (k : Rest) (s : State) (at m j : ℕ) →
    (let y : Straight = record { state = called (asks.Read at m) (seen_state a n t k s); at = j } in y ≡ stands t (called_rest k) (called (asks.Read at m) s) j)
read-stands a n t k s at m j =
    ap (λ (c : Core). (let y : Straight = record { state = record s { core = answered c (min m (length s.left)); left = drop (min m (length s.left)) s.left }; at = j } in y))
    (core-written t (rest_at a n k) s (nat_lt at stack_start) (over s.core.low (at - text_start) (take (min m (length s.left)) s.left)) (over s.core.stack (at - stack_start) (take (min m (length s.left)) s.left)))
    ∙ answer-stands a n t k (filled_with s at m) (min m (length s.left)) j

-- each answer
asked-followed : (h : Site) (form : Form) (t : ℕ) (k : Rest) (x : Mach) (around : Around) (q : Asked) → Usual x.state →
    (let y : Straight = record { state = called q (seen_state h.addresses h.first t k x.state); at = h.first + 1 } in
    straight_step h.addresses h.lines (stands t k x.state h.first) ≡ y) → h.place h.way.next ≡ h.first + 1 →
    Follows h form (stands t k x.state h.first) (asks_system around q x)
asked-followed h form t k x around (asks.Exits at len) u e next = go (room_free around x.state.core (asks.Exits at len))
  where
    go : (b : Bool) → Follows h form (stands t k x.state h.first) (if b then (let s : State = called (asks.Exits at len) x.state in ended s.core.ending (record x { state = s; at = x.at + 1 })) else Undefined)
    go false = tt
    go true = (h.place h.way.next, arrives-at h t k (called_rest k) x.state (called (asks.Exits at len) x.state) e next)
asked-followed h form t k x around (asks.Read at m) u e next = go (room_free around x.state.core (asks.Read at m))
  where
    go : (b : Bool) → Follows h form (stands t k x.state h.first) (if b then (let s : State = called (asks.Read at m) x.state in ended s.core.ending (record x { state = s; at = x.at + 1 })) else Undefined)
    go false = tt
    go true =
        goes-on h form t k (called_rest k) x (called (asks.Read at m) x.state)
        (still-running x.state.core (nat_lt at stack_start) (over x.state.core.low (at - text_start) (take (min m (length x.state.left)) x.state.left)) (over x.state.core.stack (at - stack_start) (take (min m (length x.state.left)) x.state.left)) u.running)
        (e ∙ read-stands h.addresses h.first t k x.state at m (h.first + 1)) next
asked-followed h form t k x around (asks.Write at m) u e next = go (room_free around x.state.core (asks.Write at m))
  where
    go : (b : Bool) → Follows h form (stands t k x.state h.first) (if b then (let s : State = called (asks.Write at m) x.state in ended s.core.ending (record x { state = s; at = x.at + 1 })) else Undefined)
    go false = tt
    go true =
        goes-on h form t k (called_rest k) x (called (asks.Write at m) x.state) u.running
        (e ∙ ap (λ (y : Straight). record y { state = record y.state { out = x.state.out ++ bytes_from x.state.core at m } }) (answer-stands h.addresses h.first t k x.state m (h.first + 1))) next
asked-followed h form t k x around asks.Refused u e next = go (room_free around x.state.core asks.Refused)
  where
    go : (b : Bool) → Follows h form (stands t k x.state h.first) (if b then (let s : State = called asks.Refused x.state in ended s.core.ending (record x { state = s; at = x.at + 1 })) else Undefined)
    go false = tt
    go true =
        goes-on h form t k (called_rest k) x (called asks.Refused x.state) u.running (e ∙ answer-stands h.addresses h.first t k x.state (2 ^ 32 - 1) (h.first + 1)) next
asked-followed h form t k x around (asks.Stop cause) u e next = tt

pub asks-followed : (h : Site) (form : Form) (t : ℕ) (k : Rest) (x : Mach) (around : Around) → Usual x.state →
    Stand h.lines h.place h.first (plain (i.Syscall 0) ∷ []) → h.place h.way.next ≡ h.first + 1 →
    Follows h form (stands t k x.state h.first) (asks_system around (asked x.state.core) x)
asks-followed h form t k x around u there next =
    asked-followed h form t k x around (asked x.state.core) u
    (line-by h.addresses h.lines h.first t k x.state (placed h.place there.0 (plain (i.Syscall 0))) effects.Call u.running there.1 refl
    ∙ ap (λ q. (let y : Straight = record { state = called q (seen_state h.addresses h.first t k x.state); at = h.first + 1 } in y)) (asks-same h.addresses h.first t k x.state u)) next
