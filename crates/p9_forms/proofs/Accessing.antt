-- Loads, stores and addresses at a register's value and an offset, and at a symbol and an offset.
use Rattle.std.proofs.Common.{ℕ, ◌+◌, ◌*◌, ◌/◌, ◌%◌, ◌^◌, ◌≡◌, Bool, true, false, refl, sym, ap, ◌∙◌, subst, arith, if◌then◌else◌, List, [], ◌∷◌, ◌++◌, length}
use Rattle.std.specs.Prelude.{bit_or, slice_get}
use Rattle.p9_base.specs.Words.{word_sum, IsWord}
use Rattle.p9_base.specs.Numbers.{sign_extended}
use Rattle.p9_base.specs.declared.halt.Effect.{Effect}
use Rattle.p9_base.specs.declared.halt.Effect.TheVariants as effects
use Rattle.p9_base.specs.Core.{Core, text_start, reg}
use Rattle.p9_base.specs.SystemCalls.{State}
use Rattle.p9_abs.specs.declared.forms.Width.{Width}
use Rattle.p9_abs.specs.declared.forms.Width.TheVariants.{Word, SignedHalf, UnsignedHalf, SignedByte, UnsignedByte}
use Rattle.p9_abs.specs.declared.forms.Location.{Location}
use Rattle.p9_abs.specs.declared.forms.Location.TheVariants.{Static, Argument, Frame, Based, Automatic}
use Rattle.p9_abs.specs.declared.forms.Form.{Form}
use Rattle.p9_abs.specs.Steps.{Mach, Around, Spot, At, Nowhere, Step, does, loads, stores, takes_address, spot_of, automatic_spot, load_effect, store_effect, bytes_of}
use Rattle.p9_r3k.specs.declared.inst.Inst.TheVariants as i
use Rattle.p9_r3k.specs.declared.lines.Line.{Line}
use Rattle.p9_r3k.specs.declared.lines.Part.TheVariants.{High, Low}
use Rattle.p9_r3k.specs.Effects.{effect_of}
use Rattle.p9_r3k.specs.Straight.{Addresses, Straight, straight_run}
use Rattle.p9_lines.specs.declared.parts.Access.{Access}
use Rattle.p9_lines.specs.declared.parts.Access.TheVariants.{Load, Store, Address}
use Rattle.p9_lines.specs.Insts.{access_inst}
use Rattle.p9_lines.specs.FormLines.{plain, valued, is_near, high_of, low_of, near_lines, symbol_lines, static_lines, access_lines}
use Rattle.p9_forms.specs.Standing.{Rest, stands, placed, Stand}
use Rattle.p9_forms.specs.Following.{Site, Follows}
use Rattle.p9_forms.specs.Laws.{IsFree, IsFineLocation}
use Rattle.p9_forms.proofs.Temporary.{rest_at, seen, seen-other, seen-temporary, run-none, halves, near-extended, far-extended}
use Rattle.p9_forms.proofs.Doing.{Usual, Spares, IsReady, last-line, one-line, temporary-made, touched}

-- what an access does at an address
abbrev pub access_effect : Access → Core → ℕ → Effect
access_effect (Load w to) c p = load_effect w c to p
access_effect (Store w from) c p = store_effect w c p (reg c from)
access_effect (Address to) c p = effects.Write to p

abbrev pub IsFreeAccess : Access → Type 0
IsFreeAccess (Load w to) = IsFree to
IsFreeAccess (Store w from) = IsFree from
IsFreeAccess (Address to) = IsFree to

-- at the address that the instruction computes, by its register as it stands
pub access-acts : (a : Addresses) (n t : ℕ) (k : Rest) (s : State) (access : Access) (rs imm : ℕ) → Usual s → IsFreeAccess access →
    effect_of (access_inst access rs imm) (seen a n t k s) ≡ access_effect access s.core (word_sum (reg (seen a n t k s) rs) (sign_extended 16 imm))
access-acts a n t k s (Load w to) rs imm u free =
    by w ∙ ap (λ z. load_effect w (record s.core { text_end = z }) to (word_sum (reg (seen a n t k s) rs) (sign_extended 16 imm))) (sym u.textless)
  where
    by : (w : Width) → effect_of (access_inst (Load w to) rs imm) (seen a n t k s) ≡ load_effect w (record s.core { text_end = text_start }) to (word_sum (reg (seen a n t k s) rs) (sign_extended 16 imm))
    by Word = refl
    by SignedHalf = refl
    by UnsignedHalf = refl
    by SignedByte = refl
    by UnsignedByte = refl
access-acts a n t k s (Store w from) rs imm u free =
    by w ∙ ap (λ z. store_effect w s.core (word_sum (reg (seen a n t k s) rs) (sign_extended 16 imm)) z) (seen-other a n t k s from free)
  where
    by : (w : Width) → effect_of (access_inst (Store w from) rs imm) (seen a n t k s) ≡ store_effect w s.core (word_sum (reg (seen a n t k s) rs) (sign_extended 16 imm)) (reg (seen a n t k s) from)
    by Word = refl
    by SignedHalf = refl
    by UnsignedHalf = refl
    by SignedByte = refl
    by UnsignedByte = refl
access-acts a n t k s (Address to) rs imm u free = refl

choice-spares : (b : Bool) (x y : Effect) → Spares x → Spares y → Spares (if b then x else y)
choice-spares true x y hx hy = hx
choice-spares false x y hx hy = hy

pub access-spares : (access : Access) (c : Core) (p : ℕ) → IsFreeAccess access → Spares (access_effect access c p)
access-spares (Load Word to) c p free = search (choice-spares, free)
access-spares (Load SignedHalf to) c p free = search (choice-spares, free)
access-spares (Load UnsignedHalf to) c p free = search (choice-spares, free)
access-spares (Load SignedByte to) c p free = search (choice-spares, free)
access-spares (Load UnsignedByte to) c p free = search (choice-spares, free)
access-spares (Store Word from) c p free = search (choice-spares)
access-spares (Store SignedHalf from) c p free = search (choice-spares)
access-spares (Store UnsignedHalf from) c p free = search (choice-spares)
access-spares (Store SignedByte from) c p free = search (choice-spares)
access-spares (Store UnsignedByte from) c p free = search (choice-spares)
access-spares (Address to) c p free = free

-- Near a register

pub near-accessed : (h : Site) (form : Form) (t : ℕ) (k : Rest) (x : Mach) (access : Access) (r o : ℕ) →
    Usual x.state → IsFreeAccess access → IsFree r → IsWord o →
    Stand h.lines h.place h.first (near_lines access r o) → h.place h.way.next ≡ h.first + length (near_lines access r o) →
    Follows h form (stands t k x.state h.first) (does (access_effect access x.state.core (word_sum (reg x.state.core r) o)) x)
near-accessed h form t k x access r o u free other small there next = go (is_near o) refl there next
  where
    p : ℕ
    p = word_sum (reg x.state.core r) o

    go : (b : Bool) → is_near o ≡ b →
        (let ls : List Line = (if b then plain (access_inst access r (low_of o)) ∷ []
        else plain (i.Lui 28 (high_of o)) ∷ plain (i.Addu r 28 28) ∷ plain (access_inst access 28 (low_of o)) ∷ []) in
        Stand h.lines h.place h.first ls → h.place h.way.next ≡ h.first + length ls →
        Follows h form (stands t k x.state h.first) (does (access_effect access x.state.core (word_sum (reg x.state.core r) o)) x))
    go true near there next =
        one-line h form t k x (access_inst access r (low_of o)) u.running there next (access_effect access x.state.core (word_sum (reg x.state.core r) o))
        (access-acts h.addresses h.first t k x.state access r (low_of o) u free
        ∙ ap (λ z. access_effect access x.state.core (word_sum z (sign_extended 16 (low_of o)))) (seen-other h.addresses h.first t k x.state r other)
        ∙ ap (λ z. access_effect access x.state.core (word_sum (reg x.state.core r) z)) (near-extended o small near))
        (access-spares access x.state.core (word_sum (reg x.state.core r) o) free)
    go false far there next =
        let n : ℕ = h.first in
        let hi : ℕ = high_of o * 2 ^ 16 in
        let k1 : Rest = rest_at h.addresses n k in
        let sum : ℕ = word_sum (reg x.state.core r) hi in
        let k2 : Rest = rest_at h.addresses (n + 1) k1 in
        let one : straight_run h.addresses h.lines 1 (stands t k x.state n) ≡ stands hi k1 x.state (n + 1) =
        temporary-made h 0 (stands t k x.state n) n t k x.state (placed h.place there.0 (plain (i.Lui 28 (high_of o)))) hi (run-none h.addresses h.lines (stands t k x.state n)) u.running there.1 refl in
        let two : straight_run h.addresses h.lines 2 (stands t k x.state n) ≡ stands sum k2 x.state (n + 1 + 1) =
        temporary-made h 1 (stands t k x.state n) (n + 1) hi k1 x.state (placed h.place there.2.0 (plain (i.Addu r 28 28))) sum one u.running there.2.1
        (ap (λ v. effects.Write 28 v) (ap (λ z. word_sum z (reg (seen h.addresses (n + 1) hi k1 x.state) 28)) (seen-other h.addresses (n + 1) hi k1 x.state r other)
        ∙ ap (λ z. word_sum (reg x.state.core r) z) (seen-temporary h.addresses (n + 1) hi k1 x.state u.count))) in
        last-line h form 2 (stands t k x.state n) (n + 1 + 1) sum k2 x (placed h.place there.2.2.0 (plain (access_inst access 28 (low_of o)))) two (omega arith)
        (omega (arith, next)) u.running there.2.2.1 (access_effect access x.state.core (word_sum (reg x.state.core r) o))
        (access-acts h.addresses (n + 1 + 1) sum k2 x.state access 28 (low_of o) u free
        ∙ ap (λ z. access_effect access x.state.core (word_sum z (sign_extended 16 (low_of o)))) (seen-temporary h.addresses (n + 1 + 1) sum k2 x.state u.count)
        ∙ ap (access_effect access x.state.core) (far-extended o (reg x.state.core r) small))
        (access-spares access x.state.core (word_sum (reg x.state.core r) o) free)

-- At a symbol

-- the address in a register, by two lines of which the second is left
pub symbol-moved : (h : Site) (form : Form) (t : ℕ) (k : Rest) (x : Mach) (unit symbol offset to : ℕ) → Usual x.state → IsFree to →
    Stand h.lines h.place h.first (symbol_lines unit symbol offset to) → h.place h.way.next ≡ h.first + length (symbol_lines unit symbol offset to) →
    Follows h form (stands t k x.state h.first) (does (effects.Write to (word_sum (h.addresses.symbol unit symbol) offset)) x)
symbol-moved h form t k x unit symbol offset to u free there next =
    let n : ℕ = h.first in
    let c : ℕ = word_sum (h.addresses.symbol unit symbol) offset in
    let hi : ℕ = c / 2 ^ 16 * 2 ^ 16 in
    let k1 : Rest = rest_at h.addresses n k in
    let one : straight_run h.addresses h.lines 1 (stands t k x.state n) ≡ stands hi k1 x.state (n + 1) =
    temporary-made h 0 (stands t k x.state n) n t k x.state (placed h.place there.0 (valued (i.Lui 28 0) High unit symbol offset)) hi (run-none h.addresses h.lines (stands t k x.state n)) u.running there.1 refl in
    last-line h form 1 (stands t k x.state n) (n + 1) hi k1 x (placed h.place there.2.0 (valued (i.Ori 28 to 0) Low unit symbol offset)) one (omega arith)
    (omega (arith, next)) u.running there.2.1 (effects.Write to c)
    (ap (λ v. effects.Write to v) (ap (λ z. bit_or z (c % 2 ^ 16)) (seen-temporary h.addresses (n + 1) hi k1 x.state u.count) ∙ halves c)) free

pub symbol-ready : (h : Site) (n t : ℕ) (k : Rest) (s : State) (unit symbol offset : ℕ) → Usual s → Stand h.lines h.place n (symbol_lines unit symbol offset 28) →
    IsReady h (stands t k s n) (n + 1 + 1) s (word_sum (h.addresses.symbol unit symbol) offset)
symbol-ready h n t k s unit symbol offset u there =
    let c : ℕ = word_sum (h.addresses.symbol unit symbol) offset in
    let hi : ℕ = c / 2 ^ 16 * 2 ^ 16 in
    let k1 : Rest = rest_at h.addresses n k in
    let one : straight_run h.addresses h.lines 1 (stands t k s n) ≡ stands hi k1 s (n + 1) =
    temporary-made h 0 (stands t k s n) n t k s (placed h.place there.0 (valued (i.Lui 28 0) High unit symbol offset)) hi (run-none h.addresses h.lines (stands t k s n)) u.running there.1 refl in
    record {
      count = 2;
      few = omega arith;
      rest = rest_at h.addresses (n + 1) k1;
      run = temporary-made h 1 (stands t k s n) (n + 1) hi k1 s (placed h.place there.2.0 (valued (i.Ori 28 28 0) Low unit symbol offset)) c one u.running there.2.1
          (ap (λ v. effects.Write 28 v) (ap (λ z. bit_or z (c % 2 ^ 16)) (seen-temporary h.addresses (n + 1) hi k1 s u.count) ∙ halves c));
    }

at-ready : (h : Site) (form : Form) (t : ℕ) (k : Rest) (x : Mach) (access : Access) (unit symbol offset : ℕ) → Usual x.state → IsFreeAccess access →
    Stand h.lines h.place h.first (symbol_lines unit symbol offset 28 ++ plain (access_inst access 28 0) ∷ []) → h.place h.way.next ≡ h.first + 3 →
    Follows h form (stands t k x.state h.first) (does (access_effect access x.state.core (word_sum (h.addresses.symbol unit symbol) offset)) x)
at-ready h form t k x access unit symbol offset u free there next =
    let c : ℕ = word_sum (h.addresses.symbol unit symbol) offset in
    let n : ℕ = h.first + 1 + 1 in
    let r = symbol-ready h h.first t k x.state unit symbol offset u (there.0, there.1, (there.2.0, there.2.1, tt)) in
    last-line h form r.count (stands t k x.state h.first) n c r.rest x (placed h.place there.2.2.0 (plain (access_inst access 28 0))) r.run (omega (arith, r.few))
    (omega (arith, next)) u.running there.2.2.1 (access_effect access x.state.core c)
    (access-acts h.addresses n c r.rest x.state access 28 0 u free
    ∙ ap (λ z. access_effect access x.state.core (word_sum z (sign_extended 16 0))) (seen-temporary h.addresses n c r.rest x.state u.count)
    ∙ ap (access_effect access x.state.core) (omega arith))
    (access-spares access x.state.core c free)

pub static-accessed : (h : Site) (form : Form) (t : ℕ) (k : Rest) (x : Mach) (access : Access) (unit symbol offset : ℕ) → Usual x.state → IsFreeAccess access →
    Stand h.lines h.place h.first (static_lines access unit symbol offset) → h.place h.way.next ≡ h.first + length (static_lines access unit symbol offset) →
    Follows h form (stands t k x.state h.first) (does (access_effect access x.state.core (word_sum (h.addresses.symbol unit symbol) offset)) x)
static-accessed h form t k x (Load w to) unit symbol offset u free there next = at-ready h form t k x (Load w to) unit symbol offset u free there next
static-accessed h form t k x (Store w from) unit symbol offset u free there next = at-ready h form t k x (Store w from) unit symbol offset u free there next
static-accessed h form t k x (Address to) unit symbol offset u free there next = symbol-moved h form t k x unit symbol offset to u free there next

-- Locations

-- what an access does at a place
abbrev pub accesses : Around → Access → Spot → Mach → Step
accesses around (Load w to) spot x = loads around w spot to x
accesses around (Store w from) spot x = stores around w from spot x
accesses around (Address to) spot x = takes_address spot to x

pub access-followed : (h : Site) (form : Form) (from : Straight) (around : Around) (access : Access) (p : ℕ) (x : Mach) →
    Follows h form from (does (access_effect access x.state.core p) x) → Follows h form from (accesses around access (At p) x)
access-followed h form from around (Load w to) p x f = touched h form from around p (bytes_of w) (load_effect w x.state.core to p) x f
access-followed h form from around (Store w s) p x f = touched h form from around p (bytes_of w) (store_effect w x.state.core p (reg x.state.core s)) x f
access-followed h form from around (Address to) p x f = f

nowhere-followed : (h : Site) (form : Form) (from : Straight) (around : Around) (access : Access) (x : Mach) → Follows h form from (accesses around access Nowhere x)
nowhere-followed h form from around (Load w to) x = tt
nowhere-followed h form from around (Store w s) x = tt
nowhere-followed h form from around (Address to) x = tt

pub location-followed : (h : Site) (form : Form) (t : ℕ) (k : Rest) (x : Mach) (around : Around) (access : Access) (at : Location) →
    Usual x.state → IsFreeAccess access → IsFineLocation at → h.setting.taken ≡ around.taken → ((symbol : ℕ) → h.addresses.symbol h.setting.unit symbol ≡ around.symbol symbol) → around.offsets ≡ [] →
    Stand h.lines h.place h.first (access_lines h.setting access at) → h.place h.way.next ≡ h.first + length (access_lines h.setting access at) →
    Follows h form (stands t k x.state h.first) (accesses around access (spot_of around x.state.core at) x)
location-followed h form t k x around access (Static symbol o) u free fine taken symbols framed there next =
    access-followed h form (stands t k x.state h.first) around access (word_sum (around.symbol symbol) o) x
    (subst (λ z. Follows h form (stands t k x.state h.first) (does (access_effect access x.state.core (word_sum z o)) x)) (symbols symbol)
    (static-accessed h form t k x access h.setting.unit symbol o u free there next))
location-followed h form t k x around access (Argument o) u free fine taken symbols framed there next =
    access-followed h form (stands t k x.state h.first) around access (word_sum (reg x.state.core 29) (around.taken + 4 + o)) x
    (subst (λ z. Follows h form (stands t k x.state h.first) (does (access_effect access x.state.core z) x)) (omega (arith, taken))
    (near-accessed h form t k x access 29 ((h.setting.taken + 4 + o) % 2 ^ 32) u free refl (omega arith) there next))
location-followed h form t k x around access (Frame o) u free fine taken symbols framed there next =
    access-followed h form (stands t k x.state h.first) around access (word_sum (reg x.state.core 29) (around.taken + o)) x
    (subst (λ z. Follows h form (stands t k x.state h.first) (does (access_effect access x.state.core z) x)) (omega (arith, taken))
    (near-accessed h form t k x access 29 ((h.setting.taken + o) % 2 ^ 32) u free refl (omega arith) there next))
location-followed h form t k x around access (Based r o) u free fine taken symbols framed there next =
    access-followed h form (stands t k x.state h.first) around access (word_sum (reg x.state.core r) o) x
    (near-accessed h form t k x access r o u free fine.0 fine.1 there next)
location-followed h form t k x around access (Automatic v o) u free fine taken symbols framed there next =
    subst (λ l. Follows h form (stands t k x.state h.first) (accesses around access (automatic_spot (reg x.state.core 29) v (slice_get l v) o) x)) (sym framed)
    (nowhere-followed h form (stands t k x.state h.first) around access x)
