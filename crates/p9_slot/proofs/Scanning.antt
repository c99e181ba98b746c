-- What the lines of an answer, one after the other, leave for the next ones, and that none of them is a hazard.
use Rattle.std.proofs.Common.{ℕ, zero, suc, ◌==◌, ◌≡◌, ◌||◌, ◌&&◌, Bool, true, false, not, Some, refl, sym, ap, ◌∙◌, subst, arith, if◌then◌else◌, List, [], ◌∷◌, ◌++◌, replicate, slice_get}
use Rattle.std.proofs.lemmas.Bool.Decides.{nat_tests}
use Rattle.p9_r3k.specs.declared.inst.Inst.{Inst}
use Rattle.p9_r3k.specs.declared.lines.Line.{Line}
use Rattle.p9_r3k.specs.Effects.{reads, reads_pair, writes_pair, branches}
use Rattle.p9_r3k.specs.Uses.{written, loads, delays}
use Rattle.p9_r3k.specs.Delayed.{noop}
use Rattle.p9_r3k.proofs.Doing.{readers_are_quick}
use Rattle.p9_slot.specs.declared.placing.Recent.{Recent}
use Rattle.p9_slot.specs.declared.blocks.Block.{Block}
use Rattle.p9_slot.specs.declared.blocks.Block.TheVariants.{Single, Exchanged}
use Rattle.p9_slot.specs.Schedule.{retargeted}
use Rattle.std.proofs.Math.Dec.{eqb-suc-zero}
use Rattle.p9_slot.specs.Placing.{nothing, awaits, needed, slot, after, laid}
use Rattle.p9_slot.proofs.Moving.{Moves, moves_by, AllMove, neither}

-- after one more line
abbrev pub next : Recent → Inst → Recent
next r i = record { last = reads_pair i; before = r.last; loaded = if loads i then written i else 0 }

-- after the first q of some lines
abbrev pub scan : Recent → List Line → ℕ → Recent
scan r lines zero = r
scan r [] (suc q) = r
scan r (line ∷ rest) (suc q) = scan (next r line.inst) rest q

-- an instruction is no hazard
pub record IsClear (r : Recent) (i : Inst) : Type 0 where
  pub pair : (writes_pair i && (r.last || r.before)) ≡ false
  pub load : awaits r i ≡ false

-- no line is a hazard
abbrev pub AreClear : Recent → List Line → Type 0
AreClear r [] = Unit {0}
AreClear r (line ∷ rest) = IsClear r line.inst × AreClear (next r line.inst) rest

pub clear-at : (r : Recent) (lines : List Line) (q : ℕ) (line : Line) → AreClear r lines → slice_get lines q ≡ Some line →
    IsClear (scan r lines q) line.inst
clear-at r [] q line h e = cc
clear-at r (first ∷ rest) zero line h e =
    let same : first ≡ line = cc in
    subst (λ (l : Line). IsClear r l.inst) same h.0
clear-at r (first ∷ rest) (suc q) line h e = clear-at (next r first.inst) rest q line h.1 e

pub scan-next : (r : Recent) (lines : List Line) (q : ℕ) (line : Line) → slice_get lines q ≡ Some line →
    scan r lines (suc q) ≡ next (scan r lines q) line.inst
scan-next r [] q line e = cc
scan-next r (first ∷ rest) zero line e =
    let same : first ≡ line = cc in ap (λ (l : Line). next r l.inst) same
scan-next r (first ∷ rest) (suc q) line e = scan-next (next r first.inst) rest q line e

-- No-ops

pub noop-awaits : (r : Recent) → awaits r noop.inst ≡ false
noop-awaits r = go (r.loaded == 0) (0 == r.loaded) refl refl
  where
    go : (b d : Bool) → (r.loaded == 0) ≡ b → (0 == r.loaded) ≡ d → (not b && d) ≡ false
    go true d e f = refl
    go false false e f = refl
    go false true e f = absurd (grind (arith, nat_tests))

clear-noop : (r : Recent) → IsClear r noop.inst
clear-noop r = record { pair = refl; load = noop-awaits r }

-- after n no-ops
abbrev past : Recent → ℕ → Recent
past r zero = r
past r (suc n) = past (next r noop.inst) n

clear-noops : (r : Recent) (n : ℕ) (rest : List Line) → AreClear (past r n) rest → AreClear r (replicate n noop ++ rest)
clear-noops r zero rest h = h
clear-noops r (suc n) rest h = (clear-noop r, clear-noops (next r noop.inst) n rest h)

-- An instruction behind the no-ops that it needs

nothing-awaits : (l b : Bool) (i : Inst) → awaits (record { last = l; before = b; loaded = 0 }) i ≡ false
nothing-awaits l b i = refl

no-pair : (w : Bool) → (w && (false || false)) ≡ false
no-pair true = refl
no-pair false = refl

pub clear-needed : (r : Recent) (i : Inst) → IsClear (past r (needed r i)) i
clear-needed r i = go (writes_pair i) r.last r.before (awaits r i) refl refl refl refl
  where
    nothing-left : writes_pair i ≡ false → (x : Bool) → (writes_pair i && x) ≡ false
    nothing-left e x = ap (λ b. b && x) e

    one-left : r.last ≡ false → (writes_pair i && (false || r.last)) ≡ false
    one-left e = ap (λ b. writes_pair i && (false || b)) e ∙ no-pair (writes_pair i)

    go : (w l b a : Bool) → writes_pair i ≡ w → r.last ≡ l → r.before ≡ b → awaits r i ≡ a →
        (let n : ℕ = (if w then (if l then 2 else if b then 1 else 0) else 0) in
        IsClear (past r (if n == 0 then (if a then 1 else 0) else n)) i)
    go false l b false ew el eb ea = record { pair = nothing-left ew (r.last || r.before); load = ea }
    go false l b true ew el eb ea = record { pair = nothing-left ew (false || r.last); load = refl }
    go true true b a ew el eb ea = record { pair = no-pair (writes_pair i); load = refl }
    go true false true a ew el eb ea = record { pair = one-left el; load = refl }
    go true false false true ew el eb ea = record { pair = one-left el; load = refl }
    go true false false false ew el eb ea = record {
      pair = ap (λ x. writes_pair i && (x || r.before)) el ∙ (ap (λ x. writes_pair i && (false || x)) eb ∙ no-pair (writes_pair i));
      load = ea;
    }

and-true : (b : Bool) → b ≡ (b && true)
and-true true = refl
and-true false = refl

and-false : (b : Bool) → false ≡ (b && false)
and-false true = refl
and-false false = refl

past-last : (r : Recent) (n : ℕ) → (past r n).last ≡ (r.last && (n == 0))
past-last r zero = and-true r.last
past-last r (suc n) = past-last (next r noop.inst) n ∙ (and-false r.last ∙ ap (λ b. r.last && b) (sym (eqb-suc-zero n)))

-- after an instruction with the no-ops that it needs
after-plain : (r : Recent) (i : Inst) → next (past r (needed r i)) i
    ≡ record { last = reads_pair i; before = r.last && (needed r i == 0); loaded = if loads i then written i else 0 }
after-plain r i =
    ap (λ b. record { last = reads_pair i; before = b; loaded = if loads i then written i else 0 }) (past-last r (needed r i))

branch-reads : (i : Inst) → delays i ≡ true → reads_pair i ≡ false
branch-reads i h = go (reads_pair i) (readers_are_quick i)
  where
    go : (b : Bool) → (b && delays i) ≡ false → b ≡ false
    go false e = refl
    go true e = absurd (let z : true ≡ false = sym h ∙ e in cc)

branches-delay : (i : Inst) → branches i ≡ true → delays i ≡ true
branches-delay i h = ap (λ b. b || loads i) h

-- Blocks

clear-single : (f : ℕ → ℕ) (r : Recent) (i : Inst) (rest : List Block) → AreClear (after r i) (laid f (after r i) rest) →
    AreClear (next (past r (needed r i)) i) (replicate (slot i) noop ++ laid f (after r i) rest)
clear-single f r i rest h = go (branches i) refl h
  where
    go : (b : Bool) → branches i ≡ b →
        (let a : Recent = (if b then nothing
        else record { last = reads_pair i; before = r.last && (needed r i == 0); loaded = if loads i then written i else 0 }) in
        AreClear a (laid f a rest) → AreClear (next (past r (needed r i)) i) (replicate (if b then 1 else 0) noop ++ laid f a rest))
    go false e g = subst (λ (a : Recent). AreClear a (laid f (record { last = reads_pair i; before = r.last && (needed r i == 0); loaded = if loads i then written i else 0 }) rest)) (sym (after-plain r i)) g
    go true e g = (
      clear-noop (next (past r (needed r i)) i),
      subst (λ b. AreClear (record { last = false; before = b; loaded = 0 }) (laid f nothing rest)) (sym (branch-reads i (branches-delay i e))) g,
    )

clear-moved : (r : Recent) (c b : Inst) → Moves c b → IsClear (next r b) c
clear-moved r c b m = record {
  pair = ap (λ w. w && (reads_pair b || r.last)) m.no_writer;
  load = go (loads b);
}
  where
    go : (l : Bool) → (let n : ℕ = (if l then written b else 0) in (not (n == 0) && reads c n) ≡ false)
    go true = m.not_read_back
    go false = refl

after-moved : (r : Recent) (c b : Inst) → Moves c b → next (next r b) c ≡ nothing
after-moved r c b m =
    ap (λ x. record { last = x; before = reads_pair b; loaded = if loads c then written c else 0 }) m.no_reader
    ∙ (ap (λ x. record { last = false; before = x; loaded = if loads c then written c else 0 }) (branch-reads b m.delayed)
    ∙ ap (λ (x : Bool). record { last = false; before = false; loaded = if x then written c else 0 }) (neither (branches c) (loads c) m.quick).1)

pub clear-laid : (f : ℕ → ℕ) (r : Recent) (bs : List Block) → AllMove bs → AreClear r (laid f r bs)
clear-laid f r [] h = tt
clear-laid f r (Single line target ∷ rest) h =
    clear-noops r (needed r line.inst) (retargeted f line ∷ (replicate (slot line.inst) noop ++ laid f (after r line.inst) rest))
    (clear-needed r line.inst, clear-single f r line.inst rest (clear-laid f (after r line.inst) rest h))
clear-laid f r (Exchanged line lead ∷ rest) h =
    let m : Moves line.inst lead.inst = moves_by line.inst lead.inst h.0 in
    let q : Recent = past r (needed r lead.inst) in
    clear-noops r (needed r lead.inst) (retargeted f lead ∷ (retargeted f line ∷ laid f nothing rest)) (
      clear-needed r lead.inst,
      (
        clear-moved q line.inst lead.inst m,
        subst (λ (a : Recent). AreClear a (laid f nothing rest)) (sym (after-moved q line.inst lead.inst m)) (clear-laid f nothing rest h.1),
      ),
    )
