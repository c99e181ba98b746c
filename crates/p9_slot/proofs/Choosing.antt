-- Which blocks are made of lines.
use Rattle.std.proofs.Common.{ℕ, zero, suc, ◌+◌, ◌==◌, ◌≡◌, ◌⊎◌, inl, inr, ◌||◌, ◌&&◌, Bool, true, false, not, Option, Some, refl, sym, ap, ◌∙◌, arith, if◌then◌else◌, List, [], ◌∷◌, slice_get}
use Rattle.std.proofs.lemmas.Bool.Decides.{nat_tests}
use Rattle.p9_r3k.specs.declared.inst.Inst.{Inst}
use Rattle.p9_r3k.specs.declared.lines.Line.{Line}
use Rattle.p9_r3k.specs.Effects.{branches}
use Rattle.p9_slot.specs.declared.blocks.Block.{Block}
use Rattle.p9_slot.specs.declared.blocks.Block.TheVariants.{Single, Exchanged}
use Rattle.p9_slot.specs.Blocks.{may_move, is_awaited, first_of, moves, prepended, blocks, goes_to, is_named}
use Rattle.p9_slot.specs.Placing.{lines_of}
use Rattle.p9_slot.proofs.Moving.{AllMove, both, is_not}
use Rattle.p9_slot.proofs.Entering.{starts}
use Rattle.p9_slot.proofs.Numbers.{starts-first}

-- The lines are the same

prepended-lines : (line : Line) (target : Bool) (bs : List Block) → lines_of (prepended line target bs) ≡ line ∷ lines_of bs
prepended-lines line target [] = refl
prepended-lines line target (Single lead aim ∷ rest) = go (moves line.inst lead.inst aim (first_of rest))
  where
    go : (b : Bool) →
        lines_of (if b then Exchanged line lead ∷ rest else Single line target ∷ (Single lead aim ∷ rest)) ≡ line ∷ (lead ∷ lines_of rest)
    go true = refl
    go false = refl
prepended-lines line target (Exchanged moved lead ∷ rest) = refl

pub blocks-lines : (named : ℕ → Bool) (i : ℕ) (lines : List Line) → lines_of (blocks named i lines) ≡ lines
blocks-lines named i [] = refl
blocks-lines named i (line ∷ rest) =
    prepended-lines line (line.is_target || named i) (blocks named (i + 1) rest) ∙ ap (λ l. line ∷ l) (blocks-lines named (i + 1) rest)

-- Each line that moves may

moves-may : (c b : Inst) (aim : Bool) (next : Option Inst) → moves c b aim next ≡ true → (aim ≡ false) × (may_move c b ≡ true)
moves-may c b aim next h =
    let h1 : (not aim ≡ true) × ((may_move c b && (branches b || is_awaited b next)) ≡ true) =
    both (not aim) (may_move c b && (branches b || is_awaited b next)) h in
    (is_not aim h1.0, (both (may_move c b) (branches b || is_awaited b next) h1.1).0)

prepended-move : (line : Line) (target : Bool) (bs : List Block) → AllMove bs → AllMove (prepended line target bs)
prepended-move line target [] h = tt
prepended-move line target (Single lead aim ∷ rest) h = go (moves line.inst lead.inst aim (first_of rest)) refl
  where
    go : (b : Bool) → moves line.inst lead.inst aim (first_of rest) ≡ b →
        AllMove (if b then Exchanged line lead ∷ rest else Single line target ∷ (Single lead aim ∷ rest))
    go true e = ((moves-may line.inst lead.inst aim (first_of rest) e).1, h)
    go false e = h
prepended-move line target (Exchanged moved lead ∷ rest) h = h

pub blocks-move : (named : ℕ → Bool) (i : ℕ) (lines : List Line) → AllMove (blocks named i lines)
blocks-move named i [] = tt
blocks-move named i (line ∷ rest) = prepended-move line (line.is_target || named i) (blocks named (i + 1) rest) (blocks-move named (i + 1) rest)

-- No target stands inside a block

-- whether the first block is a line alone that is a target
abbrev pub leads_target : List Block → Bool
leads_target [] = false
leads_target (Single line target ∷ rest) = target
leads_target (Exchanged line lead ∷ rest) = false

prepended-starts : (line : Line) (target : Bool) (bs : List Block) (j : ℕ) → starts (prepended line target bs) (suc j) ≡ false →
    (starts bs j ≡ false) ⊎ ((j ≡ 0) × (lead : Line) × (rest : List Block) × (bs ≡ Single lead false ∷ rest))
prepended-starts line target [] j h = inl h
prepended-starts line target (Single lead aim ∷ rest) j h = go (moves line.inst lead.inst aim (first_of rest)) refl j h
  where
    go : (b : Bool) → moves line.inst lead.inst aim (first_of rest) ≡ b → (j : ℕ) →
        starts (if b then Exchanged line lead ∷ rest else Single line target ∷ (Single lead aim ∷ rest)) (suc j) ≡ false →
        (starts (Single lead aim ∷ rest) j ≡ false) ⊎ ((j ≡ 0) × (l : Line) × (more : List Block) × (Single lead aim ∷ rest ≡ Single l false ∷ more))
    go false e j h = inl h
    go true e zero h =
        inr (refl, lead, rest, ap (λ a. Single lead a ∷ rest) (moves-may line.inst lead.inst aim (first_of rest) e).0)
    go true e (suc j) h = inl h
prepended-starts line target (Exchanged moved lead ∷ rest) j h = inl h

-- what stands alone at the front has the mark that it was given
prepended-mark : (line : Line) (target : Bool) (bs : List Block) (lead : Line) (rest : List Block) →
    prepended line target bs ≡ Single lead false ∷ rest → target ≡ false
prepended-mark line target [] lead rest h = cc
prepended-mark line target (Single next aim ∷ more) lead rest h = go (moves line.inst next.inst aim (first_of more)) h
  where
    go : (b : Bool) → (if b then Exchanged line next ∷ more else Single line target ∷ (Single next aim ∷ more)) ≡ Single lead false ∷ rest → target ≡ false
    go true e = cc
    go false e = cc
prepended-mark line target (Exchanged moved next ∷ more) lead rest h = cc

pub no_target_inside : (named : ℕ → Bool) (i : ℕ) (lines : List Line) (j : ℕ) (line : Line) → slice_get lines j ≡ Some line →
    starts (blocks named i lines) j ≡ false → (line.is_target || named (i + j)) ≡ false
no_target_inside named i [] j line there h = cc
no_target_inside named i (first ∷ rest) zero line there h =
    absurd (let z : true ≡ false = sym (starts-first (prepended first (first.is_target || named i) (blocks named (i + 1) rest))) ∙ h in cc)
no_target_inside named i (first ∷ rest) (suc j) line there h =
    by_case rest there (no_target_inside named (i + 1) rest j line there) (prepended-starts first (first.is_target || named i) (blocks named (i + 1) rest) j h)
  where
    by_case : (rest : List Line) → slice_get rest j ≡ Some line →
        (starts (blocks named (i + 1) rest) j ≡ false → (line.is_target || named (i + 1 + j)) ≡ false) →
        (starts (blocks named (i + 1) rest) j ≡ false) ⊎ ((j ≡ 0) × (lead : Line) × (more : List Block) × (blocks named (i + 1) rest ≡ Single lead false ∷ more)) →
        (line.is_target || named (i + suc j)) ≡ false
    by_case rest there later (inl s) = ap (λ n. line.is_target || named n) (omega arith) ∙ later s
    by_case [] there later (inr (z, lead, more, e)) = cc
    by_case (second ∷ last) there later (inr (z, lead, more, e)) =
        let mark : (second.is_target || named (i + 1)) ≡ false =
        prepended-mark second (second.is_target || named (i + 1)) (blocks named (i + 1 + 1) last) lead more e in
        let same : second ≡ line = (let f : slice_get (second ∷ last) 0 ≡ Some line = ap (slice_get (second ∷ last)) (sym z) ∙ there in cc) in
        ap (λ (l : Line). l.is_target || named (i + suc j)) (sym same) ∙ (ap (λ n. second.is_target || named n) (omega (arith, z)) ∙ mark)

-- a line that is named by some line
pub is_named-by : (lines : List Line) (i : ℕ) (line : Line) (t : ℕ) → slice_get lines i ≡ Some line → line.target ≡ Some t → is_named lines t ≡ true
is_named-by [] i line t there goes = cc
is_named-by (first ∷ rest) zero line t there goes =
    let same : first ≡ line = cc in
    ap (λ (l : Line). goes_to t l.target || is_named rest t) same
    ∙ (ap (λ o. goes_to t o || is_named rest t) goes ∙ ap (λ b. b || is_named rest t) (let e : (t == t) ≡ true = grind (arith, nat_tests) in e))
is_named-by (first ∷ rest) (suc i) line t there goes =
    ap (λ b. goes_to t first.target || b) (is_named-by rest i line t there goes) ∙ either (goes_to t first.target)
  where
    either : (b : Bool) → (b || true) ≡ true
    either true = refl
    either false = refl
