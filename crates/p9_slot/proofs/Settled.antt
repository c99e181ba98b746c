-- Why lines that stand alone have not moved.
use Rattle.std.proofs.Common.{ℕ, ◌+◌, ◌≡◌, ◌||◌, ◌&&◌, Bool, true, false, not, Option, refl, sym, ap, ◌∙◌, if◌then◌else◌, List, [], ◌∷◌}
use Rattle.p9_r3k.specs.declared.inst.Inst.{Inst}
use Rattle.p9_r3k.specs.declared.lines.Line.{Line}
use Rattle.p9_r3k.specs.Effects.{branches}
use Rattle.p9_r3k.specs.Uses.{loads, stores, delays}
use Rattle.p9_slot.specs.declared.blocks.Block.{Block}
use Rattle.p9_slot.specs.declared.blocks.Block.TheVariants.{Single, Exchanged}
use Rattle.p9_slot.specs.Blocks.{stays, depend, may_move, is_awaited, first_of, moves, prepended, blocks}
use Rattle.p9_slot.proofs.Moving.{both}

-- an instruction alone doesn't move behind the next block's, if that is alone
abbrev pub KeepsBefore : Inst → List Block → Type 0
KeepsBefore c [] = Unit {0}
KeepsBefore c (Single lead aim ∷ rest) = moves c lead.inst aim (first_of rest) ≡ false
KeepsBefore c (Exchanged line lead ∷ rest) = Unit {0}

abbrev pub IsSettled : List Block → Type 0
IsSettled [] = Unit {0}
IsSettled (Single line target ∷ rest) = KeepsBefore line.inst rest × IsSettled rest
IsSettled (Exchanged line lead ∷ rest) = ((branches lead.inst || is_awaited lead.inst (first_of rest)) ≡ true) × IsSettled rest

-- each mark is right; the first line has number i
abbrev pub IsMarked : (ℕ → Bool) → ℕ → List Block → Type 0
IsMarked named i [] = Unit {0}
IsMarked named i (Single line target ∷ rest) = (target ≡ (line.is_target || named i)) × IsMarked named (i + 1) rest
IsMarked named i (Exchanged line lead ∷ rest) = IsMarked named (i + 1 + 1) rest

prepended-settled : (line : Line) (target : Bool) (bs : List Block) → IsSettled bs → IsSettled (prepended line target bs)
prepended-settled line target [] h = (tt, tt)
prepended-settled line target (Single lead aim ∷ rest) h = go (moves line.inst lead.inst aim (first_of rest)) refl
  where
    awaited : moves line.inst lead.inst aim (first_of rest) ≡ true → (branches lead.inst || is_awaited lead.inst (first_of rest)) ≡ true
    awaited e =
        (both (may_move line.inst lead.inst) (branches lead.inst || is_awaited lead.inst (first_of rest))
        (both (not aim) (may_move line.inst lead.inst && (branches lead.inst || is_awaited lead.inst (first_of rest))) e).1).1

    go : (b : Bool) → moves line.inst lead.inst aim (first_of rest) ≡ b →
        IsSettled (if b then Exchanged line lead ∷ rest else Single line target ∷ (Single lead aim ∷ rest))
    go true e = (awaited e, h.1)
    go false e = (e, h)
prepended-settled line target (Exchanged moved lead ∷ rest) h = (tt, h)

pub blocks-settled : (named : ℕ → Bool) (i : ℕ) (lines : List Line) → IsSettled (blocks named i lines)
blocks-settled named i [] = tt
blocks-settled named i (line ∷ rest) =
    prepended-settled line (line.is_target || named i) (blocks named (i + 1) rest) (blocks-settled named (i + 1) rest)

prepended-marked : (named : ℕ → Bool) (i : ℕ) (line : Line) (bs : List Block) → IsMarked named (i + 1) bs →
    IsMarked named i (prepended line (line.is_target || named i) bs)
prepended-marked named i line [] h = (refl, tt)
prepended-marked named i line (Single lead aim ∷ rest) h = go (moves line.inst lead.inst aim (first_of rest))
  where
    go : (b : Bool) → IsMarked named i (if b then Exchanged line lead ∷ rest else Single line (line.is_target || named i) ∷ (Single lead aim ∷ rest))
    go true = h.1
    go false = (refl, h)
prepended-marked named i line (Exchanged moved lead ∷ rest) h = (refl, h)

pub blocks-marked : (named : ℕ → Bool) (i : ℕ) (lines : List Line) → IsMarked named i (blocks named i lines)
blocks-marked named i [] = tt
blocks-marked named i (line ∷ rest) = prepended-marked named i line (blocks named (i + 1) rest) (blocks-marked named (i + 1) rest)

-- Why an instruction c stays before b

pub data Reason (c b : Inst) (target : Bool) : Type 0 where
  aimed_at : target ≡ true → Reason c b target
  fixed : stays c ≡ true → Reason c b target
  depends : depend c b ≡ true → Reason c b target
  stored : loads b ≡ true → stores c ≡ true → Reason c b target

would-move : (c b : Inst) (target : Bool) (next : Option Inst) → target ≡ false → delays b ≡ true → stays c ≡ false → depend c b ≡ false →
    (loads b && stores c) ≡ false → (branches b || is_awaited b next) ≡ true → moves c b target next ≡ true
would-move c b target next et eb es ed em ew =
    ap (λ x. not x && ((delays b && (not (stays c) && (not (depend c b) && not (loads b && stores c)))) && (branches b || is_awaited b next))) et
    ∙ (ap (λ x. (x && (not (stays c) && (not (depend c b) && not (loads b && stores c)))) && (branches b || is_awaited b next)) eb
    ∙ (ap (λ x. (not x && (not (depend c b) && not (loads b && stores c))) && (branches b || is_awaited b next)) es
    ∙ (ap (λ x. (not x && not (loads b && stores c)) && (branches b || is_awaited b next)) ed
    ∙ (ap (λ x. not x && (branches b || is_awaited b next)) em ∙ ew))))

pub reason : (c b : Inst) (target : Bool) (next : Option Inst) → delays b ≡ true → (branches b || is_awaited b next) ≡ true →
    moves c b target next ≡ false → Reason c b target
reason c b target next slow wanted h =
    go target refl (stays c) refl (depend c b) refl (loads b) refl (stores c) refl
  where
    never : target ≡ false → stays c ≡ false → depend c b ≡ false → (loads b && stores c) ≡ false → Reason c b target
    never et es ed em =
        absurd (let z : true ≡ false = sym (would-move c b target next et slow es ed em wanted) ∙ h in cc)

    go : (t : Bool) → target ≡ t → (s : Bool) → stays c ≡ s → (d : Bool) → depend c b ≡ d → (l : Bool) → loads b ≡ l → (m : Bool) → stores c ≡ m →
        Reason c b target
    go true et s es d ed l el m em = aimed_at et
    go false et true es d ed l el m em = fixed es
    go false et false es true ed l el m em = depends ed
    go false et false es false ed true el true em = stored el em
    go false et false es false ed true el false em = never et es ed (ap (λ x. x && stores c) el ∙ em)
    go false et false es false ed false el m em = never et es ed (ap (λ x. x && stores c) el)
