-- Where old lines are entered among the new ones, and what stands there.
use Rattle.std.proofs.Common.{ℕ, zero, suc, ◌+◌, ◌-◌, ◌==◌, ◌≡◌, ◌≤◌, ◌<◌, ◌&&◌, nat_lt, Bool, true, false, Some, refl, sym, ap, ◌∙◌, subst, arith, if◌then◌else◌, List, [], ◌∷◌, ◌++◌, length, replicate, slice_get, append_assoc, length-append}
use Rattle.std.proofs.lemmas.List.{length-replicate}
use Rattle.std.proofs.lemmas.Bool.Decides.{nat_tests}
use Rattle.p9_r3k.specs.declared.inst.Inst.{Inst}
use Rattle.p9_r3k.specs.declared.lines.Line.{Line}
use Rattle.p9_r3k.specs.Effects.{reads_pair, writes_pair, branches}
use Rattle.p9_r3k.specs.Uses.{written, loads, links}
use Rattle.p9_r3k.specs.Delayed.{noop}
use Rattle.p9_r3k.proofs.Doing.{calls_branch}
use Rattle.p9_slot.specs.declared.placing.Recent.{Recent}
use Rattle.p9_slot.specs.declared.blocks.Block.{Block}
use Rattle.p9_slot.specs.declared.blocks.Block.TheVariants.{Single, Exchanged}
use Rattle.p9_slot.specs.Schedule.{is_at, line_is, retargeted}
use Rattle.p9_slot.specs.Blocks.{may_move}
use Rattle.p9_slot.specs.Placing.{nothing, awaits, needed, slot, after, laid, lines_of}
use Rattle.p9_slot.proofs.Lists.{get_left, get_behind, get_replicate}
use Rattle.p9_slot.proofs.Moving.{AllMove}

-- where line i is entered; behind the last line, where the next would be
abbrev pub enters : Recent → ℕ → List Block → ℕ → ℕ
enters r at [] i = at
enters r at (Single line target ∷ rest) zero = at + needed r line.inst
enters r at (Single line target ∷ rest) (suc i) = enters (after r line.inst) (at + needed r line.inst + 1 + slot line.inst) rest i
enters r at (Exchanged line lead ∷ rest) zero = at + needed r lead.inst
enters r at (Exchanged line lead ∷ rest) (suc zero) = at + needed r lead.inst
enters r at (Exchanged line lead ∷ rest) (suc (suc i)) = enters nothing (at + needed r lead.inst + 2) rest i

-- whether a block begins with line i
abbrev pub starts : List Block → ℕ → Bool
starts [] i = true
starts (Single line target ∷ rest) zero = true
starts (Single line target ∷ rest) (suc i) = starts rest i
starts (Exchanged line lead ∷ rest) zero = true
starts (Exchanged line lead ∷ rest) (suc zero) = false
starts (Exchanged line lead ∷ rest) (suc (suc i)) = starts rest i

-- whether line i has moved behind the next
abbrev pub moves_at : List Block → ℕ → Bool
moves_at [] i = false
moves_at (Single line target ∷ rest) zero = false
moves_at (Single line target ∷ rest) (suc i) = moves_at rest i
moves_at (Exchanged line lead ∷ rest) zero = true
moves_at (Exchanged line lead ∷ rest) (suc zero) = false
moves_at (Exchanged line lead ∷ rest) (suc (suc i)) = moves_at rest i

pub enters-from : (r : Recent) (at : ℕ) (bs : List Block) (i : ℕ) → at ≤ enters r at bs i
enters-from r at [] i = omega arith
enters-from r at (Single line target ∷ rest) zero = omega arith
enters-from r at (Single line target ∷ rest) (suc i) =
    omega (arith, enters-from (after r line.inst) (at + needed r line.inst + 1 + slot line.inst) rest i)
enters-from r at (Exchanged line lead ∷ rest) zero = omega arith
enters-from r at (Exchanged line lead ∷ rest) (suc zero) = omega arith
enters-from r at (Exchanged line lead ∷ rest) (suc (suc i)) = omega (arith, enters-from nothing (at + needed r lead.inst + 2) rest i)

-- No-ops before a block

-- at most so many no-ops stand before new line q
abbrev pub gap : List Line → ℕ → ℕ
gap new q = if is_at writes_pair new q then 2 else 1

needed-most : (w l b a : Bool) →
    (let n : ℕ = (if w then (if l then 2 else if b then 1 else 0) else 0) in
    (if n == 0 then (if a then 1 else 0) else n) ≤ (if w then 2 else 1))
needed-most false l b true = omega arith
needed-most false l b false = omega arith
needed-most true true b a = omega arith
needed-most true false true a = omega arith
needed-most true false false true = omega arith
needed-most true false false false = omega arith

-- an instruction with the no-ops before it
pub behind_noops : (pre : List Line) (n at q : ℕ) (line : Line) (more : List Line) → length pre ≡ at → q ≡ at + n →
    slice_get (pre ++ (replicate n noop ++ (line ∷ more))) q ≡ Some line
behind_noops pre n at q line more e h =
    get_behind pre (replicate n noop ++ (line ∷ more)) at n q e h
    ∙ get_behind (replicate n noop) (line ∷ more) n 0 n (length-replicate n noop) (omega arith)

pub noops_before : (pre : List Line) (n at q : ℕ) (more : List Line) → length pre ≡ at → at ≤ q → q < at + n →
    slice_get (pre ++ (replicate n noop ++ more)) q ≡ Some noop
noops_before pre n at q more e from to =
    get_behind pre (replicate n noop ++ more) at (q - at) q e (omega (arith, from))
    ∙ (get_left (replicate n noop) more (q - at) (omega (arith, from, to, length-replicate n noop))
    ∙ get_replicate n noop (q - at) (omega (arith, from, to)))

pub gap-noops : (f : ℕ → ℕ) (pre : List Line) (r : Recent) (at : ℕ) (bs : List Block) → length pre ≡ at →
    (q : ℕ) → at ≤ q → q < enters r at bs 0 → slice_get (pre ++ laid f r bs) q ≡ Some noop
gap-noops f pre r at [] e q from to = absurd (omega (arith, from, to))
gap-noops f pre r at (Single line target ∷ rest) e q from to =
    noops_before pre (needed r line.inst) at q (retargeted f line ∷ (replicate (slot line.inst) noop ++ laid f (after r line.inst) rest)) e from to
gap-noops f pre r at (Exchanged line lead ∷ rest) e q from to =
    noops_before pre (needed r lead.inst) at q (retargeted f lead ∷ (retargeted f line ∷ laid f nothing rest)) e from to

near-by : (new : List Line) (q n : ℕ) (line : Line) (w : Bool) → slice_get new q ≡ Some line → writes_pair line.inst ≡ w →
    n ≤ (if w then 2 else 1) → n ≤ gap new q
near-by new q n line w here e h =
    let same : is_at writes_pair new q ≡ w = ap (λ o. line_is writes_pair o) here ∙ e in
    subst (λ b. n ≤ (if b then 2 else 1)) (sym same) h

pub gap-near : (f : ℕ → ℕ) (pre : List Line) (r : Recent) (at : ℕ) (bs : List Block) → length pre ≡ at →
    enters r at bs 0 ≤ at + gap (pre ++ laid f r bs) (enters r at bs 0)
gap-near f pre r at [] e = omega arith
gap-near f pre r at (Single line target ∷ rest) e =
    let more : List Line = replicate (slot line.inst) noop ++ laid f (after r line.inst) rest in
    let near : needed r line.inst ≤ gap (pre ++ laid f r (Single line target ∷ rest)) (at + needed r line.inst) =
    near-by (pre ++ laid f r (Single line target ∷ rest)) (at + needed r line.inst) (needed r line.inst) (retargeted f line) (writes_pair line.inst)
    (behind_noops pre (needed r line.inst) at (at + needed r line.inst) (retargeted f line) more e refl) refl
    (needed-most (writes_pair line.inst) r.last r.before (awaits r line.inst)) in
    omega (arith, near)
gap-near f pre r at (Exchanged line lead ∷ rest) e =
    let more : List Line = retargeted f line ∷ laid f nothing rest in
    let near : needed r lead.inst ≤ gap (pre ++ laid f r (Exchanged line lead ∷ rest)) (at + needed r lead.inst) =
    near-by (pre ++ laid f r (Exchanged line lead ∷ rest)) (at + needed r lead.inst) (needed r lead.inst) (retargeted f lead) (writes_pair lead.inst)
    (behind_noops pre (needed r lead.inst) at (at + needed r lead.inst) (retargeted f lead) more e refl) refl
    (needed-most (writes_pair lead.inst) r.last r.before (awaits r lead.inst)) in
    omega (arith, near)

-- nothing is asked for where nothing is on its way
no-need : (w a : Bool) → a ≡ false →
    (let n : ℕ = (if w then (if false then 2 else if false then 1 else 0) else 0) in
    let m : ℕ = (if n == 0 then (if a then 1 else 0) else n) in m ≡ 0)
no-need true false e = refl
no-need false false e = refl
no-need w true e = absurd (let z : true ≡ false = e in cc)

pub enters-idle : (at : ℕ) (bs : List Block) → enters nothing at bs 0 ≡ at
enters-idle at [] = refl
enters-idle at (Single line target ∷ rest) = omega (arith, no-need (writes_pair line.inst) (awaits nothing line.inst) refl)
enters-idle at (Exchanged line lead ∷ rest) = omega (arith, no-need (writes_pair lead.inst) (awaits nothing lead.inst) refl)

-- What stands where a line is entered

pub record SingleAt (f e : ℕ → ℕ) (begins : ℕ → Bool) (new : List Line) (i : ℕ) (line : Line) : Type 0 where
  pub next_begins : begins (suc i) ≡ true
  pub here : slice_get new (e i) ≡ Some (retargeted f line)
  pub room : e i + 1 + slot line.inst ≤ e (suc i)
  pub noops : (q : ℕ) → e i < q → q < e (suc i) → slice_get new q ≡ Some noop
  pub near : e (suc i) ≤ e i + 1 + slot line.inst + gap new (e (suc i))
  pub call : links line.inst ≡ true → e (suc i) ≡ e i + 2

pub record PairAt (f e : ℕ → ℕ) (begins : ℕ → Bool) (old new : List Line) (i : ℕ) (line : Line) : Type 0 where
  pub lead : Line
  pub next : slice_get old (suc i) ≡ Some lead
  pub may : may_move line.inst lead.inst ≡ true
  pub same : e (suc i) ≡ e i
  pub next_begins : begins (suc (suc i)) ≡ true
  pub first : slice_get new (e i) ≡ Some (retargeted f lead)
  pub second : slice_get new (e i + 1) ≡ Some (retargeted f line)
  pub room : e i + 2 ≤ e (suc (suc i))
  pub noops : (q : ℕ) → e i + 1 < q → q < e (suc (suc i)) → slice_get new q ≡ Some noop
  pub near : e (suc (suc i)) ≤ e i + 2 + gap new (e (suc (suc i)))
  pub call : links lead.inst ≡ true → e (suc (suc i)) ≡ e i + 2

pub record BlockAt (f e : ℕ → ℕ) (begins moved : ℕ → Bool) (old new : List Line) (i : ℕ) (line : Line) : Type 0 where
  pub single : moved i ≡ false → SingleAt f e begins new i line
  pub pair : moved i ≡ true → PairAt f e begins old new i line

-- The first block

-- a line with its no-ops, and two that have changed places
abbrev pub single_lines : (ℕ → ℕ) → Recent → Line → List Line
single_lines f r line = replicate (needed r line.inst) noop ++ (retargeted f line ∷ replicate (slot line.inst) noop)

abbrev pub pair_lines : (ℕ → ℕ) → Recent → Line → Line → List Line
pair_lines f r line lead = replicate (needed r lead.inst) noop ++ (retargeted f lead ∷ (retargeted f line ∷ []))

pub single_length : (f : ℕ → ℕ) (r : Recent) (line : Line) → length (single_lines f r line) ≡ needed r line.inst + 1 + slot line.inst
single_length f r line =
    omega (
      arith,
      length-append (replicate (needed r line.inst) noop) (retargeted f line ∷ replicate (slot line.inst) noop),
      length-replicate (needed r line.inst) noop,
      length-replicate (slot line.inst) noop,
    )

pub pair_length : (f : ℕ → ℕ) (r : Recent) (line lead : Line) → length (pair_lines f r line lead) ≡ needed r lead.inst + 2
pair_length f r line lead =
    omega (
      arith,
      length-append (replicate (needed r lead.inst) noop) (retargeted f lead ∷ (retargeted f line ∷ [])),
      length-replicate (needed r lead.inst) noop,
    )

pub single_before : (f : ℕ → ℕ) (pre : List Line) (r : Recent) (line : Line) (target : Bool) (rest : List Block) →
    pre ++ laid f r (Single line target ∷ rest) ≡ (pre ++ single_lines f r line) ++ laid f (after r line.inst) rest
single_before f pre r line target rest =
    ap (λ l. pre ++ l) (sym (append_assoc (replicate (needed r line.inst) noop) (retargeted f line ∷ replicate (slot line.inst) noop) (laid f (after r line.inst) rest)))
    ∙ sym (append_assoc pre (single_lines f r line) (laid f (after r line.inst) rest))

pub pair_before : (f : ℕ → ℕ) (pre : List Line) (r : Recent) (line lead : Line) (rest : List Block) →
    pre ++ laid f r (Exchanged line lead ∷ rest) ≡ (pre ++ pair_lines f r line lead) ++ laid f nothing rest
pair_before f pre r line lead rest =
    ap (λ l. pre ++ l) (sym (append_assoc (replicate (needed r lead.inst) noop) (retargeted f lead ∷ (retargeted f line ∷ [])) (laid f nothing rest)))
    ∙ sym (append_assoc pre (pair_lines f r line lead) (laid f nothing rest))

pub single_next : (f : ℕ → ℕ) (pre : List Line) (r : Recent) (at : ℕ) (line : Line) → length pre ≡ at →
    length (pre ++ single_lines f r line) ≡ at + needed r line.inst + 1 + slot line.inst
single_next f pre r at line e = omega (arith, length-append pre (single_lines f r line), single_length f r line, e)

pub pair_next : (f : ℕ → ℕ) (pre : List Line) (r : Recent) (at : ℕ) (line lead : Line) → length pre ≡ at →
    length (pre ++ pair_lines f r line lead) ≡ at + needed r lead.inst + 2
pair_next f pre r at line lead e = omega (arith, length-append pre (pair_lines f r line lead), pair_length f r line lead, e)

-- the no-op in a slot
pub in_slot : (f : ℕ → ℕ) (pre : List Line) (r : Recent) (at : ℕ) (line : Line) (target : Bool) (rest : List Block) (q : ℕ) → length pre ≡ at →
    at + needed r line.inst < q → q < at + needed r line.inst + 1 + slot line.inst →
    slice_get (pre ++ laid f r (Single line target ∷ rest)) q ≡ Some noop
in_slot f pre r at line target rest q e from to =
    let n : ℕ = needed r line.inst in
    let k : ℕ = q - (at + n + 1) in
    get_behind pre (laid f r (Single line target ∷ rest)) at (n + 1 + k) q e (omega (arith, from))
    ∙ (get_behind (replicate n noop) (retargeted f line ∷ (replicate (slot line.inst) noop ++ laid f (after r line.inst) rest))
    n (suc k) (n + 1 + k) (length-replicate n noop) (omega arith)
    ∙ (get_left (replicate (slot line.inst) noop) (laid f (after r line.inst) rest) k (omega (arith, from, to, length-replicate (slot line.inst) noop))
    ∙ get_replicate (slot line.inst) noop k (omega (arith, from, to))))

pub after-branch : (r : Recent) (i : Inst) → branches i ≡ true → after r i ≡ nothing
after-branch r i h =
    ap (λ (b : Bool). if b then nothing else record { last = reads_pair i; before = r.last && (needed r i == 0); loaded = if loads i then written i else 0 }) h

pub call-next : (r : Recent) (line : Line) (at : ℕ) (rest : List Block) → links line.inst ≡ true →
    enters (after r line.inst) (at + 1 + slot line.inst) rest 0 ≡ at + 2
call-next r line at rest h =
    let b : branches line.inst ≡ true = calls_branch line.inst h in
    let one : slot line.inst ≡ 1 = ap (λ x. if x then 1 else 0) b in
    let idle : after r line.inst ≡ nothing = after-branch r line.inst b in
    ap (λ (q : Recent). enters q (at + 1 + slot line.inst) rest 0) idle ∙ (enters-idle (at + 1 + slot line.inst) rest ∙ omega (arith, one))

single-first : (f : ℕ → ℕ) (pre : List Line) (r : Recent) (at : ℕ) (line : Line) (target : Bool) (rest : List Block) → length pre ≡ at →
    (let bs : List Block = Single line target ∷ rest in
    SingleAt f (enters r at bs) (starts bs) (pre ++ laid f r bs) 0 line)
single-first f pre r at line target rest e =
    let n : ℕ = needed r line.inst in
    let next : ℕ = at + n + 1 + slot line.inst in
    let pre2 : List Line = pre ++ single_lines f r line in
    let e2 : length pre2 ≡ next = single_next f pre r at line e in
    let same : pre ++ laid f r (Single line target ∷ rest) ≡ pre2 ++ laid f (after r line.inst) rest = single_before f pre r line target rest in
    record {
      next_begins = first-starts rest;
      here = behind_noops pre n at (at + n) (retargeted f line) (replicate (slot line.inst) noop ++ laid f (after r line.inst) rest) e refl;
      room = enters-from (after r line.inst) next rest 0;
      noops = λ q from to. by_place q (nat_lt q next) refl from to e2 same;
      near = subst (λ l. enters (after r line.inst) next rest 0 ≤ next + gap l (enters (after r line.inst) next rest 0)) (sym same)
          (gap-near f pre2 (after r line.inst) next rest e2);
      call = λ h. call-next r line (at + n) rest h;
    }
  where
    first-starts : (bs : List Block) → starts bs 0 ≡ true
    first-starts [] = refl
    first-starts (Single l t ∷ bs) = refl
    first-starts (Exchanged l b ∷ bs) = refl

    by_place : (q : ℕ) (b : Bool) → nat_lt q (at + needed r line.inst + 1 + slot line.inst) ≡ b → at + needed r line.inst < q →
        q < enters (after r line.inst) (at + needed r line.inst + 1 + slot line.inst) rest 0 →
        length (pre ++ single_lines f r line) ≡ at + needed r line.inst + 1 + slot line.inst →
        pre ++ laid f r (Single line target ∷ rest) ≡ (pre ++ single_lines f r line) ++ laid f (after r line.inst) rest →
        slice_get (pre ++ laid f r (Single line target ∷ rest)) q ≡ Some noop
    by_place q true t from to e2 same = in_slot f pre r at line target rest q e from (grind (arith, nat_tests))
    by_place q false t from to e2 same =
        ap (λ l. slice_get l q) same
        ∙ gap-noops f (pre ++ single_lines f r line) (after r line.inst) (at + needed r line.inst + 1 + slot line.inst) rest e2 q (grind (arith, nat_tests)) to

pair-first : (f : ℕ → ℕ) (pre : List Line) (r : Recent) (at : ℕ) (line lead : Line) (rest : List Block) → length pre ≡ at →
    may_move line.inst lead.inst ≡ true →
    (let bs : List Block = Exchanged line lead ∷ rest in
    PairAt f (enters r at bs) (starts bs) (lines_of bs) (pre ++ laid f r bs) 0 line)
pair-first f pre r at line lead rest e may =
    let n : ℕ = needed r lead.inst in
    let next : ℕ = at + n + 2 in
    let pre2 : List Line = pre ++ pair_lines f r line lead in
    let e2 : length pre2 ≡ next = pair_next f pre r at line lead e in
    let same : pre ++ laid f r (Exchanged line lead ∷ rest) ≡ pre2 ++ laid f nothing rest = pair_before f pre r line lead rest in
    record {
      lead = lead;
      next = refl;
      may = may;
      same = refl;
      next_begins = first-starts rest;
      first = behind_noops pre n at (at + n) (retargeted f lead) (retargeted f line ∷ laid f nothing rest) e refl;
      second =
          get_behind pre (laid f r (Exchanged line lead ∷ rest)) at (n + 1) (at + n + 1) e (omega arith)
          ∙ get_behind (replicate n noop) (retargeted f lead ∷ (retargeted f line ∷ laid f nothing rest)) n 1 (n + 1) (length-replicate n noop) (omega arith);
      room = enters-from nothing next rest 0;
      noops = λ q from to.
          ap (λ l. slice_get l q) same ∙ gap-noops f pre2 nothing next rest e2 q (omega (arith, from)) to;
      near = subst (λ l. enters nothing next rest 0 ≤ next + gap l (enters nothing next rest 0)) (sym same)
          (gap-near f pre2 nothing next rest e2);
      call = λ h. enters-idle next rest;
    }
  where
    first-starts : (bs : List Block) → starts bs 0 ≡ true
    first-starts [] = refl
    first-starts (Single l t ∷ bs) = refl
    first-starts (Exchanged l b ∷ bs) = refl

-- All blocks

pub block-at : (f : ℕ → ℕ) (pre : List Line) (r : Recent) (at : ℕ) (bs : List Block) → length pre ≡ at → AllMove bs →
    (i : ℕ) (line : Line) → starts bs i ≡ true → slice_get (lines_of bs) i ≡ Some line →
    BlockAt f (enters r at bs) (starts bs) (moves_at bs) (lines_of bs) (pre ++ laid f r bs) i line
block-at f pre r at [] e all i line s h = cc
block-at f pre r at (Single first target ∷ rest) e all zero line s h =
    let same : first ≡ line = cc in
    subst (λ (l : Line). BlockAt f (enters r at (Single first target ∷ rest)) (starts (Single first target ∷ rest)) (moves_at (Single first target ∷ rest)) (lines_of (Single first target ∷ rest)) (pre ++ laid f r (Single first target ∷ rest)) 0 l) same
    (record { single = λ m. single-first f pre r at first target rest e; pair = λ m. absurd (let z : false ≡ true = m in cc) })
block-at f pre r at (Single first target ∷ rest) e all (suc i) line s h =
    let later : BlockAt f (enters (after r first.inst) (at + needed r first.inst + 1 + slot first.inst) rest) (starts rest) (moves_at rest) (lines_of rest)
    ((pre ++ single_lines f r first) ++ laid f (after r first.inst) rest) i line =
    block-at f (pre ++ single_lines f r first) (after r first.inst) (at + needed r first.inst + 1 + slot first.inst) rest
    (single_next f pre r at first e) all i line s h in
    subst (λ l. BlockAt f (enters r at (Single first target ∷ rest)) (starts (Single first target ∷ rest)) (moves_at (Single first target ∷ rest)) (lines_of (Single first target ∷ rest)) l (suc i) line)
    (sym (single_before f pre r first target rest))
    (record {
      single = λ m. (let x : SingleAt f (enters (after r first.inst) (at + needed r first.inst + 1 + slot first.inst) rest) (starts rest) ((pre ++ single_lines f r first) ++ laid f (after r first.inst) rest) i line = later.single m in
          record { next_begins = x.next_begins; here = x.here; room = x.room; noops = x.noops; near = x.near; call = x.call });
      pair = λ m. (let x : PairAt f (enters (after r first.inst) (at + needed r first.inst + 1 + slot first.inst) rest) (starts rest) (lines_of rest) ((pre ++ single_lines f r first) ++ laid f (after r first.inst) rest) i line = later.pair m in
          record { lead = x.lead; next = x.next; may = x.may; same = x.same; next_begins = x.next_begins; first = x.first; second = x.second; room = x.room; noops = x.noops; near = x.near; call = x.call });
    })
block-at f pre r at (Exchanged first lead ∷ rest) e all zero line s h =
    let same : first ≡ line = cc in
    subst (λ (l : Line). BlockAt f (enters r at (Exchanged first lead ∷ rest)) (starts (Exchanged first lead ∷ rest)) (moves_at (Exchanged first lead ∷ rest)) (lines_of (Exchanged first lead ∷ rest)) (pre ++ laid f r (Exchanged first lead ∷ rest)) 0 l) same
    (record { single = λ m. absurd (let z : true ≡ false = m in cc); pair = λ m. pair-first f pre r at first lead rest e all.0 })
block-at f pre r at (Exchanged first lead ∷ rest) e all (suc zero) line s h = absurd (let z : false ≡ true = s in cc)
block-at f pre r at (Exchanged first lead ∷ rest) e all (suc (suc i)) line s h =
    let later : BlockAt f (enters nothing (at + needed r lead.inst + 2) rest) (starts rest) (moves_at rest) (lines_of rest)
    ((pre ++ pair_lines f r first lead) ++ laid f nothing rest) i line =
    block-at f (pre ++ pair_lines f r first lead) nothing (at + needed r lead.inst + 2) rest (pair_next f pre r at first lead e) all.1 i line s h in
    subst (λ l. BlockAt f (enters r at (Exchanged first lead ∷ rest)) (starts (Exchanged first lead ∷ rest)) (moves_at (Exchanged first lead ∷ rest)) (lines_of (Exchanged first lead ∷ rest)) l (suc (suc i)) line)
    (sym (pair_before f pre r first lead rest))
    (record {
      single = λ m. (let x : SingleAt f (enters nothing (at + needed r lead.inst + 2) rest) (starts rest) ((pre ++ pair_lines f r first lead) ++ laid f nothing rest) i line = later.single m in
          record { next_begins = x.next_begins; here = x.here; room = x.room; noops = x.noops; near = x.near; call = x.call });
      pair = λ m. (let x : PairAt f (enters nothing (at + needed r lead.inst + 2) rest) (starts rest) (lines_of rest) ((pre ++ pair_lines f r first lead) ++ laid f nothing rest) i line = later.pair m in
          record { lead = x.lead; next = x.next; may = x.may; same = x.same; next_begins = x.next_begins; first = x.first; second = x.second; room = x.room; noops = x.noops; near = x.near; call = x.call });
    })
