-- What ties a run of the modules to the straight machine: where that stands, and that each active call goes back to its caller.
use Rattle.std.proofs.Common.{ℕ, ◌+◌, ◌%◌, ◌||◌, ◌≡◌, ◌≤◌, ◌<◌, Bool, true, false, Option, Some, None, List, [], ◌∷◌, length, refl, sym, ◌∙◌, subst, if◌then◌else◌, arith}
use Rattle.std.specs.Prelude.{slice_get}
use Rattle.std.proofs.lemmas.Option.{none-some}
use Rattle.std.proofs.lemmas.Bool.Decides.{nat_tests}
use Rattle.p9_base.specs.declared.halt.Ending.TheVariants.{Running}
use Rattle.p9_base.specs.Core.{Core, stack_start, stack_end, reg, read_byte, read_word}
use Rattle.p9_base.specs.Holding.{LaidOut}
use Rattle.p9_abs.specs.declared.instructions.TextDef.{TextDef}
use Rattle.p9_abs.specs.declared.modules.AModule.{AModule}
use Rattle.p9_abs.specs.Steps.{without_text}
use Rattle.p9_abs.specs.Runs.{Routine, keeps, taken_by, Active, Run, in_word, kept_by, is_kept}
use Rattle.p9_abs.specs.Programs.{Placing, routines_of}
use Rattle.p9_r3k.specs.Straight.{Straight, line_at, straight_run}
use Rattle.p9_forms.specs.Standing.{Rest, stands}
use Rattle.p9_expand.specs.Program.{program_lines}
use Rattle.p9_refine.specs.Maps.{instruction_line, addresses_by}
use Rattle.p9_refine.proofs.Words.{word-same}
use Rattle.p9_refine.proofs.Plain.{HasRegisters}

-- so many lines of a straight run
abbrev pub run_by : List AModule → (line : ℕ → ℕ) → (placing : Placing) → (count : ℕ) → Straight → Straight
run_by modules line placing count from = straight_run (addresses_by modules line placing) (program_lines modules) count from

-- Active calls

-- where a function with this R29 keeps its return address
abbrev pub kept_for : TextDef → ℕ → Option ℕ
kept_for def sp = if keeps def then Some sp else None

-- an active call of function f, with this R29
pub record Frame (modules : List AModule) (sp f : ℕ) (kept : Option ℕ) : Type 0 where
  pub routine : Routine
  pub found : slice_get (routines_of modules) f ≡ Some routine
  pub kept_is : kept ≡ kept_for routine.def sp
  pub aligned : sp % 4 ≡ 0
  pub above : stack_start ≤ sp
  pub below : sp + taken_by routine.def ≤ stack_end

-- the return address, in R31 or in a word of the stack
abbrev pub GoesBack : ℕ → (ℕ → ℕ) → Option ℕ → ℕ → Type 0
GoesBack link word None to = link ≡ to
GoesBack link word (Some k) to = word k ≡ to

-- a line is the least at its address
abbrev pub IsLeast : List AModule → (ℕ → ℕ) → ℕ → Type 0
IsLeast modules line n = line_at line (line n) 0 (length (program_lines modules)) ≡ Some n

-- a function has this instruction
abbrev pub IsInside : List AModule → (f k : ℕ) → Type 0
IsInside modules f k = (q : Routine) → slice_get (routines_of modules) f ≡ Some q → k < length q.def.code

-- each active call goes back to its caller, which keeps its own return address above
abbrev pub Stacked : List AModule → (line : ℕ → ℕ) → (link : ℕ) → (word : ℕ → ℕ) → (sp f : ℕ) → Option ℕ → List Active → Type 0
Stacked modules line link word sp f kept [] = Frame modules sp f kept
Stacked modules line link word sp f kept (b ∷ bs) =
    (s : Frame modules sp f kept)
    × GoesBack link word kept (line (instruction_line modules b.routine b.after))
    × IsLeast modules line (instruction_line modules b.routine b.after)
    × IsInside modules b.routine b.after
    × (b.kept ≡ Some (sp + taken_by s.routine.def))
    × Stacked modules line link word (sp + taken_by s.routine.def) b.routine b.kept bs

abbrev pub StackedIn : List AModule → (ℕ → ℕ) → Core → (f : ℕ) → Option ℕ → List Active → Type 0
StackedIn modules line c f kept callers = Stacked modules line (reg c 31) (λ k. read_word c k) (reg c 29) f kept callers

pub record Matches (modules : List AModule) (line : ℕ → ℕ) (r : Run) (y : Straight) : Type 0 where
  pub temporary : ℕ
  pub rest : Rest
  pub same : y ≡ stands temporary rest r.mach.state (instruction_line modules r.routine r.mach.at)
  pub running : r.mach.state.core.ending ≡ Running
  pub registers : HasRegisters r.mach.state.core
  pub laid : LaidOut (without_text r.mach).state.core
  pub stack : StackedIn modules line r.mach.state.core r.routine r.kept r.callers

-- Words that are kept stay

abbrev pub KeptSame : (before now : ℕ → ℕ) → Option ℕ → Type 0
KeptSame before now None = Unit {0}
KeptSame before now (Some k) = now k ≡ before k

abbrev pub AllKeptSame : (before now : ℕ → ℕ) → List Active → Type 0
AllKeptSame before now [] = Unit {0}
AllKeptSame before now (b ∷ bs) = KeptSame before now b.kept × AllKeptSame before now bs

pub all-same : (word : ℕ → ℕ) (bs : List Active) → AllKeptSame word word bs
all-same word [] = tt
all-same word (b ∷ bs) = (one-same b.kept, all-same word bs)
  where
    one-same : (kept : Option ℕ) → KeptSame word word kept
    one-same None = tt
    one-same (Some k) = refl

goes-back-same : (link new : ℕ) (before now : ℕ → ℕ) (kept : Option ℕ) (to : ℕ) → KeptSame before now kept → (kept ≡ None → new ≡ link) →
    GoesBack link before kept to → GoesBack new now kept to
goes-back-same link new before now None to h one g = one refl ∙ g
goes-back-same link new before now (Some k) to h one g = h ∙ g

-- a caller keeps its return address in memory, so R31 decides for the last call alone
pub stacked-same : (modules : List AModule) (line : ℕ → ℕ) (link new : ℕ) (before now : ℕ → ℕ) (sp f : ℕ) (kept : Option ℕ) (bs : List Active) →
    KeptSame before now kept → AllKeptSame before now bs → (kept ≡ None → new ≡ link) →
    Stacked modules line link before sp f kept bs → Stacked modules line new now sp f kept bs
stacked-same modules line link new before now sp f kept [] h hs one s = s
stacked-same modules line link new before now sp f kept (b ∷ bs) h hs one s = (
  s.0,
  goes-back-same link new before now kept (line (instruction_line modules b.routine b.after)) h one s.1,
  s.2,
  s.3,
  s.4,
  stacked-same modules line link new before now (sp + taken_by s.0.routine.def) b.routine b.kept bs hs.0 hs.1
      (λ e. absurd (none-some (sp + taken_by s.0.routine.def) (sym e ∙ s.4))) s.5,
)

-- Where words are kept: in the stack, at or above R29

abbrev pub IsHigh : ℕ → Option ℕ → Type 0
IsHigh sp None = Unit {0}
IsHigh sp (Some k) = (sp ≤ k) × (k + 4 ≤ stack_end)

abbrev pub AreHigh : ℕ → List Active → Type 0
AreHigh sp [] = Unit {0}
AreHigh sp (b ∷ bs) = IsHigh sp b.kept × AreHigh sp bs

high-lower : (sp more : ℕ) (kept : Option ℕ) → IsHigh (sp + more) kept → IsHigh sp kept
high-lower sp more None h = tt
high-lower sp more (Some k) h = (omega (arith, h.0), h.1)

all-high-lower : (sp more : ℕ) (bs : List Active) → AreHigh (sp + more) bs → AreHigh sp bs
all-high-lower sp more [] h = tt
all-high-lower sp more (b ∷ bs) h = (high-lower sp more b.kept h.0, all-high-lower sp more bs h.1)

frame-high : (modules : List AModule) (sp f : ℕ) (kept : Option ℕ) → Frame modules sp f kept → IsHigh sp kept
frame-high modules sp f kept s = subst (IsHigh sp) (sym s.kept_is) (by (keeps s.routine.def) s.below)
  where
    by : (b : Bool) → sp + (if b then s.routine.def.frame + 4 else 0) ≤ stack_end → IsHigh sp (if b then Some sp else None)
    by true h = (omega arith, omega (arith, h))
    by false h = tt

pub frame-of : (modules : List AModule) (line : ℕ → ℕ) (link : ℕ) (word : ℕ → ℕ) (sp f : ℕ) (kept : Option ℕ) (bs : List Active) →
    Stacked modules line link word sp f kept bs → Frame modules sp f kept
frame-of modules line link word sp f kept [] s = s
frame-of modules line link word sp f kept (b ∷ bs) s = s.0

pub stacked-high : (modules : List AModule) (line : ℕ → ℕ) (link : ℕ) (word : ℕ → ℕ) (sp f : ℕ) (kept : Option ℕ) (bs : List Active) →
    Stacked modules line link word sp f kept bs → IsHigh sp kept × AreHigh sp bs
stacked-high modules line link word sp f kept [] s = (frame-high modules sp f kept s, tt)
stacked-high modules line link word sp f kept (b ∷ bs) s =
    let above = stacked-high modules line link word (sp + taken_by s.0.routine.def) b.routine b.kept bs s.5 in
    (frame-high modules sp f kept s.0, (high-lower sp (taken_by s.0.routine.def) b.kept above.0, all-high-lower sp (taken_by s.0.routine.def) bs above.1))

-- Words whose bytes may not be touched

in-word : (b k : ℕ) → k ≤ b → b < k + 4 → in_word b (Some k) ≡ true
in-word b k from to = grind (arith, nat_tests)

-- bytes that a test bans are the same
abbrev BannedSame : Core → Core → (ℕ → Bool) → Type 0
BannedSame c d banned = (b : ℕ) → stack_start ≤ b → banned b ≡ true → read_byte d b ≡ read_byte c b

kept-same-by : (c d : Core) (sp : ℕ) (banned : ℕ → Bool) (kept : Option ℕ) → d.order ≡ c.order → stack_start ≤ sp → IsHigh sp kept →
    ((b : ℕ) → in_word b kept ≡ true → banned b ≡ true) → BannedSame c d banned → KeptSame (λ k. read_word c k) (λ k. read_word d k) kept
kept-same-by c d sp banned None order above high bans same = tt
kept-same-by c d sp banned (Some k) order above high bans same =
    word-same c d k order (omega (arith, above, high.0)) (λ b from to. same b (omega (arith, above, high.0, from)) (bans b (in-word b k from to)))

or-left : (x y : Bool) → x ≡ true → (x || y) ≡ true
or-left true y h = refl
or-left false y h = absurd (cc h)

or-right : (x y : Bool) → y ≡ true → (x || y) ≡ true
or-right true y h = refl
or-right false y h = h

all-kept-same-by : (c d : Core) (sp : ℕ) (banned : ℕ → Bool) (bs : List Active) → d.order ≡ c.order → stack_start ≤ sp → AreHigh sp bs →
    ((b : ℕ) → kept_by bs b ≡ true → banned b ≡ true) → BannedSame c d banned → AllKeptSame (λ k. read_word c k) (λ k. read_word d k) bs
all-kept-same-by c d sp banned [] order above high bans same = tt
all-kept-same-by c d sp banned (x ∷ xs) order above high bans same = (
  kept-same-by c d sp banned x.kept order above high.0 (λ b h. bans b (or-left (in_word b x.kept) (kept_by xs b) h)) same,
  all-kept-same-by c d sp banned xs order above high.1 (λ b h. bans b (or-right (in_word b x.kept) (kept_by xs b) h)) same,
)

-- a state with the same R29, R31 and banned bytes
pub stacked-banned : (modules : List AModule) (line : ℕ → ℕ) (r : Run) (c d : Core) → d.order ≡ c.order → reg d 29 ≡ reg c 29 → reg d 31 ≡ reg c 31 →
    ((b : ℕ) → stack_start ≤ b → is_kept r b ≡ true → read_byte d b ≡ read_byte c b) → StackedIn modules line c r.routine r.kept r.callers → StackedIn modules line d r.routine r.kept r.callers
stacked-banned modules line r c d order pointer link same s =
    let frame = frame-of modules line (reg c 31) (λ k. read_word c k) (reg c 29) r.routine r.kept r.callers s in
    let high = stacked-high modules line (reg c 31) (λ k. read_word c k) (reg c 29) r.routine r.kept r.callers s in
    subst (λ sp. Stacked modules line (reg d 31) (λ k. read_word d k) sp r.routine r.kept r.callers) (sym pointer)
    (stacked-same modules line (reg c 31) (reg d 31) (λ k. read_word c k) (λ k. read_word d k) (reg c 29) r.routine r.kept r.callers
    (kept-same-by c d (reg c 29) (is_kept r) r.kept order frame.above high.0 (λ b h. or-left (in_word b r.kept) (kept_by r.callers b) h) same)
    (all-kept-same-by c d (reg c 29) (is_kept r) r.callers order frame.above high.1 (λ b h. or-right (in_word b r.kept) (kept_by r.callers b) h) same)
    (λ e. link) s)
