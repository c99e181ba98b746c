-- How a piece of a file breaks a rule: the refusal, and the byte that breaks the rule, counted from
-- the piece's first. Where the file's end breaks it, that is the place behind the last byte.
use Rattle.std.specs.Prelude.{ℕ, ◌≡◌, ◌≤◌, Result, Ok, Err}
use Rattle.p9_lex.specs.declared.broken.Reason.TheVariants.{BadByte, OpenComment, OpenText, WideNumber}
use Rattle.p9_lex.specs.declared.broken.Break.{Break}
use Rattle.p9_lex.specs.declared.broken.PieceFault.{PieceFault}
use Rattle.p9_lex.specs.declared.broken.PieceFault.TheVariants as piece_fault

abbrev pub bad_byte : ℕ → Break
bad_byte k = record { reason = BadByte; by = k }

abbrev pub open_comment : ℕ → Break
open_comment k = record { reason = OpenComment; by = k }

abbrev pub open_text : ℕ → Break
open_text k = record { reason = OpenText; by = k }

abbrev pub wide_number : ℕ → Break
wide_number k = record { reason = WideNumber; by = k }

-- the fault tells how the rule is broken; of want of memory nothing is said
abbrev pub IsBreak : {A : Type 0} → PieceFault → Result A Break → Type 0
IsBreak (piece_fault.Break b) answer = answer ≡ Err b
IsBreak piece_fault.Memory answer = Unit {0}

-- what is read ends between two places, and a rule is broken no later than the second
abbrev pub IsInside : {A : Type 0} → (least most : ℕ) → (A → ℕ) → Result A Break → Type 0
IsInside least most length (Ok x) = (least ≤ length x) × (length x ≤ most)
IsInside least most length (Err e) = e.by ≤ most

-- the same, and of want of memory nothing is said
abbrev pub IsFaultInside : (most : ℕ) → PieceFault → Type 0
IsFaultInside most (piece_fault.Break e) = e.by ≤ most
IsFaultInside most piece_fault.Memory = Unit {0}

abbrev pub IsRead : {A : Type 0} → (least most : ℕ) → (A → ℕ) → Result A PieceFault → Type 0
IsRead least most length (Ok x) = (least ≤ length x) × (length x ≤ most)
IsRead least most length (Err e) = IsFaultInside most e
