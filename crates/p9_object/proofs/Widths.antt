-- Fields and their bytes, both ways; each place takes a field of its width alone.
use Rattle.std.proofs.Common.{◌≡◌, ℕ, zero, suc, ◌+◌, ◌-◌, ◌*◌, ◌/◌, ◌%◌, ◌^◌, ◌<◌, ◌≤◌, Bool, true, false, ◌&&◌, not, List, [], ◌∷◌, ◌++◌, length, Option, Some, None, Result, Ok, Err, All, refl, sym, ap, ◌∙◌, arith}
use Rattle.std.specs.Prelude.{bytes_eq, nat_lt, nat_le, if◌then◌else◌, ◌==◌}
use Rattle.std.specs.List.{list_any, list_all}
use Rattle.std.proofs.lemmas.Bool.{eqb-true, and_parts, true≢false}
use Rattle.std.proofs.lemmas.List.Elements.{All-head, All-tail}
use Rattle.p9_abs.specs.declared.instructions.Op.{Op}
use Rattle.p9_abs.specs.declared.instructions.Operand.{Operand}
use Rattle.p9_abs.specs.declared.instructions.Abs.{Abs}
use Rattle.p9_abs.specs.declared.modules.DataPiece.{DataPiece}
use Rattle.p9_abs.specs.declared.modules.DataPiece.TheVariants.{Raw}
use Rattle.p9_abs.specs.declared.modules.Symbol.{Symbol}
use Rattle.p9_object.specs.Fields.{Field, Byte, Half, Word, Chars, field_bytes, magic, version}
use Rattle.p9_object.specs.Laws.{IsByte, size_of}
use Rattle.p9_object.specs.Machine.{Turn, Bad, Stay, Whole, stay_if, whole_if, OperandPlace, AtTag, AtRegister, AtConstant, AtAddressSymbol, AtAddressOffset, AtArgumentAddress, AtFrameAddress, AtSymbol, AtOffset, AtArgument, AtFrameOffset, AtBase, AtBaseOffset, AtLabel, AtFunction, Around, operand_step, InstructionPlace, AtOperation, InOperand, around, behind_operand, instruction_step, PiecePlace, AtPiece, AtRawLength, AtRaw, AtPieceSymbol, AtPieceOffset, piece_step, Kind, Head, SymbolPlace, AtBinding, AtKind, AtNameLength, AtName, AtSignatureLength, AtSignature, AtFrame, AtTotal, InCode, AtPieces, InPieces, AtSize, is_graphic, is_of_signature, is_named, with_signature, behind_instruction, behind_piece, symbol_step, State, AtMagic, AtVersion, AtCount, InSymbols, Done, Break, behind_symbol, ok_if, step}
use Rattle.p9_object.specs.Bytes.{Width, OneByte, TwoBytes, FourBytes, Run, width_bytes, number_of, field_of, operand_width, instruction_width, piece_width, symbol_width, width_at}
use Rattle.p9_object.proofs.Operands.{nothing, FieldFits}
use Rattle.p9_object.proofs.Pieces.{PieceWell}
use Rattle.p9_object.proofs.Symbols.{SymbolWell}
use Rattle.p9_object.proofs.Objects.{Well, same_bytes}

-- Bytes

abbrev pub HasWidth : Width → Field → Type 0
HasWidth OneByte (Byte n) = Unit {0}
HasWidth TwoBytes (Half n) = Unit {0}
HasWidth FourBytes (Word n) = Unit {0}
HasWidth (Run n) (Chars bytes) = length bytes ≡ n
HasWidth _ _ = ⊥

pub width_size : (w : Width) (f : Field) → HasWidth w f → size_of f ≡ width_bytes w
width_size OneByte (Byte n) h = refl
width_size TwoBytes (Half n) h = refl
width_size FourBytes (Word n) h = refl
width_size (Run n) (Chars bytes) h = h
width_size _ _ h = absurd h

pub field_has_width : (w : Width) (bytes : List ℕ) → length bytes ≡ width_bytes w → HasWidth w (field_of w bytes)
field_has_width OneByte bytes e = tt
field_has_width TwoBytes bytes e = tt
field_has_width FourBytes bytes e = tt
field_has_width (Run n) bytes e = e

two_bytes : (a b c d : ℕ) → a ≡ c → b ≡ d → a ∷ b ∷ [] ≡ c ∷ d ∷ []
two_bytes a b c d e f = ap (λ (x : ℕ). x ∷ b ∷ []) e ∙ ap (λ (x : ℕ). c ∷ x ∷ []) f

four_bytes : (a b c d e f g h : ℕ) → a ≡ e → b ≡ f → c ≡ g → d ≡ h → a ∷ b ∷ c ∷ d ∷ [] ≡ e ∷ f ∷ g ∷ h ∷ []
four_bytes a b c d e f g h p q r s = ap (λ (x : ℕ). x ∷ b ∷ c ∷ d ∷ []) p ∙ ap (λ (x : List ℕ). e ∷ x) (ap (λ (x : ℕ). x ∷ c ∷ d ∷ []) q ∙ ap (λ (x : List ℕ). f ∷ x) (two_bytes c d g h r s))

-- what is read from bytes has those bytes, and fits
pub bytes_again : (w : Width) (bytes : List ℕ) → length bytes ≡ width_bytes w → All IsByte bytes → field_bytes (field_of w bytes) ≡ bytes
bytes_again OneByte (a ∷ []) e h = ap (λ (x : ℕ). x ∷ []) (omega arith)
bytes_again TwoBytes (a ∷ b ∷ []) e h =
    let p = All-head IsByte a (b ∷ []) h in
    let q = All-head IsByte b [] (All-tail IsByte a (b ∷ []) h) in
    two_bytes _ _ a b (omega (arith, p, q)) (omega (arith, p, q))
bytes_again FourBytes (a ∷ b ∷ c ∷ d ∷ []) e h =
    let t = All-tail IsByte a (b ∷ c ∷ d ∷ []) h in
    let u = All-tail IsByte b (c ∷ d ∷ []) t in
    let p = All-head IsByte a (b ∷ c ∷ d ∷ []) h in
    let q = All-head IsByte b (c ∷ d ∷ []) t in
    let r = All-head IsByte c (d ∷ []) u in
    let s = All-head IsByte d [] (All-tail IsByte c (d ∷ []) u) in
    four_bytes _ _ _ _ a b c d (omega (arith, p, q, r, s)) (omega (arith, p, q, r, s)) (omega (arith, p, q, r, s)) (omega (arith, p, q, r, s))
bytes_again (Run n) bytes e h = refl
bytes_again OneByte [] e h = absurd (omega (arith, e))
bytes_again OneByte (a ∷ b ∷ bs) e h = absurd (omega (arith, e))
bytes_again TwoBytes [] e h = absurd (omega (arith, e))
bytes_again TwoBytes (a ∷ []) e h = absurd (omega (arith, e))
bytes_again TwoBytes (a ∷ b ∷ c ∷ bs) e h = absurd (omega (arith, e))
bytes_again FourBytes [] e h = absurd (omega (arith, e))
bytes_again FourBytes (a ∷ []) e h = absurd (omega (arith, e))
bytes_again FourBytes (a ∷ b ∷ []) e h = absurd (omega (arith, e))
bytes_again FourBytes (a ∷ b ∷ c ∷ []) e h = absurd (omega (arith, e))
bytes_again FourBytes (a ∷ b ∷ c ∷ d ∷ f ∷ bs) e h = absurd (omega (arith, e))

pub field_fits : (w : Width) (bytes : List ℕ) → length bytes ≡ width_bytes w → All IsByte bytes → FieldFits (field_of w bytes)
field_fits OneByte (a ∷ []) e h = omega (arith, All-head IsByte a [] h)
field_fits TwoBytes (a ∷ b ∷ []) e h =
    omega (arith, All-head IsByte a (b ∷ []) h, All-head IsByte b [] (All-tail IsByte a (b ∷ []) h))
field_fits FourBytes (a ∷ b ∷ c ∷ d ∷ []) e h =
    let t = All-tail IsByte a (b ∷ c ∷ d ∷ []) h in
    let u = All-tail IsByte b (c ∷ d ∷ []) t in
    omega (arith, All-head IsByte a (b ∷ c ∷ d ∷ []) h, All-head IsByte b (c ∷ d ∷ []) t, All-head IsByte c (d ∷ []) u, All-head IsByte d [] (All-tail IsByte c (d ∷ []) u))
field_fits (Run n) bytes e h = h
field_fits OneByte [] e h = absurd (omega (arith, e))
field_fits OneByte (a ∷ b ∷ bs) e h = absurd (omega (arith, e))
field_fits TwoBytes [] e h = absurd (omega (arith, e))
field_fits TwoBytes (a ∷ []) e h = absurd (omega (arith, e))
field_fits TwoBytes (a ∷ b ∷ c ∷ bs) e h = absurd (omega (arith, e))
field_fits FourBytes [] e h = absurd (omega (arith, e))
field_fits FourBytes (a ∷ []) e h = absurd (omega (arith, e))
field_fits FourBytes (a ∷ b ∷ []) e h = absurd (omega (arith, e))
field_fits FourBytes (a ∷ b ∷ c ∷ []) e h = absurd (omega (arith, e))
field_fits FourBytes (a ∷ b ∷ c ∷ d ∷ f ∷ bs) e h = absurd (omega (arith, e))

-- what has a width is read again from its bytes
pub field_again : (w : Width) (f : Field) → HasWidth w f → FieldFits f → field_of w (field_bytes f) ≡ f
field_again OneByte (Byte n) h k = ap (λ (x : ℕ). Byte x) (omega arith)
field_again TwoBytes (Half n) h k = ap (λ (x : ℕ). Half x) (omega (arith, k))
field_again FourBytes (Word n) h k = ap (λ (x : ℕ). Word x) (omega (arith, k))
field_again (Run n) (Chars bytes) h k = refl
field_again _ _ h k = absurd h

-- A field that a place takes has its width.

abbrev pub NotBad : {P X : Type 0} → Turn P X → Type 0
NotBad Bad = ⊥
NotBad (Stay p) = Unit {0}
NotBad (Whole x) = Unit {0}

stay_good : {P : Type 0} (X : Type 0) (b : Bool) (p : P) → NotBad (stay_if {X = X} b p) → b ≡ true
stay_good X true p h = refl
stay_good X false p h = absurd h

whole_good : {X : Type 0} (P : Type 0) (b : Bool) (x : X) → NotBad (whole_if {P = P} b x) → b ≡ true
whole_good P true x h = refl
whole_good P false x h = absurd h

if_good : {P X : Type 0} (b : Bool) (t : Turn P X) → NotBad (if b then t else Bad) → b ≡ true
if_good true t h = refl
if_good false t h = absurd h

operand_has_width : (a : Around) (p : OperandPlace) (f : Field) → NotBad (operand_step a p f) → HasWidth (operand_width p) f
operand_has_width a AtTag (Byte n) h = tt
operand_has_width a AtRegister (Byte r) h = tt
operand_has_width a AtConstant (Word c) h = tt
operand_has_width a AtAddressSymbol (Word s) h = tt
operand_has_width a (AtAddressOffset s) (Word o) h = tt
operand_has_width a AtArgumentAddress (Word o) h = tt
operand_has_width a AtFrameAddress (Word o) h = tt
operand_has_width a AtSymbol (Word s) h = tt
operand_has_width a (AtOffset s) (Word o) h = tt
operand_has_width a AtArgument (Word o) h = tt
operand_has_width a AtFrameOffset (Word o) h = tt
operand_has_width a AtBase (Byte r) h = tt
operand_has_width a (AtBaseOffset r) (Word o) h = tt
operand_has_width a AtLabel (Word l) h = tt
operand_has_width a AtFunction (Word s) h = tt
operand_has_width a _ _ h = absurd h

behind_operand_good : (op : Op) (before : List Operand) (t : Turn OperandPlace Operand) → NotBad (behind_operand op before t) → NotBad t
behind_operand_good op before Bad h = absurd h
behind_operand_good op before (Stay p) h = tt
behind_operand_good op before (Whole o) h = tt

instruction_has_width : (symbols frame total : ℕ) (more : Bool) (p : InstructionPlace) (f : Field) → NotBad (instruction_step symbols frame total more p f) → HasWidth (instruction_width p) f
instruction_has_width symbols frame total more AtOperation (Byte n) h = tt
instruction_has_width symbols frame total more AtOperation (Half n) h = absurd h
instruction_has_width symbols frame total more AtOperation (Word n) h = absurd h
instruction_has_width symbols frame total more AtOperation (Chars bytes) h = absurd h
instruction_has_width symbols frame total more (InOperand op before p) f h =
    operand_has_width (around symbols frame total op before) p f (behind_operand_good op before (operand_step (around symbols frame total op before) p f) h)

piece_has_width : (symbols : ℕ) (before : List DataPiece) (behind : ℕ) (p : PiecePlace) (f : Field) → NotBad (piece_step symbols before behind p f) → HasWidth (piece_width p) f
piece_has_width symbols before behind AtPiece (Byte n) h = tt
piece_has_width symbols before behind AtRawLength (Word n) h = tt
piece_has_width symbols before behind (AtRaw n) (Chars bytes) h = eqb-true (length bytes) n (whole_good PiecePlace (length bytes == n) (Raw bytes) h)
piece_has_width symbols before behind AtPieceSymbol (Word x) h = tt
piece_has_width symbols before behind (AtPieceOffset x) (Word o) h = tt
piece_has_width symbols before behind _ _ h = absurd h

behind_instruction_good : (h : Head) (frame total : ℕ) (before : List Abs) (t : Turn InstructionPlace Abs) → NotBad (behind_instruction h frame total before t) → NotBad t
behind_instruction_good h frame total before Bad g = absurd g
behind_instruction_good h frame total before (Stay p) g = tt
behind_instruction_good h frame total before (Whole a) g = tt

behind_piece_good : (h : Head) (total : ℕ) (before : List DataPiece) (t : Turn PiecePlace DataPiece) → NotBad (behind_piece h total before t) → NotBad t
behind_piece_good h total before Bad g = absurd g
behind_piece_good h total before (Stay p) g = tt
behind_piece_good h total before (Whole x) g = tt

symbol_has_width : (symbols : ℕ) (seen : List Symbol) (p : SymbolPlace) (f : Field) → NotBad (symbol_step symbols seen p f) → HasWidth (symbol_width p) f
symbol_has_width symbols seen AtBinding (Byte n) h = tt
symbol_has_width symbols seen (AtKind l) (Byte n) h = tt
symbol_has_width symbols seen (AtNameLength l k) (Half n) h = tt
symbol_has_width symbols seen (AtName l k n) (Chars name) h =
    let g = stay_good Symbol ((length name == n) && (list_all is_graphic name && not (list_any (is_named l name) seen))) (AtSignatureLength l k name) h in
    eqb-true (length name) n (and_parts (length name == n) (list_all is_graphic name && not (list_any (is_named l name) seen)) g).0
symbol_has_width symbols seen (AtSignatureLength l k name) (Word n) h = tt
symbol_has_width symbols seen (AtSignature l k name n) (Chars sig) h =
    let g = if_good ((length sig == n) && list_all is_of_signature sig) (with_signature l k name sig) h in
    eqb-true (length sig) n (and_parts (length sig == n) (list_all is_of_signature sig) g).0
symbol_has_width symbols seen (AtFrame h) (Word frame) g = tt
symbol_has_width symbols seen (AtTotal h frame) (Word total) g = tt
symbol_has_width symbols seen (InCode h frame total before p) f g =
    instruction_has_width symbols frame total (nat_lt (length before + 1) total) p f (behind_instruction_good h frame total before (instruction_step symbols frame total (nat_lt (length before + 1) total) p f) g)
symbol_has_width symbols seen (AtPieces h) (Word total) g = tt
symbol_has_width symbols seen (InPieces h total before p) f g =
    piece_has_width symbols before (total - (length before + 1)) p f (behind_piece_good h total before (piece_step symbols before (total - (length before + 1)) p f) g)
symbol_has_width symbols seen (AtSize h) (Word size) g = tt
symbol_has_width symbols seen _ _ h = absurd h

abbrev pub IsTaken : Result State Break → Type 0
IsTaken (Err b) = ⊥
IsTaken (Ok s) = Unit {0}

behind_symbol_good : (count : ℕ) (before : List Symbol) (t : Turn SymbolPlace Symbol) → IsTaken (behind_symbol count before t) → NotBad t
behind_symbol_good count before Bad h = absurd h
behind_symbol_good count before (Stay p) h = tt
behind_symbol_good count before (Whole s) h = tt

ok_good : (b : Bool) (s : State) → IsTaken (ok_if b s) → b ≡ true
ok_good true s h = refl
ok_good false s h = absurd h

pub takes_width : (s : State) (f : Field) → IsTaken (step s f) → HasWidth (width_at s) f
takes_width AtMagic (Chars bytes) h = ap (λ (b : List ℕ). length b) (same_bytes bytes magic (ok_good (bytes_eq bytes magic) AtVersion h))
takes_width AtVersion (Word v) h = tt
takes_width AtCount (Word n) h = tt
takes_width (InSymbols count before p) f h = symbol_has_width count before p f (behind_symbol_good count before (symbol_step count before p f) h)
takes_width _ _ h = absurd h

-- Each place wants a byte at least.

operand_some : (p : OperandPlace) → 0 < width_bytes (operand_width p)
operand_some AtTag = omega arith
operand_some AtRegister = omega arith
operand_some AtConstant = omega arith
operand_some AtAddressSymbol = omega arith
operand_some (AtAddressOffset s) = omega arith
operand_some AtArgumentAddress = omega arith
operand_some AtFrameAddress = omega arith
operand_some AtSymbol = omega arith
operand_some (AtOffset s) = omega arith
operand_some AtArgument = omega arith
operand_some AtFrameOffset = omega arith
operand_some AtBase = omega arith
operand_some (AtBaseOffset r) = omega arith
operand_some AtLabel = omega arith
operand_some AtFunction = omega arith

instruction_some : (p : InstructionPlace) → 0 < width_bytes (instruction_width p)
instruction_some AtOperation = omega arith
instruction_some (InOperand op before p) = operand_some p

piece_some : (symbols : ℕ) (before : List DataPiece) (behind : ℕ) (p : PiecePlace) → PieceWell symbols before behind p → 0 < width_bytes (piece_width p)
piece_some symbols before behind AtPiece w = omega arith
piece_some symbols before behind AtRawLength w = omega arith
piece_some symbols before behind (AtRaw n) w = w.2.0
piece_some symbols before behind AtPieceSymbol w = omega arith
piece_some symbols before behind (AtPieceOffset x) w = omega arith

symbol_some : (symbols : ℕ) (seen : List Symbol) (p : SymbolPlace) → SymbolWell symbols seen p → 0 < width_bytes (symbol_width p)
symbol_some symbols seen AtBinding w = omega arith
symbol_some symbols seen (AtKind l) w = omega arith
symbol_some symbols seen (AtNameLength l k) w = omega arith
symbol_some symbols seen (AtName l k n) w = w.1
symbol_some symbols seen (AtSignatureLength l k name) w = omega arith
symbol_some symbols seen (AtSignature l k name n) w = w.2
symbol_some symbols seen (AtFrame h) w = omega arith
symbol_some symbols seen (AtTotal h frame) w = omega arith
symbol_some symbols seen (InCode h frame total before p) w = instruction_some p
symbol_some symbols seen (AtPieces h) w = omega arith
symbol_some symbols seen (InPieces h total before p) w = piece_some symbols before (total - (length before + 1)) p w.1.place
symbol_some symbols seen (AtSize h) w = omega arith

-- an object isn't whole yet
abbrev pub IsLive : State → Type 0
IsLive (Done symbols) = ⊥
IsLive _ = Unit {0}

pub some_width : (s : State) → IsLive s → Well s → 0 < width_bytes (width_at s)
some_width AtMagic l w = omega arith
some_width AtVersion l w = omega arith
some_width AtCount l w = omega arith
some_width (InSymbols count before p) l w = symbol_some count before p w.1
some_width (Done symbols) l w = absurd l
