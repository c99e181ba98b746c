-- From inside a symbol some fields lead to its end, but from behind its name's length.
use Rattle.std.proofs.Common.{◌≡◌, ◌≢◌, ℕ, zero, suc, ◌+◌, ◌-◌, ◌*◌, ◌%◌, ◌^◌, ◌<◌, ◌≤◌, Bool, true, false, ◌&&◌, ◌||◌, not, List, [], ◌∷◌, ◌++◌, length, replicate, Option, Some, None, flat_map, All, refl, sym, ap, subst, ◌∙◌, append_assoc, arith, inl, inr}
use Rattle.std.specs.Prelude.{bytes_eq, nat_lt, nat_le, if◌then◌else◌, ◌==◌, IfSome}
use Rattle.std.specs.List.{list_any, list_all}
use Rattle.std.proofs.lemmas.Bool.{eq-eqb, ne_eqb, lt-ltb, le-ltb, leb-true, le-leb, and_parts, and_from, true≢false}
use Rattle.std.proofs.lemmas.List.{length-replicate}
use Rattle.std.proofs.lemmas.List.Elements.{All-nil, All-cons, All-replicate}
use Rattle.p9_abs.specs.declared.instructions.Op.TheVariants.{Ret}
use Rattle.p9_abs.specs.declared.instructions.Abs.{Abs}
use Rattle.p9_abs.specs.declared.modules.DataPiece.{DataPiece}
use Rattle.p9_abs.specs.declared.modules.DataPiece.TheVariants.{Raw, Address}
use Rattle.p9_abs.specs.declared.modules.Body.{Body}
use Rattle.p9_abs.specs.declared.modules.Body.TheVariants.{Declared, Used, Text, Data, Common}
use Rattle.p9_abs.specs.declared.modules.Symbol.{Symbol}
use Rattle.p9_abs.specs.Modules.{named_by_operand, named_by_piece}
use Rattle.p9_abs.specs.Validity.{IsWithin, NamesWithin, IsFilled, IsWellPieced, HasWellPieced, HasSizeInRange, IsFunction, HasFunction, IsInRange, IsInstruction}
use Rattle.p9_object.specs.Fields.{Field, Byte, Half, Word, Chars, body_fields, piece_fields}
use Rattle.p9_object.specs.Laws.{CodeFits, IsByte}
use Rattle.p9_object.specs.Machine.{Turn, Bad, Stay, Whole, InstructionPlace, AtOperation, may_end, with_operands, operation_step, instruction_step, PiecePlace, AtPiece, piece_step, Kind, DeclaredKind, UsedKind, TextKind, DataKind, CommonKind, defines, Head, SymbolPlace, AtBinding, AtKind, AtNameLength, AtName, AtSignatureLength, AtSignature, AtFrame, AtTotal, InCode, AtPieces, InPieces, AtSize, is_graphic, is_of_signature, is_named, symbol_with, behind_head, with_signature, behind_instruction, behind_piece, symbol_step}
use Rattle.p9_object.proofs.Operands.{nothing, runs, runs_none, runs_append, FieldFits, AllFit, fit_append}
use Rattle.p9_object.proofs.Instructions.{InstructionLeads, instruction_leads}
use Rattle.p9_object.proofs.Pieces.{PieceLeads, piece_leads}
use Rattle.p9_object.proofs.Fresh.{IsNew, new_name}
use Rattle.p9_object.proofs.Symbols.{kind_of, body_read, passes, lift_code, lift_piece, one_piece, push_length, SymbolWell}

pub record Ahead (symbols : ℕ) (seen : List Symbol) (t : Turn SymbolPlace Symbol) : Type 0 where
  pub fields : List Field
  pub fits : AllFit fields
  pub symbol : Symbol
  pub reads : runs (symbol_step symbols seen) t fields ≡ Whole symbol

-- one field further
one : (symbols : ℕ) (seen : List Symbol) (p : SymbolPlace) (f : Field) (t : Turn SymbolPlace Symbol) → FieldFits f → symbol_step symbols seen p f ≡ t → Ahead symbols seen t → Ahead symbols seen (Stay p)
one symbols seen p f t k e a =
    record { fields = f ∷ a.fields; fits = (k, a.fits); symbol = a.symbol; reads = ap (λ (t : Turn SymbolPlace Symbol). runs (symbol_step symbols seen) t a.fields) e ∙ a.reads }

-- fields that come to a turn
further : (symbols : ℕ) (seen : List Symbol) (p : SymbolPlace) (fs : List Field) (t : Turn SymbolPlace Symbol) → AllFit fs → runs (symbol_step symbols seen) (Stay p) fs ≡ t → Ahead symbols seen t → Ahead symbols seen (Stay p)
further symbols seen p fs t k e a =
    record {
      fields = fs ++ a.fields;
      fits = fit_append fs a.fields k a.fits;
      symbol = a.symbol;
      reads = runs_append (symbol_step symbols seen) (Stay p) fs a.fields ∙ ap (λ (t : Turn SymbolPlace Symbol). runs (symbol_step symbols seen) t a.fields) e ∙ a.reads;
    }

at_end : (symbols : ℕ) (seen : List Symbol) (s : Symbol) → Ahead symbols seen (Whole s)
at_end symbols seen s = record { fields = []; fits = tt; symbol = s; reads = refl }

at_turn : (symbols : ℕ) (seen : List Symbol) (t u : Turn SymbolPlace Symbol) → t ≡ u → Ahead symbols seen u → Ahead symbols seen t
at_turn symbols seen t u e a = subst (λ (t : Turn SymbolPlace Symbol). Ahead symbols seen t) (sym e) a

-- Bodies

abbrev ret : Abs
ret = record { op = Ret; operands = [] }

-- a body that each kind may have
abbrev least_body : Kind → Body
least_body DeclaredKind = Declared
least_body UsedKind = Used
least_body TextKind = Text (record { frame = 0; code = ret ∷ [] })
least_body DataKind = Data (Address 0 0 ∷ [])
least_body CommonKind = Common 1

ret_valid : IsInstruction 0 1 ret
ret_valid = record { form = refl; operands = All-nil (IsInRange 0 1); destination = λ e. tt }

ahead_of_body : (symbols : ℕ) (seen : List Symbol) (h : Head) (k : Kind) → 0 < symbols → Ahead symbols seen (behind_head h k)
ahead_of_body symbols seen h DeclaredKind s = at_end symbols seen (symbol_with h Declared)
ahead_of_body symbols seen h UsedKind s = at_end symbols seen (symbol_with h Used)
ahead_of_body symbols seen h CommonKind s =
    record { fields = Word 1 ∷ []; fits = (omega arith, tt); symbol = symbol_with h (Common 1); reads = refl }
ahead_of_body symbols seen h TextKind s =
    let body : Body = least_body TextKind in
    let f : HasFunction body = record { frame = (refl, omega arith); ending = inl refl; instructions = All-cons (IsInstruction 0 1) ret [] ret_valid (All-nil (IsInstruction 0 1)) } in
    record {
      fields = body_fields body;
      fits = (omega arith, (omega arith, (omega arith, tt)));
      symbol = symbol_with h body;
      reads = body_read symbols seen h body f tt tt (All-nil (λ o. IsWithin symbols (named_by_operand o)), All-nil (λ x. IsWithin symbols (named_by_piece x))) (omega arith);
    }
ahead_of_body symbols seen h DataKind s =
    let body : Body = least_body DataKind in
    let W : DataPiece → Type 0 = λ x. IsWithin symbols (named_by_piece x) in
    let p : HasWellPieced body = record { some = omega arith; filled = All-cons IsFilled (Address 0 0) [] tt (All-nil IsFilled); parted = tt; aligned = (refl, tt) } in
    record {
      fields = body_fields body;
      fits = (omega arith, (omega arith, (omega arith, (omega arith, tt))));
      symbol = symbol_with h body;
      reads = body_read symbols seen h body tt p (omega arith, omega arith) (All-nil (λ o. IsWithin symbols (named_by_operand o)), All-cons W (Address 0 0) [] s (All-nil W)) tt;
    }

-- Heads

ahead_of_name : (symbols : ℕ) (seen : List Symbol) (l : Bool) (k : Kind) (name : List ℕ) → 0 < symbols → Ahead symbols seen (Stay (AtSignatureLength l k name))
ahead_of_name symbols seen l k name s =
    one symbols seen (AtSignatureLength l k name) (Word 0) (with_signature l k name []) (omega arith) refl
    (ahead_of_body symbols seen (record { local = l; kind = k; name = name; sig = [] }) k s)

all_bytes : (name : List ℕ) → list_all is_graphic name ≡ true → All IsByte name
all_bytes [] h = All-nil IsByte
all_bytes (b ∷ bs) h =
    let t = and_parts (is_graphic b) (list_all is_graphic bs) h in
    let u = and_parts (nat_le 33 b) (nat_le b 126) t.0 in
    All-cons IsByte b bs (omega (arith, leb-true b 126 u.1)) (all_bytes bs t.1)

ahead_of_length : (symbols : ℕ) (seen : List Symbol) (l : Bool) (k : Kind) → 0 < symbols → length seen < 2 ^ 32 → Ahead symbols seen (Stay (AtNameLength l k))
ahead_of_length symbols seen l k s few =
    let n = new_name l seen few in
    let long : (length n.text == 32) ≡ true = eq-eqb (length n.text) 32 n.long in
    one symbols seen (AtNameLength l k) (Half 32) (Stay (AtName l k 32)) (omega arith) refl
    (one symbols seen (AtName l k 32) (Chars n.text) (Stay (AtSignatureLength l k n.text)) (all_bytes n.text n.graphic) (rw (long, n.graphic, n.new) refl)
    (ahead_of_name symbols seen l k n.text s))

or_true : (b : Bool) → (b || true) ≡ true
or_true true = refl
or_true false = refl

ahead_of_kind : (symbols : ℕ) (seen : List Symbol) (l : Bool) → 0 < symbols → length seen < 2 ^ 32 → Ahead symbols seen (Stay (AtKind l))
ahead_of_kind symbols seen l s few =
    one symbols seen (AtKind l) (Byte 2) (Stay (AtNameLength l TextKind)) (omega arith) (rw (or_true (not l)) refl) (ahead_of_length symbols seen l TextKind s few)

signs : (n : ℕ) → list_all is_of_signature (replicate n 33) ≡ true
signs zero = refl
signs (suc n) = signs n

ahead_of_signature : (symbols : ℕ) (seen : List Symbol) (l : Bool) (k : Kind) (name : List ℕ) (n : ℕ) → 0 < symbols → Ahead symbols seen (Stay (AtSignature l k name n))
ahead_of_signature symbols seen l k name n s =
    let sig : List ℕ = replicate n 33 in
    let good : ((length sig == n) && list_all is_of_signature sig) ≡ true = and_from (length sig == n) (list_all is_of_signature sig) (eq-eqb (length sig) n (length-replicate n 33)) (signs n) in
    one symbols seen (AtSignature l k name n) (Chars sig) (with_signature l k name sig) (All-replicate IsByte n 33 (omega arith))
    (ap (λ (b : Bool). if b then with_signature l k name sig else Bad) good)
    (ahead_of_body symbols seen (record { local = l; kind = k; name = name; sig = sig }) k s)

-- Code

ret_read : (symbols frame total : ℕ) (more : Bool) → instruction_step symbols frame total more AtOperation (Byte 31) ≡ Whole ret
ret_read symbols frame total more = ap (λ (b : Bool). if b then with_operands Ret [] else Bad) (or_true more)

ahead_in_code : (d symbols : ℕ) (seen : List Symbol) (h : Head) (frame total : ℕ) (before : List Abs) (a : Abs) → total ≡ length before + 1 + d → Ahead symbols seen (behind_instruction h frame total before (Whole a))
ahead_in_code zero symbols seen h frame total before a e =
    let last : nat_lt (length before + 1) total ≡ false = le-ltb (length before + 1) total (omega (arith, e)) in
    at_turn symbols seen (behind_instruction h frame total before (Whole a)) (Whole (symbol_with h (Text (record { frame = frame; code = before ++ a ∷ [] })))) (rw last refl)
    (at_end symbols seen (symbol_with h (Text (record { frame = frame; code = before ++ a ∷ [] }))))
ahead_in_code (suc d) symbols seen h frame total before a e =
    let more : nat_lt (length before + 1) total ≡ true = lt-ltb (length before + 1) total (omega (arith, e)) in
    let next : List Abs = before ++ a ∷ [] in
    let fits : total ≡ length next + 1 + d = omega (arith, e, push_length before a) in
    at_turn symbols seen (behind_instruction h frame total before (Whole a)) (Stay (InCode h frame total next AtOperation)) (rw more refl)
    (one symbols seen (InCode h frame total next AtOperation) (Byte 31) (behind_instruction h frame total next (Whole ret)) (omega arith)
    (ap (λ (t : Turn InstructionPlace Abs). behind_instruction h frame total next t) (ret_read symbols frame total (nat_lt (length next + 1) total)))
    (ahead_in_code d symbols seen h frame total next ret fits))

-- Data

ahead_in_data : (d symbols : ℕ) (seen : List Symbol) (h : Head) (total : ℕ) (before : List DataPiece) (x : DataPiece) → 0 < symbols → total ≡ length before + 1 + d → Ahead symbols seen (behind_piece h total before (Whole x))
ahead_in_data zero symbols seen h total before x s e =
    let last : nat_lt (length before + 1) total ≡ false = le-ltb (length before + 1) total (omega (arith, e)) in
    at_turn symbols seen (behind_piece h total before (Whole x)) (Whole (symbol_with h (Data (before ++ x ∷ [])))) (rw last refl) (at_end symbols seen (symbol_with h (Data (before ++ x ∷ []))))
ahead_in_data (suc d) symbols seen h total before x s e =
    let more : nat_lt (length before + 1) total ≡ true = lt-ltb (length before + 1) total (omega (arith, e)) in
    let next : List DataPiece = before ++ x ∷ [] in
    let fits : total ≡ length next + 1 + d = omega (arith, e, push_length before x) in
    at_turn symbols seen (behind_piece h total before (Whole x)) (Stay (InPieces h total next AtPiece)) (rw more refl)
    (further symbols seen (InPieces h total next AtPiece) (piece_fields (Address 0 0)) (behind_piece h total next (Whole (Address 0 0))) (omega arith, (omega arith, (omega arith, tt))) (one_piece symbols seen h total next (Address 0 0) s)
    (ahead_in_data d symbols seen h total next (Address 0 0) s fits))

-- Places

abbrev pub IsNamed : SymbolPlace → Type 0
IsNamed (AtName l k n) = ⊥
IsNamed _ = Unit {0}

pub ahead : (symbols : ℕ) (seen : List Symbol) (p : SymbolPlace) → 0 < symbols → length seen < 2 ^ 32 → SymbolWell symbols seen p → IsNamed p → Ahead symbols seen (Stay p)
ahead symbols seen AtBinding s few w n = one symbols seen AtBinding (Byte 0) (Stay (AtKind false)) (omega arith) refl (ahead_of_kind symbols seen false s few)
ahead symbols seen (AtKind l) s few w n = ahead_of_kind symbols seen l s few
ahead symbols seen (AtNameLength l k) s few w n = ahead_of_length symbols seen l k s few
ahead symbols seen (AtName l k m) s few w n = absurd n
ahead symbols seen (AtSignatureLength l k name) s few w n = ahead_of_name symbols seen l k name s
ahead symbols seen (AtSignature l k name m) s few w n = ahead_of_signature symbols seen l k name m s
ahead symbols seen (AtFrame h) s few w n = ahead_of_body symbols seen h TextKind s
ahead symbols seen (AtTotal h frame) s few w n =
    one symbols seen (AtTotal h frame) (Word 1) (Stay (InCode h frame 1 [] AtOperation)) (omega arith) refl
    (one symbols seen (InCode h frame 1 [] AtOperation) (Byte 31) (Whole (symbol_with h (Text (record { frame = frame; code = ret ∷ [] })))) (omega arith) refl
    (at_end symbols seen (symbol_with h (Text (record { frame = frame; code = ret ∷ [] })))))
ahead symbols seen (InCode h frame total before p) s few w n =
    let c = w.1 in
    let l = instruction_leads symbols frame total (nat_lt (length before + 1) total) p s (omega (arith, c.room)) c.place in
    further symbols seen (InCode h frame total before p) l.fields (behind_instruction h frame total before (Whole l.instruction)) l.fits (lift_code symbols seen h frame total before (Stay p) l.fields l.instruction l.reads)
    (ahead_in_code (total - (length before + 1)) symbols seen h frame total before l.instruction (omega (arith, c.room)))
ahead symbols seen (AtPieces h) s few w n = ahead_of_body symbols seen h DataKind s
ahead symbols seen (InPieces h total before p) s few w n =
    let c = w.1 in
    let l = piece_leads symbols before (total - (length before + 1)) p s c.place in
    further symbols seen (InPieces h total before p) l.fields (behind_piece h total before (Whole l.piece)) l.fits (lift_piece symbols seen h total before (Stay p) l.fields l.piece l.reads)
    (ahead_in_data (total - (length before + 1)) symbols seen h total before l.piece s (omega (arith, c.room)))
ahead symbols seen (AtSize h) s few w n = ahead_of_body symbols seen h CommonKind s
