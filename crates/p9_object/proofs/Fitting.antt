-- The numbers of an object fit their fields.
use Rattle.std.proofs.Common.{◌≡◌, Bool, true, false, ℕ, zero, suc, ◌+◌, ◌-◌, ◌*◌, ◌^◌, ◌<◌, ◌≤◌, List, [], ◌∷◌, ◌++◌, length, flat_map, Option, Some, None, All, arith}
use Rattle.std.specs.Prelude.{IfSome, sum_by}
use Rattle.std.proofs.lemmas.List.Elements.{All-nil, All-cons, All-head, All-tail}
use Rattle.p9_abs.specs.declared.instructions.Op.{Op}
use Rattle.p9_abs.specs.declared.instructions.Op.TheVariants.{MovW, MovH, MovHU, MovB, MovBU, Add, AddU, Sub, SubU, And, Or, Xor, Nor, Sgt, SgtU, Sll, Srl, Sra, Mul, MulU, Div, DivU, Beq, Bne, Bgez, Bgtz, Blez, Bltz, Jmp, Jal, Ret, Syscall}
use Rattle.p9_abs.specs.declared.instructions.Operand.{Operand}
use Rattle.p9_abs.specs.declared.instructions.Operand.TheVariants.{Reg, Const, AddrSB, AddrFP, AddrSP, MemSB, MemFP, MemSP, MemReg, Label, Func, Hi, Lo, Auto, AutoAddr}
use Rattle.p9_abs.specs.declared.instructions.Abs.{Abs}
use Rattle.p9_abs.specs.declared.modules.DataPiece.{DataPiece}
use Rattle.p9_abs.specs.declared.modules.DataPiece.TheVariants.{Raw, Address}
use Rattle.p9_abs.specs.declared.modules.Body.{Body}
use Rattle.p9_abs.specs.declared.modules.Body.TheVariants.{Declared, Used, Text, Data, Common}
use Rattle.p9_abs.specs.declared.modules.Symbol.{Symbol}
use Rattle.p9_abs.specs.Forms.{op_number}
use Rattle.p9_abs.specs.Modules.{piece_size, pieces_size, named_by_operand, named_by_piece, operands_of, pieces_of}
use Rattle.p9_abs.specs.Validity.{IsGraphic, IsWithin, NamesWithin, IsFilled, HasWellPieced, HasSizeInRange, IsInRange, IsInstruction, IsFunction, HasFunction}
use Rattle.p9_object.specs.Fields.{Field, Byte, Half, Word, Chars, operand_fields, instruction_fields, piece_fields, signature_fields, body_fields, symbol_fields, binding_number, kind_number, fields_of, magic}
use Rattle.p9_object.specs.Laws.{OperandFits, PieceFits, CodeFits, IsObject, IsByte}
use Rattle.p9_object.proofs.Operands.{AllFit, fit_append, FieldFits}
use Rattle.p9_object.proofs.Pieces.{size_cons}
use Rattle.p9_object.proofs.Symbols.{IsSymbol, all_left, all_right, all_parts}
use Rattle.p9_object.proofs.Objects.{each_in, magic_fits}

op_fits : (op : Op) → op_number op < 2 ^ 8
op_fits MovW = omega arith
op_fits MovH = omega arith
op_fits MovHU = omega arith
op_fits MovB = omega arith
op_fits MovBU = omega arith
op_fits Add = omega arith
op_fits AddU = omega arith
op_fits Sub = omega arith
op_fits SubU = omega arith
op_fits And = omega arith
op_fits Or = omega arith
op_fits Xor = omega arith
op_fits Nor = omega arith
op_fits Sgt = omega arith
op_fits SgtU = omega arith
op_fits Sll = omega arith
op_fits Srl = omega arith
op_fits Sra = omega arith
op_fits Mul = omega arith
op_fits MulU = omega arith
op_fits Div = omega arith
op_fits DivU = omega arith
op_fits Beq = omega arith
op_fits Bne = omega arith
op_fits Bgez = omega arith
op_fits Bgtz = omega arith
op_fits Blez = omega arith
op_fits Bltz = omega arith
op_fits Jmp = omega arith
op_fits Jal = omega arith
op_fits Ret = omega arith
op_fits Syscall = omega arith

operand_fit : (n frame total : ℕ) (o : Operand) → n < 2 ^ 32 → total < 2 ^ 32 → IsInRange frame total o → IsWithin n (named_by_operand o) → OperandFits o → AllFit (operand_fields o)
operand_fit n frame total (Reg r) a b h w f = (omega arith, (omega (arith, h.0), tt))
operand_fit n frame total (Const c) a b h w f = (omega arith, (f, tt))
operand_fit n frame total (AddrSB s o) a b h w f = (omega arith, (omega (arith, w, a), (f, tt)))
operand_fit n frame total (AddrFP o) a b h w f = (omega arith, (omega (arith, h), tt))
operand_fit n frame total (AddrSP o) a b h w f = (omega arith, (h.1, tt))
operand_fit n frame total (MemSB s o) a b h w f = (omega arith, (omega (arith, w, a), (f, tt)))
operand_fit n frame total (MemFP o) a b h w f = (omega arith, (omega (arith, h), tt))
operand_fit n frame total (MemSP o) a b h w f = (omega arith, (h.1, tt))
operand_fit n frame total (MemReg r o) a b h w f = (omega arith, (omega (arith, h.0), (f, tt)))
operand_fit n frame total (Label l) a b h w f = (omega arith, (omega (arith, h, b), tt))
operand_fit n frame total (Func s) a b h w f = (omega arith, (omega (arith, w, a), tt))
operand_fit n frame total Hi a b h w f = (omega arith, tt)
operand_fit n frame total Lo a b h w f = (omega arith, tt)
operand_fit n frame total (Auto v o) a b h w f = absurd h
operand_fit n frame total (AutoAddr v o) a b h w f = absurd h

operands_fit : (n frame total : ℕ) (os : List Operand) → n < 2 ^ 32 → total < 2 ^ 32 → All (IsInRange frame total) os → All (λ o. IsWithin n (named_by_operand o)) os → All OperandFits os → AllFit (flat_map operand_fields os)
operands_fit n frame total [] a b h w f = tt
operands_fit n frame total (o ∷ os) a b h w f =
    let W : Operand → Type 0 = λ o. IsWithin n (named_by_operand o) in
    fit_append (operand_fields o) (flat_map operand_fields os)
    (operand_fit n frame total o a b (All-head (IsInRange frame total) o os h) (All-head W o os w) (All-head OperandFits o os f))
    (operands_fit n frame total os a b (All-tail (IsInRange frame total) o os h) (All-tail W o os w) (All-tail OperandFits o os f))

code_fit : (n frame total : ℕ) (code : List Abs) → n < 2 ^ 32 → total < 2 ^ 32 → All (IsInstruction frame total) code → All (λ (a : Abs). All (λ o. IsWithin n (named_by_operand o)) a.operands) code → All (λ (a : Abs). All OperandFits a.operands) code → AllFit (flat_map instruction_fields code)
code_fit n frame total [] a b h w f = tt
code_fit n frame total (x ∷ xs) a b h w f =
    let W : Abs → Type 0 = λ a. All (λ o. IsWithin n (named_by_operand o)) a.operands in
    let F : Abs → Type 0 = λ a. All OperandFits a.operands in (
      op_fits x.op,
      fit_append (flat_map operand_fields x.operands) (flat_map instruction_fields xs)
          (operands_fit n frame total x.operands a b (All-head (IsInstruction frame total) x xs h).operands (All-head W x xs w) (All-head F x xs f))
          (code_fit n frame total xs a b (All-tail (IsInstruction frame total) x xs h) (All-tail W x xs w) (All-tail F x xs f)),
    )

pieces_fit : (n : ℕ) (ps : List DataPiece) → n < 2 ^ 32 → pieces_size ps < 2 ^ 32 → All (λ x. IsWithin n (named_by_piece x)) ps → All PieceFits ps → AllFit (flat_map piece_fields ps)
pieces_fit n [] a z w f = tt
pieces_fit n (Raw b ∷ ps) a z w f =
    let W : DataPiece → Type 0 = λ x. IsWithin n (named_by_piece x) in
    (omega arith, (omega (arith, z, size_cons (Raw b) ps), (All-head PieceFits (Raw b) ps f, pieces_fit n ps a (omega (arith, z, size_cons (Raw b) ps)) (All-tail W (Raw b) ps w) (All-tail PieceFits (Raw b) ps f))))
pieces_fit n (Address s o ∷ ps) a z w f =
    let W : DataPiece → Type 0 = λ x. IsWithin n (named_by_piece x) in
    let here : s < n = All-head W (Address s o) ps w in
    (omega arith, (omega (arith, here, a), (All-head PieceFits (Address s o) ps f, pieces_fit n ps a (omega (arith, z, size_cons (Address s o) ps)) (All-tail W (Address s o) ps w) (All-tail PieceFits (Address s o) ps f))))

-- each piece has a byte, so there are no more pieces than bytes
few_pieces : (ps : List DataPiece) → All IsFilled ps → length ps ≤ pieces_size ps
few_pieces [] h = omega arith
few_pieces (Raw b ∷ ps) h = omega (arith, size_cons (Raw b) ps, All-head IsFilled (Raw b) ps h, few_pieces ps (All-tail IsFilled (Raw b) ps h))
few_pieces (Address s o ∷ ps) h = omega (arith, size_cons (Address s o) ps, few_pieces ps (All-tail IsFilled (Address s o) ps h))

body_fit : (n : ℕ) (body : Body) → n < 2 ^ 32 → HasFunction body → HasWellPieced body → HasSizeInRange body → NamesWithin n body → All OperandFits (operands_of body) → All PieceFits (pieces_of body) → CodeFits body → AllFit (body_fields body)
body_fit n Declared a h p z w f g c = tt
body_fit n Used a h p z w f g c = tt
body_fit n (Text def) a h p z w f g c =
    (omega (arith, h.frame.1), (c, code_fit n def.frame (length def.code) def.code a c h.instructions (all_parts (λ o. IsWithin n (named_by_operand o)) (λ (a : Abs). a.operands) def.code w.0) (all_parts OperandFits (λ (a : Abs). a.operands) def.code f)))
body_fit n (Data pieces) a h p z w f g c = (omega (arith, few_pieces pieces p.filled, z.1), pieces_fit n pieces a (omega (arith, z.1)) w.1 g)
body_fit n (Common size) a h p z w f g c = (omega (arith, z.1), tt)

bytes_of_name : (name : List ℕ) → All IsGraphic name → All IsByte name
bytes_of_name name h k d lt = omega (arith, (h k d lt).1)

signature_fit : (sig : List ℕ) → length sig ≤ 65536 → All IsByte sig → AllFit (signature_fields sig)
signature_fit [] l h = (omega arith, tt)
signature_fit (b ∷ bs) l h = (omega (arith, l), (h, tt))

binding_fits : (l : Bool) → binding_number l < 2 ^ 8
binding_fits true = omega arith
binding_fits false = omega arith

kind_fits : (body : Body) → kind_number body < 2 ^ 8
kind_fits Declared = omega arith
kind_fits Used = omega arith
kind_fits (Text def) = omega arith
kind_fits (Data pieces) = omega arith
kind_fits (Common size) = omega arith

symbol_fit : (n : ℕ) (s : Symbol) → n < 2 ^ 32 → IsSymbol n s → AllFit (symbol_fields s)
symbol_fit n s a g = (
  binding_fits s.local,
  (
    kind_fits s.body,
    (
      omega (arith, g.name.1),
      (
        bytes_of_name s.name g.name.2,
        fit_append (signature_fields s.sig) (body_fields s.body) (signature_fit s.sig g.signature.0 (λ k d lt. omega (arith, (g.signature.1 k d lt).1)))
            (body_fit n s.body a g.function g.pieces g.size g.numbers g.operands_fit g.pieces_fit g.code_fits),
      ),
    ),
  ),
)

symbols_fit : (n : ℕ) (xs : List Symbol) → n < 2 ^ 32 → All (IsSymbol n) xs → AllFit (flat_map symbol_fields xs)
symbols_fit n [] a h = tt
symbols_fit n (x ∷ xs) a h = fit_append (symbol_fields x) (flat_map symbol_fields xs) (symbol_fit n x a (All-head (IsSymbol n) x xs h)) (symbols_fit n xs a (All-tail (IsSymbol n) x xs h))

pub object_fits : (xs : List Symbol) → IsObject (record { symbols = xs }) → AllFit (fields_of xs)
object_fits xs o = (magic_fits, (omega arith, (o.fits.few, symbols_fit (length xs) xs o.fits.few (each_in xs o))))
