-- What recursions over a list say of its last element.
use Rattle.std.proofs.Common.{suc, ◌≡◌, ℕ, ◌-◌, ◌⊎◌, ◌↔◌, List, [], ◌∷◌, Some, slice_get, length, subst, arith}
use Rattle.p9_abs.specs.declared.instructions.Op.TheVariants.{Jmp, Ret}
use Rattle.p9_abs.specs.declared.instructions.Abs.{Abs}
use Rattle.p9_abs.specs.declared.instructions.Operand.{Operand}
use Rattle.p9_abs.specs.declared.instructions.Operand.TheVariants.{Reg, Const, AddrSB, AddrFP, AddrSP, MemSB, MemFP, MemSP, MemReg, Label, Func, Hi, Lo, Auto, AutoAddr}
use Rattle.p9_abs.specs.Validity.{EndsWell, IsWritable}
use Rattle.p9_ready.specs.Written.{IsWrittenRegister}

-- the last of two and more is the last of those after the first
last-more : {X : Type 0} (x y : X) (rest : List X) (a : X) → slice_get (x ∷ y ∷ rest) (length (x ∷ y ∷ rest) - 1) ≡ Some a → slice_get (y ∷ rest) (length (y ∷ rest) - 1) ≡ Some a
last-more {X} x y rest a h =
    let e : length (x ∷ y ∷ rest) - 1 ≡ suc (length (y ∷ rest) - 1) = omega arith in
    let P : ℕ → Type 0 = λ n. slice_get (x ∷ y ∷ rest) n ≡ Some a in
    subst P e h

pub ends_last : (code : List Abs) (a : Abs) → slice_get code (length code - 1) ≡ Some a → EndsWell code ↔ ((a.op ≡ Ret) ⊎ (a.op ≡ Jmp))
ends_last [] a h = cc
ends_last (x ∷ []) a h =
    let e : x ≡ a = cc in
    let P : Abs → Type 0 = λ v. EndsWell (x ∷ []) ↔ ((v.op ≡ Ret) ⊎ (v.op ≡ Jmp)) in
    subst P e (λ q. q, λ q. q)
ends_last (x ∷ y ∷ rest) a h = ends_last (y ∷ rest) a (last-more x y rest a h)

writable-one : (o : Operand) → IsWritable (o ∷ []) ↔ IsWrittenRegister o
writable-one (Reg r) = (λ q. q, λ q. q)
writable-one (Const c) = (λ q. q, λ q. q)
writable-one (AddrSB s n) = (λ q. q, λ q. q)
writable-one (AddrFP n) = (λ q. q, λ q. q)
writable-one (AddrSP n) = (λ q. q, λ q. q)
writable-one (MemSB s n) = (λ q. q, λ q. q)
writable-one (MemFP n) = (λ q. q, λ q. q)
writable-one (MemSP n) = (λ q. q, λ q. q)
writable-one (MemReg r n) = (λ q. q, λ q. q)
writable-one (Label l) = (λ q. q, λ q. q)
writable-one (Func s) = (λ q. q, λ q. q)
writable-one Hi = (λ q. q, λ q. q)
writable-one Lo = (λ q. q, λ q. q)
writable-one (Auto v n) = (λ q. q, λ q. q)
writable-one (AutoAddr v n) = (λ q. q, λ q. q)

writable-more : (x y : Operand) (rest : List Operand) → IsWritable (x ∷ y ∷ rest) ↔ IsWritable (y ∷ rest)
writable-more (Reg r) y rest = (λ q. q, λ q. q)
writable-more (Const c) y rest = (λ q. q, λ q. q)
writable-more (AddrSB s n) y rest = (λ q. q, λ q. q)
writable-more (AddrFP n) y rest = (λ q. q, λ q. q)
writable-more (AddrSP n) y rest = (λ q. q, λ q. q)
writable-more (MemSB s n) y rest = (λ q. q, λ q. q)
writable-more (MemFP n) y rest = (λ q. q, λ q. q)
writable-more (MemSP n) y rest = (λ q. q, λ q. q)
writable-more (MemReg r n) y rest = (λ q. q, λ q. q)
writable-more (Label l) y rest = (λ q. q, λ q. q)
writable-more (Func s) y rest = (λ q. q, λ q. q)
writable-more Hi y rest = (λ q. q, λ q. q)
writable-more Lo y rest = (λ q. q, λ q. q)
writable-more (Auto v n) y rest = (λ q. q, λ q. q)
writable-more (AutoAddr v n) y rest = (λ q. q, λ q. q)

pub writable_last : (operands : List Operand) (o : Operand) → slice_get operands (length operands - 1) ≡ Some o → IsWritable operands ↔ IsWrittenRegister o
writable_last [] o h = cc
writable_last (x ∷ []) o h =
    let e : x ≡ o = cc in
    let P : Operand → Type 0 = λ v. IsWritable (x ∷ []) ↔ IsWrittenRegister v in
    subst P e (writable-one x)
writable_last (x ∷ y ∷ rest) o h =
    let more = writable-more x y rest in
    let last = writable_last (y ∷ rest) o (last-more x y rest o h) in
    (λ q. last.0 (more.0 q), λ q. more.1 (last.1 q))
