-- A call stands before the last instruction of code that ends well.
use Rattle.std.proofs.Common.{◌≡◌, ◌<◌, ◌⊎◌, inl, inr, ℕ, zero, suc, ◌+◌, Some, List, [], ◌∷◌, length, map, slice_get, refl, sym, subst, arith}
use Rattle.p9_abs.specs.declared.instructions.Abs.{Abs}
use Rattle.p9_abs.specs.declared.instructions.Op.TheVariants.{Ret, Jmp}
use Rattle.p9_abs.specs.declared.forms.OperandKind.{OperandKind}
use Rattle.p9_abs.specs.declared.forms.OperandKind.TheVariants.{Target}
use Rattle.p9_abs.specs.Forms.{operand_kind, kinds_form}
use Rattle.p9_abs.specs.Validity.{EndsWell}
use Rattle.p9_abs.specs.Steps.{Mach, Around, Step, Next, Turns, Calls, Returns, Exits, Undefined, step, without_text, at_instruction, acts_as}
use Rattle.p9_compose.proofs.Shaping.{Plain, shaped}

abbrev IsCall : Step → Type 0
IsCall (Next z) = ⊥
IsCall (Turns taken z) = ⊥
IsCall (Calls to z) = Unit {0}
IsCall (Returns z) = ⊥
IsCall (Exits z) = ⊥
IsCall Undefined = ⊥

return-calls : (around : Around) (x : Mach) (kinds : List OperandKind) → IsCall (acts_as around (kinds_form Ret kinds) x) → ⊥
return-calls around x [] h = h
return-calls around x (k ∷ kinds) h = h

jump-calls : (around : Around) (x : Mach) (kinds : List OperandKind) → IsCall (acts_as around (kinds_form Jmp kinds) x) → ⊥
jump-calls around x [] h = h
jump-calls around x (Target l ∷ []) h = h
jump-calls around x _ h = h

last-calls : (around : Around) (code : List Abs) (x : Mach) (a : Abs) → slice_get code x.at ≡ Some a → (a.op ≡ Ret) ⊎ (a.op ≡ Jmp) → IsCall (step around code x) → ⊥
unfolding step
last-calls around code x a e last h = by last
  where
    is : IsCall (acts_as around (kinds_form a.op (map operand_kind a.operands)) (without_text x))
    is = subst (λ o. IsCall (at_instruction around o (without_text x))) e h

    by : (a.op ≡ Ret) ⊎ (a.op ≡ Jmp) → ⊥
    by (inl r) = return-calls around (without_text x) (map operand_kind a.operands) (subst (λ o. IsCall (acts_as around (kinds_form o (map operand_kind a.operands)) (without_text x))) r is)
    by (inr r) = jump-calls around (without_text x) (map operand_kind a.operands) (subst (λ o. IsCall (acts_as around (kinds_form o (map operand_kind a.operands)) (without_text x))) r is)

not-last : (code : List Abs) (k : ℕ) → EndsWell code → k < length code → ((a : Abs) → slice_get code k ≡ Some a → (a.op ≡ Ret) ⊎ (a.op ≡ Jmp) → ⊥) → k + 1 < length code
not-last [] k h i bad = absurd h
not-last (a ∷ []) zero h i bad = absurd (bad a refl h)
not-last (a ∷ []) (suc k) h i bad = absurd (omega (arith, i))
not-last (a ∷ b ∷ code) zero h i bad = omega arith
not-last (a ∷ b ∷ code) (suc k) h i bad = let r = not-last (b ∷ code) k h (omega (arith, i)) bad in omega (arith, r)

pub call-inside : (around : Around) (code : List Abs) (y z : Mach) (to : ℕ) → EndsWell code → step around code y ≡ Calls to z → z.at < length code
call-inside around code y z to well e =
    let plain : Plain (length code) y z = shaped around code y (Calls to z) e in
    let next = plain.at in
    let i = not-last code y.at well plain.inside (λ a f last. last-calls around code y a f last (subst IsCall (sym e) tt)) in
    omega (arith, next, i)
