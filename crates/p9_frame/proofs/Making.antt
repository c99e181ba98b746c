-- Starts of blocks, and the blocks that are made.
use Rattle.std.proofs.Common.{ℕ, zero, suc, ◌+◌, ◌≡◌, ◌≤◌, ◌<◌, true, false, Option, Some, refl, sym, ap, ◌∙◌, subst, arith, List, [], ◌∷◌, ◌++◌, length, slice_get, slice_index, get_or, map, drop, All, ◌⊎◌, inl, inr, append_assoc, length-append}
use Rattle.std.proofs.lemmas.List.{append-nil}
use Rattle.std.proofs.Math.ListN.{drop_of_length-le}
use Rattle.std.proofs.lemmas.Option.{slice_get_within, get_or_from_slice_get}
use Rattle.p9_abs.specs.declared.instructions.Operand.{Operand}
use Rattle.p9_abs.specs.declared.instructions.Operand.TheVariants.{Reg, Const, AddrSB, AddrFP, AddrSP, MemSB, MemFP, MemSP, MemReg, Label, Func, Hi, Lo, Auto, AutoAddr}
use Rattle.p9_abs.specs.declared.instructions.Abs.{Abs}
use Rattle.p9_abs.specs.declared.instructions.AFunction.{AFunction}
use Rattle.p9_abs.specs.declared.regions.Region.{Region}
use Rattle.p9_abs.specs.Automatics.{IsOperandOf}
use Rattle.p9_abs.specs.Regions.{home_at}
use Rattle.p9_abs.specs.Framed.{Plan, instruction, start_of, home_or_memory, framed_operand, shifts_code, blocks}
use Rattle.p9_homes.specs.Tables.{home_in}
use Rattle.p9_frame.specs.Plans.{held, at_call, plan_of}
use Rattle.p9_frame.specs.Emitted.{operand_in, framed_in, block_in, blocks_in}
use Rattle.p9_frame.proofs.Offsets.{drop-item}

pub framed-made : (F : Operand → Operand) (a b : Abs) (list : List Operand) → b ≡ a → list ≡ map F b.operands → instruction b.op list ≡ instruction a.op (map F a.operands)
framed-made F a b list e d = ap (instruction b.op) d ∙ ap (λ (z : Abs). instruction z.op (map F z.operands)) e

-- Starts

pub start-next : (code : List Abs) (table : List (Option ℕ)) (offsets : List ℕ) (i at before after next : ℕ) → at ≡ start_of (plan_of code table offsets) i →
    before ≡ length (at_call code i (held code table false i 12)) → after ≡ length (at_call code i (held code table true (i + 1) 12)) → next ≡ at + (before + 1 + after) →
    next ≡ start_of (plan_of code table offsets) (i + 1)
start-next code table offsets i at before after next e b a n =
    let d : start_of (plan_of code table offsets) (suc i) ≡ start_of (plan_of code table offsets) i + length (at_call code i (held code table false i 12)) + 1 + length (at_call code i (held code table true (i + 1) 12)) = refl in
    let q : next ≡ start_of (plan_of code table offsets) (suc i) = omega (arith, e, b, a, n, d) in
    q ∙ ap (start_of (plan_of code table offsets)) (let r : suc i ≡ i + 1 = omega arith in r)

module _ (list after : List ℕ) (i at : ℕ) (S : ℕ → ℕ) (size : length list ≡ i) (e : after ≡ list ++ at ∷ []) (here : at ≡ S i) (before : (k : ℕ) → k < i → slice_index list k ≡ S k) where
  at-push : (xs : List ℕ) (x : ℕ) (k : ℕ) → k < length xs → slice_index (xs ++ x ∷ []) k ≡ slice_index xs k
  at-push [] x k l = absurd (omega (arith, l))
  at-push (y ∷ xs) x zero l = refl
  at-push (y ∷ xs) x (suc k) l = at-push xs x k (omega (arith, l))

  at-last : (xs : List ℕ) (x : ℕ) → slice_index (xs ++ x ∷ []) (length xs) ≡ x
  at-last [] x = refl
  at-last (y ∷ xs) x = at-last xs x

  pub starts-pushed : (k : ℕ) → k < i + 1 → slice_index after k ≡ S k
  starts-pushed k l = ap (λ z. slice_index z k) e ∙ by (cases k i l)
    where
      cases : (k i : ℕ) → k < i + 1 → (k < i) ⊎ (k ≡ i)
      cases k i l = grind (arith)

      by : (k < i) ⊎ (k ≡ i) → slice_index (list ++ at ∷ []) k ≡ S k
      by (inl m) = at-push list at k (omega (arith, m, size)) ∙ before k m
      by (inr q) = ap (slice_index (list ++ at ∷ [])) (let z : k ≡ length list = omega (arith, q, size) in z) ∙ (at-last list at ∙ (here ∙ ap S (sym q)))

  pub starts-size : length after ≡ i + 1
  starts-size = ap length e ∙ (length-append list (at ∷ []) ∙ (let z : length list + 1 ≡ i + 1 = omega (arith, size) in z))

-- Blocks

pub block-end : (code : List Abs) (sizes : List ℕ) (table : List (Option ℕ)) (offsets starts : List ℕ) (taken i : ℕ) (out whole : List Abs) → length code ≤ i →
    out ++ blocks_in code sizes table offsets starts taken i (drop i code) ≡ whole → out ≡ whole
block-end code sizes table offsets starts taken i out whole l h =
    sym (append-nil out) ∙ (ap (λ z. out ++ blocks_in code sizes table offsets starts taken i z) (sym (drop_of_length-le code l)) ∙ h)

pub block-step : (code : List Abs) (sizes : List ℕ) (table : List (Option ℕ)) (offsets starts : List ℕ) (taken i : ℕ) (a : Abs) (out after whole : List Abs) → i < length code → a ≡ get_or code i a →
    after ≡ out ++ block_in code sizes table offsets starts taken i a → out ++ blocks_in code sizes table offsets starts taken i (drop i code) ≡ whole →
    after ++ blocks_in code sizes table offsets starts taken (i + 1) (drop (i + 1) code) ≡ whole
block-step code sizes table offsets starts taken i a out after whole l e d h =
    ap (λ z. z ++ blocks_in code sizes table offsets starts taken (i + 1) (drop (i + 1) code)) d
    ∙ (append_assoc out (block_in code sizes table offsets starts taken i a) (blocks_in code sizes table offsets starts taken (i + 1) (drop (i + 1) code))
    ∙ (ap (λ z. out ++ blocks_in code sizes table offsets starts taken i z) (sym (drop-item code a i l e)) ∙ h))

pub block-pushed : (old before middle after m1 m2 : List Abs) (x : Abs) → before ≡ old ++ m1 → middle ≡ before ++ x ∷ [] → after ≡ middle ++ m2 → after ≡ old ++ (m1 ++ (x ∷ m2))
block-pushed old before middle after m1 m2 x b m a =
    a ∙ (ap (λ z. z ++ m2) (m ∙ ap (λ z. z ++ x ∷ []) b)
    ∙ (append_assoc (old ++ m1) (x ∷ []) m2 ∙ append_assoc old m1 (x ∷ m2)))

map-same : {X : Type 0} (f g : X → X) (xs : List X) → ((k : ℕ) (x : X) → slice_get xs k ≡ Some x → f x ≡ g x) → map f xs ≡ map g xs
map-same f g [] h = refl
map-same f g (x ∷ xs) h = ap (λ z. z ∷ map f xs) (h 0 x refl) ∙ ap (λ z. g x ∷ z) (map-same f g xs (λ k y e. h (suc k) y e))

pub all-at : {X : Type 0} (P : X → Type 0) (xs : List X) (k : ℕ) (x : X) → All P xs → slice_get xs k ≡ Some x → P x
all-at P xs k x all e = subst P (get_or_from_slice_get xs k x x e) (all k x (slice_get_within xs k x e))

module _ (f : AFunction) (rs : List Region) (homes table : List (Option ℕ)) (offsets starts : List ℕ) (taken : ℕ) (home : (i v : ℕ) → home_in table i v ≡ home_at rs homes v i)
    (start : (i : ℕ) → i < length f.code → slice_index starts i ≡ start_of (plan_of f.code table offsets) i) where
  operand-same : (i : ℕ) (o : Operand) → IsOperandOf (length f.autos) (length f.code) o → operand_in table offsets starts taken i o ≡ framed_operand rs homes (plan_of f.code table offsets) taken i o
  operand-same i (Auto v o) h = ap (λ z. home_or_memory z (slice_index offsets v + o)) (home i v)
  operand-same i (AutoAddr v o) h = refl
  operand-same i (Label l) h = ap (λ z. Label z) (start l h)
  operand-same i (Reg r) h = refl
  operand-same i (Const c) h = refl
  operand-same i (AddrSB s o) h = refl
  operand-same i (AddrFP o) h = refl
  operand-same i (AddrSP o) h = refl
  operand-same i (MemSB s o) h = refl
  operand-same i (MemFP o) h = refl
  operand-same i (MemSP o) h = refl
  operand-same i (MemReg r o) h = refl
  operand-same i (Func s) h = refl
  operand-same i Hi h = refl
  operand-same i Lo h = refl

  abbrev p : Plan
  p = plan_of f.code table offsets

  pub blocks-same : (i : ℕ) (rest : List Abs) → ((k : ℕ) (a : Abs) → slice_get rest k ≡ Some a → All (IsOperandOf (length f.autos) (length f.code)) a.operands) →
      blocks_in f.code f.autos table offsets starts taken i rest ≡ blocks f rs homes (plan_of f.code table offsets) taken i rest
  blocks-same i [] valid = refl
  blocks-same i (a ∷ rest) valid =
      append_assoc (shifts_code f p (p.before i)) (framed_in table offsets starts taken i a ∷ shifts_code f p (p.after i)) (blocks_in f.code f.autos table offsets starts taken (i + 1) rest)
      ∙ (ap (λ z. shifts_code f p (p.before i) ++ (instruction a.op z ∷ (shifts_code f p (p.after i) ++ blocks_in f.code f.autos table offsets starts taken (i + 1) rest)))
      (map-same (operand_in table offsets starts taken i) (framed_operand rs homes p taken i) a.operands (λ k o e. operand-same i o (all-at (IsOperandOf (length f.autos) (length f.code)) a.operands k o (valid 0 a refl) e)))
      ∙ ap (λ z. shifts_code f p (p.before i) ++ (instruction a.op (map (framed_operand rs homes p taken i) a.operands) ∷ (shifts_code f p (p.after i) ++ z))) (blocks-same (i + 1) rest (λ k b e. valid (suc k) b e)))
