-- Instructions as bytes: what the writers of code cite.
use Rattle.std.proofs.Common.{◌≡◌, ◌<◌, ℕ, ◌+◌, List, [], ◌∷◌, ◌++◌, length, Some, None, Result, Ok, Err, OnOk, refl, sym, ap, subst, ◌∙◌, arith, append_assoc, rules}
use Rattle.std.proofs.lemmas.List.Concat.{flat_map-append}
use Rattle.p9_r3k.specs.declared.inst.Inst.{Inst}
use Rattle.p9_r3k.specs.Table.{word_of}
use Rattle.p9_base.specs.Numbers.{word_bytes}
use Rattle.p9_form.specs.declared.file.Statement.{Statement}
use Rattle.p9_form.specs.declared.file.Statement.TheVariants.{Assign, Write, Exits}
use Rattle.p9_form.specs.Sharing.{statement_data, statements_data}
use Rattle.p9_straight.specs.Code.{statement_code, statements_code, text_after}
use Rattle.p9_straight.specs.Building.{emitted, AreFitting}

pub emitted_append : (xs ys : List Inst) → emitted (xs ++ ys) ≡ emitted xs ++ emitted ys
unfolding emitted
emitted_append xs ys = flat_map-append (λ i. word_bytes (word_of i)) xs ys

pub emitted_nothing : (bytes : List ℕ) → bytes ++ emitted [] ≡ bytes
unfolding emitted
emitted_nothing bytes = search rules

-- code behind code
pub code_then : (before between after : List ℕ) (xs ys : List Inst) → between ≡ before ++ emitted xs → after ≡ between ++ emitted ys → after ≡ before ++ emitted (xs ++ ys)
code_then before between after xs ys p q =
    q ∙ ap (λ bs. bs ++ emitted ys) p ∙ append_assoc before (emitted xs) (emitted ys) ∙ ap (λ bs. before ++ bs) (sym (emitted_append xs ys))

-- the same, where the last piece may have failed
pub code_last : {E : Type 0} (r : Result (Unit {0}) E) (before between after : List ℕ) (xs ys : List Inst) → between ≡ before ++ emitted xs → OnOk r (after ≡ between ++ emitted ys) → OnOk r (after ≡ before ++ emitted (xs ++ ys))
code_last (Ok u) before between after xs ys p q = code_then before between after xs ys p q
code_last (Err e) before between after xs ys p q = tt

-- three pieces, the second of which ends with an instruction
pub code_sum : {E : Type 0} (r : Result (Unit {0}) E) (before one two after : List ℕ) (xs ys zs : List Inst) (i : Inst) → one ≡ before ++ emitted xs → two ≡ one ++ emitted (ys ++ i ∷ []) → OnOk r (after ≡ two ++ emitted zs) → OnOk r (after ≡ before ++ emitted (xs ++ (ys ++ i ∷ zs)))
code_sum (Ok u) before one two after xs ys zs i p q r =
    code_then before one after xs (ys ++ i ∷ zs) p (code_then one two after (ys ++ i ∷ []) zs q r ∙ ap (λ code. one ++ emitted code) (append_assoc ys (i ∷ []) zs))
code_sum (Err e) before one two after xs ys zs i p q r = tt

-- an instruction before those that are left
pub code_turn : (before now whole : List ℕ) (i : Inst) (next rest : List Inst) → rest ≡ i ∷ next → now ≡ before ++ emitted (i ∷ []) → AreFitting rest × (before ++ emitted rest ≡ whole) → AreFitting next × (now ++ emitted next ≡ whole)
code_turn before now whole i next rest e p q =
    let P : List Inst → Type 0 = λ code. AreFitting code × (before ++ emitted code ≡ whole) in
    let at = subst P e q in
    (at.0.1, ap (λ bs. bs ++ emitted next) p ∙ append_assoc before (emitted (i ∷ [])) (emitted next) ∙ ap (λ bs. before ++ bs) (sym (emitted_append (i ∷ []) next)) ∙ at.1)

pub code_end : (now whole : List ℕ) (rest : List Inst) → length rest ≡ 0 → now ++ emitted rest ≡ whole → now ≡ whole
code_end now whole [] e p = sym (emitted_nothing now) ∙ p
code_end now whole (i ∷ rest) e p = absurd (omega arith)

-- Statements

pub text_after_is : (at : ℕ) (s : Statement) → text_after at s ≡ at + statement_data s
text_after_is at (Assign x left right) = omega arith
text_after_is at (Write text count) = refl
text_after_is at (Exits None) = omega arith
text_after_is at (Exits (Some text)) = refl

-- a statement before those that are left
pub statements_turn : (place : List ℕ → ℕ) (end at next_at : ℕ) (s : Statement) (next rest : List Statement) (before now whole : List ℕ) → rest ≡ s ∷ next → next_at ≡ text_after at s → now ≡ before ++ emitted (statement_code place at s) → (at + statements_data rest < 4294967296) × (before ++ emitted (statements_code place at end rest) ≡ whole) → (next_at + statements_data next < 4294967296) × (now ++ emitted (statements_code place next_at end next) ≡ whole)
statements_turn place end at next_at s next rest before now whole e n p q =
    let P : List Statement → Type 0 = λ ss. (at + statements_data ss < 4294967296) × (before ++ emitted (statements_code place at end ss) ≡ whole) in
    let here = subst P e q in
    let moved : next_at ≡ at + statement_data s = n ∙ text_after_is at s in (
      omega (arith, here.0, moved),
      ap (λ a. now ++ emitted (statements_code place a end next)) n
          ∙ ap (λ bs. bs ++ emitted (statements_code place (text_after at s) end next)) p
          ∙ append_assoc before (emitted (statement_code place at s)) (emitted (statements_code place (text_after at s) end next))
          ∙ ap (λ bs. before ++ bs) (sym (emitted_append (statement_code place at s) (statements_code place (text_after at s) end next)))
          ∙ here.1,
    )
