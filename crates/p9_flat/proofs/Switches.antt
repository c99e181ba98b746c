-- The labels of a switch lead to its arms.
use Rattle.std.proofs.Common.{◌≡◌, ℕ, zero, suc, ◌+◌, ◌==◌, Bool, true, false, if◌then◌else◌, List, ◌∷◌, length, option_map, Option, Some, None, refl, ap, subst, ◌∙◌, arith, length-append}
use Rattle.p9_lang.specs.declared.tree.Kind.TheVariants as kind
use Rattle.p9_lang.specs.Trees.{node, none, more}
use Rattle.p9_lang.specs.Types.{Tags}
use Rattle.p9_lang.specs.Constants.{Constant, NotConstant, Undefined, constant_of}
use Rattle.p9_lang.specs.Constants as constants
use Rattle.p9_lang.specs.Modules.{Typed, TypedRow}
use Rattle.p9_cmean.specs.Cells.{Value, Word, State}
use Rattle.p9_cmean.specs.Plays.{Play}
use Rattle.p9_cmean.specs.Statements.{is_value, is_case_of, is_default, parts_before}
use Rattle.p9_flat.specs.declared.op.Op.{Op}
use Rattle.p9_flat.specs.declared.op.Op.TheVariants as op
use Rattle.p9_flat.specs.Code.{Setting}
use Rattle.p9_flat.specs.Flat.{HasAt, Ends, case_code, label_code, statement_code, labels_code, default_at}
use Rattle.p9_flat.specs.Step.{Own, frame, chosen_case}
use Rattle.p9_flat.proofs.Playing.{has_first, has_second, by_next}
use Rattle.p9_flat.proofs.Runs.{World, PlaysIn}

-- where an arm stands
abbrev pub arm_at : Setting → Ends → (pc : ℕ) → TypedRow → ℕ → ℕ
arm_at setting ends pc none n = pc
arm_at setting ends pc (more first others) zero = pc
arm_at setting ends pc (more first others) (suc n) = arm_at setting ends (pc + length (statement_code setting ends pc first)) others n

abbrev pub arm_or : Setting → Ends → (pc otherwise : ℕ) → TypedRow → Option ℕ → ℕ
arm_or setting ends pc otherwise arms None = otherwise
arm_or setting ends pc otherwise arms (Some n) = arm_at setting ends pc arms n

pub default_is : (setting : Setting) (ends : Ends) (arms : TypedRow) (pc otherwise : ℕ)
    → default_at setting ends pc otherwise arms ≡ arm_or setting ends pc otherwise arms (parts_before is_default arms)
default_is setting ends none pc otherwise = refl
default_is setting ends (more first others) pc otherwise =
    by (is_default first) (default_is setting ends others (pc + length (statement_code setting ends pc first)) otherwise)
  where
    next : ℕ
    next = pc + length (statement_code setting ends pc first)

    later : (o : Option ℕ) → arm_or setting ends next otherwise others o ≡ arm_or setting ends pc otherwise (more first others) (option_map suc o)
    later None = refl
    later (Some n) = refl

    by : (b : Bool) → default_at setting ends next otherwise others ≡ arm_or setting ends next otherwise others (parts_before is_default others)
        → (if b then pc else default_at setting ends next otherwise others)
        ≡ arm_or setting ends pc otherwise (more first others) (if b then Some 0 else option_map suc (parts_before is_default others))
    by true same = refl
    by false same = same ∙ later (parts_before is_default others)

module _ (w : World) (own : Own) (word : ℕ) (stack : List Value) (p : Play Value) (t : State) where
  -- one label, and then the others
  label_plays : (c : Constant) (pc to fin : ℕ) → HasAt w.all pc (case_code c to) → fin ≡ pc + length (case_code c to)
      → (is_value word c ≡ true → PlaysIn w p (frame to stack own) t)
      → (is_value word c ≡ false → PlaysIn w p (frame fin (Word word ∷ stack) own) t)
      → PlaysIn w p (frame pc (Word word ∷ stack) own) t
  label_plays NotConstant pc to fin h e found other = subst (λ m. PlaysIn w p (frame m (Word word ∷ stack) own) t) (omega (arith, e)) (other refl)
  label_plays Undefined pc to fin h e found other = subst (λ m. PlaysIn w p (frame m (Word word ∷ stack) own) t) (omega (arith, e)) (other refl)
  label_plays constants.Null pc to fin h e found other = subst (λ m. PlaysIn w p (frame m (Word word ∷ stack) own) t) (omega (arith, e)) (other refl)
  label_plays (constants.Value n) pc to fin h e found other = by (n == word) refl
    where
      by : (b : Bool) → (n == word) ≡ b → PlaysIn w p (frame pc (Word word ∷ stack) own) t
      by true same =
          by_next w.names w.all w.below p (frame pc (Word word ∷ stack) own) (frame to stack own) t t (op.Case n to) h.0
          (ap (λ b. chosen_case b to (Word word) (frame pc stack own) t) same) (found same)
      by false same =
          by_next w.names w.all w.below p (frame pc (Word word ∷ stack) own) (frame (suc pc) (Word word ∷ stack) own) t t (op.Case n to) h.0
          (ap (λ b. chosen_case b to (Word word) (frame pc stack own) t) same)
          (subst (λ m. PlaysIn w p (frame m (Word word ∷ stack) own) t) (omega (arith, e)) (other same))

  one_label : (tags : Tags) (first : Typed) (pc to fin : ℕ) → HasAt w.all pc (label_code tags to first) → fin ≡ pc + length (label_code tags to first)
      → (is_case_of tags word first ≡ true → PlaysIn w p (frame to stack own) t)
      → (is_case_of tags word first ≡ false → PlaysIn w p (frame fin (Word word ∷ stack) own) t)
      → PlaysIn w p (frame pc (Word word ∷ stack) own) t
  one_label tags (node kind.Case label (more constant none)) pc to fin h e found other = label_plays (constant_of tags constant) pc to fin h e found other
  one_label tags (node k label parts) pc to fin h e found other = subst (λ m. PlaysIn w p (frame m (Word word ∷ stack) own) t) (omega (arith, e)) (other refl)

  -- to the first arm with this word, or behind the labels
  pub labels_play : (setting : Setting) (ends : Ends) (arms : TypedRow) (at pc fin : ℕ) → HasAt w.all pc (labels_code setting ends at arms)
      → fin ≡ pc + length (labels_code setting ends at arms)
      → ((n : ℕ) → parts_before (is_case_of setting.around.tags word) arms ≡ Some n → PlaysIn w p (frame (arm_at setting ends at arms n) stack own) t)
      → (parts_before (is_case_of setting.around.tags word) arms ≡ None → PlaysIn w p (frame fin (Word word ∷ stack) own) t)
      → PlaysIn w p (frame pc (Word word ∷ stack) own) t
  labels_play setting ends none at pc fin h e found missing = subst (λ m. PlaysIn w p (frame m (Word word ∷ stack) own) t) (omega (arith, e)) (missing refl)
  labels_play setting ends (more first others) at pc fin h e found missing =
      let first_part : List Op = label_code setting.around.tags at first in
      let rest : List Op = labels_code setting ends (at + length (statement_code setting ends at first)) others in
      let l = length-append first_part rest in
      one_label setting.around.tags first pc at (pc + length first_part) (has_first w.all pc first_part rest h) refl
      (λ is. found 0 (ap (λ b. if b then Some 0 else option_map suc (parts_before (is_case_of setting.around.tags word) others)) is))
      (λ is. labels_play setting ends others (at + length (statement_code setting ends at first)) (pc + length first_part) fin
      (has_second w.all pc first_part rest (pc + length first_part) refl h) (omega (arith, e, l))
      (λ n same. found (suc n) (ap (λ b. if b then Some 0 else option_map suc (parts_before (is_case_of setting.around.tags word) others)) is ∙ ap (option_map suc) same))
      (λ same. missing (ap (λ b. if b then Some 0 else option_map suc (parts_before (is_case_of setting.around.tags word) others)) is ∙ ap (option_map suc) same)))
