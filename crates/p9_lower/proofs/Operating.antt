-- What the operators of a source give of two values, the operators of its trees give too.
use Rattle.std.proofs.Common.{◌≡◌, ◌<◌, ℕ, zero, suc, ◌-◌, ◌/◌, ◌^◌, ◌==◌, ◌&&◌, Bool, true, false, if◌then◌else◌, List, [], ◌∷◌, Option, Some, None, Result, Ok, Err, refl, sym, ap, ◌∙◌, subst, arith, inl, inr}
use Rattle.std.specs.List.{list_any}
use Rattle.std.proofs.lemmas.Bool.Decides.{eqb_tells}
use Rattle.p9_base.specs.Words.{word_difference, word_negation, is_negative, with_sign, signed_quotient, signed_remainder}
use Rattle.p9_lang.specs.declared.tree.CBinary.{CBinary}
use Rattle.p9_lang.specs.declared.tree.CBinary.TheVariants as operator
use Rattle.p9_lang.specs.Types.{TypeTree}
use Rattle.p9_lang.specs.Conversions.{is_integer}
use Rattle.p9_lang.specs.Constants.{Divide, word_operation, least_word, minus_one, works_unsigned}
use Rattle.p9_cmean.specs.declared.Cause.{Cause}
use Rattle.p9_cmean.specs.declared.Cause.TheVariants as cause
use Rattle.p9_cmean.specs.Cells.{Value, Word, Address, Missing, Object}
use Rattle.p9_cmean.specs.Cells as cells
use Rattle.p9_cmean.specs.Access.{and_go, usable, is_dead, is_outside}
use Rattle.p9_cmean.specs.Operators.{word_or_cause, of_integers, of_pointers, within_one, compared, equality_of, inequality_of, whole_elements, elements_between, if_integer}
use Rattle.p9_tree.specs.declared.tree.BinOp.{BinOp}
use Rattle.p9_tree.specs.declared.tree.BinOp.TheVariants as bin
use Rattle.p9_tree.specs.Operations.{of_words, of_two}
use Rattle.p9_lower.specs.Operators.{word_operator}
use Rattle.p9_lower.specs.Premises.{is_size, works_on_words}

pub some_ok : {A : Type 0} (r : Result A Cause) (x : A) → Some r ≡ Some (Ok x) → r ≡ Ok x
some_ok r x e = cc

pub of_integer_type : {A : Type 0} (type : TypeTree) (o : Option A) (x : A) → if_integer type o ≡ Some x → o ≡ Some x
of_integer_type type o x e = by (is_integer type) e
  where
    by : (b : Bool) → (if b then o else None) ≡ Some x → o ≡ Some x
    by true e = e
    by false e = cc

-- USABLE POINTERS

pub record Opened (r : Result Value Cause) (dead outside : Bool) (x : Value) : Type 0 where
  pub gives : r ≡ Ok x
  pub alive : dead ≡ false
  pub within : outside ≡ false

opened : (dead outside : Bool) (r : Result Value Cause) (x : Value)
    → (if dead then Err cause.Dead else (if outside then Err cause.Range else r)) ≡ Ok x → Opened r dead outside x
opened true outside r x e = cc
opened false true r x e = cc
opened false false r x e = record { gives = e; alive = refl; within = refl }

usable_gives : (objects : List Object) (ps : List cells.Pointer) (r : Result Value Cause) (x : Value) → usable objects ps r ≡ Ok x
    → Opened r (list_any (is_dead objects) ps) (list_any (is_outside objects) ps) x
usable_gives objects ps r x e = opened (list_any (is_dead objects) ps) (list_any (is_outside objects) ps) r x e

usable_is : (objects : List Object) (ps : List cells.Pointer) (r : Result Value Cause) (y : Value)
    → list_any (is_dead objects) ps ≡ false → list_any (is_outside objects) ps ≡ false → r ≡ Ok y → usable objects ps r ≡ Ok y
usable_is objects ps r y d o e =
    ap (λ b. if b then Err cause.Dead else (if list_any (is_outside objects) ps then Err cause.Range else r)) d
    ∙ ap (λ b. if b then Err cause.Range else r) o ∙ e

-- COMPARISONS

word_of : (r : Result ℕ Cause) (x : Value) → and_go r (λ n. Ok (Word n)) ≡ Ok x → (n : ℕ) × (r ≡ Ok n) × (Word n ≡ x)
word_of (Ok n) x e = (n, refl, cc)
word_of (Err why) x e = cc

-- an operation within one object has two pointers
needs_both : (objects : List Object) (ps : List cells.Pointer) (x : Value) → usable objects ps (and_go (Err cause.Compare) (λ n. Ok (Word n))) ≡ Ok x → ⊥
needs_both objects ps x e = let h = usable_gives objects ps (Err cause.Compare) x e in let g : Err cause.Compare ≡ Ok x = h.gives in cc

pub compared_is : (test : ℕ → ℕ → Bool) (op : BinOp) (objects : List Object) (v w x : Value)
    → ((p q : cells.Pointer) → of_pointers objects (Address p) (Address q) (compared test) ≡ of_two op objects (Address p) (Address q))
    → of_pointers objects v w (compared test) ≡ Ok x → of_two op objects v w ≡ Ok x
compared_is test op objects (Word zero) (Word zero) x h e = cc
compared_is test op objects (Word zero) (Word (suc n)) x h e = cc
compared_is test op objects (Word zero) (Address q) x h e = absurd (needs_both objects (q ∷ []) x e)
compared_is test op objects (Word zero) (Missing c) x h e = cc
compared_is test op objects (Word (suc m)) w x h e = cc
compared_is test op objects (Address p) (Word zero) x h e = absurd (needs_both objects (p ∷ []) x e)
compared_is test op objects (Address p) (Word (suc n)) x h e = cc
compared_is test op objects (Address p) (Address q) x h e = sym (h p q) ∙ e
compared_is test op objects (Address p) (Missing c) x h e = cc
compared_is test op objects (Missing c) w x h e = cc

pub equality_is : (objects : List Object) (v w x : Value) → equality_of objects v w ≡ Ok x → of_two bin.Eq objects v w ≡ Ok x
equality_is objects (Word zero) (Word zero) x e = e
equality_is objects (Word zero) (Word (suc n)) x e = cc
equality_is objects (Word zero) (Address q) x e = e
equality_is objects (Word zero) (Missing c) x e = cc
equality_is objects (Word (suc m)) w x e = cc
equality_is objects (Address p) (Word zero) x e = e
equality_is objects (Address p) (Word (suc n)) x e = cc
equality_is objects (Address p) (Address q) x e = e
equality_is objects (Address p) (Missing c) x e = cc
equality_is objects (Missing c) w x e = cc

pub inequality_is : (objects : List Object) (v w x : Value) → inequality_of objects v w ≡ Ok x → of_two bin.Ne objects v w ≡ Ok x
inequality_is objects (Word zero) (Word zero) x e = e
inequality_is objects (Word zero) (Word (suc n)) x e = cc
inequality_is objects (Word zero) (Address q) x e = e
inequality_is objects (Word zero) (Missing c) x e = cc
inequality_is objects (Word (suc m)) w x e = cc
inequality_is objects (Address p) (Word zero) x e = e
inequality_is objects (Address p) (Word (suc n)) x e = cc
inequality_is objects (Address p) (Address q) x e = e
inequality_is objects (Address p) (Missing c) x e = cc
inequality_is objects (Missing c) w x e = cc

-- DIFFERENCES

-- two pointers into one object, by their offsets
pub record Between (objects : List Object) (size : ℕ) (v w x : Value) : Type 0 where
  pub from : ℕ
  pub to : ℕ
  pub elements : ℕ
  pub bytes : of_two bin.Sub objects v w ≡ Ok (Word (word_difference from to))
  pub are_whole : whole_elements size (word_difference from to) ≡ Ok elements
  pub gives : Word elements ≡ x

between_offsets : (objects : List Object) (size : ℕ) (o a o' b : ℕ) (same : Bool) (x : Value)
    → (o == o') ≡ same
    → usable objects (cells.Into o a ∷ (cells.Into o' b ∷ [])) (and_go (if same then elements_between size a b else Err cause.Compare) (λ n. Ok (Word n))) ≡ Ok x
    → Between objects size (Address (cells.Into o a)) (Address (cells.Into o' b)) x
between_offsets objects size o a o' b false x h e = absurd (needs_both objects (cells.Into o a ∷ (cells.Into o' b ∷ [])) x e)
between_offsets objects size o a o' b true x h e =
    let g = usable_gives objects (cells.Into o a ∷ (cells.Into o' b ∷ [])) (and_go (elements_between size a b) (λ n. Ok (Word n))) x e in
    let n = word_of (elements_between size a b) x g.gives in
    record {
      from = a;
      to = b;
      elements = n.0;
      bytes = usable_is objects (cells.Into o a ∷ (cells.Into o' b ∷ []))
          (and_go (if o == o' then Ok (word_difference a b) else Err cause.Compare) (λ n. Ok (Word n))) (Word (word_difference a b)) g.alive g.within
          (ap (λ c. and_go (if c then Ok (word_difference a b) else Err cause.Compare) (λ n. Ok (Word n))) h);
      are_whole = n.1;
      gives = n.2;
    }

pub pointers_differ : (objects : List Object) (size : ℕ) (v w x : Value)
    → of_pointers objects v w (within_one (elements_between size)) ≡ Ok x → Between objects size v w x
pointers_differ objects size (Word zero) (Word zero) x e = cc
pointers_differ objects size (Word zero) (Word (suc n)) x e = cc
pointers_differ objects size (Word zero) (Address q) x e = absurd (needs_both objects (q ∷ []) x e)
pointers_differ objects size (Word zero) (Missing c) x e = cc
pointers_differ objects size (Word (suc m)) w x e = cc
pointers_differ objects size (Address p) (Word zero) x e = absurd (needs_both objects (p ∷ []) x e)
pointers_differ objects size (Address p) (Word (suc n)) x e = cc
pointers_differ objects size (Address (cells.Into o a)) (Address (cells.Into o' b)) x e = between_offsets objects size o a o' b (o == o') x refl e
pointers_differ objects size (Address (cells.Into o a)) (Address (cells.ToFunction g)) x e =
    absurd (needs_both objects (cells.Into o a ∷ (cells.ToFunction g ∷ [])) x e)
pointers_differ objects size (Address (cells.ToFunction f)) (Address q) x e = absurd (needs_both objects (cells.ToFunction f ∷ (q ∷ [])) x e)
pointers_differ objects size (Address p) (Missing c) x e = cc
pointers_differ objects size (Missing c) w x e = cc

quotient_of_whole : (size d n : ℕ) (whole : Bool) → (if whole then Ok (signed_quotient d size) else Err cause.Compare) ≡ Ok n → signed_quotient d size ≡ n
quotient_of_whole size d n true e = cc
quotient_of_whole size d n false e = cc

not_minus_one : (size : ℕ) → is_size size ≡ true → (size == minus_one) ≡ false
not_minus_one size h =
    elim (eqb_tells size minus_one) [
      | inl p ↦ let f : is_size minus_one ≡ true = subst (λ k. is_size k ≡ true) p.1 h in cc
      | inr p ↦ p.0
    ]

divides_well : (least minus : Bool) (n : ℕ) → minus ≡ false → word_or_cause (if least && minus then Err Divide else Ok n) ≡ Ok (Word n)
divides_well true true n h = cc
divides_well true false n h = refl
divides_well false minus n h = refl

pub whole_divided : (size d n : ℕ) → is_size size ≡ true → whole_elements size d ≡ Ok n → of_words bin.Div d size ≡ Ok (Word n)
whole_divided zero d n h e = cc
whole_divided (suc b) d n h e =
    divides_well (d == least_word) (suc b == minus_one) (signed_quotient d (suc b)) (not_minus_one (suc b) h)
    ∙ ap (λ k. Ok (Word k)) (quotient_of_whole (suc b) d n (signed_remainder d (suc b) == 0) e)

by_one : (n : ℕ) → n / 1 ≡ n
by_one n = omega arith

quotient_by_one : (d : ℕ) (negative : Bool) → d < 2 ^ 32 → with_sign (if negative then true else false) ((if negative then 2 ^ 32 - d else d) / 1) ≡ d
quotient_by_one d true h = ap word_negation (by_one (2 ^ 32 - d)) ∙ (omega arith)
quotient_by_one d false h = by_one d

pub whole_of_one : (d n : ℕ) → d < 2 ^ 32 → whole_elements 1 d ≡ Ok n → d ≡ n
whole_of_one d n h e = sym (quotient_by_one d (is_negative d) h) ∙ quotient_of_whole 1 d n (signed_remainder d 1 == 0) e

-- INTEGERS

words_alike : (op : CBinary) (unsigned : Bool) (m n : ℕ) → works_on_words op ≡ true
    → word_or_cause (word_operation op unsigned m n) ≡ of_words (word_operator op unsigned) m n
words_alike operator.Mul u m n h = refl
words_alike operator.Div true m n h = refl
words_alike operator.Div false m n h = refl
words_alike operator.Rem true m n h = refl
words_alike operator.Rem false m n h = refl
words_alike operator.Add u m n h = refl
words_alike operator.Sub u m n h = refl
words_alike operator.Shl u m n h = refl
words_alike operator.Shr true m n h = refl
words_alike operator.Shr false m n h = refl
words_alike operator.Lt true m n h = refl
words_alike operator.Lt false m n h = refl
words_alike operator.Gt true m n h = refl
words_alike operator.Gt false m n h = refl
words_alike operator.Le true m n h = refl
words_alike operator.Le false m n h = refl
words_alike operator.Ge true m n h = refl
words_alike operator.Ge false m n h = refl
words_alike operator.Eq u m n h = refl
words_alike operator.Ne u m n h = refl
words_alike operator.And u m n h = refl
words_alike operator.Xor u m n h = refl
words_alike operator.Or u m n h = refl
words_alike operator.AndAnd u m n h = cc
words_alike operator.OrOr u m n h = cc

pub integers_are : (op : CBinary) (left right : TypeTree) (objects : List Object) (v w x : Value) → works_on_words op ≡ true
    → of_integers op left right v w ≡ Ok x → of_two (word_operator op (works_unsigned op left right)) objects v w ≡ Ok x
integers_are op left right objects (Word m) (Word n) x h e = sym (words_alike op (works_unsigned op left right) m n h) ∙ e
integers_are op left right objects (Word m) (Address q) x h e = cc
integers_are op left right objects (Word m) (Missing c) x h e = cc
integers_are op left right objects (Address p) w x h e = cc
integers_are op left right objects (Missing c) w x h e = cc
