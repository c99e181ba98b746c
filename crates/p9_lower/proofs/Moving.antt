-- Pointers that are moved by elements and bytes, and what is between them.
use Rattle.std.proofs.Common.{◌≡◌, ℕ, zero, suc, ◌+◌, ◌-◌, ◌*◌, ◌%◌, ◌^◌, ◌||◌, Bool, true, false, not, if◌then◌else◌, List, Option, Some, None, Result, Ok, Err, refl, sym, ap, ◌∙◌, add_comm, mul-one}
use Rattle.std.proofs.Math.Nat.{add-mod-mod}
use Rattle.p9_base.specs.Words.{word_sum, word_difference, word_product, is_negative, magnitude, word_negation}
use Rattle.p9_lang.specs.Types.{TypeTree}
use Rattle.p9_lang.specs.Conversions.{is_unsigned}
use Rattle.p9_cmean.specs.declared.Cause.{Cause}
use Rattle.p9_cmean.specs.declared.Cause.TheVariants as cause
use Rattle.p9_cmean.specs.Cells.{Value, Word, Address, Missing, Object}
use Rattle.p9_cmean.specs.Cells as cells
use Rattle.p9_cmean.specs.Access.{and_go, pointer_in, moved, moved_inside, with_offset, stays_within, is_dead, is_outside}
use Rattle.p9_tree.specs.declared.tree.BinOp.TheVariants as bin
use Rattle.p9_tree.specs.Operations.{of_two}
use Rattle.p9_cmean.specs.Operators.{element_offset, moved_by, moved_elements}

-- a pointer whose offset goes to another
abbrev pub moved_value : (ℕ → ℕ) → Option cells.Pointer → Value
moved_value to None = Word (to 0)
moved_value to (Some p) = Address (with_offset to p)

usable_gives : (dead outside stays : Bool) (y x : Value)
    → (if dead then Err cause.Dead else (if outside then Err cause.Range else (if stays then Ok y else Err cause.Range))) ≡ Ok x → y ≡ x
usable_gives true outside stays y x e = cc
usable_gives false true stays y x e = cc
usable_gives false false true y x e = cc
usable_gives false false false y x e = cc

pub moved_gives : (objects : List Object) (back : Bool) (bytes : ℕ) (to : ℕ → ℕ) (p : Option cells.Pointer) (x : Value)
    → moved objects back bytes to p ≡ Ok x → moved_value to p ≡ x
moved_gives objects back zero to None x e = cc
moved_gives objects back (suc n) to None x e = cc
moved_gives objects back zero to (Some p) x e =
    usable_gives (is_dead objects p || false) (is_outside objects p || false) (stays_within objects p back 0) (Address (with_offset to p)) x e
moved_gives objects back (suc n) to (Some p) x e =
    usable_gives (is_dead objects p || false) (is_outside objects p || false) (stays_within objects p back (suc n)) (Address (with_offset to p)) x e

either_gives : (b : Bool) (r q : Result Value Cause) (y x : Value) → (r ≡ Ok x → y ≡ x) → (q ≡ Ok x → y ≡ x) → (if b then r else q) ≡ Ok x → y ≡ x
either_gives true r q y x h g e = h e
either_gives false r q y x h g e = g e

moved_by_gives : (objects : List Object) (back : Bool) (size : ℕ) (type : TypeTree) (n : ℕ) (p : Option cells.Pointer) (x : Value)
    → moved_by objects back size type n p ≡ Ok x → moved_value (element_offset back size n) p ≡ x
moved_by_gives objects back size type n p x e =
    either_gives (is_unsigned type || not (is_negative n))
    (moved objects back (n * size) (element_offset back size n) p)
    (moved objects (not back) (magnitude n * size) (element_offset back size n) p)
    (moved_value (element_offset back size n) p) x
    (moved_gives objects back (n * size) (element_offset back size n) p x)
    (moved_gives objects (not back) (magnitude n * size) (element_offset back size n) p x) e

-- what is moved is a pointer, by a number
pub record Moves (back : Bool) (size : ℕ) (v w x : Value) : Type 0 where
  pub count : ℕ
  pub pointer : Option cells.Pointer
  pub counts : w ≡ Word count
  pub points : pointer_in v ≡ Ok pointer
  pub gives : moved_value (element_offset back size count) pointer ≡ x

pub elements_move : (objects : List Object) (back : Bool) (size : ℕ) (type : TypeTree) (v w x : Value)
    → moved_elements objects back size type v w ≡ Ok x → Moves back size v w x
elements_move objects back size type (Word zero) (Word n) x e =
    record { count = n; pointer = None; counts = refl; points = refl; gives = moved_by_gives objects back size type n None x e }
elements_move objects back size type (Word zero) (Address q) x e = cc
elements_move objects back size type (Word zero) (Missing c) x e = cc
elements_move objects back size type (Word (suc k)) w x e = cc
elements_move objects back size type (Address p) (Word n) x e =
    record { count = n; pointer = Some p; counts = refl; points = refl; gives = moved_by_gives objects back size type n (Some p) x e }
elements_move objects back size type (Address p) (Address q) x e = cc
elements_move objects back size type (Address p) (Missing c) x e = cc
elements_move objects back size type (Missing c) w x e = cc

-- THE SAME BY WORDS

some_pointer : (p : cells.Pointer) (q : Option cells.Pointer) (to : ℕ → ℕ) → pointer_in (Address p) ≡ Ok q → Address (with_offset to p) ≡ moved_value to q
some_pointer p (Some q) to e = let h : p ≡ q = cc in ap (λ r. Address (with_offset to r)) h
some_pointer p None to e = cc

no_pointer : (q : Option cells.Pointer) (to : ℕ → ℕ) → pointer_in (Word 0) ≡ Ok q → Word (to 0) ≡ moved_value to q
no_pointer (Some q) to e = cc
no_pointer None to e = refl

pub word_added : (objects : List Object) (v : Value) (q : Option cells.Pointer) (m : ℕ) → pointer_in v ≡ Ok q
    → of_two bin.Add objects v (Word m) ≡ Ok (moved_value (λ start. word_sum start m) q)
word_added objects (Word zero) q m e = ap Ok (no_pointer q (λ start. word_sum start m) e)
word_added objects (Word (suc n)) q m e = cc
word_added objects (Address p) q m e = ap Ok (some_pointer p q (λ start. word_sum start m) e)
word_added objects (Missing c) q m e = cc

pub added_to_word : (objects : List Object) (v : Value) (q : Option cells.Pointer) (m : ℕ) → pointer_in v ≡ Ok q
    → of_two bin.Add objects (Word m) v ≡ Ok (moved_value (λ start. word_sum start m) q)
added_to_word objects (Word zero) q m e =
    ap (λ n. Ok (Word (n % 2 ^ 32))) (add_comm m 0) ∙ ap Ok (no_pointer q (λ start. word_sum start m) e)
added_to_word objects (Word (suc n)) q m e = cc
added_to_word objects (Address p) q m e = ap Ok (some_pointer p q (λ start. word_sum start m) e)
added_to_word objects (Missing c) q m e = cc

pub word_subtracted : (objects : List Object) (v : Value) (q : Option cells.Pointer) (m : ℕ) → pointer_in v ≡ Ok q
    → of_two bin.Sub objects v (Word m) ≡ Ok (moved_value (λ start. word_difference start m) q)
word_subtracted objects (Word zero) q m e = ap Ok (no_pointer q (λ start. word_difference start m) e)
word_subtracted objects (Word (suc n)) q m e = cc
word_subtracted objects (Address p) q m e = ap Ok (some_pointer p q (λ start. word_difference start m) e)
word_subtracted objects (Missing c) q m e = cc

-- to a member or substructure
pub inside_moves : (objects : List Object) (offset : ℕ) (r : Result (Option cells.Pointer) Cause) (x : Value)
    → and_go r (moved objects false offset (λ start. word_sum start offset)) ≡ Ok x
    → (q : Option cells.Pointer) × (r ≡ Ok q) × (moved_value (λ start. word_sum start offset) q ≡ x)
inside_moves objects offset (Ok q) x e = (q, refl, moved_gives objects false offset (λ start. word_sum start offset) q x e)
inside_moves objects offset (Err why) x e = cc

pub inside_is_added : (objects : List Object) (offset : ℕ) (v x : Value) → moved_inside objects offset v ≡ Ok x
    → of_two bin.Add objects v (Word offset) ≡ Ok x
inside_is_added objects offset v x e =
    let h = inside_moves objects offset (pointer_in v) x e in word_added objects v h.0 offset h.1 ∙ ap Ok h.2

-- one byte is one element
pub one_element : (start n : ℕ) → word_sum start (word_product n 1) ≡ word_sum start n
one_element start n = add-mod-mod start (n * 1) (2 ^ 32) ∙ ap (λ k. (start + k) % 2 ^ 32) (mul-one n)

moved_alike : (f g : ℕ → ℕ) → ((n : ℕ) → f n ≡ g n) → (q : Option cells.Pointer) → moved_value f q ≡ moved_value g q
moved_alike f g h None = ap Word (h 0)
moved_alike f g h (Some (cells.Into o n)) = ap (λ k. Address (cells.Into o k)) (h n)
moved_alike f g h (Some (cells.ToFunction x)) = refl

pub one_element_moved : (n : ℕ) (q : Option cells.Pointer) → moved_value (element_offset false 1 n) q ≡ moved_value (λ start. word_sum start n) q
one_element_moved n q = moved_alike (element_offset false 1 n) (λ start. word_sum start n) (λ start. one_element start n) q

-- a step back is a step by the negated amount
pub back_is_negated : (start n : ℕ) → word_difference start n ≡ word_sum start (word_negation n)
back_is_negated start n = sym (add-mod-mod start (2 ^ 32 - n) (2 ^ 32))

pub negated_moved : (size : ℕ) (q : Option cells.Pointer)
    → moved_value (element_offset true size 1) q ≡ moved_value (λ start. word_sum start (word_negation (word_product 1 size))) q
negated_moved size q =
    moved_alike (element_offset true size 1) (λ start. word_sum start (word_negation (word_product 1 size)))
    (λ start. back_is_negated start (word_product 1 size)) q
