-- What is narrowed, read and stored by a type's width is what the type asks for.
use Rattle.std.proofs.Common.{◌≡◌, ℕ, ◌+◌, ◌*◌, ◌==◌, ◌&&◌, Bool, true, false, if◌then◌else◌, List, [], ◌∷◌, Result, Ok, Err, refl, ap, ◌∙◌, subst}
use Rattle.std.proofs.lemmas.Bool.{eqb-true}
use Rattle.std.specs.List.{list_any, list_all}
use Rattle.p9_lang.specs.Types.{TypeTree, Void, Char, UChar, Short, UShort, Int, UInt, Long, ULong, Pointer, Array, Function, Tagged, Tags}
use Rattle.p9_lang.specs.Layout.{size_of, alignment_of}
use Rattle.p9_lang.specs.Conversions.{is_integer}
use Rattle.p9_lang.specs.Constants.{narrowed}
use Rattle.p9_cmean.specs.declared.Cause.{Cause}
use Rattle.p9_cmean.specs.declared.Cause.TheVariants as cause
use Rattle.p9_cmean.specs.Cells.{Value, Word, Address, Missing, Cell, Unset, Byte, Part, Object}
use Rattle.p9_cmean.specs.Access.{and_go, null, target_in, accessed, is_unset, is_part, is_zero, number_of, integer_from, pointer_from, whole_pointer, loaded, stored}
use Rattle.p9_cmean.specs.Contents.{content_of, Integer, Reference}
use Rattle.p9_cmean.specs.Expressions.{narrow}
use Rattle.p9_tree.specs.declared.tree.Width.{Width}
use Rattle.p9_tree.specs.declared.tree.Width.TheVariants as width
use Rattle.p9_tree.specs.Operations.{narrowed_to, of_width, word_from, loaded_width, stored_width}
use Rattle.p9_lower.specs.Operators.{width_of}

-- one operation after the other
pub went : {A B : Type 0} (r : Result A Cause) (f g : A → Result B Cause) (x : B)
    → ((a : A) → f a ≡ Ok x → g a ≡ Ok x) → and_go r f ≡ Ok x → and_go r g ≡ Ok x
went (Ok a) f g x h e = h a e
went (Err why) f g x h e = cc

pub narrowed_width : (type : TypeTree) (n : ℕ) → narrowed_to (width_of type) n ≡ narrowed type n
narrowed_width Void n = refl
narrowed_width Char n = refl
narrowed_width UChar n = refl
narrowed_width Short n = refl
narrowed_width UShort n = refl
narrowed_width Int n = refl
narrowed_width UInt n = refl
narrowed_width Long n = refl
narrowed_width ULong n = refl
narrowed_width (Pointer target) n = refl
narrowed_width (Array element count) n = refl
narrowed_width (Function result parameters) n = refl
narrowed_width (Tagged tag) n = refl

pub narrow_width : (type : TypeTree) (v x : Value) → narrow type v ≡ Ok x → of_width (width_of type) v ≡ Ok x
narrow_width type (Word n) x e = ap (λ k. Ok (Word k)) (narrowed_width type n) ∙ e
narrow_width type (Address p) x e = cc
narrow_width type (Missing c) x e = cc

-- what `narrow` gives of a word is that word, narrowed
pub narrow_gives : (type : TypeTree) (v x : Value) → narrow type v ≡ Ok x → (n : ℕ) × (v ≡ Word n) × (x ≡ Word (narrowed type n))
narrow_gives type (Word n) x e = (n, refl, cc)
narrow_gives type (Address p) x e = cc
narrow_gives type (Missing c) x e = cc

-- CELLS

word_of_integer : (unset part : Bool) (cells : List Cell) (x : Value)
    → (if unset then Err cause.Unset else (if part then Err cause.Mixed else Ok (Word (number_of 0 cells)))) ≡ Ok x
    → (if unset then Err cause.Unset else (if part then whole_pointer cells else Ok (Word (number_of 0 cells)))) ≡ Ok x
word_of_integer true part cells x e = cc
word_of_integer false true cells x e = cc
word_of_integer false false cells x e = e

integer_is_word : (worth : ℕ → ℕ) → ((n : ℕ) → worth n ≡ n) → (cells : List Cell) (x : Value) → integer_from worth cells ≡ Ok x → word_from cells ≡ Ok x
integer_is_word worth h cells x e =
    word_of_integer (list_any is_unset cells) (list_any is_part cells) cells x
    (subst (λ n. (if list_any is_unset cells then Err cause.Unset else (if list_any is_part cells then Err cause.Mixed else Ok (Word n))) ≡ Ok x) (h (number_of 0 cells)) e)

-- zeros are the number 0

left_true : (a b : Bool) → (a && b) ≡ true → a ≡ true
left_true true b e = refl
left_true false b e = cc

right_true : (a b : Bool) → (a && b) ≡ true → b ≡ true
right_true true b e = e
right_true false b e = cc

zeros_have_no_part : (cells : List Cell) → list_all is_zero cells ≡ true → list_any is_part cells ≡ false
zeros_have_no_part [] e = refl
zeros_have_no_part (Unset ∷ cells) e = cc
zeros_have_no_part (Byte n ∷ cells) e = zeros_have_no_part cells (right_true (n == 0) (list_all is_zero cells) e)
zeros_have_no_part (Part k p ∷ cells) e = cc

zeros_are_zero : (cells : List Cell) → list_all is_zero cells ≡ true → number_of 0 cells ≡ 0
zeros_are_zero [] e = refl
zeros_are_zero (Unset ∷ cells) e = cc
zeros_are_zero (Byte n ∷ cells) e =
    ap (λ k. number_of (0 * 256 + k) cells) (eqb-true n 0 (left_true (n == 0) (list_all is_zero cells) e))
    ∙ zeros_are_zero cells (right_true (n == 0) (list_all is_zero cells) e)
zeros_are_zero (Part k p ∷ cells) e = cc

whole_has_part : (cells : List Cell) (x : Value) → whole_pointer cells ≡ Ok x → list_any is_part cells ≡ true
whole_has_part [] x e = cc
whole_has_part (Unset ∷ cells) x e = cc
whole_has_part (Byte n ∷ cells) x e = cc
whole_has_part (Part k p ∷ cells) x e = refl

word_of_pointer : (unset zeros part : Bool) (cells : List Cell) (x : Value)
    → list_all is_zero cells ≡ zeros → list_any is_part cells ≡ part
    → (if unset then Err cause.Unset else (if zeros then Ok null else whole_pointer cells)) ≡ Ok x
    → (if unset then Err cause.Unset else (if part then whole_pointer cells else Ok (Word (number_of 0 cells)))) ≡ Ok x
word_of_pointer true zeros part cells x h g e = cc
word_of_pointer false true true cells x h g e = let f : list_any is_part cells ≡ false = zeros_have_no_part cells h in cc
word_of_pointer false true false cells x h g e = ap (λ n. Ok (Word n)) (zeros_are_zero cells h) ∙ e
word_of_pointer false false true cells x h g e = e
word_of_pointer false false false cells x h g e = let f : list_any is_part cells ≡ true = whole_has_part cells x e in cc

pointer_is_word : (cells : List Cell) (x : Value) → pointer_from cells ≡ Ok x → word_from cells ≡ Ok x
pointer_is_word cells x e = word_of_pointer (list_any is_unset cells) (list_all is_zero cells) (list_any is_part cells) cells x refl refl e

-- LOADS

same_worth : (size align : ℕ) (objects : List Object) (f g : List Cell → Result Value Cause) (a x : Value)
    → ((cells : List Cell) (x : Value) → f cells ≡ Ok x → g cells ≡ Ok x) → loaded f size align objects a ≡ Ok x → loaded g size align objects a ≡ Ok x
same_worth size align objects f g a x h e =
    went (target_in a) (λ p. and_go (accessed objects p size align) f) (λ p. and_go (accessed objects p size align) g) x
    (λ p d. went (accessed objects p size align) f g x (λ cells c. h cells x c) d) e

pub integer_loads : (tags : Tags) (type : TypeTree) (objects : List Object) (a x : Value) → content_of type ≡ Integer
    → loaded (integer_from (narrowed type)) (size_of tags type) (alignment_of tags type) objects a ≡ Ok x → loaded_width (width_of type) objects a ≡ Ok x
integer_loads tags Void objects a x c e = cc
integer_loads tags Char objects a x c e = e
integer_loads tags UChar objects a x c e = e
integer_loads tags Short objects a x c e = e
integer_loads tags UShort objects a x c e = e
integer_loads tags Int objects a x c e = same_worth 4 4 objects (integer_from (narrowed Int)) word_from a x (integer_is_word (narrowed Int) (λ n. refl)) e
integer_loads tags UInt objects a x c e = same_worth 4 4 objects (integer_from (narrowed UInt)) word_from a x (integer_is_word (narrowed UInt) (λ n. refl)) e
integer_loads tags Long objects a x c e = same_worth 4 4 objects (integer_from (narrowed Long)) word_from a x (integer_is_word (narrowed Long) (λ n. refl)) e
integer_loads tags ULong objects a x c e = same_worth 4 4 objects (integer_from (narrowed ULong)) word_from a x (integer_is_word (narrowed ULong) (λ n. refl)) e
integer_loads tags (Pointer t) objects a x c e = cc
integer_loads tags (Array t n) objects a x c e = cc
integer_loads tags (Function r ps) objects a x c e = cc
integer_loads tags (Tagged i) objects a x c e = cc

pub pointer_loads : (tags : Tags) (type : TypeTree) (objects : List Object) (a x : Value) → content_of type ≡ Reference
    → loaded pointer_from (size_of tags type) (alignment_of tags type) objects a ≡ Ok x → loaded_width (width_of type) objects a ≡ Ok x
pointer_loads tags (Pointer t) objects a x c e = same_worth 4 4 objects pointer_from word_from a x pointer_is_word e
pointer_loads tags type objects a x c e = cc

-- STORES

pub integer_stores : (tags : Tags) (type : TypeTree) (objects : List Object) (a v : Value) → content_of type ≡ Integer
    → stored (size_of tags type) (alignment_of tags type) objects a v ≡ stored_width (width_of type) objects a v
integer_stores tags Char objects a v c = refl
integer_stores tags UChar objects a v c = refl
integer_stores tags Short objects a v c = refl
integer_stores tags UShort objects a v c = refl
integer_stores tags Int objects a v c = refl
integer_stores tags UInt objects a v c = refl
integer_stores tags Long objects a v c = refl
integer_stores tags ULong objects a v c = refl
integer_stores tags type objects a v c = cc

pub pointer_stores : (tags : Tags) (type : TypeTree) (objects : List Object) (a v : Value) → content_of type ≡ Reference
    → stored (size_of tags type) (alignment_of tags type) objects a v ≡ stored_width (width_of type) objects a v
pointer_stores tags (Pointer t) objects a v c = refl
pointer_stores tags type objects a v c = cc

-- THE WIDTH OF A WORD: all that isn't an integer has it

abbrev pub is_word_width : Width → Bool
is_word_width width.S8 = false
is_word_width width.U8 = false
is_word_width width.S16 = false
is_word_width width.U16 = false
is_word_width width.W32 = true

pub no_integer_width : (type : TypeTree) → is_integer type ≡ false → is_word_width (width_of type) ≡ true
no_integer_width Void h = refl
no_integer_width (Pointer t) h = refl
no_integer_width (Array t n) h = refl
no_integer_width (Function r ps) h = refl
no_integer_width (Tagged i) h = refl
no_integer_width type h = cc
