-- Reading and writing variables of type int and long.
use Rattle.std.proofs.Common.{◌≡◌, ◌<◌, ℕ, ◌+◌, ◌*◌, ◌/◌, ◌%◌, ◌^◌, true, [], ◌∷◌, Some, ap, ◌∙◌, arith}
use Rattle.std.specs.Prelude.{slice_get, slice_set}
use Rattle.p9_first.specs.Types.{TypeTree, Int, Long}
use Rattle.p9_first.specs.declared.Place.{Place}
use Rattle.p9_first.specs.Cells.{Into, Byte, Object, Word, State}
use Rattle.p9_first.specs.Plays.{Done}
use Rattle.p9_first.specs.Access.{number_of, number_cells, or_wrong, cells_within, integer_in, write_within, read_from, write_to}

-- the bytes of a word
div_one : (n : ℕ) → n / 1 % 256 ≡ n % 256
div_one n = omega arith

pub word_cells : (n : ℕ) → number_cells 4 n ≡ Byte (n / 16777216 % 256) ∷ Byte (n / 65536 % 256) ∷ Byte (n / 256 % 256) ∷ Byte (n % 256) ∷ []
word_cells n = ap (λ b. Byte (n / 16777216 % 256) ∷ Byte (n / 65536 % 256) ∷ Byte (n / 256 % 256) ∷ Byte b ∷ []) (div_one n)

-- a word is what its bytes stand for
word_of_bytes : (n : ℕ) → n < 4294967296 → (((0 * 256 + n / 16777216 % 256) * 256 + n / 65536 % 256) * 256 + n / 256 % 256) * 256 + n / 1 % 256 ≡ n
word_of_bytes n h = omega arith

pub number_of_cells : (n : ℕ) → n < 2 ^ 32 → number_of 0 (number_cells 4 n) ≡ n
number_of_cells n h = word_of_bytes n h

-- the object of a variable with this number in it
pub record Holds (object : Object) (n : ℕ) : Type 0 where
  pub alive : object.alive ≡ true
  pub cells : object.cells ≡ number_cells 4 n
  pub word : n < 2 ^ 32

abbrev variable_object : ℕ → Object
variable_object n = record { cells = number_cells 4 n; alive = true }

is_variable : (object : Object) (n : ℕ) → Holds object n → object ≡ variable_object n
is_variable object n h = λ i. record { cells = h.cells i; alive = h.alive i }

abbrev pub IsVariableType : TypeTree → Type 0
IsVariableType Int = Unit {0}
IsVariableType Long = Unit {0}
IsVariableType _ = ⊥

read_of : (type : TypeTree) → IsVariableType type → (pl : Place) (o n : ℕ) (s : State) → n < 2 ^ 32 → slice_get s.objects o ≡ Some (variable_object n) → read_from type pl (Into o 0) s ≡ Done (Word n) s
read_of Int v pl o n s w h = ap (λ r. or_wrong pl s (cells_within r 0 4 4) (λ cs. or_wrong pl s (integer_in Int cs) (λ value. Done value s))) h ∙ ap (λ m. Done (Word m) s) (number_of_cells n w)
read_of Long v pl o n s w h = ap (λ r. or_wrong pl s (cells_within r 0 4 4) (λ cs. or_wrong pl s (integer_in Long cs) (λ value. Done value s))) h ∙ ap (λ m. Done (Word m) s) (number_of_cells n w)
read_of _ v pl o n s w h = absurd v

-- a variable is read as the number in it
pub read_variable : (type : TypeTree) → IsVariableType type → (pl : Place) (o n : ℕ) (object : Object) (s : State) → slice_get s.objects o ≡ Some object → Holds object n → read_from type pl (Into o 0) s ≡ Done (Word n) s
read_variable type v pl o n object s h g = read_of type v pl o n s g.word (h ∙ ap Some (is_variable object n g))

abbrev written : State → ℕ → ℕ → State
written s o m = record s { objects = slice_set s.objects o (variable_object m) }

low_word : (m : ℕ) → m < 2 ^ 32 → m % 4294967296 ≡ m
low_word m w = omega arith

write_of : (type : TypeTree) → IsVariableType type → (pl : Place) (o n m : ℕ) (s : State) → m < 2 ^ 32 → slice_get s.objects o ≡ Some (variable_object n) → write_to type pl (Into o 0) m s ≡ Done (Word m) (written s o m)
write_of Int v pl o n m s w h = ap (λ r. or_wrong pl s (cells_within r 0 4 4) (λ cs. Done (Word (m % 4294967296)) (record s { objects = write_within r s.objects o 0 (number_cells 4 m) }))) h ∙ ap (λ k. Done (Word k) (written s o m)) (low_word m w)
write_of Long v pl o n m s w h = ap (λ r. or_wrong pl s (cells_within r 0 4 4) (λ cs. Done (Word (m % 4294967296)) (record s { objects = write_within r s.objects o 0 (number_cells 4 m) }))) h ∙ ap (λ k. Done (Word k) (written s o m)) (low_word m w)
write_of _ v pl o n m s w h = absurd v

-- a write leaves a variable with the number that is written, and every other object as it was
pub write_variable : (type : TypeTree) → IsVariableType type → (pl : Place) (o n m : ℕ) (object : Object) (s : State) → m < 2 ^ 32 → slice_get s.objects o ≡ Some object → Holds object n
    → write_to type pl (Into o 0) m s ≡ Done (Word m) (record s { objects = slice_set s.objects o (record { cells = number_cells 4 m; alive = true }) })
write_variable type v pl o n m object s w h g = write_of type v pl o n m s w (h ∙ ap Some (is_variable object n g))
