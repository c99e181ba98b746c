-- The run of one call of code over automatics in a layout of its frame: its calls are not run, but
-- answered.
use Rattle.std.specs.Prelude.{ℕ, zero, suc, ◌+◌, ◌-◌, ◌%◌, ◌==◌, ◌&&◌, ◌||◌, ◌≡◌, ◌⊎◌, ◌≤◌, ◌<◌, ◌↔◌, nat_lt, nat_le, Bool, true, false, not, Option, Some, None, if◌then◌else◌, List, [], ◌∷◌, length, slice_get, slice_index}
use Rattle.p9_abs.specs.declared.instructions.Abs.{Abs}
use Rattle.p9_abs.specs.declared.instructions.AFunction.{AFunction}
use Rattle.p9_abs.specs.declared.forms.Location.{Location}
use Rattle.p9_abs.specs.declared.forms.Location.TheVariants.{Based}
use Rattle.p9_abs.specs.declared.forms.Form.{Form}
use Rattle.p9_abs.specs.declared.forms.Form.TheVariants as forms
use Rattle.p9_abs.specs.Validity.{IsFrame}
use Rattle.p9_abs.specs.Automatics.{form_at, holds_of, call_at, reached, is_variable}
use Rattle.p9_abs.specs.Steps.{Mach, Around, Step, Next, Turns, Calls, Returns, Exits, Undefined, step}
use Rattle.p9_abs.specs.Runs.{keeps_return, taken_from_stack, in_word}

-- Layouts

-- a frame, and from R29 the offset of each automatic that is no variable
pub record Layout : Type 0 where
  pub frame : ℕ
  pub offsets : List (Option ℕ)

-- the word o(R29) is a memory operand's
abbrev pub is_stack_word : ℕ → Location → Bool
is_stack_word o (Based r p) = (r == 29) && (p == o)
is_stack_word o _ = false

abbrev pub names_word : ℕ → Form → Bool
names_word o (forms.Load w from to) = is_stack_word o from
names_word o (forms.Store w from to) = is_stack_word o to
names_word o _ = false

-- the words from R29 on that instruction i counts as its own: those that it names, and at a call 4(R29)
abbrev pub UsesWord : List Abs → ℕ → ℕ → Type 0
UsesWord code i o = ((call_at code i ≡ true) × (o ≡ 4)) ⊎ (holds_of (names_word o) (form_at code i) ≡ true)

-- n bytes from a and m bytes from b have none in common
abbrev pub AreDisjoint : ℕ → ℕ → ℕ → ℕ → Type 0
AreDisjoint a n b m = (a + n ≤ b) ⊎ (b + m ≤ a)

-- the size of an automatic
abbrev pub size_at : AFunction → ℕ → ℕ
size_at f v = slice_index f.autos v

-- offsets of automatics in a frame: multiples of 4, above 0(R29), disjoint, and apart from the words
-- that reached instructions use, which lie in the frame too
pub record ArePlaced (f : AFunction) (frame : ℕ) (offsets : List (Option ℕ)) : Type 0 where
  pub count : length offsets ≡ length f.autos
  pub fourfold : (v p : ℕ) → slice_get offsets v ≡ Some (Some p) → p % 4 ≡ 0
  pub within : (v p : ℕ) → slice_get offsets v ≡ Some (Some p) → (4 ≤ p) × (p + size_at f v ≤ frame + 4)
  pub disjoint : (v w p q : ℕ) → v < w → slice_get offsets v ≡ Some (Some p) → slice_get offsets w ≡ Some (Some q) → AreDisjoint p (size_at f v) q (size_at f w)
  pub words : (i o : ℕ) → reached f.code i ≡ true → UsesWord f.code i o → o ≤ frame
  pub apart : (i o v p : ℕ) → reached f.code i ≡ true → UsesWord f.code i o → slice_get offsets v ≡ Some (Some p) → AreDisjoint o 4 p (size_at f v)

-- exactly the variables are outside memory
pub record IsLayout (f : AFunction) (l : Layout) : Type 0 where
  pub frame : IsFrame l.frame
  pub placed : ArePlaced f l.frame l.offsets
  pub variables : (v : ℕ) → v < length f.autos → (slice_get l.offsets v ≡ Some None) ↔ (is_variable f v ≡ true)

-- What may not be touched

-- byte b, counted from R29, is an automatic's
abbrev pub in_automatic : List (Option ℕ) → List ℕ → ℕ → Bool
in_automatic [] sizes b = false
in_automatic (p ∷ ps) [] b = false
in_automatic (None ∷ ps) (size ∷ sizes) b = in_automatic ps sizes b
in_automatic (Some p ∷ ps) (size ∷ sizes) b = (nat_le p b && nat_lt b (p + size)) || in_automatic ps sizes b

-- it is one of the word o(R29)
abbrev pub in_word_at : ℕ → ℕ → Bool
in_word_at o b = nat_le o b && nat_lt b (o + 4)

abbrev pub in_stack_word : ℕ → Location → Bool
in_stack_word b (Based r o) = (r == 29) && in_word_at o b
in_stack_word b _ = false

-- it is one of a word that a form uses: that of its memory operand, and at a call the place of the
-- first argument, which is passed in R1
abbrev pub in_word_of : ℕ → Form → Bool
in_word_of b (forms.Load w from to) = in_stack_word b from
in_word_of b (forms.Store w from to) = in_stack_word b to
in_word_of b (forms.Call s) = in_word_at 4 b
in_word_of b (forms.CallRegister a) = in_word_at 4 b
in_word_of b _ = false

-- one of the first m instructions that can be reached uses a word with byte b
abbrev pub in_words_below : List Abs → ℕ → ℕ → Bool
in_words_below code b zero = false
in_words_below code b (suc m) = (reached code m && holds_of (in_word_of b) (form_at code m)) || in_words_below code b m

abbrev pub in_words : List Abs → ℕ → Bool
in_words code b = in_words_below code b (length code)

-- byte b of the own frame, above R29 = sp, is no automatic's and in no word that is used
abbrev pub in_gap : AFunction → Layout → ℕ → ℕ → Bool
in_gap f l sp b =
    (nat_le (sp + 4) b && nat_lt b (sp + 4 + l.frame))
    && not (in_automatic l.offsets f.autos (b - sp) || in_words f.code (b - sp))

-- the kept return addresses of others, the own one at 0(R29), and the gaps of the own frame
abbrev pub banned_in : AFunction → Layout → ℕ → (ℕ → Bool) → ℕ → Bool
banned_in f l sp others b =
    others b || (keeps_return l.frame f.code && (in_word b (Some sp) || in_gap f l sp b))

-- what a call stands in whose R29 is sp
abbrev pub around_call : (ℕ → ℕ) → AFunction → Layout → ℕ → (ℕ → Bool) → Around
around_call symbol f l sp others = record {
  symbol = symbol;
  taken = taken_from_stack l.frame f.code;
  offsets = l.offsets;
  banned = banned_in f l sp others;
}

-- Runs

-- what so many steps of one call come to: it goes on, or it stops at a call that is to be answered, at
-- its return, at an exit, or at what is undefined
pub data Stop : Type 0 where
  Still : (x : Mach) → Stop
  Asks : (to : ℕ) (x : Mach) → Stop
  Ends : (x : Mach) → Stop
  Leaves : (x : Mach) → Stop
  Wrong : Stop

abbrev pub then_on : (Mach → Stop) → Step → Stop
then_on go (Next x) = go x
then_on go (Turns taken x) = go x
then_on go (Calls to x) = Asks to x
then_on go (Returns x) = Ends x
then_on go (Exits x) = Leaves x
then_on go Undefined = Wrong

unfoldable pub goes : Around → List Abs → ℕ → Mach → Stop
goes around code zero x = Still x
goes around code (suc n) x = then_on (goes around code n) (step around code x)
