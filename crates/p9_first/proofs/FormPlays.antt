-- The plays of the statements of the form, from what their names stand for.
use Rattle.std.proofs.Common.{◌≡◌, ◌≢◌, ◌<◌, ◌≤◌, ℕ, zero, suc, ◌^◌, Bool, true, false, List, [], ◌∷◌, ◌++◌, map, length, take, All, Some, None, Ok, Err, refl, ap, ◌∙◌, arith}
use Rattle.std.specs.Prelude.{slice_get, slice_set, codes}
use Rattle.p9_base.specs.Words.{word_sum}
use Rattle.p9_first.specs.declared.tree.CBinary.TheVariants as operator
use Rattle.p9_first.specs.declared.tree.Kind.TheVariants as kind
use Rattle.p9_first.specs.Types.{TypeTree, Char, Int, Long, Array, Meant, Outer}
use Rattle.p9_first.specs.Types as types
use Rattle.p9_first.specs.Trees.{node, none, more}
use Rattle.p9_first.specs.declared.Place.{Place}
use Rattle.p9_first.specs.Typing.{exits_type, transfer_type}
use Rattle.p9_first.specs.Modules.{Label, Typed}
use Rattle.p9_first.specs.declared.Cause.TheVariants as cause
use Rattle.p9_first.specs.Cells.{Global, Null, Into, ToFunction, Byte, Object, Value, Word, Address, State}
use Rattle.p9_first.specs.Plays.{Play, Done, Ask, bind, Flow, Normal}
use Rattle.p9_first.specs.Access.{number_cells, read_from, write_to, store}
use Rattle.p9_first.specs.SystemCalls.{behind, text_in, characters_in}
use Rattle.p9_first.specs.Expressions.{Surroundings, at, pointer_of, value_at, value, values, sum_of, call_through, argument, parameters_of}
use Rattle.p9_first.specs.Statements.{statement}
use Rattle.p9_first.proofs.Variables.{Holds, IsVariableType, read_variable, write_variable}

-- the texts that system calls read

pub characters_of_bytes : (m : ℕ) (bs : List ℕ) → m ≤ length bs → characters_in m (map Byte bs) ≡ Ok (take m bs)
characters_of_bytes zero bs h = refl
characters_of_bytes (suc m) [] h = absurd (omega arith)
characters_of_bytes (suc m) (b ∷ bs) h = ap (behind b) (characters_of_bytes m bs (omega arith))

pub characters_past : (m : ℕ) (bs : List ℕ) → length bs < m → characters_in m (map Byte bs) ≡ Err cause.Range
characters_past zero bs h = absurd (omega arith)
characters_past (suc m) [] h = refl
characters_past (suc m) (b ∷ bs) h = ap (behind b) (characters_past m bs (omega arith))

pub text_of_bytes : (bs : List ℕ) → All (λ c. c ≢ 0) bs → text_in (map Byte bs ++ Byte 0 ∷ []) ≡ Ok bs
text_of_bytes [] h = refl
text_of_bytes (zero ∷ bs) h = absurd (h 0 0 (omega arith) refl)
text_of_bytes (suc c ∷ bs) h = ap (behind (suc c)) (text_of_bytes bs (λ k d l. h (suc k) d (omega arith)))

-- operands

-- the label of a variable whose object has this number
pub record StandsFor (around : Surroundings) (label : Label) (o : ℕ) : Type 0 where
  pub type : IsVariableType label.type
  pub pointer : pointer_of around label.type label.means ≡ Into o 0

value_at_variable : (type : TypeTree) → IsVariableType type → (place : Place) (o : ℕ) (s : State) → value_at type place (Into o 0) s ≡ read_from type place (Into o 0) s
value_at_variable Int v place o s = refl
value_at_variable Long v place o s = refl
value_at_variable _ v place o s = absurd v

pub variable_value : (around : Surroundings) (x : List ℕ) (label : Label) (o n : ℕ) (object : Object) (s : State) → StandsFor around label o → slice_get s.objects o ≡ Some object → Holds object n
    → value around (node (kind.Name x) label none) s ≡ Done (Word n) s
variable_value around x label o n object s f h g =
    ap (λ p. value_at label.type (at around label) p s) f.pointer
    ∙ value_at_variable label.type f.type (at around label) o s
    ∙ read_variable label.type f.type (at around label) o n object s h g

pub number_value : (around : Surroundings) (n : ℕ) (unsigned long : Bool) (label : Label) (s : State) → value around (node (kind.Number n unsigned long) label none) s ≡ Done (Word n) s
number_value around n unsigned long label s = refl

pub sum_value : (around : Surroundings) (label : Label) (left right : Typed) (m n : ℕ) (s : State) → value around left s ≡ Done (Word m) s → value around right s ≡ Done (Word n) s
    → value around (node (kind.Binary operator.Add) label (more left (more right none))) s ≡ Done (Word (word_sum m n)) s
sum_value around label left right m n s h g =
    ap (λ p. bind p (λ a t. bind (value around right t) (λ b u. sum_of (at around label) a b u))) h
    ∙ ap (λ p. bind p (λ b u. sum_of (at around label) (Word m) b u)) g

-- statements

pub assign_play : (turns : ℕ) (around : Surroundings) (outer inner label : Label) (x : List ℕ) (e : Typed) (o n m : ℕ) (object : Object) (s : State)
    → StandsFor around label o → slice_get s.objects o ≡ Some object → Holds object n → m < 2 ^ 32 → value around e s ≡ Done (Word m) s
    → statement turns around (node kind.Expression outer (more (node (kind.Assign None) inner (more (node (kind.Name x) label none) (more e none))) none)) s
    ≡ Done Normal (record s { objects = slice_set s.objects o (record { cells = number_cells 4 m; alive = true }) })
assign_play turns around outer inner label x e o n m object s f h g w v =
    ap (λ p. bind (bind p (λ a t. store label.type (at around inner) (Address (pointer_of around label.type label.means)) a t)) (λ a t. Done Normal t)) v
    ∙ ap (λ p. bind (write_to label.type (at around inner) p m s) (λ a t. Done Normal t)) f.pointer
    ∙ ap (λ p. bind p (λ a t. Done Normal t)) (write_variable label.type f.type (at around inner) o n m object s w h g)

-- the label of a function's name, and that of a text whose object has this number
pub record Calls (around : Surroundings) (label : Label) (kind_of_function : TypeTree) (function : List ℕ) : Type 0 where
  pub type : label.type ≡ kind_of_function
  pub pointer : pointer_of around kind_of_function label.means ≡ ToFunction (Global function)

pub record IsTextAt (around : Surroundings) (label : Label) (count o : ℕ) : Type 0 where
  pub type : label.type ≡ Array Char count
  pub pointer : pointer_of around (Array Char count) label.means ≡ Into o 0

text_value : (around : Surroundings) (texts : List (List ℕ)) (label : Label) (count o : ℕ) (s : State) → IsTextAt around label count o → value around (node (kind.Text texts) label none) s ≡ Done (Address (Into o 0)) s
text_value around texts label count o s t =
    ap (λ type. value_at type (at around label) (pointer_of around type label.means) s) t.type
    ∙ ap (λ p. Done (Address p) s) t.pointer

function_value : (around : Surroundings) (x : List ℕ) (label : Label) (type : TypeTree) (function : List ℕ) (s : State) → (value_at type (at around label) (pointer_of around type label.means) s ≡ Done (Address (pointer_of around type label.means)) s) → Calls around label type function
    → value around (node (kind.Name x) label none) s ≡ Done (Address (ToFunction (Global function))) s
function_value around x label type function s d c =
    ap (λ t. value_at t (at around label) (pointer_of around t label.means) s) c.type
    ∙ d
    ∙ ap (λ p. Done (Address p) s) c.pointer

abbrev pub asks : List ℕ → List Value → Surroundings → Label → State → Play Flow
asks function arguments around label s =
    Ask (record { function = Global function; arguments = arguments; place = at around label }) s (λ v t. Done Normal t)

pub write_play : (turns : ℕ) (around : Surroundings) (outer inner name one text : Label) (x : List ℕ) (texts : List (List ℕ)) (e : Typed) (count o m : ℕ) (s : State)
    → Calls around name transfer_type (codes "write") → IsTextAt around text count o → value around e s ≡ Done (Word m) s
    → statement turns around (node kind.Expression outer (more (node kind.Call inner
    (more (node (kind.Name x) name none) (more (node (kind.Number 1 false false) one none) (more (node (kind.Text texts) text none) (more e none))))) none)) s
    ≡ asks (codes "write") (Word 1 ∷ Address (Into o 0) ∷ Word m ∷ []) around inner s
write_play turns around outer inner name one text x texts e count o m s c t v =
    ap (λ p. bind (bind p (λ f u. bind (values around (parameters_of name.type) (more (node (kind.Number 1 false false) one none) (more (node (kind.Text texts) text none) (more e none))) u) (λ vs w. call_through (at around inner) f vs w))) (λ a u. Done Normal u))
    (function_value around x name transfer_type (codes "write") s refl c)
    ∙ ap (λ type. bind (bind (values around (parameters_of type) (more (node (kind.Number 1 false false) one none) (more (node (kind.Text texts) text none) (more e none))) s) (λ vs w. call_through (at around inner) (Address (ToFunction (Global (codes "write")))) vs w)) (λ a u. Done Normal u)) c.type
    ∙ ap (λ p. bind (bind (bind (bind p (λ a u. bind (argument (types.Pointer types.Void) a u) (λ b y. bind (bind (value around e y) (λ d z. bind (argument Long d z) (λ i j. Done (i ∷ []) j))) (λ vs z. Done (b ∷ vs) z)))) (λ vs z. Done (Word 1 ∷ vs) z)) (λ vs w. call_through (at around inner) (Address (ToFunction (Global (codes "write")))) vs w)) (λ a u. Done Normal u))
    (text_value around texts text count o s t)
    ∙ ap (λ p. bind (bind (bind (bind (bind p (λ d z. bind (argument Long d z) (λ i j. Done (i ∷ []) j))) (λ vs z. Done (Address (Into o 0) ∷ vs) z)) (λ vs z. Done (Word 1 ∷ vs) z)) (λ vs w. call_through (at around inner) (Address (ToFunction (Global (codes "write")))) vs w)) (λ a u. Done Normal u)) v

pub exits_play : (turns : ℕ) (around : Surroundings) (outer inner name text : Label) (x : List ℕ) (texts : List (List ℕ)) (count o : ℕ) (s : State)
    → Calls around name exits_type (codes "exits") → IsTextAt around text count o
    → statement turns around (node kind.Expression outer (more (node kind.Call inner
    (more (node (kind.Name x) name none) (more (node (kind.Text texts) text none) none))) none)) s
    ≡ asks (codes "exits") (Address (Into o 0) ∷ []) around inner s
exits_play turns around outer inner name text x texts count o s c t =
    ap (λ p. bind (bind p (λ f u. bind (values around (parameters_of name.type) (more (node (kind.Text texts) text none) none) u) (λ vs w. call_through (at around inner) f vs w))) (λ a u. Done Normal u))
    (function_value around x name exits_type (codes "exits") s refl c)
    ∙ ap (λ type. bind (bind (values around (parameters_of type) (more (node (kind.Text texts) text none) none) s) (λ vs w. call_through (at around inner) (Address (ToFunction (Global (codes "exits")))) vs w)) (λ a u. Done Normal u)) c.type
    ∙ ap (λ p. bind (bind (bind p (λ a u. bind (argument (types.Pointer Char) a u) (λ b y. Done (b ∷ []) y))) (λ vs w. call_through (at around inner) (Address (ToFunction (Global (codes "exits")))) vs w)) (λ a u. Done Normal u))
    (text_value around texts text count o s t)

pub exits_zero_play : (turns : ℕ) (around : Surroundings) (outer inner name number : Label) (x : List ℕ) (s : State)
    → Calls around name exits_type (codes "exits")
    → statement turns around (node kind.Expression outer (more (node kind.Call inner
    (more (node (kind.Name x) name none) (more (node (kind.Number 0 false false) number none) none))) none)) s
    ≡ asks (codes "exits") (Address Null ∷ []) around inner s
exits_zero_play turns around outer inner name number x s c =
    ap (λ p. bind (bind p (λ f u. bind (values around (parameters_of name.type) (more (node (kind.Number 0 false false) number none) none) u) (λ vs w. call_through (at around inner) f vs w))) (λ a u. Done Normal u))
    (function_value around x name exits_type (codes "exits") s refl c)
    ∙ ap (λ type. bind (bind (values around (parameters_of type) (more (node (kind.Number 0 false false) number none) none) s) (λ vs w. call_through (at around inner) (Address (ToFunction (Global (codes "exits")))) vs w)) (λ a u. Done Normal u)) c.type
