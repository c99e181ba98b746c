-- What the initialisers of a typed module write into its objects before the program runs.
use Rattle.std.specs.Prelude.{ℕ, ◌==◌, not, if◌then◌else◌, Bool, true, false, List, [], ◌∷◌, replicate, slice_get, Option, Some, None, Result, Ok, Err}
use Rattle.p9_base.specs.Words.{word_sum, word_difference, word_negation, word_complement}
use Rattle.p9_lang.specs.Types.{TypeTree, Tags}
use Rattle.p9_lang.specs.Layout.{size_of}
use Rattle.p9_lang.specs.Conversions.{is_integer, is_pointer}
use Rattle.p9_lang.specs.Constants.{truth, narrowed, word_operation}
use Rattle.p9_lang.specs.Constants as constants
use Rattle.p9_lang.specs.Initialisers.{BrokenItem, NotConstant, TooManyItems}
use Rattle.p9_lang.specs.Symbols.{Symbol}
use Rattle.p9_tree.specs.declared.tree.Width.{Width}
use Rattle.p9_tree.specs.declared.tree.Width.TheVariants as width
use Rattle.p9_tree.specs.declared.tree.UnOp.{UnOp}
use Rattle.p9_tree.specs.declared.tree.UnOp.TheVariants as un
use Rattle.p9_tree.specs.declared.tree.BinOp.{BinOp}
use Rattle.p9_tree.specs.declared.tree.BinOp.TheVariants as bin
use Rattle.p9_tree.specs.Trees.{Tree, Const, Addr, Auto, Load, Store, Update, Copy, Un, Bin, Conv, Choose, Both, Step, Seq, Call}
use Rattle.p9_tree.specs.Operations.{narrowed_to, operator_of, is_unsigned_form}
use Rattle.p9_tree.specs.Modules.{Entry}
use Rattle.p9_cmean.specs.Cells.{Pointer, Cell, Byte}
use Rattle.p9_cmean.specs.Access.{number_cells}
use Rattle.p9_cmean.specs.Union.{Union, static_number}
use Rattle.p9_cmean.specs.FirstContents.{into, named_pointer, address_cells, with_entry}

-- a tree as it is before the program runs: a number; the address of a symbol, moved; or nothing fixed
pub data Fixed : Type 0 where
  Number : (word : ℕ) → Fixed
  At : (symbol offset : ℕ) → Fixed
  NotFixed : Fixed

abbrev pub fixed_result : Result ℕ constants.WordFault → Fixed
fixed_result (Ok word) = Number word
fixed_result (Err fault) = NotFixed

abbrev pub fixed_words : BinOp → ℕ → ℕ → Fixed
fixed_words op a b = fixed_result (word_operation (operator_of op) (is_unsigned_form op) a b)

-- an address is moved, and nothing else is done with it
abbrev pub moved_address : BinOp → (symbol offset : ℕ) → ℕ → Fixed
moved_address bin.Add symbol offset n = At symbol (word_sum offset n)
moved_address bin.Sub symbol offset n = At symbol (word_difference offset n)
moved_address op symbol offset n = NotFixed

abbrev pub added_address : BinOp → ℕ → (symbol offset : ℕ) → Fixed
added_address bin.Add n symbol offset = At symbol (word_sum offset n)
added_address op n symbol offset = NotFixed

abbrev pub fixed_two : BinOp → Fixed → Fixed → Fixed
fixed_two op (Number a) (Number b) = fixed_words op a b
fixed_two op (Number a) (At symbol offset) = added_address op a symbol offset
fixed_two op (Number a) NotFixed = NotFixed
fixed_two op (At symbol offset) (Number b) = moved_address op symbol offset b
fixed_two op (At symbol offset) (At other other_offset) = NotFixed
fixed_two op (At symbol offset) NotFixed = NotFixed
fixed_two op NotFixed b = NotFixed

abbrev pub on_number : (ℕ → Fixed) → Fixed → Fixed
on_number operation (Number word) = operation word
on_number operation (At symbol offset) = NotFixed
on_number operation NotFixed = NotFixed

abbrev pub fixed_one : UnOp → ℕ → Fixed
fixed_one un.Neg word = Number (word_negation word)
fixed_one un.Com word = Number (word_complement word)
fixed_one un.Not word = Number (truth (word == 0))

abbrev pub of_four_bytes : Width → Fixed → Fixed
of_four_bytes width.S8 a = NotFixed
of_four_bytes width.U8 a = NotFixed
of_four_bytes width.S16 a = NotFixed
of_four_bytes width.U16 a = NotFixed
of_four_bytes width.W32 a = a

abbrev pub fixed_width : Width → Fixed → Fixed
fixed_width w (Number word) = Number (narrowed_to w word)
fixed_width w (At symbol offset) = of_four_bytes w (At symbol offset)
fixed_width w NotFixed = NotFixed

abbrev pub fixed_truth : Fixed → Fixed
fixed_truth a = on_number (λ word. Number (truth (not (word == 0)))) a

abbrev pub fixed_both : (is_and : Bool) → Fixed → Fixed → Fixed
fixed_both true a b = on_number (λ word. if word == 0 then Number 0 else fixed_truth b) a
fixed_both false a b = on_number (λ word. if word == 0 then fixed_truth b else Number 1) a

abbrev pub after : Fixed → Fixed → Fixed
after (Number word) b = b
after (At symbol offset) b = b
after NotFixed b = NotFixed

abbrev pub fixed_of : Tree → Fixed
fixed_of (Const word) = Number word
fixed_of (Addr symbol offset) = At symbol offset
fixed_of (Auto number) = NotFixed
fixed_of (Load w from) = NotFixed
fixed_of (Store w to value) = NotFixed
fixed_of (Update w op to right) = NotFixed
fixed_of (Copy bytes to from) = NotFixed
fixed_of (Un op operand) = on_number (fixed_one op) (fixed_of operand)
fixed_of (Bin op left right) = fixed_two op (fixed_of left) (fixed_of right)
fixed_of (Conv w operand) = fixed_width w (fixed_of operand)
fixed_of (Choose test first second) =
    on_number (λ word. if word == 0 then fixed_of second else fixed_of first) (fixed_of test)
fixed_of (Both is_and left right) = fixed_both is_and (fixed_of left) (fixed_of right)
fixed_of (Step w is_prefix amount to) = NotFixed
fixed_of (Seq left right) = after (fixed_of left) (fixed_of right)
fixed_of (Call function arguments) = NotFixed

-- WHAT ENTRIES WRITE, in their order, or the first that breaks a rule

pub data Content : Type 0 where
  Word : (word : ℕ) → Content
  AddressOf : (symbol offset : ℕ) → Content

pub record Write : Type 0 where
  pub offset : ℕ
  pub type : TypeTree
  pub content : Content

-- a number initialises a pointer only where it is 0
abbrev pub content_in : TypeTree → Fixed → Option Content
content_in type (Number word) =
    if is_integer type then Some (Word (narrowed type word))
    else (if word == 0 then Some (Word 0) else None)
content_in type (At symbol offset) = if is_pointer type then Some (AddressOf symbol offset) else None
content_in type NotFixed = None

abbrev pub written : Entry → Option Content → Result Write BrokenItem
written entry None = Err (record { number = entry.node; rule = NotConstant })
written entry (Some content) = Ok (record { offset = entry.offset; type = entry.type; content = content })

abbrev pub entry_write : Entry → Result Write BrokenItem
entry_write entry =
    if entry.is_inside then written entry (content_in entry.type (fixed_of entry.value))
    else Err (record { number = entry.node; rule = TooManyItems })

abbrev pub with_write : Result Write BrokenItem → Result (List Write) BrokenItem → Result (List Write) BrokenItem
with_write (Err broken) others = Err broken
with_write (Ok w) (Err broken) = Err broken
with_write (Ok w) (Ok ws) = Ok (w ∷ ws)

abbrev pub writes_of : List Entry → Result (List Write) BrokenItem
writes_of [] = Ok []
writes_of (e ∷ es) = with_write (entry_write e) (writes_of es)

-- what a symbol's address is before the program runs: as in the sources, a name that no module defines counts as a function's
abbrev pub first_pointer : Union → (owner : ℕ) → Option Symbol → (offset : ℕ) → Option Pointer
first_pointer union owner None offset = None
first_pointer union owner (Some symbol) offset = by symbol.static
  where
    by : Option ℕ → Option Pointer
    by None = Some (named_pointer union owner symbol.name offset)
    by (Some number) = into (static_number union owner number) offset

-- the cells that a list of writes leaves in an object that began as zeros
abbrev pub content_cells : Union → (owner : ℕ) → List Symbol → (size : ℕ) → Content → List Cell
content_cells union owner symbols size (Word word) = number_cells size word
content_cells union owner symbols size (AddressOf symbol offset) = address_cells (first_pointer union owner (slice_get symbols symbol) offset)

abbrev pub with_writes : Union → (owner : ℕ) → List Symbol → Tags → List Write → List Cell → List Cell
with_writes union owner symbols tags [] cells = cells
with_writes union owner symbols tags (w ∷ ws) cells =
    with_writes union owner symbols tags ws (with_entry w.offset (content_cells union owner symbols (size_of tags w.type) w.content) cells)

abbrev pub first_cells : Union → (owner : ℕ) → List Symbol → Tags → TypeTree → List Write → List Cell
first_cells union owner symbols tags type writes =
    with_writes union owner symbols tags writes (replicate (size_of tags type) (Byte 0))
