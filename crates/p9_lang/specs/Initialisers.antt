-- Initialisers of static objects: the entries of a list with what each fills, the constants that
-- stand in them, and what they write first into an object.
use Rattle.std.specs.Prelude.{ℕ, suc, ◌+◌, ◌*◌, ◌%◌, Bool, true, false, not, ◌||◌, ◌==◌, nat_lt, nat_le, if◌then◌else◌, List, [], ◌∷◌, ◌++◌, length, flat_map, slice_get, Option, Some, None, Result, Ok, Err}
use Rattle.p9_base.specs.Words.{word_sum, word_difference, word_product, word_negation, word_complement}
use Rattle.p9_lang.specs.declared.tree.CBinary.{CBinary}
use Rattle.p9_lang.specs.declared.tree.CBinary.TheVariants as operator
use Rattle.p9_lang.specs.declared.tree.CUnary.{CUnary}
use Rattle.p9_lang.specs.declared.tree.CUnary.TheVariants as unary
use Rattle.p9_lang.specs.declared.tree.Kind.{Kind}
use Rattle.p9_lang.specs.declared.tree.Kind.TheVariants as kind
use Rattle.p9_lang.specs.Trees.{node, none, more}
use Rattle.p9_lang.specs.Types.{TypeTree, Void, Pointer, Array, Tagged, Tags, Meant, Nothing, Outer, Static, Auto, EnumValue, TypeName}
use Rattle.p9_lang.specs.Layout.{size_of}
use Rattle.p9_lang.specs.Members.{Placed, placed, Found, At, find_member}
use Rattle.p9_lang.specs.Members as members
use Rattle.p9_lang.specs.Conversions.{is_integer, is_pointer, is_array, is_function, decayed, Conversion, Same, Integer, Null, Inner, Ambiguous, No, conversion}
use Rattle.p9_lang.specs.Constants.{Operand, narrowed, truth, word_operation, works_unsigned, type_at, constant_of, size_constant, enumeration_constant, is_null_constant}
use Rattle.p9_lang.specs.Constants as constants
use Rattle.p9_lang.specs.Parts.{Part, Value, Role, Fills, EntryOf}
use Rattle.p9_lang.specs.Entries.{entry_role, entry_position, filled_type}
use Rattle.p9_lang.specs.Modules.{Label, Typed, TypedRow}

-- ADDRESSES AND NUMBERS

-- what an address is counted from: an object or function of file scope, or a text or block static
pub data Base : Type 0 where
  OuterBase : (name : List ℕ) → Base
  StaticBase : (number : ℕ) → Base

-- what an expression is, before the program runs: a number; an address that is moved by an amount,
-- modulo 2^32; or nothing that is fixed
pub data Fixed : Type 0 where
  Number : (word : ℕ) → Fixed
  Address : (base : Base) (offset : ℕ) → Fixed
  NotFixed : Fixed

abbrev pub moved : Fixed → (amount : ℕ) → Fixed
moved (Number word) amount = Number (word_sum word amount)
moved (Address base offset) amount = Address base (word_sum offset amount)
moved NotFixed amount = NotFixed

-- by a number of bytes that is fixed
abbrev pub moved_by : Fixed → (size : ℕ) → Fixed → Fixed
moved_by start size (Number count) = moved start (word_product count size)
moved_by start size (Address base offset) = NotFixed
moved_by start size NotFixed = NotFixed

abbrev pub moved_back : Fixed → (size : ℕ) → Fixed → Fixed
moved_back start size (Number count) = moved start (word_negation (word_product count size))
moved_back start size (Address base offset) = NotFixed
moved_back start size NotFixed = NotFixed

abbrev pub on_numbers : (ℕ → ℕ → Fixed) → Fixed → Fixed → Fixed
on_numbers operation (Number a) (Number b) = operation a b
on_numbers operation (Number a) (Address base offset) = NotFixed
on_numbers operation (Number a) NotFixed = NotFixed
on_numbers operation (Address base offset) b = NotFixed
on_numbers operation NotFixed b = NotFixed

abbrev pub on_number : (ℕ → Fixed) → Fixed → Fixed
on_number operation (Number a) = operation a
on_number operation (Address base offset) = NotFixed
on_number operation NotFixed = NotFixed

abbrev pub fixed_result : Result ℕ constants.WordFault → Fixed
fixed_result (Ok word) = Number word
fixed_result (Err fault) = NotFixed

-- a pointer that comes from the null constant is computed with as a number
abbrev pub pointers_unsigned : TypeTree → TypeTree → CBinary → Bool
pointers_unsigned left right op = works_unsigned op left right || (is_pointer left || is_pointer right)

abbrev pub number_operation : CBinary → (left right : TypeTree) → Fixed → Fixed → Fixed
number_operation op left right a b =
    on_numbers (λ x y. fixed_result (word_operation op (pointers_unsigned left right op) x y)) a b

abbrev pub pointed_size : Tags → TypeTree → ℕ
pointed_size tags (Pointer target) = size_of tags target
pointed_size tags type = 1

abbrev pub quotient_of : ℕ → ℕ → Fixed
quotient_of bytes size = fixed_result (word_operation operator.Div false bytes size)

abbrev pub whole_quotient : ℕ → ℕ → Fixed
whole_quotient bytes size = if bytes % size == 0 then quotient_of bytes size else NotFixed

abbrev pub fixed_sum : Tags → (left right : TypeTree) → Fixed → Fixed → Fixed
fixed_sum tags left right a b =
    if is_pointer left then moved_by a (pointed_size tags left) b
    else (if is_pointer right then moved_by b (pointed_size tags right) a
    else number_operation operator.Add left right a b)

abbrev pub fixed_difference : Tags → (left right : TypeTree) → Fixed → Fixed → Fixed
fixed_difference tags left right a b =
    if is_pointer right then on_numbers (λ x y. whole_quotient (word_difference x y) (pointed_size tags left)) a b
    else (if is_pointer left then moved_back a (pointed_size tags left) b
    else number_operation operator.Sub left right a b)

abbrev pub chosen_fixed : Fixed → Fixed → Fixed → Fixed
chosen_fixed test a b = on_number (λ x. if x == 0 then b else a) test

-- the right operand of `&&` and `||` counts only where the left one doesn't decide
abbrev pub fixed_truth : Fixed → Fixed
fixed_truth a = on_number (λ x. Number (truth (not (x == 0)))) a

abbrev pub fixed_binary : Tags → CBinary → (left right : TypeTree) → Fixed → Fixed → Fixed
fixed_binary tags operator.Add left right a b = fixed_sum tags left right a b
fixed_binary tags operator.Sub left right a b = fixed_difference tags left right a b
fixed_binary tags operator.AndAnd left right a b = on_number (λ x. if x == 0 then Number 0 else fixed_truth b) a
fixed_binary tags operator.OrOr left right a b = on_number (λ x. if x == 0 then fixed_truth b else Number 1) a
fixed_binary tags op left right a b = number_operation op left right a b

-- THE EVALUATOR. Casts to pointers and to void change nothing.

-- an expression: its type, its value, and its address where it is an lvalue or a function
pub record FixedPart : Type 0 where
  pub type : TypeTree
  pub value : Fixed
  pub address : Fixed

abbrev pub base_address : Meant → Fixed
base_address Nothing = NotFixed
base_address (Outer name) = Address (OuterBase name) 0
base_address (Static number) = Address (StaticBase number) 0
base_address (Auto number) = NotFixed
base_address (EnumValue value) = NotFixed
base_address (TypeName type) = NotFixed

abbrev pub found_offset : Fixed → Found → Fixed
found_offset start (At offset tag number type) = moved start offset
found_offset start members.Missing = NotFixed
found_offset start members.Ambiguous = NotFixed
found_offset start members.Incomplete = NotFixed

abbrev pub member_address : Tags → List ℕ → TypeTree → Fixed → Fixed
member_address tags x (Tagged i) start = found_offset start (find_member tags i x)
member_address tags x type start = NotFixed

abbrev pub target_of : TypeTree → TypeTree
target_of (Pointer target) = target
target_of type = Void

abbrev pub selected_address : Tags → (arrow : Bool) → List ℕ → FixedPart → Fixed
selected_address tags false x a = member_address tags x a.type a.address
selected_address tags true x a = member_address tags x (target_of (decayed a.type)) a.value

abbrev pub with_one : (FixedPart → Fixed) → List FixedPart → Fixed
with_one f (a ∷ []) = f a
with_one f parts = NotFixed

abbrev pub with_two : (FixedPart → FixedPart → Fixed) → List FixedPart → Fixed
with_two f (a ∷ (b ∷ [])) = f a b
with_two f parts = NotFixed

abbrev pub with_three : (FixedPart → FixedPart → FixedPart → Fixed) → List FixedPart → Fixed
with_three f (a ∷ (b ∷ (c ∷ []))) = f a b c
with_three f parts = NotFixed

abbrev pub address_at : Tags → Kind → Meant → List FixedPart → Fixed
address_at tags (kind.Name x) means parts = base_address means
address_at tags (kind.Text texts) means parts = base_address means
address_at tags kind.Parens means parts = with_one (λ a. a.address) parts
address_at tags kind.Index means parts = with_two (λ a i. fixed_sum tags (decayed a.type) (decayed i.type) a.value i.value) parts
address_at tags (kind.Dot arrow x) means parts = with_one (selected_address tags arrow x) parts
address_at tags (kind.Unary unary.Deref) means parts = with_one (λ a. a.value) parts
address_at tags k means parts = NotFixed

abbrev pub fixed_constant : constants.Constant → Fixed
fixed_constant constants.NotConstant = NotFixed
fixed_constant constants.Undefined = NotFixed
fixed_constant (constants.Value word) = Number word
fixed_constant constants.Null = Number 0

abbrev pub fixed_unary : CUnary → FixedPart → Fixed
fixed_unary unary.Address a = a.address
fixed_unary unary.Deref a = NotFixed
fixed_unary unary.Plus a = on_number (λ x. Number x) a.value
fixed_unary unary.Minus a = on_number (λ x. Number (word_negation x)) a.value
fixed_unary unary.Complement a = on_number (λ x. Number (word_complement x)) a.value
fixed_unary unary.Not a = on_number (λ x. Number (truth (x == 0))) a.value

abbrev pub fixed_cast : TypeTree → Fixed → Fixed
fixed_cast type a = if is_integer type then on_number (λ x. Number (narrowed type x)) a else a

abbrev pub after : Fixed → Fixed → Fixed
after (Number word) b = b
after (Address base offset) b = b
after NotFixed b = NotFixed

-- the value of what is neither an array nor a function
abbrev pub scalar_at : Tags → Kind → (type : TypeTree) → Meant → List FixedPart → Fixed
scalar_at tags (kind.Number n unsigned long) type means parts = Number n
scalar_at tags (kind.Character n) type means parts = Number n
scalar_at tags (kind.Name x) type means parts = fixed_constant (enumeration_constant means)
scalar_at tags kind.Parens type means parts = with_one (λ a. a.value) parts
scalar_at tags (kind.Unary op) type means parts = with_one (fixed_unary op) parts
scalar_at tags (kind.Binary op) type means parts =
    with_two (λ a b. fixed_binary tags op (decayed a.type) (decayed b.type) a.value b.value) parts
scalar_at tags kind.Choose type means parts = with_three (λ t a b. chosen_fixed t.value a.value b.value) parts
scalar_at tags kind.Comma type means parts = with_two (λ a b. after a.value b.value) parts
scalar_at tags kind.Cast type means parts = with_two (λ t a. fixed_cast type a.value) parts
scalar_at tags kind.SizeofValue type means parts = with_one (λ a. fixed_constant (size_constant tags a.type)) parts
scalar_at tags kind.SizeofType type means parts = with_one (λ t. fixed_constant (size_constant tags t.type)) parts
scalar_at tags k type means parts = NotFixed

-- an array stands for the address of its first element, and a function for its own
abbrev pub value_at : Tags → Kind → (type : TypeTree) → Meant → List FixedPart → Fixed
value_at tags k type means parts =
    if is_array type || is_function type then address_at tags k means parts else scalar_at tags k type means parts

abbrev pub fixed_at : Tags → Kind → Label → List FixedPart → FixedPart
fixed_at tags k label parts = record {
  type = label.type;
  value = value_at tags k label.type label.means parts;
  address = address_at tags k label.means parts;
}

abbrev mutual
  pub fixed_part : Tags → Typed → FixedPart
  fixed_part tags (node k label parts) = fixed_at tags k label (fixed_parts tags parts)

  pub fixed_parts : Tags → TypedRow → List FixedPart
  fixed_parts tags none = []
  fixed_parts tags (more first others) = fixed_part tags first ∷ fixed_parts tags others

abbrev pub fixed_of : Tags → Typed → Fixed
fixed_of tags t = (fixed_part tags t).value

-- ENTRIES

-- what stands in an initialiser, in the order of the nodes: an expression or text with what it
-- fills and its node; or an item that is too many, by the node that is told: an entry past the end
-- or with an index outside, or a text that is longer than its array
pub data InitEntry : Type 0 where
  Fill : (offset : ℕ) (type : TypeTree) (number : ℕ) (value : Typed) → InitEntry
  Past : (number : ℕ) → InitEntry

abbrev pub number_at : Typed → ℕ
number_at (node k label parts) = label.number

abbrev pub text_bytes : List (List ℕ) → List ℕ
text_bytes texts = flat_map (λ text. text) texts

abbrev pub or_number : Option ℕ → ℕ → ℕ
or_number None number = number
or_number (Some holder) number = holder

-- an expression, by the entry that holds it, if one does
abbrev pub single_entry : (holder : Option ℕ) → (offset : ℕ) → TypeTree → Typed → List InitEntry
single_entry holder offset (Array element n) (node (kind.Text texts) label parts) =
    (if nat_le (length (text_bytes texts)) n
    then Fill offset (Array element n) label.number (node (kind.Text texts) label parts)
    else Past (or_number holder label.number))
    ∷ []
single_entry holder offset type value = Fill offset type (number_at value) value ∷ []

abbrev pub placed_offset : Option Placed → ℕ
placed_offset None = 0
placed_offset (Some m) = m.offset

-- where a position begins
abbrev pub position_offset : Tags → (list : TypeTree) → ℕ → ℕ
position_offset tags (Array element n) position = size_of tags element * position
position_offset tags (Tagged i) position = placed_offset (slice_get (placed tags i) position)
position_offset tags type position = 0

-- the index of an entry, as typing sees it
abbrev pub index_parts : Tags → TypedRow → List Part
index_parts tags none = []
index_parts tags (more first others) =
    Value (record { type = type_at first; is_lvalue = false; constant = constant_of tags first }) ∷ []

abbrev pub fills : Role → Bool
fills (Fills type) = true
fills role = false

abbrev mutual
  pub entries_of : Tags → (holder : Option ℕ) → (offset : ℕ) → TypeTree → Typed → List InitEntry
  entries_of tags holder offset type (node (kind.InitList comma) label parts) = list_entries tags offset type 0 parts
  entries_of tags holder offset type (node k label parts) = single_entry holder offset type (node k label parts)

  pub list_entries : Tags → (offset : ℕ) → TypeTree → (next : ℕ) → TypedRow → List InitEntry
  list_entries tags offset type next none = []
  list_entries tags offset type next (more (node (kind.Entry entry_by equals) label parts) others) =
      (if fills (entry_role tags (EntryOf (Some type) next) entry_by (index_parts tags parts))
      then value_entries tags (Some label.number)
      (offset + position_offset tags type (entry_position tags (Some type) next entry_by (index_parts tags parts)))
      (filled_type (entry_role tags (EntryOf (Some type) next) entry_by (index_parts tags parts))) parts
      else Past label.number ∷ [])
      ++ list_entries tags offset type (suc (entry_position tags (Some type) next entry_by (index_parts tags parts))) others
  list_entries tags offset type next (more other others) = list_entries tags offset type next others

  -- an entry's last part is its initialiser
  pub value_entries : Tags → (holder : Option ℕ) → (offset : ℕ) → TypeTree → TypedRow → List InitEntry
  value_entries tags holder offset type none = []
  value_entries tags holder offset type (more value none) = entries_of tags holder offset type value
  value_entries tags holder offset type (more index (more value others)) =
      value_entries tags holder offset type (more value others)

-- the entries of the initialiser of an object of this type
abbrev pub initialiser_entries : Tags → TypeTree → Typed → List InitEntry
initialiser_entries tags type value = entries_of tags None 0 type value

-- WHAT ENTRIES WRITE

-- a number, an address, or the bytes of a text
pub data Content : Type 0 where
  Word : (word : ℕ) → Content
  AddressOf : (base : Base) (offset : ℕ) → Content
  Bytes : (bytes : List ℕ) → Content

-- a part of an object, by its offset and type, with its first content
pub record Write : Type 0 where
  pub offset : ℕ
  pub type : TypeTree
  pub content : Content

-- a text with its zero byte, where there is room
abbrev pub with_zero : (room : ℕ) → List ℕ → List ℕ
with_zero room bytes = if nat_lt (length bytes) room then bytes ++ 0 ∷ [] else bytes

abbrev pub converted : Conversion → Fixed → Fixed
converted Same a = a
converted Integer a = a
converted Null a = a
converted (Inner offset) a = moved a offset
converted Ambiguous a = NotFixed
converted No a = NotFixed

-- a number initialises a pointer only where it is 0
abbrev pub content_in : TypeTree → Fixed → Option Content
content_in type (Number word) =
    if is_integer type then Some (Word (narrowed type word))
    else (if word == 0 then Some (Word 0) else None)
content_in type (Address base offset) = if is_pointer type then Some (AddressOf base offset) else None
content_in type NotFixed = None

abbrev pub content_of : Tags → TypeTree → Typed → Option Content
content_of tags (Array element n) (node (kind.Text texts) label parts) = Some (Bytes (with_zero n (text_bytes texts)))
content_of tags type value =
    content_in type
    (converted (conversion tags (decayed (type_at value)) type (is_null_constant (constant_of tags value))) (fixed_of tags value))

-- the two rules on the items of an initialiser, of which the first item that breaks one is told
pub data ItemRule : Type 0 where
  NotConstant : ItemRule
  TooManyItems : ItemRule

pub record BrokenItem : Type 0 where
  pub number : ℕ
  pub rule : ItemRule

abbrev pub written : (offset : ℕ) → TypeTree → (number : ℕ) → Option Content → Result Write BrokenItem
written offset type number (Some content) = Ok (record { offset = offset; type = type; content = content })
written offset type number None = Err (record { number = number; rule = NotConstant })

abbrev pub entry_write : Tags → InitEntry → Result Write BrokenItem
entry_write tags (Past number) = Err (record { number = number; rule = TooManyItems })
entry_write tags (Fill offset type number value) = written offset type number (content_of tags type value)

-- what the entries write, in their order: a later one writes over an earlier one
abbrev pub with_write : Result Write BrokenItem → Result (List Write) BrokenItem → Result (List Write) BrokenItem
with_write (Err broken) others = Err broken
with_write (Ok w) (Err broken) = Err broken
with_write (Ok w) (Ok ws) = Ok (w ∷ ws)

abbrev pub all_writes : Tags → List InitEntry → Result (List Write) BrokenItem
all_writes tags [] = Ok []
all_writes tags (e ∷ es) = with_write (entry_write tags e) (all_writes tags es)

-- the first content of an object of this type, or the first item that breaks a rule; without an
-- initialiser its bytes are 0
abbrev pub first_writes : Tags → TypeTree → Typed → Result (List Write) BrokenItem
first_writes tags type value = all_writes tags (initialiser_entries tags type value)
