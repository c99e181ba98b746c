-- What an expression is counted from before the program runs has a symbol, where its names have.
use Rattle.std.proofs.Common.{◌≡◌, ℕ, ◌%◌, ◌==◌, ◌||◌, ◌&&◌, Bool, true, false, if◌then◌else◌, List, [], ◌∷◌, Result, Ok, Err, refl}
use Rattle.p9_lang.specs.declared.tree.CBinary.{CBinary}
use Rattle.p9_lang.specs.declared.tree.CBinary.TheVariants as operator
use Rattle.p9_lang.specs.declared.tree.CUnary.{CUnary}
use Rattle.p9_lang.specs.declared.tree.CUnary.TheVariants as unary
use Rattle.p9_lang.specs.declared.tree.Kind.{Kind}
use Rattle.p9_lang.specs.declared.tree.Kind.TheVariants as kind
use Rattle.p9_base.specs.Words.{word_product, word_negation, word_difference}
use Rattle.p9_lang.specs.Trees.{node, none, more}
use Rattle.p9_lang.specs.Types.{TypeTree, Tagged, Tags, Meant, Nothing, Outer, Static, Auto, EnumValue, TypeName}
use Rattle.p9_lang.specs.Members.{Found, At, find_member}
use Rattle.p9_lang.specs.Members as members
use Rattle.p9_lang.specs.Conversions.{is_integer, is_pointer, is_array, is_function, decayed, Conversion, Same, Integer, Null, Inner, Ambiguous, No}
use Rattle.p9_lang.specs.Constants.{truth, narrowed, word_operation, size_constant, enumeration_constant}
use Rattle.p9_lang.specs.Constants as constants
use Rattle.p9_lang.specs.Initialisers.{Fixed, Number, Address, NotFixed, moved, moved_by, moved_back, on_numbers, on_number, fixed_result, pointers_unsigned, number_operation, pointed_size, quotient_of, whole_quotient, fixed_sum, fixed_difference, chosen_fixed, fixed_truth, fixed_binary, FixedPart, base_address, found_offset, member_address, target_of, selected_address, with_one, with_two, with_three, address_at, fixed_constant, fixed_unary, fixed_cast, after, scalar_at, fixed_part, fixed_parts, converted}
use Rattle.p9_lang.specs.Modules.{Typed, TypedRow}
use Rattle.p9_lower.specs.Names.{Setting}
use Rattle.p9_lower.specs.Modules.{base_symbol}
use Rattle.p9_lower.specs.Premises.{is_found}
use Rattle.p9_firsts.specs.Whole.{meaning_is_found, node_is_found, names_are_found, row_is_found}

pub left_true : (a b : Bool) → (a && b) ≡ true → a ≡ true
left_true true b e = refl
left_true false b e = cc

pub right_true : (a b : Bool) → (a && b) ≡ true → b ≡ true
right_true true b e = e
right_true false b e = cc

module _ (setting : Setting) where
  -- an address has a symbol
  abbrev pub IsFixed : Fixed → Type 0
  IsFixed (Number word) = Unit {0}
  IsFixed (Address base offset) = is_found (base_symbol setting base) ≡ true
  IsFixed NotFixed = Unit {0}

  abbrev pub PartIsFixed : FixedPart → Type 0
  PartIsFixed part = IsFixed part.value × IsFixed part.address

  abbrev pub PartsAreFixed : List FixedPart → Type 0
  PartsAreFixed [] = Unit {0}
  PartsAreFixed (part ∷ parts) = PartIsFixed part × PartsAreFixed parts

  if_fixed : (b : Bool) (x y : Fixed) → IsFixed x → IsFixed y → IsFixed (if b then x else y)
  if_fixed true x y h g = h
  if_fixed false x y h g = g

  moved_fixed : (f : Fixed) (amount : ℕ) → IsFixed f → IsFixed (moved f amount)
  moved_fixed (Number word) amount h = tt
  moved_fixed (Address base offset) amount h = h
  moved_fixed NotFixed amount h = tt

  moved_by_fixed : (f : Fixed) (size : ℕ) (count : Fixed) → IsFixed f → IsFixed (moved_by f size count)
  moved_by_fixed f size (Number count) h = moved_fixed f (word_product count size) h
  moved_by_fixed f size (Address base offset) h = tt
  moved_by_fixed f size NotFixed h = tt

  moved_back_fixed : (f : Fixed) (size : ℕ) (count : Fixed) → IsFixed f → IsFixed (moved_back f size count)
  moved_back_fixed f size (Number count) h = moved_fixed f (word_negation (word_product count size)) h
  moved_back_fixed f size (Address base offset) h = tt
  moved_back_fixed f size NotFixed h = tt

  numbers_fixed : (operation : ℕ → ℕ → Fixed) → ((x y : ℕ) → IsFixed (operation x y)) → (a b : Fixed) → IsFixed (on_numbers operation a b)
  numbers_fixed operation h (Number a) (Number b) = h a b
  numbers_fixed operation h (Number a) (Address base offset) = tt
  numbers_fixed operation h (Number a) NotFixed = tt
  numbers_fixed operation h (Address base offset) b = tt
  numbers_fixed operation h NotFixed b = tt

  number_fixed : (operation : ℕ → Fixed) → ((x : ℕ) → IsFixed (operation x)) → (a : Fixed) → IsFixed (on_number operation a)
  number_fixed operation h (Number a) = h a
  number_fixed operation h (Address base offset) = tt
  number_fixed operation h NotFixed = tt

  result_fixed : (r : Result ℕ constants.WordFault) → IsFixed (fixed_result r)
  result_fixed (Ok word) = tt
  result_fixed (Err fault) = tt

  operation_fixed : (op : CBinary) (left right : TypeTree) (a b : Fixed) → IsFixed (number_operation op left right a b)
  operation_fixed op left right a b = numbers_fixed _ (λ x y. result_fixed (word_operation op (pointers_unsigned left right op) x y)) a b

  quotient_fixed : (bytes size : ℕ) → IsFixed (whole_quotient bytes size)
  quotient_fixed bytes size = if_fixed (bytes % size == 0) (quotient_of bytes size) NotFixed (result_fixed (word_operation operator.Div false bytes size)) tt

  sum_fixed : (tags : Tags) (left right : TypeTree) (a b : Fixed) → IsFixed a → IsFixed b → IsFixed (fixed_sum tags left right a b)
  sum_fixed tags left right a b h g =
      if_fixed (is_pointer left) _ _ (moved_by_fixed a (pointed_size tags left) b h)
      (if_fixed (is_pointer right) _ _ (moved_by_fixed b (pointed_size tags right) a g) (operation_fixed operator.Add left right a b))

  difference_fixed : (tags : Tags) (left right : TypeTree) (a b : Fixed) → IsFixed a → IsFixed (fixed_difference tags left right a b)
  difference_fixed tags left right a b h =
      if_fixed (is_pointer right) _ _ (numbers_fixed _ (λ x y. quotient_fixed (word_difference x y) (pointed_size tags left)) a b)
      (if_fixed (is_pointer left) _ _ (moved_back_fixed a (pointed_size tags left) b h) (operation_fixed operator.Sub left right a b))

  chosen_is_fixed : (test a b : Fixed) → IsFixed a → IsFixed b → IsFixed (chosen_fixed test a b)
  chosen_is_fixed test a b h g = number_fixed _ (λ x. if_fixed (x == 0) b a g h) test

  truth_fixed : (a : Fixed) → IsFixed (fixed_truth a)
  truth_fixed a = number_fixed _ (λ x. tt) a

  binary_fixed : (tags : Tags) (op : CBinary) (left right : TypeTree) (a b : Fixed) → IsFixed a → IsFixed b → IsFixed (fixed_binary tags op left right a b)
  binary_fixed tags operator.Add left right a b h g = sum_fixed tags left right a b h g
  binary_fixed tags operator.Sub left right a b h g = difference_fixed tags left right a b h
  binary_fixed tags operator.AndAnd left right a b h g = number_fixed _ (λ x. if_fixed (x == 0) (Number 0) (fixed_truth b) tt (truth_fixed b)) a
  binary_fixed tags operator.OrOr left right a b h g = number_fixed _ (λ x. if_fixed (x == 0) (fixed_truth b) (Number 1) (truth_fixed b) tt) a
  binary_fixed tags op left right a b h g = operation_fixed op left right a b

  base_fixed : (means : Meant) → meaning_is_found setting means ≡ true → IsFixed (base_address means)
  base_fixed Nothing h = tt
  base_fixed (Outer name) h = h
  base_fixed (Static number) h = h
  base_fixed (Auto number) h = tt
  base_fixed (EnumValue value) h = tt
  base_fixed (TypeName type) h = tt

  offset_fixed : (f : Fixed) (found : Found) → IsFixed f → IsFixed (found_offset f found)
  offset_fixed f (At offset tag number type) h = moved_fixed f offset h
  offset_fixed f members.Missing h = tt
  offset_fixed f members.Ambiguous h = tt
  offset_fixed f members.Incomplete h = tt

  member_fixed : (tags : Tags) (x : List ℕ) (type : TypeTree) (f : Fixed) → IsFixed f → IsFixed (member_address tags x type f)
  member_fixed tags x (Tagged i) f h = offset_fixed f (find_member tags i x) h
  member_fixed tags x _ f h = tt

  selected_fixed : (tags : Tags) (arrow : Bool) (x : List ℕ) (a : FixedPart) → PartIsFixed a → IsFixed (selected_address tags arrow x a)
  selected_fixed tags false x a h = member_fixed tags x a.type a.address h.1
  selected_fixed tags true x a h = member_fixed tags x (target_of (decayed a.type)) a.value h.0

  one_fixed : (f : FixedPart → Fixed) → ((a : FixedPart) → PartIsFixed a → IsFixed (f a)) → (parts : List FixedPart) → PartsAreFixed parts
      → IsFixed (with_one f parts)
  one_fixed f h [] g = tt
  one_fixed f h (a ∷ []) g = h a g.0
  one_fixed f h (a ∷ (b ∷ others)) g = tt

  two_fixed : (f : FixedPart → FixedPart → Fixed) → ((a b : FixedPart) → PartIsFixed a → PartIsFixed b → IsFixed (f a b))
      → (parts : List FixedPart) → PartsAreFixed parts → IsFixed (with_two f parts)
  two_fixed f h [] g = tt
  two_fixed f h (a ∷ []) g = tt
  two_fixed f h (a ∷ (b ∷ [])) g = h a b g.0 g.1.0
  two_fixed f h (a ∷ (b ∷ (c ∷ others))) g = tt

  three_fixed : (f : FixedPart → FixedPart → FixedPart → Fixed)
      → ((a b c : FixedPart) → PartIsFixed a → PartIsFixed b → PartIsFixed c → IsFixed (f a b c)) → (parts : List FixedPart)
      → PartsAreFixed parts → IsFixed (with_three f parts)
  three_fixed f h [] g = tt
  three_fixed f h (a ∷ []) g = tt
  three_fixed f h (a ∷ (b ∷ [])) g = tt
  three_fixed f h (a ∷ (b ∷ (c ∷ []))) g = h a b c g.0 g.1.0 g.1.1.0
  three_fixed f h (a ∷ (b ∷ (c ∷ (d ∷ others)))) g = tt

  constant_fixed : (c : constants.Constant) → IsFixed (fixed_constant c)
  constant_fixed constants.NotConstant = tt
  constant_fixed constants.Undefined = tt
  constant_fixed (constants.Value word) = tt
  constant_fixed constants.Null = tt

  unary_fixed : (op : CUnary) (a : FixedPart) → PartIsFixed a → IsFixed (fixed_unary op a)
  unary_fixed unary.Address a h = h.1
  unary_fixed unary.Deref a h = tt
  unary_fixed unary.Plus a h = number_fixed _ (λ x. tt) a.value
  unary_fixed unary.Minus a h = number_fixed _ (λ x. tt) a.value
  unary_fixed unary.Complement a h = number_fixed _ (λ x. tt) a.value
  unary_fixed unary.Not a h = number_fixed _ (λ x. tt) a.value

  cast_fixed : (type : TypeTree) (a : Fixed) → IsFixed a → IsFixed (fixed_cast type a)
  cast_fixed type a h = if_fixed (is_integer type) _ a (number_fixed _ (λ x. tt) a) h

  after_fixed : (a b : Fixed) → IsFixed b → IsFixed (after a b)
  after_fixed (Number word) b h = h
  after_fixed (Address base offset) b h = h
  after_fixed NotFixed b h = tt

  -- addresses and values of nodes

  address_fixed : (tags : Tags) (k : Kind) (means : Meant) (parts : List FixedPart) → node_is_found setting k means ≡ true → PartsAreFixed parts
      → IsFixed (address_at tags k means parts)
  address_fixed tags (kind.Name x) means parts h g = base_fixed means h
  address_fixed tags (kind.Text texts) means parts h g = base_fixed means h
  address_fixed tags kind.Parens means parts h g = one_fixed _ (λ a p. p.1) parts g
  address_fixed tags kind.Index means parts h g =
      two_fixed _ (λ a i p q. sum_fixed tags (decayed a.type) (decayed i.type) a.value i.value p.0 q.0) parts g
  address_fixed tags (kind.Dot arrow x) means parts h g = one_fixed _ (λ a p. selected_fixed tags arrow x a p) parts g
  address_fixed tags (kind.Unary unary.Deref) means parts h g = one_fixed _ (λ a p. p.0) parts g
  address_fixed tags _ means parts h g = tt

  scalar_fixed : (tags : Tags) (k : Kind) (type : TypeTree) (means : Meant) (parts : List FixedPart) → PartsAreFixed parts
      → IsFixed (scalar_at tags k type means parts)
  scalar_fixed tags (kind.Number n unsigned long) type means parts g = tt
  scalar_fixed tags (kind.Character n) type means parts g = tt
  scalar_fixed tags (kind.Name x) type means parts g = constant_fixed (enumeration_constant means)
  scalar_fixed tags kind.Parens type means parts g = one_fixed _ (λ a p. p.0) parts g
  scalar_fixed tags (kind.Unary op) type means parts g = one_fixed _ (λ a p. unary_fixed op a p) parts g
  scalar_fixed tags (kind.Binary op) type means parts g =
      two_fixed _ (λ a b p q. binary_fixed tags op (decayed a.type) (decayed b.type) a.value b.value p.0 q.0) parts g
  scalar_fixed tags kind.Choose type means parts g = three_fixed _ (λ t a b p q r. chosen_is_fixed t.value a.value b.value q.0 r.0) parts g
  scalar_fixed tags kind.Comma type means parts g = two_fixed _ (λ a b p q. after_fixed a.value b.value q.0) parts g
  scalar_fixed tags kind.Cast type means parts g = two_fixed _ (λ t a p q. cast_fixed type a.value q.0) parts g
  scalar_fixed tags kind.SizeofValue type means parts g = one_fixed _ (λ a p. constant_fixed (size_constant tags a.type)) parts g
  scalar_fixed tags kind.SizeofType type means parts g = one_fixed _ (λ t p. constant_fixed (size_constant tags t.type)) parts g
  scalar_fixed tags _ type means parts g = tt

  mutual
    pub part_fixed : (tags : Tags) (t : Typed) → names_are_found setting t ≡ true → PartIsFixed (fixed_part tags t)
    part_fixed tags (node k label parts) h =
        let here = left_true (node_is_found setting k label.means) (row_is_found setting parts) h in
        let others = parts_fixed tags parts (right_true (node_is_found setting k label.means) (row_is_found setting parts) h) in
        let address = address_fixed tags k label.means (fixed_parts tags parts) here others in (
          if_fixed (is_array label.type || is_function label.type) _ _ address (scalar_fixed tags k label.type label.means (fixed_parts tags parts) others),
          address,
        )

    parts_fixed : (tags : Tags) (ts : TypedRow) → row_is_found setting ts ≡ true → PartsAreFixed (fixed_parts tags ts)
    parts_fixed tags none h = tt
    parts_fixed tags (more t ts) h = (
      part_fixed tags t (left_true (names_are_found setting t) (row_is_found setting ts) h),
      parts_fixed tags ts (right_true (names_are_found setting t) (row_is_found setting ts) h),
    )

  pub converted_fixed : (c : Conversion) (a : Fixed) → IsFixed a → IsFixed (converted c a)
  converted_fixed Same a h = h
  converted_fixed Integer a h = h
  converted_fixed Null a h = h
  converted_fixed (Inner offset) a h = moved_fixed a offset h
  converted_fixed Ambiguous a h = tt
  converted_fixed No a h = tt
