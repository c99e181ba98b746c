-- What the entries of an initialiser write lies inside the object and is of the kind that its part holds.
use Rattle.std.proofs.Common.{◌≡◌, ◌≤◌, ◌<◌, ℕ, suc, ◌+◌, ◌==◌, ◌&&◌, ◌||◌, not, nat_lt, nat_le, Bool, true, false, if◌then◌else◌, List, [], ◌∷◌, ◌++◌, length, length-append, Option, Some, None, Result, Ok, Err, refl, ap, subst, arith}
use Rattle.std.proofs.lemmas.Bool.Decides.{nat_tests}
use Rattle.p9_lang.specs.declared.tree.Kind.TheVariants as kind
use Rattle.p9_lang.specs.Trees.{node, none, more}
use Rattle.p9_lang.specs.Types.{TypeTree, Pointer, Array}
use Rattle.p9_lang.specs.Layout.{layout, size_in, size_of}
use Rattle.p9_lang.specs.TagRules.{NoneContainsItself}
use Rattle.p9_lang.specs.Conversions.{is_integer, is_pointer, decayed, conversion}
use Rattle.p9_lang.specs.Constants.{narrowed, type_at, constant_of, is_null_constant}
use Rattle.p9_lang.specs.Parts.{EntryOf}
use Rattle.p9_lang.specs.Entries.{entry_role, entry_position}
use Rattle.p9_lang.specs.Initialisers.{Fixed, Number, Address, NotFixed, fixed_of, InitEntry, Fill, Past, number_at, text_bytes, or_number, single_entry, index_parts, fills, entries_of, list_entries, value_entries, initialiser_entries, Content, Word, AddressOf, Bytes, Write, with_zero, converted, content_in, content_of, BrokenItem, written, entry_write, with_write, all_writes}
use Rattle.p9_lang.specs.Modules.{Label, Typed, TypedRow}
use Rattle.p9_lang.proofs.Bodies.{HasSize}
use Rattle.p9_lower.specs.Names.{Setting}
use Rattle.p9_lower.specs.Modules.{base_symbol}
use Rattle.p9_lower.specs.Premises.{are_bytes, is_empty, is_found, lies_inside, content_is_sound, writes_are_sound, first_is_sound}
use Rattle.p9_firsts.specs.Whole.{BodiesAreFull, texts_have_bytes, row_has_bytes, names_are_found, row_is_found}
use Rattle.p9_firsts.specs.Laws.{WritesAreSound}
use Rattle.p9_firsts.proofs.Sizes.{size_there, array_laid, array_room}
use Rattle.p9_firsts.proofs.Parts.{entry_inside}
use Rattle.p9_firsts.proofs.Fixing.{left_true, right_true, IsFixed, part_fixed, converted_fixed}

pub both : (a b : Bool) → a ≡ true → b ≡ true → (a && b) ≡ true
both true b e k = k
both false b e k = cc

or_left : (a b : Bool) → a ≡ true → (a || b) ≡ true
or_left true b e = refl
or_left false b e = cc

or_right : (a b : Bool) → b ≡ true → (a || b) ≡ true
or_right true b e = refl
or_right false b e = e

pub at_most : (a b : ℕ) → a ≤ b → nat_le a b ≡ true
at_most a b h = grind (arith, nat_tests)

deeper_inside : (offset p s whole size : ℕ) → p + s ≤ whole → offset + whole ≤ size → offset + p + s ≤ size
deeper_inside offset p s whole size h k = omega arith

-- TEXTS

pub bytes_and_zero : (bytes : List ℕ) → are_bytes bytes ≡ true → are_bytes (bytes ++ 0 ∷ []) ≡ true
bytes_and_zero [] h = refl
bytes_and_zero (b ∷ bs) h =
    both (nat_lt b 256) (are_bytes (bs ++ 0 ∷ [])) (left_true (nat_lt b 256) (are_bytes bs) h)
    (bytes_and_zero bs (right_true (nat_lt b 256) (are_bytes bs) h))

pub zero_is_there : (bytes : List ℕ) → not (is_empty (bytes ++ 0 ∷ [])) ≡ true
zero_is_there [] = refl
zero_is_there (b ∷ bs) = refl

zero_has_bytes : (n : ℕ) (bytes : List ℕ) → are_bytes bytes ≡ true → are_bytes (with_zero n bytes) ≡ true
zero_has_bytes n bytes h = by (nat_lt (length bytes) n)
  where
    by : (b : Bool) → are_bytes (if b then bytes ++ 0 ∷ [] else bytes) ≡ true
    by true = bytes_and_zero bytes h
    by false = h

zero_has_room : (n : ℕ) (bytes : List ℕ) → length bytes ≤ n → length (with_zero n bytes) ≤ n
zero_has_room n bytes h = by (nat_lt (length bytes) n) refl
  where
    by : (b : Bool) → nat_lt (length bytes) n ≡ b → length (if b then bytes ++ 0 ∷ [] else bytes) ≤ n
    by true e =
        let lt : length bytes < n = grind (arith, e) in
        let l = length-append bytes (0 ∷ []) in
        omega arith
    by false e = h

not_empty : (bytes : List ℕ) → 1 ≤ length bytes → not (is_empty bytes) ≡ true
not_empty [] h = absurd (omega arith)
not_empty (b ∷ bs) h = refl

zero_not_empty : (n : ℕ) (bytes : List ℕ) → 1 ≤ n → not (is_empty (with_zero n bytes)) ≡ true
zero_not_empty n bytes h = by (nat_lt (length bytes) n) refl
  where
    by : (b : Bool) → nat_lt (length bytes) n ≡ b → not (is_empty (if b then bytes ++ 0 ∷ [] else bytes)) ≡ true
    by true e = zero_is_there bytes
    by false e = let le : n ≤ length bytes = grind (arith, e) in not_empty bytes (omega arith)

module _ (setting : Setting) (ends : NoneContainsItself setting.tags) (full : BodiesAreFull setting.tags) (size : ℕ) where
  -- NUMBERS AND ADDRESSES

  number_sound : (offset : ℕ) (type : TypeTree) (word : ℕ) (c : Content) → offset + size_of setting.tags type ≤ size
      → content_in type (Number word) ≡ Some c → content_is_sound setting size offset type c ≡ true
  number_sound offset type word c h = by (is_integer type) refl
    where
      inside : lies_inside size offset (size_of setting.tags type) ≡ true
      inside = at_most (offset + size_of setting.tags type) size h

      zero_by : (b : Bool) → (if b then Some (Word 0) else None) ≡ Some c → content_is_sound setting size offset type c ≡ true
      zero_by true k =
          let z : Word 0 ≡ c = cc in
          subst (λ x. content_is_sound setting size offset type x ≡ true) z
          (both (is_integer type || true) (lies_inside size offset (size_of setting.tags type)) (or_right (is_integer type) true refl) inside)
      zero_by false k = cc

      by : (b : Bool) → is_integer type ≡ b → (if b then Some (Word (narrowed type word)) else (if word == 0 then Some (Word 0) else None)) ≡ Some c
          → content_is_sound setting size offset type c ≡ true
      by true i k =
          let z : Word (narrowed type word) ≡ c = cc in
          subst (λ x. content_is_sound setting size offset type x ≡ true) z
          (both (is_integer type || (narrowed type word == 0)) (lies_inside size offset (size_of setting.tags type))
          (or_left (is_integer type) (narrowed type word == 0) i) inside)
      by false i k = zero_by (word == 0) k

  pointer_size : (type : TypeTree) → is_pointer type ≡ true → size_of setting.tags type ≡ 4
  pointer_size (Pointer t) e = refl
  pointer_size _ e = cc

  content_sound : (offset : ℕ) (type : TypeTree) (f : Fixed) → offset + size_of setting.tags type ≤ size → IsFixed setting f → (c : Content)
      → content_in type f ≡ Some c → content_is_sound setting size offset type c ≡ true
  content_sound offset type (Number word) h g c e = number_sound offset type word c h e
  content_sound offset type (Address base moved) h g c e = by (is_pointer type) refl e
    where
      by : (b : Bool) → is_pointer type ≡ b → (if b then Some (AddressOf base moved) else None) ≡ Some c → content_is_sound setting size offset type c ≡ true
      by true p k =
          let z : AddressOf base moved ≡ c = cc in
          let s = pointer_size type p in
          let l : lies_inside size offset 4 ≡ true = at_most (offset + 4) size (subst (λ n. offset + n ≤ size) s h) in
          subst (λ x. content_is_sound setting size offset type x ≡ true) z
          (both (is_pointer type) (is_found (base_symbol setting base) && lies_inside size offset 4) p
          (both (is_found (base_symbol setting base)) (lies_inside size offset 4) g l))
      by false p k = cc
  content_sound offset type NotFixed h g c e = cc

  text_sound : (offset : ℕ) (t : TypeTree) (n : ℕ) (bytes : List ℕ) → HasSize setting.tags (Array t n) → offset + size_of setting.tags (Array t n) ≤ size
      → are_bytes bytes ≡ true → length bytes ≤ n → content_is_sound setting size offset (Array t n) (Bytes (with_zero n bytes)) ≡ true
  text_sound offset t n bytes h le b l =
      let a = array_laid setting.tags t n h.0 h.1 in
      let r = array_room setting.tags full t n h.0 h.1 in
      let s : size_of setting.tags (Array t n) ≡ h.0.size = ap size_in h.1 in
      let m = zero_has_room n bytes l in
      let e : offset + h.0.size ≤ size = subst (λ k. offset + k ≤ size) s le in
      both (are_bytes (with_zero n bytes)) (not (is_empty (with_zero n bytes)) && lies_inside size offset (length (with_zero n bytes)))
      (zero_has_bytes n bytes b)
      (both (not (is_empty (with_zero n bytes))) (lies_inside size offset (length (with_zero n bytes))) (zero_not_empty n bytes a.2)
      (at_most (offset + length (with_zero n bytes)) size (room (length (with_zero n bytes)) h.0.size m r e)))
    where
      room : (k whole : ℕ) → k ≤ n → n ≤ whole → offset + whole ≤ size → offset + k ≤ size
      room k whole a b c = omega arith

  -- ENTRIES

  abbrev EntryIsSound : InitEntry → Type 0
  EntryIsSound entry = (w : Write) → entry_write setting.tags entry ≡ Ok w → content_is_sound setting size w.offset w.type w.content ≡ true

  abbrev AreSound : List InitEntry → Type 0
  AreSound [] = Unit {0}
  AreSound (entry ∷ entries) = EntryIsSound entry × AreSound entries

  all_append : (xs ys : List InitEntry) → AreSound xs → AreSound ys → AreSound (xs ++ ys)
  all_append [] ys h g = g
  all_append (x ∷ xs) ys h g = (h.0, all_append xs ys h.1 g)

  if_sound : (b : Bool) (xs ys : List InitEntry) → (b ≡ true → AreSound xs) → AreSound ys → AreSound (if b then xs else ys)
  if_sound true xs ys h g = h refl
  if_sound false xs ys h g = g

  past_sound : (number : ℕ) → AreSound (Past number ∷ [])
  past_sound number = (λ w e. cc, tt)

  written_sound : (offset : ℕ) (type : TypeTree) (number : ℕ) (o : Option Content)
      → ((c : Content) → o ≡ Some c → content_is_sound setting size offset type c ≡ true) → (w : Write) → written offset type number o ≡ Ok w
      → content_is_sound setting size w.offset w.type w.content ≡ true
  written_sound offset type number (Some c) h w e =
      let z : record { offset = offset; type = type; content = c } ≡ w = cc in
      subst (λ x. content_is_sound setting size x.offset x.type x.content ≡ true) z (h c refl)
  written_sound offset type number None h w e = cc

  text_entry : (holder : Option ℕ) (offset : ℕ) (t : TypeTree) (n : ℕ) (texts : List (List ℕ)) (label : Label) (parts : TypedRow) → HasSize setting.tags (Array t n)
      → offset + size_of setting.tags (Array t n) ≤ size → are_bytes (text_bytes texts) ≡ true
      → AreSound (single_entry holder offset (Array t n) (node (kind.Text texts) label parts))
  text_entry holder offset t n texts label parts h le b = (by (nat_le (length (text_bytes texts)) n) refl, tt)
    where
      by : (there : Bool) → nat_le (length (text_bytes texts)) n ≡ there
          → EntryIsSound (if there then Fill offset (Array t n) label.number (node (kind.Text texts) label parts) else Past (or_number holder label.number))
      by true e w k =
          written_sound offset (Array t n) label.number (Some (Bytes (with_zero n (text_bytes texts))))
          (λ c z. let y : Bytes (with_zero n (text_bytes texts)) ≡ c = cc in
          subst (λ x. content_is_sound setting size offset (Array t n) x ≡ true) y (text_sound offset t n (text_bytes texts) h le b (grind (arith, e)))) w k
      by false e w k = cc

  single_sound : (holder : Option ℕ) (offset : ℕ) (type : TypeTree) (value : Typed) → HasSize setting.tags type
      → offset + size_of setting.tags type ≤ size → texts_have_bytes value ≡ true → names_are_found setting value ≡ true
      → AreSound (single_entry holder offset type value)
  single_sound holder offset (Array t n) (node (kind.Text texts) label parts) h le b g =
      text_entry holder offset t n texts label parts h le (left_true (are_bytes (text_bytes texts)) (row_has_bytes parts) b)
  single_sound holder offset type value h le b g = (
    written_sound offset type (number_at value) (content_of setting.tags type value)
        (content_sound offset type
        (converted (conversion setting.tags (decayed (type_at value)) type (is_null_constant (constant_of setting.tags value))) (fixed_of setting.tags value)) le
        (converted_fixed setting (conversion setting.tags (decayed (type_at value)) type (is_null_constant (constant_of setting.tags value)))
        (fixed_of setting.tags value) (part_fixed setting setting.tags value g).0)),
    tt,
  )

  mutual
    entries_sound : (holder : Option ℕ) (offset : ℕ) (type : TypeTree) (value : Typed) → HasSize setting.tags type
        → offset + size_of setting.tags type ≤ size → texts_have_bytes value ≡ true → names_are_found setting value ≡ true
        → AreSound (entries_of setting.tags holder offset type value)
    entries_sound holder offset type (node (kind.InitList comma) label parts) h le b g = list_sound offset type 0 parts h le b g
    entries_sound holder offset type (node k label parts) h le b g = single_sound holder offset type (node k label parts) h le b g

    list_sound : (offset : ℕ) (type : TypeTree) (next : ℕ) (parts : TypedRow) → HasSize setting.tags type → offset + size_of setting.tags type ≤ size
        → row_has_bytes parts ≡ true → row_is_found setting parts ≡ true → AreSound (list_entries setting.tags offset type next parts)
    list_sound offset type next none h le b g = tt
    list_sound offset type next (more (node (kind.Entry entry_by equals) label parts) others) h le b g =
        all_append _ _
        (if_sound (fills (entry_role setting.tags (EntryOf (Some type) next) entry_by (index_parts setting.tags parts))) _ _
        (λ e. let i = entry_inside setting.tags ends type next entry_by (index_parts setting.tags parts) h e in
        value_sound (Some label.number) _ _ parts i.laid (deeper_inside offset _ _ _ size i.inside le)
        (left_true (row_has_bytes parts) (row_has_bytes others) b) (left_true (row_is_found setting parts) (row_is_found setting others) g))
        (past_sound label.number))
        (list_sound offset type (suc (entry_position setting.tags (Some type) next entry_by (index_parts setting.tags parts))) others h le
        (right_true (row_has_bytes parts) (row_has_bytes others) b) (right_true (row_is_found setting parts) (row_is_found setting others) g))
    list_sound offset type next (more other others) h le b g =
        list_sound offset type next others h le (right_true (texts_have_bytes other) (row_has_bytes others) b)
        (right_true (names_are_found setting other) (row_is_found setting others) g)

    value_sound : (holder : Option ℕ) (offset : ℕ) (type : TypeTree) (parts : TypedRow) → HasSize setting.tags type
        → offset + size_of setting.tags type ≤ size → row_has_bytes parts ≡ true → row_is_found setting parts ≡ true
        → AreSound (value_entries setting.tags holder offset type parts)
    value_sound holder offset type none h le b g = tt
    value_sound holder offset type (more value none) h le b g =
        entries_sound holder offset type value h le (left_true (texts_have_bytes value) true b) (left_true (names_are_found setting value) true g)
    value_sound holder offset type (more index (more value others)) h le b g =
        value_sound holder offset type (more value others) h le (right_true (texts_have_bytes index) (row_has_bytes (more value others)) b)
        (right_true (names_are_found setting index) (row_is_found setting (more value others)) g)

  -- WRITES

  with_sound : (r : Result Write BrokenItem) (rs : Result (List Write) BrokenItem)
      → ((w : Write) → r ≡ Ok w → content_is_sound setting size w.offset w.type w.content ≡ true) → first_is_sound setting size rs ≡ true
      → first_is_sound setting size (with_write r rs) ≡ true
  with_sound (Err broken) rs h g = refl
  with_sound (Ok w) (Err broken) h g = refl
  with_sound (Ok w) (Ok ws) h g = both (content_is_sound setting size w.offset w.type w.content) (writes_are_sound setting size ws) (h w refl) g

  writes_sound : (entries : List InitEntry) → AreSound entries → first_is_sound setting size (all_writes setting.tags entries) ≡ true
  writes_sound [] h = refl
  writes_sound (e ∷ es) h = with_sound (entry_write setting.tags e) (all_writes setting.tags es) h.0 (writes_sound es h.1)

whole_inside : (n : ℕ) → 0 + n ≤ n
whole_inside n = omega arith

pub first_writes_are_sound : WritesAreSound
first_writes_are_sound setting type value ends full c b g =
    writes_sound setting ends full (size_of setting.tags type) (initialiser_entries setting.tags type value)
    (entries_sound setting ends full (size_of setting.tags type) None 0 type value (size_there (layout setting.tags type) c)
    (whole_inside (size_of setting.tags type)) b g)
