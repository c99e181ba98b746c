-- Types that are compared part by part.
use Rattle.std.proofs.Common.{◌≡◌, ◌≤◌, ◌<◌, ◌↔◌, ℕ, ◌+◌, nat_eq, Bool, true, false, ◌&&◌, IsTrue, List, [], ◌∷◌, ◌++◌, length, refl, sym, ap, subst, ◌∙◌, arith}
use Rattle.std.proofs.lemmas.Bool.Decides.{nat_tests}
use Rattle.p9_lang.specs.declared.types.CType.{CType}
use Rattle.p9_lang.specs.Types.{TypeTree, Void, Char, UChar, Short, UShort, Int, UInt, Long, ULong, Pointer, Array, Function, Tagged, TypeRow, none, type_of, types_of, type_row}
use Rattle.p9_lang.specs.Conversions.{same_type, same_types}
use Rattle.p9_types.specs.declared.same.Pair.{Pair}
use Rattle.p9_types.specs.Heads.{head_of}
use Rattle.p9_types.specs.Pairs.{left_of, right_of, same_pairs, type_weight, row_weight, pairs_weight, PutsParts, PutsRows}

-- LISTS OF PAIRS

and_comm : (a b : Bool) → (a && b) ≡ (b && a)
and_comm true true = refl
and_comm true false = refl
and_comm false true = refl
and_comm false false = refl

and_assoc : (a b c : Bool) → ((a && b) && c) ≡ (a && (b && c))
and_assoc true b c = refl
and_assoc false b c = refl

and_false : (a : Bool) → (a && false) ≡ false
and_false true = refl
and_false false = refl

and_true : (a : Bool) → (a && true) ≡ a
and_true true = refl
and_true false = refl

pub pairs_more : (ps : List Pair) (p : Pair) → same_pairs (ps ++ p ∷ []) ≡ (same_pairs ps && same_type (left_of p) (right_of p))
pairs_more [] p = and_true (same_type (left_of p) (right_of p))
pairs_more (q ∷ ps) p = ap (λ b. same_type (left_of q) (right_of q) && b) (pairs_more ps p) ∙ sym (and_assoc (same_type (left_of q) (right_of q)) (same_pairs ps) (same_type (left_of p) (right_of p)))

pub weight_more : (ps : List Pair) (p : Pair) → pairs_weight (ps ++ p ∷ []) ≡ pairs_weight ps + type_weight (left_of p)
weight_more [] p = omega arith
weight_more (q ∷ ps) p = let r = weight_more ps p in omega arith

some_weight : (t : TypeTree) → 1 ≤ type_weight t
some_weight (Pointer t) = omega arith
some_weight (Array t n) = omega arith
some_weight (Function t ts) = omega arith
some_weight _ = omega arith

-- ONE PART

part_put : (before after : List Pair) (p : Pair) (l r : TypeTree) (alike : Bool) → after ≡ before ++ p ∷ [] → (alike && same_type (left_of p) (right_of p)) ≡ same_type l r
    → type_weight (left_of p) < type_weight l → PutsParts before l r alike after
part_put before after p l r alike e f lt = record {
  same =
      ap (λ ps. alike && same_pairs ps) e ∙ ap (λ b. alike && b) (pairs_more before p ∙ and_comm (same_pairs before) (same_type (left_of p) (right_of p)))
      ∙ sym (and_assoc alike (same_type (left_of p) (right_of p)) (same_pairs before)) ∙ ap (λ b. b && same_pairs before) f ∙ and_comm (same_type l r) (same_pairs before);
  less = let w = weight_more before p in let z = ap pairs_weight e in omega arith;
}

pub target_put : (before after : List Pair) (p : Pair) (l r : TypeTree) → after ≡ before ++ p ∷ [] → l ≡ Pointer (left_of p) → r ≡ Pointer (right_of p) → PutsParts before l r true after
target_put before after p l r e f g =
    subst (λ t. PutsParts before t r true after) (sym f) (subst (λ u. PutsParts before (Pointer (left_of p)) u true after) (sym g)
    (part_put before after p (Pointer (left_of p)) (Pointer (right_of p)) true e refl (omega arith)))

pub element_put : (before after : List Pair) (p : Pair) (l r : TypeTree) (m n : ℕ) → after ≡ before ++ p ∷ [] → l ≡ Array (left_of p) m → r ≡ Array (right_of p) n
    → PutsParts before l r (nat_eq m n) after
element_put before after p l r m n e f g =
    subst (λ t. PutsParts before t r (nat_eq m n) after) (sym f) (subst (λ u. PutsParts before (Array (left_of p) m) u (nat_eq m n) after) (sym g)
    (part_put before after p (Array (left_of p) m) (Array (right_of p) n) (nat_eq m n) e refl (omega arith)))

-- a result, and then parameters
pub signature_put : (before mid after : List Pair) (p : Pair) (l r : TypeTree) (ts us : TypeRow) (alike : Bool) → mid ≡ before ++ p ∷ [] → l ≡ Function (left_of p) ts → r ≡ Function (right_of p) us
    → PutsRows mid ts us alike after → PutsParts before l r alike after
signature_put before mid after p l r ts us alike e f g h =
    subst (λ t. PutsParts before t r alike after) (sym f) (subst (λ u. PutsParts before (Function (left_of p) ts) u alike after) (sym g) (record {
      same =
          h.same ∙ ap (λ ps. same_pairs ps && same_types ts us) e ∙ ap (λ b. b && same_types ts us) (pairs_more before p)
          ∙ and_assoc (same_pairs before) (same_type (left_of p) (right_of p)) (same_types ts us);
      less = let w = weight_more before p in let z = ap pairs_weight e in let n = h.no_more in omega arith;
    }))

-- PARAMETERS IN TURN

abbrev row : List CType → TypeRow
row ts = type_row (types_of ts)

-- what is still to be compared
pub record Compares (before now : List Pair) (left right lefts rights : List CType) : Type 0 where
  pub same : (same_pairs now && same_types (type_row (types_of lefts)) (type_row (types_of rights))) ≡ (same_pairs before && same_types (type_row (types_of left)) (type_row (types_of right)))
  pub weight : pairs_weight now + row_weight (type_row (types_of lefts)) ≤ pairs_weight before + row_weight (type_row (types_of left))

pub compares_first : (before : List Pair) (left right : List CType) → Compares before before left right left right
compares_first before left right = record { same = refl; weight = omega arith }

pub compares_next : (before now later : List Pair) (left right lefts rights ts us : List CType) (t u : CType) (p : Pair) → lefts ≡ t ∷ ts → rights ≡ u ∷ us → later ≡ now ++ p ∷ []
    → left_of p ≡ type_of t → right_of p ≡ type_of u → Compares before now left right lefts rights → Compares before later left right ts us
compares_next before now later left right lefts rights ts us t u p e f g h i c = record {
  same =
      ap (λ ps. same_pairs ps && same_types (row ts) (row us)) g ∙ ap (λ b. b && same_types (row ts) (row us)) (pairs_more now p)
      ∙ and_assoc (same_pairs now) (same_type (left_of p) (right_of p)) (same_types (row ts) (row us))
      ∙ ap (λ b. same_pairs now && (b && same_types (row ts) (row us))) (ap (λ x. same_type x (right_of p)) h ∙ ap (same_type (type_of t)) i)
      ∙ sym (ap (λ l. same_pairs now && same_types (row l) (row rights)) e ∙ ap (λ l. same_pairs now && same_types (row (t ∷ ts)) (row l)) f)
      ∙ c.same;
  weight =
      let w = weight_more now p in
      let z = ap pairs_weight g in
      let x : type_weight (left_of p) ≡ type_weight (type_of t) = ap type_weight h in
      let y : row_weight (row lefts) ≡ type_weight (type_of t) + row_weight (row ts) = ap (λ l. row_weight (row l)) e in
      let k = c.weight in
      omega arith;
}

-- one list is longer than the other

pub compares_short : (before now : List Pair) (left right lefts rights : List CType) (t : CType) (ts : List CType) → lefts ≡ t ∷ ts → rights ≡ []
    → Compares before now left right lefts rights → PutsRows before (type_row (types_of left)) (type_row (types_of right)) false now
compares_short before now left right lefts rights t ts e f c = record {
  same =
      sym (and_false (same_pairs now))
      ∙ sym (ap (λ l. same_pairs now && same_types (row l) (row rights)) e ∙ ap (λ l. same_pairs now && same_types (row (t ∷ ts)) (row l)) f)
      ∙ c.same;
  no_more = let k = c.weight in omega arith;
}

rest_same : (x : Bool) (rights : List CType) → (nat_eq (length rights) 0 && x) ≡ (x && same_types none (row rights))
rest_same x [] = sym (and_true x)
rest_same x (u ∷ us) = ap (λ b. b && x) bare ∙ sym (and_false x)
  where
    bare : nat_eq (length (u ∷ us)) 0 ≡ false
    bare = grind (arith, nat_tests)

pub compares_last : (before now : List Pair) (left right lefts rights : List CType) (alike : Bool) → lefts ≡ [] → alike ≡ nat_eq (length rights) 0
    → Compares before now left right lefts rights → PutsRows before (type_row (types_of left)) (type_row (types_of right)) alike now
compares_last before now left right lefts rights alike e f c = record {
  same =
      ap (λ b. b && same_pairs now) f ∙ rest_same (same_pairs now) rights
      ∙ sym (ap (λ l. same_pairs now && same_types (row l) (row rights)) e)
      ∙ c.same;
  no_more = let k = c.weight in omega arith;
}

-- TYPES WITHOUT PARTS

pub nothing_put : (before : List Pair) (l r : TypeTree) (alike : Bool) → alike ≡ same_type l r → PutsParts before l r alike before
nothing_put before l r alike e = record {
  same = ap (λ b. b && same_pairs before) e ∙ and_comm (same_type l r) (same_pairs before);
  less = let w = some_weight l in omega arith;
}

-- neither a pointer nor an array, function or structure
abbrev pub is_plain : TypeTree → Bool
is_plain (Pointer t) = false
is_plain (Array t n) = false
is_plain (Function t ts) = false
is_plain (Tagged i) = false
is_plain type = true

same_heads : (l r : TypeTree) → is_plain l ≡ true → same_type l r ≡ true → head_of l ≡ head_of r
same_heads Void Void e f = refl
same_heads Char Char e f = refl
same_heads UChar UChar e f = refl
same_heads Short Short e f = refl
same_heads UShort UShort e f = refl
same_heads Int Int e f = refl
same_heads UInt UInt e f = refl
same_heads Long Long e f = refl
same_heads ULong ULong e f = refl
same_heads (Pointer t) r e f = cc
same_heads (Array t n) r e f = cc
same_heads (Function t ts) r e f = cc
same_heads (Tagged i) r e f = cc
same_heads _ _ e f = cc

heads_same : (l r : TypeTree) → is_plain l ≡ true → head_of l ≡ head_of r → same_type l r ≡ true
heads_same Void Void e f = refl
heads_same Char Char e f = refl
heads_same UChar UChar e f = refl
heads_same Short Short e f = refl
heads_same UShort UShort e f = refl
heads_same Int Int e f = refl
heads_same UInt UInt e f = refl
heads_same Long Long e f = refl
heads_same ULong ULong e f = refl
heads_same (Pointer t) r e f = cc
heads_same (Array t n) r e f = cc
heads_same (Function t ts) r e f = cc
heads_same (Tagged i) r e f = cc
heads_same _ _ e f = cc

pub plain_put : (before : List Pair) (l r : TypeTree) (alike : Bool) → is_plain l ≡ true → (IsTrue alike ↔ (head_of l ≡ head_of r)) → PutsParts before l r alike before
plain_put before l r alike e h = nothing_put before l r alike (by alike (same_type l r) (λ k. heads_same l r e (h.0 k)) (λ k. h.1 (same_heads l r e k)))
  where
    by : (a b : Bool) → (a ≡ true → b ≡ true) → (b ≡ true → a ≡ true) → a ≡ b
    by true b f g = sym (f refl)
    by false true f g = g refl
    by false false f g = refl

-- THE WHOLE

pub compared_first : (empty ps : List Pair) (p : Pair) → empty ≡ [] → ps ≡ empty ++ p ∷ [] → same_pairs ps ≡ same_type (left_of p) (right_of p)
compared_first empty ps p e f = ap same_pairs (f ∙ ap (λ l. l ++ p ∷ []) e) ∙ and_true (same_type (left_of p) (right_of p))

pub compared_next : (ps before after : List Pair) (p : Pair) (same alike : Bool) → ps ≡ before ++ p ∷ [] → same_pairs ps ≡ same → PutsParts before (left_of p) (right_of p) alike after
    → (alike && same_pairs after) ≡ same
compared_next ps before after p same alike e f h = h.same ∙ sym (pairs_more before p) ∙ sym (ap same_pairs e) ∙ f

pub compared_less : (ps before after : List Pair) (p : Pair) (alike : Bool) → ps ≡ before ++ p ∷ [] → PutsParts before (left_of p) (right_of p) alike after
    → pairs_weight after < pairs_weight ps
compared_less ps before after p alike e h = let w = weight_more before p in let z = ap pairs_weight e in let l = h.less in omega arith
