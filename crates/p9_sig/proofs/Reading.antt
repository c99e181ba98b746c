-- Types that are alike but for what their tagged structures hold agree to every depth, where each tag
-- that was met stands for structures that hold what is alike.
use Rattle.std.proofs.Common.{◌≡◌, ℕ, zero, suc, ◌==◌, ◌&&◌, Bool, true, false, List, [], ◌∷◌, slice_get, Option, Some, None, refl, sym, ap, ◌∙◌}
use Rattle.std.proofs.lemmas.Bool.{and_from, eq-eqb}
use Rattle.p9_lang.specs.Names.{same_name, is_among}
use Rattle.p9_lang.specs.Types.{TypeTree, Pointer, Array, Function, Tagged, TypeRow, none, more, MemberTree, TagTree, Tags}
use Rattle.p9_lang.specs.Agreement.{open_body, kind_number, same_keyword, rows_agree, members_agree, bodies_agree, tags_agree, agree}
use Rattle.p9_sig.proofs.Names.{same_self}

abbrev pub Met : Type 0
Met = List (List ℕ)

-- ALIKE, by what says so of structures

abbrev mutual
  pub Alike : (ℕ → ℕ → Type 0) → TypeTree → TypeTree → Type 0
  Alike tags (Pointer t) (Pointer u) = Alike tags t u
  Alike tags (Array t m) (Array u n) = (m ≡ n) × Alike tags t u
  Alike tags (Function t ts) (Function u us) = AlikeRow tags ts us × Alike tags t u
  Alike tags (Tagged i) (Tagged j) = tags i j
  Alike tags t u = kind_number t ≡ kind_number u

  pub AlikeRow : (ℕ → ℕ → Type 0) → TypeRow → TypeRow → Type 0
  AlikeRow tags none none = Unit {0}
  AlikeRow tags none (more u us) = ⊥
  AlikeRow tags (more t ts) none = ⊥
  AlikeRow tags (more t ts) (more u us) = Alike tags t u × AlikeRow tags ts us

abbrev pub AlikeMembers : (ℕ → ℕ → Type 0) → List MemberTree → List MemberTree → Type 0
AlikeMembers tags [] [] = Unit {0}
AlikeMembers tags [] (n ∷ ns) = ⊥
AlikeMembers tags (m ∷ ms) [] = ⊥
AlikeMembers tags (m ∷ ms) (n ∷ ns) = (m.name ≡ n.name) × Alike tags m.type n.type × AlikeMembers tags ms ns

abbrev pub AlikeBodies : (ℕ → ℕ → Type 0) → Option (List MemberTree) → Option (List MemberTree) → Type 0
AlikeBodies tags None None = Unit {0}
AlikeBodies tags None (Some ns) = ⊥
AlikeBodies tags (Some ms) None = ⊥
AlikeBodies tags (Some ms) (Some ns) = AlikeMembers tags ms ns

-- one with a tag was met; one without holds what is alike
abbrev pub AlikeHeld : Met → (ℕ → ℕ → Type 0) → List ℕ → TagTree → TagTree → Type 0
AlikeHeld M tags [] s t = (s.is_union ≡ t.is_union) × AlikeBodies tags (open_body s) (open_body t)
AlikeHeld M tags (c ∷ cs) s t = is_among M (c ∷ cs) ≡ true

abbrev pub AlikeTag : Met → (ℕ → ℕ → Type 0) → Option TagTree → Option TagTree → Type 0
AlikeTag M tags None b = ⊥
AlikeTag M tags (Some s) None = ⊥
AlikeTag M tags (Some s) (Some t) = (s.name ≡ t.name) × AlikeHeld M tags s.name s t

-- the structures that the two types reach
module _ (A B : Tags) (R S : ℕ → Type 0) where
  abbrev pub AlikeTags : (depth : ℕ) → Met → ℕ → ℕ → Type 0
  AlikeTags zero M i j = ⊥
  AlikeTags (suc n) M i j = R i × S j × AlikeTag M (AlikeTags n M) (slice_get A i) (slice_get B j)

  -- the structures of a tag hold what is alike
  pub record Link (M : Met) (x : List ℕ) : Type 0 where
    pub depth : ℕ
    pub i : ℕ
    pub j : ℕ
    pub s : TagTree
    pub t : TagTree
    pub left_reached : R i
    pub right_reached : S j
    pub left : slice_get A i ≡ Some s
    pub right : slice_get B j ≡ Some t
    pub left_name : s.name ≡ x
    pub right_name : t.name ≡ x
    pub same_kind : s.is_union ≡ t.is_union
    pub bodies : AlikeBodies (AlikeTags depth M) (open_body s) (open_body t)

-- a tag that is reached names one structure
abbrev pub NamesDiffer : Tags → (ℕ → Type 0) → Type 0
NamesDiffer A R =
    (i j : ℕ) (s t : TagTree) (c : ℕ) (cs : List ℕ) → R i → R j → slice_get A i ≡ Some s → slice_get A j ≡ Some t
    → s.name ≡ c ∷ cs → t.name ≡ c ∷ cs → s ≡ t

same_kinds : (u v : Bool) → u ≡ v → same_keyword u v ≡ true
same_kinds true true e = refl
same_kinds true false e = sym e
same_kinds false true e = e
same_kinds false false e = refl

same_names : (x y : List ℕ) → x ≡ y → same_name x y ≡ true
same_names x y e = ap (same_name x) (sym e) ∙ same_self x

module _ (A B : Tags) (R S : ℕ → Type 0) (M : Met) (plain : NamesDiffer A R) (also : NamesDiffer B S) (links : (x : List ℕ) → is_among M x ≡ true → Link A B R S M x) where
  -- what follows from types that are alike, at a lesser depth
  module _ (d : ℕ) (deep : (n : ℕ) (t u : TypeTree) → Alike (AlikeTags A B R S n M) t u → agree d A B t u ≡ true) where
    rows : (n : ℕ) (ts us : TypeRow) → AlikeRow (AlikeTags A B R S n M) ts us → rows_agree (agree d A B) ts us ≡ true
    rows n none none h = refl
    rows n none (more u us) h = absurd h
    rows n (more t ts) none h = absurd h
    rows n (more t ts) (more u us) h = and_from (agree d A B t u) (rows_agree (agree d A B) ts us) (deep n t u h.0) (rows n ts us h.1)

    members : (n : ℕ) (ms ns : List MemberTree) → AlikeMembers (AlikeTags A B R S n M) ms ns → members_agree (agree d A B) ms ns ≡ true
    members n [] [] h = refl
    members n [] (x ∷ ns) h = absurd h
    members n (m ∷ ms) [] h = absurd h
    members n (m ∷ ms) (x ∷ ns) h =
        and_from (same_name m.name x.name) (agree d A B m.type x.type && members_agree (agree d A B) ms ns) (same_names m.name x.name h.0)
        (and_from (agree d A B m.type x.type) (members_agree (agree d A B) ms ns) (deep n m.type x.type h.1) (members n ms ns h.2))

    bodies : (n : ℕ) (a b : Option (List MemberTree)) → AlikeBodies (AlikeTags A B R S n M) a b → bodies_agree (agree d A B) a b ≡ true
    bodies n None None h = refl
    bodies n None (Some ns) h = absurd h
    bodies n (Some ms) None h = absurd h
    bodies n (Some ms) (Some ns) h = members n ms ns h

    held : (n i j : ℕ) (s t : TagTree) → R i → S j → slice_get A i ≡ Some s → slice_get B j ≡ Some t → (x : List ℕ) → s.name ≡ x → t.name ≡ x
        → AlikeHeld M (AlikeTags A B R S n M) x s t → (s.is_union ≡ t.is_union) × (bodies_agree (agree d A B) (open_body s) (open_body t) ≡ true)
    held n i j s t ri sj p q [] e f h = (h.0, bodies n (open_body s) (open_body t) h.1)
    held n i j s t ri sj p q (c ∷ cs) e f h =
        let l = links (c ∷ cs) h in
        let a = plain i l.i s l.s c cs ri l.left_reached p l.left e l.left_name in
        let b = also j l.j t l.t c cs sj l.right_reached q l.right f l.right_name in (
          ap (λ v. v.is_union) a ∙ l.same_kind ∙ sym (ap (λ v. v.is_union) b),
          ap (λ v. bodies_agree (agree d A B) (open_body v) (open_body t)) a
              ∙ ap (λ v. bodies_agree (agree d A B) (open_body l.s) (open_body v)) b
              ∙ bodies l.depth (open_body l.s) (open_body l.t) l.bodies,
        )

    tags : (n i j : ℕ) → AlikeTags A B R S n M i j → tags_agree (agree d A B) (slice_get A i) (slice_get B j) ≡ true
    tags zero i j h = absurd h
    tags (suc n) i j h = by (slice_get A i) (slice_get B j) refl refl h.2
      where
        by : (a b : Option TagTree) → slice_get A i ≡ a → slice_get B j ≡ b → AlikeTag M (AlikeTags A B R S n M) a b → tags_agree (agree d A B) a b ≡ true
        by None b p q k = absurd k
        by (Some s) None p q k = absurd k
        by (Some s) (Some t) p q k =
            let r = held n i j s t h.0 h.1 p q s.name refl (sym k.0) k.1 in
            and_from (same_keyword s.is_union t.is_union) (same_name s.name t.name && bodies_agree (agree d A B) (open_body s) (open_body t))
            (same_kinds s.is_union t.is_union r.0)
            (and_from (same_name s.name t.name) (bodies_agree (agree d A B) (open_body s) (open_body t)) (same_names s.name t.name k.0) r.1)

    deeper : (n : ℕ) (t u : TypeTree) → Alike (AlikeTags A B R S n M) t u → agree (suc d) A B t u ≡ true
    deeper n (Pointer t) (Pointer u) h = deep n t u h
    deeper n (Array t k) (Array u l) h = and_from (k == l) (agree d A B t u) (eq-eqb k l h.0) (deep n t u h.1)
    deeper n (Function t ts) (Function u us) h = and_from (agree d A B t u) (rows_agree (agree d A B) ts us) (deep n t u h.1) (rows n ts us h.0)
    deeper n (Tagged i) (Tagged j) h = tags n i j h
    deeper n t u h = eq-eqb (kind_number t) (kind_number u) h

  pub agree_all : (d n : ℕ) (t u : TypeTree) → Alike (AlikeTags A B R S n M) t u → agree d A B t u ≡ true
  agree_all zero n t u h = refl
  agree_all (suc d) n t u h = deeper d (agree_all d) n t u h
