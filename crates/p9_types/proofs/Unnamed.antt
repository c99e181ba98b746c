-- The unnamed structures in one, as they come into the next level.
use Rattle.std.proofs.Common.{◌≡◌, ℕ, ◌+◌, Bool, true, false, not, ◌==◌, if◌then◌else◌, List, [], ◌∷◌, ◌++◌, length, map, append-nil, refl, sym, ap, subst, ◌∙◌, arith}
use Rattle.std.specs.List.{flat_map}
use Rattle.std.proofs.lemmas.Bool.Decides.{nat_tests}
use Rattle.std.proofs.lemmas.Grind.{flat_map-append}
use Rattle.std.proofs.lemmas.List.Elements.{filter-append}
use Rattle.p9_lang.specs.Names.{is_nameless}
use Rattle.p9_lang.specs.Types.{TypeTree, Tagged, Tags}
use Rattle.p9_lang.specs.Conversions.{is_structure}
use Rattle.p9_lang.specs.Members.{Part, Placed, part_at, unnamed_part, placed}
use Rattle.p9_types.specs.declared.level.Standing.{Standing}
use Rattle.p9_types.specs.Levels.{together, stands_at, SameLevel, copies, Adds, unmet, entering}
use Rattle.p9_types.specs.Capping.{capped}
use Rattle.p9_types.specs.Offsets.{cut_part, cut_placed, cut_unnamed, cut_inner}
use Rattle.p9_types.specs.Standings.{part_of, copies_of, spread}
use Rattle.p9_types.proofs.Tallies.{together_swap, same_append, stands_append}
use Rattle.p9_types.proofs.Entries.{adds_then, adds_nothing}
use Rattle.p9_types.proofs.Cutting.{unnamed_cut}

pub nameless_by_length : (xs : List ℕ) (b : Bool) → b ≡ (length xs == 0) → b ≡ is_nameless xs
nameless_by_length [] b e = e
nameless_by_length (x ∷ xs) b e = e ∙ by
  where
    by : (length (x ∷ xs) == 0) ≡ false
    by = grind (arith, nat_tests)

-- ONE MEMBER

pub named_part : (m : Placed) → is_nameless m.name ≡ false → (o : ℕ) → unnamed_part o m ≡ []
named_part m e o = ap (λ b. if b then part_at (o + m.offset) m.type else []) e

no_part : (t : TypeTree) → is_structure t ≡ false → (o : ℕ) → part_at o t ≡ []
no_part (Tagged i) e o = cc
no_part _ e o = refl

pub other_part : (m : Placed) → is_nameless m.name ≡ true → is_structure m.type ≡ false → (o : ℕ) → unnamed_part o m ≡ []
other_part m e f o = ap (λ b. if b then part_at (o + m.offset) m.type else []) e ∙ no_part m.type f (o + m.offset)

pub one_part : (m : Placed) (i : ℕ) → is_nameless m.name ≡ true → m.type ≡ Tagged i → (o : ℕ) → unnamed_part o m ≡ record { offset = o + m.offset; tag = i } ∷ []
one_part m i e f o = ap (λ b. if b then part_at (o + m.offset) m.type else []) e ∙ ap (part_at (o + m.offset)) f

pub enters_nothing : (L : List Part) (b : Bool) (met : ℕ → Bool) (o : ℕ) (m : Placed) → ((n : ℕ) → unnamed_part n m ≡ []) → Adds L (entering b met (cut_unnamed o m)) L
enters_nothing L b met o m e = subst (λ ps. Adds L (entering b met (map cut_part ps)) L) (sym (e o)) (adds_nothing L)

pub enters_met : (L : List Part) (b : Bool) (met : ℕ → Bool) (o : ℕ) (m : Placed) (i : ℕ) → ((n : ℕ) → unnamed_part n m ≡ record { offset = n + m.offset; tag = i } ∷ []) → met i ≡ true
    → Adds L (entering b met (cut_unnamed o m)) L
enters_met L b met o m i e h =
    subst (λ ps. Adds L (entering b met (map cut_part ps)) L) (sym (e o))
    (subst (λ c. Adds L (flat_map (copies b) (if not c then record { offset = capped (o + m.offset); tag = i } ∷ [] else [])) L) (sym h) (adds_nothing L))

pub enters_one : (L M : List Part) (b : Bool) (met : ℕ → Bool) (o : ℕ) (m : Placed) (i at : ℕ) → ((n : ℕ) → unnamed_part n m ≡ record { offset = n + m.offset; tag = i } ∷ []) → met i ≡ false
    → at ≡ capped (o + m.offset) → Adds L (copies b (record { offset = at; tag = i })) M → Adds L (entering b met (cut_unnamed o m)) M
enters_one L M b met o m i at e h f a =
    subst (λ ps. Adds L (entering b met (map cut_part ps)) M) (sym (e o))
    (subst (λ c. Adds L (flat_map (copies b) (if not c then record { offset = capped (o + m.offset); tag = i } ∷ [] else [])) M) (sym h)
    (subst (λ ps. Adds L ps M) (sym (append-nil (copies b (record { offset = capped (o + m.offset); tag = i }))))
    (subst (λ k. Adds L (copies b (record { offset = k; tag = i })) M) f a)))

-- MEMBERS IN TURN

entering_append : (b : Bool) (met : ℕ → Bool) (P Q : List Part) → entering b met (P ++ Q) ≡ entering b met P ++ entering b met Q
entering_append b met P Q =
    ap (flat_map (copies b)) (filter-append (λ p. not (met p.tag)) P Q) ∙ flat_map-append (copies b) (unmet met P) (unmet met Q)

pub entered_then : (b : Bool) (met : ℕ → Bool) (L N M P Q : List Part) → Adds L (entering b met P) N → Adds N (entering b met Q) M → Adds L (entering b met (P ++ Q)) M
entered_then b met L N M P Q a c =
    subst (λ ps. Adds L ps M) (sym (entering_append b met P Q)) (adds_then L (entering b met P) N (entering b met Q) M a c)

-- the members of a structure, told with their offsets cut off
pub entered_cut : (tags : Tags) (L M : List Part) (b : Bool) (met : ℕ → Bool) (p : Part) (ms : List Placed) → ms ≡ map cut_placed (placed tags p.tag)
    → Adds L (entering b met (flat_map (cut_unnamed p.offset) ms)) M → Adds L (entering b met (cut_inner tags p)) M
entered_cut tags L M b met p ms e a =
    subst (λ ps. Adds L (entering b met ps) M) (ap (flat_map (cut_unnamed p.offset)) e ∙ unnamed_cut p.offset (placed tags p.tag)) a

-- A LEVEL'S STRUCTURES IN TURN

unmet_append : (met : ℕ → Bool) (P Q : List Part) → unmet met (P ++ Q) ≡ unmet met P ++ unmet met Q
unmet_append met P Q = filter-append (λ p. not (met p.tag)) P Q

twice : (U : List Part) → SameLevel (flat_map (copies true) U) (U ++ U)
twice [] s = refl
twice (p ∷ U) s =
    stands_append s (p ∷ p ∷ []) (flat_map (copies true) U)
    ∙ ap (together (stands_at s (p ∷ p ∷ []))) (twice U s ∙ stands_append s U U)
    ∙ ap (λ x. together x (together (stands_at s U) (stands_at s U))) (stands_append s (p ∷ []) (p ∷ []))
    ∙ together_swap (stands_at s (p ∷ [])) (stands_at s (p ∷ [])) (stands_at s U) (stands_at s U)
    ∙ sym (ap (λ x. together x x) (stands_append s (p ∷ []) U))
    ∙ sym (stands_append s (p ∷ U) (p ∷ U))

once : (U : List Part) → flat_map (copies false) U ≡ U
once [] = refl
once (p ∷ U) = ap (λ l. p ∷ l) (once U)

-- what comes in from a structure's copies
copies_same : (tags : Tags) (b : Bool) (met : ℕ → Bool) (p : Part) → SameLevel (entering b met (cut_inner tags p)) (unmet met (flat_map (cut_inner tags) (copies b p)))
copies_same tags true met p s =
    twice (unmet met (cut_inner tags p)) s
    ∙ ap (stands_at s) (sym (unmet_append met (cut_inner tags p) (cut_inner tags p)) ∙ ap (unmet met) (ap (λ l. cut_inner tags p ++ l) (sym (append-nil (cut_inner tags p)))))
copies_same tags false met p s =
    ap (stands_at s) (once (unmet met (cut_inner tags p)) ∙ ap (unmet met) (sym (append-nil (cut_inner tags p))))

adds_parts : (L P Q M : List Part) → SameLevel P Q → Adds L P M → Adds L Q M
adds_parts L P Q M h a = record { same = λ s. a.same s ∙ same_append L L P Q (λ t. refl) h s }

pub level_then : (tags : Tags) (met : ℕ → Bool) (s : Standing) (ss : List Standing) (L N M : List Part) → Adds L (entering s.several met (cut_inner tags (part_of s))) N
    → Adds N (unmet met (flat_map (cut_inner tags) (spread ss))) M → Adds L (unmet met (flat_map (cut_inner tags) (spread (s ∷ ss)))) M
level_then tags met s ss L N M a c =
    subst (λ l. Adds L l M)
    (sym (unmet_append met (flat_map (cut_inner tags) (copies_of s)) (flat_map (cut_inner tags) (spread ss)))
    ∙ ap (unmet met) (sym (flat_map-append (cut_inner tags) (copies_of s) (spread ss))))
    (adds_then L (unmet met (flat_map (cut_inner tags) (copies_of s))) N (unmet met (flat_map (cut_inner tags) (spread ss))) M
    (adds_parts L (entering s.several met (cut_inner tags (part_of s))) (unmet met (flat_map (cut_inner tags) (copies_of s))) N
    (copies_same tags s.several met (part_of s)) a) c)

pub adds_over : (P M N : List Part) → Adds [] P M → Adds [] M N → Adds [] P N
adds_over P M N a b = record { same = λ s. b.same s ∙ a.same s }
