-- What an earlier level has may be left out: had it what is looked for, that would stand at a lesser level.
use Rattle.std.proofs.Common.{arith, ◌≡◌, ℕ, zero, suc, ◌+◌, Bool, true, false, ◌||◌, nat_eq, if◌then◌else◌, List, [], ◌∷◌, ◌++◌, append-nil, true≢false, refl, sym, ap, subst, ◌∙◌}
use Rattle.std.specs.List.{flat_map}
use Rattle.std.proofs.lemmas.Bool.{eqb-true}
use Rattle.std.proofs.lemmas.Bool.Decides.{nat_tests}
use Rattle.std.proofs.lemmas.Grind.{flat_map-append}
use Rattle.p9_lang.specs.Names.{is_nameless}
use Rattle.p9_lang.specs.Types.{TypeTree, Tagged, Tags}
use Rattle.p9_lang.specs.Members.{Part, Placed, Sought, Nowhere, One, Several, or_deeper, offset_if, part_at, unnamed_part, inner_parts, placed, sought, whole}
use Rattle.p9_types.specs.Levels.{tally, together, stands_at, SameLevel}
use Rattle.p9_types.proofs.Tallies.{IsUniform, tally_append}
use Rattle.p9_types.proofs.Descent.{nil_front, nil_back}

-- WHAT HOLDS OF ALL STRUCTURES AT A LEVEL

abbrev pub AllParts : (ℕ → Type 0) → List Part → Type 0
AllParts P [] = Unit {0}
AllParts P (p ∷ L) = P p.tag × AllParts P L

all_append : (P : ℕ → Type 0) (L M : List Part) → AllParts P L → AllParts P M → AllParts P (L ++ M)
all_append P [] M h k = k
all_append P (p ∷ L) M h k = (h.0, all_append P L M h.1 k)

all_front : (P : ℕ → Type 0) (L M : List Part) → AllParts P (L ++ M) → AllParts P L
all_front P [] M h = tt
all_front P (p ∷ L) M h = (h.0, all_front P L M h.1)

all_back : (P : ℕ → Type 0) (L M : List Part) → AllParts P (L ++ M) → AllParts P M
all_back P [] M h = h
all_back P (p ∷ L) M h = all_back P L M h.1

pub all_parts : (P Q : ℕ → Type 0) → ((t : ℕ) → P t → Q t) → (L : List Part) → AllParts P L → AllParts Q L
all_parts P Q f [] h = tt
all_parts P Q f (p ∷ L) h = (f p.tag h.0, all_parts P Q f L h.1)

-- the structures within one are the same wherever it stands
all_member : (P : ℕ → Type 0) (o n : ℕ) (t : TypeTree) → AllParts P (part_at o t) → AllParts P (part_at n t)
all_member P o n (Tagged i) h = h
all_member P o n _ h = tt

all_unnamed : (P : ℕ → Type 0) (o n : ℕ) (m : Placed) → AllParts P (unnamed_part o m) → AllParts P (unnamed_part n m)
all_unnamed P o n m h = by (is_nameless m.name) h
  where
    by : (b : Bool) → AllParts P (if b then part_at (o + m.offset) m.type else []) → AllParts P (if b then part_at (n + m.offset) m.type else [])
    by true k = all_member P (o + m.offset) (n + m.offset) m.type k
    by false k = tt

all_inner : (P : ℕ → Type 0) (o n : ℕ) (ms : List Placed) → AllParts P (flat_map (unnamed_part o) ms) → AllParts P (flat_map (unnamed_part n) ms)
all_inner P o n [] h = tt
all_inner P o n (m ∷ ms) h =
    all_append P (unnamed_part n m) (flat_map (unnamed_part n) ms) (all_unnamed P o n m (all_front P (unnamed_part o m) (flat_map (unnamed_part o) ms) h))
    (all_inner P o n ms (all_back P (unnamed_part o m) (flat_map (unnamed_part o) ms) h))

-- whether a structure stands at a level
abbrev pub among : ℕ → List Part → Bool
among s [] = false
among s (p ∷ L) = nat_eq p.tag s || among s L

pub all_among : (P : ℕ → Type 0) (s : ℕ) (L : List Part) → AllParts P L → among s L ≡ true → P s
all_among P s [] h e = absurd (true≢false (sym e))
all_among P s (p ∷ L) h e = by (nat_eq p.tag s) refl e (all_among P s L h.1)
  where
    by : (b : Bool) → nat_eq p.tag s ≡ b → (b || among s L) ≡ true → (among s L ≡ true → P s) → P s
    by true f g k = subst P (eqb-true p.tag s f) h.0
    by false f g k = k g

-- one that is told by where it stands
abbrev is_there : {A : Type 0} → Sought A → Bool
is_there Nowhere = false
is_there (One x) = true
is_there Several = true

is_there_together : {A : Type 0} (s t : Sought A) → is_there (together s t) ≡ (is_there s || is_there t)
is_there_together Nowhere t = refl
is_there_together (One x) Nowhere = refl
is_there_together (One x) (One y) = refl
is_there_together (One x) Several = refl
is_there_together Several t = refl

there_among : (s : ℕ) (L : List Part) → is_there (stands_at s L) ≡ among s L
there_among s [] = refl
there_among s (p ∷ L) =
    ap is_there (tally_append (offset_if s p) (flat_map (offset_if s) L)) ∙ is_there_together (tally (offset_if s p)) (stands_at s L)
    ∙ ap (λ b. is_there (tally (offset_if s p)) || b) (there_among s L) ∙ by (nat_eq p.tag s)
  where
    by : (b : Bool) → (is_there (tally (if b then p.offset ∷ [] else [])) || among s L) ≡ (b || among s L)
    by true = refl
    by false = refl

all_of_among : (P : ℕ → Type 0) (M : List Part) → ((s : ℕ) → among s M ≡ true → P s) → AllParts P M
all_of_among P [] f = tt
all_of_among P (p ∷ M) f = (f p.tag (first p.tag M), all_of_among P M (λ s e. f s (later p.tag s M e)))
  where
    first : (t : ℕ) (L : List Part) → (nat_eq t t || among t L) ≡ true
    first t L = grind (arith, nat_tests)

    later : (t s : ℕ) (L : List Part) → among s L ≡ true → (nat_eq t s || among s L) ≡ true
    later t s L e = grind (arith, nat_tests)

pub all_same : (P : ℕ → Type 0) (L M : List Part) → SameLevel L M → AllParts P L → AllParts P M
all_same P L M h a = all_of_among P M (λ s e. all_among P s L a (sym (there_among s L) ∙ ap is_there (h s) ∙ there_among s M ∙ e))

-- SEARCHES THAT FIND NOTHING

module _ {A : Type 0} (tags : Tags) (has : Part → List A) where
  -- in a structure and to a depth less than this there is nothing of what is looked for
  abbrev pub Hollow : (depth : ℕ) → ℕ → Type 0
  Hollow zero t = Unit {0}
  Hollow (suc r) t = (has (whole t) ≡ []) × AllParts (Hollow r) (inner_parts tags (whole t))

  pub hollow_less : (r t : ℕ) → Hollow (suc r) t → Hollow r t
  hollow_less zero t h = tt
  hollow_less (suc r) t h = (h.0, all_parts (Hollow (suc r)) (Hollow r) (hollow_less r) (inner_parts tags (whole t)) h.1)

  pub all_zero : (L : List Part) → AllParts (Hollow zero) L
  all_zero [] = tt
  all_zero (p ∷ L) = (tt, all_zero L)

  hollow_next : (r : ℕ) (L : List Part) → AllParts (Hollow (suc r)) L → AllParts (Hollow r) (flat_map (inner_parts tags) L)
  hollow_next r [] h = tt
  hollow_next r (p ∷ L) h =
      all_append (Hollow r) (inner_parts tags p) (flat_map (inner_parts tags) L) (all_inner (Hollow r) 0 p.offset (placed tags p.tag) h.0.1) (hollow_next r L h.1)

  module _ (u : IsUniform has) where
    pub hollow_here : (r : ℕ) (L : List Part) → flat_map has L ≡ [] → AllParts (Hollow r) (flat_map (inner_parts tags) L) → AllParts (Hollow (suc r)) L
    hollow_here r [] e h = tt
    hollow_here r (p ∷ L) e h = (
      (u p (whole p.tag) refl (nil_front (has p) (flat_map has L) e), all_inner (Hollow r) p.offset 0 (placed tags p.tag) (all_front (Hollow r) (inner_parts tags p) (flat_map (inner_parts tags) L) h)),
      hollow_here r L (nil_back (has p) (flat_map has L) e) (all_back (Hollow r) (inner_parts tags p) (flat_map (inner_parts tags) L) h),
    )

    hollow_none : (r : ℕ) (L : List Part) → AllParts (Hollow (suc r)) L → flat_map has L ≡ []
    hollow_none r [] h = refl
    hollow_none r (p ∷ L) h = ap (λ xs. xs ++ flat_map has L) (u (whole p.tag) p refl h.0.0) ∙ hollow_none r L h.1

    -- what can only be found deeper than in others adds nothing
    pub absorbed : (d : ℕ) (K P : List Part) → ((r : ℕ) → AllParts (Hollow r) K → AllParts (Hollow (suc r)) P) → sought d tags has (K ++ P) ≡ sought d tags has K
    absorbed zero K P h = refl
    absorbed (suc d) K P h =
        by (flat_map has K) refl
        (λ none. absorbed d (flat_map (inner_parts tags) K) (flat_map (inner_parts tags) P)
        (λ r a. hollow_next (suc r) P (h (suc r) (hollow_here r K none a))))
      where
        whole_is : flat_map has (K ++ P) ≡ flat_map has K
        whole_is = flat_map-append has K P ∙ ap (λ xs. flat_map has K ++ xs) (hollow_none zero P (h zero (all_zero K))) ∙ append-nil (flat_map has K)

        by : (xs : List A) → flat_map has K ≡ xs
            → (flat_map has K ≡ [] → sought d tags has (flat_map (inner_parts tags) K ++ flat_map (inner_parts tags) P) ≡ sought d tags has (flat_map (inner_parts tags) K))
            → or_deeper (flat_map has (K ++ P)) (sought d tags has (flat_map (inner_parts tags) (K ++ P))) ≡ or_deeper (flat_map has K) (sought d tags has (flat_map (inner_parts tags) K))
        by [] e next =
            ap (λ l. or_deeper l (sought d tags has (flat_map (inner_parts tags) (K ++ P)))) (whole_is ∙ e)
            ∙ ap (sought d tags has) (flat_map-append (inner_parts tags) K P) ∙ next e
            ∙ sym (ap (λ l. or_deeper l (sought d tags has (flat_map (inner_parts tags) K))) e)
        by (x ∷ xs) e next =
            ap (λ l. or_deeper l (sought d tags has (flat_map (inner_parts tags) (K ++ P)))) (whole_is ∙ e)
            ∙ either x xs (sought d tags has (flat_map (inner_parts tags) (K ++ P))) (sought d tags has (flat_map (inner_parts tags) K))
            ∙ sym (ap (λ l. or_deeper l (sought d tags has (flat_map (inner_parts tags) K))) e)
          where
            either : (x : A) (xs : List A) (s t : Sought A) → or_deeper (x ∷ xs) s ≡ or_deeper (x ∷ xs) t
            either x [] s t = refl
            either x (y ∷ ys) s t = refl
