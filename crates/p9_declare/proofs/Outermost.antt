-- Steps of declarators, once a length is given.
use Rattle.std.proofs.Common.{◌≡◌, ℕ, Bool, true, false, ◌&&◌, List, [], ◌∷◌, ◌++◌, map, reverse, Option, Some, None, refl, sym, ap, ◌∙◌}
use Rattle.std.proofs.lemmas.List.{map-append, reverse-append}
use Rattle.std.proofs.lemmas.List.Folds.{list_all-append}
use Rattle.std.specs.List.{list_all}
use Rattle.p9_lang.specs.Constants as constants
use Rattle.p9_lang.specs.Types.{TypeTree, Tags}
use Rattle.p9_lang.specs.Declarators.{LengthBy, shaped, Shape, Names, Keeps, Points, Sized, Unsized, Takes, Step, makes_no_type, with_length}
use Rattle.p9_declare.specs.Closing.{with_given, is_unsized, sized_type}

-- A STEP

abbrev step : ℕ → Shape → Step
step k shape = record { number = k; shape = shape }

with_length-unsized : (n k : ℕ) (shape : Shape) → is_unsized shape ≡ true → (with_length n (step k shape)).shape ≡ Sized (constants.Value n)
with_length-unsized n k (Names x) e = cc
with_length-unsized n k Keeps e = cc
with_length-unsized n k Points e = cc
with_length-unsized n k (Sized c) e = cc
with_length-unsized n k Unsized e = refl
with_length-unsized n k (Takes ts l) e = cc

with_length-other : (n k : ℕ) (shape : Shape) → is_unsized shape ≡ false → (with_length n (step k shape)).shape ≡ shape
with_length-other n k (Names x) e = refl
with_length-other n k Keeps e = refl
with_length-other n k Points e = refl
with_length-other n k (Sized c) e = refl
with_length-other n k Unsized e = cc
with_length-other n k (Takes ts l) e = refl

pub shaped_given : (tags : Tags) (by : LengthBy) (o : Bool) (n : ℕ) (s : Step) (t : TypeTree) → is_unsized s.shape ≡ true
    → sized_type tags (constants.Value n) t ≡ shaped tags by o (with_given (Some n) s).shape t
shaped_given tags by o n s t e = ap (λ shape. shaped tags by o shape t) (sym (with_length-unsized n s.number s.shape e))

pub shaped_as_before : (tags : Tags) (by : LengthBy) (o : Bool) (n : ℕ) (s : Step) (t : TypeTree) → is_unsized s.shape ≡ false
    → shaped tags by o s.shape t ≡ shaped tags by o (with_given (Some n) s).shape t
shaped_as_before tags by o n s t e = ap (λ shape. shaped tags by o shape t) (sym (with_length-other n s.number s.shape e))

number_kept : (n k : ℕ) (shape : Shape) → (with_length n (step k shape)).number ≡ k
number_kept n k (Names x) = refl
number_kept n k Keeps = refl
number_kept n k Points = refl
number_kept n k (Sized c) = refl
number_kept n k Unsized = refl
number_kept n k (Takes ts l) = refl

pub with_given-number : (given : Option ℕ) (k : ℕ) (shape : Shape) → (with_given given (step k shape)).number ≡ k
with_given-number None k shape = refl
with_given-number (Some n) k shape = number_kept n k shape

type_kept : (n k : ℕ) (shape : Shape) → makes_no_type (with_length n (step k shape)) ≡ makes_no_type (step k shape)
type_kept n k (Names x) = refl
type_kept n k Keeps = refl
type_kept n k Points = refl
type_kept n k (Sized c) = refl
type_kept n k Unsized = refl
type_kept n k (Takes ts l) = refl

makes_no_type-given : (given : Option ℕ) (s : Step) → makes_no_type (with_given given s) ≡ makes_no_type s
makes_no_type-given None s = refl
makes_no_type-given (Some n) s = type_kept n s.number s.shape

-- STEPS

pub map_given_none : (steps : List Step) → map (with_given None) steps ≡ steps
map_given_none [] = refl
map_given_none (s ∷ steps) = ap (λ l. s ∷ l) (map_given_none steps)

pub map_given_some : (n : ℕ) (steps : List Step) → map (with_given (Some n)) steps ≡ map (with_length n) steps
map_given_some n [] = refl
map_given_some n (s ∷ steps) = ap (λ l. with_length n s ∷ l) (map_given_some n steps)

both_ways : (a b : Bool) → (a && (b && true)) ≡ (b && a)
both_ways true true = refl
both_ways true false = refl
both_ways false true = refl
both_ways false false = refl

all-reverse : {X : Type 0} (p : X → Bool) (xs : List X) → list_all p (reverse xs) ≡ list_all p xs
all-reverse p [] = refl
all-reverse p (x ∷ xs) =
    ap (list_all p) (reverse-append (x ∷ []) xs) ∙ list_all-append p (reverse xs) (x ∷ [])
    ∙ ap (λ b. b && (p x && true)) (all-reverse p xs) ∙ both_ways (list_all p xs) (p x)

all_given : (given : Option ℕ) (steps : List Step) → list_all makes_no_type (map (with_given given) steps) ≡ list_all makes_no_type steps
all_given given [] = refl
all_given given (s ∷ steps) = ap (λ b. b && list_all makes_no_type (map (with_given given) steps)) (makes_no_type-given given s) ∙ ap (λ b. makes_no_type s && b) (all_given given steps)

-- the steps further in, of which some may make a type
pub all_further : (given : Option ℕ) (steps : List Step) → list_all makes_no_type (reverse (map (with_given given) steps)) ≡ list_all makes_no_type steps
all_further given steps = all-reverse makes_no_type (map (with_given given) steps) ∙ all_given given steps

-- the last step is the outermost
pub outermost_first : {A : Type 0} (told : A → Step) (given : Option ℕ) (steps before : List A) (s : A) → steps ≡ before ++ s ∷ []
    → reverse (map (with_given given) (map told steps)) ≡ with_given given (told s) ∷ reverse (map (with_given given) (map told before))
outermost_first told given steps before s e =
    ap (λ l. reverse (map (with_given given) (map told l))) e
    ∙ ap (λ l. reverse (map (with_given given) l)) (map-append told before (s ∷ []))
    ∙ ap reverse (map-append (with_given given) (map told before) (told s ∷ []))
    ∙ reverse-append (map (with_given given) (map told before)) (with_given given (told s) ∷ [])
