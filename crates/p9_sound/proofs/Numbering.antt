-- Kinds of nodes by their numbers, as more nodes come.
use Rattle.std.proofs.Common.{◌≡◌, ◌<◌, ℕ, zero, suc, true, false, List, [], ◌∷◌, ◌++◌, length, slice_get, slice_set, reverse, map, Option, Some, refl, sym, ap, subst, ◌∙◌, arith}
use Rattle.std.proofs.lemmas.Option.{slice_get_within}
use Rattle.std.proofs.lemmas.Grind.{reverse_onto}
use Rattle.p9_lang.specs.declared.tree.Kind.{Kind}
use Rattle.p9_lang.specs.Trees.{node, none, more, Syntax, SyntaxRow}
use Rattle.p9_lang.specs.Declarators.{Step, Shape, Names, Keeps, Points, Sized, Unsized, Takes, NameNode, name_of, with_length}
use Rattle.p9_sound.specs.Labels.{is_open, IsShut}

-- ELEMENTS of lists

pub get_more : {A : Type 0} (xs ys : List A) (n : ℕ) (x : A) → slice_get xs n ≡ Some x → slice_get (xs ++ ys) n ≡ Some x
get_more [] ys zero x e = cc
get_more [] ys (suc n) x e = cc
get_more (y ∷ xs) ys zero x e = e
get_more (y ∷ xs) ys (suc n) x e = get_more xs ys n x e

pub get_last : {A : Type 0} (xs : List A) (x : A) → slice_get (xs ++ x ∷ []) (length xs) ≡ Some x
get_last [] x = refl
get_last (y ∷ xs) x = get_last xs x

pub get_before : {A : Type 0} (xs ys : List A) (n : ℕ) → n < length xs → slice_get (xs ++ ys) n ≡ slice_get xs n
get_before [] ys n h = absurd (omega (arith, h))
get_before (x ∷ xs) ys zero h = refl
get_before (x ∷ xs) ys (suc n) h = get_before xs ys n (omega (arith, h))

pub get_apart : {A : Type 0} (xs : List A) (m n : ℕ) (x : A) → (n ≡ m → ⊥) → slice_get (slice_set xs m x) n ≡ slice_get xs n
get_apart [] m n x h = refl
get_apart (y ∷ ys) zero zero x h = absurd (h refl)
get_apart (y ∷ ys) zero (suc n) x h = refl
get_apart (y ∷ ys) (suc m) zero x h = refl
get_apart (y ∷ ys) (suc m) (suc n) x h = get_apart ys m n x (λ e. h (ap suc e))

-- the kinds of the nodes so far, behind a tree and behind a row
abbrev mutual
  pub kinds_after : List Kind → Syntax → List Kind
  kinds_after kinds (node k at parts) = kinds_after_row kinds parts ++ k ∷ []

  pub kinds_after_row : List Kind → SyntaxRow → List Kind
  kinds_after_row kinds none = kinds
  kinds_after_row kinds (more t ts) = kinds_after_row (kinds_after kinds t) ts

-- the number of a tree's own node, behind nodes of these kinds
abbrev pub root : List Kind → Syntax → ℕ
root kinds (node k at parts) = length (kinds_after_row kinds parts)

pub length_last : {A : Type 0} (xs : List A) (x : A) → length (xs ++ x ∷ []) ≡ suc (length xs)
length_last [] x = refl
length_last (y ∷ xs) x = ap suc (length_last xs x)

pub root_last : (kinds : List Kind) (t : Syntax) → suc (root kinds t) ≡ length (kinds_after kinds t)
root_last kinds (node k at parts) = sym (length_last (kinds_after_row kinds parts) k)

-- MORE KINDS

abbrev pub Extends : (a b : List Kind) → Type 0
Extends a b = (n : ℕ) (k : Kind) → slice_get a n ≡ Some k → slice_get b n ≡ Some k

pub extends_self : (a : List Kind) → Extends a a
extends_self a n k e = e

pub extends_last : (a : List Kind) (k : Kind) → Extends a (a ++ k ∷ [])
extends_last a k n found e = get_more a (k ∷ []) n found e

mutual
  pub extends_tree : (kinds : List Kind) (t : Syntax) → Extends kinds (kinds_after kinds t)
  extends_tree kinds (node k at parts) n found e =
      extends_last (kinds_after_row kinds parts) k n found (extends_row kinds parts n found e)

  pub extends_row : (kinds : List Kind) (ts : SyntaxRow) → Extends kinds (kinds_after_row kinds ts)
  extends_row kinds none n found e = e
  extends_row kinds (more t ts) n found e =
      extends_row (kinds_after kinds t) ts n found (extends_tree kinds t n found e)

-- OPEN AND SHUT

pub record IsOpen (kinds : List Kind) (n : ℕ) : Type 0 where
  pub found : Kind
  pub there : slice_get kinds n ≡ Some found
  pub opens : is_open found ≡ true

pub shut_later : (a b : List Kind) → Extends a b → (n : ℕ) → IsShut a n → IsShut b n
shut_later a b x n h = record { found = h.found; there = x n h.found h.there; shut = h.shut }

pub open_later : (a b : List Kind) → Extends a b → (n : ℕ) → IsOpen a n → IsOpen b n
open_later a b x n h = record { found = h.found; there = x n h.found h.there; opens = h.opens }

pub shut_last : (kinds : List Kind) (k : Kind) → is_open k ≡ false → IsShut (kinds ++ k ∷ []) (length kinds)
shut_last kinds k e = record { found = k; there = get_last kinds k; shut = e }

pub open_last : (kinds : List Kind) (k : Kind) → is_open k ≡ true → IsOpen (kinds ++ k ∷ []) (length kinds)
open_last kinds k e = record { found = k; there = get_last kinds k; opens = e }

same_kind : (a b : Kind) (o : Option Kind) → o ≡ Some a → o ≡ Some b → a ≡ b
same_kind a b o e f = let z : Some a ≡ Some b = sym e ∙ f in cc

pub apart : (kinds : List Kind) (n m : ℕ) → IsShut kinds n → IsOpen kinds m → n ≡ m → ⊥
apart kinds n m a b e =
    let there : slice_get kinds n ≡ Some b.found = ap (λ i. slice_get kinds i) e ∙ b.there in
    let same : a.found ≡ b.found = same_kind a.found b.found (slice_get kinds n) a.there there in
    let z : false ≡ true = sym a.shut ∙ ap is_open same ∙ b.opens in
    cc

pub shut_within : (kinds : List Kind) (n : ℕ) → IsShut kinds n → n < length kinds
shut_within kinds n h = slice_get_within kinds n h.found h.there

-- STEPS of declarators, whose nodes are open

abbrev pub AreOpen : List Kind → List Step → Type 0
AreOpen kinds [] = Unit {0}
AreOpen kinds (step ∷ steps) = IsOpen kinds step.number × AreOpen kinds steps

pub steps_later : (a b : List Kind) → Extends a b → (steps : List Step) → AreOpen a steps → AreOpen b steps
steps_later a b x [] h = tt
steps_later a b x (step ∷ steps) h = (open_later a b x step.number h.0, steps_later a b x steps h.1)

pub steps_append : (kinds : List Kind) (xs ys : List Step) → AreOpen kinds xs → AreOpen kinds ys → AreOpen kinds (xs ++ ys)
steps_append kinds [] ys h k = k
steps_append kinds (x ∷ xs) ys h k = (h.0, steps_append kinds xs ys h.1 k)

pub steps_reverse : (kinds : List Kind) (steps : List Step) → AreOpen kinds steps → AreOpen kinds (reverse steps)
steps_reverse kinds [] h = tt
steps_reverse kinds (step ∷ steps) h =
    subst (λ xs. AreOpen kinds xs) (sym (reverse_onto steps step []))
    (steps_append kinds (reverse steps) (step ∷ []) (steps_reverse kinds steps h.1) (h.0, tt))

with_length_number : (n m : ℕ) (shape : Shape) → (with_length n (record { number = m; shape = shape })).number ≡ m
with_length_number n m (Names name) = refl
with_length_number n m Keeps = refl
with_length_number n m Points = refl
with_length_number n m (Sized length) = refl
with_length_number n m Unsized = refl
with_length_number n m (Takes parameters level) = refl

pub steps_with_length : (kinds : List Kind) (n : ℕ) (steps : List Step) → AreOpen kinds steps → AreOpen kinds (map (with_length n) steps)
steps_with_length kinds n [] h = tt
steps_with_length kinds n (step ∷ steps) h = (
  subst (λ m. IsOpen kinds m) (sym (with_length_number n step.number step.shape)) h.0,
  steps_with_length kinds n steps h.1,
)

pub name_number : (m : ℕ) (shape : Shape) (steps : List Step) (n : NameNode) → name_of (record { number = m; shape = shape } ∷ steps) ≡ Some n → n.number ≡ m
name_number m (Names name) steps n e =
    let z : record { name = name; number = m } ≡ n = cc in ap (λ x. x.number) (sym z)
name_number m Keeps steps n e = cc
name_number m Points steps n e = cc
name_number m (Sized length) steps n e = cc
name_number m Unsized steps n e = cc
name_number m (Takes parameters level) steps n e = cc

pub name_open : (kinds : List Kind) (steps : List Step) (n : NameNode) → AreOpen kinds steps → name_of steps ≡ Some n → IsOpen kinds n.number
name_open kinds [] n h e = cc
name_open kinds (step ∷ steps) n h e =
    subst (λ m. IsOpen kinds m) (sym (name_number step.number step.shape steps n e)) h.0
