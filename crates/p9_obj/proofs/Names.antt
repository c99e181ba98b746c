-- The operands of all of a function's instructions.
use Rattle.std.proofs.Common.{◌≡◌, ◌↔◌, IsTrue, Bool, ℕ, List, [], ◌∷◌, ◌++◌, flat_map, All, sym, subst}
use Rattle.std.proofs.lemmas.List.Elements.{All-nil, All-cons, All-head, All-tail, All-append}
use Rattle.p9_abs.specs.declared.instructions.Abs.{Abs}
use Rattle.p9_abs.specs.declared.instructions.Operand.{Operand}
use Rattle.p9_abs.specs.declared.instructions.TextDef.{TextDef}
use Rattle.p9_abs.specs.declared.modules.Body.{Body}
use Rattle.p9_abs.specs.declared.modules.Body.TheVariants.{Text}
use Rattle.p9_abs.specs.Modules.{named_by_operand, named_by_piece}
use Rattle.p9_abs.specs.Validity.{IsWithin, NamesWithin}
use Rattle.p9_obj.specs.Rules.{NamesSymbols}

-- a fact of all elements of two lists is one of all of each
split-left : {X : Type 0} (P : X → Type 0) (xs ys : List X) → All P (xs ++ ys) → All P xs
split-left P [] ys h = All-nil P
split-left P (x ∷ xs) ys h = All-cons P x xs (All-head P x (xs ++ ys) h) (split-left P xs ys (All-tail P x (xs ++ ys) h))

split-right : {X : Type 0} (P : X → Type 0) (xs ys : List X) → All P (xs ++ ys) → All P ys
split-right P [] ys h = h
split-right P (x ∷ xs) ys h = split-right P xs ys (All-tail P x (xs ++ ys) h)

all-flat : {X Y : Type 0} (P : Y → Type 0) (f : X → List Y) (xs : List X) → All (λ x. All P (f x)) xs → All P (flat_map f xs)
all-flat P f [] h = All-nil P
all-flat P f (x ∷ xs) h = All-append P (f x) (flat_map f xs) (All-head (λ x. All P (f x)) x xs h) (all-flat P f xs (All-tail (λ x. All P (f x)) x xs h))

flat-all : {X Y : Type 0} (P : Y → Type 0) (f : X → List Y) (xs : List X) → All P (flat_map f xs) → All (λ x. All P (f x)) xs
flat-all P f [] h = All-nil (λ x. All P (f x))
flat-all P f (x ∷ xs) h = All-cons (λ x. All P (f x)) x xs (split-left P (f x) (flat_map f xs) h) (flat-all P f xs (split-right P (f x) (flat_map f xs) h))

-- a test of all instructions is one of what the function names
pub text_within : (count : ℕ) (body : Body) (def : TextDef) (b : Bool) → body ≡ Text def → (IsTrue b ↔ All (NamesSymbols count) def.code) → IsTrue b ↔ NamesWithin count body
unfolding NamesSymbols
text_within count body def b is g =
    let P : Operand → Type 0 = λ o. IsWithin count (named_by_operand o) in
    let f : Abs → List Operand = λ a. a.operands in
    let Q : Body → Type 0 = λ v. IsTrue b ↔ NamesWithin count v in
    subst Q (sym is) (
      λ t. (all-flat P f def.code (g.0 t), All-nil (λ p. IsWithin count (named_by_piece p))),
      λ n. g.1 (flat-all P f def.code n.0),
    )
