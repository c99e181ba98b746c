-- The item that is open.
use Rattle.std.proofs.Common.{◌≡◌, ℕ, ◌<◌, ◌≤◌, List, [], ◌∷◌, ◌++◌, length, reverse, slice_index_or, Option, refl, sym, ap, ◌∙◌, arith}
use Rattle.std.proofs.lemmas.List.{reverse-append}
use Rattle.p9_grammar.specs.Machine.{Read}
use Rattle.p9_tree_build.specs.declared.frame.Frame.{Frame}
use Rattle.p9_tree_build.specs.Machines.{stack_of}
use Rattle.p9_decl.specs.Walks.{item_at, last_start}

at_end : (ys : List Frame) (a b : Frame) (last : Option Read) (at : ℕ) → item_at (stack_of (ys ++ (b ∷ a ∷ []))) last at ≡ b.body.from
at_end [] a b last at = refl
at_end (y ∷ []) a b last at = refl
at_end (y ∷ z ∷ []) a b last at = refl
at_end (y ∷ z ∷ w ∷ ws) a b last at = at_end (z ∷ w ∷ ws) a b last at

pub item_below : (xs : List Frame) (x : Frame) (last : Option Read) (at : ℕ) → 2 ≤ length xs → x ≡ slice_index_or xs 1 x → item_at (stack_of (reverse xs)) last at ≡ x.body.from
item_below [] x last at h e = absurd (omega arith)
item_below (a ∷ []) x last at h e = absurd (omega arith)
item_below (a ∷ b ∷ xs) x last at h e =
    ap (λ ys. item_at (stack_of ys) last at) (reverse-append (a ∷ b ∷ []) xs)
    ∙ at_end (reverse xs) a b last at
    ∙ ap (λ (f : Frame). f.body.from) (sym e)

pub item_alone : (xs : List Frame) (last : Option Read) (at : ℕ) → length xs ≡ 1 → item_at (stack_of (reverse xs)) last at ≡ last_start last at
item_alone [] last at h = absurd (omega arith)
item_alone (a ∷ []) last at h = refl
item_alone (a ∷ b ∷ xs) last at h = absurd (omega arith)

pub item_none : (xs : List Frame) (last : Option Read) (at : ℕ) → length xs < 1 → item_at (stack_of (reverse xs)) last at ≡ at
item_none [] last at h = refl
item_none (a ∷ xs) last at h = absurd (omega arith)
