-- A declared name's type: what its declarator makes last; and where its length is given, complete.
use Rattle.std.proofs.Common.{◌≡◌, ◌<◌, ◌⊎◌, inl, inr, ℕ, zero, suc, ◌&&◌, ◌||◌, Bool, true, false, not, List, [], ◌∷◌, ◌++◌, map, length, reverse, slice_get, slice_set, Option, Some, None, Ok, refl, sym, ap, subst, ◌∙◌, arith}
use Rattle.std.specs.List.{list_all}
use Rattle.std.proofs.lemmas.List.{length-set}
use Rattle.std.proofs.lemmas.Grind.{reverse_onto}
use Rattle.p9_lang.specs.Types.{TypeTree, Pointer, Array, Function, Tags}
use Rattle.p9_lang.specs.Layout.{Extent, on_some, repeated, layout, has_layout, is_complete, is_within_limit}
use Rattle.p9_lang.specs.Conversions.{is_array, is_function, is_structure}
use Rattle.p9_lang.specs.Rules.{Rule, Incomplete, BadOperands, BadConstant, breaks_if, unless_rules}
use Rattle.p9_lang.specs.Constants.{Constant, NotConstant, Undefined, Null}
use Rattle.p9_lang.specs.Constants as constants
use Rattle.p9_lang.specs.Declarators.{Step, Shape, Names, Keeps, Points, Sized, Unsized, Takes, LengthBy, ByNothing, gives_length, array_rules, NameNode, name_of, closed, closed_from, shaped, broken_at, makes_no_type, with_length, object_rules}
use Rattle.p9_lang.proofs.Counting.{then_of}
use Rattle.p9_firsts.specs.Typedefs.{HasItsLength}
use Rattle.p9_firsts.proofs.Closed.{first_empty, last_empty, unless_made, sized_length, step_made}

-- LISTS

map_snoc : {A B : Type 0} (f : A → B) (xs : List A) (y : A) → map f (xs ++ y ∷ []) ≡ map f xs ++ f y ∷ []
map_snoc f [] y = refl
map_snoc f (x ∷ xs) y = ap (λ l. f x ∷ l) (map_snoc f xs y)

map_reversed : {A B : Type 0} (f : A → B) (xs : List A) → reverse (map f xs) ≡ map f (reverse xs)
map_reversed f [] = refl
map_reversed f (x ∷ xs) =
    reverse_onto (map f xs) (f x) []
    ∙ ap (λ l. l ++ f x ∷ []) (map_reversed f xs)
    ∙ sym (map_snoc f (reverse xs) x)
    ∙ ap (map f) (sym (reverse_onto xs x []))

set_same : {A : Type 0} (xs : List A) (n : ℕ) (x : A) → n < length xs → slice_get (slice_set xs n x) n ≡ Some x
set_same [] n x h = absurd (omega (arith, h))
set_same (y ∷ ys) zero x h = refl
set_same (y ∷ ys) (suc n) x h = set_same ys n x (omega (arith, h))

-- THE NAME'S TYPE is what the declarator makes

named_last : (tags : Tags) (by : LengthBy) (type : TypeTree) (xs : List Step) (m : ℕ) (name : List ℕ) (types : List TypeTree) (made : TypeTree × List TypeTree)
    → m < length types → closed_from tags by type (xs ++ record { number = m; shape = Names name } ∷ []) types ≡ Ok made → slice_get made.1 m ≡ Some made.0
named_last tags by type [] m name types made h e =
    let z : (type, slice_set types m type) ≡ made = cc in
    subst (λ x. slice_get x.1 m ≡ Some x.0) z (set_same types m type h)
named_last tags by type (y ∷ ys) m name types made h e =
    let r = then_of (broken_at y.number (shaped tags by (list_all makes_no_type (ys ++ record { number = m; shape = Names name } ∷ [])) y.shape type)) _ made e in
    named_last tags by r.0 ys m name (slice_set types y.number r.0) made (subst (λ k. m < k) (sym (length-set types y.number r.0)) h) r.2

first_name : (m : ℕ) (shape : Shape) (steps : List Step) (n : NameNode) → name_of (record { number = m; shape = shape } ∷ steps) ≡ Some n
    → (shape ≡ Names n.name) × (m ≡ n.number)
first_name m (Names name) steps n e =
    let z : record { name = name; number = m } ≡ n = cc in (ap (λ x. Names x.name) z, ap (λ x. x.number) z)
first_name m Keeps steps n e = cc
first_name m Points steps n e = cc
first_name m (Sized c) steps n e = cc
first_name m Unsized steps n e = cc
first_name m (Takes parameters level) steps n e = cc

pub name_type : (tags : Tags) (by : LengthBy) (base : TypeTree) (steps : List Step) (types : List TypeTree) (made : TypeTree × List TypeTree) (n : NameNode)
    → closed tags by base steps types ≡ Ok made → name_of steps ≡ Some n → n.number < length types → slice_get made.1 n.number ≡ Some made.0
name_type tags by base [] types made n e d h = cc
name_type tags by base (step ∷ steps) types made n e d h =
    let f = first_name step.number step.shape steps n d in
    let s : record { number = step.number; shape = step.shape } ≡ record { number = n.number; shape = Names n.name } =
    ap (λ x. record { number = step.number; shape = x }) f.0 ∙ ap (λ x. record { number = x; shape = Names n.name }) f.1 in
    named_last tags by base (reverse steps) n.number n.name types made h
    (ap (λ xs. closed_from tags by base xs types) (sym (reverse_onto steps step [] ∙ ap (λ x. reverse steps ++ x ∷ []) s)) ∙ e)

lengthened_name : (count m : ℕ) (shape : Shape) (steps : List Step) (n : NameNode) → name_of (record { number = m; shape = shape } ∷ steps) ≡ Some n
    → name_of (with_length count (record { number = m; shape = shape }) ∷ map (with_length count) steps) ≡ Some n
lengthened_name count m (Names name) steps n e = e
lengthened_name count m Keeps steps n e = cc
lengthened_name count m Points steps n e = cc
lengthened_name count m (Sized c) steps n e = cc
lengthened_name count m Unsized steps n e = cc
lengthened_name count m (Takes parameters level) steps n e = cc

pub with_length_name : (count : ℕ) (steps : List Step) (n : NameNode) → name_of steps ≡ Some n → name_of (map (with_length count) steps) ≡ Some n
with_length_name count [] n e = cc
with_length_name count (step ∷ steps) n e = lengthened_name count step.number step.shape steps n e

-- A TYPE WITHOUT A LENGTH comes of brackets without one, which stand outermost

abbrev pub LacksLength : TypeTree → Type 0
LacksLength type = HasItsLength type → ⊥

not_broken : (b : Bool) (rule : Rule) → breaks_if (not b) rule ≡ [] → b ≡ true
not_broken true rule e = refl
not_broken false rule e = cc

left_of : (a b : Bool) → (a && b) ≡ true → a ≡ true
left_of true b e = refl
left_of false b e = cc

repeated_there : (n : ℕ) (o : Option Extent) → has_layout o ≡ true → has_layout (on_some o (repeated (suc n))) ≡ true
repeated_there n None e = cc
repeated_there n (Some x) e = refl

sized_complete : (tags : Tags) (type : TypeTree) (count : ℕ) (made : TypeTree)
    → unless_rules (breaks_if (not (is_complete tags type)) Incomplete ++ array_rules tags type (constants.Value count)) (Array type count) ≡ Ok made
    → is_complete tags made ≡ true
sized_complete tags type zero made e =
    let u = unless_made (breaks_if (not (is_complete tags type)) Incomplete ++ BadConstant ∷ []) (Array type 0) made e in
    let z : BadConstant ∷ [] ≡ [] = last_empty (breaks_if (not (is_complete tags type)) Incomplete) (BadConstant ∷ []) u.0 in
    cc
sized_complete tags type (suc n) made e =
    let u = unless_made (breaks_if (not (is_complete tags type)) Incomplete ++ array_rules tags type (constants.Value (suc n))) (Array type (suc n)) made e in
    let c = not_broken (is_complete tags type) Incomplete
    (first_empty (breaks_if (not (is_complete tags type)) Incomplete) (array_rules tags type (constants.Value (suc n))) u.0) in
    subst (λ t. is_complete tags t ≡ true) u.1 (repeated_there n (layout tags type) c)

-- steps that make no type
kept_by : (tags : Tags) (by : LengthBy) (count m : ℕ) (shape : Shape) (type : TypeTree) (steps : List Step) (types : List TypeTree) (made : TypeTree × List TypeTree)
    → list_all makes_no_type (record { number = m; shape = shape } ∷ steps) ≡ true
    → closed_from tags by type (with_length count (record { number = m; shape = shape }) ∷ map (with_length count) steps) types ≡ Ok made
    → (list_all makes_no_type steps ≡ true) × (closed_from tags by type (map (with_length count) steps) (slice_set types m type) ≡ Ok made)
kept_by tags by count m (Names name) type steps types made a e = (a, e)
kept_by tags by count m Keeps type steps types made a e = (a, e)
kept_by tags by count m Points type steps types made a e = cc
kept_by tags by count m (Sized c) type steps types made a e = cc
kept_by tags by count m Unsized type steps types made a e = cc
kept_by tags by count m (Takes parameters level) type steps types made a e = cc

kept : (tags : Tags) (by : LengthBy) (count : ℕ) (type : TypeTree) (steps : List Step) (types : List TypeTree) (made : TypeTree × List TypeTree)
    → list_all makes_no_type steps ≡ true → closed_from tags by type (map (with_length count) steps) types ≡ Ok made → type ≡ made.0
kept tags by count type [] types made a e = let z : (type, types) ≡ made = cc in ap (λ x. x.0) z
kept tags by count type (step ∷ steps) types made a e =
    let k = kept_by tags by count step.number step.shape type steps types made a e in
    kept tags by count type steps (slice_set types step.number type) made k.0 k.1

-- closed anew, with a length
abbrev Completes : (count : ℕ) → List Step → Type 0
Completes count steps =
    (tags : Tags) (type : TypeTree) (types : List TypeTree) (made : TypeTree × List TypeTree)
    → closed_from tags ByNothing type (map (with_length count) steps) types ≡ Ok made → is_complete tags made.0 ≡ true

after_step : (number : ℕ) (shape : Shape) (count : ℕ) (steps : List Step) → Completes count steps
    → (tags : Tags) (type : TypeTree) (types : List TypeTree) (made : TypeTree × List TypeTree)
    → closed_from tags ByNothing type (record { number = number; shape = shape } ∷ map (with_length count) steps) types ≡ Ok made → is_complete tags made.0 ≡ true
after_step number shape count steps c tags type types made e =
    let r = then_of (broken_at number (shaped tags ByNothing (list_all makes_no_type (map (with_length count) steps)) shape type)) _ made e in
    c tags r.0 (slice_set types number r.0) made r.2

sized_last : (number count : ℕ) (steps : List Step) → list_all makes_no_type steps ≡ true
    → (tags : Tags) (type : TypeTree) (types : List TypeTree) (made : TypeTree × List TypeTree)
    → closed_from tags ByNothing type (record { number = number; shape = Sized (constants.Value count) } ∷ map (with_length count) steps) types ≡ Ok made
    → is_complete tags made.0 ≡ true
sized_last number count steps a tags type types made e =
    let r = then_of (broken_at number (shaped tags ByNothing (list_all makes_no_type (map (with_length count) steps)) (Sized (constants.Value count)) type)) _ made e in
    let c = sized_complete tags type count r.0
    (step_made number (shaped tags ByNothing (list_all makes_no_type (map (with_length count) steps)) (Sized (constants.Value count)) type) r.0 r.1) in
    subst (λ t. is_complete tags t ≡ true) (kept tags ByNothing count r.0 steps (slice_set types number r.0) made a r.2) c

outermost : (tags : Tags) (by : LengthBy) (o : Bool) (type made : TypeTree)
    → unless_rules (breaks_if (not (is_complete tags type)) Incomplete ++ breaks_if (not (o && gives_length by type)) BadConstant) (Array type 0) ≡ Ok made → o ≡ true
outermost tags by o type made e =
    let u = unless_made (breaks_if (not (is_complete tags type)) Incomplete ++ breaks_if (not (o && gives_length by type)) BadConstant) (Array type 0) made e in
    left_of o (gives_length by type)
    (not_broken (o && gives_length by type) BadConstant
    (last_empty (breaks_if (not (is_complete tags type)) Incomplete) (breaks_if (not (o && gives_length by type)) BadConstant) u.0))

-- a step, where the steps behind it complete what they are given
completes_by : (tags : Tags) (by : LengthBy) (type : TypeTree) (m : ℕ) (shape : Shape) (steps : List Step) (types : List TypeTree) (made : TypeTree × List TypeTree) (count : ℕ)
    → HasItsLength type → closed_from tags by type (record { number = m; shape = shape } ∷ steps) types ≡ Ok made
    → ((next : TypeTree) (others : List TypeTree) → HasItsLength next → closed_from tags by next steps others ≡ Ok made → Completes count steps)
    → Completes count (record { number = m; shape = shape } ∷ steps)
completes_by tags by type m (Names name) steps types made count h e inner = after_step m (Names name) count steps (inner type (slice_set types m type) h e)
completes_by tags by type m Keeps steps types made count h e inner = after_step m Keeps count steps (inner type (slice_set types m type) h e)
completes_by tags by type m Points steps types made count h e inner =
    after_step m Points count steps (inner (Pointer type) (slice_set types m (Pointer type)) tt e)
completes_by tags by type m (Sized c) steps types made count h e inner =
    let r = then_of (broken_at m (shaped tags by (list_all makes_no_type steps) (Sized c) type)) _ made e in
    let g = sized_length (breaks_if (not (is_complete tags type)) Incomplete) tags type c r.0
    (step_made m (shaped tags by (list_all makes_no_type steps) (Sized c) type) r.0 r.1) in
    after_step m (Sized c) count steps (inner r.0 (slice_set types m r.0) g r.2)
completes_by tags by type m Unsized steps types made count h e inner =
    let r = then_of (broken_at m (shaped tags by (list_all makes_no_type steps) Unsized type)) _ made e in
    let o = outermost tags by (list_all makes_no_type steps) type r.0 (step_made m (shaped tags by (list_all makes_no_type steps) Unsized type) r.0 r.1) in
    sized_last m count steps o
completes_by tags by type m (Takes parameters level) steps types made count h e inner =
    let r = then_of (broken_at m (shaped tags by (list_all makes_no_type steps) (Takes parameters level) type)) _ made e in
    let u = unless_made (breaks_if (is_array type || (is_function type || is_structure type)) BadOperands) (Function type parameters) r.0
    (step_made m (shaped tags by (list_all makes_no_type steps) (Takes parameters level) type) r.0 r.1) in
    after_step m (Takes parameters level) count steps (inner r.0 (slice_set types m r.0) (subst (λ t. HasItsLength t) u.1 tt) r.2)

completes : (tags : Tags) (by : LengthBy) (type : TypeTree) (steps : List Step) (types : List TypeTree) (made : TypeTree × List TypeTree) (count : ℕ) → HasItsLength type
    → closed_from tags by type steps types ≡ Ok made → LacksLength made.0 → Completes count steps
completes tags by type [] types made count h e l =
    let z : (type, types) ≡ made = cc in absurd (subst (λ x. LacksLength x.0) (sym z) l h)
completes tags by type (step ∷ steps) types made count h e l =
    completes_by tags by type step.number step.shape steps types made count h e (λ next others g k. completes tags by next steps others made count g k l)

-- what is closed without a length is complete once it is closed with one
pub recloses : (tags : Tags) (by : LengthBy) (base : TypeTree) (steps : List Step) (types : List TypeTree) (made : TypeTree × List TypeTree) → HasItsLength base
    → closed tags by base steps types ≡ Ok made → LacksLength made.0
    → (count : ℕ) (later : Tags) (others : List TypeTree) (again : TypeTree × List TypeTree)
    → closed later ByNothing base (map (with_length count) steps) others ≡ Ok again → is_complete later again.0 ≡ true
recloses tags by base steps types made h e l count later others again g =
    completes tags by base (reverse steps) types made count h e l later base others again
    (ap (λ xs. closed_from later ByNothing base xs others) (sym (map_reversed (with_length count) steps)) ∙ g)

-- an object's type is complete, or its length isn't known yet
pub object_complete : (tags : Tags) (type : TypeTree) → object_rules tags type ≡ [] → (is_complete tags type ≡ true) ⊎ LacksLength type
object_complete tags (Array t zero) e = inr (λ h. h)
object_complete tags type e =
    inl (not_broken (is_complete tags type) Incomplete
    (first_empty (breaks_if (not (is_complete tags type)) Incomplete) (breaks_if (not (is_within_limit tags type)) BadConstant) e))
