-- The computed test of joining says what `Join` says.
use Rattle.std.proofs.Common.{◌≡◌, ◌<◌, ◌⊎◌, inl, inr, ℕ, zero, suc, ◌==◌, ◌&&◌, ◌||◌, Bool, true, false, not, List, [], ◌∷◌, Option, Some, None, slice_get, unwrap_or, Contains, refl, sym, ap, ◌∙◌, subst, arith}
use Rattle.std.specs.Prelude.{codes}
use Rattle.std.specs.List.{list_any, list_all}
use Rattle.std.proofs.lemmas.Bool.{and_parts, and_from, or_cases, true≢false, eqb-true, eq-eqb}
use Rattle.std.proofs.lemmas.Option.{slice_get_within, get_or_from_slice_get, slice_get-get_or}
use Rattle.std.proofs.lemmas.List.Elements.{All-contains, Contains-get_or}
use Rattle.std.proofs.lemmas.List.Sums.{AllPass-from_list_all, list_all-from_AllPass}
use Rattle.std.proofs.lemmas.List.Folds.{Any-from_list_any, list_any-from_Any}
use Rattle.p9_lang.specs.Names.{same_name}
use Rattle.p9_lang.specs.Types.{TypeTree, Void, Char, Int, Pointer, Function, none, more}
use Rattle.p9_lang.specs.Layout.{size_of}
use Rattle.p9_cmean.specs.Joins.{Role, Declares, Uses, DefinesCode, DefinesData, DefinesCommon, KnownType, Occurrence, all_shared, Occurs, defines, is_object, may_meet, TypesAgree, SameSize, Meet, IsMainType, Join, main_type, argument_main_type}
use Rattle.p9_cmean.specs.JoinTests.{types_agree, same_size, meets, meets_if_named, row_meets, all_meet, is_main, is_code, takes_arguments, takes_nothing, has_main_type, is_main_well, is_use, defines_name, is_met, joins, JoinIsTested}

-- Tests

implied : (s m : Bool) → (not s || m) ≡ true → s ≡ true → m ≡ true
implied true true h e = refl
implied true false h e = h
implied false m h e = absurd (true≢false (sym e))

implies : (s m : Bool) → (s ≡ true → m ≡ true) → (not s || m) ≡ true
implies true true f = refl
implies true false f = f refl
implies false m f = refl

same-is : (x y : List ℕ) → same_name x y ≡ true → x ≡ y
same-is [] [] h = refl
same-is [] (y ∷ ys) h = absurd (true≢false (sym h))
same-is (x ∷ xs) [] h = absurd (true≢false (sym h))
same-is (x ∷ xs) (y ∷ ys) h =
    let p = and_parts (x == y) (same_name xs ys) h in
    ap (λ z. z ∷ xs) (eqb-true x y p.0) ∙ ap (λ zs. y ∷ zs) (same-is xs ys p.1)

is-same : (x : List ℕ) → same_name x x ≡ true
is-same [] = refl
is-same (x ∷ xs) = and_from (x == x) (same_name xs xs) (eq-eqb x x refl) (is-same xs)

same-from : (x y : List ℕ) → x ≡ y → same_name x y ≡ true
same-from x y e = subst (λ z. same_name x z ≡ true) e (is-same x)

-- Elements

each : {X : Type 0} (p : X → Bool) (xs : List X) (x : X) → list_all p xs ≡ true → Contains xs x → p x ≡ true
each p xs x h c = All-contains (λ y. p y ≡ true) xs x (AllPass-from_list_all p xs h) c

from-each : {X : Type 0} (p : X → Bool) (xs : List X) → ((x : X) → Contains xs x → p x ≡ true) → list_all p xs ≡ true
from-each p xs f = list_all-from_AllPass p xs (λ k d l. f _ (Contains-get_or xs k d l))

found : {X : Type 0} (p : X → Bool) (xs : List X) → list_any p xs ≡ true → (x : X) × Contains xs x × (p x ≡ true)
found p xs h = let a = Any-from_list_any p xs h in (a.1, (a.0, a.2, a.3), a.4)

from-found : {X : Type 0} (p : X → Bool) (xs : List X) (x : X) → Contains xs x → p x ≡ true → list_any p xs ≡ true
from-found p xs x c h = list_any-from_Any p xs (c.0, x, c.1, c.2, h)

-- Occurrences in modules

row-of : (modules : List (List Occurrence)) (i : ℕ) (a : Occurrence) → Occurs modules i a → (m : List Occurrence) × Contains modules m × Contains m a
row-of modules i a c = by (slice_get modules i) refl c
  where
    by : (o : Option (List Occurrence)) → slice_get modules i ≡ o → Contains (unwrap_or o []) a → (m : List Occurrence) × Contains modules m × Contains m a
    by None e h = absurd (omega (arith, h.1))
    by (Some m) e h = (m, (i, slice_get_within modules i m e, get_or_from_slice_get modules i m m e), h)

in-row : (modules : List (List Occurrence)) (m : List Occurrence) (a : Occurrence) → (c : Contains modules m) → Contains m a → Occurs modules c.0 a
in-row modules m a c h =
    subst (λ o. Contains (unwrap_or o []) a) (sym (slice_get-get_or modules c.0 m c.1 ∙ ap Some c.2)) h

each-occurs : (p : Occurrence → Bool) (modules : List (List Occurrence)) → list_all (list_all p) modules ≡ true → (i : ℕ) (a : Occurrence) → Occurs modules i a → p a ≡ true
each-occurs p modules h i a c =
    let r = row-of modules i a c in
    each p r.0 a (each (list_all p) modules r.0 h r.1) r.2

from-occurs : (p : Occurrence → Bool) (modules : List (List Occurrence)) → ((i : ℕ) (a : Occurrence) → Occurs modules i a → p a ≡ true) → list_all (list_all p) modules ≡ true
from-occurs p modules f =
    from-each (list_all p) modules (λ m c. from-each p m (λ a d. f c.0 a (in-row modules m a c d)))

some-occurs : (p : Occurrence → Bool) (modules : List (List Occurrence)) → list_any (list_any p) modules ≡ true → (i : ℕ) × (a : Occurrence) × Occurs modules i a × (p a ≡ true)
some-occurs p modules h =
    let r = found (list_any p) modules h in
    let s = found p r.0 r.2 in
    (r.1.0, s.0, in-row modules r.0 s.0 r.1 s.1, s.2)

from-some : (p : Occurrence → Bool) (modules : List (List Occurrence)) (i : ℕ) (a : Occurrence) → Occurs modules i a → p a ≡ true → list_any (list_any p) modules ≡ true
from-some p modules i a c h =
    let r = row-of modules i a c in
    from-found (list_any p) modules r.0 r.1 (from-found p r.0 a r.2 h)

-- Two occurrences

agree-is : (a b : Option KnownType) → types_agree a b ≡ true → TypesAgree a b
agree-is (Some a) (Some b) h = h
agree-is (Some a) None h = tt
agree-is None b h = tt

is-agree : (a b : Option KnownType) → TypesAgree a b → types_agree a b ≡ true
is-agree (Some a) (Some b) h = h
is-agree (Some a) None h = refl
is-agree None b h = refl

size-is : (a b : Option KnownType) → same_size a b ≡ true → SameSize a b
size-is (Some a) (Some b) h = eqb-true (size_of a.tags a.type) (size_of b.tags b.type) h
size-is (Some a) None h = tt
size-is None b h = tt

is-size : (a b : Option KnownType) → SameSize a b → same_size a b ≡ true
is-size (Some a) (Some b) h = eq-eqb (size_of a.tags a.type) (size_of b.tags b.type) h
is-size (Some a) None h = refl
is-size None b h = refl

meet-is : (a b : Occurrence) → meets a b ≡ true → Meet a b
meet-is a b h =
    let p = and_parts (may_meet a.role b.role) _ h in
    let q = and_parts (types_agree a.type b.type) _ p.1 in
    record {
      once = p.0;
      agree = agree-is a.type b.type q.0;
      sizes = λ x y. size-is a.type b.type (implied (is_object a.role && is_object b.role) (same_size a.type b.type) q.1 (and_from (is_object a.role) (is_object b.role) x y));
    }

is-meet : (a b : Occurrence) → Meet a b → meets a b ≡ true
is-meet a b m =
    and_from (may_meet a.role b.role) _ m.once
    (and_from (types_agree a.type b.type) _ (is-agree a.type b.type m.agree)
    (implies (is_object a.role && is_object b.role) (same_size a.type b.type)
    (λ h. let p = and_parts (is_object a.role) (is_object b.role) h in is-size a.type b.type (m.sizes p.0 p.1))))

-- All of them

abbrev AllMeet : List (List Occurrence) → Type 0
AllMeet modules = (i j : ℕ) (a b : Occurrence) → i < j → Occurs modules i a → Occurs modules j b → a.name ≡ b.name → Meet a b

pair-meets : (m : List Occurrence) (ms : List (List Occurrence)) → list_all (row_meets m) ms ≡ true → (j : ℕ) (a b : Occurrence) → Contains m a → Occurs ms j b → a.name ≡ b.name → Meet a b
pair-meets m ms h j a b ca ob e =
    let r = row-of ms j b ob in
    let row = each (row_meets m) ms r.0 h r.1 in
    let later = each (λ x. list_all (meets_if_named x) r.0) m a row ca in
    let pair = each (meets_if_named a) r.0 b later r.2 in
    meet-is a b (implied (same_name a.name b.name) (meets a b) pair (same-from a.name b.name e))

meet-all : (modules : List (List Occurrence)) → all_meet modules ≡ true → AllMeet modules
meet-all [] h i j a b l oa ob e = let r = row-of [] i a oa in absurd (omega (arith, r.1.1))
meet-all (m ∷ ms) h zero zero a b l oa ob e = absurd (omega arith)
meet-all (m ∷ ms) h (suc i) zero a b l oa ob e = absurd (omega arith)
meet-all (m ∷ ms) h zero (suc j) a b l oa ob e =
    pair-meets m ms ((and_parts (list_all (row_meets m) ms) (all_meet ms) h).0) j a b oa ob e
meet-all (m ∷ ms) h (suc i) (suc j) a b l oa ob e =
    meet-all ms ((and_parts (list_all (row_meets m) ms) (all_meet ms) h).1) i j a b (omega arith) oa ob e

all-meet : (modules : List (List Occurrence)) → AllMeet modules → all_meet modules ≡ true
all-meet [] f = refl
all-meet (m ∷ ms) f =
    and_from (list_all (row_meets m) ms) (all_meet ms)
    (from-each (row_meets m) ms (λ later c. from-each (λ a. list_all (meets_if_named a) later) m (λ a ca. from-each (meets_if_named a) later (λ b cb.
    implies (same_name a.name b.name) (meets a b) (λ s.
    is-meet a b (f zero (suc c.0) a b (omega arith) ca (in-row ms later b c cb) (same-is a.name b.name s)))))))
    (all-meet ms (λ i j a b l oa ob e. f (suc i) (suc j) a b (omega arith) oa ob e))

-- `main`

code-is : (r : Role) → is_code r ≡ true → r ≡ DefinesCode
code-is Declares h = absurd (true≢false (sym h))
code-is Uses h = absurd (true≢false (sym h))
code-is DefinesCode h = refl
code-is DefinesData h = absurd (true≢false (sym h))
code-is DefinesCommon h = absurd (true≢false (sym h))

use-is : (r : Role) → is_use r ≡ true → r ≡ Uses
use-is Declares h = absurd (true≢false (sym h))
use-is Uses h = refl
use-is DefinesCode h = absurd (true≢false (sym h))
use-is DefinesData h = absurd (true≢false (sym h))
use-is DefinesCommon h = absurd (true≢false (sym h))

nothing-is : (t : TypeTree) → takes_nothing t ≡ true → t ≡ main_type
nothing-is (Function Void none) h = refl
nothing-is t h = absurd (true≢false (sym h))

arguments-is : (t : TypeTree) → takes_arguments t ≡ true → t ≡ argument_main_type
arguments-is (Function Void (more Int (more (Pointer (Pointer Char)) none))) h = refl
arguments-is t h = absurd (true≢false (sym h))

main-type-is : (t : Option KnownType) → has_main_type t ≡ true → IsMainType t
main-type-is None h = absurd (true≢false (sym h))
main-type-is (Some a) h = by (or_cases (takes_nothing a.type) (takes_arguments a.type) h)
  where
    by : ((takes_nothing a.type ≡ true) ⊎ (takes_arguments a.type ≡ true)) → IsMainType (Some a)
    by (inl g) = inl (nothing-is a.type g)
    by (inr g) = inr (arguments-is a.type g)

is-main-type : (t : Option KnownType) → IsMainType t → has_main_type t ≡ true
is-main-type None h = absurd h
is-main-type (Some a) (inl e) = subst (λ t. (takes_nothing t || takes_arguments t) ≡ true) (sym e) refl
is-main-type (Some a) (inr e) = subst (λ t. (takes_nothing t || takes_arguments t) ≡ true) (sym e) refl

-- The test

pub join_is_tested : JoinIsTested
join_is_tested modules = (sound, complete)
  where
    sound : joins modules ≡ true → Join modules
    sound h =
        let p = and_parts (all_meet (all_shared modules)) _ h in
        let q = and_parts (list_any (list_any is_main) (all_shared modules)) _ p.1 in
        let r = and_parts (list_all (list_all is_main_well) (all_shared modules)) _ q.1 in
        let main = some-occurs is_main (all_shared modules) q.0 in
        let named = and_parts (same_name main.1.name (codes "main")) (defines main.1.role) main.3 in
        record {
          meet = meet-all (all_shared modules) p.0;
          main_defined = (main.0, main.1, main.2, same-is main.1.name (codes "main") named.0, named.1);
          main_code = λ i a o e d.
              let well = implied (is_main a) (is_code a.role && has_main_type a.type) (each-occurs is_main_well (all_shared modules) r.0 i a o) (and_from (same_name a.name (codes "main")) (defines a.role) (same-from a.name (codes "main") e) d) in
              let parts = and_parts (is_code a.role) (has_main_type a.type) well in
              record { code = code-is a.role parts.0; main_type = main-type-is a.type parts.1 };
          resolved = λ i a o e.
              let met = implied (is_use a.role) _ (each-occurs (is_met (all_shared modules)) (all_shared modules) r.1 i a o) (subst (λ x. is_use x ≡ true) (sym e) refl) in
              let d = some-occurs (defines_name a.name) (all_shared modules) met in
              let s = and_parts (same_name d.1.name a.name) (defines d.1.role) d.3 in
              (d.0, d.1, d.2, same-is d.1.name a.name s.0, s.1);
        }

    complete : Join modules → joins modules ≡ true
    complete j =
        and_from (all_meet (all_shared modules)) _ (all-meet (all_shared modules) j.meet)
        (and_from (list_any (list_any is_main) (all_shared modules)) _
        (from-some is_main (all_shared modules) j.main_defined.0 j.main_defined.1 j.main_defined.2 (and_from (same_name j.main_defined.1.name (codes "main")) (defines j.main_defined.1.role) (same-from j.main_defined.1.name (codes "main") j.main_defined.3) j.main_defined.4))
        (and_from (list_all (list_all is_main_well) (all_shared modules)) _
        (from-occurs is_main_well (all_shared modules) (λ i a o. implies (is_main a) (is_code a.role && has_main_type a.type) (λ h. main-well i a o h)))
        (from-occurs (is_met (all_shared modules)) (all_shared modules) (λ i a o. implies (is_use a.role) _ (λ h. met i a o (use-is a.role h))))))
      where
        main-well : (i : ℕ) (a : Occurrence) → Occurs (all_shared modules) i a → is_main a ≡ true → (is_code a.role && has_main_type a.type) ≡ true
        main-well i a o h =
            let s = and_parts (same_name a.name (codes "main")) (defines a.role) h in
            let c = j.main_code i a o (same-is a.name (codes "main") s.0) s.1 in
            and_from (is_code a.role) (has_main_type a.type) (subst (λ x. is_code x ≡ true) (sym c.code) refl) (is-main-type a.type c.main_type)

        met : (i : ℕ) (a : Occurrence) → Occurs (all_shared modules) i a → a.role ≡ Uses → list_any (list_any (defines_name a.name)) (all_shared modules) ≡ true
        met i a o e =
            let d = j.resolved i a o e in
            from-some (defines_name a.name) (all_shared modules) d.0 d.1 d.2 (and_from (same_name d.1.name a.name) (defines d.1.role) (same-from d.1.name a.name d.3) d.4)
