-- Lists of objects as they are collected and laid.
use Rattle.std.proofs.Common.{ℕ, suc, ◌+◌, ◌-◌, ◌≡◌, ◌<◌, ◌≤◌, get_or, take, drop, Bool, List, [], ◌∷◌, ◌++◌, length, map, sum_by, refl, sym, ap, ◌∙◌, arith, append_assoc}
use Rattle.std.specs.Prelude.{filter}
use Rattle.std.proofs.lemmas.List.{map-append, append-nil}
use Rattle.std.proofs.lemmas.List.Sums.{sum_by-cons}
use Rattle.std.proofs.lemmas.Grind.{common_steps}
use Rattle.p9_abs.specs.declared.modules.Symbol.{Symbol}
use Rattle.std.proofs.lemmas.List.Elements.{filter-append}
use Rattle.p9_abs.specs.declared.modules.AModule.{AModule}
use Rattle.p9_abs.specs.BuiltIn.{builtin_module, linked}
use Rattle.p9_abs.specs.Programs.{Numbered, numbered_from, records_from, records, space_of}
use Rattle.p9_place.specs.declared.objects.Object.{Object}
use Rattle.p9_place.specs.Objects.{object_of, one_record, laid}
use Rattle.p9_place.specs.Places.{spots}

-- the objects of two lists of records, one behind the other
kept-append : (p : Numbered → Bool) (xs ys : List Numbered) → map object_of (filter p (xs ++ ys)) ≡ map object_of (filter p xs) ++ map object_of (filter p ys)
kept-append p xs ys = ap (map object_of) (filter-append p xs ys) ∙ map-append object_of (filter p xs) (filter p ys)

-- after some records
pub collected_more : (p : Numbered → Bool) (done more all : List Object) (xs ys : List Numbered) →
    more ≡ done ++ map object_of (filter p xs) → done ++ map object_of (filter p (xs ++ ys)) ≡ all → more ++ map object_of (filter p ys) ≡ all
collected_more p done more all xs ys e h =
    ap (λ l. l ++ map object_of (filter p ys)) e ∙ append_assoc done (map object_of (filter p xs)) (map object_of (filter p ys))
    ∙ ap (λ l. done ++ l) (sym (kept-append p xs ys)) ∙ h

-- the first of a list that isn't empty, and the rest
pub front : {X : Type 0} (rest next : List X) (x : X) → 1 ≤ length rest → x ≡ get_or rest 0 x → next ≡ take (length rest - 1) (drop 1 rest) → rest ≡ x ∷ next
front {X = X} [] next x n here e = absurd (omega arith)
front {X = X} (y ∷ after) next x n here e =
    let same : next ≡ after = e ∙ take-of-itself y after in
    ap (λ v. v ∷ after) (sym here) ∙ ap (λ l. x ∷ l) (sym same)
  where
    take-of-itself : (y : X) (after : List X) → take (length (y ∷ after) - 1) (drop 1 (y ∷ after)) ≡ after
    take-of-itself y after = grind (arith, common_steps)

-- after one symbol
pub symbols_turn : (p : Numbered → Bool) (unit next : ℕ) (s : Symbol) (rest after : List Symbol) (done more all : List Object) →
    rest ≡ s ∷ after → more ≡ done ++ map object_of (filter p (one_record (record { «module» = unit; symbol = next }) s)) →
    done ++ map object_of (filter p (numbered_from unit next rest)) ≡ all →
    more ++ map object_of (filter p (numbered_from unit (next + 1) after)) ≡ all
symbols_turn p unit next s rest after done more all e m h =
    collected_more p done more all (one_record (record { «module» = unit; symbol = next }) s) (numbered_from unit (next + 1) after) m
    (ap (λ l. done ++ map object_of (filter p (numbered_from unit next l))) (sym e) ∙ h)

-- after one module
pub modules_turn : (p : Numbered → Bool) (n : ℕ) (m : AModule) (symbols : List Symbol) (rest after : List AModule) (done more all : List Object) →
    rest ≡ m ∷ after → symbols ≡ m.symbols → more ≡ done ++ map object_of (filter p (numbered_from n 0 symbols)) →
    done ++ map object_of (filter p (records_from n rest)) ≡ all →
    more ++ map object_of (filter p (records_from (n + 1) after)) ≡ all
modules_turn p n m symbols rest after done more all e same made h =
    collected_more p done more all (numbered_from n 0 m.symbols) (records_from (n + 1) after)
    (made ∙ ap (λ l. done ++ map object_of (filter p (numbered_from n 0 l))) same)
    (ap (λ l. done ++ map object_of (filter p (records_from n l))) (sym e) ∙ h)

pub records_from-append : (unit : ℕ) (xs ys : List AModule) → records_from unit (xs ++ ys) ≡ records_from unit xs ++ records_from (unit + length xs) ys
records_from-append unit [] ys = ap (λ n. records_from n ys) (let e : unit ≡ unit + 0 = omega arith in e)
records_from-append unit (m ∷ xs) ys =
    ap (λ l. numbered_from unit 0 m.symbols ++ l) (records_from-append (unit + 1) xs ys)
    ∙ sym (append_assoc (numbered_from unit 0 m.symbols) (records_from (unit + 1) xs) (records_from (unit + 1 + length xs) ys))
    ∙ ap (λ n. numbered_from unit 0 m.symbols ++ records_from (unit + 1) xs ++ records_from n ys) (let e : unit + 1 + length xs ≡ unit + suc (length xs) = omega arith in e)

-- the built-in module comes last
records-linked : (ms : List AModule) → records (linked ms) ≡ records_from 0 ms ++ numbered_from (length ms) 0 builtin_module.symbols
records-linked ms =
    records_from-append 0 ms (builtin_module ∷ [])
    ∙ ap (λ l. records_from 0 ms ++ l) (append-nil (numbered_from (0 + length ms) 0 builtin_module.symbols))
    ∙ ap (λ n. records_from 0 ms ++ numbered_from n 0 builtin_module.symbols) (let e : 0 + length ms ≡ length ms = omega arith in e)

pub collected_all : (p : Numbered → Bool) (ms : List AModule) (last : List Symbol) (n : ℕ) (rest : List AModule) (done made : List Object) →
    last ≡ builtin_module.symbols → length rest < 1 → n + length rest ≡ length ms →
    done ++ map object_of (filter p (records_from n rest)) ≡ map object_of (filter p (records_from 0 ms)) →
    made ≡ done ++ map object_of (filter p (numbered_from n 0 last)) →
    made ≡ map object_of (filter p (records (linked ms)))
collected_all p ms last n (m ∷ rest) done made e few count h made_is = absurd (omega arith)
collected_all p ms last n [] done made e few count h m =
    let number : n ≡ length ms = omega (arith, count) in
    let before : done ≡ map object_of (filter p (records_from 0 ms)) = sym (append-nil done) ∙ h in
    m ∙ ap (λ l. l ++ map object_of (filter p (numbered_from n 0 last))) before
    ∙ ap (λ l. map object_of (filter p (records_from 0 ms)) ++ map object_of (filter p (numbered_from n 0 l))) e
    ∙ ap (λ k. map object_of (filter p (records_from 0 ms)) ++ map object_of (filter p (numbered_from k 0 builtin_module.symbols))) number
    ∙ sym (kept-append p (records_from 0 ms) (numbered_from (length ms) 0 builtin_module.symbols))
    ∙ ap (λ l. map object_of (filter p l)) (sym (records-linked ms))

-- laid objects

pub laid-objects : (from : ℕ) (rs : List Numbered) → laid from (map object_of rs) ≡ spots from rs
laid-objects from [] = refl
laid-objects from (r ∷ rs) = ap (λ l. record { «module» = r.def.«module»; symbol = r.def.symbol; offset = from } ∷ l) (laid-objects (from + space_of r) rs)

pub sum-objects : (rs : List Numbered) → sum_by (λ (o : Object). o.space) (map object_of rs) ≡ sum_by space_of rs
sum-objects [] = refl
sum-objects (r ∷ rs) =
    sum_by-cons (λ (o : Object). o.space) (object_of r) (map object_of rs) ∙ ap (λ n. space_of r + n) (sum-objects rs) ∙ sym (sum_by-cons space_of r rs)
