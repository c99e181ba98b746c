-- Objects have different definitions, so each one's offset is that of its own place in the list.
use Rattle.std.proofs.Common.{ℕ, ◌+◌, ◌≡◌, ◌≢◌, ◌<◌, ◌==◌, ◌&&◌, Bool, true, false, Some, List, [], ◌∷◌, ◌++◌, sum_by, All, cond, refl, sym, ap, ◌∙◌, subst, arith, append_assoc, true≢false}
use Rattle.std.specs.Prelude.{filter}
use Rattle.std.proofs.lemmas.List.{append-nil}
use Rattle.std.proofs.lemmas.List.Sums.{sum_by-cons, sum_by_push}
use Rattle.std.proofs.lemmas.List.Elements.{All-nil, All-cons}
use Rattle.std.proofs.lemmas.Bool.Decides.{nat_tests}
use Rattle.p9_abs.specs.declared.modules.AModule.{AModule}
use Rattle.p9_abs.specs.declared.modules.Body.{Body}
use Rattle.p9_abs.specs.declared.modules.Body.TheVariants.{Declared, Used, Text, Data, Common}
use Rattle.p9_abs.specs.declared.modules.Def.{Def}
use Rattle.p9_abs.specs.declared.modules.Symbol.{Symbol}
use Rattle.p9_abs.specs.Programs.{Numbered, numbered_from, records_from, records, same_def, is_data, is_bss, is_common_body, is_its_own, stands_for, inits_of, bss_of, data_objects, space_of, offset_in, init_size}
use Rattle.p9_place.specs.declared.placing.Spot.{Spot}
use Rattle.p9_place.specs.Places.{spots, def_of, ArePlaced}

-- no record has this definition
abbrev pub IsApart : Def → List Numbered → Type 0
IsApart d [] = Unit {0}
IsApart d (r ∷ rs) = (same_def r.def d ≡ false) × (same_def d r.def ≡ false) × IsApart d rs

-- no two records have one definition
abbrev pub AreDistinct : List Numbered → Type 0
AreDistinct [] = Unit {0}
AreDistinct (r ∷ rs) = IsApart r.def rs × AreDistinct rs

-- All records of modules are distinct

apart-append : (d : Def) (xs ys : List Numbered) → IsApart d xs → IsApart d ys → IsApart d (xs ++ ys)
apart-append d [] ys a b = b
apart-append d (x ∷ xs) ys a b = (a.0, a.1, apart-append d xs ys a.2 b)

other-unit : (a b : Def) → a.«module» ≢ b.«module» → same_def a b ≡ false
other-unit a b h = grind (arith, nat_tests)

other-symbol : (a b : Def) → a.symbol ≢ b.symbol → same_def a b ≡ false
other-symbol a b h = by (a.«module» == b.«module»)
  where
    by : (t : Bool) → (t && (a.symbol == b.symbol)) ≡ false
    by true = grind (arith, nat_tests)
    by false = refl

apart-later : (d : Def) (unit k : ℕ) (ss : List Symbol) → d.symbol < k → IsApart d (numbered_from unit k ss)
apart-later d unit k [] h = tt
apart-later d unit k (s ∷ ss) h =
    let e : Def = record { «module» = unit; symbol = k } in
    (other-symbol e d (λ (z : k ≡ d.symbol). omega arith), other-symbol d e (λ (z : d.symbol ≡ k). omega arith), apart-later d unit (k + 1) ss (omega arith))

apart-other : (d : Def) (unit k : ℕ) (ss : List Symbol) → d.«module» < unit → IsApart d (numbered_from unit k ss)
apart-other d unit k [] h = tt
apart-other d unit k (s ∷ ss) h =
    let e : Def = record { «module» = unit; symbol = k } in
    (other-unit e d (λ (z : unit ≡ d.«module»). omega arith), other-unit d e (λ (z : d.«module» ≡ unit). omega arith), apart-other d unit (k + 1) ss h)

apart-modules : (d : Def) (unit : ℕ) (ms : List AModule) → d.«module» < unit → IsApart d (records_from unit ms)
apart-modules d unit [] h = tt
apart-modules d unit (m ∷ ms) h =
    apart-append d (numbered_from unit 0 m.symbols) (records_from (unit + 1) ms) (apart-other d unit 0 m.symbols h) (apart-modules d (unit + 1) ms (omega arith))

distinct-module : (unit k : ℕ) (ss : List Symbol) (rest : List Numbered) → AreDistinct rest →
    ((j : ℕ) → IsApart (record { «module» = unit; symbol = j }) rest) → AreDistinct (numbered_from unit k ss ++ rest)
distinct-module unit k [] rest a b = a
distinct-module unit k (s ∷ ss) rest a b = (
  apart-append (record { «module» = unit; symbol = k }) (numbered_from unit (k + 1) ss) rest
      (apart-later (record { «module» = unit; symbol = k }) unit (k + 1) ss (let l : k < k + 1 = omega arith in l)) (b k),
  distinct-module unit (k + 1) ss rest a b,
)

distinct-modules : (unit : ℕ) (ms : List AModule) → AreDistinct (records_from unit ms)
distinct-modules unit [] = tt
distinct-modules unit (m ∷ ms) =
    distinct-module unit 0 m.symbols (records_from (unit + 1) ms) (distinct-modules (unit + 1) ms)
    (λ j. apart-modules (record { «module» = unit; symbol = j }) (unit + 1) ms (let l : unit < unit + 1 = omega arith in l))

-- What is kept of distinct records, by two tests of which no record passes both

apart-filter : (p : Numbered → Bool) (d : Def) (rs : List Numbered) → IsApart d rs → IsApart d (filter p rs)
apart-filter p d [] h = tt
apart-filter p d (r ∷ rs) h = by (p r) (apart-filter p d rs h.2)
  where
    by : (b : Bool) → IsApart d (filter p rs) → IsApart d (cond b (r ∷ filter p rs) (filter p rs))
    by true rest = (h.0, h.1, rest)
    by false rest = rest

apart-insert : (d : Def) (r : Numbered) (xs ys : List Numbered) → same_def r.def d ≡ false → same_def d r.def ≡ false → IsApart d (xs ++ ys) → IsApart d (xs ++ r ∷ ys)
apart-insert d r [] ys a b h = (a, b, h)
apart-insert d r (x ∷ xs) ys a b h = (h.0, h.1, apart-insert d r xs ys a b h.2)

distinct-insert : (r : Numbered) (xs ys : List Numbered) → AreDistinct (xs ++ ys) → IsApart r.def (xs ++ ys) → AreDistinct (xs ++ r ∷ ys)
distinct-insert r [] ys a b = (b, a)
distinct-insert r (x ∷ xs) ys a b = (apart-insert x.def r xs ys b.1 b.0 a.0, distinct-insert r xs ys a.1 b.2)

distinct-two : (p q : Numbered → Bool) → ((r : Numbered) → p r ≡ true → q r ≡ false) → (rs : List Numbered) → AreDistinct rs →
    AreDistinct (filter p rs ++ filter q rs)
distinct-two p q apart [] h = tt
distinct-two p q apart (r ∷ rs) h =
    by (p r) refl (q r) refl (apart-append r.def (filter p rs) (filter q rs) (apart-filter p r.def rs h.0) (apart-filter q r.def rs h.0))
    (distinct-two p q apart rs h.1)
  where
    by : (a : Bool) → p r ≡ a → (b : Bool) → q r ≡ b → IsApart r.def (filter p rs ++ filter q rs) → AreDistinct (filter p rs ++ filter q rs) →
        AreDistinct (cond a (r ∷ filter p rs) (filter p rs) ++ cond b (r ∷ filter q rs) (filter q rs))
    by true e true f others rest = absurd (true≢false (sym f ∙ apart r e))
    by true e false f others rest = (others, rest)
    by false e true f others rest = distinct-insert r (filter p rs) (filter q rs) rest others
    by false e false f others rest = rest

data-no_common : (ms : List AModule) (r : Numbered) → is_data r ≡ true → is_bss ms r ≡ false
data-no_common ms r h = by r.symbol.body (is_its_own r.def (stands_for ms r.def r.symbol)) h
  where
    by : (b : Body) (own : Bool) → is_data (record { def = r.def; symbol = record r.symbol { body = b } }) ≡ true → (is_common_body b && own) ≡ false
    by (Data pieces) own e = refl
    by (Common size) own e = absurd (true≢false (sym e))
    by Declared own e = refl
    by Used own e = refl
    by (Text def) own e = refl

pub objects-distinct : (ms : List AModule) → AreDistinct (data_objects ms)
objects-distinct ms = distinct-two is_data (is_bss ms) (data-no_common ms) (records ms) (distinct-modules 0 ms)

-- Offsets

same_def-same : (d : Def) → same_def d d ≡ true
same_def-same d = grind (arith, nat_tests)

apart-at : (d : Def) (xs : List Numbered) (r : Numbered) (ys : List Numbered) → IsApart d (xs ++ r ∷ ys) → same_def d r.def ≡ false
apart-at d [] r ys a = a.1
apart-at d (x ∷ xs) r ys a = apart-at d xs r ys a.2

found-offset : (at : ℕ) (xs : List Numbered) (r : Numbered) (ys : List Numbered) → AreDistinct (xs ++ r ∷ ys) →
    offset_in at (xs ++ r ∷ ys) r.def ≡ Some (at + sum_by space_of xs)
found-offset at [] r ys h = ap (λ b. cond b (Some at) (offset_in (at + space_of r) ys r.def)) (same_def-same r.def) ∙ ap (λ n. Some n) (let e : at ≡ at + 0 = omega arith in e)
found-offset at (x ∷ xs) r ys h =
    ap (λ b. cond b (Some at) (offset_in (at + space_of x) (xs ++ r ∷ ys) r.def)) (apart-at x.def xs r ys h.0)
    ∙ found-offset (at + space_of x) xs r ys h.1
    ∙ ap (λ n. Some n) (let c : sum_by space_of (x ∷ xs) ≡ space_of x + sum_by space_of xs = sum_by-cons space_of x xs in
    let e : at + space_of x + sum_by space_of xs ≡ at + sum_by space_of (x ∷ xs) = omega (arith, c) in e)

placed-from : (all xs zs ys : List Numbered) (from : ℕ) → xs ++ (zs ++ ys) ≡ all → from ≡ sum_by space_of xs → AreDistinct all →
    All (λ (s : Spot). offset_in 0 all (def_of s) ≡ Some s.offset) (spots from zs)
placed-from all xs [] ys from e f h = All-nil (λ (s : Spot). offset_in 0 all (def_of s) ≡ Some s.offset)
placed-from all xs (r ∷ zs) ys from e f h =
    All-cons (λ (s : Spot). offset_in 0 all (def_of s) ≡ Some s.offset)
    (record { «module» = r.def.«module»; symbol = r.def.symbol; offset = from }) (spots (from + space_of r) zs)
    (subst (λ l. offset_in 0 l r.def ≡ Some from) e
    (found-offset 0 xs r (zs ++ ys) (subst (λ l. AreDistinct l) (sym e) h) ∙ ap (λ n. Some n) (let z : 0 + sum_by space_of xs ≡ from = omega (arith, f) in z)))
    (placed-from all (xs ++ r ∷ []) zs ys (from + space_of r) (append_assoc xs (r ∷ []) (zs ++ ys) ∙ e)
    (ap (λ n. n + space_of r) f ∙ sym (sum_by_push space_of xs r)) h)

pub inits-placed : (ms : List AModule) → ArePlaced ms (spots 0 (inits_of ms))
inits-placed ms = placed-from (data_objects ms) [] (inits_of ms) (bss_of ms) 0 refl refl (objects-distinct ms)

pub bss-placed : (ms : List AModule) → ArePlaced ms (spots (init_size ms) (bss_of ms))
bss-placed ms =
    placed-from (data_objects ms) (inits_of ms) (bss_of ms) [] (init_size ms)
    (ap (λ l. inits_of ms ++ l) (append-nil (bss_of ms))) refl (objects-distinct ms)
