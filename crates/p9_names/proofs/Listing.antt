-- The lists of places: which places they hold, in which order, and how a loop over modules makes them.
use Rattle.std.proofs.Common.{zero, suc, ◌≡◌, ℕ, ◌+◌, ◌<◌, ◌⊎◌, inl, inr, Bool, true, false, cond, not, List, [], ◌∷◌, ◌++◌, Option, Some, None, IsSome, slice_get, slice_index_or, option_and_then, take, drop, refl, sym, ap, subst, ◌∙◌, arith, true≢false, append_assoc, AllPairs}
use Rattle.p9_abs.specs.declared.modules.Symbol.{Symbol}
use Rattle.p9_abs.specs.declared.modules.AModule.{AModule}
use Rattle.p9_abs.specs.Validity.{AreApart}
use Rattle.p9_abs.specs.declared.modules.Def.{Def}
use Rattle.p9_abs.specs.Names.{symbol_at, Occurs, IsBefore}
use Rattle.p9_names.specs.Linking.{is_use, Uses}
use Rattle.p9_names.specs.Passes.{place, places_in, places_from, is_global, is_global_use, globals_of, uses_of, ArePlaces, AreLinkable}
use Rattle.p9_names.proofs.Lists.{Among, Sorted, sorted-append, among-split, among-left, among-right, slice_get-some}
use Rattle.p9_names.proofs.Breaking.{IsListing, and-left, and-right, and-both, same_symbol}

-- One module's symbols

pub record FoundIn (test : ℕ → Symbol → Bool) (i k : ℕ) (symbols : List Symbol) (d : Def) : Type 0 where
  pub after : ℕ
  pub symbol : Symbol
  pub in_module : d.module ≡ i
  pub number : d.symbol ≡ k + after
  pub there : slice_get symbols after ≡ Some symbol
  pub passes : test d.symbol symbol ≡ true

next_found : (test : ℕ → Symbol → Bool) (i k : ℕ) (s : Symbol) (rest : List Symbol) (d : Def) → FoundIn test i (k + 1) rest d → FoundIn test i k (s ∷ rest) d
next_found test i k s rest d f = record { after = suc f.after; symbol = f.symbol; in_module = f.in_module; number = omega arith; there = f.there; passes = f.passes }

pub in-sound : (test : ℕ → Symbol → Bool) (i k : ℕ) (symbols : List Symbol) (d : Def) → Among (places_in test i k symbols) d → FoundIn test i k symbols d
in-sound test i k [] d m = absurd m
in-sound test i k (s ∷ rest) d m = by (test k s) refl m (in-sound test i (k + 1) rest d)
  where
    by : (b : Bool) → test k s ≡ b → Among (cond b (place i k ∷ places_in test i (k + 1) rest) (places_in test i (k + 1) rest)) d → (Among (places_in test i (k + 1) rest) d → FoundIn test i (k + 1) rest d) → FoundIn test i k (s ∷ rest) d
    by true e (inl same) tail =
        let number : d.symbol ≡ k = ap (λ x. x.symbol) same in
        record { after = 0; symbol = s; in_module = ap (λ x. x.module) same; number = omega arith; there = refl; passes = ap (λ n. test n s) number ∙ e }
    by true e (inr n) tail = next_found test i k s rest d (tail n)
    by false e n tail = next_found test i k s rest d (tail n)

pub in-complete : (test : ℕ → Symbol → Bool) (i k : ℕ) (symbols : List Symbol) (n : ℕ) (s : Symbol) (d : Def) → slice_get symbols n ≡ Some s → d.module ≡ i → d.symbol ≡ k + n → test d.symbol s ≡ true → Among (places_in test i k symbols) d
in-complete test i k [] n s d h a b t = cc
in-complete test i k (x ∷ rest) zero s d h a b t = by (test k x) refl
  where
    number : d.symbol ≡ k
    number = omega arith

    same : d ≡ place i k
    same = λ j. record { «module» = a j; symbol = number j }

    symbols_same : x ≡ s
    symbols_same = cc

    by : (v : Bool) → test k x ≡ v → Among (cond v (place i k ∷ places_in test i (k + 1) rest) (places_in test i (k + 1) rest)) d
    by true e = inl same
    by false e = absurd (true≢false (sym t ∙ ap (λ y. test y s) number ∙ ap (test k) (sym symbols_same) ∙ e))
in-complete test i k (x ∷ rest) (suc n) s d h a b t = by (test k x) (in-complete test i (k + 1) rest n s d h a (omega arith) t)
  where
    by : (v : Bool) → Among (places_in test i (k + 1) rest) d → Among (cond v (place i k ∷ places_in test i (k + 1) rest) (places_in test i (k + 1) rest)) d
    by true m = inr m
    by false m = m

pub in-sorted : (test : ℕ → Symbol → Bool) (i k : ℕ) (symbols : List Symbol) → Sorted (places_in test i k symbols)
in-sorted test i k [] = tt
in-sorted test i k (s ∷ rest) = by (test k s) (in-sorted test i (k + 1) rest)
  where
    later : (d : Def) → FoundIn test i (k + 1) rest d → IsBefore (place i k) d
    later d f = inr (sym f.in_module, omega arith)

    by : (v : Bool) → Sorted (places_in test i (k + 1) rest) → Sorted (cond v (place i k ∷ places_in test i (k + 1) rest) (places_in test i (k + 1) rest))
    by true h = (λ d m. later d (in-sound test i (k + 1) rest d m), h)
    by false h = h

-- Several modules

pub record FoundFrom (test : List Symbol → ℕ → Symbol → Bool) (i : ℕ) (ms : List AModule) (d : Def) : Type 0 where
  pub after : ℕ
  pub owner : AModule
  pub symbol : Symbol
  pub number : d.module ≡ i + after
  pub there : slice_get ms after ≡ Some owner
  pub stands : slice_get owner.symbols d.symbol ≡ Some symbol
  pub passes : test owner.symbols d.symbol symbol ≡ true

pub from-sound : (test : List Symbol → ℕ → Symbol → Bool) (i : ℕ) (ms : List AModule) (d : Def) → Among (places_from test i ms) d → FoundFrom test i ms d
from-sound test i [] d m = absurd m
from-sound test i (x ∷ rest) d m = by (among-split (places_in (test x.symbols) i 0 x.symbols) (places_from test (i + 1) rest) d m) (from-sound test (i + 1) rest d)
  where
    by : Among (places_in (test x.symbols) i 0 x.symbols) d ⊎ Among (places_from test (i + 1) rest) d → (Among (places_from test (i + 1) rest) d → FoundFrom test (i + 1) rest d) → FoundFrom test i (x ∷ rest) d
    by (inl n) tail =
        let f = in-sound (test x.symbols) i 0 x.symbols d n in
        let same : f.after ≡ d.symbol = omega arith in
        record { after = 0; owner = x; symbol = f.symbol; number = omega arith; there = refl; stands = ap (slice_get x.symbols) (sym same) ∙ f.there; passes = f.passes }
    by (inr n) tail =
        let f = tail n in
        record { after = suc f.after; owner = f.owner; symbol = f.symbol; number = omega arith; there = f.there; stands = f.stands; passes = f.passes }

pub from-complete : (test : List Symbol → ℕ → Symbol → Bool) (i : ℕ) (ms : List AModule) (n : ℕ) (m : AModule) (s : Symbol) (d : Def) → slice_get ms n ≡ Some m → d.module ≡ i + n → slice_get m.symbols d.symbol ≡ Some s → test m.symbols d.symbol s ≡ true → Among (places_from test i ms) d
from-complete test i [] n m s d h a b t = cc
from-complete test i (x ∷ rest) zero m s d h a b t =
    let same : m ≡ x = cc in
    among-left (places_in (test x.symbols) i 0 x.symbols) (places_from test (i + 1) rest) d
    (in-complete (test x.symbols) i 0 x.symbols d.symbol s d (ap (λ y. slice_get y.symbols d.symbol) (sym same) ∙ b) (omega arith) (omega arith) (ap (λ y. test y.symbols d.symbol s) (sym same) ∙ t))
from-complete test i (x ∷ rest) (suc n) m s d h a b t =
    among-right (places_in (test x.symbols) i 0 x.symbols) (places_from test (i + 1) rest) d (from-complete test (i + 1) rest n m s d h (omega arith) b t)

pub from-sorted : (test : List Symbol → ℕ → Symbol → Bool) (i : ℕ) (ms : List AModule) → Sorted (places_from test i ms)
from-sorted test i [] = tt
from-sorted test i (x ∷ rest) =
    sorted-append (places_in (test x.symbols) i 0 x.symbols) (places_from test (i + 1) rest) (in-sorted (test x.symbols) i 0 x.symbols) (from-sorted test (i + 1) rest)
    (λ a b p q. apart a b (in-sound (test x.symbols) i 0 x.symbols a p) (from-sound test (i + 1) rest b q))
  where
    apart : (a b : Def) → FoundIn (test x.symbols) i 0 x.symbols a → FoundFrom test (i + 1) rest b → IsBefore a b
    apart a b f g = inl (omega arith)

-- A place in all modules

pub record StandsIn (ms : List AModule) (d : Def) (s : Symbol) : Type 0 where
  pub owner : AModule
  pub there : slice_get ms d.module ≡ Some owner
  pub stands : slice_get owner.symbols d.symbol ≡ Some s

pub stands-in : (ms : List AModule) (d : Def) (s : Symbol) → symbol_at ms d ≡ Some s → StandsIn ms d s
stands-in ms d s h = by (slice_get ms d.module) refl
  where
    by : (o : Option AModule) → slice_get ms d.module ≡ o → StandsIn ms d s
    by None e = let P : Option AModule → Type 0 = λ o. option_and_then (λ m. slice_get m.symbols d.symbol) o ≡ Some s in let none : None ≡ Some s = subst P e h in cc
    by (Some m) e = let P : Option AModule → Type 0 = λ o. option_and_then (λ m. slice_get m.symbols d.symbol) o ≡ Some s in record { owner = m; there = e; stands = subst P e h }

pub stands-at : (ms : List AModule) (d : Def) (m : AModule) (s : Symbol) → slice_get ms d.module ≡ Some m → slice_get m.symbols d.symbol ≡ Some s → symbol_at ms d ≡ Some s
stands-at ms d m s p q = ap (option_and_then (λ x. slice_get x.symbols d.symbol)) p ∙ q

not-false : (b : Bool) → not b ≡ true → b ≡ false
not-false true h = absurd (true≢false (sym h))
not-false false h = refl

false-not : (b : Bool) → b ≡ false → not b ≡ true
false-not b h = ap not h

-- no two places of one module have the same global name
one_place : (ms : List AModule) → AreLinkable ms → (name : List ℕ) (d e : Def) (s t : Symbol) → Occurs ms name d s → Occurs ms name e t → d.module ≡ e.module → d.symbol < e.symbol → ⊥
one_place ms l name d e s t p q same lt =
    let a = stands-in ms d s p.stands in
    let b = stands-in ms e t q.stands in
    let owners : a.owner ≡ b.owner = same_symbol (slice_get ms d.module) a.owner b.owner a.there (ap (slice_get ms) same ∙ b.there) in
    let i = slice_get-some ms d.module a.owner a.there in
    let x = slice_get-some a.owner.symbols d.symbol s a.stands in
    let y = slice_get-some a.owner.symbols e.symbol t (ap (λ o. slice_get o.symbols e.symbol) owners ∙ b.stands) in
    let P : AModule → Type 0 = λ o. AllPairs AreApart o.symbols in
    let apart = subst P (i.1 a.owner) (l.distinct d.module a.owner i.0) in
    let Q : Symbol → Type 0 = λ v. AreApart v t in
    let R : Symbol → Type 0 = λ v. AreApart (slice_index_or a.owner.symbols d.symbol s) v in
    let here : AreApart s t = subst Q (x.1 s) (subst R (y.1 s) (apart d.symbol e.symbol s lt y.0)) in
    here (p.global ∙ sym q.global) (p.named ∙ sym q.named)

pub listing : (ms : List AModule) → AreLinkable ms → IsListing ms (globals_of ms)
listing ms l = record {
  sound = λ d m. sound d (from-sound is_global 0 ms d m);
  complete = λ name d s p. let a = stands-in ms d s p.stands in from-complete is_global 0 ms d.module a.owner s d a.there (omega arith) a.stands (false-not s.local p.global);
  sorted = from-sorted is_global 0 ms;
  single = λ name d e s t p q same. λ j. record { «module» = same j; symbol = number name d e s t p q same j };
}
  where
    sound : (d : Def) → FoundFrom is_global 0 ms d → (s : Symbol) × (symbol_at ms d ≡ Some s) × (s.local ≡ false)
    sound d f =
        let same : d.module ≡ f.after = omega arith in
        (f.symbol, stands-at ms d f.owner f.symbol (ap (slice_get ms) same ∙ f.there) f.stands, not-false f.symbol.local f.passes)

    number : (name : List ℕ) (d e : Def) (s t : Symbol) → Occurs ms name d s → Occurs ms name e t → d.module ≡ e.module → d.symbol ≡ e.symbol
    number name d e s t p q same =
        by (λ lt. one_place ms l name d e s t p q same lt) (λ lt. one_place ms l name e d t s q p (sym same) lt)
      where
        by : (d.symbol < e.symbol → ⊥) → (e.symbol < d.symbol → ⊥) → d.symbol ≡ e.symbol
        by below above = omega (arith, below, above)

-- the places of used names
pub use-sound : (ms : List AModule) (d : Def) → Among (uses_of ms) d → (s : Symbol) × (symbol_at ms d ≡ Some s) × (Uses ms s.name d)
use-sound ms d m =
    let f = from-sound is_global_use 0 ms d m in
    let same : d.module ≡ f.after = omega arith in
    let there : slice_get ms d.module ≡ Some f.owner = ap (slice_get ms) same ∙ f.there in
    let at : symbol_at ms d ≡ Some f.symbol = stands-at ms d f.owner f.symbol there f.stands in (
      f.symbol,
      at,
      record {
        user = f.owner;
        symbol = f.symbol;
        number = there;
        occurs = record { stands = at; global = not-false f.symbol.local (and-left (not f.symbol.local) (is_use f.owner.symbols d.symbol f.symbol.body) f.passes); named = refl };
        used = and-right (not f.symbol.local) (is_use f.owner.symbols d.symbol f.symbol.body) f.passes;
      },
    )

pub use-complete : (ms : List AModule) (name : List ℕ) (d : Def) → Uses ms name d → Among (uses_of ms) d
use-complete ms name d u =
    let a = stands-in ms d u.symbol u.occurs.stands in
    let owners : a.owner ≡ u.user = same_symbol (slice_get ms d.module) a.owner u.user a.there u.number in
    from-complete is_global_use 0 ms d.module u.user u.symbol d u.number (omega arith) (ap (λ o. slice_get o.symbols d.symbol) (sym owners) ∙ a.stands)
    (and-both (not u.symbol.local) (is_use u.user.symbols d.symbol u.symbol.body) (false-not u.symbol.local u.occurs.global) u.used)

-- what loops and calls ask of the lists

pub places-take : (ms : List AModule) (n : ℕ) (ds : List Def) → ArePlaces ms ds → ArePlaces ms (take n ds)
places-take ms zero ds h = tt
places-take ms (suc n) [] h = tt
places-take ms (suc n) (d ∷ ds) h = (h.0, places-take ms n ds h.1)

pub places-among : (ms : List AModule) (ds : List Def) → ((d : Def) → Among ds d → IsSome (symbol_at ms d)) → ArePlaces ms ds
places-among ms [] h = tt
places-among ms (d ∷ ds) h = (h d (inl refl), places-among ms ds (λ e m. h e (inr m)))

some-is : {X : Type 0} (o : Option X) (x : X) → o ≡ Some x → IsSome o
some-is o x e = let P : Option _ → Type 0 = λ v. IsSome v in subst P (sym e) refl

pub global-places : (ms : List AModule) → AreLinkable ms → ArePlaces ms (globals_of ms)
global-places ms l = places-among ms (globals_of ms) (λ d m. let f = (listing ms l).sound d m in some-is (symbol_at ms d) f.0 f.1)

pub use-places : (ms : List AModule) → ArePlaces ms (uses_of ms)
use-places ms = places-among ms (uses_of ms) (λ d m. let f = use-sound ms d m in some-is (symbol_at ms d) f.0 f.1)

pub drop-at : (ms : List AModule) (i : ℕ) (m : AModule) → slice_get ms i ≡ Some m → drop i ms ≡ m ∷ drop (i + 1) ms
drop-at [] i m h = cc
drop-at (x ∷ ms) zero m h = let same : x ≡ m = cc in ap (λ y. y ∷ ms) same
drop-at (x ∷ ms) (suc i) m h = let e : suc (i + 1) ≡ suc i + 1 = omega arith in drop-at ms i m h ∙ ap (λ n. m ∷ drop n (x ∷ ms)) e

-- a turn of a loop over modules: the places so far, and those to come
pub from_turn : (test : List Symbol → ℕ → Symbol → Bool) (ms : List AModule) (i : ℕ) (m : AModule) (symbols : List Symbol) (done next : List Def) → slice_get ms i ≡ Some m → symbols ≡ m.symbols → done ++ places_from test i (drop i ms) ≡ places_from test 0 ms → next ≡ done ++ places_in (test symbols) i 0 symbols → next ++ places_from test (i + 1) (drop (i + 1) ms) ≡ places_from test 0 ms
from_turn test ms i m symbols done next at same before after =
    ap (λ x. x ++ places_from test (i + 1) (drop (i + 1) ms)) (after ∙ ap (λ x. done ++ places_in (test x) i 0 x) same)
    ∙ append_assoc done (places_in (test m.symbols) i 0 m.symbols) (places_from test (i + 1) (drop (i + 1) ms))
    ∙ ap (λ x. done ++ places_from test i x) (sym (drop-at ms i m at))
    ∙ before
