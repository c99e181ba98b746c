-- The symbols of a file: each that a line names has a number, and no two are the same.
use Rattle.std.proofs.Common.{◌≡◌, ◌≢◌, ℕ, zero, suc, ◌+◌, ◌==◌, ◌<◌, Bool, true, false, ◌&&◌, cond, List, [], ◌∷◌, ◌++◌, map, length, Option, Some, None, AllPairs, unwrap_or, slice_get, refl, ap, subst, ◌∙◌, arith}
use Rattle.std.specs.Prelude.{is_some}
use Rattle.std.specs.Option.{option_or}
use Rattle.std.specs.List.{flat_map, position_from}
use mathlib.Core.Bool.{beq}
use Rattle.std.proofs.lemmas.Bool.Decides.{nat_tests}
use Rattle.std.proofs.lemmas.List.Kept.{AllPairs-cons}
use Rattle.p9_statement.specs.declared.operands.SymbolName.{SymbolName}
use Rattle.p9_rows.specs.declared.rows.Row.{Row}
use Rattle.p9_facts.specs.Names.{names_of, same_symbol, number_in, with_name, with_names, symbols_of}
use Rattle.p9_facts.proofs.Listing.{number_last}
use Rattle.p9_asm.proofs.Options.{Each, each_append, all_each, each_weaker}
use Rattle.p9_asm.proofs.Places.{found_first}

pub each_parts : {X : Type 0} (P : X → Type 0) (xs ys : List X) → Each P (xs ++ ys) → Each P xs × Each P ys
each_parts P [] ys h = (tt, h)
each_parts P (x ∷ xs) ys h = let parts = each_parts P xs ys h.1 in ((h.0, parts.0), parts.1)

abbrev pub IsListed : List SymbolName → SymbolName → Type 0
IsListed symbols s = is_some (number_in symbols s) ≡ true

or_some : (o p : Option ℕ) → is_some o ≡ true → is_some (option_or o p) ≡ true
or_some None p h = absurd (cc)
or_some (Some n) p h = refl

beq_refl : (b : Bool) → beq b b ≡ true
beq_refl true = refl
beq_refl false = refl

both_true : (a b : Bool) → a ≡ true → b ≡ true → (a && b) ≡ true
both_true a b h k = rw (h, k) refl

symbol_refl : (s : SymbolName) → same_symbol s s ≡ true
symbol_refl s = both_true (s.word == s.word) (beq s.local s.local) (grind (arith, nat_tests)) (beq_refl s.local)

kept_by : (b : Bool) (known : List SymbolName) (t q : SymbolName) → IsListed known q → IsListed (cond b known (known ++ t ∷ [])) q
kept_by true known t q h = h
kept_by false known t q h = rw (number_last known t q) (or_some (number_in known q) _ h)

kept : (known : List SymbolName) (t q : SymbolName) → IsListed known q → IsListed (with_name known t) q
kept known t q h = kept_by (is_some (number_in known t)) known t q h

some_last : (o : Option ℕ) (n : ℕ) → is_some (option_or o (Some n)) ≡ true
some_last None n = refl
some_last (Some m) n = refl

added_by : (b : Bool) (known : List SymbolName) (s : SymbolName) → is_some (number_in known s) ≡ b → IsListed (cond b known (known ++ s ∷ [])) s
added_by true known s e = e
added_by false known s e =
    ap is_some (number_last known s s ∙ ap (λ b. option_or (number_in known s) (cond b (Some (length known)) None)) (symbol_refl s)) ∙ some_last (number_in known s) (length known)

added : (known : List SymbolName) (s : SymbolName) → IsListed (with_name known s) s
added known s = added_by (is_some (number_in known s)) known s refl

kept_all : (known xs : List SymbolName) (q : SymbolName) → IsListed known q → IsListed (with_names known xs) q
kept_all known [] q h = h
kept_all known (s ∷ xs) q h = kept_all (with_name known s) xs q (kept known s q h)

all_listed : (known xs : List SymbolName) → Each (IsListed (with_names known xs)) xs
all_listed known [] = tt
all_listed known (s ∷ xs) = (kept_all (with_name known s) xs s (added known s), all_listed (with_name known s) xs)

flat_row : (P : SymbolName → Type 0) (rows : List Row) (n : ℕ) (r : Row) → Each P (flat_map names_of rows) → slice_get rows n ≡ Some r → Each P (names_of r)
flat_row P [] n r h at = absurd (cc)
flat_row P (x ∷ rows) zero r h at =
    let same : x ≡ r = cc in
    subst (λ y. Each P (names_of y)) same (each_parts P (names_of x) (flat_map names_of rows) h).0
flat_row P (x ∷ rows) (suc n) r h at = flat_row P rows n r (each_parts P (names_of x) (flat_map names_of rows) h).1 at

-- each symbol that a line names is among a file's
pub row_listed : (rows : List Row) (n : ℕ) (r : Row) → slice_get rows n ≡ Some r → Each (IsListed (symbols_of rows)) (names_of r)
row_listed rows n r at = flat_row (IsListed (symbols_of rows)) rows n r (all_listed [] (flat_map names_of rows)) at

get_below : {X : Type 0} (xs : List X) (n : ℕ) (x : X) → slice_get xs n ≡ Some x → n < length xs
get_below [] n x h = absurd (cc)
get_below (y ∷ xs) zero x h = omega arith
get_below (y ∷ xs) (suc n) x h = omega (arith, get_below xs n x h)

number_by : (symbols : List SymbolName) (s : SymbolName) (o : Option ℕ) → number_in symbols s ≡ o → is_some o ≡ true → unwrap_or o 0 < length symbols
number_by symbols s None e h = absurd (cc)
number_by symbols s (Some n) e h =
    let f = found_first (same_symbol s) symbols n e in
    get_below symbols n f.item f.here

pub number_small : (symbols : List SymbolName) (s : SymbolName) → IsListed symbols s → unwrap_or (number_in symbols s) 0 < length symbols
number_small symbols s h = number_by symbols s (number_in symbols s) refl h

-- Facts of all symbols of a file

name_each : (P : SymbolName → Type 0) (b : Bool) (known : List SymbolName) (s : SymbolName) → Each P known → P s → Each P (cond b known (known ++ s ∷ []))
name_each P true known s h k = h
name_each P false known s h k = each_append P known (s ∷ []) h (k, tt)

names_each : (P : SymbolName → Type 0) (known xs : List SymbolName) → Each P known → Each P xs → Each P (with_names known xs)
names_each P known [] h k = h
names_each P known (s ∷ xs) h k = names_each P (with_name known s) xs (name_each P (is_some (number_in known s)) known s h k.0) k.1

flat_each : (P : SymbolName → Type 0) (rows : List Row) → ((n : ℕ) (r : Row) → slice_get rows n ≡ Some r → Each P (names_of r)) → Each P (flat_map names_of rows)
flat_each P [] h = tt
flat_each P (r ∷ rows) h = each_append P (names_of r) (flat_map names_of rows) (h 0 r refl) (flat_each P rows (λ n q at. h (suc n) q at))

pub symbols_each : (P : SymbolName → Type 0) (rows : List Row) → ((n : ℕ) (r : Row) → slice_get rows n ≡ Some r → Each P (names_of r)) → Each P (symbols_of rows)
symbols_each P rows h = names_each P [] (flat_map names_of rows) tt (flat_each P rows h)

-- No two are the same

abbrev pub Pairwise : {X : Type 0} → (X → X → Type 0) → List X → Type 0
Pairwise R [] = Unit {0}
Pairwise R (x ∷ xs) = Each (R x) xs × Pairwise R xs

pairwise_last : {X : Type 0} (R : X → X → Type 0) (xs : List X) (s : X) → Pairwise R xs → Each (λ x. R x s) xs → Pairwise R (xs ++ s ∷ [])
pairwise_last R [] s h k = (tt, tt)
pairwise_last R (x ∷ xs) s h k = (each_append (R x) xs (s ∷ []) h.0 (k.0, tt), pairwise_last R xs s h.1 k.1)

none_pass : {X : Type 0} (p : X → Bool) (b : Bool) (i : ℕ) (x : X) (rest : Option ℕ) → p x ≡ b → cond b (Some i) rest ≡ None → (p x ≡ false) × (rest ≡ None)
none_pass p true i x rest e h = absurd (cc)
none_pass p false i x rest e h = (e, h)

nowhere : {X : Type 0} (p : X → Bool) (i : ℕ) (xs : List X) → position_from p i xs ≡ None → Each (λ x. p x ≡ false) xs
nowhere p i [] h = tt
nowhere p i (x ∷ xs) h =
    let parts = none_pass p (p x) i x (position_from p (i + 1) xs) refl h in
    (parts.0, nowhere p (i + 1) xs parts.1)

other_symbol : (s x : SymbolName) → same_symbol s x ≡ false → x ≢ s
other_symbol s x h = λ e. let g : same_symbol s s ≡ false = subst (λ y. same_symbol s y ≡ false) e h in let t = symbol_refl s in cc

none_of : (o : Option ℕ) → is_some o ≡ false → o ≡ None
none_of None h = refl
none_of (Some n) h = absurd (cc)

apart_by : (b : Bool) (known : List SymbolName) (s : SymbolName) → is_some (number_in known s) ≡ b → Pairwise ◌≢◌ known → Pairwise ◌≢◌ (cond b known (known ++ s ∷ []))
apart_by true known s e h = h
apart_by false known s e h =
    pairwise_last ◌≢◌ known s h
    (each_weaker (λ x. same_symbol s x ≡ false) (λ x. x ≢ s) known (other_symbol s) (nowhere (same_symbol s) 0 known (none_of (number_in known s) e)))

apart_all : (known xs : List SymbolName) → Pairwise ◌≢◌ known → Pairwise ◌≢◌ (with_names known xs)
apart_all known [] h = h
apart_all known (s ∷ xs) h = apart_all (with_name known s) xs (apart_by (is_some (number_in known s)) known s refl h)

pub symbols_apart : (rows : List Row) → Pairwise ◌≢◌ (symbols_of rows)
symbols_apart rows = apart_all [] (flat_map names_of rows) tt

mapped_each : {X Y : Type 0} (f : X → Y) (P R : X → Type 0) (Q : Y → Type 0) (xs : List X) → ((x : X) → P x → R x → Q (f x)) → Each P xs → Each R xs → Each Q (map f xs)
mapped_each f P R Q [] g h k = tt
mapped_each f P R Q (x ∷ xs) g h k = (g x h.0 k.0, mapped_each f P R Q xs g h.1 k.1)

pub all_pairs : {X Y : Type 0} (f : X → Y) (P : X → Type 0) (R : X → X → Type 0) (Q : Y → Y → Type 0) (xs : List X) → ((a b : X) → P a → P b → R a b → Q (f a) (f b)) → Each P xs → Pairwise R xs → AllPairs Q (map f xs)
all_pairs f P R Q [] g h k = λ i j d lt within. absurd (omega (arith, within))
all_pairs f P R Q (x ∷ xs) g h k =
    AllPairs-cons Q (f x) (map f xs) (all_each (Q (f x)) (map f xs) (mapped_each f P (R x) (Q (f x)) xs (λ y p r. g x y h.0 p r) h.1 k.0)) (all_pairs f P R Q xs g h.1 k.1)
