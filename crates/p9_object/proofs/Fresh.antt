-- Fewer than 2^w names leave one of length w that is none of them.
use Rattle.std.proofs.Common.{◌≡◌, ℕ, zero, suc, ◌+◌, ◌^◌, ◌<◌, ◌≤◌, Bool, true, false, ◌&&◌, ◌||◌, not, List, [], ◌∷◌, length, map, refl, sym, ap, ◌∙◌, arith, inl, inr}
use Rattle.std.specs.Prelude.{bytes_eq, if◌then◌else◌, ◌==◌}
use Rattle.std.specs.List.{list_any, list_all}
use Rattle.std.proofs.lemmas.Bool.{cases_lt, true≢false}
use Rattle.p9_abs.specs.declared.modules.Symbol.{Symbol}
use Rattle.p9_object.specs.Machine.{is_graphic, is_named, same_binding}

abbrev put_if : Bool → List ℕ → List (List ℕ) → List (List ℕ)
put_if true x xs = x ∷ xs
put_if false x xs = xs

-- what follows this byte in the names that begin with it
abbrev tails : ℕ → List (List ℕ) → List (List ℕ)
tails c [] = []
tails c ([] ∷ xs) = tails c xs
tails c ((b ∷ bs) ∷ xs) = put_if (b == c) bs (tails c xs)

-- no name begins with two bytes
put_two : (b : ℕ) (bs : List ℕ) (n : ℕ) (xs ys : List (List ℕ)) → length xs + length ys ≤ n → length (put_if (b == 33) bs xs) + length (put_if (b == 34) bs ys) ≤ suc n
put_two b bs n xs ys h = by (b == 33) (b == 34) refl refl
  where
    by : (p q : Bool) → (b == 33) ≡ p → (b == 34) ≡ q → length (put_if p bs xs) + length (put_if q bs ys) ≤ suc n
    by true true e f = grind arith
    by true false e f = omega (arith, h)
    by false true e f = omega (arith, h)
    by false false e f = omega (arith, h)

split_in_two : (xs : List (List ℕ)) → length (tails 33 xs) + length (tails 34 xs) ≤ length xs
split_in_two [] = omega arith
split_in_two ([] ∷ xs) = omega (arith, split_in_two xs)
split_in_two ((b ∷ bs) ∷ xs) = put_two b bs (length xs) (tails 33 xs) (tails 34 xs) (split_in_two xs)

abbrev has : List ℕ → List (List ℕ) → Bool
has name xs = list_any (λ t. bytes_eq t name) xs

put_has : (b c : ℕ) (bs name : List ℕ) (xs ts : List (List ℕ)) → (has name ts ≡ false → has (c ∷ name) xs ≡ false) → has name (put_if (b == c) bs ts) ≡ false → has (c ∷ name) ((b ∷ bs) ∷ xs) ≡ false
put_has b c bs name xs ts rest h = by (b == c) refl h
  where
    by : (p : Bool) → (b == c) ≡ p → has name (put_if p bs ts) ≡ false → has (c ∷ name) ((b ∷ bs) ∷ xs) ≡ false
    by true e h = rw e (both (bytes_eq bs name) (has name ts) (has (c ∷ name) xs) rest h)
      where
        both : (p q r : Bool) → (q ≡ false → r ≡ false) → (p || q) ≡ false → (p || r) ≡ false
        both true q r i h = h
        both false q r i h = i h
    by false e h = rw e (rest h)

lifted : (c : ℕ) (name : List ℕ) (xs : List (List ℕ)) → has name (tails c xs) ≡ false → has (c ∷ name) xs ≡ false
lifted c name [] h = refl
lifted c name ([] ∷ xs) h = lifted c name xs h
lifted c name ((b ∷ bs) ∷ xs) h = put_has b c bs name xs (tails c xs) (lifted c name xs) h

record IsFresh (w : ℕ) (xs : List (List ℕ)) : Type 0 where
  pub text : List ℕ
  pub long : length text ≡ w
  pub graphic : list_all is_graphic text ≡ true
  pub new : has text xs ≡ false

put : (w c : ℕ) (xs : List (List ℕ)) → is_graphic c ≡ true → IsFresh w (tails c xs) → IsFresh (suc w) xs
put w c xs g f = record { text = c ∷ f.text; long = ap (λ (k : ℕ). suc k) f.long; graphic = rw g f.graphic; new = lifted c f.text xs f.new }

fresh : (w : ℕ) (xs : List (List ℕ)) → length xs < 2 ^ w → IsFresh w xs
fresh zero [] h = record { text = []; long = refl; graphic = refl; new = refl }
fresh zero (x ∷ xs) h = absurd (omega arith)
fresh (suc w) xs h =
    elim (cases_lt (length (tails 33 xs)) (2 ^ w)) [
      | inl lt ↦ put w 33 xs refl (fresh w (tails 33 xs) lt)
      | inr le ↦ put w 34 xs refl (fresh w (tails 34 xs) (omega (arith, split_in_two xs, twice w)))
    ]
  where
    twice : (w : ℕ) → 2 ^ suc w ≡ 2 ^ w + 2 ^ w
    twice w = grind arith

-- Among symbols

none_named : (local : Bool) (name : List ℕ) (seen : List Symbol) → has name (map (λ (s : Symbol). s.name) seen) ≡ false → list_any (is_named local name) seen ≡ false
none_named local name [] h = refl
none_named local name (s ∷ seen) h = by (bytes_eq s.name name) (none_named local name seen) refl h
  where
    by : (p : Bool) → (has name (map (λ (s : Symbol). s.name) seen) ≡ false → list_any (is_named local name) seen ≡ false) → bytes_eq s.name name ≡ p → (p || has name (map (λ (s : Symbol). s.name) seen)) ≡ false → list_any (is_named local name) (s ∷ seen) ≡ false
    by true rest e h = absurd (true≢false h)
    by false rest e h = rw e (both (same_binding s.local local) (list_any (is_named local name) seen) (rest h))
      where
        both : (p q : Bool) → q ≡ false → ((p && false) || q) ≡ false
        both true q h = h
        both false q h = h

-- a name of 32 bytes that no symbol of so many has
pub record IsNew (local : Bool) (seen : List Symbol) : Type 0 where
  pub text : List ℕ
  pub long : length text ≡ 32
  pub graphic : list_all is_graphic text ≡ true
  pub new : list_any (is_named local text) seen ≡ false

as_many : (seen : List Symbol) → length (map (λ (s : Symbol). s.name) seen) ≡ length seen
as_many [] = refl
as_many (s ∷ seen) = ap (λ (k : ℕ). suc k) (as_many seen)

pub new_name : (local : Bool) (seen : List Symbol) → length seen < 2 ^ 32 → IsNew local seen
new_name local seen h =
    let f = fresh 32 (map (λ (s : Symbol). s.name) seen) (rw (as_many seen) h) in
    record { text = f.text; long = f.long; graphic = f.graphic; new = none_named local f.text seen f.new }
