-- What stands in the tables of addresses.
use Rattle.std.proofs.Common.{ℕ, zero, suc, ◌+◌, ◌≡◌, Option, Some, None, List, [], ◌∷◌, refl, ap, ◌∙◌, arith}
use Rattle.std.specs.Prelude.{option_and_then, slice_get, slice_index}
use Rattle.std.proofs.Math.Path.{fun_ext}
use Rattle.p9_abs.specs.declared.modules.AModule.{AModule}
use Rattle.p9_abs.specs.declared.modules.Def.{Def}
use Rattle.p9_abs.specs.declared.modules.Symbol.{Symbol}
use Rattle.p9_abs.specs.BuiltIn.{linked}
use Rattle.p9_abs.specs.Names.{symbol_at}
use Rattle.p9_abs.specs.Programs.{Placing, stands_for, address_of, address_of_definition, addresses_of}
use Rattle.p9_image.specs.Text.{address_in, address_at}
use Rattle.p9_symbols.specs.Tables.{addresses_in, tables_from, symbol_tables}

abbrev def_at : ℕ → ℕ → Def
def_at unit k = record { «module» = unit; symbol = k }

-- a number where there is a symbol, else 0
abbrev if_there : Option Symbol → ℕ → ℕ
if_there None n = 0
if_there (Some s) n = n

addresses-at : (f : Def → ℕ) (unit n : ℕ) (ss : List Symbol) (k : ℕ) → slice_index (addresses_in f unit n ss) k ≡ if_there (slice_get ss k) (f (def_at unit (n + k)))
addresses-at f unit n [] zero = refl
addresses-at f unit n [] (suc k) = refl
addresses-at f unit n (s ∷ ss) zero = ap (λ m. f (def_at unit m)) (omega arith)
addresses-at f unit n (s ∷ ss) (suc k) =
    addresses-at f unit (n + 1) ss k ∙ ap (λ m. if_there (slice_get ss k) (f (def_at unit m))) (omega arith)

tables-at : (f : Def → ℕ) (n : ℕ) (ms : List AModule) (i k : ℕ) →
    address_in (slice_get (tables_from f n ms) i) k ≡ if_there (option_and_then (λ (m : AModule). slice_get m.symbols k) (slice_get ms i)) (f (def_at (n + i) k))
tables-at f n [] zero k = refl
tables-at f n [] (suc i) k = refl
tables-at f n (m ∷ ms) zero k =
    addresses-at f n 0 m.symbols k ∙ ap (λ j. if_there (slice_get m.symbols k) (f (def_at n j))) (omega arith)
    ∙ ap (λ j. if_there (slice_get m.symbols k) (f (def_at j k))) (omega arith)
tables-at f n (m ∷ ms) (suc i) k =
    tables-at f (n + 1) ms i k
    ∙ ap (λ j. if_there (option_and_then (λ (m : AModule). slice_get m.symbols k) (slice_get ms i)) (f (def_at j k))) (omega arith)

-- what there is no symbol for has the address 0
pub symbol-address : (modules : List AModule) (p : Placing) (unit k : ℕ) → address_at (symbol_tables modules p) unit k ≡ address_of modules p (def_at unit k)
symbol-address modules p unit k =
    tables-at (address_of modules p) 0 (linked modules) unit k
    ∙ ap (λ j. if_there (symbol_at (linked modules) (def_at unit k)) (address_of modules p (def_at j k))) (omega arith)
    ∙ by (symbol_at (linked modules) (def_at unit k))
  where
    by : (o : Option Symbol) → (let n : ℕ = address_of_definition modules p (option_and_then (stands_for (linked modules) (def_at unit k)) o) in if_there o n ≡ n)
    by None = refl
    by (Some s) = refl

pub symbol_addresses : (modules : List AModule) (p : Placing) → address_at (symbol_tables modules p) ≡ (addresses_of modules p).symbol
symbol_addresses modules p = fun_ext (λ unit. fun_ext (λ k. symbol-address modules p unit k))
