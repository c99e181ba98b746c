-- For each module, the addresses of what its symbols stand for.
use Rattle.std.specs.Prelude.{ℕ, ◌+◌, List, [], ◌∷◌}
use Rattle.p9_abs.specs.declared.modules.AModule.{AModule}
use Rattle.p9_abs.specs.declared.modules.Def.{Def}
use Rattle.p9_abs.specs.declared.modules.Symbol.{Symbol}
use Rattle.p9_abs.specs.BuiltIn.{linked}
use Rattle.p9_abs.specs.Programs.{Placing, address_of}

-- of the symbols of a module from number k on
abbrev pub addresses_in : (Def → ℕ) → (unit k : ℕ) → List Symbol → List ℕ
addresses_in address unit k [] = []
addresses_in address unit k (s ∷ rest) =
    address (record { «module» = unit; symbol = k }) ∷ addresses_in address unit (k + 1) rest

-- of modules from a number on
abbrev pub tables_from : (Def → ℕ) → ℕ → List AModule → List (List ℕ)
tables_from address unit [] = []
tables_from address unit (m ∷ rest) = addresses_in address unit 0 m.symbols ∷ tables_from address (unit + 1) rest

-- of the modules and the built-in one
abbrev pub symbol_tables : List AModule → Placing → List (List ℕ)
symbol_tables modules p = tables_from (address_of modules p) 0 (linked modules)
