-- Tables as they are collected, module after module.
use Rattle.std.proofs.Common.{ℕ, ◌+◌, ◌≡◌, ◌<◌, List, [], ◌∷◌, ◌++◌, length, sym, ap, ◌∙◌, arith, append_assoc}
use Rattle.p9_abs.specs.declared.modules.AModule.{AModule}
use Rattle.p9_abs.specs.declared.modules.Def.{Def}
use Rattle.p9_symbols.specs.Tables.{addresses_in, tables_from}

-- after one module
pub modules_turn : (address : Def → ℕ) (n : ℕ) (m last : AModule) (table : List ℕ) (rest after : List AModule) (done more all : List (List ℕ)) →
    rest ≡ m ∷ after → more ≡ done ++ table ∷ [] → table ≡ addresses_in address n 0 m.symbols →
    done ++ tables_from address n (rest ++ last ∷ []) ≡ all →
    more ++ tables_from address (n + 1) (after ++ last ∷ []) ≡ all
modules_turn address n m last table rest after done more all e made same h =
    ap (λ l. l ++ tables_from address (n + 1) (after ++ last ∷ [])) (made ∙ ap (λ t. done ++ t ∷ []) same)
    ∙ append_assoc done (addresses_in address n 0 m.symbols ∷ []) (tables_from address (n + 1) (after ++ last ∷ []))
    ∙ ap (λ l. done ++ tables_from address n (l ++ last ∷ [])) (sym e) ∙ h
