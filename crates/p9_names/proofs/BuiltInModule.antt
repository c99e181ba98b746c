-- The built-in module is valid.
use Rattle.std.proofs.Common.{◌≡◌, List, sym, subst}
use Rattle.p9_abs.specs.declared.modules.Symbol.{Symbol}
use Rattle.p9_abs.specs.declared.modules.AModule.{AModule}
use Rattle.p9_abs.specs.Validity.{IsValid}
use Rattle.p9_abs.specs.BuiltIn.{builtin_symbols}
use Rattle.p9_abs.proofs.BuiltInValid.{builtin_valid}

with_symbols : List Symbol → AModule
with_symbols symbols = record { symbols = symbols }

pub valid_symbols : (symbols : List Symbol) → symbols ≡ builtin_symbols → IsValid (record { symbols = symbols })
unfolding with_symbols
valid_symbols symbols e = subst (λ s. IsValid (with_symbols s)) (sym e) builtin_valid
