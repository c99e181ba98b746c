-- How many symbol entries there are, and in which order.
use Rattle.std.specs.Prelude.{ℕ, ◌+◌, ◌≡◌, ◌≤◌, List, [], ◌∷◌, length, All}
use Rattle.p9_base.specs.Core.{text_start}
use Rattle.p9_abs.specs.declared.modules.AModule.{AModule}
use Rattle.p9_abs.specs.BuiltIn.{linked}
use Rattle.p9_abs.specs.Programs.{Placing, IsPlacing, routines_of, inits_of, bss_of}
use Rattle.p9_abs.specs.Validity.{IsValid}
use Rattle.p9_aout.specs.declared.format.AoutSym.{AoutSym}
use Rattle.p9_symbols.specs.Entries.{symbol_entries}

-- one for each function, each datum and each common object
abbrev pub EntriesForEach : Type 0
EntriesForEach =
    (modules : List AModule) (p : Placing) →
    length (symbol_entries modules p) ≡ length (routines_of modules) + (length (inits_of (linked modules)) + length (bss_of (linked modules)))

-- each value is greater than all before it, and the first at least this
abbrev pub RiseFrom : ℕ → List AoutSym → Type 0
RiseFrom low [] = Unit {0}
RiseFrom low (s ∷ rest) = (low ≤ s.value) × RiseFrom (s.value + 1) rest

abbrev pub EntriesRise : Type 0
EntriesRise = (modules : List AModule) (p : Placing) → All IsValid modules → IsPlacing modules p → RiseFrom text_start (symbol_entries modules p)
