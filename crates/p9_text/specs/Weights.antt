-- What a text weighs, and when that is too much.
use Rattle.std.specs.Prelude.{ℕ, ◌+◌, ◌≡◌, ◌<◌, List, sum_by}
use Rattle.p9_abs.specs.Forms.{weight_of, entry_weight, start_weight}
use Rattle.p9_abs.specs.Runs.{Routine}
use Rattle.p9_text.specs.declared.weighing.ExpandFault.{ExpandFault}
use Rattle.p9_text.specs.declared.weighing.ExpandFault.TheVariants.{TextTooLarge, Memory}

-- a function: its instructions and its entry
abbrev pub routine_weight : Routine → ℕ
routine_weight r = sum_by weight_of r.def.code + entry_weight

-- functions, and the start
abbrev pub text_weight : List Routine → ℕ
text_weight rs = start_weight + sum_by routine_weight rs

-- the most words of a text: 16 MiB
abbrev pub text_limit : ℕ
text_limit = 4194304

-- so many words are too many, or memory ran out
abbrev pub IsTooLarge : ℕ → ExpandFault → Type 0
IsTooLarge words (TextTooLarge n) = (n ≡ words) × (text_limit < n)
IsTooLarge words Memory = Unit {0}
