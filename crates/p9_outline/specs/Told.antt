-- What the program knows of names of file scope, as plain data.
use Rattle.std.specs.Prelude.{ℕ, List, map, Option, Some, None}
use Rattle.std.specs.Borrow.{Bor}
use Rattle.p9_lang.specs.declared.module.Module.{Module}
use Rattle.p9_lang.specs.declared.types.CType.{CType}
use Rattle.p9_lang.specs.Types.{TypeTree, type_of}
use Rattle.p9_numbering.specs.Told.{told_form}
use Rattle.p9_outline.specs.declared.summary.Known.{Known}
use Rattle.p9_outline.specs.Summaries.{Summary, summary_in}

abbrev pub told_first : Option (Bor CType) → Option TypeTree
told_first None = None
told_first (Some type) = Some (type_of type.now)

abbrev pub told_known : Module → Known → Summary
told_known m known = record { first = told_first known.first; kind = told_form m known.form }

abbrev pub told_entry : Module → Bor (List ℕ) × Known → List ℕ × Summary
told_entry m e = (e.0.now, told_known m e.1)

abbrev pub told_entries : Module → List (Bor (List ℕ) × Known) → List (List ℕ × Summary)
told_entries m es = map (told_entry m) es

-- the names that are known, and what is known of each
abbrev pub names_told : List (Bor (List ℕ) × Known) → List (List ℕ)
names_told es = map (λ e. e.0.now) es

abbrev pub known_told : Module → List (Bor (List ℕ) × Known) → List ℕ → Summary
known_told m es name = summary_in name (told_entries m es)
