-- Words that say `extern`.
use Rattle.std.specs.Prelude.{◌≡◌, Bool, List, ◌∷◌, Option, Some, None}
use Rattle.p9_lang.specs.declared.tree.SpecWord.{SpecWord}
use Rattle.p9_lang.specs.Declarators.{storage_of, is_extern}

-- whether a word says `extern`, if it says a class; else it goes on
abbrev pub ExternBy : Option Bool → SpecWord → Type 0
ExternBy (Some b) w = (words : List SpecWord) → is_extern (storage_of (w ∷ words)) ≡ b
ExternBy None w = (words : List SpecWord) → storage_of (w ∷ words) ≡ storage_of words
