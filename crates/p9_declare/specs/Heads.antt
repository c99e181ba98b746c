-- Specs, by their first word.
use Rattle.std.specs.Prelude.{◌≡◌, true, List, ◌∷◌, Option, Some, None}
use Rattle.p9_lang.specs.declared.tree.SpecWord.{SpecWord}
use Rattle.p9_lang.specs.declared.tree.SpecWord.TheVariants as word
use Rattle.p9_lang.specs.Declarators as declarators
use Rattle.p9_lang.specs.Declarators.{head_from, storage_of, Storage}

-- what the words say with one more
abbrev pub said_with : SpecWord → declarators.Said → declarators.Said
said_with word.Void said = record said { is_void = true }
said_with word.Char said = record said { is_char = true }
said_with word.Short said = record said { is_short = true }
said_with word.Long said = record said { is_long = true }
said_with word.Unsigned said = record said { is_unsigned = true }
said_with other said = said

-- what a word names alone, whatever stands before and behind it; else it goes on
abbrev pub HeadBy : Option declarators.Head → SpecWord → Type 0
HeadBy (Some head) w = (said : declarators.Said) (words : List SpecWord) → head_from said (w ∷ words) ≡ head
HeadBy None w = (said : declarators.Said) (words : List SpecWord) → head_from said (w ∷ words) ≡ head_from (said_with w said) words

-- the class that a word says alone; else it goes on
abbrev pub ClassBy : Option Storage → SpecWord → Type 0
ClassBy (Some storage) w = (words : List SpecWord) → storage_of (w ∷ words) ≡ storage
ClassBy None w = (words : List SpecWord) → storage_of (w ∷ words) ≡ storage_of words
