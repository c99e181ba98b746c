-- Variables and texts at their places in the data: what the run of the machine asks of a layout, and
-- what the layout of files gives.
use Rattle.std.specs.Prelude.{◌≡◌, ◌≤◌, ◌⊎◌, ℕ, ◌+◌, ◌-◌, ◌%◌, List, [], ◌∷◌, ◌++◌, length, take, drop, Contains, Some, None}
use Rattle.p9_base.specs.Numbers.{word_at}
use Rattle.p9_r3k.specs.Start.{zeros}
use Rattle.p9_form.specs.declared.file.Statement.{Statement}
use Rattle.p9_form.specs.declared.file.Statement.TheVariants.{Assign, Write, Exits}
use Rattle.p9_straight.specs.Layout.{end_text}
use Rattle.p9_straight.specs.Code.{text_after}
use Rattle.p9_straight.specs.FormRun.{Values}

-- variables with these names lie in data that begin here, each in a word of its own, with its first value
pub record AreVariables (place : List ℕ → ℕ) (names : List (List ℕ)) (begin : ℕ) (init : List ℕ) (bss : ℕ) (values : Values) : Type 0 where
  pub aligned : (x : List ℕ) → Contains names x → place x % 4 ≡ 0
  pub from : (x : List ℕ) → Contains names x → begin ≤ place x
  pub within : (x : List ℕ) → Contains names x → place x + 4 ≤ begin + (length init + bss)
  pub apart : (x y : List ℕ) → Contains names x → Contains names y → place x ≡ place y → x ≡ y
  pub first : (x : List ℕ) → Contains names x → word_at (init ++ zeros bss) (place x - begin) ≡ values x

-- the text and its zero byte lie at this address, and no variable lies in it
pub record IsTextAt (place : List ℕ → ℕ) (names : List (List ℕ)) (begin : ℕ) (init : List ℕ) (text : List ℕ) (at : ℕ) : Type 0 where
  pub from : begin ≤ at
  pub within : at + (length text + 1) ≤ begin + length init
  pub bytes : take (length text + 1) (drop (at - begin) init) ≡ text ++ 0 ∷ []
  pub clear : (x : List ℕ) → Contains names x → (place x + 4 ≤ at) ⊎ (at + (length text + 1) ≤ place x)

-- of a statement, if it has a text
abbrev pub HasItsText : (place : List ℕ → ℕ) (names : List (List ℕ)) (begin : ℕ) (init : List ℕ) (at : ℕ) → Statement → Type 0
HasItsText place names begin init at (Assign x left right) = Unit {0}
HasItsText place names begin init at (Write text count) = IsTextAt place names begin init text at
HasItsText place names begin init at (Exits None) = Unit {0}
HasItsText place names begin init at (Exits (Some text)) = IsTextAt place names begin init text at

-- the texts of statements lie from this address on, and the end's text at its own
abbrev pub AreTexts : (place : List ℕ → ℕ) (names : List (List ℕ)) (begin : ℕ) (init : List ℕ) (at end : ℕ) → List Statement → Type 0
AreTexts place names begin init at end [] = IsTextAt place names begin init end_text end
AreTexts place names begin init at end (s ∷ ss) =
    HasItsText place names begin init at s × AreTexts place names begin init (text_after at s) end ss
