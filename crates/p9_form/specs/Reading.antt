-- How the parts of a file are read from the front of its tokens.
use Rattle.std.specs.Prelude.{ℕ, Bool, true, false, not, ◌&&◌, ◌==◌, nat_le, if◌then◌else◌, List, [], ◌∷◌, Option, Some, None, codes}
use Rattle.std.specs.List.{list_all}
use Rattle.p9_first.specs.Tokens.{Token, Word, Number, Text, Mark}
use Rattle.p9_first.specs.Form.{is_among, same_name, is_text_byte, is_variable_name}
use Rattle.p9_form.specs.declared.file.Operand.{Operand}
use Rattle.p9_form.specs.declared.file.Operand.TheVariants as operand
use Rattle.p9_form.specs.declared.file.First.{First}
use Rattle.p9_form.specs.declared.file.First.TheVariants as first
use Rattle.p9_form.specs.declared.file.Declaration.{Declaration}
use Rattle.p9_form.specs.declared.file.Statement.{Statement}
use Rattle.p9_form.specs.declared.file.Statement.TheVariants.{Assign, Write, Exits}

-- what was read, and the tokens that are left
pub record Got (A : Type 0) : Type 0 where
  pub value : A
  pub rest : List Token

abbrev pub got : {A : Type 0} → A → List Token → Got A
got x ts = record { value = x; rest = ts }

-- a step, and then the next one
unfoldable pub after : {A B : Type 0} → Option A → (A → Option B) → Option B
after None next = None
after (Some x) next = next x

-- One token

abbrev pub is_that_mark : ℕ → Token → Bool
is_that_mark c (Mark (b ∷ [])) = b == c
is_that_mark c _ = false

unfoldable pub read_mark : ℕ → List Token → Option (List Token)
read_mark c [] = None
read_mark c (t ∷ ts) = if is_that_mark c t then Some ts else None

unfoldable pub read_word : List Token → Option (Got (List ℕ))
read_word (Word x ∷ ts) = Some (got x ts)
read_word _ = None

-- a number that fits an int
unfoldable pub read_number : List Token → Option (Got ℕ)
read_number (Number value false false ∷ ts) = if nat_le value 2147483647 then Some (got value ts) else None
read_number _ = None

unfoldable pub read_text : List Token → Option (Got (List ℕ))
read_text (Text bytes ∷ ts) = if list_all is_text_byte bytes then Some (got bytes ts) else None
read_text _ = None

-- Statements

unfoldable pub read_operand : List (List ℕ) → List Token → Option (Got Operand)
read_operand names (Word x ∷ ts) = if is_among names x then Some (got (operand.Variable x) ts) else None
read_operand names (Number value false false ∷ ts) =
    if nat_le value 2147483647 then Some (got (operand.Number value) ts) else None
read_operand names _ = None

-- a sum's second operand, if there is a plus sign
abbrev pub right_behind : List (List ℕ) → List Token → Option (List Token) → Option (Got (Option Operand))
right_behind names ts None = Some (got None ts)
right_behind names ts (Some rest) = after (read_operand names rest) (λ r. Some (got (Some r.value) r.rest))

unfoldable pub read_right : List (List ℕ) → List Token → Option (Got (Option Operand))
read_right names ts = right_behind names ts (read_mark 43 ts)

unfoldable pub read_assignment : List (List ℕ) → List ℕ → List Token → Option (Got Statement)
read_assignment names x ts =
    after (read_operand names ts) (λ l.
    after (read_right names l.rest) (λ r.
    after (read_mark 59 r.rest) (λ rest.
    Some (got (Assign x l.value r.value) rest))))

abbrev pub is_that_word : List ℕ → Token → Bool
is_that_word w (Word x) = same_name w x
is_that_word w _ = false

-- a word, as `void`
unfoldable pub read_this : List ℕ → List Token → Option (List Token)
read_this w [] = None
read_this w (t ∷ ts) = if is_that_word w t then Some ts else None

-- the number 1
unfoldable pub read_one : List Token → Option (List Token)
read_one (Number value false false ∷ ts) = if value == 1 then Some ts else None
read_one _ = None

-- the text and the count of `write`, from its first comma on
unfoldable pub read_piece : List (List ℕ) → List Token → Option (Got Statement)
read_piece names ts =
    after (read_mark 44 ts) (λ ts.
    after (read_text ts) (λ text.
    after (read_mark 44 text.rest) (λ ts.
    after (read_operand names ts) (λ count.
    Some (got (Write text.value count.value) count.rest)))))

-- `write` from its number on, up to its last parenthesis
unfoldable pub read_write : List (List ℕ) → List Token → Option (Got Statement)
read_write names ts = after (read_one ts) (λ ts. read_piece names ts)

-- what `exits` is given
unfoldable pub read_exits : List Token → Option (Got Statement)
read_exits (Text bytes ∷ ts) = if list_all is_text_byte bytes then Some (got (Exits (Some bytes)) ts) else None
read_exits (Number value false false ∷ ts) = if value == 0 then Some (got (Exits None) ts) else None
read_exits _ = None

-- a call of the function with this name, from behind the parenthesis up to the last one
unfoldable pub read_call : List (List ℕ) → List ℕ → List Token → Option (Got Statement)
read_call names f ts =
    if same_name f (codes "write") then read_write names ts
    else (if same_name f (codes "exits") then read_exits ts else None)

-- a call from its parenthesis on
unfoldable pub read_arguments : List (List ℕ) → List ℕ → List Token → Option (Got Statement)
read_arguments names f ts =
    after (read_mark 40 ts) (λ ts.
    after (read_call names f ts) (λ call.
    after (read_mark 41 call.rest) (λ ts.
    after (read_mark 59 ts) (λ ts.
    Some (got call.value ts)))))

-- an assignment or a call from behind its name on
abbrev pub behind_name : List (List ℕ) → List ℕ → List Token → Option (List Token) → Option (Got Statement)
behind_name names x ts None = read_arguments names x ts
behind_name names x ts (Some rest) = if is_among names x then read_assignment names x rest else None

unfoldable pub read_behind : List (List ℕ) → List ℕ → List Token → Option (Got Statement)
read_behind names x ts = behind_name names x ts (read_mark 61 ts)

unfoldable pub read_statement : List (List ℕ) → List Token → Option (Got Statement)
read_statement names ts = after (read_word ts) (λ x. read_behind names x.value x.rest)

-- Declarations

-- int or long
unfoldable pub read_type : List Token → Option (Got Bool)
read_type (Word x ∷ ts) =
    if same_name (codes "int") x then Some (got false ts)
    else (if same_name (codes "long") x then Some (got true ts) else None)
read_type _ = None

-- a name that is declared here, and wasn't before
unfoldable pub read_new_name : List (List ℕ) → List Token → Option (Got (List ℕ))
read_new_name names (Word x ∷ ts) = if is_variable_name x && not (is_among names x) then Some (got x ts) else None
read_new_name names _ = None

-- what a declaration without `extern` says of the first value
abbrev pub value_behind : List Token → Option (List Token) → Option (Got First)
value_behind ts None = Some (got first.Zero ts)
value_behind ts (Some rest) = after (read_number rest) (λ n. Some (got (first.Number n.value) n.rest))

unfoldable pub read_value : List Token → Option (Got First)
read_value ts = value_behind ts (read_mark 61 ts)

unfoldable pub read_first : (is_extern : Bool) → List Token → Option (Got First)
read_first true ts = Some (got first.Extern ts)
read_first false ts = read_value ts

-- a declaration from its type on
unfoldable pub read_typed : List (List ℕ) → (is_extern : Bool) → List Token → Option (Got Declaration)
read_typed names is_extern ts =
    after (read_type ts) (λ t.
    after (read_new_name names t.rest) (λ x.
    after (read_first is_extern x.rest) (λ f.
    after (read_mark 59 f.rest) (λ ts.
    Some (got (record { name = x.value; is_long = t.value; first = f.value }) ts)))))

abbrev pub declaration_behind : List (List ℕ) → List Token → Option (List Token) → Option (Got Declaration)
declaration_behind names ts None = read_typed names false ts
declaration_behind names ts (Some rest) = read_typed names true rest

unfoldable pub read_declaration : List (List ℕ) → List Token → Option (Got Declaration)
read_declaration names ts = declaration_behind names ts (read_this (codes "extern") ts)

-- `void main(void) {`
unfoldable pub read_name_of_main : List Token → Option (List Token)
read_name_of_main ts = after (read_this (codes "void") ts) (λ ts. read_this (codes "main") ts)

unfoldable pub read_head : List Token → Option (List Token)
read_head ts =
    after (read_name_of_main ts) (λ ts.
    after (read_mark 40 ts) (λ ts.
    after (read_this (codes "void") ts) (λ ts.
    after (read_mark 41 ts) (λ ts.
    read_mark 123 ts))))
