-- The tokens of each file of the form are such as the scanner finds.
use Rattle.std.proofs.Common.{◌≡◌, ℕ, Bool, true, false, List, [], ◌∷◌, ◌++◌, Option, Some, None, Result, Ok, Err, IsSome, IfOk, refl, ap, ◌∙◌, subst, sym, arith}
use Rattle.std.specs.Prelude.{IsSomeAnd}
use Rattle.p9_base.specs.declared.bytes.NoMemory.{NoMemory}
use Rattle.p9_first.specs.Trees.{SyntaxRow}
use Rattle.p9_first.specs.Tokens.{Token, Word, Number, Character, Text, Mark, End, file_tokens}
use Rattle.p9_first.specs.Form.{IsFile}
use Rattle.p9_form.specs.declared.file.Operand.{Operand}
use Rattle.p9_form.specs.declared.file.Operand.TheVariants as operand
use Rattle.p9_form.specs.declared.file.Statement.{Statement}
use Rattle.p9_form.specs.declared.file.Statement.TheVariants.{Assign, Write, Exits}
use Rattle.p9_form.specs.declared.file.First.{First}
use Rattle.p9_form.specs.declared.file.First.TheVariants as first
use Rattle.p9_form.specs.declared.file.Declaration.{Declaration}
use Rattle.p9_form.specs.declared.file.File.{File}
use Rattle.p9_form.specs.declared.token.Token as code
use Rattle.p9_form.specs.Spelling.{Spells, HasNoForm}
use Rattle.p9_form.specs.Scanning.{seen, IsFormToken, AreFormTokens}
use Rattle.p9_form.specs.Phrases.{mark, operand_token, right_tokens, statement_tokens, statements_tokens, OperandFits, RightFits, StatementFits, StatementsFit, declaration_tokens, declarations_tokens, FirstFits, DeclarationsFit, declared, main_tokens, MainFits, written, FileFits}
use Rattle.p9_form.proofs.ParseItems.{file_of}

-- tokens that stand before the end
abbrev AreInner : List Token → Type 0
AreInner [] = Unit {0}
AreInner (t ∷ ts) = IsFormToken t × AreInner ts

inner_append : (ts us : List Token) → AreInner ts → AreInner us → AreInner (ts ++ us)
inner_append [] us h k = k
inner_append (t ∷ ts) us h k = (h.0, inner_append ts us h.1 k)

form_more : (t : Token) (ts : List Token) → IsFormToken t → AreFormTokens ts → AreFormTokens (t ∷ ts)
form_more (Word name) ts h k = (h, k)
form_more (Number value unsigned long) ts h k = (h, k)
form_more (Character value) ts h k = absurd h
form_more (Text bytes) ts h k = (h, k)
form_more (Mark characters) ts h k = (h, k)
form_more End ts h k = absurd h

form_append : (ts us : List Token) → AreInner ts → AreFormTokens us → AreFormTokens (ts ++ us)
form_append [] us h k = k
form_append (t ∷ ts) us h k = form_more t (ts ++ us) h.0 (form_append ts us h.1 k)

operand_inner : (names : List (List ℕ)) (x : Operand) → OperandFits names x → IsFormToken (operand_token x)
operand_inner names (operand.Variable x) h = tt
operand_inner names (operand.Number value) h = h

right_inner : (names : List (List ℕ)) (right : Option Operand) → RightFits names right → AreInner (right_tokens right)
right_inner names None h = tt
right_inner names (Some right) h = (refl, (operand_inner names right h, tt))

statement_inner : (names : List (List ℕ)) (s : Statement) → StatementFits names s → AreInner (statement_tokens s)
statement_inner names (Assign x left right) h =
    (tt, (refl, (operand_inner names left h.1, inner_append (right_tokens right) (mark 59 ∷ []) (right_inner names right h.2) (refl, tt))))
statement_inner names (Write text count) h =
    (tt, (refl, (omega arith, (refl, (tt, (refl, (operand_inner names count h.1, (refl, (refl, tt)))))))))
statement_inner names (Exits None) h = (tt, (refl, (omega arith, (refl, (refl, tt)))))
statement_inner names (Exits (Some text)) h = (tt, (refl, (tt, (refl, (refl, tt)))))

statements_inner : (names : List (List ℕ)) (ss : List Statement) → StatementsFit names ss → AreInner (statements_tokens ss)
statements_inner names [] h = tt
statements_inner names (s ∷ ss) h = inner_append (statement_tokens s) (statements_tokens ss) (statement_inner names s h.0) (statements_inner names ss h.1)

inner_by : (name : List ℕ) (is_long : Bool) (f : First) → FirstFits f → AreInner (declaration_tokens (record { name = name; is_long = is_long; first = f }))
inner_by name true first.Extern h = (tt, (tt, (tt, (refl, tt))))
inner_by name false first.Extern h = (tt, (tt, (tt, (refl, tt))))
inner_by name true first.Zero h = (tt, (tt, (refl, tt)))
inner_by name false first.Zero h = (tt, (tt, (refl, tt)))
inner_by name true (first.Number value) h = (tt, (tt, (refl, (h, (refl, tt)))))
inner_by name false (first.Number value) h = (tt, (tt, (refl, (h, (refl, tt)))))

declarations_inner : (names : List (List ℕ)) (ds : List Declaration) → DeclarationsFit names ds → AreInner (declarations_tokens ds)
declarations_inner names [] h = tt
declarations_inner names (d ∷ ds) h =
    inner_append (declaration_tokens d) (declarations_tokens ds) (inner_by d.name d.is_long d.first h.0.1) (declarations_inner (d.name ∷ names) ds h.1)

behind_form : (names : List (List ℕ)) (main : Option (List Statement)) (after : List Declaration) → MainFits names main after → AreFormTokens (main_tokens main ++ (declarations_tokens after ++ End ∷ []))
behind_form names None after h = subst (λ ds. AreFormTokens (declarations_tokens ds ++ End ∷ [])) (sym h) refl
behind_form names (Some ss) after h =
    let rest = declarations_tokens after ++ End ∷ [] in
    let last : AreFormTokens rest = form_append (declarations_tokens after) (End ∷ []) (declarations_inner names after h.1) refl in
    let body : AreInner (main_tokens (Some ss)) =
    (tt, (tt, (refl, (tt, (refl, (refl, inner_append (statements_tokens ss) (mark 125 ∷ []) (statements_inner names ss h.0) (refl, tt))))))) in
    form_append (main_tokens (Some ss)) rest body last

file_tokens_by : (file : File) → FileFits file → AreFormTokens (written file)
file_tokens_by file h =
    form_append (declarations_tokens file.before) (main_tokens file.main ++ (declarations_tokens file.after ++ End ∷ [])) (declarations_inner [] file.before h.0)
    (behind_form (declared [] file.before) file.main file.after h.1)

pub form_tokens : (items : SyntaxRow) → IsFile items → AreFormTokens (file_tokens items)
form_tokens items h =
    let f = file_of items h in
    subst AreFormTokens (sym f.is) (file_tokens_by f.file f.fits)

-- Bytes without the form

none_is_none : {A : Type 0} (answer : Option A) (P : A → Type 0) → answer ≡ None → IsSomeAnd answer P → ⊥
none_is_none None P e h = absurd h
none_is_none (Some x) P e h = cc

pub not_scanned : (bytes slice : List ℕ) (answer : Option (List code.Token)) → slice ≡ bytes → ((ts : List Token) → AreFormTokens ts → Spells ts slice → IsSomeAnd answer (λ tokens. seen tokens ≡ ts)) → answer ≡ None → HasNoForm bytes
not_scanned bytes slice answer same exact none items h =
    none_is_none answer (λ tokens. seen tokens ≡ file_tokens items) none
    (exact (file_tokens items) (form_tokens items h.file) (subst (λ bytes. Spells (file_tokens items) bytes) (sym same) h.spelled))

tokens_are : (answer : Option (List code.Token)) (tokens : List code.Token) (ts : List Token) → answer ≡ Some tokens → IsSomeAnd answer (λ tokens. seen tokens ≡ ts) → seen tokens ≡ ts
tokens_are None tokens ts e h = cc
tokens_are (Some found) tokens ts e h =
    let same : found ≡ tokens = cc in
    subst (λ tokens. seen tokens ≡ ts) same h

not_none : (result : Result (Option File) NoMemory) → result ≡ Ok None → IfOk result (λ answer. IsSome answer) → ⊥
not_none (Ok None) e h = cc
not_none (Ok (Some file)) e h = cc
not_none (Err fault) e h = cc

pub not_parsed : (bytes slice : List ℕ) (answer : Option (List code.Token)) (tokens list : List code.Token) (result : Result (Option File) NoMemory) → slice ≡ bytes → ((ts : List Token) → AreFormTokens ts → Spells ts slice → IsSomeAnd answer (λ tokens. seen tokens ≡ ts)) → answer ≡ Some tokens → list ≡ tokens → ((items : SyntaxRow) → IsFile items → file_tokens items ≡ seen list → IfOk result (λ answer. IsSome answer)) → result ≡ Ok None → HasNoForm bytes
not_parsed bytes slice answer tokens list result same exact found listed complete none items h =
    let read = exact (file_tokens items) (form_tokens items h.file) (subst (λ bytes. Spells (file_tokens items) bytes) (sym same) h.spelled) in
    not_none result none (complete items h.file (sym (ap seen listed ∙ tokens_are answer tokens (file_tokens items) found read)))
