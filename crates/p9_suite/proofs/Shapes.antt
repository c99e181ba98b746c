-- The tokens of a file say which file it is.
use Rattle.std.proofs.Common.{◌≡◌, ◌⊎◌, ℕ, suc, ◌+◌, Bool, true, false, List, [], ◌∷◌, ◌++◌, map, Option, Some, None, codes, inl, inr, refl, sym, ap, ◌∙◌, subst, append_assoc, arith}
use Rattle.std.proofs.lemmas.List.{map-append}
use Rattle.p9_first.specs.Tokens.{Token, Word, Number, Text, Mark, End, tokens, tokens_from, file_tokens}
use Rattle.p9_first.specs.Trees.{SyntaxRow, more, none}
use Rattle.p9_first.specs.Form.{IsFile}
use Rattle.p9_first.specs.declared.tree.Kind.TheVariants as kind
use Rattle.p9_form.specs.declared.file.Operand.{Operand}
use Rattle.p9_form.specs.declared.file.Operand.TheVariants as operand
use Rattle.p9_form.specs.declared.file.Statement.{Statement}
use Rattle.p9_form.specs.declared.file.Statement.TheVariants.{Assign, Write, Exits}
use Rattle.p9_form.specs.declared.file.First.{First}
use Rattle.p9_form.specs.declared.file.First.TheVariants as first
use Rattle.p9_form.specs.declared.file.Declaration.{Declaration}
use Rattle.p9_form.specs.declared.file.File.{File}
use Rattle.p9_form.specs.Items.{statement_tree, statement_size, statement_trees, declaration_tree, declaration_size, declaration_trees, declarations_size, main_tree, main_size, main_trees, items_of}
use Rattle.p9_form.specs.Scanning.{AreFormTokens}
use Rattle.p9_form.proofs.Formed.{FitStatements, FitsFirst, FitDeclarations, FitsMain, FitsFile, file_fits}
use Rattle.p9_share.specs.Symbols.{module_of, variable_symbol}

-- The tokens of each part

abbrev mark : ℕ → Token
mark c = Mark (c ∷ [])

abbrev operand_token : Operand → Token
operand_token (operand.Variable x) = Word x
operand_token (operand.Number value) = Number value false false

abbrev right_tokens : Option Operand → List Token → List Token
right_tokens None rest = mark 59 ∷ rest
right_tokens (Some o) rest = mark 43 ∷ operand_token o ∷ mark 59 ∷ rest

abbrev exit_token : Option (List ℕ) → Token
exit_token None = Number 0 false false
exit_token (Some text) = Text text

-- a statement, and then these tokens
abbrev statement_tokens : Statement → List Token → List Token
statement_tokens (Assign x left right) rest = Word x ∷ mark 61 ∷ operand_token left ∷ right_tokens right rest
statement_tokens (Write text count) rest =
    Word (codes "write") ∷ mark 40 ∷ Number 1 false false ∷ mark 44 ∷ Text text ∷ mark 44 ∷ operand_token count ∷ mark 41 ∷ mark 59 ∷ rest
statement_tokens (Exits text) rest = Word (codes "exits") ∷ mark 40 ∷ exit_token text ∷ mark 41 ∷ mark 59 ∷ rest

abbrev statements_tokens : List Statement → List Token → List Token
statements_tokens [] rest = rest
statements_tokens (s ∷ ss) rest = statement_tokens s (statements_tokens ss rest)

abbrev type_token : (is_long : Bool) → Token
type_token true = Word (codes "long")
type_token false = Word (codes "int")

abbrev first_tokens : (is_long : Bool) → (name : List ℕ) → First → List Token → List Token
first_tokens l x first.Extern rest = Word (codes "extern") ∷ type_token l ∷ Word x ∷ mark 59 ∷ rest
first_tokens l x first.Zero rest = type_token l ∷ Word x ∷ mark 59 ∷ rest
first_tokens l x (first.Number value) rest = type_token l ∷ Word x ∷ mark 61 ∷ Number value false false ∷ mark 59 ∷ rest

abbrev declarations_tokens : List Declaration → List Token → List Token
declarations_tokens [] rest = rest
declarations_tokens (d ∷ ds) rest = first_tokens d.is_long d.name d.first (declarations_tokens ds rest)

abbrev main_tokens : List Statement → List Token → List Token
main_tokens ss rest =
    Word (codes "void") ∷ Word (codes "main") ∷ mark 40 ∷ Word (codes "void") ∷ mark 41 ∷ mark 123 ∷ statements_tokens ss (mark 125 ∷ rest)

abbrev behind_tokens : Option (List Statement) → List Declaration → List Token
behind_tokens None after = declarations_tokens after (End ∷ [])
behind_tokens (Some ss) after = main_tokens ss (declarations_tokens after (End ∷ []))

-- The trees are written so

statement_written : (at : ℕ) (s : Statement) (rest : List Token) → tokens (statement_tree at s) ++ rest ≡ statement_tokens s rest
statement_written at (Assign x (operand.Variable y) None) rest = refl
statement_written at (Assign x (operand.Number n) None) rest = refl
statement_written at (Assign x (operand.Variable y) (Some (operand.Variable z))) rest = refl
statement_written at (Assign x (operand.Variable y) (Some (operand.Number m))) rest = refl
statement_written at (Assign x (operand.Number n) (Some (operand.Variable z))) rest = refl
statement_written at (Assign x (operand.Number n) (Some (operand.Number m))) rest = refl
statement_written at (Write text (operand.Variable y)) rest = refl
statement_written at (Write text (operand.Number n)) rest = refl
statement_written at (Exits None) rest = refl
statement_written at (Exits (Some text)) rest = refl

statements_written : (at i : ℕ) (ss : List Statement) (rest : List Token) → tokens_from kind.Block i (statement_trees at ss) ++ rest ≡ statements_tokens ss (mark 125 ∷ rest)
statements_written at i [] rest = refl
statements_written at i (s ∷ ss) rest =
    append_assoc (tokens (statement_tree at s)) (tokens_from kind.Block (suc i) (statement_trees (at + statement_size s) ss)) rest
    ∙ (ap (λ r. tokens (statement_tree at s) ++ r) (statements_written (at + statement_size s) (suc i) ss rest)
    ∙ statement_written at s (statements_tokens ss (mark 125 ∷ rest)))

declaration_written : (at : ℕ) (d : Declaration) (f : First) (l : Bool) (rest : List Token) → tokens (declaration_tree at (record d { first = f; is_long = l })) ++ rest ≡ first_tokens l d.name f rest
declaration_written at d first.Extern true rest = refl
declaration_written at d first.Extern false rest = refl
declaration_written at d first.Zero true rest = refl
declaration_written at d first.Zero false rest = refl
declaration_written at d (first.Number value) true rest = refl
declaration_written at d (first.Number value) false rest = refl

declarations_written : (at : ℕ) (ds : List Declaration) (others : SyntaxRow) → file_tokens (declaration_trees at ds others) ≡ declarations_tokens ds (file_tokens others)
declarations_written at [] others = refl
declarations_written at (d ∷ ds) others =
    ap (λ r. tokens (declaration_tree at d) ++ r) (declarations_written (at + declaration_size d.first) ds others)
    ∙ declaration_written at d d.first d.is_long (declarations_tokens ds (file_tokens others))

main_written : (at : ℕ) (ss : List Statement) (rest : List Token) → tokens (main_tree at ss) ++ rest ≡ main_tokens ss rest
main_written at ss rest =
    ap (λ r. Word (codes "void") ∷ Word (codes "main") ∷ mark 40 ∷ Word (codes "void") ∷ mark 41 ∷ mark 123 ∷ r)
    (append_assoc (tokens_from kind.Block 0 (statement_trees (at + 6) ss)) [] rest ∙ statements_written (at + 6) 0 ss rest)

behind_written : (at : ℕ) (main : Option (List Statement)) (after : List Declaration) → file_tokens (main_trees at main after) ≡ behind_tokens main after
behind_written at None after = declarations_written at after none
behind_written at (Some ss) after =
    ap (λ r. tokens (main_tree at ss) ++ r) (declarations_written (at + main_size ss) after none)
    ∙ main_written at ss (declarations_tokens after (End ∷ []))

pub file_written : (file : File) → file_tokens (items_of file) ≡ declarations_tokens file.before (behind_tokens file.main file.after)
file_written file =
    declarations_written 0 file.before (main_trees (declarations_size file.before) file.main file.after)
    ∙ ap (declarations_tokens file.before) (behind_written (declarations_size file.before) file.main file.after)

-- They are tokens of the form

form_operand : (names : List (List ℕ)) (s : Statement) (ss : List Statement) (rest : List Token) → FitStatements names (s ∷ ss) → AreFormTokens rest → AreFormTokens (statement_tokens s rest)
form_operand names (Assign x (operand.Variable y) None) ss rest h r = (tt, (refl, (tt, (refl, r))))
form_operand names (Assign x (operand.Number n) None) ss rest h r = (tt, (refl, (h.0.1, (refl, r))))
form_operand names (Assign x (operand.Variable y) (Some (operand.Variable z))) ss rest h r = (tt, (refl, (tt, (refl, (tt, (refl, r))))))
form_operand names (Assign x (operand.Variable y) (Some (operand.Number m))) ss rest h r = (tt, (refl, (tt, (refl, (h.0.2, (refl, r))))))
form_operand names (Assign x (operand.Number n) (Some (operand.Variable z))) ss rest h r = (tt, (refl, (h.0.1, (refl, (tt, (refl, r))))))
form_operand names (Assign x (operand.Number n) (Some (operand.Number m))) ss rest h r = (tt, (refl, (h.0.1, (refl, (h.0.2, (refl, r))))))
form_operand names (Write text (operand.Variable y)) ss rest h r = (tt, (refl, (omega arith, (refl, (tt, (refl, (tt, (refl, (refl, r)))))))))
form_operand names (Write text (operand.Number n)) ss rest h r = (tt, (refl, (omega arith, (refl, (tt, (refl, (h.0.1, (refl, (refl, r)))))))))
form_operand names (Exits None) ss rest h r = (tt, (refl, (omega arith, (refl, (refl, r)))))
form_operand names (Exits (Some text)) ss rest h r = (tt, (refl, (tt, (refl, (refl, r)))))

form_statements : (names : List (List ℕ)) (ss : List Statement) (rest : List Token) → FitStatements names ss → AreFormTokens rest → AreFormTokens (statements_tokens ss rest)
form_statements names [] rest h r = r
form_statements names (s ∷ ss) rest h r = form_operand names s ss (statements_tokens ss rest) h (form_statements names ss rest h.1 r)

form_first : (l : Bool) (x : List ℕ) (f : First) (rest : List Token) → FitsFirst f → AreFormTokens rest → AreFormTokens (first_tokens l x f rest)
form_first true x first.Extern rest h r = (tt, (tt, (tt, (refl, r))))
form_first false x first.Extern rest h r = (tt, (tt, (tt, (refl, r))))
form_first true x first.Zero rest h r = (tt, (tt, (refl, r)))
form_first false x first.Zero rest h r = (tt, (tt, (refl, r)))
form_first true x (first.Number value) rest h r = (tt, (tt, (refl, (h, (refl, r)))))
form_first false x (first.Number value) rest h r = (tt, (tt, (refl, (h, (refl, r)))))

form_declarations : (names : List (List ℕ)) (ds : List Declaration) (rest : List Token) → FitDeclarations names ds → AreFormTokens rest → AreFormTokens (declarations_tokens ds rest)
form_declarations names [] rest h r = r
form_declarations names (d ∷ ds) rest h r = form_first d.is_long d.name d.first (declarations_tokens ds rest) h.1 (form_declarations (d.name ∷ names) ds rest h.2 r)

form_behind : (names : List (List ℕ)) (main : Option (List Statement)) (after : List Declaration) → FitsMain names main → FitDeclarations names after → AreFormTokens (behind_tokens main after)
form_behind names None after m a = form_declarations names after (End ∷ []) a refl
form_behind names (Some ss) after m a =
    (tt, (tt, (refl, (tt, (refl, (refl, form_statements names ss (mark 125 ∷ declarations_tokens after (End ∷ [])) m (refl, form_declarations names after (End ∷ []) a refl)))))))

pub file_form : (file : File) → IsFile (items_of file) → AreFormTokens (file_tokens (items_of file))
file_form file h =
    let f : FitsFile file = file_fits file h in
    subst AreFormTokens (sym (file_written file))
    (form_declarations [] file.before (behind_tokens file.main file.after) f.before (form_behind _ file.main file.after f.main f.after))

-- Tokens, one by one

tok : {t u : Token} {x y : List Token} → t ∷ x ≡ u ∷ y → t ≡ u
tok e = cc

beh : {t u : Token} {x y : List Token} → t ∷ x ≡ u ∷ y → x ≡ y
beh e = cc

mark_same : {a b : ℕ} → mark a ≡ mark b → a ≡ b
mark_same e = cc

word_same : {x y : List ℕ} → Word x ≡ Word y → x ≡ y
word_same e = cc

letter_same : {a b : ℕ} {x y : List ℕ} → Word (a ∷ x) ≡ Word (b ∷ y) → a ≡ b
letter_same e = cc

number_same : {n m : ℕ} → Number n false false ≡ Number m false false → n ≡ m
number_same e = cc

text_same : {x y : List ℕ} → Text x ≡ Text y → x ≡ y
text_same e = cc

word_number : {x : List ℕ} {n : ℕ} → Word x ≡ Number n false false → ⊥
word_number e = cc

number_text : {x : List ℕ} {n : ℕ} → Number n false false ≡ Text x → ⊥
number_text e = cc

mark_word : {a : ℕ} {x : List ℕ} → mark a ≡ Word x → ⊥
mark_word e = cc

end_word : {x : List ℕ} → End ≡ Word x → ⊥
end_word e = cc

apart : (a b : ℕ) → (a ≡ b → ⊥) → mark a ≡ mark b → ⊥
apart a b n e = n (mark_same e)

mark_59_43 : mark 59 ≡ mark 43 → ⊥
mark_59_43 e = apart 59 43 (λ h. omega (arith, h)) e

mark_61_40 : mark 61 ≡ mark 40 → ⊥
mark_61_40 e = apart 61 40 (λ h. omega (arith, h)) e

mark_59_61 : mark 59 ≡ mark 61 → ⊥
mark_59_61 e = apart 59 61 (λ h. omega (arith, h)) e

-- words that begin with other letters
words_apart : (a b : ℕ) (x y : List ℕ) → (a ≡ b → ⊥) → Word (a ∷ x) ≡ Word (b ∷ y) → ⊥
words_apart a b x y n e = n (letter_same e)

write_exits : Word (codes "write") ≡ Word (codes "exits") → ⊥
write_exits e = words_apart 119 101 (codes "rite") (codes "xits") (λ h. omega (arith, h)) e

long_int : Word (codes "long") ≡ Word (codes "int") → ⊥
long_int e = words_apart 108 105 (codes "ong") (codes "nt") (λ h. omega (arith, h)) e

extern_long : Word (codes "extern") ≡ Word (codes "long") → ⊥
extern_long e = words_apart 101 108 (codes "xtern") (codes "ong") (λ h. omega (arith, h)) e

extern_int : Word (codes "extern") ≡ Word (codes "int") → ⊥
extern_int e = words_apart 101 105 (codes "xtern") (codes "nt") (λ h. omega (arith, h)) e

void_long : Word (codes "void") ≡ Word (codes "long") → ⊥
void_long e = words_apart 118 108 (codes "oid") (codes "ong") (λ h. omega (arith, h)) e

void_int : Word (codes "void") ≡ Word (codes "int") → ⊥
void_int e = words_apart 118 105 (codes "oid") (codes "nt") (λ h. omega (arith, h)) e

void_extern : Word (codes "void") ≡ Word (codes "extern") → ⊥
void_extern e = words_apart 118 101 (codes "oid") (codes "xtern") (λ h. omega (arith, h)) e

-- Tokens say which statements they are

operand_same : (o p : Operand) → operand_token o ≡ operand_token p → o ≡ p
operand_same (operand.Variable x) (operand.Variable y) e = ap operand.Variable (word_same e)
operand_same (operand.Variable x) (operand.Number n) e = absurd (word_number e)
operand_same (operand.Number n) (operand.Variable y) e = absurd (word_number (sym e))
operand_same (operand.Number n) (operand.Number m) e = ap operand.Number (number_same e)

right_same : (r s : Option Operand) (x y : List Token) → right_tokens r x ≡ right_tokens s y → (r ≡ s) × (x ≡ y)
right_same None None x y e = (refl, beh e)
right_same None (Some p) x y e = absurd (mark_59_43 (tok e))
right_same (Some o) None x y e = absurd (mark_59_43 (sym (tok e)))
right_same (Some o) (Some p) x y e = (ap Some (operand_same o p (tok (beh e))), beh (beh (beh e)))

exit_same : (r s : Option (List ℕ)) → exit_token r ≡ exit_token s → r ≡ s
exit_same None None e = refl
exit_same None (Some text) e = absurd (number_text e)
exit_same (Some text) None e = absurd (number_text (sym e))
exit_same (Some text) (Some other) e = ap Some (text_same e)

statement_same : (s t : Statement) (x y : List Token) → statement_tokens s x ≡ statement_tokens t y → (s ≡ t) × (x ≡ y)
statement_same (Assign v left right) (Assign w first other) x y e =
    let r = right_same right other x y (beh (beh (beh e))) in
    (λ i. Assign (word_same (tok e) i) (operand_same left first (tok (beh (beh e))) i) (r.0 i), r.1)
statement_same (Assign v left right) (Write text count) x y e = absurd (mark_61_40 (tok (beh e)))
statement_same (Assign v left right) (Exits text) x y e = absurd (mark_61_40 (tok (beh e)))
statement_same (Write text count) (Assign v left right) x y e = absurd (mark_61_40 (sym (tok (beh e))))
statement_same (Write text count) (Write other sum) x y e =
    let texts = beh (beh (beh (beh e))) in
    let counts = beh (beh texts) in
    (λ i. Write (text_same (tok texts) i) (operand_same count sum (tok counts) i), beh (beh (beh counts)))
statement_same (Write text count) (Exits other) x y e = absurd (write_exits (tok e))
statement_same (Exits text) (Assign v left right) x y e = absurd (mark_61_40 (sym (tok (beh e))))
statement_same (Exits text) (Write other count) x y e = absurd (write_exits (sym (tok e)))
statement_same (Exits text) (Exits other) x y e =
    let texts = beh (beh e) in
    (ap Exits (exit_same text other (tok texts)), beh (beh (beh texts)))

no_statement : (s : Statement) (x y : List Token) → mark 125 ∷ x ≡ statement_tokens s y → ⊥
no_statement (Assign v left right) x y e = mark_word (tok e)
no_statement (Write text count) x y e = mark_word (tok e)
no_statement (Exits text) x y e = mark_word (tok e)

statements_same : (ss ts : List Statement) (x y : List Token) → statements_tokens ss (mark 125 ∷ x) ≡ statements_tokens ts (mark 125 ∷ y) → (ss ≡ ts) × (x ≡ y)
statements_same [] [] x y e = (refl, beh e)
statements_same [] (t ∷ ts) x y e = absurd (no_statement t x (statements_tokens ts (mark 125 ∷ y)) e)
statements_same (s ∷ ss) [] x y e = absurd (no_statement s y (statements_tokens ss (mark 125 ∷ x)) (sym e))
statements_same (s ∷ ss) (t ∷ ts) x y e =
    let one = statement_same s t (statements_tokens ss (mark 125 ∷ x)) (statements_tokens ts (mark 125 ∷ y)) e in
    let rest = statements_same ss ts x y one.1 in
    (λ i. one.0 i ∷ rest.0 i, rest.1)

-- which declarations they are

type_same : (l m : Bool) → type_token l ≡ type_token m → l ≡ m
type_same true true e = refl
type_same true false e = absurd (long_int e)
type_same false true e = absurd (long_int (sym e))
type_same false false e = refl

not_extern : (l : Bool) → Word (codes "extern") ≡ type_token l → ⊥
not_extern true e = extern_long e
not_extern false e = extern_int e

record SameFirst (l m : Bool) (x y : List ℕ) (f g : First) (a b : List Token) : Type 0 where
  long : l ≡ m
  name : x ≡ y
  first : f ≡ g
  rest : a ≡ b

first_same : (l m : Bool) (x y : List ℕ) (f g : First) (a b : List Token) → first_tokens l x f a ≡ first_tokens m y g b → SameFirst l m x y f g a b
first_same l m x y first.Extern first.Extern a b e = record { long = type_same l m (tok (beh e)); name = word_same (tok (beh (beh e))); first = refl; rest = beh (beh (beh (beh e))) }
first_same l m x y first.Extern first.Zero a b e = absurd (not_extern m (tok e))
first_same l m x y first.Extern (first.Number value) a b e = absurd (not_extern m (tok e))
first_same l m x y first.Zero first.Extern a b e = absurd (not_extern l (sym (tok e)))
first_same l m x y first.Zero first.Zero a b e = record { long = type_same l m (tok e); name = word_same (tok (beh e)); first = refl; rest = beh (beh (beh e)) }
first_same l m x y first.Zero (first.Number value) a b e = absurd (mark_59_61 (tok (beh (beh e))))
first_same l m x y (first.Number n) first.Extern a b e = absurd (not_extern l (sym (tok e)))
first_same l m x y (first.Number n) first.Zero a b e = absurd (mark_59_61 (sym (tok (beh (beh e)))))
first_same l m x y (first.Number n) (first.Number value) a b e =
    let values = beh (beh (beh e)) in
    record { long = type_same l m (tok e); name = word_same (tok (beh e)); first = ap first.Number (number_same (tok values)); rest = beh (beh values) }

-- the tokens behind declarations begin with the end or with `main`
abbrev AreBehind : List Token → Type 0
AreBehind a = (rest : List Token) × ((a ≡ End ∷ rest) ⊎ (a ≡ Word (codes "void") ∷ rest))

no_type : (l : Bool) (t : Token) → (t ≡ End) ⊎ (t ≡ Word (codes "void")) → t ≡ type_token l → ⊥
no_type true t (inl h) e = end_word (sym h ∙ e)
no_type true t (inr h) e = void_long (sym h ∙ e)
no_type false t (inl h) e = end_word (sym h ∙ e)
no_type false t (inr h) e = void_int (sym h ∙ e)

no_declaration : (l : Bool) (x : List ℕ) (f : First) (a b : List Token) → AreBehind a → a ≡ first_tokens l x f b → ⊥
no_declaration l x first.Extern a b (rest, inl h) e = end_word (tok (sym h ∙ e))
no_declaration l x first.Extern a b (rest, inr h) e = void_extern (tok (sym h ∙ e))
no_declaration l x first.Zero a b (rest, inl h) e = no_type l End (inl refl) (tok (sym h ∙ e))
no_declaration l x first.Zero a b (rest, inr h) e = no_type l (Word (codes "void")) (inr refl) (tok (sym h ∙ e))
no_declaration l x (first.Number value) a b (rest, inl h) e = no_type l End (inl refl) (tok (sym h ∙ e))
no_declaration l x (first.Number value) a b (rest, inr h) e = no_type l (Word (codes "void")) (inr refl) (tok (sym h ∙ e))

declaration_same : (d e : Declaration) (a b : List Token) → SameFirst d.is_long e.is_long d.name e.name d.first e.first a b → d ≡ e
declaration_same d e a b s = λ i. record { name = s.name i; is_long = s.long i; first = s.first i }

declarations_same : (ds es : List Declaration) (a b : List Token) → AreBehind a → AreBehind b → declarations_tokens ds a ≡ declarations_tokens es b → (ds ≡ es) × (a ≡ b)
declarations_same [] [] a b p q e = (refl, e)
declarations_same [] (d ∷ ds) a b p q e = absurd (no_declaration d.is_long d.name d.first a (declarations_tokens ds b) p e)
declarations_same (d ∷ ds) [] a b p q e = absurd (no_declaration d.is_long d.name d.first b (declarations_tokens ds a) q (sym e))
declarations_same (d ∷ ds) (c ∷ cs) a b p q e =
    let one = first_same d.is_long c.is_long d.name c.name d.first c.first (declarations_tokens ds a) (declarations_tokens cs b) e in
    let rest = declarations_same ds cs a b p q one.rest in
    (λ i. declaration_same d c (declarations_tokens ds a) (declarations_tokens cs b) one i ∷ rest.0 i, rest.1)

-- and which file

-- the same tree and the same symbols
pub record SameFile (file other : File) : Type 0 where
  pub items : items_of file ≡ items_of other
  pub symbols : module_of file ≡ module_of other

declared_twice : (ds es : List Declaration) (rest : List Token) → declarations_tokens ds (declarations_tokens es rest) ≡ declarations_tokens (ds ++ es) rest
declared_twice [] es rest = refl
declared_twice (d ∷ ds) es rest = ap (first_tokens d.is_long d.name d.first) (declared_twice ds es rest)

size_append : (ds es : List Declaration) → declarations_size (ds ++ es) ≡ declarations_size ds + declarations_size es
size_append [] es = omega arith
size_append (d ∷ ds) es = omega (arith, size_append ds es)

trees_append : (at : ℕ) (ds es : List Declaration) (others : SyntaxRow) → declaration_trees at (ds ++ es) others ≡ declaration_trees at ds (declaration_trees (at + declarations_size ds) es others)
trees_append at [] es others = let e : at ≡ at + 0 = omega arith in ap (λ n. declaration_trees n es others) e
trees_append at (d ∷ ds) es others =
    let e : at + declaration_size d.first + declarations_size ds ≡ at + (declaration_size d.first + declarations_size ds) = omega arith in
    ap (more (declaration_tree at d))
    (trees_append (at + declaration_size d.first) ds es others ∙ ap (λ n. declaration_trees (at + declaration_size d.first) ds (declaration_trees n es others)) e)

-- without `main` the tree is that of all declarations
trees_without : (before after : List Declaration) → declaration_trees 0 before (main_trees (declarations_size before) None after) ≡ declaration_trees 0 (before ++ after) none
trees_without before after =
    let e : declarations_size before ≡ 0 + declarations_size before = omega arith in
    ap (λ n. declaration_trees 0 before (declaration_trees n after none)) e ∙ sym (trees_append 0 before after none)

symbols_without : (before after : List Declaration) → map (variable_symbol []) before ++ map (variable_symbol []) after ≡ map (variable_symbol []) (before ++ after)
symbols_without before after = sym (map-append (variable_symbol []) before after)

abbrev file_with : List Declaration → Option (List Statement) → List Declaration → File
file_with before main after = record { before = before; main = main; after = after }

behind_end : AreBehind (End ∷ [])
behind_end = ([], inl refl)

behind_main : (ss : List Statement) (rest : List Token) → AreBehind (main_tokens ss rest)
behind_main ss rest = (_, inr refl)

same_parts : (before : List Declaration) (main : Option (List Statement)) (after early : List Declaration) (other : Option (List Statement)) (late : List Declaration)
    → declarations_tokens before (behind_tokens main after) ≡ declarations_tokens early (behind_tokens other late)
    → SameFile (file_with before main after) (file_with early other late)
same_parts before None after early None late e =
    let all : declarations_tokens (before ++ after) (End ∷ []) ≡ declarations_tokens (early ++ late) (End ∷ []) =
    sym (declared_twice before after (End ∷ [])) ∙ (e ∙ declared_twice early late (End ∷ [])) in
    let same : before ++ after ≡ early ++ late = (declarations_same (before ++ after) (early ++ late) (End ∷ []) (End ∷ []) behind_end behind_end all).0 in
    record {
      items = trees_without before after ∙ (ap (λ ds. declaration_trees 0 ds none) same ∙ sym (trees_without early late));
      symbols = ap (λ symbols. record { symbols = symbols }) (symbols_without before after ∙ (ap (map (variable_symbol [])) same ∙ sym (symbols_without early late)));
    }
same_parts before None after early (Some ss) late e =
    let all : declarations_tokens (before ++ after) (End ∷ []) ≡ declarations_tokens early (main_tokens ss (declarations_tokens late (End ∷ []))) =
    sym (declared_twice before after (End ∷ [])) ∙ e in
    let r = declarations_same (before ++ after) early (End ∷ []) (main_tokens ss (declarations_tokens late (End ∷ []))) behind_end (behind_main ss (declarations_tokens late (End ∷ []))) all in
    absurd (end_word (tok r.1))
same_parts before (Some ss) after early None late e =
    let all : declarations_tokens before (main_tokens ss (declarations_tokens after (End ∷ []))) ≡ declarations_tokens (early ++ late) (End ∷ []) =
    e ∙ declared_twice early late (End ∷ []) in
    let r = declarations_same before (early ++ late) (main_tokens ss (declarations_tokens after (End ∷ []))) (End ∷ []) (behind_main ss (declarations_tokens after (End ∷ []))) behind_end all in
    absurd (end_word (sym (tok r.1)))
same_parts before (Some ss) after early (Some ts) late e =
    let r = declarations_same before early (main_tokens ss (declarations_tokens after (End ∷ []))) (main_tokens ts (declarations_tokens late (End ∷ [])))
    (behind_main ss (declarations_tokens after (End ∷ []))) (behind_main ts (declarations_tokens late (End ∷ []))) e in
    let body : statements_tokens ss (mark 125 ∷ declarations_tokens after (End ∷ [])) ≡ statements_tokens ts (mark 125 ∷ declarations_tokens late (End ∷ [])) =
    beh (beh (beh (beh (beh (beh r.1))))) in
    let s = statements_same ss ts (declarations_tokens after (End ∷ [])) (declarations_tokens late (End ∷ [])) body in
    let l = declarations_same after late (End ∷ []) (End ∷ []) behind_end behind_end s.1 in
    let same : file_with before (Some ss) after ≡ file_with early (Some ts) late = λ i. file_with (r.0 i) (Some (s.0 i)) (l.0 i) in
    record { items = ap items_of same; symbols = ap module_of same }

pub same_tokens : (file other : File) → file_tokens (items_of file) ≡ file_tokens (items_of other) → SameFile file other
same_tokens file other e =
    same_parts file.before file.main file.after other.before other.main other.after (sym (file_written file) ∙ (e ∙ file_written other))
