-- Statements one after the other, up to a closing brace.
use Rattle.std.proofs.Common.{◌≡◌, ℕ, ◌<◌, List, [], ◌∷◌, ◌++◌, length, length-append, Some, None, refl, ap, ◌∙◌, sym, subst, append_assoc, arith}
use Rattle.p9_first.specs.Tokens.{Token}
use Rattle.p9_form.specs.declared.file.Statement.{Statement}
use Rattle.p9_form.specs.declared.file.Statement.TheVariants.{Assign, Write, Exits}
use Rattle.p9_form.specs.Reading.{got, read_mark, read_statement}
use Rattle.p9_form.specs.Phrases.{mark, statement_tokens, statements_tokens, StatementFits, StatementsFit}
use Rattle.p9_form.specs.Found.{IsBody, HasNoBody}
use Rattle.p9_form.proofs.ParseMarks.{mark_sound, mark_exact}
use Rattle.p9_form.proofs.ParseStatements.{statement_sound, statement_exact}

-- statements that were read, and what is left
pub record AreRead (names : List (List ℕ)) (whole : List Token) (ss : List Statement) (left : List Token) : Type 0 where
  pub fit : StatementsFit names ss
  pub is : whole ≡ statements_tokens ss ++ left

pub none_read : (names : List (List ℕ)) (whole : List Token) → AreRead names whole [] whole
none_read names whole = record { fit = tt; is = refl }

fit_one_more : (names : List (List ℕ)) (ss : List Statement) (s : Statement) → StatementsFit names ss → StatementFits names s → StatementsFit names (ss ++ s ∷ [])
fit_one_more names [] s h f = (f, tt)
fit_one_more names (t ∷ ss) s h f = (h.0, fit_one_more names ss s h.1 f)

tokens_one_more : (ss : List Statement) (s : Statement) (rest : List Token) → statements_tokens (ss ++ s ∷ []) ++ rest ≡ statements_tokens ss ++ (statement_tokens s ++ rest)
tokens_one_more [] s rest = append_assoc (statement_tokens s) [] rest
tokens_one_more (t ∷ ss) s rest =
    append_assoc (statement_tokens t) (statements_tokens (ss ++ s ∷ [])) rest
    ∙ ap (λ v. statement_tokens t ++ v) (tokens_one_more ss s rest)
    ∙ sym (append_assoc (statement_tokens t) (statements_tokens ss) (statement_tokens s ++ rest))

pub one_more : (names : List (List ℕ)) (whole : List Token) (ss : List Statement) (left : List Token) (s : Statement) (next here : List Token) (more : List Statement) → AreRead names whole ss left → here ≡ left → read_statement names here ≡ Some (got s next) → more ≡ ss ++ s ∷ [] → AreRead names whole more next
one_more names whole ss left s next here more h stays e pushed =
    let sound = statement_sound names here (got s next) e in
    let longer : AreRead names whole (ss ++ s ∷ []) next =
    record { fit = fit_one_more names ss s h.fit sound.0; is = h.is ∙ ap (λ v. statements_tokens ss ++ v) (sym stays ∙ sound.1) ∙ sym (tokens_one_more ss s next) } in
    subst (λ list. AreRead names whole list next) (sym pushed) longer

begins_with_word : (s : Statement) → 0 < length (statement_tokens s)
begins_with_word (Assign x left right) = omega arith
begins_with_word (Write text count) = omega arith
begins_with_word (Exits text) = omega arith

pub statement_shortens : (names : List (List ℕ)) (left : List Token) (s : Statement) (next : List Token) → read_statement names left ≡ Some (got s next) → length next < length left
statement_shortens names left s next e =
    let sound = statement_sound names left (got s next) e in
    omega (arith, ap length sound.1, length-append (statement_tokens s) next, begins_with_word s)

pub body_ends : (names : List (List ℕ)) (whole : List Token) (ss : List Statement) (left next : List Token) → AreRead names whole ss left → read_mark 125 left ≡ Some next → IsBody names whole ss next
body_ends names whole ss left next h e = record { fits = h.fit; is = h.is ∙ ap (λ v. statements_tokens ss ++ v) (mark_sound 125 left next e) }

no_brace : (s : Statement) (rest next : List Token) → statement_tokens s ++ rest ≡ mark 125 ∷ next → ⊥
no_brace (Assign x left right) rest next e = cc
no_brace (Write text count) rest next e = cc
no_brace (Exits text) rest next e = cc

-- a statement in front can be read in one way
pub same_statement : (names : List (List ℕ)) (s t : Statement) (rest next : List Token) → StatementFits names s → StatementFits names t → statement_tokens s ++ rest ≡ statement_tokens t ++ next → (s ≡ t) × (rest ≡ next)
same_statement names s t rest next f g e =
    let same : got s rest ≡ got t next =
    (let whole : Some (got s rest) ≡ Some (got t next) = sym (statement_exact names s rest f) ∙ ap (λ ts. read_statement names ts) e ∙ statement_exact names t next g in cc) in
    (ap (λ g. g.value) same, ap (λ g. g.rest) same)

-- the statements of a body behind those that were read
pub record Behind (names : List (List ℕ)) (left rest : List Token) : Type 0 where
  pub statements : List Statement
  pub body : IsBody names left statements rest

behind_by : (names : List (List ℕ)) (ss ts : List Statement) (left rest : List Token) → StatementsFit names ss → StatementsFit names ts → statements_tokens ss ++ left ≡ statements_tokens ts ++ (mark 125 ∷ rest) → Behind names left rest
behind_by names [] ts left rest f g e = record { statements = ts; body = record { fits = g; is = e } }
behind_by names (s ∷ ss) [] left rest f g e =
    absurd (no_brace s (statements_tokens ss ++ left) rest (sym (append_assoc (statement_tokens s) (statements_tokens ss) left) ∙ e))
behind_by names (s ∷ ss) (t ∷ ts) left rest f g e =
    let same = same_statement names s t (statements_tokens ss ++ left) (statements_tokens ts ++ (mark 125 ∷ rest)) f.0 g.0
    (sym (append_assoc (statement_tokens s) (statements_tokens ss) left) ∙ e ∙ append_assoc (statement_tokens t) (statements_tokens ts) (mark 125 ∷ rest)) in
    behind_by names ss ts left rest f.1 g.1 same.1

refused_by : (names : List (List ℕ)) (left rest : List Token) (ss : List Statement) → read_mark 125 left ≡ None → read_statement names left ≡ None → IsBody names left ss rest → ⊥
refused_by names left rest [] m r b =
    let read : read_mark 125 left ≡ Some rest = ap (λ ts. read_mark 125 ts) b.is ∙ mark_exact 125 rest in
    cc
refused_by names left rest (s ∷ ss) m r b =
    let read : read_statement names left ≡ Some (got s (statements_tokens ss ++ (mark 125 ∷ rest))) =
    ap (λ ts. read_statement names ts) (b.is ∙ append_assoc (statement_tokens s) (statements_tokens ss) (mark 125 ∷ rest)) ∙ statement_exact names s (statements_tokens ss ++ (mark 125 ∷ rest)) b.fits.0 in
    cc

pub body_refused : (names : List (List ℕ)) (whole : List Token) (ss : List Statement) (left : List Token) → AreRead names whole ss left → read_mark 125 left ≡ None → read_statement names left ≡ None → HasNoBody names whole
body_refused names whole ss left h m r = record { no = by }
  where
    by : (ts : List Statement) (rest : List Token) → IsBody names whole ts rest → ⊥
    by ts rest b =
        let behind = behind_by names ss ts left rest h.fit b.fits (sym h.is ∙ b.is) in
        refused_by names left rest behind.statements m r behind.body

-- a body can be read in one way
pub same_body : (names : List (List ℕ)) (ss ts : List Statement) (rest next : List Token) → StatementsFit names ss → StatementsFit names ts → statements_tokens ss ++ (mark 125 ∷ rest) ≡ statements_tokens ts ++ (mark 125 ∷ next) → (ss ≡ ts) × (rest ≡ next)
same_body names [] [] rest next f g e = (refl, cc)
same_body names [] (t ∷ ts) rest next f g e =
    absurd (no_brace t (statements_tokens ts ++ (mark 125 ∷ next)) rest (sym (append_assoc (statement_tokens t) (statements_tokens ts) (mark 125 ∷ next)) ∙ sym e))
same_body names (s ∷ ss) [] rest next f g e =
    absurd (no_brace s (statements_tokens ss ++ (mark 125 ∷ rest)) next (sym (append_assoc (statement_tokens s) (statements_tokens ss) (mark 125 ∷ rest)) ∙ e))
same_body names (s ∷ ss) (t ∷ ts) rest next f g e =
    let same = same_statement names s t (statements_tokens ss ++ (mark 125 ∷ rest)) (statements_tokens ts ++ (mark 125 ∷ next)) f.0 g.0
    (sym (append_assoc (statement_tokens s) (statements_tokens ss) (mark 125 ∷ rest)) ∙ e ∙ append_assoc (statement_tokens t) (statements_tokens ts) (mark 125 ∷ next)) in
    let others = same_body names ss ts rest next f.1 g.1 same.1 in
    let heads : s ≡ t = same.0 in
    let tails : ss ≡ ts = others.0 in
    (cc, others.1)
