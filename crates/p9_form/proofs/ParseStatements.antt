-- What is read of statements stands there and fits, and what fits is read.
use Rattle.std.proofs.Common.{◌≡◌, ℕ, Bool, true, false, ◌==◌, IsTrue, List, [], ◌∷◌, ◌++◌, Option, Some, None, refl, ap, ◌∙◌, sym, subst, append_assoc, codes}
use Rattle.std.specs.Prelude.{if◌then◌else◌, nat_le}
use Rattle.std.specs.List.{list_all}
use Rattle.p9_first.specs.Tokens.{Token, Word, Number, Text}
use Rattle.p9_first.specs.Form.{same_name, is_among, is_text_byte}
use Rattle.p9_form.specs.declared.file.Operand.{Operand}
use Rattle.p9_form.specs.declared.file.Operand.TheVariants as operand
use Rattle.p9_form.specs.declared.file.Statement.{Statement}
use Rattle.p9_form.specs.declared.file.Statement.TheVariants.{Assign, Write, Exits}
use Rattle.p9_form.specs.Reading.{Got, got, after, read_mark, read_word, read_operand, right_behind, read_right, read_assignment, read_one, read_piece, read_write, read_exits, read_call, read_arguments, behind_name, read_behind, read_statement}
use Rattle.p9_form.specs.Phrases.{mark, operand_token, right_tokens, exit_token, statement_tokens, OperandFits, RightFits, TextFits, ExitFits, StatementFits}
use Rattle.p9_form.proofs.ParseSteps.{after_some}
use Rattle.p9_form.proofs.ParseMarks.{some_after, passed, small_number, is_small, equal_numbers, equal_names, mark_sound, mark_exact, word_sound, text_sound, text_exact}

-- Operands

pub operand_sound : (names : List (List ℕ)) (ts : List Token) (g : Got Operand) → read_operand names ts ≡ Some g → OperandFits names g.value × (ts ≡ operand_token g.value ∷ g.rest)
unfolding read_operand
operand_sound names [] g e = cc
operand_sound names (Word x ∷ ts) g e =
    let h = passed (is_among names x) (got (operand.Variable x) ts) g e in
    subst (λ g. OperandFits names g.value × (Word x ∷ ts ≡ operand_token g.value ∷ g.rest)) h.1 (h.0, refl)
operand_sound names (Number value false false ∷ ts) g e =
    let h = passed (nat_le value 2147483647) (got (operand.Number value) ts) g e in
    subst (λ g. OperandFits names g.value × (Number value false false ∷ ts ≡ operand_token g.value ∷ g.rest)) h.1 (small_number value h.0, refl)
operand_sound names (_ ∷ ts) g e = cc

pub operand_exact : (names : List (List ℕ)) (x : Operand) (rest : List Token) → OperandFits names x → read_operand names (operand_token x ∷ rest) ≡ Some (got x rest)
unfolding read_operand
operand_exact names (operand.Variable x) rest h = ap (λ b. if b then Some (got (operand.Variable x) rest) else None) h
operand_exact names (operand.Number value) rest h = ap (λ b. if b then Some (got (operand.Number value) rest) else None) (is_small value h)

right_by : (names : List (List ℕ)) (ts : List Token) (o : Option (List Token)) (g : Got (Option Operand)) → read_mark 43 ts ≡ o → right_behind names ts o ≡ Some g → RightFits names g.value × (ts ≡ right_tokens g.value ++ g.rest)
right_by names ts None g m e =
    let same : got None ts ≡ g = cc in
    subst (λ g. RightFits names g.value × (ts ≡ right_tokens g.value ++ g.rest)) same (tt, refl)
right_by names ts (Some rest) g m e =
    let r = some_after e in
    let right = operand_sound names rest r.value r.first in
    let plus = mark_sound 43 ts rest m in
    let last = r.second in
    let same : got (Some r.value.value) r.value.rest ≡ g = cc in
    subst (λ g. RightFits names g.value × (ts ≡ right_tokens g.value ++ g.rest)) same (right.0, plus ∙ ap (λ v. mark 43 ∷ v) right.1)

pub right_sound : (names : List (List ℕ)) (ts : List Token) (g : Got (Option Operand)) → read_right names ts ≡ Some g → RightFits names g.value × (ts ≡ right_tokens g.value ++ g.rest)
unfolding read_right
right_sound names ts g e = right_by names ts (read_mark 43 ts) g refl e

pub right_exact : (names : List (List ℕ)) (right : Option Operand) (rest : List Token) → RightFits names right → read_right names (right_tokens right ++ (mark 59 ∷ rest)) ≡ Some (got right (mark 59 ∷ rest))
unfolding read_right read_mark
right_exact names None rest h = refl
right_exact names (Some right) rest h = after_some _ _ _ (operand_exact names right (mark 59 ∷ rest) h)

-- Assignments

pub assignment_sound : (names : List (List ℕ)) (x : List ℕ) (ts : List Token) (g : Got Statement) → IsTrue (is_among names x) → read_assignment names x ts ≡ Some g → StatementFits names g.value × (Word x ∷ mark 61 ∷ ts ≡ statement_tokens g.value ++ g.rest)
unfolding read_assignment
assignment_sound names x ts g among e =
    let l = some_after e in
    let r = some_after l.second in
    let m = some_after r.second in
    let left = operand_sound names ts l.value l.first in
    let right = right_sound names l.value.rest r.value r.first in
    let semicolon = mark_sound 59 r.value.rest m.value m.first in
    let last = m.second in
    let same : got (Assign x l.value.value r.value.value) m.value ≡ g = cc in
    let behind : r.value.rest ≡ mark 59 ∷ m.value = semicolon in
    let tokens : ts ≡ operand_token l.value.value ∷ ((right_tokens r.value.value ++ mark 59 ∷ []) ++ m.value) =
    left.1 ∙ ap (λ v. operand_token l.value.value ∷ v) (right.1 ∙ ap (λ v. right_tokens r.value.value ++ v) behind ∙ sym (append_assoc (right_tokens r.value.value) (mark 59 ∷ []) m.value)) in
    subst (λ g. StatementFits names g.value × (Word x ∷ mark 61 ∷ ts ≡ statement_tokens g.value ++ g.rest)) same ((among, left.0, right.0), ap (λ v. Word x ∷ mark 61 ∷ v) tokens)

pub assignment_exact : (names : List (List ℕ)) (x : List ℕ) (left : Operand) (right : Option Operand) (rest : List Token) → OperandFits names left → RightFits names right → read_assignment names x (operand_token left ∷ (right_tokens right ++ (mark 59 ∷ rest))) ≡ Some (got (Assign x left right) rest)
unfolding read_assignment
assignment_exact names x left right rest l r =
    after_some _ _ _ (operand_exact names left (right_tokens right ++ (mark 59 ∷ rest)) l)
    ∙ after_some _ _ _ (right_exact names right rest r)
    ∙ after_some _ _ _ (mark_exact 59 rest)

-- Calls

one_sound : (ts rest : List Token) → read_one ts ≡ Some rest → ts ≡ Number 1 false false ∷ rest
unfolding read_one
one_sound [] rest e = cc
one_sound (Number value false false ∷ ts) rest e =
    let h = passed (value == 1) ts rest e in
    let one : value ≡ 1 = equal_numbers value 1 h.0 in
    let others : ts ≡ rest = h.1 in
    cc
one_sound (_ ∷ ts) rest e = cc

piece_sound : (names : List (List ℕ)) (ts : List Token) (g : Got Statement) (rest : List Token) → read_piece names ts ≡ Some g → g.rest ≡ mark 41 ∷ mark 59 ∷ rest → StatementFits names g.value × (Word (codes "write") ∷ mark 40 ∷ Number 1 false false ∷ ts ≡ statement_tokens g.value ++ rest)
unfolding read_piece
piece_sound names ts g rest e h =
    let m = some_after e in
    let t = some_after m.second in
    let n = some_after t.second in
    let c = some_after n.second in
    let text = text_sound m.value t.value t.first in
    let count = operand_sound names n.value c.value c.first in
    let last = c.second in
    let same : got (Write t.value.value c.value.value) c.value.rest ≡ g = cc in
    let end : c.value.rest ≡ mark 41 ∷ mark 59 ∷ rest = ap (λ g. g.rest) same ∙ h in
    let tokens : ts ≡ mark 44 ∷ Text t.value.value ∷ mark 44 ∷ operand_token c.value.value ∷ mark 41 ∷ mark 59 ∷ rest =
    mark_sound 44 ts m.value m.first ∙ ap (λ v. mark 44 ∷ v) (text.1 ∙ ap (λ v. Text t.value.value ∷ v) (mark_sound 44 t.value.rest n.value n.first ∙ ap (λ v. mark 44 ∷ v) (count.1 ∙ ap (λ v. operand_token c.value.value ∷ v) end))) in
    subst (λ g. StatementFits names g.value × (Word (codes "write") ∷ mark 40 ∷ Number 1 false false ∷ ts ≡ statement_tokens g.value ++ rest)) same ((text.0, count.0), ap (λ v. Word (codes "write") ∷ mark 40 ∷ Number 1 false false ∷ v) tokens)

write_sound : (names : List (List ℕ)) (ts : List Token) (g : Got Statement) (rest : List Token) → read_write names ts ≡ Some g → g.rest ≡ mark 41 ∷ mark 59 ∷ rest → StatementFits names g.value × (Word (codes "write") ∷ mark 40 ∷ ts ≡ statement_tokens g.value ++ rest)
unfolding read_write
write_sound names ts g rest e h =
    let o = some_after e in
    let piece = piece_sound names o.value g rest o.second h in
    (piece.0, ap (λ v. Word (codes "write") ∷ mark 40 ∷ v) (one_sound ts o.value o.first) ∙ piece.1)

exits_sound : (names : List (List ℕ)) (ts : List Token) (g : Got Statement) (rest : List Token) → read_exits ts ≡ Some g → g.rest ≡ mark 41 ∷ mark 59 ∷ rest → StatementFits names g.value × (Word (codes "exits") ∷ mark 40 ∷ ts ≡ statement_tokens g.value ++ rest)
unfolding read_exits
exits_sound names [] g rest e h = cc
exits_sound names (Text bytes ∷ ts) g rest e h =
    let p = passed (list_all is_text_byte bytes) (got (Exits (Some bytes)) ts) g e in
    let end : ts ≡ mark 41 ∷ mark 59 ∷ rest = ap (λ g. g.rest) p.1 ∙ h in
    subst (λ g. StatementFits names g.value × (Word (codes "exits") ∷ mark 40 ∷ Text bytes ∷ ts ≡ statement_tokens g.value ++ rest)) p.1 (p.0, ap (λ v. Word (codes "exits") ∷ mark 40 ∷ Text bytes ∷ v) end)
exits_sound names (Number value false false ∷ ts) g rest e h =
    let p = passed (value == 0) (got (Exits None) ts) g e in
    let nothing : value ≡ 0 = equal_numbers value 0 p.0 in
    let end : ts ≡ mark 41 ∷ mark 59 ∷ rest = ap (λ g. g.rest) p.1 ∙ h in
    subst (λ g. StatementFits names g.value × (Word (codes "exits") ∷ mark 40 ∷ Number value false false ∷ ts ≡ statement_tokens g.value ++ rest)) p.1 (tt, ap (λ n. Word (codes "exits") ∷ mark 40 ∷ Number n false false ∷ ts) nothing ∙ ap (λ v. Word (codes "exits") ∷ mark 40 ∷ Number 0 false false ∷ v) end)
exits_sound names (_ ∷ ts) g rest e h = cc

exits_by : (names : List (List ℕ)) (f : List ℕ) (b : Bool) (ts : List Token) (g : Got Statement) (rest : List Token) → same_name f (codes "exits") ≡ b → (if b then read_exits ts else None) ≡ Some g → g.rest ≡ mark 41 ∷ mark 59 ∷ rest → StatementFits names g.value × (Word f ∷ mark 40 ∷ ts ≡ statement_tokens g.value ++ rest)
exits_by names f true ts g rest t e h =
    let s = exits_sound names ts g rest e h in
    (s.0, ap (λ x. Word x ∷ mark 40 ∷ ts) (equal_names f (codes "exits") t) ∙ s.1)
exits_by names f false ts g rest t e h = cc

call_by : (names : List (List ℕ)) (f : List ℕ) (b : Bool) (ts : List Token) (g : Got Statement) (rest : List Token) → same_name f (codes "write") ≡ b → (if b then read_write names ts else (if same_name f (codes "exits") then read_exits ts else None)) ≡ Some g → g.rest ≡ mark 41 ∷ mark 59 ∷ rest → StatementFits names g.value × (Word f ∷ mark 40 ∷ ts ≡ statement_tokens g.value ++ rest)
call_by names f true ts g rest t e h =
    let s = write_sound names ts g rest e h in
    (s.0, ap (λ x. Word x ∷ mark 40 ∷ ts) (equal_names f (codes "write") t) ∙ s.1)
call_by names f false ts g rest t e h = exits_by names f (same_name f (codes "exits")) ts g rest refl e h

call_sound : (names : List (List ℕ)) (f : List ℕ) (ts : List Token) (g : Got Statement) (rest : List Token) → read_call names f ts ≡ Some g → g.rest ≡ mark 41 ∷ mark 59 ∷ rest → StatementFits names g.value × (Word f ∷ mark 40 ∷ ts ≡ statement_tokens g.value ++ rest)
unfolding read_call
call_sound names f ts g rest e h = call_by names f (same_name f (codes "write")) ts g rest refl e h

arguments_sound : (names : List (List ℕ)) (f : List ℕ) (ts : List Token) (g : Got Statement) → read_arguments names f ts ≡ Some g → StatementFits names g.value × (Word f ∷ ts ≡ statement_tokens g.value ++ g.rest)
unfolding read_arguments
arguments_sound names f ts g e =
    let m = some_after e in
    let c = some_after m.second in
    let n = some_after c.second in
    let o = some_after n.second in
    let end : c.value.rest ≡ mark 41 ∷ mark 59 ∷ o.value = mark_sound 41 c.value.rest n.value n.first ∙ ap (λ v. mark 41 ∷ v) (mark_sound 59 n.value o.value o.first) in
    let call = call_sound names f m.value c.value o.value c.first end in
    let last = o.second in
    let same : got c.value.value o.value ≡ g = cc in
    subst (λ g. StatementFits names g.value × (Word f ∷ ts ≡ statement_tokens g.value ++ g.rest)) same (call.0, ap (λ v. Word f ∷ v) (mark_sound 40 ts m.value m.first) ∙ call.1)

-- Statements

assigned_by : (names : List (List ℕ)) (x : List ℕ) (b : Bool) (ts : List Token) (g : Got Statement) → is_among names x ≡ b → (if b then read_assignment names x ts else None) ≡ Some g → StatementFits names g.value × (Word x ∷ mark 61 ∷ ts ≡ statement_tokens g.value ++ g.rest)
assigned_by names x true ts g t e = assignment_sound names x ts g t e
assigned_by names x false ts g t e = cc

behind_by : (names : List (List ℕ)) (x : List ℕ) (ts : List Token) (o : Option (List Token)) (g : Got Statement) → read_mark 61 ts ≡ o → behind_name names x ts o ≡ Some g → StatementFits names g.value × (Word x ∷ ts ≡ statement_tokens g.value ++ g.rest)
behind_by names x ts None g m e = arguments_sound names x ts g e
behind_by names x ts (Some rest) g m e =
    let s = assigned_by names x (is_among names x) rest g refl e in
    (s.0, ap (λ v. Word x ∷ v) (mark_sound 61 ts rest m) ∙ s.1)

behind_sound : (names : List (List ℕ)) (x : List ℕ) (ts : List Token) (g : Got Statement) → read_behind names x ts ≡ Some g → StatementFits names g.value × (Word x ∷ ts ≡ statement_tokens g.value ++ g.rest)
unfolding read_behind
behind_sound names x ts g e = behind_by names x ts (read_mark 61 ts) g refl e

pub statement_sound : (names : List (List ℕ)) (ts : List Token) (g : Got Statement) → read_statement names ts ≡ Some g → StatementFits names g.value × (ts ≡ statement_tokens g.value ++ g.rest)
unfolding read_statement
statement_sound names ts g e =
    let w = some_after e in
    let s = behind_sound names w.value.value w.value.rest g w.second in
    (s.0, word_sound ts w.value w.first ∙ s.1)

-- what fits is read

piece_exact : (names : List (List ℕ)) (text : List ℕ) (count : Operand) (rest : List Token) → TextFits text → OperandFits names count → read_piece names (mark 44 ∷ Text text ∷ mark 44 ∷ operand_token count ∷ rest) ≡ Some (got (Write text count) rest)
unfolding read_piece
piece_exact names text count rest t c =
    after_some _ _ _ (mark_exact 44 (Text text ∷ mark 44 ∷ operand_token count ∷ rest))
    ∙ after_some _ _ _ (text_exact text (mark 44 ∷ operand_token count ∷ rest) t)
    ∙ after_some _ _ _ (mark_exact 44 (operand_token count ∷ rest))
    ∙ after_some _ _ _ (operand_exact names count rest c)

write_exact : (names : List (List ℕ)) (text : List ℕ) (count : Operand) (rest : List Token) → TextFits text → OperandFits names count → read_call names (codes "write") (Number 1 false false ∷ mark 44 ∷ Text text ∷ mark 44 ∷ operand_token count ∷ rest) ≡ Some (got (Write text count) rest)
unfolding read_call read_write read_one after
write_exact names text count rest t c = piece_exact names text count rest t c

exits_exact : (names : List (List ℕ)) (text : Option (List ℕ)) (rest : List Token) → ExitFits text → read_call names (codes "exits") (exit_token text ∷ rest) ≡ Some (got (Exits text) rest)
unfolding read_call read_exits
exits_exact names None rest h = refl
exits_exact names (Some text) rest h = ap (λ b. if b then Some (got (Exits (Some text)) rest) else None) h

arguments_exact : (names : List (List ℕ)) (f : List ℕ) (s : Statement) (ts rest : List Token) → read_call names f ts ≡ Some (got s (mark 41 ∷ mark 59 ∷ rest)) → read_arguments names f (mark 40 ∷ ts) ≡ Some (got s rest)
unfolding read_arguments
arguments_exact names f s ts rest e =
    after_some _ _ _ (mark_exact 40 ts)
    ∙ after_some _ _ _ e
    ∙ after_some _ _ _ (mark_exact 41 (mark 59 ∷ rest))
    ∙ after_some _ _ _ (mark_exact 59 rest)

behind_call : (names : List (List ℕ)) (f : List ℕ) (ts : List Token) → read_statement names (Word f ∷ mark 40 ∷ ts) ≡ read_arguments names f (mark 40 ∷ ts)
unfolding read_statement read_word read_behind read_mark after
behind_call names f ts = refl

behind_assign : (names : List (List ℕ)) (x : List ℕ) (ts : List Token) → IsTrue (is_among names x) → read_statement names (Word x ∷ mark 61 ∷ ts) ≡ read_assignment names x ts
unfolding read_statement read_word read_behind read_mark after
behind_assign names x ts h = ap (λ b. if b then read_assignment names x ts else None) h

pub statement_exact : (names : List (List ℕ)) (s : Statement) (rest : List Token) → StatementFits names s → read_statement names (statement_tokens s ++ rest) ≡ Some (got s rest)
statement_exact names (Assign x left right) rest h =
    ap (λ v. read_statement names (Word x ∷ mark 61 ∷ operand_token left ∷ v)) (append_assoc (right_tokens right) (mark 59 ∷ []) rest)
    ∙ behind_assign names x (operand_token left ∷ (right_tokens right ++ (mark 59 ∷ rest))) h.0
    ∙ assignment_exact names x left right rest h.1 h.2
statement_exact names (Write text count) rest h =
    behind_call names (codes "write") (Number 1 false false ∷ mark 44 ∷ Text text ∷ mark 44 ∷ operand_token count ∷ mark 41 ∷ mark 59 ∷ rest)
    ∙ arguments_exact names (codes "write") (Write text count) (Number 1 false false ∷ mark 44 ∷ Text text ∷ mark 44 ∷ operand_token count ∷ mark 41 ∷ mark 59 ∷ rest) rest (write_exact names text count (mark 41 ∷ mark 59 ∷ rest) h.0 h.1)
statement_exact names (Exits text) rest h =
    behind_call names (codes "exits") (exit_token text ∷ mark 41 ∷ mark 59 ∷ rest)
    ∙ arguments_exact names (codes "exits") (Exits text) (exit_token text ∷ mark 41 ∷ mark 59 ∷ rest) rest (exits_exact names text (mark 41 ∷ mark 59 ∷ rest) h)
