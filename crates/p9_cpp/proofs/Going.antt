-- What a step of the reader tells, in the words of the code.
use Rattle.std.proofs.Common.{◌≡◌, ℕ, suc, ◌+◌, ◌-◌, ◌≤◌, Bool, true, false, List, [], ◌∷◌, ◌++◌, length, Option, Some, None, Result, Ok, Err, refl, sym, ap, ◌∙◌, subst, arith}
use Rattle.std.proofs.lemmas.List.{length-append}
use Rattle.p9_lex.specs.declared.token.Token.{Token}
use Rattle.p9_cpp.specs.declared.macros.Macro.{Macro}
use Rattle.p9_cpp.specs.declared.uses.Known.{Known}
use Rattle.p9_cpp.specs.declared.frame.Frame.{Frame}
use Rattle.p9_cpp.specs.declared.frame.Frame.TheVariants as frames
use Rattle.p9_cpp.specs.declared.frame.Invocation.{Invocation}
use Rattle.p9_cpp.specs.declared.frame.Rest.{Rest}
use Rattle.p9_cpp.specs.declared.reader.Fault.{Fault}
use Rattle.p9_cpp.specs.declared.reader.Fault.TheVariants as fault
use Rattle.p9_cpp.specs.Macros.{Table, Stands, Plain, Call, Wrong, use_of, put_in}
use Rattle.p9_cpp.specs.Expansion.{Outcome, done, broken, plus, and_then, charge, expansion, Limited, within, wrong, passed, limited, line_past, unless_past}
use Rattle.p9_cpp.specs.Reading.{hidden_of, is_inside, read, begun, steps_of, Goes, IsCharged, IsRefused}
use Rattle.p9_cpp.proofs.Counting.{past_behind, past_before}
use Rattle.p9_cpp.proofs.Derived.{append_nil}
use Rattle.p9_cpp.proofs.Steps.{stands_step, plain_step, call_step, wrong_step, body_end, argument_end, last_end}

-- tokens that the room holds
limited_behind : (left room s : ℕ) (xs : List Token) (o : Outcome) → left + length xs ≡ room → limited room (plus xs s o) ≡ limited left o
limited_behind left room s xs (done out c st) is =
    let both = length-append xs c in
    let same : room - length (xs ++ c) ≡ left - length c = omega (arith, is, both) in
    ap (λ p. unless_past p (within out (room - length (xs ++ c)))) (past_behind left room xs c is)
    ∙ ap (λ n. unless_past (line_past left c) (within out n)) same
limited_behind left room s xs (broken x y c st) is = ap (λ p. unless_past p (wrong x y)) (past_behind left room xs c is)

-- tokens that pass
limited_before : (room line s : ℕ) (xs : List Token) (o : Outcome) → line_past room xs ≡ Some line → limited room (plus xs s o) ≡ passed line
limited_before room line s xs (done out c st) is = ap (λ p. unless_past p (within out (room - length (xs ++ c)))) (past_before room line xs c is)
limited_before room line s xs (broken x y c st) is = ap (λ p. unless_past p (wrong x y)) (past_before room line xs c is)

steps_plus : (xs : List Token) (o : Outcome) → steps_of (plus xs 1 o) ≡ suc (steps_of o)
steps_plus xs (done out c st) = omega arith
steps_plus xs (broken x y c st) = omega arith

pub goes_on : (old new : Outcome) (room left : ℕ) (xs out : List Token) → old ≡ plus xs 1 new → left + length xs ≡ room → Goes (Ok true) old room new left out
goes_on old new room left xs out is counts =
    (ap (limited room) is ∙ limited_behind left room 1 xs new counts, ap steps_of is ∙ steps_plus xs new)

pub goes_free : (old new : Outcome) (room left : ℕ) (out : List Token) → old ≡ plus [] 1 new → left ≡ room → Goes (Ok true) old room new left out
goes_free old new room left out is counts = goes_on old new room left [] out is (omega (arith, counts))

pub goes_wrong : (e : Fault) (old next new : Outcome) (room left left' : ℕ) (xs out : List Token) → old ≡ plus xs 1 next → IsCharged (Err e) room xs left → Goes (Err e) old room new left' out
goes_wrong (fault.MacroArgs x y) old next new room left left' xs out is h = absurd h
goes_wrong (fault.TooManyTokens line) old next new room left left' xs out is h = ap (limited room) is ∙ limited_before room line 1 xs next h
goes_wrong fault.Memory old next new room left left' xs out is h = tt

pub at_last : (table : Table) (stack : List Frame) (left out : List Token) (room : ℕ) → stack ≡ [] → left ≡ [] → limited room (read table stack left out) ≡ within out room
at_last table stack left out room e l =
    let same : room - 0 ≡ room = omega arith in
    ap (λ fs. limited room (read table fs left out)) e ∙ ap (λ ts. limited room (read table [] ts out)) l ∙ ap (limited room) (last_end table out) ∙ ap (within out) same

pub at_body : (table : Table) (stack fs : List Frame) (left out : List Token) (known : Known) (rest : Rest) → stack ≡ frames.Body known rest ∷ fs → left ≡ [] → read table stack left out ≡ plus (charge (is_inside fs) out) 1 (read table fs rest.after (rest.out ++ out))
at_body table stack fs left out known rest e l =
    ap (λ x. read table x left out) e ∙ ap (λ ts. read table (frames.Body known rest ∷ fs) ts out) l ∙ body_end table fs known rest out

pub at_argument : (table : Table) (stack fs : List Frame) (left' out : List Token) (i : Invocation) (ready left : List (List Token)) (rest : Rest) → stack ≡ frames.Argument i ready left rest ∷ fs → left' ≡ [] → read table stack left' out ≡ plus [] 1 (begun table fs i (ready ++ out ∷ []) left rest)
at_argument table stack fs left' out i ready left rest e l =
    ap (λ x. read table x left' out) e ∙ ap (λ ts. read table (frames.Argument i ready left rest ∷ fs) ts out) l ∙ argument_end table fs i ready left rest out

wrong_by : (room : ℕ) (x : List ℕ) (line s : ℕ) → limited room (broken x line [] s) ≡ wrong x line
wrong_by room x line s = refl

pub meets_wrong : (table : Table) (fs : List Frame) (t : Token) (ts out : List Token) (x : List ℕ) (room : ℕ) → use_of table (hidden_of fs) t.kind ts ≡ Wrong x → limited room (read table fs (t ∷ ts) out) ≡ wrong x t.line
meets_wrong table fs t ts out x room is = ap (limited room) (wrong_step table fs t ts out x is)

pub meets_plain : (table : Table) (fs stack : List Frame) (t : Token) (ts out left now : List Token) (known : Known) (rest : Rest) → use_of table (hidden_of fs) t.kind ts ≡ Plain known.name.now known.definition.now → rest.after ≡ ts → rest.out ≡ out → stack ≡ frames.Body known rest ∷ fs → left ≡ put_in [] [] t.line known.definition.now.body → now ≡ [] → read table fs (t ∷ ts) out ≡ plus [] 1 (read table stack left now)
meets_plain table fs stack t ts out left now known rest is after behind pushed l n =
    ap (λ x. read table fs (t ∷ x) out) (sym after) ∙ ap (λ x. read table fs (t ∷ rest.after) x) (sym behind)
    ∙ plain_step table fs t known rest (ap (use_of table (hidden_of fs) t.kind) after ∙ is)
    ∙ ap (λ x. plus [] 1 (read table x (put_in [] [] t.line known.definition.now.body) [])) (sym pushed)
    ∙ ap (λ x. plus [] 1 (read table stack x [])) (sym l)
    ∙ ap (λ x. plus [] 1 (read table stack left x)) (sym n)

pub meets_call : (table : Table) (fs : List Frame) (t : Token) (ts out after : List Token) (i : Invocation) (args ready : List (List Token)) (rest : Rest) (next : Outcome) → i.line ≡ t.line → use_of table (hidden_of fs) t.kind ts ≡ Call i.known.name.now i.known.definition.now i.params.now args after → rest.after ≡ after → rest.out ≡ out → ready ≡ [] → next ≡ begun table fs i ready args rest → read table fs (t ∷ ts) out ≡ plus [] 1 next
meets_call table fs t ts out after i args ready rest next line is a behind none begins =
    ap (λ x. read table fs (t ∷ ts) x) (sym behind)
    ∙ call_step table fs t ts i args rest line (is ∙ ap (Call i.known.name.now i.known.definition.now i.params.now args) (sym a))
    ∙ ap (λ (x : List (List Token)). plus [] 1 (begun table fs i x args rest)) (sym none)
    ∙ ap (plus [] 1) (sym begins)

-- The whole list

begins_by : (room : ℕ) (o : Outcome) → limited room (and_then o (λ b. done b [] 0)) ≡ limited room o
begins_by room (done out c st) =
    let e : c ++ [] ≡ c = append_nil c in
    ap (λ d. unless_past (line_past room d) (within out (room - length d))) e
begins_by room (broken x y c st) = refl

pub begins : (room : ℕ) (table : Table) (text : List Token) → limited room (read table [] text []) ≡ limited room (expansion table [] false text)
begins room table text = begins_by room (expansion table [] false text)

pub refuses : (e : Fault) (o new : Outcome) (whole : Limited) (room room' : ℕ) (out : List Token) → limited room o ≡ whole → Goes (Err e) o room new room' out → IsRefused e whole
refuses (fault.MacroArgs x y) o new whole room room' out h e = sym h ∙ e
refuses (fault.TooManyTokens y) o new whole room room' out h e = sym h ∙ e
refuses fault.Memory o new whole room room' out h e = tt
