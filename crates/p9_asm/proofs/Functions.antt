-- A function of a file without breaks is one of a valid module.
use Rattle.std.proofs.Common.{◌≡◌, ℕ, zero, suc, ◌+◌, ◌-◌, ◌<◌, Bool, true, false, ◌&&◌, not, List, [], ◌∷◌, drop, length, Option, Some, None, IfSome, unwrap_or, slice_get, refl, sym, ap, subst, ◌∙◌, arith}
use Rattle.std.specs.Prelude.{is_some, option_map, option_and_then}
use Rattle.p9_abs.specs.declared.instructions.Op.{Op}
use Rattle.p9_abs.specs.declared.instructions.Abs.{Abs}
use Rattle.p9_abs.specs.declared.instructions.TextDef.{TextDef}
use Rattle.p9_abs.specs.Validity.{IsInstruction, IsFunction}
use Rattle.p9_lex.specs.declared.token.Token.{Token}
use Rattle.p9_statement.specs.declared.operands.SymbolName.{SymbolName}
use Rattle.p9_statement.specs.declared.statements.Arguments.{Arguments}
use Rattle.p9_statement.specs.declared.statements.Statement.{Statement}
use Rattle.p9_statement.specs.declared.statements.Statement.TheVariants as statements
use Rattle.p9_statement.specs.declared.statements.Line.{Line}
use Rattle.p9_statement.specs.Statements.{reserved_among, fits_frame}
use Rattle.p9_rows.specs.declared.rows.Place.{Place}
use Rattle.p9_rows.specs.declared.rows.Row.{Row}
use Rattle.p9_rows.specs.Rows.{after_statement, before_all}
use Rattle.p9_facts.specs.declared.facts.Fact.TheVariants.{Label, Instruction}
use Rattle.p9_facts.specs.Facts.{says}
use Rattle.p9_asm.specs.declared.breaks.Break.TheVariants.{Reserved}
use Rattle.p9_asm.specs.Files.{File, file_of, statement_in}
use Rattle.p9_asm.specs.Breaks.{is_past, is_broken, reserved_in, is_unended, names_nothing, may_end, no_label}
use Rattle.p9_asm.specs.Code.{instruction_at, target_of, instruction_of, code_of}
use Rattle.p9_asm.proofs.Options.{each_get, all_each, if_is, not_false}
use Rattle.p9_asm.proofs.Places.{found_first}
use Rattle.p9_asm.proofs.Proper.{IsProper, IsProperLine}
use Rattle.p9_asm.proofs.Spelled.{IsProperRow}
use Rattle.p9_asm.proofs.Saying.{Counts, label_in, row_counts, row_labels}
use Rattle.p9_asm.proofs.Chained.{IsChained, behind_chained, function_before, number_below, counts_function, HoldsOfRows, code_each, EndsRows, code_ends}
use Rattle.p9_asm.proofs.Clean.{or_parts, IsSound}
use Rattle.p9_asm.proofs.Ranges.{TargetsBelow, instruction_valid}

pub get_drop : {X : Type 0} (a j : ℕ) (xs : List X) → slice_get (drop a xs) j ≡ slice_get xs (a + j)
get_drop zero j xs = let e : zero + j ≡ j = omega arith in rw e refl
get_drop (suc a) j [] = refl
get_drop (suc a) j (x ∷ xs) = let e : suc a + j ≡ suc (a + j) = omega arith in rw e (get_drop a j xs)

-- the statement of a line is proper
line_statement : (tokens : List Token) (content : Option Line) → IfSome content (IsProperLine tokens) → IfSome (statement_in content) (IsProper tokens)
line_statement tokens None h = tt
line_statement tokens (Some line) h = h

pub proper_at : (tokens : List Token) (rows : List Row) (n : ℕ) (r : Row) (st : Statement) → IsSound tokens rows → slice_get rows n ≡ Some r → statement_in r.content ≡ Some st → IsProper tokens st
proper_at tokens rows n r st s at is =
    if_is (statement_in r.content) st (IsProper tokens) (line_statement tokens r.content (each_get (IsProperRow tokens) rows n r s.proper at)) is

not_none : (o : Option ℕ) → not (is_some o) ≡ false → (i : ℕ) × (o ≡ Some i)
not_none None h = absurd (cc)
not_none (Some i) h = (i, refl)

some_known : (o : Option ℕ) → is_some o ≡ true → (i : ℕ) × (o ≡ Some i)
some_known None h = absurd (cc)
some_known (Some i) h = (i, refl)

-- Instructions are counted below their function's count

abbrev pub start : (n frame : ℕ) → Place
start n frame = record { function = Some n; frame = frame; number = 0 }

abbrev pub code_at : (rows : List Row) (n : ℕ) → List Abs
code_at rows n = code_of (file_of rows) n (drop (suc n) rows)

pub body_chained : (tokens : List Token) (rows : List Row) (n : ℕ) (r : Row) (t : SymbolName) (frame : ℕ) → IsSound tokens rows → slice_get rows n ≡ Some r → statement_in r.content ≡ Some (statements.Text t frame) → IsChained (n + 1) (start n frame) (drop (suc n) rows)
body_chained tokens rows n r t frame s at is =
    subst (λ st. IsChained (n + 1) (after_statement n r.place st) (drop (suc n) rows)) is
    (behind_chained 0 n before_all rows n r (omega arith) at s.chained)

row_below : (tokens : List Token) (rows : List Row) (n frame m i : ℕ) (r : Row) → IsSound tokens rows → IsChained (n + 1) (start n frame) (drop (suc n) rows) → slice_get rows i ≡ Some r → Counts n m r.place (statement_in r.content) → m < length (code_at rows n)
row_below tokens rows n frame m i r s chained at c =
    let before = function_before 0 before_all rows i r n s.chained (λ g e. absurd (cc)) at (counts_function n m r.place (statement_in r.content) c) in
    let e : suc n + (i - suc n) ≡ i = omega (arith, before) in
    let here : slice_get (drop (suc n) rows) (i - suc n) ≡ Some r = get_drop (suc n) (i - suc n) rows ∙ (ap (slice_get rows) e ∙ at) in
    let below = number_below (file_of rows) n (n + 1) m (start n frame) (drop (suc n) rows) (i - suc n) r refl (omega arith) chained here c in
    omega (arith, below)

past_below : (tokens : List Token) (rows : List Row) (n frame m : ℕ) → IsSound tokens rows → IsChained (n + 1) (start n frame) (drop (suc n) rows) → is_past (file_of rows) (Some n) m ≡ false → m < length (code_at rows n)
past_below tokens rows n frame m s chained h =
    let known = not_none ((file_of rows).first (Instruction n m)) h in
    let f = found_first (says (Instruction n m)) rows known.0 known.1 in
    row_below tokens rows n frame m known.0 f.item s chained f.here (row_counts n m f.item f.passes)

-- Labels name instructions

named_past : (file : File) (place : Place) (label function : Option ℕ) (f w : ℕ) → place.function ≡ function → function ≡ Some f → label ≡ Some w → names_nothing file place label ≡ false → is_past file (Some f) place.number ≡ false
named_past file place label function f w is e d h =
    let g : names_nothing file place (Some w) ≡ false = subst (λ l. names_nothing file place l ≡ false) d h in
    subst (λ x. is_past file x place.number ≡ false) (is ∙ e) g

targets_below : (tokens : List Token) (rows : List Row) (n frame : ℕ) → IsSound tokens rows → IsChained (n + 1) (start n frame) (drop (suc n) rows) → TargetsBelow (file_of rows) n (length (code_at rows n))
targets_below tokens rows n frame s chained w h =
    let file = file_of rows in
    let known = some_known (file.first (Label n w)) h in
    let f = found_first (says (Label n w)) rows known.0 known.1 in
    let labels = row_labels n w f.item f.passes in
    let clean = s.clean known.0 f.item f.here in
    let below = past_below tokens rows n frame f.item.place.number s chained (named_past file f.item.place (label_in f.item.content) f.item.place.function n w refl labels.0 labels.1 clean.named) in
    let number : instruction_at file known.0 ≡ Some f.item.place.number = ap (option_map (λ (row : Row). row.place.number)) f.here in
    let target : target_of file n w ≡ f.item.place.number =
    ap (λ o. unwrap_or (option_and_then (instruction_at file) o) 0) known.1 ∙ ap (λ o. unwrap_or o 0) number in
    omega (arith, target, below)

-- The instructions

abbrev Operation : Op → Arguments → Option Statement
Operation op given = Some (statements.Instruction op given)

frame_fits : (file : File) (i : ℕ) (place : Place) (op : Op) (given : Arguments) → is_broken file i place (Operation op given) ≡ false → fits_frame place.frame (statements.Instruction op given) ≡ true
frame_fits file i place op given h =
    not_false (fits_frame place.frame (statements.Instruction op given)) (or_parts (not (is_some place.function)) (not (fits_frame place.frame (statements.Instruction op given))) h).1

unmapped : (o : Option ℕ) → option_map (λ r. Reserved r) o ≡ None → o ≡ None
unmapped None h = refl
unmapped (Some r) h = absurd (cc)

row_valid : (tokens : List Token) (rows : List Row) (n frame i : ℕ) (r : Row) (op : Op) (given : Arguments) → IsSound tokens rows → IsChained (n + 1) (start n frame) (drop (suc n) rows) → slice_get rows i ≡ Some r → r.place.function ≡ Some n → r.place.frame ≡ frame → statement_in r.content ≡ Operation op given → IsInstruction frame (length (code_at rows n)) (instruction_of (file_of rows) n op given)
row_valid tokens rows n frame i r op given s chained at in_n in_frame is =
    let file = file_of rows in
    let clean = s.clean i r at in
    let proper = proper_at tokens rows i r (statements.Instruction op given) s at is in
    let unbroken = subst (λ st. is_broken file i r.place st ≡ false) is clean.unbroken in
    let unreserved = subst (λ st. reserved_in st ≡ None) is clean.unreserved in
    let labelled = subst (λ st. no_label file r.place.function st ≡ None) is clean.labelled in
    let found = subst (λ f. no_label file f (Operation op given) ≡ None) in_n labelled in
    let fits = subst (λ k. fits_frame k (statements.Instruction op given) ≡ true) in_frame (frame_fits file i r.place op given unbroken) in
    instruction_valid tokens file n frame (length (code_at rows n)) op given (targets_below tokens rows n frame s chained) proper.0 proper.1 fits (unmapped (reserved_among op given) unreserved) found

-- The end

end_by : (b past : Bool) → (past && not b) ≡ false → (past ≡ false → b ≡ true) → b ≡ true
end_by true past h k = refl
end_by false true h k = absurd (cc)
end_by false false h k = k refl

rows_end : (tokens : List Token) (rows : List Row) (n frame i : ℕ) (r : Row) (op : Op) (given : Arguments) → IsSound tokens rows → IsChained (n + 1) (start n frame) (drop (suc n) rows) → slice_get rows i ≡ Some r → r.place.function ≡ Some n → statement_in r.content ≡ Operation op given → r.place.number + 1 ≡ length (code_at rows n) → may_end op ≡ true
rows_end tokens rows n frame i r op given s chained at in_n is last =
    let file = file_of rows in
    let clean = s.clean i r at in
    let ended = subst (λ st. is_unended file i r.place st ≡ false) is clean.ended in
    end_by (may_end op) (is_past file r.place.function (r.place.number + 1)) ended
    (λ h. let below = past_below tokens rows n frame (r.place.number + 1) s chained (subst (λ f. is_past file f (r.place.number + 1) ≡ false) in_n h) in
    absurd (omega (arith, below, last)))

-- Functions

pub function_valid : (tokens : List Token) (rows : List Row) (n : ℕ) (r : Row) (t : SymbolName) (frame : ℕ) → IsSound tokens rows → slice_get rows n ≡ Some r → statement_in r.content ≡ Some (statements.Text t frame) → (let def : TextDef = record { frame = frame; code = code_of (file_of rows) n (drop (n + 1) rows) } in IsFunction def)
function_valid tokens rows n r t frame s at is =
    let file = file_of rows in
    let rest = drop (suc n) rows in
    let code = code_at rows n in
    let chained = body_chained tokens rows n r t frame s at is in
    let proper = proper_at tokens rows n r (statements.Text t frame) s at is in
    let ended = subst (λ st. is_unended file n r.place st ≡ false) is (s.clean n r at).ended in
    let some = past_below tokens rows n frame 0 s chained ended in
    let count = length code in
    let holds : HoldsOfRows (IsInstruction frame count) file n frame rest = λ j q op given here in_n in_frame st.
    row_valid tokens rows n frame (suc n + j) q op given s chained (sym (get_drop (suc n) j rows) ∙ here) in_n in_frame st in
    let ends : EndsRows n count rest = λ j q op given here in_n st last.
    rows_end tokens rows n frame (suc n + j) q op given s chained (sym (get_drop (suc n) j rows) ∙ here) in_n st last in
    let same : suc n ≡ n + 1 = omega arith in
    let made : List Abs → TextDef = λ c. record { frame = frame; code = c } in
    let valid : IsFunction (made code) = record {
      frame = (proper.1, proper.2);
      ending = code_ends file n (n + 1) count (start n frame) rest refl chained ends (omega arith) (omega (arith, some));
      instructions = all_each (IsInstruction frame count) code (code_each (IsInstruction frame count) file n (n + 1) frame (start n frame) rest refl refl chained holds);
    } in
    subst (λ k. IsFunction (made (code_of file n (drop k rows)))) same valid
