-- A file without breaks: what each of its lines keeps.
use Rattle.std.proofs.Common.{◌≡◌, ℕ, zero, suc, ◌+◌, Bool, true, false, ◌||◌, cond, List, [], ◌∷◌, Option, Some, None, slice_get, refl, subst, arith}
use Rattle.std.specs.Option.{option_or}
use Rattle.std.specs.List.{list_any}
use Rattle.p9_lex.specs.declared.token.Token.{Token}
use Rattle.p9_statement.specs.declared.statements.Line.{Line}
use Rattle.p9_rows.specs.declared.rows.Place.{Place}
use Rattle.p9_rows.specs.declared.rows.Row.{Row}
use Rattle.p9_rows.specs.Rows.{rows_of, lexemes_of, before_all}
use Rattle.p9_facts.specs.Names.{names_of_statement}
use Rattle.p9_asm.specs.declared.breaks.Break.{Break}
use Rattle.p9_asm.specs.declared.breaks.Break.TheVariants.{Syntax}
use Rattle.p9_asm.specs.Files.{File, file_of, statement_in}
use Rattle.p9_asm.specs.Breaks.{is_broken, is_label_outside, reserved_in, label_twice, shown_by, shown, is_undefined, is_unended, names_nothing, no_label, unfinished_by, unfinished}
use Rattle.p9_asm.specs.Assembled.{broken_at, first_by, first_break}
use Rattle.p9_asm.proofs.Options.{Each}
use Rattle.p9_asm.proofs.Saying.{label_in}
use Rattle.p9_asm.proofs.Spelled.{HasNames, IsProperRow, rows_proper}
use Rattle.p9_asm.proofs.Chained.{IsChained, rows_chained}

pub record IsClean (file : File) (index : ℕ) (row : Row) : Type 0 where
  pub unbroken : is_broken file index row.place (statement_in row.content) ≡ false
  pub unreserved : reserved_in (statement_in row.content) ≡ None
  pub ended : is_unended file index row.place (statement_in row.content) ≡ false
  pub defined : list_any (is_undefined file) (names_of_statement (statement_in row.content)) ≡ false
  pub labelled : no_label file row.place.function (statement_in row.content) ≡ None
  pub named : names_nothing file row.place (label_in row.content) ≡ false

pub or_parts : (a b : Bool) → (a || b) ≡ false → (a ≡ false) × (b ≡ false)
or_parts true b h = absurd (cc)
or_parts false b h = (refl, h)

pub none_parts : {A : Type 0} (o p : Option A) → option_or o p ≡ None → (o ≡ None) × (p ≡ None)
none_parts None p h = (refl, h)
none_parts (Some x) p h = absurd (cc)

not_syntax : (b : Bool) (o : Option Break) → cond b (Some Syntax) o ≡ None → (b ≡ false) × (o ≡ None)
not_syntax true o h = absurd (cc)
not_syntax false o h = (refl, h)

abbrev IsCleanBy : File → ℕ → Place → Option Line → Type 0
IsCleanBy file index place content =
    (is_broken file index place (statement_in content) ≡ false) × (reserved_in (statement_in content) ≡ None)
    × (is_unended file index place (statement_in content) ≡ false) × (list_any (is_undefined file) (names_of_statement (statement_in content)) ≡ false)
    × (no_label file place.function (statement_in content) ≡ None) × (names_nothing file place (label_in content) ≡ false)

clean_by : (file : File) (index : ℕ) (place : Place) (content : Option Line) → shown_by file index place content ≡ None → unfinished_by file index place content ≡ None → IsCleanBy file index place content
clean_by file index place None h k = absurd (cc)
clean_by file index place (Some line) h k =
    let a = not_syntax (is_label_outside line.label place.function || is_broken file index place line.statement) (option_or (reserved_in line.statement) (label_twice file index line.label place.function)) h in
    let b = or_parts (is_label_outside line.label place.function) (is_broken file index place line.statement) a.0 in
    let c = none_parts (reserved_in line.statement) (label_twice file index line.label place.function) a.1 in
    let d = not_syntax (names_nothing file place line.label || (is_unended file index place line.statement || list_any (is_undefined file) (names_of_statement line.statement))) (no_label file place.function line.statement) k in
    let e = or_parts (names_nothing file place line.label) (is_unended file index place line.statement || list_any (is_undefined file) (names_of_statement line.statement)) d.0 in
    let f = or_parts (is_unended file index place line.statement) (list_any (is_undefined file) (names_of_statement line.statement)) e.1 in
    (b.1, c.0, f.0, f.1, d.1, e.0)

clean_row : (file : File) (index : ℕ) (row : Row) → shown file index row ≡ None → unfinished file index row ≡ None → IsClean file index row
unfolding shown unfinished
clean_row file index row h k =
    let c = clean_by file index row.place row.content h k in
    record { unbroken = c.0; unreserved = c.1; ended = c.2; defined = c.3; labelled = c.4; named = c.5 }

no_break : (row : Row) (b : Option Break) → broken_at row b ≡ None → b ≡ None
no_break row None h = refl
no_break row (Some b) h = absurd (cc)

none_broken : (check : ℕ → Row → Option Break) (i m : ℕ) (rows : List Row) (n : ℕ) (r : Row) → first_by check i rows ≡ None → i + n ≡ m → slice_get rows n ≡ Some r → check m r ≡ None
none_broken check i m [] n r h e at = absurd (cc)
none_broken check i m (x ∷ xs) zero r h e at =
    let same : x ≡ r = cc in
    let parts = none_parts (broken_at x (check i x)) (first_by check (i + 1) xs) h in
    let here : i ≡ m = omega (arith, e) in
    subst (λ y. check m y ≡ None) same (subst (λ k. check k x ≡ None) here (no_break x (check i x) parts.0))
none_broken check i m (x ∷ xs) (suc n) r h e at =
    let parts = none_parts (broken_at x (check i x)) (first_by check (i + 1) xs) h in
    none_broken check (i + 1) m xs n r parts.1 (omega (arith, e)) at

-- Files without breaks

pub record IsSound (tokens : List Token) (rows : List Row) : Type 0 where
  pub proper : Each (IsProperRow tokens) rows
  pub chained : IsChained 0 before_all rows
  pub clean : (n : ℕ) (r : Row) → slice_get rows n ≡ Some r → IsClean (file_of rows) n r

pub sound : (tokens : List Token) → HasNames tokens → first_break (file_of (rows_of (lexemes_of tokens))) ≡ None → IsSound tokens (rows_of (lexemes_of tokens))
sound tokens names h =
    let rows = rows_of (lexemes_of tokens) in
    let file = file_of rows in
    let parts = none_parts (first_by (shown file) 0 rows) (first_by (unfinished file) 0 rows) h in
    record {
      proper = rows_proper tokens names;
      chained = rows_chained (lexemes_of tokens);
      clean = λ n r at. clean_row file n r (none_broken (shown file) 0 n rows n r parts.0 (omega arith) at) (none_broken (unfinished file) 0 n rows n r parts.1 (omega arith) at);
    }
