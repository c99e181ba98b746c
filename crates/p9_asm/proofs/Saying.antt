-- Which statement a line has that says a fact.
use Rattle.std.proofs.Common.{◌≡◌, ℕ, ◌+◌, ◌<◌, ◌≤◌, Bool, true, false, ◌||◌, List, ◌++◌, Option, Some, None, refl, sym, ap, ◌∙◌, arith}
use Rattle.p9_statement.specs.declared.operands.SymbolName.{SymbolName}
use Rattle.p9_statement.specs.declared.statements.Arguments.{Arguments}
use Rattle.p9_statement.specs.declared.statements.Arguments.TheVariants.{Zero, One, Two, Three}
use Rattle.p9_statement.specs.declared.statements.Datum.{Datum}
use Rattle.p9_statement.specs.declared.statements.Datum.TheVariants as data_values
use Rattle.p9_statement.specs.declared.statements.Statement.{Statement}
use Rattle.p9_statement.specs.declared.statements.Statement.TheVariants as statements
use Rattle.p9_statement.specs.declared.statements.Line.{Line}
use Rattle.p9_rows.specs.declared.rows.Place.{Place}
use Rattle.p9_rows.specs.declared.rows.Row.{Row}
use Rattle.p9_facts.specs.declared.facts.Fact.{Fact}
use Rattle.p9_facts.specs.declared.facts.Fact.TheVariants.{Label, Instruction, Use}
use Rattle.p9_facts.specs.Facts.{same_fact, among, definition, signature, use_of, byte_of, symbol_in, symbol_at, used, label_facts, counted, argument_facts, arguments_facts, word_facts, datum_bytes, datum_facts, statement_facts, content_facts, says}
use Rattle.p9_facts.proofs.Noting.{same_fact_is, among_append}
use Rattle.p9_asm.specs.Files.{statement_in}
use Rattle.p9_asm.specs.Breaks.{width_of}

-- Kinds of facts

abbrev is_use : Fact → Bool
is_use (Use w l) = true
is_use _ = false

abbrev is_instruction : Fact → Bool
is_instruction (Instruction f n) = true
is_instruction _ = false

abbrev pub is_label : Fact → Bool
is_label (Label f w) = true
is_label _ = false

or_second : (a b : Bool) → (a || b) ≡ true → a ≡ false → b ≡ true
or_second true b h e = absurd (cc)
or_second false b h e = h

or_none : (a b : Bool) → a ≡ false → b ≡ false → (a || b) ≡ false
or_none true b h k = absurd (cc)
or_none false b h k = k

or_either : {P : Type 0} (a b : Bool) → (a || b) ≡ true → (a ≡ true → P) → (b ≡ true → P) → P
or_either true b h f g = f refl
or_either false b h f g = g h

pub only_one : (a q : Fact) → (same_fact a q || false) ≡ true → a ≡ q
only_one a q h = same_fact_is a q (or_either (same_fact a q) false h (λ e. e) (λ e. absurd (cc)))

neither : (q : Fact) (xs ys : List Fact) → among q xs ≡ false → among q ys ≡ false → among q (xs ++ ys) ≡ false
neither q xs ys h k = among_append q xs ys ∙ or_none (among q xs) (among q ys) h k

second : (q : Fact) (xs ys : List Fact) → among q (xs ++ ys) ≡ true → among q xs ≡ false → among q ys ≡ true
second q xs ys h e = or_second (among q xs) (among q ys) (sym (among_append q xs ys) ∙ h) e

first : (q : Fact) (xs ys : List Fact) → among q (xs ++ ys) ≡ true → among q ys ≡ false → among q xs ≡ true
first q xs ys h e = or_either (among q xs) (among q ys) (sym (among_append q xs ys) ∙ h) (λ k. k) (λ k. absurd (cc))

use_differs : (w : ℕ) (l : Bool) (q : Fact) → is_use q ≡ false → same_fact (Use w l) q ≡ false
use_differs w l (Use v k) h = absurd (cc)
use_differs w l _ h = refl

no_use : (q : Fact) → is_use q ≡ false → (o : Option SymbolName) → among q (used o) ≡ false
no_use q h None = refl
no_use q h (Some s) = or_none (same_fact (use_of s) q) false (use_differs s.word s.local q h) refl

no_argument : (q : Fact) → is_use q ≡ false → (given : Arguments) → among q (arguments_facts given) ≡ false
no_argument q h Zero = refl
no_argument q h (One a) = no_use q h (symbol_in a)
no_argument q h (Two a b) = neither q (argument_facts a) (argument_facts b) (no_use q h (symbol_in a)) (no_use q h (symbol_in b))
no_argument q h (Three a b c) =
    neither q (argument_facts a ++ argument_facts b) (argument_facts c)
    (neither q (argument_facts a) (argument_facts b) (no_use q h (symbol_in a)) (no_use q h (symbol_in b))) (no_use q h (symbol_in c))

instruction_differs : (f n : ℕ) (q : Fact) → is_instruction q ≡ false → same_fact (Instruction f n) q ≡ false
instruction_differs f n (Instruction g m) h = absurd (cc)
instruction_differs f n _ h = refl

no_count : (q : Fact) → is_instruction q ≡ false → (f : Option ℕ) (n : ℕ) → among q (counted f n) ≡ false
no_count q h None n = refl
no_count q h (Some f) n = or_none (same_fact (Instruction f n) q) false (instruction_differs f n q h) refl

label_differs : (f w : ℕ) (q : Fact) → is_label q ≡ false → same_fact (Label f w) q ≡ false
label_differs f w (Label g v) h = absurd (cc)
label_differs f w _ h = refl

no_label : (q : Fact) → is_label q ≡ false → (l f : Option ℕ) → among q (label_facts l f) ≡ false
no_label q h (Some w) (Some f) = or_none (same_fact (Label f w) q) false (label_differs f w q h) refl
no_label q h (Some w) None = refl
no_label q h None (Some f) = refl
no_label q h None None = refl

no_operation : (q : Fact) → is_use q ≡ false → is_instruction q ≡ false → (f : Option ℕ) (n : ℕ) (given : Arguments) → among q (counted f n ++ arguments_facts given) ≡ false
no_operation q h k f n given = neither q (counted f n) (arguments_facts given) (no_count q k f n) (no_argument q h given)

-- Statements that say a fact

pub same_symbol : (s t : SymbolName) → s.word ≡ t.word → s.local ≡ t.local → s ≡ t
same_symbol s t e d =
    let made : ℕ → Bool → SymbolName = λ w l. record { word = w; local = l } in
    ap (λ w. made w s.local) e ∙ ap (made t.word) d

abbrev pub Defines : SymbolName → Option Statement → Type 0
Defines s (Some (statements.Text t frame)) = t ≡ s
Defines s (Some (statements.Globl t size)) = t ≡ s
Defines s _ = ⊥

definition_is : (t s : SymbolName) → (same_fact (definition t) (definition s) || false) ≡ true → t ≡ s
definition_is t s h =
    let e = only_one (definition t) (definition s) h in
    let word : t.word ≡ s.word = cc in
    let local : t.local ≡ s.local = cc in
    same_symbol t s word local

datum_no_definition : (t s : SymbolName) (o : ℕ) (d : Datum) → among (definition s) (datum_facts t o d) ≡ false
datum_no_definition t s o (data_values.Byte v) = refl
datum_no_definition t s o (data_values.Half v) = refl
datum_no_definition t s o (data_values.Word v) = refl
datum_no_definition t s o (data_values.Address u n) = refl

statement_defines : (s : SymbolName) (place : Place) (st : Option Statement) → among (definition s) (statement_facts place st) ≡ true → Defines s st
statement_defines s place None h = absurd (cc)
statement_defines s place (Some (statements.Text t frame)) h = definition_is t s h
statement_defines s place (Some (statements.Globl t size)) h = definition_is t s h
statement_defines s place (Some (statements.Data t o d)) h = let e = datum_no_definition t s o d in absurd (cc)
statement_defines s place (Some (statements.Signature t token)) h = absurd (cc)
statement_defines s place (Some (statements.Instruction op given)) h =
    let e = no_operation (definition s) refl refl place.function place.number given in absurd (cc)

abbrev pub Signs : SymbolName → Option Statement → Type 0
Signs s (Some (statements.Signature t place)) = t ≡ s
Signs s _ = ⊥

signature_is : (t s : SymbolName) → (same_fact (signature t) (signature s) || false) ≡ true → t ≡ s
signature_is t s h =
    let e = only_one (signature t) (signature s) h in
    let word : t.word ≡ s.word = cc in
    let local : t.local ≡ s.local = cc in
    same_symbol t s word local

datum_no_signature : (t s : SymbolName) (o : ℕ) (d : Datum) → among (signature s) (datum_facts t o d) ≡ false
datum_no_signature t s o (data_values.Byte v) = refl
datum_no_signature t s o (data_values.Half v) = refl
datum_no_signature t s o (data_values.Word v) = refl
datum_no_signature t s o (data_values.Address u n) = refl

statement_signs : (s : SymbolName) (place : Place) (st : Option Statement) → among (signature s) (statement_facts place st) ≡ true → Signs s st
statement_signs s place None h = absurd (cc)
statement_signs s place (Some (statements.Text t frame)) h = absurd (cc)
statement_signs s place (Some (statements.Globl t size)) h = absurd (cc)
statement_signs s place (Some (statements.Data t o d)) h = let e = datum_no_signature t s o d in absurd (cc)
statement_signs s place (Some (statements.Signature t token)) h = signature_is t s h
statement_signs s place (Some (statements.Instruction op given)) h =
    let e = no_operation (signature s) refl refl place.function place.number given in absurd (cc)

abbrev pub Gives : SymbolName → (place : ℕ) → Option Statement → Type 0
Gives s p (Some (statements.Data t o d)) = (t ≡ s) × (o ≤ p) × (p < o + width_of d)
Gives s p _ = ⊥

byte_is : (t s : SymbolName) (o p : ℕ) → same_fact (byte_of t o) (byte_of s p) ≡ true → (t ≡ s) × (o ≡ p)
byte_is t s o p h =
    let e = same_fact_is (byte_of t o) (byte_of s p) h in
    let word : t.word ≡ s.word = cc in
    let local : t.local ≡ s.local = cc in
    let place : o ≡ p = cc in
    (same_symbol t s word local, place)

gives_at : (t s : SymbolName) (o p k width : ℕ) → k < width → (t ≡ s) × (o + k ≡ p) → (t ≡ s) × (o ≤ p) × (p < o + width)
gives_at t s o p k width lt h = (h.0, omega (arith, h.1), omega (arith, h.1, lt))

gives_first : (t s : SymbolName) (o p width : ℕ) → 0 < width → (t ≡ s) × (o ≡ p) → (t ≡ s) × (o ≤ p) × (p < o + width)
gives_first t s o p width lt h = (h.0, omega (arith, h.1), omega (arith, h.1, lt))

word_gives : (t s : SymbolName) (o p : ℕ) → among (byte_of s p) (word_facts t o) ≡ true → (t ≡ s) × (o ≤ p) × (p < o + 4)
word_gives t s o p h =
    or_either (same_fact (byte_of t o) (byte_of s p)) _ h (λ e. gives_first t s o p 4 (omega arith) (byte_is t s o p e))
    (λ k. or_either (same_fact (byte_of t (o + 1)) (byte_of s p)) _ k (λ e. gives_at t s o p 1 4 (omega arith) (byte_is t s (o + 1) p e))
    (λ k. or_either (same_fact (byte_of t (o + 2)) (byte_of s p)) _ k (λ e. gives_at t s o p 2 4 (omega arith) (byte_is t s (o + 2) p e))
    (λ k. or_either (same_fact (byte_of t (o + 3)) (byte_of s p)) false k (λ e. gives_at t s o p 3 4 (omega arith) (byte_is t s (o + 3) p e)) (λ e. absurd (cc)))))

datum_gives : (t s : SymbolName) (o p : ℕ) (d : Datum) → among (byte_of s p) (datum_bytes t o d) ≡ true → (t ≡ s) × (o ≤ p) × (p < o + width_of d)
datum_gives t s o p (data_values.Byte v) h =
    or_either (same_fact (byte_of t o) (byte_of s p)) false h (λ e. gives_first t s o p 1 (omega arith) (byte_is t s o p e)) (λ e. absurd (cc))
datum_gives t s o p (data_values.Half v) h =
    or_either (same_fact (byte_of t o) (byte_of s p)) _ h (λ e. gives_first t s o p 2 (omega arith) (byte_is t s o p e))
    (λ k. or_either (same_fact (byte_of t (o + 1)) (byte_of s p)) false k (λ e. gives_at t s o p 1 2 (omega arith) (byte_is t s (o + 1) p e)) (λ e. absurd (cc)))
datum_gives t s o p (data_values.Word v) h = word_gives t s o p h
datum_gives t s o p (data_values.Address u n) h = word_gives t s o p h

statement_gives : (s : SymbolName) (p : ℕ) (place : Place) (st : Option Statement) → among (byte_of s p) (statement_facts place st) ≡ true → Gives s p st
statement_gives s p place None h = absurd (cc)
statement_gives s p place (Some (statements.Text t frame)) h = absurd (cc)
statement_gives s p place (Some (statements.Globl t size)) h = absurd (cc)
statement_gives s p place (Some (statements.Data t o d)) h =
    datum_gives t s o p d (first (byte_of s p) (datum_bytes t o d) (used (symbol_at d)) h (no_use (byte_of s p) refl (symbol_at d)))
statement_gives s p place (Some (statements.Signature t token)) h = absurd (cc)
statement_gives s p place (Some (statements.Instruction op given)) h =
    let e = no_operation (byte_of s p) refl refl place.function place.number given in absurd (cc)

abbrev pub Counts : (function number : ℕ) → Place → Option Statement → Type 0
Counts f n place (Some (statements.Instruction op given)) = (place.function ≡ Some f) × (place.number ≡ n)
Counts f n place _ = ⊥

counted_is : (f n : ℕ) (g : Option ℕ) (m : ℕ) → among (Instruction f n) (counted g m) ≡ true → (g ≡ Some f) × (m ≡ n)
counted_is f n None m h = absurd (cc)
counted_is f n (Some g) m h =
    let e = only_one (Instruction g m) (Instruction f n) h in
    let function : g ≡ f = cc in
    let number : m ≡ n = cc in
    (ap (λ (x : ℕ). Some x) function, number)

datum_no_count : (t : SymbolName) (f n o : ℕ) (d : Datum) → among (Instruction f n) (datum_facts t o d) ≡ false
datum_no_count t f n o (data_values.Byte v) = refl
datum_no_count t f n o (data_values.Half v) = refl
datum_no_count t f n o (data_values.Word v) = refl
datum_no_count t f n o (data_values.Address u m) = refl

statement_counts : (f n : ℕ) (place : Place) (st : Option Statement) → among (Instruction f n) (statement_facts place st) ≡ true → Counts f n place st
statement_counts f n place None h = absurd (cc)
statement_counts f n place (Some (statements.Text t frame)) h = absurd (cc)
statement_counts f n place (Some (statements.Globl t size)) h = absurd (cc)
statement_counts f n place (Some (statements.Data t o d)) h = let e = datum_no_count t f n o d in absurd (cc)
statement_counts f n place (Some (statements.Signature t token)) h = absurd (cc)
statement_counts f n place (Some (statements.Instruction op given)) h =
    counted_is f n place.function place.number (first (Instruction f n) (counted place.function place.number) (arguments_facts given) h (no_argument (Instruction f n) refl given))

datum_no_label : (t : SymbolName) (f w o : ℕ) (d : Datum) → among (Label f w) (datum_facts t o d) ≡ false
datum_no_label t f w o (data_values.Byte v) = refl
datum_no_label t f w o (data_values.Half v) = refl
datum_no_label t f w o (data_values.Word v) = refl
datum_no_label t f w o (data_values.Address u m) = refl

statement_no_label : (f w : ℕ) (place : Place) (st : Option Statement) → among (Label f w) (statement_facts place st) ≡ false
statement_no_label f w place None = refl
statement_no_label f w place (Some (statements.Text t frame)) = refl
statement_no_label f w place (Some (statements.Globl t size)) = refl
statement_no_label f w place (Some (statements.Data t o d)) = datum_no_label t f w o d
statement_no_label f w place (Some (statements.Signature t token)) = refl
statement_no_label f w place (Some (statements.Instruction op given)) = no_operation (Label f w) refl refl place.function place.number given

label_is : (f w : ℕ) (l g : Option ℕ) → among (Label f w) (label_facts l g) ≡ true → (g ≡ Some f) × (l ≡ Some w)
label_is f w (Some v) (Some g) h =
    let e = only_one (Label g v) (Label f w) h in
    let function : g ≡ f = cc in
    let word : v ≡ w = cc in
    (ap (λ (x : ℕ). Some x) function, ap (λ (x : ℕ). Some x) word)
label_is f w (Some v) None h = absurd (cc)
label_is f w None (Some g) h = absurd (cc)
label_is f w None None h = absurd (cc)

-- Rows

content_says : (q : Fact) (place : Place) (content : Option Line) → is_label q ≡ false → among q (content_facts place content) ≡ true → among q (statement_facts place (statement_in content)) ≡ true
content_says q place None l h = h
content_says q place (Some line) l h =
    second q (label_facts line.label place.function) (statement_facts place line.statement) h (no_label q l line.label place.function)

pub row_defines : (s : SymbolName) (row : Row) → says (definition s) row ≡ true → Defines s (statement_in row.content)
unfolding says
row_defines s row h = statement_defines s row.place (statement_in row.content) (content_says (definition s) row.place row.content refl h)

pub row_signs : (s : SymbolName) (row : Row) → says (signature s) row ≡ true → Signs s (statement_in row.content)
unfolding says
row_signs s row h = statement_signs s row.place (statement_in row.content) (content_says (signature s) row.place row.content refl h)

pub row_gives : (s : SymbolName) (p : ℕ) (row : Row) → says (byte_of s p) row ≡ true → Gives s p (statement_in row.content)
unfolding says
row_gives s p row h = statement_gives s p row.place (statement_in row.content) (content_says (byte_of s p) row.place row.content refl h)

pub row_counts : (f n : ℕ) (row : Row) → says (Instruction f n) row ≡ true → Counts f n row.place (statement_in row.content)
unfolding says
row_counts f n row h = statement_counts f n row.place (statement_in row.content) (content_says (Instruction f n) row.place row.content refl h)

abbrev pub label_in : Option Line → Option ℕ
label_in None = None
label_in (Some line) = line.label

content_labels : (f w : ℕ) (place : Place) (content : Option Line) → among (Label f w) (content_facts place content) ≡ true → (place.function ≡ Some f) × (label_in content ≡ Some w)
content_labels f w place None h = absurd (cc)
content_labels f w place (Some line) h =
    label_is f w line.label place.function (first (Label f w) (label_facts line.label place.function) (statement_facts place line.statement) h (statement_no_label f w place line.statement))

pub row_labels : (f w : ℕ) (row : Row) → says (Label f w) row ≡ true → (row.place.function ≡ Some f) × (label_in row.content ≡ Some w)
unfolding says
row_labels f w row h = content_labels f w row.place row.content h
