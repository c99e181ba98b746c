-- The symbols that are written are found again.
use Rattle.std.proofs.Common.{◌≡◌, ◌≢◌, ◌<◌, ℕ, suc, ◌+◌, ◌%◌, true, not, eqb, List, [], ◌∷◌, ◌++◌, length, take, drop, get_or, Result, Ok, Err, IfOk, OnOk, arith, sym, refl, ap, ◌∙◌, append_assoc}
use Rattle.std.proofs.lemmas.List.{append-nil, take_more}
use Rattle.std.proofs.lemmas.List.Concat.{flat_map-append}
use Rattle.std.proofs.lemmas.List.Elements.{All-push}
use Rattle.std.specs.List.{All, Contains}
use Rattle.std.proofs.lemmas.Bool.Decides.{nat_tests}
use Rattle.std.proofs.lemmas.List.Sums.{take_while-cons}
use Rattle.std.proofs.Math.Seq.{drop-append-add, drop-append_seam}
use Rattle.p9_aout.specs.declared.format.AoutSym.{AoutSym}
use Rattle.p9_aout.specs.Symbols.{entry_bytes, symbol_bytes, name_at, symbols_at, HasWholeName, HasPlainLetter, HasWordValue}
use Rattle.p9_aout.specs.declared.format.Image.{Image}
use Rattle.p9_aout.specs.Header.{header_bytes}
use Rattle.p9_aout.specs.Spelled.{spelled, header_for, symbol_part}
use Rattle.p9_aout.proofs.Writing.{word_back}

test_other : (b : ℕ) → b ≢ 0 → not (eqb b 0) ≡ true
test_other b other = grind (arith, nat_tests)

name_back : (name rest : List ℕ) → (Contains name 0 → ⊥) → name_at (name ++ (0 ∷ rest)) ≡ name
name_back [] rest whole = take_while-cons (λ b. not (eqb b 0)) 0 rest
name_back (b ∷ name) rest whole =
    let other : b ≢ 0 = λ e. whole (0, omega arith, e) in
    let tail : Contains name 0 → ⊥ = λ (at, below, is). whole (suc at, omega arith, is) in
    take_while-cons (λ b. not (eqb b 0)) b (name ++ (0 ∷ rest))
    ∙ (rw (test_other b other) (ap (λ (bytes : List ℕ). b ∷ bytes) (name_back name rest tail)))

letter_back : (letter : ℕ) → letter < 128 → (letter % 128 + 128) % 128 ≡ letter
letter_back letter plain = omega arith

-- what one entry and then more bytes are read as
entry_back : (n : ℕ) (symbol : AoutSym) (more : List ℕ) → HasWordValue symbol → HasPlainLetter symbol → HasWholeName symbol →
    symbols_at (suc n) (entry_bytes symbol ++ more) ≡ symbol ∷ symbols_at n more
unfolding symbols_at
entry_back n symbol more fits plain whole =
    let joined : (symbol.name ++ 0 ∷ []) ++ more ≡ symbol.name ++ (0 ∷ more) = append_assoc symbol.name (0 ∷ []) more in
    rw (joined, name_back symbol.name more whole, word_back symbol.value fits, letter_back symbol.letter plain, drop-append-add symbol.name (0 ∷ more) 1) refl

pub symbols_back : (symbols : List AoutSym) (more : List ℕ) → All HasWordValue symbols → All HasPlainLetter symbols → All HasWholeName symbols →
    symbols_at (length symbols) (symbol_bytes symbols ++ more) ≡ symbols
unfolding symbols_at
symbols_back [] more fits plain whole = refl
symbols_back (symbol ∷ symbols) more fits plain whole =
    let here : entry_bytes symbol ++ symbol_bytes symbols ++ more ≡ entry_bytes symbol ++ (symbol_bytes symbols ++ more) = append_assoc (entry_bytes symbol) (symbol_bytes symbols) more in
    let first = entry_back (length symbols) symbol (symbol_bytes symbols ++ more) (fits 0 symbol (omega arith)) (plain 0 symbol (omega arith)) (whole 0 symbol (omega arith)) in
    let rest = symbols_back symbols more (λ k d h. fits (suc k) d (omega arith)) (λ k d h. plain (suc k) d (omega arith)) (λ k d h. whole (suc k) d (omega arith)) in
    ap (λ (bytes : List ℕ). symbols_at (suc (length symbols)) bytes) here ∙ first ∙ ap (λ (found : List AoutSym). symbol ∷ found) rest

pub symbols_read_back : {E : Type 0} (answer : Result (List ℕ) E) (image : Image) → IfOk answer (λ bytes. bytes ≡ spelled image) →
    OnOk answer (All HasWordValue image.syms.items) → All HasPlainLetter image.syms.items → All HasWholeName image.syms.items →
    IfOk answer (λ bytes. symbols_at (length image.syms.items) (symbol_part image bytes) ≡ image.syms.items)
unfolding spelled
symbols_read_back (Ok bytes) image is fits plain whole =
    let head = header_bytes (header_for image) in
    let table = symbol_bytes image.syms.items in
    let part : drop (32 + (length image.text + length image.init)) (head ++ (image.text ++ (image.init ++ table))) ≡ table =
    drop-append-add head (image.text ++ (image.init ++ table)) (length image.text + length image.init)
    ∙ drop-append-add image.text (image.init ++ table) (length image.init)
    ∙ drop-append_seam image.init table in
    rw (is, part) (rw (append-nil table) at (symbols_back image.syms.items [] fits plain whole))
symbols_read_back (Err e) image is fits plain whole = tt

-- one entry more in a table
pub entries_more : (symbols : List AoutSym) (i : ℕ) (symbol : AoutSym) (table later : List ℕ) → table ≡ symbol_bytes (take i symbols) →
    i < length symbols → symbol ≡ get_or symbols i symbol → later ≡ table ++ entry_bytes symbol → later ≡ symbol_bytes (take (i + 1) symbols)
entries_more symbols i symbol table later before below is pushed =
    let taken : take (i + 1) symbols ≡ take i symbols ++ symbol ∷ [] =
    take_more symbols i symbol below ∙ ap (λ (s : AoutSym). take i symbols ++ s ∷ []) (sym is) in
    rw (pushed, before, taken, flat_map-append entry_bytes (take i symbols) (symbol ∷ [])) (sym (ap (λ (bytes : List ℕ). symbol_bytes (take i symbols) ++ bytes) (append-nil (entry_bytes symbol))))

pub words_more : (symbols : List AoutSym) (i : ℕ) (symbol : AoutSym) → All HasWordValue (take i symbols) →
    i < length symbols → symbol ≡ get_or symbols i symbol → HasWordValue symbol → All HasWordValue (take (i + 1) symbols)
words_more symbols i symbol before below is word =
    let taken : take (i + 1) symbols ≡ take i symbols ++ symbol ∷ [] =
    take_more symbols i symbol below ∙ ap (λ (s : AoutSym). take i symbols ++ s ∷ []) (sym is) in
    rw taken (All-push HasWordValue (take i symbols) symbol before word)
