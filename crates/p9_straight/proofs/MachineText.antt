-- The bytes of code are its instructions, at the start of the text and on.
use Rattle.std.proofs.Common.{◌≡◌, ℕ, ◌+◌, ◌-◌, ◌*◌, ◌/◌, ◌%◌, ◌^◌, ◌<◌, ◌≤◌, lit<, List, [], ◌∷◌, ◌++◌, length, slice_index, append_assoc, length-append, Option, Some, None, refl, sym, ap, ◌∙◌, subst, arith}
use Rattle.std.specs.Prelude.{Contains, flat_map}
use Rattle.std.proofs.lemmas.List.{get_or-append-add}
use Rattle.p9_base.specs.Numbers.{word_at, word_bytes}
use Rattle.p9_r3k.specs.declared.inst.Inst.{Inst}
use Rattle.p9_r3k.specs.declared.inst.Inst.TheVariants.{Addiu, Lw, Sw, Addu}
use Rattle.p9_r3k.specs.Memory.{text_start}
use Rattle.p9_r3k.specs.Table.{Fits, word_of}
use Rattle.p9_form.specs.declared.file.Operand.{Operand}
use Rattle.p9_form.specs.declared.file.Operand.TheVariants.{Variable, Number}
use Rattle.p9_form.specs.declared.file.Statement.{Statement}
use Rattle.p9_form.specs.declared.file.Statement.TheVariants.{Assign, Write, Exits}
use Rattle.p9_form.specs.Sharing.{named_by, names_in}
use Rattle.p9_straight.specs.Code.{nothing, set_register, load_operand, system_call, store_code, exit_code, statement_code, text_after, statements_code, main_code, code_bytes}
use Rattle.p9_straight.proofs.Placed.{HasItsText, AreTexts}
use Rattle.p9_straight.proofs.MachineCode.{Follows}
use Rattle.p9_straight.proofs.MachineTurns.{IsFitOperand, IsFit, AreFit, AreIn, in_front, in_back, in_first}

-- the fields of an instruction fit, and its word is one
abbrev pub HasWord : Inst → Type 0
HasWord i = Fits i × (word_of i < 2 ^ 32)

abbrev pub HaveWords : List Inst → Type 0
HaveWords [] = Unit {0}
HaveWords (i ∷ is) = HasWord i × HaveWords is

have_both : (xs ys : List Inst) → HaveWords xs → HaveWords ys → HaveWords (xs ++ ys)
have_both [] ys h k = k
have_both (x ∷ xs) ys h k = (h.0, have_both xs ys h.1 k)

-- Where the instructions lie

pub code_size : (is : List Inst) → length (code_bytes is) ≡ 4 * length is
code_size [] = refl
code_size (i ∷ is) =
    let e : length (word_bytes (word_of i) ++ code_bytes is) ≡ length (word_bytes (word_of i)) + length (code_bytes is) = length-append (word_bytes (word_of i)) (code_bytes is) in
    let f : length (code_bytes is) ≡ 4 * length is = code_size is in
    let g : length (word_bytes (word_of i)) ≡ 4 = refl in
    let l : length (i ∷ is) ≡ 1 + length is = omega arith in
    omega (arith, e, f, g, l)

word_back : (front rest : List ℕ) (w : ℕ) → w < 2 ^ 32 → word_at (front ++ (word_bytes w ++ rest)) (length front) ≡ w
word_back front rest w small =
    let all : List ℕ = word_bytes w ++ rest in
    let z : length front ≡ length front + 0 = omega arith in
    let a : slice_index (front ++ all) (length front) ≡ w / 2 ^ 24 % 2 ^ 8 = ap (λ k. slice_index (front ++ all) k) z ∙ get_or-append-add front all 0 0 in
    let b : slice_index (front ++ all) (length front + 1) ≡ w / 2 ^ 16 % 2 ^ 8 = get_or-append-add front all 1 0 in
    let c : slice_index (front ++ all) (length front + 2) ≡ w / 2 ^ 8 % 2 ^ 8 = get_or-append-add front all 2 0 in
    let d : slice_index (front ++ all) (length front + 3) ≡ w % 2 ^ 8 = get_or-append-add front all 3 0 in
    rw (a, b, c, d) (parts w small)
  where
    parts : (v : ℕ) → v < 2 ^ 32 → (v / 2 ^ 24 % 2 ^ 8) * 2 ^ 24 + (v / 2 ^ 16 % 2 ^ 8) * 2 ^ 16 + (v / 2 ^ 8 % 2 ^ 8) * 2 ^ 8 + v % 2 ^ 8 ≡ v
    parts v small = omega arith

follows_behind : (front : List ℕ) (is : List Inst) → length front % 4 ≡ 0 → length (front ++ code_bytes is) ≤ 2 ^ 25 → HaveWords is → Follows (front ++ code_bytes is) (text_start + length front) is
follows_behind front [] aligned small words = tt
follows_behind front (i ∷ is) aligned small words =
    let own : List ℕ = word_bytes (word_of i) in
    let text : List ℕ = front ++ (own ++ code_bytes is) in
    let size : length text ≡ length front + length (own ++ code_bytes is) = length-append front (own ++ code_bytes is) in
    let four : length own ≡ 4 = refl in
    let more : length (own ++ code_bytes is) ≡ length own + length (code_bytes is) = length-append own (code_bytes is) in
    let longer : length (front ++ own) ≡ length front + length own = length-append front own in
    let same : (front ++ own) ++ code_bytes is ≡ text = append_assoc front own (code_bytes is) in
    let place : text_start + length front - text_start ≡ length front = omega arith in
    let next : text_start + length (front ++ own) ≡ text_start + length front + 4 = omega (arith, longer, four) in
    let rest : Follows ((front ++ own) ++ code_bytes is) (text_start + length (front ++ own)) is =
    follows_behind (front ++ own) is (omega (arith, longer, four, aligned)) (subst (λ (t : List ℕ). length t ≤ 2 ^ 25) (sym same) small) words.1 in (
      record {
        aligned = omega (arith, aligned);
        from = omega arith;
        to = omega (arith, size, more, four);
        small = small;
        word = ap (λ k. word_at text k) place ∙ word_back front (code_bytes is) (word_of i) words.0.1;
        fits = words.0.0;
      },
      subst (λ (t : List ℕ). Follows t (text_start + length front + 4) is) same (subst (λ p. Follows ((front ++ own) ++ code_bytes is) p is) next rest),
    )

-- the text is code from its start on
pub follows_all : (is : List Inst) → length is ≤ 2 ^ 22 → HaveWords is → Follows (code_bytes is) text_start is
follows_all is few words =
    let size : length (code_bytes is) ≡ 4 * length is = code_size is in
    follows_behind [] is refl (omega (arith, size, few)) words

-- The instructions of `main` fit

immediate_word : (op s t v : ℕ) → op < 64 → s < 32 → t < 32 → v < 2 ^ 16 → op * 2 ^ 26 + s * 2 ^ 21 + t * 2 ^ 16 + v < 2 ^ 32
immediate_word op s t v h i j k = omega arith

set_words : (r v : ℕ) → r < 32 → v < 2 ^ 32 → HaveWords (set_register r v)
set_words r v h small =
    let high : v / 65536 < 2 ^ 16 = omega arith in
    let less : v % 65536 < 2 ^ 16 = omega arith in
    (((h, high), immediate_word 15 0 r (v / 65536) (lit< tt) (lit< tt) h high), (((h, h, less), immediate_word 13 r r (v % 65536) (lit< tt) h h less), tt))

-- addresses of variables are words
abbrev pub ArePlaces : (place : List ℕ → ℕ) (names : List (List ℕ)) → Type 0
ArePlaces place names = (x : List ℕ) → Contains names x → place x < 2 ^ 32

load_words : (place : List ℕ → ℕ) (names : List (List ℕ)) (r : ℕ) (operand : Operand) → r < 32 → ArePlaces place names → AreIn names (named_by operand) → IsFitOperand operand → HaveWords (load_operand place r operand)
load_words place names r (Variable x) h places known fit =
    have_both (set_register r (place x)) (Lw r r 0 ∷ nothing ∷ []) (set_words r (place x) h (places x (in_first names x [] known)))
    (((h, h, lit< tt), immediate_word 35 r r 0 (lit< tt) h h (lit< tt)), (((lit< tt, lit< tt, lit< tt), lit< tt), tt))
load_words place names r (Number n) h places known fit = set_words r n h (omega (arith, fit))

store_words : (place : List ℕ → ℕ) (names : List (List ℕ)) (x : List ℕ) → ArePlaces place names → Contains names x → HaveWords (store_code place x)
store_words place names x places known =
    have_both (set_register 4 (place x)) (Sw 4 2 0 ∷ []) (set_words 4 (place x) (lit< tt) (places x known)) (((lit< tt, lit< tt, lit< tt), lit< tt), tt)

exit_words : (at : ℕ) → at < 2 ^ 32 → HaveWords (exit_code at)
exit_words at small =
    have_both (set_register 2 at) (Sw 29 2 4 ∷ system_call 8) (set_words 2 at (lit< tt) small)
    (((lit< tt, lit< tt, lit< tt), lit< tt), (((lit< tt, lit< tt, lit< tt), lit< tt), ((lit< tt, lit< tt), tt)))

assign_words : (place : List ℕ → ℕ) (names : List (List ℕ)) (at : ℕ) (x : List ℕ) (left : Operand) (right : Option Operand) → ArePlaces place names → AreIn names (names_in (Assign x left right)) → IsFit (Assign x left right) → HaveWords (statement_code place at (Assign x left right))
assign_words place names at x left None places known fit =
    let others : AreIn names (named_by left ++ []) = in_back names (x ∷ []) (named_by left ++ []) known in
    have_both (load_operand place 2 left) (store_code place x)
    (load_words place names 2 left (lit< tt) places (in_front names (named_by left) [] others) fit.0)
    (store_words place names x places (in_first names x (named_by left ++ []) known))
assign_words place names at x left (Some right) places known fit =
    let others : AreIn names (named_by left ++ named_by right) = in_back names (x ∷ []) (named_by left ++ named_by right) known in
    have_both (load_operand place 2 left) (load_operand place 3 right ++ (Addu 2 3 2 ∷ store_code place x))
    (load_words place names 2 left (lit< tt) places (in_front names (named_by left) (named_by right) others) fit.0)
    (have_both (load_operand place 3 right) (Addu 2 3 2 ∷ store_code place x)
    (load_words place names 3 right (lit< tt) places (in_back names (named_by left) (named_by right) others) fit.1)
    (((lit< tt, lit< tt, lit< tt), lit< tt), store_words place names x places (in_first names x (named_by left ++ named_by right) known)))

write_words : (place : List ℕ → ℕ) (names : List (List ℕ)) (at : ℕ) (text : List ℕ) (count : Operand) → ArePlaces place names → AreIn names (named_by count) → IsFitOperand count → at < 2 ^ 32 → HaveWords (statement_code place at (Write text count))
write_words place names at text count places known fit small =
    let three : HaveWords (Sw 29 3 8 ∷ Sw 29 2 12 ∷ system_call 20) =
    (((lit< tt, lit< tt, lit< tt), lit< tt), (((lit< tt, lit< tt, lit< tt), lit< tt), (((lit< tt, lit< tt, lit< tt), lit< tt), ((lit< tt, lit< tt), tt)))) in
    have_both (load_operand place 2 count) (Addiu 0 3 1 ∷ Sw 29 3 4 ∷ (set_register 3 at ++ (Sw 29 3 8 ∷ Sw 29 2 12 ∷ system_call 20)))
    (load_words place names 2 count (lit< tt) places known fit) (
      ((lit< tt, lit< tt, lit< tt), lit< tt),
      (
        ((lit< tt, lit< tt, lit< tt), lit< tt),
        have_both (set_register 3 at) (Sw 29 3 8 ∷ Sw 29 2 12 ∷ system_call 20) (set_words 3 at (lit< tt) small) three,
      ),
    )

statement_words : (place : List ℕ → ℕ) (names : List (List ℕ)) (begin : ℕ) (init : List ℕ) (at : ℕ) (s : Statement) → ArePlaces place names → begin + length init ≤ 2 ^ 32 → HasItsText place names begin init at s → AreIn names (names_in s) → IsFit s → HaveWords (statement_code place at s)
statement_words place names begin init at (Assign x left right) places small text known fit = assign_words place names at x left right places known fit
statement_words place names begin init at (Write text count) places small is known fit =
    write_words place names at text count places known fit.1 (omega (arith, is.within, small))
statement_words place names begin init at (Exits None) places small text known fit =
    (((lit< tt, lit< tt, lit< tt), lit< tt), (((lit< tt, lit< tt, lit< tt), lit< tt), ((lit< tt, lit< tt), tt)))
statement_words place names begin init at (Exits (Some text)) places small is known fit = exit_words at (omega (arith, is.within, small))

statements_words : (place : List ℕ → ℕ) (names : List (List ℕ)) (begin : ℕ) (init : List ℕ) (at end : ℕ) (ss : List Statement) → ArePlaces place names → begin + length init ≤ 2 ^ 32 → AreTexts place names begin init at end ss → AreIn names (flat_map names_in ss) → AreFit ss → HaveWords (statements_code place at end ss)
statements_words place names begin init at end [] places small texts known fit = exit_words end (omega (arith, texts.within, small))
statements_words place names begin init at end (s ∷ ss) places small texts known fit =
    have_both (statement_code place at s) (statements_code place (text_after at s) end ss)
    (statement_words place names begin init at s places small texts.0 (in_front names (names_in s) (flat_map names_in ss) known) fit.0)
    (statements_words place names begin init (text_after at s) end ss places small texts.1 (in_back names (names_in s) (flat_map names_in ss) known) fit.1)

pub main_words : (place : List ℕ → ℕ) (names : List (List ℕ)) (begin : ℕ) (init : List ℕ) (at end : ℕ) (ss : List Statement) → ArePlaces place names → begin + length init ≤ 2 ^ 32 → AreTexts place names begin init at end ss → AreIn names (flat_map names_in ss) → AreFit ss → HaveWords (main_code place at end ss)
main_words place names begin init at end ss places small texts known fit =
    (((lit< tt, lit< tt, lit< tt), lit< tt), statements_words place names begin init at end ss places small texts known fit)
