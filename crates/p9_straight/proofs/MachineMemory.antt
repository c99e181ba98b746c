-- The variables and texts of a program in the machine's memory, and the code that reads and writes
-- variables.
use Rattle.std.proofs.Common.{◌≡◌, ◌≢◌, ℕ, ◌+◌, ◌-◌, ◌/◌, ◌%◌, ◌^◌, ◌<◌, ◌≤◌, ◌⊎◌, inl, inr, Bool, true, false, ◌&&◌, lit<, List, [], ◌∷◌, ◌++◌, length, take, drop, slice_set, refl, sym, ap, ◌∙◌, subst, arith}
use Rattle.std.specs.Prelude.{◌==◌, if◌then◌else◌, Contains}
use Rattle.std.proofs.lemmas.Bool.Decides.{nat_tests}
use Rattle.std.proofs.lemmas.List.{get_or-set_same}
use Rattle.p9_base.specs.declared.order.ByteOrder.TheVariants.{Big}
use Rattle.p9_base.specs.Numbers.{word_at}
use Rattle.p9_first.specs.Form.{same_name}
use Rattle.p9_r3k.specs.declared.inst.Inst.TheVariants.{Lw, Sw}
use Rattle.p9_r3k.specs.Memory.{text_start, with_reg, with_word_in}
use Rattle.p9_r3k.specs.Machine.{State, run}
use Rattle.p9_form.specs.declared.file.Operand.{Operand}
use Rattle.p9_form.specs.declared.file.Operand.TheVariants.{Variable, Number}
use Rattle.p9_straight.specs.Code.{set_register, load_operand, store_code, nothing}
use Rattle.p9_straight.specs.FormRun.{Values, operand_value, assigned}
use Rattle.p9_straight.proofs.Placed.{IsTextAt}
use Rattle.p9_straight.proofs.MachineSteps.{Fixed, standing, Room, step_nothing, step_lw, step_sw}
use Rattle.p9_straight.proofs.MachineBytes.{length-four, word_stored, word_apart, take_before, part_stays, AreApart}
use Rattle.p9_straight.proofs.MachineCode.{Follows, behind, follows_first, ran_none, ran_then, ran_both, sets, with_reg_is, set_twice, registers}

-- variables hold their values, and the texts of the image are in memory
pub record Memory (m : Fixed) (place : List ℕ → ℕ) (names : List (List ℕ)) (init : List ℕ) (values : Values) (low : List ℕ) : Type 0 where
  pub room : Room m low
  pub initial : m.begin + length init ≤ text_start + length low
  pub aligned : (x : List ℕ) → Contains names x → place x % 4 ≡ 0
  pub from : (x : List ℕ) → Contains names x → m.begin ≤ place x
  pub within : (x : List ℕ) → Contains names x → place x + 4 ≤ text_start + length low
  pub apart : (x y : List ℕ) → Contains names x → Contains names y → place x ≡ place y → x ≡ y
  pub variables : (x : List ℕ) → Contains names x → word_at low (place x - text_start) ≡ values x
  pub words : (x : List ℕ) → Contains names x → values x < 2 ^ 32
  pub texts : (text : List ℕ) (at : ℕ) → IsTextAt place names m.begin init text at → take (length text + 1) (drop (at - text_start) low) ≡ text ++ 0 ∷ []

-- an operand is a variable that has a place, or a number that int has
abbrev pub IsKnown : (names : List (List ℕ)) → Operand → Type 0
IsKnown names (Variable x) = Contains names x
IsKnown names (Number n) = n ≤ 2147483647

pub known_word : (m : Fixed) (place : List ℕ → ℕ) (names : List (List ℕ)) (init : List ℕ) (values : Values) (low : List ℕ) (operand : Operand) → Memory m place names init values low → IsKnown names operand → operand_value values operand < 2 ^ 32
known_word m place names init values low (Variable x) memory known = memory.words x known
known_word m place names init values low (Number n) memory known = omega (arith, known)

-- Reading

-- an operand is put into a register
pub loads : (m : Fixed) (place : List ℕ → ℕ) (names : List (List ℕ)) (init : List ℕ) (values : Values) (regs low stack : List ℕ) (pc : ℕ) (out : List ℕ) (r : ℕ) (operand : Operand) → Memory m place names init values low → IsKnown names operand → Follows m.text pc (load_operand place r operand) → 0 < r → r < length regs → run (length (load_operand place r operand)) (standing m regs low stack pc 0 out) ≡ standing m (slice_set regs r (operand_value values operand)) low stack (behind pc (load_operand place r operand)) 0 out
loads m place names init values regs low stack pc out r (Number n) memory known code some within =
    sets m regs low stack pc out r n memory.room code some within
loads m place names init values regs low stack pc out r (Variable x) memory known code some within =
    let there : List ℕ = slice_set regs r (place x) in
    let here : List ℕ = with_reg there r (values x) in
    let last : State = standing m (slice_set regs r (values x)) low stack (pc + 4 + 4 + 4 + 4) 0 out in
    ran_both (set_register r (place x)) (Lw r r 0 ∷ nothing ∷ []) (standing m regs low stack pc 0 out) (standing m there low stack (pc + 4 + 4) 0 out) last
    (sets m regs low stack pc out r (place x) memory.room (follows_first m.text pc (set_register r (place x)) (Lw r r 0 ∷ nothing ∷ []) code) some within)
    (ran_then (Lw r r 0) (nothing ∷ []) (standing m there low stack (pc + 4 + 4) 0 out) (standing m here low stack (pc + 4 + 4 + 4) r out) last
    (step_lw m there low stack (pc + 4 + 4) out r r (place x) (values x) memory.room code.1.1.0 (get_or-set_same regs r (place x) 0 within)
    (memory.aligned x known) (memory.from x known) (memory.within x known) (memory.variables x known))
    (ran_then nothing [] (standing m here low stack (pc + 4 + 4 + 4) r out) (standing m here low stack (pc + 4 + 4 + 4 + 4) 0 out) last
    (step_nothing m here low stack (pc + 4 + 4 + 4) r out memory.room code.1.1.1.0 (above r some))
    (ran_none (standing m here low stack (pc + 4 + 4 + 4 + 4) 0 out)
    ∙ ap (λ l. standing m l low stack (pc + 4 + 4 + 4 + 4) 0 out) (with_reg_is there r (values x) some ∙ set_twice regs r (place x) (values x)))))
  where
    above : (r : ℕ) → 0 < r → (0 == r) ≡ false
    above r h = grind (arith, nat_tests)

-- Writing

record BothTrue (a b : Bool) : Type 0 where
  left : a ≡ true
  right : b ≡ true

both_true : (a b : Bool) → (a && b) ≡ true → BothTrue a b
both_true true true h = record { left = refl; right = refl }
both_true true false h = cc
both_true false b h = cc

same_number : (x y : ℕ) → (x == y) ≡ true → x ≡ y
same_number x y h = grind (arith, nat_tests)

is_same : (x y : List ℕ) → same_name x y ≡ true → x ≡ y
is_same [] [] h = refl
is_same [] (y ∷ ys) h = cc
is_same (x ∷ xs) [] h = cc
is_same (x ∷ xs) (y ∷ ys) h =
    let both : BothTrue (x == y) (same_name xs ys) = both_true (x == y) (same_name xs ys) h in
    ap (λ z. z ∷ xs) (same_number x y both.left) ∙ ap (λ zs. y ∷ zs) (is_same xs ys both.right)

same_self : (x : List ℕ) → same_name x x ≡ true
same_self [] = refl
same_self (x ∷ xs) =
    let e : (x == x) ≡ true = grind (arith, nat_tests) in
    rw (e, same_self xs) refl

differs : (x y : List ℕ) → same_name y x ≡ false → y ≡ x → ⊥
differs x y h e =
    let t : same_name x x ≡ false = subst (λ z. same_name z x ≡ false) e h in
    not_both (sym (same_self x) ∙ t)
  where
    not_both : true ≡ false → ⊥
    not_both e = cc

places_apart : (begin a b : ℕ) → text_start ≤ begin → begin ≤ a → begin ≤ b → a % 4 ≡ 0 → b % 4 ≡ 0 → a ≢ b → AreApart (a - text_start) (b - text_start)
places_apart begin a b g ha hb ma mb ne = by_order (leb_cases a b)
  where
    leb_cases : (a b : ℕ) → (a ≤ b) ⊎ (b < a)
    leb_cases a b = grind arith

    by_order : (a ≤ b) ⊎ (b < a) → AreApart (a - text_start) (b - text_start)
    by_order (inl h) = inl (omega arith)
    by_order (inr h) = inr (omega arith)

variable_by : (t : Bool) (m : Fixed) (place : List ℕ → ℕ) (names : List (List ℕ)) (init : List ℕ) (values : Values) (low : List ℕ) (x : List ℕ) (n : ℕ) (y : List ℕ) → same_name y x ≡ t → Memory m place names init values low → Contains names x → n < 2 ^ 32 → Contains names y → word_at (with_word_in Big low (place x - text_start) n) (place y - text_start) ≡ (if t then n else values y)
variable_by true m place names init values low x n y e memory here small there =
    let within : place x - text_start + 4 ≤ length low = omega (arith, memory.within x here, memory.from x here, memory.room.gap) in
    ap (λ z. word_at (with_word_in Big low (place x - text_start) n) (place z - text_start)) (is_same y x e)
    ∙ word_stored low (place x - text_start) n within small
variable_by false m place names init values low x n y e memory here small there =
    let ne : place y ≢ place x = (λ p. differs x y e (memory.apart y x there here p)) in
    word_apart low (place y - text_start) (place x - text_start) n
    (places_apart m.begin (place y) (place x) (omega (arith, memory.room.gap)) (memory.from y there) (memory.from x here) (memory.aligned y there) (memory.aligned x here) ne)
    ∙ memory.variables y there

word_by : (t : Bool) (a b : ℕ) → a < 2 ^ 32 → b < 2 ^ 32 → (if t then a else b) < 2 ^ 32
word_by true a b ha hb = ha
word_by false a b ha hb = hb

text_apart : (begin p at n : ℕ) → text_start ≤ begin → begin ≤ p → begin ≤ at → (p + 4 ≤ at) ⊎ (at + n ≤ p) → (p - text_start + 4 ≤ at - text_start) ⊎ (at - text_start + n ≤ p - text_start)
text_apart begin p at n g hp ha (inl h) = inl (omega arith)
text_apart begin p at n g hp ha (inr h) = inr (omega arith)

-- a word is stored in a variable
pub memory_assigned : (m : Fixed) (place : List ℕ → ℕ) (names : List (List ℕ)) (init : List ℕ) (values : Values) (low : List ℕ) (x : List ℕ) (n : ℕ) → Memory m place names init values low → Contains names x → n < 2 ^ 32 → Memory m place names init (assigned values x n) (with_word_in Big low (place x - text_start) n)
memory_assigned m place names init values low x n memory here small =
    let size : length (with_word_in Big low (place x - text_start) n) ≡ length low =
    length-four low (place x - text_start) (n / 2 ^ 24 % 2 ^ 8) (n / 2 ^ 16 % 2 ^ 8) (n / 2 ^ 8 % 2 ^ 8) (n % 2 ^ 8) in
    let start : text_start ≤ m.begin = omega (arith, memory.room.gap) in
    record {
      room = record {
        holds = take_before low (length m.text) (place x - text_start) n (omega (arith, memory.from x here, memory.room.gap)) ∙ memory.room.holds;
        gap = memory.room.gap;
        data_within = omega (arith, size, memory.room.data_within);
        small = omega (arith, size, memory.room.small);
      };
      initial = omega (arith, size, memory.initial);
      aligned = memory.aligned;
      from = memory.from;
      within = λ y k. omega (arith, size, memory.within y k);
      apart = memory.apart;
      variables = λ y k. variable_by (same_name y x) m place names init values low x n y refl memory here small k;
      words = λ y k. word_by (same_name y x) n (values y) small (memory.words y k);
      texts = λ text at is.
          part_stays low (length text + 1) (at - text_start) (place x - text_start) n
          (text_apart m.begin (place x) at (length text + 1) start (memory.from x here) is.from (is.clear x here))
          ∙ memory.texts text at is;
    }

-- the word in register 2 is stored in a variable
pub stores : (m : Fixed) (place : List ℕ → ℕ) (names : List (List ℕ)) (init : List ℕ) (values : Values) (one two three four : ℕ) (low stack : List ℕ) (pc : ℕ) (out : List ℕ) (x : List ℕ) → Memory m place names init values low → Contains names x → Follows m.text pc (store_code place x) → run (length (store_code place x)) (standing m (registers one two three four) low stack pc 0 out) ≡ standing m (registers one two three (place x)) (with_word_in Big low (place x - text_start) two) stack (behind pc (store_code place x)) 0 out
stores m place names init values one two three four low stack pc out x memory known code =
    let last : State = standing m (registers one two three (place x)) (with_word_in Big low (place x - text_start) two) stack (pc + 4 + 4 + 4) 0 out in
    ran_both (set_register 4 (place x)) (Sw 4 2 0 ∷ []) (standing m (registers one two three four) low stack pc 0 out) (standing m (registers one two three (place x)) low stack (pc + 4 + 4) 0 out) last
    (sets m (registers one two three four) low stack pc out 4 (place x) memory.room (follows_first m.text pc (set_register 4 (place x)) (Sw 4 2 0 ∷ []) code) (lit< tt) (lit< tt))
    (ran_then (Sw 4 2 0) [] (standing m (registers one two three (place x)) low stack (pc + 4 + 4) 0 out) last last
    (step_sw m (registers one two three (place x)) low stack (pc + 4 + 4) out 4 2 (place x) two memory.room code.1.1.0 refl refl
    (memory.aligned x known) (memory.from x known) (memory.within x known))
    (ran_none last))
