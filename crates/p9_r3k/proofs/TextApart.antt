-- What touches data and stack alone is the same with the text and without.
use Rattle.std.proofs.Common.{ℕ, zero, suc, ◌+◌, ◌-◌, ◌%◌, ◌==◌, ◌≡◌, ◌≤◌, ◌<◌, ◌||◌, nat_lt, nat_le, Bool, true, false, not, Ok, Err, refl, sym, ap, ◌∙◌, subst, arith, if◌then◌else◌, [], position}
use Rattle.std.proofs.lemmas.Bool.Decides.{nat_tests}
use Rattle.p9_base.specs.Words.{is_negative, word_sum}
use Rattle.p9_base.specs.Numbers.{sign_extended}
use Rattle.p9_base.specs.declared.halt.HaltCause.{HaltCause}
use Rattle.p9_base.specs.declared.halt.HaltCause.TheVariants as halts
use Rattle.p9_base.specs.declared.halt.Effect.{Effect}
use Rattle.p9_base.specs.declared.halt.Effect.TheVariants as effects
use Rattle.p9_base.specs.declared.halt.Asked.{Asked}
use Rattle.p9_base.specs.declared.halt.Asked.TheVariants as asks
use Rattle.p9_base.specs.Core.{Core, text_start, stack_start, stack_end, low_end, reg, readable, read_byte, read_half, read_word, bytes_from}
use Rattle.p9_base.specs.Effects.{address, load_byte, load_half, load_word}
use Rattle.p9_base.specs.SystemCalls.{argument, then_one, then_three, exits_of, asked_exits, asked_read, asked_write, asked}
use Rattle.p9_r3k.specs.declared.inst.Inst.{Inst}
use Rattle.p9_r3k.specs.declared.inst.Inst.TheVariants.{J, Jal, Beq, Bne, Blez, Bgtz, Bltz, Bgez, Bltzal, Bgezal, Addi, Addiu, Slti, Sltiu, Andi, Ori, Xori, Lui, Lb, Lh, Lw, Lbu, Lhu, Sb, Sh, Sw, Sll, Srl, Sra, Sllv, Srlv, Srav, Jr, Jalr, Syscall, Break, Mfhi, Mthi, Mflo, Mtlo, Mult, Multu, Div, Divu, Add, Addu, Sub, Subu, And, Or, Xor, Nor, Slt, Sltu}
use Rattle.p9_r3k.specs.Effects.{effect_of}
use Rattle.p9_r3k.specs.UseLaws.{with_text_end, without_text, NoStop, NoStopAsked}

-- How much may be read

-- where something may be read without a text, as much may be read with one
pub readable-apart : (e start low a n : ℕ) → e ≤ start → 0 < n →
    n ≤ (if nat_lt a text_start then 0 else
    if nat_lt a text_start then (if text_start == start then low - a else text_start - a) else
    if nat_lt a start then 0 else
    if nat_lt a low then low - a else
    if nat_lt a stack_start then 0 else
    if nat_lt a stack_end then stack_end - a else 0) →
    (if nat_lt a text_start then 0 else
    if nat_lt a e then (if e == start then low - a else e - a) else
    if nat_lt a start then 0 else
    if nat_lt a low then low - a else
    if nat_lt a stack_start then 0 else
    if nat_lt a stack_end then stack_end - a else 0)
    ≡ (if nat_lt a text_start then 0 else
    if nat_lt a text_start then (if text_start == start then low - a else text_start - a) else
    if nat_lt a start then 0 else
    if nat_lt a low then low - a else
    if nat_lt a stack_start then 0 else
    if nat_lt a stack_end then stack_end - a else 0)
readable-apart e start low a n below some h = grind (arith, nat_tests)

pub readable-same : (c : Core) (e a n : ℕ) → e ≤ c.data_start → 0 < n → n ≤ readable (without_text c) a →
    readable (with_text_end e c) a ≡ readable (without_text c) a
readable-same c e a n below some h = readable-apart e c.data_start (low_end c) a n below some h

pub at_most : (a b : ℕ) → nat_le a b ≡ true → a ≤ b
at_most a b h = grind (arith, nat_tests)

-- Loads

allowed : (b : Bool) (r v : ℕ) (cause : HaltCause) → NoStop (if b then effects.Load r v else effects.Stop cause) → b ≡ true
allowed true r v cause h = refl
allowed false r v cause h = absurd h

-- n bytes from a are loaded
load-same : (c : Core) (e a n r v : ℕ) → e ≤ c.data_start → 0 < n →
    NoStop (if nat_le n (readable (without_text c) a) then effects.Load r v else effects.Stop (halts.BadAddress a)) →
    (let x : Effect = (if nat_le n (readable (with_text_end e c) a) then effects.Load r v else effects.Stop (halts.BadAddress a)) in
    let y : Effect = (if nat_le n (readable (without_text c) a) then effects.Load r v else effects.Stop (halts.BadAddress a)) in
    x ≡ y)
load-same c e a n r v below some h =
    let ok : nat_le n (readable (without_text c) a) ≡ true =
    allowed (nat_le n (readable (without_text c) a)) r v (halts.BadAddress a) h in
    ap (λ m. if nat_le n m then effects.Load r v else effects.Stop (halts.BadAddress a))
    (readable-same c e a n below some (at_most n (readable (without_text c) a) ok))

aligned-same : (b : Bool) (x y : Effect) (cause : HaltCause) → (NoStop y → x ≡ y) →
    NoStop (if b then y else effects.Stop cause) →
    (let p : Effect = (if b then x else effects.Stop cause) in
    let q : Effect = (if b then y else effects.Stop cause) in p ≡ q)
aligned-same true x y cause f h = f h
aligned-same false x y cause f h = absurd h

load_byte-same : (c : Core) (e r a : ℕ) (f : ℕ → ℕ) → e ≤ c.data_start →
    NoStop (load_byte (without_text c) r a f) → load_byte (with_text_end e c) r a f ≡ load_byte (without_text c) r a f
load_byte-same c e r a f below h = load-same c e a 1 r (f (read_byte c a)) below (omega arith) h

load_half-same : (c : Core) (e r a : ℕ) (f : ℕ → ℕ) → e ≤ c.data_start →
    NoStop (load_half (without_text c) r a f) → load_half (with_text_end e c) r a f ≡ load_half (without_text c) r a f
load_half-same c e r a f below h =
    aligned-same (a % 2 == 0)
    (if nat_le 2 (readable (with_text_end e c) a) then effects.Load r (f (read_half c a)) else effects.Stop (halts.BadAddress a))
    (if nat_le 2 (readable (without_text c) a) then effects.Load r (f (read_half c a)) else effects.Stop (halts.BadAddress a))
    (halts.Misaligned a) (load-same c e a 2 r (f (read_half c a)) below (omega arith)) h

load_word-same : (c : Core) (e r a : ℕ) → e ≤ c.data_start →
    NoStop (load_word (without_text c) r a) → load_word (with_text_end e c) r a ≡ load_word (without_text c) r a
load_word-same c e r a below h =
    aligned-same (a % 4 == 0)
    (if nat_le 4 (readable (with_text_end e c) a) then effects.Load r (read_word c a) else effects.Stop (halts.BadAddress a))
    (if nat_le 4 (readable (without_text c) a) then effects.Load r (read_word c a) else effects.Stop (halts.BadAddress a))
    (halts.Misaligned a) (load-same c e a 4 r (read_word c a) below (omega arith)) h

-- Instructions

pub same_with_text : (i : Inst) (c : Core) (e : ℕ) → e ≤ c.data_start →
    NoStop (effect_of i (without_text c)) → effect_of i (with_text_end e c) ≡ effect_of i (without_text c)
same_with_text (J index) c e below h = refl
same_with_text (Jal index) c e below h = refl
same_with_text (Beq rs rt imm) c e below h = refl
same_with_text (Bne rs rt imm) c e below h = refl
same_with_text (Blez rs imm) c e below h = refl
same_with_text (Bgtz rs imm) c e below h = refl
same_with_text (Bltz rs imm) c e below h = refl
same_with_text (Bgez rs imm) c e below h = refl
same_with_text (Bltzal rs imm) c e below h = refl
same_with_text (Bgezal rs imm) c e below h = refl
same_with_text (Addi rs rt imm) c e below h = refl
same_with_text (Addiu rs rt imm) c e below h = refl
same_with_text (Slti rs rt imm) c e below h = refl
same_with_text (Sltiu rs rt imm) c e below h = refl
same_with_text (Andi rs rt imm) c e below h = refl
same_with_text (Ori rs rt imm) c e below h = refl
same_with_text (Xori rs rt imm) c e below h = refl
same_with_text (Lui rt imm) c e below h = refl
same_with_text (Lb rs rt imm) c e below h = load_byte-same c e rt (address c rs imm) (λ b. sign_extended 8 b) below h
same_with_text (Lh rs rt imm) c e below h = load_half-same c e rt (address c rs imm) (λ b. sign_extended 16 b) below h
same_with_text (Lw rs rt imm) c e below h = load_word-same c e rt (address c rs imm) below h
same_with_text (Lbu rs rt imm) c e below h = load_byte-same c e rt (address c rs imm) (λ b. b) below h
same_with_text (Lhu rs rt imm) c e below h = load_half-same c e rt (address c rs imm) (λ b. b) below h
same_with_text (Sb rs rt imm) c e below h = refl
same_with_text (Sh rs rt imm) c e below h = refl
same_with_text (Sw rs rt imm) c e below h = refl
same_with_text (Sll rt rd sh) c e below h = refl
same_with_text (Srl rt rd sh) c e below h = refl
same_with_text (Sra rt rd sh) c e below h = refl
same_with_text (Sllv rs rt rd) c e below h = refl
same_with_text (Srlv rs rt rd) c e below h = refl
same_with_text (Srav rs rt rd) c e below h = refl
same_with_text (Jr rs) c e below h = refl
same_with_text (Jalr rs rd) c e below h = refl
same_with_text (Syscall code) c e below h = refl
same_with_text (Break code) c e below h = refl
same_with_text (Mfhi rd) c e below h = refl
same_with_text (Mthi rs) c e below h = refl
same_with_text (Mflo rd) c e below h = refl
same_with_text (Mtlo rs) c e below h = refl
same_with_text (Mult rs rt) c e below h = refl
same_with_text (Multu rs rt) c e below h = refl
same_with_text (Div rs rt) c e below h = refl
same_with_text (Divu rs rt) c e below h = refl
same_with_text (Add rs rt rd) c e below h = refl
same_with_text (Addu rs rt rd) c e below h = refl
same_with_text (Sub rs rt rd) c e below h = refl
same_with_text (Subu rs rt rd) c e below h = refl
same_with_text (And rs rt rd) c e below h = refl
same_with_text (Or rs rt rd) c e below h = refl
same_with_text (Xor rs rt rd) c e below h = refl
same_with_text (Nor rs rt rd) c e below h = refl
same_with_text (Slt rs rt rd) c e below h = refl
same_with_text (Sltu rs rt rd) c e below h = refl

-- System calls

word-same : (b d : Bool) (r q a v : ℕ) (go went : ℕ → Asked) → nat_le 4 r ≡ d → (d ≡ true → q ≡ r) →
    ((w : ℕ) → NoStopAsked (went w) → go w ≡ went w) →
    NoStopAsked (then_one (if b then (if d then Ok v else Err (halts.BadAddress (a + r))) else Err (halts.Misaligned a)) went) →
    then_one (if b then (if nat_le 4 q then Ok v else Err (halts.BadAddress (a + q))) else Err (halts.Misaligned a)) go
    ≡ then_one (if b then (if d then Ok v else Err (halts.BadAddress (a + r))) else Err (halts.Misaligned a)) went
word-same false d r q a v go went e same f h = absurd h
word-same true false r q a v go went e same f h = absurd h
word-same true true r q a v go went e same f h =
    let e2 : nat_le 4 q ≡ true = ap (λ n. nat_le 4 n) (same refl) ∙ e in
    let P : Bool → Type 0 = λ x. then_one (if x then Ok v else Err (halts.BadAddress (a + q))) go ≡ went v in
    subst P (sym e2) (f v h)

argument-same : (c : Core) (e a : ℕ) (go went : ℕ → Asked) → e ≤ c.data_start →
    ((w : ℕ) → NoStopAsked (went w) → go w ≡ went w) →
    NoStopAsked (then_one (argument (without_text c) a) went) →
    then_one (argument (with_text_end e c) a) go ≡ then_one (argument (without_text c) a) went
argument-same c e a go went below f h =
    word-same (a % 4 == 0) (nat_le 4 (readable (without_text c) a)) (readable (without_text c) a) (readable (with_text_end e c) a)
    a (read_word c a) go went refl
    (λ ok. readable-same c e a 4 below (omega arith) (at_most 4 (readable (without_text c) a) ok)) f h

exits_of-same : (c : Core) (e a : ℕ) → e ≤ c.data_start → (r : ℕ) → readable (without_text c) a ≡ r →
    NoStopAsked (exits_of a r (position (λ b. b == 0) (bytes_from c a r))) →
    exits_of a (readable (with_text_end e c) a) (position (λ b. b == 0) (bytes_from c a (readable (with_text_end e c) a)))
    ≡ exits_of a r (position (λ b. b == 0) (bytes_from c a r))
exits_of-same c e a below zero all h = absurd (nothing (nat_lt a stack_start) h)
  where
    nothing : (b : Bool) → NoStopAsked (exits_of a 0 (position (λ x. x == 0) (if b then [] else []))) → ⊥
    nothing true x = x
    nothing false x = x
exits_of-same c e a below (suc r) all h =
    ap (λ n. exits_of a n (position (λ b. b == 0) (bytes_from c a n)))
    (readable-same c e a 1 below (omega arith) (omega (arith, all)) ∙ all)

asked_exits-same : (c : Core) (e a : ℕ) → e ≤ c.data_start →
    NoStopAsked (asked_exits (without_text c) a) → asked_exits (with_text_end e c) a ≡ asked_exits (without_text c) a
asked_exits-same c e a below h = by_address (a == 0) h
  where
    by_address : (b : Bool) →
        NoStopAsked (if b then asks.Exits 0 0 else exits_of a (readable (without_text c) a) (position (λ x. x == 0) (bytes_from c a (readable (without_text c) a)))) →
        (if b then asks.Exits 0 0 else exits_of a (readable (with_text_end e c) a) (position (λ x. x == 0) (bytes_from c a (readable (with_text_end e c) a))))
        ≡ (if b then asks.Exits 0 0 else exits_of a (readable (without_text c) a) (position (λ x. x == 0) (bytes_from c a (readable (without_text c) a))))
    by_address true x = refl
    by_address false x = exits_of-same c e a below (readable (without_text c) a) refl x

none_of_all : (n : ℕ) → nat_le 0 n ≡ true
none_of_all n = grind (arith, nat_tests)

written-same : (c : Core) (e a : ℕ) → e ≤ c.data_start → (n : ℕ) (b : Bool) → nat_le n (readable (without_text c) a) ≡ b →
    NoStopAsked (if b then asks.Write a n else asks.Stop (halts.BadAddress (a + readable (without_text c) a))) →
    (if nat_le n (readable (with_text_end e c) a) then asks.Write a n else asks.Stop (halts.BadAddress (a + readable (with_text_end e c) a)))
    ≡ (if b then asks.Write a n else asks.Stop (halts.BadAddress (a + readable (without_text c) a)))
written-same c e a below n false t h = absurd h
written-same c e a below zero true t h =
    ap (λ x. if x then asks.Write a 0 else asks.Stop (halts.BadAddress (a + readable (with_text_end e c) a))) (none_of_all (readable (with_text_end e c) a))
written-same c e a below (suc n) true t h =
    ap (λ x. if x then asks.Write a (suc n) else asks.Stop (halts.BadAddress (a + readable (with_text_end e c) a)))
    (ap (λ r. nat_le (suc n) r) (readable-same c e a (suc n) below (omega arith) (at_most (suc n) (readable (without_text c) a) t)) ∙ t)

asked_write-same : (c : Core) (e d a n : ℕ) → e ≤ c.data_start →
    NoStopAsked (asked_write (without_text c) d a n) → asked_write (with_text_end e c) d a n ≡ asked_write (without_text c) d a n
asked_write-same c e d a n below h = by_test (not (d == 1) || is_negative n) h
  where
    by_test : (b : Bool) →
        NoStopAsked (if b then asks.Refused else if nat_le n (readable (without_text c) a) then asks.Write a n else asks.Stop (halts.BadAddress (a + readable (without_text c) a))) →
        (if b then asks.Refused else if nat_le n (readable (with_text_end e c) a) then asks.Write a n else asks.Stop (halts.BadAddress (a + readable (with_text_end e c) a)))
        ≡ (if b then asks.Refused else if nat_le n (readable (without_text c) a) then asks.Write a n else asks.Stop (halts.BadAddress (a + readable (without_text c) a)))
    by_test true x = refl
    by_test false x = written-same c e a below n (nat_le n (readable (without_text c) a)) refl x

three-same : (c : Core) (e : ℕ) (go went : ℕ → ℕ → ℕ → Asked) → e ≤ c.data_start →
    ((d a n : ℕ) → NoStopAsked (went d a n) → go d a n ≡ went d a n) →
    NoStopAsked (then_three (without_text c) went) → then_three (with_text_end e c) go ≡ then_three (without_text c) went
three-same c e go went below f h =
    argument-same c e (word_sum (reg c 29) 4)
    (λ d. then_one (argument (with_text_end e c) (word_sum (reg c 29) 8)) (λ a. then_one (argument (with_text_end e c) (word_sum (reg c 29) 12)) (λ n. go d a n)))
    (λ d. then_one (argument (without_text c) (word_sum (reg c 29) 8)) (λ a. then_one (argument (without_text c) (word_sum (reg c 29) 12)) (λ n. went d a n)))
    below
    (λ d h1. argument-same c e (word_sum (reg c 29) 8)
    (λ a. then_one (argument (with_text_end e c) (word_sum (reg c 29) 12)) (λ n. go d a n))
    (λ a. then_one (argument (without_text c) (word_sum (reg c 29) 12)) (λ n. went d a n))
    below
    (λ a h2. argument-same c e (word_sum (reg c 29) 12) (λ n. go d a n) (λ n. went d a n) below (λ n h3. f d a n h3) h2) h1) h

pub asks_same_with_text : (c : Core) (e : ℕ) → e ≤ c.data_start →
    NoStopAsked (asked (without_text c)) → asked (with_text_end e c) ≡ asked (without_text c)
asks_same_with_text c e below h = by_number (reg c 1 == 8) (reg c 1 == 15) (reg c 1 == 20) h
  where
    by_number : (x y z : Bool) →
        NoStopAsked (if x then then_one (argument (without_text c) (word_sum (reg c 29) 4)) (asked_exits (without_text c)) else
        if y then then_three (without_text c) (asked_read (without_text c)) else
        if z then then_three (without_text c) (asked_write (without_text c)) else asks.Stop (halts.BadCall (reg c 1))) →
        (if x then then_one (argument (with_text_end e c) (word_sum (reg c 29) 4)) (asked_exits (with_text_end e c)) else
        if y then then_three (with_text_end e c) (asked_read (with_text_end e c)) else
        if z then then_three (with_text_end e c) (asked_write (with_text_end e c)) else asks.Stop (halts.BadCall (reg c 1)))
        ≡ (if x then then_one (argument (without_text c) (word_sum (reg c 29) 4)) (asked_exits (without_text c)) else
        if y then then_three (without_text c) (asked_read (without_text c)) else
        if z then then_three (without_text c) (asked_write (without_text c)) else asks.Stop (halts.BadCall (reg c 1)))
    by_number true y z i =
        argument-same c e (word_sum (reg c 29) 4) (asked_exits (with_text_end e c)) (asked_exits (without_text c)) below
        (λ w. asked_exits-same c e w below) i
    by_number false true z i =
        three-same c e (asked_read (with_text_end e c)) (asked_read (without_text c)) below (λ d a n g. refl) i
    by_number false false true i =
        three-same c e (asked_write (with_text_end e c)) (asked_write (without_text c)) below (λ d a n. asked_write-same c e d a n below) i
    by_number false false false i = absurd i
