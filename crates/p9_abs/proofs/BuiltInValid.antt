-- The built-in module is valid: each rule is tested, and the tests compute.
use Rattle.std.proofs.Common.{◌≡◌, ◌≢◌, ◌≤◌, ◌<◌, inl, inr, ℕ, ◌+◌, ◌%◌, ◌&&◌, ◌==◌, nat_le, nat_lt, Bool, true, false, not, Option, Some, None, IfSome, IsSome, is_some, List, [], ◌∷◌, ◌++◌, codes, length, All, AllPairs, bytes_eq, refl, sym, ap, ◌∙◌, subst, arith}
use Rattle.std.specs.Cmp.Lexicographic.{bytes_decides}
use Rattle.std.specs.List.{list_all}
use Rattle.std.proofs.lemmas.Bool.{and_parts, true≢false, ltb-true, leb-true}
use Rattle.std.proofs.lemmas.Bool.Decides.{nat_tests}
use Rattle.std.proofs.lemmas.List.Elements.{All-cons, All-nil, All-from_recursion}
use Rattle.std.proofs.lemmas.List.Sums.{AllPass-from_list_all}
use Rattle.std.proofs.lemmas.List.Kept.{AllPairs-cons}
use Rattle.p9_abs.specs.declared.instructions.Op.TheVariants.{Ret}
use Rattle.p9_abs.specs.declared.instructions.Operand.{Operand}
use Rattle.p9_abs.specs.declared.instructions.Operand.TheVariants.{Reg, Const, AddrSB, AddrFP, AddrSP, MemSB, MemFP, MemSP, MemReg, Label, Func, Hi, Lo, Auto, AutoAddr}
use Rattle.p9_abs.specs.declared.instructions.Abs.{Abs}
use Rattle.p9_abs.specs.declared.instructions.TextDef.{TextDef}
use Rattle.p9_abs.specs.declared.modules.DataPiece.{DataPiece}
use Rattle.p9_abs.specs.declared.modules.DataPiece.TheVariants.{Raw, Address}
use Rattle.p9_abs.specs.declared.modules.Body.{Body}
use Rattle.p9_abs.specs.declared.modules.Body.TheVariants.{Declared, Used, Text, Data, Common}
use Rattle.p9_abs.specs.declared.modules.Symbol.{Symbol}
use Rattle.p9_abs.specs.Forms.{decoded}
use Rattle.p9_abs.specs.Modules.{named_by_operand, named_by_piece, operands_of, pieces_of}
use Rattle.p9_abs.specs.Validity.{IsGraphic, IsName, IsSignature, AreApart, IsBoundWell, IsWithin, NamesWithin, IsRegister, IsInRange, IsWritable, IsInstruction, IsFunction, HasFunction, IsFilled, HasWellPieced, HasSizeInRange, IsValid, writes_last}
use Rattle.p9_abs.specs.BuiltIn.{builtin_symbols, builtin_module, start_code, system_code}

-- a test that holds of all gives what it tells of each
all_told : {X : Type 0} (P : X → Type 0) (test : X → Bool) (xs : List X) → ((x : X) → test x ≡ true → P x) → list_all test xs ≡ true → All P xs
all_told P test xs tells h k d l = tells _ (AllPass-from_list_all test xs h k d l)

differs : (a b : ℕ) → not (a == b) ≡ true → a ≢ b
differs a b h = grind (arith, nat_tests)

-- Names and signatures

is_graphic : ℕ → Bool
is_graphic b = nat_le 33 b && nat_le b 126

graphic : (b : ℕ) → is_graphic b ≡ true → IsGraphic b
unfolding is_graphic
graphic b h = let p = and_parts (nat_le 33 b) (nat_le b 126) h in (leb-true 33 b p.0, leb-true b 126 p.1)

is_name : List ℕ → Bool
is_name name = nat_le 1 (length name) && (nat_le (length name) 255 && list_all is_graphic name)

named : (s : Symbol) → is_name s.name ≡ true → IsName s.name
unfolding is_name
named s h =
    let p = and_parts (nat_le 1 (length s.name)) _ h in
    let q = and_parts (nat_le (length s.name) 255) _ p.1 in
    (leb-true 1 (length s.name) p.0, leb-true (length s.name) 255 q.0, all_told IsGraphic is_graphic s.name graphic q.1)

is_signature_byte : ℕ → Bool
is_signature_byte b = is_graphic b && (not (b == 34) && not (b == 92))

signature_byte : (b : ℕ) → is_signature_byte b ≡ true → (33 ≤ b) × (b ≤ 126) × (b ≢ 34) × (b ≢ 92)
unfolding is_signature_byte
signature_byte b h =
    let p = and_parts (is_graphic b) _ h in
    let q = and_parts (not (b == 34)) _ p.1 in
    let g = graphic b p.0 in
    (g.0, g.1, differs b 34 q.0, differs b 92 q.1)

is_signature : List ℕ → Bool
is_signature sig = nat_le (length sig) 65536 && list_all is_signature_byte sig

signed : (s : Symbol) → is_signature s.sig ≡ true → IsSignature s.sig
unfolding is_signature
signed s h =
    let p = and_parts (nat_le (length s.sig) 65536) _ h in
    (leb-true (length s.sig) 65536 p.0, all_told (λ b. (33 ≤ b) × (b ≤ 126) × (b ≢ 34) × (b ≢ 92)) is_signature_byte s.sig signature_byte p.1)

-- Instructions

is_register : ℕ → Bool
is_register r = nat_lt r 32 && (not (r == 26) && (not (r == 27) && not (r == 28)))

register : (r : ℕ) → is_register r ≡ true → IsRegister r
unfolding is_register
register r h =
    let p = and_parts (nat_lt r 32) _ h in
    let q = and_parts (not (r == 26)) _ p.1 in
    let s = and_parts (not (r == 27)) _ q.1 in
    (ltb-true r 32 p.0, differs r 26 q.0, differs r 27 s.0, differs r 28 s.1)

-- of the operands that the module has
is_in_range : Operand → Bool
is_in_range (Reg r) = is_register r
is_in_range (MemReg r o) = is_register r
is_in_range (Const c) = true
is_in_range (AddrSB s o) = true
is_in_range (MemFP o) = nat_le o 65535
is_in_range (Func s) = true
is_in_range _ = false

in_range : (frame count : ℕ) (o : Operand) → is_in_range o ≡ true → IsInRange frame count o
unfolding is_in_range
in_range frame count (Reg r) h = register r h
in_range frame count (MemReg r o) h = register r h
in_range frame count (Const c) h = tt
in_range frame count (AddrSB s o) h = tt
in_range frame count (MemFP o) h = leb-true o 65535 h
in_range frame count (Func s) h = tt
in_range frame count (AddrFP o) h = absurd (true≢false (sym h))
in_range frame count (AddrSP o) h = absurd (true≢false (sym h))
in_range frame count (MemSB s o) h = absurd (true≢false (sym h))
in_range frame count (MemSP o) h = absurd (true≢false (sym h))
in_range frame count (Label l) h = absurd (true≢false (sym h))
in_range frame count Hi h = absurd (true≢false (sym h))
in_range frame count Lo h = absurd (true≢false (sym h))
in_range frame count (Auto v o) h = absurd (true≢false (sym h))
in_range frame count (AutoAddr v o) h = absurd (true≢false (sym h))

is_writable : List Operand → Bool
is_writable [] = true
is_writable (Reg r ∷ []) = not (r == 29) && (not (r == 30) && not (r == 31))
is_writable (o ∷ []) = true
is_writable (o ∷ next ∷ rest) = is_writable (next ∷ rest)

writable : (operands : List Operand) → is_writable operands ≡ true → IsWritable operands
unfolding is_writable
writable [] h = tt
writable (Reg r ∷ []) h =
    let p = and_parts (not (r == 29)) _ h in
    let q = and_parts (not (r == 30)) _ p.1 in
    (differs r 29 p.0, differs r 30 q.0, differs r 31 q.1)
writable (MemReg r o ∷ []) h = tt
writable (Const c ∷ []) h = tt
writable (AddrSB s o ∷ []) h = tt
writable (MemFP o ∷ []) h = tt
writable (Func s ∷ []) h = tt
writable (AddrFP o ∷ []) h = tt
writable (AddrSP o ∷ []) h = tt
writable (MemSB s o ∷ []) h = tt
writable (MemSP o ∷ []) h = tt
writable (Label l ∷ []) h = tt
writable (Hi ∷ []) h = tt
writable (Lo ∷ []) h = tt
writable (Auto v o ∷ []) h = tt
writable (AutoAddr v o ∷ []) h = tt
writable (o ∷ next ∷ rest) h = writable (next ∷ rest) h

is_instruction : Abs → Bool
is_instruction a = is_some (decoded a) && (list_all is_in_range a.operands && is_writable a.operands)

instructed : (frame count : ℕ) (a : Abs) → is_instruction a ≡ true → IsInstruction frame count a
unfolding is_instruction
instructed frame count a h =
    let p = and_parts (is_some (decoded a)) _ h in
    let q = and_parts (list_all is_in_range a.operands) _ p.1 in
    record {
      form = p.0;
      operands = all_told (IsInRange frame count) is_in_range a.operands (in_range frame count) q.0;
      destination = λ w. writable a.operands q.1;
    }

start_function : IsFunction (record { frame = 8; code = start_code })
unfolding is_instruction is_in_range is_register is_writable
start_function = record {
  frame = (refl, omega arith);
  ending = inl refl;
  instructions = all_told (IsInstruction 8 7) is_instruction start_code (instructed 8 7) refl;
}

system_function : (number : ℕ) → IsFunction (record { frame = 0; code = system_code number })
unfolding is_instruction is_in_range is_register is_writable
system_function number = record {
  frame = (refl, omega arith);
  ending = inl refl;
  instructions = all_told (IsInstruction 0 4) is_instruction (system_code number) (instructed 0 4) refl;
}

-- Numbers of symbols

is_below : ℕ → Option ℕ → Bool
is_below count None = true
is_below count (Some n) = nat_lt n count

below : (count : ℕ) (o : Option ℕ) → is_below count o ≡ true → IsWithin count o
unfolding is_below
below count None h = tt
below count (Some n) h = ltb-true n count h

is_numbered : Symbol → Bool
is_numbered s =
    list_all (λ o. is_below 8 (named_by_operand o)) (operands_of s.body)
    && list_all (λ p. is_below 8 (named_by_piece p)) (pieces_of s.body)

numbered : (s : Symbol) → is_numbered s ≡ true → NamesWithin 8 s.body
unfolding is_numbered
numbered s h =
    let p = and_parts (list_all (λ o. is_below 8 (named_by_operand o)) (operands_of s.body)) _ h in (
      all_told (λ o. IsWithin 8 (named_by_operand o)) (λ o. is_below 8 (named_by_operand o)) (operands_of s.body) (λ o. below 8 (named_by_operand o)) p.0,
      all_told (λ q. IsWithin 8 (named_by_piece q)) (λ q. is_below 8 (named_by_piece q)) (pieces_of s.body) (λ q. below 8 (named_by_piece q)) p.1,
    )

-- Distinct names

apart_from : (s : Symbol) (ss : List Symbol) → list_all (λ t. not (bytes_eq s.name t.name)) ss ≡ true → All (AreApart s) ss
apart_from s ss h =
    all_told (AreApart s) (λ t. not (bytes_eq s.name t.name)) ss
    (λ t g same_local same_name. absurd (true≢false (sym g ∙ ap not ((bytes_decides s.name t.name).1 same_name)))) h

all_differ : List Symbol → Bool
all_differ [] = true
all_differ (s ∷ ss) = list_all (λ t. not (bytes_eq s.name t.name)) ss && all_differ ss

distinct : (ss : List Symbol) → all_differ ss ≡ true → AllPairs AreApart ss
unfolding all_differ
distinct [] h = λ i j d l m. absurd (omega arith)
distinct (s ∷ ss) h =
    let p = and_parts (list_all (λ t. not (bytes_eq s.name t.name)) ss) (all_differ ss) h in
    AllPairs-cons AreApart s ss (apart_from s ss p.0) (distinct ss p.1)

-- Each rule by itself

not_local : {A : Type 0} → false ≡ true → A
not_local h = absurd (true≢false (sym h))

bound : All IsBoundWell builtin_symbols
bound =
    All-from_recursion IsBoundWell builtin_symbols (λ h. (refl, refl), (λ h. (refl, refl), (λ h. not_local h, (λ h. (refl, refl), (λ h. not_local h, (λ h. not_local h, (λ h. not_local h, (λ h. (refl, refl), tt))))))))

one_piece : (bytes : List ℕ) → 1 ≤ length bytes → HasWellPieced (Data (Raw bytes ∷ []))
one_piece bytes h = record { some = omega arith; filled = All-cons IsFilled (Raw bytes) [] h (All-nil IsFilled); parted = tt; aligned = tt }

two_pieces : (symbol offset : ℕ) (bytes : List ℕ) → 1 ≤ length bytes → HasWellPieced (Data (Address symbol offset ∷ Raw bytes ∷ []))
two_pieces symbol offset bytes h = record {
  some = omega arith;
  filled = All-cons IsFilled (Address symbol offset) (Raw bytes ∷ []) tt (All-cons IsFilled (Raw bytes) [] h (All-nil IsFilled));
  parted = tt;
  aligned = (refl, tt);
}

pub builtin_valid : IsValid builtin_module
unfolding is_graphic is_name is_signature_byte is_signature is_below is_numbered all_differ
builtin_valid = record {
  names = all_told (λ s. IsName s.name) (λ s. is_name s.name) builtin_symbols named refl;
  distinct = distinct builtin_symbols refl;
  locals = bound;
  signatures = all_told (λ s. IsSignature s.sig) (λ s. is_signature s.sig) builtin_symbols signed refl;
  numbers = all_told (λ s. NamesWithin 8 s.body) is_numbered builtin_symbols numbered refl;
  pieces = All-from_recursion (λ s. HasWellPieced s.body) builtin_symbols (tt, (two_pieces 7 0 (0 ∷ 0 ∷ 0 ∷ 0 ∷ []) (omega arith), (tt, (one_piece (codes "main" ++ 0 ∷ []) (omega arith), (tt, (tt, (tt, (one_piece (codes "v.out" ++ 0 ∷ []) (omega arith), tt))))))));
  sizes = All-from_recursion (λ s. HasSizeInRange s.body) builtin_symbols (tt, ((omega arith, omega arith), (tt, ((omega arith, omega arith), (tt, (tt, (tt, ((omega arith, omega arith), tt))))))));
  functions = All-from_recursion (λ s. HasFunction s.body) builtin_symbols (start_function, (tt, (tt, (tt, (system_function 8, (system_function 15, (system_function 20, (tt, tt))))))));
}
