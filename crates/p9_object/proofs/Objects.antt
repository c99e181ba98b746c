-- Whole objects: the reader's states tell what was read, it goes over the fields of each object to its
-- end, and from each state but one behind a name's length some object goes on.
use Rattle.std.proofs.Common.{◌≡◌, ◌≢◌, ℕ, zero, suc, ◌+◌, ◌-◌, ◌^◌, ◌<◌, ◌≤◌, Bool, true, false, ◌&&◌, ◌||◌, not, List, [], ◌∷◌, ◌++◌, length, flat_map, Result, Ok, Err, All, AllPairs, refl, sym, ap, subst, ◌∙◌, append_assoc, arith, inl, inr}
use Rattle.std.specs.Prelude.{Decides, bytes_eq, nat_lt, if◌then◌else◌, ◌==◌}
use Rattle.std.specs.List.{list_any}
use Rattle.std.proofs.lemmas.Bool.{cond_both, eqb-true, eq-eqb, ne_eqb, ltb-true, ltb-false, lt-ltb, le-ltb, true≢false}
use Rattle.std.proofs.lemmas.List.{append-nil, length-append}
use Rattle.std.proofs.lemmas.List.Elements.{All-nil, All-cons, All-head, All-tail}
use Rattle.std.proofs.lemmas.List.Quantifiers.{all_pairs_push}
use Rattle.std.proofs.lemmas.List.Folds.{list_any_none}
use Rattle.std.proofs.lemmas.Slice.Eq.{bytes_eq-Decides}
use Rattle.p9_abs.specs.declared.modules.Symbol.{Symbol}
use Rattle.p9_abs.specs.declared.modules.AModule.{AModule}
use Rattle.p9_abs.specs.Modules.{operands_of, pieces_of}
use Rattle.p9_abs.specs.Validity.{AreApart, IsName, IsBoundWell, IsSignature, NamesWithin, HasWellPieced, HasSizeInRange, HasFunction, IsValid}
use Rattle.p9_object.specs.Fields.{Field, Byte, Half, Word, Chars, symbol_fields, magic, version, fields_of}
use Rattle.p9_object.specs.Laws.{OperandFits, PieceFits, CodeFits, Fits, IsObject, Begins, IsByte}
use Rattle.p9_object.specs.Machine.{Turn, Bad, Stay, Whole, SymbolPlace, AtBinding, AtName, read_symbol, same_binding, is_named, symbol_step, State, AtMagic, AtVersion, AtCount, InSymbols, Done, read_of, Break, NoObject, OtherVersion, behind_symbol, ok_if, step, steps}
use Rattle.p9_object.proofs.Operands.{nothing, runs, FieldFits, AllFit, fit_append}
use Rattle.p9_object.proofs.Instructions.{all_push, flat_push}
use Rattle.p9_object.proofs.Symbols.{IsSymbol, IsUnseen, SymbolWell, SymbolOk, symbol_sound, symbol_read, push_length}
use Rattle.p9_object.proofs.Ahead.{Ahead, IsNamed, ahead}

-- Names

same_true : (a b : Bool) → same_binding a b ≡ true → a ≡ b
same_true true b h = sym h
same_true false true h = nothing h
same_true false false h = refl

same_back : (a b : Bool) → a ≡ b → same_binding a b ≡ true
same_back true b e = sym e
same_back false true e = absurd (true≢false (sym e))
same_back false false e = refl

-- what isn't named so is apart from what is
unnamed_apart : (local : Bool) (name : List ℕ) (t s : Symbol) → s.local ≡ local → s.name ≡ name → is_named local name t ≡ false → AreApart t s
unnamed_apart local name t s l n h same e = by (bytes_eq t.name name) refl (bytes_eq-Decides t.name name)
  where
    bound : same_binding t.local local ≡ true
    bound = same_back t.local local (same ∙ l)

    by : (b : Bool) → bytes_eq t.name name ≡ b → Decides b (t.name ≡ name) → ⊥
    by true f d = true≢false (sym (ap (λ (x : Bool). x && bytes_eq t.name name) bound ∙ f) ∙ h)
    by false f d = grind (arith, d, e ∙ n)

apart_unnamed : (local : Bool) (name : List ℕ) (t s : Symbol) → s.local ≡ local → s.name ≡ name → AreApart t s → is_named local name t ≡ false
apart_unnamed local name t s l n h = by (same_binding t.local local) (bytes_eq t.name name) refl (bytes_eq-Decides t.name name)
  where
    by : (p q : Bool) → same_binding t.local local ≡ p → Decides q (t.name ≡ name) → (p && q) ≡ false
    by false q e d = refl
    by true false e d = refl
    by true true e d = absurd (h (same_true t.local local e ∙ sym l) (grind (arith, d, n)))

none_all : (p : Symbol → Bool) (xs : List Symbol) → list_any p xs ≡ false → All (λ x. p x ≡ false) xs
none_all p [] h = All-nil (λ x. p x ≡ false)
none_all p (x ∷ xs) h = let t = split (p x) (list_any p xs) h in All-cons (λ x. p x ≡ false) x xs t.0 (none_all p xs t.1)
  where
    split : (a b : Bool) → (a || b) ≡ false → (a ≡ false) × (b ≡ false)
    split true b h = absurd (true≢false h)
    split false b h = (refl, h)

all_apart : (s : Symbol) (xs : List Symbol) → All (λ t. is_named s.local s.name t ≡ false) xs → All (λ t. AreApart t s) xs
all_apart s [] h = All-nil (λ t. AreApart t s)
all_apart s (x ∷ xs) h =
    let P : Symbol → Type 0 = λ t. is_named s.local s.name t ≡ false in
    All-cons (λ t. AreApart t s) x xs (unnamed_apart s.local s.name x s refl refl (All-head P x xs h)) (all_apart s xs (All-tail P x xs h))

-- What was read

pub record SymbolsWell (count : ℕ) (before : List Symbol) : Type 0 where
  pub room : length before < count
  pub few : count < 2 ^ 32
  pub each : All (IsSymbol count) before
  pub apart : AllPairs AreApart before

abbrev pub Well : State → Type 0
Well AtMagic = Unit {0}
Well AtVersion = Unit {0}
Well AtCount = Unit {0}
Well (InSymbols count before p) = SymbolsWell count before × SymbolWell count before p
Well (Done symbols) = IsObject (record { symbols = symbols })

abbrev pub StepOk : State → Field → Result State Break → Type 0
StepOk s f (Err b) = Unit {0}
StepOk s f (Ok t) = (read_of t ≡ read_of s ++ f ∷ []) × Well t

each_of : {P : Symbol → Type 0} (count : ℕ) (xs : List Symbol) → ((s : Symbol) → IsSymbol count s → P s) → All (IsSymbol count) xs → All P xs
each_of {P = P} count [] g h = All-nil P
each_of {P = P} count (x ∷ xs) g h = All-cons P x xs (g x (All-head (IsSymbol count) x xs h)) (each_of count xs g (All-tail (IsSymbol count) x xs h))

as_object : (xs : List Symbol) → length xs < 2 ^ 32 → All (IsSymbol (length xs)) xs → AllPairs AreApart xs → IsObject (record { symbols = xs })
as_object xs few each apart = record {
  valid = record {
    names = each_of {P = λ s. IsName s.name} (length xs) xs (λ s g. g.name) each;
    distinct = apart;
    locals = each_of {P = IsBoundWell} (length xs) xs (λ s g. g.bound) each;
    signatures = each_of {P = λ s. IsSignature s.sig} (length xs) xs (λ s g. g.signature) each;
    numbers = each_of {P = λ s. NamesWithin (length xs) s.body} (length xs) xs (λ s g. g.numbers) each;
    pieces = each_of {P = λ s. HasWellPieced s.body} (length xs) xs (λ s g. g.pieces) each;
    sizes = each_of {P = λ s. HasSizeInRange s.body} (length xs) xs (λ s g. g.size) each;
    functions = each_of {P = λ s. HasFunction s.body} (length xs) xs (λ s g. g.function) each;
  };
  fits = record {
    few = few;
    operands = each_of {P = λ s. All OperandFits (operands_of s.body)} (length xs) xs (λ s g. g.operands_fit) each;
    pieces = each_of {P = λ s. All PieceFits (pieces_of s.body)} (length xs) xs (λ s g. g.pieces_fit) each;
    code = each_of {P = λ s. CodeFits s.body} (length xs) xs (λ s g. g.code_fits) each;
  };
}

pub each_in : (xs : List Symbol) → IsObject (record { symbols = xs }) → All (IsSymbol (length xs)) xs
each_in xs o k d lt = record {
  name = o.valid.names k d lt;
  bound = o.valid.locals k d lt;
  signature = o.valid.signatures k d lt;
  numbers = o.valid.numbers k d lt;
  pieces = o.valid.pieces k d lt;
  size = o.valid.sizes k d lt;
  function = o.valid.functions k d lt;
  operands_fit = o.fits.operands k d lt;
  pieces_fit = o.fits.pieces k d lt;
  code_fits = o.fits.code k d lt;
}

empty : IsObject (record { symbols = [] })
empty = as_object [] (omega arith) (All-nil (IsSymbol 0)) (λ i j d lt within. absurd (omega arith))

-- several fields

pub steps_none : (r : Result State Break) → steps r [] ≡ r
steps_none (Err b) = refl
steps_none (Ok s) = refl

pub steps_append : (r : Result State Break) (fs gs : List Field) → steps r (fs ++ gs) ≡ steps (steps r fs) gs
steps_append (Err b) fs gs = refl
steps_append (Ok s) [] gs = refl
steps_append (Ok s) (f ∷ fs) gs = steps_append (step s f) fs gs

abbrev front : ℕ → List Symbol → List Field
front count before = Chars magic ∷ Word version ∷ Word count ∷ flat_map symbol_fields before

in_symbols : (count : ℕ) (before : List Symbol) (p text : List Field) (f : Field) → text ≡ p ++ f ∷ [] → front count before ++ text ≡ (front count before ++ p) ++ f ∷ []
in_symbols count before p text f e = ap (λ (t : List Field). front count before ++ t) e ∙ sym (append_assoc (front count before) p (f ∷ []))

symbols_ok : (count : ℕ) (before : List Symbol) (p : SymbolPlace) (f : Field) (t : Turn SymbolPlace Symbol) → SymbolsWell count before → SymbolOk count before p f t → StepOk (InSymbols count before p) f (behind_symbol count before t)
symbols_ok count before p f Bad w k = tt
symbols_ok count before p f (Stay q) w k = (in_symbols count before (read_symbol p) (read_symbol q) f k.0, (w, k.1))
symbols_ok count before p f (Whole s) w k =
    let each = all_push (IsSymbol count) before s w.each k.1 in
    let apart = all_pairs_push AreApart before s w.apart (all_apart s before (none_all (is_named s.local s.name) before k.2)) in
    let symbols : List Symbol = before ++ s ∷ [] in
    let text : flat_map symbol_fields symbols ≡ flat_map symbol_fields before ++ symbol_fields s = flat_push symbol_fields before s in
    let read : Chars magic ∷ Word version ∷ Word count ∷ flat_map symbol_fields symbols ≡ read_of (InSymbols count before p) ++ f ∷ [] =
    ap (λ (t : List Field). Chars magic ∷ Word version ∷ Word count ∷ t) text ∙ in_symbols count before (read_symbol p) (symbol_fields s) f k.0 in
    cond_both (nat_lt (length before + 1) count) _ _ (StepOk (InSymbols count before p) f)
    (λ e. (
      ap (λ (t : List Field). Chars magic ∷ Word version ∷ Word count ∷ t) (append-nil (flat_map symbol_fields symbols)) ∙ read,
      (record { room = omega (arith, ltb-true (length before + 1) count e, push_length before s); few = w.few; each = each; apart = apart }, tt),
    ))
    (λ e.
    let long : count ≡ length symbols = omega (arith, ltb-false (length before + 1) count e, push_length before s, w.room) in (
      ap (λ (n : ℕ). Chars magic ∷ Word version ∷ Word n ∷ flat_map symbol_fields symbols) (sym long) ∙ read,
      as_object symbols (omega (arith, long, w.few)) (subst (λ (n : ℕ). All (IsSymbol n) symbols) long each) apart,
    ))

ok_ifs : (Q : Result State Break → Type 0) (b : Bool) (s : State) → Q (Err NoObject) → (b ≡ true → Q (Ok s)) → Q (ok_if b s)
ok_ifs Q true s bad ok = ok refl
ok_ifs Q false s bad ok = bad

pub same_bytes : (xs ys : List ℕ) → bytes_eq xs ys ≡ true → xs ≡ ys
same_bytes xs ys h = by (bytes_eq xs ys) h (bytes_eq-Decides xs ys)
  where
    by : (b : Bool) → b ≡ true → Decides b (xs ≡ ys) → xs ≡ ys
    by true e d = grind (arith, d)
    by false e d = nothing e

pub step_sound : (s : State) (f : Field) → FieldFits f → Well s → StepOk s f (step s f)
step_sound AtMagic (Chars bytes) k w =
    ok_ifs (StepOk AtMagic (Chars bytes)) (bytes_eq bytes magic) AtVersion tt (λ m. (ap (λ (b : List ℕ). Chars b ∷ []) (sym (same_bytes bytes magic m)), tt))
step_sound AtVersion (Word v) k w =
    cond_both (v == version) _ _ (StepOk AtVersion (Word v)) (λ e. (ap (λ (n : ℕ). Chars magic ∷ Word n ∷ []) (sym (eqb-true v version e)), tt)) (λ e. tt)
step_sound AtCount (Word n) k w =
    cond_both (n == 0) _ _ (StepOk AtCount (Word n)) (λ e. (ap (λ (n : ℕ). Chars magic ∷ Word version ∷ Word n ∷ []) (sym (eqb-true n 0 e)), empty))
    (λ e. ok_ifs (StepOk AtCount (Word n)) (nat_lt n (2 ^ 32)) (InSymbols n [] AtBinding) tt
    (λ m. (refl, (record { room = some n e; few = ltb-true n (2 ^ 32) m; each = All-nil (IsSymbol n); apart = λ i j d lt within. absurd (omega arith) }, tt))))
  where
    some : (n : ℕ) → (n == 0) ≡ false → 0 < n
    some zero e = absurd (true≢false e)
    some (suc n) e = omega arith
step_sound (InSymbols count before p) f k w = symbols_ok count before p f (symbol_step count before p f) w.0 (symbol_sound count before p f k w.1)
step_sound _ _ k w = tt

pub steps_sound : (s : State) (fs : List Field) (t : State) → AllFit fs → Well s → steps (Ok s) fs ≡ Ok t → (read_of t ≡ read_of s ++ fs) × Well t
steps_sound s [] t k w e = let g : s ≡ t = cc in subst (λ (t : State). (read_of t ≡ read_of s ++ []) × Well t) g (sym (append-nil (read_of s)), w)
steps_sound s (f ∷ fs) t k w e = by (step s f) refl (step_sound s f k.0 w) (λ u w e. steps_sound u fs t k.1 w e) e
  where
    by : (r : Result State Break) → step s f ≡ r → StepOk s f r → ((u : State) → Well u → steps (Ok u) fs ≡ Ok t → (read_of t ≡ read_of u ++ fs) × Well t) → steps r fs ≡ Ok t → (read_of t ≡ read_of s ++ f ∷ fs) × Well t
    by (Err b) g o rest e = absurd cc
    by (Ok u) g o rest e =
        let r = rest u o.1 e in
        (r.0 ∙ ap (λ (x : List Field). x ++ fs) o.0 ∙ append_assoc (read_of s) (f ∷ []) fs, r.1)

-- Each object's fields are gone over to their end.

lift_symbol : (count : ℕ) (before : List Symbol) (t : Turn SymbolPlace Symbol) (fs : List Field) (s : Symbol) → runs (symbol_step count before) t fs ≡ Whole s → steps (behind_symbol count before t) fs ≡ behind_symbol count before (Whole s)
lift_symbol count before Bad fs s e = absurd cc
lift_symbol count before (Stay q) [] s e = absurd cc
lift_symbol count before (Stay q) (f ∷ fs) s e = lift_symbol count before (symbol_step count before q f) fs s e
lift_symbol count before (Whole x) [] s e =
    let g : x ≡ s = cc in
    steps_none (behind_symbol count before (Whole x)) ∙ ap (λ (y : Symbol). behind_symbol count before (Whole y)) g
lift_symbol count before (Whole x) (f ∷ fs) s e = absurd cc

pairs_head : (s : Symbol) (rest : List Symbol) → AllPairs AreApart (s ∷ rest) → All (AreApart s) rest
pairs_head s rest h k d lt = h 0 (suc k) d (omega arith) (omega (arith, lt))

pairs_tail : (s : Symbol) (rest : List Symbol) → AllPairs AreApart (s ∷ rest) → AllPairs AreApart rest
pairs_tail s rest h i j d lt within = h (suc i) (suc j) d (omega (arith, lt)) (omega (arith, within))

abbrev Unseen : List Symbol → List Symbol → Type 0
Unseen before rest = All (λ t. All (λ x. is_named t.local t.name x ≡ false) before) rest

unseen_push : (before : List Symbol) (s : Symbol) (rest : List Symbol) → Unseen before rest → All (AreApart s) rest → Unseen (before ++ s ∷ []) rest
unseen_push before s [] u a = All-nil (λ t. All (λ x. is_named t.local t.name x ≡ false) (before ++ s ∷ []))
unseen_push before s (t ∷ rest) u a =
    let P : List Symbol → Symbol → Type 0 = λ before t. All (λ x. is_named t.local t.name x ≡ false) before in
    All-cons (P (before ++ s ∷ [])) t rest
    (all_push (λ x. is_named t.local t.name x ≡ false) before s (All-head (P before) t rest u) (apart_unnamed t.local t.name s t refl refl (All-head (AreApart s) t rest a)))
    (unseen_push before s rest (All-tail (P before) t rest u) (All-tail (AreApart s) t rest a))

symbols_read :
    (count : ℕ) (before : List Symbol) (s : Symbol) (rest : List Symbol) → count ≡ length before + length (s ∷ rest) → All (IsSymbol count) (s ∷ rest)
    → Unseen before (s ∷ rest) → AllPairs AreApart (s ∷ rest)
    → steps (Ok (InSymbols count before AtBinding)) (flat_map symbol_fields (s ∷ rest)) ≡ Ok (Done (before ++ s ∷ rest))
symbols_read count before s [] e g u a =
    let P : Symbol → Type 0 = λ t. All (λ x. is_named t.local t.name x ≡ false) before in
    let last : nat_lt (length before + 1) count ≡ false = le-ltb (length before + 1) count (omega (arith, e)) in
    let read = symbol_read count before s (All-head (IsSymbol count) s [] g) (list_any_none (is_named s.local s.name) before (All-head P s [] u)) in
    ap (λ (x : List Field). steps (Ok (InSymbols count before AtBinding)) x) (append-nil (symbol_fields s))
    ∙ lift_symbol count before (Stay AtBinding) (symbol_fields s) s read
    ∙ rw last refl
symbols_read count before s (t ∷ rest) e g u a =
    let P : Symbol → Type 0 = λ t. All (λ x. is_named t.local t.name x ≡ false) before in
    let more : nat_lt (length before + 1) count ≡ true = lt-ltb (length before + 1) count (omega (arith, e)) in
    let fs : List Field = flat_map symbol_fields (t ∷ rest) in
    let read = symbol_read count before s (All-head (IsSymbol count) s (t ∷ rest) g) (list_any_none (is_named s.local s.name) before (All-head P s (t ∷ rest) u)) in
    let turn : behind_symbol count before (Whole s) ≡ Ok (InSymbols count (before ++ s ∷ []) AtBinding) = rw more refl in
    steps_append (Ok (InSymbols count before AtBinding)) (symbol_fields s) fs
    ∙ ap (λ (r : Result State Break). steps r fs) (lift_symbol count before (Stay AtBinding) (symbol_fields s) s read ∙ turn)
    ∙ symbols_read count (before ++ s ∷ []) t rest (omega (arith, e, push_length before s)) (All-tail (IsSymbol count) s (t ∷ rest) g)
    (unseen_push before s (t ∷ rest) (All-tail P s (t ∷ rest) u) (pairs_head s (t ∷ rest) a)) (pairs_tail s (t ∷ rest) a)
    ∙ ap (λ (x : List Symbol). Ok (Done x)) (append_assoc before (s ∷ []) (t ∷ rest))

pub forward : (xs : List Symbol) → IsObject (record { symbols = xs }) → steps (Ok AtMagic) (fields_of xs) ≡ Ok (Done xs)
forward [] o = refl
forward (s ∷ rest) o =
    let n : ℕ = length (s ∷ rest) in
    let e : step AtCount (Word n) ≡ Ok (InSymbols n [] AtBinding) = rw (ne_eqb n 0 (λ e. omega (arith, e)), lt-ltb n (2 ^ 32) o.fits.few) refl in
    ap (λ (r : Result State Break). steps r (flat_map symbol_fields (s ∷ rest))) e ∙ symbols_read n [] s rest (omega arith) (each_in (s ∷ rest) o) (none (s ∷ rest)) o.valid.distinct
  where
    none : (xs : List Symbol) → Unseen [] xs
    none xs k d lt = λ i e m. absurd (omega arith)

-- From each state but one behind a name's length some object goes on.

pub record Reach (r : Result State Break) : Type 0 where
  pub fields : List Field
  pub fits : AllFit fields
  pub symbols : List Symbol
  pub ends : steps r fields ≡ Ok (Done symbols)

abbrev After : ℕ → List Symbol → Type 0
After count before = (s : Symbol) → Reach (behind_symbol count before (Whole s))

from_place : (count : ℕ) (before : List Symbol) (p : SymbolPlace) → length before < count → count < 2 ^ 32 → SymbolWell count before p → IsNamed p → After count before → Reach (Ok (InSymbols count before p))
from_place count before p room few k n go =
    let a = ahead count before p (omega (arith, room)) (omega (arith, room, few)) k n in
    let r = go a.symbol in
    record {
      fields = a.fields ++ r.fields;
      fits = fit_append a.fields r.fields a.fits r.fits;
      symbols = r.symbols;
      ends = steps_append (Ok (InSymbols count before p)) a.fields r.fields ∙ ap (λ (x : Result State Break). steps x r.fields) (lift_symbol count before (Stay p) a.fields a.symbol a.reads) ∙ r.ends;
    }

at_done : (symbols : List Symbol) → Reach (Ok (Done symbols))
at_done symbols = record { fields = []; fits = tt; symbols = symbols; ends = refl }

after_so_many : (d count : ℕ) (before : List Symbol) → count ≡ length before + 1 + d → count < 2 ^ 32 → After count before
after_so_many zero count before e few s =
    let last : nat_lt (length before + 1) count ≡ false = le-ltb (length before + 1) count (omega (arith, e)) in
    rw last (at_done (before ++ s ∷ []))
after_so_many (suc d) count before e few s =
    let more : nat_lt (length before + 1) count ≡ true = lt-ltb (length before + 1) count (omega (arith, e)) in
    let fits : count ≡ length (before ++ s ∷ []) + 1 + d = omega (arith, e, push_length before s) in
    rw more (from_place count (before ++ s ∷ []) AtBinding (omega (arith, fits)) few tt tt (after_so_many d count (before ++ s ∷ []) fits few))

after : (count : ℕ) (before : List Symbol) → length before < count → count < 2 ^ 32 → After count before
after count before room few = after_so_many (count - (length before + 1)) count before (omega (arith, room)) few

-- the state stands behind a name's length
abbrev pub IsBehindLength : State → Type 0
IsBehindLength (InSymbols count before (AtName l k n)) = Unit {0}
IsBehindLength _ = ⊥

named_place : (count : ℕ) (before : List Symbol) (p : SymbolPlace) → (IsBehindLength (InSymbols count before p) → ⊥) → IsNamed p
named_place count before (AtName l k n) h = h tt
named_place count before _ h = tt

version_fits : FieldFits (Word version)
version_fits = omega arith

pub magic_fits : FieldFits (Chars magic)
magic_fits = All-cons IsByte 118 (57 ∷ 111 ∷ 10 ∷ []) (omega arith) (All-cons IsByte 57 (111 ∷ 10 ∷ []) (omega arith) (All-cons IsByte 111 (10 ∷ []) (omega arith) (All-cons IsByte 10 [] (omega arith) (All-nil IsByte))))

progress : (s : State) → Well s → (IsBehindLength s → ⊥) → Reach (Ok s)
progress AtMagic w n = record { fields = Chars magic ∷ Word version ∷ Word 0 ∷ []; fits = (magic_fits, (version_fits, (omega arith, tt))); symbols = []; ends = refl }
progress AtVersion w n = record { fields = Word version ∷ Word 0 ∷ []; fits = (version_fits, (omega arith, tt)); symbols = []; ends = refl }
progress AtCount w n = record { fields = Word 0 ∷ []; fits = (omega arith, tt); symbols = []; ends = refl }
progress (InSymbols count before p) w n = from_place count before p w.0.room w.0.few w.1 (named_place count before p n) (after count before w.0.room w.0.few)
progress (Done symbols) w n = at_done symbols

pub begins : (s : State) → Well s → (IsBehindLength s → ⊥) → Begins (read_of s)
begins s w n =
    let r = progress s w n in
    let b = steps_sound s r.fields (Done r.symbols) r.fits w r.ends in
    record { «module» = record { symbols = r.symbols }; rest = r.fields; object = b.1; goes_on = b.0 }

-- With a field that the machine refuses no object goes on.

pub goes_over : (fs : List Field) (s : State) (f : Field) → steps (Ok AtMagic) fs ≡ Ok s → (b : Begins (fs ++ f ∷ [])) → steps (step s f) b.rest ≡ Ok (Done b.«module».symbols)
goes_over fs s f e b =
    sym (steps_append (Ok AtMagic) (fs ++ f ∷ []) b.rest
    ∙ ap (λ (r : Result State Break). steps r b.rest) (steps_append (Ok AtMagic) fs (f ∷ []) ∙ ap (λ (r : Result State Break). steps r (f ∷ [])) e ∙ steps_none (step s f)))
    ∙ ap (λ (x : List Field). steps (Ok AtMagic) x) (sym b.goes_on)
    ∙ forward b.«module».symbols b.object

pub refused : (fs : List Field) (s : State) (f : Field) (b : Break) → steps (Ok AtMagic) fs ≡ Ok s → step s f ≡ Err b → Begins (fs ++ f ∷ []) → ⊥
refused fs s f b e r g = clash (ap (λ (x : Result State Break). steps x g.rest) (sym r) ∙ goes_over fs s f e g)
  where
    clash : Err b ≡ Ok (Done g.«module».symbols) → ⊥
    clash h = cc
