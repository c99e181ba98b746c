-- What the reader answers to bytes: an object's module exactly for its spelling, and else the first
-- byte of the first field with which no object goes on.
use Rattle.std.proofs.Common.{◌≡◌, ◌≢◌, ℕ, zero, suc, ◌+◌, ◌-◌, ◌^◌, ◌<◌, ◌≤◌, Bool, true, false, List, [], ◌∷◌, ◌++◌, length, flat_map, Result, Ok, Err, All, refl, sym, ap, subst, ◌∙◌, append_assoc, arith, eqb}
use Rattle.std.specs.Prelude.{◌==◌, if◌then◌else◌, nat_lt, bytes_eq}
use Rattle.std.proofs.lemmas.Bool.{eq-eqb, ne_eqb, eqb-true, eqb-false, cond_both, true≢false}
use Rattle.std.proofs.lemmas.Grind.{flat_map-append}
use Rattle.std.proofs.lemmas.List.{append-nil, length-append}
use Rattle.std.proofs.lemmas.List.Elements.{All-nil, All-cons, All-head, All-tail}
use Rattle.p9_base.specs.Numbers.{word_bytes}
use Rattle.p9_abs.specs.declared.modules.Symbol.{Symbol}
use Rattle.p9_abs.specs.declared.modules.AModule.{AModule}
use Rattle.p9_object.specs.Fields.{Field, Byte, Half, Word, Chars, field_bytes, symbol_fields, fields_of, magic, version, spelling}
use Rattle.p9_object.specs.Laws.{IsByte, IsObject, Begins, Leads, AsBegun, bytes_of, size_of, Breaks, AtField, AtEnd, Behind, ReadsWhatIsSpelled, ReadsOnlySpellings, BreaksAtFirst, TellsVersions}
use Rattle.p9_object.specs.Laws as laws
use Rattle.p9_object.specs.Machine.{Turn, Bad, Stay, Whole, Kind, SymbolPlace, AtBinding, AtKind, AtNameLength, AtName, AtSignatureLength, AtSignature, AtFrame, AtTotal, InCode, AtPieces, InPieces, AtSize, read_symbol, symbol_step, State, AtMagic, AtVersion, AtCount, InSymbols, Done, read_of, Break, NoObject, OtherVersion, behind_symbol, ok_if, step, steps}
use Rattle.p9_object.specs.Bytes.{Width, width_bytes, width_at, field_of, Fault, BadObject, Version, Point, start, fault_of, judged, with_pending, push, pushes, module_at, finished, ended, reading}
use Rattle.p9_object.proofs.Operands.{nothing, FieldFits, AllFit}
use Rattle.p9_object.proofs.Instructions.{all_push}
use Rattle.p9_object.proofs.Symbols.{SymbolWell}
use Rattle.p9_object.proofs.Objects.{SymbolsWell, Well, StepOk, step_sound, steps_none, steps_append, forward, IsBehindLength, begins, goes_over, refused}
use Rattle.p9_object.proofs.Widths.{HasWidth, width_size, field_has_width, bytes_again, field_fits, field_again, IsTaken, takes_width, IsLive, some_width}
use Rattle.p9_object.proofs.Fitting.{object_fits}

-- Bytes in pieces

pub pushes_append : (r : Result Point Fault) (xs ys : List ℕ) → pushes r (xs ++ ys) ≡ pushes (pushes r xs) ys
pushes_append (Err f) xs ys = refl
pushes_append (Ok p) [] ys = refl
pushes_append (Ok p) (x ∷ xs) ys = pushes_append (push p x) xs ys

pub pushes_none : (r : Result Point Fault) → pushes r [] ≡ r
pushes_none (Err f) = refl
pushes_none (Ok p) = refl

abbrev pub waiting : (at : ℕ) → State → (pending : List ℕ) → Result Point Fault
waiting at s pending = Ok (record { at = at; state = s; pending = pending })

abbrev pub whole_or_waiting : (at : ℕ) → State → (pending : List ℕ) → Result Point Fault
whole_or_waiting at s pending = if length pending == width_bytes (width_at s) then judged at (length pending) (step s (field_of (width_at s) pending)) else waiting at s pending

pub live_pending : (at : ℕ) (s : State) (pending : List ℕ) → IsLive s → with_pending at s pending ≡ whole_or_waiting at s pending
live_pending at AtMagic pending l = refl
live_pending at AtVersion pending l = refl
live_pending at AtCount pending l = refl
live_pending at (InSymbols n seen p) pending l = refl
live_pending at (Done xs) pending l = absurd l

-- fewer bytes than the field has wait
pub waits : (at : ℕ) (s : State) (pending xs : List ℕ) → IsLive s → length pending + length xs < width_bytes (width_at s) → pushes (waiting at s pending) xs ≡ waiting at s (pending ++ xs)
waits at s pending [] l h = ap (λ (x : List ℕ). waiting at s x) (sym (append-nil pending))
waits at s pending (x ∷ xs) l h =
    let len = length-append pending (x ∷ []) in
    let f : eqb (length (pending ++ x ∷ [])) (width_bytes (width_at s)) ≡ false = ne_eqb (length (pending ++ x ∷ [])) (width_bytes (width_at s)) (λ e. omega (arith, e, len, h)) in
    let e : push (record { at = at; state = s; pending = pending }) x ≡ waiting at s (pending ++ x ∷ []) = live_pending at s (pending ++ x ∷ []) l ∙ rw f refl in
    ap (λ (r : Result Point Fault). pushes r xs) e ∙ waits at s (pending ++ x ∷ []) xs l (omega (arith, len, h)) ∙ ap (λ (t : List ℕ). waiting at s t) (append_assoc pending (x ∷ []) xs)

-- as many as it has are judged
pub judges : (at : ℕ) (s : State) (pending xs : List ℕ) (x : ℕ) → IsLive s → length pending + length xs + 1 ≡ width_bytes (width_at s) → pushes (waiting at s pending) (xs ++ x ∷ []) ≡ judged at (width_bytes (width_at s)) (step s (field_of (width_at s) (pending ++ (xs ++ x ∷ []))))
judges at s pending xs x l h =
    let len : length ((pending ++ xs) ++ x ∷ []) ≡ width_bytes (width_at s) = omega (arith, length-append (pending ++ xs) (x ∷ []), length-append pending xs, h) in
    let e : push (record { at = at; state = s; pending = pending ++ xs }) x ≡ judged at (length ((pending ++ xs) ++ x ∷ [])) (step s (field_of (width_at s) ((pending ++ xs) ++ x ∷ []))) =
    live_pending at s ((pending ++ xs) ++ x ∷ []) l ∙ rw (eq-eqb (length ((pending ++ xs) ++ x ∷ [])) (width_bytes (width_at s)) len) refl in
    pushes_append (waiting at s pending) xs (x ∷ [])
    ∙ ap (λ (r : Result Point Fault). pushes r (x ∷ [])) (waits at s pending xs l (omega (arith, h)))
    ∙ pushes_none (push (record { at = at; state = s; pending = pending ++ xs }) x)
    ∙ e
    ∙ ap (λ (n : ℕ). judged at n (step s (field_of (width_at s) ((pending ++ xs) ++ x ∷ [])))) len
    ∙ ap (λ (t : List ℕ). judged at (width_bytes (width_at s)) (step s (field_of (width_at s) t))) (append_assoc pending xs (x ∷ []))

-- What is spelled is read

pub record Last (xs : List ℕ) : Type 0 where
  pub before : List ℕ
  pub last : ℕ
  pub whole : xs ≡ before ++ last ∷ []

pub last_of : (xs : List ℕ) → 0 < length xs → Last xs
last_of [] h = absurd (omega arith)
last_of (x ∷ []) h = record { before = []; last = x; whole = refl }
last_of (x ∷ y ∷ xs) h = let e = last_of (y ∷ xs) (omega arith) in record { before = x ∷ e.before; last = e.last; whole = ap (λ (t : List ℕ). x ∷ t) e.whole }

live_of : (s : State) (f : Field) (t : State) → step s f ≡ Ok t → IsLive s
live_of AtMagic f t e = tt
live_of AtVersion f t e = tt
live_of AtCount f t e = tt
live_of (InSymbols n seen p) f t e = tt
live_of (Done xs) f t e = absurd cc

taken : (s : State) (f : Field) (t : State) → step s f ≡ Ok t → IsTaken (step s f)
taken s f t e = subst (λ (r : Result State Break). IsTaken r) (sym e) tt

one_field : (at : ℕ) (s : State) (f : Field) (t : State) → FieldFits f → Well s → step s f ≡ Ok t → pushes (waiting at s []) (field_bytes f) ≡ waiting (at + width_bytes (width_at s)) t []
one_field at s f t k w e =
    let live = live_of s f t e in
    let h = takes_width s f (taken s f t e) in
    let size : length (field_bytes f) ≡ width_bytes (width_at s) = width_size (width_at s) f h in
    let x = last_of (field_bytes f) (omega (arith, size, some_width s live w)) in
    let len : length {A = ℕ} [] + length x.before + 1 ≡ width_bytes (width_at s) = omega (arith, size, length-append x.before (x.last ∷ []), ap (λ (b : List ℕ). length b) x.whole) in
    ap (λ (b : List ℕ). pushes (waiting at s []) b) x.whole
    ∙ judges at s [] x.before x.last live len
    ∙ ap (λ (b : List ℕ). judged at (width_bytes (width_at s)) (step s (field_of (width_at s) b))) (sym x.whole)
    ∙ ap (λ (g : Field). judged at (width_bytes (width_at s)) (step s g)) (field_again (width_at s) f h k)
    ∙ ap (λ (r : Result State Break). judged at (width_bytes (width_at s)) r) e

well_next : (s : State) (f : Field) (t : State) → FieldFits f → Well s → step s f ≡ Ok t → Well t
well_next s f t k w e = by (step s f) e (step_sound s f k w)
  where
    by : (r : Result State Break) → r ≡ Ok t → StepOk s f r → Well t
    by (Err b) e o = absurd cc
    by (Ok u) e o = let g : u ≡ t = cc in subst (λ (t : State). Well t) g o.1

same_state : (r : Result State Break) (s t : State) → r ≡ Ok s → r ≡ Ok t → s ≡ t
same_state r s t e f = by (sym e ∙ f)
  where
    by : ◌≡◌ {A = Result State Break} (Ok s) (Ok t) → s ≡ t
    by h = cc

all_fields : (at : ℕ) (s : State) (fs : List Field) (t : State) → AllFit fs → Well s → steps (Ok s) fs ≡ Ok t → (n : ℕ) × (pushes (waiting at s []) (bytes_of fs) ≡ waiting n t [])
all_fields at s [] t k w e = (at, ap (λ (u : State). waiting at u []) (same_state (Ok s) s t refl e))
all_fields at s (f ∷ fs) t k w e = by (step s f) refl (λ n u w e. all_fields n u fs t k.1 w e) e
  where
    by : (r : Result State Break) → step s f ≡ r → ((n : ℕ) (u : State) → Well u → steps (Ok u) fs ≡ Ok t → (m : ℕ) × (pushes (waiting n u []) (bytes_of fs) ≡ waiting m t [])) → steps r fs ≡ Ok t → (n : ℕ) × (pushes (waiting at s []) (bytes_of (f ∷ fs)) ≡ waiting n t [])
    by (Err b) g rest e = absurd cc
    by (Ok u) g rest e =
        let r = rest (at + width_bytes (width_at s)) u (well_next s f u k.0 w g) e in
        (r.0, pushes_append (waiting at s []) (field_bytes f) (bytes_of fs) ∙ ap (λ (x : Result Point Fault). pushes x (bytes_of fs)) (one_field at s f u k.0 w g) ∙ r.1)

pub reads_what_is_spelled : ReadsWhatIsSpelled
reads_what_is_spelled m o =
    let r = all_fields 0 AtMagic (fields_of m.symbols) (Done m.symbols) (object_fits m.symbols o) tt (forward m.symbols o) in
    ap (λ (x : Result Point Fault). ended x) r.1

-- What was read

pub record Reads (bytes : List ℕ) (at : ℕ) (s : State) (pending : List ℕ) : Type 0 where
  pub well : Well s
  pub reached : steps (Ok AtMagic) (read_of s) ≡ Ok s
  pub text : bytes ≡ bytes_of (read_of s) ++ pending
  pub place : at ≡ length (bytes_of (read_of s))
  pub bytes_pending : All IsByte pending

-- behind an object nothing waits, elsewhere less than a field
abbrev pub IsSettled : State → List ℕ → Type 0
IsSettled (Done xs) pending = pending ≡ []
IsSettled s pending = length pending < width_bytes (width_at s)

-- why the bytes so far are refused, whatever follows
pub data Stops (bytes : List ℕ) (at : ℕ) : Type 0 where
  AtBad :
      (before : List Field) (field : Field) (rest : List ℕ) → bytes ≡ bytes_of before ++ (field_bytes field ++ rest)
      → at ≡ length (bytes_of before) → Leads before → (Begins (before ++ field ∷ []) → ⊥)
      → ((other : Field) → Begins (before ++ other ∷ []) → size_of other ≡ size_of field) → Stops bytes at
  Past :
      (m : AModule) (next : ℕ) (rest : List ℕ) → IsObject m → bytes ≡ spelling m ++ next ∷ rest → at ≡ length (spelling m)
      → Stops bytes at

abbrev pub IsVersion : List ℕ → ℕ → Type 0
IsVersion bytes v = (v ≢ version) × ((rest : List ℕ) × (bytes ≡ magic ++ (word_bytes v ++ rest)))

abbrev pub FaultOk : List ℕ → Fault → Type 0
FaultOk bytes (BadObject at) = Stops bytes at
FaultOk bytes (Version v) = IsVersion bytes v

abbrev pub ReadsOk : List ℕ → Result Point Fault → Type 0
ReadsOk bytes (Ok p) = Reads bytes p.at p.state p.pending × IsSettled p.state p.pending
ReadsOk bytes (Err f) = FaultOk bytes f

stops_on : (bytes after : List ℕ) (f : Fault) → FaultOk bytes f → FaultOk (bytes ++ after) f
stops_on bytes after (Version v) (n, (rest, e)) = (n, (rest ++ after, ap (λ (x : List ℕ). x ++ after) e ∙ append_assoc magic (word_bytes v ++ rest) after ∙ ap (λ (x : List ℕ). magic ++ x) (append_assoc (word_bytes v) rest after)))
stops_on bytes after (BadObject at) (AtBad before field rest e p l r w) =
    AtBad before field (rest ++ after)
    (ap (λ (x : List ℕ). x ++ after) e ∙ append_assoc (bytes_of before) (field_bytes field ++ rest) after ∙ ap (λ (x : List ℕ). bytes_of before ++ x) (append_assoc (field_bytes field) rest after))
    p l r w
stops_on bytes after (BadObject at) (Past m next rest o e p) =
    Past m next (rest ++ after) o (ap (λ (x : List ℕ). x ++ after) e ∙ append_assoc (spelling m) (next ∷ rest) after) p

-- the fields before lead there

length_of_name : (count : ℕ) (before : List Symbol) (l : Bool) (k : Kind) (n : ℕ) → read_of (InSymbols count before (AtName l k n)) ≡ read_of (InSymbols count before (AtNameLength l k)) ++ Half n ∷ []
length_of_name count before l k n =
    sym (append_assoc (Chars magic ∷ Word version ∷ Word count ∷ flat_map symbol_fields before) (read_symbol (AtNameLength l k)) (Half n ∷ []))

in_symbols_leads : (count : ℕ) (before : List Symbol) (p : SymbolPlace) → Well (InSymbols count before p) → Leads (read_of (InSymbols count before p))
in_symbols_leads count before (AtName l k n) w =
    laws.AtName (read_of (InSymbols count before (AtNameLength l k))) n (length_of_name count before l k n) (begins (InSymbols count before (AtNameLength l k)) (w.0, w.1.0) (λ e. e))
in_symbols_leads count before AtBinding w = AsBegun (begins (InSymbols count before AtBinding) w (λ e. e))
in_symbols_leads count before (AtKind l) w = AsBegun (begins (InSymbols count before (AtKind l)) w (λ e. e))
in_symbols_leads count before (AtNameLength l k) w = AsBegun (begins (InSymbols count before (AtNameLength l k)) w (λ e. e))
in_symbols_leads count before (AtSignatureLength l k name) w = AsBegun (begins (InSymbols count before (AtSignatureLength l k name)) w (λ e. e))
in_symbols_leads count before (AtSignature l k name n) w = AsBegun (begins (InSymbols count before (AtSignature l k name n)) w (λ e. e))
in_symbols_leads count before (AtFrame h) w = AsBegun (begins (InSymbols count before (AtFrame h)) w (λ e. e))
in_symbols_leads count before (AtTotal h frame) w = AsBegun (begins (InSymbols count before (AtTotal h frame)) w (λ e. e))
in_symbols_leads count before (InCode h frame total code p) w = AsBegun (begins (InSymbols count before (InCode h frame total code p)) w (λ e. e))
in_symbols_leads count before (AtPieces h) w = AsBegun (begins (InSymbols count before (AtPieces h)) w (λ e. e))
in_symbols_leads count before (InPieces h total pieces p) w = AsBegun (begins (InSymbols count before (InPieces h total pieces p)) w (λ e. e))
in_symbols_leads count before (AtSize h) w = AsBegun (begins (InSymbols count before (AtSize h)) w (λ e. e))

leads : (s : State) → Well s → Leads (read_of s)
leads AtMagic w = AsBegun (begins AtMagic w (λ e. e))
leads AtVersion w = AsBegun (begins AtVersion w (λ e. e))
leads AtCount w = AsBegun (begins AtCount w (λ e. e))
leads (InSymbols count before p) w = in_symbols_leads count before p w
leads (Done xs) w = AsBegun (begins (Done xs) w (λ e. e))

-- any field with which an object goes on has the width of the place
other_size : (s : State) (other : Field) → steps (Ok AtMagic) (read_of s) ≡ Ok s → Begins (read_of s ++ other ∷ []) → size_of other ≡ width_bytes (width_at s)
other_size s other e b = width_size (width_at s) other (takes_width s other (by (step s other) refl (goes_over (read_of s) s other e b)))
  where
    by : (r : Result State Break) → step s other ≡ r → steps r b.rest ≡ Ok (Done b.«module».symbols) → IsTaken (step s other)
    by (Err x) f g = absurd cc
    by (Ok t) f g = taken s other t f

-- only the version's field tells another version
other_version : (s : State) (f : Field) (v : ℕ) → step s f ≡ Err (OtherVersion v) → (s ≡ AtVersion) × (f ≡ Word v) × (v ≢ version)
other_version AtMagic (Chars bytes) v e = absurd (by (bytes_eq bytes magic) e)
  where
    by : (b : Bool) → ok_if b AtVersion ≡ Err (OtherVersion v) → ⊥
    by true e = cc
    by false e = cc
other_version AtVersion (Word n) v e = by (n == version) refl e
  where
    by : (b : Bool) → (n == version) ≡ b → (if b then Ok AtCount else Err (OtherVersion n)) ≡ Err (OtherVersion v) → (AtVersion ≡ AtVersion) × (Word n ≡ Word v) × (v ≢ version)
    by true f e = absurd cc
    by false f e = let g : n ≡ v = cc in (refl, ap (λ (n : ℕ). Word n) g, λ h. eqb-false n version f (g ∙ h))
other_version AtCount (Word n) v e = absurd (by (n == 0) (nat_lt n (2 ^ 32)) e)
  where
    by : (b c : Bool) → (if b then Ok (Done []) else ok_if c (InSymbols n [] AtBinding)) ≡ Err (OtherVersion v) → ⊥
    by true c e = cc
    by false true e = cc
    by false false e = cc
other_version (InSymbols count before p) f v e = absurd (by (symbol_step count before p f) e)
  where
    ends : (b : Bool) (s : Symbol) → (if b then Ok (InSymbols count (before ++ s ∷ []) AtBinding) else Ok (Done (before ++ s ∷ []))) ≡ Err (OtherVersion v) → ⊥
    ends true s e = cc
    ends false s e = cc

    by : (t : Turn SymbolPlace Symbol) → behind_symbol count before t ≡ Err (OtherVersion v) → ⊥
    by Bad e = cc
    by (Stay q) e = cc
    by (Whole s) e = ends (nat_lt (length before + 1) count) s e
other_version _ _ v e = absurd cc

-- a whole field is judged

settled_empty : (s : State) → Well s → IsSettled s []
settled_empty AtMagic w = some_width AtMagic tt w
settled_empty AtVersion w = some_width AtVersion tt w
settled_empty AtCount w = some_width AtCount tt w
settled_empty (InSymbols count before p) w = some_width (InSymbols count before p) tt w
settled_empty (Done xs) w = refl

judge_ok : (bytes : List ℕ) (at : ℕ) (s : State) (pending : List ℕ) → Reads bytes at s pending → length pending ≡ width_bytes (width_at s) → (r : Result State Break) → step s (field_of (width_at s) pending) ≡ r → StepOk s (field_of (width_at s) pending) r → ReadsOk bytes (judged at (length pending) r)
judge_ok bytes at s pending r l (Err NoObject) e o =
    let f : Field = field_of (width_at s) pending in
    let again : field_bytes f ≡ pending = bytes_again (width_at s) pending l r.bytes_pending in
    AtBad (read_of s) f [] (r.text ∙ ap (λ (x : List ℕ). bytes_of (read_of s) ++ x) (sym (append-nil (field_bytes f) ∙ again))) r.place (leads s r.well) (refused (read_of s) s f NoObject r.reached e)
    (λ other b. other_size s other r.reached b ∙ sym (width_size (width_at s) f (field_has_width (width_at s) pending l)))
judge_ok bytes at s pending r l (Err (OtherVersion v)) e o =
    let f : Field = field_of (width_at s) pending in
    let again : field_bytes f ≡ pending = bytes_again (width_at s) pending l r.bytes_pending in
    let x = other_version s f v e in
    let word : pending ≡ word_bytes v = sym again ∙ ap (λ (f : Field). field_bytes f) x.1 in
    let front : bytes_of (read_of s) ≡ magic = ap (λ (s : State). bytes_of (read_of s)) x.0 ∙ append-nil magic in
    (x.2, ([], r.text ∙ ap (λ (b : List ℕ). b ++ pending) front ∙ ap (λ (b : List ℕ). magic ++ b) (word ∙ sym (append-nil (word_bytes v)))))
judge_ok bytes at s pending r l (Ok t) e o =
    let f : Field = field_of (width_at s) pending in
    let again : field_bytes f ≡ pending = bytes_again (width_at s) pending l r.bytes_pending in
    let text : bytes_of (read_of t) ≡ bytes_of (read_of s) ++ pending =
    ap (λ (x : List Field). bytes_of x) o.0 ∙ flat_map-append field_bytes (read_of s) (f ∷ []) ∙ ap (λ (x : List ℕ). bytes_of (read_of s) ++ x) (append-nil (field_bytes f) ∙ again) in
    let reach : steps (Ok AtMagic) (read_of t) ≡ Ok t =
    ap (λ (x : List Field). steps (Ok AtMagic) x) o.0 ∙ steps_append (Ok AtMagic) (read_of s) (f ∷ []) ∙ ap (λ (x : Result State Break). steps x (f ∷ [])) r.reached ∙ steps_none (step s f) ∙ e in (
      record {
        well = o.1;
        reached = reach;
        text = r.text ∙ sym text ∙ sym (append-nil (bytes_of (read_of t)));
        place = omega (arith, r.place, length-append (bytes_of (read_of s)) pending, ap (λ (x : List ℕ). length x) text);
        bytes_pending = All-nil IsByte;
      },
      settled_empty t o.1,
    )

less : (pending : List ℕ) (b n : ℕ) → length pending < n → eqb (length (pending ++ b ∷ [])) n ≡ false → length (pending ++ b ∷ []) < n
less pending b n h e = omega (arith, h, length-append pending (b ∷ []), eqb-false (length (pending ++ b ∷ [])) n e)

live_push : (bytes : List ℕ) (at : ℕ) (s : State) (pending : List ℕ) (b : ℕ) → IsLive s → length pending < width_bytes (width_at s) → ((x : List ℕ) → length x < width_bytes (width_at s) → IsSettled s x) → Reads bytes at s (pending ++ b ∷ []) → ReadsOk bytes (whole_or_waiting at s (pending ++ b ∷ []))
live_push bytes at s pending b live short settled r =
    let more : List ℕ = pending ++ b ∷ [] in
    cond_both (length more == width_bytes (width_at s)) _ _ (ReadsOk bytes)
    (λ e.
    let l : length more ≡ width_bytes (width_at s) = eqb-true (length more) (width_bytes (width_at s)) e in
    judge_ok bytes at s more r l (step s (field_of (width_at s) more)) refl (step_sound s (field_of (width_at s) more) (field_fits (width_at s) more l r.bytes_pending) r.well))
    (λ e. (r, settled more (less pending b (width_bytes (width_at s)) short e)))

with_byte : (bytes : List ℕ) (at : ℕ) (s : State) (pending : List ℕ) (b : ℕ) → IsByte b → Reads bytes at s pending → Reads (bytes ++ b ∷ []) at s (pending ++ b ∷ [])
with_byte bytes at s pending b k r = record {
  well = r.well;
  reached = r.reached;
  text = ap (λ (x : List ℕ). x ++ b ∷ []) r.text ∙ append_assoc (bytes_of (read_of s)) pending (b ∷ []);
  place = r.place;
  bytes_pending = all_push IsByte pending b r.bytes_pending k;
}

reads_push : (bytes : List ℕ) (at : ℕ) (s : State) (pending : List ℕ) (b : ℕ) → IsByte b → Reads bytes at s pending → IsSettled s pending → ReadsOk (bytes ++ b ∷ []) (with_pending at s (pending ++ b ∷ []))
reads_push bytes at AtMagic pending b k r q = live_push (bytes ++ b ∷ []) at AtMagic pending b tt q (λ x h. h) (with_byte bytes at AtMagic pending b k r)
reads_push bytes at AtVersion pending b k r q = live_push (bytes ++ b ∷ []) at AtVersion pending b tt q (λ x h. h) (with_byte bytes at AtVersion pending b k r)
reads_push bytes at AtCount pending b k r q = live_push (bytes ++ b ∷ []) at AtCount pending b tt q (λ x h. h) (with_byte bytes at AtCount pending b k r)
reads_push bytes at (InSymbols count before p) pending b k r q = live_push (bytes ++ b ∷ []) at (InSymbols count before p) pending b tt q (λ x h. h) (with_byte bytes at (InSymbols count before p) pending b k r)
reads_push bytes at (Done xs) pending b k r q =
    Past (record { symbols = xs }) b [] r.well (ap (λ (x : List ℕ). x ++ b ∷ []) (r.text ∙ ap (λ (x : List ℕ). bytes_of (fields_of xs) ++ x) q ∙ append-nil (bytes_of (fields_of xs)))) r.place

reads_all : (before : List ℕ) (at : ℕ) (s : State) (pending bytes : List ℕ) → All IsByte bytes → Reads before at s pending → IsSettled s pending → ReadsOk (before ++ bytes) (pushes (waiting at s pending) bytes)
reads_all before at s pending [] k r q = (record { well = r.well; reached = r.reached; text = append-nil before ∙ r.text; place = r.place; bytes_pending = r.bytes_pending }, q)
reads_all before at s pending (b ∷ bs) k r q =
    by (with_pending at s (pending ++ b ∷ [])) (reads_push before at s pending b (All-head IsByte b bs k) r q) (λ n t x u v. reads_all (before ++ b ∷ []) n t x bs (All-tail IsByte b bs k) u v)
  where
    by : (o : Result Point Fault) → ReadsOk (before ++ b ∷ []) o → ((n : ℕ) (t : State) (x : List ℕ) → Reads (before ++ b ∷ []) n t x → IsSettled t x → ReadsOk ((before ++ b ∷ []) ++ bs) (pushes (waiting n t x) bs)) → ReadsOk (before ++ b ∷ bs) (pushes o bs)
    by (Err f) o go = subst (λ (x : List ℕ). FaultOk x f) (append_assoc before (b ∷ []) bs) (stops_on (before ++ b ∷ []) bs f o)
    by (Ok p) o go = subst (λ (x : List ℕ). ReadsOk x (pushes (Ok p) bs)) (append_assoc before (b ∷ []) bs) (go p.at p.state p.pending o.0 o.1)

at_start : Reads [] 0 AtMagic []
at_start = record { well = tt; reached = refl; text = refl; place = refl; bytes_pending = All-nil IsByte }

pub reads : (bytes : List ℕ) → All IsByte bytes → ReadsOk bytes (pushes (Ok start) bytes)
reads bytes k = reads_all [] 0 AtMagic [] bytes k at_start (omega arith)

-- The answers

abbrev AnswerOk : List ℕ → Result AModule Fault → Type 0
AnswerOk bytes (Ok m) = IsObject m × (bytes ≡ spelling m)
AnswerOk bytes (Err (BadObject at)) = Breaks bytes at
AnswerOk bytes (Err (Version v)) = IsVersion bytes v

stop_breaks : (bytes : List ℕ) (at : ℕ) → Stops bytes at → Breaks bytes at
stop_breaks bytes at (AtBad before field rest e p l r w) = AtField before field rest e p l r w
stop_breaks bytes at (Past m next rest o e p) = Behind m next rest o e p

ends_inside : (bytes : List ℕ) (at : ℕ) (s : State) (pending : List ℕ) → Reads bytes at s pending → length pending < width_bytes (width_at s) → Breaks bytes (at + length pending)
ends_inside bytes at s pending r short =
    AtEnd (read_of s) pending r.text (omega (arith, r.place, ap (λ (x : List ℕ). length x) r.text, length-append (bytes_of (read_of s)) pending)) (leads s r.well)
    (λ other b. omega (arith, short, other_size s other r.reached b))

answer : (bytes : List ℕ) (r : Result Point Fault) → ReadsOk bytes r → AnswerOk bytes (ended r)
answer bytes (Err (BadObject at)) o = stop_breaks bytes at o
answer bytes (Err (Version v)) o = o
answer bytes (Ok p) o = by p.state o.0 o.1
  where
    by : (s : State) → Reads bytes p.at s p.pending → IsSettled s p.pending → AnswerOk bytes (module_at s (p.at + length p.pending))
    by AtMagic r q = ends_inside bytes p.at AtMagic p.pending r q
    by AtVersion r q = ends_inside bytes p.at AtVersion p.pending r q
    by AtCount r q = ends_inside bytes p.at AtCount p.pending r q
    by (InSymbols count before x) r q = ends_inside bytes p.at (InSymbols count before x) p.pending r q
    by (Done xs) r q = (r.well, r.text ∙ ap (λ (x : List ℕ). bytes_of (fields_of xs) ++ x) q ∙ append-nil (bytes_of (fields_of xs)))

answers : (bytes : List ℕ) → All IsByte bytes → AnswerOk bytes (reading bytes)
answers bytes k = answer bytes (pushes (Ok start) bytes) (reads bytes k)

pub reads_only_spellings : ReadsOnlySpellings
reads_only_spellings bytes m k e = subst (λ (r : Result AModule Fault). AnswerOk bytes r) e (answers bytes k)

pub breaks_at_first : BreaksAtFirst
breaks_at_first bytes at k e = subst (λ (r : Result AModule Fault). AnswerOk bytes r) e (answers bytes k)

pub tells_versions : TellsVersions
tells_versions bytes v k e = subst (λ (r : Result AModule Fault). AnswerOk bytes r) e (answers bytes k)
