-- Whole fields of bytes, taken one after the other.
use Rattle.std.proofs.Common.{Fits, w8, get_or, ◌≡◌, ◌⊎◌, inl, inr, ℕ, ◌+◌, ◌-◌, ◌<◌, ◌≤◌, Bool, true, false, List, [], ◌∷◌, ◌++◌, length, take, drop, Some, None, Result, Ok, Err, All, refl, sym, ap, subst, ◌∙◌, arith, length-append, length-drop}
use Rattle.std.proofs.lemmas.List.{take-append-drop, length-take-le}
use Rattle.std.proofs.Math.Seq.{take-add}
use Rattle.std.proofs.lemmas.List.Elements.{All-take, All-from_get_or}
use Rattle.p9_object.specs.Laws.{IsByte}
use Rattle.p9_object.specs.Machine.{State, AtMagic, AtVersion, AtCount, InSymbols, Done, Break, step}
use Rattle.p9_object.specs.Bytes.{width_bytes, width_at, symbol_width, field_of, Fault, Point, start, judged, pushes}
use Rattle.p9_object.proofs.Reading.{pushes_append, waits, judges, last_of, IsSettled, ReadsOk, reads}
use Rattle.p9_steps.specs.Places.{state_read, wanted}
use Rattle.p9_reader.specs.declared.faults.ObjFault.{ObjFault}
use Rattle.p9_reader.specs.declared.faults.ObjFault.TheVariants.{BadObject, Memory}
use Rattle.p9_reader.specs.Answers.{stop_of, refusal}
use Rattle.p9_reader.specs.Fields.{waiting, AreTaken, AllTaken, IsShort, IsEnd, is_done}

-- A whole field is judged

-- the bytes as all but the last, and the last
judged_as : (taken w : ℕ) (s : State) (field : List ℕ) → w ≡ length field → 0 < w → ((xs : List ℕ) (x : ℕ) → 0 + length xs + 1 ≡ w → pushes (waiting taken s []) (xs ++ x ∷ []) ≡ judged taken w (step s (field_of (width_at s) (xs ++ x ∷ [])))) → pushes (waiting taken s []) field ≡ judged taken (length field) (state_read s field)
judged_as taken w s field e h go =
    let x = last_of field (omega (arith, e, h)) in
    let len : 0 + length x.before + 1 ≡ w = omega (arith, e, length-append x.before (x.last ∷ []), ap (λ (b : List ℕ). length b) x.whole) in
    ap (λ (b : List ℕ). pushes (waiting taken s []) b) x.whole
    ∙ go x.before x.last len
    ∙ ap (λ (b : List ℕ). judged taken w (step s (field_of (width_at s) b))) (sym x.whole)
    ∙ ap (λ (n : ℕ). judged taken n (state_read s field)) e

field_judged : (taken : ℕ) (s : State) (field : List ℕ) → wanted s ≡ Some (length field) → 0 < length field → pushes (waiting taken s []) field ≡ judged taken (length field) (state_read s field)
field_judged taken AtMagic field e h =
    let g : 4 ≡ length field = cc in
    judged_as taken 4 AtMagic field g (omega arith) (λ xs x. judges taken AtMagic [] xs x tt)
field_judged taken AtVersion field e h =
    let g : 4 ≡ length field = cc in
    judged_as taken 4 AtVersion field g (omega arith) (λ xs x. judges taken AtVersion [] xs x tt)
field_judged taken AtCount field e h =
    let g : 4 ≡ length field = cc in
    judged_as taken 4 AtCount field g (omega arith) (λ xs x. judges taken AtCount [] xs x tt)
field_judged taken (InSymbols count before p) field e h =
    let g : width_bytes (symbol_width p) ≡ length field = cc in
    judged_as taken (width_bytes (symbol_width p)) (InSymbols count before p) field g (omega (arith, g, h)) (λ xs x. judges taken (InSymbols count before p) [] xs x tt)
field_judged taken (Done xs) field e h = absurd cc

-- Fields have bytes

pub all_bytes : (bytes : List ℕ) → ((i : ℕ) → Fits w8 (get_or bytes i 0)) → All IsByte bytes
all_bytes bytes f = All-from_get_or IsByte bytes 0 (λ i h. let t = f i in omega (arith, t))

width_settled : (s : State) (n : ℕ) → IsSettled s [] → wanted s ≡ Some n → 0 < n
width_settled AtMagic n h e = let g : 4 ≡ n = cc in omega (arith, g)
width_settled AtVersion n h e = let g : 4 ≡ n = cc in omega (arith, g)
width_settled AtCount n h e = let g : 4 ≡ n = cc in omega (arith, g)
width_settled (InSymbols count before p) n h e = let g : width_bytes (symbol_width p) ≡ n = cc in omega (arith, g, h)
width_settled (Done xs) n h e = absurd cc

pub some_bytes : (bytes : List ℕ) (taken n : ℕ) (s : State) → All IsByte bytes → AreTaken bytes taken s → wanted s ≡ Some n → 0 < n
some_bytes bytes taken n s k t e =
    let ok : ReadsOk (take taken bytes) (waiting taken s []) = subst (λ (r : Result Point Fault). ReadsOk (take taken bytes) r) t.led (reads (take taken bytes) (All-take IsByte taken bytes k)) in
    width_settled s n ok.1 e

-- One field more

record IsNext (bytes : List ℕ) (taken end : ℕ) (s : State) (field : List ℕ) : Type 0 where
  pub size : length field ≡ end - taken
  pub text : take end bytes ≡ take taken bytes ++ field

next_field : (bytes : List ℕ) (taken end : ℕ) (s : State) (field : List ℕ) → taken ≤ end → end ≤ length bytes → field ≡ take (end - taken) (drop taken bytes) → IsNext bytes taken end s field
next_field bytes taken end s field h k e =
    let n : taken + (end - taken) ≡ end = omega (arith, h) in
    record {
      size = ap (λ (b : List ℕ). length b) e ∙ length-take-le (end - taken) (drop taken bytes) (omega (arith, h, k, length-drop taken bytes));
      text = ap (λ (m : ℕ). take m bytes) (sym n) ∙ take-add taken (end - taken) bytes ∙ ap (λ (b : List ℕ). take taken bytes ++ b) (sym e);
    }

led_next : (bytes : List ℕ) (taken end : ℕ) (s : State) (field : List ℕ) → AreTaken bytes taken s → 0 < length field → wanted s ≡ Some (length field) → take end bytes ≡ take taken bytes ++ field → pushes (Ok start) (take end bytes) ≡ judged taken (length field) (state_read s field)
led_next bytes taken end s field t h e text =
    ap (λ (b : List ℕ). pushes (Ok start) b) text
    ∙ pushes_append (Ok start) (take taken bytes) field
    ∙ ap (λ (r : Result Point Fault). pushes r field) t.led
    ∙ field_judged taken s field e h

-- What was judged

next_at : (taken n next : ℕ) (r : Result State Break) (t : State) → judged taken n r ≡ waiting next t [] → next ≡ taken + n
next_at taken n next (Err b) t e = absurd cc
next_at taken n next (Ok u) t e = by cc
  where
    by : ◌≡◌ {A = Point} (record { at = taken + n; state = u; pending = [] }) (record { at = next; state = t; pending = [] }) → next ≡ taken + n
    by e = sym (ap (λ (p : Point). p.at) e)

pub stop_goes_on : (r : Result Point Fault) (f : ObjFault) (rest : List ℕ) → stop_of r ≡ Some f → stop_of (pushes r rest) ≡ Some f
stop_goes_on (Ok p) f rest e = absurd cc
stop_goes_on (Err g) f rest e = e

pushes_split : (bytes : List ℕ) (n : ℕ) → pushes (Ok start) bytes ≡ pushes (pushes (Ok start) (take n bytes)) (drop n bytes)
pushes_split bytes n =
    ap (λ (b : List ℕ). pushes (Ok start) b) (sym (take-append-drop n bytes)) ∙ pushes_append (Ok start) (take n bytes) (drop n bytes)

-- One field is taken

abbrev pub field_at : List ℕ → (taken end : ℕ) → List ℕ
field_at bytes taken end = take (end - taken) (drop taken bytes)

abbrev pub judged_at : List ℕ → (taken end : ℕ) → State → Result Point Fault
judged_at bytes taken end s = judged taken (length (field_at bytes taken end)) (state_read s (field_at bytes taken end))

led_to : (bytes : List ℕ) (taken end : ℕ) (s : State) → All IsByte bytes → AreTaken bytes taken s → IsEnd s taken (length bytes) (Some end) → pushes (Ok start) (take end bytes) ≡ judged_at bytes taken end s
led_to bytes taken end s k t e =
    let n = next_field bytes taken end s (field_at bytes taken end) e.0 e.1.0 refl in
    let w : wanted s ≡ Some (length (field_at bytes taken end)) = e.1.1 ∙ ap (λ (m : ℕ). Some m) (sym n.size) in
    led_next bytes taken end s (field_at bytes taken end) t (some_bytes bytes taken (length (field_at bytes taken end)) s k t w) w n.text

field_refused : (bytes : List ℕ) (taken end : ℕ) (s : State) (f : ObjFault) → All IsByte bytes → AreTaken bytes taken s → IsEnd s taken (length bytes) (Some end) → stop_of (judged_at bytes taken end s) ≡ Some f → refusal bytes ≡ Some f
field_refused bytes taken end s f k t e stop =
    ap (λ (r : Result Point Fault). stop_of r) (pushes_split bytes end)
    ∙ stop_goes_on (pushes (Ok start) (take end bytes)) f (drop end bytes) (ap (λ (r : Result Point Fault). stop_of r) (led_to bytes taken end s k t e) ∙ stop)

pub field_fails : (bytes : List ℕ) (taken end : ℕ) (s : State) (f : ObjFault) → All IsByte bytes → AreTaken bytes taken s → IsEnd s taken (length bytes) (Some end) → ((f ≡ Memory) ⊎ (stop_of (judged_at bytes taken end s) ≡ Some f)) → (f ≡ Memory) ⊎ (refusal bytes ≡ Some f)
field_fails bytes taken end s f k t e (inl m) = inl m
field_fails bytes taken end s f k t e (inr stop) = inr (field_refused bytes taken end s f k t e stop)

next_is_end : (bytes : List ℕ) (taken end next : ℕ) (s u : State) → IsEnd s taken (length bytes) (Some end) → judged_at bytes taken end s ≡ waiting next u [] → next ≡ end
next_is_end bytes taken end next s u e j =
    let n = next_field bytes taken end s (field_at bytes taken end) e.0 e.1.0 refl in
    omega (arith, n.size, e.0, next_at taken (length (field_at bytes taken end)) next (state_read s (field_at bytes taken end)) u j)

pub field_next : (bytes : List ℕ) (taken end next : ℕ) (s u : State) → All IsByte bytes → AreTaken bytes taken s → IsEnd s taken (length bytes) (Some end) → judged_at bytes taken end s ≡ waiting next u [] → AreTaken bytes next u
field_next bytes taken end next s u k t e j =
    let n = next_is_end bytes taken end next s u e j in
    record {
      within = omega (arith, n, e.1.0);
      led = ap (λ (m : ℕ). pushes (Ok start) (take m bytes)) n ∙ led_to bytes taken end s k t e ∙ j;
    }

pub field_smaller : (bytes : List ℕ) (taken end next : ℕ) (s u : State) → All IsByte bytes → AreTaken bytes taken s → IsEnd s taken (length bytes) (Some end) → judged_at bytes taken end s ≡ waiting next u [] → length bytes - next < length bytes - taken
field_smaller bytes taken end next s u k t e j =
    omega (arith, next_is_end bytes taken end next s u e j, e.0, e.1.0, some_bytes bytes taken (end - taken) s k t e.1.1)

-- No whole field is left

short_left : (bytes : List ℕ) (taken : ℕ) (s : State) → AreTaken bytes taken s → (pushes (waiting taken s []) (drop taken bytes) ≡ waiting taken s (drop taken bytes)) → AllTaken bytes taken s
short_left bytes taken s t e = record { taken_so = t; left = pushes_split bytes taken ∙ ap (λ (r : Result Point Fault). pushes r (drop taken bytes)) t.led ∙ e }

short_waits : (taken : ℕ) (s : State) (rest : List ℕ) → is_done s ≡ false → IsShort (length rest) (wanted s) → pushes (waiting taken s []) rest ≡ waiting taken s rest
short_waits taken AtMagic rest d h = waits taken AtMagic [] rest tt (omega (arith, h))
short_waits taken AtVersion rest d h = waits taken AtVersion [] rest tt (omega (arith, h))
short_waits taken AtCount rest d h = waits taken AtCount [] rest tt (omega (arith, h))
short_waits taken (InSymbols count before p) rest d h = waits taken (InSymbols count before p) [] rest tt (omega (arith, h))
short_waits taken (Done xs) rest d h = absurd cc

short_taken : (bytes : List ℕ) (taken : ℕ) (s : State) → AreTaken bytes taken s → IsEnd s taken (length bytes) None → is_done s ≡ false → AllTaken bytes taken s
short_taken bytes taken s t e d = short_left bytes taken s t (short_waits taken s (drop taken bytes) d (short s e))
  where
    short : (s : State) → IsShort (length bytes - taken) (wanted s) → IsShort (length (drop taken bytes)) (wanted s)
    short s h = subst (λ (n : ℕ). IsShort n (wanted s)) (sym (length-drop taken bytes)) h

-- A whole object

no_more : (bytes : List ℕ) → length bytes ≡ 0 → bytes ≡ []
no_more [] e = refl
no_more (b ∷ bs) e = absurd cc

done_taken : (bytes : List ℕ) (taken : ℕ) (s : State) → AreTaken bytes taken s → length bytes ≤ taken → AllTaken bytes taken s
done_taken bytes taken s t h =
    let e : drop taken bytes ≡ [] = no_more (drop taken bytes) (omega (arith, h, length-drop taken bytes)) in
    short_left bytes taken s t (ap (λ (b : List ℕ). pushes (waiting taken s []) b) e ∙ ap (λ (b : List ℕ). waiting taken s b) (sym e))

past_done : (taken : ℕ) (s : State) (rest : List ℕ) → is_done s ≡ true → 0 < length rest → stop_of (pushes (waiting taken s []) rest) ≡ Some (BadObject taken)
past_done taken AtMagic rest d h = absurd cc
past_done taken AtVersion rest d h = absurd cc
past_done taken AtCount rest d h = absurd cc
past_done taken (InSymbols count before p) rest d h = absurd cc
past_done taken (Done xs) [] d h = absurd (omega arith)
past_done taken (Done xs) (b ∷ bs) d h = refl

pub bytes_follow : (bytes : List ℕ) (taken : ℕ) (s : State) → AreTaken bytes taken s → is_done s ≡ true → taken < length bytes → refusal bytes ≡ Some (BadObject taken)
bytes_follow bytes taken s t d h =
    ap (λ (r : Result Point Fault). stop_of r) (pushes_split bytes taken ∙ ap (λ (r : Result Point Fault). pushes r (drop taken bytes)) t.led)
    ∙ past_done taken s (drop taken bytes) d (omega (arith, h, length-drop taken bytes))

pub none_left : (bytes : List ℕ) (taken : ℕ) (s : State) (done : Bool) → AreTaken bytes taken s → IsEnd s taken (length bytes) None → done ≡ is_done s → (((done ≡ true) × (length bytes ≤ taken)) ⊎ (done ≡ false)) → AllTaken bytes taken s
none_left bytes taken s done t e d (inl h) = done_taken bytes taken s t h.1
none_left bytes taken s done t e d (inr h) = short_taken bytes taken s t e (sym d ∙ h)
