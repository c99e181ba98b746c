-- The code of `exits` does what `exits` does.
use Rattle.std.proofs.Common.{◌≡◌, ◌≤◌, ◌<◌, ◌⊎◌, inl, inr, ℕ, zero, suc, ◌+◌, ◌^◌, ◌==◌, ◌||◌, nat_lt, Bool, true, false, if◌then◌else◌, Option, Some, None, Result, Ok, Err, List, [], ◌∷◌, length, drop, slice_get, slice_index, refl, sym, ap, ◌∙◌, subst, arith, length-drop}
use Rattle.std.specs.Prelude.{not, unwrap_or}
use Rattle.std.specs.List.{position_or_len}
use Rattle.std.proofs.lemmas.Bool.Decides.{nat_tests}
use Rattle.std.proofs.lemmas.List.Sums.{position_or_len_is}
use Rattle.p9_base.specs.declared.halt.Asked.TheVariants as asks
use Rattle.p9_base.specs.Words.{word_sum}
use Rattle.p9_base.specs.Core.{Core, text_start, reg, readable, read_byte, bytes_from}
use Rattle.p9_base.specs.SystemCalls.{State, asked, asked_exits, called}
use Rattle.p9_base.specs.Holding.{LaidOut}
use Rattle.p9_abs.specs.BuiltIn.{system_code}
use Rattle.p9_abs.specs.Steps.{Mach, Around, Next, Exits, step, is_free, words_free, asks_system}
use Rattle.p9_cmean.specs.declared.Cause.{Cause}
use Rattle.p9_cmean.specs.declared.Cause.TheVariants as cause
use Rattle.p9_cmean.specs.declared.Place.{Place}
use Rattle.p9_cmean.specs.Cells as c
use Rattle.p9_cmean.specs.Cells.{Pointer, Into, ToFunction, Cell, Unset, Byte, Part, Object, Value, Word, Address, Missing}
use Rattle.p9_cmean.specs.Plays.{Call, Exit}
use Rattle.p9_cmean.specs.Access.{dead_object}
use Rattle.p9_cmean.specs.Places.{or_wrong}
use Rattle.p9_cmean.specs.SystemCalls.{text_in, behind, exits, exits_call, Exits as SystemExits}
use Rattle.p9_sim.specs.Memory.{Map, HasAddress, Ground, word_of, moved_address, StandCells, Owner}
use Rattle.p9_sim.specs.Matching.{StandArguments, AtCall, entry_of}
use Rattle.p9_sim.specs.Playing.{AllSteps, Branches, Counting, Count, first_count, after_plain, Setting, step_in, Continues, Goes, Performs}
use Rattle.p9_sim.specs.Functions.{lowered_stack, setting_of}
use Rattle.p9_sim.proofs.Going.{one-step}
use Rattle.p9_systems.specs.Systems.{system_def}
use Rattle.p9_systems.proofs.Bytes.{Spans, spans-from, spans-less, spans-all, readable-span, run-of, bytes-are}
use Rattle.p9_systems.proofs.Cells.{some-same, stands-drop}
use Rattle.p9_systems.proofs.Matched.{lies-above}
use Rattle.p9_systems.proofs.Calling.{free-range, around, prepared, with_argument, IsPrepared, prepared-is, asks-exits}

-- A TEXT IN CELLS IS THE ONE IN THEIR BYTES

ok-same : (xs ys : List ℕ) → (let p : Result (List ℕ) Cause = Ok xs in let q : Result (List ℕ) Cause = Ok ys in p ≡ q) → xs ≡ ys
ok-same xs ys e = cc

pub record HasText (byte : ℕ → ℕ) (a : ℕ) (room : ℕ) (text : List ℕ) : Type 0 where
  pub short : length text < room
  pub bytes : (k : ℕ) → k < length text → byte (a + k) ≡ slice_index text k
  pub some : (k : ℕ) → k < length text → 0 < byte (a + k)
  pub zero_byte : byte (a + length text) ≡ 0

text-found : (g : Ground) (m : Map) (byte : ℕ → ℕ) (cells : List Cell) (text : List ℕ) (a : ℕ) → text_in cells ≡ Ok text → StandCells g m cells byte a → HasText byte a (length cells) text
text-found g m byte [] text a h st = absurd (let z : Err cause.Range ≡ Ok text = h in cc)
text-found g m byte (Unset ∷ cells) text a h st = absurd (let z : Err cause.Unset ≡ Ok text = h in cc)
text-found g m byte (Part k p ∷ cells) text a h st = absurd (let z : Err cause.Mixed ≡ Ok text = h in cc)
text-found g m byte (Byte zero ∷ cells) text a h st =
    let z : a + 0 ≡ a = omega arith in
    subst (HasText byte a (suc (length cells))) (ok-same [] text h)
    (record { short = omega arith; bytes = λ k l. absurd (omega (arith, l)); some = λ k l. absurd (omega (arith, l)); zero_byte = ap byte z ∙ sym st.0 })
text-found g m byte (Byte (suc n) ∷ cells) text a h st = by (text_in cells) refl h (λ rest e. text-found g m byte cells rest (a + 1) e st.1)
  where
    more : (rest : List ℕ) → HasText byte (a + 1) (length cells) rest → HasText byte a (suc (length cells)) (suc n ∷ rest)
    more rest r =
        let sh = r.short in
        let z : a + 0 ≡ a = omega arith in
        let e : a + suc (length rest) ≡ a + 1 + length rest = omega arith in
        record { short = omega (arith, sh); bytes = λ k l. first k l; some = λ k l. positive k l; zero_byte = ap byte e ∙ r.zero_byte }
      where
        first : (k : ℕ) → k < length (suc n ∷ rest) → byte (a + k) ≡ slice_index (suc n ∷ rest) k
        first zero l = let z : a + 0 ≡ a = omega arith in ap byte z ∙ sym st.0
        first (suc k) l = let q : a + suc k ≡ a + 1 + k = omega arith in ap byte q ∙ r.bytes k (omega (arith, l))

        positive : (k : ℕ) → k < length (suc n ∷ rest) → 0 < byte (a + k)
        positive zero l = let z : a + 0 ≡ a = omega arith in let e : byte (a + 0) ≡ suc n = ap byte z ∙ sym st.0 in omega (arith, e)
        positive (suc k) l = let q : byte (a + suc k) ≡ byte (a + 1 + k) = (let z : a + suc k ≡ a + 1 + k = omega arith in ap byte z) in let r0 = r.some k (omega (arith, l)) in omega (arith, q, r0)

    by : (r : Result (List ℕ) Cause) → text_in cells ≡ r → behind (suc n) r ≡ Ok text → ((rest : List ℕ) → text_in cells ≡ Ok rest → HasText byte (a + 1) (length cells) rest) → HasText byte a (suc (length cells)) text
    by (Err why) e w rec = absurd (let z : Err why ≡ Ok text = w in cc)
    by (Ok rest) e w rec = subst (HasText byte a (suc (length cells))) (ok-same (suc n ∷ rest) text w) (more rest (rec rest e))

-- what such a text asks
record Texts (free : ℕ → ℕ → Bool) (x : Core) (v : ℕ) (text : List ℕ) : Type 0 where
  asks_for : asked_exits x v ≡ asks.Exits v (length text)
  may : ((v == 0) || free v (length text + 1)) ≡ true
  bytes : bytes_from x v (length text) ≡ text

is_zero : (b : ℕ) → 0 < b → (b == 0) ≡ false
is_zero b h = grind (arith, nat_tests)

texts-of : (free : ℕ → ℕ → Bool) (x : Core) (b n : ℕ) (text : List ℕ) → x.text_end ≡ text_start → LaidOut x → Spans x b n → text_start ≤ b → HasText (read_byte x) b n text → free b (length text + 1) ≡ true
    → Texts free x b text
texts-of free x b n text end laid spans low has may =
    let sh = has.short in
    let k : ℕ = readable x b in
    let reach : n ≤ k = readable-span x b n end laid (omega (arith, sh)) spans in
    let all : Spans x b k = spans-all x b n end laid (omega (arith, sh)) spans in
    let r = run-of x b k laid (omega (arith, sh, reach)) all in
    let count = r.count in
    let bs : List ℕ = bytes_from x b k in
    let at : position_or_len (λ i. i == 0) bs ≡ length text =
    position_or_len_is (λ i. i == 0) bs (length text) 0 (omega (arith, count, sh, reach))
    (λ i l. is_zero (slice_index bs i) (let e = r.bytes i (omega (arith, l, sh, reach)) in let p = has.some i l in omega (arith, e, p)))
    (λ l. (let e = r.bytes (length text) (omega (arith, sh, reach)) in let z = has.zero_byte in let q : slice_index bs (length text) ≡ 0 = e ∙ z in nought (slice_index bs (length text)) q)) in
    let w : nat_lt (position_or_len (λ i. i == 0) bs) (length bs) ≡ true = less (position_or_len (λ i. i == 0) bs) (length bs) (omega (arith, at, count, sh, reach)) in
    let nz : (b == 0) ≡ false = is_zero b (omega (arith, low)) in
    record {
      asks_for = rw (nz, w, at) refl;
      may = rw (nz, may) refl;
      bytes = bytes-are x b text laid (spans-less x b n (length text) (omega (arith, sh)) spans) has.bytes;
    }
  where
    nought : (i : ℕ) → i ≡ 0 → (i == 0) ≡ true
    nought i e = grind (arith, nat_tests)

    less : (i j : ℕ) → i < j → nat_lt i j ≡ true
    less i j h = grind (arith, nat_tests)

-- THE CODE

pub two-steps : (set : Setting) (x y z : Mach) (d : Count) → step_in set x ≡ Next y → step_in set y ≡ Next z → Goes set 2 x d z (after_plain set.counting (after_plain set.counting d))
two-steps set x y z d e f = subst (λ s. Continues set s x.at d (λ w n. Goes set 1 w n z (after_plain set.counting (after_plain set.counting d)))) (sym e) (one-step set y z (after_plain set.counting d) f)

no-backs : (counting : Counting) → (let d : Count = after_plain counting (after_plain counting first_count) in d.backs ≤ d.allowed)
no-backs AllSteps = omega arith
no-backs Branches = omega arith

module _ (counting : Counting) (g : Ground) (symbol : ℕ → ℕ) (need : ℕ) (others : ℕ → Bool) (active : ℕ) (m : Map) (call : Call) (s : c.State) (x : State) (at : AtCall g others others active m call s x) (one : length call.arguments ≡ 1) where
  abbrev set : Setting
  set = setting_of g counting symbol (system_def SystemExits) others active need (entry_of m s call x)

  abbrev low : ℕ
  low = lowered_stack (system_def SystemExits) x

  abbrev y : State
  y = prepared SystemExits x

  abbrev start : Mach
  start = record { state = x; vars = []; at = 0 }

  abbrev free : ℕ → ℕ → Bool
  free = is_free (around SystemExits symbol low others).banned

  ready : IsPrepared SystemExits symbol low others (length call.arguments) x y
  ready = prepared-is g SystemExits symbol others active low m call s x at (omega (arith, one))

  -- the program ends with the bytes of the text
  exits-with : (v : ℕ) (text : List ℕ) → reg x.core 1 ≡ v → Texts free y.core v text → Performs set (Exit text s) m first_count start
  exits-with v text value t =
      let r = ready in
      let first : asked y.core ≡ asks.Exits v (length text) = asks-exits y.core (reg x.core 1) r.number r.argument_1 ∙ (ap (asked_exits y.core) value ∙ t.asks_for) in
      let a : Around = around SystemExits symbol low others in
      let w : Mach = record { state = y; vars = []; at = 2 } in
      let z : Mach = record { state = called (asks.Exits v (length text)) y; vars = []; at = 3 } in
      let last : step a (system_code 8) w ≡ Exits z = r.third ∙ (ap (λ q. asks_system a q w) first ∙ go v (length text) (r.word_1) t.may) in (
        record { steps = 2; to = w; count = after_plain counting (after_plain counting first_count); goes = two-steps set start (record { state = with_argument x x.core.regs; vars = []; at = 1 }) w first_count r.first r.second },
        z,
        last,
        no-backs counting,
        t.bytes,
        (at.matched.output, at.matched.input),
      )
    where
      go : (v len : ℕ) → words_free (around SystemExits symbol low others) (reg y.core 29) 1 ≡ true → ((v == 0) || free v (len + 1)) ≡ true
          → asks_system (around SystemExits symbol low others) (asks.Exits v len) (record { state = y; vars = []; at = 2 }) ≡ Exits (record { state = called (asks.Exits v len) y; vars = []; at = 3 })
      go v len e f = rw (e, f) refl

  -- the text of live cells
  live : (number start_of offset : ℕ) (object : Object) (text : List ℕ) → slice_get s.objects number ≡ Some object → object.is_alive ≡ true → HasAddress m number start_of
      → word_sum start_of offset ≡ reg x.core 1 → text_in (drop offset object.cells) ≡ Ok text → Performs set (Exit text s) m first_count start
  live number start_of offset object text is alive placed word found =
      let r = ready in let h = at.matched in
      let cells : List Cell = drop offset object.cells in
      let d = length-drop offset object.cells in
      let b : ℕ = start_of + offset in
      let owner : (i : ℕ) → i < length cells → Owner m s.objects (b + i) =
      λ i l. record { number = number; object = object; start = start_of; k = offset + i; is_object = is; alive = alive; placed = placed; inside = omega (arith, l, d); is = omega arith } in
      let old : HasText (read_byte x.core) b (length cells) text = text-found g m (read_byte x.core) cells text b found (stands-drop g m (read_byte x.core) offset object.cells start_of (h.cells number start_of object is alive placed)) in
      let sh = old.short in
      let f = h.floor in let nd = h.not_deep in
      let spans : Spans x.core b (length cells) = spans-from x.core b (length cells) h.gap (omega (arith, f, nd)) (omega (arith, sh)) (λ i l. h.lie (b + i) (owner i l)) in
      let small : b < 2 ^ 32 = below b (length cells) spans (omega (arith, sh)) in
      let vb : b ≡ reg x.core 1 = omega (arith, word, small) in
      let same : (k : ℕ) → k < length cells → read_byte y.core (b + k) ≡ read_byte x.core (b + k) = λ k l. unstored (b + k) (owner k l) in
      let has : HasText (read_byte y.core) b (length cells) text = record {
        short = old.short;
        bytes = λ k l. same k (omega (arith, l, sh)) ∙ old.bytes k l;
        some = λ k l. (let e = same k (omega (arith, l, sh)) in let p = old.some k l in omega (arith, e, p));
        zero_byte = same (length text) sh ∙ old.zero_byte;
      } in
      let z0 : b + 0 ≡ b = omega arith in
      let above : text_start ≤ b = (let q = lies-above g others active m s x (b + 0) h (h.lie (b + 0) (owner 0 (omega (arith, sh)))) in omega (arith, q)) in
      let may : free b (length text + 1) ≡ true = free-range (around SystemExits symbol low others).banned (length text + 1) b (λ i l. ap (λ t. t || false) (h.free (b + i) (owner i (omega (arith, l, sh))))) in
      exits-with b text (sym vb) (texts-of free y.core b (length cells) text r.text r.laid (moved b (length cells) spans) above has may)
    where
      below : (b n : ℕ) → Spans x.core b n → 0 < n → b < 2 ^ 32
      below b n (inl q) l = let q1 = q.1 in let u = at.matched.gap in omega (arith, q1, u, l)
      below b n (inr q) l = let q1 = q.1 in omega (arith, q1, l)

      moved : (b n : ℕ) → Spans x.core b n → Spans y.core b n
      moved b n (inl q) = inl q
      moved b n (inr q) = inr q

      unstored : (byte : ℕ) → Owner m s.objects byte → read_byte y.core byte ≡ read_byte x.core byte
      unstored byte w = by (split byte (reg x.core 29 + 4)) (split byte (reg x.core 29 + 8))
        where
          split : (i j : ℕ) → (i < j) ⊎ (j ≤ i)
          split i j = cut (nat_lt i j) refl
            where
              cut : (t : Bool) → nat_lt i j ≡ t → (i < j) ⊎ (j ≤ i)
              cut true e = inl (grind (arith, nat_tests))
              cut false e = inr (grind (arith, nat_tests))

          by : (byte < reg x.core 29 + 4) ⊎ (reg x.core 29 + 4 ≤ byte) → (byte < reg x.core 29 + 8) ⊎ (reg x.core 29 + 8 ≤ byte) → read_byte y.core byte ≡ read_byte x.core byte
          by (inl a) b = (let r = ready in r.memory byte (inl a))
          by (inr a) (inr b) = (let r = ready in r.memory byte (inr b))
          by (inr a) (inl b) = absurd (at.unowned byte (a, omega (arith, b, one)) w)

  pointed : (place : Place) (p : Pointer) → word_of g m p ≡ Some (reg x.core 1) → Performs set (exits place (Some p) s) m first_count start
  pointed place (ToFunction function) word = tt
  pointed place (Into number offset) word = by (slice_get s.objects number) refl (slice_get m number) refl word
    where
      found : (object : Object) (start_of : ℕ) → slice_get s.objects number ≡ Some object → HasAddress m number start_of → word_sum start_of offset ≡ reg x.core 1
          → (dead outside : Bool) → object.is_alive ≡ dead → (t : Result (List ℕ) Cause) → text_in (drop offset object.cells) ≡ t
          → Performs set (or_wrong place s (if (not dead || false) then Err cause.Dead else (if (outside || false) then Err cause.Range else t)) (λ text. Exit text s)) m first_count start
      found object start_of is placed w false outside alive t e = tt
      found object start_of is placed w true true alive t e = tt
      found object start_of is placed w true false alive (Err why) e = tt
      found object start_of is placed w true false alive (Ok text) e = live number start_of offset object text is alive placed w e

      placed-at : (object : Object) → slice_get s.objects number ≡ Some object → (q : Option (Option ℕ)) → slice_get m number ≡ q → moved_address q offset ≡ Some (reg x.core 1)
          → Performs set (or_wrong place s (if (not object.is_alive || false) then Err cause.Dead else (if (nat_lt (length object.cells) offset || false) then Err cause.Range else text_in (drop offset object.cells))) (λ text. Exit text s)) m first_count start
      placed-at object is None e w = absurd (let z : None ≡ Some (reg x.core 1) = w in cc)
      placed-at object is (Some None) e w = absurd (let z : None ≡ Some (reg x.core 1) = w in cc)
      placed-at object is (Some (Some start_of)) e w =
          found object start_of is e (some-same (word_sum start_of offset) (reg x.core 1) w) object.is_alive (nat_lt (length object.cells) offset) refl (text_in (drop offset object.cells)) refl

      by : (o : Option Object) → slice_get s.objects number ≡ o → (q : Option (Option ℕ)) → slice_get m number ≡ q → moved_address q offset ≡ Some (reg x.core 1)
          → Performs set (exits place (Some (Into number offset)) s) m first_count start
      by None is q e w = subst (λ o. Performs set (or_wrong place s (let object : Object = (unwrap_or o dead_object) in if (not object.is_alive || false) then Err cause.Dead else (if (nat_lt (length object.cells) offset || false) then Err cause.Range else text_in (drop offset object.cells))) (λ text. Exit text s)) m first_count start) (sym is) tt
      by (Some object) is q e w = subst (λ o. Performs set (or_wrong place s (let object : Object = (unwrap_or o dead_object) in if (not object.is_alive || false) then Err cause.Dead else (if (nat_lt (length object.cells) offset || false) then Err cause.Range else text_in (drop offset object.cells))) (λ text. Exit text s)) m first_count start) (sym is) (placed-at object is q e w)

  null : 0 ≡ reg x.core 1 → Performs set (Exit [] s) m first_count start
  null e = exits-with 0 [] (sym e) (record { asks_for = refl; may = refl; bytes = refl })

pub exits-performs : (counting : Counting) (g : Ground) (symbol : ℕ → ℕ) (need : ℕ) (others : ℕ → Bool) (active : ℕ) (m : Map) (call : Call) (s : c.State) (x : State) → AtCall g others others active m call s x
    → Performs (setting_of g counting symbol (system_def SystemExits) others active need (entry_of m s call x)) (exits_call call.place call.arguments s) m first_count (record { state = x; vars = []; at = 0 })
exits-performs counting g symbol need others active m call s x at = by call.arguments refl at.arguments
  where
    by : (vs : List Value) → call.arguments ≡ vs → StandArguments g m vs x.core
        → Performs (setting_of g counting symbol (system_def SystemExits) others active need (entry_of m s call x)) (exits_call call.place vs s) m first_count (record { state = x; vars = []; at = 0 })
    by [] e h = tt
    by (Word zero ∷ []) e h = null counting g symbol need others active m call s x at (ap length e) h.0
    by (Word (suc n) ∷ []) e h = tt
    by (Missing place ∷ []) e h = tt
    by (Address p ∷ []) e h = pointed counting g symbol need others active m call s x at (ap length e) call.place p h.0
    by (v ∷ (w ∷ vs)) e h = tt
