-- The code of `read` does what `read` does.
use Rattle.std.proofs.Common.{◌≡◌, ◌≤◌, ◌<◌, ◌⊎◌, inl, inr, ℕ, zero, suc, ◌+◌, ◌-◌, ◌*◌, ◌==◌, ◌||◌, ◌&&◌, nat_lt, nat_le, min, Bool, true, false, if◌then◌else◌, Some, Result, Ok, Err, List, [], ◌∷◌, map, length, take, drop, slice_get, slice_index, refl, sym, ap, ◌∙◌, subst, arith}
use Rattle.std.specs.Prelude.{not}
use Rattle.std.proofs.lemmas.Bool.Decides.{nat_tests}
use Rattle.p9_base.specs.declared.halt.Asked.{Asked}
use Rattle.p9_base.specs.declared.halt.Asked.TheVariants as asks
use Rattle.p9_base.specs.declared.halt.HaltCause.TheVariants as halts
use Rattle.p9_base.specs.Words.{IsWord, is_negative}
use Rattle.p9_base.specs.Core.{Core, text_start, stack_start, reg, with_reg, writable, read_byte, read_word, over, with_bytes}
use Rattle.p9_base.specs.SystemCalls.{State, asked, asked_read, called}
use Rattle.p9_base.specs.Holding.{LaidOut}
use Rattle.p9_abs.specs.Steps.{Around, is_free, words_free}
use Rattle.p9_cmean.specs.declared.Cause.{Cause}
use Rattle.p9_cmean.specs.declared.Place.{Place}
use Rattle.p9_cmean.specs.Cells as c
use Rattle.p9_cmean.specs.Cells.{Pointer, Into, ToFunction, Cell, Byte, Object, Value, Word, Address, Missing}
use Rattle.p9_cmean.specs.Plays.{Call, Play, Done}
use Rattle.p9_cmean.specs.Access.{and_go, object_at, accessed, with_cells}
use Rattle.p9_cmean.specs.Places.{or_wrong}
use Rattle.p9_cmean.specs.SystemCalls.{Read as SystemRead, minus_one, filled, read, transfer_call}
use Rattle.p9_sim.specs.Memory.{Map, Ground, word_of, StandsValue, StandCells, Owner}
use Rattle.p9_sim.specs.Matching.{Match, SameObjects, IsArgument, StandArguments, AtCall, entry_of}
use Rattle.p9_sim.specs.Playing.{Counting, first_count, Performs}
use Rattle.p9_sim.specs.Functions.{setting_of}
use Rattle.p9_systems.specs.Systems.{system_def}
use Rattle.p9_systems.proofs.Bytes.{Spans, spans-less, writable-span, IsFilled, filled-of, filled-none}
use Rattle.p9_systems.proofs.Matched.{Near, match-written, same-written, hidden-written, answers-near}
use Rattle.p9_systems.proofs.Calling.{free-range, asks-read}
use Rattle.p9_systems.proofs.Transfers.{set, y, start, here, ready, owned, unstored, plainly, refused, Answering, final, split, returning, near-final, result-final, holds-called}
use Rattle.p9_systems.proofs.Writing.{map-length, Reached, reached-of}

take-fewer : (n : ℕ) (xs : List ℕ) → take (min n (length xs)) xs ≡ take n xs
take-fewer zero xs = let e : min 0 (length xs) ≡ 0 = omega arith in ap (λ k. take k xs) e
take-fewer (suc n) [] = let e : min (suc n) 0 ≡ 0 = omega arith in ap (λ k. take k []) e
take-fewer (suc n) (b ∷ xs) = let e : min (suc n) (suc (length xs)) ≡ suc (min n (length xs)) = omega arith in ap (λ k. take k (b ∷ xs)) e ∙ ap (λ l. b ∷ l) (take-fewer n xs)

drop-fewer : (n : ℕ) (xs : List ℕ) → drop (min n (length xs)) xs ≡ drop n xs
drop-fewer zero xs = let e : min 0 (length xs) ≡ 0 = omega arith in ap (λ k. drop k xs) e
drop-fewer (suc n) [] = let e : min (suc n) 0 ≡ 0 = omega arith in ap (λ k. drop k []) e
drop-fewer (suc n) (b ∷ xs) = let e : min (suc n) (suc (length xs)) ≡ suc (min n (length xs)) = omega arith in ap (λ k. drop k (b ∷ xs)) e ∙ drop-fewer n xs

take-fewer-length : (n : ℕ) (xs : List ℕ) → length (take n xs) ≡ min n (length xs)
take-fewer-length zero xs = omega arith
take-fewer-length (suc n) [] = omega arith
take-fewer-length (suc n) (b ∷ xs) = let e = take-fewer-length n xs in omega (arith, e)

-- bytes stand for the numbers that they are
bytes-stand : (g : Ground) (m : Map) (byte : ℕ → ℕ) (xs : List ℕ) (a : ℕ) → ((j : ℕ) → j < length xs → byte (a + j) ≡ slice_index xs j) → StandCells g m (map Byte xs) byte a
bytes-stand g m byte [] a h = tt
bytes-stand g m byte (b ∷ xs) a h =
    let z : a + 0 ≡ a = omega arith in (
      sym (ap byte (sym z) ∙ h 0 (omega arith)),
      bytes-stand g m byte xs (a + 1) (λ j l. let q : a + 1 + j ≡ a + suc j = omega arith in ap byte q ∙ h (suc j) (omega (arith, l))),
    )

filled-any : (x : Core) (a n : ℕ) (xs : List ℕ) → LaidOut x → text_start < x.data_start → length xs ≤ n → Spans x a n → IsFilled x a xs (with_bytes x a xs)
filled-any x a n [] laid behind l spans = filled-none x a
filled-any x a n (b ∷ xs) laid behind l spans = filled-of x a (b ∷ xs) laid behind (omega arith) (spans-less x a n (length (b ∷ xs)) l spans)

answering-read : (a n : ℕ) (y : State) → Answering (asks.Read a n) (min n (length y.left)) y
answering-read a n y = by (nat_lt a stack_start)
  where
    xs : List ℕ
    xs = take (min n (length y.left)) y.left

    k : ℕ
    k = min n (length y.left)

    by : (b : Bool)
        → (let d : Core = (if b then record y.core { low = over y.core.low (a - text_start) (take (min n (length y.left)) y.left) } else record y.core { stack = over y.core.stack (a - stack_start) (take (min n (length y.left)) y.left) }) in
        (with_reg d.regs 1 (min n (length y.left)) ≡ with_reg y.core.regs 1 (min n (length y.left))) × (d.ending ≡ y.core.ending))
    by true = (refl, refl)
    by false = (refl, refl)

module _ (counting : Counting) (g : Ground) (symbol : ℕ → ℕ) (need : ℕ) (others : ℕ → Bool) (active : ℕ) (m : Map) (call : Call) (s : c.State) (x : State) (at : AtCall g others others active m call s x)
    (three : length call.arguments ≡ 3) where
  abbrev Does : Play Value → Type 0
  Does p = Performs (set SystemRead counting g symbol need others active m call s x at three) p m first_count (start SystemRead counting g symbol need others active m call s x at three)

  abbrev after : State
  after = y SystemRead counting g symbol need others active m call s x at three

  abbrev stands_in : Around
  stands_in = here SystemRead counting g symbol need others active m call s x at three

  d : ℕ
  d = reg x.core 1

  a : ℕ
  a = read_word x.core (reg x.core 29 + 8)

  n : ℕ
  n = read_word x.core (reg x.core 29 + 12)

  asks-it : asked after.core ≡ asked_read after.core d a n
  unfolding d a n
  asks-it =
      let r = ready SystemRead counting g symbol need others active m call s x at three in
      let more = r.arguments_more (omega (arith, three)) in
      asks-read after.core (reg x.core 1) (read_word x.core (reg x.core 29 + 8)) (read_word x.core (reg x.core 29 + 12)) r.number r.argument_1 more.0 more.1

  -- the room is n bytes from a on
  asks-room : (not (d == 0) || is_negative n) ≡ false → n ≤ writable after.core a → asked after.core ≡ asks.Read a n
  asks-room e l = asks-it ∙ (ap (λ b. if b then asks.Refused else (if nat_le n (writable after.core a) then asks.Read a n else asks.Stop (halts.BadAddress (a + writable after.core a)))) e
      ∙ ap (λ b. if b then asks.Read a n else asks.Stop (halts.BadAddress (a + writable after.core a))) (enough n (writable after.core a) l))
    where
      enough : (i j : ℕ) → i ≤ j → nat_le i j ≡ true
      enough i j h = grind (arith, nat_tests)

  asks-refused : (not (d == 0) || is_negative n) ≡ true → asked after.core ≡ asks.Refused
  asks-refused e = asks-it ∙ ap (λ b. if b then asks.Refused else (if nat_le n (writable after.core a) then asks.Read a n else asks.Stop (halts.BadAddress (a + writable after.core a)))) e

  words : words_free stands_in (reg after.core 29) 3 ≡ true
  words = let r = ready SystemRead counting g symbol need others active m call s x at three in r.words_3 (omega (arith, three))

  both-free : (p q : Bool) → p ≡ true → q ≡ true → (p && q) ≡ true
  both-free p q e f = rw (e, f) refl

  -- a room without bytes
  nothing : (not (d == 0) || is_negative n) ≡ false → n ≡ 0 → Does (Done (Word 0) s)
  nothing e z =
      plainly SystemRead counting g symbol need others active m call s x at three (asks.Read a 0) 0 s.output
      (subst (λ k. asked after.core ≡ asks.Read a k) z (asks-room e (omega (arith, z))))
      (both-free (words_free stands_in (reg after.core 29) 3) true words refl)
      (subst (λ k. Answering (asks.Read a 0) k after) none (answering-read a 0 after))
      at.matched.output (ap (λ k. drop k x.left) none) (λ byte. same byte)
    where
      none : min 0 (length x.left) ≡ 0
      none = omega arith

      f0 : IsFilled after.core a [] (with_bytes after.core a [])
      f0 = filled-none after.core a

      same : (byte : ℕ) → read_byte (called (asks.Read a 0) after).core byte ≡ read_byte after.core byte
      same byte =
          ap (λ k. (let u : Core = with_bytes after.core a (take k x.left) in read_byte u byte)) none
          ∙ f0.outside byte (by (split byte a))
        where
          by : (byte < a) ⊎ (a ≤ byte) → (byte < a) ⊎ (a + 0 ≤ byte)
          by (inl l) = inl l
          by (inr l) = inr (omega (arith, l))

  -- a room in a live object
  module _ (e : (not (d == 0) || is_negative n) ≡ false) (some : 0 < n) (p : Pointer) (cells : List Cell) (r : Reached g m s x p a n cells) where
    abbrev k : ℕ
    k = min n (length x.left)

    abbrev xs : List ℕ
    xs = take k x.left

    abbrev q : Asked
    q = asks.Read a n

    spans : Spans after.core a n
    spans = by r.spans
      where
        by : Spans x.core a n → Spans after.core a n
        by (inl z) = inl z
        by (inr z) = inr z

    is : asked after.core ≡ q
    is = let w = ready SystemRead counting g symbol need others active m call s x at three in asks-room e (writable-span after.core a n w.text w.laid some spans)

    answering : Answering q k after
    answering = answering-read a n after

    xs-length : length xs ≡ k
    xs-length = take-fewer-length k x.left ∙ (let z : min k (length x.left) ≡ k = omega arith in z)

    filled-is : IsFilled after.core a xs (with_bytes after.core a xs)
    filled-is =
        let w = ready SystemRead counting g symbol need others active m call s x at three in let b = at.matched.behind in let st = at.matched.data_start in let l = xs-length in
        filled-any after.core a n xs w.laid (omega (arith, b, st)) (omega (arith, l)) spans

    object : Object
    object = object_at s.objects r.number

    fits : r.offset + length (map Byte xs) ≤ length (object_at s.objects r.number).cells
    fits = let f = r.fits in let l = xs-length in let ml = map-length Byte xs in omega (arith, f, l, ml)

    -- a byte that isn't written is as it was
    same : (byte : ℕ) → (byte < a) ⊎ (a + length xs ≤ byte) → (IsArgument x.core 3 byte → ⊥) → read_byte (called q after).core byte ≡ read_byte x.core byte
    same byte o out = (let f = filled-is in f.outside byte o) ∙ unstored SystemRead counting g symbol need others active m call s x at three byte out

    matched : (to : ℕ) → IsWord to
        → Match g others active m (record { objects = with_cells s.objects (Into r.number r.offset) (map Byte xs); input = drop k x.left; output = x.out }) (final (called q after) to)
    matched to word =
        let near = near-final SystemRead counting g symbol need others active m call s x at three q k to word is answering in
        let ml = map-length Byte xs in let w = r.is_word in
        match-written g others others active m s x (final (called q after) to) at.matched near r.number r.begins r.offset (object_at s.objects r.number) (map Byte xs) r.is_object r.alive r.placed fits
        (λ byte low own o. same byte (side byte o) (owned SystemRead counting g symbol need others active m call s x at three byte own))
        (bytes-stand g m (λ byte. read_byte (called q after).core byte) xs (r.begins + r.offset) (λ j l. ap (λ b. read_byte (called q after).core (b + j)) w ∙ (let f = filled-is in f.within j l)))
        at.matched.free (holds-called SystemRead counting g symbol need others active m call s x at three q is).left
      where
        side : (byte : ℕ) → (byte < r.begins + r.offset) ⊎ (r.begins + r.offset + length (map Byte xs) ≤ byte) → (byte < a) ⊎ (a + length xs ≤ byte)
        side byte (inl z) = let w = r.is_word in inl (omega (arith, z, w))
        side byte (inr z) = let w = r.is_word in let ml = map-length Byte xs in inr (omega (arith, z, w, ml))

    abbrev left_behind : c.State
    left_behind = record { objects = with_cells s.objects (Into r.number r.offset) (map Byte (take n s.input)); input = drop n s.input; output = s.output }

    same-state : record { objects = with_cells s.objects (Into r.number r.offset) (map Byte xs); input = drop k x.left; output = x.out } ≡ left_behind
    same-state = λ i. record {
      objects = with_cells s.objects (Into r.number r.offset) (map Byte (front i));
      input = back i;
      output = at.matched.output i;
    }
      where
        front : xs ≡ take n s.input
        front = take-fewer n x.left ∙ ap (take n) at.matched.input

        back : drop k x.left ≡ drop n s.input
        back = drop-fewer n x.left ∙ ap (drop n) at.matched.input

    counted : length (take n s.input) ≡ k
    counted = ap (λ l. length (take n l)) (sym at.matched.input) ∙ take-fewer-length n x.left

    reads : Does (Done (Word (length (take n s.input))) left_behind)
    reads =
        returning SystemRead counting g symbol need others active m call s x at three q k (Word (length (take n s.input))) left_behind is
        (both-free (words_free stands_in (reg after.core 29) 3) (is_free stands_in.banned a n) words (free-range stands_in.banned n a (λ i l. ap (λ t. t || false) (at.matched.free (a + i) (r.owner i l)))))
        answering
        (λ to word. answers-near g (λ byte. false) others active m s left_behind x (final (called q after) to) (length call.arguments) (Word (length (take n s.input)))
        (subst (λ t. Match g others active m t (final (called q after) to)) same-state (matched to word))
        (near-final SystemRead counting g symbol need others active m call s x at three q k to word is answering)
        (subst (λ ys. SameObjects s.objects (with_cells s.objects (Into r.number r.offset) (map Byte ys))) front (same-written g others others active m s x (final (called q after) to) at.matched (near to word) r.number r.begins r.offset (object_at s.objects r.number) (map Byte xs) r.is_object r.alive r.placed fits))
        (λ j none. subst (λ ys. slice_get (with_cells s.objects (Into r.number r.offset) (map Byte ys)) j ≡ slice_get s.objects j) front
        (hidden-written g others others active m s x (final (called q after) to) at.matched (near to word) r.number r.begins r.offset (object_at s.objects r.number) (map Byte xs) r.is_object r.alive r.placed fits j none))
        (counted ∙ sym (result-final SystemRead counting g symbol need others active m call s x at three q k to answering))
        (λ byte where_ own out. same byte (away byte own) (λ i. out (let i0 = i.0 in let i1 = i.1 in (i0, omega (arith, i1, three))))))
      where
        front : xs ≡ take n s.input
        front = take-fewer n x.left ∙ ap (take n) at.matched.input

        near : (to : ℕ) → IsWord to → Near x (final (called q after) to)
        near to word = near-final SystemRead counting g symbol need others active m call s x at three q k to word is answering

        away : (byte : ℕ) → (Owner m s.objects byte → ⊥) → (byte < a) ⊎ (a + length xs ≤ byte)
        away byte own = by (split byte a) (split byte (a + length xs))
          where
            by : (byte < a) ⊎ (a ≤ byte) → (byte < a + length xs) ⊎ (a + length xs ≤ byte) → (byte < a) ⊎ (a + length xs ≤ byte)
            by (inl l) z = inl l
            by (inr l) (inr z) = inr z
            by (inr l) (inl z) =
                let ln = xs-length in
                let eq : a + (byte - a) ≡ byte = omega (arith, l) in
                absurd (own (subst (Owner m s.objects) eq (r.owner (byte - a) (omega (arith, l, z, ln)))))

  room-of : (place : Place) (k : ℕ) (p : Pointer) → (not (d == 0) || is_negative n) ≡ false → suc k ≡ n → word_of g m p ≡ Some a → (o : Result (List Cell) Cause) → accessed s.objects p (suc k) 1 ≡ o
      → Does (or_wrong place s (and_go o (λ cells. Ok p)) (λ pointer.
      Done (Word (length (take (suc k) s.input))) (record s { objects = with_cells s.objects pointer (map Byte (take (suc k) s.input)); input = drop (suc k) s.input })))
  room-of place k p e is word (Err why) found = tt
  room-of place k p e is word (Ok cells) found =
      let r : Reached g m s x p a (suc k) cells = reached-of g others active m s x p a (suc k) cells at.matched (omega arith) word found in
      let t : Reached g m s x p a n cells = subst (λ i. Reached g m s x p a i cells) is r in
      let done : Does (Done (Word (length (take n s.input))) (record { objects = with_cells s.objects (Into t.number t.offset) (map Byte (take n s.input)); input = drop n s.input; output = s.output })) = reads e (omega (arith, is)) p cells t in
      subst (λ i. Does (Done (Word (length (take i s.input))) (record { objects = with_cells s.objects p (map Byte (take i s.input)); input = drop i s.input; output = s.output }))) (sym is)
      (subst (λ v. Does (Done (Word (length (take n s.input))) (record { objects = with_cells s.objects v (map Byte (take n s.input)); input = drop n s.input; output = s.output }))) (sym t.is_into) done)

  counted-read : (place : Place) (address : Value) (k : ℕ) → (not (d == 0) || is_negative n) ≡ false → k ≡ n → StandsValue g m address a → Does (filled place address k s)
  counted-read place address zero e is stands = nothing e (sym is)
  counted-read place (Word zero) (suc k) e is stands = tt
  counted-read place (Word (suc i)) (suc k) e is stands = tt
  counted-read place (Missing v) (suc k) e is stands = tt
  counted-read place (Address p) (suc k) e is stands = room-of place k p e is stands (accessed s.objects p (suc k) 1) refl

  reading : (place : Place) (address : Value) (k : ℕ) → k ≡ n → StandsValue g m address a → Does (read place d address k s)
  reading place address k is stands = by (not (d == 0)) (is_negative k) refl refl
    where
      by : (p q : Bool) → not (d == 0) ≡ p → is_negative k ≡ q → Does (if p then Done minus_one s else (if q then Done minus_one s else filled place address k s))
      by true q e f = refused SystemRead counting g symbol need others active m call s x at three (asks-refused (rw e refl))
      by false true e f = refused SystemRead counting g symbol need others active m call s x at three (asks-refused (let z : is_negative n ≡ true = sym (ap is_negative is) ∙ f in rw (e, z) refl))
      by false false e f = counted-read place address k (let z : is_negative n ≡ false = sym (ap is_negative is) ∙ f in rw (e, z) refl) is stands

  pub read-with : (place : Place) (descriptor address count : Value) → StandsValue g m descriptor (reg x.core 1) → StandsValue g m address (read_word x.core (reg x.core 29 + 8)) → StandsValue g m count (read_word x.core (reg x.core 29 + 12))
      → Does (transfer_call read place (descriptor ∷ address ∷ count ∷ []) s)
  unfolding d a n
  read-with place (Word i) address (Word k) h1 h2 h3 = subst (λ j. Does (read place j address k s)) (sym h1) (reading place address k h3 h2)
  read-with place (Address p) address count h1 h2 h3 = tt
  read-with place (Missing p) address count h1 h2 h3 = tt
  read-with place (Word i) address (Address p) h1 h2 h3 = tt
  read-with place (Word i) address (Missing p) h1 h2 h3 = tt

pub read-performs : (counting : Counting) (g : Ground) (symbol : ℕ → ℕ) (need : ℕ) (others : ℕ → Bool) (active : ℕ) (m : Map) (call : Call) (s : c.State) (x : State) → AtCall g others others active m call s x
    → Performs (setting_of g counting symbol (system_def SystemRead) others active need (entry_of m s call x)) (transfer_call read call.place call.arguments s) m first_count (record { state = x; vars = []; at = 0 })
read-performs counting g symbol need others active m call s x at = by call.arguments refl at.arguments
  where
    by : (vs : List Value) → call.arguments ≡ vs → StandArguments g m vs x.core
        → Performs (setting_of g counting symbol (system_def SystemRead) others active need (entry_of m s call x)) (transfer_call read call.place vs s) m first_count (record { state = x; vars = []; at = 0 })
    by [] e h = tt
    by (u ∷ []) e h = tt
    by (u ∷ (v ∷ [])) e h = tt
    by (u ∷ (v ∷ (w ∷ []))) e h =
        let z1 : reg x.core 29 + 4 + 4 * 1 ≡ reg x.core 29 + 8 = omega arith in
        let z2 : reg x.core 29 + 4 + 4 * (1 + 1) ≡ reg x.core 29 + 12 = omega arith in
        read-with counting g symbol need others active m call s x at (ap length e) call.place u v w h.0
        (subst (λ k. StandsValue g m v (read_word x.core k)) z1 h.1.0) (subst (λ k. StandsValue g m w (read_word x.core k)) z2 h.1.1.0)
    by (u ∷ (v ∷ (w ∷ (z ∷ vs)))) e h = tt
