-- The code of `write` does what `write` does.
use Rattle.std.proofs.Common.{◌≡◌, ◌≤◌, ◌<◌, inl, inr, ℕ, zero, suc, ◌+◌, ◌*◌, ◌^◌, ◌==◌, ◌||◌, ◌&&◌, nat_le, Bool, true, false, if◌then◌else◌, Option, Some, None, Result, Ok, Err, List, [], ◌∷◌, ◌++◌, map, length, take, drop, slice_get, slice_index, refl, sym, ap, ◌∙◌, subst, arith, length-drop}
use Rattle.std.specs.Prelude.{not}
use Rattle.std.specs.List.{list_any}
use Rattle.std.proofs.lemmas.Bool.{true≢false}
use Rattle.std.proofs.lemmas.Bool.Decides.{nat_tests}
use Rattle.std.proofs.lemmas.List.{length-take-le, append-nil}
use Rattle.p9_base.specs.declared.halt.Asked.TheVariants as asks
use Rattle.p9_base.specs.declared.halt.HaltCause.TheVariants as halts
use Rattle.p9_base.specs.Words.{word_sum, is_negative}
use Rattle.p9_base.specs.Core.{reg, readable, read_byte, read_word, bytes_from}
use Rattle.p9_base.specs.SystemCalls.{State, asked, asked_write}
use Rattle.p9_abs.specs.Steps.{Around, is_free, words_free}
use Rattle.p9_cmean.specs.declared.Cause.{Cause}
use Rattle.p9_cmean.specs.declared.Cause.TheVariants as cause
use Rattle.p9_cmean.specs.declared.Place.{Place}
use Rattle.p9_cmean.specs.Cells as c
use Rattle.p9_cmean.specs.Cells.{Pointer, Into, ToFunction, Cell, Unset, Byte, Part, Object, Value, Word, Address, Missing}
use Rattle.p9_cmean.specs.Plays.{Call, Play, Done}
use Rattle.p9_cmean.specs.Access.{and_go, object_at, accessed, is_unset, is_part}
use Rattle.p9_cmean.specs.Places.{or_wrong}
use Rattle.p9_cmean.specs.RunLaws.{IsAccess}
use Rattle.p9_cmean.specs.SystemCalls.{Write as SystemWrite, minus_one, byte_of, characters_in, written, write, transfer_call}
use Rattle.p9_cmean.proofs.Accesses.{access_inverts}
use Rattle.p9_sim.specs.Memory.{Map, HasAddress, Ground, word_of, moved_address, StandsValue, StandCells, Owner}
use Rattle.p9_sim.specs.Matching.{Match, StandArguments, AtCall, entry_of}
use Rattle.p9_sim.specs.Playing.{Counting, first_count, Performs}
use Rattle.p9_sim.specs.Functions.{setting_of}
use Rattle.p9_systems.specs.Systems.{system_def}
use Rattle.p9_systems.proofs.Bytes.{Spans, spans-from, readable-span, bytes-none, bytes-are}
use Rattle.p9_systems.proofs.Cells.{some-same, stands-drop, stands-take}
use Rattle.p9_systems.proofs.Calling.{free-range, asks-write}
use Rattle.p9_systems.proofs.Transfers.{set, y, start, here, ready, owned, unstored, plainly, refused, live-is}

-- cells that are numbers are the bytes that stand for them
pub characters-stand : (g : Ground) (m : Map) (byte : ℕ → ℕ) (cells : List Cell) (a : ℕ) → list_any is_unset cells ≡ false → list_any is_part cells ≡ false → StandCells g m cells byte a
    → (j : ℕ) → j < length cells → byte (a + j) ≡ slice_index (map byte_of cells) j
characters-stand g m byte [] a u p h j l = absurd (omega (arith, l))
characters-stand g m byte (Unset ∷ cells) a u p h j l = absurd (true≢false u)
characters-stand g m byte (Part k q ∷ cells) a u p h j l = absurd (true≢false p)
characters-stand g m byte (Byte n ∷ cells) a u p h zero l = let z : a + 0 ≡ a = omega arith in ap byte z ∙ sym h.0
characters-stand g m byte (Byte n ∷ cells) a u p h (suc j) l =
    let q : a + suc j ≡ a + 1 + j = omega arith in ap byte q ∙ characters-stand g m byte cells (a + 1) u p h.1 j (omega (arith, l))

pub map-length : {A B : Type 0} (f : A → B) (xs : List A) → length (map f xs) ≡ length xs
map-length f [] = refl
map-length f (x ∷ xs) = ap suc (map-length f xs)

-- where an access to a live object with an address is
pub record Reached (g : Ground) (m : Map) (s : c.State) (x : State) (p : Pointer) (word n : ℕ) (cells : List Cell) : Type 0 where
  pub number : ℕ
  pub offset : ℕ
  pub is_into : p ≡ Into number offset
  pub begins : ℕ
  pub placed : HasAddress m number begins
  pub is_object : slice_get s.objects number ≡ Some (object_at s.objects number)
  pub alive : (object_at s.objects number).is_alive ≡ true
  pub fits : offset + n ≤ length (object_at s.objects number).cells
  pub is_word : begins + offset ≡ word
  pub spans : Spans x.core word n
  pub owner : (i : ℕ) → i < n → Owner m s.objects (word + i)
  pub content : cells ≡ take n (drop offset (object_at s.objects number).cells)
  pub stand : StandCells g m cells (read_byte x.core) word

pub reached-of : (g : Ground) (others : ℕ → Bool) (active : ℕ) (m : Map) (s : c.State) (x : State) (p : Pointer) (word n : ℕ) (cells : List Cell) → Match g others active m s x → 0 < n
    → word_of g m p ≡ Some word → accessed s.objects p n 1 ≡ Ok cells → Reached g m s x p word n cells
reached-of g others active m s x p word n cells h some is found = by (access_inverts s.objects p n 1 cells found)
  where
    go : (number offset : ℕ) → p ≡ Into number offset → (object_at s.objects number).is_alive ≡ true → offset + n ≤ length (object_at s.objects number).cells
        → cells ≡ take n (drop offset (object_at s.objects number).cells) → (begins : ℕ) → HasAddress m number begins → word_sum begins offset ≡ word → Reached g m s x p word n cells
    go number offset into alive fits content begins placed sum =
        let live = live-is s.objects number alive in
        let b : ℕ = begins + offset in
        let owner : (i : ℕ) → i < n → Owner m s.objects (b + i) =
        λ i l. record { number = number; object = object_at s.objects number; start = begins; k = offset + i; is_object = live; alive = alive; placed = placed; inside = omega (arith, l, fits); is = omega arith } in
        let f = h.floor in let d = h.not_deep in
        let spans : Spans x.core b n = spans-from x.core b n h.gap (omega (arith, f, d)) some (λ i l. h.lie (b + i) (owner i l)) in
        let small : b < 2 ^ 32 = below b spans in
        let e : b ≡ word = omega (arith, sum, small) in
        record {
          number = number;
          offset = offset;
          is_into = into;
          begins = begins;
          placed = placed;
          is_object = live;
          alive = alive;
          fits = fits;
          is_word = e;
          spans = subst (λ w. Spans x.core w n) e spans;
          owner = λ i l. subst (λ w. Owner m s.objects (w + i)) e (owner i l);
          content = content;
          stand = subst (λ ks. StandCells g m ks (read_byte x.core) word) (sym content)
              (subst (StandCells g m (take n (drop offset (object_at s.objects number).cells)) (read_byte x.core)) e
              (stands-take g m (read_byte x.core) n (drop offset (object_at s.objects number).cells) b (stands-drop g m (read_byte x.core) offset (object_at s.objects number).cells begins (h.cells number begins (object_at s.objects number) live alive placed))));
        }
      where
        below : (b : ℕ) → Spans x.core b n → b < 2 ^ 32
        below b (inl q) = let q1 = q.1 in let u = h.gap in omega (arith, q1, u, some)
        below b (inr q) = let q1 = q.1 in omega (arith, q1, some)

    at-address : (number offset : ℕ) → p ≡ Into number offset → (o : Option (Option ℕ)) → slice_get m number ≡ o → moved_address o offset ≡ Some word
        → (object_at s.objects number).is_alive ≡ true → offset + n ≤ length (object_at s.objects number).cells → cells ≡ take n (drop offset (object_at s.objects number).cells) → Reached g m s x p word n cells
    at-address number offset into None e w alive fits content = absurd (let z : None ≡ Some word = w in cc)
    at-address number offset into (Some None) e w alive fits content = absurd (let z : None ≡ Some word = w in cc)
    at-address number offset into (Some (Some begins)) e w alive fits content = go number offset into alive fits content begins e (some-same (word_sum begins offset) word w)

    by : IsAccess s.objects p n 1 cells → Reached g m s x p word n cells
    by a = at-address a.object a.offset a.is_into (slice_get m a.object) refl (ap (word_of g m) (sym a.is_into) ∙ is) a.lives a.lies a.content

module _ (counting : Counting) (g : Ground) (symbol : ℕ → ℕ) (need : ℕ) (others : ℕ → Bool) (active : ℕ) (m : Map) (call : Call) (s : c.State) (x : State) (at : AtCall g others others active m call s x)
    (three : length call.arguments ≡ 3) where
  abbrev Does : Play Value → Type 0
  Does p = Performs (set SystemWrite counting g symbol need others active m call s x at three) p m first_count (start SystemWrite counting g symbol need others active m call s x at three)

  abbrev after : State
  after = y SystemWrite counting g symbol need others active m call s x at three

  abbrev stands_in : Around
  stands_in = here SystemWrite counting g symbol need others active m call s x at three

  d : ℕ
  d = reg x.core 1

  a : ℕ
  a = read_word x.core (reg x.core 29 + 8)

  n : ℕ
  n = read_word x.core (reg x.core 29 + 12)

  asks-it : asked after.core ≡ asked_write after.core d a n
  unfolding d a n
  asks-it =
      let r = ready SystemWrite counting g symbol need others active m call s x at three in
      let more = r.arguments_more (omega (arith, three)) in
      asks-write after.core (reg x.core 1) (read_word x.core (reg x.core 29 + 8)) (read_word x.core (reg x.core 29 + 12)) r.number r.argument_1 more.0 more.1

  -- n bytes from a on are written
  asks-bytes : (not (d == 1) || is_negative n) ≡ false → n ≤ readable after.core a → asked after.core ≡ asks.Write a n
  asks-bytes e l = asks-it ∙ (ap (λ b. if b then asks.Refused else (if nat_le n (readable after.core a) then asks.Write a n else asks.Stop (halts.BadAddress (a + readable after.core a)))) e
      ∙ ap (λ b. if b then asks.Write a n else asks.Stop (halts.BadAddress (a + readable after.core a))) (enough n (readable after.core a) l))
    where
      enough : (i j : ℕ) → i ≤ j → nat_le i j ≡ true
      enough i j h = grind (arith, nat_tests)

  asks-refused : (not (d == 1) || is_negative n) ≡ true → asked after.core ≡ asks.Refused
  asks-refused e = asks-it ∙ ap (λ b. if b then asks.Refused else (if nat_le n (readable after.core a) then asks.Write a n else asks.Stop (halts.BadAddress (a + readable after.core a)))) e

  words : words_free stands_in (reg after.core 29) 3 ≡ true
  words = let r = ready SystemWrite counting g symbol need others active m call s x at three in r.words_3 (omega (arith, three))

  both-free : (p q : Bool) → p ≡ true → q ≡ true → (p && q) ≡ true
  both-free p q e f = rw (e, f) refl

  nothing : (place : Place) → (not (d == 1) || is_negative n) ≡ false → n ≡ 0 → Does (Done (Word 0) s)
  nothing place e z =
      plainly SystemWrite counting g symbol need others active m call s x at three (asks.Write a 0) 0 s.output
      (subst (λ k. asked after.core ≡ asks.Write a k) z (asks-bytes e (omega (arith, z))))
      (both-free (words_free stands_in (reg after.core 29) 3) true words refl) (refl, refl)
      (ap (λ l. after.out ++ l) (bytes-none after.core a) ∙ (append-nil after.out ∙ at.matched.output)) refl (λ byte. refl)

  some : (place : Place) (k : ℕ) (p : Pointer) → (not (d == 1) || is_negative n) ≡ false → suc k ≡ n → word_of g m p ≡ Some a → (r : Result (List Cell) Cause) → accessed s.objects p (suc k) 1 ≡ r
      → Does (or_wrong place s (and_go r characters_in) (λ characters. Done (Word (suc k)) (record s { output = s.output ++ characters })))
  some place k p e is word (Err why) found = tt
  some place k p e is word (Ok cells) found = by (list_any is_unset cells) (list_any is_part cells) refl refl
    where
      at-bytes : list_any is_unset cells ≡ false → list_any is_part cells ≡ false → Does (Done (Word (suc k)) (record s { output = s.output ++ map byte_of cells }))
      at-bytes u q =
          let ready_is = ready SystemWrite counting g symbol need others active m call s x at three in
          let r : Reached g m s x p a (suc k) cells = reached-of g others active m s x p a (suc k) cells at.matched (omega arith) word found in
          let fits = r.fits in
          let size : length cells ≡ suc k = ap length r.content ∙ length-take-le (suc k) (drop r.offset (object_at s.objects r.number).cells) (let dl = length-drop r.offset (object_at s.objects r.number).cells in omega (arith, dl, fits)) in
          let long : length (map byte_of cells) ≡ suc k = map-length byte_of cells ∙ size in
          let spans : Spans after.core a (suc k) = moved a (suc k) r.spans in
          let reach : suc k ≤ readable after.core a = readable-span after.core a (suc k) ready_is.text ready_is.laid (omega arith) spans in
          let bytes : bytes_from after.core a (suc k) ≡ map byte_of cells =
          subst (λ i. bytes_from after.core a i ≡ map byte_of cells) long
          (bytes-are after.core a (map byte_of cells) ready_is.laid (subst (Spans after.core a) (sym long) spans)
          (λ j l. unstored SystemWrite counting g symbol need others active m call s x at three (a + j) (owned SystemWrite counting g symbol need others active m call s x at three (a + j) (r.owner j (omega (arith, l, long))))
          ∙ characters-stand g m (read_byte x.core) cells a u q r.stand j (omega (arith, l, long, size)))) in
          plainly SystemWrite counting g symbol need others active m call s x at three (asks.Write a (suc k)) (suc k) (s.output ++ map byte_of cells)
          (subst (λ i. asked after.core ≡ asks.Write a i) (sym is) (asks-bytes e (subst (λ i. i ≤ readable after.core a) is reach)))
          (both-free (words_free stands_in (reg after.core 29) 3) (is_free stands_in.banned a (suc k)) words
          (free-range stands_in.banned (suc k) a (λ i l. ap (λ t. t || false) (at.matched.free (a + i) (r.owner i l))))) (refl, refl)
          (ap (λ l. after.out ++ l) bytes ∙ ap (λ l. l ++ map byte_of cells) at.matched.output) refl (λ byte. refl)
        where
          moved : (b i : ℕ) → Spans x.core b i → Spans after.core b i
          moved b i (inl z) = inl z
          moved b i (inr z) = inr z

      by : (u q : Bool) → list_any is_unset cells ≡ u → list_any is_part cells ≡ q
          → Does (or_wrong place s (if u then Err cause.Unset else (if q then Err cause.Mixed else Ok (map byte_of cells))) (λ characters. Done (Word (suc k)) (record s { output = s.output ++ characters })))
      by true q e f = tt
      by false true e f = tt
      by false false e f = at-bytes e f

  counted : (place : Place) (address : Value) (k : ℕ) → (not (d == 1) || is_negative n) ≡ false → k ≡ n → StandsValue g m address a → Does (written place address k s)
  counted place address zero e is stands = nothing place e (sym is)
  counted place (Word zero) (suc k) e is stands = tt
  counted place (Word (suc i)) (suc k) e is stands = tt
  counted place (Missing q) (suc k) e is stands = tt
  counted place (Address p) (suc k) e is stands = some place k p e is stands (accessed s.objects p (suc k) 1) refl

  writing : (place : Place) (address : Value) (k : ℕ) → k ≡ n → StandsValue g m address a → Does (write place d address k s)
  writing place address k is stands = by (not (d == 1)) (is_negative k) refl refl
    where
      negative : (i j : ℕ) → i ≡ j → is_negative i ≡ is_negative j
      negative i j e = ap is_negative e

      by : (p q : Bool) → not (d == 1) ≡ p → is_negative k ≡ q → Does (if p then Done minus_one s else (if q then Done minus_one s else written place address k s))
      by true q e f = refused SystemWrite counting g symbol need others active m call s x at three (asks-refused (rw e refl))
      by false true e f = refused SystemWrite counting g symbol need others active m call s x at three (asks-refused (let z : is_negative n ≡ true = sym (negative k n is) ∙ f in rw (e, z) refl))
      by false false e f = counted place address k (let z : is_negative n ≡ false = sym (negative k n is) ∙ f in rw (e, z) refl) is stands

  pub write-with : (place : Place) (descriptor address count : Value) → StandsValue g m descriptor (reg x.core 1) → StandsValue g m address (read_word x.core (reg x.core 29 + 8)) → StandsValue g m count (read_word x.core (reg x.core 29 + 12))
      → Does (transfer_call write place (descriptor ∷ address ∷ count ∷ []) s)
  unfolding d a n
  write-with place (Word i) address (Word k) h1 h2 h3 = subst (λ j. Does (write place j address k s)) (sym h1) (writing place address k h3 h2)
  write-with place (Address p) address count h1 h2 h3 = tt
  write-with place (Missing p) address count h1 h2 h3 = tt
  write-with place (Word i) address (Address p) h1 h2 h3 = tt
  write-with place (Word i) address (Missing p) h1 h2 h3 = tt

pub write-performs : (counting : Counting) (g : Ground) (symbol : ℕ → ℕ) (need : ℕ) (others : ℕ → Bool) (active : ℕ) (m : Map) (call : Call) (s : c.State) (x : State) → AtCall g others others active m call s x
    → Performs (setting_of g counting symbol (system_def SystemWrite) others active need (entry_of m s call x)) (transfer_call write call.place call.arguments s) m first_count (record { state = x; vars = []; at = 0 })
write-performs counting g symbol need others active m call s x at = by call.arguments refl at.arguments
  where
    by : (vs : List Value) → call.arguments ≡ vs → StandArguments g m vs x.core
        → Performs (setting_of g counting symbol (system_def SystemWrite) others active need (entry_of m s call x)) (transfer_call write call.place vs s) m first_count (record { state = x; vars = []; at = 0 })
    by [] e h = tt
    by (u ∷ []) e h = tt
    by (u ∷ (v ∷ [])) e h = tt
    by (u ∷ (v ∷ (w ∷ []))) e h =
        let z1 : reg x.core 29 + 4 + 4 * 1 ≡ reg x.core 29 + 8 = omega arith in
        let z2 : reg x.core 29 + 4 + 4 * (1 + 1) ≡ reg x.core 29 + 12 = omega arith in
        write-with counting g symbol need others active m call s x at (ap length e) call.place u v w h.0
        (subst (λ k. StandsValue g m v (read_word x.core k)) z1 h.1.0) (subst (λ k. StandsValue g m w (read_word x.core k)) z2 h.1.1.0)
    by (u ∷ (v ∷ (w ∷ (z ∷ vs)))) e h = tt
