-- A match is kept where bytes change that no object owns, and where bytes of one object change with its cells.
use Rattle.std.proofs.Common.{◌≡◌, ◌≢◌, ◌≤◌, ◌<◌, ◌⊎◌, inl, inr, ℕ, ◌+◌, ◌-◌, ◌%◌, Bool, true, false, Some, None, List, length, slice_get, slice_set, refl, sym, ap, ◌∙◌, subst, arith}
use Rattle.std.proofs.lemmas.Bool.Decides.{nat_tests}
use Rattle.std.proofs.lemmas.List.{length-set}
use Rattle.std.proofs.lemmas.Option.{slice_get_past, slice_get_within}
use Rattle.std.specs.Prelude.{nat_lt}
use Rattle.p9_base.specs.Core.{text_start, stack_start, stack_end, reg, read_byte}
use Rattle.p9_base.specs.SystemCalls.{State}
use Rattle.p9_base.specs.Holding.{HoldsWords, AreBytes}
use Rattle.p9_abs.specs.Keeping.{SameSizes}
use Rattle.p9_cmean.specs.Cells as c
use Rattle.p9_cmean.specs.Cells.{Cell, Object, Value}
use Rattle.p9_cmean.specs.Access.{overwritten}
use Rattle.p9_cmean.specs.Turns.{room}
use Rattle.p9_sim.specs.Memory.{Map, HasAddress, Ground, StandsValue, StandCells, Owner}
use Rattle.p9_sim.specs.Matching.{IsLaidOut, Lies, Match, SameObjects, IsArgument, Answers}
use Rattle.p9_sim.proofs.Registers.{extends-self}
use Rattle.p9_systems.proofs.Cells.{get-set_same, get-set_other, same-or-not, some-same, stands-same, overwritten-length, stands-overwritten}

-- the second state has other bytes in memory, and other registers than R29 and R30
pub record Near (x y : State) : Type 0 where
  pub stack : reg y.core 29 ≡ reg x.core 29
  pub base : reg y.core 30 ≡ reg x.core 30
  pub sizes : SameSizes x y
  pub ending : y.core.ending ≡ x.core.ending
  pub words : HoldsWords y.core

laid-near : (x y : State) → Near x y → IsLaidOut x → IsLaidOut y
laid-near x y n l =
    let d = n.sizes.data_start in let low = n.sizes.low in let stack = n.sizes.stack in
    let gap = l.gap in let within = l.data_and_bss in let above = l.above in let size = l.stack_size in
    record { text = l.text; gap = omega (arith, d, gap); data_and_bss = omega (arith, d, low, within); above = omega (arith, low, above); stack_size = stack ∙ size }

lies-near : (x y : State) (byte : ℕ) → Near x y → Lies x.core byte → Lies y.core byte
lies-near x y byte n (inl h) = let d = n.sizes.data_start in let low = n.sizes.low in let h0 = h.0 in let h1 = h.1 in inl (omega (arith, d, h0), omega (arith, low, h1))
lies-near x y byte n (inr h) = let s = n.stack in let h0 = h.0 in inr (omega (arith, s, h0), h.1)

pub lies-above : (g : Ground) (shut : ℕ → Bool) (active : ℕ) (m : Map) (s : c.State) (x : State) (byte : ℕ) → Match g shut active m s x → Lies x.core byte → text_start ≤ byte
lies-above g shut active m s x byte h (inl l) = let t = h.laid.gap in let l0 = l.0 in omega (arith, t, l0)
lies-above g shut active m s x byte h (inr l) = let f = h.floor in let d = h.not_deep in let l0 = l.0 in omega (arith, f, d, l0)

module _ (g : Ground) (shut other : ℕ → Bool) (active : ℕ) (m : Map) (s : c.State) (x y : State) (h : Match g shut active m s x) (n : Near x y) where
  -- bytes that objects own are the same
  pub match-near : ((byte : ℕ) → Owner m s.objects byte → read_byte y.core byte ≡ read_byte x.core byte) → ((byte : ℕ) → Owner m s.objects byte → other byte ≡ false) → AreBytes y.left
      → Match g other active m (record s { output = y.out; input = y.left }) y
  match-near same free bytes = record {
    count = h.count;
    statics = h.statics;
    fourfold = h.fourfold;
    cells = λ number start object is alive placed. stands-same g m (read_byte x.core) (read_byte y.core) object.cells start
        (λ k l. same (start + k) (record { number = number; object = object; start = start; k = k; is_object = is; alive = alive; placed = placed; inside = l; is = refl }))
        (h.cells number start object is alive placed);
    lie = λ byte w. lies-near x y byte n (h.lie byte w);
    disjoint = h.disjoint;
    free = free;
    output = refl;
    input = refl;
    base = n.base ∙ h.base;
    aligned = ap (λ z. z % 4) n.stack ∙ h.aligned;
    top = subst (λ z. z < stack_end) (sym n.stack) h.top;
    floor = subst (λ z. stack_start + room ≤ z + active) (sym n.stack) h.floor;
    not_deep = h.not_deep;
    words = n.words;
    bytes = bytes;
    laid = laid-near x y n h.laid;
    data_start = n.sizes.data_start ∙ h.data_start;
    behind = h.behind;
    gap = (let low = n.sizes.low in let up = h.gap in omega (arith, low, up));
    order = n.sizes.order ∙ h.order;
    running = n.ending ∙ h.running;
  }

  -- cells of one object change
  module _ (number start offset : ℕ) (object : Object) (cells : List Cell) (is : slice_get s.objects number ≡ Some object) (alive : object.is_alive ≡ true) (placed : HasAddress m number start)
      (fits : offset + length cells ≤ length object.cells) where
    abbrev pub new_objects : List Object
    new_objects = slice_set s.objects number (overwritten object offset cells)

    here : slice_get new_objects number ≡ Some (overwritten object offset cells)
    here = get-set_same s.objects number (overwritten object offset cells) (slice_get_within s.objects number object is)

    -- who owns a byte afterwards owned it before
    pub owner-before : (byte : ℕ) (w : Owner m new_objects byte) → (v : Owner m s.objects byte) × (v.number ≡ w.number)
    owner-before byte w = by (same-or-not w.number number)
      where
        by : (w.number ≡ number) ⊎ (w.number ≢ number) → (v : Owner m s.objects byte) × (v.number ≡ w.number)
        by (inl e) =
            let q : w.object ≡ overwritten object offset cells = some-same w.object (overwritten object offset cells) (sym w.is_object ∙ (ap (slice_get new_objects) e ∙ here)) in
            let i = w.inside in let l = overwritten-length object offset cells fits in
            let j : length w.object.cells ≡ length (overwritten object offset cells).cells = ap (λ z. length z.cells) q in (
              record {
                number = number;
                object = object;
                start = w.start;
                k = w.k;
                is_object = is;
                alive = alive;
                placed = ap (slice_get m) (sym e) ∙ w.placed;
                inside = omega (arith, i, l, j);
                is = w.is;
              },
              sym e,
            )
        by (inr e) = (
          record {
            number = w.number;
            object = w.object;
            start = w.start;
            k = w.k;
            is_object = sym (get-set_other s.objects number w.number (overwritten object offset cells) e) ∙ w.is_object;
            alive = w.alive;
            placed = w.placed;
            inside = w.inside;
            is = w.is;
          },
          refl,
        )

    owner-at : (k : ℕ) → k < length object.cells → Owner m s.objects (start + k)
    owner-at k l = record { number = number; object = object; start = start; k = k; is_object = is; alive = alive; placed = placed; inside = l; is = refl }

    pub match-written : ((byte : ℕ) → text_start ≤ byte → Owner m s.objects byte → (byte < start + offset) ⊎ (start + offset + length cells ≤ byte) → read_byte y.core byte ≡ read_byte x.core byte)
        → StandCells g m cells (read_byte y.core) (start + offset) → ((byte : ℕ) → Owner m s.objects byte → other byte ≡ false) → AreBytes y.left
        → Match g other active m (record { objects = new_objects; input = y.left; output = y.out }) y
    match-written same new free bytes = record {
      count = h.count ∙ sym (length-set s.objects number (overwritten object offset cells));
      statics = h.statics;
      fourfold = h.fourfold;
      cells = λ p q a e z b. by p q a e z b (same-or-not p number);
      lie = λ byte w. lies-near x y byte n (h.lie byte (owner-before byte w).0);
      disjoint = λ byte v w. sym (owner-before byte v).1 ∙ (h.disjoint byte (owner-before byte v).0 (owner-before byte w).0 ∙ (owner-before byte w).1);
      free = λ byte w. free byte (owner-before byte w).0;
      output = refl;
      input = refl;
      base = n.base ∙ h.base;
      aligned = ap (λ z. z % 4) n.stack ∙ h.aligned;
      top = subst (λ z. z < stack_end) (sym n.stack) h.top;
      floor = subst (λ z. stack_start + room ≤ z + active) (sym n.stack) h.floor;
      not_deep = h.not_deep;
      words = n.words;
      bytes = bytes;
      laid = laid-near x y n h.laid;
      data_start = n.sizes.data_start ∙ h.data_start;
      behind = h.behind;
      gap = (let low = n.sizes.low in let up = h.gap in omega (arith, low, up));
      order = n.sizes.order ∙ h.order;
      running = n.ending ∙ h.running;
    }
      where
        above : (byte : ℕ) → Owner m s.objects byte → text_start ≤ byte
        above byte w = lies-above g shut active m s x byte h (h.lie byte w)

        kept : (k : ℕ) → k < length object.cells → (k < offset) ⊎ (offset + length cells ≤ k) → read_byte y.core (start + k) ≡ read_byte x.core (start + k)
        kept k l u = same (start + k) (above (start + k) (owner-at k l)) (owner-at k l) (side u)
          where
            side : (k < offset) ⊎ (offset + length cells ≤ k) → (start + k < start + offset) ⊎ (start + offset + length cells ≤ start + k)
            side (inl z) = inl (omega (arith, z))
            side (inr z) = inr (omega (arith, z))

        -- a byte of another object
        others : (p q : ℕ) (a : Object) (k : ℕ) → slice_get s.objects p ≡ Some a → a.is_alive ≡ true → HasAddress m p q → k < length a.cells → p ≢ number
            → read_byte y.core (q + k) ≡ read_byte x.core (q + k)
        others p q a k e z b l d = same (q + k) (above (q + k) old) old (side (split (q + k) (start + offset)))
          where
            old : Owner m s.objects (q + k)
            old = record { number = p; object = a; start = q; k = k; is_object = e; alive = z; placed = b; inside = l; is = refl }

            split : (i j : ℕ) → (i < j) ⊎ (j ≤ i)
            split i j = cut (nat_lt i j) refl
              where
                cut : (t : Bool) → nat_lt i j ≡ t → (i < j) ⊎ (j ≤ i)
                cut true f = inl (grind (arith, nat_tests))
                cut false f = inr (grind (arith, nat_tests))

            clash : start + offset ≤ q + k → q + k < start + offset + length cells → ⊥
            clash u v =
                let j : ℕ = q + k - start in
                let eq : q + k ≡ start + j = omega (arith, u) in
                let w : Owner m s.objects (q + k) = record { number = number; object = object; start = start; k = j; is_object = is; alive = alive; placed = placed; inside = omega (arith, u, v, fits); is = eq } in
                d (h.disjoint (q + k) old w)

            side : (q + k < start + offset) ⊎ (start + offset ≤ q + k) → (q + k < start + offset) ⊎ (start + offset + length cells ≤ q + k)
            side (inl u) = inl u
            side (inr u) = far (split (q + k) (start + offset + length cells))
              where
                far : (q + k < start + offset + length cells) ⊎ (start + offset + length cells ≤ q + k) → (q + k < start + offset) ⊎ (start + offset + length cells ≤ q + k)
                far (inl v) = absurd (clash u v)
                far (inr v) = inr v

        by : (p q : ℕ) (a : Object) → slice_get new_objects p ≡ Some a → a.is_alive ≡ true → HasAddress m p q → (p ≡ number) ⊎ (p ≢ number) → StandCells g m a.cells (read_byte y.core) q
        by p q a e z b (inl u) =
            let e1 : a ≡ overwritten object offset cells = some-same a (overwritten object offset cells) (sym e ∙ (ap (slice_get new_objects) u ∙ here)) in
            let e2 : start ≡ q = some-same start q (some-same (Some start) (Some q) (sym placed ∙ (ap (slice_get m) (sym u) ∙ b))) in
            subst (λ w. StandCells g m w.cells (read_byte y.core) q) (sym e1)
            (subst (StandCells g m (overwritten object offset cells).cells (read_byte y.core)) e2
            (stands-overwritten g m (read_byte x.core) (read_byte y.core) object start offset cells fits kept new (h.cells number start object is alive placed)))
        by p q a e z b (inr u) =
            let e1 : slice_get s.objects p ≡ Some a = sym (get-set_other s.objects number p (overwritten object offset cells) u) ∙ e in
            stands-same g m (read_byte x.core) (read_byte y.core) a.cells q (λ k l. others p q a k e1 z b l u) (h.cells p q a e1 z b)

    -- sizes and life of objects are as they were
    pub same-written : SameObjects s.objects new_objects
    same-written = record { earlier = λ p a e. by p a e (same-or-not p number); later = λ p b past e. absurd (none p b (subst (λ k. k ≤ p) (sym (length-set s.objects number (overwritten object offset cells))) past) e) }
      where
        none : (p : ℕ) (b : Object) → length new_objects ≤ p → slice_get new_objects p ≡ Some b → ⊥
        none p b past e = let z : None ≡ Some b = sym (slice_get_past new_objects p past) ∙ e in cc

        by : (p : ℕ) (a : Object) → slice_get s.objects p ≡ Some a → (p ≡ number) ⊎ (p ≢ number)
            → (b : Object) × (slice_get new_objects p ≡ Some b) × (length b.cells ≡ length a.cells) × (b.is_alive ≡ a.is_alive)
        by p a e (inl u) =
            let same : object ≡ a = some-same object a (sym is ∙ (ap (slice_get s.objects) (sym u) ∙ e)) in (
              overwritten object offset cells,
              ap (slice_get new_objects) u ∙ here,
              overwritten-length object offset cells fits ∙ ap (λ z. length z.cells) same,
              ap (λ z. z.is_alive) same,
            )
        by p a e (inr u) = (a, get-set_other s.objects number p (overwritten object offset cells) u ∙ e, refl, refl)

    pub hidden-written : (p : ℕ) → slice_get m p ≡ Some None → slice_get new_objects p ≡ slice_get s.objects p
    hidden-written p none = by (same-or-not p number)
      where
        by : (p ≡ number) ⊎ (p ≢ number) → slice_get new_objects p ≡ slice_get s.objects p
        by (inl u) = absurd (let z : Some (Some start) ≡ Some None = sym placed ∙ (ap (slice_get m) (sym u) ∙ none) in cc)
        by (inr u) = get-set_other s.objects number p (overwritten object offset cells) u

-- what such a change leaves for the caller
pub answers-near : (g : Ground) (loose other : ℕ → Bool) (active : ℕ) (m : Map) (s t : c.State) (x y : State) (arguments : ℕ) (v : Value)
    → Match g other active m t y → Near x y → SameObjects s.objects t.objects → ((p : ℕ) → slice_get m p ≡ Some None → slice_get t.objects p ≡ slice_get s.objects p)
    → StandsValue g m v (reg y.core 1)
    → ((byte : ℕ) → (byte < stack_start) ⊎ (reg x.core 29 ≤ byte) → (Owner m s.objects byte → ⊥) → (IsArgument x.core arguments byte → ⊥) → read_byte y.core byte ≡ read_byte x.core byte)
    → Answers g loose other active (record { map = m; objects = s.objects; state = x; arguments = arguments }) m t y v
answers-near g loose other active m s t x y arguments v h n objects hidden result memory = record {
  matched = h;
  leaves = record {
    addresses = extends-self m;
    hidden = hidden;
    objects = objects;
    result = result;
    stack = n.stack;
    sizes = n.sizes;
    memory = λ byte l w o a. memory byte w o a;
  };
}
