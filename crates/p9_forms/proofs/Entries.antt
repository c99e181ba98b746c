-- Entries and the start.
use Rattle.std.proofs.Common.{ℕ, ◌+◌, ◌-◌, ◌*◌, ◌/◌, ◌%◌, ◌^◌, ◌==◌, ◌≡◌, ◌≢◌, ◌≤◌, ◌<◌, nat_lt, nat_le, Bool, true, false, refl, ap, ◌∙◌, arith, if◌then◌else◌, List, [], ◌∷◌, ◌++◌, length, length-append}
use Rattle.std.specs.Prelude.{bit_or, slice_set}
use Rattle.std.proofs.lemmas.List.{get_or-set_same, get_or-set_other, set-set}
use Rattle.std.proofs.lemmas.Bool.Decides.{nat_tests}
use Rattle.p9_base.specs.Words.{word_sum, word_difference, IsWord}
use Rattle.p9_base.specs.Numbers.{sign_extended}
use Rattle.p9_base.specs.declared.halt.Effect.TheVariants as effects
use Rattle.p9_base.specs.declared.halt.HaltCause.TheVariants as halts
use Rattle.p9_base.specs.Core.{Core, stack_start, reg, writable}
use Rattle.p9_base.specs.Effects.{store_word}
use Rattle.p9_base.specs.SystemCalls.{State}
use Rattle.p9_abs.specs.Runs.{lowered}
use Rattle.p9_r3k.specs.declared.inst.Inst.TheVariants as i
use Rattle.p9_r3k.specs.declared.lines.Line.{Line}
use Rattle.p9_r3k.specs.declared.lines.Part.TheVariants.{High, Low}
use Rattle.p9_r3k.specs.Effects.{effect_of}
use Rattle.p9_r3k.specs.Straight.{Addresses, Straight, straight_step, straight_run}
use Rattle.p9_lines.specs.FormLines.{plain, valued, constant_lines, lower_lines, entry_lines, start_lines}
use Rattle.p9_forms.specs.Standing.{Rest, stands, placed, Stand}
use Rattle.p9_forms.specs.Following.{Site}
use Rattle.p9_forms.specs.Entering.{IsSettled, CanEnter, EntryDoes, StartDoes, entered_by, based_at}
use Rattle.p9_forms.proofs.Temporary.{rest_at, seen, with_r, seen-other, seen-temporary, line-by, register-written, memory-written, run-one, run-then, halves}
use Rattle.p9_forms.proofs.Doing.{Usual, constant-ready, stand-first, stand-rest}

usual-of : (s : State) → IsSettled s → Usual s
usual-of s v = record { running = v.running; count = v.count; zero_register = v.zero_register; textless = v.textless }

abbrev lowered_state : ℕ → State → State
lowered_state n s = record s { core = lowered s.core n }

record IsLowered (h : Site) (from : Straight) (s : State) (count n : ℕ) : Type 0 where
  lines : ℕ
  few : lines ≤ 3
  temporary : ℕ
  rest : Rest
  run : straight_run h.addresses h.lines lines from ≡ stands temporary rest (lowered_state count s) n

-- the half word that lowers by less than 32,768
lowering : (n : ℕ) (v : ℕ) → n < 2 ^ 15 → n ≤ v → v < 2 ^ 32 → word_sum v (sign_extended 16 ((2 ^ 16 - n) % 2 ^ 16)) ≡ v - n
lowering n v near room small = by (nat_lt ((2 ^ 16 - n) % 2 ^ 16 % 2 ^ 16) (2 ^ 15)) refl
  where
    by : (b : Bool) → nat_lt ((2 ^ 16 - n) % 2 ^ 16 % 2 ^ 16) (2 ^ 15) ≡ b →
        word_sum v (if b then (2 ^ 16 - n) % 2 ^ 16 % 2 ^ 16 else (2 ^ 16 - n) % 2 ^ 16 % 2 ^ 16 + (2 ^ 32 - 2 ^ 16)) ≡ v - n
    by true e = (let l : (2 ^ 16 - n) % 2 ^ 16 % 2 ^ 16 < 2 ^ 15 = grind (arith, nat_tests) in omega (arith, l, near, room, small))
    by false e = (let l : 2 ^ 15 ≤ (2 ^ 16 - n) % 2 ^ 16 % 2 ^ 16 = grind (arith, nat_tests) in omega (arith, l, near, room, small))

difference-plain : (v n : ℕ) → v < 2 ^ 32 → n ≤ v → n < 2 ^ 32 → word_difference v n ≡ v - n
difference-plain v n small room word = omega (arith, small, room, word)

lowered-made : (h : Site) (n t : ℕ) (k : Rest) (s : State) (count : ℕ) → IsSettled s → IsWord count → count ≤ reg s.core 29 → Stand h.lines h.place n (lower_lines count) →
    IsLowered h (stands t k s n) s count (n + length (lower_lines count))
lowered-made h n t k s count u small room there = by (nat_lt count (2 ^ 15)) refl there
  where
    by : (b : Bool) → nat_lt count (2 ^ 15) ≡ b →
        (let ls : List Line = (if b then plain (i.Addiu 29 29 ((2 ^ 16 - count) % 2 ^ 16)) ∷ [] else constant_lines count 28 ++ plain (i.Subu 29 28 29) ∷ []) in
        Stand h.lines h.place n ls → IsLowered h (stands t k s n) s count (n + length ls))
    by true near there = record {
      lines = 1;
      few = omega arith;
      temporary = t;
      rest = rest_at h.addresses n k;
      run = run-one h.addresses h.lines (stands t k s n)
          ∙ line-by h.addresses h.lines n t k s (placed h.place there.0 (plain (i.Addiu 29 29 ((2 ^ 16 - count) % 2 ^ 16)))) (effects.Write 29 (reg s.core 29 - count)) u.running there.1
          (ap (λ z. effects.Write 29 (word_sum z (sign_extended 16 ((2 ^ 16 - count) % 2 ^ 16)))) (seen-other h.addresses n t k s 29 refl)
          ∙ ap (effects.Write 29) (lowering count (reg s.core 29) (let l : count < 2 ^ 15 = grind (arith, nat_tests) in l) room u.stack))
          ∙ register-written h.addresses n t k s 29 (reg s.core 29 - count) (n + 1) refl;
    }
    by false far there =
        let ls : List Line = constant_lines count 28 in
        let m : ℕ = n + length ls in
        let r = constant-ready h n t k s count (usual-of s u) small (stand-first h.lines h.place n ls (plain (i.Subu 29 28 29) ∷ []) there) in
        let last = stand-rest h.lines h.place n ls (plain (i.Subu 29 28 29) ∷ []) there in
        let ends : m + 1 ≡ n + length (ls ++ plain (i.Subu 29 28 29) ∷ []) = omega (arith, length-append ls (plain (i.Subu 29 28 29) ∷ [])) in
        record {
          lines = r.count + 1;
          few = omega (arith, r.few);
          temporary = count;
          rest = rest_at h.addresses m r.rest;
          run = run-then h.addresses h.lines r.count 1 (stands t k s n) (stands count r.rest s m) (stands count (rest_at h.addresses m r.rest) (lowered_state count s) (m + 1)) r.run
              (run-one h.addresses h.lines (stands count r.rest s m)
              ∙ line-by h.addresses h.lines m count r.rest s (placed h.place last.0 (plain (i.Subu 29 28 29))) (effects.Write 29 (reg s.core 29 - count)) u.running last.1
              (ap (λ z. effects.Write 29 (word_difference z (reg (seen h.addresses m count r.rest s) 28))) (seen-other h.addresses m count r.rest s 29 refl)
              ∙ ap (λ z. effects.Write 29 (word_difference (reg s.core 29) z)) (seen-temporary h.addresses m count r.rest s u.count)
              ∙ ap (effects.Write 29) (difference-plain (reg s.core 29) count u.stack room small))
              ∙ register-written h.addresses m count r.rest s 29 (reg s.core 29 - count) (m + 1) refl)
              ∙ ap (λ j. stands count (rest_at h.addresses m r.rest) (lowered_state count s) j) ends;
        }

-- a word that may be written
stored-word : (c : Core) (a v : ℕ) → a % 4 ≡ 0 → 4 ≤ writable c a → store_word c a v ≡ effects.StoreWord a v
stored-word c a v aligned free = by (a % 4 == 0) (nat_le 4 (writable c a)) (let e : (a % 4 == 0) ≡ true = grind (arith, nat_tests, aligned) in e) (let e : nat_le 4 (writable c a) ≡ true = grind (arith, nat_tests, free) in e)
  where
    by : (b d : Bool) → b ≡ true → d ≡ true → (if b then (if d then effects.StoreWord a v else effects.Stop (halts.BadAddress a)) else effects.Stop (halts.Misaligned a)) ≡ effects.StoreWord a v
    by true true e f = refl
    by true false e f = absurd (cc f)
    by false d e f = absurd (cc e)

-- the lines of an entry are at most four
pub record IsEntered (h : Site) (from : Straight) (s : State) (n : ℕ) : Type 0 where
  pub lines : ℕ
  pub some : 1 ≤ lines
  pub few : lines ≤ 4
  pub temporary : ℕ
  pub rest : Rest
  pub run : straight_run h.addresses h.lines lines from ≡ stands temporary rest s n

pub entry-made : (h : Site) (s : State) (t : ℕ) (k : Rest) → CanEnter h s →
    IsEntered h (stands t k s h.first) (entered_by h.setting.taken s) (h.first + length (entry_lines h.setting))
entry-made h s t k v = by h.setting.keeps v.keeps v.there
  where
    by : (b : Bool) → b ≡ true → Stand h.lines h.place h.first (if b then lower_lines h.setting.taken ++ plain (i.Sw 29 31 0) ∷ [] else []) →
        IsEntered h (stands t k s h.first) (entered_by h.setting.taken s) (h.first + length (if b then lower_lines h.setting.taken ++ plain (i.Sw 29 31 0) ∷ [] else []))
    by false e there = absurd (cc e)
    by true e there =
        let count : ℕ = h.setting.taken in
        let ls : List Line = lower_lines count in
        let m : ℕ = h.first + length ls in
        let sp : ℕ = reg s.core 29 - count in
        let low : State = lowered_state count s in
        let r = lowered-made h h.first t k s count v.settled v.small v.room (stand-first h.lines h.place h.first ls (plain (i.Sw 29 31 0) ∷ []) there) in
        let last = stand-rest h.lines h.place h.first ls (plain (i.Sw 29 31 0) ∷ []) there in
        let seen_core : Core = seen h.addresses m r.temporary r.rest low in
        let pointer : reg seen_core 29 ≡ sp =
        seen-other h.addresses m r.temporary r.rest low 29 refl ∙ get_or-set_same s.core.regs 29 sp 0 (omega (arith, v.settled.count)) in
        let link : reg seen_core 31 ≡ reg s.core 31 =
        seen-other h.addresses m r.temporary r.rest low 31 refl ∙ get_or-set_other s.core.regs 29 31 sp 0 (let differ : 31 ≢ 29 = grind (arith, nat_tests) in differ) in
        let address : word_sum (reg seen_core 29) (sign_extended 16 0) ≡ sp = ap (λ z. word_sum z 0) pointer ∙ omega (arith, v.settled.stack) in
        let stores : effect_of (i.Sw 29 31 0) seen_core ≡ effects.StoreWord sp (reg s.core 31) =
        ap (λ z. store_word seen_core z (reg seen_core 31)) address ∙ ap (λ z. store_word seen_core sp z) link ∙ stored-word seen_core sp (reg s.core 31) v.aligned v.free in
        let end : Rest = rest_at h.addresses m r.rest in
        let ends : m + 1 ≡ h.first + length (ls ++ plain (i.Sw 29 31 0) ∷ []) = omega (arith, length-append ls (plain (i.Sw 29 31 0) ∷ [])) in
        record {
          lines = r.lines + 1;
          some = omega arith;
          few = omega (arith, r.few);
          temporary = r.temporary;
          rest = end;
          run = run-then h.addresses h.lines r.lines 1 (stands t k s h.first) (stands r.temporary r.rest low m) (stands r.temporary end (entered_by count s) (m + 1)) r.run
              (run-one h.addresses h.lines (stands r.temporary r.rest low m)
              ∙ line-by h.addresses h.lines m r.temporary r.rest low (placed h.place last.0 (plain (i.Sw 29 31 0))) (effects.StoreWord sp (reg s.core 31)) v.settled.running last.1 stores
              ∙ memory-written r.temporary end low (nat_lt sp stack_start) _ _ (m + 1))
              ∙ ap (λ j. stands r.temporary end (entered_by count s) j) ends;
        }

pub entry_does : EntryDoes
entry_does h s t k v =
    let e : IsEntered h (stands t k s h.first) (entered_by h.setting.taken s) (h.first + length (entry_lines h.setting)) = entry-made h s t k v in
    record { count = e.lines; temporary = e.temporary; rest = e.rest; some = e.some; few = omega (arith, e.few); run = e.run }

-- the start has two lines
pub start-made : (a : Addresses) (lines : List Line) (place : ℕ → ℕ) (n unit symbol offset : ℕ) (s : State) (t : ℕ) (k : Rest) → IsSettled s →
    Stand lines place n (start_lines unit symbol offset) →
    (rest : Rest) × (straight_run a lines 2 (stands t k s n) ≡ stands t rest (based_at (word_sum (a.symbol unit symbol) offset) s) (n + 2))
start-made a lines place n unit symbol offset s t k v there =
    let c : ℕ = word_sum (a.symbol unit symbol) offset in
    let hi : ℕ = c / 2 ^ 16 * 2 ^ 16 in
    let k1 : Rest = rest_at a n k in
    let k2 : Rest = rest_at a (n + 1) k1 in
    let s1 : State = with_r 30 hi s in
    let one : straight_step a lines (stands t k s n) ≡ stands t k1 s1 (n + 1) =
    line-by a lines n t k s (placed place there.0 (valued (i.Lui 30 0) High unit symbol offset)) (effects.Write 30 hi) v.running there.1 refl
    ∙ register-written a n t k s 30 hi (n + 1) refl in
    let both : straight_step a lines (stands t k1 s1 (n + 1)) ≡ stands t k2 (with_r 30 c s1) (n + 1 + 1) =
    line-by a lines (n + 1) t k1 s1 (placed place there.2.0 (valued (i.Ori 30 30 0) Low unit symbol offset)) (effects.Write 30 c) v.running there.2.1
    (ap (λ z. effects.Write 30 (bit_or z (c % 2 ^ 16))) (seen-other a (n + 1) t k1 s1 30 refl ∙ get_or-set_same s.core.regs 30 hi 0 (omega (arith, v.count))) ∙ ap (effects.Write 30) (halves c))
    ∙ register-written a (n + 1) t k1 s1 30 c (n + 1 + 1) refl in
    let twice : slice_set (slice_set s.core.regs 30 hi) 30 c ≡ slice_set s.core.regs 30 c = set-set s.core.regs 30 hi c in (
      k2,
      run-then a lines 1 1 (stands t k s n) (stands t k1 s1 (n + 1)) (stands t k2 (with_r 30 c s1) (n + 1 + 1))
          (run-one a lines (stands t k s n) ∙ one) (run-one a lines (stands t k1 s1 (n + 1)) ∙ both)
          ∙ ap (λ j. stands t k2 (with_r 30 c s1) j) (let e : n + 1 + 1 ≡ n + 2 = omega arith in e)
          ∙ ap (λ (l : List ℕ). stands t k2 (record s { core = record s.core { regs = l } }) (n + 2)) twice,
    )

pub start_does : StartDoes
start_does a lines place n unit symbol offset s t k v there =
    let r = start-made a lines place n unit symbol offset s t k v there in
    record { count = 2; temporary = t; rest = r.0; some = omega arith; few = omega arith; run = r.1 }
