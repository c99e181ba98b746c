-- Returns.
use Rattle.std.proofs.Common.{ℕ, ◌+◌, ◌-◌, ◌%◌, ◌^◌, ◌==◌, ◌≡◌, ◌≢◌, ◌≤◌, ◌<◌, nat_lt, Bool, true, false, Some, refl, sym, ap, ◌∙◌, subst, arith, if◌then◌else◌, List, [], ◌∷◌, ◌++◌, length, length-append}
use Rattle.std.specs.Prelude.{slice_get, slice_set, slice_index}
use Rattle.std.proofs.lemmas.List.{length-set, get_or-set_same, get_or-set_other, set-get_or}
use Rattle.std.proofs.lemmas.Bool.Decides.{nat_tests}
use Rattle.p9_base.specs.Words.{word_sum, IsWord}
use Rattle.p9_base.specs.Numbers.{sign_extended}
use Rattle.p9_base.specs.declared.halt.Effect.TheVariants as effects
use Rattle.p9_base.specs.Core.{reg, with_reg}
use Rattle.p9_base.specs.Effects.{load_word}
use Rattle.p9_base.specs.SystemCalls.{State}
use Rattle.p9_abs.specs.declared.forms.Form.TheVariants as forms
use Rattle.p9_abs.specs.Steps.{Mach, Returns}
use Rattle.p9_abs.specs.Runs.{linked_to}
use Rattle.p9_r3k.specs.declared.inst.Inst.TheVariants as i
use Rattle.p9_r3k.specs.declared.lines.Line.{Line}
use Rattle.p9_r3k.specs.Effects.{effect_of}
use Rattle.p9_r3k.specs.Straight.{Straight, line_at, on_to, linked_line, straight_run}
use Rattle.p9_lines.specs.FormLines.{plain, constant_lines, raise_lines, return_lines}
use Rattle.p9_forms.specs.Standing.{Rest, stands, placed, Stand, Arrives}
use Rattle.p9_forms.specs.Following.{Site, Follows, IsKeptReturn, raised_by}
use Rattle.p9_forms.proofs.Temporary.{rest_at, seen, seen_state, seen-other, seen-temporary, line-by, register-written, run-none, run-one, run-then, arrives}
use Rattle.p9_forms.proofs.Doing.{Usual, constant-ready, stand-first, stand-rest}

extended-itself : (n : ℕ) → n < 2 ^ 15 → sign_extended 16 n ≡ n
extended-itself n small = by (nat_lt (n % 2 ^ 16) (2 ^ 15)) refl
  where
    by : (b : Bool) → nat_lt (n % 2 ^ 16) (2 ^ 15) ≡ b → (if b then n % 2 ^ 16 else n % 2 ^ 16 + (2 ^ 32 - 2 ^ 16)) ≡ n
    by true e = omega (arith, small)
    by false e = absurd (let l : 2 ^ 15 ≤ n % 2 ^ 16 = grind (arith, nat_tests) in omega (arith, l, small))

-- a register that holds the word is written
rewritten : (regs : List ℕ) (v : ℕ) → slice_index regs 31 ≡ v → with_reg regs 31 v ≡ regs
rewritten regs v e = ap (slice_set regs 31) (sym e) ∙ set-get_or regs 31 0

usual-with : (s : State) (r v : ℕ) → (r == 0) ≡ false → Usual s → Usual (record s { core = record s.core { regs = slice_set s.core.regs r v } })
usual-with s r v apart u = record {
  running = u.running;
  count = length-set s.core.regs r v ∙ u.count;
  zero_register = get_or-set_other s.core.regs r 0 v 0 (let differ : 0 ≢ r = grind (arith, nat_tests) in differ) ∙ u.zero_register;
  textless = u.textless;
}

-- the jump to where R31 points
back-jumped : (h : Site) (c : ℕ) (from : Straight) (n t : ℕ) (k : Rest) (s : State) (back j : ℕ) (mark : Bool) → Usual s → reg s.core 31 ≡ back →
    line_at h.addresses.line back 0 (length h.lines) ≡ Some j → straight_run h.addresses h.lines c from ≡ stands t k s n → c ≤ 6 →
    slice_get h.lines n ≡ Some (placed h.place mark (plain (i.Jr 31))) → Arrives h.addresses h.lines from s j
back-jumped h c from n t k s back j mark u e there run few found =
    arrives h.addresses h.lines c from (stands t k s n) t (rest_at h.addresses n k) s j run few
    (line-by h.addresses h.lines n t k s (placed h.place mark (plain (i.Jr 31))) (effects.JumpTo 0 back) u.running found
    (ap (effects.JumpTo 0) (seen-other h.addresses n t k s 31 refl ∙ e))
    ∙ ap (λ o. on_to o n (linked_line h.addresses 0 n (seen_state h.addresses n t k s))) there)

-- lines that raise R29
pub record IsRaised (h : Site) (from : Straight) (s : State) (count n : ℕ) : Type 0 where
  pub lines : ℕ
  pub few : lines ≤ 3
  pub temporary : ℕ
  pub rest : Rest
  pub run : straight_run h.addresses h.lines lines from ≡ stands temporary rest (raised_by count s) n

pub raised-made : (h : Site) (n t : ℕ) (k : Rest) (s : State) (count : ℕ) → Usual s → IsWord count → Stand h.lines h.place n (raise_lines count) →
    IsRaised h (stands t k s n) s count (n + length (raise_lines count))
raised-made h n t k s count u small there = by (nat_lt count (2 ^ 15)) refl there
  where
    by : (b : Bool) → nat_lt count (2 ^ 15) ≡ b →
        (let ls : List Line = (if b then plain (i.Addiu 29 29 count) ∷ [] else constant_lines count 28 ++ plain (i.Addu 29 28 29) ∷ []) in
        Stand h.lines h.place n ls → IsRaised h (stands t k s n) s count (n + length ls))
    by true near there = record {
      lines = 1;
      few = omega arith;
      temporary = t;
      rest = rest_at h.addresses n k;
      run = run-one h.addresses h.lines (stands t k s n)
          ∙ line-by h.addresses h.lines n t k s (placed h.place there.0 (plain (i.Addiu 29 29 count))) (effects.Write 29 (word_sum (reg s.core 29) count)) u.running there.1
          (ap (λ z. effects.Write 29 (word_sum z (sign_extended 16 count))) (seen-other h.addresses n t k s 29 refl)
          ∙ ap (λ z. effects.Write 29 (word_sum (reg s.core 29) z)) (extended-itself count (let l : count < 2 ^ 15 = grind (arith, nat_tests) in l)))
          ∙ register-written h.addresses n t k s 29 (word_sum (reg s.core 29) count) (n + 1) refl;
    }
    by false far there =
        let ls : List Line = constant_lines count 28 in
        let m : ℕ = n + length ls in
        let r = constant-ready h n t k s count u small (stand-first h.lines h.place n ls (plain (i.Addu 29 28 29) ∷ []) there) in
        let last = stand-rest h.lines h.place n ls (plain (i.Addu 29 28 29) ∷ []) there in
        let ends : m + 1 ≡ n + length (ls ++ plain (i.Addu 29 28 29) ∷ []) = omega (arith, length-append ls (plain (i.Addu 29 28 29) ∷ [])) in
        record {
          lines = r.count + 1;
          few = omega (arith, r.few);
          temporary = count;
          rest = rest_at h.addresses m r.rest;
          run = run-then h.addresses h.lines r.count 1 (stands t k s n) (stands count r.rest s m) (stands count (rest_at h.addresses m r.rest) (raised_by count s) (m + 1)) r.run
              (run-one h.addresses h.lines (stands count r.rest s m)
              ∙ line-by h.addresses h.lines m count r.rest s (placed h.place last.0 (plain (i.Addu 29 28 29))) (effects.Write 29 (word_sum (reg s.core 29) count)) u.running last.1
              (ap (λ z. effects.Write 29 (word_sum z (reg (seen h.addresses m count r.rest s) 28))) (seen-other h.addresses m count r.rest s 29 refl)
              ∙ ap (λ z. effects.Write 29 (word_sum (reg s.core 29) z)) (seen-temporary h.addresses m count r.rest s u.count))
              ∙ register-written h.addresses m count r.rest s 29 (word_sum (reg s.core 29) count) (m + 1) refl)
              ∙ ap (λ j. stands count (rest_at h.addresses m r.rest) (raised_by count s) j) ends;
        }

pub returns : (h : Site) (t : ℕ) (k : Rest) (x : Mach) → Usual x.state → IsWord (reg x.state.core 29) → IsWord h.setting.taken →
    Stand h.lines h.place h.first (return_lines h.setting) → Follows h forms.Return (stands t k x.state h.first) (Returns x)
returns h t k x u stack small there back j kept found = by h.setting.keeps there kept
  where
    by : (b : Bool) →
        Stand h.lines h.place h.first (if b then plain (i.Lw 29 31 0) ∷ (raise_lines h.setting.taken ++ plain (i.Jr 31) ∷ []) else plain (i.Jr 31) ∷ []) →
        IsKeptReturn b x.state back →
        Arrives h.addresses h.lines (stands t k x.state h.first) (if b then raised_by h.setting.taken (linked_to back x.state) else linked_to back x.state) j
    by false there kept =
        subst (λ (l : List ℕ). Arrives h.addresses h.lines (stands t k x.state h.first) (record x.state { core = record x.state.core { regs = l } }) j) (sym (rewritten x.state.core.regs back kept))
        (back-jumped h 0 (stands t k x.state h.first) h.first t k x.state back j there.0 u kept found (run-none h.addresses h.lines (stands t k x.state h.first)) (omega arith) there.1)
    by true there kept =
        let n : ℕ = h.first in
        let k1 : Rest = rest_at h.addresses n k in
        let s : State = linked_to back x.state in
        let us : Usual s = usual-with x.state 31 back refl u in
        let ls : List Line = raise_lines h.setting.taken in
        let address : word_sum (reg (seen h.addresses n t k x.state) 29) (sign_extended 16 0) ≡ reg x.state.core 29 =
        ap (λ z. word_sum z 0) (seen-other h.addresses n t k x.state 29 refl) ∙ omega (arith, stack) in
        let loads : effect_of (i.Lw 29 31 0) (seen h.addresses n t k x.state) ≡ effects.Load 31 back =
        ap (λ z. load_word (record x.state.core { text_end = z }) 31 (word_sum (reg (seen h.addresses n t k x.state) 29) (sign_extended 16 0))) (sym u.textless)
        ∙ ap (λ z. load_word x.state.core 31 z) address ∙ kept in
        let one : straight_run h.addresses h.lines 1 (stands t k x.state n) ≡ stands t k1 s (n + 1) =
        run-one h.addresses h.lines (stands t k x.state n)
        ∙ line-by h.addresses h.lines n t k x.state (placed h.place there.0 (plain (i.Lw 29 31 0))) (effects.Load 31 back) u.running there.1 loads
        ∙ register-written h.addresses n t k x.state 31 back (n + 1) refl in
        let r = raised-made h (n + 1) t k1 s h.setting.taken us small (stand-first h.lines h.place (n + 1) ls (plain (i.Jr 31) ∷ []) there.2) in
        let last = stand-rest h.lines h.place (n + 1) ls (plain (i.Jr 31) ∷ []) there.2 in
        let held : reg (raised_by h.setting.taken s).core 31 ≡ back =
        get_or-set_other s.core.regs 29 31 (word_sum (reg s.core 29) h.setting.taken) 0 (let differ : 31 ≢ 29 = grind (arith, nat_tests) in differ)
        ∙ get_or-set_same x.state.core.regs 31 back 0 (omega (arith, u.count)) in
        back-jumped h (1 + r.lines) (stands t k x.state n) (n + 1 + length ls) r.temporary r.rest (raised_by h.setting.taken s) back j last.0
        (usual-with s 29 (word_sum (reg s.core 29) h.setting.taken) refl us) held found
        (run-then h.addresses h.lines 1 r.lines (stands t k x.state n) (stands t k1 s (n + 1)) (stands r.temporary r.rest (raised_by h.setting.taken s) (n + 1 + length ls)) one r.run)
        (omega (arith, r.few)) last.1
