-- Code over the same automatics.
use Rattle.std.proofs.Common.{◌≡◌, ◌≤◌, ◌<◌, ◌⊎◌, inl, inr, ℕ, zero, suc, ◌+◌, ◌-◌, ◌^◌, ◌*◌, ◌&&◌, ◌||◌, nat_le, nat_lt, not, Bool, true, false, if◌then◌else◌, Some, None, List, [], ◌∷◌, length, slice_get, slice_index, All, refl, sym, ap, ◌∙◌, subst, arith}
use Rattle.std.proofs.lemmas.Bool.{true≢false, and_parts, leb-true}
use Rattle.std.proofs.lemmas.List.Elements.{All-head, All-tail}
use Rattle.p9_base.specs.Words.{IsWord}
use Rattle.p9_base.specs.Core.{reg, with_word}
use Rattle.p9_base.specs.SystemCalls.{State}
use Rattle.p9_abs.specs.declared.instructions.Abs.{Abs}
use Rattle.p9_abs.specs.declared.instructions.AFunction.{AFunction}
use Rattle.p9_abs.specs.Automatics.{IsCode, IsInstructionOf}
use Rattle.p9_abs.specs.Steps.{Mach}
use Rattle.p9_abs.specs.Runs.{taken_by, keeps_return, in_word, lowered}
use Rattle.p9_abs.specs.OneCall.{Layout, IsLayout, in_gap, in_words, in_automatic, banned_in, around_call}
use Rattle.p9_abs.specs.Keeping.{IsEntry, HasVariables, nowhere, Follows, side_of, KeepsOver}
use Rattle.p9_cmean.specs.Cells as c
use Rattle.p9_cmean.specs.Cells.{Value}
use Rattle.p9_cmean.specs.Plays.{Call, Play}
use Rattle.p9_cmean.specs.Turns.{room}
use Rattle.p9_sim.specs.Memory.{Map, Ground}
use Rattle.p9_sim.specs.Matching.{AtCall, entry_of}
use Rattle.p9_sim.specs.Playing.{Branches, first_count, Setting, Performs}
use Rattle.p9_sim.specs.Functions.{lowered_stack, after_entry, kept_with, framed_as, is_no_automatic, setting_over}
use Rattle.p9_carry.specs.Carrying.{HasNoSystemCall, HasSameLayouts, CarriesOver}
use Rattle.p9_carry.proofs.Entries.{entry-stack, entry-is}
use Rattle.p9_carry.proofs.Carrying.{Suits, Sync, carry}

-- an instruction of a list with what holds of all
pub at-each : (P : Abs → Type 0) (code : List Abs) (i : ℕ) (a : Abs) → All P code → slice_get code i ≡ Some a → P a
at-each P [] i a h e = absurd (let z : None ≡ Some a = e in cc)
at-each P (b ∷ code) zero a h e = subst P (let z : Some b ≡ Some a = e in cc) (All-head P b code h)
at-each P (b ∷ code) (suc i) a h e = at-each P code i a (All-tail P b code h) e

-- words that both use are in the gap of neither
pub gap-same : (f h : AFunction) (l : Layout) (sp byte : ℕ) → h.autos ≡ f.autos → in_words h.code (byte - sp) ≡ in_words f.code (byte - sp) → in_gap h l sp byte ≡ in_gap f l sp byte
gap-same f h l sp byte autos words =
    λ i. (nat_le (sp + 4) byte && nat_lt byte (sp + 4 + l.frame)) && not (in_automatic l.offsets (autos i) (byte - sp) || words i)

-- a test by parts
either : (p q : Bool) → (p || q) ≡ true → (p ≡ true) ⊎ (q ≡ true)
either true q e = inl refl
either false q e = inr e

-- what is banned lies at or above R29
pub banned-above : (f : AFunction) (l : Layout) (sp : ℕ) (others : ℕ → Bool) (n : ℕ) → (others n ≡ true → sp ≤ n) → banned_in f l sp others n ≡ true → sp ≤ n
banned-above f l sp others n high e = by (either (others n) _ e)
  where
    in_frame : (in_word n (Some sp) ≡ true) ⊎ (in_gap f l sp n ≡ true) → sp ≤ n
    in_frame (inl w) = leb-true sp n ((and_parts (nat_le sp n) _ w).0)
    in_frame (inr w) =
        let inner = (and_parts (nat_le (sp + 4) n && nat_lt n (sp + 4 + l.frame)) _ w).0 in
        let low = leb-true (sp + 4) n ((and_parts (nat_le (sp + 4) n) _ inner).0) in
        omega (arith, low)

    by : (others n ≡ true) ⊎ ((keeps_return l.frame f.code && (in_word n (Some sp) || in_gap f l sp n)) ≡ true) → sp ≤ n
    by (inl o) = high o
    by (inr k) = in_frame (either (in_word n (Some sp)) (in_gap f l sp n) ((and_parts (keeps_return l.frame f.code) _ k).1))

module _ (f h : AFunction) (code : IsCode f) (same : HasSameLayouts f h) (no_f : HasNoSystemCall f.code) (no_h : HasNoSystemCall h.code)
    (g : Ground) (symbol : ℕ → ℕ) (need : ℕ) (l : Layout) (vars : List ℕ) (others : ℕ → Bool) (active : ℕ) (call : Call) (s : c.State) (m : Map) (x : State)
    (layout : IsLayout h l) (room_is : l.frame + 4 ≤ need) (variables : HasVariables h (record { state = x; vars = vars; at = 0 })) (words : All IsWord vars)
    (fits : active + need ≤ room) (at : AtCall g others others active m call s x) where
  abbrev sp : ℕ
  sp = lowered_stack (framed_as f l) x

  abbrev base : Setting
  base = setting_over g Branches symbol f l others active need (entry_of m s call x)

  abbrev shut_h : ℕ → Bool
  shut_h byte = kept_with others (framed_as h l) sp byte || is_no_automatic h l sp byte

  abbrev over : ℕ → Setting
  over n = record {
    placing = g;
    counting = Branches;
    around = around_call symbol h l n others;
    def = framed_as h l;
    loose = in_gap h l n;
    shut = λ byte. kept_with others (framed_as h l) n byte || is_no_automatic h l n byte;
    active = active + need;
    outer_shut = others;
    outer_active = active;
    entry = entry_of m s call x;
  }

  abbrev start : Mach
  start = record { state = after_entry (framed_as f l) x; vars = vars; at = 0 }

  same_keeps : keeps_return l.frame f.code ≡ keeps_return l.frame h.code
  same_keeps = sym (same.keeps l layout)

  stacks : lowered_stack (framed_as f l) x ≡ lowered_stack (framed_as h l) x
  stacks = ap (λ b. reg x.core 29 - (if b then l.frame + 4 else 0)) same_keeps

  states : after_entry (framed_as f l) x ≡ after_entry (framed_as h l) x
  states = ap (λ b. if b then record x { core = with_word (lowered x.core (l.frame + 4)) (reg x.core 29 - (l.frame + 4)) (reg x.core 31) } else x) same_keeps

  variables_f : HasVariables f (record { state = x; vars = vars; at = 0 })
  variables_f = record {
    count = variables.count ∙ ap length same.autos;
    low = λ v value e q. subst (λ n. value < 2 ^ (8 * n)) (ap (λ a. slice_index a v) same.autos) (variables.low v value (same.variables v ∙ e) q);
  }

  gaps : (byte : ℕ) → in_gap h l sp byte ≡ in_gap f l sp byte
  gaps byte = gap-same f h l sp byte same.autos (same.words (byte - sp))

  shuts : (n : ℕ) → base.shut n ≡ shut_h n
  shuts n = λ i. (others n || (same_keeps i && in_word n (Some sp))) || ((nat_le (sp + 4) n && nat_lt n (sp + 4 + l.frame)) && not (in_automatic l.offsets (sym same.autos i) (n - sp)))

  bans : (n : ℕ) → banned_in f l sp others n ≡ banned_in h l sp others n
  bans n = ap (λ b. others n || (b && (in_word n (Some sp) || in_gap f l sp n))) same_keeps
      ∙ ap (λ b. others n || (keeps_return l.frame h.code && (in_word n (Some sp) || b))) (sym (gaps n))

  below : sp ≤ reg x.core 29
  below = omega arith

  suits : Suits base (around_call symbol f l sp others) (around_call symbol h l sp others) (framed_as f l) (framed_as h l) base.loose (in_gap h l sp) base.shut shut_h nowhere sp
  suits = record {
    shut = λ n e. sym (shuts n) ∙ e;
    banned = λ n e. sym (bans n) ∙ e;
    above = λ n e. banned-above h l sp others n (λ o. let q = at.above n o in omega (arith, q, below)) e;
    loose = λ n e. gaps n ∙ e;
    hidden = λ n e. absurd (true≢false (sym e));
    untouched = λ n e. absurd (true≢false (sym e));
    loosened = λ n e. absurd (true≢false (sym e));
    seen = λ n e. absurd (true≢false (sym e));
    inside = λ n e. absurd (true≢false (sym e));
    same_keeps = same_keeps;
    same_frame = refl;
    silent_a = no_f;
    silent_b = no_h;
    destinations = λ i ins e. (at-each (IsInstructionOf (length f.autos) (length f.code)) f.code i ins code.instructions e).destination;
  }

  stack_is : (let y : State = after_entry (framed_as f l) x in reg y.core 29 ≡ sp)
  stack_is = entry-stack (framed_as f l) x at.matched.words at.matched.laid

  begun : IsEntry l.frame (taken_by (framed_as f l)) others start
  begun = entry-is g others others active need m call s x (framed_as f l) vars at (same.layouts l layout).frame room_is fits

  sync : KeepsOver f h l
      → Sync base (around_call symbol f l sp others) (around_call symbol h l sp others) (framed_as f l) (framed_as h l) base.loose (in_gap h l sp) base.shut shut_h nowhere sp suits start start
  sync keeps_steps = record {
    out = refl;
    left = refl;
    ending = refl;
    stack = stack_is;
    holds = record { words = begun.words; input = begun.input; variables = words };
    follows = λ n. subst (λ k. Follows nowhere (side_of symbol f l k others) (side_of symbol h l k others) n start start) stack_is
        (keeps_steps symbol others n start begun (record { count = variables_f.count; low = variables_f.low }));
  }

  over-performs : (p : Play Value) → KeepsOver f h l → Performs base p m first_count start
      → Performs (setting_over g Branches symbol h l others active need (entry_of m s call x)) p m first_count (record { state = after_entry (framed_as h l) x; vars = vars; at = 0 })
  over-performs p keeps_steps done =
      subst (λ n. Performs (over n) p m first_count (record { state = after_entry (framed_as h l) x; vars = vars; at = 0 })) stacks
      (subst (λ y. Performs (over sp) p m first_count (record { state = y; vars = vars; at = 0 })) states
      (carry base (around_call symbol f l sp others) (around_call symbol h l sp others) (framed_as f l) (framed_as h l) base.loose (in_gap h l sp) base.shut shut_h nowhere sp suits
      p m first_count first_count start start done (record { turns = refl; steps = refl; allowed = refl; backs = omega arith }) (sync keeps_steps)))

pub carries_over : CarriesOver
carries_over f h code same no_f no_h keeps_steps g symbol need body name ok l vars others active turns call s m x layout room_is variables words is fits at =
    over-performs f h code same no_f no_h g symbol need l vars others active call s m x layout room_is variables words fits at (body turns call s) (keeps_steps l (same.layouts l layout))
    (ok l vars others active turns call s m x (same.layouts l layout) room_is
    (variables_f f h code same no_f no_h g symbol need l vars others active call s m x layout room_is variables words fits at) words is fits at)
