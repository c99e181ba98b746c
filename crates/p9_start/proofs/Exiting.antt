-- The call of `exits` behind `main`: from a state of C that has the exit text alone.
use Rattle.std.proofs.Common.{◌≡◌, ◌≤◌, ◌<◌, inl, ℕ, zero, suc, ◌+◌, ◌%◌, Bool, true, false, Option, Some, None, Result, Ok, Err, List, [], ◌∷◌, map, length, slice_get, slice_index, refl, sym, ap, ◌∙◌, subst, arith}
use Rattle.std.proofs.lemmas.Option.{slice_get_past}
use Rattle.p9_base.specs.Words.{IsWord, word_sum}
use Rattle.p9_base.specs.Core.{stack_start, stack_end, low_end, reg, read_byte}
use Rattle.p9_base.specs.SystemCalls.{State, exit_text}
use Rattle.p9_abs.specs.Steps.{Mach, Calls, step}
use Rattle.p9_abs.specs.Runs.{Routine, Addresses, Active, Going, Gone, kept_by, routine_at, linked_to, around_of, arun_from}
use Rattle.p9_abs.specs.Programs.{static_base}
use Rattle.p9_cmean.specs.declared.Cause.{Cause}
use Rattle.p9_cmean.specs.declared.Place.{Place}
use Rattle.p9_cmean.specs.Cells as c
use Rattle.p9_cmean.specs.Cells.{FunctionName, Global, Pointer, Into, Cell, Byte, Object, Value, Word, Address, Missing}
use Rattle.p9_cmean.specs.Plays.{Call, Exit}
use Rattle.p9_cmean.specs.PlayLaws.{Lasts}
use Rattle.p9_cmean.specs.Access.{pointer_in}
use Rattle.p9_cmean.specs.Turns.{Ended, Over, Functions, calls_to}
use Rattle.p9_cmean.specs.Places.{or_wrong}
use Rattle.p9_cmean.specs.SystemCalls.{Exits, exits, exits_call, system_body, exit_text as c_text}
use Rattle.p9_cmean.specs.Union.{base_need}
use Rattle.p9_cmean.specs.FirstContents.{text_object}
use Rattle.p9_cmean.specs.CRun.{return_text}
use Rattle.p9_sim.specs.Memory.{Map, HasAddress, Ground, StandCells, Owner}
use Rattle.p9_sim.specs.Matching.{Match, AtCall, entry_of}
use Rattle.p9_sim.specs.Playing.{AllSteps}
use Rattle.p9_compose.specs.Calling.{IsProgram, run_at, waiting, ComesTo}
use Rattle.p9_compose.proofs.Composing.{calls_are_right}
use Rattle.p9_systems.specs.Systems.{system_def}
use Rattle.p9_systems.proofs.Cells.{some-same}
use Rattle.p9_start.specs.Starting.{exit_bytes}
use Rattle.p9_systems.proofs.Systems.{systems_are_right}

-- a program that has `exits` alone, by whatever name
abbrev pub exits_alone : Functions
exits_alone = record { body = λ turns call s. system_body Exits call s; need = λ name. base_need }

exit-lasts : (n : ℕ) (place : Place) (s : c.State) (r : Result (List ℕ) Cause) → Lasts {A = Value} (suc n) (or_wrong place s r (λ text. Exit text s))
exit-lasts n place s (Ok text) = tt
exit-lasts n place s (Err why) = tt

pointer-lasts : (n : ℕ) (place : Place) (s : c.State) (r : Result (Option Pointer) Cause) → Lasts {A = Value} (suc n) (or_wrong place s r (λ pointer. exits place pointer s))
pointer-lasts n place s (Ok pointer) = exit-lasts n place s (c_text s.objects pointer)
pointer-lasts n place s (Err why) = tt

call-lasts : (n : ℕ) (place : Place) (vs : List Value) (s : c.State) → Lasts (suc n) (exits_call place vs s)
call-lasts n place [] s = tt
call-lasts n place (v ∷ []) s = pointer-lasts n place s (pointer_in v)
call-lasts n place (v ∷ (w ∷ vs)) s = tt

abbrev ground_at : (exits_address data_start : ℕ) → Ground
ground_at exits_address data_start = record { function = λ name. exits_address; statics = []; data_start = data_start }

program-is : (p : Addresses) (rs : List Routine) (exits_address data_start number unit symbol : ℕ) → routine_at p rs 0 exits_address ≡ Some number
    → slice_get rs number ≡ Some (record { unit = unit; symbol = symbol; def = system_def Exits }) → ((k : ℕ) → k < 4 → IsWord (p.instruction number k))
    → IsProgram p rs (ground_at exits_address data_start) exits_alone 4
program-is p rs exits_address data_start number unit symbol found is placed = record {
  codes = λ name. inl (record {
    number = number;
    routine = record { unit = unit; symbol = symbol; def = system_def Exits };
    found = found;
    is = is;
    ends_well = inl refl;
    short = omega arith;
    placed = placed;
    ok = systems_are_right AllSteps (ground_at exits_address data_start) (p.symbol unit) Exits base_need name;
  });
  last = λ turns call s. call-lasts turns call.place call.arguments s;
}

abbrev text_state : (output input : List ℕ) → c.State
text_state output input = record { objects = text_object return_text ∷ []; input = input; output = output }

abbrev text_call : Call
text_call = record { function = Global []; arguments = Address (Into 0 0) ∷ []; place = record { «module» = 0; node = 0 } }

call-ends : (output input : List ℕ) → calls_to 1 exits_alone base_need 1 0 text_call (text_state output input) ≡ Over (Ended return_text (text_state output input)) 0
call-ends output input = refl

-- what must hold of a state for the call of `exits` with the exit text in R1
pub record IsLast (data_start text : ℕ) (others : ℕ → Bool) (x : State) : Type 0 where
  pub matched : (g : Ground) × (m : Map) × (s : c.State) × (g.data_start ≡ data_start) × Match g others base_need m s x
  pub argument : word_sum text 0 ≡ reg x.core 1
  pub in_data : (data_start ≤ text) × (text + length exit_bytes ≤ low_end x.core)
  pub fourfold : text % 4 ≡ 0
  pub bytes : (i : ℕ) → i < length exit_bytes → read_byte x.core (text + i) ≡ slice_index exit_bytes i
  pub room : reg x.core 29 + 8 ≤ stack_end
  pub free : (byte : ℕ) → byte < stack_start → others byte ≡ false
  pub allowed : (byte : ℕ) → reg x.core 29 + 4 ≤ byte → others byte ≡ false
  pub above : (byte : ℕ) → others byte ≡ true → reg x.core 29 ≤ byte

cells-stand : (g : Ground) (m : Map) (byte : ℕ → ℕ) (xs : List ℕ) (a : ℕ) → ((j : ℕ) → j < length xs → byte (a + j) ≡ slice_index xs j) → StandCells g m (map Byte xs) byte a
cells-stand g m byte [] a h = tt
cells-stand g m byte (b ∷ xs) a h =
    let z : a + 0 ≡ a = omega arith in (
      sym (ap byte (sym z) ∙ h 0 (omega arith)),
      cells-stand g m byte xs (a + 1) (λ j l. let q : a + 1 + j ≡ a + suc j = omega arith in ap byte q ∙ h (suc j) (omega (arith, l))),
    )

module _ (exits_address data_start text : ℕ) (others : ℕ → Bool) (x : State) (h : IsLast data_start text others x) where
  abbrev g : Ground
  g = ground_at exits_address data_start

  abbrev s : c.State
  s = text_state x.out x.left

  abbrev m : Map
  m = Some text ∷ []

  one-object : (number : ℕ) (object : Object) → slice_get s.objects number ≡ Some object → (number ≡ 0) × (object ≡ text_object return_text)
  one-object zero object e = (refl, sym (some-same (text_object return_text) object e))
  one-object (suc n) object e = absurd (let z : None ≡ Some object = sym (slice_get_past s.objects (suc n) (omega arith)) ∙ e in cc)

  its-start : (number start : ℕ) → HasAddress m number start → number ≡ 0 → text ≡ start
  its-start number start e z = some-same text start (some-same (Some text) (Some start) (ap (slice_get m) (sym z) ∙ e))

  one-address : (number start : ℕ) → HasAddress m number start → text ≡ start
  one-address zero start e = its-start 0 start e refl
  one-address (suc n) start e = absurd (let z : None ≡ Some (Some start) = sym (slice_get_past m (suc n) (omega arith)) ∙ e in cc)

  where-owned : (byte : ℕ) → Owner m s.objects byte → (text ≤ byte) × (byte < text + 5)
  where-owned byte w =
      let o = one-object w.number w.object w.is_object in
      let st = one-address w.number w.start w.placed in
      let i = w.inside in let is = w.is in
      let n : length w.object.cells ≡ 5 = ap (λ z. length z.cells) o.1 in
      (omega (arith, st, is), omega (arith, st, is, i, n))

  low-byte : (byte : ℕ) → Owner m s.objects byte → byte < stack_start
  low-byte byte w =
      let i = where-owned byte w in let i1 = i.1 in let d = h.in_data in let d1 = d.1 in let u = h.matched.4.gap in omega (arith, i1, d1, u)

  matched : Match g others base_need m s x
  matched =
      let q = h.matched.4 in let e = h.matched.3 in let d = h.in_data in let d0 = d.0 in let d1 = d.1 in let st = q.data_start in let bh = q.behind in
      record {
        count = refl;
        statics = λ object start i. absurd (let z : None ≡ Some start = i in cc);
        fourfold = λ object start placed. (let z = one-address object start placed in let f = h.fourfold in omega (arith, z, f));
        cells = λ number start object is alive placed. (let o = one-object number object is in let z = one-address number start placed in
            subst (λ a. StandCells g m object.cells (read_byte x.core) a) z
            (subst (λ k. StandCells g m k.cells (read_byte x.core) text) (sym o.1) (cells-stand g m (read_byte x.core) exit_bytes text h.bytes)));
        lie = λ byte w. (let i = where-owned byte w in let i0 = i.0 in let i1 = i.1 in inl (omega (arith, i0, d0, st, e), omega (arith, i1, d1)));
        disjoint = λ byte a b. (one-object a.number a.object a.is_object).0 ∙ sym (one-object b.number b.object b.is_object).0;
        free = λ byte w. h.free byte (low-byte byte w);
        output = refl;
        input = refl;
        base = q.base ∙ ap static_base e;
        aligned = q.aligned;
        top = q.top;
        floor = q.floor;
        not_deep = q.not_deep;
        words = q.words;
        bytes = q.bytes;
        laid = q.laid;
        data_start = q.data_start ∙ e;
        behind = omega (arith, bh, e);
        gap = q.gap;
        order = q.order;
        running = q.running;
      }

  pub at-call : AtCall g others others base_need m text_call s x
  at-call =
      let q = h.matched.4 in let f = q.floor in let n = q.not_deep in
      record {
        matched = matched;
        arguments = (ap Some h.argument, tt);
        in_stack = λ byte i. (let i1 = i.1 in let r = h.room in omega (arith, i1, r));
        allowed = λ byte i. h.allowed byte i.0;
        above = h.above;
        unowned = λ byte i w. (let l = low-byte byte w in let i0 = i.0 in omega (arith, l, i0, f, n));
      }

-- the run from the JAL of `exits`
pub exits-run : (p : Addresses) (rs : List Routine) (exits_address data_start text number unit symbol : ℕ) → routine_at p rs 0 exits_address ≡ Some number
    → slice_get rs number ≡ Some (record { unit = unit; symbol = symbol; def = system_def Exits }) → ((k : ℕ) → k < 4 → IsWord (p.instruction number k))
    → (f : ℕ) (kept : Option ℕ) (rt : Routine) (y z : Mach) → slice_get rs f ≡ Some rt → IsWord (p.instruction f z.at) → step (around_of p rt (run_at y f kept [])) rt.def.code y ≡ Calls exits_address z
    → (let a : Active = waiting f kept z in let x : State = linked_to (p.instruction f z.at) z.state in IsLast data_start text (kept_by (a ∷ [])) x
    → (j : ℕ) × (w : State) × (arun_from p rs j (Going (run_at y f kept [])) ≡ Gone w) × (exit_text w.core ≡ return_text) × (w.out ≡ z.state.out) × (w.left ≡ z.state.left) × (j ≤ 5))
exits-run p rs exits_address data_start text number unit symbol found is placed f kept rt y z first word eq h =
    let a : Active = waiting f kept z in
    let x : State = linked_to (p.instruction f z.at) z.state in
    let g : Ground = ground_at exits_address data_start in
    let r : ComesTo p rs g 4 1 0 (Going (run_at y f kept [])) a [] base_need (entry_of (Some text ∷ []) (text_state x.out x.left) text_call x) (calls_to 1 exits_alone base_need 1 0 text_call (text_state x.out x.left)) =
    calls_are_right p rs g exits_alone 4 (program-is p rs exits_address data_start number unit symbol found is placed) text_call (text_state x.out x.left) 1 0 base_need (Some text ∷ []) f kept [] rt y z first word eq
    (at-call exits_address data_start text (kept_by (a ∷ [])) x h) in
    let t = subst (ComesTo p rs g 4 1 0 (Going (run_at y f kept [])) a [] base_need (entry_of (Some text ∷ []) (text_state x.out x.left) text_call x)) (call-ends x.out x.left) r in
    let l = t.6 in
    (t.0, t.1, t.2, t.3, t.4, t.5, omega (arith, l))
