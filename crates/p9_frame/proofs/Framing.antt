-- What settling makes is framed.
use Rattle.std.proofs.Common.{ℕ, ◌+◌, ◌≡◌, ◌≤◌, Bool, true, false, Option, Some, refl, sym, ap, ◌∙◌, subst, arith, List, [], ◌++◌, length, map, if◌then◌else◌}
use Rattle.p9_abs.specs.declared.instructions.Abs.{Abs}
use Rattle.p9_abs.specs.declared.instructions.AFunction.{AFunction}
use Rattle.p9_abs.specs.declared.instructions.TextDef.{TextDef}
use Rattle.p9_abs.specs.declared.regions.Region.{Region}
use Rattle.p9_abs.specs.Automatics.{IsCode, IsInstructionOf, call_at}
use Rattle.p9_abs.specs.Regions.{AreRegions, AreHomes}
use Rattle.p9_base.specs.Core.{stack_start}
use Rattle.p9_abs.specs.Validity.{IsFrame, IsFunction}
use Rattle.p9_abs.specs.OneCall.{ArePlaced}
use Rattle.p9_abs.specs.Framed.{Plan, shifts_code, blocks, IsFramed}
use Rattle.p9_abs.specs.Keeping.{IsSettled}
use Rattle.p9_abs.specs.Runs.{taken_by}
use Rattle.p9_homes.proofs.Finding.{home-is}
use Rattle.p9_homed.specs.Plain.{IsPlain}
use Rattle.p9_keeps.proofs.Scenes.{taken-some}
use Rattle.p9_keeps.proofs.Keeping.{framed-keeps}
use Rattle.p9_keeps.specs.Addresses.{HasNearAddresses}
use Rattle.p9_keeps.proofs.Valid.{made-valid as framed-valid}
use Rattle.p9_frame.specs.Sizes.{offsets_from, end_from, stated_sum}
use Rattle.p9_frame.specs.Making.{first_of, IsMade}
use Rattle.p9_frame.specs.Plans.{held, at_call, plan_of}
use Rattle.p9_frame.specs.Emitted.{blocks_in}
use Rattle.p9_frame.proofs.Moving.{held-shifts, call-shifts}
use Rattle.p9_frame.proofs.Making.{blocks-same, all-at}
use Rattle.p9_frame.proofs.Held.{has-moves}
use Rattle.p9_frame.proofs.Placing.{are-placed, is-frame, frame-some, frame-bound, spare-word}

no-call : (code : List Abs) (table : List (Option ℕ)) (loads : Bool) (c i : ℕ) → call_at code c ≡ false → at_call code c (held code table loads i 12) ≡ []
no-call code table loads c i e = ap (λ b. if b then held code table loads i 12 else []) e

module _ (f : AFunction) (rs : List Region) (homes : List (Option ℕ)) (def : TextDef) (valid : IsCode f) (rg : AreRegions f rs) (hm : AreHomes rs homes) (room : stated_sum f ≤ 16777212) (m : IsMade f.code f.autos rs homes def) where
  abbrev own : List ℕ
  own = offsets_from (first_of f.code) f.autos

  abbrev plan : Plan
  plan = plan_of f.code m.table own

  taken : def.frame + 4 ≡ taken_by def
  taken = sym (taken-some def.frame def.code (let h = frame-some f in let e = m.frame_is in omega (arith, h, e)))

  same : blocks_in f.code f.autos m.table own m.starts (def.frame + 4) 0 f.code ≡ blocks f rs homes plan (taken_by def) 0 f.code
  same =
      blocks-same f rs homes m.table own m.starts (def.frame + 4) (home-is f rs homes (length f.code) m.table rg hm m.table_is) (m.starts_are own) 0 f.code
      (λ k a e. (all-at (IsInstructionOf (length f.autos) (length f.code)) f.code k a valid.instructions e).operands)
      ∙ ap (λ z. blocks f rs homes plan z 0 f.code) taken

  pub is-framed : IsFramed f rs homes def (plan_of f.code m.table (offsets_from (first_of f.code) f.autos))
  is-framed = record {
    frame = subst IsFrame (sym m.frame_is) (is-frame f room);
    placed = subst (λ z. ArePlaced f z (map (λ x. Some x) own)) (sym m.frame_is) (are-placed f);
    entry = held-shifts rs homes (length f.code) f.code m.table m.table_is true 0;
    before = λ i. call-shifts rs homes (length f.code) f.code m.table m.table_is false i i;
    after = λ i. call-shifts rs homes (length f.code) f.code m.table m.table_is true i (i + 1);
    only_at_calls = λ i e. (no-call f.code m.table false i i e, no-call f.code m.table true i (i + 1) e);
    code = m.code_is ∙ ap (λ z. shifts_code f plan plan.entry ++ z) same;
  }

pub made-along : (code others : List Abs) (sizes more : List ℕ) (rs : List Region) (homes : List (Option ℕ)) (def : TextDef) → code ≡ others → sizes ≡ more → IsMade code sizes rs homes def → IsMade others more rs homes def
made-along code others sizes more rs homes def e d m = subst (λ z. IsMade z more rs homes def) e (subst (λ z. IsMade code z rs homes def) d m)

-- what is made of a function's code is framed from it, and keeps its meaning
pub made-keeps : (f : AFunction) (code : List Abs) (sizes : List ℕ) (rs : List Region) (homes : List (Option ℕ)) (def : TextDef) → IsCode f → IsPlain f.code → AreRegions f rs → AreHomes rs homes → stated_sum f ≤ 16777212 →
    code ≡ f.code → sizes ≡ f.autos → IsMade code sizes rs homes def → IsSettled f rs homes def
made-keeps f code sizes rs homes def valid plain rg hm room e d m =
    let own = made-along code f.code sizes f.autos rs homes def e d m in
    let plan = plan_of f.code own.table (offsets_from (first_of f.code) f.autos) in
    let framed = is-framed f rs homes def valid rg hm room own in
    let some = frame-some f in let frame = own.frame_is in (
      plan,
      framed,
      framed-keeps f rs homes def plan valid plain rg hm framed (has-moves f rs homes (length f.code) own.table rg hm own.table_is (offsets_from (first_of f.code) f.autos)) (omega (arith, some, frame)),
    )

-- and it is valid, where addresses of automatics are near
pub made-valid : (f : AFunction) (code : List Abs) (sizes : List ℕ) (rs : List Region) (homes : List (Option ℕ)) (def : TextDef) → IsCode f → IsPlain f.code → AreRegions f rs → AreHomes rs homes → stated_sum f ≤ 16777212 →
    code ≡ f.code → sizes ≡ f.autos → IsMade code sizes rs homes def → HasNearAddresses f → IsFunction def
made-valid f code sizes rs homes def valid plain rg hm room e d m near =
    let own = made-along code f.code sizes f.autos rs homes def e d m in
    let plan = plan_of f.code own.table (offsets_from (first_of f.code) f.autos) in
    let some = frame-some f in let frame = own.frame_is in let bound = frame-bound f in
    framed-valid (record {
      f = f;
      rs = rs;
      homes = homes;
      def = def;
      p = plan;
      symbol = λ k. k;
      others = λ b. false;
      sp = stack_start;
      valid = valid;
      plain = plain;
      regions = rg;
      homed = hm;
      framed = is-framed f rs homes def valid rg hm room own;
      moves = has-moves f rs homes (length f.code) own.table rg hm own.table_is (offsets_from (first_of f.code) f.autos);
      some_frame = omega (arith, some, frame);
      low = omega arith;
      high = omega (arith, bound, frame, room);
      fourfold = refl;
      clear = λ b l. refl;
    })
    (λ v p at. (let q = spare-word f v p at in omega (arith, q, frame))) near

pub made-bound : (f : AFunction) (code : List Abs) (sizes : List ℕ) (rs : List Region) (homes : List (Option ℕ)) (def : TextDef) → code ≡ f.code → sizes ≡ f.autos → IsMade code sizes rs homes def → def.frame ≤ stated_sum f
made-bound f code sizes rs homes def e d m =
    let own = made-along code f.code sizes f.autos rs homes def e d m in
    let h = own.frame_is in
    let b = frame-bound f in
    omega (arith, h, b)

pub room-along : (f : AFunction) (code : List Abs) (sizes : List ℕ) → code ≡ f.code → sizes ≡ f.autos → stated_sum f ≤ 16777212 → end_from (first_of code) sizes ≤ 16777212
room-along f code sizes e d room =
    subst (λ z. end_from (first_of z) sizes ≤ 16777212) (sym e) (subst (λ z. end_from (first_of f.code) z ≤ 16777212) (sym d) (let b = frame-bound f in omega (arith, b, room)))
