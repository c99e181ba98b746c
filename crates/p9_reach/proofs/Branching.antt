-- Which lines of forms go to a place that a half word names, and where they go.
use Rattle.std.proofs.Common.{ℕ, zero, suc, ◌+◌, ◌≡◌, ◌<◌, inl, inr, nat_lt, Bool, true, false, Option, Some, None, List, [], ◌∷◌, length, refl, sym, ap, ◌∙◌, subst, if◌then◌else◌, arith}
use Rattle.std.specs.Prelude.{slice_get, slice_index}
use Rattle.std.proofs.lemmas.Option.{none-some, same_Some}
use Rattle.std.proofs.lemmas.Bool.Decides.{nat_tests}
use Rattle.p9_abs.specs.declared.forms.PairTest.{PairTest}
use Rattle.p9_abs.specs.declared.forms.PairTest.TheVariants.{Equal, Unequal}
use Rattle.p9_abs.specs.declared.forms.SignTest.{SignTest}
use Rattle.p9_abs.specs.declared.forms.SignTest.TheVariants.{NotNegative, Positive, NotPositive, Negative}
use Rattle.p9_abs.specs.declared.forms.Form.{Form}
use Rattle.p9_abs.specs.declared.forms.Form.TheVariants as forms
use Rattle.p9_abs.specs.Forms.{words_of}
use Rattle.p9_r3k.specs.declared.inst.Inst.{Inst}
use Rattle.p9_r3k.specs.declared.inst.Inst.TheVariants as i
use Rattle.p9_r3k.specs.declared.lines.Line.{Line}
use Rattle.p9_r3k.specs.Effects.{writes_pair}
use Rattle.p9_r3k.specs.Uses.{delays}
use Rattle.p9_lines.specs.declared.parts.Way.{Way}
use Rattle.p9_lines.specs.Insts.{pair_branch, sign_branch, other_pair, other_sign}
use Rattle.p9_lines.specs.FormLines.{plain, going_to, jump_lines, lines_of}
use Rattle.p9_lines.specs.Laws.{is_branch, LeadsOn, Lead}
use Rattle.p9_lines.specs.Weights.{words_needed}
use Rattle.p9_lines.proofs.Leading.{leads_all}
use Rattle.p9_pieces.specs.Ways.{Scope, in_reach, way_of}
use Rattle.p9_image_laws.specs.Reaching.{is_jump}
use Rattle.p9_reach.proofs.Spacing.{words-cons}

-- Lines that go nowhere

pub lead-none : (may : Bool) (w : Way) (lines : List Line) (j t : ℕ) (line : Line) → Lead may w lines → (may ≡ true → ⊥) → (w.goal ≡ Some t → ⊥) →
    slice_get lines j ≡ Some line → line.target ≡ Some t → ⊥
lead-none may w [] j t line h never none e g = none-some line e
lead-none may w (first ∷ rest) zero t line h never none e g =
    by first.target (let same : first ≡ line = same_Some first line e in ap (λ (l : Line). l.target) same ∙ g) h.0
  where
    by : (o : Option ℕ) → o ≡ Some t → LeadsOn may w first.inst o → ⊥
    by None e k = none-some t e
    by (Some n) e (inl k) = never k.0
    by (Some n) e (inr k) = none (k ∙ ap Some (same_Some n t e))
lead-none may w (first ∷ rest) (suc j) t line h never none e g = lead-none may w rest j t line h.1 never none e g

-- Branches

-- a branch, in whose delay a no-op may come, and which doesn't write HI or LO
abbrev pub IsTurn : Inst → Type 0
IsTurn b = (delays b ≡ true) × (writes_pair b ≡ false)

pair-turns : (t : PairTest) (a b : ℕ) → IsTurn (pair_branch t a b)
pair-turns Equal a b = (refl, refl)
pair-turns Unequal a b = (refl, refl)

sign-turns : (t : SignTest) (a : ℕ) → IsTurn (sign_branch t a)
sign-turns NotNegative a = (refl, refl)
sign-turns Positive a = (refl, refl)
sign-turns NotPositive a = (refl, refl)
sign-turns Negative a = (refl, refl)

turn-words : (b : Inst) (goal : ℕ) → IsTurn b → words_needed (going_to b goal ∷ []) ≡ 2
turn-words b goal h =
    words-cons (going_to b goal) []
    ∙ (ap (λ (x : Bool). 1 + (if x then 1 else 0) + (if writes_pair b then 2 else 0) + 0) h.0
    ∙ ap (λ (x : Bool). 1 + 1 + (if x then 2 else 0) + 0) h.1)

-- where the line goes on
pub data Goes (first next n : ℕ) (words : ℕ) (near : ℕ → Bool) (count : ℕ) : Type 0 where
  Shortly : (label : ℕ) → n ≡ first + label → label < count → near label ≡ true → words ≡ 2 → Goes first next n words near count
  Over : n ≡ next → Goes first next n words near count

pub record Branches (first next n j : ℕ) (words : ℕ) (near : ℕ → Bool) (count : ℕ) (line : Line) : Type 0 where
  pub start : j ≡ 0
  pub turn : IsTurn line.inst
  pub goes : Goes first next n words near count

no-target : (line : Line) (n : ℕ) → plain (i.Break 0) ≡ line → line.target ≡ Some n → ⊥
no-target line n e g = none-some n (ap (λ (l : Line). l.target) e ∙ g)

branch-leads : (near : ℕ → Bool) (short within : Bool) (first label next count n j : ℕ) (branch other : Inst) (line : Line) → IsTurn branch → IsTurn other →
    near label ≡ short → nat_lt label count ≡ within →
    (let lines : List Line = (if short then jump_lines branch (if within then Some (first + label) else None)
    else going_to other next ∷ jump_lines (i.J 0) (if within then Some (first + label) else None)) in
    slice_get lines j ≡ Some line → line.target ≡ Some n → is_jump line.inst ≡ false → Branches first next n j (words_needed lines) near count line)
branch-leads near true true first label next count n zero branch other line h k ns nw e g q =
    let same : going_to branch (first + label) ≡ line = same_Some (going_to branch (first + label)) line e in
    record {
      start = refl;
      turn = subst (λ (l : Line). IsTurn l.inst) same h;
      goes = Shortly label (sym (same_Some (first + label) n (ap (λ (l : Line). l.target) same ∙ g)))
          (let small : label < count = grind (arith, nat_tests) in small) ns (turn-words branch (first + label) h);
    }
branch-leads near true true first label next count n (suc j) branch other line h k ns nw e g q = absurd (nothing j e)
  where
    nothing : (j : ℕ) → slice_get [] j ≡ Some line → ⊥
    nothing j e = none-some line e
branch-leads near true false first label next count n zero branch other line h k ns nw e g q = absurd (no-target line n (same_Some (plain (i.Break 0)) line e) g)
branch-leads near true false first label next count n (suc j) branch other line h k ns nw e g q = absurd (none-some line e)
branch-leads near false within first label next count n zero branch other line h k ns nw e g q =
    let same : going_to other next ≡ line = same_Some (going_to other next) line e in
    record {
      start = refl;
      turn = subst (λ (l : Line). IsTurn l.inst) same k;
      goes = Over (sym (same_Some next n (ap (λ (l : Line). l.target) same ∙ g)));
    }
branch-leads near false true first label next count n (suc zero) branch other line h k ns nw e g q =
    absurd (let same : going_to (i.J 0) (first + label) ≡ line = same_Some (going_to (i.J 0) (first + label)) line e in
    let z : true ≡ false = ap (λ (l : Line). is_jump l.inst) same ∙ q in cc)
branch-leads near false true first label next count n (suc (suc j)) branch other line h k ns nw e g q = absurd (none-some line e)
branch-leads near false false first label next count n (suc zero) branch other line h k ns nw e g q =
    absurd (no-target line n (same_Some (plain (i.Break 0)) line e) g)
branch-leads near false false first label next count n (suc (suc j)) branch other line h k ns nw e g q = absurd (none-some line e)

-- Jumps

jump-leads : (inst : Inst) (goal : Option ℕ) (j n : ℕ) (line : Line) → is_jump inst ≡ true →
    slice_get (jump_lines inst goal) j ≡ Some line → line.target ≡ Some n → is_jump line.inst ≡ false → ⊥
jump-leads inst None zero n line h e g q = no-target line n (same_Some (plain (i.Break 0)) line e) g
jump-leads inst None (suc j) n line h e g q = none-some line e
jump-leads inst (Some goal) zero n line h e g q =
    (let same : going_to inst goal ≡ line = same_Some (going_to inst goal) line e in
    let z : true ≡ false = sym h ∙ (ap (λ (l : Line). is_jump l.inst) same ∙ q) in cc)
jump-leads inst (Some goal) (suc j) n line h e g q = none-some line e

-- Forms

-- what a line of a form does that goes somewhere and is no jump
abbrev pub FormBranches : Scope → ℕ → Form → (n j : ℕ) → Line → Type 0
FormBranches s k form n j line =
    Branches s.first (s.first + k + 1) n j (words_needed (lines_of s.setting (way_of s k form) form))
    (λ label. in_reach (slice_index s.words k) (slice_index s.words label)) (length s.words) line
    × (words_of form ≡ 4)

none-goes : (s : Scope) (k : ℕ) (form : Form) (n j : ℕ) (line : Line) → is_branch form ≡ false → (way_of s k form).goal ≡ None →
    slice_get (lines_of s.setting (way_of s k form) form) j ≡ Some line → line.target ≡ Some n → ⊥
none-goes s k form n j line plain_form none e g =
    lead-none (is_branch form) (way_of s k form) (lines_of s.setting (way_of s k form) form) j n line (leads_all s.setting (way_of s k form) form)
    (λ b. let z : false ≡ true = sym plain_form ∙ b in cc) (λ h. none-some n (sym none ∙ h)) e g

pub form-branches : (s : Scope) (k : ℕ) (form : Form) (n j : ℕ) (line : Line) → slice_get (lines_of s.setting (way_of s k form) form) j ≡ Some line →
    line.target ≡ Some n → is_jump line.inst ≡ false → FormBranches s k form n j line
form-branches s k (forms.BranchPair t a b l) n j line e g q = (
  branch-leads (λ label. in_reach (slice_index s.words k) (slice_index s.words label)) (in_reach (slice_index s.words k) (slice_index s.words l)) (nat_lt l (length s.words))
      s.first l (s.first + k + 1) (length s.words) n j (pair_branch t a b) (pair_branch (other_pair t) a b) line (pair-turns t a b) (pair-turns (other_pair t) a b) refl refl e g q,
  refl,
)
form-branches s k (forms.BranchSign t a l) n j line e g q = (
  branch-leads (λ label. in_reach (slice_index s.words k) (slice_index s.words label)) (in_reach (slice_index s.words k) (slice_index s.words l)) (nat_lt l (length s.words))
      s.first l (s.first + k + 1) (length s.words) n j (sign_branch t a) (sign_branch (other_sign t) a) line (sign-turns t a) (sign-turns (other_sign t) a) refl refl e g q,
  refl,
)
form-branches s k (forms.Jump l) n j line e g q = absurd (jump-leads (i.J 0) (way_of s k (forms.Jump l)).goal j n line refl e g q)
form-branches s k (forms.Call symbol) n j line e g q = absurd (jump-leads (i.Jal 0) (way_of s k (forms.Call symbol)).goal j n line refl e g q)
form-branches s k (forms.Move width a b) n j line e g q = absurd (none-goes s k (forms.Move width a b) n j line refl refl e g)
form-branches s k (forms.SetConstant c b) n j line e g q = absurd (none-goes s k (forms.SetConstant c b) n j line refl refl e g)
form-branches s k (forms.SetAddress a b) n j line e g q = absurd (none-goes s k (forms.SetAddress a b) n j line refl refl e g)
form-branches s k (forms.Load width a b) n j line e g q = absurd (none-goes s k (forms.Load width a b) n j line refl refl e g)
form-branches s k (forms.Store width a b) n j line e g q = absurd (none-goes s k (forms.Store width a b) n j line refl refl e g)
form-branches s k (forms.GetHiLo a b) n j line e g q = absurd (none-goes s k (forms.GetHiLo a b) n j line refl refl e g)
form-branches s k (forms.SetHiLo a b) n j line e g q = absurd (none-goes s k (forms.SetHiLo a b) n j line refl refl e g)
form-branches s k (forms.Calculate o a b c) n j line e g q = absurd (none-goes s k (forms.Calculate o a b c) n j line refl refl e g)
form-branches s k (forms.CalculateConstant o a b c) n j line e g q = absurd (none-goes s k (forms.CalculateConstant o a b c) n j line refl refl e g)
form-branches s k (forms.ShiftConstant o a b c) n j line e g q = absurd (none-goes s k (forms.ShiftConstant o a b c) n j line refl refl e g)
form-branches s k (forms.Multiply o a b) n j line e g q = absurd (none-goes s k (forms.Multiply o a b) n j line refl refl e g)
form-branches s k (forms.CallRegister a) n j line e g q = absurd (none-goes s k (forms.CallRegister a) n j line refl refl e g)
form-branches s k forms.Return n j line e g q = absurd (none-goes s k forms.Return n j line refl refl e g)
form-branches s k forms.SystemCall n j line e g q = absurd (none-goes s k forms.SystemCall n j line refl refl e g)
