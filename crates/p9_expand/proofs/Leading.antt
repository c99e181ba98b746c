-- Each line that goes to a number goes to that of a piece.
use Rattle.std.proofs.Common.{ℕ, ◌+◌, ◌≡◌, ◌≤◌, ◌<◌, ◌⊎◌, inl, inr, nat_lt, suc, map, sum_by, rules, tests, Bool, true, false, Option, Some, None, cond, List, [], ◌∷◌, ◌++◌, length, length-append, refl, sym, ap, ◌∙◌, subst, All, arith}
use Rattle.std.specs.Prelude.{option_and_then}
use Rattle.std.proofs.lemmas.List.Sums.{sum_by-cons}
use Rattle.std.proofs.lemmas.Option.{none-some, same_Some}
use Rattle.std.proofs.lemmas.List.Elements.{All-head, All-tail}
use Rattle.p9_abs.specs.declared.instructions.Op.TheVariants.{Jmp, Ret}
use Rattle.p9_abs.specs.declared.instructions.Abs.{Abs}
use Rattle.p9_abs.specs.declared.modules.Def.{Def}
use Rattle.p9_abs.specs.declared.forms.OperandKind.{OperandKind}
use Rattle.p9_abs.specs.declared.forms.OperandKind.TheVariants.{Register, Constant, Address, Memory, HiLo, Target, Function}
use Rattle.p9_abs.specs.declared.forms.Form.{Form}
use Rattle.p9_abs.specs.declared.forms.Form.TheVariants as forms
use Rattle.p9_abs.specs.Forms.{weight_of, decoded, kinds_form, jump, bare, operand_kind}
use Rattle.p9_abs.specs.Runs.{Routine}
use Rattle.p9_abs.specs.Programs.{is_routine}
use Rattle.p9_abs.specs.Validity.{EndsWell}
use Rattle.p9_r3k.specs.declared.lines.Line.{Line}
use Rattle.p9_slot.specs.Aimed.{IsAimed, AreAimed}
use Rattle.p9_text.specs.Places.{places_of}
use Rattle.p9_text.specs.Entries.{entry_number}
use Rattle.p9_lines.specs.declared.parts.Way.{Way}
use Rattle.p9_lines.specs.FormLines.{lines_of, entry_lines}
use Rattle.p9_lines.specs.Laws.{is_branch, LeadsOn, Lead}
use Rattle.p9_lines.proofs.Leading.{leads_all, entry_leads}
use Rattle.p9_pieces.specs.Ways.{Scope, scope_of, words_from, label_goal, goal_of, way_of}
use Rattle.p9_pieces.specs.Pieces.{form_lines, code_pieces, function_pieces, pieces_from, joined}
use Rattle.p9_pieces.proofs.Stepping.{joined-append}
use Rattle.p9_expand.proofs.Valid.{IsSound}

-- Lines

leads-aimed : (n : ℕ) (may : Bool) (w : Way) (lines : List Line) → (may ≡ true → w.next < n) → ((t : ℕ) → w.goal ≡ Some t → t < n) → Lead may w lines → AreAimed n lines
leads-aimed n may w [] next goal h = tt
leads-aimed n may w (line ∷ rest) next goal h = (by line.target h.0, leads-aimed n may w rest next goal h.1)
  where
    by : (o : Option ℕ) → LeadsOn may w line.inst o → IsAimed n line.inst o
    by None k = k
    by (Some t) (inl k) = subst (λ m. m < n) (sym k.1) (next k.0)
    by (Some t) (inr k) = goal t k

pub aimed-append : (n : ℕ) (xs ys : List Line) → AreAimed n xs → AreAimed n ys → AreAimed n (xs ++ ys)
aimed-append n [] ys h k = k
aimed-append n (x ∷ xs) ys h k = (h.0, aimed-append n xs ys h.1 k)

-- Goals

-- how the numbers of a function lie among n of them
pub record IsInside (n : ℕ) (s : Scope) : Type 0 where
  pub labels : s.first + length s.words ≤ n
  pub callees : (symbol t : ℕ) → s.callee symbol ≡ Some t → t < n

label-inside : (n : ℕ) (s : Scope) (l t : ℕ) → IsInside n s → label_goal s l ≡ Some t → t < n
label-inside n s l t i e = by (nat_lt l (length s.words)) (λ h. h) refl e
  where
    by : (b : Bool) → (nat_lt l (length s.words) ≡ true → nat_lt l (length s.words) ≡ true) → nat_lt l (length s.words) ≡ b → cond b (Some (s.first + l)) None ≡ Some t → t < n
    by true h same k =
        let below : l < length s.words = search (rules, tests, same) in
        omega (arith, i.labels, below, same_Some (s.first + l) t k)
    by false h same k = absurd (none-some t k)

goal-inside : (n : ℕ) (s : Scope) (form : Form) (t : ℕ) → IsInside n s → goal_of s form ≡ Some t → t < n
goal-inside n s (forms.BranchPair test a b l) t i e = label-inside n s l t i e
goal-inside n s (forms.BranchSign test a l) t i e = label-inside n s l t i e
goal-inside n s (forms.Jump l) t i e = label-inside n s l t i e
goal-inside n s (forms.Call symbol) t i e = i.callees symbol t e
goal-inside n s (forms.Move width a b) t i e = absurd (none-some t e)
goal-inside n s (forms.SetConstant c b) t i e = absurd (none-some t e)
goal-inside n s (forms.SetAddress a b) t i e = absurd (none-some t e)
goal-inside n s (forms.Load width a b) t i e = absurd (none-some t e)
goal-inside n s (forms.Store width a b) t i e = absurd (none-some t e)
goal-inside n s (forms.GetHiLo a b) t i e = absurd (none-some t e)
goal-inside n s (forms.SetHiLo a b) t i e = absurd (none-some t e)
goal-inside n s (forms.Calculate k a b c) t i e = absurd (none-some t e)
goal-inside n s (forms.CalculateConstant k a b c) t i e = absurd (none-some t e)
goal-inside n s (forms.ShiftConstant k a b c) t i e = absurd (none-some t e)
goal-inside n s (forms.Multiply k a b) t i e = absurd (none-some t e)
goal-inside n s (forms.CallRegister a) t i e = absurd (none-some t e)
goal-inside n s forms.Return t i e = absurd (none-some t e)
goal-inside n s forms.SystemCall t i e = absurd (none-some t e)

-- RET and JMP are no conditional branches

abbrev is-branch-of : Option Form → Bool
is-branch-of None = false
is-branch-of (Some form) = is_branch form

bare-turns : (kinds : List OperandKind) → is-branch-of (bare forms.Return kinds) ≡ false
bare-turns [] = refl
bare-turns (k ∷ ks) = refl

jump-turns : (kinds : List OperandKind) → is-branch-of (jump kinds) ≡ false
jump-turns [] = refl
jump-turns (Register a ∷ []) = refl
jump-turns (Constant a ∷ []) = refl
jump-turns (Address a ∷ []) = refl
jump-turns (Memory a ∷ []) = refl
jump-turns (HiLo a ∷ []) = refl
jump-turns (Target a ∷ []) = refl
jump-turns (Function a ∷ []) = refl
jump-turns (Register a ∷ k ∷ ks) = refl
jump-turns (Constant a ∷ k ∷ ks) = refl
jump-turns (Address a ∷ k ∷ ks) = refl
jump-turns (Memory a ∷ k ∷ ks) = refl
jump-turns (HiLo a ∷ k ∷ ks) = refl
jump-turns (Target a ∷ k ∷ ks) = refl
jump-turns (Function a ∷ k ∷ ks) = refl

last-turns : (a : Abs) → (a.op ≡ Ret) ⊎ (a.op ≡ Jmp) → is-branch-of (decoded a) ≡ false
last-turns a (inl e) = ap (λ op. is-branch-of (kinds_form op (map operand_kind a.operands))) e ∙ bare-turns (map operand_kind a.operands)
last-turns a (inr e) = ap (λ op. is-branch-of (kinds_form op (map operand_kind a.operands))) e ∙ jump-turns (map operand_kind a.operands)

-- Pieces

form-aimed : (n : ℕ) (s : Scope) (k : ℕ) (o : Option Form) → IsInside n s → (is-branch-of o ≡ true → s.first + k + 1 < n) → AreAimed n (form_lines s k o)
form-aimed n s k None i next = tt
form-aimed n s k (Some form) i next =
    leads-aimed n (is_branch form) (way_of s k form) (lines_of s.setting (way_of s k form) form) next (λ t e. goal-inside n s form t i e) (leads_all s.setting (way_of s k form) form)

code-aimed : (n : ℕ) (s : Scope) (k : ℕ) (code : List Abs) → IsInside n s → s.first + k + length code ≤ n → EndsWell code → AreAimed n (joined (code_pieces s k code))
code-aimed n s k [] i room e = absurd e
code-aimed n s k (a ∷ []) i room e =
    aimed-append n (form_lines s k (decoded a)) [] (form-aimed n s k (decoded a) i (λ b. absurd (let no : false ≡ true = sym (last-turns a e) ∙ b in cc no))) tt
code-aimed n s k (a ∷ b ∷ rest) i room e =
    aimed-append n (form_lines s k (decoded a)) (joined (code_pieces s (k + 1) (b ∷ rest)))
    (form-aimed n s k (decoded a) i (λ h. omega (arith, room)))
    (code-aimed n s (k + 1) (b ∷ rest) i (omega (arith, room)) e)

function-aimed : (n : ℕ) (s : Scope) (code : List Abs) → IsInside n s → s.first + length code ≤ n → EndsWell code → AreAimed n (joined (function_pieces s code))
function-aimed n s code i room e =
    let w : Way = record { next = 0; goal = None; short = false } in
    aimed-append n (entry_lines s.setting) (joined (code_pieces s 0 code))
    (leads-aimed n false w (entry_lines s.setting) (λ h. absurd (cc h)) (λ t h. absurd (none-some t h)) (entry_leads false w s.setting))
    (code-aimed n s 0 code i (omega (arith, room)) e)

-- Numbers

abbrev pub numbers_of : List Routine → ℕ
numbers_of rs = sum_by places_of rs

words-length : (n : ℕ) (code : List Abs) → length (words_from n code) ≡ length code
words-length n [] = refl
words-length n (a ∷ rest) = ap suc (words-length (n + weight_of a) rest)

code-length : (s : Scope) (k : ℕ) (code : List Abs) → length (code_pieces s k code) ≡ length code
code-length s k [] = refl
code-length s k (a ∷ rest) = ap suc (code-length s (k + 1) rest)

pub pieces_length : (callee : ℕ → ℕ → Option ℕ) (n : ℕ) (rs : List Routine) → length (pieces_from callee n rs) ≡ numbers_of rs
pieces_length callee n [] = refl
pieces_length callee n (r ∷ rs) =
    let rest = pieces_from callee (n + places_of r) rs in
    let own = function_pieces (scope_of callee n r) r.def.code in
    omega (arith, length-append own rest, code-length (scope_of callee n r) 0 r.def.code, pieces_length callee (n + places_of r) rs, sum_by-cons places_of r rs)

entry-below : (rs : List Routine) (n : ℕ) (d : Def) (t : ℕ) → entry_number rs n d ≡ Some t → t < n + numbers_of rs
entry-below [] n d t e = absurd (none-some t e)
entry-below (r ∷ rs) n d t e = by (is_routine d r) e (λ h. entry-below rs (n + places_of r) d t h)
  where
    by : (b : Bool) → cond b (Some n) (entry_number rs (n + places_of r) d) ≡ Some t → (entry_number rs (n + places_of r) d ≡ Some t → t < n + places_of r + numbers_of rs) → t < n + numbers_of (r ∷ rs)
    by true h rest = omega (arith, same_Some n t h, sum_by-cons places_of r rs)
    by false h rest = omega (arith, rest h, sum_by-cons places_of r rs)

pub callee_below : (rs : List Routine) (o : Option Def) (t : ℕ) → option_and_then (entry_number rs 0) o ≡ Some t → t < numbers_of rs
callee_below rs None t e = absurd (none-some t e)
callee_below rs (Some d) t e = omega (arith, entry-below rs 0 d t e)

-- of functions whose numbers begin at m, among n
pub pieces_aimed : (n : ℕ) (callee : ℕ → ℕ → Option ℕ) (m : ℕ) (rs : List Routine) → ((unit symbol t : ℕ) → callee unit symbol ≡ Some t → t < n) →
    m + numbers_of rs ≤ n → All IsSound rs → AreAimed n (joined (pieces_from callee m rs))
pieces_aimed n callee m [] c room h = tt
pieces_aimed n callee m (r ∷ rs) c room h =
    let sound : IsSound r = All-head IsSound r rs h in
    let s : Scope = scope_of callee m r in
    let inside : IsInside n s = record {
      labels = omega (arith, room, words-length 0 r.def.code, sum_by-cons places_of r rs);
      callees = λ symbol t e. c r.unit symbol t e;
    } in
    subst (λ l. AreAimed n l) (sym (joined-append (function_pieces s r.def.code) (pieces_from callee (m + places_of r) rs)))
    (aimed-append n (joined (function_pieces s r.def.code)) (joined (pieces_from callee (m + places_of r) rs))
    (function-aimed n s r.def.code inside (omega (arith, room, sum_by-cons places_of r rs)) sound.ending)
    (pieces_aimed n callee (m + places_of r) rs c (omega (arith, room, sum_by-cons places_of r rs)) (All-tail IsSound r rs h)))
