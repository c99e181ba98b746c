-- The machine runs the code of statements one after another.
use Rattle.std.proofs.Common.{◌≡◌, ℕ, zero, suc, ◌+◌, ◌-◌, ◌%◌, ◌^◌, ◌<◌, ◌≤◌, Bool, true, false, lit<, List, [], ◌∷◌, ◌++◌, length, take, append_assoc, length-append, nat_le, Option, Some, None, refl, sym, ap, ◌∙◌, subst, arith}
use Rattle.std.specs.Prelude.{if◌then◌else◌, Contains, flat_map}
use Rattle.std.proofs.lemmas.Bool.Decides.{nat_tests}
use Rattle.p9_base.specs.declared.order.ByteOrder.TheVariants.{Big}
use Rattle.p9_base.specs.Words.{word_sum, is_negative}
use Rattle.p9_r3k.specs.declared.inst.Inst.{Inst}
use Rattle.p9_r3k.specs.declared.inst.Inst.TheVariants.{Addu}
use Rattle.p9_r3k.specs.Memory.{text_start, with_word_in}
use Rattle.p9_r3k.specs.Machine.{State, run}
use Rattle.p9_form.specs.declared.file.Operand.{Operand}
use Rattle.p9_form.specs.declared.file.Statement.{Statement}
use Rattle.p9_form.specs.declared.file.Statement.TheVariants.{Assign, Write, Exits}
use Rattle.p9_form.specs.Sharing.{named_by, named_if, names_in}
use Rattle.p9_straight.specs.Layout.{end_text}
use Rattle.p9_straight.specs.Code.{load_operand, store_code, exit_code, statement_code, text_after, statements_code}
use Rattle.p9_straight.specs.FormRun.{Values, Came, Ends, Fails, operand_value, sum_value, assigned, after_write, statements_run}
use Rattle.p9_straight.proofs.Placed.{IsTextAt, AreTexts}
use Rattle.p9_straight.proofs.MachineSteps.{Fixed, standing, step_addu}
use Rattle.p9_straight.proofs.MachineCode.{Follows, behind, follows_first, follows_then, ran_then, ran_both, registers}
use Rattle.p9_straight.proofs.MachineMemory.{Memory, IsKnown, known_word, loads, stores, memory_assigned}
use Rattle.p9_straight.proofs.MachineCalls.{HasText, has_text, IsStack, with_first, exited, exited_text, exit_by, exits_text, exits_none}
use Rattle.p9_straight.proofs.MachineWrites.{write_code, with_third, third_size, writes_nothing, writes_front}
use Rattle.p9_straight.proofs.MachineTurns.{Runs, runs_then, runs_out, ends_by, IsFitText, IsFit, AreFit, AreIn, in_front, in_back, in_first, is_known, no_zero}

-- the address behind two pieces of code
behind_both : (pc : ℕ) (xs ys : List Inst) → behind pc (xs ++ ys) ≡ behind (behind pc xs) ys
behind_both pc [] ys = refl
behind_both pc (x ∷ xs) ys = behind_both (pc + 4) xs ys

-- the machine behind a piece of code stands at the next
stands_behind : (m : Fixed) (regs low stack : List ℕ) (pc : ℕ) (xs ys : List Inst) (out : List ℕ) → standing m regs low stack (behind (behind pc xs) ys) 0 out ≡ standing m regs low stack (behind pc (xs ++ ys)) 0 out
stands_behind m regs low stack pc xs ys out = ap (λ p. standing m regs low stack p 0 out) (sym (behind_both pc xs ys))

-- Assignments

-- what an assignment leaves: registers, and the value in its variable
pub record Assigned (m : Fixed) (place : List ℕ → ℕ) (code : List Inst) (s : State) (low stack : List ℕ) (pc : ℕ) (out x : List ℕ) (n : ℕ) : Type 0 where
  pub one : ℕ
  pub two : ℕ
  pub three : ℕ
  pub four : ℕ
  pub runs : run (length code) s ≡ standing m (registers one two three four) (with_word_in Big low (place x - text_start) n) stack (behind pc code) 0 out

assigns_one : (m : Fixed) (place : List ℕ → ℕ) (names : List (List ℕ)) (init : List ℕ) (values : Values) (one two three four : ℕ) (low stack : List ℕ) (pc : ℕ) (out x : List ℕ) (left : Operand) → Memory m place names init values low → Contains names x → IsKnown names left → Follows m.text pc (load_operand place 2 left ++ store_code place x) →
    Assigned m place (load_operand place 2 left ++ store_code place x) (standing m (registers one two three four) low stack pc 0 out) low stack pc out x (operand_value values left)
assigns_one m place names init values one two three four low stack pc out x left memory here known code =
    let v : ℕ = operand_value values left in
    let first : List Inst = load_operand place 2 left in
    let next : ℕ = behind pc first in
    let s0 : State = standing m (registers one two three four) low stack pc 0 out in
    let s1 : State = standing m (registers one v three four) low stack next 0 out in
    let s2 : State = standing m (registers one v three (place x)) (with_word_in Big low (place x - text_start) v) stack (behind next (store_code place x)) 0 out in
    record {
      one = one;
      two = v;
      three = three;
      four = place x;
      runs =
          ran_both first (store_code place x) s0 s1 s2
          (loads m place names init values (registers one two three four) low stack pc out 2 left memory known (follows_first m.text pc first (store_code place x) code) (lit< tt) (lit< tt))
          (stores m place names init values one v three four low stack next out x memory here (follows_then m.text pc first (store_code place x) code))
          ∙ stands_behind m (registers one v three (place x)) (with_word_in Big low (place x - text_start) v) stack pc first (store_code place x) out;
    }

sums : (m : Fixed) (place : List ℕ → ℕ) (names : List (List ℕ)) (init : List ℕ) (values : Values) (one a three four : ℕ) (low stack : List ℕ) (pc : ℕ) (out x : List ℕ) (right : Operand) → Memory m place names init values low → Contains names x → IsKnown names right → Follows m.text pc (load_operand place 3 right ++ (Addu 2 3 2 ∷ store_code place x)) →
    Assigned m place (load_operand place 3 right ++ (Addu 2 3 2 ∷ store_code place x)) (standing m (registers one a three four) low stack pc 0 out) low stack pc out x (word_sum a (operand_value values right))
sums m place names init values one a three four low stack pc out x right memory here known code =
    let b : ℕ = operand_value values right in
    let first : List Inst = load_operand place 3 right in
    let last : List Inst = Addu 2 3 2 ∷ store_code place x in
    let next : ℕ = behind pc first in
    let s0 : State = standing m (registers one a three four) low stack pc 0 out in
    let s1 : State = standing m (registers one a b four) low stack next 0 out in
    let s2 : State = standing m (registers one (word_sum a b) b four) low stack (next + 4) 0 out in
    let s3 : State = standing m (registers one (word_sum a b) b (place x)) (with_word_in Big low (place x - text_start) (word_sum a b)) stack (behind next last) 0 out in
    let rest : Follows m.text next last = follows_then m.text pc first last code in
    record {
      one = one;
      two = word_sum a b;
      three = b;
      four = place x;
      runs =
          ran_both first last s0 s1 s3
          (loads m place names init values (registers one a three four) low stack pc out 3 right memory known (follows_first m.text pc first last code) (lit< tt) (lit< tt))
          (ran_then (Addu 2 3 2) (store_code place x) s1 s2 s3
          (step_addu m (registers one a b four) low stack next out 2 3 2 memory.room rest.0)
          (stores m place names init values one (word_sum a b) b four low stack (next + 4) out x memory here rest.1))
          ∙ stands_behind m (registers one (word_sum a b) b (place x)) (with_word_in Big low (place x - text_start) (word_sum a b)) stack pc first last out;
    }

assigns_two : (m : Fixed) (place : List ℕ → ℕ) (names : List (List ℕ)) (init : List ℕ) (values : Values) (one two three four : ℕ) (low stack : List ℕ) (pc : ℕ) (out x : List ℕ) (left right : Operand) → Memory m place names init values low → Contains names x → IsKnown names left → IsKnown names right → Follows m.text pc (statement_code place 0 (Assign x left (Some right))) →
    Assigned m place (statement_code place 0 (Assign x left (Some right))) (standing m (registers one two three four) low stack pc 0 out) low stack pc out x (sum_value values left (Some right))
assigns_two m place names init values one two three four low stack pc out x left right memory here known_left known_right code =
    let a : ℕ = operand_value values left in
    let first : List Inst = load_operand place 2 left in
    let last : List Inst = load_operand place 3 right ++ (Addu 2 3 2 ∷ store_code place x) in
    let next : ℕ = behind pc first in
    let s0 : State = standing m (registers one two three four) low stack pc 0 out in
    let s1 : State = standing m (registers one a three four) low stack next 0 out in
    let rest : Assigned m place last s1 low stack next out x (sum_value values left (Some right)) =
    sums m place names init values one a three four low stack next out x right memory here known_right (follows_then m.text pc first last code) in
    let s2 : State = standing m (registers rest.one rest.two rest.three rest.four) (with_word_in Big low (place x - text_start) (sum_value values left (Some right))) stack (behind next last) 0 out in
    record {
      one = rest.one;
      two = rest.two;
      three = rest.three;
      four = rest.four;
      runs =
          ran_both first last s0 s1 s2
          (loads m place names init values (registers one two three four) low stack pc out 2 left memory known_left (follows_first m.text pc first last code) (lit< tt) (lit< tt))
          rest.runs
          ∙ stands_behind m (registers rest.one rest.two rest.three rest.four) (with_word_in Big low (place x - text_start) (sum_value values left (Some right))) stack pc first last out;
    }

assigns : (m : Fixed) (place : List ℕ → ℕ) (names : List (List ℕ)) (init : List ℕ) (values : Values) (one two three four : ℕ) (low stack : List ℕ) (pc at : ℕ) (out x : List ℕ) (left : Operand) (right : Option Operand) → Memory m place names init values low → AreIn names (names_in (Assign x left right)) → IsFit (Assign x left right) → Follows m.text pc (statement_code place at (Assign x left right)) →
    Assigned m place (statement_code place at (Assign x left right)) (standing m (registers one two three four) low stack pc 0 out) low stack pc out x (sum_value values left right)
assigns m place names init values one two three four low stack pc at out x left None memory known fit code =
    assigns_one m place names init values one two three four low stack pc out x left memory (in_first names x (named_by left ++ []) known)
    (is_known names left (in_front names (named_by left) [] (in_back names (x ∷ []) (named_by left ++ []) known)) fit.0) code
assigns m place names init values one two three four low stack pc at out x left (Some right) memory known fit code =
    let others : AreIn names (named_by left ++ named_by right) = in_back names (x ∷ []) (named_by left ++ named_by right) known in
    assigns_two m place names init values one two three four low stack pc out x left right memory (in_first names x (named_by left ++ named_by right) known)
    (is_known names left (in_front names (named_by left) (named_by right) others) fit.0)
    (is_known names right (in_back names (named_by left) (named_by right) others) fit.1) code

sum_word : (m : Fixed) (place : List ℕ → ℕ) (names : List (List ℕ)) (init : List ℕ) (values : Values) (low x : List ℕ) (left : Operand) (right : Option Operand) → Memory m place names init values low → AreIn names (names_in (Assign x left right)) → IsFit (Assign x left right) → sum_value values left right < 2 ^ 32
sum_word m place names init values low x left None memory known fit =
    known_word m place names init values low left memory
    (is_known names left (in_front names (named_by left) [] (in_back names (x ∷ []) (named_by left ++ []) known)) fit.0)
sum_word m place names init values low x left (Some right) memory known fit =
    modulo (operand_value values left + operand_value values right)
  where
    modulo : (n : ℕ) → n % 2 ^ 32 < 2 ^ 32
    modulo n = omega arith

-- Writes

-- what the machine comes to behind a piece of code, whatever its registers and stack hold
abbrev pub GoesOn : (m : Fixed) (low : List ℕ) (pc : ℕ) (rest : List Inst) (turns : ℕ) (next : List ℕ → Came) → Type 0
GoesOn m low pc rest turns next =
    (one two three four : ℕ) (stack out : List ℕ) → IsStack stack →
    Runs (next out) (standing m (registers one two three four) low stack pc 0 out) turns (length rest)

write_by : (negative small : Bool) (m : Fixed) (place : List ℕ → ℕ) (names : List (List ℕ)) (init : List ℕ) (values : Values) (one v three four : ℕ) (low stack : List ℕ) (pc at : ℕ) (out text : List ℕ) (rest : List Inst) (turns : ℕ) (next : List ℕ → Came) → is_negative v ≡ negative → nat_le v (length text + 1) ≡ small → Memory m place names init values low → IsStack stack → HasText m low text at → v < 2 ^ 32 → Follows m.text pc (write_code at) → GoesOn m low (behind pc (write_code at)) rest turns next →
    Runs (if negative then next out else (if small then next (out ++ take v (text ++ 0 ∷ [])) else Fails)) (standing m (registers one v three four) low stack pc 0 out) (suc turns) (length (write_code at ++ rest))
write_by true small m place names init values one v three four low stack pc at out text rest turns next n s memory size has fits code go =
    runs_then (next out) (write_code at) rest (standing m (registers one v three four) low stack pc 0 out)
    (standing m (registers (2 ^ 32 - 1) v at four) low (with_third stack at v) (behind pc (write_code at)) 0 out) (suc turns) turns
    (writes_nothing m low stack one three four pc out text at v memory.room size has fits n code) refl (omega arith)
    (go (2 ^ 32 - 1) v at four (with_third stack at v) out (third_size stack at v size))
write_by false true m place names init values one v three four low stack pc at out text rest turns next n s memory size has fits code go =
    runs_then (next (out ++ take v (text ++ 0 ∷ []))) (write_code at) rest (standing m (registers one v three four) low stack pc 0 out)
    (standing m (registers v v at four) low (with_third stack at v) (behind pc (write_code at)) 0 (out ++ take v (text ++ 0 ∷ []))) (suc turns) turns
    (writes_front m low stack one three four pc out text at v memory.room size has fits n (within v (length text + 1) s) code) refl (omega arith)
    (go v v at four (with_third stack at v) (out ++ take v (text ++ 0 ∷ [])) (third_size stack at v size))
  where
    within : (n k : ℕ) → nat_le n k ≡ true → n ≤ k
    within n k h = grind (arith, nat_tests)
write_by false false m place names init values one v three four low stack pc at out text rest turns next n s memory size has fits code go = tt

write_runs : (m : Fixed) (place : List ℕ → ℕ) (names : List (List ℕ)) (init : List ℕ) (values : Values) (one two three four : ℕ) (low stack : List ℕ) (pc at : ℕ) (out text : List ℕ) (count : Operand) (rest : List Inst) (turns : ℕ) (next : List ℕ → Came) → Memory m place names init values low → IsStack stack → IsTextAt place names m.begin init text at → IsKnown names count → Follows m.text pc (load_operand place 2 count ++ write_code at) → GoesOn m low (behind pc (load_operand place 2 count ++ write_code at)) rest turns next →
    Runs (after_write out text (operand_value values count) next) (standing m (registers one two three four) low stack pc 0 out) (suc turns) (length ((load_operand place 2 count ++ write_code at) ++ rest))
write_runs m place names init values one two three four low stack pc at out text count rest turns next memory size is known code go =
    let v : ℕ = operand_value values count in
    let first : List Inst = load_operand place 2 count in
    let came : Came = after_write out text v next in
    let s0 : State = standing m (registers one two three four) low stack pc 0 out in
    let s1 : State = standing m (registers one v three four) low stack (behind pc first) 0 out in
    let on : GoesOn m low (behind (behind pc first) (write_code at)) rest turns next =
    subst (λ p. GoesOn m low p rest turns next) (behind_both pc first (write_code at)) go in
    let later : Runs came s1 (suc turns) (length (write_code at ++ rest)) =
    write_by (is_negative v) (nat_le v (length text + 1)) m place names init values one v three four low stack (behind pc first) at out text rest turns next refl refl memory size
    (has_text m place names init values low text at memory is) (known_word m place names init values low count memory known)
    (follows_then m.text pc first (write_code at) code) on in
    subst (λ code. Runs came s0 (suc turns) (length code)) (sym (append_assoc first (write_code at) rest))
    (runs_then came first (write_code at ++ rest) s0 s1 (suc turns) (suc turns)
    (loads m place names init values (registers one two three four) low stack pc out 2 count memory known (follows_first m.text pc first (write_code at) code) (lit< tt) (lit< tt))
    refl (omega arith) later)

-- Statements

shorter : (xs ys : List Inst) → length xs ≤ length (xs ++ ys)
shorter xs ys = omega (arith, length-append xs ys)

exit_runs : (m : Fixed) (place : List ℕ → ℕ) (names : List (List ℕ)) (init : List ℕ) (values : Values) (one two three four : ℕ) (low stack : List ℕ) (pc at : ℕ) (out text : List ℕ) (turns limit : ℕ) → Memory m place names init values low → IsStack stack → IsTextAt place names m.begin init text at → IsFitText text → Follows m.text pc (exit_code at) → length (exit_code at) ≤ limit →
    Runs (Ends out text) (standing m (registers one two three four) low stack pc 0 out) turns limit
exit_runs m place names init values one two three four low stack pc at out text turns limit memory size is fit code within =
    let has : HasText m low text at = has_text m place names init values low text at memory is in
    ends_by (standing m (registers one two three four) low stack pc 0 out)
    (exited m (registers 8 at three four) low (with_first stack at) (pc + 4 + 4 + 4 + 4) out at (length text))
    (length (exit_code at)) turns limit out text
    (exits_text m low stack one two three four pc out text at memory.room size has (no_zero text fit) code) within tt
    (exited_text m (registers 8 at three four) low (with_first stack at) (pc + 4 + 4 + 4 + 4) out text at memory.room has) refl refl

exit_none_runs : (m : Fixed) (place : List ℕ → ℕ) (names : List (List ℕ)) (init : List ℕ) (values : Values) (one two three four : ℕ) (low stack : List ℕ) (pc : ℕ) (out : List ℕ) (turns limit : ℕ) → Memory m place names init values low → IsStack stack → Follows m.text pc (exit_by 0) → length (exit_by 0) ≤ limit →
    Runs (Ends out []) (standing m (registers one two three four) low stack pc 0 out) turns limit
exit_none_runs m place names init values one two three four low stack pc out turns limit memory size code within =
    ends_by (standing m (registers one two three four) low stack pc 0 out)
    (exited m (registers 8 two three four) low (with_first stack 0) (pc + 4 + 4) out 0 0)
    (length (exit_by 0)) turns limit out []
    (exits_none m low stack one two three four pc out memory.room size code) within tt refl refl refl

pub statements_go : (m : Fixed) (place : List ℕ → ℕ) (names : List (List ℕ)) (init : List ℕ) (values : Values) (one two three four : ℕ) (low stack : List ℕ) (pc at end : ℕ) (out : List ℕ) (ss : List Statement) (turns : ℕ) → Memory m place names init values low → IsStack stack → AreTexts place names m.begin init at end ss → AreIn names (flat_map names_in ss) → AreFit ss → Follows m.text pc (statements_code place at end ss) →
    Runs (statements_run turns values ss out) (standing m (registers one two three four) low stack pc 0 out) turns (length (statements_code place at end ss))
statements_go m place names init values one two three four low stack pc at end out [] turns memory size texts known fit code =
    exit_runs m place names init values one two three four low stack pc end out end_text turns (length (exit_code end)) memory size texts refl code (omega arith)
statements_go m place names init values one two three four low stack pc at end out (Assign x left right ∷ ss) turns memory size texts known fit code =
    let v : ℕ = sum_value values left right in
    let first : List Inst = statement_code place at (Assign x left right) in
    let rest : List Inst = statements_code place at end ss in
    let s : State = standing m (registers one two three four) low stack pc 0 out in
    let names_here : AreIn names (names_in (Assign x left right)) = in_front names (names_in (Assign x left right)) (flat_map names_in ss) known in
    let did : Assigned m place first s low stack pc out x v =
    assigns m place names init values one two three four low stack pc at out x left right memory names_here fit.0 (follows_first m.text pc first rest code) in
    let after : List ℕ = with_word_in Big low (place x - text_start) v in
    let later : Memory m place names init (assigned values x v) after =
    memory_assigned m place names init values low x v memory (in_first names x (named_by left ++ named_if right) names_here)
    (sum_word m place names init values low x left right memory names_here fit.0) in
    runs_then (statements_run turns (assigned values x v) ss out) first rest s
    (standing m (registers did.one did.two did.three did.four) after stack (behind pc first) 0 out) turns turns did.runs refl (omega arith)
    (statements_go m place names init (assigned values x v) did.one did.two did.three did.four after stack (behind pc first) at end out ss turns later size texts.1
    (in_back names (names_in (Assign x left right)) (flat_map names_in ss) known) fit.1 (follows_then m.text pc first rest code))
statements_go m place names init values one two three four low stack pc at end out (Write text count ∷ ss) zero memory size texts known fit code =
    runs_out (standing m (registers one two three four) low stack pc 0 out) (length (statements_code place at end (Write text count ∷ ss))) out refl refl
statements_go m place names init values one two three four low stack pc at end out (Write text count ∷ ss) (suc turns) memory size texts known fit code =
    let first : List Inst = statement_code place at (Write text count) in
    let after : ℕ = text_after at (Write text count) in
    let rest : List Inst = statements_code place after end ss in
    write_runs m place names init values one two three four low stack pc at out text count rest turns (statements_run turns values ss) memory size texts.0
    (is_known names count (in_front names (named_by count) (flat_map names_in ss) known) fit.0.1) (follows_first m.text pc first rest code)
    (λ a b c d others output whole.
    statements_go m place names init values a b c d low others (behind pc first) after end output ss turns memory whole texts.1
    (in_back names (named_by count) (flat_map names_in ss) known) fit.1 (follows_then m.text pc first rest code))
statements_go m place names init values one two three four low stack pc at end out (Exits text ∷ ss) zero memory size texts known fit code =
    runs_out (standing m (registers one two three four) low stack pc 0 out) (length (statements_code place at end (Exits text ∷ ss))) out refl refl
statements_go m place names init values one two three four low stack pc at end out (Exits None ∷ ss) (suc turns) memory size texts known fit code =
    let rest : List Inst = statements_code place at end ss in
    exit_none_runs m place names init values one two three four low stack pc out (suc turns) (length (exit_by 0 ++ rest)) memory size (follows_first m.text pc (exit_by 0) rest code) (shorter (exit_by 0) rest)
statements_go m place names init values one two three four low stack pc at end out (Exits (Some text) ∷ ss) (suc turns) memory size texts known fit code =
    let rest : List Inst = statements_code place (text_after at (Exits (Some text))) end ss in
    exit_runs m place names init values one two three four low stack pc at out text (suc turns) (length (exit_code at ++ rest)) memory size texts.0 fit.0 (follows_first m.text pc (exit_code at) rest code) (shorter (exit_code at) rest)
