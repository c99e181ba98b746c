-- The code of loops, switches, statements and functions is brief.
use Rattle.std.proofs.Common.{◌≡◌, ◌≤◌, ℕ, zero, suc, ◌+◌, Bool, true, false, if◌then◌else◌, List, [], ◌∷◌, ◌++◌, length, map, Option, Some, None, slice_get, refl, sym, subst, arith, length-append}
use Rattle.p9_lang.specs.declared.tree.Kind.TheVariants as kind
use Rattle.p9_lang.specs.Types.{Tags}
use Rattle.p9_lang.specs.Trees.{node, none, more}
use Rattle.p9_lang.specs.Constants.{Constant, NotConstant, Undefined, constant_of}
use Rattle.p9_lang.specs.Constants as constants
use Rattle.p9_lang.specs.Modules.{Typed, TypedRow}
use Rattle.p9_cmean.specs.Declarations.{declared_by, declared_in, declaration_of}
use Rattle.p9_cmean.specs.Expressions.{operand_type, conversion_of}
use Rattle.p9_cmean.specs.Statements.{is_default, parts_before}
use Rattle.p9_flat.specs.declared.op.Op.{Op}
use Rattle.p9_flat.specs.declared.op.Op.TheVariants as op
use Rattle.p9_flat.specs.declared.op.Scalar.TheVariants as scalar
use Rattle.p9_flat.specs.Resolved.{tests}
use Rattle.p9_flat.specs.Code.{Setting, value_code}
use Rattle.p9_flat.specs.Ending.{Short, IsBrief}
use Rattle.p9_flat.specs.Flat.{HasAt, Ends, function_ends, entry_at, body_code, turning, in_loop, case_code, label_code, switching, statement_code, statements_code, labels_code, default_at, for_code}
use Rattle.p9_flat.proofs.Playing.{has_first, has_second}
use Rattle.p9_flat.proofs.Switches.{arm_at, arm_or, default_is}
use Rattle.p9_flat.proofs.Brief.{UpTo, brief_more, brief_step, turn_short, turn_short_now, Brief, brief_none, lacks_brief}
use Rattle.p9_flat.proofs.BriefExprs.{convert_brief, value_brief}
use Rattle.p9_flat.proofs.BriefStmts.{EndsUpTo, BriefIn, BriefTest, fewer, of_brief, in_seq, jumping, returning, giving_nothing, choice_in, if_in, condition_test, always_test, effect_brief, initials_brief, block_in}

module _ (code : List Op) (bound : ℕ) where
  -- LOOPS

  module _ (ends : Ends) (pc : ℕ) (step_part test_part body_part : List Op) (step_is : Brief code bound (suc (suc pc)) step_part)
      (test_is : BriefTest code bound (suc pc) (suc (suc pc) + length step_part) test_part)
      (body_is : BriefIn code bound (in_loop pc ends) (suc (suc (suc pc) + length step_part + length test_part)) body_part) where
    abbrev tested_at : ℕ
    tested_at = suc (suc pc) + length step_part

    abbrev turned_at : ℕ
    turned_at = suc (suc pc) + length step_part + length test_part

    abbrev back_at : ℕ
    back_at = suc turned_at + length body_part

    module _ (n top : ℕ) (out : UpTo code bound top (suc n) (suc pc)) (step_stands : HasAt code (suc (suc pc)) step_part) (test_stands : HasAt code tested_at test_part)
        (turn_stands : slice_get code turned_at ≡ Some op.Turn) (body_stands : HasAt code (suc turned_at) body_part)
        (back : slice_get code back_at ≡ Some (op.Jump (suc (suc pc)))) (ends_are : EndsUpTo code bound top n ends)
        (fits : length body_part + suc (length step_part + (length test_part + suc n)) ≤ bound) where
      -- what is known of a run of the body, for fewer turns than these
      abbrev Turned : ℕ → Type 0
      Turned k = (j : ℕ) → suc j ≤ k → Short code bound j bound (suc turned_at)

      turn_up : (k m : ℕ) → Turned k → UpTo code bound k (suc m) turned_at
      turn_up k m turned zero less = turn_short_now code bound m turned_at turn_stands
      turn_up k m turned (suc j) less = turn_short code bound m turned_at j turn_stands (turned j less)

      test_up : (k : ℕ) → k ≤ top → Turned k → UpTo code bound k (length test_part + suc n) tested_at
      test_up k le turned = test_is.brief_test test_stands k (suc n) (turn_up k n turned) (fewer code bound k top (suc n) (suc pc) le out)

      step_up : (k : ℕ) → k ≤ top → Turned k → UpTo code bound k (length step_part + (length test_part + suc n)) (suc (suc pc))
      step_up k le turned = step_is.brief step_stands k (length test_part + suc n) (test_up k le turned)

      body_up : (k : ℕ) → k ≤ top → Turned k → UpTo code bound k bound (suc turned_at)
      body_up k le turned =
          let c : ℕ = length step_part + (length test_part + suc n) in
          brief_more code bound k (length body_part + suc c) bound (suc turned_at) fits
          (body_is.brief_in body_stands k (suc c) fits
          (brief_step code bound k c back_at (op.Jump (suc (suc pc))) back refl (step_up k le turned, tt))
          (record {
            at_broke = brief_more code bound k (suc n) (suc c) (suc pc) (omega arith) (fewer code bound k top (suc n) (suc pc) le out);
            at_continued = brief_more code bound k c (suc c) (suc (suc pc)) (omega arith) (step_up k le turned);
            at_returned = brief_more code bound k n (suc c) ends.returned (omega arith) (fewer code bound k top n ends.returned le ends_are.at_returned);
          }))

      turned_up : (k : ℕ) → k ≤ top → Turned k
      turned_up zero le = λ j less. absurd (omega (arith, less))
      turned_up (suc k) le = λ j less. body_up k (omega (arith, le)) (turned_up k (omega (arith, le))) j (omega (arith, less))

    loop_in : (tested : Bool) → BriefIn code bound ends pc (turning tested pc step_part test_part body_part)
    loop_in tested = record {
      brief_in = λ h k n le s e.
          let tail : List Op = op.Turn ∷ (body_part ++ op.Jump (suc (suc pc)) ∷ []) in
          let a = length-append step_part (test_part ++ tail) in
          let b = length-append test_part tail in
          let c = length-append body_part (op.Jump (suc (suc pc)) ∷ []) in
          let one = has_second code (suc (suc pc)) step_part (test_part ++ tail) tested_at refl h.1.1 in
          let two = has_second code tested_at test_part tail turned_at refl one in
          let end : UpTo code bound k n (suc (suc (turned_at + length body_part))) = subst (λ q. UpTo code bound k n q) (omega (arith, a, b, c)) s in
          let out = brief_step code bound k n (suc pc) (op.Jump (suc (suc (turned_at + length body_part)))) h.1.0 refl (end, tt) in
          let step_stands = has_first code (suc (suc pc)) step_part (test_part ++ tail) h.1.1 in
          let test_stands = has_first code tested_at test_part tail one in
          let body_stands = has_first code (suc turned_at) body_part (op.Jump (suc (suc pc)) ∷ []) two.1 in
          let back = (has_second code (suc turned_at) body_part (op.Jump (suc (suc pc)) ∷ []) back_at refl two.1).0 in
          let fits : length body_part + suc (length step_part + (length test_part + suc n)) ≤ bound = omega (arith, a, b, c, le) in
          let turned = turned_up n k out step_stands test_stands two.0 body_stands back e fits k (omega arith) in
          let m : ℕ = length test_part + suc n in
          brief_more code bound k (suc m) (length (turning tested pc step_part test_part body_part) + n) pc (omega (arith, a, b, c))
          (brief_step code bound k m pc (op.Jump (if tested then tested_at else turned_at)) h.0 refl (
            entered tested k m (test_up n k out step_stands test_stands two.0 body_stands back e fits k (omega arith) turned)
                (brief_more code bound k (suc n) m turned_at (omega arith) (turn_up n k out step_stands test_stands two.0 body_stands back e fits k n turned)),
            tt,
          ));
    }
      where
        entered : (b : Bool) (k m : ℕ) → UpTo code bound k m tested_at → UpTo code bound k m turned_at → UpTo code bound k m (if b then tested_at else turned_at)
        entered true k m at_test at_turn = at_test
        entered false k m at_test at_turn = at_turn

  -- SWITCHES

  case_brief : (c : Constant) (pc to k n : ℕ) → HasAt code pc (case_code c to) → UpTo code bound k n (pc + length (case_code c to)) → UpTo code bound k n to
      → UpTo code bound k (length (case_code c to) + n) pc
  case_brief NotConstant pc to k n h s e = brief_none.brief h k n s
  case_brief Undefined pc to k n h s e = brief_none.brief h k n s
  case_brief constants.Null pc to k n h s e = brief_none.brief h k n s
  case_brief (constants.Value w) pc to k n h s e =
      brief_more code bound k (suc n) (length (case_code (constants.Value w) to) + n) pc (omega arith)
      (brief_step code bound k n pc (op.Case w to) h.0 refl (subst (λ j. UpTo code bound k n j) (omega arith) s, (e, tt)))

  label_brief : (tags : Tags) (first : Typed) (pc to k n : ℕ) → HasAt code pc (label_code tags to first) → UpTo code bound k n (pc + length (label_code tags to first)) → UpTo code bound k n to
      → UpTo code bound k (length (label_code tags to first) + n) pc
  label_brief tags (node kind.Case label (more constant none)) pc to k n h s e = case_brief (constant_of tags constant) pc to k n h s e
  label_brief tags (node kd label parts) pc to k n h s e = brief_none.brief h k n s

  labels_brief : (setting : Setting) (ends : Ends) (arms : TypedRow) (at pc k m n : ℕ) → HasAt code pc (labels_code setting ends at arms)
      → ((j : ℕ) → UpTo code bound k m (arm_at setting ends at arms j)) → m ≤ n → UpTo code bound k n (pc + length (labels_code setting ends at arms))
      → UpTo code bound k (length (labels_code setting ends at arms) + n) pc
  labels_brief setting ends none at pc k m n h arms_are le s = brief_none.brief h k n s
  labels_brief setting ends (more first others) at pc k m n h arms_are le s =
      let one : List Op = label_code setting.around.tags at first in
      let next : ℕ = at + length (statement_code setting ends at first) in
      let rest : List Op = labels_code setting ends next others in
      let l = length-append one rest in
      let mid : ℕ = pc + length one in
      brief_more code bound k (length one + (length rest + n)) (length (one ++ rest) + n) pc (omega (arith, l))
      (label_brief setting.around.tags first pc at k (length rest + n) (has_first code pc one rest h)
      (labels_brief setting ends others next mid k m n (has_second code pc one rest mid refl h) (λ j. arms_are (suc j)) le
      (subst (λ q. UpTo code bound k n q) (omega (arith, l)) s))
      (brief_more code bound k m (length rest + n) at (omega (arith, le)) (arms_are 0)))

  switch_in : (setting : Setting) (ends : Ends) (here pc : ℕ) (arms : TypedRow)
      → BriefIn code bound (record ends { broke = suc (suc pc) }) (suc (suc (suc pc))) (statements_code setting (record ends { broke = suc (suc pc) }) (suc (suc (suc pc))) arms)
      → (HasAt code (suc (suc (suc pc))) (statements_code setting (record ends { broke = suc (suc pc) }) (suc (suc (suc pc))) arms) → (k n : ℕ)
      → length (statements_code setting (record ends { broke = suc (suc pc) }) (suc (suc (suc pc))) arms) + n ≤ bound
      → UpTo code bound k n (suc (suc (suc pc)) + length (statements_code setting (record ends { broke = suc (suc pc) }) (suc (suc (suc pc))) arms))
      → EndsUpTo code bound k n (record ends { broke = suc (suc pc) })
      → (j : ℕ) → UpTo code bound k (length (statements_code setting (record ends { broke = suc (suc pc) }) (suc (suc (suc pc))) arms) + n)
      (arm_at setting (record ends { broke = suc (suc pc) }) (suc (suc (suc pc))) arms j))
      → BriefIn code bound ends pc (switching here pc (statements_code setting (record ends { broke = suc (suc pc) }) (suc (suc (suc pc))) arms)
      (labels_code setting (record ends { broke = suc (suc pc) }) (suc (suc (suc pc))) arms)
      (default_at setting (record ends { broke = suc (suc pc) }) (suc (suc (suc pc))) (suc (suc pc)) arms))
  switch_in setting ends here pc arms arms_in arms_at = record {
    brief_in = λ h k n le s e.
        let outs : Ends = record ends { broke = suc (suc pc) } in
        let a : List Op = statements_code setting outs (suc (suc (suc pc))) arms in
        let b : List Op = labels_code setting outs (suc (suc (suc pc))) arms in
        let default_place : ℕ = default_at setting outs (suc (suc (suc pc))) (suc (suc pc)) arms in
        let last : List Op = op.Pop ∷ op.Jump default_place ∷ [] in
        let labels_at : ℕ = suc (suc (suc (suc pc)) + length a) in
        let out_at : ℕ = suc (suc (labels_at + length b)) in
        let l = length-append a (op.Jump (suc (suc pc)) ∷ (b ++ last)) in
        let j = length-append b last in
        let rest = has_second code (suc (suc (suc pc))) a (op.Jump (suc (suc pc)) ∷ (b ++ last)) (suc (suc (suc pc)) + length a) refl h.1.1.1 in
        let tail = has_second code labels_at b last (labels_at + length b) refl rest.1 in
        let end : UpTo code bound k n out_at = subst (λ q. UpTo code bound k n q) (omega (arith, l, j)) s in
        let out : UpTo code bound k (suc n) (suc (suc pc)) = brief_step code bound k n (suc (suc pc)) (op.Jump out_at) h.1.1.0 refl (end, tt) in
        let behind : UpTo code bound k (suc (suc n)) (suc (suc (suc pc)) + length a) =
        brief_step code bound k (suc n) (suc (suc (suc pc)) + length a) (op.Jump (suc (suc pc))) rest.0 refl (out, tt) in
        let m : ℕ = length a + suc (suc n) in
        let arms_are = arms_at (has_first code (suc (suc (suc pc))) a (op.Jump (suc (suc pc)) ∷ (b ++ last)) h.1.1.1) k (suc (suc n)) (omega (arith, l, j, le)) behind
        (record {
          at_broke = brief_more code bound k (suc n) (suc (suc n)) (suc (suc pc)) (omega arith) out;
          at_continued = brief_more code bound k n (suc (suc n)) ends.continued (omega arith) e.at_continued;
          at_returned = brief_more code bound k n (suc (suc n)) ends.returned (omega arith) e.at_returned;
        }) in
        let default_is_up : UpTo code bound k m default_place =
        subst (λ q. UpTo code bound k m q) (sym (default_is setting outs arms (suc (suc (suc pc))) (suc (suc pc))))
        (arm_up setting outs k m (suc (suc (suc pc))) (suc (suc pc)) arms (parts_before is_default arms)
        (brief_more code bound k (suc n) m (suc (suc pc)) (omega arith) out) arms_are) in
        let at_last : UpTo code bound k (suc (suc m)) (labels_at + length b) =
        brief_step code bound k (suc m) (labels_at + length b) op.Pop tail.0 refl
        (brief_step code bound k m (suc (labels_at + length b)) (op.Jump default_place) tail.1.0 refl (default_is_up, tt), tt) in
        let at_labels : UpTo code bound k (length b + suc (suc m)) labels_at =
        labels_brief setting outs arms (suc (suc (suc pc))) labels_at k m (suc (suc m)) (has_first code labels_at b last rest.1) arms_are (omega arith) at_last in
        brief_more code bound k (suc (suc (length b + suc (suc m)))) (length (switching here pc a b default_place) + n) pc (omega (arith, l, j))
        (brief_step code bound k (suc (length b + suc (suc m))) pc (op.Narrow scalar.Word here) h.0 refl
        (brief_step code bound k (length b + suc (suc m)) (suc pc) (op.Jump labels_at) h.1.0 refl (at_labels, tt), tt));
  }
    where
      arm_up : (setting : Setting) (ends : Ends) (k m at otherwise : ℕ) (arms : TypedRow) (o : Option ℕ) → UpTo code bound k m otherwise
          → ((j : ℕ) → UpTo code bound k m (arm_at setting ends at arms j)) → UpTo code bound k m (arm_or setting ends at otherwise arms o)
      arm_up setting ends k m at otherwise arms None other are = other
      arm_up setting ends k m at otherwise arms (Some j) other are = are j

  -- STATEMENTS

  mutual
    pub statement_in : (x : Typed) (setting : Setting) (ends : Ends) (pc : ℕ) → BriefIn code bound ends pc (statement_code setting ends pc x)
    statement_in (node kind.Block label parts) setting ends pc =
        block_in code bound (map declaration_of (declared_in parts)) (λ inner outs m. statements_code inner outs m parts) (λ inner outs m. statements_in parts inner outs m) setting ends pc
    statement_in (node (kind.Declaration spec inits) label parts) setting ends pc =
        of_brief code bound (initials_brief code bound setting (declared_by (node (kind.Declaration spec inits) label parts)) pc)
    statement_in (node kind.Expression label none) setting ends pc = of_brief code bound brief_none
    statement_in (node kind.Expression label (more e none)) setting ends pc = of_brief code bound (effect_brief code bound setting pc e)
    statement_in (node kind.If label (more which (more first none))) setting ends pc =
        in_seq code bound (of_brief code bound (value_brief code bound setting which pc))
        (if_in code bound ends (tests (operand_type which)) _ label.number (λ n. statement_code setting ends n first) (λ n. statement_in first setting ends n))
    statement_in (node kind.If label (more which (more first (more second none)))) setting ends pc =
        in_seq code bound (of_brief code bound (value_brief code bound setting which pc))
        (choice_in code bound ends (tests (operand_type which)) _ label.number (λ n. statement_code setting ends n first) (λ n. statement_code setting ends n second)
        (λ n. statement_in first setting ends n) (λ n. statement_in second setting ends n))
    statement_in (node kind.While label (more which (more body none))) setting ends pc =
        loop_in ends pc _ _ _ brief_none (condition_test code bound setting label.number (suc pc) _ which) (statement_in body setting (in_loop pc ends) _) true
    statement_in (node kind.Do label (more body (more which none))) setting ends pc =
        loop_in ends pc _ _ _ brief_none (condition_test code bound setting label.number (suc pc) _ which) (statement_in body setting (in_loop pc ends) _) false
    statement_in (node (kind.For true which next) label (more first others)) setting ends pc =
        in_seq code bound (of_brief code bound (effect_brief code bound setting pc first)) (for_in label.number which next others setting ends _)
    statement_in (node (kind.For false which next) label others) setting ends pc = for_in label.number which next others setting ends pc
    statement_in (node kind.Switch label (more e arms)) setting ends pc =
        let m : ℕ = pc + length (value_code setting pc e) in
        in_seq code bound (of_brief code bound (value_brief code bound setting e pc))
        (switch_in setting ends label.number m arms (statements_in arms setting (record ends { broke = suc (suc m) }) (suc (suc (suc m))))
        (λ h k n le s f j. arms_in arms setting (record ends { broke = suc (suc m) }) (suc (suc (suc m))) h k n le s f j))
    statement_in (node kind.Case label (more constant none)) setting ends pc = of_brief code bound brief_none
    statement_in (node kind.Default label none) setting ends pc = of_brief code bound brief_none
    statement_in (node kind.Break label none) setting ends pc = jumping code bound ends pc ends.broke (λ k n e. e.at_broke)
    statement_in (node kind.Continue label none) setting ends pc = jumping code bound ends pc ends.continued (λ k n e. e.at_continued)
    statement_in (node kind.Return label none) setting ends pc = giving_nothing code bound ends pc
    statement_in (node kind.Return label (more e none)) setting ends pc =
        in_seq code bound (of_brief code bound (value_brief code bound setting e pc))
        (in_seq code bound (of_brief code bound (convert_brief code bound (conversion_of setting.around e setting.around.result) setting.around.result _ label.number))
        (returning code bound ends _))
    statement_in (node k label parts) setting ends pc = of_brief code bound lacks_brief

    pub statements_in : (row : TypedRow) (setting : Setting) (ends : Ends) (pc : ℕ) → BriefIn code bound ends pc (statements_code setting ends pc row)
    statements_in none setting ends pc = of_brief code bound brief_none
    statements_in (more first others) setting ends pc = in_seq code bound (statement_in first setting ends pc) (statements_in others setting ends _)

    arms_in : (row : TypedRow) (setting : Setting) (ends : Ends) (pc : ℕ) → HasAt code pc (statements_code setting ends pc row) → (k n : ℕ)
        → length (statements_code setting ends pc row) + n ≤ bound → UpTo code bound k n (pc + length (statements_code setting ends pc row)) → EndsUpTo code bound k n ends
        → (j : ℕ) → UpTo code bound k (length (statements_code setting ends pc row) + n) (arm_at setting ends pc row j)
    arms_in none setting ends pc h k n le s e j = brief_none.brief h k n s
    arms_in (more first others) setting ends pc h k n le s e zero =
        (in_seq code bound (statement_in first setting ends pc) (statements_in others setting ends (pc + length (statement_code setting ends pc first)))).brief_in h k n le s e
    arms_in (more first others) setting ends pc h k n le s e (suc j) =
        let a : List Op = statement_code setting ends pc first in
        let m : ℕ = pc + length a in
        let b : List Op = statements_code setting ends m others in
        let l = length-append a b in
        brief_more code bound k (length b + n) (length (a ++ b) + n) (arm_at setting ends m others j) (omega (arith, l))
        (arms_in others setting ends m (has_second code pc a b m refl h) k n (omega (arith, l, le)) (subst (λ q. UpTo code bound k n q) (omega (arith, l)) s) e j)

    for_in : (here : ℕ) (which next : Bool) (others : TypedRow) (setting : Setting) (ends : Ends) (pc : ℕ) → BriefIn code bound ends pc (for_code setting ends here which next pc others)
    for_in here true true (more which (more next (more body none))) setting ends pc =
        loop_in ends pc _ _ _ (effect_brief code bound setting _ next) (condition_test code bound setting here (suc pc) _ which) (statement_in body setting (in_loop pc ends) _) true
    for_in here true false (more which (more body none)) setting ends pc =
        loop_in ends pc _ _ _ brief_none (condition_test code bound setting here (suc pc) _ which) (statement_in body setting (in_loop pc ends) _) true
    for_in here false true (more next (more body none)) setting ends pc =
        loop_in ends pc _ _ _ (effect_brief code bound setting _ next) (always_test code bound (suc pc) _) (statement_in body setting (in_loop pc ends) _) true
    for_in here false false (more body none) setting ends pc =
        loop_in ends pc _ _ _ brief_none (always_test code bound (suc pc) _) (statement_in body setting (in_loop pc ends) _) true
    for_in here which next others setting ends pc = of_brief code bound lacks_brief

  -- FUNCTIONS

  pub body_brief : (setting : Setting) (pc : ℕ) (block : Typed) → HasAt code pc (body_code setting pc block) → length (body_code setting pc block) ≤ bound
      → IsBrief code bound bound (entry_at pc)
  body_brief setting pc block h le = λ turns.
      let a : List Op = statement_code setting (function_ends pc) (entry_at pc) block in
      let stop : ℕ = entry_at pc + length a in
      let l = length-append a (op.Nothing ∷ op.Jump pc ∷ []) in
      let tail = has_second code (entry_at pc) a (op.Nothing ∷ op.Jump pc ∷ []) stop refl h.1.1.1.1 in
      let given : UpTo code bound turns 2 pc =
      brief_step code bound turns 1 pc (op.Leave 0) h.0 refl (brief_step code bound turns 0 (suc pc) op.Return h.1.0 refl tt, tt) in
      let astray : UpTo code bound turns 2 (suc (suc pc)) =
      brief_step code bound turns 1 (suc (suc pc)) (op.Leave 0) h.1.1.0 refl (brief_step code bound turns 0 (suc (suc (suc pc))) op.Stray h.1.1.1.0 refl tt, tt) in
      brief_more code bound turns (length a + 4) bound (entry_at pc) (omega (arith, l, le))
      ((statement_in block setting (function_ends pc) (entry_at pc)).brief_in (has_first code (entry_at pc) a (op.Nothing ∷ op.Jump pc ∷ []) h.1.1.1.1) turns 4 (omega (arith, l, le))
      (brief_step code bound turns 3 stop op.Nothing tail.0 refl (brief_step code bound turns 2 (suc stop) (op.Jump pc) tail.1.0 refl (given, tt), tt))
      (record {
        at_broke = brief_more code bound turns 2 4 (suc (suc pc)) (omega arith) astray;
        at_continued = brief_more code bound turns 2 4 (suc (suc pc)) (omega arith) astray;
        at_returned = brief_more code bound turns 2 4 pc (omega arith) given;
      }))
      turns (omega arith)
