-- The code of a statement is brief.
use Rattle.std.proofs.Common.{◌≡◌, ◌≤◌, ℕ, suc, ◌+◌, Bool, List, [], ◌∷◌, ◌++◌, length, Option, Some, None, slice_get, refl, subst, arith, length-append}
use Rattle.p9_lang.specs.Types.{Tags}
use Rattle.p9_lang.specs.Modules.{Label, Typed}
use Rattle.p9_cmean.specs.Automatics.{Declared}
use Rattle.p9_cmean.specs.Declarations.{Automatic}
use Rattle.p9_cmean.specs.Expressions.{operand_type}
use Rattle.p9_flat.specs.declared.op.Op.{Op}
use Rattle.p9_flat.specs.declared.op.Op.TheVariants as op
use Rattle.p9_flat.specs.Resolved.{tests}
use Rattle.p9_flat.specs.Code.{Setting, choice_code, value_code}
use Rattle.p9_flat.specs.Flat.{HasAt, Ends, initial_code, initials_code, within, makes, ends_at, body_at, left_body, block_code, branch_code, if_code, condition_code, effect_code}
use Rattle.p9_flat.proofs.Playing.{has_first, has_second}
use Rattle.p9_flat.proofs.Brief.{UpTo, brief_more, brief_step, Brief, brief_seq, brief_none, plain, single, lacks_of_brief}
use Rattle.p9_flat.proofs.BriefExprs.{meant_brief, assign_brief, value_brief}

pub record EndsUpTo (code : List Op) (bound k n : ℕ) (ends : Ends) : Type 0 where
  pub at_broke : UpTo code bound k n ends.broke
  pub at_continued : UpTo code bound k n ends.continued
  pub at_returned : UpTo code bound k n ends.returned

-- A piece of a statement is brief if what stands behind it is, and where it may go.
pub record BriefIn (code : List Op) (bound : ℕ) (ends : Ends) (pc : ℕ) (piece : List Op) : Type 0 where
  pub brief_in : HasAt code pc piece → (k n : ℕ) → length piece + n ≤ bound → UpTo code bound k n (pc + length piece)
      → EndsUpTo code bound k n ends → UpTo code bound k (length piece + n) pc

-- a test, which goes on at another place where it doesn't hold
pub record BriefTest (code : List Op) (bound otherwise pc : ℕ) (piece : List Op) : Type 0 where
  pub brief_test : HasAt code pc piece → (k n : ℕ) → UpTo code bound k n (pc + length piece) → UpTo code bound k n otherwise
      → UpTo code bound k (length piece + n) pc

module _ (code : List Op) (bound : ℕ) where
  pub ends_more : (k m n : ℕ) → m ≤ n → (ends : Ends) → EndsUpTo code bound k m ends → EndsUpTo code bound k n ends
  ends_more k m n le ends h = record {
    at_broke = brief_more code bound k m n ends.broke le h.at_broke;
    at_continued = brief_more code bound k m n ends.continued le h.at_continued;
    at_returned = brief_more code bound k m n ends.returned le h.at_returned;
  }

  pub fewer : (j k n pc : ℕ) → j ≤ k → UpTo code bound k n pc → UpTo code bound j n pc
  fewer j k n pc le h turns less = h turns (omega (arith, le, less))

  pub of_brief : {ends : Ends} {pc : ℕ} {piece : List Op} → Brief code bound pc piece → BriefIn code bound ends pc piece
  of_brief {ends} {pc} {piece} h = record { brief_in = λ stands k n le s e. h.brief stands k n s }

  pub in_seq : {ends : Ends} {pc : ℕ} {first rest : List Op} → BriefIn code bound ends pc first → BriefIn code bound ends (pc + length first) rest → BriefIn code bound ends pc (first ++ rest)
  in_seq {ends} {pc} {first} {rest} one two = record {
    brief_in = λ h k n le s e.
        let l = length-append first rest in
        let m : ℕ = pc + length first in
        brief_more code bound k (length first + (length rest + n)) (length (first ++ rest) + n) pc (omega (arith, l))
        (one.brief_in (has_first code pc first rest h) k (length rest + n) (omega (arith, l, le))
        (two.brief_in (has_second code pc first rest m refl h) k n (omega (arith, l, le)) (subst (λ j. UpTo code bound k n j) (omega (arith, l)) s) e)
        (ends_more k n (length rest + n) (omega arith) ends e));
  }

  pub jumping : (ends : Ends) (pc to : ℕ) → ((k n : ℕ) → EndsUpTo code bound k n ends → UpTo code bound k n to) → BriefIn code bound ends pc (op.Jump to ∷ [])
  jumping ends pc to at = record {
    brief_in = λ h k n le s e.
        brief_more code bound k (suc n) (length (op.Jump to ∷ []) + n) pc (omega arith) (brief_step code bound k n pc (op.Jump to) h.0 refl (at k n e, tt));
  }

  pub returning : (ends : Ends) (pc : ℕ) → BriefIn code bound ends pc (op.Jump ends.returned ∷ [])
  returning ends pc = jumping ends pc ends.returned (λ k n e. e.at_returned)

  pub giving_nothing : (ends : Ends) (pc : ℕ) → BriefIn code bound ends pc (op.Nothing ∷ op.Jump ends.returned ∷ [])
  giving_nothing ends pc = record {
    brief_in = λ h k n le s e.
        brief_more code bound k (suc (suc n)) (length (op.Nothing ∷ op.Jump ends.returned ∷ []) + n) pc (omega arith)
        (brief_step code bound k (suc n) pc op.Nothing h.0 refl (brief_step code bound k n (suc pc) (op.Jump ends.returned) h.1.0 refl (e.at_returned, tt), tt));
  }

  -- TESTS

  pub choice_in : (ends : Ends) (o : Option Bool) (pc here : ℕ) (first second : ℕ → List Op)
      → ((n : ℕ) → BriefIn code bound ends n (first n)) → ((n : ℕ) → BriefIn code bound ends n (second n)) → BriefIn code bound ends pc (choice_code o here pc first second)
  choice_in ends None pc here first second one two = of_brief lacks_of_brief
  choice_in ends (Some of_pointer) pc here first second one two = record {
    brief_in = λ h k n le s e.
        let a : List Op = first (suc pc) in
        let z : ℕ = suc (suc (pc + length a)) in
        let b : List Op = second z in
        let jump : Op = op.Jump (z + length b) in
        let l = length-append a (jump ∷ b) in
        let tail = has_second code (suc pc) a (jump ∷ b) (suc (pc + length a)) (omega arith) h.1 in
        let end : UpTo code bound k n (z + length b) = subst (λ j. UpTo code bound k n j) (omega (arith, l)) s in
        let far : ℕ = length a + suc (length b + n) in
        let leap : UpTo code bound k (suc (length b + n)) (suc pc + length a) =
        subst (λ j. UpTo code bound k (suc (length b + n)) j) (omega arith)
        (brief_more code bound k (suc n) (suc (length b + n)) (suc (pc + length a)) (omega arith)
        (brief_step code bound k n (suc (pc + length a)) jump tail.0 refl (end, tt))) in
        brief_more code bound k (suc far) (length (choice_code (Some of_pointer) here pc first second) + n) pc (omega (arith, l))
        (brief_step code bound k far pc (op.Branch of_pointer here z) h.0 refl (
          (one (suc pc)).brief_in (has_first code (suc pc) a (jump ∷ b) h.1) k (suc (length b + n)) (omega (arith, l, le)) leap (ends_more k n (suc (length b + n)) (omega arith) ends e),
          (brief_more code bound k (length b + n) far z (omega arith) ((two z).brief_in tail.1 k n (omega (arith, l, le)) end e), tt),
        ));
  }

  pub if_in : (ends : Ends) (o : Option Bool) (pc here : ℕ) (first : ℕ → List Op) → ((n : ℕ) → BriefIn code bound ends n (first n)) → BriefIn code bound ends pc (if_code o here pc first)
  if_in ends None pc here first one = of_brief lacks_of_brief
  if_in ends (Some of_pointer) pc here first one = record {
    brief_in = λ h k n le s e.
        let a : List Op = first (suc pc) in
        let end : UpTo code bound k n (suc pc + length a) = subst (λ j. UpTo code bound k n j) (omega arith) s in
        brief_more code bound k (suc (length a + n)) (length (if_code (Some of_pointer) here pc first) + n) pc (omega arith)
        (brief_step code bound k (length a + n) pc (op.Branch of_pointer here (suc pc + length a)) h.0 refl
        ((one (suc pc)).brief_in h.1 k n (omega (arith, le)) end e, (brief_more code bound k n (length a + n) (suc pc + length a) (omega arith) end, tt)));
  }

  branch_test : (o : Option Bool) (pc here otherwise : ℕ) → BriefTest code bound otherwise pc (branch_code o here otherwise)
  branch_test None pc here otherwise = record { brief_test = λ h k n s e. lacks_of_brief.brief h k n s }
  branch_test (Some of_pointer) pc here otherwise = record {
    brief_test = λ h k n s e.
        brief_more code bound k (suc n) (length (branch_code (Some of_pointer) here otherwise) + n) pc (omega arith)
        (brief_step code bound k n pc (op.Branch of_pointer here otherwise) h.0 refl (subst (λ j. UpTo code bound k n j) (omega arith) s, (e, tt)));
  }

  pub condition_test : (setting : Setting) (here otherwise pc : ℕ) (e : Typed) → BriefTest code bound otherwise pc (condition_code setting here otherwise pc e)
  condition_test setting here otherwise pc e = record {
    brief_test = λ h k n s other.
        let first : List Op = value_code setting pc e in
        let rest : List Op = branch_code (tests (operand_type e)) here otherwise in
        let l = length-append first rest in
        let m : ℕ = pc + length first in
        brief_more code bound k (length first + (length rest + n)) (length (first ++ rest) + n) pc (omega (arith, l))
        ((value_brief code bound setting e pc).brief (has_first code pc first rest h) k (length rest + n)
        ((branch_test (tests (operand_type e)) m here otherwise).brief_test (has_second code pc first rest m refl h) k n (subst (λ j. UpTo code bound k n j) (omega (arith, l)) s) other));
  }

  pub always_test : (otherwise pc : ℕ) → BriefTest code bound otherwise pc []
  always_test otherwise pc = record { brief_test = λ h k n s e. brief_none.brief h k n s }

  pub effect_brief : (setting : Setting) (pc : ℕ) (e : Typed) → Brief code bound pc (effect_code setting pc e)
  effect_brief setting pc e = brief_seq (value_brief code bound setting e pc) (single refl refl)

  -- INITIALISERS AND BLOCKS

  initial_by : (setting : Setting) (number : ℕ) (name : Label) (o : Option Typed) (pc : ℕ)
      → Brief code bound pc (initial_code setting pc (record { number = number; name = name; initialiser = o }))
  initial_by setting number name None pc = brief_none
  initial_by setting number name (Some e) pc =
      brief_seq (meant_brief code bound setting name.type name.means pc name.number)
      (brief_seq (value_brief code bound setting e _) (brief_seq (assign_brief code bound setting.around e name.type _ name.number) (single refl refl)))

  pub initials_brief : (setting : Setting) (ds : List Automatic) (pc : ℕ) → Brief code bound pc (initials_code setting pc ds)
  initials_brief setting [] pc = brief_none
  initials_brief setting (d ∷ ds) pc = brief_seq (initial_by setting d.number d.name d.initialiser pc) (initials_brief setting ds _)

  makes_brief : (tags : Tags) (ds : List Declared) (pc : ℕ) → Brief code bound pc (makes tags ds)
  makes_brief tags [] pc = brief_none
  makes_brief tags (d ∷ ds) pc = plain refl refl (makes_brief tags ds (suc pc))

  -- a place where a block's automatics die
  dying : (k n pc alive to : ℕ) → slice_get code pc ≡ Some (op.Leave alive) → slice_get code (suc pc) ≡ Some (op.Jump to) → UpTo code bound k n to
      → UpTo code bound k (suc (suc n)) pc
  dying k n pc alive to there jump at =
      brief_step code bound k (suc n) pc (op.Leave alive) there refl (brief_step code bound k n (suc pc) (op.Jump to) jump refl (at, tt), tt)

  pub block_in : (ds : List Declared) (body : Setting → Ends → ℕ → List Op) → ((setting : Setting) (ends : Ends) (pc : ℕ) → BriefIn code bound ends pc (body setting ends pc))
      → (setting : Setting) (ends : Ends) (pc : ℕ) → BriefIn code bound ends pc (block_code setting ends pc ds body)
  block_in [] body is setting ends pc = is setting ends pc
  block_in (d ∷ ds) body is setting ends pc = record {
    brief_in = λ h k n le s e.
        let first : List Op = makes setting.around.tags (d ∷ ds) in
        let m : ℕ = pc + length first in
        let inner : List Op = body (within setting (d ∷ ds)) (ends_at (suc m)) (body_at (suc m)) in
        let rest : List Op = left_body setting ends m inner in
        let stop : ℕ = body_at (suc m) + length inner in
        let l = length-append first rest in
        let j = length-append inner (op.Leave setting.alive ∷ []) in
        let stands = has_second code pc first rest m refl h in
        let body_stands = stands.1.1.1.1.1.1.1 in
        let leaving = (has_second code (body_at (suc m)) inner (op.Leave setting.alive ∷ []) stop refl body_stands).0 in
        let end : UpTo code bound k n (suc stop) = subst (λ q. UpTo code bound k n q) (omega (arith, l, j)) s in
        let at_stop : UpTo code bound k (suc n) stop = brief_step code bound k n stop (op.Leave setting.alive) leaving refl (end, tt) in
        brief_more code bound k (length first + suc (length inner + suc (suc n))) (length (first ++ rest) + n) pc (omega (arith, l, j))
        ((makes_brief setting.around.tags (d ∷ ds) pc).brief (has_first code pc first rest h) k (suc (length inner + suc (suc n)))
        (brief_step code bound k (length inner + suc (suc n)) m (op.Jump (body_at (suc m))) stands.0 refl (
          (is (within setting (d ∷ ds)) (ends_at (suc m)) (body_at (suc m))).brief_in (has_first code (body_at (suc m)) inner (op.Leave setting.alive ∷ []) body_stands) k (suc (suc n))
              (omega (arith, l, j, le)) (brief_more code bound k (suc n) (suc (suc n)) stop (omega arith) at_stop)
              (record {
                at_broke = dying k n (suc m) setting.alive ends.broke stands.1.0 stands.1.1.0 e.at_broke;
                at_continued = dying k n (suc (suc (suc m))) setting.alive ends.continued stands.1.1.1.0 stands.1.1.1.1.0 e.at_continued;
                at_returned = dying k n (suc (suc (suc (suc (suc m))))) setting.alive ends.returned stands.1.1.1.1.1.0 stands.1.1.1.1.1.1.0 e.at_returned;
              }),
          tt,
        )));
  }
