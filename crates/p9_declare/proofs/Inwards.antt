-- Declarators that are closed step by step, the outermost first.
use Rattle.std.proofs.Common.{◌≡◌, ℕ, Bool, List, [], ◌∷◌, ◌++◌, map, reverse, slice_set, Option, Some, None, Result, Ok, Err, refl, sym, ap, ◌∙◌}
use Rattle.std.specs.List.{list_all}
use Rattle.p9_lang.specs.Types.{TypeTree, Tags}
use Rattle.p9_lang.specs.Rules.{Rule, Broken, at_node, and_then}
use Rattle.p9_lang.specs.Scopes.{Known, with_type}
use Rattle.p9_lang.specs.Declarators.{LengthBy, Step, makes_no_type, shaped, broken_at, closed_from}
use Rattle.p9_declare.specs.Closing.{with_given, with_types, closed_inwards, step_closed}
use Rattle.p9_declare.specs.declared.fault.TypingFault.{TypingFault}
use Rattle.p9_declare.specs.Judging.{TellsBroken}
use Rattle.p9_declare.proofs.Judging.{fault_goes_on, told_same}
use Rattle.p9_declare.proofs.Outermost.{with_given-number, all_further, outermost_first}

after_step : (r : Result TypeTree Broken) (by : LengthBy) (k : ℕ) (steps : List Step) (s : Known)
    → and_then (and_then r (λ made. closed_from s.tags by made steps (slice_set s.types k made))) (λ made. with_types made s)
    ≡ and_then (and_then {A = TypeTree} {B = TypeTree × Known} {E = Broken} r (λ made. Ok (made, record s { types = slice_set s.types k made }))) (λ q. closed_inwards by q.0 steps q.1)
after_step (Ok made) by k steps s = refl
after_step (Err broken) by k steps s = refl

first_step : (by : LengthBy) (step : Step) (steps : List Step) (t : TypeTree) (s : Known)
    → closed_inwards by t (step ∷ steps) s
    ≡ and_then (step_closed by (list_all makes_no_type steps) step t s) (λ q. closed_inwards by q.0 steps q.1)
first_step by step steps t s = after_step (broken_at step.number (shaped s.tags by (list_all makes_no_type steps) step.shape t)) by step.number steps s

pub last_step : {A : Type 0} (told : A → Step) (given : Option ℕ) (by : LengthBy) (steps before : List A) (step : A) (t : TypeTree) (s : Known) → steps ≡ before ++ step ∷ []
    → closed_inwards by t (reverse (map (with_given given) (map told steps))) s
    ≡ and_then (step_closed by (list_all makes_no_type (map told before)) (with_given given (told step)) t s)
    (λ q. closed_inwards by q.0 (reverse (map (with_given given) (map told before))) q.1)
last_step told given by steps before step t s e =
    ap (λ l. closed_inwards by t l s) (outermost_first told given steps before step e)
    ∙ first_step by (with_given given (told step)) (reverse (map (with_given given) (map told before))) t s
    ∙ ap
    (λ b. and_then (step_closed by b (with_given given (told step)) t s) (λ q. closed_inwards by q.0 (reverse (map (with_given given) (map told before))) q.1))
    (all_further given (map told before))

-- A STEP

pub step_ok : (given : Option ℕ) (by : LengthBy) (o : Bool) (step : Step) (t : TypeTree) (tags : Tags) (s after : Known) (made : TypeTree)
    → shaped tags by o (with_given given step).shape t ≡ Ok made → tags ≡ s.tags → after ≡ with_type step.number made s
    → step_closed by o (with_given given step) t s ≡ Ok (made, after)
step_ok given by o step t tags s after made e f g =
    ap
    (λ r. and_then (broken_at (with_given given step).number r) (λ m. Ok (m, record s { types = slice_set s.types (with_given given step).number m })))
    (ap (λ l. shaped l by o (with_given given step).shape t) (sym f) ∙ e)
    ∙ ap (λ k. Ok (made, record s { types = slice_set s.types k made })) (with_given-number given step.number step.shape)
    ∙ ap (λ q. Ok (made, q)) (sym g)

pub step_broken : (given : Option ℕ) (by : LengthBy) (o : Bool) (step : Step) (t : TypeTree) (tags : Tags) (s : Known) (rule : Rule)
    → shaped tags by o (with_given given step).shape t ≡ Err rule → tags ≡ s.tags
    → step_closed by o (with_given given step) t s ≡ Err (at_node step.number rule)
step_broken given by o step t tags s rule e f =
    ap
    (λ r. and_then (broken_at (with_given given step).number r) (λ m. Ok (m, record s { types = slice_set s.types (with_given given step).number m })))
    (ap (λ l. shaped l by o (with_given given step).shape t) (sym f) ∙ e)
    ∙ ap (λ k. Err (at_node k rule)) (with_given-number given step.number step.shape)

-- THE STEPS

pub step_on : {A : Type 0} (told : A → Step) (given : Option ℕ) (by : LengthBy) (o : Bool) (steps before : List A) (step : A) (t made : TypeTree) (s after : Known)
    (whole : Result (TypeTree × Known) Broken)
    → steps ≡ before ++ step ∷ [] → o ≡ list_all makes_no_type (map told before) → step_closed by o (with_given given (told step)) t s ≡ Ok (made, after)
    → closed_inwards by t (reverse (map (with_given given) (map told steps))) s ≡ whole
    → closed_inwards by made (reverse (map (with_given given) (map told before))) after ≡ whole
step_on told given by o steps before step t made s after whole e f g h =
    sym
    (last_step told given by steps before step t s e
    ∙ ap (λ b. and_then (step_closed by b (with_given given (told step)) t s) (λ q. closed_inwards by q.0 (reverse (map (with_given given) (map told before))) q.1)) (sym f)
    ∙ ap (λ r. and_then r (λ q. closed_inwards by q.0 (reverse (map (with_given given) (map told before))) q.1)) g)
    ∙ h

pub step_off : {A : Type 0} (told : A → Step) (given : Option ℕ) (by : LengthBy) (o : Bool) (steps before : List A) (step : A) (t : TypeTree) (s : Known) (f : TypingFault)
    (whole : Result (TypeTree × Known) Broken)
    → steps ≡ before ++ step ∷ [] → o ≡ list_all makes_no_type (map told before) → TellsBroken f (step_closed by o (with_given given (told step)) t s)
    → closed_inwards by t (reverse (map (with_given given) (map told steps))) s ≡ whole → TellsBroken f whole
step_off told given by o steps before step t s f whole e i g h =
    told_same f
    (ap (λ b. and_then (step_closed by b (with_given given (told step)) t s) (λ q. closed_inwards by q.0 (reverse (map (with_given given) (map told before))) q.1)) i
    ∙ sym (last_step told given by steps before step t s e) ∙ h)
    (fault_goes_on f (step_closed by o (with_given given (told step)) t s) (λ q. closed_inwards by q.0 (reverse (map (with_given given) (map told before))) q.1) g)

pub no_step : {A : Type 0} (told : A → Step) (given : Option ℕ) (by : LengthBy) (steps : List A) (t : TypeTree) (s : Known) (whole : Result (TypeTree × Known) Broken)
    → steps ≡ [] → closed_inwards by t (reverse (map (with_given given) (map told steps))) s ≡ whole → whole ≡ Ok (t, s)
no_step told given by steps t s whole e h =
    sym h ∙ ap (λ l. closed_inwards by t (reverse (map (with_given given) (map told l))) s) e
