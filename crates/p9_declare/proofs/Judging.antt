-- What operations answer, by the answers of the operations that they call.
use Rattle.std.proofs.Common.{◌≡◌, ℕ, Option, Some, None, Result, Ok, Err, refl, sym, ap, ◌∙◌}
use Rattle.p9_lang.specs.Rules.{Rule, Broken, at_node, and_then}
use Rattle.p9_operand.specs.Told.{told_rule}
use Rattle.p9_declare.specs.declared.fault.TypingFault.{TypingFault}
use Rattle.p9_declare.specs.declared.fault.TypingFault.TheVariants as fault
use Rattle.p9_declare.specs.Judging.{TellsBroken, TellsAt}
use Rattle.p9_declare.specs.Told.{told_fault}

-- the fault of an operation is that of all that goes on from it
pub fault_goes_on : {A B : Type 0} (f : TypingFault) (answer : Result A Broken) (next : A → Result B Broken)
    → TellsBroken f answer → TellsBroken f (and_then answer next)
fault_goes_on (fault.Broken node rule) answer next e = ap (λ r. and_then r next) e
fault_goes_on fault.Memory answer next e = tt

-- where the operation succeeds, what goes on from it decides
pub goes_on : {A B : Type 0} (answer : Result A Broken) (x : A) (next : A → Result B Broken) → answer ≡ Ok x → and_then answer next ≡ next x
goes_on answer x next e = ap (λ r. and_then r next) e

pub same_fault : {A B : Type 0} (f : TypingFault) (answer : Result A Broken) (other : Result B Broken)
    → ((b : Broken) → answer ≡ Err b → other ≡ Err b) → TellsBroken f answer → TellsBroken f other
same_fault (fault.Broken node rule) answer other same e = same (at_node node (told_rule rule)) e
same_fault fault.Memory answer other same e = tt

-- the rule that a node breaks is the fault
pub fault_at : {B : Type 0} (A : Type 0) (f : TypingFault) (node : ℕ) (rule : Option Rule) (answer : Result B Broken)
    → ((r : Rule) → rule ≡ Some r → answer ≡ Err (at_node node r)) → TellsAt {A = A} (Err f) node rule → TellsBroken f answer
fault_at A (fault.Broken n r) node rule answer same e =
    same (told_rule r) e.1 ∙ ap (λ k. Err (at_node k (told_rule r))) (sym e.0)
fault_at A fault.Memory node rule answer same e = absurd e

pub told_same : {A : Type 0} (f : TypingFault) {answer other : Result A Broken} → answer ≡ other → TellsBroken f answer → TellsBroken f other
told_same (fault.Broken node rule) e h = sym e ∙ h
told_same fault.Memory e h = tt
