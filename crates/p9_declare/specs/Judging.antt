-- What an operation of typing answers and leaves: what the definition gives, or the rule that the
-- definition tells. Of want of memory nothing is told.
use Rattle.std.specs.Prelude.{◌≡◌, ℕ, Option, Some, None, Result, Ok, Err}
use Rattle.p9_lang.specs.Rules.{Rule, Broken, at_node}
use Rattle.p9_lang.specs.Scopes.{Known}
use Rattle.p9_operand.specs.Told.{told_rule}
use Rattle.p9_declare.specs.declared.fault.TypingFault.{TypingFault}
use Rattle.p9_declare.specs.declared.fault.TypingFault.TheVariants as fault

abbrev pub TellsBroken : {B : Type 0} → TypingFault → Result B Broken → Type 0
TellsBroken (fault.Broken node rule) answer = answer ≡ Err (at_node node (told_rule rule))
TellsBroken fault.Memory answer = Unit {0}

-- a value, seen as plain data, and what is known then
abbrev pub Judges : {A B : Type 0} → (A → B) → Result A TypingFault → Known → Result (B × Known) Broken → Type 0
Judges view (Ok x) known answer = answer ≡ Ok (view x, known)
Judges view (Err fault) known answer = TellsBroken fault answer

-- what is known then
abbrev pub Leaves : {A : Type 0} → Result A TypingFault → Known → Result Known Broken → Type 0
Leaves (Ok x) known answer = answer ≡ Ok known
Leaves (Err fault) known answer = TellsBroken fault answer

-- nothing, unless a node breaks a rule
abbrev pub TellsAt : {A : Type 0} → Result A TypingFault → (node : ℕ) → Option Rule → Type 0
TellsAt (Ok x) node rule = rule ≡ None
TellsAt (Err (fault.Broken n r)) node rule = (n ≡ node) × (rule ≡ Some (told_rule r))
TellsAt (Err fault.Memory) node rule = ⊥
