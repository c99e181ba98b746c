-- What operations answer, by equal answers.
use Rattle.std.proofs.Common.{◌≡◌, Result, Ok, Err, sym, ◌∙◌}
use Rattle.p9_lang.specs.Rules.{Broken}
use Rattle.p9_lang.specs.Scopes.{Known}
use Rattle.p9_declare.specs.declared.fault.TypingFault.{TypingFault}
use Rattle.p9_declare.specs.Judging.{Judges, Leaves}
use Rattle.p9_declare.proofs.Judging.{told_same}

pub judges_same : {A B : Type 0} (view : A → B) (result : Result A TypingFault) (known : Known) (answer other : Result (B × Known) Broken)
    → answer ≡ other → Judges view result known answer → Judges view result known other
judges_same view (Ok x) known answer other e h = sym e ∙ h
judges_same view (Err fault) known answer other e h = told_same fault e h

pub leaves_same : {A : Type 0} (result : Result A TypingFault) (known : Known) (answer other : Result Known Broken)
    → answer ≡ other → Leaves result known answer → Leaves result known other
leaves_same (Ok x) known answer other e h = sym e ∙ h
leaves_same (Err fault) known answer other e h = told_same fault e h
