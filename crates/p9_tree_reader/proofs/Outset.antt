-- One step of the machine.
use Rattle.std.proofs.Common.{◌≡◌, ℕ, Option, refl}
use Rattle.p9_grammar.specs.declared.terminal.Terminal.{Terminal}
use Rattle.p9_grammar.specs.Scopes.{Scope}
use Rattle.p9_grammar.specs.Machine.{Stack, Read, state, step, stepped}

pub step_out : (s : Stack) (scope : Scope) (at : ℕ) (last : Option Read) (token : Terminal) → step (state s scope at last) token ≡ stepped s scope at last token
unfolding step
step_out s scope at last token = refl
