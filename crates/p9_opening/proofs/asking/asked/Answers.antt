use Rattle.std.proofs.Common.{inl, inr}
use Rattle.p9_opening.proofs.asking.asked.Goals as goal

pub returns-in-Declaration : goal.returns-in-Declaration
returns-in-Declaration c = rw c.in-Declaration.is c.declaration_context.ensures

pub returns-in-Function : goal.returns-in-Function
returns-in-Function c = rw c.in-Function.is c.function_context.ensures

pub returns-in_ok-context-in-Member : goal.returns-in_ok-context-in-Member
returns-in_ok-context-in-Member c =
    elim c.in-Member.is [
      | inl a ↦ rw a.1 c.in_ok-context-in-Member.ensures
      | inr b ↦ elim b [ inl d ↦ rw d.1 c.in_ok-context-in-Member.ensures | inr e ↦ rw e.1 c.in_ok-context-in-Member.ensures ]
    ]
