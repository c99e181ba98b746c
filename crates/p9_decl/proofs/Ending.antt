-- An expression with the end behind it.
use Rattle.std.proofs.Common.{◌≡◌, Option, Some, None, sym, subst, ◌∙◌}
use Rattle.std.specs.Prelude.{IfSome, IfNone}
use Rattle.p9_grammar.specs.declared.terminal.Terminal.TheVariants.{End}
use Rattle.p9_grammar.specs.Machine.{State, step}
use Rattle.p9_grammar.specs.Trees.{tree_of}
use Rattle.p9_prefix.specs.declared.phrase.Phrase.TheVariants.{Expression}
use Rattle.p9_decl.specs.declared.finish.Found.{Found}
use Rattle.p9_decl.specs.Finishing.{IsOver, MatchFound, NoneOver}

same-state : (a b : State) → Some a ≡ Some b → a ≡ b
same-state a b e = cc

pub by_over : (st new : State) (r : Option Found) → step st End ≡ Some new → IfSome r (λ f. IsOver new (tree_of f.node) f.scope.levels) → IfNone r (NoneOver new) → MatchFound Expression st r
by_over st new (Some f) e h g = (new, e, h)
by_over st new None e h g = λ n names (x, q, o). g n names (subst (λ y. IsOver y n names) (same-state x new (sym q ∙ e)) o)
