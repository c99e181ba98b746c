use Rattle.std.proofs.Common.{Ok, subst}
use Rattle.p9_prefix.specs.declared.phrase.Phrase.TheVariants.{Declaration}
use Rattle.p9_decl.specs.Phrases.{IfWhole}
use Rattle.p9_decl.proofs.phrase.parse_decl.Goals as goal

pub returns-clause-read : goal.returns-clause-read
returns-clause-read c = subst (λ us. IfWhole Declaration c.args.scope.now.levels us c.args.at (Ok c.in-Ok.whole)) c.as_slice.ensures.value c.in-Ok.ensures
