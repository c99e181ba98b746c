use Rattle.std.proofs.Common.{arith, subst}
use Rattle.p9_grammar.specs.Trees.{tree_of}
use Rattle.p9_tree_reader.specs.Reading.{state_of}
use Rattle.p9_decl.specs.Finishing.{MatchFound}
use Rattle.p9_decl.proofs.Phrasing.{refused, unwhole, whole}
use Rattle.p9_decl.proofs.phrase.read_phrase.Goals as goal

pub returns-in-Err : goal.returns-in-Err
returns-in-Err c =
    refused c.args.phrase c.args.scope.now.levels c.args.tokens.now c.behind.result.now c.args.at c.in_ok-from.from c.in-Err.fault c.placed.result (omega (arith, c.in_ok-from.ensures)) c.behind.ensures c.in-Err.ensures c.placed.ensures

pub returns-in-Some : goal.returns-in-Some
returns-in-Some c =
    whole c.args.phrase c.args.scope.now.levels c.args.tokens.now c.behind.result.now c.args.at c.in_ok-from.from c.in-Ok.gone.count c.next_of-next.result (state_of c.in-Ok.gone.reader) (tree_of c.in-Some.field-0.node) c.in-Some.field-0.scope.levels
    (omega (arith, c.in_ok-from.ensures)) c.behind.ensures c.requires c.in-Ok.ensures.0 c.in-Ok.ensures.1
    (subst (MatchFound c.args.phrase (state_of c.in-Ok.gone.reader)) c.in-Some.is c.in_ok-node.ensures) c.next_of-next.ensures

pub returns-in_ok-place_in-in-None : goal.returns-in_ok-place_in-in-None
returns-in_ok-place_in-in-None c =
    unwhole c.args.phrase c.args.scope.now.levels c.args.tokens.now c.behind.result.now c.args.at c.in_ok-from.from c.in-Ok.gone.count c.in_ok-place_in-in-None.field-0 (state_of c.in-Ok.gone.reader)
    (omega (arith, c.in_ok-from.ensures)) c.behind.ensures c.requires c.in-Ok.ensures.0 c.in-Ok.ensures.1
    (subst (MatchFound c.args.phrase (state_of c.in-Ok.gone.reader)) c.in-None.is c.in_ok-node.ensures) c.in_ok-place_in-in-None.ensures
