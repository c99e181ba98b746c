use Rattle.std.proofs.lemmas.Result.{err_from_is_err_and}
use Rattle.p9_suite.proofs.Modules.{fed, broken}
use Rattle.p9_suite.proofs.commands.load.read_in_pieces.Goals as goal

pub loop-rest-preserved : goal.loop-rest-preserved
loop-rest-preserved c =
    fed c.args.bytes.now c.loop-rest.reader.given c.feed.new.self.given c.loop-rest.rest.now _ _ _ c.loop-rest.reader.fault c.feed.new.self.fault c.loop-rest.invariant
    c.split_at.ensures.front c.split_at.ensures.back c.in_ok-feed.ensures.fed c.in_ok-feed.ensures.goes_on

pub returns-in_err-feed : goal.returns-in_err-feed
returns-in_err-feed c =
    let p = err_from_is_err_and c.from_residual-in_err-feed.result c.from_residual-in_err-feed.ensures.1 in
    rw (p.1, p.2) (broken c.args.bytes.now c.loop-rest.reader.given c.loop-rest.rest.now _ _ c.loop-rest.reader.fault c.in_err-feed.field-0.0 c.loop-rest.invariant
    c.split_at.ensures.front c.in_err-feed.ensures.first)
