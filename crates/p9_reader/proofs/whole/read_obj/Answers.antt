use Rattle.std.proofs.lemmas.Result.{err_from_is_err_and}
use Rattle.p9_reader.proofs.Taking.{all_bytes}
use Rattle.p9_reader.proofs.Answering.{IsAnswer, answered_whole, answered_early, valid_so, spelled_so, read_so, broken_so, version_so}
use Rattle.p9_reader.proofs.whole.read_obj.Goals.{After-from_residual-in_err-feed, After-finish}
use Rattle.p9_reader.proofs.whole.read_obj.Goals as goal

early : (c : After-from_residual-in_err-feed) → IsAnswer c.args.bytes.now c.from_residual-in_err-feed.result
early c =
    let p = err_from_is_err_and c.from_residual-in_err-feed.result c.from_residual-in_err-feed.ensures.1 in
    answered_early c.args.bytes.now _ _ c.in_err-feed.field-0.0 p.0 _ c.in_ok-reader.ensures.given c.in_ok-reader.ensures.fault c.in_err-feed.ensures.first p.1 p.2

whole : (c : After-finish) → IsAnswer c.args.bytes.now c.finish.result
whole c =
    answered_whole c.args.bytes.now _ _ _ _ c.in_ok-reader.ensures.given c.in_ok-feed.ensures.fed c.in_ok-feed.ensures.goes_on c.finish.ensures.whole

pub returns-in_err-feed-clause-read : goal.returns-in_err-feed-clause-read
returns-in_err-feed-clause-read c =
    let d = (goal.at.returns-in_err-feed-clause-read c).After-from_residual-in_err-feed in
    read_so d.args.bytes.now _ (early d)

pub returns-in_err-feed-clause-broken : goal.returns-in_err-feed-clause-broken
returns-in_err-feed-clause-broken c =
    let d = (goal.at.returns-in_err-feed-clause-broken c).After-from_residual-in_err-feed in
    broken_so d.args.bytes.now _ (all_bytes d.args.bytes.now c.type_inv.bytes) (early d)

pub returns-in_err-feed-clause-version : goal.returns-in_err-feed-clause-version
returns-in_err-feed-clause-version c =
    let d = (goal.at.returns-in_err-feed-clause-version c).After-from_residual-in_err-feed in
    version_so d.args.bytes.now _ (all_bytes d.args.bytes.now c.type_inv.bytes) (early d)

pub returns-clause-valid : goal.returns-clause-valid
returns-clause-valid c =
    let d = (goal.at.returns-clause-valid c).After-finish in
    valid_so d.args.bytes.now _ (all_bytes d.args.bytes.now c.type_inv.bytes) (whole d)

pub returns-clause-spelled : goal.returns-clause-spelled
returns-clause-spelled c =
    let d = (goal.at.returns-clause-spelled c).After-finish in
    spelled_so d.args.bytes.now _ (all_bytes d.args.bytes.now c.type_inv.bytes) (whole d)

pub returns-clause-read : goal.returns-clause-read
returns-clause-read c =
    let d = (goal.at.returns-clause-read c).After-finish in
    read_so d.args.bytes.now _ (whole d)

pub returns-clause-broken : goal.returns-clause-broken
returns-clause-broken c =
    let d = (goal.at.returns-clause-broken c).After-finish in
    broken_so d.args.bytes.now _ (all_bytes d.args.bytes.now c.type_inv.bytes) (whole d)

pub returns-clause-version : goal.returns-clause-version
returns-clause-version c =
    let d = (goal.at.returns-clause-version c).After-finish in
    version_so d.args.bytes.now _ (all_bytes d.args.bytes.now c.type_inv.bytes) (whole d)
