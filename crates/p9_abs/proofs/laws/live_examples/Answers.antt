use Rattle.p9_abs.proofs.Computed.{cost_by_depth}
use Rattle.p9_abs.proofs.LiveExample.{live_where_read, region_of}
use Rattle.p9_abs.proofs.laws.live_examples.Goals as goal

pub returns-clause-live : goal.returns-clause-live
returns-clause-live c = live_where_read

pub returns-clause-region : goal.returns-clause-region
returns-clause-region c = region_of

pub returns-clause-cost : goal.returns-clause-cost
returns-clause-cost c = cost_by_depth
