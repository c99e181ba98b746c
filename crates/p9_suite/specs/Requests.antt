-- What the code's values for options and files stand for.
use Rattle.p9_suite.specs.CommandLine.{Named, Budgeted}
use Rattle.p9_suite.specs.declared.options.Budgeted as declared_budgeted
use Rattle.p9_suite.specs.declared.options.request.Named as declared_named

abbrev pub named_seen : declared_named.Named → Named
named_seen n = record { output = n.output.now; files = n.files.now }

abbrev pub budgeted_seen : declared_budgeted.Budgeted → Budgeted
budgeted_seen b = record { budget = b.budget; made = named_seen b.made }
