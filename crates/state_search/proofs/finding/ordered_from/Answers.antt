use Rattle.state_search.proofs.Trading.{as_it_was}
use Rattle.state_search.proofs.finding.ordered_from.Goals as goal

pub returns-else-extent : goal.returns-else-extent
returns-else-extent g c = as_it_was c.args.classes.now c.args.row.now
