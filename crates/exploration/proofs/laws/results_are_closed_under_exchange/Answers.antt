use Rattle.exploration.proofs.Exchanged.{closed}
use Rattle.exploration.proofs.laws.results_are_closed_under_exchange.Goals as goal

pub returns : goal.returns
returns c = record { closed = closed }
