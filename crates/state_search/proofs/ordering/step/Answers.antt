use Rattle.state_search.proofs.Trading.{as_it_was}
use Rattle.state_search.proofs.ordering.step.Goals as goal

pub returns-then-classes-first-clause-exchanged : goal.returns-then-classes-first-clause-exchanged
returns-then-classes-first-clause-exchanged g c = as_it_was _ _
