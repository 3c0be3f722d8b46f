use Rattle.exploration.proofs.Forwards.{results_are_flat}
use Rattle.exploration.proofs.Backwards.{flat_results_are}
use Rattle.exploration.proofs.result_laws.results_are_those_of_the_flat_machine.Goals as goal

pub returns : goal.returns
returns c = record { results = λ m r is idle. (results_are_flat m r is idle, flat_results_are m r is idle) }
