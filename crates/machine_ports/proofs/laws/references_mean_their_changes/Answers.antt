use Rattle.machine_ports.proofs.References.{reference_in_range, reference_is_there, reference_means_change}
use Rattle.machine_ports.proofs.laws.references_mean_their_changes.Goals as goal

pub returns-clause-in_range : goal.returns-clause-in_range
returns-clause-in_range c = reference_in_range

pub returns-clause-meaning : goal.returns-clause-meaning
returns-clause-meaning c = reference_means_change

pub returns-clause-there : goal.returns-clause-there
returns-clause-there c = reference_is_there
