use Rattle.network_theory.proofs.Meaning.{groups_serve, means_serve}
use Rattle.network_theory.proofs.laws.serving.Goals as goal

pub returns-clause-meaning : goal.returns-clause-meaning
returns-clause-meaning c = means_serve

pub returns-clause-groups : goal.returns-clause-groups
returns-clause-groups c = groups_serve
