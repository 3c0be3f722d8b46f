use Rattle.network_theory.proofs.Changes.{answering_meaning, answering_places}
use Rattle.network_theory.proofs.laws.answering.Goals as goal

pub returns-clause-places : goal.returns-clause-places
returns-clause-places c = answering_places

pub returns-clause-meaning : goal.returns-clause-meaning
returns-clause-meaning c = answering_meaning
