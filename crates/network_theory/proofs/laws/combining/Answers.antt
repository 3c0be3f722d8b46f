use Rattle.network_theory.proofs.Changes.{combining_meaning, combining_places}
use Rattle.network_theory.proofs.laws.combining.Goals as goal

pub returns-clause-places : goal.returns-clause-places
returns-clause-places c = combining_places

pub returns-clause-meaning : goal.returns-clause-meaning
returns-clause-meaning c = combining_meaning
