use Rattle.schedules.proofs.Choices.{count, are_named, are_all}
use Rattle.schedules.proofs.choice_laws.choices_are_of_the_network.Goals as goal

pub returns-clause-count : goal.returns-clause-count
returns-clause-count c k = count k

pub returns-clause-named : goal.returns-clause-named
returns-clause-named c k place s e = are_named k place s e

pub returns-clause-all : goal.returns-clause-all
returns-clause-all c k s h = are_all k s h
