use Rattle.explore_command.proofs.Exchanges.{stands_for_itself}
use Rattle.explore_command.proofs.laws.observed_parts_are_those_of_the_machine.Goals as goal

pub returns-clause-sound : goal.returns-clause-sound
returns-clause-sound c = λ m classes results marks text all inside.
    let x = c.observed_parts_are_those_of_results.ensures.sound results marks text inside in
    (x.0, all.stand.sound x.0 x.0 x.1 (stands_for_itself classes x.0), x.2)

pub returns-clause-complete : goal.returns-clause-complete
returns-clause-complete c = λ m classes results marks q all one.
    let x = all.stand.complete q one in (x.0, x.2, c.observed_parts_are_those_of_results.ensures.complete results marks x.0 x.1)

pub returns-clause-once : goal.returns-clause-once
returns-clause-once c = c.observed_parts_are_those_of_results.ensures.once
