use Rattle.std.proofs.Common.{◌∙◌}
use Rattle.explore_command.proofs.Exchanges.{satisfy_alike, stands_for_itself}
use Rattle.explore_command.proofs.laws.filtered_parts_are_those_of_the_machine.Goals as goal

pub returns-clause-sound : goal.returns-clause-sound
returns-clause-sound c = λ m classes results marks condition text all inside.
    let x = c.filtered_parts_are_those_of_results_that_satisfy.ensures.sound results marks condition text inside in
    (x.0, all.stand.sound x.0 x.0 x.1 (stands_for_itself classes x.0), x.2, x.3)

pub returns-clause-complete : goal.returns-clause-complete
returns-clause-complete c = λ m classes results marks condition q all one e.
    let x = all.stand.complete q one in
    let also = satisfy_alike c.exchanges_keep_conditions.ensures.kept condition classes x.0 q x.2 ∙ e in
    (x.0, x.2, also, c.filtered_parts_are_those_of_results_that_satisfy.ensures.complete results marks condition x.0 x.1 also)

pub returns-clause-once : goal.returns-clause-once
returns-clause-once c = c.filtered_parts_are_those_of_results_that_satisfy.ensures.once
