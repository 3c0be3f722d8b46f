use Rattle.serialization.specs.Order.{flat_of, ran}
use Rattle.serialization.proofs.Serial.{follows}
use Rattle.serialization.proofs.Moments.{at_the_moment, idle_is_flat}
use Rattle.serialization.proofs.Once.{order_by_outcomes, served_once}
use Rattle.serialization.proofs.laws.serialization.Goals as goal

pub returns-clause-moments : goal.returns-clause-moments
returns-clause-moments row c z P good M steps keeps b = at_the_moment z P _ (flat_of M) (ran z P M steps) (follows z P _ keeps M b steps)

pub returns-clause-idle : goal.returns-clause-idle
returns-clause-idle row c z P good M steps keeps b idle = idle_is_flat z P _ (flat_of M) (ran z P M steps) (follows z P _ keeps M b steps) idle

pub returns-clause-order : goal.returns-clause-order
returns-clause-order row c z P M steps = order_by_outcomes z P M steps

pub returns-clause-once : goal.returns-clause-once
returns-clause-once row c z P good M steps keeps b = served_once z P _ keeps M b steps
