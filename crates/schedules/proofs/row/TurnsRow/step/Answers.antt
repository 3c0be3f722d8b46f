use Rattle.schedules.proofs.OfKinds.{turn_there}
use Rattle.schedules.proofs.row.TurnsRow.step.Goals as goal

pub returns : goal.returns
returns c k few there within = turn_there k c.args.wire few within
