use Rattle.schedules.proofs.OfKinds.{down_there}
use Rattle.schedules.proofs.row.DownsRow.step.Goals as goal

pub returns : goal.returns
returns c k few there within = down_there k c.args.wire few within c.args.self.now.stage there
