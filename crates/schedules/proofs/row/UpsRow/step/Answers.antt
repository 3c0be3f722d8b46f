use Rattle.schedules.proofs.OfKinds.{up_there}
use Rattle.schedules.proofs.row.UpsRow.step.Goals as goal

pub returns : goal.returns
returns c k few there within = up_there k c.args.wire few within c.args.self.now.stage there
