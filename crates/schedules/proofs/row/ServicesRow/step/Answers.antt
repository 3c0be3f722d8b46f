use Rattle.schedules.proofs.OfKinds.{serve_there}
use Rattle.schedules.proofs.row.ServicesRow.step.Goals as goal

pub returns : goal.returns
returns c k few there within = serve_there k c.args.wire few within
