use Rattle.exploration.proofs.Shown.{row_added}
use Rattle.exploration.proofs.ending.is_new.Goals as goal

pub returns-in-Ok : goal.returns-in-Ok
returns-in-Ok g c = row_added c.args.rows.now.keys c.args.row c.insert_full.new.self.keys c.in-Ok.is_new c.in-Ok.ensures.added c.in-Ok.ensures.keys
