use Rattle.machine_log.proofs.Taking.{kept_home}
use Rattle.machine_log.proofs.reserved.ReservedLog.pokes.Goals as goal

pub pokes-requires-clause-home : goal.pokes-requires-clause-home
pokes-requires-clause-home c = kept_home _ c.self.invariant
