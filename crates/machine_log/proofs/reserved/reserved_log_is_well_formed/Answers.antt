use Rattle.std.proofs.Common.{subst}
use Rattle.machine_steps.specs.Machines.{AreHome}
use Rattle.machine_log.specs.Logs.{ReservedLogModel}
use Rattle.machine_log.proofs.Taking.{kept_home}
use Rattle.machine_log.proofs.reserved.reserved_log_is_well_formed.Goals as goal

pub returns-clause-home : goal.returns-clause-home
returns-clause-home c = subst (λ (l : ReservedLogModel). AreHome l.log.machine) c.reserved.view_is (kept_home _ c.reserved.invariant)
