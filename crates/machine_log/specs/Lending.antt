-- A log that lends itself with room, and what it is afterwards.
use Rattle.std.specs.Borrow.{LendsIfOk, MutBor, Fml}
use Rattle.std.specs.Prelude.{Result}
use Rattle.machine_log.specs.Logs.{Log, ReservedLogModel}
use Rattle.machine_log.specs.declared.refusal.LockRefusal.{LockRefusal}
use Rattle.machine_log.specs.contracts.log.Logged.{the_row}
use Rattle.machine_log.specs.contracts.reserved.ReservedLog.{the_row as reserved}

-- Afterwards the log is what the loan left of it. If there was no loan, it is as it was before.
abbrev pub LendsRoom : MutBor Log → Result (MutBor ReservedLogModel) LockRefusal → Fml
LendsRoom l r = LendsIfOk the_row reserved l r (λ w. w.log) l.now
