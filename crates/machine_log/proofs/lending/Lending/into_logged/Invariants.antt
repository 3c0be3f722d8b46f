use Rattle.std.proofs.Common.{◌≡◌, ◌<◌, ℕ, None}
use Rattle.machine_log.specs.Lendings.{lent_at}
use Rattle.machine_log.proofs.lending.Lending.into_logged.Given as goal

abbrev pub invariant-loop-p : goal.invariant-loop-p
invariant-loop-p l = (l.self.log ≡ l.fn.self.log) × ((q : ℕ) → q < l.p → lent_at l.self.lent q ≡ None)
