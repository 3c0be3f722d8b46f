use Rattle.std.proofs.Common.{◌≡◌}
use Rattle.log_tests.proofs.tests.sweep.takes.Given as goal

abbrev pub invariant-loop-step : goal.invariant-loop-step
invariant-loop-step g l = l.round.k ≡ l.machine.config.k
