use Rattle.std.proofs.Common.{◌≡◌}
use Rattle.bench.proofs.machines.take_ups.Given as goal

abbrev pub invariant-loop-passed : goal.invariant-loop-passed
invariant-loop-passed l = l.machine.config ≡ l.fn.machine.config
