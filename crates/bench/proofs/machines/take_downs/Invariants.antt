use Rattle.std.proofs.Common.{◌≡◌}
use Rattle.bench.proofs.machines.take_downs.Given as goal

abbrev pub invariant-loop-stage : goal.invariant-loop-stage
invariant-loop-stage l = l.machine.config ≡ l.fn.machine.config
