use Rattle.std.proofs.Common.{◌≡◌, ◌-◌, ◌^◌, ◌≤◌}
use Rattle.bench.proofs.machines.take_row.Given as goal

abbrev pub invariant-loop-next : goal.invariant-loop-next
invariant-loop-next g l = record {
  config : l.machine.config ≡ l.initial.machine.config;
  few : l.machine.config.k ≤ 6;
  wire : l.wire ≤ 2 ^ l.initial.machine.config.k;
}

abbrev pub decreases-loop-next : goal.decreases-loop-next
decreases-loop-next g l = 2 ^ l.initial.machine.config.k - l.wire
