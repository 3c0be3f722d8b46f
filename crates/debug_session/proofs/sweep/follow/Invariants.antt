use Rattle.std.proofs.Common.{◌≡◌, ◌+◌, ◌-◌, length}
use Rattle.debug_session.specs.Sweeps.{IsUnderWay}
use Rattle.debug_session.proofs.sweep.follow.Given as goal

abbrev pub invariant-loop-retired : goal.invariant-loop-retired
invariant-loop-retired l = record {
  config : l.log.log.machine.config ≡ l.initial.log.log.machine.config;
  capacity_left : length l.log.log.steps + l.log.capacity_left ≡ length l.initial.log.log.steps + l.initial.log.capacity_left;
  under_way : IsUnderWay l.breaks l.limit l.initial.log.log l.retired l.log.log;
}

abbrev pub decreases-loop-retired : goal.decreases-loop-retired
decreases-loop-retired l = l.limit - length l.log.log.steps
