use Rattle.std.proofs.Common.{◌≡◌, ◌+◌, ◌-◌, ◌≤◌, length}
use Rattle.machine_log.specs.Logs.{Log}
use Rattle.schedules.specs.Rounds.{round}
use Rattle.debug_session.specs.Sweeps.{IsUnderWay}
use Rattle.debug_session.proofs.Quieting.{HasMoved}
use Rattle.debug_session.proofs.sweep.take_round.Given as goal

abbrev pub invariant-loop-round : goal.invariant-loop-round
invariant-loop-round l = record {
  config : l.log.log.machine.config ≡ l.initial.log.log.machine.config;
  capacity_left : length l.log.log.steps + l.log.capacity_left ≡ length l.initial.log.log.steps + l.initial.log.capacity_left;
  size : l.round.k ≡ l.log.log.machine.config.k;
  few : length l.log.log.steps ≤ l.limit;
  moved : HasMoved (length l.initial.log.log.steps) l.round.place l.log.log;
  under_way : (first : Log) → IsUnderWay l.breaks l.limit first l.initial.retired l.initial.log.log → IsUnderWay l.breaks l.limit first l.retired l.log.log;
}

abbrev pub decreases-loop-round : goal.decreases-loop-round
decreases-loop-round l = length (round l.initial.log.log.machine.config.k) - l.round.place
