use Rattle.std.proofs.Common.{◌≡◌, ◌+◌, ◌-◌, ◌*◌, ◌^◌, ◌≤◌}
use Rattle.machine_log.specs.Logs.{Log}
use Rattle.schedules.specs.Sweeps.{IsInRound}
use Rattle.schedules.specs.Takers.{EachGoesOn}
use Rattle.schedules.proofs.sweeping.take_row.Given as goal

abbrev pub invariant-loop-taker : goal.invariant-loop-taker
invariant-loop-taker g l = record {
  config : (g.T.StepTaker.machine l.taker).config ≡ (g.T.StepTaker.machine l.initial.taker).config;
  most : g.T.StepTaker.most l.taker ≡ g.T.StepTaker.most l.initial.taker;
  stages : (g.T.StepTaker.machine l.taker).config.k ≤ 6;
  wire : l.wire ≤ 2 ^ (g.T.StepTaker.machine l.initial.taker).config.k;
  on : EachGoesOn g.T.StepTaker.is_log l.initial.taker l.taker (λ old new. (start : Log) →
      IsInRound l.limit start (g.R.Row.number l.row old.machine.config.k * 2 ^ old.machine.config.k) old →
      IsInRound l.limit start (g.R.Row.number l.row old.machine.config.k * 2 ^ old.machine.config.k + l.wire) new);
}

abbrev pub decreases-loop-taker : goal.decreases-loop-taker
decreases-loop-taker g l = 2 ^ (g.T.StepTaker.machine l.initial.taker).config.k - l.wire
