use Rattle.std.proofs.Common.{◌≡◌, ◌+◌, ◌*◌, ◌^◌, ◌≤◌, None}
use Rattle.schedules.specs.Sweeps.{HasGone}
use Rattle.schedules.specs.Takers.{EachGoesOn}
use Rattle.schedules.proofs.sweeping.take_ups.Given as goal

abbrev pub invariant-loop-passed : goal.invariant-loop-passed
invariant-loop-passed g l = record {
  gone : EachGoesOn g.T.StepTaker.is_log l.initial.taker l.taker (λ old new.
      HasGone l.limit (1 * 2 ^ old.machine.config.k) ((l.passed + 1) * 2 ^ old.machine.config.k) old None new);
  config : (g.T.StepTaker.machine l.taker).config ≡ (g.T.StepTaker.machine l.initial.taker).config;
  most : g.T.StepTaker.most l.taker ≡ g.T.StepTaker.most l.initial.taker;
  few : (g.T.StepTaker.machine l.initial.taker).config.k ≤ 6;
}
