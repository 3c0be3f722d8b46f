use Rattle.std.proofs.Common.{◌≡◌, ◌+◌, ◌*◌, ◌^◌, ◌≤◌, None}
use Rattle.schedules.specs.Sweeps.{HasGone}
use Rattle.schedules.specs.Takers.{EachGoesOn}
use Rattle.schedules.proofs.sweeping.take_downs.Given as goal

abbrev pub invariant-loop-stage : goal.invariant-loop-stage
invariant-loop-stage g l = record {
  gone : EachGoesOn g.T.StepTaker.is_log l.initial.taker l.taker (λ old new.
      HasGone l.limit ((old.machine.config.k + 2) * 2 ^ old.machine.config.k) ((old.machine.config.k + 2 + l.stage) * 2 ^ old.machine.config.k) old None new);
  config : (g.T.StepTaker.machine l.taker).config ≡ (g.T.StepTaker.machine l.initial.taker).config;
  most : g.T.StepTaker.most l.taker ≡ g.T.StepTaker.most l.initial.taker;
  few : (g.T.StepTaker.machine l.initial.taker).config.k ≤ 6;
}
