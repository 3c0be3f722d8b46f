use Rattle.std.proofs.Common.{◌≡◌, ◌-◌}
use Rattle.schedules.specs.Takers.{EachGoesOn}
use Rattle.schedules.proofs.Following.{IsFollowing}
use Rattle.schedules.proofs.sweeping.follow.Given as goal

abbrev pub invariant-loop-taker : goal.invariant-loop-taker
invariant-loop-taker g l = record {
  config : (g.T.StepTaker.machine l.taker).config ≡ (g.T.StepTaker.machine l.initial.taker).config;
  most : g.T.StepTaker.most l.taker ≡ g.T.StepTaker.most l.initial.taker;
  following : EachGoesOn g.T.StepTaker.is_log l.initial.taker l.taker (IsFollowing l.limit);
}

abbrev pub decreases-loop-taker : goal.decreases-loop-taker
decreases-loop-taker g l = l.limit - g.T.StepTaker.count l.taker
