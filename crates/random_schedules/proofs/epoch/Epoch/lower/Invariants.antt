use Rattle.std.proofs.Common.{◌≡◌, ◌++◌, take, drop}
use Rattle.random_schedules.specs.Epochs.{lowered}
use Rattle.random_schedules.proofs.epoch.Epoch.lower.Given as goal

abbrev pub invariant-loop-at : goal.invariant-loop-at
invariant-loop-at l = record {
  same : l.self ≡ l.fn.self;
  rest : lowered l.fn.place l.fn.self.segments ≡ take l.at l.fn.self.segments ++ lowered l.place (drop l.at l.fn.self.segments);
}
