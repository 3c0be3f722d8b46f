use Rattle.std.proofs.Common.{◌≡◌, length}
use Rattle.random_schedules.specs.Epochs.{shuffled}
use Rattle.random_schedules.proofs.epoch.Epoch.shuffle.Given as goal

abbrev pub invariant-loop-processor : goal.invariant-loop-processor
invariant-loop-processor l = record {
  epoch : l.self ≡ shuffled l.turns l.fn.self.state l.processor;
  count : length l.self.segments ≡ l.processor;
}
