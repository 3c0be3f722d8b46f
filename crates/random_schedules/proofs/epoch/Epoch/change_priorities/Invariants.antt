use Rattle.std.proofs.Common.{◌≡◌, ◌≤◌, ◌+◌, length}
use Rattle.random_schedules.specs.Epochs.{with_changes}
use Rattle.random_schedules.proofs.epoch.Epoch.change_priorities.Given as goal

abbrev pub invariant-loop-change : goal.invariant-loop-change
invariant-loop-change l = record {
  epoch : l.self ≡ with_changes l.turns l._change l.fn.self;
  few : length l.self.segments ≤ length l.fn.self.segments + l._change;
}
