use Rattle.std.proofs.Common.{◌≤◌, ◌+◌, length, take}
use Rattle.std.specs.Vec.{vec_capacity}
use Rattle.machine_steps.specs.Ordering.{count_in}
use Rattle.machine_steps.proofs.Ordering.{IsOrdered}
use Rattle.machine_steps.proofs.machine.Machine.order.Given as goal

abbrev pub invariant-loop-step : goal.invariant-loop-step
invariant-loop-step l = record {
  ordered : IsOrdered l.fn.self (take l.step-index l.steps) l.self l.order.groups.items l.order.entries.items;
  room : length l.steps ≤ vec_capacity l.order.entries;
  count : length l.order.entries.items + count_in l.order.groups.items ≤ l.step-index;
}
