use Rattle.std.proofs.Common.{◌≡◌, ℕ, [], length}
use Rattle.machine_steps.specs.Ordering.{group_in, count_in}
use Rattle.machine_steps.proofs.entering.SerialOrder.new.Given as goal

abbrev pub invariant-loop : goal.invariant-loop
invariant-loop l = record {
  leaders : length l.groups.items ≡ l.counter;
  groups : (p : ℕ) → group_in l.groups.items p ≡ [];
  none : count_in l.groups.items ≡ 0;
}
