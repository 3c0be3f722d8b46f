use Rattle.std.proofs.Common.{◌≡◌, length}
use Rattle.std.specs.Prelude.{All, IsNone}
use Rattle.ring_network.proofs.network.free_slots.Given as goal

abbrev pub invariant-loop : goal.invariant-loop
invariant-loop g l = record {
  count : length l.slots.items ≡ l.counter;
  free : All IsNone l.slots.items;
}
