use Rattle.std.proofs.Common.{◌≡◌, ◌≤◌, length, vec_capacity}
use Rattle.local_memory.specs.Accesses.{region_of_bytes}
use Rattle.local_memory.proofs.bytes.write_up_to.Given as goal

abbrev pub invariant-loop : goal.invariant-loop
invariant-loop l =
    (region_of_bytes l.written.items ≡ region_of_bytes l.fn.written.items)
    × (length l.written.items ≡ l.counter)
    × (vec_capacity l.written ≡ vec_capacity l.fn.written)
    × (l.counter ≤ 65536)
