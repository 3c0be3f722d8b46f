use Rattle.std.proofs.Common.{◌≡◌, ◌≤◌, length, take}
use Rattle.local_memory.specs.Accesses.{region_of_bytes}
use Rattle.local_memory.proofs.bytes.used_bytes.Given as goal

-- The bytes from `count` on are zeros of the padding.
abbrev pub invariant-loop-count : goal.invariant-loop-count
invariant-loop-count l = record {
  few : l.count ≤ length l.bytes;
  same : region_of_bytes (take l.count l.bytes) ≡ region_of_bytes l.bytes;
}

abbrev pub decreases-loop-count : goal.decreases-loop-count
decreases-loop-count l = l.count
