use Rattle.std.proofs.Common.{◌≡◌, ◌≤◌, ◌*◌, take}
use Rattle.std.specs.Prelude.{sum, ◌^◌}
use Rattle.run_counts.proofs.latency_lines.total_of.Given as goal

abbrev pub invariant-loop-number : goal.invariant-loop-number
invariant-loop-number l =
    record { is : l.total ≡ sum (take l.number-index l.numbers); few : l.total ≤ l.number-index * 2 ^ 64 }
