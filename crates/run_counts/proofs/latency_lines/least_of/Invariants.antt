use Rattle.std.proofs.Common.{◌≡◌, take}
use Rattle.std.specs.Prelude.{fold, min, slice_index}
use Rattle.run_counts.proofs.latency_lines.least_of.Given as goal

abbrev pub invariant-loop-number : goal.invariant-loop-number
invariant-loop-number l = l.least ≡ fold (λ n x. min n x) (slice_index l.numbers 0) (take l.number-index l.numbers)
