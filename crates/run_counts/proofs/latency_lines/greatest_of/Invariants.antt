use Rattle.std.proofs.Common.{◌≡◌, take}
use Rattle.std.specs.Prelude.{fold, max}
use Rattle.run_counts.proofs.latency_lines.greatest_of.Given as goal

abbrev pub invariant-loop-number : goal.invariant-loop-number
invariant-loop-number l = l.greatest ≡ fold (λ n x. max n x) 0 (take l.number-index l.numbers)
