use Rattle.std.proofs.Common.{◌≡◌, []}
use Rattle.std.specs.Prelude.{replicate}
use Rattle.run_counts.proofs.samples.Samples.new.Given as goal

abbrev pub invariant-loop : goal.invariant-loop
invariant-loop l = l.samples.items ≡ replicate l.counter []
