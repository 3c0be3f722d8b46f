use Rattle.std.proofs.Common.{◌≡◌, take}
use Rattle.observed_results.specs.Filters.{satisfying}
use Rattle.observed_results.specs.Lines.{observed_parts}
use Rattle.observed_results.proofs.filter.satisfying_parts.Given as goal

abbrev pub invariant-loop-place : goal.invariant-loop-place
invariant-loop-place l = l.chosen.texts ≡ observed_parts l.words (satisfying l.condition (take l.place l.results))
