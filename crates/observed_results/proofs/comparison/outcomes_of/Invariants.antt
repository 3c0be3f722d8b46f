use Rattle.std.proofs.Common.{take}
use Rattle.observed_results.specs.Outcomes.{HasOutcomes}
use Rattle.observed_results.proofs.comparison.outcomes_of.Given as goal

abbrev pub invariant-loop-last : goal.invariant-loop-last
invariant-loop-last l = HasOutcomes l.words (take l.last-index l.results) l.known
