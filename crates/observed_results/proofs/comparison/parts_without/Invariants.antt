use Rattle.std.proofs.Common.{◌≡◌, List, take}
use Rattle.exploration.specs.local_reduction.Results.{FinalResult}
use Rattle.observed_results.specs.Lines.{observed_parts}
use Rattle.observed_results.specs.Outcomes.{HasOutcomes, missing_in}
use Rattle.observed_results.proofs.comparison.parts_without.Given as goal

abbrev pub invariant-loop-place : goal.invariant-loop-place
invariant-loop-place l = (others : List FinalResult) → HasOutcomes l.words others l.known →
    l.missing.texts ≡ observed_parts l.words (missing_in l.words others (take l.place l.results))
