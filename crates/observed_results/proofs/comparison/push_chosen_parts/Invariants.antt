use Rattle.std.proofs.Common.{◌≡◌, ◌++◌}
use Rattle.std.specs.Prelude.{string_bytes}
use Rattle.observed_results.specs.Outcomes.{chosen_parts}
use Rattle.observed_results.proofs.comparison.push_chosen_parts.Given as goal

abbrev pub invariant-loop-place : goal.invariant-loop-place
invariant-loop-place l = string_bytes l.text ≡ string_bytes l.initial.text ++ chosen_parts l.parts.texts l.chosen.texts l.place
