use Rattle.std.proofs.Common.{◌≡◌, map, take}
use Rattle.state_conditions.specs.Results.{processor_state}
use Rattle.observed_results.proofs.filter.states_of.Given as goal

abbrev pub invariant-loop-processor : goal.invariant-loop-processor
invariant-loop-processor l = l.states.items ≡ map processor_state (take l.processor-index l.processors)
