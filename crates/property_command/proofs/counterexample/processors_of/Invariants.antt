use Rattle.std.proofs.Common.{◌≡◌, map, take}
use Rattle.machine_steps.specs.Openings.{flat_state}
use Rattle.property_command.specs.Counterexamples.{processor_seen}
use Rattle.property_command.proofs.counterexample.processors_of.Given as goal

abbrev pub invariant-loop-p : goal.invariant-loop-p
invariant-loop-p l = l.processors.items ≡ take l.p (map processor_seen (flat_state l.machine).processors)
