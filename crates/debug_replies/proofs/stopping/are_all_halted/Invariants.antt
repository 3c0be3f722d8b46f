use Rattle.std.proofs.Common.{◌≡◌, true}
use Rattle.debug_replies.specs.Stops.{are_halted}
use Rattle.machine_steps.specs.Runs.{flat_state}
use Rattle.debug_replies.proofs.stopping.are_all_halted.Given as goal

abbrev pub invariant-loop-processor : goal.invariant-loop-processor
invariant-loop-processor l = are_halted (flat_state l.machine) l.processor ≡ true
