use Rattle.std.proofs.Common.{◌≡◌, None}
use Rattle.debug_replies.specs.Stops.{is_flagged, is_newly_faulted, smallest}
use Rattle.machine_steps.specs.Runs.{flat_state}
use Rattle.debug_replies.proofs.stopping.first_faulted.Given as goal

abbrev pub invariant-loop-processor : goal.invariant-loop-processor
invariant-loop-processor l = smallest (is_newly_faulted (is_flagged l.before) (flat_state l.machine)) l.processor ≡ None
