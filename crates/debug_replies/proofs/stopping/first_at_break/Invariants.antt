use Rattle.std.proofs.Common.{◌≡◌, None}
use Rattle.debug_replies.specs.Stops.{is_at_break, smallest}
use Rattle.machine_steps.specs.Runs.{flat_state}
use Rattle.debug_replies.proofs.stopping.first_at_break.Given as goal

abbrev pub invariant-loop-processor : goal.invariant-loop-processor
invariant-loop-processor l = smallest (is_at_break l.breaks (flat_state l.machine)) l.processor ≡ None
