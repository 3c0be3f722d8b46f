use Rattle.std.proofs.Common.{◌≡◌, true}
use Rattle.debug_replies.specs.Errors.{are_reached}
use Rattle.machine_steps.specs.Runs.{flat_state}
use Rattle.debug_replies.proofs.error.is_range.Given as goal

abbrev pub invariant-loop-i : goal.invariant-loop-i
invariant-loop-i l = are_reached (flat_state l.machine) l.writes l.address l.i ≡ true
