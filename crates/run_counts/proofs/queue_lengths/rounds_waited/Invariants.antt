use Rattle.std.proofs.Common.{◌≡◌, ◌≤◌, ◌*◌, take}
use Rattle.std.specs.Prelude.{◌^◌}
use Rattle.run_counts.specs.QueueLengths.{rounds_waited}
use Rattle.run_counts.proofs.queue_lengths.rounds_waited.Given as goal

abbrev pub invariant-loop-one : goal.invariant-loop-one
invariant-loop-one l =
    record { is : l.rounds ≡ rounds_waited l.held l.stage (take l.one-index l.lengths); few : l.rounds ≤ l.one-index * 2 ^ 64 }
