use Rattle.std.proofs.Common.{◌≡◌, [], map}
use Rattle.std.specs.Prelude.{replicate}
use Rattle.console_monitor.specs.Ends.{put_of, taken_of, sender_queue, inlet_queue}
use Rattle.console_monitor.proofs.monitor.console.Given as goal

abbrev pub invariant-loop : goal.invariant-loop
invariant-loop l =
    (map sender_queue l.senders.items ≡ map inlet_queue l.inlets.items)
    × (map put_of l.senders.items ≡ replicate l.counter [])
    × (map taken_of l.inlets.items ≡ replicate l.counter [])
