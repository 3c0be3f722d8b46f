use Rattle.std.proofs.Common.{◌≡◌, ◌++◌, map}
use Rattle.console_monitor.specs.Ends.{sender_queue}
use Rattle.processor_threads.specs.Consoles.{end_queue}
use Rattle.surface_tests.proofs.tests.consoles.ended.Given as goal

abbrev pub invariant-loop-sender : goal.invariant-loop-sender
invariant-loop-sender g l =
    map sender_queue l.fn.senders.items ≡ map end_queue l.ends.items ++ map sender_queue l.sender-iterator.rest.items
