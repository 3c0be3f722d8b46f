use Rattle.std.proofs.Common.{◌≡◌, ◌++◌, map}
use Rattle.console_monitor.specs.Ends.{put_of, sender_queue, sent_by}
use Rattle.processor_threads.specs.Consoles.{end_queue}
use Rattle.processor_threads.proofs.listener.ends_of.Given as goal

abbrev pub invariant-loop-sender : goal.invariant-loop-sender
invariant-loop-sender l = record {
  queues : map sender_queue l.fn.senders.items ≡ map end_queue l.ends.items ++ map sender_queue l.sender-iterator.rest.items;
  sent : map put_of l.fn.senders.items ≡ map sent_by l.ends.items ++ map put_of l.sender-iterator.rest.items;
}
