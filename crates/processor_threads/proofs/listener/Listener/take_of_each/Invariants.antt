use Rattle.std.proofs.Common.{◌≡◌}
use Rattle.console_monitor.specs.Ends.{queues_of}
use Rattle.processor_threads.proofs.listener.Listener.take_of_each.Given as goal

abbrev pub invariant-loop-p : goal.invariant-loop-p
invariant-loop-p l = record {
  queues : queues_of l.self.monitor ≡ queues_of l.initial.self.monitor;
  all : l.self.processors ≡ l.initial.self.processors;
}
