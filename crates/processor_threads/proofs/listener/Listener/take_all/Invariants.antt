use Rattle.std.proofs.Common.{◌≡◌}
use Rattle.console_monitor.specs.Ends.{queues_of}
use Rattle.processor_threads.proofs.listener.Listener.take_all.Given as goal

abbrev pub invariant-loop : goal.invariant-loop
invariant-loop g l = queues_of l.self.monitor ≡ queues_of l.initial.self.monitor
