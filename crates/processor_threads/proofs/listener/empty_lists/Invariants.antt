use Rattle.std.proofs.Common.{◌≡◌, [], map}
use Rattle.std.specs.Prelude.{replicate}
use Rattle.processor_threads.specs.Consoles.{bytes_of}
use Rattle.processor_threads.proofs.listener.empty_lists.Given as goal

abbrev pub invariant-loop : goal.invariant-loop
invariant-loop l = map bytes_of l.lists.items ≡ replicate l.counter []
