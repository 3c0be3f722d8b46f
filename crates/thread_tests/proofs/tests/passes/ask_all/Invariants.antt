use Rattle.machine_lock.specs.Passes.{IsWhole}
use Rattle.thread_tests.proofs.tests.passes.ask_all.Given as goal

abbrev pub invariant-loop-place : goal.invariant-loop-place
invariant-loop-place g l = IsWhole g.N.Run.count l.passes.items
