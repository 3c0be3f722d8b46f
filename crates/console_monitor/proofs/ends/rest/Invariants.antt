use Rattle.std.proofs.Common.{◌≡◌, true, ◌++◌}
use Rattle.crossbeam_queue.specs.Passes.{view, IsPassOf}
use Rattle.console_monitor.specs.Accounts.{account}
use Rattle.console_monitor.specs.Ends.{put_of, taken_of}
use Rattle.console_monitor.proofs.ends.rest.Given as goal

abbrev pub invariant-loop : goal.invariant-loop
invariant-loop g l = IsPassOf l.queue.value l.pass × (view l.pass ≡ account true true (put_of l.fn.sender) (taken_of l.fn.inlet ++ l.rest.items))
