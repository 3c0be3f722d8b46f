use Rattle.std.proofs.Common.{◌≡◌, map}
use Rattle.console_monitor.specs.Ends.{inlet_queue, takens_of, sent_by}
use Rattle.console_monitor.proofs.Joins.{end_queue, Emptied}
use Rattle.console_monitor.proofs.monitor.Monitor.finish.Given as goal

abbrev pub invariant-loop-end : goal.invariant-loop-end
invariant-loop-end g l =
    (map end_queue l.end-iterator.a.rest.items ≡ map inlet_queue l.end-iterator.b.rest.items)
    × Emptied (takens_of l.fn.self) (map sent_by l.fn.ends.items) (map (λ v. v.items) l.rests.items) l.end-iterator.a.rest.items l.end-iterator.b.rest.items
