use Rattle.std.proofs.Common.{◌≡◌}
use Rattle.machine_views.specs.Places.{each_below}
use Rattle.machine_views.specs.Views.{processor_view}
use Rattle.machine_views.proofs.processors.processor_views.Given as goal

abbrev pub invariant-loop-p : goal.invariant-loop-p
invariant-loop-p l = l.processors.items ≡ each_below (processor_view l.machine) l.p
