use Rattle.std.proofs.Common.{◌≡◌}
use Rattle.std.specs.Prelude.{slice_get}
use Rattle.combining_switch.specs.Links.{queue_at}
use Rattle.combining_switch.proofs.links.Links.get.Given as goal

abbrev pub invariant-loop-before : goal.invariant-loop-before
invariant-loop-before l = l.found ≡ slice_get (queue_at l.self l.queue) l.before
