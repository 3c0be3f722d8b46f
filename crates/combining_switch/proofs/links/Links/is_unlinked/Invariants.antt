use Rattle.std.proofs.Common.{◌<◌, ℕ}
use Rattle.messages.specs.Places.{In}
use Rattle.combining_switch.specs.Links.{queue_at}
use Rattle.combining_switch.proofs.links.Links.is_unlinked.Given as goal

abbrev pub invariant-loop-queue : goal.invariant-loop-queue
invariant-loop-queue l = (r : ℕ) → r < l.queue → In l.number (queue_at l.self r) → ⊥
