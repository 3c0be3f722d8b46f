use Rattle.std.proofs.Common.{◌≡◌, ◌<◌, ℕ, Some}
use Rattle.std.specs.Prelude.{slice_get}
use Rattle.combining_switch.specs.Links.{queue_at}
use Rattle.combining_switch.proofs.links.Links.has.Given as goal

abbrev pub invariant-loop-place : goal.invariant-loop-place
invariant-loop-place l = (i : ℕ) → i < l.place → slice_get (queue_at l.self l.queue) i ≡ Some l.number → ⊥
