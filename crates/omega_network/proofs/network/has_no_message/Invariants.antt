use Rattle.std.proofs.Common.{◌≡◌, ◌<◌, ℕ, []}
use Rattle.combining_switch.specs.Pools.{replies_at, requests_at}
use Rattle.omega_network.proofs.network.has_no_message.Given as goal

-- No queue so far has a message.
abbrev pub invariant-loop-queue : goal.invariant-loop-queue
invariant-loop-queue l = (q : ℕ) → q < l.queue → (requests_at l.pool q ≡ []) × (replies_at l.pool q ≡ [])
