-- The processors that a message stands for, read off the wait records between it and the processors.
use Rattle.std.specs.Prelude.{ℕ, zero, suc, List, [], ◌∷◌, ◌++◌, map, flat_map}
use Rattle.messages.specs.declared.message.Record.{Record}
use Rattle.messages.specs.Queues.{records_of}
use Rattle.messages.specs.Network.{Net}

-- the seconds of a leader's records in one wait buffer, in the order of their combinations
abbrev pub seconds_in : (leader : ℕ) → List Record → List ℕ
seconds_in leader records = map (λ (e : Record). e.second) (records_of leader records)

-- those in all wait buffers of a stage of this many wires: a leader has records in one of them at most
abbrev pub seconds_at : Net → (stage leader wires : ℕ) → List ℕ
seconds_at net s leader zero = []
seconds_at net s leader (suc w) = seconds_at net s leader w ++ seconds_in leader (net.records s w)

-- The leaders of replies after a stage, given their leaders before it, in the order in which they are served: each
-- leader, and then the second of each of its records there.
abbrev pub split_at : Net → (wires stage : ℕ) → (leaders : List ℕ) → List ℕ
split_at net wires s leaders = flat_map (λ p. p ∷ seconds_at net s p wires) leaders

-- the processors that replies to these leaders reach, down through this many stages, the last of them first
unfoldable pub reached : Net → (wires stages : ℕ) → (leaders : List ℕ) → List ℕ
reached net wires zero leaders = leaders
reached net wires (suc s) leaders = reached net wires s (split_at net wires s leaders)

-- The processors that a message at a depth stands for: those that a reply to its leader reaches from there, the leader
-- first, in the group's serial order.
abbrev pub group_of : Net → (wires depth leader : ℕ) → List ℕ
group_of net wires depth leader = reached net wires depth (leader ∷ [])
