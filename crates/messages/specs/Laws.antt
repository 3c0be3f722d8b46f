-- Laws of every move of a message.
use Rattle.std.specs.Prelude.{◌≡◌, ◌≤◌, ℕ, suc, [], length, map, slice_get, Some}
use Rattle.messages.specs.declared.message.Record.{Record}
use Rattle.messages.specs.declared.message.Reply.{Reply}
use Rattle.messages.specs.declared.seconds.Seconds.{Seconds}
use Rattle.messages.specs.declared.moves.UpMove.TheVariants as up
use Rattle.messages.specs.declared.moves.DownMove.TheVariants as down
use Rattle.messages.specs.Network.{Net, Sizes}
use Rattle.messages.specs.Queues.{records_of}
use Rattle.messages.specs.Seconds.{seconds_of}
use Rattle.messages.specs.Moves.{moved_down, moved_up}

-- A move from a place without a message stalls, and the network is as before.
abbrev pub NothingMovesUp : Type 0
NothingMovesUp = (z : Sizes) (net : Net) (s w : ℕ) → net.requests s w ≡ [] → moved_up z net s w ≡ (up.Stalled, net)

abbrev pub NothingMovesDown : Type 0
NothingMovesDown = (z : Sizes) (net : Net) (s w : ℕ) → net.replies (suc s) w ≡ [] →
    moved_down z net s w ≡ (down.Stalled, net)

-- If the leader of the first reply has at most three records, a move that answers seconds names those of all its
-- records, in order.
abbrev pub SecondsAreAnswered : Type 0
SecondsAreAnswered = (z : Sizes) (net : Net) (s w : ℕ) (x : Reply) (to : Seconds) →
    slice_get (net.replies (suc s) w) 0 ≡ Some x →
    length (records_of x.leader (net.records s w)) ≤ 3 → (moved_down z net s w).0 ≡ down.Answered to →
    seconds_of to ≡ map (λ (e : Record). e.second) (records_of x.leader (net.records s w))
