-- The moves of messages: the outcome of each, and the network after it.
use Rattle.std.specs.Prelude.{ℕ, suc, ◌%◌, Bool, true, ◌&&◌, nat_lt, nat_le, List, [], ◌∷◌, ◌++◌, length, drop, Option}
use Rattle.std.specs.Prelude.{Some, None, if◌then◌else◌}
use Rattle.omega_wires.specs.Wires.{wire_after, wire_before}
use Rattle.messages.specs.declared.message.Request.{Request}
use Rattle.messages.specs.declared.message.Reply.{Reply}
use Rattle.messages.specs.declared.message.Record.{Record}
use Rattle.messages.specs.declared.moves.UpMove.{UpMove}
use Rattle.messages.specs.declared.moves.UpMove.TheVariants as up
use Rattle.messages.specs.declared.moves.DownMove.{DownMove}
use Rattle.messages.specs.declared.moves.DownMove.TheVariants as down
use Rattle.messages.specs.Queues.{Combination, combination, unmarked, answers, records_of, records_but}
use Rattle.messages.specs.Seconds.{answered_seconds}
use Rattle.messages.specs.Network.{Sizes, wires, Net, put_requests, put_records, put_replies}

-- ---- up

-- the request x at output w of stage s if it does not combine: it is queued if there is room
abbrev pub queued : Sizes → Net → Net → ℕ → ℕ → Request → UpMove × Net
queued z net taken s w x =
    if nat_lt (length (taken.requests (suc s) w)) z.c
    then (up.Moved, put_requests taken (suc s) w (taken.requests (suc s) w ++ unmarked x ∷ []))
    else (up.Stalled, net)

abbrev pub combined : Net → ℕ → ℕ → Combination → UpMove × Net
combined taken s w j = (
  up.Combined j.made.leader j.made.second,
  put_records (put_requests taken (suc s) w j.queue) s w (taken.records s w ++ j.made ∷ []),
)

abbrev pub accepted : Sizes → Net → Net → ℕ → ℕ → Request → Option Combination → UpMove × Net
accepted z net taken s w x None = queued z net taken s w x
accepted z net taken s w x (Some j) = combined taken s w j

-- the offer of the request x, taken out of its place, to output w of stage s
abbrev pub offered : Sizes → Net → Net → ℕ → ℕ → Request → UpMove × Net
offered z net taken s w x =
    accepted z net taken s w x (combination z.b z.r x (taken.requests (suc s) w) (taken.records s w))

abbrev pub up_from : Sizes → Net → ℕ → ℕ → List Request → UpMove × Net
up_from z net s w [] = (up.Stalled, net)
up_from z net s w (x ∷ rest) = offered z net (put_requests net s w rest) s (wire_after z.k s w (x.word % wires z)) x

-- the move of the first request on wire w before stage s, which is offered to its output
unfoldable pub moved_up : Sizes → Net → (s w : ℕ) → UpMove × Net
moved_up z net s w = if nat_lt s z.k then up_from z net s w (net.requests s w) else (up.Stalled, net)

-- ---- down

-- the network after these replies are put before stage s, each on its leader's wire
unfoldable pub push_all : (wire : ℕ → ℕ) → ℕ → List Reply → Net → Net
push_all wire s [] net = net
push_all wire s (y ∷ ys) net =
    push_all wire s ys (put_replies net s (wire y.leader) (net.replies s (wire y.leader) ++ y ∷ []))

-- whether each of these replies, once put, has its place within c
abbrev pub has_room : (c : ℕ) → (wire : ℕ → ℕ) → ℕ → Net → List Reply → Bool
has_room c wire s net [] = true
has_room c wire s net (y ∷ ys) = nat_le (length (net.replies s (wire y.leader))) c && has_room c wire s net ys

abbrev pub answered : List Record → DownMove
answered [] = down.Moved
answered (e ∷ es) = down.Answered (answered_seconds e es)

-- the answer to the reply x, taken out of its place, at output w of stage s: all its replies are put, or none is
abbrev pub answer : Sizes → Net → Net → ℕ → ℕ → Reply → List Record → DownMove × Net
answer z net taken s w x records =
    let all = push_all (wire_before z.k s w) s (answers records x)
    (put_records taken s w (records_but x.leader (taken.records s w))) in
    if has_room z.c (wire_before z.k s w) s all (answers records x) then (answered records, all)
    else (down.Stalled, net)

abbrev pub down_from : Sizes → Net → ℕ → ℕ → List Reply → DownMove × Net
down_from z net s w [] = (down.Stalled, net)
down_from z net s w (x ∷ rest) =
    answer z net (put_replies net (suc s) w rest) s w x (records_of x.leader (net.records s w))

-- the move of the first reply on wire w after stage s, which is answered at that output
unfoldable pub moved_down : Sizes → Net → (s w : ℕ) → DownMove × Net
moved_down z net s w = if nat_lt s z.k then down_from z net s w (net.replies (suc s) w) else (down.Stalled, net)

-- ---- at the ends

-- the network after a request is put into its leader's slot
unfoldable pub injected : Net → Request → Net
injected net x = put_requests net 0 x.leader (net.requests 0 x.leader ++ x ∷ [])

-- the network after the first request at a module is taken
unfoldable pub module_taken : Sizes → Net → ℕ → Net
module_taken z net m = put_requests net z.k m (drop 1 (net.requests z.k m))

-- the network after a reply is put into a module's slot
unfoldable pub module_replied : Sizes → Net → ℕ → Reply → Net
module_replied z net m y = put_replies net z.k m (net.replies z.k m ++ y ∷ [])

-- the network after the first reply on a processor's wire is taken
unfoldable pub port_taken : Net → ℕ → Net
port_taken net p = put_replies net 0 p (drop 1 (net.replies 0 p))
