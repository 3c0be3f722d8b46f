-- What a switch of a network does with a request or a reply that is still at its old place.
use Rattle.std.specs.Prelude.{ℕ, suc, ◌++◌, List, [], ◌∷◌, length, drop, nat_lt, Option, Some, None, if◌then◌else◌}
use Rattle.omega_wires.specs.Wires.{wire_before}
use Rattle.messages.specs.declared.message.Request.{Request}
use Rattle.messages.specs.declared.message.Reply.{Reply}
use Rattle.messages.specs.declared.message.Record.{Record}
use Rattle.messages.specs.Queues.{Combination, answers, combination, records_but, records_of, unmarked}
use Rattle.messages.specs.Network.{Net, Sizes, put_records, put_replies, put_requests}
use Rattle.messages.specs.Moves.{has_room, push_all}
use Rattle.combining_switch.specs.declared.answers.Accepted.{Accepted}
use Rattle.combining_switch.specs.declared.answers.Accepted.TheVariants.{Queued, Combined, Full}
use Rattle.combining_switch.specs.declared.answers.Answered.{Answered}
use Rattle.combining_switch.specs.declared.answers.Answered.TheVariants.{NoRoom}
use Rattle.combining_switch.specs.Switches.{answered_for}

-- the answer to a request at output w of stage s, and the network then
abbrev pub accepted_where : Sizes → Net → (s w : ℕ) → Request → Option Combination → Accepted × Net
accepted_where z net s w x None =
    if nat_lt (length (net.requests (suc s) w)) z.c
    then (Queued, put_requests net (suc s) w (net.requests (suc s) w ++ unmarked x ∷ []))
    else (Full, net)
accepted_where z net s w x (Some j) =
    (Combined j.made.leader, put_records (put_requests net (suc s) w j.queue) s w (net.records s w ++ j.made ∷ []))

unfoldable pub accepted_on : Sizes → Net → (s w : ℕ) → Request → Accepted × Net
accepted_on z net s w x = accepted_where z net s w x (combination z.b z.r x (net.requests (suc s) w) (net.records s w))

abbrev pub answered_where : Sizes → Net → (s w : ℕ) → Reply → List Record → Answered × Net
answered_where z net s w x records =
    let all = push_all (wire_before z.k s w) s (answers records x)
    (put_records net s w (records_but x.leader (net.records s w))) in
    if has_room z.c (wire_before z.k s w) s all (answers records x) then (answered_for records, all) else (NoRoom, net)

unfoldable pub answered_on : Sizes → Net → (s w : ℕ) → Reply → Answered × Net
answered_on z net s w x = answered_where z net s w x (records_of x.leader (net.records s w))

-- the network after the first message of a place is taken
abbrev pub first_request_taken : Net → (d w : ℕ) → Net
first_request_taken net d w = put_requests net d w (drop 1 (net.requests d w))

abbrev pub first_reply_taken : Net → (d w : ℕ) → Net
first_reply_taken net d w = put_replies net d w (drop 1 (net.replies d w))
