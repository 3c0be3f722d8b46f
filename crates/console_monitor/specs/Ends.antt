-- What contracts see of the ends of a queue: which queue it is, and the bytes that went through.
use Rattle.std.specs.Prelude.{◌≡◌, ◌≤◌, ℕ, List, [], ◌∷◌, ◌++◌, length, map, Option, Some, None, slice_index_or}
use Rattle.crossbeam_queue.specs.Passes.{view}
use Rattle.atomic_table.specs.Seated.{TableId}
use Rattle.console_monitor.specs.declared.queue.Sender.{Sender}
use Rattle.console_monitor.specs.declared.queue.Inlet.{Inlet}
use Rattle.console_monitor.specs.declared.monitor.Monitor.{Monitor}
use Rattle.console_monitor.specs.declared.monitor.End.{End}

-- the bytes that the sender has put
abbrev pub put_of : Sender → List ℕ
put_of s = (view s.pass).put

-- the bytes that the monitor has taken at this end
abbrev pub taken_of : Inlet → List ℕ
taken_of i = (view i.pass).taken

-- the queue of an end
abbrev pub sender_queue : Sender → TableId
sender_queue s = s.pass.table_id

abbrev pub inlet_queue : Inlet → TableId
inlet_queue i = i.pass.table_id

-- A byte comes back: what was put is as before, and is at least the 256 bytes of a full queue.
abbrev pub ComesBack : (before after : List ℕ) → Type 0
ComesBack before after = (after ≡ before) × (256 ≤ length before)

-- the list of p
abbrev pub at : List (List ℕ) → ℕ → List ℕ
at lists p = slice_index_or lists p []

-- the queues, by their processors' numbers
abbrev pub queues_of : Monitor → List TableId
queues_of m = map inlet_queue m.inlets.items

-- what the monitor took from each queue
abbrev pub takens_of : Monitor → List (List ℕ)
takens_of m = map taken_of m.inlets.items

abbrev pub held_of : Option ℕ → List ℕ
held_of None = []
held_of (Some byte) = byte ∷ []

-- all that a processor sent: what was put, then the byte that is still held
abbrev pub sent_by : End → List ℕ
sent_by e = put_of e.sender ++ held_of e.held

-- each list followed by its partner
abbrev pub joined : List (List ℕ) → List (List ℕ) → List (List ℕ)
joined [] rests = []
joined (taken ∷ takens) [] = []
joined (taken ∷ takens) (rest ∷ rests) = (taken ++ rest) ∷ joined takens rests
