-- The network as data: the messages and records at each place.
use Rattle.std.specs.Prelude.{◌≡◌, ℕ, suc, ◌^◌, List, []}
use Rattle.messages.specs.declared.message.Request.{Request}
use Rattle.messages.specs.declared.message.Reply.{Reply}
use Rattle.messages.specs.declared.message.Record.{Record}
use Rattle.messages.specs.Places.{put2}
use Rattle.messages.specs.Queues.{records_of}

-- k stages, queues of c messages, wait buffers of b records, and up to r combinations for an entry of a queue
pub record Sizes : Type 0 where
  pub k : ℕ
  pub c : ℕ
  pub b : ℕ
  pub r : ℕ

-- the number of wires to a stage, which is also that of processors and of modules
abbrev pub wires : Sizes → ℕ
wires z = 2 ^ z.k

-- Places go by depth and wire. `requests 0 w` is the slot of processor w, and `requests (d + 1) w` the queue at output
-- w of stage d: each is before the stage of its depth, or at depth k before module w. `records s w` is the wait buffer
-- of output w of stage s. `replies d w` is before stage d on wire w, or at depth k the slot of module w.
pub record Net : Type 0 where
  pub requests : ℕ → ℕ → List Request
  pub records : ℕ → ℕ → List Record
  pub replies : ℕ → ℕ → List Reply

abbrev pub empty_net : Net
empty_net = record { requests = λ d w. []; records = λ s w. []; replies = λ d w. [] }

-- No place has a message or a record.
abbrev pub IsEmptyNet : Net → Type 0
IsEmptyNet net = (d w : ℕ) → (net.requests d w ≡ []) × (net.records d w ≡ []) × (net.replies d w ≡ [])

abbrev pub put_requests : Net → ℕ → ℕ → List Request → Net
put_requests net d w xs = record { requests = put2 net.requests d w xs; records = net.records; replies = net.replies }

abbrev pub put_records : Net → ℕ → ℕ → List Record → Net
put_records net s w xs = record { requests = net.requests; records = put2 net.records s w xs; replies = net.replies }

abbrev pub put_replies : Net → ℕ → ℕ → List Reply → Net
put_replies net d w xs = record { requests = net.requests; records = net.records; replies = put2 net.replies d w xs }

-- the records of a leader at a stage, in the buffer on the leader's path
abbrev pub records_on : (path : ℕ → ℕ → ℕ) → (ℕ → ℕ → List Record) → ℕ → ℕ → List Record
records_on path records leader s = records_of leader (records s (path leader (suc s)))
