-- An output of a switch as contracts see it, and what it does with a request.
use Rattle.std.specs.Prelude.{ℕ, List, [], ◌∷◌, ◌++◌, length, nat_lt, Option, Some, None, if◌then◌else◌}
use Rattle.messages.specs.declared.message.Request.{Request}
use Rattle.messages.specs.declared.message.Record.{Record}
use Rattle.messages.specs.Queues.{Combination, combination, unmarked}
use Rattle.combining_switch.specs.Pools.{PoolLists, requests_at}
use Rattle.combining_switch.specs.declared.answers.Accepted.{Accepted}
use Rattle.combining_switch.specs.declared.answers.Accepted.TheVariants.{Queued, Combined, Full}

-- a queue of up to c requests, a wait buffer of up to b records, and up to r combinations for an entry of the queue
pub record OutputLists : Type 0 where
  pub c : ℕ
  pub b : ℕ
  pub r : ℕ
  pub requests : List Request
  pub records : List Record

-- what an output has itself: its records, and the number of its queue among a pool's queues of requests
pub record OutputState : Type 0 where
  pub c : ℕ
  pub b : ℕ
  pub r : ℕ
  pub queue : ℕ
  pub records : List Record

-- an output's lists, with its queue's requests read from the pool
abbrev pub output_in : PoolLists → OutputState → OutputLists
output_in pool o = record { c = o.c; b = o.b; r = o.r; requests = requests_at pool o.queue; records = o.records }

abbrev pub output_with : OutputState → List Record → OutputState
output_with o es = record { c = o.c; b = o.b; r = o.r; queue = o.queue; records = es }

-- the answer if the request does not combine: it goes after those of the queue if there is room
abbrev pub queued : OutputLists → Request → Accepted × OutputLists
queued o x =
    if nat_lt (length o.requests) o.c
    then (Queued, record { c = o.c; b = o.b; r = o.r; requests = o.requests ++ unmarked x ∷ []; records = o.records })
    else (Full, o)

-- the answer if the request combines: the queue has the entry for both, and the record is the newest
abbrev pub combined : OutputLists → Combination → Accepted × OutputLists
combined o j = (
  Combined j.made.leader,
  record {
    c = o.c;
    b = o.b;
    r = o.r;
    requests = j.queue;
    records = o.records
        ++ j.made ∷ [];
  },
)

abbrev pub accepted_as : OutputLists → Request → Option Combination → Accepted × OutputLists
accepted_as o x None = queued o x
accepted_as o x (Some j) = combined o j

-- what an output answers to a request, and the output then: the request is combined if possible, else queued if there
-- is room, else refused
unfoldable pub accepted : OutputLists → Request → Accepted × OutputLists
accepted o x = accepted_as o x (combination o.b o.r x o.requests o.records)
