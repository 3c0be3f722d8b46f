-- A `Pool` as contracts see it.
use Rattle.std.specs.Prelude.{ℕ, List, [], map, replicate, slice_index_or, slice_set}
use Rattle.messages.specs.declared.message.Request.{Request}
use Rattle.messages.specs.declared.message.Reply.{Reply}
use Rattle.messages.specs.Places.{In}

-- a cell for each of this many processors, and queues of requests and of replies, each kind numbered from 0
pub record PoolLists : Type 0 where
  pub cells : ℕ
  pub requests : List (List Request)
  pub replies : List (List Reply)

abbrev pub empty_pool : (cells requests replies : ℕ) → PoolLists
empty_pool n a b = record { cells = n; requests = replicate a []; replies = replicate b [] }

abbrev pub requests_at : PoolLists → (queue : ℕ) → List Request
requests_at l q = slice_index_or l.requests q []

abbrev pub replies_at : PoolLists → (queue : ℕ) → List Reply
replies_at l q = slice_index_or l.replies q []

abbrev pub with_requests : PoolLists → (queue : ℕ) → List Request → PoolLists
with_requests l q xs = record { cells = l.cells; requests = slice_set l.requests q xs; replies = l.replies }

abbrev pub with_replies : PoolLists → (queue : ℕ) → List Reply → PoolLists
with_replies l q ys = record { cells = l.cells; requests = l.requests; replies = slice_set l.replies q ys }

abbrev pub leader_of_request : Request → ℕ
leader_of_request x = x.leader

abbrev pub leader_of_reply : Reply → ℕ
leader_of_reply y = y.leader

-- No queue has a message that the processor leads.
pub record IsFree (l : PoolLists) (leader : ℕ) : Type 0 where
  pub no_request : (q : ℕ) → In leader (map leader_of_request (requests_at l q)) → ⊥
  pub no_reply : (q : ℕ) → In leader (map leader_of_reply (replies_at l q)) → ⊥
