-- Entries of a queue with which a request combines.
use Rattle.std.specs.Prelude.{◌<◌, ℕ, List, length, slice_set}
use Rattle.messages.specs.declared.message.Request.{Request}
use Rattle.messages.specs.Queues.{Combination, merged, record_of}
use Rattle.ring_network.specs.declared.output.Partner.{Partner}

-- the combination of a request with an entry
abbrev pub partnership : List Request → (request : Request) → Partner → Combination
partnership queue x p = record { queue = slice_set queue p.place (merged p.entry p.joint); made = record_of x p.entry }

-- The entry has a place in the queue, and was combined fewer than r times.
pub record IsPartner (r : ℕ) (queue : List Request) (p : Partner) : Type 0 where
  pub in_queue : p.place < length queue
  pub fewer : p.entry.marks < r
