-- How the lists of a pool's queues are read from its cells and links.
use Rattle.std.specs.Prelude.{◌≡◌, ◌≤◌, ◌<◌, ℕ, List, length, map, take, drop, slice_index_or}
use Rattle.phi_algebra.specs.declared.phi.Phi.TheVariants.{Add}
use Rattle.messages.specs.declared.message.Request.{Request}
use Rattle.messages.specs.declared.message.Reply.{Reply}
use Rattle.combining_switch.specs.declared.pool.Cell.{Cell}
use Rattle.combining_switch.specs.Links.{LinkLists}
use Rattle.combining_switch.specs.Pools.{PoolLists}

abbrev pub no_cell : Cell
no_cell = record { word = 0; phi = Add 0; marks = 0; value = 0 }

-- the request in a cell, and the reply; the leader is the cell's number
unfoldable pub request_in : List Cell → (leader : ℕ) → Request
request_in cells p =
    let c = slice_index_or cells p no_cell in
    record { leader = p; word = c.word; phi = c.phi; marks = c.marks }

unfoldable pub reply_in : List Cell → (leader : ℕ) → Reply
reply_in cells p = record { leader = p; value = (slice_index_or cells p no_cell).value }

-- the lists of a pool's queues: the first m are of requests, the others of replies
abbrev pub pool_lists : List Cell → (m : ℕ) → LinkLists → PoolLists
pool_lists cells m l = record {
  cells = l.cells;
  requests = map (map (request_in cells)) (take m l.queues);
  replies = map (map (reply_in cells)) (drop m l.queues);
}

pub record IsPool (cells : List Cell) (m : ℕ) (l : LinkLists) : Type 0 where
  pub each_cell : length cells ≡ l.cells
  pub few_cells : l.cells ≤ 64
  pub both : m ≤ length l.queues
  pub few_queues : length l.queues < 131072
