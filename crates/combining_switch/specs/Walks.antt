-- How the lists of queues are read from their ends and the table of what follows each number.
use Rattle.std.specs.Prelude.{◌≡◌, ◌≤◌, ℕ, zero, suc, List, [], ◌∷◌, length, map, slice_index_or}
use Rattle.combining_switch.specs.declared.links.Ends.{Ends}
use Rattle.combining_switch.specs.Links.{AreApart, LinkLists}

-- this many numbers from p on, each followed by the one that the table has for it
unfoldable pub walk : (next : List ℕ) → ℕ → (count : ℕ) → List ℕ
walk next p zero = []
walk next p (suc n) = p ∷ walk next (slice_index_or next p 0) n

abbrev pub walk_of : (next : List ℕ) → Ends → List ℕ
walk_of next e = walk next e.first e.count

abbrev pub lists_of : (next : List ℕ) → List Ends → LinkLists
lists_of next queues = record { cells = length next; queues = map (walk_of next) queues }

-- the last element of a list
abbrev pub last_or : ℕ → List ℕ → ℕ
last_or d [] = d
last_or d (x ∷ xs) = last_or x xs

-- the ends of an empty queue
abbrev pub no_ends : Ends
no_ends = record { first = 0; last = 0; count = 0 }

-- The ends of a queue that is not empty have its last number.
abbrev pub KnowsLast : (next : List ℕ) → Ends → Type 0
KnowsLast next e = e.last ≡ last_or e.last (walk_of next e)

pub record IsLinked (next : List ℕ) (queues : List Ends) : Type 0 where
  pub few : length next ≤ 64
  pub apart : AreApart (lists_of next queues)
  pub lasts : (q : ℕ) → KnowsLast next (slice_index_or queues q no_ends)
