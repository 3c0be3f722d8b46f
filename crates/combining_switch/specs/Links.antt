-- `Links` as contracts see them, and their invariant.
use Rattle.std.specs.Prelude.{◌≡◌, ◌<◌, ℕ, List, [], slice_index_or, slice_set}
use Rattle.messages.specs.Places.{In, Distinct}

-- queues of numbers below `cells`
pub record LinkLists : Type 0 where
  pub cells : ℕ
  pub queues : List (List ℕ)

abbrev pub queue_at : LinkLists → (queue : ℕ) → List ℕ
queue_at l q = slice_index_or l.queues q []

abbrev pub with_queue : LinkLists → (queue : ℕ) → List ℕ → LinkLists
with_queue l q ps = record { cells = l.cells; queues = slice_set l.queues q ps }

-- No queue has the number.
abbrev pub IsUnlinked : LinkLists → (number : ℕ) → Type 0
IsUnlinked l p = (q : ℕ) → In p (queue_at l q) → ⊥

-- No number is in the queues twice.
pub record AreApart (l : LinkLists) : Type 0 where
  pub within : (q p : ℕ) → In p (queue_at l q) → p < l.cells
  pub once : (q : ℕ) → Distinct (queue_at l q)
  pub in_one : (q r p : ℕ) → In p (queue_at l q) → In p (queue_at l r) → q ≡ r
