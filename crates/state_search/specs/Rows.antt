-- Exchanges of the processors in rows of numbers, one for each processor.
use Rattle.std.specs.Prelude.{◌≡◌, ℕ, ◌<◌, ◌≤◌, List, length, slice_index, slice_set}
use Rattle.state_store.specs.local_reduction.Exchanging.{Exchange}

-- An exchange of processors within their classes leads from the old row to the new one: each place has the number of
-- the place whose processor it takes. The entries after the processors stay the same.
pub record IsRowExchanged (classes : List ℕ) (old new : List ℕ) : Type 0 where
  pub exchange : Exchange classes
  pub each : (k : ℕ) → k < length classes → slice_index new k ≡ slice_index old (exchange.place k)
  pub others : (k : ℕ) → length classes ≤ k → slice_index new k ≡ slice_index old k

-- the row after two places have traded their numbers
abbrev pub traded_row : (row : List ℕ) → (j i : ℕ) → List ℕ
traded_row row j i = slice_set (slice_set row j (slice_index row i)) i (slice_index row j)
