-- A `WaitBuffer` as contracts see it.
use Rattle.std.specs.Prelude.{ℕ, List}
use Rattle.messages.specs.declared.message.Record.{Record}

-- the records, in the order of their combinations, and the most that there may be
pub record Waiting : Type 0 where
  pub limit : ℕ
  pub records : List Record

abbrev pub waiting : (limit : ℕ) → List Record → Waiting
waiting limit records = record { limit = limit; records = records }
