-- Outputs without a message. An output is what contracts of `combining_switch` see of one: its ring is its queue.
use Rattle.std.specs.Prelude.{◌≡◌, ℕ, []}
use Rattle.combining_switch.specs.Outputs.{OutputLists}

abbrev pub empty_output : (c b r : ℕ) → OutputLists
empty_output c b r = record { c = c; b = b; r = r; requests = []; records = [] }

abbrev pub IsEmptyOutput : OutputLists → Type 0
IsEmptyOutput o = (o.requests ≡ []) × (o.records ≡ [])
