-- The rule of one console queue, and what its two ends know.
use Rattle.std.specs.Prelude.{◌≡◌, ℕ, Bool, true, List, ◌++◌}
use mathlib.Core.Option.{some}
use lib.ListN.{get_elem?}
use Rattle.console_monitor.specs.declared.queue.Account.{Account}

abbrev pub account : Bool → Bool → List ℕ → List ℕ → Account
account puts takes put taken = record { puts = puts; takes = takes; put = put; taken = taken }

-- The sender alone knows what was put, and the monitor alone what was taken.
abbrev pub Fits : ℕ → ℕ → List ℕ → List ℕ → ℕ → Account → Type 0
Fits sender monitor put taken pass v =
    (v.puts ≡ true → (pass ≡ sender) × (v.put ≡ put)) × (v.takes ≡ true → (pass ≡ monitor) × (v.taken ≡ taken))

-- What was put is what was taken, followed by what is in the queue.
abbrev pub InOrder : List ℕ → List Account → Type 0
InOrder items views = (sender : ℕ) × (monitor : ℕ) × (put : List ℕ) × (taken : List ℕ) × (put ≡ taken ++ items)
    × ((pass : ℕ) (v : Account) → get_elem? views pass ≡ some v → Fits sender monitor put taken pass v)
