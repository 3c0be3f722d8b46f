-- The bytes that a processor sends to the console.
use Rattle.std.specs.Prelude.{◌≡◌, ℕ, List, [], ◌∷◌, ◌++◌, map, Option, None, Vec}
use Rattle.std.specs.Global.{Global}
use Rattle.flat_machine.specs.declared.event.Event.{Event}
use Rattle.flat_machine.specs.declared.event.Event.TheVariants as event
use Rattle.steps.specs.declared.step.Outcome.{Outcome}
use Rattle.steps.specs.declared.step.Outcome.TheVariants.{Retired, Issued, Stopped, Moved, Combined, Served, Answered}
use Rattle.steps.specs.declared.step.Outcome.TheVariants.{Poked, Stalled}
use Rattle.console_monitor.specs.Ends.{held_of, sender_queue}
use Rattle.console_monitor.specs.declared.monitor.End.{End}
use Rattle.ghost_map.specs.atomic_table.Seated.{TableId}
use Rattle.machine_lock.specs.Passes.{Held}

-- the byte that an event gives the console, if any
abbrev pub given_by : Event → List ℕ
given_by (event.Retired retired) = held_of retired.out
given_by (event.Stopped cause) = []

-- the console bytes of a list of events, in order
abbrev pub console_bytes : List Event → List ℕ
console_bytes [] = []
console_bytes (event ∷ events) = given_by event ++ console_bytes events

-- the console bytes of what a pass has stored
abbrev pub console_of : Held → List ℕ
console_of h = console_bytes (map (λ n. n.event) h.row.pass_events)

-- the queue that an end puts its bytes into
abbrev pub end_queue : End → TableId
end_queue e = sender_queue e.sender

-- Each list is a beginning of the one at the same place.
abbrev pub AreBeginnings : List (List ℕ) → List (List ℕ) → Type 0
AreBeginnings [] [] = Unit {0}
AreBeginnings (xs ∷ xss) (ys ∷ yss) = ((rest : List ℕ) × (xs ++ rest ≡ ys)) × AreBeginnings xss yss
AreBeginnings [] (ys ∷ yss) = ⊥
AreBeginnings (xs ∷ xss) [] = ⊥

-- the byte that a turn gives the console
abbrev pub byte_of : Outcome → Option ℕ
byte_of (Retired retired) = retired.out
byte_of Issued = None
byte_of (Stopped cause) = None
byte_of Moved = None
byte_of (Combined first second) = None
byte_of (Served leader) = None
byte_of (Answered to) = None
byte_of Poked = None
byte_of Stalled = None

-- the bytes of a list in memory
abbrev pub bytes_of : Vec ℕ Global → List ℕ
bytes_of v = v.items
