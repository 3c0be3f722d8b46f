-- The flat machine, as the theory of serialization reads it.
use Rattle.std.specs.Prelude.{◌≡◌, ℕ, ◌^◌, ◌<◌, ◌⊎◌, true, false, List, [], ◌∷◌, ◌++◌, slice_index, slice_index_or}
use Rattle.machine_ports.specs.flat_machine.declared.config.Config.{Config}
use Rattle.machine_ports.specs.flat_machine.declared.event.Event.{Event}
use Rattle.machine_ports.specs.flat_machine.declared.poke.Entry.{Entry}
use Rattle.machine_ports.specs.flat_machine.declared.poke.Entry.TheVariants as entry
use Rattle.machine_ports.specs.flat_machine.State.{FlatState, is_running}
use Rattle.machine_ports.specs.flat_machine.Laws.{HasWords}
use Rattle.serialization.specs.messages.Places.{put}
use Rattle.serialization.specs.Order.{FlatMachine}
use Rattle.machine_theory.specs.Processors.{ObservedCore, no_processor, is_lawful_poke}

-- the flat machine, with processors that have shown these events
abbrev pub read_flat : FlatState → (shown : ℕ → List Event) → FlatMachine ObservedCore
read_flat F shown = record {
  mem = slice_index F.shared;
  core = λ p. record { state = slice_index_or F.processors p no_processor; events = shown p };
}

-- the events that processors have shown, followed by those of a list
abbrev pub with_events : (ℕ → List Event) → List (ℕ × Event) → ℕ → List Event
with_events shown [] = shown
with_events shown ((p, event) ∷ events) = with_events (put shown p (shown p ++ event ∷ [])) events

-- A poke is lawful for a machine of this size.
abbrev pub IsLawful : Config → Entry → Type 0
IsLawful c (entry.Processor p) = Unit {0}
IsLawful c (entry.Poke poke) = is_lawful_poke c poke ≡ true

-- Every poke of a list is lawful.
abbrev pub AreLawful : Config → List Entry → Type 0
AreLawful c [] = Unit {0}
AreLawful c (e ∷ es) = IsLawful c e × AreLawful c es

-- A core's words are below 2^32, and a core that no number of 8 bits names does not run.
abbrev pub IsGood : ℕ → ObservedCore → Type 0
IsGood p g = HasWords g.state × ((p < 2 ^ 8) ⊎ (is_running g.state.status ≡ false))
