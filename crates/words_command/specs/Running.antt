-- Runs of `ultra words`: one processor, one whole instruction after another.
use Rattle.std.specs.Prelude.{◌≡◌, ℕ, Bool, true, false, List, replicate, count_by}
use Rattle.flat_machine.specs.declared.event.Event.{Event}
use Rattle.flat_machine.specs.declared.event.Event.TheVariants.{Retired, Stopped}
use Rattle.flat_machine.specs.declared.poke.Entry.{Entry}
use Rattle.flat_machine.specs.declared.poke.Entry.TheVariants as entry
use Rattle.flat_machine.specs.State.{Processor, FlatState}
use Rattle.flat_machine.specs.Flat.{flat_run, flat_events}
use Rattle.steps.specs.declared.step.Outcome.{Outcome}
use Rattle.steps.specs.declared.step.Outcome.TheVariants as outcome
use Rattle.machine_steps.specs.Machines.{MachineLists}
use Rattle.machine_steps.specs.machine_theory.Processors.{port_at}

-- this many turns of processor 0
abbrev pub turns_of_zero : ℕ → List Entry
turns_of_zero count = replicate count (entry.Processor 0)

abbrev pub is_retirement : Event → Bool
is_retirement (Retired retired) = true
is_retirement (Stopped cause) = false

-- how many of the events are retirements
abbrev pub retirements : List (ℕ × Event) → ℕ
retirements events = count_by (λ e. is_retirement e.1) events

-- In turns of processor 0 alone, which retired this many instructions, the flat machine has gone from one state to
-- another.
pub record HasRunAlone (old new : FlatState) (retired : ℕ) : Type 0 where
  pub turns : ℕ
  pub state : new ≡ flat_run old (turns_of_zero turns)
  pub count : retirements (flat_events old (turns_of_zero turns)) ≡ retired

-- processor 0 of a machine
abbrev pub processor_of : MachineLists → Processor
processor_of m = (port_at m.ports 0).core.state

abbrev pub is_retired : Outcome → Bool
is_retired (outcome.Retired retired) = true
is_retired outcome.Issued = false
is_retired (outcome.Stopped cause) = false
is_retired outcome.Moved = false
is_retired (outcome.Combined first second) = false
is_retired (outcome.Served leader) = false
is_retired (outcome.Answered to) = false
is_retired outcome.Poked = false
is_retired outcome.Stalled = false
