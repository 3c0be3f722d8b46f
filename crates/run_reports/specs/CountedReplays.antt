-- Steps taken on a machine, and what its processors show in them.
use Rattle.std.specs.Prelude.{◌≡◌, ℕ, ◌+◌, ◌^◌, ◌<◌, List, [], length, slice_index_or, Option, Some, None}
use Rattle.flat_machine.specs.declared.event.Event.{Event}
use Rattle.steps.specs.declared.step.Outcome.{Outcome}
use Rattle.steps.specs.declared.step.Step.{Step}
use Rattle.machine_steps.specs.Machines.{MachineLists, machine_of}
use Rattle.machine_steps.specs.Runs.{all_after, events_of, IsReplay}
use Rattle.machine_log.specs.Replays.{StallsAt}
use Rattle.command_io.specs.Tallies.{TallyState, noted_after}
use Rattle.command_io.specs.Events.{IsTally, shown_by}
use Rattle.command_io.specs.declared.fault.Fault.{Fault}
use Rattle.command_io.specs.declared.fault.Fault.TheVariants as fault

-- the events that the processors of a machine show in these steps
abbrev pub events_in : MachineLists → List Step → ℕ → List Event
events_in opening steps = events_of (all_after opening.config opening.code (machine_of opening (λ p. [])) steps)

-- These are the bytes that the processors write to the console in these steps, a list for each processor.
pub record AreConsoles (opening : MachineLists) (steps : List Step) (consoles : List (List ℕ)) : Type 0 where
  pub all : length consoles ≡ 2 ^ opening.config.k
  pub each : (p : ℕ) → p < 2 ^ opening.config.k →
      slice_index_or consoles p [] ≡ (shown_by (events_in opening steps p)).console

-- The machine has taken the steps since its opening, none of which stalled, and the tally has what each processor has
-- shown in them.
pub record IsReplayCounted (opening : MachineLists) (steps : List Step) (m : MachineLists)
    (t : TallyState) : Type 0 where
  pub replay : IsReplay opening steps m
  pub tally : IsTally (2 ^ opening.config.k) t (events_in opening steps) (length steps)

-- Why there is no tally of the steps: a step stalls; or all steps were taken, and there was no memory to count.
abbrev pub IsNotRetaken : (old : MachineLists) → List Step → (new : MachineLists) → Fault → Type 0
IsNotRetaken old steps new (fault.Stalled place) = StallsAt old steps place new
IsNotRetaken old steps new fault.Memory = IsReplay old steps new
IsNotRetaken old steps new other = ⊥

-- ---- a tally that may be lost

-- The tally, if there is one, can count this many more steps.
abbrev pub HasRoom : Option TallyState → (more : ℕ) → Type 0
HasRoom None more = Unit {0}
HasRoom (Some t) more = t.observed + more < 2 ^ 32

-- The tally after a step, if there is one, is the tally before it with the step's outcome noted.
abbrev pub IsTallied : (old : Option TallyState) → Step → Outcome → (new : Option TallyState) → Type 0
IsTallied old step outcome None = Unit {0}
IsTallied None step outcome (Some t) = ⊥
IsTallied (Some old) step outcome (Some new) = new ≡ noted_after old step outcome
