-- What runs of a machine do.
use Rattle.std.specs.Prelude.{◌≡◌, ℕ, List, [], ◌∷◌, map}
use Rattle.flat_machine.specs.declared.config.Config.{Config}
use Rattle.flat_machine.specs.declared.event.Event.{Event}
use Rattle.flat_machine.specs.Flat.{flat_run, flat_events}
use Rattle.machine_theory.specs.Theory as theory
use Rattle.machine_theory.specs.serialization.Order.{ran, outcomes}
use Rattle.machine_theory.specs.serialization.Serialization.{EachServedOnce}
use Rattle.steps.specs.declared.step.Step.{Step}
use Rattle.steps.specs.declared.step.Outcome.{Outcome}
use Rattle.steps.specs.declared.step.Outcome.TheVariants.{Stalled}
use Rattle.machine_theory.specs.Processors.{ObservedCore, sizes_of, program}
use Rattle.machine_theory.specs.Steps.{named, outcome_of, after}
use Rattle.machine_steps.specs.Machines.{MachineLists, machine_of, IsIdle}
pub use Rattle.machine_steps.specs.Openings.{flat_state, opening_machine, IsOpening}
use Rattle.machine_theory.specs.Order.{Passed}
pub use Rattle.machine_theory.specs.Flatness.{with_events}
pub use Rattle.machine_theory.specs.Explained.{IsExplained}

-- ---- runs

-- the machine after a list of steps
unfoldable pub all_after : Config → List ℕ → theory.Machine ObservedCore → List Step → theory.Machine ObservedCore
all_after c code M [] = M
all_after c code M (s ∷ ss) = all_after c code (after c code M s) ss

-- None of the steps stalls.
abbrev pub NoneStalls : Config → (code : List ℕ) → theory.Machine ObservedCore → List Step → Type 0
NoneStalls c code M [] = Unit {0}
NoneStalls c code M (s ∷ ss) = (outcome_of c code M s ≡ Stalled → ⊥) × NoneStalls c code (after c code M s) ss

-- the machine that these steps leave
abbrev pub machine_after : (opening : MachineLists) → (done : List Step) → theory.Machine ObservedCore
machine_after m done = all_after m.config m.code (machine_of m (λ p. [])) done

-- the outcome of a step on that machine
abbrev pub answer_after : (opening : MachineLists) → (done : List Step) → Step → Outcome
answer_after m done s = outcome_of m.config m.code (machine_after m done) s

-- what a machine's processors have shown
abbrev pub events_of : theory.Machine ObservedCore → ℕ → List Event
events_of M p = (M.core p).events

-- The machine keeps its size, its image and its code, and is the one after these steps, for any events that processors
-- have shown before.
pub record IsRun (old : MachineLists) (steps : List Step) (new : MachineLists) : Type 0 where
  pub config : new.config ≡ old.config
  pub image : new.image ≡ old.image
  pub code : new.code ≡ old.code
  pub after : (shown : ℕ → List Event) →
      machine_of new (events_of (all_after old.config old.code (machine_of old shown) steps))
      ≡ all_after old.config old.code (machine_of old shown) steps

-- The machine is the one after these steps, none of which stalls.
pub record IsReplay (old : MachineLists) (steps : List Step) (new : MachineLists) : Type 0 where
  pub run : IsRun old steps new
  pub moved : NoneStalls old.config old.code (machine_of old (λ p. [])) steps

-- ---- the theorem

-- the machine after a list of steps, and what the outcomes gave
abbrev pub passed : MachineLists → List Step → Passed ObservedCore
passed m steps = ran (sizes_of m.config) (program m.config m.code) (machine_of m (λ p. [])) (map named steps)

-- One serial order of whole instructions explains what a machine did since a moment at which no reference was open.
pub record IsSerialized (old : MachineLists) (steps : List Step) (new : MachineLists) : Type 0 where
  -- the machine is the one after the steps, and what its processors have shown since are their retirements and stops
  pub machine : machine_of new (events_of (passed old steps).machine) ≡ (passed old steps).machine
  -- the order so far explains the machine
  pub explained : IsExplained old.config old.code (flat_state old) (passed old steps)
  -- each reference is served once, between its issue and its retirement
  pub once : EachServedOnce (outcomes (sizes_of old.config) (program old.config old.code) (map named steps)
      (machine_of old (λ p. [])))
  -- if no reference is open, the machine is the flat machine after the order, and its processors have shown the same
  -- events
  pub flat : IsIdle new → flat_state new ≡ flat_run (flat_state old) (passed old steps).order
  pub shown : IsIdle new → (p : ℕ) →
      events_of (passed old steps).machine p
      ≡ with_events (λ p. []) (flat_events (flat_state old) (passed old steps).order) p
