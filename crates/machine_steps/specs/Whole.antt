-- What one whole instruction does: a step of the flat machine.
use Rattle.std.specs.Prelude.{◌≡◌, ℕ, List, [], ◌∷◌, Option, Some, None}
use Rattle.flat_machine.specs.declared.config.Config.{Config}
use Rattle.flat_machine.specs.declared.event.Event.{Event}
use Rattle.flat_machine.specs.declared.event.Event.TheVariants as event
use Rattle.flat_machine.specs.declared.poke.Entry.TheVariants as entry
use Rattle.flat_machine.specs.Flat.{flat_step, flat_event}
use Rattle.machine_theory.specs.Theory as theory
use Rattle.steps.specs.declared.step.Step.{Step}
use Rattle.steps.specs.declared.step.Step.TheVariants as step
use Rattle.steps.specs.declared.step.Outcome.{Outcome}
use Rattle.steps.specs.declared.step.Outcome.TheVariants.{Retired, Issued, Stopped, Stalled}
use Rattle.machine_theory.specs.Processors.{ObservedCore}
use Rattle.machine_theory.specs.Steps.{outcome_of, after}
use Rattle.machine_steps.specs.Machines.{MachineLists, machine_of, IsIdle, IsMachine, IsStep}
use Rattle.machine_steps.specs.Openings.{flat_state}
pub use Rattle.machine_steps.specs.Poking.{IsPoked}
use Rattle.machine_steps.specs.Runs.{IsReplay}
use Rattle.machine_steps.specs.Draining.{drain_bound, steps_home}

-- the event of which an outcome tells
abbrev pub event_of : Outcome → Option Event
event_of (Retired retired) = Some (event.Retired retired)
event_of (Stopped cause) = Some (event.Stopped cause)
event_of _ = None

-- the steps of an instruction that begins with a turn of this outcome: the turn and, if it sends a request, all steps
-- of a drain after it; none if it stalls
abbrev pub steps_from : Config → (code : List ℕ) → theory.Machine ObservedCore → (turn : Step) → Outcome → List Step
steps_from c code M turn Stalled = []
steps_from c code M turn Issued = turn ∷ steps_home c code (drain_bound c) (after c code M turn)
steps_from c code M turn _ = turn ∷ []

-- the steps of processor p's next instruction, whole
abbrev pub one_steps : MachineLists → ℕ → List Step
one_steps m p = steps_from m.config m.code (machine_of m (λ q. [])) (step.Turn p)
    (outcome_of m.config m.code (machine_of m (λ q. [])) (step.Turn p))

-- Processor p's next instruction, whole, is one step of the flat machine. The machine has taken the instruction's
-- steps, no reference is open, the machine is the flat machine after that step, and the outcome tells of the step's
-- event. A processor that is not there, or does not run, has none: the outcome is a stall, and no step is taken.
pub record IsOne (old : MachineLists) (p : ℕ) (o : Outcome) (new : MachineLists) : Type 0 where
  pub replay : IsReplay old (one_steps old p) new
  pub idle : IsIdle new
  pub flat : flat_state new ≡ flat_step (flat_state old) (entry.Processor p)
  pub event : event_of o ≡ flat_event (flat_state old) (entry.Processor p)
  pub stalled : flat_event (flat_state old) (entry.Processor p) ≡ None → (o ≡ Stalled) × (one_steps old p ≡ [])

-- Processor p has just sent a request, and no other reference is open.
pub record IsSent (before : MachineLists) (p : ℕ) (m : MachineLists) : Type 0 where
  pub machine : IsMachine before
  pub idle : IsIdle before
  pub turn : IsStep before (step.Turn p) Issued m
