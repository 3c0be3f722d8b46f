-- What holds of all runs, stated of machines. Each value of `Machine` satisfies `IsMachine`.
use Rattle.std.specs.Prelude.{◌≡◌, ℕ, ◌^◌, ◌<◌, ◌≤◌, false, List, [], ◌∷◌, ◌++◌, length, Some, None, slice_get}
use Rattle.std.specs.Prelude.{slice_index}
use Rattle.flat_machine.specs.declared.config.Config.{Config}
use Rattle.flat_machine.specs.declared.event.Event.{Event}
use Rattle.flat_machine.specs.Flat.{flat_events}
use Rattle.machine_theory.specs.Theory as theory
use Rattle.steps.specs.declared.step.Step.{Step}
use Rattle.steps.specs.declared.step.Outcome.{Outcome}
use Rattle.steps.specs.declared.step.Outcome.TheVariants.{Stalled}
use Rattle.machine_theory.specs.Processors.{ObservedCore, port_at, open_at, word_at}
use Rattle.machine_theory.specs.Flatness.{with_events}
use Rattle.machine_theory.specs.Steps.{outcome_of, after, with_shown}
use Rattle.machine_steps.specs.Machines.{MachineLists, away_at, machine_of, AreHome, IsIdle, IsMachine, IsStep}
use Rattle.machine_steps.specs.Openings.{flat_state}
use Rattle.machine_steps.specs.Runs.{answer_after, IsRun, IsReplay, IsSerialized, passed}

-- ---- runs are extended, joined and cut

-- A machine is a replay of itself, with no step.
abbrev pub ReplaysBegin : Type 0
ReplaysBegin = (opening : MachineLists) → IsReplay opening [] opening

-- A step that is taken next, and does something, comes last in the replay.
abbrev pub StepsAreEntered : Type 0
StepsAreEntered = (opening mid new : MachineLists) (steps : List Step) (s : Step) (o : Outcome) →
    IsReplay opening steps mid → IsStep mid s o new → (o ≡ Stalled → ⊥) → IsReplay opening (steps ++ s ∷ []) new

-- A step that stalls leaves the replay as it was.
abbrev pub StallsAreNotEntered : Type 0
StallsAreNotEntered = (opening mid new : MachineLists) (steps : List Step) (s : Step) →
    IsMachine mid → IsReplay opening steps mid → IsStep mid s Stalled new → IsReplay opening steps new

-- A run followed by a run is a run over the steps of both.
abbrev pub RunsAreJoined : Type 0
RunsAreJoined = (opening mid new : MachineLists) (steps more : List Step) →
    IsRun opening steps mid → IsRun mid more new → IsRun opening (steps ++ more) new

-- A replay followed by a replay is a replay over the steps of both.
abbrev pub ReplaysAreJoined : Type 0
ReplaysAreJoined = (opening mid new : MachineLists) (steps more : List Step) →
    IsReplay opening steps mid → IsReplay mid more new → IsReplay opening (steps ++ more) new

-- Conversely, the steps of a replay after some machine on its way are a replay from that machine.
abbrev pub ReplaysAreCut : Type 0
ReplaysAreCut = (opening mid new : MachineLists) (steps more : List Step) →
    IsReplay opening steps mid → IsReplay opening (steps ++ more) new → IsReplay mid more new

-- ---- answers

-- The outcome of a step does not depend on what processors have shown before.
abbrev pub AnswersForgetEvents : Type 0
AnswersForgetEvents = (m : MachineLists) (shown : ℕ → List Event) (s : Step) →
    outcome_of m.config m.code (machine_of m shown) s ≡ outcome_of m.config m.code (machine_of m (λ p. [])) s

-- On a machine after some steps, the outcome of a step depends on these steps alone.
abbrev pub AnswersAreOfTheSteps : Type 0
AnswersAreOfTheSteps = (opening machine : MachineLists) (steps : List Step) → IsRun opening steps machine → (s : Step) →
    outcome_of machine.config machine.code (machine_of machine (λ p. [])) s ≡ answer_after opening steps s

-- ---- cores that are away

-- After any steps, the same cores are away as before.
abbrev pub CoresStay : Type 0
CoresStay = (opening machine : MachineLists) (steps : List Step) → IsRun opening steps machine → (p : ℕ) →
    away_at machine p ≡ away_at opening p

-- If no core is away before a run, none is away after it.
abbrev pub CoresStayHome : Type 0
CoresStayHome = (opening machine : MachineLists) (steps : List Step) → IsRun opening steps machine → AreHome opening →
    AreHome machine

-- ---- serialization

-- If no reference is open in a machine, one serial order of whole instructions explains any steps that it takes.
abbrev pub RunsAreSerialized : Type 0
RunsAreSerialized = (opening : MachineLists) (steps : List Step) (machine : MachineLists) →
    IsMachine opening → IsIdle opening → IsMachine machine → IsRun opening steps machine →
    IsSerialized opening steps machine

-- the events that processors have shown, followed by those of which the outcomes of these steps tell
unfoldable pub shown_after : Config → (code : List ℕ) → theory.Machine ObservedCore → List Step →
    (shown : ℕ → List Event) → ℕ → List Event
shown_after c code M [] shown = shown
shown_after c code M (s ∷ ss) shown =
    shown_after c code (after c code M s) ss (with_shown shown s (outcome_of c code M s))

-- the events of which the outcomes of a machine's steps tell, by processor
abbrev pub events_of_steps : MachineLists → List Step → ℕ → List Event
events_of_steps m steps = shown_after m.config m.code (machine_of m (λ p. [])) steps (λ p. [])

-- the events that the flat machine shows by the serial order, by processor
abbrev pub shown_in_order : MachineLists → List Step → ℕ → List Event
shown_in_order m steps = with_events (λ p. []) (flat_events (flat_state m) (passed m steps).order)

-- The outcomes of steps tell of the events that the flat machine shows.
pub record AreShown (opening : MachineLists) (steps : List Step) (machine : MachineLists) : Type 0 where
  -- of a processor without an open reference they tell all, in their order
  pub shut : (p : ℕ) → open_at machine.ports p ≡ false →
      events_of_steps opening steps p ≡ shown_in_order opening steps p
  -- and of every processor all, or all but the last
  pub any : (p : ℕ) →
      (later : List Event) × (shown_in_order opening steps p ≡ events_of_steps opening steps p ++ later)
      × (length later ≤ 1)

abbrev pub EventsAreShown : Type 0
EventsAreShown = (opening : MachineLists) (steps : List Step) (machine : MachineLists) →
    IsMachine opening → IsIdle opening → IsRun opening steps machine → AreShown opening steps machine

-- ---- the flat machine that a machine's parts make

-- The processors of the flat machine are those at the ports.
abbrev pub FlatProcessorsAreRead : Type 0
FlatProcessorsAreRead = (m : MachineLists) → IsMachine m → (length (flat_state m).processors ≡ 2 ^ m.config.k)
    × ((p : ℕ) → p < 2 ^ m.config.k → slice_get (flat_state m).processors p ≡ Some (port_at m.ports p).core.state)
    × ((p : ℕ) → 2 ^ m.config.k ≤ p → slice_get (flat_state m).processors p ≡ None)

-- The shared words of the flat machine are those in the modules.
abbrev pub FlatWordsAreRead : Type 0
FlatWordsAreRead = (m : MachineLists) → IsMachine m → (length (flat_state m).shared ≡ m.config.shared_words)
    × ((i : ℕ) → slice_index (flat_state m).shared i ≡ word_at m.config.k m.modules i)
