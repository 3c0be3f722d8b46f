-- Laws of the lists of events that steps give.
use Rattle.std.specs.Prelude.{◌≡◌, ℕ, ◌+◌, true, false, List, [], ◌∷◌, ◌++◌, length, map}
use Rattle.flat_machine.specs.declared.event.Cause.{Cause}
use Rattle.flat_machine.specs.declared.event.Event.TheVariants.{Stopped}
use Rattle.flat_machine.specs.declared.config.Config.{Config}
use Rattle.machine_steps.specs.machine_theory.Theory as theory
use Rattle.machine_steps.specs.machine_theory.Processors.{ObservedCore}
use Rattle.steps.specs.declared.step.Step.{Step}
use Rattle.steps.specs.Kinds.{no_poke}
use Rattle.machine_steps.specs.Runs.{all_after}
use Rattle.machine_steps.specs.Laws.{shown_after}
use Rattle.machine_lock.specs.declared.row.PassEvent.{PassEvent}
use Rattle.machine_lock.specs.Lists.{pass_events_of, IsRising}

-- The places rise along the list of each processor, from the place of the first step on.
abbrev pub PlacesRise : Type 0
PlacesRise = (c : Config) (code : List ℕ) (p place : ℕ) (M : theory.Machine ObservedCore) (steps : List Step) →
    IsRising place (pass_events_of c code p place M steps)

-- The list over steps and then others is the list over the steps, followed by that over the others from their place on.
abbrev pub ListsAreJoined : Type 0
ListsAreJoined = (c : Config) (code : List ℕ) (p place : ℕ) (M : theory.Machine ObservedCore) (steps more : List Step) →
    pass_events_of c code p place M (steps ++ more) ≡ pass_events_of c code p place M steps
    ++ pass_events_of c code p (place + length steps) (all_after c code M steps) more

-- A processor's list has the events that the outcomes of the steps have for it, in their order.
abbrev pub EventsAreListed : Type 0
EventsAreListed = (c : Config) (code : List ℕ) (p place : ℕ) (M : theory.Machine ObservedCore) (steps : List Step) →
    map (λ n. n.event) (pass_events_of c code p place M steps) ≡ shown_after c code M steps (λ q. []) p

-- A processor whose list ends with its stop has no reference open after the steps, if no poke is among them.
abbrev pub StoppedAreShut : Type 0
StoppedAreShut = (c : Config) (code : List ℕ) (p place : ℕ) (M : theory.Machine ObservedCore) (steps : List Step)
    (before : List PassEvent) (at : ℕ) (why : Cause) →
    no_poke steps ≡ true →
    pass_events_of c code p place M steps ≡ before ++ record { event = Stopped why; place = at } ∷ [] →
    (all_after c code M steps).is_open p ≡ false
