-- Places rise along each list.
use Rattle.std.proofs.Common.{ℕ, suc, Bool, true, false, List, [], ◌∷◌, ◌++◌, arith}
use Rattle.std.specs.Prelude.{if◌then◌else◌}
use Rattle.flat_machine.specs.declared.config.Config.{Config}
use Rattle.machine_steps.specs.machine_theory.Theory.{Machine}
use Rattle.machine_steps.specs.machine_theory.Processors.{ObservedCore}
use Rattle.machine_steps.specs.machine_theory.Steps.{outcome_of, after}
use Rattle.steps.specs.declared.step.Step.{Step}
use Rattle.steps.specs.declared.step.Outcome.{Outcome}
use Rattle.steps.specs.declared.step.Outcome.TheVariants.{Retired, Issued, Stopped, Moved, Combined, Served, Answered, Poked, Stalled}
use Rattle.machine_lock.specs.declared.row.PassEvent.{PassEvent}
use Rattle.steps.specs.Kinds.{is_turn_of}
use Rattle.machine_lock.specs.Lists.{pass_events_of, shown_at, IsRising}

lower : (low : ℕ) (ns : List PassEvent) → IsRising (suc low) ns → IsRising low ns
lower low [] h = tt
lower low (n ∷ ns) h = (let a = h.0 in omega arith, h.1)

shown : (o : Outcome) (place : ℕ) (ns : List PassEvent) → IsRising (suc place) ns → IsRising place (shown_at place o ++ ns)
shown (Retired retired) place ns h = (omega arith, h)
shown (Stopped cause) place ns h = (omega arith, h)
shown Issued place ns h = lower place ns h
shown Moved place ns h = lower place ns h
shown (Combined first second) place ns h = lower place ns h
shown (Served leader) place ns h = lower place ns h
shown (Answered to) place ns h = lower place ns h
shown Poked place ns h = lower place ns h
shown Stalled place ns h = lower place ns h

joins : (b : Bool) (o : Outcome) (place : ℕ) (ns : List PassEvent) → IsRising (suc place) ns → IsRising place ((if b then shown_at place o else []) ++ ns)
joins true o place ns h = shown o place ns h
joins false o place ns h = lower place ns h

-- The places rise along the list of a processor, from the place of the first step on.
pub places_rise : (c : Config) (code : List ℕ) (p place : ℕ) (M : Machine ObservedCore) (steps : List Step) →
    IsRising place (pass_events_of c code p place M steps)
places_rise c code p place M [] = tt
places_rise c code p place M (s ∷ ss) =
    joins (is_turn_of p s) (outcome_of c code M s) place (pass_events_of c code p (suc place) (after c code M s) ss)
    (places_rise c code p (suc place) (after c code M s) ss)
