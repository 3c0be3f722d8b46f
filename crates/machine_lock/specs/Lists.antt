-- What the outcomes of steps give each processor: its retirements and its stop, each with its place among the steps.
use Rattle.std.specs.Prelude.{◌≡◌, ℕ, suc, ◌≤◌, Bool, true, false, List, [], ◌∷◌, ◌++◌, map, Option, Some, None}
use Rattle.std.specs.Prelude.{if◌then◌else◌}
use Rattle.flat_machine.specs.declared.config.Config.{Config}
use Rattle.flat_machine.specs.declared.event.Event.TheVariants as event
use Rattle.machine_steps.specs.machine_theory.Theory as theory
use Rattle.machine_steps.specs.machine_theory.Processors.{ObservedCore}
use Rattle.machine_steps.specs.machine_theory.Steps.{outcome_of, after}
use Rattle.steps.specs.declared.step.Step.{Step}
use Rattle.steps.specs.Kinds.{is_network, is_turn_of, is_within, turn_processor}
use Rattle.steps.specs.declared.step.Outcome.{Outcome}
use Rattle.steps.specs.declared.step.Outcome.TheVariants.{Retired, Issued, Stopped, Moved, Combined, Served, Answered}
use Rattle.steps.specs.declared.step.Outcome.TheVariants.{Poked, Stalled}
use Rattle.machine_steps.specs.Machines.{MachineLists, machine_of}
use Rattle.machine_lock.specs.declared.row.PassEvent.{PassEvent}

-- ---- steps of the network, and stops

-- whether a step is one of the network that the machine has
abbrev pub is_net : Config → Step → Bool
is_net c s = if is_network s then is_within c.k s else false

-- The step would stall now.
abbrev pub Stalls : MachineLists → Step → Type 0
Stalls m s = outcome_of m.config m.code (machine_of m (λ p. [])) s ≡ Stalled

-- The step is one of the network that the machine has, and it would stall.
abbrev pub IsIdleMove : MachineLists → Step → Type 0
IsIdleMove m s = (is_net m.config s ≡ true) × Stalls m s

-- whether a turn stopped its processor
abbrev pub is_stop : Outcome → Bool
is_stop (Stopped cause) = true
is_stop (Retired retired) = false
is_stop Issued = false
is_stop Moved = false
is_stop (Combined first second) = false
is_stop (Served leader) = false
is_stop (Answered to) = false
is_stop Poked = false
is_stop Stalled = false

-- ---- what a turn gives

-- the retirement or the stop that a turn at this place showed, if any
abbrev pub shown_at : (place : ℕ) → Outcome → List PassEvent
shown_at place (Retired retired) = record { event = event.Retired retired; place = place } ∷ []
shown_at place (Stopped cause) = record { event = event.Stopped cause; place = place } ∷ []
shown_at place Issued = []
shown_at place Moved = []
shown_at place (Combined first second) = []
shown_at place (Served leader) = []
shown_at place (Answered to) = []
shown_at place Poked = []
shown_at place Stalled = []

-- what a step at this place gives the processor p
abbrev pub given_to : (p place : ℕ) → Step → Outcome → List PassEvent
given_to p place s o = if is_turn_of p s then shown_at place o else []

-- what it gives, with the processor that gets it, if it is a turn of a processor
abbrev pub given_in : (turn : Option ℕ) → (place : ℕ) → Outcome → List (ℕ × PassEvent)
given_in (Some p) place o = map (λ n. (p, n)) (shown_at place o)
given_in None place o = []

abbrev pub given : (place : ℕ) → Step → Outcome → List (ℕ × PassEvent)
given place s o = given_in (turn_processor s) place o

-- what steps give p, if the machine M takes the first of them, and it is at this place
abbrev pub pass_events_of : Config → (code : List ℕ) → (p place : ℕ) → theory.Machine ObservedCore → List Step →
    List PassEvent
pass_events_of c code p place M [] = []
pass_events_of c code p place M (s ∷ ss) = given_to p place s (outcome_of c code M s)
    ++ pass_events_of c code p (suc place) (after c code M s) ss

-- what they give all processors
abbrev pub all_pass_events : Config → (code : List ℕ) → (place : ℕ) → theory.Machine ObservedCore → List Step →
    List (ℕ × PassEvent)
all_pass_events c code place M [] = []
all_pass_events c code place M (s ∷ ss) = given place s (outcome_of c code M s)
    ++ all_pass_events c code (suc place) (after c code M s) ss

-- Each place is above the one before it, and the first is not below this one.
abbrev pub IsRising : (low : ℕ) → List PassEvent → Type 0
IsRising low [] = Unit {0}
IsRising low (n ∷ ns) = (low ≤ n.place) × IsRising (suc n.place) ns
