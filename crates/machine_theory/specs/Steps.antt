-- The machine step: its outcome, and the machine after it.
use Rattle.std.specs.Prelude.{◌≡◌, ℕ, List, [], ◌∷◌, ◌++◌, Option, Some, None}
use Rattle.machine_ports.specs.flat_machine.declared.config.Config.{Config}
use Rattle.machine_ports.specs.flat_machine.declared.event.Event.{Event}
use Rattle.machine_ports.specs.flat_machine.declared.event.Event.TheVariants as event
use Rattle.machine_ports.specs.flat_machine.declared.event.Retired as retirement
use Rattle.machine_ports.specs.flat_machine.State.{Processor}
use Rattle.machine_ports.specs.flat_machine.Turns.{Turn, Retires, Reaches, Stops}
use Rattle.machine_ports.specs.hart.Deciding.{after_reply}
use Rattle.serialization.specs.messages.Places.{put}
use Rattle.machine_theory.specs.Theory as theory
use Rattle.steps.specs.declared.step.Step.{Step}
use Rattle.steps.specs.declared.step.Step.TheVariants as step
use Rattle.steps.specs.declared.step.Outcome.{Outcome}
use Rattle.steps.specs.declared.step.Outcome.TheVariants.{Retired, Issued, Stopped, Moved, Combined, Served, Answered}
use Rattle.steps.specs.declared.step.Outcome.TheVariants.{Poked, Stalled}
use Rattle.machine_ports.specs.Ports.{PortState}
use Rattle.serialization.specs.messages.Network.{Net}
use Rattle.machine_theory.specs.Processors.{ObservedCore, sizes_of, next, program, observed_at, open_at, word_at}

-- a step, as the theory names it
abbrev pub named : Step → theory.Step
named (step.Turn p) = theory.Turn p
named (step.Up s w) = theory.Up s w
named (step.Serve m) = theory.Serve m
named (step.Down s w) = theory.Down s w
named (step.Poke poke) = theory.Poke poke

-- the machine after a step, with the theory's outcome
abbrev pub taken : Config → List ℕ → theory.Machine ObservedCore → Step → theory.Result ObservedCore
taken c code m s = theory.step (sizes_of c) (program c code) m (named s)

-- ---- the outcome

abbrev pub outcome_of_turn : Turn → Outcome
outcome_of_turn (Retires after retired) = Retired retired
outcome_of_turn (Stops cause) = Stopped cause
outcome_of_turn (Reaches word change after) = Stalled

abbrev pub outcome_of_reply : Option (Processor × retirement.Retired) → Outcome
outcome_of_reply (Some done) = Retired done.1
outcome_of_reply None = Stalled

-- the outcome of a step: that of a turn says what the processor has done, as the flat machine says
abbrev pub answer_of : (next : ℕ → Turn) → theory.Outcome → Outcome
answer_of next (theory.Issued p) = Issued
answer_of next (theory.Advanced p) = outcome_of_turn (next p)
answer_of next (theory.Retired p found) = outcome_of_reply (after_reply (next p) found)
answer_of next theory.Moved = Moved
answer_of next (theory.Combined first second) = Combined first second
answer_of next (theory.Served leader) = Served leader
answer_of next (theory.Answered to) = Answered to
answer_of next (theory.Poked poke) = Poked
answer_of next theory.Stalled = Stalled

-- ---- the machine step

unfoldable pub outcome_of : Config → List ℕ → theory.Machine ObservedCore → Step → Outcome
outcome_of c code m s = answer_of (λ p. next c code p (m.core p).state) (taken c code m s).outcome

unfoldable pub after : Config → List ℕ → theory.Machine ObservedCore → Step → theory.Machine ObservedCore
after c code m s = (taken c code m s).machine

-- the events that processors have shown, with that of a step
abbrev pub with_shown : (ℕ → List Event) → Step → Outcome → ℕ → List Event
with_shown shown (step.Turn p) (Retired retired) = put shown p (shown p ++ event.Retired retired ∷ [])
with_shown shown (step.Turn p) (Stopped cause) = put shown p (shown p ++ event.Stopped cause ∷ [])
with_shown shown _ _ = shown

-- ---- the machine of these parts

-- the machine of these ports and modules, whose processors have shown these events; shared word i is in module i % 2 ^
-- k, at place i / 2 ^ k
unfoldable pub machine_of_parts : Config → Net → List PortState → List (List ℕ) → (shown : ℕ → List Event) →
    theory.Machine ObservedCore
machine_of_parts c net ports modules shown = record {
  net = net;
  mem = word_at c.k modules;
  core = observed_at ports shown;
  is_open = open_at ports;
}

-- The step and its outcome are as defined, for any events that processors have shown before.
pub record IsStepOf (c : Config) (code : List ℕ) (net : Net) (ports : List PortState) (modules : List (List ℕ))
    (s : Step) (o : Outcome) (net' : Net)
    (ports' : List PortState) (modules' : List (List ℕ)) : Type 0 where
  pub outcome : o ≡ outcome_of c code (machine_of_parts c net ports modules (λ p. [])) s
  pub after : (shown : ℕ → List Event) → machine_of_parts c net' ports' modules' (with_shown shown s o)
      ≡ after c code (machine_of_parts c net ports modules shown) s
