-- A machine while the core of one of its processors is away.
use Rattle.std.specs.Prelude.{◌≡◌, ℕ, false, List, [], ◌∷◌, ◌++◌, map, replicate}
use Rattle.machine_ports.specs.flat_machine.declared.config.Config.{Config}
use Rattle.machine_ports.specs.flat_machine.declared.event.Event.TheVariants as event
use Rattle.machine_ports.specs.flat_machine.declared.event.Retired as retirement
use Rattle.machine_ports.specs.flat_machine.State.{Processor}
use Rattle.machine_theory.specs.Theory as theory
pub use Rattle.machine_theory.specs.Cores.{with_core, away, without}
use Rattle.machine_theory.specs.Processors.{ObservedCore, program, sizes_of}
use Rattle.machine_theory.specs.Steps.{named, outcome_of, after}
use Rattle.steps.specs.declared.step.Step.{Step}
use Rattle.steps.specs.declared.step.Step.TheVariants as step
use Rattle.steps.specs.Kinds.{is_poke, is_turn_of}
use Rattle.steps.specs.declared.step.Outcome.{Outcome}
use Rattle.steps.specs.declared.step.Outcome.TheVariants as outcome

-- ---- cores

-- the machine with these cores of these processors; of two cores for one processor, the first counts
abbrev pub with_cores : {Core : Type 0} → theory.Machine Core → List (ℕ × Core) → theory.Machine Core
with_cores M [] = M
with_cores M ((p, core) ∷ more) = with_core (with_cores M more) p core

-- a processor that has gone on to another state, and has since shown that these instructions retired
abbrev pub gone_on : ObservedCore → List retirement.Retired → Processor → ObservedCore
gone_on g taken state = record { state = state; events = g.events ++ map event.Retired taken }

-- ---- steps

-- The step is neither a turn of processor p nor a write from outside.
abbrev pub IsOfOthers : (p : ℕ) → Step → Type 0
IsOfOthers p s = (is_turn_of p s ≡ false) × (is_poke s ≡ false)

-- All steps of the list are of others than p.
abbrev pub AreOfOthers : (p : ℕ) → List Step → Type 0
AreOfOthers p [] = Unit {0}
AreOfOthers p (s ∷ ss) = IsOfOthers p s × AreOfOthers p ss

-- All steps of the list are of others than these processors.
abbrev pub AreOfAllOthers : List (ℕ × ObservedCore) → List Step → Type 0
AreOfAllOthers [] ss = Unit {0}
AreOfAllOthers ((p, core) ∷ more) ss = AreOfOthers p ss × AreOfAllOthers more ss

-- this many turns of processor p
abbrev pub turns_of : (p count : ℕ) → List Step
turns_of p count = replicate count (step.Turn p)

-- the machine after these steps
abbrev pub after_all : Config → (code : List ℕ) → theory.Machine ObservedCore → List Step → theory.Machine ObservedCore
after_all c code M ss = theory.machine_after (sizes_of c) (program c code) (map named ss) M

-- the outcomes of these steps, in their order
abbrev pub answers_of : Config → (code : List ℕ) → theory.Machine ObservedCore → List Step → List Outcome
answers_of c code M [] = []
answers_of c code M (s ∷ ss) = outcome_of c code M s ∷ answers_of c code (after c code M s) ss

-- the outcomes of turns in which these instructions retire
abbrev pub outcomes_of : List retirement.Retired → List Outcome
outcomes_of taken = map outcome.Retired taken
