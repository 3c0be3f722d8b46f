-- What a drain does: it takes the steps of the theory's drain, which bring every reference to its end.
use Rattle.std.specs.Prelude.{◌≡◌, ℕ, ◌*◌, ◌+◌, ◌^◌, ◌≤◌, ◌<◌, List, [], length, map, Option, Some, None}
use Rattle.flat_machine.specs.declared.config.Config.{Config}
use Rattle.machine_theory.specs.Theory as theory
use Rattle.messages.specs.Network.{Sizes, Net, wires}
use Rattle.omega_network.specs.Networks.{NetworkLists}
use Rattle.omega_network.specs.Networks as network
use Rattle.machine_theory.specs.serialization.Draining as draining
use Rattle.steps.specs.declared.step.Step.{Step}
use Rattle.machine_theory.specs.serialization.Steadiness.{total}
use Rattle.steps.specs.declared.step.Step.TheVariants as step
use Rattle.steps.specs.declared.step.Outcome.TheVariants.{Stalled}
use Rattle.machine_theory.specs.Processors.{ObservedCore, sizes_of, program}
use Rattle.machine_theory.specs.Steps.{outcome_of, after}
use Rattle.machine_steps.specs.Machines.{MachineLists, machine_of, IsIdle}
use Rattle.machine_steps.specs.Runs.{IsRun}

-- the step that the theory's step names
abbrev pub step_of : theory.Step → Step
step_of (theory.Turn p) = step.Turn p
step_of (theory.Up s w) = step.Up s w
step_of (theory.Serve m) = step.Serve m
step_of (theory.Down s w) = step.Down s w
step_of (theory.Poke poke) = step.Poke poke

abbrev pub some_step : Option theory.Step → Option Step
some_step None = None
some_step (Some st) = Some (step_of st)

-- the step that a drain takes next, read off the network: the turn of the least processor with a reply on its wire;
-- else a reply moves down, from the least stage and there on the least wire; else the least module with a request
-- serves; else a request moves up, from the greatest stage and there on the least wire
abbrev pub step_in : Sizes → Net → Option Step
step_in z net =
    some_step (draining.or_else (draining.first_wire (net.replies 0) (wires z) theory.Turn)
    (draining.or_else (draining.down_step z net)
    (draining.or_else (draining.first_wire (net.requests z.k) (wires z) theory.Serve) (draining.up_step z net))))

-- the step that a drain takes next, in this network
abbrev pub network_step : NetworkLists → Option Step
network_step n = step_in (network.sizes_of n) (network.net_of n)

-- the step that a drain of a machine takes next
abbrev pub drain_step : MachineLists → Option Step
drain_step m = some_step (draining.drain_step (sizes_of m.config) (machine_of m (λ p. [])))

-- The step does something, and brings the open references nearer to their ends: the sum of their distances falls.
pub record BringsNearer (m : MachineLists) (s : Step) : Type 0 where
  pub moves : outcome_of m.config m.code (machine_of m (λ p. [])) s ≡ Stalled → ⊥
  pub nearer : (f g : ℕ → ℕ) →
      draining.AreDistances (sizes_of m.config) (machine_of m (λ p. [])) f →
      draining.AreDistances (sizes_of m.config) (after m.config m.code (machine_of m (λ p. [])) s) g →
      total g (2 ^ m.config.k) < total f (2 ^ m.config.k)

-- the most steps of a drain
abbrev pub drain_bound : Config → ℕ
drain_bound c = 2 ^ c.k * (2 * c.k + 2)

-- the steps of a drain, one after another, at most this many
abbrev pub steps_home : Config → (code : List ℕ) → (bound : ℕ) → theory.Machine ObservedCore → List Step
steps_home c code bound M = map step_of (draining.drain_steps (sizes_of c) (program c code) bound M)

abbrev pub first_steps : ℕ → MachineLists → List Step
first_steps bound m = steps_home m.config m.code bound (machine_of m (λ p. []))

-- all steps of a drain
abbrev pub drain_steps : MachineLists → List Step
drain_steps m = first_steps (drain_bound m.config) m

-- The machine is drained: it took the drain's steps, and no reference is open.
pub record IsDrained (old : MachineLists) (count : ℕ) (new : MachineLists) : Type 0 where
  pub run : IsRun old (drain_steps old) new
  pub moves : count ≡ length (drain_steps old)
  pub bound : count ≤ drain_bound old.config
  pub idle : IsIdle new
