-- A machine in which no reference is open is the flat machine of its processors, words and code.
use Rattle.std.proofs.Common.{◌≡◌, ℕ, [], sym, ap, ap₂}
use mathlib.Core.Path.{fun_ext}
use Rattle.machine_theory.specs.serialization.Order.{flat_of}
use Rattle.machine_theory.specs.Processors.{ObservedCore}
use Rattle.machine_theory.specs.Steps.{machine_of_parts}
use Rattle.machine_theory.specs.Flatness.{read_flat}
use Rattle.machine_theory.specs.Explained.{Opens}
use Rattle.machine_steps.specs.Machines.{MachineLists, machine_of, IsIdle, IsMachine}
use Rattle.machine_steps.specs.Openings.{flat_state}
use Rattle.machine_steps.proofs.Flattening.{sound, state_at, word_is}

module _ (m : MachineLists) (is : IsMachine m) where
  pub reads : flat_of (machine_of m (λ p. [])) ≡ read_flat (flat_state m) (λ p. [])
  unfolding machine_of_parts
  reads = ap₂ (λ (f : ℕ → ℕ) (g : ℕ → ObservedCore). record { mem = f; core = g }) (fun_ext (λ i. sym (word_is m is i)))
      (fun_ext (λ p. ap (λ s. record { state = s; events = [] }) (sym (state_at m is p))))

  -- If no reference is open in a machine, a run can begin with it beside the flat machine that its parts make.
  pub opens : IsIdle m → Opens m.config m.code (machine_of m (λ p. [])) (flat_state m)
  unfolding machine_of_parts
  opens idle = record { few = is.limits.stages; sound = sound m is; role = is.role; steady = is.steady; idle = idle; reads = reads }
