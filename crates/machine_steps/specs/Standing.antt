-- What the processors of a machine are doing.
use Rattle.std.specs.Prelude.{◌≡◌, ℕ, ◌^◌, ◌<◌}
use Rattle.flat_machine.specs.declared.event.Status.{Status}
use Rattle.flat_machine.specs.declared.event.Status.TheVariants.{Running, Halted, Faulted}
use Rattle.flat_machine.specs.State.{Processor}
use Rattle.machine_theory.specs.Processors.{port_at}
use Rattle.machine_steps.specs.Machines.{MachineLists}

-- a processor of a machine
abbrev pub processor_of : MachineLists → ℕ → Processor
processor_of m p = (port_at m.ports p).core.state

abbrev pub IsFaulted : Status → Type 0
IsFaulted (Faulted fault) = Unit {0}
IsFaulted Running = ⊥
IsFaulted (Halted byte) = ⊥

-- A fault has stopped a processor of the machine.
abbrev pub HasFaulted : MachineLists → Type 0
HasFaulted m = (p : ℕ) × (p < 2 ^ m.config.k) × IsFaulted (processor_of m p).status

-- A processor of the machine runs.
abbrev pub HasRunning : MachineLists → Type 0
HasRunning m = (p : ℕ) × (p < 2 ^ m.config.k) × ((processor_of m p).status ≡ Running)
