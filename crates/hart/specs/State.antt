-- The model of a core.
use Rattle.std.specs.Prelude.{◌≡◌, ℕ, List, replicate}
use Rattle.flat_machine.specs.declared.setting.Setting.{Setting}
use Rattle.flat_machine.specs.declared.event.Status.{Status}
use Rattle.flat_machine.specs.declared.event.Status.TheVariants.{Running}
use Rattle.flat_machine.specs.State.{Processor}
use Rattle.local_memory.specs.Accesses.{region_of_bytes}

-- a processor, and what it knows of its machine
pub record CoreState : Type 0 where
  pub setting : Setting
  pub state : Processor

-- what a processor has besides its local memory, and what it knows of its machine
pub record ContextState : Type 0 where
  pub setting : Setting
  pub pc : ℕ
  pub registers : List ℕ
  pub status : Status

-- the processor with this context and this local memory
abbrev pub processor_of : ContextState → (local : List ℕ) → Processor
processor_of c local = record { pc = c.pc; registers = c.registers; local = local; status = c.status }

-- a core that has taken no turn: its registers are 0, and its local memory begins with the given bytes
abbrev pub new_core : Setting → (pc : ℕ) → (local : List ℕ) → CoreState
new_core setting pc local = record {
  setting = setting;
  state = record { pc = pc; registers = replicate 32 0; local = region_of_bytes local; status = Running };
}

-- Two cores have the same setting, the same pc and the same status.
pub record IsStandingAs (a b : CoreState) : Type 0 where
  pub setting : a.setting ≡ b.setting
  pub pc : a.state.pc ≡ b.state.pc
  pub status : a.state.status ≡ b.state.status
