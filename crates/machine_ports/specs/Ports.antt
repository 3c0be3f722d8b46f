-- A processor at its port, and what its turns do.
use Rattle.std.specs.Prelude.{ℕ, ◌%◌, ◌==◌, Bool, true, false, List, [], length, Option, Some, None, Result, Ok, Err}
use Rattle.rv_table.specs.declared.insn.Insn.{Insn}
use Rattle.phi_algebra.specs.declared.phi.Phi.{Phi}
use Rattle.phi_algebra.specs.declared.phi.Phi.TheVariants.{Add}
use Rattle.hart.specs.Table.{load_phi, store_phi, amo_phi}
use Rattle.flat_machine.specs.declared.effect.Effect.{Effect}
use Rattle.flat_machine.specs.declared.effect.Effect.TheVariants as does
use Rattle.flat_machine.specs.declared.event.Status.TheVariants.{Halted}
use Rattle.flat_machine.specs.declared.fault.Fault.{Fault}
use Rattle.flat_machine.specs.declared.setting.Setting.{Setting}
use Rattle.flat_machine.specs.Operations.{store_size}
use Rattle.flat_machine.specs.State.{Processor, status_of}
use Rattle.flat_machine.specs.Effects.{effect_of}
use Rattle.flat_machine.specs.Turns.{Turn, Retires, Reaches, Stops, turn_of, fetched}
use Rattle.hart.specs.State.{CoreState}
use Rattle.machine_ports.specs.declared.begun.Begun.{Begun}
use Rattle.machine_ports.specs.declared.begun.Begun.TheVariants.{Retired, Referred, Stopped}

-- ---- cores that are away

-- the stand-in for a core that is away: a processor that never runs
abbrev pub no_processor : Processor
no_processor = record { pc = 0; registers = []; local = []; status = Halted 0 }

-- whether a core is away: the processor of a core at home has registers
abbrev pub is_away : Processor → Bool
is_away p = length p.registers == 0

-- the core that a port shows, with the stand-in for one that is away
abbrev pub seen_core : Setting → Option CoreState → CoreState
seen_core setting (Some core) = core
seen_core setting None = record { setting = setting; state = no_processor }

-- ---- ports

pub record PortState : Type 0 where
  -- the core, with the stand-in if it is away
  pub core : CoreState
  -- whether a request was sent whose instruction has not retired
  pub is_open : Bool

abbrev pub with_state : PortState → Processor → PortState
with_state p state = record p { core = record p.core { state = state } }

-- the next turn of the processor, as the flat machine defines it
abbrev pub turn : PortState → (code : List ℕ) → Turn
turn p code = turn_of p.core.setting code p.core.state

-- the function of an effect that refers to a word; other effects refer to none, and get the identity
abbrev pub phi_of_effect : Effect → Phi
phi_of_effect (does.Load op rd address) = load_phi
phi_of_effect (does.Store op address value) = store_phi (store_size op) (address % 4) value
phi_of_effect (does.Amo op rd address value) = amo_phi op value
phi_of_effect _ = Add 0

abbrev pub phi_of_insn : Setting → Processor → Result Insn Fault → Phi
phi_of_insn s p (Ok i) = phi_of_effect (effect_of s p.pc p.registers i)
phi_of_insn s p (Err fault) = Add 0

-- the function of the processor's next reference
unfoldable pub reference_phi : Setting → (code : List ℕ) → Processor → Phi
reference_phi s code p = phi_of_insn s p (fetched code p.pc)

-- what a port without an open reference does in a turn, and the port after it: an instruction retires or stops the
-- processor, or a reference opens the port
abbrev pub begun : PortState → (code : List ℕ) → Turn → Begun × PortState
begun p code (Retires after retired) = (Retired retired, with_state p after)
begun p code (Reaches word change after) =
    (Referred word (reference_phi p.core.setting code p.core.state), record p { is_open = true })
begun p code (Stops cause) = (Stopped cause, with_state p (record p.core.state { status = status_of cause }))
