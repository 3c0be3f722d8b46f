-- What is read of a machine. Nothing is read of a processor that is not there, or whose core is away.
use Rattle.std.specs.Prelude.{ℕ, ◌-◌, ◌/◌, ◌%◌, ◌^◌, ◌&&◌, List, Option, Some, None, slice_get, slice_index}
use Rattle.std.specs.Prelude.{if◌then◌else◌}
use Rattle.flat_machine.specs.Memory.{in_local, in_shared}
use Rattle.flat_machine.specs.Words.{part_of}
use Rattle.machine_theory.specs.Processors.{port_at, word_at}
use Rattle.machine_steps.specs.Machines.{MachineLists, is_there}

-- the registers of a processor
abbrev pub registers_at : MachineLists → (processor : ℕ) → Option (List ℕ)
registers_at m p = if is_there m p then Some (port_at m.ports p).core.state.registers else None

-- one register of a processor, if there is one of this number
abbrev pub register_at : MachineLists → (processor register : ℕ) → Option ℕ
register_at m p register = if is_there m p then slice_get (port_at m.ports p).core.state.registers register else None

-- a byte of a processor's local memory, if the address is in it
abbrev pub local_byte_at : MachineLists → (processor address : ℕ) → Option ℕ
local_byte_at m p address =
    if is_there m p
    && in_local address then Some (slice_index (port_at m.ports p).core.state.local (address % 2 ^ 16)) else None

-- a byte of shared memory, if the address is in it: a part of its word
abbrev pub shared_byte_at : MachineLists → (address : ℕ) → Option ℕ
shared_byte_at m address =
    if in_shared m.config.shared_words address
    then Some (part_of 1 (address % 4) (word_at m.config.k m.modules ((address - 2 ^ 31) / 4))) else None
