-- What commands show of the flat machine. The texts are without their line feeds.
use Rattle.std.specs.Prelude.{ℕ, zero, suc, ◌+◌, ◌^◌, ◌==◌, ◌&&◌, List, [], ◌++◌, codes, flat_map, Option, Some, None}
use Rattle.std.specs.Prelude.{nat_le, slice_get, if◌then◌else◌}
use Rattle.command_io.specs.Digits.{hex_of_byte, hex_of_word, status_text}
use Rattle.debug_lines.specs.declared.command.Command.{Command}
use Rattle.debug_lines.specs.declared.command.Command.TheVariants.{State, Registers, Register, Set, Memory, Write}
use Rattle.debug_lines.specs.declared.command.Command.TheVariants.{Break, Clear, Step, Continue, Quit, Malformed}
use Rattle.flat_machine.specs.State.{Processor, FlatState}
use Rattle.machine_steps.specs.Seeing.{byte_seen}

-- ---- one processor; nothing is shown of one that does not exist

-- its status
unfoldable pub state_text : Option Processor → List ℕ
state_text None = []
state_text (Some p) = status_text p.status

-- its registers in their order, then pc
unfoldable pub registers_text : Option Processor → List ℕ
registers_text None = []
registers_text (Some p) = flat_map hex_of_word p.registers ++ hex_of_word p.pc

-- one register: pc is register 32
unfoldable pub register_at : Option Processor → (register : ℕ) → Option ℕ
register_at None r = None
register_at (Some p) r = if r == 32 then Some p.pc else slice_get p.registers r

abbrev pub word_text : Option ℕ → List ℕ
word_text None = []
word_text (Some word) = hex_of_word word

unfoldable pub register_text : Option Processor → (register : ℕ) → List ℕ
register_text p r = word_text (register_at p r)

-- ---- memory

abbrev pub byte_text : Option ℕ → List ℕ
byte_text None = []
byte_text (Some byte) = hex_of_byte byte

-- the bytes that processor k sees at this many addresses, from this one on
abbrev pub bytes_text : FlatState → (k address n : ℕ) → List ℕ
bytes_text m k address zero = []
bytes_text m k address (suc n) = bytes_text m k address n ++ byte_text (byte_seen m k (address + n))

-- these bytes, or none if they are over 512 or their range goes past 2^32
unfoldable pub memory_text : FlatState → (k address n : ℕ) → List ℕ
memory_text m k address n = if nat_le n 512 && nat_le (address + n) (2 ^ 32) then bytes_text m k address n else []

-- ---- commands

-- The reply to a command that has no error, if its text does not depend on what the command does.
unfoldable pub shown_text : FlatState → Command → List ℕ
shown_text m (State p) = state_text (slice_get m.processors p)
shown_text m (Registers p) = registers_text (slice_get m.processors p)
shown_text m (Register p r) = register_text (slice_get m.processors p) r
shown_text m (Memory p address n) = memory_text m p address n
shown_text m (Set p r value) = codes "ok"
shown_text m (Write p address bytes) = codes "ok"
shown_text m (Break address) = codes "ok"
shown_text m (Clear address) = codes "ok"
shown_text m Quit = codes "ok"
-- `step` and `cont` have a stop reply, and a line that is no command has an error
shown_text m (Step p) = []
shown_text m Continue = []
shown_text m Malformed = []
