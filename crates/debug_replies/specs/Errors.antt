-- Which error a command has: of several, the one with the smallest number.
use Rattle.std.specs.Prelude.{ℕ, zero, suc, ◌+◌, ◌%◌, ◌^◌, Bool, true, false, ◌==◌, ◌&&◌, ◌||◌, not, List}
use Rattle.std.specs.Prelude.{length, codes, Option, Some, None, nat_lt, nat_le, if◌then◌else◌}
use Rattle.debug_lines.specs.declared.command.Command.{Command}
use Rattle.debug_lines.specs.declared.command.Command.TheVariants.{State, Registers, Register, Set, Memory, Write}
use Rattle.debug_lines.specs.declared.command.Command.TheVariants.{Break, Clear, Step, Continue, Quit, Malformed}
use Rattle.flat_machine.specs.State.{FlatState}
use Rattle.flat_machine.specs.Memory.{in_code, in_local, in_shared}
use Rattle.debug_replies.specs.Breaking.{is_code_word}
use Rattle.debug_replies.specs.declared.error.Error.{Error}
use Rattle.debug_replies.specs.declared.error.Error.TheVariants as error

-- how an error is reported
abbrev pub error_text : Error → List ℕ
error_text error.Form = codes "E01"
error_text error.Address = codes "E02"
error_text error.Processor = codes "E03"
error_text error.Register = codes "E04"
error_text error.Room = codes "E05"
error_text error.Memory = codes "E06"

-- whether a line is no command, or asks for other than 1 to 512 bytes
abbrev pub is_malformed : Command → Bool
is_malformed (State p) = false
is_malformed (Registers p) = false
is_malformed (Register p r) = false
is_malformed (Set p r value) = false
is_malformed (Memory p address n) = not (nat_le 1 n && nat_le n 512)
is_malformed (Write p address bytes) = false
is_malformed (Break address) = false
is_malformed (Clear address) = false
is_malformed (Step p) = false
is_malformed Continue = false
is_malformed Quit = false
is_malformed Malformed = true

-- ---- addresses

-- whether an access can reach an address: it is in a region, and not in code if the access writes
unfoldable pub is_reached : FlatState → (writes : Bool) → (address : ℕ) → Bool
is_reached m writes address = in_shared (length m.shared) address || in_local address || (in_code address && not writes)

-- whether it can reach this many addresses, from this one on
abbrev pub are_reached : FlatState → (writes : Bool) → (address n : ℕ) → Bool
are_reached m writes address zero = true
are_reached m writes address (suc n) = are_reached m writes address n && is_reached m writes (address + n)

-- whether it can reach them, and they are all below 2^32
unfoldable pub is_range : FlatState → (writes : Bool) → (address n : ℕ) → Bool
is_range m writes address n = nat_le (address + n) (2 ^ 32) && are_reached m writes address n

-- Whether the addresses of a command can be reached, and are code words for breaks. A value for pc, which is register
-- 32, has to be a multiple of 4.
unfoldable pub has_addresses : FlatState → Command → Bool
has_addresses m (State p) = true
has_addresses m (Registers p) = true
has_addresses m (Register p r) = true
has_addresses m (Set p r value) = not (r == 32) || value % 4 == 0
has_addresses m (Memory p address n) = is_range m false address n
has_addresses m (Write p address bytes) = is_range m true address (length bytes)
has_addresses m (Break address) = is_code_word address
has_addresses m (Clear address) = is_code_word address
has_addresses m (Step p) = true
has_addresses m Continue = true
has_addresses m Quit = true
has_addresses m Malformed = true

-- ---- processors and registers

-- the processor that a command names
abbrev pub processor_of : Command → Option ℕ
processor_of (State p) = Some p
processor_of (Registers p) = Some p
processor_of (Register p r) = Some p
processor_of (Set p r value) = Some p
processor_of (Memory p address n) = Some p
processor_of (Write p address bytes) = Some p
processor_of (Break address) = None
processor_of (Clear address) = None
processor_of (Step p) = Some p
processor_of Continue = None
processor_of Quit = None
processor_of Malformed = None

-- the register that a command names
abbrev pub register_of : Command → Option ℕ
register_of (State p) = None
register_of (Registers p) = None
register_of (Register p r) = Some r
register_of (Set p r value) = Some r
register_of (Memory p address n) = None
register_of (Write p address bytes) = None
register_of (Break address) = None
register_of (Clear address) = None
register_of (Step p) = None
register_of Continue = None
register_of Quit = None
register_of Malformed = None

-- whether a number, if one is named, is below a bound
abbrev pub is_named_below : (bound : ℕ) → Option ℕ → Bool
is_named_below bound None = true
is_named_below bound (Some n) = nat_lt n bound

-- ---- the error

-- The error of a command, apart from those of the log: in its form, an address, the processor or the register.
unfoldable pub error_of : FlatState → Command → Option Error
error_of m c =
    if is_malformed c then Some error.Form else
    if not (has_addresses m c) then Some error.Address else
    if not (is_named_below (length m.processors) (processor_of c)) then Some error.Processor else
    if not (is_named_below 33 (register_of c)) then Some error.Register else
    None
