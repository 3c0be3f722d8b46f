-- What a processor of the flat machine sees at an address.
use Rattle.std.specs.Prelude.{ℕ, ◌%◌, false, Option, Some, None, Result, Ok, Err, slice_get, slice_index}
use Rattle.flat_machine.specs.declared.fault.Fault.{Fault}
use Rattle.flat_machine.specs.declared.effect.Region.{Region}
use Rattle.flat_machine.specs.declared.effect.Region.TheVariants as region
use Rattle.flat_machine.specs.State.{Processor, FlatState, setting_of}
use Rattle.flat_machine.specs.Words.{part_of}
use Rattle.flat_machine.specs.Memory.{number_at, region_of}

-- the byte of an access, if it goes to a region
abbrev pub byte_in : FlatState → Processor → (address : ℕ) → Result Region Fault → Option ℕ
byte_in m p address (Ok (region.Shared word)) = Some (part_of 1 (address % 4) (slice_index m.shared word))
byte_in m p address (Ok (region.Local place)) = Some (number_at p.local place 1)
byte_in m p address (Ok (region.Code place)) = Some (number_at m.code place 1)
byte_in m p address (Err fault) = None

-- the byte that processor k sees, if it is there: the one that a load of one byte gives
abbrev pub byte_of : FlatState → (k address : ℕ) → Option Processor → Option ℕ
byte_of m k address None = None
byte_of m k address (Some p) = byte_in m p address (region_of (setting_of m k) 1 address false)

-- the byte that processor k sees at an address
abbrev pub byte_seen : FlatState → (k address : ℕ) → Option ℕ
byte_seen m k address = byte_of m k address (slice_get m.processors k)
