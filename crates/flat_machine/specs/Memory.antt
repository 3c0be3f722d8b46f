-- Memory: bytes of a region as numbers, and the region of an address.
use Rattle.std.specs.Prelude.{ℕ, zero, suc, ◌+◌, ◌-◌, ◌*◌, ◌/◌, ◌%◌, ◌^◌, Bool, ◌==◌, ◌&&◌, not, List}
use Rattle.std.specs.Prelude.{Result, Ok, Err, nat_lt, nat_le, slice_index, slice_set, if◌then◌else◌}
use Rattle.flat_machine.specs.declared.fault.Fault.{Fault}
use Rattle.flat_machine.specs.declared.fault.Fault.TheVariants.{AddressNotAligned, NoRegion, StoreToCode}
use Rattle.flat_machine.specs.declared.effect.Region.{Region}
use Rattle.flat_machine.specs.declared.effect.Region.TheVariants as region
use Rattle.flat_machine.specs.declared.setting.Setting.{Setting}

-- the number of `size` bytes from a place on, the lowest byte first
unfoldable pub number_at : List ℕ → (place size : ℕ) → ℕ
number_at bytes place zero = 0
number_at bytes place (suc size) = slice_index bytes place + 256 * number_at bytes (place + 1) size

-- the bytes after the low `size` bytes of a number are written from a place on, the lowest first
unfoldable pub with_number : List ℕ → (place size value : ℕ) → List ℕ
with_number bytes place zero value = bytes
with_number bytes place (suc size) value =
    with_number (slice_set bytes place (value % 256)) (place + 1) size (value / 256)

-- The memory map: code from 0x00010000, local memory from 0x00020000, each of 2^16 bytes; shared words from 0x80000000.
abbrev pub in_code : ℕ → Bool
in_code address = address / 2 ^ 16 == 1

abbrev pub in_local : ℕ → Bool
in_local address = address / 2 ^ 16 == 2

abbrev pub in_shared : (words address : ℕ) → Bool
in_shared words address = nat_le (2 ^ 31) address && nat_lt address (2 ^ 31 + 4 * words)

abbrev pub is_aligned : (size address : ℕ) → Bool
is_aligned size address = address % size == 0

-- where an access of `size` bytes at an address goes, or its fault
unfoldable pub region_of : Setting → (size address : ℕ) → (writes : Bool) → Result Region Fault
region_of s size address writes =
    if not (is_aligned size address) then Err AddressNotAligned else
    if in_shared s.shared_words address then Ok (region.Shared ((address - 2 ^ 31) / 4)) else
    if in_local address then Ok (region.Local (address % 2 ^ 16)) else
    if in_code address then (if writes then Err StoreToCode else Ok (region.Code (address % 2 ^ 16))) else
    Err NoRegion
