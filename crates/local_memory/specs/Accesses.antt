-- Accesses of a region by address, with their faults.
use Rattle.std.specs.Prelude.{ℕ, ◌-◌, ◌%◌, ◌^◌, Bool, not, List, ◌++◌, length, replicate, Result, Ok, Err}
use Rattle.std.specs.Prelude.{if◌then◌else◌}
use Rattle.flat_machine.specs.declared.fault.Fault.{Fault}
use Rattle.flat_machine.specs.declared.fault.Fault.TheVariants.{AddressNotAligned, NoRegion}
use Rattle.flat_machine.specs.Memory.{is_aligned, number_at}

-- the fault of an access, if any: the address is not divisible by the size, or otherwise it is outside the region
abbrev pub access_of : (size address : ℕ) → (inside : Bool) → Result (Unit {0}) Fault
access_of size address inside =
    if not (is_aligned size address) then Err AddressNotAligned else
    if inside then Ok tt else
    Err NoRegion

-- the result of a load from a region with these bytes
abbrev pub load_of : List ℕ → (size address : ℕ) → (inside : Bool) → Result ℕ Fault
load_of bytes size address inside =
    if not (is_aligned size address) then Err AddressNotAligned else
    if inside then Ok (number_at bytes (address % 2 ^ 16) size) else
    Err NoRegion

-- some bytes, padded with zeros to a length
unfoldable pub padded : ℕ → List ℕ → List ℕ
padded count bytes = bytes ++ replicate (count - length bytes) 0

-- the bytes of a region that begins with some bytes and is zero after them
abbrev pub region_of_bytes : List ℕ → List ℕ
region_of_bytes bytes = padded (2 ^ 16) bytes
