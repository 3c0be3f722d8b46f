-- What segments set, address by address.
use Rattle.std.specs.Prelude.{◌≡◌, ℕ, ◌+◌, ◌-◌, ◌<◌, ◌≤◌, nat_lt, List, Some, slice_get, slice_index, if◌then◌else◌}
use Rattle.elf_image.specs.declared.segment.ProgramHeader.{ProgramHeader}

-- The segment sets this address: one of p_memsz, from p_vaddr on.
abbrev pub Sets : ProgramHeader → (address : ℕ) → Type 0
Sets p address = (p.p_vaddr ≤ address) × (address < p.p_vaddr + p.p_memsz)

-- what a segment sets at an address: its p_filesz bytes in the file from p_offset on, and then zero
abbrev pub byte_of : List ℕ → ProgramHeader → (address : ℕ) → ℕ
byte_of file p address =
    let place = address - p.p_vaddr in
    if nat_lt place p.p_filesz then slice_index file (p.p_offset + place) else 0

-- One of the segments sets the address.
abbrev pub IsSet : List ProgramHeader → (address : ℕ) → Type 0
IsSet ps address = (k : ℕ) × (p : ProgramHeader) × (slice_get ps k ≡ Some p) × Sets p address

-- No segment sets the address.
abbrev pub IsUnset : List ProgramHeader → (address : ℕ) → Type 0
IsUnset ps address = (k : ℕ) (p : ProgramHeader) → slice_get ps k ≡ Some p → Sets p address → ⊥
