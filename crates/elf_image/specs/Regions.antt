-- The regions that an image fills, and the segments that may be in them.
use Rattle.std.specs.Prelude.{ℕ, ◌+◌, ◌*◌, Bool, ◌==◌, ◌&&◌, ◌||◌, nat_lt, nat_le}
use Rattle.elf_image.specs.declared.region.Region.{Region}
use Rattle.elf_image.specs.declared.region.Region.TheVariants.{Code, Local, Shared}
use Rattle.elf_image.specs.declared.segment.ProgramHeader.{ProgramHeader}

abbrev pub region_start : Region → ℕ
region_start Code = 0x10000
region_start Local = 0x20000
region_start Shared = 0x80000000

abbrev pub region_length : (shared_words : ℕ) → Region → ℕ
region_length shared_words Code = 0x10000
region_length shared_words Local = 0x10000
region_length shared_words Shared = 4 * shared_words

-- the flags that a region allows: code is read (4), or read and executed (5); the others are read and written (6)
abbrev pub is_flagged : Region → (flags : ℕ) → Bool
is_flagged Code flags = flags == 4 || flags == 5
is_flagged Local flags = flags == 6
is_flagged Shared flags = flags == 6

-- whether the p_memsz addresses of a segment from p_vaddr on are in the region, and its flags are those of the region
abbrev pub is_in : (shared_words : ℕ) → Region → ProgramHeader → Bool
is_in shared_words region p =
    is_flagged region p.p_flags
    && nat_le (region_start region) p.p_vaddr
    && nat_le (p.p_vaddr + p.p_memsz) (region_start region + region_length shared_words region)

abbrev pub is_in_a_region : (shared_words : ℕ) → ProgramHeader → Bool
is_in_a_region shared_words p = is_in shared_words Code p || is_in shared_words Local p || is_in shared_words Shared p

-- whether the segment sets addresses, all in the region
abbrev pub sets_in : (shared_words : ℕ) → Region → ProgramHeader → Bool
sets_in shared_words region p = nat_lt 0 p.p_memsz && is_in shared_words region p
