-- What the parts of the loader do.
use Rattle.std.specs.Prelude.{◌≡◌, ℕ, ◌+◌, ◌-◌, ◌<◌, ◌≤◌, true, List, length, Some, slice_get, slice_index}
use Rattle.elf_image.specs.declared.layout.Layout.{Layout}
use Rattle.elf_image.specs.declared.region.Region.{Region}
use Rattle.elf_image.specs.declared.region.Region.TheVariants.{Code, Local, Shared}
use Rattle.elf_image.specs.declared.segment.ProgramHeader.{ProgramHeader}
use Rattle.elf_image.specs.Headers.{file_header, segments}
use Rattle.elf_image.specs.Regions.{region_start, sets_in}
use Rattle.elf_image.specs.Segments.{Sets, byte_of}

-- Segment k of the list is p, and it sets addresses of the region.
pub record IsOne (ps : List ProgramHeader) (shared_words : ℕ) (region : Region) (k : ℕ)
    (p : ProgramHeader) : Type 0 where
  pub at : slice_get ps k ≡ Some p
  pub sets : sets_in shared_words region p ≡ true

-- The first `count` segments of the region end at most this far from its first address, and one ends exactly there.
pub record IsExtent (ps : List ProgramHeader) (shared_words : ℕ) (region : Region) (count extent : ℕ) : Type 0 where
  pub reached : (k : ℕ) (p : ProgramHeader) → k < count → IsOne ps shared_words region k p →
      p.p_vaddr + p.p_memsz ≤ region_start region + extent
  pub last : 0 < extent →
      (k : ℕ) × (p : ProgramHeader) × IsOne ps shared_words region k p
      × (p.p_vaddr + p.p_memsz ≡ region_start region + extent)

-- The segment's bytes in the file are at their places in a region that begins at `start`, and the rest is as before.
pub record CopiesSegment (file : List ℕ) (p : ProgramHeader) (start : ℕ) (old new : List ℕ) : Type 0 where
  pub count : length new ≡ length old
  pub copied :
      (i : ℕ) → p.p_vaddr ≤ start + i → start + i < p.p_vaddr + p.p_filesz →
      slice_index new i ≡ slice_index file (p.p_offset + (start + i - p.p_vaddr))
  pub before : (i : ℕ) → start + i < p.p_vaddr → slice_index new i ≡ slice_index old i
  pub after : (i : ℕ) → p.p_vaddr + p.p_filesz ≤ start + i → slice_index new i ≡ slice_index old i

-- The first `count` segments of the region are loaded, and what they do not set is zero.
pub record AreLoaded (file : List ℕ) (ps : List ProgramHeader) (shared_words : ℕ) (region : Region) (count : ℕ)
    (bytes : List ℕ) : Type 0 where
  pub set :
      (k : ℕ) (p : ProgramHeader) (i : ℕ) → k < count → IsOne ps shared_words region k p →
      Sets p (region_start region + i) →
      slice_index bytes i ≡ byte_of file p (region_start region + i)
  pub unset :
      (i : ℕ) →
      ((k : ℕ) (p : ProgramHeader) → k < count → IsOne ps shared_words region k p → Sets p (region_start region + i) →
      ⊥) →
      slice_index bytes i ≡ 0

-- All segments of the region are loaded into its bytes, which reach to the last that a segment sets.
pub record IsLoaded (file : List ℕ) (ps : List ProgramHeader) (shared_words : ℕ) (region : Region)
    (bytes : List ℕ) : Type 0 where
  pub extent : IsExtent ps shared_words region (length ps) (length bytes)
  pub loaded : AreLoaded file ps shared_words region (length ps) bytes

-- The entry is the file's, and the segments of each region are loaded.
pub record LoadsLayout (file : List ℕ) (shared_words : ℕ) (layout : Layout) : Type 0 where
  pub entry : layout.entry ≡ (file_header file).e_entry
  pub code : IsLoaded file (segments file) shared_words Code layout.code
  pub local : IsLoaded file (segments file) shared_words Local layout.local
  pub shared : IsLoaded file (segments file) shared_words Shared layout.shared
