-- What holds of files and segments that pass the checks.
use Rattle.std.proofs.Common.{◌≡◌, ℕ, zero, suc, ◌+◌, ◌*◌, ◌<◌, ◌≤◌, Bool, true, false, not, ◌&&◌, ◌||◌}
use Rattle.std.proofs.Common.{List, [], ◌∷◌, length, None, Some, refl, arith, nat_lt, nat_le}
use Rattle.std.specs.Prelude.{slice_get}
use Rattle.std.specs.List.{list_any}
use Rattle.std.proofs.lemmas.Bool.Decides.{nat_tests}
use Rattle.elf_image.specs.declared.region.Region.{Region}
use Rattle.elf_image.specs.declared.region.Region.TheVariants.{Code, Local, Shared}
use Rattle.elf_image.specs.declared.error.ImageError.TheVariants.{Truncated, NotExecutable, UnsupportedHeader, OutsideInput, OutsideRegions}
use Rattle.elf_image.specs.declared.segment.ProgramHeader.{ProgramHeader}
use Rattle.elf_image.specs.Headers.{file_header}
use Rattle.elf_image.specs.Regions.{region_start, region_length, is_flagged, is_in, is_in_a_region}
use Rattle.elf_image.specs.Refusals.{is_executable, is_supported, header_refusal, is_in_file, segment_refusal, overlap, have_overlap}
use Rattle.elf_image.specs.Segments.{Sets}
use Rattle.elf_image.proofs.Conditions.{and_true, or_false, not_false, passed, none_any}

-- The headers of the file pass all checks.
pub record Headed (file : List ℕ) : Type 0 where
  -- the file is at least as long as an ELF header
  pub long : 52 ≤ length file
  -- it is an executable for RISC-V
  pub executable : is_executable file (file_header file) ≡ true
  -- the other fields of its header are supported
  pub supported : is_supported (file_header file) ≡ true
  -- its program header table ends within the file
  pub listed : (file_header file).e_phoff + 32 * (file_header file).e_phnum ≤ length file

-- If the headers are not refused, they pass all checks.
pub headed : (file : List ℕ) → header_refusal file ≡ None → Headed file
headed file h =
    let a = passed (nat_lt (length file) 52) Truncated _ h in
    let b = passed (not (is_executable file (file_header file))) NotExecutable _ a.1 in
    let c = passed (not (is_supported (file_header file))) UnsupportedHeader _ b.1 in
    let d = passed (nat_lt (length file) ((file_header file).e_phoff + 32 * (file_header file).e_phnum)) Truncated None c.1 in
    record {
      long = grind (arith, nat_tests, a.0);
      executable = not_false (is_executable file (file_header file)) b.0;
      supported = not_false (is_supported (file_header file)) c.0;
      listed = grind (arith, nat_tests, d.0);
    }

-- The segment passes all checks.
pub record Checked (file_bytes shared_words : ℕ) (p : ProgramHeader) : Type 0 where
  -- its bytes end within the file
  pub there : p.p_offset + p.p_filesz ≤ file_bytes
  -- it has room for them
  pub room : p.p_filesz ≤ p.p_memsz
  -- it lies in a region if it sets an address
  pub placed : 0 < p.p_memsz → is_in_a_region shared_words p ≡ true

-- If a segment is not refused, it passes all checks.
pub checked : (file_bytes shared_words : ℕ) (p : ProgramHeader) → segment_refusal file_bytes shared_words p ≡ None → Checked file_bytes shared_words p
checked file_bytes shared_words p h =
    let a = passed (not (is_in_file file_bytes p)) OutsideInput _ h in
    let b = passed (nat_lt 0 p.p_memsz && not (is_in_a_region shared_words p)) OutsideRegions None a.1 in
    let filed = and_true (nat_le (p.p_offset + p.p_filesz) file_bytes) (nat_le p.p_filesz p.p_memsz) (not_false (is_in_file file_bytes p) a.0) in
    record {
      there = grind (arith, nat_tests, filed.0);
      room = grind (arith, nat_tests, filed.1);
      placed = λ some. placed some b.0;
    }
  where
    placed : 0 < p.p_memsz → (nat_lt 0 p.p_memsz && not (is_in_a_region shared_words p)) ≡ false → is_in_a_region shared_words p ≡ true
    placed some e = let test : nat_lt 0 p.p_memsz ≡ true = grind (arith, nat_tests) in not_false (is_in_a_region shared_words p) (rw test at e)

-- The segment is inside a region.
pub record Inside (shared_words : ℕ) (region : Region) (p : ProgramHeader) : Type 0 where
  -- its flags are those of the region
  pub flagged : is_flagged region p.p_flags ≡ true
  -- it does not begin before the region
  pub above : region_start region ≤ p.p_vaddr
  -- it ends within the region
  pub below : p.p_vaddr + p.p_memsz ≤ region_start region + region_length shared_words region

-- A segment that passes the test of a region has its flags and is inside it.
pub inside : (shared_words : ℕ) (region : Region) (p : ProgramHeader) → is_in shared_words region p ≡ true → Inside shared_words region p
inside shared_words region p e =
    let flags = is_flagged region p.p_flags in
    let first = nat_le (region_start region) p.p_vaddr in
    let last = nat_le (p.p_vaddr + p.p_memsz) (region_start region + region_length shared_words region) in
    let a = and_true (flags && first) last e in
    let b = and_true flags first a.0 in
    record { flagged = b.0; above = grind (arith, nat_tests, b.1); below = grind (arith, nat_tests, a.1) }

-- If a segment in one region sets an address of another, the two regions are the same.
home : (shared_words : ℕ) (there region : Region) (p : ProgramHeader) (i : ℕ) → is_in shared_words there p ≡ true → Sets p (region_start region + i) →
    i < region_length shared_words region → is_in shared_words region p ≡ true
home w Code Code p i e s h = e
home w Local Local p i e s h = e
home w Shared Shared p i e s h = e
home w Code Local p i e s h = let a = inside w Code p e in absurd (omega (arith, a.above, a.below, s.0, s.1))
home w Code Shared p i e s h = let a = inside w Code p e in absurd (omega (arith, a.above, a.below, s.0, s.1))
home w Local Code p i e s h = let a = inside w Local p e in absurd (omega (arith, a.above, a.below, s.0, s.1))
home w Local Shared p i e s h = let a = inside w Local p e in absurd (omega (arith, a.above, a.below, s.0, s.1))
home w Shared Code p i e s h = let a = inside w Shared p e in absurd (omega (arith, a.above, a.below, s.0, s.1))
home w Shared Local p i e s h = let a = inside w Shared p e in absurd (omega (arith, a.above, a.below, s.0, s.1))

-- A segment that is in some region is in one of the three.
pub which : (shared_words : ℕ) (p : ProgramHeader) → is_in_a_region shared_words p ≡ true → (region : Region) × (is_in shared_words region p ≡ true)
which w p e = by_tests (is_in w Code p) (is_in w Local p) refl refl e
  where
    by_tests : (a b : Bool) → is_in w Code p ≡ a → is_in w Local p ≡ b → (a || b || is_in w Shared p) ≡ true → (region : Region) × (is_in w region p ≡ true)
    by_tests true b code local e = (Code, code)
    by_tests false true code local e = (Local, local)
    by_tests false false code local e = (Shared, e)

-- If a segment is in some region and sets an address of this region, it is in this region.
pub at_home : (shared_words : ℕ) (region : Region) (p : ProgramHeader) (i : ℕ) → is_in_a_region shared_words p ≡ true → Sets p (region_start region + i) →
    i < region_length shared_words region → is_in shared_words region p ≡ true
at_home w region p i e s h = let there = which w p e in home w there.0 region p i there.1 s h

-- Two segments that do not overlap set no common address.
pub overlap_false : (p q : ProgramHeader) (a : ℕ) → overlap p q ≡ false → Sets p a → Sets q a → ⊥
overlap_false p q a e s t = grind (arith, nat_tests, e, s.0, s.1, t.0, t.1)

-- If no segments of a list overlap, no two of them set the same address.
pub apart : (ps : List ProgramHeader) (j k : ℕ) (p q : ProgramHeader) (a : ℕ) → have_overlap ps ≡ false → j < k → slice_get ps j ≡ Some p →
    slice_get ps k ≡ Some q → Sets p a → Sets q a → ⊥
apart [] j k p q a e h at_j at_k s t = absurd (cc)
apart (r ∷ ps) j zero p q a e h at_j at_k s t = absurd (omega arith)
apart (r ∷ ps) zero (suc k) p q a e h at_j at_k s t =
    let same : r ≡ p = cc in
    overlap_false p q a (rw same at (none_any (overlap r) ps k q (or_false _ (have_overlap ps) e).0 at_k)) s t
apart (r ∷ ps) (suc j) (suc k) p q a e h at_j at_k s t = apart ps j k p q a (or_false (list_any (overlap r) ps) _ e).1 (omega arith) at_j at_k s t
