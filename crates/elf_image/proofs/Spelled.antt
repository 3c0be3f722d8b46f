-- The headers read from the spelling of a layout.
use Rattle.std.proofs.Common.{◌≡◌, ℕ, zero, suc, ◌+◌, ◌*◌, ◌^◌, ◌<◌, ◌≤◌, Bool, true, false, cond, List, [], ◌∷◌}
use Rattle.std.proofs.Common.{◌++◌, length, map, refl, sym, ap, ◌∙◌, arith, append_assoc, append-nil, length-append}
use Rattle.std.specs.Prelude.{slice_index}
use Rattle.std.specs.List.{range_with_len, filter, flat_map}
use Rattle.std.proofs.lemmas.List.{get_or-append-add}
use Rattle.flat_machine.specs.Memory.{number_at}
use Rattle.elf_image.specs.declared.header.FileHeader.{FileHeader}
use Rattle.elf_image.specs.declared.layout.Layout.{Layout}
use Rattle.elf_image.specs.declared.region.Region.TheVariants.{Code, Local, Shared}
use Rattle.elf_image.specs.declared.segment.ProgramHeader.{ProgramHeader}
use Rattle.elf_image.specs.Headers.{file_header, program_header, is_load, program_headers, segments}
use Rattle.elf_image.specs.Regions.{region_start}
use Rattle.elf_image.specs.Spellings.{file_header_bytes, program_header_bytes, is_nil, count_of, code_offset}
use Rattle.elf_image.specs.Spellings.{local_offset, shared_offset, written_flags, spelling}

-- ---- numbers

number_after : (pre xs : List ℕ) (k size : ℕ) → number_at (pre ++ xs) (length pre + k) size ≡ number_at xs k size
unfolding number_at
number_after pre xs k zero = refl
number_after pre xs k (suc size) =
    let place : length pre + k + 1 ≡ length pre + (k + 1) = omega arith in
    ap (λ a. a + 256 * number_at (pre ++ xs) (length pre + k + 1) size) (get_or-append-add pre xs k 0)
    ∙ ap (λ q. slice_index xs k + 256 * number_at (pre ++ xs) q size) place
    ∙ ap (λ r. slice_index xs k + 256 * r) (number_after pre xs (k + 1) size)

-- ---- the ELF header

abbrev pub spelled_header : (entry count : ℕ) → FileHeader
spelled_header entry count = record {
  e_type = 2;
  e_machine = 243;
  e_version = 1;
  e_entry = entry;
  e_phoff = 52;
  e_flags = 0;
  e_ehsize = 52;
  e_phentsize = 32;
  e_phnum = count;
}

header_spelled : (entry count : ℕ) (rest : List ℕ) → entry < 2 ^ 32 → count < 2 ^ 16 →
    file_header (file_header_bytes entry count ++ rest) ≡ spelled_header entry count
unfolding file_header file_header_bytes number_at
header_spelled entry count rest h k =
    let first : number_at (file_header_bytes entry count ++ rest) 24 4 ≡ entry = omega arith in
    let second : number_at (file_header_bytes entry count ++ rest) 44 2 ≡ count = omega arith in
    λ i. record {
      e_type = 2;
      e_machine = 243;
      e_version = 1;
      e_entry = first i;
      e_phoff = 52;
      e_flags = 0;
      e_ehsize = 52;
      e_phentsize = 32;
      e_phnum = second i;
    }

pub length-file_header_bytes : (entry count : ℕ) → length (file_header_bytes entry count) ≡ 52
unfolding file_header_bytes
length-file_header_bytes entry count = refl

-- ---- program headers

-- the program header of a segment whose bytes are all in the file
abbrev pub header_of : (offset start count flags : ℕ) → ProgramHeader
header_of offset start count flags = record { p_type = 1; p_offset = offset; p_vaddr = start; p_filesz = count; p_memsz = count; p_flags = flags }

abbrev pub bytes_of : ProgramHeader → List ℕ
bytes_of p = program_header_bytes p.p_offset p.p_vaddr p.p_filesz p.p_flags

-- The program header can be read back from its bytes.
pub record IsSpelled (p : ProgramHeader) : Type 0 where
  -- it is that of a segment to load
  pub load : p.p_type ≡ 1
  -- the segment is as long in memory as in the file
  pub same : p.p_memsz ≡ p.p_filesz
  -- its offset is a word
  pub offset : p.p_offset < 2 ^ 32
  -- its address is a word
  pub start : p.p_vaddr < 2 ^ 32
  -- its length is a word
  pub count : p.p_filesz < 2 ^ 32
  -- its flags are a word
  pub flags : p.p_flags < 2 ^ 32

length-bytes_of : (p : ProgramHeader) → length (bytes_of p) ≡ 32
unfolding program_header_bytes
length-bytes_of p = refl

program_header_first : (o s n f : ℕ) (rest : List ℕ) → o < 2 ^ 32 → s < 2 ^ 32 → n < 2 ^ 32 → f < 2 ^ 32 →
    program_header (program_header_bytes o s n f ++ rest) 0 ≡ header_of o s n f
unfolding program_header program_header_bytes number_at
program_header_first o s n f rest a b c d =
    let offset : number_at (program_header_bytes o s n f ++ rest) 4 4 ≡ o = omega arith in
    let start : number_at (program_header_bytes o s n f ++ rest) 8 4 ≡ s = omega arith in
    let filed : number_at (program_header_bytes o s n f ++ rest) 16 4 ≡ n = omega arith in
    let placed : number_at (program_header_bytes o s n f ++ rest) 20 4 ≡ n = omega arith in
    let flags : number_at (program_header_bytes o s n f ++ rest) 24 4 ≡ f = omega arith in
    λ i. record { p_type = 1; p_offset = offset i; p_vaddr = start i; p_filesz = filed i; p_memsz = placed i; p_flags = flags i }

program_header_after : (pre xs : List ℕ) → program_header (pre ++ xs) (length pre) ≡ program_header xs 0
unfolding program_header
program_header_after pre xs =
    let none : length pre ≡ length pre + 0 = omega arith in
    let kind : number_at (pre ++ xs) (length pre) 4 ≡ number_at xs 0 4 = ap (λ q. number_at (pre ++ xs) q 4) none ∙ number_after pre xs 0 4 in
    λ i. record {
      p_type = kind i;
      p_offset = number_after pre xs 4 4 i;
      p_vaddr = number_after pre xs 8 4 i;
      p_filesz = number_after pre xs 16 4 i;
      p_memsz = number_after pre xs 20 4 i;
      p_flags = number_after pre xs 24 4 i;
    }

header_back : (pre rest : List ℕ) (p : ProgramHeader) → IsSpelled p → program_header (pre ++ (bytes_of p ++ rest)) (length pre) ≡ p
header_back pre rest p s =
    program_header_after pre (bytes_of p ++ rest) ∙ program_header_first p.p_offset p.p_vaddr p.p_filesz p.p_flags rest s.offset s.start s.count s.flags
    ∙ (λ i. record { p_type = sym s.load i; p_offset = p.p_offset; p_vaddr = p.p_vaddr; p_filesz = p.p_filesz; p_memsz = sym s.same i; p_flags = p.p_flags })

-- All program headers of the list can be read back from their bytes.
abbrev pub AreSpelled : List ProgramHeader → Type 0
AreSpelled [] = Unit {0}
AreSpelled (p ∷ ps) = IsSpelled p × AreSpelled ps

map_shift : {X : Type 0} (f : ℕ → X) (a n : ℕ) → map f (range_with_len (a + 1) n) ≡ map (λ k. f (k + 1)) (range_with_len a n)
map_shift f a zero = refl
map_shift f a (suc n) = ap (λ xs. f (a + 1) ∷ xs) (map_shift f (a + 1) n)

same_map : {X : Type 0} (f g : ℕ → X) (a n : ℕ) → ((k : ℕ) → f k ≡ g k) → map f (range_with_len a n) ≡ map g (range_with_len a n)
same_map f g a zero h = refl
same_map f g a (suc n) h = λ i. h a i ∷ same_map f g (a + 1) n h i

pub table_back : (pre rest : List ℕ) (place : ℕ) (ps : List ProgramHeader) → length pre ≡ place → AreSpelled ps →
    map (λ k. program_header (pre ++ (flat_map bytes_of ps ++ rest)) (place + 32 * k)) (range_with_len 0 (length ps)) ≡ ps
table_back pre rest place [] e s = refl
table_back pre rest place (p ∷ ps) e s =
    let file = pre ++ ((bytes_of p ++ flat_map bytes_of ps) ++ rest) in
    let whole : file ≡ pre ++ (bytes_of p ++ (flat_map bytes_of ps ++ rest)) = ap (λ x. pre ++ x) (append_assoc (bytes_of p) (flat_map bytes_of ps) rest) in
    let here : place + 32 * 0 ≡ length pre = omega (arith, e) in
    let first : program_header file (place + 32 * 0) ≡ p =
    ap (program_header file) here ∙ ap (λ x. program_header x (length pre)) whole ∙ header_back pre (flat_map bytes_of ps ++ rest) p s.0 in
    let longer : file ≡ (pre ++ bytes_of p) ++ (flat_map bytes_of ps ++ rest) = whole ∙ sym (append_assoc pre (bytes_of p) (flat_map bytes_of ps ++ rest)) in
    let count : length (pre ++ bytes_of p) ≡ place + 32 = omega (arith, e, length-append pre (bytes_of p), length-bytes_of p) in
    let others =
    map_shift (λ k. program_header file (place + 32 * k)) 0 (length ps)
    ∙ same_map (λ k. program_header file (place + 32 * (k + 1)))
    (λ k. program_header ((pre ++ bytes_of p) ++ (flat_map bytes_of ps ++ rest)) (place + 32 + 32 * k)) 0 (length ps)
    (λ k. ap (program_header file) (omega arith) ∙ ap (λ x. program_header x (place + 32 + 32 * k)) longer)
    ∙ table_back (pre ++ bytes_of p) rest (place + 32) ps count s.1 in
    λ i. first i ∷ others i

pub length-flat_map-bytes_of : (ps : List ProgramHeader) → length (flat_map bytes_of ps) ≡ 32 * length ps
length-flat_map-bytes_of [] = refl
length-flat_map-bytes_of (p ∷ ps) = omega (arith, length-append (bytes_of p) (flat_map bytes_of ps), length-bytes_of p, length-flat_map-bytes_of ps)

-- ---- the table of a layout

abbrev pub code_header : Layout → ProgramHeader
code_header l = header_of (code_offset l) (region_start Code) (length l.code) (written_flags Code)

abbrev pub local_header : Layout → ProgramHeader
local_header l = header_of (local_offset l) (region_start Local) (length l.local) (written_flags Local)

abbrev pub shared_header : Layout → ProgramHeader
shared_header l = header_of (shared_offset l) (region_start Shared) (length l.shared) (written_flags Shared)

-- a table of the first header, with the second and third unless they are left out
abbrev pub table_with : ProgramHeader → ProgramHeader → ProgramHeader → Bool → Bool → List ProgramHeader
table_with p q r true true = p ∷ []
table_with p q r true false = p ∷ r ∷ []
table_with p q r false true = p ∷ q ∷ []
table_with p q r false false = p ∷ q ∷ r ∷ []

abbrev pub table : Layout → List ProgramHeader
table l = table_with (code_header l) (local_header l) (shared_header l) (is_nil l.local) (is_nil l.shared)

pub length-table_with : (p q r : ProgramHeader) (b d : Bool) → length (table_with p q r b d) ≡ 1 + cond b 0 1 + cond d 0 1
length-table_with p q r true true = refl
length-table_with p q r true false = refl
length-table_with p q r false true = refl
length-table_with p q r false false = refl

all_load : (p q r : ProgramHeader) (b d : Bool) → p.p_type ≡ 1 → q.p_type ≡ 1 → r.p_type ≡ 1 → filter is_load (table_with p q r b d) ≡ table_with p q r b d
all_load p q r true true e f g = rw e refl
all_load p q r true false e f g = rw (e, g) refl
all_load p q r false true e f g = rw (e, f) refl
all_load p q r false false e f g = rw (e, f, g) refl

all_spelled : (p q r : ProgramHeader) (b d : Bool) → IsSpelled p → IsSpelled q → IsSpelled r → AreSpelled (table_with p q r b d)
all_spelled p q r true true e f g = (e, tt)
all_spelled p q r true false e f g = (e, (g, tt))
all_spelled p q r false true e f g = (e, (f, tt))
all_spelled p q r false false e f g = (e, (f, (g, tt)))

joined : (head : List ℕ) (p q r : ProgramHeader) (b d : Bool) (code local shared : List ℕ) →
    (((((head ++ bytes_of p) ++ cond b [] (bytes_of q)) ++ cond d [] (bytes_of r)) ++ code) ++ local) ++ shared
    ≡ head ++ (flat_map bytes_of (table_with p q r b d) ++ (code ++ (local ++ shared)))
joined head p q r true true code local shared = simp (append_assoc, append-nil)
joined head p q r true false code local shared = simp (append_assoc, append-nil)
joined head p q r false true code local shared = simp (append_assoc, append-nil)
joined head p q r false false code local shared = simp (append_assoc, append-nil)

module _ (l : Layout) where
  abbrev header_bytes : List ℕ
  header_bytes = file_header_bytes l.entry (count_of l)

  -- The spelling is the ELF header, followed by the table and the bytes.
  pub in_parts : spelling l ≡ header_bytes ++ (flat_map bytes_of (table l) ++ (l.code ++ (l.local ++ l.shared)))
  unfolding spelling
  in_parts = joined header_bytes (code_header l) (local_header l) (shared_header l) (is_nil l.local) (is_nil l.shared) l.code l.local l.shared

  pub length-table : length (table l) ≡ count_of l
  length-table = length-table_with (code_header l) (local_header l) (shared_header l) (is_nil l.local) (is_nil l.shared)

  pub length-spelling : length (spelling l) ≡ shared_offset l + length l.shared
  length-spelling =
      ap length in_parts
      ∙ omega (
        arith,
        length-append header_bytes (flat_map bytes_of (table l) ++ (l.code ++ (l.local ++ l.shared))),
        length-file_header_bytes l.entry (count_of l),
        length-append (flat_map bytes_of (table l)) (l.code ++ (l.local ++ l.shared)),
        length-flat_map-bytes_of (table l),
        length-table,
        length-append l.code (l.local ++ l.shared),
        length-append l.local l.shared,
      )

  pub few : count_of l ≤ 3
  few = by_cases (is_nil l.local) (is_nil l.shared)
    where
      by_cases : (b d : Bool) → 1 + cond b 0 1 + cond d 0 1 ≤ 3
      by_cases true true = omega arith
      by_cases true false = omega arith
      by_cases false true = omega arith
      by_cases false false = omega arith

  -- The ELF header of a spelling has the layout's entry and its number of segments, if the entry is a word.
  pub header_read : l.entry < 2 ^ 32 → file_header (spelling l) ≡ spelled_header l.entry (count_of l)
  header_read h = ap file_header in_parts ∙ header_spelled l.entry (count_of l) _ h (omega (arith, few))

  -- If the entry is a word, the segments of a spelling of at most 1 MiB are those of the layout's table.
  pub segments_read : l.entry < 2 ^ 32 → length (spelling l) ≤ 1048576 → segments (spelling l) ≡ table l
  segments_read h short =
      let size = length-spelling in
      let code : IsSpelled (code_header l) =
      record { load = refl; same = refl; offset = omega (arith, size); start = omega arith; count = omega (arith, size); flags = omega arith } in
      let local : IsSpelled (local_header l) =
      record { load = refl; same = refl; offset = omega (arith, size); start = omega arith; count = omega (arith, size); flags = omega arith } in
      let shared : IsSpelled (shared_header l) =
      record { load = refl; same = refl; offset = omega (arith, size); start = omega arith; count = omega (arith, size); flags = omega arith } in
      let spelled = all_spelled (code_header l) (local_header l) (shared_header l) (is_nil l.local) (is_nil l.shared) code local shared in
      let rest = l.code ++ (l.local ++ l.shared) in
      let read : program_headers (spelling l) ≡ table l =
      ap (λ (x : FileHeader). map (λ k. program_header (spelling l) (x.e_phoff + 32 * k)) (range_with_len 0 x.e_phnum)) (header_read h)
      ∙ ap (λ n. map (λ k. program_header (spelling l) (52 + 32 * k)) (range_with_len 0 n)) (sym length-table)
      ∙ ap (λ x. map (λ k. program_header x (52 + 32 * k)) (range_with_len 0 (length (table l)))) in_parts
      ∙ table_back header_bytes rest 52 (table l) (length-file_header_bytes l.entry (count_of l)) spelled in
      ap (filter is_load) read ∙ all_load (code_header l) (local_header l) (shared_header l) (is_nil l.local) (is_nil l.shared) refl refl refl

-- A spelling is at most 148 bytes longer than the parts of its layout together.
pub short_headers : (l : Layout) → length (spelling l) ≤ 148 + length l.code + length l.local + length l.shared
short_headers l = omega (arith, length-spelling l, few l)
