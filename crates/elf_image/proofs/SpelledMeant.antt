-- The spelling of a layout is accepted, and means the layout.
use Rattle.std.proofs.Common.{◌≡◌, ℕ, zero, suc, ◌+◌, ◌-◌, ◌*◌, ◌/◌, ◌%◌, ◌^◌, ◌<◌, ◌≤◌, Bool, true, false, cond}
use Rattle.std.proofs.Common.{◌&&◌, List, [], ◌++◌, length, None, Some, refl, sym, ap, subst, ◌∙◌, ◌⊎◌, inl, inr}
use Rattle.std.proofs.Common.{arith, append_assoc, append-nil, length-append, nat_lt, nat_le, eqb, eq-eqb}
use Rattle.std.specs.Prelude.{slice_get, slice_index}
use Rattle.std.specs.List.{flat_map}
use Rattle.std.proofs.lemmas.Option.{slice_get_within}
use Rattle.std.proofs.lemmas.Bool.{cases_lt}
use Rattle.std.proofs.lemmas.Bool.Decides.{nat_tests}
use Rattle.std.proofs.lemmas.List.{get_or-append-add, get_or_append_left, get_or_past}
use Rattle.flat_machine.specs.Memory.{in_code}
use Rattle.elf_image.specs.declared.layout.Layout.{Layout}
use Rattle.elf_image.specs.declared.region.Region.{Region}
use Rattle.elf_image.specs.declared.region.Region.TheVariants.{Code, Local, Shared}
use Rattle.elf_image.specs.declared.segment.ProgramHeader.{ProgramHeader}
use Rattle.elf_image.specs.Headers.{file_header, segments}
use Rattle.elf_image.specs.Regions.{region_start, region_length, is_flagged, is_in, sets_in}
use Rattle.elf_image.specs.Refusals.{is_executable, is_supported, is_entry, overlap, have_overlap, segment_refusal, segment_refusals, first_of, refusal_of}
use Rattle.elf_image.specs.Segments.{Sets, byte_of}
use Rattle.elf_image.specs.Loading.{IsOne, IsLoaded, LoadsLayout}
use Rattle.elf_image.specs.Images.{IsAccepted, IsMeant, IsPlaced}
use Rattle.elf_image.specs.Spellings.{file_header_bytes, is_nil, count_of, code_offset, local_offset, shared_offset, spelling}
use Rattle.elf_image.proofs.Acceptance.{and_true, segment_fine, headers_fine, none_refused, in_one, unrefused}
use Rattle.elf_image.proofs.Spelled.{header_of, header_read, segments_read, spelled_header, in_parts, length-spelling}
use Rattle.elf_image.proofs.Spelled.{length-table, length-file_header_bytes, length-flat_map-bytes_of, bytes_of}
use Rattle.elf_image.proofs.Spelled.{table, table_with, code_header, local_header, shared_header}

-- ---- the headers in the table

-- A header of a table is the first, or the second or third if the table has it.
listed : (p q r x : ProgramHeader) (b d : Bool) (k : ℕ) → slice_get (table_with p q r b d) k ≡ Some x →
    (x ≡ p) ⊎ ((x ≡ q) × (b ≡ false)) ⊎ ((x ≡ r) × (d ≡ false))
listed p q r x true true zero e = inl (cc)
listed p q r x true true (suc k) e = absurd (cc)
listed p q r x true false zero e = inl (cc)
listed p q r x true false (suc zero) e = inr (inr (cc, refl))
listed p q r x true false (suc (suc k)) e = absurd (cc)
listed p q r x false true zero e = inl (cc)
listed p q r x false true (suc zero) e = inr (inl (cc, refl))
listed p q r x false true (suc (suc k)) e = absurd (cc)
listed p q r x false false zero e = inl (cc)
listed p q r x false false (suc zero) e = inr (inl (cc, refl))
listed p q r x false false (suc (suc zero)) e = inr (inr (cc, refl))
listed p q r x false false (suc (suc (suc k))) e = absurd (cc)

first_listed : (p q r : ProgramHeader) (b d : Bool) → slice_get (table_with p q r b d) 0 ≡ Some p
first_listed p q r true true = refl
first_listed p q r true false = refl
first_listed p q r false true = refl
first_listed p q r false false = refl

second_listed : (p q r : ProgramHeader) (b d : Bool) → b ≡ false → slice_get (table_with p q r b d) 1 ≡ Some q
second_listed p q r true d e = absurd (cc)
second_listed p q r false true e = refl
second_listed p q r false false e = refl

third_listed : (p q r : ProgramHeader) (b d : Bool) → d ≡ false → (k : ℕ) × (slice_get (table_with p q r b d) k ≡ Some r)
third_listed p q r b true e = absurd (cc)
third_listed p q r true false e = (1, refl)
third_listed p q r false false e = (2, refl)

-- Two headers do not overlap if the first ends before the second begins.
below : (p q : ProgramHeader) → p.p_vaddr + p.p_memsz ≤ q.p_vaddr → overlap p q ≡ false
below p q h = grind (arith, nat_tests, h)

rising : (p q r : ProgramHeader) (b d : Bool) → overlap p q ≡ false → overlap p r ≡ false → overlap q r ≡ false → have_overlap (table_with p q r b d) ≡ false
rising p q r true true e f g = refl
rising p q r true false e f g = rw f refl
rising p q r false true e f g = rw e refl
rising p q r false false e f g = rw (e, f, g) refl

-- ---- a header in its region

lies : (w : ℕ) (region : Region) (offset count flags : ℕ) → is_flagged region flags ≡ true → count ≤ region_length w region →
    is_in w region (header_of offset (region_start region) count flags) ≡ true
lies w region offset count flags flagged room =
    let above : nat_le (region_start region) (region_start region) ≡ true = grind (arith, nat_tests) in
    let end : nat_le (region_start region + count) (region_start region + region_length w region) ≡ true = grind (arith, nat_tests, room) in
    rw (flagged, above, end) refl

some_bytes : (bytes : List ℕ) → 0 < length bytes → is_nil bytes ≡ false
some_bytes bytes h = grind (arith, nat_tests, h)

-- the bytes of a region in which one header sets addresses
module _ (file : List ℕ) (ps : List ProgramHeader) (w : ℕ) (region : Region) (offset flags : ℕ) (bytes : List ℕ)
    (only : (k : ℕ) (p : ProgramHeader) → IsOne ps w region k p → p ≡ header_of offset (region_start region) (length bytes) flags)
    (some : 0 < length bytes → (k : ℕ) × (k < length ps) × IsOne ps w region k (header_of offset (region_start region) (length bytes) flags))
    (at : (i : ℕ) → i < length bytes → slice_index file (offset + i) ≡ slice_index bytes i) where
  abbrev header : ProgramHeader
  header = header_of offset (region_start region) (length bytes) flags

  byte_here : (i : ℕ) (b : Bool) → nat_lt (region_start region + i - region_start region) (length bytes) ≡ b → i < length bytes →
      slice_index bytes i ≡ cond b (slice_index file (offset + (region_start region + i - region_start region))) 0
  byte_here i true e h = sym (ap (λ x. slice_index file (offset + x)) (omega arith) ∙ at i h)
  byte_here i false e h = let past : length bytes ≤ region_start region + i - region_start region = grind (arith, nat_tests, e) in absurd (omega (arith, past))

  pub loaded_alone : IsLoaded file ps w region bytes
  loaded_alone = record {
    extent = record {
      reached = λ k p h one. let same = only k p one in omega (arith, ap (λ x. x.p_vaddr) same, ap (λ x. x.p_memsz) same);
      last = λ h. let there = some h in (there.0, header, there.2, refl);
    };
    loaded = record { set = set; unset = unset };
  }
    where
      set : (k : ℕ) (p : ProgramHeader) (i : ℕ) → k < length ps → IsOne ps w region k p → Sets p (region_start region + i) →
          slice_index bytes i ≡ byte_of file p (region_start region + i)
      set k p i h one s =
          let same = only k p one in
          let P : ProgramHeader → Type 0 = λ x. Sets x (region_start region + i) → slice_index bytes i ≡ byte_of file x (region_start region + i) in
          subst P (sym same) (λ t. byte_here i (nat_lt (region_start region + i - region_start region) (length bytes)) refl (omega (arith, t.1))) s

      unset : (i : ℕ) → ((k : ℕ) (p : ProgramHeader) → k < length ps → IsOne ps w region k p → Sets p (region_start region + i) → ⊥) → slice_index bytes i ≡ 0
      unset i none =
          elim (cases_lt i (length bytes)) [
            | inl less ↦ let there = some (omega arith) in absurd (none there.0 header there.1 there.2 (omega arith, omega arith))
            | inr past ↦ get_or_past bytes i 0 past
          ]

-- ---- the bytes

found : (file pre bytes rest : List ℕ) (place i : ℕ) → file ≡ pre ++ (bytes ++ rest) → length pre ≡ place → i < length bytes →
    slice_index file (place + i) ≡ slice_index bytes i
found file pre bytes rest place i whole e h =
    ap (λ f. slice_index f (place + i)) whole
    ∙ ap (slice_index (pre ++ (bytes ++ rest))) (let there : place + i ≡ length pre + i = omega (arith, e) in there)
    ∙ get_or-append-add pre (bytes ++ rest) i 0
    ∙ get_or_append_left bytes rest 0 i h

executable_bytes : (entry count : ℕ) (rest : List ℕ) → is_executable (file_header_bytes entry count ++ rest) (spelled_header entry count) ≡ true
unfolding file_header_bytes
executable_bytes entry count rest = refl

supported_count : (entry : ℕ) (b d : Bool) → is_supported (spelled_header entry (1 + cond b 0 1 + cond d 0 1)) ≡ true
supported_count entry true true = refl
supported_count entry true false = refl
supported_count entry false true = refl
supported_count entry false false = refl

both : (a b : Bool) → a ≡ true → b ≡ true → (a && b) ≡ true
both a b e f = rw (e, f) refl

-- The segment sets addresses, all in the region.
record StandsIn (w : ℕ) (region : Region) (p : ProgramHeader) : Type 0 where
  some : 0 < p.p_memsz
  above : region_start region ≤ p.p_vaddr
  below : p.p_vaddr + p.p_memsz ≤ region_start region + region_length w region

stands_in : (w : ℕ) (region : Region) (p : ProgramHeader) → sets_in w region p ≡ true → StandsIn w region p
stands_in w region p e =
    let flags = is_flagged region p.p_flags in
    let first = nat_le (region_start region) p.p_vaddr in
    let whole = and_true (nat_lt 0 p.p_memsz) (is_in w region p) e in
    let last = and_true (flags && first) (nat_le (p.p_vaddr + p.p_memsz) (region_start region + region_length w region)) whole.1 in
    let begins = and_true flags first last.0 in
    record { some = grind (arith, nat_tests, whole.0); above = grind (arith, nat_tests, begins.1); below = grind (arith, nat_tests, last.1) }

-- ---- the whole

module _ (w : ℕ) (l : Layout) (placed : IsPlaced l w) (short : length (spelling l) ≤ 1048576) where
  size : length (spelling l) ≡ shared_offset l + length l.shared
  size = length-spelling l

  entry_small : l.entry < 2 ^ 32
  entry_small = let q : l.entry / 65536 ≡ 1 = grind (arith, nat_tests, placed.entry_in_code) in omega (arith, q)

  header_is : file_header (spelling l) ≡ spelled_header l.entry (count_of l)
  header_is = header_read l entry_small

  table_is : segments (spelling l) ≡ table l
  table_is = segments_read l entry_small short

  code_lies : is_in w Code (code_header l) ≡ true
  code_lies = lies w Code (code_offset l) (length l.code) 5 refl placed.code

  local_lies : is_in w Local (local_header l) ≡ true
  local_lies = lies w Local (local_offset l) (length l.local) 6 refl placed.local

  shared_lies : is_in w Shared (shared_header l) ≡ true
  shared_lies = lies w Shared (shared_offset l) (length l.shared) 6 refl placed.shared

  each_fine : (k : ℕ) (p : ProgramHeader) → slice_get (table l) k ≡ Some p → segment_refusal (length (spelling l)) w p ≡ None
  each_fine k p at =
      let code = segment_fine (length (spelling l)) w (code_header l) (omega (arith, size)) (omega arith) (λ some. in_one w Code (code_header l) code_lies) in
      let local =
      segment_fine (length (spelling l)) w (local_header l) (omega (arith, size)) (omega arith) (λ some. in_one w Local (local_header l) local_lies) in
      let shared =
      segment_fine (length (spelling l)) w (shared_header l) (omega (arith, size)) (omega arith) (λ some. in_one w Shared (shared_header l) shared_lies) in
      elim (listed (code_header l) (local_header l) (shared_header l) p (is_nil l.local) (is_nil l.shared) k at) [
        | inl e ↦ ap (segment_refusal (length (spelling l)) w) e ∙ code
        | inr others ↦ elim others [
          | inl e ↦ ap (segment_refusal (length (spelling l)) w) e.0 ∙ local
          | inr e ↦ ap (segment_refusal (length (spelling l)) w) e.0 ∙ shared
        ]
      ]

  passed : refusal_of w (spelling l) ≡ None
  passed =
      unrefused w (spelling l) short
      (headers_fine (spelling l) (omega (arith, size))
      (ap (is_executable (spelling l)) header_is ∙ ap (λ x. is_executable x (spelled_header l.entry (count_of l))) (in_parts l)
      ∙ executable_bytes l.entry (count_of l) _)
      (ap is_supported header_is ∙ supported_count l.entry (is_nil l.local) (is_nil l.shared))
      (subst (λ h. h.e_phoff + 32 * h.e_phnum ≤ length (spelling l)) (sym header_is) (omega (arith, size))))
      (ap (λ x. first_of (segment_refusals (length (spelling l)) w x)) table_is ∙ none_refused (segment_refusal (length (spelling l)) w) (table l) each_fine)
      (ap have_overlap table_is
      ∙ rising (code_header l) (local_header l) (shared_header l) (is_nil l.local) (is_nil l.shared)
      (below (code_header l) (local_header l) (omega (arith, placed.code)))
      (below (code_header l) (shared_header l) (omega (arith, placed.code)))
      (below (local_header l) (shared_header l) (omega (arith, placed.local))))
      (ap (λ h. is_entry h.e_entry) header_is ∙ both (in_code l.entry) (eqb (l.entry % 4) 0) placed.entry_in_code (eq-eqb (l.entry % 4) 0 placed.entry_aligned))

  some_sets : (region : Region) (p : ProgramHeader) → 0 < p.p_memsz → is_in w region p ≡ true → sets_in w region p ≡ true
  some_sets region p h e = let test : nat_lt 0 p.p_memsz ≡ true = grind (arith, nat_tests, h) in rw test e

  -- A header that sets addresses of a region is one of the three, and it sets them.
  which_one : (region : Region) (k : ℕ) (p : ProgramHeader) → IsOne (table l) w region k p →
      ((p ≡ code_header l) × (sets_in w region (code_header l) ≡ true)) ⊎ ((p ≡ local_header l) × (sets_in w region (local_header l) ≡ true))
      ⊎ ((p ≡ shared_header l) × (sets_in w region (shared_header l) ≡ true))
  which_one region k p one =
      elim (listed (code_header l) (local_header l) (shared_header l) p (is_nil l.local) (is_nil l.shared) k one.at) [
        | inl e ↦ inl (e, subst (λ x. sets_in w region x ≡ true) e one.sets)
        | inr others ↦ elim others [
          | inl e ↦ inr (inl (e.0, subst (λ x. sets_in w region x ≡ true) e.0 one.sets))
          | inr e ↦ inr (inr (e.0, subst (λ x. sets_in w region x ≡ true) e.0 one.sets))
        ]
      ]

  only_code : (k : ℕ) (p : ProgramHeader) → IsOne (table l) w Code k p → p ≡ code_header l
  only_code k p one =
      elim (which_one Code k p one) [
        | inl e ↦ e.0
        | inr others ↦ elim others [
          | inl e ↦ let i = stands_in w Code (local_header l) e.1 in absurd (omega (arith, i.some, i.below))
          | inr e ↦ let i = stands_in w Code (shared_header l) e.1 in absurd (omega (arith, i.below))
        ]
      ]

  only_local : (k : ℕ) (p : ProgramHeader) → IsOne (table l) w Local k p → p ≡ local_header l
  only_local k p one =
      elim (which_one Local k p one) [
        | inl e ↦ let i = stands_in w Local (code_header l) e.1 in absurd (omega (arith, i.above))
        | inr others ↦ elim others [ inl e ↦ e.0 | inr e ↦ let i = stands_in w Local (shared_header l) e.1 in absurd (omega (arith, i.below)) ]
      ]

  only_shared : (k : ℕ) (p : ProgramHeader) → IsOne (table l) w Shared k p → p ≡ shared_header l
  only_shared k p one =
      elim (which_one Shared k p one) [
        | inl e ↦ let i = stands_in w Shared (code_header l) e.1 in absurd (omega (arith, i.above))
        | inr others ↦ elim others [ inl e ↦ let i = stands_in w Shared (local_header l) e.1 in absurd (omega (arith, i.above)) | inr e ↦ e.0 ]
      ]

  one_at : (region : Region) (k : ℕ) (p : ProgramHeader) → slice_get (table l) k ≡ Some p → 0 < p.p_memsz → is_in w region p ≡ true →
      (j : ℕ) × (j < length (table l)) × IsOne (table l) w region j p
  one_at region k p at h e = (k, slice_get_within (table l) k p at, record { at = at; sets = some_sets region p h e })

  some_code : 0 < length l.code → (k : ℕ) × (k < length (table l)) × IsOne (table l) w Code k (code_header l)
  some_code h = one_at Code 0 (code_header l) (first_listed (code_header l) (local_header l) (shared_header l) (is_nil l.local) (is_nil l.shared)) h code_lies

  some_local : 0 < length l.local → (k : ℕ) × (k < length (table l)) × IsOne (table l) w Local k (local_header l)
  some_local h =
      one_at Local 1 (local_header l) (second_listed (code_header l) (local_header l) (shared_header l) (is_nil l.local) (is_nil l.shared)
      (some_bytes l.local h)) h local_lies

  some_shared : 0 < length l.shared → (k : ℕ) × (k < length (table l)) × IsOne (table l) w Shared k (shared_header l)
  some_shared h =
      let at = third_listed (code_header l) (local_header l) (shared_header l) (is_nil l.local) (is_nil l.shared) (some_bytes l.shared h) in
      one_at Shared at.0 (shared_header l) at.1 h shared_lies

  -- the headers of a spelling
  abbrev head : List ℕ
  head = file_header_bytes l.entry (count_of l) ++ flat_map bytes_of (table l)

  whole : spelling l ≡ head ++ (l.code ++ (l.local ++ l.shared))
  whole = in_parts l ∙ sym (append_assoc (file_header_bytes l.entry (count_of l)) (flat_map bytes_of (table l)) (l.code ++ (l.local ++ l.shared)))

  length-head : length head ≡ code_offset l
  length-head =
      omega (
        arith,
        length-append (file_header_bytes l.entry (count_of l)) (flat_map bytes_of (table l)),
        length-file_header_bytes l.entry (count_of l),
        length-flat_map-bytes_of (table l),
        length-table l,
      )

  at_code : (i : ℕ) → i < length l.code → slice_index (spelling l) (code_offset l + i) ≡ slice_index l.code i
  at_code i h = found (spelling l) head l.code (l.local ++ l.shared) (code_offset l) i whole length-head h

  at_local : (i : ℕ) → i < length l.local → slice_index (spelling l) (local_offset l + i) ≡ slice_index l.local i
  at_local i h =
      found (spelling l) (head ++ l.code) l.local l.shared (local_offset l) i (whole ∙ sym (append_assoc head l.code (l.local ++ l.shared)))
      (omega (arith, length-append head l.code, length-head)) h

  at_shared : (i : ℕ) → i < length l.shared → slice_index (spelling l) (shared_offset l + i) ≡ slice_index l.shared i
  at_shared i h =
      let behind : spelling l ≡ ((head ++ l.code) ++ l.local) ++ (l.shared ++ []) =
      whole ∙ sym (append_assoc head l.code (l.local ++ l.shared)) ∙ sym (append_assoc (head ++ l.code) l.local l.shared)
      ∙ ap (λ x. ((head ++ l.code) ++ l.local) ++ x) (sym (append-nil l.shared)) in
      found (spelling l) ((head ++ l.code) ++ l.local) l.shared [] (shared_offset l) i behind
      (omega (arith, length-append (head ++ l.code) l.local, length-append head l.code, length-head)) h

  loads : LoadsLayout (spelling l) w l
  loads =
      let back = sym table_is in
      record {
        entry = sym (ap (λ h. h.e_entry) header_is);
        code = subst (λ x. IsLoaded (spelling l) x w Code l.code) back
            (loaded_alone (spelling l) (table l) w Code (code_offset l) 5 l.code only_code some_code at_code);
        local = subst (λ x. IsLoaded (spelling l) x w Local l.local) back
            (loaded_alone (spelling l) (table l) w Local (local_offset l) 6 l.local only_local some_local at_local);
        shared = subst (λ x. IsLoaded (spelling l) x w Shared l.shared) back
            (loaded_alone (spelling l) (table l) w Shared (shared_offset l) 6 l.shared only_shared some_shared at_shared);
      }

-- The spelling of a layout is accepted and means the layout, if files that are not refused do.
pub spelling_means : ((w : ℕ) (file : List ℕ) → refusal_of w file ≡ None → IsAccepted w file) →
    ((w : ℕ) (file : List ℕ) (l : Layout) → refusal_of w file ≡ None → LoadsLayout file w l → IsMeant w file l) →
    (w : ℕ) (l : Layout) → IsPlaced l w → length (spelling l) ≤ 1048576 → IsAccepted w (spelling l) × IsMeant w (spelling l) l
spelling_means accepted meant w l placed short =
    (accepted w (spelling l) (passed w l placed short), meant w (spelling l) l (passed w l placed short) (loads w l placed short))
