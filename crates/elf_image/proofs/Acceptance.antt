-- Accepted input is not refused.
use Rattle.std.proofs.Common.{◌≡◌, ◌↔◌, ℕ, suc, ◌+◌, ◌-◌, ◌*◌, ◌/◌, ◌<◌, ◌≤◌, max, min, Bool}
use Rattle.std.proofs.Common.{true, false, not, cond, ◌&&◌, ◌||◌, List, [], ◌∷◌, map, length}
use Rattle.std.proofs.Common.{Option, None, Some, refl, ap, inl, inr, arith, nat_lt, nat_le}
use Rattle.std.specs.Prelude.{slice_get}
use Rattle.std.specs.List.{list_any}
use Rattle.std.proofs.lemmas.Bool.{cases_lt}
use Rattle.std.proofs.lemmas.Bool.Decides.{nat_tests}
use Rattle.elf_image.specs.declared.error.ImageError.{ImageError}
use Rattle.elf_image.specs.declared.error.ImageError.TheVariants.{Truncated, NotExecutable, UnsupportedHeader}
use Rattle.elf_image.specs.declared.error.ImageError.TheVariants.{OutsideInput, OutsideRegions, Overlap, Entry}
use Rattle.elf_image.specs.declared.error.ImageError.TheVariants.{TooLong}
use Rattle.elf_image.specs.declared.region.Region.{Region}
use Rattle.elf_image.specs.declared.region.Region.TheVariants.{Code, Local, Shared}
use Rattle.elf_image.specs.declared.segment.ProgramHeader.{ProgramHeader}
use Rattle.elf_image.specs.Headers.{file_header, segments}
use Rattle.elf_image.specs.Regions.{region_start, region_length, is_in, is_in_a_region}
use Rattle.elf_image.specs.Refusals.{is_executable, is_supported, header_refusal, is_in_file, segment_refusal}
use Rattle.elf_image.specs.Refusals.{segment_refusals, overlap, have_overlap, is_entry, first_of, refusal_of}
use Rattle.elf_image.specs.Segments.{Sets}
use Rattle.elf_image.specs.Images.{in_region, LiesIn, IsAccepted}

passes : {E : Type 0} (b : Bool) (e : E) (rest : Option E) → b ≡ false → rest ≡ None → cond b (Some e) rest ≡ None
passes b e rest p q = rw (p, q) refl

not_true : (b : Bool) → b ≡ true → not b ≡ false
not_true b e = rw e refl

-- If a conjunction is true, both of its parts are true.
pub and_true : (a b : Bool) → (a && b) ≡ true → (a ≡ true) × (b ≡ true)
and_true true b e = (refl, e)
and_true false b e = absurd (cc)

-- If no element of a list is refused, the list has no first refusal.
pub none_refused : {X : Type 0} (refusal : X → Option ImageError) (xs : List X) → ((k : ℕ) (x : X) → slice_get xs k ≡ Some x → refusal x ≡ None) →
    first_of (map refusal xs) ≡ None
none_refused refusal [] h = refl
none_refused refusal (x ∷ xs) h = rw (h 0 x refl) (none_refused refusal xs (λ k y at. h (suc k) y at))

any_false : {X : Type 0} (test : X → Bool) (xs : List X) → ((k : ℕ) (x : X) → slice_get xs k ≡ Some x → test x ≡ false) → list_any test xs ≡ false
any_false test [] h = refl
any_false test (x ∷ xs) h = rw (h 0 x refl) (any_false test xs (λ k y at. h (suc k) y at))

no_overlap : (ps : List ProgramHeader) → ((j k : ℕ) (p q : ProgramHeader) → j < k → slice_get ps j ≡ Some p → slice_get ps k ≡ Some q → overlap p q ≡ false) →
    have_overlap ps ≡ false
no_overlap [] h = refl
no_overlap (p ∷ ps) h =
    rw (any_false (overlap p) ps (λ k q at. h 0 (suc k) p q (omega arith) refl at))
    (no_overlap ps (λ j k q r less at_j at_k. h (suc j) (suc k) q r (omega arith) at_j at_k))

-- Two segments that set no common address do not overlap.
pub common : (p q : ProgramHeader) → ((a : ℕ) → Sets p a → Sets q a → ⊥) → overlap p q ≡ false
common p q none =
    elim (cases_lt (max p.p_vaddr q.p_vaddr) (min (p.p_vaddr + p.p_memsz) (q.p_vaddr + q.p_memsz))) [
      | inl less ↦ absurd (none (max p.p_vaddr q.p_vaddr) (omega arith, omega arith) (omega arith, omega arith))
      | inr more ↦ grind (arith, nat_tests, more)
    ]

-- An address in a region is between its ends.
between : (w : ℕ) (region : Region) (a : ℕ) → in_region w region a ≡ true → (region_start region ≤ a) × (a < region_start region + region_length w region)
between w Code a e = let q : a / 65536 ≡ 1 = grind (arith, nat_tests, e) in (omega arith, omega arith)
between w Local a e = let q : a / 65536 ≡ 2 = grind (arith, nat_tests, e) in (omega arith, omega arith)
between w Shared a e = (grind (arith, nat_tests, e), grind (arith, nat_tests, e))

-- A segment that sets an address and lies in a region passes the test of that region.
pub is_inside : (w : ℕ) (region : Region) (p : ProgramHeader) → 0 < p.p_memsz → LiesIn w region p → is_in w region p ≡ true
is_inside w region p some l =
    let first = between w region p.p_vaddr (l.inside p.p_vaddr (omega arith, omega arith)) in
    let last = between w region (p.p_vaddr + p.p_memsz - 1) (l.inside (p.p_vaddr + p.p_memsz - 1) (omega arith, omega arith)) in
    let above : nat_le (region_start region) p.p_vaddr ≡ true = grind (arith, nat_tests, first.0) in
    let end : p.p_vaddr + p.p_memsz ≤ region_start region + region_length w region = omega (arith, last.1) in
    let below : nat_le (p.p_vaddr + p.p_memsz) (region_start region + region_length w region) ≡ true = grind (arith, nat_tests, end) in
    rw (l.flagged, above, below) refl

-- A segment that passes the test of one region passes the test of lying in any.
pub in_one : (w : ℕ) (region : Region) (p : ProgramHeader) → is_in w region p ≡ true → is_in_a_region w p ≡ true
in_one w Code p e = in_first _ _ _ e
  where
    in_first : (a b c : Bool) → a ≡ true → (a || b || c) ≡ true
    in_first a b c e = rw e refl
in_one w Local p e = in_second (is_in w Code p) _ _ e
  where
    in_second : (a b c : Bool) → b ≡ true → (a || b || c) ≡ true
    in_second true b c e = refl
    in_second false b c e = rw e refl
in_one w Shared p e = in_third (is_in w Code p) (is_in w Local p) _ e
  where
    in_third : (a b c : Bool) → c ≡ true → (a || b || c) ≡ true
    in_third true b c e = refl
    in_third false true c e = refl
    in_third false false c e = e

-- A segment is not refused if its bytes are in the file, it has room for them, and it is empty or lies in a region.
pub segment_fine : (bytes w : ℕ) (p : ProgramHeader) → p.p_offset + p.p_filesz ≤ bytes → p.p_filesz ≤ p.p_memsz → (0 < p.p_memsz → is_in_a_region w p ≡ true) →
    segment_refusal bytes w p ≡ None
segment_fine bytes w p there room placed =
    let first : nat_le (p.p_offset + p.p_filesz) bytes ≡ true = grind (arith, nat_tests, there) in
    let second : nat_le p.p_filesz p.p_memsz ≡ true = grind (arith, nat_tests, room) in
    let filed : is_in_file bytes p ≡ true = rw (first, second) refl in
    passes (not (is_in_file bytes p)) OutsideInput _ (not_true (is_in_file bytes p) filed)
    (passes (nat_lt 0 p.p_memsz && not (is_in_a_region w p)) OutsideRegions None here refl)
  where
    here : (nat_lt 0 p.p_memsz && not (is_in_a_region w p)) ≡ false
    here =
        elim (cases_lt 0 p.p_memsz) [
          | inl some ↦ let test : nat_lt 0 p.p_memsz ≡ true = grind (arith, nat_tests, some) in rw test (not_true (is_in_a_region w p) (placed some))
          | inr none ↦ let test : nat_lt 0 p.p_memsz ≡ false = grind (arith, nat_tests, none) in rw test refl
        ]

-- Headers are not refused if they are executable and supported, and end within the file.
pub headers_fine : (file : List ℕ) → 52 ≤ length file → is_executable file (file_header file) ≡ true → is_supported (file_header file) ≡ true →
    (file_header file).e_phoff + 32 * (file_header file).e_phnum ≤ length file → header_refusal file ≡ None
headers_fine file long executable supported listed =
    let h = file_header file in
    let first : nat_lt (length file) 52 ≡ false = grind (arith, nat_tests, long) in
    let last : nat_lt (length file) (h.e_phoff + 32 * h.e_phnum) ≡ false = grind (arith, nat_tests, listed) in
    passes (nat_lt (length file) 52) Truncated _ first
    (passes (not (is_executable file h)) NotExecutable _ (not_true (is_executable file h) executable)
    (passes (not (is_supported h)) UnsupportedHeader _ (not_true (is_supported h) supported)
    (passes (nat_lt (length file) (h.e_phoff + 32 * h.e_phnum)) Truncated None last refl)))

five_none : (a b c d e : Option ImageError) → a ≡ None → b ≡ None → c ≡ None → d ≡ None → e ≡ None → first_of (a ∷ b ∷ c ∷ d ∷ e ∷ []) ≡ None
five_none a b c d e p q r s t = rw (p, q, r, s, t) refl

-- A file that no check refuses is not refused.
pub unrefused : (w : ℕ) (file : List ℕ) → length file ≤ 1048576 → header_refusal file ≡ None →
    first_of (segment_refusals (length file) w (segments file)) ≡ None →
    have_overlap (segments file) ≡ false → is_entry (file_header file).e_entry ≡ true → refusal_of w file ≡ None
unfolding refusal_of
unrefused w file size headers filed disjoint enters =
    let short : nat_lt 1048576 (length file) ≡ false = grind (arith, nat_tests, size) in
    five_none (cond (nat_lt 1048576 (length file)) (Some TooLong) None) (header_refusal file) (first_of (segment_refusals (length file) w (segments file)))
    (cond (have_overlap (segments file)) (Some Overlap) None) (cond (is_entry (file_header file).e_entry) None (Some Entry))
    (ap (λ b. cond b (Some TooLong) None) short) headers filed (ap (λ b. cond b (Some Overlap) None) disjoint) (ap (λ b. cond b None (Some Entry)) enters)

-- A file that is accepted is not refused.
pub accepted_is_not_refused : (w : ℕ) (file : List ℕ) → IsAccepted w file → refusal_of w file ≡ None
accepted_is_not_refused w file a =
    unrefused w file a.not_long (headers_fine file a.headed a.executable a.supported a.listed)
    (none_refused (segment_refusal (length file) w) (segments file) (λ k p at.
    segment_fine (length file) w p (a.filed k p at).0 (a.filed k p at).1 (λ some. let there = a.placed k p at some in
    in_one w there.0 p (is_inside w there.0 p some there.1))))
    (no_overlap (segments file) (λ j k p q less at_j at_k. common p q (λ x s t. let same = a.apart j k p q x at_j at_k s t in
    absurd (omega (arith, same, less)))))
    a.entry
