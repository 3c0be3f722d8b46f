-- A file that passes the checks is accepted, and the layout that is loaded from it is what it means.
use Rattle.std.proofs.Common.{◌≡◌, ℕ, ◌+◌, ◌-◌, ◌/◌, ◌%◌, ◌<◌, ◌≤◌, Bool, true, false, cond, List}
use Rattle.std.proofs.Common.{[], length, None, Some, refl, ap, ◌∙◌, inl, inr, arith, nat_lt, eqb}
use Rattle.std.specs.Prelude.{slice_get, slice_index}
use Rattle.std.proofs.lemmas.Bool.{cases_lt, cases_eq}
use Rattle.std.proofs.lemmas.Bool.Decides.{nat_tests}
use Rattle.std.proofs.lemmas.Option.{slice_get_within}
use Rattle.flat_machine.specs.Memory.{in_code}
use Rattle.elf_image.specs.declared.error.ImageError.{ImageError}
use Rattle.elf_image.specs.declared.error.ImageError.TheVariants.{TooLong, Overlap, Entry}
use Rattle.elf_image.specs.declared.layout.Layout.{Layout}
use Rattle.elf_image.specs.declared.region.Region.{Region}
use Rattle.elf_image.specs.declared.region.Region.TheVariants.{Code, Local, Shared}
use Rattle.elf_image.specs.declared.segment.ProgramHeader.{ProgramHeader}
use Rattle.elf_image.specs.Headers.{file_header, segments}
use Rattle.elf_image.specs.Regions.{region_start, region_length, is_in}
use Rattle.elf_image.specs.Refusals.{is_entry, header_refusal, segment_refusal, segment_refusals, first_of, have_overlap, refusal_of}
use Rattle.elf_image.specs.Segments.{Sets, byte_of, IsSet, IsUnset}
use Rattle.elf_image.specs.Loading.{IsOne, IsLoaded, LoadsLayout}
use Rattle.elf_image.specs.Images.{in_region, LiesIn, IsAccepted, HasBytes, IsMeant, IsPlaced}
use Rattle.elf_image.proofs.Conditions.{each_none, and_true, first_none, passed as no_refusal}
use Rattle.elf_image.proofs.Checked.{headed, Checked, checked, inside, which, at_home, apart}
use Rattle.elf_image.proofs.Loaded.{sets_inside}

-- An address between the ends of a region is in it.
address_in : (w : ℕ) (region : Region) (a : ℕ) → region_start region ≤ a → a < region_start region + region_length w region → in_region w region a ≡ true
address_in w Code a low high = let q : a / 65536 ≡ 1 = omega (arith, low, high) in grind (arith, nat_tests, q)
address_in w Local a low high = let q : a / 65536 ≡ 2 = omega (arith, low, high) in grind (arith, nat_tests, q)
address_in w Shared a low high = grind (arith, nat_tests, low, high)

lies_in : (w : ℕ) (region : Region) (p : ProgramHeader) → is_in w region p ≡ true → LiesIn w region p
lies_in w region p e =
    let i = inside w region p e in
    record { flagged = i.flagged; inside = λ a s. address_in w region a (omega (arith, i.above, s.0)) (omega (arith, i.below, s.1)) }

-- No check refuses the file.
pub record Passed (shared_words : ℕ) (file : List ℕ) : Type 0 where
  -- the file is at most 1 MiB long
  pub short : length file ≤ 1048576
  -- its headers are not refused
  pub headers : header_refusal file ≡ None
  -- none of its segments is refused
  pub filed : first_of (segment_refusals (length file) shared_words (segments file)) ≡ None
  -- no two segments overlap
  pub disjoint : have_overlap (segments file) ≡ false
  -- a processor can start at its entry
  pub enters : is_entry (file_header file).e_entry ≡ true

entry_passed : (b : Bool) (e : ImageError) → cond b None (Some e) ≡ None → b ≡ true
entry_passed true e h = refl
entry_passed false e h = absurd (cc)

-- If a file is not refused, no check refuses it.
not_refused : (w : ℕ) (file : List ℕ) → refusal_of w file ≡ None → Passed w file
unfolding refusal_of
not_refused w file h =
    let a = first_none (cond (nat_lt 1048576 (length file)) (Some TooLong) None) _ h in
    let b = first_none (header_refusal file) _ a.1 in
    let c = first_none (first_of (segment_refusals (length file) w (segments file))) _ b.1 in
    let d = first_none (cond (have_overlap (segments file)) (Some Overlap) None) _ c.1 in
    let e = first_none (cond (is_entry (file_header file).e_entry) None (Some Entry)) [] d.1 in
    let short : nat_lt 1048576 (length file) ≡ false = (no_refusal _ TooLong None a.0).0 in
    record {
      short = grind (arith, nat_tests, short);
      headers = b.0;
      filed = c.0;
      disjoint = (no_refusal _ Overlap None d.0).0;
      enters = entry_passed _ Entry e.0;
    }

module _ (w : ℕ) (file : List ℕ) (passed : Passed w file) where
  check : (k : ℕ) (p : ProgramHeader) → slice_get (segments file) k ≡ Some p → Checked (length file) w p
  check k p at = checked (length file) w p (each_none (segment_refusal (length file) w) (segments file) k p passed.filed at)

  -- A file that no check refuses is accepted.
  pub accepted : IsAccepted w file
  accepted =
      let h = headed file passed.headers in
      record {
        not_long = passed.short;
        headed = h.long;
        executable = h.executable;
        supported = h.supported;
        listed = h.listed;
        filed = λ k p at. ((check k p at).there, (check k p at).room);
        placed = λ k p at some. let there = which w p ((check k p at).placed some) in (there.0, lies_in w there.0 p there.1);
        apart = alone;
        entry = passed.enters;
      }
    where
      alone : (j k : ℕ) (p q : ProgramHeader) (a : ℕ) → slice_get (segments file) j ≡ Some p → slice_get (segments file) k ≡ Some q → Sets p a → Sets q a →
          j ≡ k
      alone j k p q a at_j at_k s t =
          elim (cases_eq j k) [
            | inl e ↦ e
            | inr ne ↦ elim (cases_lt j k) [
              | inl less ↦ absurd (apart (segments file) j k p q a passed.disjoint less at_j at_k s t)
              | inr more ↦ absurd (apart (segments file) k j q p a passed.disjoint (omega arith) at_k at_j t s)
            ]
          ]

  -- A segment that sets an address of a region sets addresses in that region.
  one : (region : Region) (k : ℕ) (p : ProgramHeader) (i : ℕ) → slice_get (segments file) k ≡ Some p → i < region_length w region →
      Sets p (region_start region + i) → IsOne (segments file) w region k p
  one region k p i at h s =
      let some : 0 < p.p_memsz = omega (arith, s.0, s.1) in
      let home : is_in w region p ≡ true = at_home w region p i ((check k p at).placed some) s h in
      let test : nat_lt 0 p.p_memsz ≡ true = grind (arith, nat_tests, some) in
      record { at = at; sets = rw test home }

  pub has_bytes : (region : Region) (bytes : List ℕ) → IsLoaded file (segments file) w region bytes → HasBytes file w region bytes
  has_bytes region bytes l = record { set = set; unset = unset; after = behind; last = last; fits = fits }
    where
      fits : length bytes ≤ region_length w region
      fits =
          elim (cases_lt 0 (length bytes)) [
            | inl some ↦ let end = l.extent.last some in let i = (sets_inside w region end.1 end.2.sets).1 in omega (arith, i.below, end.3)
            | inr none ↦ omega arith
          ]

      set : (k : ℕ) (p : ProgramHeader) (i : ℕ) → slice_get (segments file) k ≡ Some p → i < length bytes → Sets p (region_start region + i) →
          slice_index bytes i ≡ byte_of file p (region_start region + i)
      set k p i at h s = l.loaded.set k p i (slice_get_within (segments file) k p at) (one region k p i at (omega (arith, h, fits)) s) s

      unset : (i : ℕ) → i < length bytes → IsUnset (segments file) (region_start region + i) → slice_index bytes i ≡ 0
      unset i h none = l.loaded.unset i (λ k p h o s. none k p o.at s)

      behind : (i : ℕ) → length bytes ≤ i → i < region_length w region → IsUnset (segments file) (region_start region + i)
      behind i past h k p at s =
          let reached = l.extent.reached k p (slice_get_within (segments file) k p at) (one region k p i at h s) in omega (arith, reached, s.1)

      last : 0 < length bytes → IsSet (segments file) (region_start region + (length bytes - 1))
      last some =
          let end = l.extent.last some in
          let i = sets_inside w region end.1 end.2.sets in
          (end.0, end.1, end.2.at, (omega (arith, i.0, i.1.above, end.3), omega (arith, end.3)))

  -- A layout is what the file means if it has the file's entry and each region's loaded bytes.
  pub meant : (layout : Layout) → layout.entry ≡ (file_header file).e_entry →
      IsLoaded file (segments file) w Code layout.code → IsLoaded file (segments file) w Local layout.local →
      IsLoaded file (segments file) w Shared layout.shared →
      IsMeant w file layout
  meant layout entry code local shared = record {
    entry = entry;
    code = has_bytes Code layout.code code;
    local = has_bytes Local layout.local local;
    shared = has_bytes Shared layout.shared shared;
  }

  -- The layout that the file means fits its regions, and its entry is an aligned address of code.
  pub placed : (layout : Layout) → IsMeant w file layout → IsPlaced layout w
  placed layout m =
      let entry = (file_header file).e_entry in
      let tests = and_true (in_code entry) (eqb (entry % 4) 0) passed.enters in
      let whole : entry % 4 ≡ 0 = grind (arith, nat_tests, tests.1) in
      record {
        entry_in_code = ap in_code m.entry ∙ tests.0;
        entry_aligned = ap (λ a. a % 4) m.entry ∙ whole;
        code = m.code.fits;
        local = m.local.fits;
        shared = m.shared.fits;
      }

-- ---- for the laws

-- A file that is not refused is accepted.
pub accepted_file : (w : ℕ) (file : List ℕ) → refusal_of w file ≡ None → IsAccepted w file
accepted_file w file h = accepted w file (not_refused w file h)

-- If a file is not refused, the layout that is loaded from it is what it means.
pub meant_layout : (w : ℕ) (file : List ℕ) (layout : Layout) → refusal_of w file ≡ None → LoadsLayout file w layout → IsMeant w file layout
meant_layout w file layout h l = meant w file (not_refused w file h) layout l.entry l.code l.local l.shared
