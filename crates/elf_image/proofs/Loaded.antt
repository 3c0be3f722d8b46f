-- Loading one more segment.
use Rattle.std.proofs.Common.{◌≡◌, ℕ, ◌+◌, ◌-◌, ◌<◌, ◌≤◌, max, Bool, true, false, cond, List, Some, refl, sym, subst, ap, ◌∙◌, inl, inr, arith, nat_lt}
use Rattle.std.specs.Prelude.{slice_get, slice_index}
use Rattle.std.proofs.lemmas.Bool.{cases_eq, cases_lt}
use Rattle.std.proofs.lemmas.Bool.Decides.{nat_tests}
use Rattle.elf_image.specs.declared.region.Region.{Region}
use Rattle.elf_image.specs.declared.segment.ProgramHeader.{ProgramHeader}
use Rattle.elf_image.specs.Regions.{region_start, sets_in, is_in}
use Rattle.elf_image.specs.Segments.{Sets, byte_of}
use Rattle.elf_image.specs.Loading.{IsOne, IsExtent, CopiesSegment, AreLoaded}
use Rattle.elf_image.proofs.Conditions.{and_true}
use Rattle.elf_image.proofs.Checked.{Inside, inside}

-- the segment read at an index past the last
abbrev pub blank : ProgramHeader
blank = record { p_type = 0; p_offset = 0; p_vaddr = 0; p_filesz = 0; p_memsz = 0; p_flags = 0 }

-- If a segment passes the test for setting addresses of a region, it is not empty, and it is inside the region.
pub sets_inside : (w : ℕ) (r : Region) (p : ProgramHeader) → sets_in w r p ≡ true → (0 < p.p_memsz) × Inside w r p
sets_inside w r p e = let a = and_true (nat_lt 0 p.p_memsz) (is_in w r p) e in (grind (arith, nat_tests, a.0), inside w r p a.1)

-- Two segments at the same place of a list are equal.
same_one : (ps : List ProgramHeader) (j k : ℕ) (p q : ProgramHeader) → k ≡ j → slice_get ps j ≡ Some p → slice_get ps k ≡ Some q → p ≡ q
same_one ps j k p q e a b = let there : slice_get ps j ≡ Some q = rw e at b in cc

module _ (ps : List ProgramHeader) (w : ℕ) (r : Region) (n : ℕ) (p : ProgramHeader) (at : slice_get ps n ≡ Some p) where
  -- If the next segment sets nothing in the region, a segment of the region up to the next is an earlier one.
  earlier : (k : ℕ) (q : ProgramHeader) → sets_in w r p ≡ false → k < n + 1 → IsOne ps w r k q → k < n
  earlier k q misses h one =
      elim (cases_eq k n) [
        | inl e ↦ let other : sets_in w r p ≡ true = subst (λ x. sets_in w r x ≡ true) (sym (same_one ps n k p q e at one.at)) one.sets in absurd (cc)
        | inr ne ↦ omega arith
      ]

  -- The extent of a region stays the same after a segment that sets nothing in it.
  pub extent_skip : (extent : ℕ) → sets_in w r p ≡ false → IsExtent ps w r n extent → IsExtent ps w r (n + 1) extent
  extent_skip extent misses l = record { reached = λ k q h one. l.reached k q (earlier k q misses h one) one; last = l.last }

  -- After a segment that sets addresses of the region, its extent is the maximum of the old one and the segment's end.
  pub extent_next : (extent new : ℕ) → sets_in w r p ≡ true → new ≡ max extent (p.p_vaddr + p.p_memsz - region_start r) → IsExtent ps w r n extent →
      IsExtent ps w r (n + 1) new
  extent_next extent new hits is l = record { reached = reached; last = last }
    where
      above : region_start r ≤ p.p_vaddr
      above = (sets_inside w r p hits).1.above

      reached : (k : ℕ) (q : ProgramHeader) → k < n + 1 → IsOne ps w r k q → q.p_vaddr + q.p_memsz ≤ region_start r + new
      reached k q h one =
          elim (cases_eq k n) [
            | inl e ↦ let same = same_one ps n k p q e at one.at in omega (arith, ap (λ x. x.p_vaddr) same, ap (λ x. x.p_memsz) same)
            | inr ne ↦ let low = l.reached k q (omega arith) one in omega (arith, low)
          ]

      last : 0 < new → (k : ℕ) × (q : ProgramHeader) × IsOne ps w r k q × (q.p_vaddr + q.p_memsz ≡ region_start r + new)
      last some =
          elim (cases_lt extent (p.p_vaddr + p.p_memsz - region_start r)) [
            | inl less ↦ (n, p, record { at = at; sets = hits }, omega (arith, above))
            | inr more ↦ let old = l.last (omega arith) in (old.0, old.1, old.2, omega (arith, old.3))
          ]

  module _ (file : List ℕ) where
    -- If the next segment sets nothing in the region, the bytes stay loaded.
    pub loaded_skip : (bytes : List ℕ) → sets_in w r p ≡ false → AreLoaded file ps w r n bytes → AreLoaded file ps w r (n + 1) bytes
    loaded_skip bytes misses l = record {
      set = λ k q i h one s. l.set k q i (earlier k q misses h one) one s;
      unset = λ i none. l.unset i (λ k q h one s. none k q (omega arith) one s);
    }

    -- After the next segment is copied, the bytes of one more segment are loaded.
    pub loaded_next : (old new : List ℕ) → sets_in w r p ≡ true → p.p_filesz ≤ p.p_memsz →
        ((k : ℕ) (q : ProgramHeader) (a : ℕ) → k < n → slice_get ps k ≡ Some q → Sets q a → Sets p a → ⊥) →
        CopiesSegment file p (region_start r) old new → AreLoaded file ps w r n old → AreLoaded file ps w r (n + 1) new
    loaded_next old new hits room apart copies l = record { set = set; unset = unset }
      where
        kept : (i : ℕ) → (Sets p (region_start r + i) → ⊥) → slice_index new i ≡ slice_index old i
        kept i misses =
            elim (cases_lt (region_start r + i) p.p_vaddr) [
              | inl low ↦ copies.before i low
              | inr above ↦ elim (cases_lt (region_start r + i) (p.p_vaddr + p.p_filesz)) [
                | inl within ↦ absurd (misses (above, omega arith))
                | inr behind ↦ copies.after i behind
              ]
            ]

        clear : (i : ℕ) → Sets p (region_start r + i) → slice_index old i ≡ 0
        clear i s = l.unset i (λ k q h one t. apart k q (region_start r + i) h one.at t s)

        here : (i : ℕ) (b : Bool) → nat_lt (region_start r + i - p.p_vaddr) p.p_filesz ≡ b → Sets p (region_start r + i) →
            slice_index new i ≡ cond b (slice_index file (p.p_offset + (region_start r + i - p.p_vaddr))) 0
        here i true e s = copies.copied i s.0 (let h : region_start r + i - p.p_vaddr < p.p_filesz = grind (arith, nat_tests, e) in omega (arith, h, s.0))
        here i false e s =
            let h : p.p_filesz ≤ region_start r + i - p.p_vaddr = grind (arith, nat_tests, e) in
            copies.after i (omega (arith, h, s.0)) ∙ clear i s

        set : (k : ℕ) (q : ProgramHeader) (i : ℕ) → k < n + 1 → IsOne ps w r k q → Sets q (region_start r + i) →
            slice_index new i ≡ byte_of file q (region_start r + i)
        set k q i h one s =
            elim (cases_eq k n) [
              | inl e ↦
                  let same = same_one ps n k p q e at one.at in
                  let P : ProgramHeader → Type 0 = λ x. Sets x (region_start r + i) → slice_index new i ≡ byte_of file x (region_start r + i) in
                  subst P same (λ t. here i (nat_lt (region_start r + i - p.p_vaddr) p.p_filesz) refl t) s
              | inr ne ↦ let less : k < n = omega arith in kept i (λ t. apart k q (region_start r + i) less one.at s t) ∙ l.set k q i less one s
            ]

        unset : (i : ℕ) → ((k : ℕ) (q : ProgramHeader) → k < n + 1 → IsOne ps w r k q → Sets q (region_start r + i) → ⊥) → slice_index new i ≡ 0
        unset i none =
            kept i (λ s. none n p (omega arith) (record { at = at; sets = hits }) s) ∙ l.unset i (λ k q h one s. none k q (omega arith) one s)
