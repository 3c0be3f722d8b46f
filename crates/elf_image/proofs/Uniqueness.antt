-- A file means at most one layout.
use Rattle.std.proofs.Common.{◌≡◌, ℕ, zero, suc, ◌+◌, ◌-◌, ◌<◌, ◌≤◌, List, [], ◌∷◌, length, refl, sym, ◌∙◌, ◌⊎◌, inl, inr, arith}
use Rattle.std.specs.Prelude.{slice_index}
use Rattle.std.proofs.lemmas.Bool.{cases_lt}
use Rattle.std.proofs.lemmas.List.{ext_get_or}
use Rattle.elf_image.specs.declared.layout.Layout.{Layout}
use Rattle.elf_image.specs.declared.region.Region.{Region}
use Rattle.elf_image.specs.declared.segment.ProgramHeader.{ProgramHeader}
use Rattle.elf_image.specs.Headers.{segments}
use Rattle.elf_image.specs.Regions.{region_start}
use Rattle.elf_image.specs.Segments.{Sets, IsSet, IsUnset}
use Rattle.elf_image.specs.Images.{HasBytes, IsMeant}

sets_or_not : (p : ProgramHeader) (a : ℕ) → Sets p a ⊎ (Sets p a → ⊥)
sets_or_not p a =
    elim (cases_lt a p.p_vaddr) [
      | inl low ↦ inr (λ s. omega (arith, s.0))
      | inr above ↦ elim (cases_lt a (p.p_vaddr + p.p_memsz)) [ inl below ↦ inl (above, below) | inr high ↦ inr (λ s. omega (arith, s.1)) ]
    ]

-- Either some segment sets the address, or none does.
pub set_or_unset : (ps : List ProgramHeader) (a : ℕ) → IsSet ps a ⊎ IsUnset ps a
set_or_unset [] a = inr (λ k p at s. absurd (cc))
set_or_unset (p ∷ ps) a =
    elim (sets_or_not p a) [
      | inl s ↦ inl (0, p, refl, s)
      | inr misses ↦ elim (set_or_unset ps a) [
        | inl found ↦ inl (suc found.0, found.1, found.2, found.3)
        | inr none ↦ inr (no_more misses none)
      ]
    ]
  where
    no_more : (Sets p a → ⊥) → IsUnset ps a → IsUnset (p ∷ ps) a
    no_more misses none zero q at s = let same : p ≡ q = cc in misses (rw same s)
    no_more misses none (suc k) q at s = none k q at s

module _ (file : List ℕ) (w : ℕ) (region : Region) where
  not_shorter : (one other : List ℕ) → HasBytes file w region one → HasBytes file w region other → length other ≤ length one
  not_shorter one other a b =
      elim (cases_lt (length one) (length other)) [
        | inl less ↦
            let last = b.last (omega arith) in
            absurd (a.after (length other - 1) (omega arith) (omega (arith, b.fits)) last.0 last.1 last.2 last.3)
        | inr more ↦ more
      ]

  pub same_bytes : (one other : List ℕ) → HasBytes file w region one → HasBytes file w region other → one ≡ other
  same_bytes one other a b = ext_get_or 0 one other count each
    where
      count : length one ≡ length other
      count = let x = not_shorter one other a b in let y = not_shorter other one b a in omega arith

      each : (i : ℕ) → i < length one → slice_index one i ≡ slice_index other i
      each i h =
          elim (set_or_unset (segments file) (region_start region + i)) [
            | inl found ↦ a.set found.0 found.1 i found.2 h found.3 ∙ sym (b.set found.0 found.1 i found.2 (omega (arith, count)) found.3)
            | inr none ↦ a.unset i h none ∙ sym (b.unset i (omega (arith, count)) none)
          ]

-- A file means at most one layout.
pub meant_once : (w : ℕ) (file : List ℕ) (one other : Layout) → IsMeant w file one → IsMeant w file other → one ≡ other
meant_once w file one other a b =
    let entry : one.entry ≡ other.entry = a.entry ∙ sym b.entry in
    let code = same_bytes file w _ one.code other.code a.code b.code in
    let local = same_bytes file w _ one.local other.local a.local b.local in
    let shared = same_bytes file w _ one.shared other.shared a.shared b.shared in
    λ i. record { entry = entry i; code = code i; local = local i; shared = shared i }
