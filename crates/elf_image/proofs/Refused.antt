-- A refused file has the cause of its refusal.
use Rattle.std.proofs.Common.{◌≡◌, ℕ, suc, ◌+◌, ◌*◌, ◌<◌, max, min, Bool, true, false, not, cond}
use Rattle.std.proofs.Common.{◌&&◌, ◌||◌, List, [], ◌∷◌, map, length, Option, None, Some, refl}
use Rattle.std.proofs.Common.{sym, subst, ◌∙◌, ◌⊎◌, inl, inr, arith, nat_lt, nat_le}
use Rattle.std.specs.Prelude.{slice_get}
use Rattle.std.specs.List.{list_any}
use Rattle.std.proofs.lemmas.Bool.{cases_lt}
use Rattle.std.proofs.lemmas.Bool.Decides.{nat_tests}
use Rattle.elf_image.specs.declared.error.ImageError.{ImageError}
use Rattle.elf_image.specs.declared.error.ImageError.TheVariants.{Truncated, NotExecutable, UnsupportedHeader}
use Rattle.elf_image.specs.declared.error.ImageError.TheVariants.{OutsideInput, OutsideRegions, Overlap, Entry}
use Rattle.elf_image.specs.declared.error.ImageError.TheVariants.{TooLong}
use Rattle.elf_image.specs.declared.region.Region.{Region}
use Rattle.elf_image.specs.declared.segment.ProgramHeader.{ProgramHeader}
use Rattle.elf_image.specs.Headers.{file_header, segments}
use Rattle.elf_image.specs.Regions.{is_in_a_region}
use Rattle.elf_image.specs.Refusals.{is_executable, is_supported, header_refusal, is_in_file, segment_refusal}
use Rattle.elf_image.specs.Refusals.{segment_refusals, overlap, have_overlap, is_entry, first_of, refusal_of}
use Rattle.elf_image.specs.Images.{LiesIn}
use Rattle.elf_image.specs.Laws.{HasCause}
use Rattle.elf_image.proofs.Acceptance.{and_true, in_one, is_inside}

-- The first refusal of a list is its head, or the first refusal of its tail.
first_some : (o : Option ImageError) (os : List (Option ImageError)) (e : ImageError) → first_of (o ∷ os) ≡ Some e → (o ≡ Some e) ⊎ (first_of os ≡ Some e)
first_some None os e h = inr h
first_some (Some x) os e h = inl h

-- If a test comes before other refusals, a refusal is that of the test, or one of the others.
chosen : (b : Bool) (x e : ImageError) (rest : Option ImageError) → cond b (Some x) rest ≡ Some e → ((b ≡ true) × (x ≡ e)) ⊎ (rest ≡ Some e)
chosen true x e rest h = inl (refl, cc)
chosen false x e rest h = inr h

not_there : (e : ImageError) → None ≡ Some e → ⊥
not_there e h = absurd (cc)

none_here : (P : Type 0) (e : ImageError) → None ≡ Some e → P
none_here P e h = absurd (not_there e h)

from_not : (b : Bool) → not b ≡ true → b ≡ false
from_not true e = absurd (cc)
from_not false e = refl

-- If a list has a first refusal, one of its elements has that refusal.
one_refused : {X : Type 0} (refusal : X → Option ImageError) (xs : List X) (e : ImageError) → first_of (map refusal xs) ≡ Some e →
    (k : ℕ) × (x : X) × (slice_get xs k ≡ Some x) × (refusal x ≡ Some e)
one_refused refusal [] e h = absurd (not_there e h)
one_refused refusal (x ∷ xs) e h =
    elim (first_some (refusal x) (map refusal xs) e h) [
      | inl here ↦ (0, x, refl, here)
      | inr there ↦ let other = one_refused refusal xs e there in (suc other.0, other.1, other.2, other.3)
    ]

or_true : (a b : Bool) → (a || b) ≡ true → (a ≡ true) ⊎ (b ≡ true)
or_true true b h = inl refl
or_true false b h = inr h

any_true : (test : ProgramHeader → Bool) (xs : List ProgramHeader) → list_any test xs ≡ true →
    (k : ℕ) × (x : ProgramHeader) × (slice_get xs k ≡ Some x) × (test x ≡ true)
any_true test [] h = absurd (cc)
any_true test (x ∷ xs) h =
    elim (or_true (test x) (list_any test xs) h) [
      | inl here ↦ (0, x, refl, here)
      | inr there ↦ let other = any_true test xs there in (suc other.0, other.1, other.2, other.3)
    ]

-- Two segments of a list, at the places j and k, overlap.
pub record Overlapping (ps : List ProgramHeader) : Type 0 where
  -- the place of the earlier segment
  pub j : ℕ
  -- the place of the later segment
  pub k : ℕ
  -- the earlier segment
  pub p : ProgramHeader
  -- the later segment
  pub q : ProgramHeader
  -- the two places differ, and are in this order
  pub less : j < k
  -- the earlier segment is at its place
  pub first : slice_get ps j ≡ Some p
  -- the later segment is at its place
  pub second : slice_get ps k ≡ Some q
  -- the two share an address
  pub share : overlap p q ≡ true

two_overlap : (ps : List ProgramHeader) → have_overlap ps ≡ true → Overlapping ps
two_overlap [] h = absurd (cc)
two_overlap (p ∷ ps) h =
    elim (or_true (list_any (overlap p) ps) (have_overlap ps) h) [
      | inl here ↦ let other = any_true (overlap p) ps here in
          record { j = 0; k = suc other.0; p = p; q = other.1; less = omega arith; first = refl; second = other.2; share = other.3 }
      | inr there ↦
          let o = two_overlap ps there in
          record { j = suc o.j; k = suc o.k; p = o.p; q = o.q; less = let l = o.less in omega arith; first = o.first; second = o.second; share = o.share }
    ]

module _ (w : ℕ) (file : List ℕ) where
  in_headers : (e : ImageError) → header_refusal file ≡ Some e → HasCause w file e
  in_headers e h =
      let x = file_header file in
      let last = nat_lt (length file) (x.e_phoff + 32 * x.e_phnum) in
      elim (chosen (nat_lt (length file) 52) Truncated e _ h) [
        | inl t ↦ let less : length file < 52 = grind (arith, nat_tests, t.0) in subst (HasCause w file) t.1 (inl less)
        | inr a ↦ elim (chosen (not (is_executable file x)) NotExecutable e _ a) [
          | inl t ↦ subst (HasCause w file) t.1 (from_not (is_executable file x) t.0)
          | inr b ↦ elim (chosen (not (is_supported x)) UnsupportedHeader e _ b) [
            | inl t ↦ subst (HasCause w file) t.1 (from_not (is_supported x) t.0)
            | inr d ↦ elim (chosen last Truncated e None d) [
              | inl t ↦ let less : length file < x.e_phoff + 32 * x.e_phnum = grind (arith, nat_tests, t.0) in subst (HasCause w file) t.1 (inr less)
              | inr n ↦ none_here (HasCause w file e) e n
            ]
          ]
        ]
      ]

  not_filed : (p : ProgramHeader) → is_in_file (length file) p ≡ false → (length file < p.p_offset + p.p_filesz) ⊎ (p.p_memsz < p.p_filesz)
  not_filed p e =
      elim (cases_lt (length file) (p.p_offset + p.p_filesz)) [
        | inl less ↦ inl less
        | inr there ↦ elim (cases_lt p.p_memsz p.p_filesz) [
          | inl more ↦ inr more
          | inr room ↦
              let a : nat_le (p.p_offset + p.p_filesz) (length file) ≡ true = grind (arith, nat_tests, there) in
              let b : nat_le p.p_filesz p.p_memsz ≡ true = grind (arith, nat_tests, room) in
              let both : is_in_file (length file) p ≡ true = rw (a, b) refl in
              absurd (let no : true ≡ false = sym both ∙ e in cc)
        ]
      ]

  in_segment : (k : ℕ) (p : ProgramHeader) (e : ImageError) → slice_get (segments file) k ≡ Some p → segment_refusal (length file) w p ≡ Some e →
      HasCause w file e
  in_segment k p e at h =
      elim (chosen (not (is_in_file (length file) p)) OutsideInput e _ h) [
        | inl t ↦ subst (HasCause w file) t.1 (k, p, at, not_filed p (from_not (is_in_file (length file) p) t.0))
        | inr a ↦ elim (chosen (nat_lt 0 p.p_memsz && not (is_in_a_region w p)) OutsideRegions e None a) [
          | inl t ↦ subst (HasCause w file) t.1 (k, p, at, (nowhere t.0).0, (nowhere t.0).1)
          | inr n ↦ none_here (HasCause w file e) e n
        ]
      ]
    where
      nowhere : (nat_lt 0 p.p_memsz && not (is_in_a_region w p)) ≡ true → (0 < p.p_memsz) × ((region : Region) → LiesIn w region p → ⊥)
      nowhere e =
          let parts = and_true (nat_lt 0 p.p_memsz) (not (is_in_a_region w p)) e in
          let some : 0 < p.p_memsz = grind (arith, nat_tests, parts.0) in (
            some,
            λ region l. let here = in_one w region p (is_inside w region p some l) in
                let no : true ≡ false = sym here ∙ from_not (is_in_a_region w p) parts.1 in absurd (cc),
          )

  in_overlap : have_overlap (segments file) ≡ true → HasCause w file Overlap
  in_overlap h =
      let o = two_overlap (segments file) h in
      let a = max o.p.p_vaddr o.q.p_vaddr in
      let less : a < min (o.p.p_vaddr + o.p.p_memsz) (o.q.p_vaddr + o.q.p_memsz) = grind (arith, nat_tests, o.share) in
      (o.j, o.k, o.p, o.q, a, o.less, o.first, o.second, (omega arith, omega (arith, less)), (omega arith, omega (arith, less)))

  -- If a file is refused with an error, it has the cause of that error.
  pub refused : (e : ImageError) → refusal_of w file ≡ Some e → HasCause w file e
  unfolding refusal_of
  refused e h =
      let long = nat_lt 1048576 (length file) in
      elim (first_some (cond long (Some TooLong) None) _ e h) [
        | inl one ↦ elim (chosen long TooLong e None one) [
          | inl t ↦ let more : 1048576 < length file = grind (arith, nat_tests, t.0) in subst (HasCause w file) t.1 more
          | inr n ↦ none_here (HasCause w file e) e n
        ]
        | inr a ↦ elim (first_some (header_refusal file) _ e a) [
          | inl two ↦ in_headers e two
          | inr b ↦ elim (first_some (first_of (segment_refusals (length file) w (segments file))) _ e b) [
            | inl three ↦ let one = one_refused (segment_refusal (length file) w) (segments file) e three in in_segment one.0 one.1 e one.2 one.3
            | inr c ↦ elim (first_some (cond (have_overlap (segments file)) (Some Overlap) None) _ e c) [
              | inl four ↦ elim (chosen (have_overlap (segments file)) Overlap e None four) [
                | inl t ↦ subst (HasCause w file) t.1 (in_overlap t.0)
                | inr n ↦ none_here (HasCause w file e) e n
              ]
              | inr d ↦ elim (first_some (cond (is_entry (file_header file).e_entry) None (Some Entry)) [] e d) [
                | inl five ↦ at_entry (is_entry (file_header file).e_entry) refl five
                | inr n ↦ none_here (HasCause w file e) e n
              ]
            ]
          ]
        ]
      ]
    where
      at_entry : (b : Bool) → is_entry (file_header file).e_entry ≡ b → cond b None (Some Entry) ≡ Some e → HasCause w file e
      at_entry true t h = none_here (HasCause w file e) e h
      at_entry false t h = let same : Entry ≡ e = cc in subst (HasCause w file) same t

-- A file that is refused with an error has the cause of that error.
pub refused_for : (w : ℕ) (file : List ℕ) (e : ImageError) → refusal_of w file ≡ Some e → HasCause w file e
refused_for w file e h = refused w file e h
