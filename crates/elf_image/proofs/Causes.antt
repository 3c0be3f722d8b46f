-- The refusals of the input, in their order.
use Rattle.std.proofs.Common.{◌≡◌, ℕ, ◌+◌, ◌*◌, ◌&&◌, ◌≤◌, Bool, true, false, not, cond, List, []}
use Rattle.std.proofs.Common.{◌∷◌, length, Option, None, Some, refl, subst, ap, arith, nat_lt}
use Rattle.std.proofs.lemmas.Bool.Decides.{nat_tests}
use Rattle.elf_image.specs.declared.error.ImageError.{ImageError}
use Rattle.elf_image.specs.declared.error.ImageError.TheVariants.{Truncated, NotExecutable, UnsupportedHeader}
use Rattle.elf_image.specs.declared.error.ImageError.TheVariants.{OutsideInput, OutsideRegions, Overlap}
use Rattle.elf_image.specs.declared.error.ImageError.TheVariants.{Entry, TooLong, Link, Memory}
use Rattle.elf_image.specs.declared.segment.ProgramHeader.{ProgramHeader}
use Rattle.elf_image.specs.Headers.{file_header, segments}
use Rattle.elf_image.specs.Regions.{is_in_a_region}
use Rattle.elf_image.specs.Refusals.{is_executable, is_supported, header_refusal, is_in_file, segment_refusal}
use Rattle.elf_image.specs.Refusals.{segment_refusals, have_overlap, is_entry, first_of, refusal_of}
use Rattle.elf_image.specs.Images.{IsCause}

-- whether an error says something about the input
abbrev pub is_of_input : ImageError → Bool
is_of_input Truncated = true
is_of_input NotExecutable = true
is_of_input UnsupportedHeader = true
is_of_input OutsideInput = true
is_of_input OutsideRegions = true
is_of_input Overlap = true
is_of_input Entry = true
is_of_input TooLong = false
is_of_input Link = false
is_of_input Memory = false

abbrev pub OfInput : Option ImageError → Type 0
OfInput None = Unit {0}
OfInput (Some e) = is_of_input e ≡ true

of_test : (b : Bool) (e : ImageError) (rest : Option ImageError) → is_of_input e ≡ true → OfInput rest → OfInput (cond b (Some e) rest)
of_test true e rest here there = here
of_test false e rest here there = there

of_headers : (file : List ℕ) → OfInput (header_refusal file)
of_headers file =
    let h = file_header file in
    of_test (nat_lt (length file) 52) Truncated _ refl
    (of_test (not (is_executable file h)) NotExecutable _ refl
    (of_test (not (is_supported h)) UnsupportedHeader _ refl (of_test (nat_lt (length file) (h.e_phoff + 32 * h.e_phnum)) Truncated None refl tt)))

of_segment : (bytes w : ℕ) (p : ProgramHeader) → OfInput (segment_refusal bytes w p)
of_segment bytes w p =
    of_test (not (is_in_file bytes p)) OutsideInput _ refl (of_test (nat_lt 0 p.p_memsz && not (is_in_a_region w p)) OutsideRegions None refl tt)

of_first : (o : Option ImageError) (os : List (Option ImageError)) → OfInput o → OfInput (first_of os) → OfInput (first_of (o ∷ os))
of_first None os here there = there
of_first (Some e) os here there = here

of_segments : (bytes w : ℕ) (ps : List ProgramHeader) → OfInput (first_of (segment_refusals bytes w ps))
of_segments bytes w [] = tt
of_segments bytes w (p ∷ ps) = of_first (segment_refusal bytes w p) (segment_refusals bytes w ps) (of_segment bytes w p) (of_segments bytes w ps)

-- A refusal that says something about the input is its own cause.
cause : (w : ℕ) (file : List ℕ) (e : ImageError) → is_of_input e ≡ true → refusal_of w file ≡ Some e → IsCause w file e
cause w file Truncated i r = r
cause w file NotExecutable i r = r
cause w file UnsupportedHeader i r = r
cause w file OutsideInput i r = r
cause w file OutsideRegions i r = r
cause w file Overlap i r = r
cause w file Entry i r = r
cause w file TooLong i r = absurd (cc)
cause w file Link i r = absurd (cc)
cause w file Memory i r = tt

at_second : (a b c d e : Option ImageError) (x : ImageError) → a ≡ None → b ≡ Some x → first_of (a ∷ b ∷ c ∷ d ∷ e ∷ []) ≡ Some x
at_second a b c d e x p q = rw (p, q) refl

at_third : (a b c d e : Option ImageError) (x : ImageError) → a ≡ None → b ≡ None → c ≡ Some x → first_of (a ∷ b ∷ c ∷ d ∷ e ∷ []) ≡ Some x
at_third a b c d e x p q r = rw (p, q, r) refl

at_fourth : (a b c d e : Option ImageError) (x : ImageError) → a ≡ None → b ≡ None → c ≡ None → d ≡ Some x → first_of (a ∷ b ∷ c ∷ d ∷ e ∷ []) ≡ Some x
at_fourth a b c d e x p q r s = rw (p, q, r, s) refl

at_fifth : (a b c d e : Option ImageError) (x : ImageError) → a ≡ None → b ≡ None → c ≡ None → d ≡ None → e ≡ Some x →
    first_of (a ∷ b ∷ c ∷ d ∷ e ∷ []) ≡ Some x
at_fifth a b c d e x p q r s t = rw (p, q, r, s, t) refl

module _ (w : ℕ) (file : List ℕ) (short : length file ≤ 1048576) where
  abbrev one : Option ImageError
  one = cond (nat_lt 1048576 (length file)) (Some TooLong) None

  abbrev three : Option ImageError
  three = first_of (segment_refusals (length file) w (segments file))

  abbrev four : Option ImageError
  four = cond (have_overlap (segments file)) (Some Overlap) None

  abbrev five : Option ImageError
  five = cond (is_entry (file_header file).e_entry) None (Some Entry)

  not_long : one ≡ None
  not_long = let t : nat_lt 1048576 (length file) ≡ false = grind (arith, nat_tests) in ap (λ b. cond b (Some TooLong) None) t

  -- A refusal of the headers is the first that applies to a file that is not too long.
  pub cause_headers : (e : ImageError) → header_refusal file ≡ Some e → IsCause w file e
  unfolding refusal_of
  cause_headers e h = cause w file e (subst OfInput h (of_headers file)) (at_second one (header_refusal file) three four five e not_long h)

  -- If the headers are not refused, the first refusal of a segment is the first that applies.
  pub cause_segments : (e : ImageError) → header_refusal file ≡ None → three ≡ Some e → IsCause w file e
  unfolding refusal_of
  cause_segments e h s =
      cause w file e (subst OfInput s (of_segments (length file) w (segments file))) (at_third one (header_refusal file) three four five e not_long h s)

  -- If no header or segment is refused, an overlap is the first refusal that applies.
  pub cause_overlap : header_refusal file ≡ None → three ≡ None → have_overlap (segments file) ≡ true → IsCause w file Overlap
  unfolding refusal_of
  cause_overlap h s o = at_fourth one (header_refusal file) three four five Overlap not_long h s (ap (λ b. cond b (Some Overlap) None) o)

  -- If no header or segment is refused and none overlap, a wrong entry is the first refusal that applies.
  pub cause_entry : header_refusal file ≡ None → three ≡ None → have_overlap (segments file) ≡ false → is_entry (file_header file).e_entry ≡ false →
      IsCause w file Entry
  unfolding refusal_of
  cause_entry h s o n =
      at_fifth one (header_refusal file) three four five Entry not_long h s (ap (λ b. cond b (Some Overlap) None) o) (ap (λ b. cond b None (Some Entry)) n)
