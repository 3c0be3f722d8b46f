-- Reading the spelling of a text's layout.
use Rattle.std.proofs.Common.{◌≡◌, ℕ, ◌≤◌, List, ◌++◌, length, Option, Some, None, refl, ap, ◌∙◌, ◌⊎◌, inl, inr, arith, length-append, append-nil}
use Rattle.link.specs.Transfer.{ConsumesAll, ConsumesPast}
use Rattle.elf_image.specs.declared.error.ImageError.{ImageError}
use Rattle.elf_image.specs.declared.error.ImageError.TheVariants as error
use Rattle.elf_image.specs.Images.{IsRefused}
use Rattle.elf_image.specs.Refusals.{refusal_of}

-- If all of a reader's bytes are known and consumed, they are what was read.
pub all_read : (bytes : List ℕ) (rest : Option (List ℕ)) (read : List ℕ) → ConsumesAll (Some bytes) rest read → bytes ≡ read
all_read bytes None read h = absurd h.0
all_read bytes (Some xs) read h = h.0 ∙ ap (λ x. read ++ x) h.1 ∙ append-nil read

not_past : (bytes : List ℕ) (rest : Option (List ℕ)) → length bytes ≤ 1048576 → ConsumesPast 1048576 (Some bytes) rest → ⊥
not_past bytes None short h = h.3
not_past bytes (Some xs) short h = absurd (omega (arith, h.1, short, ap length h.3, length-append h.0 xs))

none_is_none : (bytes : List ℕ) (words : ℕ) (rest : Option (List ℕ)) (e : ImageError) → refusal_of words bytes ≡ None → (read : List ℕ) →
    ConsumesAll (Some bytes) rest read → refusal_of words read ≡ Some e → ⊥
none_is_none bytes words rest e none read all h = cc (none, ap (refusal_of words) (all_read bytes rest read all), h)

-- Accepted input is refused only for a fault of the link or if out of memory.
pub refused_by_link_or_memory : (words : ℕ) (bytes : List ℕ) (rest : Option (List ℕ)) (e : ImageError) → length bytes ≤ 1048576 →
    refusal_of words bytes ≡ None → IsRefused words (Some bytes) rest e → (e ≡ error.Link) ⊎ (e ≡ error.Memory)
refused_by_link_or_memory words bytes rest error.Truncated short none h = absurd (none_is_none bytes words rest error.Truncated none h.0 h.1 h.2)
refused_by_link_or_memory words bytes rest error.NotExecutable short none h = absurd (none_is_none bytes words rest error.NotExecutable none h.0 h.1 h.2)
refused_by_link_or_memory words bytes rest error.UnsupportedHeader short none h =
    absurd (none_is_none bytes words rest error.UnsupportedHeader none h.0 h.1 h.2)
refused_by_link_or_memory words bytes rest error.OutsideInput short none h = absurd (none_is_none bytes words rest error.OutsideInput none h.0 h.1 h.2)
refused_by_link_or_memory words bytes rest error.OutsideRegions short none h = absurd (none_is_none bytes words rest error.OutsideRegions none h.0 h.1 h.2)
refused_by_link_or_memory words bytes rest error.Overlap short none h = absurd (none_is_none bytes words rest error.Overlap none h.0 h.1 h.2)
refused_by_link_or_memory words bytes rest error.Entry short none h = absurd (none_is_none bytes words rest error.Entry none h.0 h.1 h.2)
refused_by_link_or_memory words bytes rest error.TooLong short none h = absurd (not_past bytes rest short h)
refused_by_link_or_memory words bytes rest error.Link short none h = inl refl
refused_by_link_or_memory words bytes rest error.Memory short none h = inr refl
