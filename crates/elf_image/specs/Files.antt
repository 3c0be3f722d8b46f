-- The image of a file whose bytes are known, and why there is none.
use Rattle.std.specs.Prelude.{◌≡◌, ◌<◌, ℕ, List, length, Option, Some, IfSome}
use Rattle.elf_image.specs.declared.error.ImageError.{ImageError}
use Rattle.elf_image.specs.declared.error.ImageError.TheVariants as error
use Rattle.elf_image.specs.Images.{ImageContents, IsAccepted, IsMeant}
use Rattle.elf_image.specs.Refusals.{refusal_of}

-- The bytes are the whole file, if its bytes are known.
abbrev pub IsWhole : Option (List ℕ) → List ℕ → Type 0
IsWhole known bytes = IfSome known (λ all. bytes ≡ all)

-- The file is accepted, and the image is what it means.
pub record IsImageOf (shared_words : ℕ) (known : Option (List ℕ)) (image : ImageContents) : Type 0 where
  pub file : List ℕ
  pub whole : IsWhole known file
  pub accepted : IsAccepted shared_words file
  pub meant : IsMeant shared_words file image.layout
  pub words : image.shared_words ≡ shared_words

-- Why a file gives no image: it is too long, or this is the first refusal that applies. A failed link says nothing
-- about the file.
abbrev pub IsImageRefusal : (shared_words : ℕ) → (known : Option (List ℕ)) → ImageError → Type 0
IsImageRefusal shared_words known error.TooLong = IfSome known (λ all. 1048576 < length all)
IsImageRefusal shared_words known error.Link = Unit {0}
IsImageRefusal shared_words known error.Memory = ⊥
IsImageRefusal shared_words known refusal = (file : List ℕ) × IsWhole known file
    × (refusal_of shared_words file ≡ Some refusal)
