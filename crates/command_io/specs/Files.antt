-- What a fault says about an image's file, and about a machine's size.
use Rattle.std.specs.Prelude.{ℕ, List, Option}
use Rattle.flat_machine.specs.declared.config.Config.{Config}
use Rattle.flat_machine.specs.Limits.{IsWithinLimits}
use Rattle.elf_image.specs.Files.{IsImageRefusal}
use Rattle.command_io.specs.declared.fault.Fault.{Fault}
use Rattle.command_io.specs.declared.fault.Fault.TheVariants as fault
pub use Rattle.elf_image.specs.Files.{IsWhole, IsImageOf}

-- what a fault says about the file of an image
abbrev pub IsFaultOfImage : (shared_words : ℕ) → (known : Option (List ℕ)) → Fault → Type 0
IsFaultOfImage shared_words known (fault.Image e) = IsImageRefusal shared_words known e
IsFaultOfImage shared_words known fault.Memory = Unit {0}
IsFaultOfImage shared_words known _ = ⊥

-- what a fault says about the size of a machine
abbrev pub IsFaultOfSize : Config → Fault → Type 0
IsFaultOfSize c fault.Size = IsWithinLimits c → ⊥
IsFaultOfSize c fault.Memory = Unit {0}
IsFaultOfSize c _ = ⊥
