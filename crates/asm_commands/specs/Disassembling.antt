-- What `ultra dis` does: from the bytes of an image to the lines of its code.
use Rattle.std.specs.Prelude.{ℕ, Bool, List, Option}
use Rattle.local_memory.specs.Accesses.{region_of_bytes}
use Rattle.elf_image.specs.Files.{IsImageOf, IsImageRefusal}
use Rattle.elf_image.specs.Images.{ImageContents}
use Rattle.command_io.specs.declared.fault.Fault.{Fault}
use Rattle.command_io.specs.declared.fault.Fault.TheVariants as fault
use Rattle.command_io.specs.Printing.{PrintsPrefix}
use Rattle.asm_commands.specs.CodeLines.{IsListing}

-- The text lists the code that the file means for machines with this many shared words: a line for each word up to the
-- last that is not zero, with comments if they are wanted.
pub record IsDisassembly (shared_words : ℕ) (comments : Bool) (known : Option (List ℕ)) (text : List ℕ) : Type 0 where
  pub image : ImageContents
  pub read : IsImageOf shared_words known image
  pub listing : IsListing comments (region_of_bytes image.layout.code) text

-- No code is printed, or not all of it, because of this fault: the image is refused, or the lines cannot be written.
-- Out of memory says nothing.
abbrev pub DisassemblyFails : (shared_words : ℕ) → (comments : Bool) → (known old new : Option (List ℕ)) → Fault →
    Type 0
DisassemblyFails shared_words comments known old new (fault.Image e) = IsImageRefusal shared_words known e
DisassemblyFails shared_words comments known old new fault.Link =
    PrintsPrefix (IsDisassembly shared_words comments known) old new
DisassemblyFails shared_words comments known old new fault.Memory = Unit {0}
DisassemblyFails shared_words comments known old new other = ⊥
