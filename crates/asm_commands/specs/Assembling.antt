-- What `ultra asm` does: from the bytes of a text to the bytes of an image.
use Rattle.std.specs.Prelude.{◌≡◌, ◌≢◌, ℕ, List, Option}
use Rattle.std.specs.Str.{IsUtf8}
use Rattle.elf_image.specs.declared.error.ImageError.TheVariants as of_image
use Rattle.elf_image.specs.declared.layout.Layout.{Layout}
use Rattle.elf_image.specs.Spellings.{spelling}
use Rattle.assembler.specs.declared.fault.AsmFault.TheVariants as line_fault
use Rattle.assembler.specs.Meaning.{IsMeaning, IsPresent}
use Rattle.command_io.specs.declared.fault.Fault.{Fault}
use Rattle.command_io.specs.declared.fault.Fault.TheVariants as fault
use Rattle.command_io.specs.Files.{IsWhole}
use Rattle.command_io.specs.Printing.{PrintsPrefix}

-- The bytes are the image of what the file's text means, in the image's one spelling.
pub record IsAssembly (known : Option (List ℕ)) (bytes : List ℕ) : Type 0 where
  pub text : List ℕ
  pub whole : IsWhole known text
  pub layout : Layout
  pub meant : IsMeaning text layout
  pub spelled : bytes ≡ spelling layout

-- The text is refused for this fault: it is not UTF-8, or the fault's line has it.
abbrev pub IsTextRefusal : List ℕ → Fault → Type 0
IsTextRefusal text (fault.Text e) = IsPresent text e × (e.fault ≢ line_fault.Memory)
IsTextRefusal text fault.NotUtf8 = ¬ (IsUtf8 text)
IsTextRefusal text fault.Memory = Unit {0}
IsTextRefusal text other = ⊥

-- The text was not read.
abbrev pub IsUnread : Fault → Type 0
IsUnread fault.Link = Unit {0}
IsUnread fault.Memory = Unit {0}
IsUnread other = ⊥

-- No image is written, or not all of it, because of this fault, which also says what is written then. A failed read and
-- out of memory say nothing of the file.
abbrev pub AssemblyFails : (known old new : Option (List ℕ)) → Fault → Type 0
AssemblyFails known old new (fault.Text e) = (text : List ℕ) × IsWhole known text × IsTextRefusal text (fault.Text e)
AssemblyFails known old new fault.NotUtf8 = (text : List ℕ) × IsWhole known text × IsTextRefusal text fault.NotUtf8
AssemblyFails known old new fault.Link = Unit {0}
AssemblyFails known old new (fault.Image e) = (e ≡ of_image.Link) × PrintsPrefix (IsAssembly known) old new
AssemblyFails known old new fault.Memory = Unit {0}
AssemblyFails known old new other = ⊥
