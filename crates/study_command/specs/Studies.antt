-- What `ultra study` prints, and why it fails.
use Rattle.std.specs.Prelude.{◌≡◌, ℕ, List, Contains}
use Rattle.flat_machine.specs.declared.config.Config.{Config}
use Rattle.flat_machine.specs.Limits.{IsWithinLimits}
use Rattle.elf_image.specs.Files.{IsImageOf, IsImageRefusal}
use Rattle.elf_image.specs.Images.{ImageContents}
use Rattle.elf_image.specs.declared.error.ImageError.TheVariants as of_image
use Rattle.command_io.specs.declared.fault.Fault.{Fault}
use Rattle.command_io.specs.declared.fault.Fault.TheVariants as fault
use Rattle.command_io.specs.Links.{Input, IsOfLink, Output}
use Rattle.command_io.specs.Printing.{Prints, PrintsPrefix}
use Rattle.study_rows.specs.Plots.{plot_text}
use Rattle.study_command.specs.Rows.{AreRows, greatest_exit}
use Rattle.study_rows.specs.Sizes.{with_size}
use Rattle.study_rows.specs.Texts.{rows_text}
use Rattle.study_command.specs.declared.command.StudyFormat.{StudyFormat}
use Rattle.study_command.specs.declared.command.StudyFormat.TheVariants as format
use Rattle.study_rows.specs.declared.row.Row.{Row}
use Rattle.study_rows.specs.declared.size.Size.{Size}

-- A study, as it is asked for: the other numbers of its machines, their sizes, the most steps of a run, the format, and
-- the image's file.
pub record Study : Type 0 where
  pub config : Config
  pub sizes : List Size
  pub budget : ℕ
  pub format : StudyFormat
  pub file : Input

abbrev pub asked_study : Config → List Size → (budget : ℕ) → StudyFormat → Input → Study
asked_study config sizes budget format file =
    record { config = config; sizes = sizes; budget = budget; format = format; file = file }

-- ---- what is printed

-- the text of rows
abbrev pub text_of : StudyFormat → List Row → List ℕ
text_of (format.Rows layout) rows = rows_text layout rows
text_of (format.Plot column) rows = plot_text column rows

-- This is the text of the rows of these sizes, and the exit status is the greatest of theirs.
pub record IsTextOfSizes (budget : ℕ) (image : ImageContents) (c : Config) (sizes : List Size) (f : StudyFormat)
    (status : ℕ) (text : List ℕ) : Type 0 where
  pub rows : List Row
  pub are : AreRows budget image c sizes rows
  pub is : text ≡ text_of f rows
  pub exit : status ≡ greatest_exit rows

-- The file holds an image, and this is the text of the study's rows.
pub record IsStudyText (s : Study) (status : ℕ) (text : List ℕ) : Type 0 where
  pub image : ImageContents
  pub meant : IsImageOf s.config.shared_words s.file.bytes image
  pub of_sizes : IsTextOfSizes s.budget image s.config s.sizes s.format status text

-- This is the text of the study's rows, with some exit status.
abbrev pub IsSomeStudyText : Study → (text : List ℕ) → Type 0
IsSomeStudyText s text = (status : ℕ) × IsStudyText s status text

-- The text of the study's rows is printed, and this is its exit status.
abbrev pub PrintsStudy : Study → Output → (status : ℕ) → Type 0
PrintsStudy s out status = Prints (IsStudyText s status) out.old out.new

-- ---- why nothing is printed, or not all

-- The machine of one of these sizes is out of limits.
abbrev pub HasWrongSize : Config → List Size → Type 0
HasWrongSize c sizes = (size : Size) × Contains sizes size × (IsWithinLimits (with_size c size) → ⊥)

-- why there are no rows
abbrev pub IsNoRow : Config → List Size → Fault → Type 0
IsNoRow c sizes fault.Size = HasWrongSize c sizes
IsNoRow c sizes fault.Memory = Unit {0}
IsNoRow c sizes other = ⊥

-- The file holds an image, and one of the sizes is out of limits.
pub record IsOutOfLimits (s : Study) : Type 0 where
  pub image : ImageContents
  pub meant : IsImageOf s.config.shared_words s.file.bytes image
  pub wrong : HasWrongSize s.config s.sizes

-- Why the study is not printed: the image is refused; a size is out of limits; or the text cannot be printed, and a
-- beginning of it is. Nothing is said about a lack of memory.
abbrev pub IsNoStudy : Study → Output → Fault → Type 0
IsNoStudy s out (fault.Image e) = IsImageRefusal s.config.shared_words s.file.bytes e
IsNoStudy s out fault.Size = IsOutOfLimits s
IsNoStudy s out fault.Link = PrintsPrefix (IsSomeStudyText s) out.old out.new
IsNoStudy s out fault.Memory = Unit {0}
IsNoStudy s out other = ⊥

-- Why the command fails: the fault has a cause, and it is that of a link exactly if the link failed.
pub record StudyFails (s : Study) (out : Output) (f : Fault) : Type 0 where
  pub cause : IsNoStudy s out f
  pub unread : IsOfLink (fault.Image of_image.Link) s.file.has_failed f
  pub unprinted : IsOfLink fault.Link out.has_failed f
