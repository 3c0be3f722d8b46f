-- Why a study is not printed.
use Rattle.std.proofs.Common.{ℕ, List}
use Rattle.std.specs.Prelude.{Contains}
use Rattle.flat_machine.specs.declared.config.Config.{Config}
use Rattle.elf_image.specs.Files.{IsImageOf}
use Rattle.elf_image.specs.Images.{ImageContents}
use Rattle.command_io.specs.declared.fault.Fault.{Fault}
use Rattle.command_io.specs.declared.fault.Fault.TheVariants as fault
use Rattle.command_io.specs.Files.{IsFaultOfImage, IsFaultOfSize}
use Rattle.command_io.specs.Links.{Output}
use Rattle.trace_counts.specs.trace_commands.Causes.{ReportItselfFails}
use Rattle.study_command.specs.Studies.{IsNoRow, IsNoStudy, IsTextOfSizes, Study}
use Rattle.study_rows.specs.Sizes.{with_size}
use Rattle.study_rows.specs.declared.size.Size.{Size}

-- If there are no rows, nothing is printed, for the same fault.
pub not_made : (c : Config) (sizes : List Size) (is_text : List ℕ → Type 0) (out : Output) (f : Fault) → IsNoRow c sizes f →
    ReportItselfFails is_text (IsNoRow c sizes) out f
not_made c sizes is_text out (fault.Line n) p = absurd p
not_made c sizes is_text out (fault.Text e) p = absurd p
not_made c sizes is_text out fault.NotUtf8 p = absurd p
not_made c sizes is_text out (fault.Image e) p = absurd p
not_made c sizes is_text out (fault.Trace e) p = absurd p
not_made c sizes is_text out fault.Size p = p
not_made c sizes is_text out (fault.Stalled n) p = absurd p
not_made c sizes is_text out fault.Budget p = absurd p
not_made c sizes is_text out fault.Full p = absurd p
not_made c sizes is_text out fault.Loan p = absurd p
not_made c sizes is_text out fault.Start p = absurd p
not_made c sizes is_text out fault.States p = absurd p
not_made c sizes is_text out fault.Alone p = absurd p
not_made c sizes is_text out fault.Link p = absurd p
not_made c sizes is_text out fault.Memory p = tt

-- If the image is refused, the study is not printed, for the same fault.
pub refused : (s : Study) (out : Output) (f : Fault) → IsFaultOfImage s.config.shared_words s.file.bytes f → IsNoStudy s out f
refused s out (fault.Line n) p = absurd p
refused s out (fault.Text e) p = absurd p
refused s out fault.NotUtf8 p = absurd p
refused s out (fault.Image e) p = p
refused s out (fault.Trace e) p = absurd p
refused s out fault.Size p = absurd p
refused s out (fault.Stalled n) p = absurd p
refused s out fault.Budget p = absurd p
refused s out fault.Full p = absurd p
refused s out fault.Loan p = absurd p
refused s out fault.Start p = absurd p
refused s out fault.States p = absurd p
refused s out fault.Alone p = absurd p
refused s out fault.Link p = absurd p
refused s out fault.Memory p = tt

-- If the rows of an image are not printed, the study is not, for the same fault.
pub not_printed : (s : Study) (out : Output) (image : ImageContents) → IsImageOf s.config.shared_words s.file.bytes image → (f : Fault) →
    ReportItselfFails (λ text. (status : ℕ) × IsTextOfSizes s.budget image s.config s.sizes s.format status text) (IsNoRow s.config s.sizes) out f →
    IsNoStudy s out f
not_printed s out image meant (fault.Line n) p = absurd p
not_printed s out image meant (fault.Text e) p = absurd p
not_printed s out image meant fault.NotUtf8 p = absurd p
not_printed s out image meant (fault.Image e) p = absurd p
not_printed s out image meant (fault.Trace e) p = absurd p
not_printed s out image meant fault.Size p = record { image = image; meant = meant; wrong = p }
not_printed s out image meant (fault.Stalled n) p = absurd p
not_printed s out image meant fault.Budget p = absurd p
not_printed s out image meant fault.Full p = absurd p
not_printed s out image meant fault.Loan p = absurd p
not_printed s out image meant fault.Start p = absurd p
not_printed s out image meant fault.States p = absurd p
not_printed s out image meant fault.Alone p = absurd p
not_printed s out image meant fault.Link p =
    record { text = p.text; meant = (p.meant.0, record { image = image; meant = meant; of_sizes = p.meant.1 }); part = p.part }
not_printed s out image meant fault.Memory p = tt

-- If a machine of one of the sizes cannot be opened, there are no rows, for the same fault.
pub no_row : (c : Config) (sizes : List Size) (size : Size) → Contains sizes size → (f : Fault) → IsFaultOfSize (with_size c size) f → IsNoRow c sizes f
no_row c sizes size inside (fault.Line n) p = absurd p
no_row c sizes size inside (fault.Text e) p = absurd p
no_row c sizes size inside fault.NotUtf8 p = absurd p
no_row c sizes size inside (fault.Image e) p = absurd p
no_row c sizes size inside (fault.Trace e) p = absurd p
no_row c sizes size inside fault.Size p = (size, inside, p)
no_row c sizes size inside (fault.Stalled n) p = absurd p
no_row c sizes size inside fault.Budget p = absurd p
no_row c sizes size inside fault.Full p = absurd p
no_row c sizes size inside fault.Loan p = absurd p
no_row c sizes size inside fault.Start p = absurd p
no_row c sizes size inside fault.States p = absurd p
no_row c sizes size inside fault.Alone p = absurd p
no_row c sizes size inside fault.Link p = absurd p
no_row c sizes size inside fault.Memory p = tt
