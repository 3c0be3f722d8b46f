-- Why there is no report of a trace: what each fault says about the files.
use Rattle.std.specs.Prelude.{◌≡◌, ◌⊎◌, true, ℕ, List, Option}
use Rattle.flat_machine.specs.declared.config.Config.{Config}
use Rattle.flat_machine.specs.Limits.{IsWithinLimits}
use Rattle.elf_image.specs.declared.error.ImageError.TheVariants as of_image
use Rattle.elf_image.specs.Files.{IsImageOf, IsImageRefusal}
use Rattle.elf_image.specs.Images.{ImageContents}
use Rattle.steps.specs.declared.step.Step.{Step}
use Rattle.trace_file.specs.declared.error.TraceError.{TraceError}
use Rattle.trace_file.specs.declared.error.TraceError.TheVariants as of_trace
use Rattle.trace_file.specs.Faults.{IsRefused}
use Rattle.trace_file.specs.Traces.{TraceContents, config_of}
use Rattle.machine_steps.specs.Machines.{MachineLists}
use Rattle.machine_steps.specs.Runs.{IsOpening}
use Rattle.machine_log.specs.Replays.{StallsAt}
use Rattle.command_io.specs.declared.fault.Fault.{Fault}
use Rattle.command_io.specs.declared.fault.Fault.TheVariants as fault
use Rattle.command_io.specs.Links.{IsOfLink, Output}
use Rattle.command_io.specs.Printing.{PrintsPrefix}
use Rattle.trace_commands.specs.TraceReports.{IsSomeTraceReport, IsTraceOf, ReportRelation, TraceInput}

-- ---- the files

-- Reading the trace fails with this error, which is not a lack of memory.
abbrev pub IsTraceRefusal : (known : Option (List ℕ)) → TraceError → Type 0
IsTraceRefusal known of_trace.Memory = ⊥
IsTraceRefusal known e = (rest : Option (List ℕ)) × IsRefused known rest e

-- ---- a replay

-- The step at this place is the first that stalls on the machine of this size that opens on the image.
pub record IsStalled (c : Config) (image : ImageContents) (steps : List Step) (place : ℕ) : Type 0 where
  pub opening : MachineLists
  pub opens : IsOpening c image opening
  pub machine : MachineLists
  pub stalls : StallsAt opening steps place machine

-- The files hold a trace and an image, and the machine's size is out of limits.
pub record IsOutOfLimits (given : TraceInput) : Type 0 where
  pub steps : TraceContents
  pub read : IsTraceOf given.trace.bytes steps
  pub image : ImageContents
  pub meant : IsImageOf given.shared_words given.image.bytes image
  pub limits : IsWithinLimits (config_of steps given.shared_words) → ⊥

-- The files hold a trace and an image, and the trace's step at this place is the first that stalls on the machine.
pub record IsStalledReplay (given : TraceInput) (place : ℕ) : Type 0 where
  pub steps : TraceContents
  pub read : IsTraceOf given.trace.bytes steps
  pub image : ImageContents
  pub meant : IsImageOf given.shared_words given.image.bytes image
  pub stalled : IsStalled (config_of steps given.shared_words) image steps.steps place

-- The file holds a trace, the image's file cannot be opened, and nothing is printed.
pub record IsUnopened (given : TraceInput) (out : Output) : Type 0 where
  pub steps : TraceContents
  pub read : IsTraceOf given.trace.bytes steps
  pub unopened : given.image.is_unopened ≡ true
  pub nothing : out.new ≡ out.old

-- Why a trace is not reported: the trace is refused; the image is refused; the machine's size is out of limits; a step
-- stalls; the image's file cannot be opened; or the report cannot be printed. Nothing is said about a lack of memory.
abbrev pub TraceReportFails : ReportRelation → TraceInput → Output → Fault → Type 0
TraceReportFails reports given out (fault.Trace e) = IsTraceRefusal given.trace.bytes e
TraceReportFails reports given out (fault.Image e) =
    ((steps : TraceContents) × IsTraceOf given.trace.bytes steps)
    × IsImageRefusal given.shared_words given.image.bytes e
TraceReportFails reports given out fault.Size = IsOutOfLimits given
TraceReportFails reports given out (fault.Stalled place) = IsStalledReplay given place
TraceReportFails reports given out fault.Link =
    IsUnopened given out ⊎ PrintsPrefix (IsSomeTraceReport reports given) out.old out.new
TraceReportFails reports given out fault.Memory = Unit {0}
TraceReportFails reports given out other = ⊥

-- Why a command on a trace fails: the fault has a cause, and it is that of an input exactly if a read of it failed. It
-- is `Link` if a write failed, and only if a write failed or the image's file cannot be opened.
pub record TraceCommandFails (reports : ReportRelation) (given : TraceInput) (out : Output) (f : Fault) : Type 0 where
  pub cause : TraceReportFails reports given out f
  pub unread : IsOfLink (fault.Trace of_trace.Link) given.trace.has_failed f
  pub unread_image : IsOfLink (fault.Image of_image.Link) given.image.has_failed f
  pub unprinted : out.has_failed ≡ true → f ≡ fault.Link
  pub closed : f ≡ fault.Link → (given.image.is_unopened ≡ true) ⊎ (out.has_failed ≡ true)

-- ---- the parts

-- what a fault says about the file of a trace
abbrev pub IsFaultOfTrace : (known : Option (List ℕ)) → Fault → Type 0
IsFaultOfTrace known (fault.Trace e) = IsTraceRefusal known e
IsFaultOfTrace known fault.Memory = Unit {0}
IsFaultOfTrace known _ = ⊥

-- why the machine of this size that opens on the image does not take the steps
abbrev pub IsNotTaken : (c : Config) → ImageContents → List Step → Fault → Type 0
IsNotTaken c image steps fault.Size = IsWithinLimits c → ⊥
IsNotTaken c image steps (fault.Stalled place) = IsStalled c image steps place
IsNotTaken c image steps fault.Memory = Unit {0}
IsNotTaken c image steps other = ⊥

-- why steps are not reported: they are not taken, or the report cannot be printed
abbrev pub ReportItselfFails : (is_text : List ℕ → Type 0) → (is_not_taken : Fault → Type 0) → Output → Fault → Type 0
ReportItselfFails is_text is_not_taken out fault.Link = PrintsPrefix is_text out.old out.new
ReportItselfFails is_text is_not_taken out other = is_not_taken other
