-- What is printed for the steps of a trace, from the bytes of files.
use Rattle.std.specs.Prelude.{◌≡◌, ℕ, List, ◌++◌, Option}
use Rattle.flat_machine.specs.declared.config.Config.{Config}
use Rattle.elf_image.specs.Files.{IsImageOf}
use Rattle.elf_image.specs.Images.{ImageContents}
use Rattle.steps.specs.declared.step.Step.{Step}
use Rattle.trace_file.specs.Traces.{TraceContents, trace_bytes, config_of, IsTrace}
use Rattle.machine_steps.specs.Machines.{MachineLists}
use Rattle.machine_steps.specs.Runs.{IsOpening, IsReplay}
use Rattle.machine_steps.specs.Draining.{drain_steps}
use Rattle.command_io.specs.Files.{IsWhole}
use Rattle.command_io.specs.Links.{Input, OpenedInput, Output}
use Rattle.command_io.specs.Printing.{Prints}
use Rattle.run_reports.specs.RunReports.{IsReportOf}

-- The file spells the trace.
pub record IsTraceOf (known : Option (List ℕ)) (t : TraceContents) : Type 0 where
  pub trace : IsTrace t
  pub whole : IsWhole known (trace_bytes t)

-- The machine of this size opened on the image and has taken these steps, each of which did something.
pub record StandsAfter (c : Config) (image : ImageContents) (steps : List Step) (m : MachineLists) : Type 0 where
  pub opening : MachineLists
  pub opens : IsOpening c image opening
  pub replay : IsReplay opening steps m

-- This is the report after the steps and then those of a drain.
pub record IsDrainedReport (c : Config) (image : ImageContents) (steps : List Step) (text : List ℕ)
    (status : ℕ) : Type 0 where
  pub before : MachineLists
  pub stands : StandsAfter c image steps before
  pub report : IsReportOf c image (steps ++ drain_steps before) text status

-- ---- what is printed for a trace

-- What a command prints for steps: which text and exit status, on the machine of this size that opens on the image.
abbrev pub ReportRelation : Type 1
ReportRelation = Config → ImageContents → (steps : List Step) → (text : List ℕ) → (status : ℕ) → Type 0

-- The input of a command on a trace: the file of the trace, the file of the image, and the number of shared words of
-- the machine.
pub record TraceInput : Type 0 where
  pub trace : Input
  pub image : OpenedInput
  pub shared_words : ℕ

abbrev pub trace_input : Input → OpenedInput → (shared_words : ℕ) → TraceInput
trace_input trace image shared_words = record { trace = trace; image = image; shared_words = shared_words }

-- what is printed for the steps of this trace, on a machine of its size with this many shared words
abbrev pub OfTrace : ReportRelation → TraceContents → (shared_words : ℕ) → ReportRelation
OfTrace reports t shared_words c image steps text status = (c ≡ config_of t shared_words) × (steps ≡ t.steps)
    × reports c image steps text status

-- The files hold a trace and an image, and this is the text for the trace's steps, with this exit status.
pub record IsTraceReport (reports : ReportRelation) (given : TraceInput) (status : ℕ) (text : List ℕ) : Type 0 where
  pub steps : TraceContents
  pub read : IsTraceOf given.trace.bytes steps
  pub image : ImageContents
  pub meant : IsImageOf given.shared_words given.image.bytes image
  pub contents_are : reports (config_of steps given.shared_words) image steps.steps text status

-- This is the text for the trace, with some exit status.
abbrev pub IsSomeTraceReport : ReportRelation → TraceInput → (text : List ℕ) → Type 0
IsSomeTraceReport reports given text = (status : ℕ) × IsTraceReport reports given status text

-- The text for the trace is printed, and this is its exit status.
abbrev pub PrintsTraceReport : ReportRelation → TraceInput → Output → (status : ℕ) → Type 0
PrintsTraceReport reports given out status = Prints (IsTraceReport reports given status) out.old out.new
