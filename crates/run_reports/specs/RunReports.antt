-- The report of steps, and what is printed for a run and for a log.
use Rattle.std.specs.Prelude.{◌≡◌, Bool, false, ℕ, List, Option, Some, None}
use Rattle.std.specs.Io.KnownBytes.{Appends}
use Rattle.link.specs.Transfer.{AppendsPart}
use Rattle.flat_machine.specs.declared.config.Config.{Config}
use Rattle.machine_steps.specs.elf_image.Images.{ImageContents}
use Rattle.machine_steps.specs.elf_image.Openings.{opening as flat_opening}
use Rattle.steps.specs.declared.step.Step.{Step}
use Rattle.trace_file.specs.Traces.{IsTrace, trace_bytes, trace_of}
use Rattle.machine_steps.specs.Machines.{MachineLists, IsIdle}
use Rattle.machine_steps.specs.Runs.{IsOpening, IsSerialized, passed}
use Rattle.machine_log.specs.Logs.{Log}
use Rattle.command_io.specs.Tallies.{TallyState}
use Rattle.command_io.specs.declared.fault.Fault.{Fault}
use Rattle.command_io.specs.Links.{Input, Output}
use Rattle.command_io.specs.Printing.{Prints}
use Rattle.run_reports.specs.CountedReplays.{IsReplayCounted}
use Rattle.run_reports.specs.Reports.{report_of, IsExitOf, IsFlatReport}

-- This is the report and the exit status of the machine of this size that opens on the image and takes the steps. No
-- reference is open after them. One serial order of whole instructions explains the steps, and the report is that of
-- the flat machine that opens on the image and takes this order.
pub record IsReportOf (c : Config) (image : ImageContents) (steps : List Step) (text : List ℕ)
    (status : ℕ) : Type 0 where
  pub opening : MachineLists
  pub opens : IsOpening c image opening
  pub machine : MachineLists
  pub tally : TallyState
  pub replay_counted : IsReplayCounted opening steps machine tally
  pub idle : IsIdle machine
  pub is : text ≡ report_of machine tally.shown
  pub exit : IsExitOf machine status
  pub serialized : IsSerialized opening steps machine
  pub flat : IsFlatReport c (flat_opening c image.layout) (passed opening steps).order text status

-- ---- a run

-- No call of the writer, if there is one, has failed.
abbrev pub IsWorking : {T : Type 0} → (T → Bool) → Option T → Type 0
IsWorking has_failed None = Unit {0}
IsWorking has_failed (Some writer) = has_failed writer ≡ false

-- If there is a writer, it has appended the bytes.
abbrev pub IsSaved : {T : Type 0} → (T → Option (List ℕ)) → (old new : Option T) → List ℕ → Type 0
IsSaved contents None None bytes = Unit {0}
IsSaved contents (Some old) (Some new) bytes = Appends (contents old) (contents new) bytes
IsSaved contents None (Some new) bytes = ⊥
IsSaved contents (Some old) None bytes = ⊥

-- There is a writer, and it has appended a beginning of the bytes and not all of them.
abbrev pub IsPartSaved : {T : Type 0} → (T → Option (List ℕ)) → (old new : Option T) → List ℕ → Type 0
IsPartSaved contents (Some old) (Some new) bytes = AppendsPart (contents old) (contents new) bytes
IsPartSaved contents (Some old) None bytes = ⊥
IsPartSaved contents None new bytes = ⊥

-- The writer of a trace, if one is asked for, before and after a command.
pub record TraceOutput (T : Type 0) : Type 0 where
  pub contents : T → Option (List ℕ)
  pub old : Option T
  pub new : Option T

abbrev pub trace_output : {T : Type 0} → (contents : T → Option (List ℕ)) → (old new : Option T) → TraceOutput T
trace_output contents old new = record { contents = contents; old = old; new = new }

-- If a trace is asked for, the bytes are written.
abbrev pub HasSaved : {T : Type 0} → TraceOutput T → List ℕ → Type 0
HasSaved trace bytes = IsSaved trace.contents trace.old trace.new bytes

-- A beginning of the bytes is written, and not all of them.
abbrev pub HasPartSaved : {T : Type 0} → TraceOutput T → List ℕ → Type 0
HasPartSaved trace bytes = IsPartSaved trace.contents trace.old trace.new bytes

-- A run that a command is asked for: the machine's size, the image's file, which image and log are such a run, and why
-- there may be none.
pub record AskedRun : Type 1 where
  pub config : Config
  pub file : Input
  pub is_run : ImageContents → Log → Type 0
  pub is_not_run : Fault → Type 0

-- The log of the run has these steps, and this is its report and its exit status.
pub record IsReportedRun (run : AskedRun) (steps : List Step) (text : List ℕ) (status : ℕ) : Type 0 where
  pub image : ImageContents
  pub log : Log
  pub is : run.is_run image log
  pub entered : log.steps ≡ steps
  pub report : IsReportOf run.config image steps text status

-- This is the report of the run and its exit status, and the trace of the run is written if one is asked for.
pub record IsRunReport {T : Type 0} (run : AskedRun) (trace : TraceOutput T) (status : ℕ) (text : List ℕ) : Type 0 where
  pub steps : List Step
  pub reported : IsReportedRun run steps text status
  pub saved : HasSaved trace (trace_bytes (trace_of run.config steps))

-- This is the report of the run, with some exit status.
abbrev pub IsSomeRunReport : {T : Type 0} → AskedRun → TraceOutput T → (text : List ℕ) → Type 0
IsSomeRunReport run trace text = (status : ℕ) × IsRunReport run trace status text

-- The report of the run is printed, and this is the exit status.
abbrev pub PrintsRun : {T : Type 0} → AskedRun → TraceOutput T → Output → (status : ℕ) → Type 0
PrintsRun run trace out status = Prints (IsRunReport run trace status) out.old out.new

-- ---- a log

-- The log has a report and a trace: its machine opened on its image, no reference is open, and a trace file can spell
-- its steps.
pub record CanBeReported (log : Log) : Type 0 where
  pub opens : IsOpening log.machine.config log.machine.image log.opening
  pub words : log.machine.image.shared_words ≡ log.machine.config.shared_words
  pub idle : IsIdle log.machine
  pub trace : IsTrace (trace_of log.machine.config log.steps)

-- This is the report of the log and its exit status, and the trace of the log is written if one is asked for.
pub record IsLogReport {T : Type 0} (log : Log) (trace : TraceOutput T) (status : ℕ) (text : List ℕ) : Type 0 where
  pub report : IsReportOf log.machine.config log.machine.image log.steps text status
  pub saved : HasSaved trace (trace_bytes (trace_of log.machine.config log.steps))

-- This is the report of the log, with some exit status.
abbrev pub IsSomeLogReport : {T : Type 0} → Log → TraceOutput T → (text : List ℕ) → Type 0
IsSomeLogReport log trace text = (status : ℕ) × IsLogReport log trace status text

-- The report of the log is printed, and this is the exit status.
abbrev pub PrintsLog : {T : Type 0} → Log → TraceOutput T → Output → (status : ℕ) → Type 0
PrintsLog log trace out status = Prints (IsLogReport log trace status) out.old out.new
