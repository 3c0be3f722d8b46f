-- Why a run or a log is not reported: what each fault says about the files.
use Rattle.std.specs.Prelude.{◌≡◌}
use Rattle.machine_steps.specs.elf_image.declared.error.ImageError.TheVariants as of_image
use Rattle.machine_steps.specs.elf_image.Images.{ImageContents}
use Rattle.trace_file.specs.declared.error.TraceError.TheVariants as of_trace
use Rattle.trace_file.specs.Traces.{trace_bytes, trace_of}
use Rattle.machine_log.specs.Logs.{Log}
use Rattle.command_io.specs.declared.fault.Fault.{Fault}
use Rattle.command_io.specs.declared.fault.Fault.TheVariants as fault
use Rattle.command_io.specs.Links.{IsOfLink, Output}
use Rattle.command_io.specs.Printing.{PrintsPrefix}
use Rattle.run_reports.specs.RunReports.{AskedRun, HasPartSaved, IsSomeLogReport, IsSomeRunReport, TraceOutput}

-- ---- a run

-- There is such a run, and a beginning of its trace, and not all of it, is written.
pub record IsPartSavedRun {T : Type 0} (run : AskedRun) (trace : TraceOutput T) : Type 0 where
  pub image : ImageContents
  pub log : Log
  pub is : run.is_run image log
  pub part : HasPartSaved trace (trace_bytes (trace_of run.config log.steps))

-- Why a run is not reported: its trace cannot be written; or its report cannot be printed after that; or there is no
-- such run or no memory for its report, and then no byte of a trace is written.
abbrev pub RunFails : {T : Type 0} → AskedRun → TraceOutput T → Output → Fault → Type 0
RunFails run trace out (fault.Trace e) = (e ≡ of_trace.Link) × IsPartSavedRun run trace
RunFails run trace out fault.Link = PrintsPrefix (IsSomeRunReport run trace) out.old out.new
RunFails run trace out other = run.is_not_run other × (trace.new ≡ trace.old)

-- Why a command that runs an image fails: the fault has a cause, and it is that of a link exactly if the link failed.
pub record RunCommandFails {T : Type 0} (run : AskedRun) (trace : TraceOutput T) (out : Output) (f : Fault) : Type 0
  where
    pub cause : RunFails run trace out f
    pub unread : IsOfLink (fault.Image of_image.Link) run.file.has_failed f
    pub unprinted : IsOfLink fault.Link out.has_failed f

-- Why a log is not reported: its trace cannot be written; or its report cannot be printed after that; or there is no
-- memory for the report, and then no byte of a trace is written.
abbrev pub LogReportFails : {T : Type 0} → Log → TraceOutput T → Output → Fault → Type 0
LogReportFails log trace out (fault.Trace e) =
    (e ≡ of_trace.Link) × HasPartSaved trace (trace_bytes (trace_of log.machine.config log.steps))
LogReportFails log trace out fault.Link = PrintsPrefix (IsSomeLogReport log trace) out.old out.new
LogReportFails log trace out fault.Memory = trace.new ≡ trace.old
LogReportFails log trace out other = ⊥
