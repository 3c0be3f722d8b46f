-- Sessions of a command, and how the command ends.
use Rattle.std.specs.Prelude.{◌≡◌, ◌⊎◌, ℕ, Bool, true, false, List, Option, Some, None}
use Rattle.flat_machine.specs.declared.config.Config.{Config}
use Rattle.flat_machine.specs.Limits.{IsWithinLimits}
use Rattle.elf_image.specs.Files.{IsImageOf, IsImageRefusal}
use Rattle.elf_image.specs.Images.{ImageContents}
use Rattle.machine_steps.specs.Machines.{MachineLists}
use Rattle.machine_steps.specs.Runs.{IsOpening, IsReplay}
use Rattle.machine_log.specs.Logs.{Log}
pub use Rattle.machine_log.specs.Logs.{opened}
use Rattle.command_io.specs.declared.fault.Fault.{Fault}
use Rattle.command_io.specs.declared.fault.Fault.TheVariants as fault
use Rattle.command_io.specs.Faults.{status_of_fault}
use Rattle.command_io.specs.FaultTexts.{IsReported}
use Rattle.command_io.specs.ErrorOutputs.{ErrorOutput}
use Rattle.command_io.specs.Links.{Input, IsOfLink}
use Rattle.elf_image.specs.declared.error.ImageError.TheVariants as of_image
use Rattle.trace_file.specs.declared.error.TraceError.TheVariants as of_trace
use Rattle.trace_file.specs.Traces.{trace_bytes, trace_of}
use Rattle.run_reports.specs.RunReports.{IsPartSaved, IsSaved, IsWorking}
use Rattle.run_reports.specs.Reports.{IsExitOf}
use Rattle.debug_session.specs.Conversations.{HasServed, IsServed}
use Rattle.debug_session.specs.Sweeps.{sweep_spec}
use Rattle.debug_session.specs.declared.session_end.SessionEnd.{SessionEnd}
use Rattle.debug_session.specs.declared.session_end.SessionEnd.TheVariants.{Quit, EndOfInput, ReadFailed, WriteFailed}
use Rattle.debug_session.specs.declared.session_end.SessionEnd.TheVariants.{Memory, TraceFull}

-- The exit status that says a session's end: that of the machine where it ended well, 3 where its link failed, and 4
-- where there was no memory, or no room, for its first steps.
abbrev pub IsStatusOf : SessionEnd → MachineLists → (status : ℕ) → Type 0
IsStatusOf Quit m status = IsExitOf m status
IsStatusOf EndOfInput m status = IsExitOf m status
IsStatusOf ReadFailed m status = status ≡ 3
IsStatusOf WriteFailed m status = status ≡ 3
IsStatusOf Memory m status = status ≡ 4
IsStatusOf TraceFull m status = status ≡ 4

-- Standard error has got the line that reports the fault that ended a session; and nothing, where it ended well.
abbrev pub IsEndReported : {E : Type 0} → SessionEnd → ErrorOutput E → Type 0
IsEndReported Quit err = err.new ≡ err.old
IsEndReported EndOfInput err = err.new ≡ err.old
IsEndReported ReadFailed err = IsReported (err.contents err.old) (err.contents err.new) fault.Link
IsEndReported WriteFailed err = IsReported (err.contents err.old) (err.contents err.new) fault.Link
IsEndReported Memory err = IsReported (err.contents err.old) (err.contents err.new) fault.Memory
IsEndReported TraceFull err = IsReported (err.contents err.old) (err.contents err.new) fault.Full

-- What a door gives: what a link is like when it is given, what its reader has left, and what its writer has got.
pub record LinkSpec (R W : Type 0) : Type 1 where
  pub gives : R × W → Type 0
  pub remaining : R → Option (List ℕ)
  pub contents : W → Option (List ℕ)

abbrev pub link_spec : {R W : Type 0} → (gives : R × W → Type 0) → (remaining : R → Option (List ℕ)) →
    (contents : W → Option (List ℕ)) → LinkSpec R W
link_spec gives remaining contents = record { gives = gives; remaining = remaining; contents = contents }

-- A session that the command is asked for: on a machine of this size, which opens on the image that the file is. `cont`
-- follows the sweep, for as many steps as the budget has at most.
pub record AskedSession : Type 0 where
  pub config : Config
  pub budget : ℕ
  pub file : Input

abbrev pub asked_session : Config → (budget : ℕ) → Input → AskedSession
asked_session c budget file = record { config = c; budget = budget; file = file }

-- A session of the machine that opens on the image which the file means, over a link that was given. Where there was
-- no memory, or no room, for its first steps, the log is as it was.
pub record IsSession {R W : Type 0} (links : LinkSpec R W) (d : AskedSession) (end : SessionEnd)
    (log : Log) : Type 0 where
  pub image : ImageContents
  pub meant : IsImageOf d.config.shared_words d.file.bytes image
  pub opening : MachineLists
  pub opens : IsOpening d.config image opening
  pub link : R × W
  pub given : links.gives link
  -- its log says how the machine came to where it stands
  pub opening_is : log.opening ≡ opening
  pub replay : IsReplay opening log.steps log.machine
  pub reader : R
  pub writer : W
  pub served : IsServed end
      (HasServed (sweep_spec d.budget) (links.remaining link.0) (links.remaining reader) (links.contents link.1)
      (links.contents writer) (opened opening) log end)
      (log ≡ opened opening)

-- Why there is no session: the image is refused, the machine's size is out of its limits, or there is no link to the
-- machine that opens on the image. Of a lack of memory nothing is said.
abbrev pub IsNoSession : AskedSession → Fault → Type 0
IsNoSession d (fault.Image e) = IsImageRefusal d.config.shared_words d.file.bytes e
IsNoSession d fault.Size = ((image : ImageContents) × IsImageOf d.config.shared_words d.file.bytes image)
    × (IsWithinLimits d.config → ⊥)
IsNoSession d fault.Link = (image : ImageContents) × IsImageOf d.config.shared_words d.file.bytes image
    × ((opening : MachineLists) × IsOpening d.config image opening)
IsNoSession d fault.Memory = Unit {0}
IsNoSession d other = ⊥

-- ---- the trace of a session

-- The link to which the trace is written, where one is asked for, before and after the command.
pub record TraceLink (T : Type 0) : Type 0 where
  pub has_failed : T → Bool
  pub contents : T → Option (List ℕ)
  pub old : Option T
  pub new : Option T

abbrev pub trace_link : {T : Type 0} → (has_failed : T → Bool) → (contents : T → Option (List ℕ)) →
    (old new : Option T) → TraceLink T
trace_link has_failed contents old new = record { has_failed = has_failed; contents = contents; old = old; new = new }

-- How a session of machines of this size ended, and the log that it has left.
pub record SessionResult : Type 0 where
  pub config : Config
  pub end : SessionEnd
  pub log : Log

abbrev pub session_result : Config → SessionEnd → Log → SessionResult
session_result c end log = record { config = c; end = end; log = log }

-- a writer of which a call has failed
abbrev pub IsBroken : {T : Type 0} → (T → Bool) → Option T → Type 0
IsBroken has_failed None = ⊥
IsBroken has_failed (Some writer) = has_failed writer ≡ true

-- The trace of the session's steps is written, where one is asked for. Of a session that has not begun there is none.
abbrev pub HasSaved : {T : Type 0} → SessionResult → TraceLink T → Type 0
HasSaved s t = IsWorking t.has_failed t.new
    × IsServed s.end (IsSaved t.contents t.old t.new (trace_bytes (trace_of s.config s.log.steps))) (t.new ≡ t.old)

-- The trace's writer has failed: a beginning of the trace is written, and not all of it.
abbrev pub HasNotSaved : {T : Type 0} → SessionResult → TraceLink T → Type 0
HasNotSaved s t = IsBroken t.has_failed t.new
    × IsServed s.end (IsPartSaved t.contents t.old t.new (trace_bytes (trace_of s.config s.log.steps))) ⊥

-- ---- how the command ends

-- The trace is written, or none is asked for; the exit status is that of the session's end, which is reported.
pub record EndsAsSession {T E : Type 0} (s : SessionResult) (t : TraceLink T) (err : ErrorOutput E)
    (status : ℕ) : Type 0 where
  pub saved : HasSaved s t
  pub tells : IsStatusOf s.end s.log.machine status
  pub reported : IsEndReported s.end err

-- The trace could not be written, however the session ended; and this is reported.
pub record EndsUnsaved {T E : Type 0} (s : SessionResult) (t : TraceLink T) (err : ErrorOutput E)
    (status : ℕ) : Type 0 where
  pub unsaved : HasNotSaved s t
  pub tells : status ≡ 3
  pub reported : IsReported (err.contents err.old) (err.contents err.new) (fault.Trace of_trace.Link)

abbrev pub IsEnding : {T E : Type 0} → SessionResult → TraceLink T → ErrorOutput E → (status : ℕ) → Type 0
IsEnding s t err status = EndsAsSession s t err status ⊎ EndsUnsaved s t err status

-- What the command does to its writers: to that of the trace, if one is asked for, and to standard error.
pub record Outputs (T E : Type 0) : Type 0 where
  pub trace : TraceLink T
  pub err : ErrorOutput E

abbrev pub outputs : {T E : Type 0} → TraceLink T → ErrorOutput E → Outputs T E
outputs trace err = record { trace = trace; err = err }

-- A session has ended, and its trace is written, or could not be. The image was read without a failure.
pub record HasEnded {R W T E : Type 0} (links : LinkSpec R W) (d : AskedSession) (o : Outputs T E)
    (status : ℕ) : Type 0 where
  pub end : SessionEnd
  pub log : Log
  pub session : IsSession links d end log
  pub fact : IsEnding (session_result d.config end log) o.trace o.err status
  pub read : d.file.has_failed ≡ false

-- The exit status is that of a fault for which there is no session; it is reported, and nothing of a trace is written.
-- It is that of the file's link exactly if a read has failed.
pub record HasNotBegun {T E : Type 0} (d : AskedSession) (o : Outputs T E) (status : ℕ) : Type 0 where
  pub why : Fault
  pub cause : IsNoSession d why
  pub tells : status ≡ status_of_fault why
  pub reported : IsReported (o.err.contents o.err.old) (o.err.contents o.err.new) why
  pub unwritten : o.trace.new ≡ o.trace.old
  pub unread : IsOfLink (fault.Image of_image.Link) d.file.has_failed why

-- how the command ends
abbrev pub IsDebugged : {R W T E : Type 0} → (links : LinkSpec R W) → AskedSession → Outputs T E → (status : ℕ) → Type 0
IsDebugged links d o status = HasEnded links d o status ⊎ HasNotBegun d o status
