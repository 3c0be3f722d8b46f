-- What a command does with a run that its budget ends.
use Rattle.std.specs.Prelude.{◌≡◌, ◌⊎◌, ℕ, Bool, true, false}
use Rattle.elf_image.specs.declared.error.ImageError.TheVariants as of_image
use Rattle.schedules.specs.declared.sweeping.SweepEnd.{SweepEnd}
use Rattle.schedules.specs.declared.sweeping.SweepEnd.TheVariants.{Budget, Over}
use Rattle.command_io.specs.declared.fault.Fault.{Fault}
use Rattle.command_io.specs.declared.fault.Fault.TheVariants as fault
use Rattle.command_io.specs.Links.{IsOfLink, Output}
use Rattle.machine_log.specs.Logs.{Log}
use Rattle.run_reports.specs.Causes.{LogReportFails, RunFails}
use Rattle.run_reports.specs.RunReports.{AskedRun, PrintsLog, PrintsRun, TraceOutput}

-- The two kinds of runs that a command can meet: one that is over, and an unfinished one, which its budget has ended.
-- `both` says whether the command reports an unfinished run, too.
pub record AskedRuns : Type 1 where
  pub over : AskedRun
  pub unfinished : AskedRun
  pub both : Bool

-- Why a command ends with this fault: a run that is over is not reported, for this fault. If an unfinished run is
-- reported, too, the fault of the budget comes with its report, which is printed; another fault says why a run of one
-- of the two kinds is not reported.
abbrev pub EndsInFault : {T : Type 0} → (both : Bool) → (over unfinished : AskedRun) → TraceOutput T → Output → Fault →
    Type 0
EndsInFault false over unfinished trace out f = RunFails over trace out f
EndsInFault true over unfinished trace out fault.Budget = (status : ℕ) × PrintsRun unfinished trace out status
EndsInFault true over unfinished trace out other = RunFails over trace out other ⊎ RunFails unfinished trace out other

-- the same, of the runs that a command is asked for
abbrev pub RunsEndIn : {T : Type 0} → AskedRuns → TraceOutput T → Output → Fault → Type 0
RunsEndIn runs trace out f = EndsInFault runs.both runs.over runs.unfinished trace out f

-- Why a command that runs an image ends with a fault: the fault has a cause, and it is that of a link exactly if the
-- link failed.
pub record RunCommandEnds {T : Type 0} (runs : AskedRuns) (trace : TraceOutput T) (out : Output) (f : Fault) : Type 0
  where
    pub cause : RunsEndIn runs trace out f
    pub unread : IsOfLink (fault.Image of_image.Link) runs.over.file.has_failed f
    pub unprinted : IsOfLink fault.Link out.has_failed f

-- The report of an unfinished run is asked for and printed, and the fault that is reported is that of the budget.
pub record PrintsUnfinished {T : Type 0} (runs : AskedRuns) (trace : TraceOutput T) (out : Output)
    (reports : Fault → Type 0) : Type 0 where
  pub asked : runs.both ≡ true
  pub status : ℕ
  pub printed : PrintsRun runs.unfinished trace out status
  pub reported : reports fault.Budget

-- Nothing is printed with this fault, unless it is that of the budget and an unfinished run is reported, too.
abbrev pub IsSilentBut : (both : Bool) → (is_silent : Type 0) → Fault → Type 0
IsSilentBut both is_silent f = is_silent ⊎ ((f ≡ fault.Budget) × (both ≡ true))

-- whether a run with this end is reported: one that is over, or an unfinished one if it is asked for
abbrev pub is_reported : (both : Bool) → SweepEnd → Bool
is_reported both Over = true
is_reported both Budget = both

-- ---- a log

-- What is done with the log of an unfinished run: its report is printed, and the fault is that of the budget; or the
-- fault says why it is not printed.
abbrev pub UnfinishedLogEnds : {T : Type 0} → Log → TraceOutput T → Output → Fault → Type 0
UnfinishedLogEnds log trace out fault.Budget = (status : ℕ) × PrintsLog log trace out status
UnfinishedLogEnds log trace out other = LogReportFails log trace out other
