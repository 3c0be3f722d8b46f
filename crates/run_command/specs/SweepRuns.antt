-- A run of the image in a file by the sweep, and why there may be none.
use Rattle.std.specs.Prelude.{◌≡◌, ℕ, Bool, true, false, min, List, None}
use Rattle.flat_machine.specs.declared.config.Config.{Config}
use Rattle.flat_machine.specs.Limits.{IsWithinLimits}
use Rattle.elf_image.specs.Files.{IsImageOf, IsImageRefusal}
use Rattle.elf_image.specs.Images.{ImageContents}
use Rattle.schedules.specs.trace_file.Traces.{IsTrace, trace_of}
use Rattle.machine_steps.specs.Machines.{MachineLists}
use Rattle.machine_steps.specs.Runs.{IsReplay}
use Rattle.machine_steps.specs.steps.declared.step.Step.{Step}
use Rattle.machine_log.specs.Logs.{Log}
use Rattle.schedules.specs.Sweeps.{IsSwept, IsWholeRun, most_of, opened}
use Rattle.schedules.specs.declared.sweeping.SweepEnd.{SweepEnd}
use Rattle.schedules.specs.declared.sweeping.SweepEnd.TheVariants.{Budget, Over}
use Rattle.command_io.specs.declared.fault.Fault.{Fault}
use Rattle.command_io.specs.declared.fault.Fault.TheVariants as fault
use Rattle.command_io.specs.Links.{Input}
use Rattle.command_io.specs.Tallies.{TallyState}
use Rattle.run_reports.specs.CountedReplays.{IsReplayCounted}
use Rattle.run_reports.specs.RunReports.{AskedRun, IsReportedRun, TraceOutput}
use Rattle.run_command.specs.UnfinishedRuns.{AskedRuns, is_reported}

-- A run by the sweep, as it is asked for: the machine's size, the number of steps that it may take, and the image's
-- file.
pub record SweepRun : Type 0 where
  pub config : Config
  pub budget : ℕ
  pub file : Input

abbrev pub sweep_run : Config → (budget : ℕ) → Input → SweepRun
sweep_run config budget file = record { config = config; budget = budget; file = file }

-- The log of a run of the file's image: from the machine's opening on, the log has followed the sweep to this end, for
-- at most `most` steps, and was then drained.
pub record IsRunWithin (most : ℕ) (run : SweepRun) (end : SweepEnd) (image : ImageContents) (log : Log) : Type 0 where
  pub meant : IsImageOf run.config.shared_words run.file.bytes image
  pub whole : IsWholeRun run.config image most end log

-- the same within the budget
abbrev pub IsRunOf : SweepRun → SweepEnd → ImageContents → Log → Type 0
IsRunOf run = IsRunWithin (most_of run.budget) run

-- The run has come to this end, and a trace file can spell the steps of its log.
pub record IsEndedRun (run : SweepRun) (end : SweepEnd) (image : ImageContents) (log : Log) : Type 0 where
  pub ended : IsRunOf run end image log
  pub trace : IsTrace (trace_of run.config log.steps)

-- This is the log of such a run, for some image.
abbrev pub IsSomeEndedRun : SweepRun → SweepEnd → Log → Type 0
IsSomeEndedRun run end log = (image : ImageContents) × IsEndedRun run end image log

-- Why there is no such run of at most `most` steps: the image is refused; the machine's size is out of limits; or all
-- these steps are taken, a processor still runs, and no fault has stopped one. Nothing is said about a lack of memory.
abbrev pub RunFailsWithin : (most : ℕ) → SweepRun → Fault → Type 0
RunFailsWithin most run (fault.Image e) = IsImageRefusal run.config.shared_words run.file.bytes e
RunFailsWithin most run fault.Size = ((image : ImageContents) × IsImageOf run.config.shared_words run.file.bytes image)
    × (IsWithinLimits run.config → ⊥)
RunFailsWithin most run fault.Budget = (image : ImageContents) × (log : Log) × IsRunWithin most run Budget image log
RunFailsWithin most run fault.Memory = Unit {0}
RunFailsWithin most run other = ⊥

-- the same within the budget
abbrev pub RunItselfFails : SweepRun → Fault → Type 0
RunItselfFails run = RunFailsWithin (most_of run.budget) run

-- Why there is no report: the machine or its run fails, and the budget only if an unfinished run is not reported.
pub record FailsBefore (both : Bool) (most : ℕ) (run : SweepRun) (f : Fault) : Type 0 where
  pub cause : RunFailsWithin most run f
  pub budget : f ≡ fault.Budget → both ≡ false

-- a run that is over, as a command reports it
abbrev pub by_sweep : SweepRun → AskedRun
by_sweep run = record {
  config = run.config;
  file = run.file;
  is_run = IsEndedRun run Over;
  is_not_run = RunItselfFails run;
}

-- one that its budget has ended, as a command reports it; `by_sweep` says why there may be no run
abbrev pub unfinished_by_sweep : SweepRun → AskedRun
unfinished_by_sweep run = record {
  config = run.config;
  file = run.file;
  is_run = IsEndedRun run Budget;
  is_not_run = λ f. f ≡ fault.Memory;
}

-- both, and whether the second is reported, too
abbrev pub runs_by_sweep : (both : Bool) → SweepRun → AskedRuns
runs_by_sweep both run = record { over = by_sweep run; unfinished = unfinished_by_sweep run; both = both }

-- ---- a run whose log is not kept

-- the most steps that such a run takes before its drain
abbrev pub most_unlogged : (budget : ℕ) → ℕ
most_unlogged budget = min budget 4000000000

-- a run that is over, as a command reports it: it has a log, which is not kept
abbrev pub without_log : SweepRun → AskedRun
without_log run = record {
  config = run.config;
  file = run.file;
  is_run = IsRunWithin (most_unlogged run.budget) run Over;
  is_not_run = RunFailsWithin (most_unlogged run.budget) run;
}

-- one that its budget has ended, as a command reports it; `without_log` says why there may be no run
abbrev pub unfinished_without_log : SweepRun → AskedRun
unfinished_without_log run = record {
  config = run.config;
  file = run.file;
  is_run = IsRunWithin (most_unlogged run.budget) run Budget;
  is_not_run = λ f. f ≡ fault.Memory;
}

-- both, and whether the second is reported, too
abbrev pub runs_without_log : (both : Bool) → SweepRun → AskedRuns
runs_without_log both run = record { over = without_log run; unfinished = unfinished_without_log run; both = both }

-- the run that has come to this end
abbrev pub ended_without_log : SweepEnd → SweepRun → AskedRun
ended_without_log Over = without_log
ended_without_log Budget = unfinished_without_log

-- no trace is asked for
abbrev pub no_trace : TraceOutput (Unit {0})
no_trace = record { contents = λ none. None; old = None; new = None }

-- This is the report of the run, with this exit status.
abbrev pub IsSomeReport : AskedRun → (text : List ℕ) → (status : ℕ) → Type 0
IsSomeReport run text status = (steps : List Step) × IsReportedRun run steps text status

-- ---- from the machine's opening on

-- Why a sweep is not to be reported: the budget is used up, and an unfinished run is not reported; or there is no
-- memory for the steps, and none is taken.
abbrev pub IsNotReported : (both : Bool) → (budget : ℕ) → (old new : Log) → Fault → Type 0
IsNotReported both budget old new fault.Budget = (both ≡ false) × IsSwept (most_of budget) old Budget new
IsNotReported both budget old new fault.Memory = new ≡ old
IsNotReported both budget old new other = ⊥

-- the log of a machine that has taken these steps since its opening
abbrev pub log_of : (opening : MachineLists) → (steps : List Step) → MachineLists → Log
log_of opening steps m = record { opening = opening; steps = steps; machine = m }

-- The machine has followed the sweep to this end, for at most `most` steps, and was then drained. The tally has what
-- its processors have shown.
pub record IsCountedRun (most : ℕ) (opening : MachineLists) (end : SweepEnd) (m : MachineLists)
    (tally : TallyState) : Type 0 where
  pub steps : List Step
  pub counted : IsReplayCounted opening steps m tally
  pub swept : IsSwept most (opened opening) end (log_of opening steps m)

-- Some machine has followed the sweep to this end, for at most `most` steps, and was then drained.
pub record IsSweptTo (most : ℕ) (opening : MachineLists) (end : SweepEnd) : Type 0 where
  pub steps : List Step
  pub machine : MachineLists
  pub replay : IsReplay opening steps machine
  pub swept : IsSwept most (opened opening) end (log_of opening steps machine)

-- Why there is no counted run: the sweep is not over after `most` steps, and an unfinished run is not reported; or the
-- run is to be reported, and there was no memory to count what the processors showed.
abbrev pub IsNotCounted : (both : Bool) → (most : ℕ) → (opening : MachineLists) → Fault → Type 0
IsNotCounted both most opening fault.Budget = (both ≡ false) × IsSweptTo most opening Budget
IsNotCounted both most opening fault.Memory =
    (end : SweepEnd) × (is_reported both end ≡ true) × IsSweptTo most opening end
IsNotCounted both most opening other = ⊥
