-- What a run on threads leaves.
use Rattle.std.specs.Prelude.{◌≡◌, ℕ, ◌^◌, ◌<◌, Bool, true, List, [], ◌∷◌, ◌++◌}
use Rattle.flat_machine.specs.declared.config.Config.{Config}
use Rattle.flat_machine.specs.declared.event.Cause.{Cause}
use Rattle.flat_machine.specs.declared.event.Event.{Event}
use Rattle.flat_machine.specs.declared.event.Event.TheVariants.{Stopped}
use Rattle.flat_machine.specs.Limits.{IsWithinLimits}
use Rattle.elf_image.specs.Files.{IsImageOf, IsImageRefusal}
use Rattle.elf_image.specs.Images.{ImageContents}
use Rattle.schedules.specs.trace_file.Traces.{IsTrace, trace_of}
use Rattle.machine_steps.specs.Draining.{drain_steps}
use Rattle.machine_steps.specs.Machines.{MachineLists, IsIdle}
use Rattle.machine_steps.specs.Runs.{IsOpening}
use Rattle.machine_log.specs.Logs.{Log, IsWellFormed}
use Rattle.machine_steps.specs.steps.Kinds.{all_within, no_poke}
use Rattle.command_io.specs.declared.fault.Fault.{Fault}
use Rattle.command_io.specs.declared.fault.Fault.TheVariants as fault
use Rattle.command_io.specs.Links.{Input}
use Rattle.run_reports.specs.CountedReplays.{AreConsoles, events_in}
use Rattle.run_reports.specs.RunReports.{AskedRun}
use Rattle.run_command.specs.UnfinishedRuns.{AskedRuns}

-- The last event is a stop.
pub record EndInStop (events : List Event) : Type 0 where
  pub before : List Event
  pub cause : Cause
  pub is : events ≡ before ++ Stopped cause ∷ []

-- The run has ended: no step of the log is a poke or names a place that the machine does not have, each processor has
-- stopped, and no reference is open. The bytes received from the consoles are exactly those that the processors wrote
-- in the steps.
pub record HasEnded (opening : MachineLists) (log : Log) (consoles : List (List ℕ)) : Type 0 where
  pub opening_is : log.opening ≡ opening
  pub kept : IsWellFormed log
  pub no_pokes : no_poke log.steps ≡ true
  pub named : all_within log.opening.config.k log.steps ≡ true
  pub stopped : (p : ℕ) → p < 2 ^ log.opening.config.k → EndInStop (events_in log.opening log.steps p)
  pub idle : IsIdle log.machine
  pub heard : AreConsoles log.opening log.steps consoles

-- A run on threads, as it is asked for: the machine's size, and the image's file.
pub record ThreadedRun : Type 0 where
  pub config : Config
  pub file : Input

abbrev pub threaded_run : Config → Input → ThreadedRun
threaded_run config file = record { config = config; file = file }

-- A run of the file's image has ended, on the machine of this size that opens on the image, and a trace file can spell
-- the steps of its log.
pub record IsThreaded (run : ThreadedRun) (image : ImageContents) (log : Log) (consoles : List (List ℕ)) : Type 0 where
  pub meant : IsImageOf run.config.shared_words run.file.bytes image
  pub opening : MachineLists
  pub opens : IsOpening run.config image opening
  pub ended : HasEnded opening log consoles
  pub trace : IsTrace (trace_of run.config log.steps)

-- The same, for some image.
abbrev pub IsSomeThreaded : ThreadedRun → Log → (consoles : List (List ℕ)) → Type 0
IsSomeThreaded run log consoles = (image : ImageContents) × IsThreaded run image log consoles

-- This is the log of such a run, whatever the bytes of the consoles.
abbrev pub IsThreadedLog : ThreadedRun → ImageContents → Log → Type 0
IsThreadedLog run image log = (consoles : List (List ℕ)) × IsThreaded run image log consoles

-- ---- a run that the budget of a thread has ended

-- Threads have taken the steps of the log, from the machine's opening on: none of them is a poke or names a place that
-- the machine does not have.
pub record IsOfThreads (opening : MachineLists) (log : Log) : Type 0 where
  pub opening_is : log.opening ≡ opening
  pub kept : IsWellFormed log
  pub no_pokes : no_poke log.steps ≡ true
  pub named : all_within log.opening.config.k log.steps ≡ true

-- Threads have taken the steps of the log, on the machine of this size that opens on the file's image.
pub record IsThreadsLog (run : ThreadedRun) (image : ImageContents) (log : Log) : Type 0 where
  pub meant : IsImageOf run.config.shared_words run.file.bytes image
  pub opening : MachineLists
  pub opens : IsOpening run.config image opening
  pub steps_are : IsOfThreads opening log

-- The same, for some image.
abbrev pub IsSomeThreadsLog : ThreadedRun → Log → Type 0
IsSomeThreadsLog run log = (image : ImageContents) × IsThreadsLog run image log

-- The log has the steps of one before it, and those of a drain after them. No reference is open.
pub record IsDrainedAfter (before log : Log) : Type 0 where
  pub opening : log.opening ≡ before.opening
  pub kept : IsWellFormed log
  pub steps : log.steps ≡ before.steps ++ drain_steps before.machine
  pub idle : IsIdle log.machine

-- The log of an unfinished run: the steps that threads have taken, and those of a drain. A trace file can spell them.
pub record IsUnfinished (run : ThreadedRun) (image : ImageContents) (log : Log) : Type 0 where
  pub before : Log
  pub taken : IsThreadsLog run image before
  pub drained : IsDrainedAfter before log
  pub trace : IsTrace (trace_of run.config log.steps)

-- ---- what a command is asked for

-- A machine of this size opens on the image in the file.
pub record HasBegun (run : ThreadedRun) : Type 0 where
  pub image : ImageContents
  pub meant : IsImageOf run.config.shared_words run.file.bytes image
  pub opening : MachineLists
  pub opens : IsOpening run.config image opening

-- Why there is no such run: the image is refused; the machine's size is out of limits; there is no memory; or the
-- machine opened, and the run ended with a fault of its own.
abbrev pub IsNotThreaded : ThreadedRun → Fault → Type 0
IsNotThreaded run (fault.Image e) = IsImageRefusal run.config.shared_words run.file.bytes e
IsNotThreaded run fault.Size = ((image : ImageContents) × IsImageOf run.config.shared_words run.file.bytes image)
    × (IsWithinLimits run.config → ⊥)
IsNotThreaded run fault.Memory = Unit {0}
IsNotThreaded run fault.Full = HasBegun run
IsNotThreaded run fault.Loan = HasBegun run
IsNotThreaded run fault.Budget = HasBegun run
IsNotThreaded run fault.Start = HasBegun run
IsNotThreaded run other = ⊥

-- a run that has ended, as a command reports it
abbrev pub on_threads : ThreadedRun → AskedRun
on_threads run = record {
  config = run.config;
  file = run.file;
  is_run = IsThreadedLog run;
  is_not_run = IsNotThreaded run;
}

-- one that the budget of a thread has ended, as a command reports it; `on_threads` says why there may be no run
abbrev pub unfinished_on_threads : ThreadedRun → AskedRun
unfinished_on_threads run = record {
  config = run.config;
  file = run.file;
  is_run = IsUnfinished run;
  is_not_run = λ f. f ≡ fault.Memory;
}

-- both, and whether the second is reported, too
abbrev pub runs_on_threads : (both : Bool) → ThreadedRun → AskedRuns
runs_on_threads both run = record { over = on_threads run; unfinished = unfinished_on_threads run; both = both }
