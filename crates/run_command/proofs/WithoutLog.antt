-- A machine that keeps no log has one all the same: it is that of a run of the image.
use Rattle.std.proofs.Common.{◌≡◌, inl, inr, ℕ, ◌+◌, ◌++◌, Bool, true, false, true≢false, List, Option, Some, refl, sym, subst, arith}
use Rattle.flat_machine.specs.declared.config.Config.{Config}
use Rattle.elf_image.specs.Files.{IsImageOf}
use Rattle.elf_image.specs.Images.{ImageContents}
use Rattle.machine_steps.specs.steps.declared.step.Step.{Step}
use Rattle.machine_steps.specs.Draining.{drain_steps}
use Rattle.machine_steps.specs.Machines.{MachineLists}
use Rattle.machine_steps.specs.Runs.{IsOpening, IsReplay}
use Rattle.machine_log.specs.Logs.{Log}
use Rattle.schedules.specs.Sweeps.{HasFollowed, IsSwept, opened}
use Rattle.schedules.specs.declared.sweeping.SweepEnd.{SweepEnd}
use Rattle.schedules.specs.declared.sweeping.SweepEnd.TheVariants.{Budget, Over}
use Rattle.command_io.specs.declared.fault.Fault.{Fault}
use Rattle.command_io.specs.declared.fault.Fault.TheVariants as fault
use Rattle.command_io.specs.Links.{Input, Output}
use Rattle.command_io.specs.Tallies.{TallyState}
use Rattle.run_reports.specs.InMemory.{IsReplayInMemory}
use Rattle.run_reports.specs.RunReports.{AskedRun, IsReportOf, IsRunReport, IsSomeRunReport}
use Rattle.run_command.specs.CountedMachines.{CountedModel, IsCountedLog, IsDrainedLog}
use Rattle.command_io.specs.Printing.{PrintsPrefix}
use Rattle.run_command.specs.SweepRuns.{FailsBefore, IsCountedRun, IsNotCounted, IsRunWithin, IsSomeReport, IsSweptTo, RunFailsWithin, SweepRun}
use Rattle.run_command.specs.SweepRuns.{ended_without_log, log_of, most_unlogged, no_trace, sweep_run, unfinished_without_log, without_log}
use Rattle.run_command.specs.UnfinishedRuns.{EndsInFault, is_reported}

-- ---- the machine

-- A log of the machine counted has followed the sweep.
abbrev pub HasFollowedCounted : (limit : ℕ) → (opening : MachineLists) → SweepEnd → CountedModel → Type 0
HasFollowedCounted limit opening end counted = (after : Log) × IsCountedLog counted after × HasFollowed limit (opened opening) end after

module _ (most limit : ℕ) (opening : MachineLists) (end : SweepEnd) (counted : CountedModel) (m : MachineLists) (tally : Option TallyState)
    (same : limit ≡ most) (f : HasFollowedCounted limit opening end counted) (d : IsDrainedLog counted m tally) where
  abbrev steps : List Step
  steps = f.0.steps ++ drain_steps f.0.machine

  in_memory : IsReplayInMemory opening steps m tally
  in_memory = subst (λ (x : MachineLists). IsReplayInMemory x steps m tally) f.2.opening (d.counted f.0 f.1)

  swept : IsSwept most (opened opening) end (log_of opening steps m)
  swept = record {
    middle = f.0;
    followed = subst (λ n. HasFollowed n (opened opening) end f.0) (let sum : limit ≡ 0 + most = omega (arith, same) in sum) f.2;
    opening = refl;
    steps = refl;
    idle = d.idle;
  }

  -- If there was memory to count, the machine is that of a counted run.
  pub counted_run : (t : TallyState) → tally ≡ Some t → IsCountedRun most opening end m t
  counted_run t there = record { steps = steps; counted = in_memory.counted t there; swept = swept }

  -- In any case the machine has followed the sweep to this end.
  pub is_swept : IsSweptTo most opening end
  is_swept = record { steps = steps; machine = m; replay = in_memory.replay; swept = swept }

-- ---- the run

module _ (c : Config) (budget : ℕ) (file : Input) (image : ImageContents) (meant : IsImageOf c.shared_words file.bytes image) (m : MachineLists)
    (opens : IsOpening c image m) where
  abbrev most : ℕ
  most = most_unlogged budget

  run_within : (end : SweepEnd) (taken : List Step) (new : MachineLists) → IsReplay m taken new → IsSwept most (opened m) end (log_of m taken new) →
      IsRunWithin most (sweep_run c budget file) end image (log_of m taken new)
  run_within end taken new replay swept = record { meant = meant; whole = record { opens = opens; replay = replay; swept = swept } }

  -- The report of a counted run is that of a run of the image.
  pub run_is_reported : (end : SweepEnd) (new : MachineLists) (tally : TallyState) (text : List ℕ) (status : ℕ) (r : IsCountedRun most m end new tally) →
      IsReportOf c image r.steps text status → IsSomeReport (ended_without_log end (sweep_run c budget file)) text status
  run_is_reported Over new tally text status r report = (
    r.steps,
    record {
      image = image;
      log = log_of m r.steps new;
      is = run_within Over r.steps new r.counted.replay r.swept;
      entered = refl;
      report = report;
    },
  )
  run_is_reported Budget new tally text status r report = (
    r.steps,
    record {
      image = image;
      log = log_of m r.steps new;
      is = run_within Budget r.steps new r.counted.replay r.swept;
      entered = refl;
      report = report;
    },
  )

  module _ (both : Bool) where
    cause_is : (f : Fault) → IsNotCounted both most m f → RunFailsWithin most (sweep_run c budget file) f
    cause_is fault.Budget p =
        let swept = p.1 in
        (image, log_of m swept.steps swept.machine, run_within Budget swept.steps swept.machine swept.replay swept.swept)
    cause_is fault.Memory p = tt
    cause_is (fault.Image e) p = absurd p
    cause_is (fault.Line n) p = absurd p
    cause_is (fault.Text e) p = absurd p
    cause_is fault.NotUtf8 p = absurd p
    cause_is (fault.Trace e) p = absurd p
    cause_is fault.Size p = absurd p
    cause_is (fault.Stalled n) p = absurd p
    cause_is fault.Full p = absurd p
    cause_is fault.Loan p = absurd p
    cause_is fault.Start p = absurd p
    cause_is fault.States p = absurd p
    cause_is fault.Alone p = absurd p
    cause_is fault.Link p = absurd p

    -- If the run is not counted, there is no report, for the same fault.
    pub not_counted : (f : Fault) → IsNotCounted both most m f → FailsBefore both most (sweep_run c budget file) f
    not_counted f p = record {
      cause = cause_is f p;
      budget = λ e. let spent : IsNotCounted both most m fault.Budget = subst (IsNotCounted both most m) e p in spent.0;
    }

-- ---- the command

-- The report of a run is one of a command that is asked for no trace.
pub run_report : (run : AskedRun) (text : List ℕ) (status : ℕ) → IsSomeReport run text status → IsRunReport run no_trace status text
run_report run text status r = record { steps = r.0; reported = r.1; saved = tt }

-- If a beginning of the report of a run that is to be reported is printed, the command ends with the fault of the output.
pub cut_ends : (run : SweepRun) (out : Output) (both : Bool) (end : SweepEnd) → is_reported both end ≡ true →
    PrintsPrefix (IsSomeRunReport (ended_without_log end run) no_trace) out.old out.new →
    EndsInFault both (without_log run) (unfinished_without_log run) no_trace out fault.Link
cut_ends run out false Over wanted p = p
cut_ends run out true Over wanted p = inl p
cut_ends run out true Budget wanted p = inr p
cut_ends run out false Budget wanted p = absurd (true≢false (sym wanted))
