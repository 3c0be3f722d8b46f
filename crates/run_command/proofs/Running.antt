-- A log that has followed the sweep from a machine's opening on is that of a run, and a trace file can spell its steps.
use Rattle.std.proofs.Common.{◌≡◌, ℕ, Bool, ◌∙◌, ap, sym, subst, arith}
use Rattle.flat_machine.specs.declared.config.Config.{Config}
use Rattle.flat_machine.specs.Limits.{IsWithinLimits}
use Rattle.elf_image.specs.Files.{IsImageOf}
use Rattle.elf_image.specs.Images.{ImageContents}
use Rattle.schedules.specs.trace_file.Traces.{HaveRecords, IsTrace, trace_of}
use Rattle.machine_steps.specs.Machines.{MachineLists}
use Rattle.machine_steps.specs.Runs.{IsOpening}
use Rattle.machine_log.specs.Logs.{Log, IsWellFormed}
use Rattle.schedules.specs.Sweeps.{IsSwept, most_of, opened}
use Rattle.schedules.specs.declared.sweeping.SweepEnd.{SweepEnd}
use Rattle.schedules.specs.declared.sweeping.SweepEnd.TheVariants.{Budget}
use Rattle.command_io.specs.declared.fault.Fault.{Fault}
use Rattle.command_io.specs.declared.fault.Fault.TheVariants as fault
use Rattle.run_reports.specs.Causes.{RunFails}
use Rattle.run_reports.specs.RunReports.{AskedRun, TraceOutput}
use Rattle.run_reports.proofs.Lemmas.{is_spelled}
use Rattle.command_io.specs.Links.{Input, Output}
use Rattle.run_command.specs.SweepRuns.{FailsBefore, IsNotReported, IsRunOf, RunFailsWithin, RunItselfFails, SweepRun, sweep_run}

module _ (c : Config) (budget : ℕ) (file : Input) (image : ImageContents) (meant : IsImageOf c.shared_words file.bytes image) (m : MachineLists)
    (opens : IsOpening c image m) (old log : Log) (starts : old ≡ opened m) (kept : IsWellFormed log) (end : SweepEnd)
    (swept : IsSwept (most_of budget) old end log) where
  opening_is : log.opening ≡ m
  opening_is = swept.opening ∙ ap (λ (l : Log). l.opening) starts

  config_is : log.machine.config ≡ c
  config_is = kept.replay.run.config ∙ ap (λ (n : MachineLists). n.config) opening_is ∙ opens.config

  -- A log that has followed the sweep from the machine's opening on is that of a run of the image.
  pub run_of : IsRunOf (sweep_run c budget file) end image log
  run_of = record {
    meant = meant;
    whole = record {
      opens = subst (IsOpening c image) (sym opening_is) opens;
      replay = kept.replay;
      swept = subst (λ (l : Log). IsSwept (most_of budget) l end log) (starts ∙ ap opened (sym opening_is)) swept;
    };
  }

  -- If each step of the log has a record, a trace file can spell the steps.
  pub trace_is : (HaveRecords old.machine.config.k old.steps → HaveRecords log.machine.config.k log.steps) → IsTrace (trace_of c log.steps)
  trace_is records =
      is_spelled c log.steps (subst IsWithinLimits config_is kept.sound.limits) kept.room
      (subst (λ (d : Config). HaveRecords d.k log.steps) config_is
      (records (subst (λ (l : Log). HaveRecords l.machine.config.k l.steps) (sym starts) (λ p d inside. absurd (omega (arith, inside))))))

module _ (both : Bool) (run : SweepRun) (image : ImageContents) (old log : Log)
    (spent : IsSwept (most_of run.budget) old Budget log → IsRunOf run Budget image log) where
  cause_is : (f : Fault) → IsNotReported both run.budget old log f → RunItselfFails run f
  cause_is fault.Budget p = (image, log, spent p.1)
  cause_is fault.Memory p = tt
  cause_is (fault.Image e) p = absurd p
  cause_is (fault.Line n) p = absurd p
  cause_is (fault.Text e) p = absurd p
  cause_is fault.NotUtf8 p = absurd p
  cause_is (fault.Trace e) p = absurd p
  cause_is fault.Size p = absurd p
  cause_is (fault.Stalled n) p = absurd p
  cause_is fault.Full p = absurd p
  cause_is fault.Loan p = absurd p
  cause_is fault.Start p = absurd p
  cause_is fault.States p = absurd p
  cause_is fault.Alone p = absurd p
  cause_is fault.Link p = absurd p

  -- If the sweep of a log is not to be reported, there is no report, for the same fault.
  pub not_swept : (f : Fault) → IsNotReported both run.budget old log f → FailsBefore both (most_of run.budget) run f
  not_swept f p = record {
    cause = cause_is f p;
    budget = λ e. let used : IsNotReported both run.budget old log fault.Budget = subst (IsNotReported both run.budget old log) e p in used.0;
  }

module _ {T : Type 0} (run : AskedRun) (trace : TraceOutput T) (out : Output) (unsaved : trace.new ≡ trace.old) (most : ℕ) (asked : SweepRun)
    (same : (f : Fault) → RunFailsWithin most asked f → run.is_not_run f) where
  -- If there is no run, and no trace is written, the command fails with the same fault.
  pub run_fails : (f : Fault) → RunFailsWithin most asked f → RunFails run trace out f
  run_fails (fault.Image e) p = (same (fault.Image e) p, unsaved)
  run_fails fault.Size p = (same fault.Size p, unsaved)
  run_fails fault.Budget p = (same fault.Budget p, unsaved)
  run_fails fault.Memory p = (same fault.Memory p, unsaved)
  run_fails (fault.Line n) p = absurd p
  run_fails (fault.Text e) p = absurd p
  run_fails fault.NotUtf8 p = absurd p
  run_fails (fault.Trace e) p = absurd p
  run_fails (fault.Stalled n) p = absurd p
  run_fails fault.Full p = absurd p
  run_fails fault.Loan p = absurd p
  run_fails fault.Start p = absurd p
  run_fails fault.States p = absurd p
  run_fails fault.Alone p = absurd p
  run_fails fault.Link p = absurd p
