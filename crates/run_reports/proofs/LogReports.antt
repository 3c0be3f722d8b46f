-- The log of a run can be reported, and its report is that of the run.
use Rattle.std.proofs.Common.{◌≡◌, ℕ, List, ◌∙◌, ap, refl, sym, subst}
use Rattle.flat_machine.specs.declared.config.Config.{Config}
use Rattle.machine_steps.specs.elf_image.Images.{ImageContents}
use Rattle.trace_file.specs.Traces.{IsTrace, trace_bytes, trace_of}
use Rattle.machine_steps.specs.Machines.{IsIdle}
use Rattle.machine_steps.specs.Runs.{IsOpening, IsReplay}
use Rattle.machine_log.specs.Logs.{Log}
use Rattle.command_io.specs.declared.fault.Fault.{Fault}
use Rattle.command_io.specs.declared.fault.Fault.TheVariants as fault
use Rattle.command_io.specs.Links.{Output}
use Rattle.run_reports.specs.Causes.{LogReportFails, RunFails}
use Rattle.run_reports.specs.RunReports.{AskedRun, CanBeReported, HasPartSaved, HasSaved, IsLogReport, IsReportOf, IsRunReport}
use Rattle.run_reports.specs.RunReports.{PrintsLog, PrintsRun, TraceOutput}

module _ (c : Config) (image : ImageContents) (log : Log) (opens : IsOpening c image log.opening) (replay : IsReplay log.opening log.steps log.machine) where
  config_is : log.machine.config ≡ c
  config_is = replay.run.config ∙ opens.config

  image_is : log.machine.image ≡ image
  image_is = replay.run.image ∙ opens.image_is

  -- A run's log can be reported if no reference is open in its machine and a trace can have its steps.
  pub can_be_reported : image.shared_words ≡ c.shared_words → IsIdle log.machine → IsTrace (trace_of c log.steps) → CanBeReported log
  can_be_reported words idle trace = record {
    opens = subst (λ (x : Config × ImageContents). IsOpening x.0 x.1 log.opening) (λ i. (sym config_is i, sym image_is i)) opens;
    words = ap (λ (i : ImageContents). i.shared_words) image_is ∙ words ∙ sym (ap (λ (d : Config). d.shared_words) config_is);
    idle = idle;
    trace = subst (λ (d : Config). IsTrace (trace_of d log.steps)) (sym config_is) trace;
  }

  module _ {T : Type 0} (run : AskedRun) (size : run.config ≡ c) (is : run.is_run image log) (trace : TraceOutput T) (out : Output) where
    size_is : log.machine.config ≡ run.config
    size_is = config_is ∙ sym size

    reported : (status : ℕ) (text : List ℕ) → IsLogReport log trace status text → IsRunReport run trace status text
    reported status text r = record {
      steps = log.steps;
      reported = record {
        image = image;
        log = log;
        is = is;
        entered = refl;
        report = subst (λ (x : Config × ImageContents). IsReportOf x.0 x.1 log.steps text status) (λ i. (size_is i, image_is i)) r.report;
      };
      saved = subst (λ (d : Config). HasSaved trace (trace_bytes (trace_of d log.steps))) size_is r.saved;
    }

    -- If the report of a run's log is printed, so is the report of the run.
    pub run_printed : (status : ℕ) → PrintsLog log trace out status → PrintsRun run trace out status
    run_printed status p = record { text = p.text; meant = reported status p.text p.meant; printed = p.printed }

    -- If the report of a run's log fails, that of the run fails with the same fault.
    pub no_run : run.is_not_run fault.Memory → (f : Fault) → LogReportFails log trace out f → RunFails run trace out f
    no_run none (fault.Trace e) p = (
      p.0,
      record {
        image = image;
        log = log;
        is = is;
        part = subst (λ (d : Config). HasPartSaved trace (trace_bytes (trace_of d log.steps))) size_is p.1;
      },
    )
    no_run none fault.Link p = record { text = p.text; meant = (p.meant.0, reported p.meant.0 p.text p.meant.1); part = p.part }
    no_run none fault.Memory p = (none, p)
    no_run none fault.Size p = absurd p
    no_run none (fault.Stalled place) p = absurd p
    no_run none fault.Budget p = absurd p
    no_run none fault.Full p = absurd p
    no_run none fault.Loan p = absurd p
    no_run none fault.Start p = absurd p
    no_run none fault.States p = absurd p
    no_run none fault.Alone p = absurd p
    no_run none fault.NotUtf8 p = absurd p
    no_run none (fault.Line number) p = absurd p
    no_run none (fault.Text e) p = absurd p
    no_run none (fault.Image e) p = absurd p
