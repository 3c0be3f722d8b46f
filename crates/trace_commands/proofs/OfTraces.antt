-- What is printed for the steps of a trace is printed for the trace.
use Rattle.std.proofs.Common.{◌≡◌, ℕ, inr, List, refl, subst}
use Rattle.flat_machine.specs.declared.config.Config.{Config}
use Rattle.flat_machine.specs.Limits.{IsWithinLimits}
use Rattle.elf_image.specs.Files.{IsImageOf}
use Rattle.elf_image.specs.Images.{ImageContents}
use Rattle.steps.specs.declared.step.Step.{Step}
use Rattle.trace_file.specs.Traces.{TraceContents, config_of}
use Rattle.command_io.specs.declared.fault.Fault.{Fault}
use Rattle.command_io.specs.declared.fault.Fault.TheVariants as fault
use Rattle.command_io.specs.Links.{Output}
use Rattle.command_io.specs.Printing.{Prints}
use Rattle.trace_commands.specs.Causes.{IsNotTaken, IsStalled, ReportItselfFails, TraceReportFails}
use Rattle.trace_commands.specs.TraceReports.{IsTraceReport, IsTraceOf, OfTrace, PrintsTraceReport, ReportRelation, TraceInput}

module _ (reports : ReportRelation) (given : TraceInput) (t : TraceContents) (read : IsTraceOf given.trace.bytes t) (c : Config)
    (size : c ≡ config_of t given.shared_words) (image : ImageContents) (meant : IsImageOf c.shared_words given.image.bytes image) (steps : List Step)
    (all : steps ≡ t.steps) (out : Output) where
  meant_is : IsImageOf given.shared_words given.image.bytes image
  meant_is = subst (λ (d : Config). IsImageOf d.shared_words given.image.bytes image) size meant

  trace_report : (status : ℕ) (text : List ℕ) → reports c image steps text status → IsTraceReport reports given status text
  trace_report status text contents_are = record {
    steps = t;
    read = read;
    image = image;
    meant = meant_is;
    contents_are = subst (λ (x : Config × List Step). reports x.0 image x.1 text status) (λ i. (size i, all i)) contents_are;
  }

  trace_report_of : (status : ℕ) (text : List ℕ) → reports c image steps text status →
      IsTraceReport (OfTrace reports t given.shared_words) given status text
  trace_report_of status text contents_are = record {
    steps = t;
    read = read;
    image = image;
    meant = meant_is;
    contents_are = (refl, refl, subst (λ (x : Config × List Step). reports x.0 image x.1 text status) (λ i. (size i, all i)) contents_are);
  }

  -- If a report of the steps of a trace is printed, so is a report of the trace.
  pub trace_report_printed : (status : ℕ) → Prints (λ text. reports c image steps text status) out.old out.new →
      PrintsTraceReport (OfTrace reports t given.shared_words) given out status
  trace_report_printed status p = record { text = p.text; meant = trace_report_of status p.text p.meant; printed = p.printed }

  -- If the report of the steps of a trace fails, that of the trace fails with the same fault.
  pub no_trace_report : (f : Fault) →
      ReportItselfFails (λ text. (status : ℕ) × reports c image steps text status) (IsNotTaken c image steps) out f →
      TraceReportFails reports given out f
  no_trace_report fault.Link p = inr (record { text = p.text; meant = (p.meant.0, trace_report p.meant.0 p.text p.meant.1); part = p.part })
  no_trace_report fault.Size limits =
      record { steps = t; read = read; image = image; meant = meant_is; limits = subst (λ (d : Config). IsWithinLimits d → ⊥) size limits }
  no_trace_report (fault.Stalled place) stalled = record {
    steps = t;
    read = read;
    image = image;
    meant = meant_is;
    stalled = subst (λ (x : Config × List Step). IsStalled x.0 image x.1 place) (λ i. (size i, all i)) stalled;
  }
  no_trace_report fault.Memory n = tt
  no_trace_report fault.Budget n = absurd n
  no_trace_report fault.Full n = absurd n
  no_trace_report fault.Loan n = absurd n
  no_trace_report fault.Start n = absurd n
  no_trace_report fault.States n = absurd n
  no_trace_report fault.Alone n = absurd n
  no_trace_report fault.NotUtf8 n = absurd n
  no_trace_report (fault.Line number) n = absurd n
  no_trace_report (fault.Text e) n = absurd n
  no_trace_report (fault.Image e) n = absurd n
  no_trace_report (fault.Trace e) n = absurd n

-- A text printed for a trace by one relation is also printed by each weaker relation.
pub prints_weaker : (one other : ReportRelation) (given : TraceInput) (out : Output) (status : ℕ) → ((c : Config) (image : ImageContents) (steps : List Step)
    (text : List ℕ) → one c image steps text status → other c image steps text status) → PrintsTraceReport one given out status →
    PrintsTraceReport other given out status
prints_weaker one other given out status weaker p = record {
  text = p.text;
  meant = record {
    steps = p.meant.steps;
    read = p.meant.read;
    image = p.meant.image;
    meant = p.meant.meant;
    contents_are = weaker _ _ _ _ p.meant.contents_are;
  };
  printed = p.printed;
}
