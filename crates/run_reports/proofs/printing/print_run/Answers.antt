use Rattle.std.proofs.Common.{List, refl, sym, ◌∙◌, ap, subst}
use Rattle.std.specs.Prelude.{string_bytes}
use Rattle.std.specs.Io.KnownBytes.{Appends}
use Rattle.std.proofs.lemmas.Result.{err_from_is_err_and}
use Rattle.flat_machine.specs.declared.config.Config.{Config}
use Rattle.link.specs.Transfer.{AppendsPart}
use Rattle.steps.specs.declared.step.Step.{Step}
use Rattle.trace_file.specs.Traces.{IsTrace, trace_bytes, trace_of}
use Rattle.machine_steps.specs.Machines.{MachineLists}
use Rattle.run_reports.specs.RunReports.{IsPartSaved, IsSaved}
use Rattle.run_reports.proofs.printing.print_run.Goals as goal

pub save-requires-clause-trace : goal.save-requires-clause-trace
save-requires-clause-trace g c =
    let size = c.config.ensures.config ∙ ap (λ (m : MachineLists). m.config) c.machine.ensures.machine in
    subst (λ (x : Config × List Step). IsTrace (trace_of x.0 x.1)) (λ i. (sym size i, sym c.steps.ensures.steps i)) c.requires.ready.trace

pub returns-clause-reported : goal.returns-clause-reported
returns-clause-reported g c =
    let size = c.config.ensures.config ∙ ap (λ (m : MachineLists). m.config) c.machine.ensures.machine in
    record {
      text = string_bytes c.in_ok-text.text;
      meant = record {
        report = c.in_ok-text.ensures.report;
        saved = subst (λ (x : Config × List Step). IsSaved {T = g.row.T.Denot} g.T.Write.contents c.args.trace.now c.save.new.trace
            (trace_bytes (trace_of x.0 x.1))) (λ i. (size i, c.steps.ensures.steps i)) c.in_ok-save.ensures.saved;
      };
      printed = subst (λ bytes. Appends (g.W.Write.contents c.args.out.now) (g.W.Write.contents c.print.new.out) bytes) c.as_str.ensures.value
          c.in_ok-print.ensures.printed;
    }

pub returns-in_err-save-clause-fault : goal.returns-in_err-save-clause-fault
returns-in_err-save-clause-fault g c =
    let size = c.config.ensures.config ∙ ap (λ (m : MachineLists). m.config) c.machine.ensures.machine in
    let p = err_from_is_err_and c.from_residual-in_err-save.result c.from_residual-in_err-save.ensures.1 in
    let f = c.in_err-save.ensures.failed in
    rw (p.1, p.2, f.0) (
      refl,
      subst (λ (x : Config × List Step). IsPartSaved {T = g.row.T.Denot} g.T.Write.contents c.args.trace.now c.save.new.trace
          (trace_bytes (trace_of x.0 x.1))) (λ i. (size i, c.steps.ensures.steps i)) f.1,
    )

pub returns-in_err-print-clause-fault : goal.returns-in_err-print-clause-fault
returns-in_err-print-clause-fault g c =
    let size = c.config.ensures.config ∙ ap (λ (m : MachineLists). m.config) c.machine.ensures.machine in
    let p = err_from_is_err_and c.from_residual-in_err-print.result c.from_residual-in_err-print.ensures.1 in
    let f = c.in_err-print.ensures.begun in
    rw (p.1, p.2, f.0)
    (record {
      text = string_bytes c.in_ok-text.text;
      meant = (
        c.in_ok-text.status,
        record {
          report = c.in_ok-text.ensures.report;
          saved = subst (λ (x : Config × List Step). IsSaved {T = g.row.T.Denot} g.T.Write.contents c.args.trace.now c.save.new.trace
              (trace_bytes (trace_of x.0 x.1))) (λ i. (size i, c.steps.ensures.steps i)) c.in_ok-save.ensures.saved;
        },
      );
      part = subst (λ bytes. AppendsPart (g.W.Write.contents c.args.out.now) (g.W.Write.contents c.print.new.out) bytes) c.as_str.ensures.value f.1;
    })

pub returns-in_err-print-clause-failed : goal.returns-in_err-print-clause-failed
returns-in_err-print-clause-failed g c =
    let p = err_from_is_err_and c.from_residual-in_err-print.result c.from_residual-in_err-print.ensures.1 in
    let f = c.in_err-print.ensures.begun in
    rw (p.1, p.2, f.0) ((λ e. c.in_err-print.ensures.failed), (λ e. refl))
