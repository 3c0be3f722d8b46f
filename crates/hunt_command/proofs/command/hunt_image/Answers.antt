use Rattle.std.proofs.Common.{◌≡◌, ◌∙◌, None, false, inl, refl, subst}
use Rattle.std.specs.Prelude.{string_bytes}
use Rattle.std.specs.Io.KnownBytes.{Appends}
use Rattle.std.proofs.lemmas.Result.{err_from_is_err_and}
use Rattle.link.specs.Transfer.{AppendsPart}
use Rattle.command_io.specs.Links.{output}
use Rattle.hunt_command.specs.Hunts.{asked_hunt, hunt_status, hunt_traces, is_unexpected, trace_store}
use Rattle.elf_image.specs.declared.error.ImageError.TheVariants as image_error
use Rattle.command_io.specs.declared.fault.Fault.TheVariants as fault
use Rattle.hunt_command.specs.declared.refused.Refused.TheVariants as refused
use Rattle.hunt_command.specs.Findings.{firsts}
use Rattle.hunt_command.proofs.Refusing.{not_unread, of_size, of_traces}
use Rattle.hunt_command.proofs.command.hunt_image.Goals as goal

pub returns-in_err-findings-clause-fault : goal.returns-in_err-findings-clause-fault
returns-in_err-findings-clause-fault g c =
    let p = err_from_is_err_and c.from_residual.result c.from_residual.ensures.1 in
    rw (p.1, p.2)
    (λ file of. of_size (asked_hunt c.args.config c.args.hunt file)
    (hunt_traces (trace_store g.T.Traces.finds g.T.Traces.opens g.T.Traces.closes g.T.Writer.Link.has_failed g.T.Writer.Write.contents)
    c.args.traces.now c.args.traces.now)
    (output g.W.Write.contents g.W.Link.has_failed c.args.out.now c.args.out.now) c.args.image.now of c.in_err-findings.field-0.0 refl
    c.in_err-findings.ensures.refused)

pub returns-in_err-text-clause-fault : goal.returns-in_err-text-clause-fault
returns-in_err-text-clause-fault g c =
    let p = err_from_is_err_and c.from_residual-in_err-text.result c.from_residual-in_err-text.ensures.1 in
    rw (p.1, p.2) (λ file of. inl refl)

pub returns-in_err-save_all-clause-fault : goal.returns-in_err-save_all-clause-fault
returns-in_err-save_all-clause-fault g c =
    let p = err_from_is_err_and c.from_residual-in_err-save_all.result c.from_residual-in_err-save_all.ensures.1 in
    rw (p.1, p.2)
    (λ file of. of_traces (asked_hunt c.args.config c.args.hunt file)
    (hunt_traces (trace_store g.T.Traces.finds g.T.Traces.opens g.T.Traces.closes g.T.Writer.Link.has_failed g.T.Writer.Write.contents)
    c.args.traces.now c.save_all.new.traces)
    (output g.W.Write.contents g.W.Link.has_failed c.args.out.now c.args.out.now) c.in_err-save_all.field-0.0
    (record {
      image = c.args.image.now;
      found = c.in_ok-findings.findings.found;
      unfinished = c.in_ok-findings.findings.unfinished;
      greatest = c.in_ok-findings.greatest;
      has_found = record { meant = of; are = c.in_ok-findings.ensures.found };
      unsaved = c.in_err-save_all.ensures.refused;
    }))

pub returns-in_err-save_all-clause-unread : goal.returns-in_err-save_all-clause-unread
returns-in_err-save_all-clause-unread g c same =
    let p = err_from_is_err_and c.from_residual-in_err-save_all.result c.from_residual-in_err-save_all.ensures.1 in
    let is = p.1 in
    let from = p.2 in
    let failed : c.in_err-save_all.field-0.0 ≡ refused.Fault (fault.Image image_error.Link) = cc in
    not_unread (asked_hunt c.args.config c.args.hunt (record { bytes = None; has_failed = false }))
    (hunt_traces (trace_store g.T.Traces.finds g.T.Traces.opens g.T.Traces.closes g.T.Writer.Link.has_failed g.T.Writer.Write.contents)
    c.args.traces.now c.save_all.new.traces)
    (output g.W.Write.contents g.W.Link.has_failed c.args.out.now c.args.out.now) c.args.image.now c.args.hunt.policy
    (firsts c.in_ok-findings.findings.found) c.in_err-save_all.field-0.0 c.in_err-save_all.ensures.refused failed

pub returns-in_err-print-clause-fault : goal.returns-in_err-print-clause-fault
returns-in_err-print-clause-fault g c =
    let p = err_from_is_err_and c.from_residual-in_err-print.result c.from_residual-in_err-print.ensures.1 in
    let f = c.in_err-print.ensures.begun in
    rw (p.1, p.2, f.0)
    (λ file of. record {
      text = string_bytes c.in_ok-text.text;
      meant = (
        hunt_status c.in_ok-findings.greatest c.in_ok-findings.findings.unfinished
            (is_unexpected c.args.hunt.expect_one c.in_ok-findings.findings.found),
        record {
          image = c.args.image.now;
          found = c.in_ok-findings.findings.found;
          unfinished = c.in_ok-findings.findings.unfinished;
          greatest = c.in_ok-findings.greatest;
          has_found = record { meant = of; are = c.in_ok-findings.ensures.found };
          saved = c.in_ok-save_all.ensures.saved;
          lines = c.in_ok-text.ensures;
          exit = refl;
        },
      );
      part = subst (λ bytes. AppendsPart (g.W.Write.contents c.args.out.now) (g.W.Write.contents c.print.new.out) bytes) c.as_str.ensures.value f.1;
    })

pub returns-clause-printed : goal.returns-clause-printed
returns-clause-printed g c = λ file of.
    record {
      text = string_bytes c.in_ok-text.text;
      meant = record {
        image = c.args.image.now;
        found = c.in_ok-findings.findings.found;
        unfinished = c.in_ok-findings.findings.unfinished;
        greatest = c.in_ok-findings.greatest;
        has_found = record { meant = of; are = c.in_ok-findings.ensures.found };
        saved = c.in_ok-save_all.ensures.saved;
        lines = c.in_ok-text.ensures;
        exit = c.hunt_status.ensures.status
            ∙ (λ j. hunt_status c.in_ok-findings.greatest (c.unfinished.ensures j) (c.is_unexpected-unexpected.ensures j));
      };
      printed = subst (λ bytes. Appends (g.W.Write.contents c.args.out.now) (g.W.Write.contents c.print.new.out) bytes) c.as_str.ensures.value
          c.in_ok-print.ensures.printed;
    }
