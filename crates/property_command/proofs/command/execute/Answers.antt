use Rattle.std.proofs.Common.{subst}
use Rattle.std.specs.Prelude.{string_bytes}
use Rattle.std.proofs.lemmas.Result.{err_from_is_err_and}
use Rattle.link.specs.Transfer.{AppendsPart}
use Rattle.command_io.specs.Links.{input, output}
use Rattle.run_reports.specs.RunReports.{trace_output}
use Rattle.property_command.specs.Judging.{judging_of}
use Rattle.property_command.proofs.NotJudged.{not_judged}
use Rattle.property_command.proofs.command.execute.Goals as goal

pub returns-in_err-text-clause-fault : goal.returns-in_err-text-clause-fault
returns-in_err-text-clause-fault g c =
    let p = err_from_is_err_and c.from_residual-in_err-text.result c.from_residual-in_err-text.ensures.1 in
    rw (p.1, p.2)
    (not_judged (judging_of c.args.config c.args.asked.now (input g.R.Read.remaining g.R.Link.has_failed c.args.file.now c.image_of.new.file))
    (trace_output g.T.Write.contents c.args.trace.now c.judge_image.new.trace)
    (output g.W.Write.contents g.W.Link.has_failed c.args.out.now c.args.out.now) c.in_ok-image.image c.in_ok-image.ensures.image
    c.in_err-text.field-0.0 c.in_err-text.ensures.refused)

pub returns-in_err-print-clause-fault : goal.returns-in_err-print-clause-fault
returns-in_err-print-clause-fault g c =
    let p = err_from_is_err_and c.from_residual-in_err-print.result c.from_residual-in_err-print.ensures.1 in
    let f = c.in_err-print.ensures.begun in
    rw (p.1, p.2, f.0)
    (record {
      text = string_bytes c.in_ok-text.text;
      meant = (
        c.in_ok-text.status,
        record { image = c.in_ok-image.image; meant = c.in_ok-image.ensures.image; judged = c.in_ok-text.ensures.lines },
      );
      part = subst (λ bytes. AppendsPart (g.W.Write.contents c.args.out.now) (g.W.Write.contents c.print.new.out) bytes) c.as_str.ensures.value f.1;
    })
