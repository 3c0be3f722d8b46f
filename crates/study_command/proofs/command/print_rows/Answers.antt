use Rattle.std.proofs.Common.{subst}
use Rattle.std.specs.Prelude.{string_bytes}
use Rattle.std.specs.Io.KnownBytes.{Appends}
use Rattle.std.proofs.lemmas.Result.{err_from_is_err_and}
use Rattle.link.specs.Transfer.{AppendsPart}
use Rattle.study_command.proofs.command.print_rows.Goals as goal

pub returns-clause-printed : goal.returns-clause-printed
returns-clause-printed g c =
    record {
      text = string_bytes c.in_ok-text.text;
      meant = c.in_ok-text.ensures.text;
      printed = subst (λ bytes. Appends (g.W.Write.contents c.args.out.now) (g.W.Write.contents c.print.new.out) bytes) c.as_str.ensures.value
          c.in_ok-print.ensures.printed;
    }

pub returns-in_err-print-clause-fault : goal.returns-in_err-print-clause-fault
returns-in_err-print-clause-fault g c =
    let p = err_from_is_err_and c.from_residual-in_err-print.result c.from_residual-in_err-print.ensures.1 in
    let f = c.in_err-print.ensures.begun in
    rw (p.1, p.2, f.0)
    (record {
      text = string_bytes c.in_ok-text.text;
      meant = (c.in_ok-text.status, c.in_ok-text.ensures.text);
      part = subst (λ bytes. AppendsPart (g.W.Write.contents c.args.out.now) (g.W.Write.contents c.print.new.out) bytes) c.as_str.ensures.value f.1;
    })
