use Rattle.std.proofs.Common.{refl, subst, rules}
use Rattle.std.specs.Prelude.{string_bytes}
use Rattle.std.proofs.lemmas.Result.{err_from_is_err_and}
use Rattle.link.specs.Transfer.{AppendsPart}
use Rattle.asm_commands.specs.Checking.{status_of}
use Rattle.asm_commands.proofs.check.check_text.Goals as goal

pub returns-in_err-print-clause-fault : goal.returns-in_err-print-clause-fault
returns-in_err-print-clause-fault g c =
    let p = err_from_is_err_and c.from_residual-in_err-print.result c.from_residual-in_err-print.ensures.1 in
    let f = c.in_err-print.ensures.begun in
    rw (p.1, p.2, f.0)
    (record {
      text = string_bytes c.in_ok-list.list;
      meant = record {
        status = status_of c.in_ok-faults.faults.items;
        check = record { faults = c.in_ok-faults.faults.items; all = search rules; list = search rules; fact = refl };
      };
      part = subst (λ bytes. AppendsPart (g.W.Write.contents c.args.out.now) (g.W.Write.contents c.print.new.out) bytes) c.as_str.ensures.value f.1;
    })
