use Rattle.std.proofs.Common.{refl, subst, ap, ◌∙◌}
use Rattle.std.specs.Prelude.{string_bytes}
use Rattle.std.proofs.lemmas.Result.{err_from_is_err_and}
use Rattle.link.specs.Transfer.{AppendsPart}
use Rattle.asm_commands.specs.Checking.{status_of}
use Rattle.asm_commands.specs.Courses.{course_faults, lines_of}
use Rattle.fault_lists.specs.Faults.{AreTheFaults}
use Rattle.fault_lists.specs.Lines.{IsList}
use Rattle.asm_commands.proofs.course_check.check_course.Goals as goal

pub returns-in_err-print-clause-fault : goal.returns-in_err-print-clause-fault
returns-in_err-print-clause-fault g c =
    let p = err_from_is_err_and c.from_residual-in_err-print.result c.from_residual-in_err-print.ensures.1 in
    let f = c.in_err-print.ensures.begun in
    let faults = c.in_ok-faults.faults.items in
    let listed = c.in_ok-listed.listed.items in
    let plain = c.in_ok-text.ensures.text ∙ c.as_slice.ensures.value ∙ c.in_ok-plain.ensures.text in
    rw (p.1, p.2, f.0)
    (record {
      text = string_bytes c.in_ok-list.list;
      meant = record {
        status = status_of listed;
        check = record {
          faults = faults;
          all = subst (λ t. AreTheFaults t faults) plain c.in_ok-faults.ensures;
          listed = listed;
          views = c.in_ok-listed.ensures ∙ ap (course_faults (lines_of c.args.bytes.now) 0) c.deref-2.ensures.value;
          list = subst (λ xs. IsList xs (string_bytes c.in_ok-list.list)) c.deref-3.ensures.value c.in_ok-list.ensures;
          fact = refl;
        };
      };
      part = subst (λ bytes. AppendsPart (g.W.Write.contents c.args.out.now) (g.W.Write.contents c.print.new.out) bytes) c.as_str.ensures.value f.1;
    })
