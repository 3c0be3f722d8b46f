use Rattle.std.proofs.Common.{refl, sym, subst}
use Rattle.std.proofs.lemmas.Result.{IfErr-weaker}
use Rattle.command_io.specs.Files.{IsWhole}
use Rattle.asm_commands.specs.Courses.{CourseAssemblyFails}
use Rattle.asm_commands.proofs.course_asm.execute.Goals as goal

pub returns-clause-fault : goal.returns-clause-fault
returns-clause-fault g c =
    let known = g.R.Read.remaining c.args.file.now in
    let old = g.W.Write.contents c.args.out.now in
    let new = g.W.Write.contents c.write_program.new.out in
    let whole = subst (λ text. IsWhole known text) (sym c.as_slice.ensures.value) c.in_ok-bytes.ensures.read in
    IfErr-weaker c.write_program.result _ _ (λ fault begun. subst (λ f. CourseAssemblyFails known old new f) (sym begun.0) (
      refl,
      record {
        text = _;
        meant = record { text = c.as_slice.result.now; whole = whole; layout = c.in_ok-program.program; meant = c.in_ok-program.ensures.meant; spelled = refl };
        part = begun.1;
      },
    )) c.write_program.ensures.begun
