use Rattle.std.proofs.Common.{List, refl, subst}
use Rattle.std.proofs.lemmas.Result.{err_from_is_err_and}
use Rattle.link.specs.Transfer.{AppendsPart}
use Rattle.steps.specs.declared.step.Step.{Step}
use Rattle.trace_file.specs.Traces.{trace_bytes, trace_of}
use Rattle.hunt_command.proofs.saving.save_run.Goals as goal

pub returns-in_err-written-clause-refused : goal.returns-in_err-written-clause-refused
returns-in_err-written-clause-refused g c =
    let p = err_from_is_err_and c.from_residual-in_err-written.result c.from_residual-in_err-written.ensures.1 in
    let before = g.T.Writer.Write.contents c.in_ok-writer.writer in
    let after = g.T.Writer.Write.contents c.write_trace-written.new.writer in
    rw (p.1, p.2, c.in_err-written.ensures.link) (
      refl,
      record {
        middle = c.open.new.self;
        before = c.in_ok-writer.writer;
        opened = c.in_ok-writer.ensures.opened;
        after = c.write_trace-written.new.writer;
        gets = (
          c.in_err-written.ensures.failed,
          record {
            end = c.in_ok-log.field-0-1;
            log = c.in_ok-log.log;
            ran = c.in_ok-log.ensures.ran.ran;
            part = subst (λ (xs : List Step). AppendsPart before after (trace_bytes (trace_of c.args.config xs))) c.steps.ensures.steps
                c.in_err-written.ensures.err;
          },
        );
        closed = c.close.ensures;
      },
    )
