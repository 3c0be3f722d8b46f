use Rattle.std.proofs.Common.{List, subst}
use Rattle.steps.specs.declared.step.Step.{Step}
use Rattle.trace_file.specs.Traces.{trace_bytes, trace_of}
use Rattle.run_reports.specs.RunReports.{HasSaved, trace_output}
use Rattle.property_command.proofs.NotJudged.{counterexample_saved}
use Rattle.property_command.proofs.judging.save_way.Goals as goal

pub returns-clause-saved : goal.returns-clause-saved
returns-clause-saved g c =
    counterexample_saved c.args.config c.args.image.now c.args.property.now c.args.way.now g.T.Write.contents c.args.trace.now c.save.new.trace
    c.in_ok-log.log.steps c.in_ok-log.ensures.counterexample
    (subst (λ (steps : List Step). HasSaved (trace_output g.T.Write.contents c.args.trace.now c.save.new.trace) (trace_bytes (trace_of c.args.config steps)))
    c.steps.ensures.steps c.in_ok-save.ensures.saved)
