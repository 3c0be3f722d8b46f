use Rattle.std.proofs.Common.{subst}
use Rattle.std.specs.Prelude.{IfErr}
use Rattle.run_reports.specs.RunReports.{trace_output}
use Rattle.property_command.specs.Judging.{IsNotJudged}
use Rattle.property_command.proofs.judging.judge_image.Goals as goal

pub returns-clause-refused : goal.returns-clause-refused
returns-clause-refused g c =
    subst (λ image. IfErr c.judge_machine.result
    (IsNotJudged c.args.config c.args.asked.now image (trace_output g.T.Write.contents c.args.trace.now c.judge_machine.new.trace)))
    c.in_ok-machine.ensures.opening.image_is c.judge_machine.ensures.refused
