use Rattle.std.proofs.Common.{List, sym, subst}
use Rattle.std.proofs.lemmas.Result.{IfOk-weaker}
use Rattle.steps.specs.declared.step.Step.{Step}
use Rattle.trace_commands.specs.Explained.{IsDrainedWithSteps}
use Rattle.trace_commands.proofs.order.OrderTraceReport.text.Goals as goal

pub returns-clause-fault : goal.returns-clause-fault
returns-clause-fault c =
    IfOk-weaker c.order_lines.result _ _
    (λ done lines. lines c.args.steps.now (subst (λ (all : List Step). IsDrainedWithSteps c.args.config c.args.image.now c.args.steps.now all)
    (sym c.as_slice.ensures.value) c.in_ok-all.ensures.home))
    c.order_lines.ensures.lines
