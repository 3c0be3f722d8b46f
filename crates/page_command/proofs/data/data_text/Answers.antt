use Rattle.std.proofs.Common.{List, sym, subst}
use Rattle.std.proofs.lemmas.Result.{IfOk-weaker}
use Rattle.steps.specs.declared.step.Step.{Step}
use Rattle.trace_commands.specs.Explained.{IsDrainedWithSteps}
use Rattle.page_command.proofs.data.data_text.Goals as goal

pub returns-clause-are : goal.returns-clause-are
returns-clause-are c =
    IfOk-weaker c.data_of_all.result _ _
    (λ done are. are c.args.steps.now (subst (λ (all : List Step). IsDrainedWithSteps c.args.config c.args.image.now c.args.steps.now all)
    (sym c.as_slice.ensures.value) c.in_ok-all.ensures.home))
    c.data_of_all.ensures.are
