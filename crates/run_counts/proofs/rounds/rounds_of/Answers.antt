use Rattle.std.proofs.Common.{List, take, slice_index_or, sym, subst, arith}
use Rattle.std.proofs.lemmas.List.{take_all, take_more}
use Rattle.steps.specs.declared.step.Step.{Step}
use Rattle.steps.specs.declared.step.Step.TheVariants as step
use Rattle.run_counts.specs.Rounds.{IsFewest}
use Rattle.run_counts.proofs.Order.{AreBegun, are_fewest, more_are, none_are}
use Rattle.run_counts.proofs.rounds.rounds_of.Goals as goal

pub loop-step-init : goal.loop-step-init
loop-step-init c = none_are

pub loop-step-preserved : goal.loop-step-preserved
loop-step-preserved c =
    let steps = c.args.steps.now in
    let l = c.loop-step in
    subst (λ (done : List Step). AreBegun done c.rounds_after-begun.result)
    (sym (take_more steps l.step-index (step.Turn 0) c.loop-step-test.true))
    (more_are (take l.step-index steps) (slice_index_or steps l.step-index (step.Turn 0)) l.begun c.rounds_after-begun.result l.invariant
    c.rounds_after-begun.ensures.exact)

pub returns : goal.returns
returns c =
    let steps = c.args.steps.now in
    let l = c.loop-step in
    subst (λ (done : List Step). IsFewest done l.begun.count) (take_all l.step-index steps (omega arith))
    (are_fewest (take l.step-index steps) l.begun l.invariant)
