use Rattle.std.proofs.Common.{List, take, slice_index_or, sym, subst}
use Rattle.std.proofs.lemmas.List.{take_more}
use Rattle.steps.specs.declared.step.Step.{Step}
use Rattle.steps.specs.declared.step.Step.TheVariants as step
use Rattle.trace_counts.proofs.StatsSteps.{AreCounted, none_counted, one_counted}
use Rattle.trace_counts.proofs.counting.count_steps.Goals as goal

pub loop-step-init : goal.loop-step-init
loop-step-init c =
    none_counted c.answers_go_on.ensures.begin c.groups_go_on.ensures c.counts_go_on.ensures.observer c.counts_go_on.ensures.counts c.args.machine.now
    c.in_ok-counts.counts c.in_ok-groups.groups c.none-longest.result c.in_ok-counts.ensures c.in_ok-groups.ensures c.none-longest.ensures
    c.machine_is_well_formed.ensures.limits.stages

pub loop-step-preserved : goal.loop-step-preserved
loop-step-preserved c =
    let steps = c.args.steps.now in
    let l = c.loop-step in
    subst (λ (done : List Step). AreCounted c.args.machine.now done c.apply-outcome.new.self c.observe.new.self c.observe-in-loop-step.new.self
    c.look.new.longest)
    (sym (take_more steps l.step-index (step.Turn 0) c.loop-step-test.true))
    (one_counted c.answers_go_on.ensures.go_on c.groups_go_on.ensures c.counts_go_on.ensures.observer c.counts_go_on.ensures.counts c.args.machine.now
    (take l.step-index steps) l.machine l.counts l.groups l.longest l.invariant c.machine_is_well_formed.ensures.limits.stages
    (slice_index_or steps l.step-index (step.Turn 0)) c.apply-outcome.result c.size_of-size.result c.apply-outcome.new.self c.observe.new.self
    c.observe-in-loop-step.new.self c.look.new.longest c.apply-outcome.ensures.step c.size_of-size.ensures c.observe.ensures c.in_ok-observe.ensures
    c.look.ensures)
