use Rattle.std.proofs.Common.{◌≤◌, List, take, slice_index_or, sym, ap, ◌∙◌, subst, arith}
use Rattle.std.proofs.lemmas.List.{length-take-le, take_more}
use Rattle.flat_machine.specs.declared.config.Config.{Config}
use Rattle.run_counts.specs.Latencies.{no_latencies}
use Rattle.steps.specs.declared.step.Step.{Step}
use Rattle.steps.specs.declared.step.Step.TheVariants as step
use Rattle.trace_counts.proofs.LatencyRuns.{AreFound, few_rounds, none_found, one_found}
use Rattle.trace_counts.proofs.latencies.find_latencies.Goals as goal

pub loop-step-init : goal.loop-step-init
loop-step-init c =
    none_found c.answers_go_on.ensures.begin c.latencies_go_on.ensures c.args.machine.now c.in_ok-latencies.latencies
    (c.in_ok-latencies.ensures ∙ ap (λ (d : Config). no_latencies d.shared_words) c.config-words.ensures.config)

pub observe-requires : goal.observe-requires
observe-requires c =
    let steps = c.args.steps.now in
    let l = c.loop-step in
    let few : l.latencies.begun.count ≤ l.step-index =
    subst (λ n. l.latencies.begun.count ≤ n) (length-take-le l.step-index steps (omega (arith, c.loop-step-test.true)))
    (few_rounds c.latencies_go_on.ensures c.args.machine.now l.machine (take l.step-index steps) l.latencies l.invariant) in
    omega (arith, few, c.loop-step-test.true)

pub loop-step-preserved : goal.loop-step-preserved
loop-step-preserved c =
    let steps = c.args.steps.now in
    let l = c.loop-step in
    subst (λ (done : List Step). AreFound c.args.machine.now done c.apply-outcome.new.self c.observe.new.self)
    (sym (take_more steps l.step-index (step.Turn 0) c.loop-step-test.true))
    (one_found c.latencies_go_on.ensures c.args.machine.now l.machine (take l.step-index steps) l.latencies l.invariant
    c.answers_go_on.ensures.go_on (slice_index_or steps l.step-index (step.Turn 0)) c.apply-outcome.result c.subject_of-word.result
    c.apply-outcome.new.self c.observe.new.self c.apply-outcome.ensures.step c.subject_of-word.ensures c.in_ok-observe.ensures)
