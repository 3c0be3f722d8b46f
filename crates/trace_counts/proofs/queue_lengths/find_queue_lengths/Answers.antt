use Rattle.std.proofs.Common.{◌≡◌, List, take, slice_index_or, sym, subst, arith}
use Rattle.std.proofs.lemmas.List.{length-take-le, take_all, take_more}
use Rattle.steps.specs.declared.step.Step.{Step}
use Rattle.steps.specs.declared.step.Step.TheVariants as step
use Rattle.trace_counts.specs.QueueLengths.{queue_lengths}
use Rattle.trace_counts.proofs.QueueRuns.{AreLengthsSoFar, all_lengths, none_so_far, one_more_length}
use Rattle.trace_counts.proofs.queue_lengths.find_queue_lengths.Goals as goal

pub loop-step-init : goal.loop-step-init
loop-step-init c = none_so_far c.answers_go_on.ensures.begin c.args.machine.now c.new-lengths.result.items c.new-lengths.ensures.items

pub rounds_after-next-requires : goal.rounds_after-next-requires
rounds_after-next-requires c =
    let l = c.loop-step in
    let taken = length-take-le l.step-index c.args.steps.now (omega (arith, c.loop-step-test.true)) in
    let few = l.invariant.few in
    omega (arith, few, taken, c.loop-step-test.true)

pub loop-step-preserved : goal.loop-step-preserved
loop-step-preserved c =
    let steps = c.args.steps.now in
    let l = c.loop-step in
    subst (λ (done : List Step). AreLengthsSoFar c.args.machine.now done c.apply.new.self c.push_ended.new.lengths.items c.rounds_after-next.result)
    (sym (take_more steps l.step-index (step.Turn 0) c.loop-step-test.true))
    (one_more_length c.args.machine.now l.machine (take l.step-index steps) l.lengths.items l.begun l.invariant c.answers_go_on.ensures.go_on
    (slice_index_or steps l.step-index (step.Turn 0)) c.apply.result c.apply.new.self c.push_ended.new.lengths.items c.rounds_after-next.result
    c.apply.ensures.step c.rounds_after-next.ensures.exact c.rounds_after-next.ensures.few c.in_ok-push_ended.ensures)

pub returns-clause-lengths : goal.returns-clause-lengths
returns-clause-lengths c =
    let steps = c.args.steps.now in
    let l = c.loop-step in
    subst (λ (done : List Step). c.push_lengths.new.lengths.items ≡ queue_lengths c.args.machine.now done) (take_all l.step-index steps (omega arith))
    (all_lengths c.args.machine.now l.machine (take l.step-index steps) l.lengths.items l.begun l.invariant c.push_lengths.new.lengths.items
    c.in_ok-push_lengths.ensures)
