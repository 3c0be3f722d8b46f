use Rattle.std.proofs.Common.{◌≡◌, List, take, slice_index_or, sym, ◌∙◌, subst, arith}
use Rattle.std.proofs.lemmas.List.{length-take-le, take_more}
use Rattle.steps.specs.declared.step.Step.{Step}
use Rattle.steps.specs.declared.step.Step.TheVariants as step
use Rattle.trace_commands.proofs.StorySteps.{IsStorySoFar, at_first, numbered, one_more}
use Rattle.trace_commands.proofs.telling.story_text.Goals as goal

pub loop-step-init : goal.loop-step-init
loop-step-init c = at_first c.answers_go_on.ensures.begin c.args.choice c.args.rounds c.args.machine.now c.in_ok-lines.lines c.in_ok-lines.ensures

pub round_of-round-requires : goal.round_of-round-requires
round_of-round-requires c =
    let steps = c.args.steps.now in
    let l = c.loop-step in
    let taken = length-take-le l.step-index steps (omega (arith, c.loop-step-test.true)) in
    let few = l.invariant.few in
    omega (arith, few, taken, c.loop-step-test.true)

pub rounds_after-begun-requires : goal.rounds_after-begun-requires
rounds_after-begun-requires c =
    let steps = c.args.steps.now in
    let l = c.loop-step in
    let taken = length-take-le l.step-index steps (omega (arith, c.loop-step-test.true)) in
    let few = l.invariant.few in
    omega (arith, few, taken, c.loop-step-test.true)

pub push-requires : goal.push-requires
push-requires c =
    let steps = c.args.steps.now in
    let l = c.loop-step in
    let number : l.lines.known.number ≡ l.step-index =
    numbered c.stories_go_on.ensures c.args.choice c.args.rounds c.args.machine.now l.machine (take l.step-index steps) l.lines l.begun l.invariant
    ∙ length-take-le l.step-index steps (omega (arith, c.loop-step-test.true)) in
    omega (arith, number, c.loop-step-test.true)

pub loop-step-preserved : goal.loop-step-preserved
loop-step-preserved c =
    let steps = c.args.steps.now in
    let l = c.loop-step in
    subst (λ (done : List Step). IsStorySoFar c.args.choice c.args.rounds c.args.machine.now done c.apply-outcome.new.self c.push.new.self
    c.rounds_after-begun.result)
    (sym (take_more steps l.step-index (step.Turn 0) c.loop-step-test.true))
    (one_more c.stories_go_on.ensures c.args.choice c.args.rounds c.args.machine.now l.machine (take l.step-index steps) l.lines l.begun l.invariant
    c.answers_go_on.ensures.go_on (slice_index_or steps l.step-index (step.Turn 0)) c.apply-outcome.result c.subject_of-subject.result
    c.values_of-values.result c.round_of-round.result c.apply-outcome.new.self c.push.new.self c.rounds_after-begun.result c.apply-outcome.ensures.step
    c.subject_of-subject.ensures c.values_of-values.ensures c.round_of-round.ensures c.in_ok-push.ensures c.rounds_after-begun.ensures.exact
    c.rounds_after-begun.ensures.few)
