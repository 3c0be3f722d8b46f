use Rattle.std.proofs.Common.{ap, ◌∙◌}
use Rattle.combining_switch.specs.Outputs.{accepted, accepted_as}
use Rattle.ring_network.proofs.output.Output.accept.Goals as goal

pub returns-in-Some-clause-answer : goal.returns-in-Some-clause-answer
unfolding accepted
returns-in-Some-clause-answer c = c.combine.ensures.answer ∙ ap (λ j. (accepted_as c.args.self.now c.args.request j).0) c.in-Some.ensures.first

pub returns-in-Some-clause-after : goal.returns-in-Some-clause-after
unfolding accepted
returns-in-Some-clause-after c = c.combine.ensures.after ∙ ap (λ j. (accepted_as c.args.self.now c.args.request j).1) c.in-Some.ensures.first

pub returns-in-None-clause-answer : goal.returns-in-None-clause-answer
unfolding accepted
returns-in-None-clause-answer c = c.enqueue.ensures.answer ∙ ap (λ j. (accepted_as c.args.self.now c.args.request j).0) c.in-None.ensures.first

pub returns-in-None-clause-after : goal.returns-in-None-clause-after
unfolding accepted
returns-in-None-clause-after c = c.enqueue.ensures.after ∙ ap (λ j. (accepted_as c.args.self.now c.args.request j).1) c.in-None.ensures.first
