use Rattle.std.proofs.Common.{sym, ap, ◌∙◌}
use Rattle.combining_switch.specs.Pools.{with_requests}
use Rattle.combining_switch.specs.Outputs.{accepted, accepted_as, output_in, output_with}
use Rattle.combining_switch.proofs.output.Output.accept.Goals as goal

pub returns-in-Some-clause-answer : goal.returns-in-Some-clause-answer
unfolding accepted
returns-in-Some-clause-answer c =
    c.combine.ensures.answer ∙ ap (λ j. (accepted_as (output_in c.args.pool.now c.args.self.now) c.args.request j).0) c.in-Some.ensures.first

pub returns-in-Some-clause-records : goal.returns-in-Some-clause-records
unfolding accepted
returns-in-Some-clause-records c =
    c.combine.ensures.records
    ∙ ap (λ j. output_with c.args.self.now (accepted_as (output_in c.args.pool.now c.args.self.now) c.args.request j).1.records) c.in-Some.ensures.first

pub returns-in-Some-clause-requests : goal.returns-in-Some-clause-requests
unfolding accepted
returns-in-Some-clause-requests c =
    c.combine.ensures.requests
    ∙ ap (λ j. with_requests c.args.pool.now c.args.self.now.queue (accepted_as (output_in c.args.pool.now c.args.self.now) c.args.request j).1.requests)
    c.in-Some.ensures.first

pub returns-in-None-clause-answer : goal.returns-in-None-clause-answer
unfolding accepted
returns-in-None-clause-answer c =
    c.enqueue.ensures.answer ∙ ap (λ j. (accepted_as (output_in c.args.pool.now c.args.self.now) c.args.request j).0) c.in-None.ensures.first

pub returns-in-None-clause-records : goal.returns-in-None-clause-records
unfolding accepted
returns-in-None-clause-records c =
    sym (ap (output_with c.args.self.now) c.enqueue.ensures.records)
    ∙ ap (λ j. output_with c.args.self.now (accepted_as (output_in c.args.pool.now c.args.self.now) c.args.request j).1.records) c.in-None.ensures.first

pub returns-in-None-clause-requests : goal.returns-in-None-clause-requests
unfolding accepted
returns-in-None-clause-requests c =
    c.enqueue.ensures.requests
    ∙ ap (λ j. with_requests c.args.pool.now c.args.self.now.queue (accepted_as (output_in c.args.pool.now c.args.self.now) c.args.request j).1.requests)
    c.in-None.ensures.first
