use Rattle.std.specs.Vec.{vec_capacity}
use Rattle.machine_steps.specs.Draining.{drain_bound, drain_steps}
use Rattle.machine_steps.proofs.Lemmas.{drain_is_bounded, listed}
use Rattle.machine_log.proofs.Taking.{entered_all}
use Rattle.machine_log.proofs.entering.drain.Goals as goal

pub returns-clause-steps : goal.returns-clause-steps
returns-clause-steps c = (listed (λ list. list.items) vec_capacity c.args.machine.now
    (drain_steps c.args.machine.now) c.args.steps.now c.drain_observed.new.observer
    c.in-Ok.ensures.observed).0

pub returns-clause-entered : goal.returns-clause-entered
returns-clause-entered c =
    let m = c.args.machine.now in
    let list = c.drain_observed.new.observer in
    entered_all m c.drain_observed.new.self c.args.steps.now.items (drain_steps m) list.items (drain_bound m.config) c.machine_is_well_formed.ensures
    (listed (λ list. list.items) vec_capacity m (drain_steps m) c.args.steps.now list c.in-Ok.ensures.observed).0 (drain_is_bounded m)
    c.in-Ok.ensures.replay

pub returns-clause-capacity : goal.returns-clause-capacity
returns-clause-capacity c =
    (listed (λ list. list.items) vec_capacity c.args.machine.now (drain_steps c.args.machine.now) c.args.steps.now c.drain_observed.new.observer
    c.in-Ok.ensures.observed).1
