use Rattle.std.proofs.Common.{◌+◌, ◌*◌}
use Rattle.std.specs.Vec.{vec_capacity}
use Rattle.machine_steps.specs.Whole.{one_steps}
use Rattle.machine_steps.proofs.Lemmas.{listed}
use Rattle.machine_log.proofs.Taking.{entered_all}
use Rattle.machine_log.proofs.entering.one.Goals as goal

pub returns-clause-steps : goal.returns-clause-steps
returns-clause-steps c =
    let m = c.args.machine.now in
    (listed (λ list. list.items) vec_capacity m (one_steps m c.args.p) c.args.steps.now c.one_observed.new.observer
    (c.in-Ok.ensures.observed c.requires.idle)).0

pub returns-clause-entered : goal.returns-clause-entered
returns-clause-entered c =
    let m = c.args.machine.now in
    let steps = one_steps m c.args.p in
    entered_all m c.one_observed.new.self c.args.steps.now.items steps c.one_observed.new.observer.items (2 * m.config.k + 3) c.machine_is_well_formed.ensures
    (listed (λ list. list.items) vec_capacity m steps c.args.steps.now c.one_observed.new.observer (c.in-Ok.ensures.observed c.requires.idle)).0
    (c.in-Ok.ensures.few c.requires.idle) (c.in-Ok.ensures.whole c.requires.idle).replay

pub returns-clause-capacity : goal.returns-clause-capacity
returns-clause-capacity c =
    let m = c.args.machine.now in
    (listed (λ list. list.items) vec_capacity m (one_steps m c.args.p) c.args.steps.now c.one_observed.new.observer
    (c.in-Ok.ensures.observed c.requires.idle)).1
