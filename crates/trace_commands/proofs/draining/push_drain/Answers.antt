use Rattle.std.proofs.Common.{◌∙◌, ◌++◌, ap, sym, subst}
use Rattle.std.specs.Vec.{vec_capacity}
use Rattle.machine_steps.specs.Draining.{drain_steps}
use Rattle.machine_steps.specs.Runs.{IsReplay}
use Rattle.machine_steps.proofs.Lemmas.{listed, replay_joined}
use Rattle.trace_commands.proofs.draining.push_drain.Goals as goal

pub returns-clause-steps : goal.returns-clause-steps
returns-clause-steps c =
    let m = c.args.machine.now in
    (listed (λ list. list.items) vec_capacity m (drain_steps m) c.reserve.new.self c.drain_observed.new.observer c.in-Ok.ensures.observed).0
    ∙ ap (λ steps. steps ++ drain_steps m) c.in_ok-reserve.ensures.items

pub returns-clause-replay : goal.returns-clause-replay
returns-clause-replay c opening r =
    subst (λ steps. IsReplay opening steps c.drain_observed.new.self) (sym (returns-clause-steps c))
    (replay_joined opening c.args.machine.now c.drain_observed.new.self c.args.steps.now.items (drain_steps c.args.machine.now) r c.in-Ok.ensures.replay)
