use Rattle.std.proofs.Common.{◌∙◌, sym, ap}
use Rattle.machine_steps.specs.Draining.{network_step}
use Rattle.machine_steps.proofs.Drained.{step_is, named_goes_on, none_idle, idle_none}
use Rattle.machine_steps.proofs.machine.Machine.drain_step.Goals as goal

pub returns-clause-next : goal.returns-clause-next
returns-clause-next c = c.next_step.ensures ∙ ap network_step c.network.ensures ∙ step_is c.args.self.now c.machine_is_well_formed.ensures

pub returns-clause-goes_on : goal.returns-clause-goes_on
returns-clause-goes_on c =
    let next = c.next_step.ensures ∙ ap network_step c.network.ensures ∙ step_is c.args.self.now c.machine_is_well_formed.ensures in
    named_goes_on c.args.self.now c.machine_is_well_formed.ensures c.next_step.result next

pub returns-clause-none : goal.returns-clause-none
returns-clause-none c =
    let next = c.next_step.ensures ∙ ap network_step c.network.ensures ∙ step_is c.args.self.now c.machine_is_well_formed.ensures in (
      λ none. none_idle c.args.self.now c.machine_is_well_formed.ensures (sym next ∙ none),
      λ idle. next
          ∙ idle_none c.args.self.now c.machine_is_well_formed.ensures idle,
    )
