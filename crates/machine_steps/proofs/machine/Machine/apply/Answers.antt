use Rattle.std.proofs.Common.{subst}
use Rattle.machine_theory.specs.Steps.{machine_of_parts}
use Rattle.machine_steps.specs.Machines.{IsStep}
use Rattle.machine_steps.proofs.Stalling.{stalled_keeps}
use Rattle.machine_steps.proofs.Poking.{poke_whole}
use Rattle.machine_steps.proofs.AnsweringSeconds.{tells_all}
use Rattle.machine_steps.proofs.machine.Machine.apply.Goals as goal

pub returns-clause-stalled : goal.returns-clause-stalled
returns-clause-stalled c e shown =
    stalled_keeps c.args.self.now c.take-outcome.new.self c.args.step c.take-outcome.result c.machine_is_well_formed.ensures c.take-outcome.ensures e shown

pub returns-clause-poked : goal.returns-clause-poked
returns-clause-poked c idle home poke e =
    poke_whole c.args.self.now poke c.take-outcome.result c.take-outcome.new.self c.machine_is_well_formed.ensures idle home c.machine_is_well_formed-2.ensures
    (subst (λ s. IsStep c.args.self.now s c.take-outcome.result c.take-outcome.new.self) e c.take-outcome.ensures)

pub returns-clause-few : goal.returns-clause-few
unfolding machine_of_parts
returns-clause-few c = c.machine_is_well_formed-2.ensures.steady.few

pub returns-clause-answered : goal.returns-clause-answered
returns-clause-answered c =
    tells_all c.args.self.now c.machine_is_well_formed.ensures c.seconds_are_answered.ensures c.args.step c.take-outcome.result
    (c.take-outcome.ensures.step.outcome)
