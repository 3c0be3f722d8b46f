use Rattle.std.proofs.Common.{◌≡◌, ◌∙◌, sym, subst}
use Rattle.flat_machine.specs.declared.poke.Poke.{Poke}
use Rattle.steps.specs.declared.step.Step.TheVariants as step
use Rattle.machine_steps.specs.Machines.{IsIdle}
use Rattle.machine_steps.specs.Runs.{answer_after}
use Rattle.machine_steps.specs.Whole.{IsPoked}
use Rattle.machine_steps.proofs.Lemmas.{outcome_there}
use Rattle.machine_log.specs.Logs.{ReservedLogModel}
use Rattle.machine_log.proofs.Taking.{kept_home}
use Rattle.machine_log.proofs.reserved.ReservedLog.step.Goals as goal

pub returns-clause-answer : goal.returns-clause-answer
returns-clause-answer c =
    let l = c.self.inside in
    subst (λ (l : ReservedLogModel). c.enter.result ≡ answer_after l.log.opening l.log.steps c.args.step) c.self.view_is
    (c.enter.ensures.answer ∙ sym (outcome_there l.opening.value l.machine l.steps.items c.self.invariant.replay.run c.args.step))

pub returns-clause-poked : goal.returns-clause-poked
returns-clause-poked c =
    subst (λ (l : ReservedLogModel). IsIdle l.log.machine → (poke : Poke) → c.args.step ≡ step.Poke poke →
    IsPoked l.log.machine poke c.enter.result c.enter.new.machine) c.self.view_is (λ idle. c.enter.ensures.poked idle (kept_home _ c.self.invariant))
