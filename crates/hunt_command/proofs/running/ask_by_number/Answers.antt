use Rattle.std.proofs.Common.{◌≡◌, ◌∙◌, ◌+◌, ℕ, List, length, sym, ap, subst}
use Rattle.std.proofs.lemmas.Result.{IfOk-weaker}
use Rattle.flat_machine.specs.declared.config.Config.{Config}
use Rattle.steps.specs.declared.step.Step.{Step}
use Rattle.machine_steps.specs.Machines.{MachineLists}
use Rattle.schedules.specs.Sweeps.{most_of}
use Rattle.random_schedules.specs.Schedules.{schedule}
use Rattle.hunt_command.specs.Runs.{WasAsked}
use Rattle.hunt_command.proofs.running.ask_by_number.Goals as goal

pub ask-requires-clause-noting : goal.ask-requires-clause-noting
ask-requires-clause-noting g c =
    let most : c.min-most.result ≡ most_of c.args.policy.budget = c.min-most.ensures in (
      c.min-most.result,
      ap (λ (xs : List Step). length xs + c.min-most.result) c.steps.ensures.steps,
      subst (λ n. g.N.StepObserver.has_room c.args.observer.now n) (sym most) c.requires.noting,
    )

pub returns-clause-asked : goal.returns-clause-asked
returns-clause-asked g c =
    let old = c.args.log.now.log in
    let most : c.min-most.result ≡ most_of c.args.policy.budget = c.min-most.ensures in
    let plan : c.new-schedule.result ≡ schedule c.args.policy.strategy old.machine.config.k c.args.number (most_of c.args.policy.budget) =
    c.new-schedule.ensures.schedule
    ∙ ap (λ (d : Config). schedule c.args.policy.strategy d.k c.args.number c.min-most.result) (c.config-k.ensures.config
    ∙ ap (λ (m : MachineLists). m.config) c.machine.ensures.machine)
    ∙ ap (schedule c.args.policy.strategy old.machine.config.k c.args.number) most in
    IfOk-weaker c.ask.result _ _
    (λ end asked. subst (λ (x : List Step × (List Step × ℕ)). WasAsked x.0 (length x.1.0 + x.1.1) old end c.ask.new.log.log)
    (λ i. (plan i, (c.steps.ensures.steps i, most i))) asked) c.ask.ensures.asked
