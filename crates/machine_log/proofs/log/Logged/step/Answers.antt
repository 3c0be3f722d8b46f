use Rattle.std.proofs.Common.{◌≡◌, ◌∙◌, subst}
use Rattle.flat_machine.specs.declared.poke.Poke.{Poke}
use Rattle.steps.specs.declared.step.Step.TheVariants as step
use Rattle.machine_steps.specs.Machines.{IsIdle}
use Rattle.machine_steps.specs.Whole.{IsPoked}
use Rattle.machine_log.specs.Logs.{Log}
use Rattle.machine_log.proofs.log.Logged.step.Goals as goal

pub returns-clause-poked : goal.returns-clause-poked
returns-clause-poked c =
    subst (λ (l : Log). IsIdle l.machine → (poke : Poke) → c.args.step ≡ step.Poke poke → IsPoked l.machine poke c.step.result c.step.new.self.log.machine)
    (c.in_ok-make_room.ensures.kept ∙ c.self.view_is) c.step.ensures.poked
