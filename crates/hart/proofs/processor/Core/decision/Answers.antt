use Rattle.std.proofs.Common.{subst}
use Rattle.flat_machine.specs.Turns.{performed}
use Rattle.hart.specs.State.{CoreState}
use Rattle.hart.specs.Deciding.{Decides}
use Rattle.hart.proofs.processor.Core.decision.Goals as goal

pub returns-clause-turn : goal.returns-clause-turn
returns-clause-turn c = λ code insn.
    subst (λ (core : CoreState). Decides c.decision.result (performed core.setting code core.state insn c.args.effect)) c.self.view_is
    (c.decision.ensures.turn code c.self.inside.local insn)
