use Rattle.std.proofs.Common.{subst}
use Rattle.machine_steps.specs.Runs.{IsSerialized}
use Rattle.machine_steps.proofs.Lemmas.{serialized}
use Rattle.machine_log.specs.Logs.{ReservedLogModel}
use Rattle.machine_log.proofs.Taking.{kept_home}
use Rattle.machine_log.proofs.reserved.ReservedLog.machine.Goals as goal

pub returns-clause-explained : goal.returns-clause-explained
returns-clause-explained c =
    let k = c.self.invariant in
    subst (λ (l : ReservedLogModel). IsSerialized l.log.opening l.log.steps l.log.machine) c.self.view_is
    (serialized c.self.inside.opening.value c.self.inside.steps.items c.self.inside.machine k.opens k.idle k.sound k.replay.run)

pub returns-clause-home : goal.returns-clause-home
returns-clause-home c = kept_home _ c.self.invariant
