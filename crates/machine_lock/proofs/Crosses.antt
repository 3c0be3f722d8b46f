-- What may cross threads, part by part, because a search through all of it runs out of steps.
use Rattle.std.proofs.Crossing.{crosses}
use denote.RattleType.{RattleType}
use denote.Param.Send.{IsSend, IsSync, sendable}
use Rattle.ghost_map.specs.declared.rule.Naming as naming
use Rattle.ghost_map.specs.contracts.authority.Authority as Authority
use Rattle.ghost_map.proofs.authority.Authority.TheSendSync as authority
use Rattle.hart.proofs.processor.Core.TheSendSync as core
use Rattle.machine_steps.proofs.machine.Machine.TheSendSync as machine
use Rattle.steps.proofs.step.Step.TheSendSync as step
use Rattle.machine_log.specs.contracts.lending.Lending as Lending
use Rattle.machine_log.specs.contracts.lent.Lent as Lent
use Rattle.machine_lock.specs.declared.run.Run as run
use Rattle.machine_lock.specs.contracts.row.PassState as PassState
use Rattle.machine_lock.specs.contracts.locked_state.LockedState as LockedState
use Rattle.machine_lock.specs.contracts.shared.Shared as Shared

pub Lent-send : IsSend Lent.the_row
Lent-send = search (crosses, sendable, core.the_send) depth 20

pub Lending-send : IsSend Lending.the_row
Lending-send = let a = Lent-send in search (crosses, sendable, core.the_send, machine.the_send, step.the_send) depth 20

module _ (N : RattleType) (r : run.Ghosts N.Denot) (n : naming.Ghosts N.Denot) where
  pub Authority-send : IsSend N → IsSend (Authority.the_row PassState.the_row N n)
  Authority-send s = search (crosses, sendable, authority.the_send) depth 20

  pub LockedState-send : IsSend N → IsSend (LockedState.the_row N r n)
  LockedState-send s = let a = Lending-send in let b = Authority-send s in search (crosses, sendable) depth 20

  pub Shared-sync : IsSend N → IsSync (Shared.the_row N r n)
  Shared-sync s = let a = LockedState-send s in search (crosses, sendable) depth 20
