-- Why the steps of a way are not taken.
use Rattle.std.specs.Prelude.{ℕ}
use Rattle.flat_machine.specs.declared.config.Config.{Config}
use Rattle.machine_log.specs.declared.refusal.LockRefusal.{LockRefusal}
use Rattle.machine_log.specs.declared.refusal.LockRefusal.TheVariants as log
use Rattle.command_io.specs.declared.fault.Fault.{Fault}
use Rattle.command_io.specs.declared.fault.Fault.TheVariants as fault
use Rattle.command_io.specs.Files.{IsFaultOfSize}
use Rattle.exploration.specs.state_graph.declared.termination.Termination.{Termination}
use Rattle.witness_traces.specs.declared.refused.Refused.{Refused}
use Rattle.witness_traces.specs.declared.refused.Refused.TheVariants as refused
use Rattle.witness_traces.specs.Refusals.{IsNoWitness, IsNotTaken, IsOfSteps, refused_by_log}

-- If a log refuses a step, the steps are not taken, for the same reason.
pub log_refuses : (e : LockRefusal) → IsOfSteps (refused_by_log e)
log_refuses log.Memory = tt
log_refuses log.Full = tt
log_refuses log.Unnamed = tt
log_refuses log.NotFree = tt

-- If steps are not taken, those of a way are not, for the same reason.
pub steps_refuse : (c : Config) (r : Refused) → IsOfSteps r → IsNotTaken c r
steps_refuse c (refused.Fault (fault.Line number)) why = why
steps_refuse c (refused.Fault (fault.Text e)) why = why
steps_refuse c (refused.Fault fault.NotUtf8) why = why
steps_refuse c (refused.Fault (fault.Image e)) why = why
steps_refuse c (refused.Fault (fault.Trace e)) why = why
steps_refuse c (refused.Fault fault.Size) why = absurd why
steps_refuse c (refused.Fault (fault.Stalled place)) why = why
steps_refuse c (refused.Fault fault.Budget) why = why
steps_refuse c (refused.Fault fault.Full) why = why
steps_refuse c (refused.Fault fault.Loan) why = why
steps_refuse c (refused.Fault fault.Start) why = why
steps_refuse c (refused.Fault fault.States) why = why
steps_refuse c (refused.Fault fault.Alone) why = why
steps_refuse c (refused.Fault fault.Link) why = why
steps_refuse c (refused.Fault fault.Memory) why = why
steps_refuse c refused.Unknown why = why
steps_refuse c refused.Missed why = why

-- If there is no machine, the steps of a way are not taken, for the same fault.
pub size_refuses : (c : Config) (f : Fault) → IsFaultOfSize c f → IsNotTaken c (refused.Fault f)
size_refuses c (fault.Line number) why = absurd why
size_refuses c (fault.Text e) why = absurd why
size_refuses c fault.NotUtf8 why = absurd why
size_refuses c (fault.Image e) why = absurd why
size_refuses c (fault.Trace e) why = absurd why
size_refuses c fault.Size why = why
size_refuses c (fault.Stalled place) why = absurd why
size_refuses c fault.Budget why = absurd why
size_refuses c fault.Full why = absurd why
size_refuses c fault.Loan why = absurd why
size_refuses c fault.Start why = absurd why
size_refuses c fault.States why = absurd why
size_refuses c fault.Alone why = absurd why
size_refuses c fault.Link why = absurd why
size_refuses c fault.Memory why = tt

-- If the steps of a way are not taken, there is no witness, for the same reason.
pub not_taken : (c : Config) (results : ℕ) (termination : Termination) (number : ℕ) (r : Refused) → IsNotTaken c r →
    IsNoWitness c results termination number r
not_taken c results termination number (refused.Fault f) why = why
not_taken c results termination number refused.Unknown why = absurd why
not_taken c results termination number refused.Missed why = tt
